use Rattle.std.proofs.lemmas.Result.{on_ok_weaker}
use Rattle.json_lines.proofs.Pieces.{no_more, one_member}
use Rattle.json_lines.proofs.members.+put_members.Goals as goal

pub returns-in-None : goal.returns-in-None
returns-in-None g n c = no_more c.args.later c.args.members.now _ c.in-None.ensures.cases

pub returns-in-Ok : goal.returns-in-Ok
returns-in-Ok g n c = on_ok_weaker c.put_members.result (λ h. one_member c.args.later c.args.members.now c.in-Some.member.now c.in-Some.rest.now _ _ _ c.in-Some.ensures.cases c.in-Ok.ensures h) c.put_members.ensures
