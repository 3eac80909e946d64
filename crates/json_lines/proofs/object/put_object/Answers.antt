use Rattle.std.proofs.lemmas.Result.{on_ok_weaker}
use Rattle.json_lines.proofs.Whole.{some_object_written}
use Rattle.json_lines.proofs.object.put_object.Goals as goal

pub returns : goal.returns
returns g c = on_ok_weaker c.put_end.result (λ h. some_object_written c.args.members.now _ _ _ _ c.requires c.in_ok-put_begin.ensures c.in_ok-put_members.ensures h) c.put_end.ensures
