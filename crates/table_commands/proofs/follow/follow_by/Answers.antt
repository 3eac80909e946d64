use Rattle.std.proofs.Common.{Some, sym, ◌∙◌}
use Rattle.answer_parts.proofs.PrintLaws.{does_so}
use Rattle.table_commands.specs.Follow.{FollowsBy, FollowsInFolder}
use Rattle.table_commands.proofs.follow.follow_by.Goals as goal

pub returns-in-Some-clause-made : goal.returns-in-Some-clause-made
returns-in-Some-clause-made g c =
    let o = g.S.System.outside c.args.system.now in
    let asked = sym c.read_when_asked.ensures ∙ c.in-Some.is in
    let told = c.manifest.ensures in
    rw asked (does_so o _ _ (FollowsInFolder o.disk o.input c.in-Some.path.now c.manifest.result.now c.args.game.now) (FollowsBy o.disk o.input c.args.sources.now (Some c.in-Some.path) c.args.game.now) c.follow_in.result (λ events status h. (c.manifest.result.now, told, h)) c.follow_in.ensures.made)

pub returns-in-None-clause-made : goal.returns-in-None-clause-made
returns-in-None-clause-made g c =
    let asked = sym c.read_when_asked.ensures ∙ c.in-None.is in
    rw asked c.follow_by_all.ensures.made
