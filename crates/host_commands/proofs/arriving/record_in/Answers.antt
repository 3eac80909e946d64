use Rattle.std.proofs.Common.{◌∙◌, ℕ, List, subst}
use Rattle.timeline.specs.Outsides.{AddsSome}
use Rattle.host_commands.proofs.LookLaws.{in_folder}
use Rattle.host_commands.specs.Inside.Importing.{ReadsRecord}
use Rattle.host_commands.proofs.arriving.record_in.Goals as goal

pub returns-in-Ok : goal.returns-in-Ok
returns-in-Ok g c =
    let o = g.S.System.outside c.args.system.now in
    in_folder o c.args.folder.now c.args.stamp _ _ c.record_at.result
    (subst (λ (path : List ℕ). AddsSome o c.args.timeline.now c.record_at.new.timeline (ReadsRecord o path c.args.stamp c.record_at.result)) (c.as_str.ensures.value ∙ c.in-Ok.ensures) c.record_at.ensures)
