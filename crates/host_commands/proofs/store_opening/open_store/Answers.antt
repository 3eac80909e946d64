use Rattle.std.proofs.Common.{◌∙◌, ℕ, List, subst}
use Rattle.timeline.specs.Outsides.{AddsSome}
use Rattle.host_commands.specs.Imports.{OpensStore}
use Rattle.host_commands.specs.Notes.{in_words}
use Rattle.host_commands.proofs.store_opening.open_store.Goals as goal

pub returns-in-Ok-clause-made : goal.returns-in-Ok-clause-made
returns-in-Ok-clause-made g c =
    let o = g.S.System.outside c.args.system.now in
    subst (λ (path : List ℕ). AddsSome o c.args.timeline.now c.store_at.new.timeline (OpensStore o path (in_words c.store_at.result))) (c.as_str.ensures.value ∙ c.in-Ok.ensures) c.store_at.ensures.made
