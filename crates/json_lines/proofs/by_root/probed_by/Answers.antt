use Rattle.std.proofs.Common.{◌∙◌, Ok, ap, rules, sym, w32}
use Rattle.std.proofs.lemmas.Int.{to_z-of_z}
use mir.Val.{SFits}
use Rattle.json_lines.specs.Inside.Playing.{distance_after}
use Rattle.json_lines.proofs.ByRoot.{tells_after}
use Rattle.json_lines.proofs.by_root.probed_by.Goals as goal

pub returns-in-Ok-Ok : goal.returns-in-Ok-Ok
returns-in-Ok-Ok c =
    let before : SFits w32 c.in-Ok-Ok.dtz = search rules in
    let wdl : SFits w32 c.value_after.result = search rules in
    let dtz : SFits w32 c.distance_after.result = search rules in
    let after = c.distance_after.ensures ∙ ap distance_after (to_z-of_z w32 c.in-Ok-Ok.dtz before) in
    tells_after c.args.root.now c.in-Ok-Ok.wdl c.in-Ok-Ok.dtz c.value_after.result c.probed_as.result (sym c.zeroes_clock.ensures ∙ c.if-zeroes_clock.false) (sym c.is_checkmate.ensures ∙ c.if-is_checkmate.false)
    c.in-Ok-Ok.is-0 c.in-Ok-Ok.is-1 c.value_after.ensures
    (c.probed_as.ensures ∙ (λ i. record { wdl = Ok (to_z-of_z w32 c.value_after.result wdl i); dtz = Ok ((to_z-of_z w32 c.distance_after.result dtz ∙ after) i) }))
