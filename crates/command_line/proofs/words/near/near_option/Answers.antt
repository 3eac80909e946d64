use Rattle.std.proofs.Common.{◌≡◌, ◌∙◌, true, false, sym}
use Rattle.command_line.proofs.NearLaws.{nearer_option}
use Rattle.command_line.proofs.words.near.near_option.Goals as goal
use Rattle.command_line.proofs.words.near.near_option.Goals.{in-Word, in_default}

pub loop-value-preserved : goal.loop-value-preserved
loop-value-preserved c =
    nearer_option c.args.name c.args.given.now c.values-value-items.result.now c.loop-value.value-index _ c.loop-value.best c.in-Ok.found c.values-value-items.ensures c.loop-value-test.true (λ word. elim c.match-matches.branch [ in-Word w ↦ absurd (let e : true ≡ false = sym w.matches-is ∙ c.if-matches.false in cc) | in_default w ↦ w.in_default.not-Word word ]) c.loop-value.invariant c.in-Ok.ensures
