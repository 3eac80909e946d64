use Rattle.std.proofs.Common.{◌≡◌, ◌+◌, ◌<◌, ℕ, List, map, length, drop, get_or, ap, ◌∙◌, sym}
use Rattle.std.proofs.lemmas.List.{at_drop_more}
use Rattle.clap.specs.Words.{App, new_app, with_rule}
use Rattle.command_line.specs.Tasks.{app_for}
use Rattle.command_line.specs.Rules.{rule_of_value, with_rules}
use Rattle.command_line.specs.declared.commands.Value.{Value}
use Rattle.command_line.proofs.commands.command_of.Goals as goal

pub loop-value-init : goal.loop-value-init
unfolding app_for
loop-value-init c =
    ap (λ app. with_rules app (map rule_of_value c.values-value-items.result.now)) (c.new-command.ensures.app ∙ ap new_app c.word.ensures)
    ∙ ap (with_rules _) c.values-value-items.ensures

one_more : (values : List Value) (i : ℕ) (app more whole : App) (none : Value) → i < length values → more ≡ with_rule app (rule_of_value (get_or values i none)) → with_rules app (map rule_of_value (drop i values)) ≡ whole → with_rules more (map rule_of_value (drop (i + 1) values)) ≡ whole
one_more values i app more whole none within is h =
    ap (λ a. with_rules a (map rule_of_value (drop (i + 1) values))) is
    ∙ sym (at_drop_more (λ vs. with_rules app (map rule_of_value vs)) values i none within) ∙ h

pub loop-value-preserved : goal.loop-value-preserved
loop-value-preserved c =
    one_more c.values-value-items.result.now c.loop-value.value-index _ _ _ _ c.loop-value-test.true c.in_ok-command.ensures c.loop-value.invariant
