use Rattle.std.proofs.Common.{◌≡◌, ◌∙◌, ℕ, List, None, subst, sym}
use Rattle.arbiter_server.specs.LineLogs.{line_kind}
use Rattle.arbiter_server.specs.Told.{line_words}
use Rattle.arbiter_server.proofs.Remembers.{picks_again, picks_other}
use Rattle.arbiter_server.proofs.line_log.pick_new.Goals as goal

pub returns-then-repeats : goal.returns-then-repeats
returns-then-repeats c = λ before had.
    let none : line_kind c.text-text.result.items ≡ None = subst (λ (t : List ℕ). line_kind t ≡ None) (sym c.text-text.ensures) c.requires in
    picks_again before (line_words c.args.line) c.text-text.result.items c.text-text.ensures c.args.lines.now c.repeats.new.self had none c.repeats.ensures.few c.repeats.ensures.counts c.if-repeats.ensures.lasts (sym c.repeats.ensures.is ∙ c.if-repeats.true)

pub returns-else-repeats : goal.returns-else-repeats
returns-else-repeats c = λ before had.
    let none : line_kind c.text-text.result.items ≡ None = subst (λ (t : List ℕ). line_kind t ≡ None) (sym c.text-text.ensures) c.requires in
    picks_other before (line_words c.args.line) c.text-text.result.items c.text-text.ensures c.args.lines.now c.repeats.new.self had none c.repeats.ensures.few c.repeats.ensures.counts c.if-repeats.ensures.lasts (sym c.repeats.ensures.is ∙ c.if-repeats.false) _ c.logged.ensures
