use Rattle.std.proofs.Common.{◌≡◌, ◌≤◌, ◌∙◌, ◌+◌, ◌∷◌, [], ℕ, List, sym, ap, arith}
use Rattle.std.specs.Prelude.{Option, Some, None, IfNone, IfSome}
use Rattle.std.specs.Fmt.{decimal}
use Rattle.board_core.specs.Delays.{most_delay}
use Rattle.arbiter_server.proofs.Digits.{delay_digit, digit_is, digit_long, single}
use Rattle.arbiter_server.proofs.game_lines.delay_of_digit.Goals as goal

pub returns-then-text-ne1-clause-none : goal.returns-then-text-ne1-clause-none
returns-then-text-ne1-clause-none c = λ delay le e. absurd (omega (arith, c.if-text-ne1.true, digit_long delay c.args.text.now le e))

none_by : (byte : ℕ) (text : List ℕ) → text ≡ byte ∷ [] → (r : Option ℕ) → IfNone r ((delay : ℕ) → delay ≤ most_delay → byte ≡ 48 + delay → ⊥) → IfNone r ((delay : ℕ) → delay ≤ most_delay → text ≡ decimal delay → ⊥)
none_by byte text is None none = λ delay le e. none delay le (digit_is delay byte text le e is)
none_by byte text is (Some x) none = tt

some_by : (byte : ℕ) (text : List ℕ) → text ≡ byte ∷ [] → (r : Option ℕ) → IfSome r (λ delay. (delay ≤ most_delay) × (byte ≡ 48 + delay)) → IfSome r (λ delay. (delay ≤ most_delay) × (text ≡ decimal delay))
some_by byte text is None h = tt
some_by byte text is (Some delay) h = (h.0, is ∙ ap (λ (b : ℕ). b ∷ []) h.1 ∙ sym (delay_digit delay h.0))

pub returns-clause-none : goal.returns-clause-none
returns-clause-none c = none_by _ c.args.text.now (single c.args.text.now c.if-text-ne1.false) c.delay_by.result c.delay_by.ensures.none

pub returns-clause-some : goal.returns-clause-some
returns-clause-some c = some_by _ c.args.text.now (single c.args.text.now c.if-text-ne1.false) c.delay_by.result c.delay_by.ensures.some
