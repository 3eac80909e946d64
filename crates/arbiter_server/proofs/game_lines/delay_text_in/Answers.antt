use Rattle.std.proofs.Common.{◌≡◌, ℕ, List, arith}
use Rattle.std.specs.Prelude.{Option, Some, None, IfNone, IfSome, codes}
use Rattle.std.specs.Borrow.{Bor}
use Rattle.std.specs.Fmt.{decimal}
use Rattle.arbiter_server.specs.GameFiles.{HasDelay}
use Rattle.arbiter_server.specs.Inside.ValueLines.{StartsLine}
use Rattle.arbiter_server.proofs.OneLines.{number_one}
use Rattle.arbiter_server.proofs.game_lines.delay_text_in.Goals as goal

only_by : (text : List ℕ) (r : Option (Bor (List ℕ) × Bor (List ℕ))) → IfSome r (λ x. (value rest : List ℕ) → StartsLine (codes "delay ") text value rest → (value ≡ x.0.now) × (rest ≡ x.1.now)) → IfSome r (λ x. (delay : ℕ) (rest : List ℕ) → HasDelay text delay rest → decimal delay ≡ x.0.now)
only_by text None h = tt
only_by text (Some x) h = λ delay rest has. (h (decimal delay) rest (record { has = has.1; one = number_one delay (omega (arith, has.0)) })).0

none_by : (text : List ℕ) (r : Option (Bor (List ℕ) × Bor (List ℕ))) → IfNone r ((value rest : List ℕ) → StartsLine (codes "delay ") text value rest → ⊥) → IfNone r ((delay : ℕ) (rest : List ℕ) → HasDelay text delay rest → ⊥)
none_by text None h = λ delay rest has. h (decimal delay) rest (record { has = has.1; one = number_one delay (omega (arith, has.0)) })
none_by text (Some x) h = tt

pub returns-clause-only : goal.returns-clause-only
returns-clause-only c = only_by c.args.text.now c.value_after.result c.value_after.ensures.only

pub returns-clause-none : goal.returns-clause-none
returns-clause-none c = none_by c.args.text.now c.value_after.result c.value_after.ensures.none
