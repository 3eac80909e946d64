-- Whether a line feed is among bytes.
use Rattle.std.proofs.Common.{◌≡◌, ◌<◌, ◌==◌, ◌∷◌, [], ℕ, Bool, true, false, List, ap, arith, cond, eq-eqb, eqb-true, get_or, length, refl, suc, sym, zero}
use Rattle.std.specs.Prelude.{◌↔◌, IsTrue}
use Rattle.std.specs.List.{Contains}
use Rattle.std.proofs.lemmas.Bool.{false≢true}
use Rattle.timeline.specs.Events.{has_line_feed}

either_true : (t x : Bool) → x ≡ true → cond t true x ≡ true
either_true true x e = refl
either_true false x e = e

feed_at : (bytes : List ℕ) (k : ℕ) → k < length bytes → get_or bytes k 10 ≡ 10 → has_line_feed bytes ≡ true
feed_at [] k lt e = absurd (omega arith)
feed_at (byte ∷ bytes) zero lt e = ap (λ (t : Bool). cond t true (has_line_feed bytes)) (eq-eqb byte 10 e)
feed_at (byte ∷ bytes) (suc k) lt e = either_true (byte == 10) (has_line_feed bytes) (feed_at bytes k (omega arith) e)

split : (t : Bool) (byte : ℕ) (bytes : List ℕ) → (byte == 10) ≡ t → cond t true (has_line_feed bytes) ≡ true → (has_line_feed bytes ≡ true → Contains bytes 10) → Contains (byte ∷ bytes) 10
split true byte bytes is h rest = (0, omega arith, eqb-true byte 10 is)
split false byte bytes is h rest = let there = rest h in let lt = there.1 in (suc there.0, omega arith, there.2)

feed_there : (bytes : List ℕ) → has_line_feed bytes ≡ true → Contains bytes 10
feed_there [] h = absurd (false≢true h)
feed_there (byte ∷ bytes) h = split (byte == 10) byte bytes refl h (feed_there bytes)

false_so : (t : Bool) → (t ≡ true → ⊥) → false ≡ t
false_so true n = absurd (n refl)
false_so false n = refl

pub feed_is : (bytes : List ℕ) (r : Bool) → (IsTrue r ↔ Contains bytes 10) → r ≡ has_line_feed bytes
feed_is bytes true h = let there = h.0 refl in sym (feed_at bytes there.0 there.1 there.2)
feed_is bytes false h = false_so (has_line_feed bytes) (λ e. false≢true (h.1 (feed_there bytes e)))
