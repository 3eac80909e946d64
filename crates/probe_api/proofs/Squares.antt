-- The squares of men who pass a test, found from the last square on.
use Rattle.std.proofs.Common.{ℕ, zero, suc, ◌≡◌, ◌<◌, ◌+◌, ◌-◌, ◌*◌, ◌^◌, List, [], ◌∷◌, Option, None, Bool, true, false, cond, length, drop, refl, sym, ap, subst, ◌∙◌, arith}
use native.Mathlib.Nat.{pow-suc}
use mir.Val.{bool_byte}
use Rattle.std.proofs.Math.ListN.{drop_of_length-le}
use Rattle.board_core.specs.declared.piece.Piece.{Piece}
use Rattle.board_core.specs.Attack.{man_at}
use Rattle.board_core.specs.Sides.{squares_where}
use Rattle.probe_api.specs.declared.after.Sought.{Sought}
use Rattle.probe_api.specs.declared.after.Sought.TheVariants.{Side as OfSide, Kind as OfKind}
use Rattle.probe_api.specs.Inside.{shows}

-- a square and those after it
next : (test : Option Piece → Bool) → test None ≡ false → (men : List (Option Piece)) (n : ℕ) → squares_where test (drop n men) ≡ cond (test (man_at men n)) 1 0 + 2 * squares_where test (drop (suc n) men)
unfolding squares_where
next test none [] zero = rw none refl
next test none [] (suc n) = rw none refl
next test none (man ∷ others) zero = refl
next test none (man ∷ others) (suc n) = next test none others n

one_more : (b : Bool) (n k : ℕ) → n < 2 ^ k → 2 * n + cond b 1 0 < 2 ^ suc k
one_more true n k lt = omega (arith, pow-suc 2 k, lt)
one_more false n k lt = omega (arith, pow-suc 2 k, lt)

-- of so many squares, the last ones, those are found whose men pass the test
pub record AreFound (test : Option Piece → Bool) (men : List (Option Piece)) (place bits : ℕ) : Type 0 where
  pub is : bits ≡ squares_where test (drop (64 - place) men)
  pub few : bits < 2 ^ place

pub none_found : (test : Option Piece → Bool) (men : List (Option Piece)) → length men ≡ 64 → AreFound test men 0 0
unfolding squares_where
none_found test men long = record {
  is = sym (ap (squares_where test) (drop_of_length-le men {i = 64} (omega (arith, long))));
  few = omega arith;
}

pub next_found : (test : Option Piece → Bool) → test None ≡ false → (men : List (Option Piece)) (place bits : ℕ) → place < 64 → AreFound test men place bits
    → AreFound test men (place + 1) (2 * bits + cond (test (man_at men (63 - place))) 1 0)
next_found test none men place bits low so =
    let e : suc (63 - place) ≡ 64 - place = omega (arith, low) in let f : 64 - (place + 1) ≡ 63 - place = omega (arith, low) in let g : suc place ≡ place + 1 = omega arith in
    record {
      is = let both : squares_where test (drop (63 - place) men) ≡ cond (test (man_at men (63 - place))) 1 0 + 2 * bits = next test none men (63 - place) ∙ ap (λ n. cond (test (man_at men (63 - place))) 1 0 + 2 * squares_where test (drop n men)) e ∙ ap (λ n. cond (test (man_at men (63 - place))) 1 0 + 2 * n) (sym so.is) in
          let h : 2 * bits + cond (test (man_at men (63 - place))) 1 0 ≡ squares_where test (drop (63 - place) men) = omega (arith, both) in h ∙ ap (λ n. squares_where test (drop n men)) (sym f);
      few = subst (λ n. 2 * bits + cond (test (man_at men (63 - place))) 1 0 < 2 ^ n) g (one_more (test (man_at men (63 - place))) bits place so.few);
    }

pub all_found : (test : Option Piece → Bool) (men : List (Option Piece)) (place bits : ℕ) → place ≡ 64 → AreFound test men place bits → bits ≡ squares_where test men
all_found test men place bits end so = so.is ∙ ap (λ n. squares_where test (drop n men)) (let e : 64 - place ≡ 0 = omega (arith, end) in e)

-- where nothing stands, nobody does who is sought
pub none_shown : (sought : Sought) → shows sought None ≡ false
none_shown (OfSide side) = refl
none_shown (OfKind kind) = refl

pub as_cond : (b : Bool) → bool_byte b ≡ cond b 1 0
as_cond true = refl
as_cond false = refl
