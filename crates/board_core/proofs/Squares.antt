-- Squares, one more.
use Rattle.std.proofs.Common.{◌≡◌, ◌∙◌, sym, ap, refl, subst, ℕ, zero, suc, ◌+◌, Bool, true, false, ◌||◌, List, Option, arith}
use Rattle.std.specs.List.{list_any, range_with_len}
use Rattle.board_core.specs.declared.piece.Piece.{Piece}
use Rattle.board_core.specs.declared.piece.Kind.{Kind}
use Rattle.board_core.specs.Attack.{man_at}
use Rattle.board_core.specs.Inside.Material.{stands_below}
use Rattle.board_core.specs.Ends.{is_man}

or_none : (a : Bool) → (a || false) ≡ a
or_none true = refl
or_none false = refl

or_later : (a b c : Bool) → (a || (b || c)) ≡ ((a || b) || c)
or_later true b c = refl
or_later false b c = refl

any_more : (test : ℕ → Bool) (n from j : ℕ) → from + n ≡ j → list_any test (range_with_len from (suc n)) ≡ (list_any test (range_with_len from n) || test j)
any_more test zero from j e = (let same : from ≡ j = omega (arith, e) in or_none (test from) ∙ ap test same)
any_more test (suc n) from j e =
    ap (λ b. test from || b) (any_more test n (from + 1) j (omega (arith, e))) ∙ or_later (test from) (list_any test (range_with_len (from + 1) n)) (test j)

pub one_more : (test : ℕ → Kind → Bool) (men : List (Option Piece)) (s : ℕ) (found here : Bool) → found ≡ stands_below test men s → here ≡ is_man (test s) (man_at men s) → (found || here) ≡ stands_below test men (s + 1)
one_more test men s found here a b =
    let e : suc s ≡ s + 1 = omega arith in
    subst (λ n. (found || here) ≡ stands_below test men n) e (rw (a, b) (sym (any_more (λ k. is_man (test k) (man_at men k)) s 0 s (omega arith))))

pub all_squares : (test : ℕ → Kind → Bool) (men : List (Option Piece)) (s : ℕ) (found : Bool) → found ≡ stands_below test men s → s ≡ 64 → found ≡ stands_below test men 64
all_squares test men s found a e = a ∙ ap (stands_below test men) e
