-- The first verdict in plain words, and what it depends on.
use Rattle.std.proofs.Common.{◌≡◌, ◌∙◌, sym, ap, subst, refl, ℕ, zero, suc, ◌-◌, ◌<◌, ◌≤◌, Bool, true, false, cond, ◌&&◌, ◌||◌, List, [], ◌∷◌, ◌++◌, length, take, Option, Some, None, inl, inr, arith, ⊎_elim}
use Rattle.std.specs.Prelude.{nat_le, fold, IsSome, ◌↔◌}
use Rattle.std.specs.Option.{option_and_then}
use Rattle.std.proofs.lemmas.Bool.{cases_lt, and_parts, and_from, or_cases, or_left, or_right, eq-eqb, leb-true, le-leb, cond-true}
use Rattle.std.proofs.lemmas.List.{take-take, length-take, length-take-le}
use Rattle.std.proofs.lemmas.List.Sums.{fold-append}
use Rattle.board_core.specs.declared.parts.Parts.{Parts}
use Rattle.board_core.specs.declared.moves.Move.{Move}
use Rattle.board_core.specs.declared.verdict.Verdict.{Verdict}
use Rattle.board_core.specs.ComputedMoves.{position_after}
use Rattle.board_core.specs.Verdicts.{verdict_code}
use Rattle.judge_core.specs.Games.{Rules, position_after_all, judged_after, is_end, is_judged, has_stood, verdict_by, verdict_after, IsFirst}
use Rattle.judge_core.specs.Laws.{IsRuledAt, IsLeastRuled}
use Rattle.judge_core.proofs.StoodPlies.{judged_so, none_stood}

-- ---- the verdict at a ply

so_judged : (o : Option Verdict) (v : Verdict) → o ≡ Some v → is_judged o v ≡ true
so_judged o v e = ap (λ x. is_judged x v) e ∙ eq-eqb (verdict_code v) (verdict_code v) refl

module _ (r : Rules) (ms : List Move) (v : Verdict) where
  -- the ruling so many plies before the last one
  abbrev back : ℕ → Option Verdict
  back i = judged_after r.tables r.start (take (length ms - i) ms)

  stood_back : (d : ℕ) → has_stood r ms v d ≡ true → (i : ℕ) → 1 ≤ i → i ≤ d → back i ≡ Some v
  unfolding has_stood
  stood_back zero h i lo hi = absurd (omega arith)
  stood_back (suc d) h i lo hi =
      let both = and_parts (has_stood r ms v d) (is_judged (back (suc d)) v) h in
      ⊎_elim
      (λ (lt : i < suc d). stood_back d both.0 i lo (omega arith))
      (λ (ge : suc d ≤ i). let e : suc d ≡ i = omega arith in ap back (sym e) ∙ judged_so (back (suc d)) v both.1)
      (cases_lt i (suc d))

  back_stood : (d : ℕ) → ((i : ℕ) → 1 ≤ i → i ≤ d → back i ≡ Some v) → has_stood r ms v d ≡ true
  unfolding has_stood
  back_stood zero h = none_stood r ms v
  back_stood (suc d) h = and_from (has_stood r ms v d) (is_judged (back (suc d)) v) (back_stood d (λ i lo hi. h i lo (omega arith))) (so_judged (back (suc d)) v (h (suc d) (omega arith) (omega arith)))

  by_own : (o : Option Verdict) (w : Verdict) → verdict_by r ms o ≡ Some w → (o ≡ Some w) × ((is_end w || (nat_le r.delay (length ms) && has_stood r ms w r.delay)) ≡ true)
  by_own None w e = absurd (let f : None ≡ Some w = e in cc)
  by_own (Some u) w e = by_cases (is_end u || (nat_le r.delay (length ms) && has_stood r ms u r.delay)) refl
    where
      by_cases : (b : Bool) → (is_end u || (nat_le r.delay (length ms) && has_stood r ms u r.delay)) ≡ b → (Some u ≡ Some w) × ((is_end w || (nat_le r.delay (length ms) && has_stood r ms w r.delay)) ≡ true)
      by_cases true is =
          let f : Some u ≡ Some w = sym (cond-true (is_end u || (nat_le r.delay (length ms) && has_stood r ms u r.delay)) (Some u) None is) ∙ e in
          let g : u ≡ w = cc in
          (f, subst (λ x. (is_end x || (nat_le r.delay (length ms) && has_stood r ms x r.delay)) ≡ true) g is)
      by_cases false is = absurd (let f : None ≡ Some w = ap (λ b. cond b (Some u) None) (sym is) ∙ e in cc)

module _ (r : Rules) (moves : List Move) (k : ℕ) (v : Verdict) (within : k ≤ length moves) where
  size : length (take k moves) ≡ k
  size = length-take-le k moves within

  place : (i : ℕ) → take (length (take k moves) - i) (take k moves) ≡ take (k - i) moves
  place i = ap (λ n. take (n - i) (take k moves)) size ∙ take-take (k - i) k moves (omega arith)

  pub in_words : verdict_after r (take k moves) ≡ Some v → IsRuledAt r moves k v
  unfolding verdict_after
  in_words h =
      let own = by_own r (take k moves) v (judged_after r.tables r.start (take k moves)) v h in
      record {
        ruling = own.0;
        holds = elim (or_cases (is_end v) (nat_le r.delay (length (take k moves)) && has_stood r (take k moves) v r.delay) own.1) [
          | inl ends ↦ inl ends
          | inr stood ↦ (
              let both = and_parts (nat_le r.delay (length (take k moves))) (has_stood r (take k moves) v r.delay) stood in
              let le : r.delay ≤ k = subst (λ n. r.delay ≤ n) size (leb-true r.delay (length (take k moves)) both.0) in
              inr (
                le,
                λ j lo hi. ⊎_elim
                    (λ (lt : j < k).
                    let e : k - (k - j) ≡ j = omega arith in
                    ap (λ n. judged_after r.tables r.start (take n moves)) (sym e) ∙ ap (judged_after r.tables r.start) (sym (place (k - j)))
                    ∙ stood_back r (take k moves) v r.delay both.1 (k - j) (omega arith) (omega arith))
                    (λ (ge : k ≤ j). let e : j ≡ k = omega arith in ap (λ n. judged_after r.tables r.start (take n moves)) e ∙ own.0)
                    (cases_lt j k),
              ))
        ];
      }

  pub from_words : IsRuledAt r moves k v → verdict_after r (take k moves) ≡ Some v
  unfolding verdict_after
  from_words h =
      let enough : (is_end v || (nat_le r.delay (length (take k moves)) && has_stood r (take k moves) v r.delay)) ≡ true = elim h.holds [
        | inl ends ↦ or_left (is_end v) _ ends
        | inr held ↦ or_right (is_end v) (nat_le r.delay (length (take k moves)) && has_stood r (take k moves) v r.delay)
            (and_from (nat_le r.delay (length (take k moves))) (has_stood r (take k moves) v r.delay)
            (le-leb r.delay (length (take k moves)) (subst (λ n. r.delay ≤ n) (sym size) held.0))
            (back_stood r (take k moves) v r.delay (λ i lo hi.
            let le = held.0 in
            ap (judged_after r.tables r.start) (place i) ∙ held.1 (k - i) (omega arith) (omega arith))))
      ] in
      ap (verdict_by r (take k moves)) h.ruling ∙ cond-true (is_end v || (nat_le r.delay (length (take k moves)) && has_stood r (take k moves) v r.delay)) (Some v) None enough

none_unless : (o : Option Verdict) → ((v : Verdict) → o ≡ Some v → ⊥) → o ≡ None
none_unless None h = refl
none_unless (Some v) h = absurd (h v refl)

pub first_in_words : (r : Rules) (moves : List Move) (k : ℕ) (v : Verdict) → IsFirst r moves k v ↔ IsLeastRuled r moves k v
first_in_words r moves k v = (
  (λ (h : IsFirst r moves k v).
      let le = h.within in
      record {
        within = le;
        legal = h.legal;
        ruled = in_words r moves k v le h.ruled;
        least = λ j w lt at. let e : Some w ≡ None = sym (from_words r moves j w (omega arith) at) ∙ h.unruled j lt in let f : ⊥ = cc in f;
      }),
  (λ (h : IsLeastRuled r moves k v).
      let le = h.within in
      record {
        within = le;
        legal = h.legal;
        ruled = from_words r moves k v le h.ruled;
        unruled = λ j lt. none_unless (verdict_after r (take j moves)) (λ w e. h.least j w lt (in_words r moves j w (omega arith) e));
      }),
)

-- ---- what it depends on

pub looks_back : (r : Rules) (moves others : List Move) (k : ℕ) (v : Verdict) → take k moves ≡ take k others → IsFirst r moves k v → IsFirst r others k v
looks_back r moves others k v same h =
    let le = h.within in
    record {
      within = omega (arith, length-take-le k moves le, length-take k others, ap length same);
      legal = subst (λ (ms : List Move). IsSome (position_after_all r.start ms)) same h.legal;
      ruled = ap (verdict_after r) (sym same) ∙ h.ruled;
      unruled = λ j lt. ap (verdict_after r) (sym (take-take j k others (omega arith)) ∙ ap (take j) (sym same) ∙ take-take j k moves (omega arith)) ∙ h.unruled j lt;
    }

-- ---- illegal moves

none_on : (more : List Move) → fold (λ position m. option_and_then (λ p. position_after p m) position) None more ≡ None
none_on [] = refl
none_on (m ∷ more) = none_on more

pub stays_illegal : (start : Parts) (moves more : List Move) → position_after_all start moves ≡ None → position_after_all start (moves ++ more) ≡ None
unfolding position_after_all
stays_illegal start moves more e =
    fold-append (λ position m. option_and_then (λ p. position_after p m) position) (Some start) moves more
    ∙ ap (λ (o : Option Parts). fold (λ position m. option_and_then (λ p. position_after p m) position) o more) e ∙ none_on more
