-- A game comes to one thing: what comes first rules out all else.
use Rattle.std.proofs.Common.{◌≡◌, ◌∙◌, sym, ap, refl, ℕ, zero, suc, ◌+◌, ◌-◌, ◌<◌, ◌≤◌, ◌⊎◌, List, length, take, get_or, Option, Some, None, is_some, IsSome, inl, inr, arith}
use Rattle.std.proofs.lemmas.Bool.{cases_lt, false≢true}
use Rattle.std.proofs.lemmas.List.{take_all, take_more}
use Rattle.board_core.specs.declared.parts.Parts.{Parts}
use Rattle.board_core.specs.declared.moves.Move.{Move}
use Rattle.board_core.specs.declared.verdict.Verdict.{Verdict}
use Rattle.judge_core.specs.declared.game.GameOutcome.{GameOutcome}
use Rattle.judge_core.specs.declared.game.GameOutcome.TheVariants.{Ruled, Illegal, Going}
use Rattle.judge_core.proofs.Plies.{goes_on}
use Rattle.judge_core.specs.Games.{Rules, position_after_all, verdict_after, IsFirst, IsIllegalAt, IsGoing, IsOutcome}

some_move : Move
some_move = record { from = 0; to = 0; promotion = None }

stays_none : (start : Parts) (moves : List Move) (i d : ℕ) → position_after_all start (take i moves) ≡ None → position_after_all start (take (i + d) moves) ≡ None
stays_none start moves i zero e = let same : i + zero ≡ i = omega arith in rw same e
stays_none start moves i (suc d) e = by_length (stays_none start moves i d e) (cases_lt (i + d) (length moves))
  where
    next : i + suc d ≡ i + d + 1
    next = omega arith

    by_length : position_after_all start (take (i + d) moves) ≡ None → (i + d < length moves) ⊎ (length moves ≤ i + d) → position_after_all start (take (i + suc d) moves) ≡ None
    by_length none (inl lt) = rw (next, take_more moves (i + d) some_move lt, goes_on start (take (i + d) moves) (get_or moves (i + d) some_move), none) refl
    by_length none (inr le) =
        let now : take (i + d) moves ≡ moves = take_all (i + d) moves le in
        let more : take (i + suc d) moves ≡ moves = take_all (i + suc d) moves (omega arith) in
        ap (position_after_all start) (more ∙ sym now) ∙ none

none_later : (start : Parts) (moves : List Move) (i k : ℕ) → i ≤ k → position_after_all start (take i moves) ≡ None → IsSome (position_after_all start (take k moves)) → ⊥
none_later start moves i k le none some =
    let same : i + (k - i) ≡ k = omega (arith, le) in
    let e = ap (λ n. position_after_all start (take n moves)) (sym same) ∙ stays_none start moves i (k - i) none in
    false≢true (sym (ap is_some e) ∙ some)

not_both : (o : Option Verdict) (v : Verdict) → o ≡ None → o ≡ Some v → ⊥
not_both o v a b = let e : None ≡ Some v = sym a ∙ b in cc

module _ (rules : Rules) (moves : List Move) where
  ruled_illegal : (k j : ℕ) (v : Verdict) → IsFirst rules moves k v → IsIllegalAt rules moves j → ⊥
  ruled_illegal k j v x y = elim (cases_lt k (j + 1)) [
    | inl lt ↦ not_both _ v (y.unruled k lt) x.ruled
    | inr le ↦ none_later rules.start moves (j + 1) k le y.illegal x.legal
  ]

  ruled_going : (k : ℕ) (v : Verdict) → IsFirst rules moves k v → IsGoing rules moves → ⊥
  ruled_going k v x y = not_both _ v (y.unruled k (let le = x.within in omega arith)) x.ruled

  illegal_going : (j : ℕ) → IsIllegalAt rules moves j → IsGoing rules moves → ⊥
  illegal_going j x y =
      let all : take (length moves) moves ≡ moves = take_all (length moves) moves (omega arith) in
      none_later rules.start moves (j + 1) (length moves) (let lt = x.within in omega arith) x.illegal (ap (λ ms. is_some (position_after_all rules.start ms)) all ∙ y.legal)

  one_ply : (k l : ℕ) (v w : Verdict) → IsFirst rules moves k v → IsFirst rules moves l w → Ruled k v ≡ Ruled l w
  one_ply k l v w x y = elim (cases_lt k l) [
    | inl lt ↦ absurd (not_both _ v (y.unruled k lt) x.ruled)
    | inr le ↦ elim (cases_lt l k) [
      | inl lt ↦ absurd (not_both _ w (x.unruled l lt) y.ruled)
      | inr ge ↦ (
          let same : k ≡ l = omega (arith, le, ge) in
          let e : Some v ≡ Some w = sym x.ruled ∙ ap (λ n. verdict_after rules (take n moves)) same ∙ y.ruled in
          let verdict : v ≡ w = cc in
          ap (λ n. Ruled n v) same ∙ ap (Ruled l) verdict)
    ]
  ]

  one_place : (i j : ℕ) → IsIllegalAt rules moves i → IsIllegalAt rules moves j → Illegal i ≡ Illegal j
  one_place i j x y = elim (cases_lt i j) [
    | inl lt ↦ absurd (none_later rules.start moves (i + 1) j (omega arith) x.illegal y.legal)
    | inr le ↦ elim (cases_lt j i) [
      | inl lt ↦ absurd (none_later rules.start moves (j + 1) i (omega arith) y.illegal x.legal)
      | inr ge ↦ (let same : i ≡ j = omega (arith, le, ge) in ap (λ n. Illegal n) same)
    ]
  ]

  pub one_outcome : (a b : GameOutcome) → IsOutcome rules moves a → IsOutcome rules moves b → a ≡ b
  one_outcome (Ruled k v) (Ruled l w) x y = one_ply k l v w x y
  one_outcome (Ruled k v) (Illegal j) x y = absurd (ruled_illegal k j v x y)
  one_outcome (Ruled k v) Going x y = absurd (ruled_going k v x y)
  one_outcome (Illegal i) (Ruled l w) x y = absurd (ruled_illegal l i w y x)
  one_outcome (Illegal i) (Illegal j) x y = one_place i j x y
  one_outcome (Illegal i) Going x y = absurd (illegal_going i x y)
  one_outcome Going (Ruled l w) x y = absurd (ruled_going l w y x)
  one_outcome Going (Illegal j) x y = absurd (illegal_going j y x)
  one_outcome Going Going x y = refl
