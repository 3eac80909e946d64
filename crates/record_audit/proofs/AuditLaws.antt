-- Kept files that are audited.
use Rattle.std.proofs.Common.{◌≡◌, ◌≢◌, ◌∙◌, sym, ap, subst, refl, ℕ, ◌+◌, ◌<◌, ◌≤◌, Bool, true, false, ◌==◌, List, length, take, Option, Some, None, inl, inr, arith}
use Rattle.std.specs.Prelude.{is_some, min}
use Rattle.std.proofs.lemmas.Bool.{cases_lt, cond-true, cond-false, eqb-false, eq-eqb, ne_eqb}
use Rattle.std.proofs.lemmas.List.{take-take, take_all, length-take-le}
use Rattle.board_core.specs.declared.moves.Move.{Move}
use Rattle.board_core.specs.declared.parts.Parts.{Parts}
use Rattle.board_core.specs.declared.verdict.Verdict.{Verdict}
use Rattle.judge_core.specs.declared.game.GameOutcome.{GameOutcome}
use Rattle.judge_core.specs.declared.game.GameOutcome.TheVariants.{Ruled, Illegal, Going}
use Rattle.judge_core.specs.Games.{IsOutcome, Rules}
use Rattle.judge_core.specs.Tables.{Tables}
use Rattle.move_msg.specs.declared.stamp.Stamp.{Stamp}
use Rattle.move_msg.specs.declared.record_bytes.Record.{Record}
use Rattle.move_msg.specs.Records.{SpellsRecord}
use Rattle.arbiter_core.specs.Opens.{IsOfGame, IsResumed, IsWhole, at_end}
use Rattle.arbiter_core.proofs.Opened.{Ends, ends, from_whole, never, whole}
use Rattle.arbiter_core.specs.Recording.{Recorded}
use Rattle.arbiter_core.specs.Views.{spelled_as}
use Rattle.move_msg.proofs.RecordLaws.{one_record}
use Rattle.record_audit.specs.declared.auditing.Finding.{Finding}
use Rattle.record_audit.specs.declared.auditing.Finding.TheVariants as found
use Rattle.record_audit.specs.Findings.{AreCompared, AreOfOneGame, AreSameAt, IsFound, IsOfRecord, StopsAt, rules_with, verdict_at}
use Rattle.record_audit.specs.Inside.Auditing.{ArePartedAt, EndsPart, IsFoundBy, PartsAfter, stop_in}

-- ---- one record

some_not_none : {A : Type 0} (x : A) → Some x ≡ None → ⊥
some_not_none x e = let f : true ≡ false = ap is_some e in cc

-- where a move isn't taken the game doesn't get to its end
stops_early : (r : Rules) (ms : List Move) (o : GameOutcome) (place : ℕ) → IsOutcome r ms o → stop_in o (length ms) ≡ Some place → (at_end o (length ms) ≡ None) × StopsAt r ms place
stops_early r ms (Ruled ply verdict) place h e = by_cases (ply == length ms) refl
  where
    by_cases : (b : Bool) → (ply == length ms) ≡ b → (at_end (Ruled ply verdict) (length ms) ≡ None) × StopsAt r ms place
    by_cases true is = absurd (some_not_none place (sym (sym (cond-true (ply == length ms) None (Some ply) is) ∙ e)))
    by_cases false is =
        let same : ply ≡ place = let f : Some ply ≡ Some place = sym (cond-false (ply == length ms) None (Some ply) is) ∙ e in cc in
        let within = h.within in
        let other = eqb-false ply (length ms) is in
        let lt : ply < length ms = omega arith in (
          cond-false (ply == length ms) (Some (Some verdict)) None is,
          subst (StopsAt r ms) same (inr (verdict, h, lt)),
        )
stops_early r ms (Illegal at) place h e = (refl, inl (let same : at ≡ place = cc in subst (λ p. IsOutcome r ms (Illegal p)) same h))
stops_early r ms Going place h e = absurd (some_not_none place (sym e))

made : (s t : Stamp) (n k : ℕ) (v : Option Verdict) (ms : List Move) → s ≡ t → n ≡ k → ◌≡◌ {A = Record} (record { stamp = s; delay = n; verdict = v; moves = ms }) (record { stamp = t; delay = k; verdict = v; moves = ms })
made s t n k v ms es en = cc

-- over bytes that spell a record of the game
module _ (r : Rules) (stamp : Stamp) (bytes : List ℕ) (q : Record) (o : GameOutcome) (spelled : SpellsRecord bytes q) (out : IsOutcome r q.moves o) where
  same_kept : (kept : Recorded) → IsResumed r stamp bytes kept → Ends r q.moves q.verdict
  same_kept kept h =
      let same : kept ≡ record { moves = q.moves; verdict = q.verdict } = ap (λ (x : Record). record { moves = x.moves; verdict = x.verdict }) (sym (one_record bytes q (spelled_as stamp r.delay kept) spelled h.0)) in
      from_whole r (record { moves = q.moves; verdict = q.verdict }) (subst (IsWhole r) same h.1)

  -- its moves get to their end, and it has the verdict there
  resumed : IsOfGame r stamp q → at_end o (length q.moves) ≡ Some q.verdict → IsResumed r stamp bytes (record { moves = q.moves; verdict = q.verdict })
  resumed same e = (
    subst (SpellsRecord bytes) (made q.stamp stamp q.delay r.delay q.verdict q.moves same.0 same.1) spelled,
    whole r q.moves q.verdict (ends r q.moves o q.verdict out e),
  )

  -- they don't get there
  cut_short : at_end o (length q.moves) ≡ None → (kept : Recorded) → IsResumed r stamp bytes kept → ⊥
  cut_short e kept k = never r q.moves o out e (same_kept kept k).reached

  -- there is another verdict there
  other_verdict : (v : Option Verdict) → at_end o (length q.moves) ≡ Some v → q.verdict ≢ v → (kept : Recorded) → IsResumed r stamp bytes kept → ⊥
  other_verdict v e other kept k = other (sym (same_kept kept k).ruled ∙ (ends r q.moves o v out e).ruled)

-- what is found by what the moves come to
pub found_so : (r : Rules) (stamp : Stamp) (bytes : List ℕ) (q : Record) (o : GameOutcome) (finding : Finding) → SpellsRecord bytes q → IsOfGame r stamp q → IsOutcome r q.moves o → IsFoundBy o (length q.moves) q.verdict finding → IsFound r stamp bytes finding
found_so r stamp bytes q o (found.Whole count verdict) spelled same out h =
    (record { moves = q.moves; verdict = q.verdict }, resumed r stamp bytes q o spelled out same h.2, h.0, h.1)
found_so r stamp bytes q o (found.BadVerdict verdict) spelled same out h = (
  inr (q, spelled, same, other_verdict r stamp bytes q o spelled out verdict h.0 h.1),
  (q, spelled, same, (o, out, h.0), h.1),
)
found_so r stamp bytes q o (found.BadMoves place) spelled same out h =
    let stops = stops_early r q.moves o place out h in
    (inr (q, spelled, same, cut_short r stamp bytes q o spelled out stops.0), (q, spelled, same, stops.1))
found_so r stamp bytes q o (found.BadRecord fault) spelled same out h = absurd h
found_so r stamp bytes q o found.OtherStamp spelled same out h = absurd h

-- what is whole has the record's own number of moves and verdict
pub own_so : (q : Record) (o : GameOutcome) (finding : Finding) → IsFoundBy o (length q.moves) q.verdict finding → IsOfRecord q finding
own_so q o (found.Whole count verdict) h = (h.0, h.1)
own_so q o (found.BadVerdict verdict) h = tt
own_so q o (found.BadMoves place) h = tt
own_so q o (found.BadRecord fault) h = tt
own_so q o found.OtherStamp h = tt

-- a record of the game's stamp and delay is held to the game's rules
pub by_game : (start : Parts) (tables : Tables) (q : Record) (stamp : Stamp) (delay : ℕ) (bytes : List ℕ) (finding : Finding) → q.stamp ≡ stamp → q.delay ≡ delay → IsFound (rules_with start tables q) q.stamp bytes finding → IsFound (record { start = start; tables = tables; delay = delay }) stamp bytes finding
by_game start tables q stamp delay bytes finding is also h =
    subst (λ (d : ℕ). IsFound (record { start = start; tables = tables; delay = d }) stamp bytes finding) also (subst (λ (s : Stamp). IsFound (rules_with start tables q) s bytes finding) is h)

-- ---- two records

same_front : (n j : ℕ) (xs ys : List Move) → j ≤ n → take n xs ≡ take n ys → take j xs ≡ take j ys
same_front n j xs ys le h = sym (take-take j n xs le) ∙ ap (take j) h ∙ take-take j n ys le

-- a record has no verdict before its last ply, nor after it
no_verdict : (r : Record) (j : ℕ) → j ≢ length r.moves → verdict_at r j ≡ None
no_verdict r j other = cond-false (j == length r.moves) r.verdict None (ne_eqb j (length r.moves) other)

at_last : (r : Record) (j : ℕ) → j ≡ length r.moves → verdict_at r j ≡ r.verdict
at_last r j same = cond-true (j == length r.moves) r.verdict None (eq-eqb j (length r.moves) same)

-- before the last ply of both they are the same as long as their moves are
same_inside : (r s : Record) (n j : ℕ) → AreOfOneGame r s → take n r.moves ≡ take n s.moves → j ≤ n → j < length r.moves → j < length s.moves → AreSameAt r s j
same_inside r s n j game h le lt also = (
  game,
  same_front n j r.moves s.moves le h,
  no_verdict r j (λ e. absurd (omega arith)) ∙ sym (no_verdict s j (λ e. absurd (omega arith))),
)

-- records whose moves part
pub parted_so : (r s : Record) (count : ℕ) → AreOfOneGame r s → ArePartedAt r.moves s.moves count → AreCompared r s (Some (count + 1))
parted_so r s count game h = (
  λ j lt. same_inside r s count j game h.same (omega arith) (let w = h.within in omega arith) (let w = h.also in omega arith),
  λ same. h.differ same.1,
)

-- the one begins by the moves of the other, and is longer
module _ (r s : Record) (game : AreOfOneGame r s) (less : length r.moves < length s.moves) (h : take (length r.moves) r.moves ≡ take (length r.moves) s.moves) where
  pub shorter_so : (ply : ℕ) → PartsAfter (length r.moves) r.verdict ply → ((j : ℕ) → j < ply → AreSameAt r s j) × (AreSameAt r s ply → ⊥)
  shorter_so ply p = elim p [
    | inl ends ↦ (
      (λ j lt. same_inside r s (length r.moves) j game h (let e = ends.1 in omega arith) (let e = ends.1 in omega arith) (let e = ends.1 in omega arith)),
      (λ same.
          let none : r.verdict ≡ None = sym (at_last r ply ends.1) ∙ same.2 ∙ no_verdict s ply (λ e. let is = ends.1 in absurd (omega arith)) in
          let t : is_some r.verdict ≡ true = ends.0 in
          let f : is_some r.verdict ≡ false = ap is_some none in
          let x : true ≡ false = sym t ∙ f in cc),
    )
    | inr next ↦ (
      (λ j lt. by_last j (let e = next.1 in omega arith) next.0),
      (λ same.
          let long : length (take ply r.moves) ≡ length (take ply s.moves) = ap length same.1 in
          let all : take ply r.moves ≡ r.moves = take_all ply r.moves (let e = next.1 in omega arith) in
          let one : length (take ply r.moves) ≡ length r.moves = ap length all in
          let other : length (take ply s.moves) ≡ ply = length-take-le ply s.moves (let e = next.1 in omega arith) in
          let e = next.1 in absurd (omega arith)),
    )
  ]
    where
      by_last : (j : ℕ) → j ≤ length r.moves → r.verdict ≡ None → AreSameAt r s j
      by_last j le none = elim (cases_lt j (length r.moves)) [
        | inl lt ↦ same_inside r s (length r.moves) j game h le lt (omega arith)
        | inr ge ↦ (
          game,
          same_front (length r.moves) j r.moves s.moves le h,
          at_last r j (omega arith) ∙ none ∙ sym (no_verdict s j (λ e. absurd (omega arith))),
        )
      ]

turned_game : (r s : Record) → AreOfOneGame r s → AreOfOneGame s r
turned_game r s game = (sym game.0, sym game.1)

turned : (r s : Record) (ply : ℕ) → ((j : ℕ) → j < ply → AreSameAt r s j) × (AreSameAt r s ply → ⊥) → ((j : ℕ) → j < ply → AreSameAt s r j) × (AreSameAt s r ply → ⊥)
turned r s ply h = (
  (λ j lt. let same = h.0 j lt in (turned_game r s same.0, sym same.1, sym same.2)),
  (λ same. h.1 (turned_game s r same.0, sym same.1, sym same.2)),
)

-- records of which one begins by the moves of the other
pub ends_so : (r s : Record) (p : Option ℕ) → AreOfOneGame r s → take (min (length r.moves) (length s.moves)) r.moves ≡ take (min (length r.moves) (length s.moves)) s.moves → EndsPart (length r.moves) r.verdict (length s.moves) s.verdict p → AreCompared r s p
ends_so r s None game h p =
    let short : min (length r.moves) (length s.moves) ≡ length r.moves = let e = p.0 in omega arith in
    let same = subst (λ n. take n r.moves ≡ take n s.moves) short h in (
      game,
      sym (take_all (length r.moves) r.moves (omega arith)) ∙ same ∙ take_all (length r.moves) s.moves (let e = p.0 in omega arith),
      p.1,
    )
ends_so r s (Some ply) game h p = elim p [
  | inl less ↦ (
      let short : min (length r.moves) (length s.moves) ≡ length r.moves = let lt = less.0 in omega arith in
      shorter_so r s game less.0 (subst (λ n. take n r.moves ≡ take n s.moves) short h) ply less.1)
  | inr rest ↦ elim rest [
    | inl more ↦ (
        let short : min (length r.moves) (length s.moves) ≡ length s.moves = let lt = more.0 in omega arith in
        turned s r ply (shorter_so s r (turned_game r s game) more.0 (sym (subst (λ n. take n r.moves ≡ take n s.moves) short h)) ply more.1))
    | inr level ↦ (
        let short : min (length r.moves) (length s.moves) ≡ length r.moves = let e = level.0 in omega arith in
        let same = subst (λ n. take n r.moves ≡ take n s.moves) short h in (
          (λ j lt. same_inside r s (length r.moves) j game same (let e = level.2 in omega arith) (let e = level.2 in omega arith) (let e = level.0 in let f = level.2 in omega arith)),
          (λ at. level.1 (sym (at_last r ply level.2) ∙ at.2 ∙ at_last s ply (level.2 ∙ level.0))),
        ))
  ]
]
