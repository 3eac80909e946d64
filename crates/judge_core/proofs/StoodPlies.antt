-- Where a game stands, carried on by one move.
use Rattle.std.proofs.Common.{◌≡◌, ◌∙◌, sym, ap, subst, refl, ℕ, zero, suc, ◌+◌, ◌-◌, ◌<◌, ◌≤◌, Bool, true, false, cond, ◌&&◌, ◌||◌, List, [], ◌∷◌, ◌++◌, length, length-append, take, Option, Some, None, arith, ⊎_elim}
use Rattle.std.specs.Prelude.{nat_le, nat_lt}
use Rattle.std.specs.Option.{option_and_then}
use Rattle.std.proofs.lemmas.Bool.{cases_lt, le-leb, lt-leb, lt-ltb, le-ltb, eqb-true, cond-true, cond-false}
use Rattle.std.proofs.lemmas.List.{take-append-le, take_all}
use Rattle.board_core.specs.declared.parts.Parts.{Parts}
use Rattle.board_core.specs.declared.moves.Move.{Move}
use Rattle.board_core.specs.ComputedMoves.{position_after}
use Rattle.board_core.specs.declared.verdict.Verdict.{Verdict}
use Rattle.board_core.specs.declared.verdict.Verdict.TheVariants.{WhiteMates, BlackMates, Stalemate, TableDraw, TableWhite, TableBlack, Stopped}
use Rattle.board_core.specs.Verdicts.{verdict_code}
use Rattle.judge_core.specs.Ruling.{ruling}
use Rattle.board_core.specs.Delays.{most_delay}
use Rattle.judge_core.specs.Games.{judged_after, Rules, is_end, is_judged, has_stood, verdict_by, verdict_after}
use Rattle.judge_core.proofs.Plies.{starts, goes_on}
use Rattle.judge_core.specs.Standings.{Reached, IsAt, HasStood, plies_by, verdict_of}

-- ---- verdicts by their codes

abbrev verdict_coded : ℕ → Verdict
verdict_coded zero = Stopped
verdict_coded (suc zero) = WhiteMates
verdict_coded (suc (suc zero)) = BlackMates
verdict_coded (suc (suc (suc zero))) = Stalemate
verdict_coded (suc (suc (suc (suc zero)))) = TableDraw
verdict_coded (suc (suc (suc (suc (suc zero))))) = TableWhite
verdict_coded (suc (suc (suc (suc (suc (suc zero)))))) = TableBlack
verdict_coded (suc (suc (suc (suc (suc (suc (suc n))))))) = Stopped

verdict_back : (v : Verdict) → verdict_coded (verdict_code v) ≡ v
verdict_back WhiteMates = refl
verdict_back BlackMates = refl
verdict_back Stalemate = refl
verdict_back TableDraw = refl
verdict_back TableWhite = refl
verdict_back TableBlack = refl
verdict_back Stopped = refl

pub same_verdict : (v w : Verdict) → verdict_code v ≡ verdict_code w → v ≡ w
same_verdict v w e = sym (verdict_back v) ∙ ap verdict_coded e ∙ verdict_back w

pub judged_so : (o : Option Verdict) (v : Verdict) → is_judged o v ≡ true → o ≡ Some v
judged_so None v e = cc
judged_so (Some w) v e = ap Some (same_verdict w v (eqb-true _ _ e))

-- ---- tests

le_same : (a b c d : ℕ) → (a ≤ b → c ≤ d) → (c ≤ d → a ≤ b) → nat_le a b ≡ nat_le c d
le_same a b c d there back =
    ⊎_elim
    (λ (lt : b < a). lt-leb a b lt ∙ sym (lt-leb c d (⊎_elim (λ (l : d < c). l) (λ (g : c ≤ d). absurd (let h = back g in omega arith)) (cases_lt d c))))
    (λ (ge : a ≤ b). le-leb a b ge ∙ sym (le-leb c d (there ge)))
    (cases_lt b a)

and_true : (a : Bool) → (a && true) ≡ a
and_true true = refl
and_true false = refl

and_false : (a : Bool) → (a && false) ≡ false
and_false true = refl
and_false false = refl

and_more : (a b c : Bool) → ((a && b) && c) ≡ (a && (b && c))
and_more true b c = refl
and_more false b c = refl

-- ---- positions and rulings

judged_at : (r : Rules) (moves : List Move) (s : Reached) → IsAt r moves s → judged_after r.tables r.start moves ≡ s.judged
unfolding judged_after
judged_at r moves s h = ap (option_and_then (ruling r.tables)) h.position ∙ sym h.judged

-- ---- plies that have stood

earlier : (moves : List Move) (m : Move) (k : ℕ) → take (length (moves ++ m ∷ []) - suc k) (moves ++ m ∷ []) ≡ take (length moves - k) moves
earlier moves m k =
    let size : length (moves ++ m ∷ []) ≡ length moves + 1 = length-append moves (m ∷ []) in
    let less : length (moves ++ m ∷ []) - suc k ≡ length moves - k = omega (arith, size) in
    ap (λ n. take n (moves ++ m ∷ [])) less ∙ take-append-le (length moves - k) moves (m ∷ []) (omega arith)

one_more : (r : Rules) (moves : List Move) (m : Move) (v : Verdict) (k : ℕ) → has_stood r (moves ++ m ∷ []) v (suc k) ≡ (is_judged (judged_after r.tables r.start moves) v && has_stood r moves v k)
unfolding has_stood
one_more r moves m v zero =
    let less : length moves - 0 ≡ length moves = omega arith in
    let all : take (length (moves ++ m ∷ []) - 1) (moves ++ m ∷ []) ≡ moves = earlier moves m 0 ∙ ap (λ n. take n moves) less ∙ take_all (length moves) moves (omega arith) in
    ap (λ (xs : List Move). is_judged (judged_after r.tables r.start xs) v) all ∙ sym (and_true _)
one_more r moves m v (suc k) =
    ap (λ (b : Bool). b && is_judged (judged_after r.tables r.start (take (length (moves ++ m ∷ []) - suc (suc k)) (moves ++ m ∷ []))) v) (one_more r moves m v k)
    ∙ ap (λ (xs : List Move). (is_judged (judged_after r.tables r.start moves) v && has_stood r moves v k) && is_judged (judged_after r.tables r.start xs) v) (earlier moves m (suc k))
    ∙ and_more (is_judged (judged_after r.tables r.start moves) v) (has_stood r moves v k) (is_judged (judged_after r.tables r.start (take (length moves - suc k) moves)) v)

pub none_stood : (r : Rules) (moves : List Move) (v : Verdict) → has_stood r moves v 0 ≡ true
unfolding has_stood
none_stood r moves v = refl

begun : (r : Rules) (s : Reached) → s.plies ≡ 0 → HasStood r [] s
begun r s e v zero is le = ap (λ b. nat_le 0 0 && b) (none_stood r [] v) ∙ rw e refl
begun r s e v (suc n) is le = let none : nat_le (suc n) 0 ≡ false = lt-leb (suc n) 0 (omega arith) in ap (λ b. b && has_stood r [] v (suc n)) none ∙ sym none ∙ ap (nat_le (suc n)) (sym e)

pub begins : (r : Rules) (p : Parts) (judged : Option Verdict) → r.start ≡ p → judged ≡ ruling r.tables p → IsAt r [] (record { position = p; judged = judged; plies = 0 })
begins r p judged start is = record {
  position = starts r.start ∙ ap Some start;
  judged = is;
  stood = begun r (record { position = p; judged = judged; plies = 0 }) refl;
}

-- a ruling that goes on
kept_on : (k len plies : ℕ) (stood : Bool) → suc k ≤ most_delay → (nat_le k len && stood) ≡ nat_le k plies → (nat_le (suc k) (len + 1) && stood) ≡ nat_le (suc k) (cond (nat_lt plies most_delay) (plies + 1) most_delay)
kept_on k len plies stood few h =
    ap (λ b. b && stood) (le_same (suc k) (len + 1) k len (λ x. omega arith) (λ x. omega arith)) ∙ h
    ∙ ⊎_elim
    (λ (lt : plies < most_delay). le_same k plies (suc k) (plies + 1) (λ x. omega arith) (λ x. omega arith) ∙ ap (λ n. nat_le (suc k) n) (sym (cond-true (nat_lt plies most_delay) (plies + 1) most_delay (lt-ltb _ _ lt))))
    (λ (ge : most_delay ≤ plies). le_same k plies (suc k) most_delay (λ x. omega arith) (λ x. omega arith) ∙ ap (λ n. nat_le (suc k) n) (sym (cond-false (nat_lt plies most_delay) (plies + 1) most_delay (le-ltb _ _ ge))))
    (cases_lt plies most_delay)

next_stood : (r : Rules) (moves : List Move) (m : Move) (s : Reached) (v : Verdict) (n : ℕ) → IsAt r moves s → n ≤ most_delay → (nat_le n (length (moves ++ m ∷ [])) && has_stood r (moves ++ m ∷ []) v n) ≡ nat_le n (plies_by s.judged (Some v) s.plies)
next_stood r moves m s v zero h le =
    ap (λ b. nat_le 0 (length (moves ++ m ∷ [])) && b) (none_stood r (moves ++ m ∷ []) v) ∙ and_true _ ∙ le-leb 0 _ (omega arith) ∙ sym (le-leb 0 _ (omega arith))
next_stood r moves m s v (suc k) h le =
    let size : length (moves ++ m ∷ []) ≡ length moves + 1 = length-append moves (m ∷ []) in
    let stood : has_stood r (moves ++ m ∷ []) v (suc k) ≡ (is_judged s.judged v && has_stood r moves v k) =
    one_more r moves m v k ∙ ap (λ o. is_judged o v && has_stood r moves v k) (judged_at r moves s h) in
    ap (λ n. nat_le (suc k) n && has_stood r (moves ++ m ∷ []) v (suc k)) size ∙ ap (λ b. nat_le (suc k) (length moves + 1) && b) stood ∙ by_cases (is_judged s.judged v) refl
  where
    by_cases : (b : Bool) → is_judged s.judged v ≡ b → (nat_le (suc k) (length moves + 1) && (is_judged s.judged v && has_stood r moves v k)) ≡ nat_le (suc k) (plies_by s.judged (Some v) s.plies)
    by_cases true e = rw e (kept_on k (length moves) s.plies (has_stood r moves v k) le (h.stood v k (judged_so s.judged v e) (omega arith)))
    by_cases false e = rw e (and_false _ ∙ sym (lt-leb (suc k) 0 (omega arith)))

pub moves_on : (r : Rules) (moves : List Move) (m : Move) (s : Reached) (q : Parts) (judged : Option Verdict) → IsAt r moves s → position_after s.position m ≡ Some q → judged ≡ ruling r.tables q → IsAt r (moves ++ m ∷ []) (record { position = q; judged = judged; plies = plies_by s.judged judged s.plies })
moves_on r moves m s q judged h legal is = record {
  position = goes_on r.start moves m ∙ ap (option_and_then (λ p. position_after p m)) h.position ∙ legal;
  judged = is;
  stood = λ v n e le. subst (λ (o : Option Verdict). (nat_le n (length (moves ++ m ∷ [])) && has_stood r (moves ++ m ∷ []) v n) ≡ nat_le n (plies_by s.judged o s.plies)) (sym e) (next_stood r moves m s v n h le);
}

-- ---- the verdict at a ply

by_judged : (r : Rules) (moves : List Move) (o : Option Verdict) (plies : ℕ) → ((v : Verdict) → o ≡ Some v → (nat_le r.delay (length moves) && has_stood r moves v r.delay) ≡ nat_le r.delay plies) → verdict_by r moves o ≡ verdict_of o plies r.delay
by_judged r moves None plies h = refl
by_judged r moves (Some v) plies h = ap (λ b. cond (is_end v || b) (Some v) None) (h v refl)

pub verdict_is : (r : Rules) (moves : List Move) (s : Reached) → r.delay ≤ most_delay → IsAt r moves s → verdict_after r moves ≡ verdict_of s.judged s.plies r.delay
unfolding verdict_after
verdict_is r moves s few h =
    ap (verdict_by r moves) (judged_at r moves s h) ∙ by_judged r moves s.judged s.plies (λ v e. h.stood v r.delay e few)

-- ---- no delay

with_none : (r : Rules) (moves : List Move) (o : Option Verdict) → r.delay ≡ 0 → verdict_by r moves o ≡ o
with_none r moves None z = refl
with_none r moves (Some v) z =
    let at_once : (nat_le r.delay (length moves) && has_stood r moves v r.delay) ≡ true =
    ap (λ n. nat_le n (length moves) && has_stood r moves v n) z ∙ ap (λ b. nat_le 0 (length moves) && b) (none_stood r moves v) ∙ and_true _ ∙ le-leb 0 _ (omega arith) in
    ap (λ b. cond (is_end v || b) (Some v) None) at_once ∙ either (is_end v)
  where
    either : (b : Bool) → cond (b || true) (Some v) None ≡ Some v
    either true = refl
    either false = refl

pub no_delay : (r : Rules) (moves : List Move) → r.delay ≡ 0 → verdict_after r moves ≡ judged_after r.tables r.start moves
unfolding verdict_after
no_delay r moves z = with_none r moves (judged_after r.tables r.start moves) z
