-- Answers of the positions after some moves, one move more.
use Rattle.std.proofs.Common.{◌≡◌, ◌∙◌, sym, ap, subst, refl, ℕ, All, Bool, true, false, List, [], ◌∷◌, ◌++◌, Option, Some, None, option_map, filter, fold, Result, Ok, Err, length, take, get_or, ◌<◌, ◌+◌, if◌then◌else◌}
use Rattle.std.specs.Option.{option_or}
use Rattle.std.proofs.lemmas.List.{take_more}
use Rattle.std.proofs.lemmas.List.Elements.{All-get_or, filter_map-append, filter-append}
use Rattle.std.proofs.lemmas.List.Sums.{fold-append}
use Rattle.board_core.specs.declared.parts.Parts.{Parts}
use Rattle.board_core.specs.declared.moves.Move.{Move}
use Rattle.board_core.specs.ComputedMoves.{position_after}
use Rattle.judge_core.specs.declared.fault.Faults.{Faults}
use Rattle.judge_core.specs.declared.fault.ValueFault.{ValueFault}
use Rattle.judge_core.specs.declared.fault.ValueFault.TheVariants.{NotCovered, Damaged}
use Rattle.judge_core.specs.Asked.{asked, not_covered, damaged, first, faults_in, no_faults, with_answer}

option_or-none : {T : Type 0} (o : Option T) → option_or o None ≡ o
option_or-none None = refl
option_or-none (Some x) = refl

option_or-assoc : {T : Type 0} (a b c : Option T) → option_or (option_or a b) c ≡ option_or a (option_or b c)
option_or-assoc None b c = refl
option_or-assoc (Some x) b c = refl

first-append : {X : Type 0} (say : Result X ValueFault → Option ℕ) (xs ys : List (Result X ValueFault)) → first say (xs ++ ys) ≡ option_or (first say xs) (first say ys)
first-append say [] ys = refl
first-append say (x ∷ xs) ys = ap (option_or (say x)) (first-append say xs ys) ∙ sym (option_or-assoc (say x) (first say xs) (first say ys))

-- the faults of some answers, with those of others behind them
abbrev pub faults_more : {X : Type 0} → Faults → List (Result X ValueFault) → Faults
faults_more f [] = f
faults_more f (r ∷ rs) = faults_more (with_answer f r) rs

faults-is : {X : Type 0} (f : Faults) (rs : List (Result X ValueFault)) → record { not_covered = option_or f.not_covered (first not_covered rs); damaged = option_or f.damaged (first damaged rs) } ≡ faults_more f rs
faults-is f [] = rw (option_or-none f.not_covered, option_or-none f.damaged) refl
faults-is f (Ok x ∷ rs) = faults-is f rs
faults-is f (Err (NotCovered key) ∷ rs) = ap (λ (o : Option ℕ). record { not_covered = o; damaged = option_or f.damaged (first damaged rs) }) (sym (option_or-assoc f.not_covered (Some key) (first not_covered rs))) ∙ faults-is (record { not_covered = option_or f.not_covered (Some key); damaged = f.damaged }) rs
faults-is f (Err (Damaged key) ∷ rs) = ap (λ (o : Option ℕ). record { not_covered = option_or f.not_covered (first not_covered rs); damaged = o }) (sym (option_or-assoc f.damaged (Some key) (first damaged rs))) ∙ faults-is (record { not_covered = f.not_covered; damaged = option_or f.damaged (Some key) }) rs

pub faults-append : {X : Type 0} (xs ys : List (Result X ValueFault)) → faults_in (xs ++ ys) ≡ faults_more (faults_in xs) ys
faults-append xs ys = rw (first-append not_covered xs ys, first-append damaged xs ys) (faults-is (faults_in xs) ys)

pub faults_in-is : {X : Type 0} (rs : List (Result X ValueFault)) → faults_in rs ≡ faults_more no_faults rs
faults_in-is rs = faults-is no_faults rs

pub asked-append : {X : Type 0} (say : Parts → Result X ValueFault) (p : Parts) (xs ys : List Move) → asked say p (xs ++ ys) ≡ asked say p xs ++ asked say p ys
asked-append say p xs ys = filter_map-append (λ m. option_map say (position_after p m)) xs ys

-- what holds of each move of a list holds of the one at a place
pub at_item : (P : Move → Type 0) (moves xs : List Move) (i : ℕ) (m : Move) → All P moves → xs ≡ moves → i < length xs → m ≡ get_or xs i m → P m
at_item P moves xs i m all e lt is = subst P (sym is) (All-get_or P xs i m lt (subst (λ (ys : List Move). All P ys) (sym e) all))

-- ---- a state that notes each answer

-- the position after a move that passes the test
abbrev pub passing : (Move → Bool) → Parts → Move → Option Parts
passing test p m = if test m then position_after p m else None

module _ {X S : Type 0} (note : S → Result X ValueFault → S) (start : S) (say : Parts → Result X ValueFault) (test : Move → Bool) (p : Parts) where
  -- the state after these moves
  abbrev pub with_all : List Move → S
  with_all ms = fold note start (asked say p (filter test ms))

  one_more : (ms : List Move) (m : Move) → with_all (ms ++ m ∷ []) ≡ fold note (with_all ms) (asked say p (filter test (m ∷ [])))
  one_more ms m = ap (λ xs. fold note start (asked say p xs)) (filter-append test ms (m ∷ [])) ∙ ap (fold note start) (asked-append say p (filter test ms) (filter test (m ∷ []))) ∙ fold-append note start (asked say p (filter test ms)) (asked say p (filter test (m ∷ [])))

  none_more : (m : Move) (b : Bool) → test m ≡ b → (if b then position_after p m else None) ≡ None → asked say p (filter test (m ∷ [])) ≡ []
  none_more m true e none = rw (e, none) refl
  none_more m false e none = rw e refl

  some_more : (m : Move) (q : Parts) (b : Bool) → test m ≡ b → (if b then position_after p m else None) ≡ Some q → asked say p (filter test (m ∷ [])) ≡ say q ∷ []
  some_more m q true e some = rw (e, some) refl
  some_more m q false e some = absurd (cc)

  module _ (xs : List Move) (i : ℕ) (m : Move) (s s' : S) (lt : i < length xs) (is : m ≡ get_or xs i m) (so_far : s ≡ with_all (take i xs)) where
    longer : take (i + 1) xs ≡ take i xs ++ m ∷ []
    longer = take_more xs i m lt ∙ ap (λ x. take i xs ++ x ∷ []) (sym is)

    pub walk-passed : passing test p m ≡ None → s' ≡ s → s' ≡ with_all (take (i + 1) xs)
    walk-passed e g = g ∙ so_far ∙ sym (ap with_all longer ∙ one_more (take i xs) m ∙ ap (fold note (with_all (take i xs))) (none_more m (test m) refl e))

    pub walk-added : (q : Parts) (r : Result X ValueFault) → passing test p m ≡ Some q → r ≡ say q → s' ≡ note s r → s' ≡ with_all (take (i + 1) xs)
    walk-added q r e er g = g ∙ ap (λ x. note x r) so_far ∙ ap (note (with_all (take i xs))) er ∙ sym (ap with_all longer ∙ one_more (take i xs) m ∙ ap (fold note (with_all (take i xs))) (some_more m q (test m) refl e))
