use Rattle.std.proofs.Common.{◌∙◌, ℕ, ◌≡◌, ◌≢◌, ◌<◌, ◌≤◌, ◌+◌, ◌*◌, List, arith, inl, inr, refl}
use Rattle.std.specs.Int.{bit_at}
use Rattle.std.proofs.lemmas.Bool.{cases_lt}
use Rattle.std.proofs.lemmas.Nat.Bits.{bit_at-zero}
use Rattle.board_core.specs.Inside.Search.{HasListedBelow, IsListed}
use Rattle.board_core.specs.declared.generation.Which.{Which}
use Rattle.board_core.specs.declared.parts.Parts.{Parts}
use Rattle.board_core.specs.declared.moves.Move.{Move}
use Rattle.board_core.specs.Moves.{IsTaken}
use Rattle.board_core.proofs.Listing.{promotion_below, HasListedBelow-skip, IsLegal-stands}

-- all squares with this fact from `next` on are in the set, in which no earlier square is
pub record Rests (Q : ℕ → Type 0) (next set : ℕ) : Type 0 where
  pub within : next ≤ 64
  pub gone : (s : ℕ) → s < next → bit_at set s ≡ 0
  pub rest : (s : ℕ) → s < 64 → next ≤ s → Q s → bit_at set s ≡ 1

pub zero_one : (n : ℕ) → n ≡ 0 → n ≡ 1 → ⊥
zero_one n a b = omega arith

-- the lowest square of the set is not an earlier one
pub Rests-next : (Q : ℕ → Type 0) (next set to : ℕ) → Rests Q next set → bit_at set to ≡ 1 → next ≤ to
Rests-next Q next set to r here = elim (cases_lt to next) [
  | inl lt ↦ absurd (zero_one _ (r.gone to lt) here)
  | inr ge ↦ ge
]

pub Rests-without : (Q : ℕ → Type 0) (next set to set' : ℕ) → to < 64 → Rests Q next set → ((s : ℕ) → s < to → bit_at set s ≡ 0) → bit_at set to ≡ 1 → bit_at set' to ≡ 0 → ((s : ℕ) → s < 64 → s ≢ to → bit_at set' s ≡ bit_at set s) → Rests Q (to + 1) set'
Rests-without Q next set to set' b r first here gone kept =
    let le = Rests-next Q next set to r here in
    record {
      within = omega arith;
      gone = λ s lt. elim (cases_lt s to) [
        | inl x ↦ kept s (omega arith) (omega arith) ∙ first s x
        | inr y ↦ let e : s ≡ to = omega arith in rw e gone
      ];
      rest = λ s b n q. kept s b (omega arith) ∙ r.rest s b (omega arith) q;
    }

-- no square with the fact lies from `next` up to the lowest of the set
pub Rests-between : (Q : ℕ → Type 0) (next set to s : ℕ) → Rests Q next set → ((s : ℕ) → s < to → bit_at set s ≡ 0) → s < 64 → next ≤ s → s < to → Q s → ⊥
Rests-between Q next set to s r first b low high q = zero_one _ (first s high) (r.rest s b low q)

-- nor anywhere from `next` on where the set is empty
pub Rests-empty : (Q : ℕ → Type 0) (next set s : ℕ) → Rests Q next set → set ≡ 0 → s < 64 → next ≤ s → Q s → ⊥
Rests-empty Q next set s r none b low q = zero_one _ (bit_at-zero s) (rw none at (r.rest s b low q))

-- where neither a square below `next` has the fact nor the lowest of the set, none below the square after it has it
pub none_on : (Q : ℕ → Type 0) (next set to : ℕ) → to < 64 → Rests Q next set → ((s : ℕ) → s < to → bit_at set s ≡ 0) → ((s : ℕ) → s < next → Q s → ⊥) → (Q to → ⊥) → (s : ℕ) → s < to + 1 → Q s → ⊥
none_on Q next set to b r first below here s lt q = elim (cases_lt s next) [
  | inl x ↦ below s x q
  | inr ge ↦ elim (cases_lt s to) [
    | inl x ↦ Rests-between Q next set to s r first (omega arith) ge x q
    | inr y ↦ let e : s ≡ to = omega arith in here (rw e at q)
  ]
]

-- and where the set is empty no square of the board has it
pub none_left : (Q : ℕ → Type 0) (next set : ℕ) → Rests Q next set → set ≡ 0 → ((s : ℕ) → s < next → Q s → ⊥) → (s : ℕ) → s < 64 → Q s → ⊥
none_left Q next set r none below s b q = elim (cases_lt s next) [
  | inl x ↦ below s x q
  | inr ge ↦ Rests-empty Q next set s r none b ge q
]

-- a sweep over a set with all squares that have the fact begins
pub Rests-begin : (Q : ℕ → Type 0) (set : ℕ) → ((s : ℕ) → s < 64 → Q s → bit_at set s ≡ 1) → Rests Q 0 set
Rests-begin Q set whole = record { within = omega arith; gone = λ s lt. absurd (omega arith); rest = λ s b _ q. whole s b q }

-- some move asked for goes from the one square to the other
abbrev pub Goes : Parts → Which → ℕ → ℕ → Type 0
Goes p which from to = (m : Move) × IsListed which p m × (m.from ≡ from) × (m.to ≡ to)

-- no move is passed over up to the lowest square of the set
pub Targets-below : (p : Parts) (which : Which) (from next set to : ℕ) (moves : List Move) → to < 64 → Rests (Goes p which from) next set → bit_at set to ≡ 1 → ((s : ℕ) → s < to → bit_at set s ≡ 0) → HasListedBelow p which (320 * from + 5 * next) moves → HasListedBelow p which (320 * from + 5 * to) moves
Targets-below p which from next set to moves b r here first h =
    let le = Rests-next _ next set to r here in
    HasListedBelow-skip p which _ _ moves h (omega arith) (λ m l low high.
    let k = promotion_below m.promotion in
    let f : m.from ≡ from = omega (arith, l.0.1.to_board) in
    let n : next ≤ m.to = omega (arith, l.0.1.to_board) in
    let t : m.to < to = omega (arith, l.0.1.to_board) in
    Rests-between _ next set to m.to r first l.0.1.to_board n t (m, l, f, refl))

pub Targets-none : (p : Parts) (which : Which) (from next set : ℕ) (moves : List Move) → Rests (Goes p which from) next set → set ≡ 0 → HasListedBelow p which (320 * from + 5 * next) moves → HasListedBelow p which (320 * (from + 1)) moves
Targets-none p which from next set moves r none h =
    let within = r.within in
    HasListedBelow-skip p which _ _ moves h (omega arith) (λ m l low high.
    let k = promotion_below m.promotion in
    let f : m.from ≡ from = omega (arith, l.0.1.to_board) in
    let n : next ≤ m.to = omega (arith, l.0.1.to_board) in
    Rests-empty _ next set m.to r none l.0.1.to_board n (m, l, f, refl))

-- no move goes from a square that is passed over up to the lowest of the mover's
pub Movers-below : (p : Parts) (which : Which) (next set from : ℕ) (moves : List Move) → from < 64 → Rests (IsTaken p.men p.side) next set → bit_at set from ≡ 1 → ((s : ℕ) → s < from → bit_at set s ≡ 0) → HasListedBelow p which (320 * next) moves → HasListedBelow p which (320 * from) moves
Movers-below p which next set from moves b r here first h =
    let le = Rests-next _ next set from r here in
    HasListedBelow-skip p which _ _ moves h (omega arith) (λ m l low high.
    let k = promotion_below m.promotion in
    let n : next ≤ m.from = omega (arith, l.0.1.to_board) in
    let t : m.from < from = omega (arith, l.0.1.to_board) in
    Rests-between _ next set from m.from r first l.0.1.from_board n t (IsLegal-stands p m l.0))

pub Movers-none : (p : Parts) (which : Which) (next set : ℕ) (moves : List Move) → Rests (IsTaken p.men p.side) next set → set ≡ 0 → HasListedBelow p which (320 * next) moves → HasListedBelow p which 20480 moves
Movers-none p which next set moves r none h =
    let within = r.within in
    HasListedBelow-skip p which _ _ moves h (omega arith) (λ m l low high.
    let k = promotion_below m.promotion in
    let n : next ≤ m.from = omega (arith, l.0.1.to_board) in
    Rests-empty _ next set m.from r none l.0.1.from_board n (IsLegal-stands p m l.0))
