-- Sets of squares that grow by a square, and by the squares along a line.
use Rattle.std.proofs.Common.{ℕ, ◌≡◌, ◌≢◌, ◌<◌, ◌+◌, ◌⊎◌, List, Option, Some, sym, ◌∙◌, arith, inl, inr}
use Rattle.std.specs.Int.{bit_at}
use Rattle.std.proofs.lemmas.Bool.{cases_lt, cases_eq}
use Rattle.board_core.specs.declared.piece.Piece.{Piece}
use Rattle.board_core.specs.declared.piece.Side.{Side}
use Rattle.board_core.specs.declared.piece.Side.TheVariants.{White, Black}
use Rattle.board_core.specs.declared.attack.Direction.{Direction}
use Rattle.board_core.specs.declared.attack.Direction.TheVariants.{North, South, East, West, NorthEast, NorthWest, SouthEast, SouthWest}
use Rattle.board_core.specs.declared.attack.KnightStep.{KnightStep}
use Rattle.board_core.specs.declared.attack.KnightStep.TheVariants.{EastEastNorth, EastEastSouth, EastNorthNorth, EastSouthSouth, WestWestNorth, WestWestSouth, WestNorthNorth, WestSouthSouth}
use Rattle.board_core.specs.Attack.{man_at, Along, IsClear, IsKingStep, IsKnightStep, IsPawnAttack}
use Rattle.board_core.specs.Square.{apart}
use Rattle.board_core.specs.Moves.{IsFree, IsTaken}
use Rattle.board_core.specs.Inside.Search.{IsKnightStepBy}
use Rattle.board_core.proofs.Outward.{opposite, along_back, along_unique, step_of, knight_step_of}

-- a set that has one more square, for which P holds
pub only_more : (P : ℕ → Type 0) (mask all more to : ℕ) → ((s : ℕ) → s ≢ to → bit_at more s ≡ bit_at all s) → P to → ((s : ℕ) → bit_at all s ≡ 1 → (bit_at mask s ≡ 1) ⊎ P s) → (s : ℕ) → bit_at more s ≡ 1 → (bit_at mask s ≡ 1) ⊎ P s
only_more P mask all more to others here only s bit = elim (cases_eq s to) [
  | inl e ↦ rw e (inr here)
  | inr ne ↦ only s (sym (others s ne) ∙ bit)
]

-- a line that goes on to a man ends there
pub up_to : (men : List (Option Piece)) (d : Direction) (k n from to s : ℕ) (man : Piece) → man_at men to ≡ Some man → 0 < k → Along d k from to → Along d n from s → IsClear men d n from → (n < k) ⊎ (s ≡ to)
up_to men d k n from to s man there away here along clear = elim (cases_lt n k) [
  | inl lt ↦ inl lt
  | inr ge ↦ elim (cases_lt k n) [
    | inl past ↦ absurd (let e = sym (clear k to away past here) ∙ there in cc)
    | inr le ↦ let e : n ≡ k = omega arith in inr (along_unique d k from s to (rw e at along) here)
  ]
]

-- the squares of a line, one more
pub reached_more : (d : Direction) (k from all more to : ℕ) → Along d k from to → bit_at more to ≡ 1 → ((s : ℕ) → bit_at all s ≡ 1 → bit_at more s ≡ 1) → ((n s : ℕ) → 0 < n → n < k → s < 64 → Along d n from s → bit_at all s ≡ 1) → (n s : ℕ) → 0 < n → n < k + 1 → s < 64 → Along d n from s → bit_at more s ≡ 1
reached_more d k from all more to here bit kept reached n s away within b along = elim (cases_lt n k) [
  | inl lt ↦ kept s (reached n s away lt b along)
  | inr ge ↦
      let e : n ≡ k = omega arith in
      let same = along_unique d k from s to (rw e at along) here in
      rw same bit
]

-- what a set has comes from the last square that was added or from before it
pub came_from : {A B Q P : Type 0} → (A → B ⊎ Q) → (Q → P) → (B → P) → A → P
came_from f q b a = elim (f a) [ inl before ↦ b before | inr here ↦ q here ]

-- what the sets of a chain have stays to its end
pub four_kept : (P : ℕ → Type 0) (a b c d : ℕ) → (P a → P b) → (P b → P c) → (P c → P d) → (P a → P d) × (P b → P d) × (P c → P d)
four_kept P a b c d ab bc cd = (λ x. cd (bc (ab x)), λ x. cd (bc x), cd)

pub eight_kept : (P : ℕ → Type 0) (a b c d e f g h : ℕ) → (P a → P b) → (P b → P c) → (P c → P d) → (P d → P e) → (P e → P f) → (P f → P g) → (P g → P h) → (P a → P h) × (P b → P h) × (P c → P h) × (P d → P h) × (P e → P h) × (P f → P h) × (P g → P h)
eight_kept P a b c d e f g h ab bc cd de ef fg gh =
    let front = four_kept P a b c d ab bc cd in
    let back = four_kept P e f g h ef fg gh in
    (λ x. back.0 (de (front.0 x)), λ x. back.0 (de (front.1 x)), λ x. back.0 (de (front.2 x)), λ x. back.0 (de x), back.0, back.1, back.2)

-- a king's step and a knight's, by their direction
pub king_step_to : (from to : ℕ) → IsKingStep from to → (d : Direction) × Along d 1 from to
king_step_to from to h = let d = step_of from to h in (opposite d.0, along_back d.0 1 to from d.1)

pub by_king_step : (d : Direction) (from to : ℕ) → Along d 1 from to → IsKingStep from to
by_king_step North from to h = omega arith
by_king_step South from to h = omega arith
by_king_step East from to h = omega arith
by_king_step West from to h = omega arith
by_king_step NorthEast from to h = omega arith
by_king_step NorthWest from to h = omega arith
by_king_step SouthEast from to h = omega arith
by_king_step SouthWest from to h = omega arith

back_again : (from to : ℕ) → IsKnightStep from to → IsKnightStep to from
back_again from to (inl h) = inl (omega arith)
back_again from to (inr h) = inr (omega arith)

pub knight_step_to : (from to : ℕ) → IsKnightStep from to → (h : KnightStep) × IsKnightStepBy h from to
knight_step_to from to h = knight_step_of to from (back_again from to h)

pub by_knight_step : (h : KnightStep) (from to : ℕ) → IsKnightStepBy h from to → IsKnightStep from to
by_knight_step EastEastNorth from to x = inr (omega arith)
by_knight_step EastEastSouth from to x = inr (omega arith)
by_knight_step EastNorthNorth from to x = inl (omega arith)
by_knight_step EastSouthSouth from to x = inl (omega arith)
by_knight_step WestWestNorth from to x = inr (omega arith)
by_knight_step WestWestSouth from to x = inr (omega arith)
by_knight_step WestNorthNorth from to x = inl (omega arith)
by_knight_step WestSouthSouth from to x = inl (omega arith)

pub knight_unique : (h : KnightStep) (from a b : ℕ) → IsKnightStepBy h from a → IsKnightStepBy h from b → a ≡ b
knight_unique EastEastNorth from a b x y = omega arith
knight_unique EastEastSouth from a b x y = omega arith
knight_unique EastNorthNorth from a b x y = omega arith
knight_unique EastSouthSouth from a b x y = omega arith
knight_unique WestWestNorth from a b x y = omega arith
knight_unique WestWestSouth from a b x y = omega arith
knight_unique WestNorthNorth from a b x y = omega arith
knight_unique WestSouthSouth from a b x y = omega arith

-- a square on which a man of the side stands isn't free
pub not_free : (men : List (Option Piece)) (side : Side) (s to : ℕ) → s ≡ to → IsTaken men side to → IsFree men side s → ⊥
not_free men side s to e t free = free t.0 (rw e t.1)

-- the two ways in which a pawn attacks
abbrev pub pawn_east : Side → Direction
pawn_east White = NorthEast
pawn_east Black = SouthEast

abbrev pub pawn_west : Side → Direction
pawn_west White = NorthWest
pawn_west Black = SouthWest

east_or_west : (a b : ℕ) → apart a b ≡ 1 → (b ≡ a + 1) ⊎ (b + 1 ≡ a)
east_or_west a b h = elim (cases_lt a b) [ inl lt ↦ inl (omega arith) | inr ge ↦ inr (omega arith) ]

pub pawn_way : (side : Side) (from to : ℕ) → IsPawnAttack side from to → Along (pawn_east side) 1 from to ⊎ Along (pawn_west side) 1 from to
pawn_way White from to h = elim (east_or_west _ _ h.0) [ inl e ↦ inl (e, h.1) | inr w ↦ inr (w, h.1) ]
pawn_way Black from to h = elim (east_or_west _ _ h.0) [ inl e ↦ inl (e, h.1) | inr w ↦ inr (w, h.1) ]
