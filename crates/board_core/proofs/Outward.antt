use Rattle.std.proofs.Common.{ℕ, ◌≡◌, ◌<◌, ◌-◌, ◌+◌, List, get_or, refl, Option, Some, None, arith, inl, inr, sym, ap, ◌∙◌, ◌⊎◌}
use Rattle.std.proofs.lemmas.Bool.{cases_lt}
use Rattle.board_core.specs.Inside.Search.{IsKnightStepBy, IsAttackedByKnight, IsInside, IsAttackedAlong}
use Rattle.board_core.specs.declared.piece.Piece.{Piece}
use Rattle.board_core.specs.declared.piece.Side.{Side}
use Rattle.board_core.specs.declared.piece.Side.TheVariants.{White, Black}
use Rattle.board_core.specs.declared.piece.Kind.{Kind}
use Rattle.board_core.specs.declared.piece.Kind.TheVariants.{Pawn, Knight, Bishop, Rook, Queen, King}
use Rattle.board_core.specs.declared.attack.Direction.{Direction}
use Rattle.board_core.specs.declared.attack.Direction.TheVariants.{North, South, East, West, NorthEast, NorthWest, SouthEast, SouthWest}
use Rattle.board_core.specs.declared.attack.KnightStep.{KnightStep}
use Rattle.board_core.specs.declared.attack.KnightStep.TheVariants.{EastEastNorth, EastEastSouth, EastNorthNorth, EastSouthSouth, WestWestNorth, WestWestSouth, WestNorthNorth, WestSouthSouth}
use Rattle.board_core.specs.declared.attack.TheConstants.{DIRECTIONS, KNIGHT_STEPS}
use Rattle.board_core.specs.Square.{file_of, rank_of}
use Rattle.board_core.specs.Attack.{man_at, Along, IsClear, Ray, IsKingStep, IsKnightStep, IsPawnAttack, Reaches, IsAttacked}

abbrev pub opposite : Direction → Direction
opposite North = South
opposite South = North
opposite East = West
opposite West = East
opposite NorthEast = SouthWest
opposite NorthWest = SouthEast
opposite SouthEast = NorthWest
opposite SouthWest = NorthEast

pub along_back : (d : Direction) (n from to : ℕ) → Along d n from to → Along (opposite d) n to from
along_back North n from to h = omega arith
along_back South n from to h = omega arith
along_back East n from to h = omega arith
along_back West n from to h = omega arith
along_back NorthEast n from to h = omega arith
along_back NorthWest n from to h = omega arith
along_back SouthEast n from to h = omega arith
along_back SouthWest n from to h = omega arith

-- what lies k squares on, seen back from `to`, lies n - k squares on from `from`
pub along_split : (d : Direction) (n k from to s : ℕ) → k < n → Along d n from to → Along (opposite d) k to s → Along d (n - k) from s
along_split North n k from to s lt h b = omega arith
along_split South n k from to s lt h b = omega arith
along_split East n k from to s lt h b = omega arith
along_split West n k from to s lt h b = omega arith
along_split NorthEast n k from to s lt h b = omega arith
along_split NorthWest n k from to s lt h b = omega arith
along_split SouthEast n k from to s lt h b = omega arith
along_split SouthWest n k from to s lt h b = omega arith

pub clear_back : (men : List (Option Piece)) (d : Direction) (n from to : ℕ) → Along d n from to → IsClear men d n from → IsClear men (opposite d) n to
clear_back men d n from to h clear = λ k s away within b.
    clear (n - k) s (omega arith) (omega arith) (along_split d n k from to s within h b)

-- a king's step is one step in some direction
pub step_of : (from to : ℕ) → IsKingStep from to → (d : Direction) × Along d 1 to from
step_of from to h = elim (cases_lt (file_of to) (file_of from)) [
  | inl e ↦ elim (cases_lt (rank_of to) (rank_of from)) [
    | inl n ↦ (NorthEast, omega arith)
    | inr n ↦ elim (cases_lt (rank_of from) (rank_of to)) [
      | inl s ↦ (SouthEast, omega arith)
      | inr s ↦ (East, omega arith)
    ]
  ]
  | inr e ↦ elim (cases_lt (file_of from) (file_of to)) [
    | inl w ↦ elim (cases_lt (rank_of to) (rank_of from)) [
      | inl n ↦ (NorthWest, omega arith)
      | inr n ↦ elim (cases_lt (rank_of from) (rank_of to)) [
        | inl s ↦ (SouthWest, omega arith)
        | inr s ↦ (West, omega arith)
      ]
    ]
    | inr w ↦ elim (cases_lt (rank_of to) (rank_of from)) [
      | inl n ↦ (North, omega arith)
      | inr n ↦ elim (cases_lt (rank_of from) (rank_of to)) [
        | inl s ↦ (South, omega arith)
        | inr s ↦ absurd (h.0 (omega arith))
      ]
    ]
  ]
]

-- a knight's step is one of the eight
pub knight_step_of : (from to : ℕ) → IsKnightStep from to → (h : KnightStep) × IsKnightStepBy h to from
knight_step_of from to (inl h) = elim (cases_lt (file_of to) (file_of from)) [
  | inl e ↦ elim (cases_lt (rank_of to) (rank_of from)) [ inl n ↦ (EastNorthNorth, omega arith) | inr n ↦ (EastSouthSouth, omega arith) ]
  | inr e ↦ elim (cases_lt (rank_of to) (rank_of from)) [ inl n ↦ (WestNorthNorth, omega arith) | inr n ↦ (WestSouthSouth, omega arith) ]
]
knight_step_of from to (inr h) = elim (cases_lt (file_of to) (file_of from)) [
  | inl e ↦ elim (cases_lt (rank_of to) (rank_of from)) [ inl n ↦ (EastEastNorth, omega arith) | inr n ↦ (EastEastSouth, omega arith) ]
  | inr e ↦ elim (cases_lt (rank_of to) (rank_of from)) [ inl n ↦ (WestWestNorth, omega arith) | inr n ↦ (WestWestSouth, omega arith) ]
]

by_knight_step : (h : KnightStep) (from to : ℕ) → IsKnightStepBy h to from → IsKnightStep from to
by_knight_step EastEastNorth from to x = inr (omega arith)
by_knight_step EastEastSouth from to x = inr (omega arith)
by_knight_step EastNorthNorth from to x = inl (omega arith)
by_knight_step EastSouthSouth from to x = inl (omega arith)
by_knight_step WestWestNorth from to x = inr (omega arith)
by_knight_step WestWestSouth from to x = inr (omega arith)
by_knight_step WestNorthNorth from to x = inl (omega arith)
by_knight_step WestSouthSouth from to x = inl (omega arith)

pub attacked_along : (men : List (Option Piece)) (by : Side) (d : Direction) (to : ℕ) → IsAttackedAlong men by d to → IsAttacked men by to
attacked_along men by d to h = record { from = h.from; kind = h.kind; on_board = h.on_board; stands = h.stands; reaches = h.reaches }

pub attacked_by_knight : (men : List (Option Piece)) (by : Side) (h : KnightStep) (to : ℕ) → IsAttackedByKnight men by h to → IsAttacked men by to
attacked_by_knight men by h to x = record { from = x.from; kind = Knight; on_board = x.on_board; stands = x.stands; reaches = by_knight_step h x.from to x.step }

abbrev Attacks : List (Option Piece) → Side → ℕ → Kind → ℕ → Type 0
Attacks men by to kind from = (from < 64) × (man_at men from ≡ Some (record { side = by; kind = kind })) × Reaches men by kind from to

stepped : (men : List (Option Piece)) (by : Side) (to : ℕ) (kind : Kind) (from : ℕ) → Attacks men by to kind from → IsKingStep from to → (d : Direction) × IsAttackedAlong men by d to
stepped men by to kind from a h =
    let d = step_of from to h in
    (d.0, record { from = from; kind = kind; distance = 1; on_board = a.0; away = omega arith; along = d.1; clear = λ k s away within. absurd (omega arith); stands = a.1; reaches = a.2 })

rayed : (men : List (Option Piece)) (by : Side) (to : ℕ) (kind : Kind) (from : ℕ) → Attacks men by to kind from → Ray men kind from to → (d : Direction) × IsAttackedAlong men by d to
rayed men by to kind from a r =
    (opposite r.direction, record { from = from; kind = kind; distance = r.distance; on_board = a.0; away = r.away; along = along_back r.direction r.distance from to r.along; clear = clear_back men r.direction r.distance from to r.along r.clear; stands = a.1; reaches = a.2 })

pawn_step : (by : Side) (from to : ℕ) → IsPawnAttack by from to → IsKingStep from to
pawn_step White from to h = omega arith
pawn_step Black from to h = omega arith

abbrev pub Seen : List (Option Piece) → Side → ℕ → Type 0
Seen men by to = ((d : Direction) × IsAttackedAlong men by d to) ⊎ ((h : KnightStep) × IsAttackedByKnight men by h to)

seen_as : (men : List (Option Piece)) (by : Side) (to : ℕ) (kind : Kind) (from : ℕ) → Attacks men by to kind from → Seen men by to
seen_as men by to Pawn from a = inl (stepped men by to Pawn from a (pawn_step by from to a.2))
seen_as men by to Knight from a =
    let h = knight_step_of from to a.2 in
    inr (h.0, record { from = from; on_board = a.0; step = h.1; stands = a.1 })
seen_as men by to Bishop from a = inl (rayed men by to Bishop from a a.2)
seen_as men by to Rook from a = inl (rayed men by to Rook from a a.2)
seen_as men by to Queen from a = inl (rayed men by to Queen from a a.2)
seen_as men by to King from a = inl (stepped men by to King from a a.2)

-- each attack is seen from the square
pub seen : (men : List (Option Piece)) (by : Side) (to : ℕ) → IsAttacked men by to → Seen men by to
seen men by to h = seen_as men by to h.kind h.from (h.on_board, h.stands, h.reaches)

pub along_unique : (d : Direction) (n from a b : ℕ) → Along d n from a → Along d n from b → a ≡ b
along_unique North n from a b h i = omega arith
along_unique South n from a b h i = omega arith
along_unique East n from a b h i = omega arith
along_unique West n from a b h i = omega arith
along_unique NorthEast n from a b h i = omega arith
along_unique NorthWest n from a b h i = omega arith
along_unique SouthEast n from a b h i = omega arith
along_unique SouthWest n from a b h i = omega arith

pub inside : (d : Direction) (n from to : ℕ) → from < 64 → to < 64 → Along d n from to → IsInside d n from
inside North n from to lf lt h = omega arith
inside South n from to lf lt h = omega arith
inside East n from to lf lt h = omega arith
inside West n from to lf lt h = omega arith
inside NorthEast n from to lf lt h = omega arith
inside NorthWest n from to lf lt h = omega arith
inside SouthEast n from to lf lt h = omega arith
inside SouthWest n from to lf lt h = omega arith

none_some : {X : Type 0} (o : Option X) (x : X) → o ≡ None → o ≡ Some x → ⊥
none_some o x n h = let e = sym n ∙ h in cc

abbrev kind_on : Option Piece → Kind
kind_on None = King
kind_on (Some man) = man.kind

-- a man that is seen is the first one
pub along_first : (men : List (Option Piece)) (by : Side) (d : Direction) (to k s : ℕ) (man : Piece) → (h : IsAttackedAlong men by d to) → 0 < k → IsClear men d k to → Along d k to s → man_at men s ≡ Some man → h.from ≡ s
along_first men by d to k s man h away clear along stands = elim (cases_lt h.distance k) [
  | inl lt ↦ absurd (none_some _ _ (clear h.distance h.from h.away lt h.along) h.stands)
  | inr ge ↦ elim (cases_lt k h.distance) [
    | inl lt ↦ absurd (none_some _ _ (h.clear k s away lt along) stands)
    | inr le ↦
        let e : h.distance ≡ k = omega arith in
        along_unique d k to h.from s (rw e at h.along) along
  ]
]

pub along_within : (men : List (Option Piece)) (by : Side) (d : Direction) (to k : ℕ) → (h : IsAttackedAlong men by d to) → h.distance < k → IsClear men d k to → ⊥
along_within men by d to k h lt clear = none_some _ _ (clear h.distance h.from h.away lt h.along) h.stands

pub along_reaches : (men : List (Option Piece)) (by : Side) (d : Direction) (to k s : ℕ) (man : Piece) → IsAttackedAlong men by d to → 0 < k → IsClear men d k to → Along d k to s → man_at men s ≡ Some man → Reaches men by man.kind s to
along_reaches men by d to k s man h away clear along stands =
    let e = along_first men by d to k s man h away clear along stands in
    let there = rw e at h.stands in
    let same : h.kind ≡ man.kind = ap kind_on (sym there ∙ stands) in
    rw (e, same) at h.reaches

-- where each direction and each step of a knight stands among the eight
abbrev pub place_of_direction : Direction → ℕ
place_of_direction North = 0
place_of_direction South = 1
place_of_direction East = 2
place_of_direction West = 3
place_of_direction NorthEast = 4
place_of_direction NorthWest = 5
place_of_direction SouthEast = 6
place_of_direction SouthWest = 7

abbrev pub place_of_step : KnightStep → ℕ
place_of_step EastEastNorth = 0
place_of_step EastEastSouth = 1
place_of_step EastNorthNorth = 2
place_of_step EastSouthSouth = 3
place_of_step WestWestNorth = 4
place_of_step WestWestSouth = 5
place_of_step WestNorthNorth = 6
place_of_step WestSouthSouth = 7

there_direction : (d : Direction) → get_or DIRECTIONS (place_of_direction d) North ≡ d
there_direction North = refl
there_direction South = refl
there_direction East = refl
there_direction West = refl
there_direction NorthEast = refl
there_direction NorthWest = refl
there_direction SouthEast = refl
there_direction SouthWest = refl

there_step : (h : KnightStep) → get_or KNIGHT_STEPS (place_of_step h) EastEastNorth ≡ h
there_step EastEastNorth = refl
there_step EastEastSouth = refl
there_step EastNorthNorth = refl
there_step EastSouthSouth = refl
there_step WestWestNorth = refl
there_step WestWestSouth = refl
there_step WestNorthNorth = refl
there_step WestSouthSouth = refl

pub direction_below : (d : Direction) → place_of_direction d < 8
direction_below North = omega arith
direction_below South = omega arith
direction_below East = omega arith
direction_below West = omega arith
direction_below NorthEast = omega arith
direction_below NorthWest = omega arith
direction_below SouthEast = omega arith
direction_below SouthWest = omega arith

pub step_below : (h : KnightStep) → place_of_step h < 8
step_below EastEastNorth = omega arith
step_below EastEastSouth = omega arith
step_below EastNorthNorth = omega arith
step_below EastSouthSouth = omega arith
step_below WestWestNorth = omega arith
step_below WestWestSouth = omega arith
step_below WestNorthNorth = omega arith
step_below WestSouthSouth = omega arith

-- what is so of none of those before a place, nor of the one there, is so of none before the next place
none_more : {A : Type 0} (P : A → Type 0) (place : A → ℕ) (all : List A) (first : A) → ((x : A) → get_or all (place x) first ≡ x) → (n : ℕ) → (P (get_or all n first) → ⊥) → ((x : A) → place x < n → P x → ⊥) → (x : A) → place x < n + 1 → P x → ⊥
none_more P place all first there n here before x lt h = elim (cases_lt (place x) n) [
  | inl less ↦ before x less h
  | inr ge ↦
      let e : n ≡ place x = omega arith in
      let same : get_or all n first ≡ x = ap (λ i. get_or all i first) e ∙ there x in
      here (rw same h)
]

pub no_direction_more : (P : Direction → Type 0) (n : ℕ) → (P (get_or DIRECTIONS n North) → ⊥) → ((d : Direction) → place_of_direction d < n → P d → ⊥) → (d : Direction) → place_of_direction d < n + 1 → P d → ⊥
no_direction_more P n here before = none_more P place_of_direction DIRECTIONS North there_direction n here before

pub no_step_more : (P : KnightStep → Type 0) (n : ℕ) → (P (get_or KNIGHT_STEPS n EastEastNorth) → ⊥) → ((h : KnightStep) → place_of_step h < n → P h → ⊥) → (h : KnightStep) → place_of_step h < n + 1 → P h → ⊥
no_step_more P n here before = none_more P place_of_step KNIGHT_STEPS EastEastNorth there_step n here before

pub each_direction : (P : Direction → Type 0) → P North → P South → P East → P West → P NorthEast → P NorthWest → P SouthEast → P SouthWest → (d : Direction) → P d
each_direction P a b c d e f g h North = a
each_direction P a b c d e f g h South = b
each_direction P a b c d e f g h East = c
each_direction P a b c d e f g h West = d
each_direction P a b c d e f g h NorthEast = e
each_direction P a b c d e f g h NorthWest = f
each_direction P a b c d e f g h SouthEast = g
each_direction P a b c d e f g h SouthWest = h

pub each_knight_step : (P : KnightStep → Type 0) → P EastEastNorth → P EastEastSouth → P EastNorthNorth → P EastSouthSouth → P WestWestNorth → P WestWestSouth → P WestNorthNorth → P WestSouthSouth → (h : KnightStep) → P h
each_knight_step P a b c d e f g h EastEastNorth = a
each_knight_step P a b c d e f g h EastEastSouth = b
each_knight_step P a b c d e f g h EastNorthNorth = c
each_knight_step P a b c d e f g h EastSouthSouth = d
each_knight_step P a b c d e f g h WestWestNorth = e
each_knight_step P a b c d e f g h WestWestSouth = f
each_knight_step P a b c d e f g h WestNorthNorth = g
each_knight_step P a b c d e f g h WestSouthSouth = h

-- what lies j squares on, seen back from n squares on, lies n - j squares off
pub along_rest : (d : Direction) (n j from to s : ℕ) → j < n → Along d n from to → Along d j from s → Along (opposite d) (n - j) to s
along_rest North n j from to s lt h b = omega arith
along_rest South n j from to s lt h b = omega arith
along_rest East n j from to s lt h b = omega arith
along_rest West n j from to s lt h b = omega arith
along_rest NorthEast n j from to s lt h b = omega arith
along_rest NorthWest n j from to s lt h b = omega arith
along_rest SouthEast n j from to s lt h b = omega arith
along_rest SouthWest n j from to s lt h b = omega arith

pub along_distance : (d : Direction) (n j from to : ℕ) → Along d n from to → Along d j from to → n ≡ j
along_distance North n j from to h b = omega arith
along_distance South n j from to h b = omega arith
along_distance East n j from to h b = omega arith
along_distance West n j from to h b = omega arith
along_distance NorthEast n j from to h b = omega arith
along_distance NorthWest n j from to h b = omega arith
along_distance SouthEast n j from to h b = omega arith
along_distance SouthWest n j from to h b = omega arith
