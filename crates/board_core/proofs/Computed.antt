use Rattle.std.proofs.Common.{ℕ, zero, suc, ◌≡◌, ◌<◌, ◌≤◌, ◌⊎◌, List, Option, Some, None, Bool, true, false, ◌&&◌, nat_le, is_none, length, get_or, HoldsAt, Decides, refl, ap, arith, inl, inr}
use Rattle.std.specs.List.{list_any}
use Rattle.std.proofs.lemmas.Bool.Decides.{nat_tests, Decides-and, Decides-or, Decides-not, Decides-like, Decides-eqb, Decides-ltb, Decides-by_or, same_from_decides}
use Rattle.std.proofs.lemmas.Bool.{cases_lt, cases_eq, cases_Bool}
use Rattle.board_core.specs.declared.piece.Piece.{Piece}
use Rattle.board_core.specs.declared.piece.Side.{Side}
use Rattle.board_core.specs.declared.piece.Side.TheVariants.{White, Black}
use Rattle.board_core.specs.declared.piece.Kind.{Kind}
use Rattle.board_core.specs.declared.piece.Kind.TheVariants.{Pawn, Knight, Bishop, Rook, Queen, King}
use Rattle.board_core.specs.declared.attack.Direction.{Direction}
use Rattle.board_core.specs.declared.attack.Direction.TheVariants.{North, South, East, West, NorthEast, NorthWest, SouthEast, SouthWest}
use Rattle.board_core.specs.Side.{other}
use Rattle.board_core.specs.Attack.{man_at, Along, IsClear, Slides, Ray, IsKingStep, IsKnightStep, IsPawnAttack, Reaches, IsAttacked, IsInCheck}
use Rattle.board_core.specs.Position.{is_same_side, is_king, is_of, is_king_of}
use Rattle.board_core.specs.Computed.{some_below, each_below, is_along, onward, is_clear, goes, directions, is_line, is_ray, is_king_step, is_knight_step, is_pawn_attack, reaches_square, attacks, is_attacked, is_in_check}

pub Decides-leb : (a b : ℕ) → Decides (nat_le a b) (a ≤ b)
Decides-leb a b = (λ h. grind (arith, nat_tests), λ h. grind (arith, nat_tests))

-- some number below n, and each
some_below_least : (n : ℕ) (test : ℕ → Bool) (k : ℕ) → k < n → test k ≡ true → some_below n test ≡ true
unfolding some_below
some_below_least zero test k lt e = absurd (omega arith)
some_below_least (suc n) test k lt e = elim (cases_Bool (test n)) [
  | inl t ↦ rw t refl
  | inr f ↦ elim (cases_lt k n) [
    | inl less ↦ rw f (some_below_least n test k less e)
    | inr ge ↦ let same : k ≡ n = omega arith in let g = rw same at e in rw g refl
  ]
]

some_below_found : (n : ℕ) (test : ℕ → Bool) → some_below n test ≡ true → (k : ℕ) × (k < n) × (test k ≡ true)
unfolding some_below
some_below_found zero test e = absurd (let f = e in cc)
some_below_found (suc n) test e = elim (cases_Bool (test n)) [
  | inl t ↦ (n, omega arith, t)
  | inr f ↦ let r = some_below_found n test (rw f at e) in (r.0, omega arith, r.2)
]

pub Decides-some_below : (n : ℕ) (test : ℕ → Bool) (P : ℕ → Type 0) → ((k : ℕ) → k < n → Decides (test k) (P k)) → Decides (some_below n test) ((k : ℕ) × (k < n) × P k)
Decides-some_below n test P each = (
  λ h. let r = some_below_found n test h in (r.0, r.1, (each r.0 r.1).0 r.2),
  λ r. some_below_least n test r.0 r.1 ((each r.0 r.1).1 r.2),
)

pub Decides-each_below : (n : ℕ) (test : ℕ → Bool) (P : ℕ → Type 0) → ((k : ℕ) → k < n → Decides (test k) (P k)) → Decides (each_below n test) ((k : ℕ) → k < n → P k)
unfolding each_below
Decides-each_below zero test P each = (λ _ k lt. absurd (omega arith), λ _. refl)
Decides-each_below (suc n) test P each =
    let rest = Decides-each_below n test P (λ k lt. each k (omega arith)) in
    let both = Decides-and _ _ (each n (omega arith)) rest in (
      λ h k lt. let b = both.0 h in elim (cases_lt k n) [
        | inl less ↦ b.1 k less
        | inr ge ↦ let same : k ≡ n = omega arith in rw same b.0
      ],
      λ all. both.1 (all n (omega arith), λ k lt. all k (omega arith)),
    )

-- the second test is decided where the first holds
pub Decides-and_then : {P Q : Type 0} (x y : Bool) → Decides x P → (P → Decides y Q) → Decides (x && y) (P × Q)
Decides-and_then true y h k = (λ e. (h.0 refl, (k (h.0 refl)).0 e), λ r. (k r.0).1 r.1)
Decides-and_then false y h k = (λ e. absurd (let f = e in cc), λ r. let f = h.1 r.0 in cc)

pub Decides-none : {X : Type 0} (o : Option X) → Decides (is_none o) (o ≡ None)
Decides-none None = (λ _. refl, λ _. refl)
Decides-none (Some x) = (λ e. absurd (let f = e in cc), λ e. let f = e in cc)

pub Decides-same_side : (s t : Side) → Decides (is_same_side s t) (t ≡ s)
Decides-same_side White White = (λ _. refl, λ _. refl)
Decides-same_side White Black = (λ e. absurd (let f = e in cc), λ e. let f = e in cc)
Decides-same_side Black White = (λ e. absurd (let f = e in cc), λ e. let f = e in cc)
Decides-same_side Black Black = (λ _. refl, λ _. refl)

Decides-king : (k : Kind) → Decides (is_king k) (k ≡ King)
Decides-king Pawn = (λ e. absurd (let f = e in cc), λ e. let f = e in cc)
Decides-king Knight = (λ e. absurd (let f = e in cc), λ e. let f = e in cc)
Decides-king Bishop = (λ e. absurd (let f = e in cc), λ e. let f = e in cc)
Decides-king Rook = (λ e. absurd (let f = e in cc), λ e. let f = e in cc)
Decides-king Queen = (λ e. absurd (let f = e in cc), λ e. let f = e in cc)
Decides-king King = (λ _. refl, λ _. refl)

abbrev pub some_man : Side → Kind → Option Piece
some_man side kind = Some (record { side = side; kind = kind })

abbrev side_on : Option Piece → Side
side_on None = White
side_on (Some man) = man.side

abbrev kind_on : Option Piece → Kind
kind_on None = Pawn
kind_on (Some man) = man.kind

same_man : (a b : Side) (k l : Kind) → a ≡ b → k ≡ l → some_man a k ≡ some_man b l
same_man a b k l e f = cc

-- a test for a kind of man of a side
pub Decides-man : (side : Side) (kind : Kind) (man : Piece) (x y : Bool) → Decides x (man.side ≡ side) → Decides y (man.kind ≡ kind) → Decides (x && y) (Some man ≡ some_man side kind)
Decides-man side kind man x y h k = Decides-like (x && y) (λ b. same_man man.side side man.kind kind b.0 b.1) (λ e. (ap side_on e, ap kind_on e)) (Decides-and x y h k)

pub Decides-king_of : (side : Side) (o : Option Piece) → Decides (is_king_of side o) (o ≡ some_man side King)
Decides-king_of side None = (λ e. absurd (let f = e in cc), λ e. let f = e in cc)
Decides-king_of side (Some man) = Decides-man side King man _ _ (Decides-same_side side man.side) (Decides-king man.kind)

-- some man of this side stands there
pub Decides-of : (side : Side) (o : Option Piece) → Decides (is_of side o) ((kind : Kind) × (o ≡ some_man side kind))
Decides-of side None = (λ e. absurd (let f = e in cc), λ r. let f = r.1 in cc)
Decides-of side (Some man) =
    Decides-like (is_same_side side man.side) (λ e. (man.kind, same_man man.side side man.kind man.kind e refl)) (λ r. ap side_on r.1) (Decides-same_side side man.side)

pub Decides-along : (d : Direction) (n from to : ℕ) → Decides (is_along d n from to) (Along d n from to)
Decides-along North n from to = Decides-and _ _ (Decides-eqb _ _) (Decides-eqb _ _)
Decides-along South n from to = Decides-and _ _ (Decides-eqb _ _) (Decides-eqb _ _)
Decides-along East n from to = Decides-and _ _ (Decides-eqb _ _) (Decides-eqb _ _)
Decides-along West n from to = Decides-and _ _ (Decides-eqb _ _) (Decides-eqb _ _)
Decides-along NorthEast n from to = Decides-and _ _ (Decides-eqb _ _) (Decides-eqb _ _)
Decides-along NorthWest n from to = Decides-and _ _ (Decides-eqb _ _) (Decides-eqb _ _)
Decides-along SouthEast n from to = Decides-and _ _ (Decides-eqb _ _) (Decides-eqb _ _)
Decides-along SouthWest n from to = Decides-and _ _ (Decides-eqb _ _) (Decides-eqb _ _)

-- the square that lies k squares on
onward_is : (d : Direction) (k from s : ℕ) → Along d k from s → s ≡ onward d k from
onward_is North k from s h = omega arith
onward_is South k from s h = omega arith
onward_is East k from s h = omega arith
onward_is West k from s h = omega arith
onward_is NorthEast k from s h = omega arith
onward_is NorthWest k from s h = omega arith
onward_is SouthEast k from s h = omega arith
onward_is SouthWest k from s h = omega arith

onward_along : (d : Direction) (n k from to : ℕ) → k < n → Along d n from to → Along d k from (onward d k from)
onward_along North n k from to lt h = (omega arith, omega arith)
onward_along South n k from to lt h = (omega arith, omega arith)
onward_along East n k from to lt h = (omega arith, omega arith)
onward_along West n k from to lt h = (omega arith, omega arith)
onward_along NorthEast n k from to lt h = (omega arith, omega arith)
onward_along NorthWest n k from to lt h = (omega arith, omega arith)
onward_along SouthEast n k from to lt h = (omega arith, omega arith)
onward_along SouthWest n k from to lt h = (omega arith, omega arith)

zero_or : (k : ℕ) (P : Type 0) → (k ≡ 0) ⊎ P → 0 < k → P
zero_or k P (inl e) lt = absurd (omega arith)
zero_or k P (inr p) lt = p

or_zero : (k : ℕ) (P : Type 0) → (0 < k → P) → (k ≡ 0) ⊎ P
or_zero k P h = elim (cases_eq k 0) [ inl e ↦ inl e | inr ne ↦ inr (h (omega arith)) ]

pub Decides-clear : (men : List (Option Piece)) (d : Direction) (n from to : ℕ) → Along d n from to → Decides (is_clear men d n from) (IsClear men d n from)
Decides-clear men d n from to h =
    Decides-like (is_clear men d n from)
    (λ all k s away within along. rw (onward_is d k from s along) (zero_or k _ (all k within) away))
    (λ clear k within. or_zero k _ (λ away. clear k (onward d k from) away within (onward_along d n k from to within h)))
    (Decides-each_below n _ (λ k. (k ≡ 0) ⊎ (man_at men (onward d k from) ≡ None)) (λ k lt. Decides-or _ _ (Decides-eqb k 0) (Decides-none (man_at men (onward d k from)))))

Decides-line : (men : List (Option Piece)) (d : Direction) (from to n : ℕ) → Decides (is_line men d from to n) (((0 < n) × Along d n from to) × IsClear men d n from)
Decides-line men d from to n = Decides-and_then _ _ (Decides-and _ _ (Decides-ltb 0 n) (Decides-along d n from to)) (λ h. Decides-clear men d n from to h.1)

Decides-goes_straight : (d : Direction) → Decides (goes Rook d) (Slides Rook d)
Decides-goes_straight North = (λ _. tt, λ _. refl)
Decides-goes_straight South = (λ _. tt, λ _. refl)
Decides-goes_straight East = (λ _. tt, λ _. refl)
Decides-goes_straight West = (λ _. tt, λ _. refl)
Decides-goes_straight NorthEast = (λ e. let f = e in cc, λ h. absurd h)
Decides-goes_straight NorthWest = (λ e. let f = e in cc, λ h. absurd h)
Decides-goes_straight SouthEast = (λ e. let f = e in cc, λ h. absurd h)
Decides-goes_straight SouthWest = (λ e. let f = e in cc, λ h. absurd h)

Decides-goes_diagonal : (d : Direction) → Decides (goes Bishop d) (Slides Bishop d)
Decides-goes_diagonal North = (λ e. let f = e in cc, λ h. absurd h)
Decides-goes_diagonal South = (λ e. let f = e in cc, λ h. absurd h)
Decides-goes_diagonal East = (λ e. let f = e in cc, λ h. absurd h)
Decides-goes_diagonal West = (λ e. let f = e in cc, λ h. absurd h)
Decides-goes_diagonal NorthEast = (λ _. tt, λ _. refl)
Decides-goes_diagonal NorthWest = (λ _. tt, λ _. refl)
Decides-goes_diagonal SouthEast = (λ _. tt, λ _. refl)
Decides-goes_diagonal SouthWest = (λ _. tt, λ _. refl)

Decides-goes : (kind : Kind) (d : Direction) → Decides (goes kind d) (Slides kind d)
Decides-goes Pawn d = (λ e. let f = e in cc, λ h. absurd h)
Decides-goes Knight d = (λ e. let f = e in cc, λ h. absurd h)
Decides-goes Bishop d = Decides-goes_diagonal d
Decides-goes Rook d = Decides-goes_straight d
Decides-goes Queen d = (λ _. tt, λ _. refl)
Decides-goes King d = (λ e. let f = e in cc, λ h. absurd h)

-- each direction is in the list
place_of_direction : (P : Direction → Type 0) (d : Direction) → P d → (k : ℕ) × (k < length directions) × HoldsAt P directions k
place_of_direction P North h = (0, omega arith, λ _. h)
place_of_direction P South h = (1, omega arith, λ _. h)
place_of_direction P East h = (2, omega arith, λ _. h)
place_of_direction P West h = (3, omega arith, λ _. h)
place_of_direction P NorthEast h = (4, omega arith, λ _. h)
place_of_direction P NorthWest h = (5, omega arith, λ _. h)
place_of_direction P SouthEast h = (6, omega arith, λ _. h)
place_of_direction P SouthWest h = (7, omega arith, λ _. h)

Decides-directions : (test : Direction → Bool) (P : Direction → Type 0) → ((d : Direction) → Decides (test d) (P d)) → Decides (list_any test directions) ((d : Direction) × P d)
Decides-directions test P each =
    Decides-like _ (λ r. (get_or directions r.0 North, r.2 North)) (λ r. place_of_direction P r.0 r.1)
    (Decides-by_or test P (list_any test) each refl (λ _ _. refl) directions)

along_below : (d : Direction) (n from to : ℕ) → from < 64 → to < 64 → Along d n from to → n < 8
along_below North n from to lf lt h = omega arith
along_below South n from to lf lt h = omega arith
along_below East n from to lf lt h = omega arith
along_below West n from to lf lt h = omega arith
along_below NorthEast n from to lf lt h = omega arith
along_below NorthWest n from to lf lt h = omega arith
along_below SouthEast n from to lf lt h = omega arith
along_below SouthWest n from to lf lt h = omega arith

pub Decides-ray : (men : List (Option Piece)) (kind : Kind) (from to : ℕ) → from < 64 → to < 64 → Decides (is_ray men kind from to) (Ray men kind from to)
unfolding is_ray
Decides-ray men kind from to lf lt =
    Decides-like _
    (λ r. record { direction = r.0; distance = r.1.1.0; goes = r.1.0; away = r.1.1.2.0.0; along = r.1.1.2.0.1; clear = r.1.1.2.1 })
    (λ ray. (ray.direction, (ray.goes, (ray.distance, along_below ray.direction ray.distance from to lf lt ray.along, ((ray.away, ray.along), ray.clear)))))
    (Decides-directions _ (λ d. Slides kind d × ((n : ℕ) × (n < 8) × (((0 < n) × Along d n from to) × IsClear men d n from)))
    (λ d. Decides-and _ _ (Decides-goes kind d) (Decides-some_below 8 _ _ (λ n _. Decides-line men d from to n))))

pub Decides-king_step : (from to : ℕ) → Decides (is_king_step from to) (IsKingStep from to)
Decides-king_step from to =
    Decides-like _ (λ r. (r.0.0, r.0.1, r.1)) (λ r. ((r.0, r.1), r.2))
    (Decides-and _ _ (Decides-and _ _ (Decides-not _ (Decides-eqb from to)) (Decides-leb _ 1)) (Decides-leb _ 1))

pub Decides-knight_step : (from to : ℕ) → Decides (is_knight_step from to) (IsKnightStep from to)
Decides-knight_step from to =
    Decides-or _ _ (Decides-and _ _ (Decides-eqb _ 1) (Decides-eqb _ 2)) (Decides-and _ _ (Decides-eqb _ 2) (Decides-eqb _ 1))

pub Decides-pawn_attack : (side : Side) (from to : ℕ) → Decides (is_pawn_attack side from to) (IsPawnAttack side from to)
Decides-pawn_attack White from to = Decides-and _ _ (Decides-eqb _ 1) (Decides-eqb _ _)
Decides-pawn_attack Black from to = Decides-and _ _ (Decides-eqb _ 1) (Decides-eqb _ _)

pub Decides-reaches : (men : List (Option Piece)) (side : Side) (kind : Kind) (from to : ℕ) → from < 64 → to < 64 → Decides (reaches_square men side kind from to) (Reaches men side kind from to)
Decides-reaches men side Pawn from to lf lt = Decides-pawn_attack side from to
Decides-reaches men side Knight from to lf lt = Decides-knight_step from to
Decides-reaches men side Bishop from to lf lt = Decides-ray men Bishop from to lf lt
Decides-reaches men side Rook from to lf lt = Decides-ray men Rook from to lf lt
Decides-reaches men side Queen from to lf lt = Decides-ray men Queen from to lf lt
Decides-reaches men side King from to lf lt = Decides-king_step from to

reaches_as : (men : List (Option Piece)) (side : Side) (a b : Kind) (from to : ℕ) → b ≡ a → Reaches men side a from to → Reaches men side b from to
reaches_as men side a b from to e h = rw e h

pub Decides-attacks : (men : List (Option Piece)) (by : Side) (o : Option Piece) (from to : ℕ) → from < 64 → to < 64 → Decides (attacks men by o from to) ((kind : Kind) × (o ≡ some_man by kind) × Reaches men by kind from to)
Decides-attacks men by None from to lf lt = (λ e. absurd (let f = e in cc), λ r. let f = r.1 in cc)
Decides-attacks men by (Some man) from to lf lt =
    Decides-like _
    (λ r. (man.kind, same_man man.side by man.kind man.kind r.0 refl, r.1))
    (λ r. (ap side_on r.1, reaches_as men by r.0 man.kind from to (ap kind_on r.1) r.2))
    (Decides-and _ _ (Decides-same_side by man.side) (Decides-reaches men by man.kind from to lf lt))

pub Decides-attacked : (men : List (Option Piece)) (by : Side) (to : ℕ) → to < 64 → Decides (is_attacked men by to) (IsAttacked men by to)
unfolding is_attacked
Decides-attacked men by to lt =
    Decides-like _
    (λ r. record { from = r.0; kind = r.2.0; on_board = r.1; stands = r.2.1; reaches = r.2.2 })
    (λ a. (a.from, a.on_board, (a.kind, a.stands, a.reaches)))
    (Decides-some_below 64 _ _ (λ from lf. Decides-attacks men by (man_at men from) from to lf lt))

pub Decides-in_check : (men : List (Option Piece)) (side : Side) → Decides (is_in_check men side) (IsInCheck men side)
unfolding is_in_check
Decides-in_check men side =
    Decides-like _
    (λ r. record { king = r.0; on_board = r.1; stands = r.2.0; attacked = r.2.1 })
    (λ c. (c.king, c.on_board, (c.stands, c.attacked)))
    (Decides-some_below 64 _ _ (λ s lt. Decides-and _ _ (Decides-king_of side (man_at men s)) (Decides-attacked men (other side) s lt)))

-- what decides the relation is the computed test
pub check_computed : (men : List (Option Piece)) (side : Side) (r : Bool) → Decides r (IsInCheck men side) → r ≡ is_in_check men side
check_computed men side r h = same_from_decides r (is_in_check men side) h (Decides-in_check men side)
