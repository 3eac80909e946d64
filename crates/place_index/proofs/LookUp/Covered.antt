-- Each position of three to five men has the material of a table: its men sorted into kings and the others of each side, and
-- these by their codes.
use Rattle.std.proofs.Common.{◌≡◌, ◌<◌, ◌≤◌, ◌+◌, ◌⊎◌, ℕ, suc, Bool, true, false, cond, List, [], ◌∷◌, ◌++◌, map, length, replicate, count_by, Option, Some, None, refl, sym, ap, ◌∙◌, subst, arith, inl, inr, length-append}
use Rattle.std.specs.Prelude.{nat_le, is_some, slice_index}
use Rattle.std.specs.List.Sorted.{IsPermutation}
use Rattle.std.proofs.lemmas.Bool.{leb-true, leb-false, cases_lt}
use Rattle.std.proofs.lemmas.List.{length-map, length-replicate}
use Rattle.std.proofs.lemmas.List.Sums.{sum_by-cons}
use Rattle.std.proofs.lemmas.List.Sorted.{IsPermutation-refl, IsPermutation-cons, IsPermutation-sym, IsPermutation-trans, IsPermutation-middle, IsPermutation-append, length_permutation}
use Rattle.board_core.specs.declared.piece.Piece.{Piece}
use Rattle.board_core.specs.declared.piece.Side.{Side}
use Rattle.board_core.specs.declared.piece.Side.TheVariants.{White, Black}
use Rattle.board_core.specs.declared.piece.Kind.{Kind}
use Rattle.board_core.specs.declared.piece.Kind.TheVariants.{Pawn, Knight, Bishop, Rook, Queen, King}
use Rattle.board_core.specs.declared.parts.Parts.{Parts}
use Rattle.board_core.specs.Position.{IsPosition, is_king_of}
use Rattle.board_core.specs.ComputedMoves.{count_of_men}
use Rattle.place_index.specs.Material.{Men, IsInOrder, IsTable, TablesAreNumbered, men_of, pieces_of}
use Rattle.place_index.specs.Men.{man, codes_of, exchanged, other_side}
use Rattle.place_index.specs.Placed.{men_from, men_on, IsNamed}
use Rattle.place_index.specs.Covered.{HasMaterial, FewMenHaveTables}
use Rattle.place_index.specs.declared.man.Man.{Man}

-- ---- codes in falling order

-- one code more
insert : ℕ → List ℕ → List ℕ
insert c [] = c ∷ []
insert c (x ∷ xs) = cond (nat_le x c) (c ∷ x ∷ xs) (x ∷ insert c xs)

insert_order : (most c : ℕ) (xs : List ℕ) → 1 ≤ c → c ≤ most → IsInOrder most xs → IsInOrder most (insert c xs)
unfolding insert
insert_order most c [] one le h = (one, le, tt)
insert_order most c (x ∷ xs) one le h = by (nat_le x c) refl (λ below. insert_order x c xs one below h.2)
  where
    by : (b : Bool) → nat_le x c ≡ b → (c ≤ x → IsInOrder x (insert c xs)) → IsInOrder most (cond b (c ∷ x ∷ xs) (x ∷ insert c xs))
    by true e rest = (one, le, (h.0, leb-true x c e, h.2))
    by false e rest = let more : c < x = leb-false x c e in (h.0, h.1, rest (omega arith))

insert_arranges : (f : ℕ → ℕ) (c : ℕ) (xs : List ℕ) → IsPermutation (f c ∷ map f xs) (map f (insert c xs))
unfolding insert
insert_arranges f c [] = IsPermutation-refl (f c ∷ [])
insert_arranges f c (x ∷ xs) = by (nat_le x c) (insert_arranges f c xs)
  where
    by : (b : Bool) → IsPermutation (f c ∷ map f xs) (map f (insert c xs)) → IsPermutation (f c ∷ f x ∷ map f xs) (map f (cond b (c ∷ x ∷ xs) (x ∷ insert c xs)))
    by true rest = IsPermutation-refl (f c ∷ f x ∷ map f xs)
    by false rest = IsPermutation-trans (f c ∷ f x ∷ map f xs) (f x ∷ f c ∷ map f xs) (f x ∷ map f (insert c xs))
        (IsPermutation-sym (f x ∷ f c ∷ map f xs) (f c ∷ f x ∷ map f xs) (IsPermutation-middle (f x ∷ []) (f c) (map f xs)))
        (IsPermutation-cons (f x) (f c ∷ map f xs) (map f (insert c xs)) rest)

insert_length : (c : ℕ) (xs : List ℕ) → length (insert c xs) ≡ suc (length xs)
unfolding insert
insert_length c [] = refl
insert_length c (x ∷ xs) = by (nat_le x c) (insert_length c xs)
  where
    by : (b : Bool) → length (insert c xs) ≡ suc (length xs) → length (cond b (c ∷ x ∷ xs) (x ∷ insert c xs)) ≡ suc (length (x ∷ xs))
    by true rest = refl
    by false rest = omega (arith, rest)

-- ---- the men of a board, sorted

abbrev own : ℕ → ℕ
own c = c

abbrev others : ℕ → ℕ
others c = 8 + c

-- so many kings of both sides, and the other men of both
abbrev sorted : ℕ → ℕ → List ℕ → List ℕ → List ℕ
sorted kings enemies first second = replicate kings 6 ++ (replicate enemies 14 ++ (map own first ++ map others second))

add_king : (cs : List ℕ) (kings enemies : ℕ) (first second : List ℕ) → IsPermutation cs (sorted kings enemies first second) → IsPermutation (6 ∷ cs) (sorted (suc kings) enemies first second)
add_king cs kings enemies first second is = IsPermutation-cons 6 cs (sorted kings enemies first second) is

add_enemy : (cs : List ℕ) (kings enemies : ℕ) (first second : List ℕ) → IsPermutation cs (sorted kings enemies first second) → IsPermutation (14 ∷ cs) (sorted kings (suc enemies) first second)
add_enemy cs kings enemies first second is =
    let rest : List ℕ = replicate enemies 14 ++ (map own first ++ map others second) in
    IsPermutation-trans (14 ∷ cs) (14 ∷ sorted kings enemies first second) (sorted kings (suc enemies) first second)
    (IsPermutation-cons 14 cs (sorted kings enemies first second) is)
    (IsPermutation-sym (replicate kings 6 ++ 14 ∷ rest) (14 ∷ (replicate kings 6 ++ rest)) (IsPermutation-middle (replicate kings 6) 14 rest))

-- behind the front of a list
behind : (front : List ℕ) (x : ℕ) (old new : List ℕ) → IsPermutation (x ∷ old) new → IsPermutation (x ∷ (front ++ old)) (front ++ new)
behind front x old new is =
    IsPermutation-trans (x ∷ (front ++ old)) (front ++ x ∷ old) (front ++ new)
    (IsPermutation-sym (front ++ x ∷ old) (x ∷ (front ++ old)) (IsPermutation-middle front x old))
    (IsPermutation-append front front (x ∷ old) new (IsPermutation-refl front) is)

add_first : (c : ℕ) (cs : List ℕ) (kings enemies : ℕ) (first second : List ℕ) → IsPermutation cs (sorted kings enemies first second) → IsPermutation (c ∷ cs) (sorted kings enemies (insert c first) second)
add_first c cs kings enemies first second is =
    let men : List ℕ = map own first ++ map others second in
    IsPermutation-trans (c ∷ cs) (c ∷ sorted kings enemies first second) (sorted kings enemies (insert c first) second)
    (IsPermutation-cons c cs (sorted kings enemies first second) is)
    (behind (replicate kings 6) c (replicate enemies 14 ++ men) (replicate enemies 14 ++ (map own (insert c first) ++ map others second))
    (behind (replicate enemies 14) c men (map own (insert c first) ++ map others second)
    (IsPermutation-append (c ∷ map own first) (map own (insert c first)) (map others second) (map others second) (insert_arranges own c first) (IsPermutation-refl (map others second)))))

add_second : (c : ℕ) (cs : List ℕ) (kings enemies : ℕ) (first second : List ℕ) → IsPermutation cs (sorted kings enemies first second) → IsPermutation ((8 + c) ∷ cs) (sorted kings enemies first (insert c second))
add_second c cs kings enemies first second is =
    let men : List ℕ = map own first ++ map others second in
    IsPermutation-trans ((8 + c) ∷ cs) ((8 + c) ∷ sorted kings enemies first second) (sorted kings enemies first (insert c second))
    (IsPermutation-cons (8 + c) cs (sorted kings enemies first second) is)
    (behind (replicate kings 6) (8 + c) (replicate enemies 14 ++ men) (replicate enemies 14 ++ (map own first ++ map others (insert c second)))
    (behind (replicate enemies 14) (8 + c) men (map own first ++ map others (insert c second))
    (behind (map own first) (8 + c) (map others second) (map others (insert c second)) (insert_arranges others c second))))

-- the men of some squares, by white's and by black's colours
record Sorted (board : List (Option Piece)) (men : List Man) : Type 0 where
  white : List ℕ
  black : List ℕ
  kings : ℕ
  enemies : ℕ
  white_order : IsInOrder 5 white
  black_order : IsInOrder 5 black
  kings_are : kings ≡ count_by (is_king_of White) board
  enemies_are : enemies ≡ count_by (is_king_of Black) board
  many : kings + enemies + length white + length black ≡ count_by is_some board
  is : IsPermutation (codes_of men) (sorted kings enemies white black)
  exchanged_is : IsPermutation (codes_of (exchanged men)) (sorted enemies kings black white)

counted : (test : Option Piece → Bool) (o : Option Piece) (rest : List (Option Piece)) → count_by test (o ∷ rest) ≡ cond (test o) 1 0 + count_by test rest
counted test o rest = sum_by-cons (λ o. cond (test o) 1 0) o rest

-- the same of some squares more
with_none : (s : ℕ) (rest : List (Option Piece)) → Sorted rest (men_from (suc s) rest) → Sorted (None ∷ rest) (men_from s (None ∷ rest))
unfolding men_from
with_none s rest r =
    let w : count_by (is_king_of White) (None ∷ rest) ≡ 0 + count_by (is_king_of White) rest = counted (is_king_of White) (None) rest in
    let b : count_by (is_king_of Black) (None ∷ rest) ≡ 0 + count_by (is_king_of Black) rest = counted (is_king_of Black) (None) rest in
    let all : count_by is_some (None ∷ rest) ≡ 0 + count_by is_some rest = counted is_some None rest in
    record {
      white = r.white;
      black = r.black;
      kings = r.kings;
      enemies = r.enemies;
      white_order = r.white_order;
      black_order = r.black_order;
      kings_are = omega (arith, r.kings_are, w);
      enemies_are = omega (arith, r.enemies_are, b);
      many = omega (arith, r.many, all);
      is = r.is;
      exchanged_is = r.exchanged_is;
    }

with_king : (s : ℕ) (rest : List (Option Piece)) → Sorted rest (men_from (suc s) rest) → Sorted (Some (record { side = White; kind = King }) ∷ rest) (men_from s (Some (record { side = White; kind = King }) ∷ rest))
unfolding men_from
with_king s rest r =
    let w : count_by (is_king_of White) (Some (record { side = White; kind = King }) ∷ rest) ≡ 1 + count_by (is_king_of White) rest = counted (is_king_of White) (Some (record { side = White; kind = King })) rest in
    let b : count_by (is_king_of Black) (Some (record { side = White; kind = King }) ∷ rest) ≡ 0 + count_by (is_king_of Black) rest = counted (is_king_of Black) (Some (record { side = White; kind = King })) rest in
    let all : count_by is_some (Some (record { side = White; kind = King }) ∷ rest) ≡ 1 + count_by is_some rest = counted is_some (Some (record { side = White; kind = King })) rest in
    record {
      white = r.white;
      black = r.black;
      kings = suc r.kings;
      enemies = r.enemies;
      white_order = r.white_order;
      black_order = r.black_order;
      kings_are = omega (arith, r.kings_are, w);
      enemies_are = omega (arith, r.enemies_are, b);
      many = omega (arith, r.many, all);
      is = add_king _ r.kings r.enemies r.white r.black r.is;
      exchanged_is = add_enemy _ r.enemies r.kings r.black r.white r.exchanged_is;
    }

with_enemy : (s : ℕ) (rest : List (Option Piece)) → Sorted rest (men_from (suc s) rest) → Sorted (Some (record { side = Black; kind = King }) ∷ rest) (men_from s (Some (record { side = Black; kind = King }) ∷ rest))
unfolding men_from
with_enemy s rest r =
    let w : count_by (is_king_of White) (Some (record { side = Black; kind = King }) ∷ rest) ≡ 0 + count_by (is_king_of White) rest = counted (is_king_of White) (Some (record { side = Black; kind = King })) rest in
    let b : count_by (is_king_of Black) (Some (record { side = Black; kind = King }) ∷ rest) ≡ 1 + count_by (is_king_of Black) rest = counted (is_king_of Black) (Some (record { side = Black; kind = King })) rest in
    let all : count_by is_some (Some (record { side = Black; kind = King }) ∷ rest) ≡ 1 + count_by is_some rest = counted is_some (Some (record { side = Black; kind = King })) rest in
    record {
      white = r.white;
      black = r.black;
      kings = r.kings;
      enemies = suc r.enemies;
      white_order = r.white_order;
      black_order = r.black_order;
      kings_are = omega (arith, r.kings_are, w);
      enemies_are = omega (arith, r.enemies_are, b);
      many = omega (arith, r.many, all);
      is = add_enemy _ r.kings r.enemies r.white r.black r.is;
      exchanged_is = add_king _ r.enemies r.kings r.black r.white r.exchanged_is;
    }

with_white : (piece : Piece) (c s : ℕ) (rest : List (Option Piece)) (men : List Man) → is_king_of White (Some piece) ≡ false → is_king_of Black (Some piece) ≡ false → other_side c ≡ 8 + c → 1 ≤ c → c ≤ 5 → Sorted rest men → Sorted (Some piece ∷ rest) (man c s ∷ men)
with_white piece c s rest men no_king no_enemy other one five r =
    let kings : count_by (is_king_of White) (Some piece ∷ rest) ≡ 0 + count_by (is_king_of White) rest = counted (is_king_of White) (Some piece) rest ∙ ap (λ b. cond b 1 0 + count_by (is_king_of White) rest) no_king in
    let enemies : count_by (is_king_of Black) (Some piece ∷ rest) ≡ 0 + count_by (is_king_of Black) rest = counted (is_king_of Black) (Some piece) rest ∙ ap (λ b. cond b 1 0 + count_by (is_king_of Black) rest) no_enemy in
    let all : count_by is_some (Some piece ∷ rest) ≡ 1 + count_by is_some rest = counted is_some (Some piece) rest in
    let longer = insert_length c r.white in
    record {
      white = insert c r.white;
      black = r.black;
      kings = r.kings;
      enemies = r.enemies;
      white_order = insert_order 5 c r.white one five r.white_order;
      black_order = r.black_order;
      kings_are = omega (arith, r.kings_are, kings);
      enemies_are = omega (arith, r.enemies_are, enemies);
      many = omega (arith, r.many, all, longer);
      is = add_first c (codes_of men) r.kings r.enemies r.white r.black r.is;
      exchanged_is = subst (λ o. IsPermutation (o ∷ codes_of (exchanged men)) (sorted r.enemies r.kings r.black (insert c r.white))) (sym other) (add_second c (codes_of (exchanged men)) r.enemies r.kings r.black r.white r.exchanged_is);
    }

with_black : (piece : Piece) (c s : ℕ) (rest : List (Option Piece)) (men : List Man) → is_king_of White (Some piece) ≡ false → is_king_of Black (Some piece) ≡ false → other_side (8 + c) ≡ c → 1 ≤ c → c ≤ 5 → Sorted rest men → Sorted (Some piece ∷ rest) (man (8 + c) s ∷ men)
with_black piece c s rest men no_king no_enemy other one five r =
    let kings : count_by (is_king_of White) (Some piece ∷ rest) ≡ 0 + count_by (is_king_of White) rest = counted (is_king_of White) (Some piece) rest ∙ ap (λ b. cond b 1 0 + count_by (is_king_of White) rest) no_king in
    let enemies : count_by (is_king_of Black) (Some piece ∷ rest) ≡ 0 + count_by (is_king_of Black) rest = counted (is_king_of Black) (Some piece) rest ∙ ap (λ b. cond b 1 0 + count_by (is_king_of Black) rest) no_enemy in
    let all : count_by is_some (Some piece ∷ rest) ≡ 1 + count_by is_some rest = counted is_some (Some piece) rest in
    let longer = insert_length c r.black in
    record {
      white = r.white;
      black = insert c r.black;
      kings = r.kings;
      enemies = r.enemies;
      white_order = r.white_order;
      black_order = insert_order 5 c r.black one five r.black_order;
      kings_are = omega (arith, r.kings_are, kings);
      enemies_are = omega (arith, r.enemies_are, enemies);
      many = omega (arith, r.many, all, longer);
      is = add_second c (codes_of men) r.kings r.enemies r.white r.black r.is;
      exchanged_is = subst (λ o. IsPermutation (o ∷ codes_of (exchanged men)) (sorted r.enemies r.kings (insert c r.black) r.white)) (sym other) (add_first c (codes_of (exchanged men)) r.enemies r.kings r.black r.white r.exchanged_is);
    }

abbrev white : Kind → Piece
white kind = record { side = White; kind = kind }

abbrev black : Kind → Piece
black kind = record { side = Black; kind = kind }

with_piece : (s : ℕ) (piece : Piece) (rest : List (Option Piece)) → Sorted rest (men_from (suc s) rest) → Sorted (Some piece ∷ rest) (men_from s (Some piece ∷ rest))
unfolding men_from
with_piece s piece rest r = by piece.side piece.kind
  where
    by : (side : Side) (kind : Kind) → Sorted (Some (record { side = side; kind = kind }) ∷ rest) (men_from s (Some (record { side = side; kind = kind }) ∷ rest))
    by White King = with_king s rest r
    by White Pawn = with_white (white Pawn) 1 s rest _ refl refl refl (omega arith) (omega arith) r
    by White Knight = with_white (white Knight) 2 s rest _ refl refl refl (omega arith) (omega arith) r
    by White Bishop = with_white (white Bishop) 3 s rest _ refl refl refl (omega arith) (omega arith) r
    by White Rook = with_white (white Rook) 4 s rest _ refl refl refl (omega arith) (omega arith) r
    by White Queen = with_white (white Queen) 5 s rest _ refl refl refl (omega arith) (omega arith) r
    by Black King = with_enemy s rest r
    by Black Pawn = with_black (black Pawn) 1 s rest _ refl refl refl (omega arith) (omega arith) r
    by Black Knight = with_black (black Knight) 2 s rest _ refl refl refl (omega arith) (omega arith) r
    by Black Bishop = with_black (black Bishop) 3 s rest _ refl refl refl (omega arith) (omega arith) r
    by Black Rook = with_black (black Rook) 4 s rest _ refl refl refl (omega arith) (omega arith) r
    by Black Queen = with_black (black Queen) 5 s rest _ refl refl refl (omega arith) (omega arith) r

sort : (s : ℕ) (board : List (Option Piece)) → Sorted board (men_from s board)
unfolding men_from
sort s [] = record {
  white = [];
  black = [];
  kings = 0;
  enemies = 0;
  white_order = tt;
  black_order = tt;
  kings_are = refl;
  enemies_are = refl;
  many = refl;
  is = IsPermutation-refl [];
  exchanged_is = IsPermutation-refl [];
}
sort s (None ∷ rest) = with_none s rest (sort (suc s) rest)
sort s (Some piece ∷ rest) = with_piece s piece rest (sort (suc s) rest)

-- ---- the table of such men

-- two lists of men of which one has the table's first side
record IsPaired (first second : List ℕ) : Type 0 where
  first_order : IsInOrder 5 first
  second_order : IsInOrder 5 second
  one : 1 ≤ length first + length second
  few : length first + length second ≤ 3

single : (xs : List ℕ) → length xs ≡ 1 → (x : ℕ) × (xs ≡ x ∷ [])
single [] e = absurd (omega (arith, e))
single (x ∷ []) e = (x, refl)
single (x ∷ y ∷ xs) e = absurd (omega (arith, e))

longer : (first second : List ℕ) → IsPaired first second → length second < length first → IsTable (record { first = first; second = second })
longer first second p more = record {
  first = p.first_order;
  second = p.second_order;
  one = omega (arith, more);
  more = omega (arith, more);
  few = p.few;
  earlier = λ same. absurd (omega (arith, same, more));
}

as_long : (first second : List ℕ) → IsPaired first second → length first ≡ length second → slice_index second 0 ≤ slice_index first 0 → IsTable (record { first = first; second = second })
as_long first second p same earlier = record {
  first = p.first_order;
  second = p.second_order;
  one = omega (arith, same, p.one);
  more = omega (arith, same);
  few = p.few;
  earlier = λ e. earlier;
}

turned : (first second : List ℕ) → IsPaired first second → IsPaired second first
turned first second p = record {
  first_order = p.second_order;
  second_order = p.first_order;
  one = omega (arith, p.one);
  few = omega (arith, p.few);
}

paired : (first second : List ℕ) → IsPaired first second → IsTable (record { first = first; second = second }) ⊎ IsTable (record { first = second; second = first })
paired first second p =
    elim (cases_lt (length second) (length first)) [
      | inl less ↦ inl (longer first second p less)
      | inr most ↦ elim (cases_lt (length first) (length second)) [
        | inl less ↦ inr (longer second first (turned first second p) less)
        | inr least ↦
            let same : length first ≡ length second = omega (arith, most, least) in
            elim (cases_lt (slice_index first 0) (slice_index second 0)) [
              | inl less ↦ inr (as_long second first (turned first second p) (sym same) (omega (arith, less)))
              | inr earlier ↦ inl (as_long first second p same earlier)
            ]
      ]
    ]

map_own : (xs : List ℕ) → map own xs ≡ xs
map_own [] = refl
map_own (x ∷ xs) = ap (λ ys. x ∷ ys) (map_own xs)

-- with one king each they are the pieces of the table with these men
named : TablesAreNumbered → (men : List Man) (first second : List ℕ) → IsPermutation (codes_of men) (sorted 1 1 first second) → IsTable (record { first = first; second = second }) → (key : ℕ) × (key < 145) × IsNamed key men
unfolding pieces_of
named law men first second is table =
    let k = law.1 (record { first = first; second = second }) table in
    (k.0, k.1, subst (λ (m : Men). IsPermutation (codes_of men) (6 ∷ 14 ∷ m.first ++ map others m.second)) (sym k.2) (subst (λ ys. IsPermutation (codes_of men) (6 ∷ 14 ∷ ys ++ map others second)) (map_own first) is))

covered : TablesAreNumbered → (p : Parts) → IsPosition p → 3 ≤ count_of_men p → count_of_men p ≤ 5 → HasMaterial p
covered law p good least most =
    let s = sort 0 p.men in
    let one : s.kings ≡ 1 = s.kings_are ∙ good.kings.0 in
    let other : s.enemies ≡ 1 = s.enemies_are ∙ good.kings.1 in
    let men : IsPaired s.white s.black = record { first_order = s.white_order; second_order = s.black_order; one = omega (arith, one, other, s.many, least); few = omega (arith, one, other, s.many, most) } in
    let is : IsPermutation (codes_of (men_on p.men)) (sorted 1 1 s.white s.black) = subst (λ k. IsPermutation (codes_of (men_on p.men)) (sorted k 1 s.white s.black)) one (subst (λ e. IsPermutation (codes_of (men_on p.men)) (sorted s.kings e s.white s.black)) other s.is) in
    let exchanged_is : IsPermutation (codes_of (exchanged (men_on p.men))) (sorted 1 1 s.black s.white) = subst (λ k. IsPermutation (codes_of (exchanged (men_on p.men))) (sorted 1 k s.black s.white)) one (subst (λ e. IsPermutation (codes_of (exchanged (men_on p.men))) (sorted e s.kings s.black s.white)) other s.exchanged_is) in
    elim (paired s.white s.black men) [
      | inl table ↦ let k = named law (men_on p.men) s.white s.black is table in (k.0, k.1, inl k.2)
      | inr table ↦ let k = named law (exchanged (men_on p.men)) s.black s.white exchanged_is table in (k.0, k.1, inr k.2)
    ]

-- ---- no table has fewer or more men

men_of_table : TablesAreNumbered → (key : ℕ) (men : List Man) → key < 145 → IsNamed key men → (3 ≤ length (codes_of men)) × (length (codes_of men) ≤ 5)
unfolding pieces_of
men_of_table law key men lt is =
    let t = law.0 key lt in
    let same : length (codes_of men) ≡ length (pieces_of key) = sym (length_permutation (codes_of men) (pieces_of key) is) in
    let ends = length-append (men_of key).first (map others (men_of key).second) in
    let mapped = length-map (men_of key).second others in
    (omega (arith, same, ends, mapped, t.one), omega (arith, same, ends, mapped, t.few))

sorted_length : (kings enemies : ℕ) (first second : List ℕ) → length (sorted kings enemies first second) ≡ kings + enemies + length first + length second
sorted_length kings enemies first second =
    let a = length-append (replicate kings 6) (replicate enemies 14 ++ (map own first ++ map others second)) in
    let b = length-append (replicate enemies 14) (map own first ++ map others second) in
    let c = length-append (map own first) (map others second) in
    omega (arith, a, b, c, length-replicate {A = ℕ} kings 6, length-replicate {A = ℕ} enemies 14, length-map first own, length-map second others)

uncovered : TablesAreNumbered → (p : Parts) → IsPosition p → (count_of_men p ≤ 2) ⊎ (5 < count_of_men p) → HasMaterial p → ⊥
uncovered law p good out material =
    let s = sort 0 p.men in
    let many = sorted_length s.kings s.enemies s.white s.black in
    let turned_many = sorted_length s.enemies s.kings s.black s.white in
    let own_length = length_permutation _ _ s.is in
    let other_length = length_permutation _ _ s.exchanged_is in
    elim material.2 [
      | inl own ↦ let m = men_of_table law material.0 (men_on p.men) material.1 own in elim out [ inl few ↦ omega (arith, few, m, s.many, many, own_length) | inr more ↦ omega (arith, more, m, s.many, many, own_length) ]
      | inr other ↦ let m = men_of_table law material.0 (exchanged (men_on p.men)) material.1 other in elim out [ inl few ↦ omega (arith, few, m, s.many, turned_many, other_length) | inr more ↦ omega (arith, more, m, s.many, turned_many, other_length) ]
    ]

pub few_men_have_tables : TablesAreNumbered → FewMenHaveTables
few_men_have_tables law = (covered law, uncovered law)
