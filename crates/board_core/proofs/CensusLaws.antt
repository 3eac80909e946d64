-- The squares of each side's men, of the kings and of the pawns.
use Rattle.std.proofs.Common.{ℕ, ◌≡◌, ◌<◌, ◌≤◌, ◌+◌, ◌==◌, ◌||◌, ◌&&◌, ◌↔◌, List, length, Option, Some, None, Bool, true, false, nat_lt, nat_le, min, bit_and, count_ones, count_by, refl, sym, ap, ◌∙◌, arith, inl, inr}
use Rattle.std.specs.Int.{bit_at}
use Rattle.std.proofs.lemmas.Bool.{cases_lt, cases_eq, cases_Bool}
use Rattle.std.proofs.lemmas.Bool.Decides.{Decides-eqb, Decides-ltb}
use Rattle.std.proofs.lemmas.Nat.Bits.{bit_at-zero, bit_at_and, bit_at_above, same_from_bits}
use Rattle.board_core.specs.declared.piece.Piece.{Piece}
use Rattle.board_core.specs.declared.piece.Side.{Side}
use Rattle.board_core.specs.declared.piece.Side.TheVariants.{White, Black}
use Rattle.board_core.specs.declared.piece.Kind.{Kind}
use Rattle.board_core.specs.declared.piece.Kind.TheVariants.{Pawn, Knight, Bishop, Rook, Queen, King}
use Rattle.board_core.specs.declared.census.Census.{Census}
use Rattle.board_core.specs.Attack.{man_at}
use Rattle.board_core.specs.Position.{is_same_side, is_king, is_of, is_king_of, HasNoPawnOnEdge}
use Rattle.board_core.specs.Sides.{squares_where}
use Rattle.board_core.specs.Computed.{each_below}
use Rattle.board_core.specs.Inside.Census.{is_pawn_kind, is_kind_passing, census_of, IsAdded}
use Rattle.board_core.proofs.Computed.{Decides-each_below, Decides-leb}
use Rattle.board_core.proofs.SetBits.{bit_of, squares_where_bit, same_set, squares_counted, IsBelow, IsBelow-none, IsBelow-skip, IsBelow-all}

-- the next square is added where its man passes the test
IsBelow-added : (test : Option Piece → Bool) (men : List (Option Piece)) (n set set' : ℕ) (belongs : Bool) → IsBelow test men n set → test (man_at men n) ≡ belongs → IsAdded set n belongs set' → IsBelow test men (n + 1) set'
IsBelow-added test men n set set' belongs h is a = record {
  below = λ s lt. elim (cases_eq s n) [
    | inl e ↦ rw (e, is) (a.here (h.above n (omega arith)))
    | inr ne ↦ a.others s ne ∙ h.below s (omega arith)
  ];
  above = λ s le. a.others s (omega arith) ∙ h.above s (omega arith);
}

-- the census of the men below n
pub record IsCensusBelow (men : List (Option Piece)) (n : ℕ) (census : Census) : Type 0 where
  pub white : IsBelow (is_of White) men n census.sides.white
  pub black : IsBelow (is_of Black) men n census.sides.black
  pub kings : IsBelow (is_kind_passing is_king) men n census.kings
  pub pawns : IsBelow (is_kind_passing is_pawn_kind) men n census.pawns

pub census_none : (men : List (Option Piece)) (census : Census) → census.sides.white ≡ 0 → census.sides.black ≡ 0 → census.kings ≡ 0 → census.pawns ≡ 0 → IsCensusBelow men 0 census
census_none men census w b k p = record {
  white = rw w (IsBelow-none _ men);
  black = rw b (IsBelow-none _ men);
  kings = rw k (IsBelow-none _ men);
  pawns = rw p (IsBelow-none _ men);
}

pub census_skip : (men : List (Option Piece)) (n : ℕ) (census : Census) → man_at men n ≡ None → IsCensusBelow men n census → IsCensusBelow men (n + 1) census
census_skip men n census none h = record {
  white = IsBelow-skip _ men n _ h.white (rw none refl);
  black = IsBelow-skip _ men n _ h.black (rw none refl);
  kings = IsBelow-skip _ men n _ h.kings (rw none refl);
  pawns = IsBelow-skip _ men n _ h.pawns (rw none refl);
}

pub census_with : (men : List (Option Piece)) (n : ℕ) (census census' : Census) (man : Piece) → man_at men n ≡ Some man → IsCensusBelow men n census
    → IsAdded census.sides.white n (is_same_side White man.side) census'.sides.white → IsAdded census.sides.black n (is_same_side Black man.side) census'.sides.black
    → IsAdded census.kings n (is_king man.kind) census'.kings → IsAdded census.pawns n (is_pawn_kind man.kind) census'.pawns → IsCensusBelow men (n + 1) census'
census_with men n census census' man some h w b k p = record {
  white = IsBelow-added (is_of White) men n _ _ _ h.white (rw some refl) w;
  black = IsBelow-added (is_of Black) men n _ _ _ h.black (rw some refl) b;
  kings = IsBelow-added (is_kind_passing is_king) men n _ _ _ h.kings (rw some refl) k;
  pawns = IsBelow-added (is_kind_passing is_pawn_kind) men n _ _ _ h.pawns (rw some refl) p;
}

pub same_census : (census : Census) (w b k p : ℕ) → census.sides.white ≡ w → census.sides.black ≡ b → census.kings ≡ k → census.pawns ≡ p → census ≡ record { sides = record { white = w; black = b }; kings = k; pawns = p }
same_census census w b k p e f g h = rw (← e, ← f, ← g, ← h) refl

pub census_all : (men : List (Option Piece)) (n : ℕ) (census : Census) → length men ≤ n → IsCensusBelow men n census → census ≡ census_of men
census_all men n census long h =
    same_census census _ _ _ _ (IsBelow-all (is_of White) refl men n _ long h.white) (IsBelow-all (is_of Black) refl men n _ long h.black) (IsBelow-all (is_kind_passing is_king) refl men n _ long h.kings) (IsBelow-all (is_kind_passing is_pawn_kind) refl men n _ long h.pawns)

-- a side's kings
both_bits : (x y : Bool) → min (bit_of x) (bit_of y) ≡ bit_of (y && x)
both_bits true true = refl
both_bits true false = refl
both_bits false true = refl
both_bits false false = refl

king_bits : (side : Side) (o : Option Piece) → min (bit_of (is_kind_passing is_king o)) (bit_of (is_of side o)) ≡ bit_of (is_king_of side o)
king_bits side None = refl
king_bits side (Some man) = both_bits (is_king man.kind) (is_same_side side man.side)

kings_of : (side : Side) (men : List (Option Piece)) → bit_and (squares_where (is_kind_passing is_king) men) (squares_where (is_of side) men) ≡ squares_where (is_king_of side) men
kings_of side men = same_set (is_king_of side) refl men _ (λ s. bit_at_and _ _ s ∙ rw (squares_where_bit (is_kind_passing is_king) refl men s, squares_where_bit (is_of side) refl men s) (king_bits side (man_at men s)))

pub kings_counted : (side : Side) (men : List (Option Piece)) → count_ones (bit_and (squares_where (is_kind_passing is_king) men) (squares_where (is_of side) men)) ≡ count_by (is_king_of side) men
kings_counted side men = ap count_ones (kings_of side men) ∙ squares_counted (is_king_of side) men

-- ranks 1 and 8
abbrev pub edge : ℕ
edge = 18374686479671623935

abbrev is_edge : ℕ → Bool
is_edge s = nat_lt s 8 || nat_le 56 s

each_edge : each_below 64 (λ s. bit_at edge s == bit_of (is_edge s)) ≡ true
unfolding each_below
each_edge = refl

edge_at : (s : ℕ) → s < 64 → bit_at edge s ≡ bit_of (is_edge s)
edge_at = (Decides-each_below 64 (λ s. bit_at edge s == bit_of (is_edge s)) (λ s. bit_at edge s ≡ bit_of (is_edge s)) (λ k lt. Decides-eqb _ _)).0 each_edge

edge_off : (s : ℕ) → 64 ≤ s → bit_at edge s ≡ 0
edge_off s le = bit_at_above edge 64 s (omega arith) le

on_edge : (s : ℕ) → s < 64 → ((s < 8) → ⊥) → (56 ≤ s → ⊥) → bit_at edge s ≡ 0
on_edge s lt first last = edge_at s lt ∙ ap bit_of (inside (nat_lt s 8) (nat_le 56 s) (λ e. first ((Decides-ltb s 8).0 e)) (λ e. last ((Decides-leb 56 s).0 e)))
  where
    inside : (x y : Bool) → (x ≡ true → ⊥) → (y ≡ true → ⊥) → (x || y) ≡ false
    inside true y h k = absurd (h refl)
    inside false true h k = absurd (k refl)
    inside false false h k = refl

first_rank_on_edge : (s : ℕ) → s < 8 → bit_at edge s ≡ 1
first_rank_on_edge s lt = edge_at s (omega arith) ∙ ap (λ b. bit_of (b || nat_le 56 s)) ((Decides-ltb s 8).1 lt)

last_rank_on_edge : (s : ℕ) → s < 64 → 56 ≤ s → bit_at edge s ≡ 1
last_rank_on_edge s lt le = edge_at s lt ∙ ap bit_of (either (nat_lt s 8) (nat_le 56 s) ((Decides-leb 56 s).1 le))
  where
    either : (x y : Bool) → y ≡ true → (x || y) ≡ true
    either true y e = refl
    either false y e = e

-- a pawn of some side stands there
pawn_kind : (kind : Kind) → is_pawn_kind kind ≡ true → kind ≡ Pawn
pawn_kind Pawn e = refl
pawn_kind Knight e = let f = e in cc
pawn_kind Bishop e = let f = e in cc
pawn_kind Rook e = let f = e in cc
pawn_kind Queen e = let f = e in cc
pawn_kind King e = let f = e in cc

pawn_there : (o : Option Piece) → is_kind_passing is_pawn_kind o ≡ true → (side : Side) × (o ≡ Some (record { side = side; kind = Pawn }))
pawn_there None e = let f = e in cc
pawn_there (Some man) e = (man.side, ap Some (pawn_of man (pawn_kind man.kind e)))
  where
    pawn_of : (man : Piece) → man.kind ≡ Pawn → man ≡ record { side = man.side; kind = Pawn }
    pawn_of man e = rw (← e) refl

-- no pawn on the edge: its squares and those of the pawns have none in common
pub edge_free : (men : List (Option Piece)) → (bit_and (squares_where (is_kind_passing is_pawn_kind) men) edge ≡ 0) ↔ HasNoPawnOnEdge men
edge_free men = (
  λ e s side lt st.
      let pawn : bit_at (squares_where (is_kind_passing is_pawn_kind) men) s ≡ 1 = squares_where_bit (is_kind_passing is_pawn_kind) refl men s ∙ rw st refl in
      let both : min 1 (bit_at edge s) ≡ 0 = rw (pawn, e, bit_at-zero s) at (sym (bit_at_and (squares_where (is_kind_passing is_pawn_kind) men) edge s)) in
      elim (cases_lt s 8) [
        | inl x ↦ absurd (let one = first_rank_on_edge s x in omega arith)
        | inr ge ↦ elim (cases_lt s 56) [
          | inl y ↦ (omega arith, omega arith)
          | inr z ↦ absurd (let one = last_rank_on_edge s lt z in omega arith)
        ]
      ],
  λ h. same_from_bits _ 0 (λ s. bit_at_and _ edge s ∙ none h s ∙ sym (bit_at-zero s)),
)
  where
    off : (s : ℕ) → HasNoPawnOnEdge men → is_kind_passing is_pawn_kind (man_at men s) ≡ true → bit_at edge s ≡ 0
    off s h e = elim (cases_lt s 64) [
      | inl lt ↦
          let there = pawn_there (man_at men s) e in
          let ranks = h s there.0 lt there.1 in
          on_edge s lt (λ x. omega arith) (λ x. omega arith)
      | inr ge ↦ edge_off s ge
    ]

    none : HasNoPawnOnEdge men → (s : ℕ) → min (bit_at (squares_where (is_kind_passing is_pawn_kind) men) s) (bit_at edge s) ≡ 0
    none h s = elim (cases_Bool (is_kind_passing is_pawn_kind (man_at men s))) [
      | inl e ↦ let zero_bit = off s h e in omega arith
      | inr e ↦ let zero_bit : bit_at (squares_where (is_kind_passing is_pawn_kind) men) s ≡ 0 = squares_where_bit (is_kind_passing is_pawn_kind) refl men s ∙ rw e refl in omega arith
    ]
