-- The men that sets of squares show.
use Rattle.std.proofs.Common.{ℕ, zero, suc, ◌≡◌, ◌≢◌, ◌<◌, ◌≤◌, ◌+◌, ◌-◌, ◌^◌, ◌&&◌, ◌||◌, not, min, max, bit_and, bit_or, List, length, set, replicate, Option, Some, None, is_some, Bool, true, false, IsTrue, refl, sym, ap, ◌∙◌, arith, inl, inr}
use Rattle.std.specs.Int.{bit_at}
use Rattle.std.proofs.lemmas.Bool.{cases_lt, cases_eq}
use Rattle.std.proofs.lemmas.List.{get_or_past, get_or-set_same, get_or-set_other, get_or-replicate, ext_get_or, length-set, length-replicate}
use Rattle.std.proofs.lemmas.Nat.Bits.{bit_at_and, bit_at_or, bit_at_above, bit_at-lt}
use Rattle.board_core.specs.declared.piece.Piece.{Piece}
use Rattle.board_core.specs.declared.piece.Side.TheVariants.{White, Black}
use Rattle.board_core.specs.declared.piece.Kind.{Kind}
use Rattle.board_core.specs.declared.piece.Kind.TheVariants.{Pawn, Knight, Bishop, Rook, Queen, King}
use Rattle.board_core.specs.declared.sets.Sets.{Sets}
use Rattle.board_core.specs.Attack.{man_at}
use Rattle.board_core.specs.Position.{is_of, is_king}
use Rattle.board_core.specs.Sets.{is_in, side_by, kind_or, kind_on, man_by, man_on, shown_from, men_shown}
use Rattle.board_core.specs.Sides.{squares_where, IsOccupied}
use Rattle.board_core.specs.Inside.Census.{is_kind_passing, is_pawn_kind}
use Rattle.board_core.proofs.SetBits.{bit_of, same_set}
use Rattle.board_core.proofs.Sweep.{Rests, Rests-begin, Rests-next, Rests-without, Rests-between, Rests-empty}

length_from : (sets : Sets) (n s : ℕ) → length (shown_from sets n s) ≡ n
unfolding shown_from
length_from sets zero s = refl
length_from sets (suc n) s = ap suc (length_from sets n (suc s))

pub length_shown : (sets : Sets) → length (men_shown sets) ≡ 64
length_shown sets = length_from sets 64 0

shown_from_at : (sets : Sets) (n s k : ℕ) → k < n → man_at (shown_from sets n s) k ≡ man_on sets (s + k)
unfolding shown_from
shown_from_at sets zero s k lt = absurd (omega arith)
shown_from_at sets (suc n) s zero lt = ap (man_on sets) (let e : s ≡ s + 0 = omega arith in e)
shown_from_at sets (suc n) s (suc k) lt = shown_from_at sets n (suc s) k (omega arith) ∙ ap (man_on sets) (let e : suc s + k ≡ s + suc k = omega arith in e)

pub shown_at : (sets : Sets) (s : ℕ) → s < 64 → man_at (men_shown sets) s ≡ man_on sets s
shown_at sets s lt = shown_from_at sets 64 0 s lt ∙ ap (man_on sets) (let e : 0 + s ≡ s = omega arith in e)

-- a set whose squares are those where what is shown passes a test
pub same_as_shown : (test : Option Piece → Bool) → test None ≡ false → (sets : Sets) (set : ℕ) → set < 2 ^ 64 → ((s : ℕ) → bit_at set s ≡ bit_of (test (man_on sets s))) → set ≡ squares_where test (men_shown sets)
same_as_shown test none sets set below each = same_set test none (men_shown sets) set (λ s. elim (cases_lt s 64) [
  | inl lt ↦ each s ∙ ap (λ o. bit_of (test o)) (sym (shown_at sets s lt))
  | inr ge ↦ bit_at_above set 64 s below ge ∙ sym (ap (λ o. bit_of (test o)) (get_or_past (men_shown sets) s None (omega (arith, ge, length_shown sets))) ∙ rw none refl)
])

-- a bit as a test, and what the operations do to it
pub is_bit : (set s : ℕ) → bit_at set s ≡ bit_of (is_in set s)
is_bit set s = elim (cases_eq (bit_at set s) 1) [
  | inl e ↦ rw e refl
  | inr ne ↦ let e : bit_at set s ≡ 0 = omega (arith, bit_at-lt set s) in rw e refl
]

both_bits : (p q : Bool) → min (bit_of p) (bit_of q) ≡ bit_of (p && q)
both_bits true true = refl
both_bits true false = refl
both_bits false true = refl
both_bits false false = refl

either_bit : (p q : Bool) → max (bit_of p) (bit_of q) ≡ bit_of (p || q)
either_bit true true = refl
either_bit true false = refl
either_bit false true = refl
either_bit false false = refl

less_bits : (p q : Bool) → bit_of p - bit_of q ≡ bit_of (p && not q)
less_bits true true = refl
less_bits true false = refl
less_bits false true = refl
less_bits false false = refl

pub and_bits : (a b s : ℕ) (p q : Bool) → bit_at a s ≡ bit_of p → bit_at b s ≡ bit_of q → bit_at (bit_and a b) s ≡ bit_of (p && q)
and_bits a b s p q e f = bit_at_and a b s ∙ rw (e, f) (both_bits p q)

pub or_bits : (a b s : ℕ) (p q : Bool) → bit_at a s ≡ bit_of p → bit_at b s ≡ bit_of q → bit_at (bit_or a b) s ≡ bit_of (p || q)
or_bits a b s p q e f = bit_at_or a b s ∙ rw (e, f) (either_bit p q)

pub except_bits : (set a b s : ℕ) (p q : Bool) → bit_at set s ≡ bit_at a s - bit_at b s → bit_at a s ≡ bit_of p → bit_at b s ≡ bit_of q → bit_at set s ≡ bit_of (p && not q)
except_bits set a b s p q is e f = is ∙ rw (e, f) (less_bits p q)

-- the kind that is shown
abbrev chain : Bool → Bool → Bool → Bool → Bool → Bool → Option Kind
chain k p r q b n = kind_or King k (kind_or Pawn p (kind_or Rook r (kind_or Queen q (kind_or Bishop b (kind_or Knight n None)))))

abbrev is_this : (Kind → Bool) → Option Kind → Bool
is_this test None = false
is_this test (Some this) = test this

some_kind : (k p r q b n : Bool) → (((((k || p) || r) || q) || b) || n) ≡ is_some (chain k p r q b n)
some_kind true p r q b n = refl
some_kind false true r q b n = refl
some_kind false false true q b n = refl
some_kind false false false true b n = refl
some_kind false false false false true n = refl
some_kind false false false false false true = refl
some_kind false false false false false false = refl

king_kind : (k p r q b n : Bool) → k ≡ is_this is_king (chain k p r q b n)
king_kind true p r q b n = refl
king_kind false true r q b n = refl
king_kind false false true q b n = refl
king_kind false false false true b n = refl
king_kind false false false false true n = refl
king_kind false false false false false true = refl
king_kind false false false false false false = refl

pawn_kind : (k p r q b n : Bool) → (p && not k) ≡ is_this is_pawn_kind (chain k p r q b n)
pawn_kind true true r q b n = refl
pawn_kind true false r q b n = refl
pawn_kind false true r q b n = refl
pawn_kind false false true q b n = refl
pawn_kind false false false true b n = refl
pawn_kind false false false false true n = refl
pawn_kind false false false false false true = refl
pawn_kind false false false false false false = refl

-- the squares that the set of some kind has
pub kinds_shown : (sets : Sets) (s : ℕ) → bit_at (bit_or (bit_or (bit_or (bit_or (bit_or sets.kings sets.pawns) sets.rooks) sets.queens) sets.bishops) sets.knights) s ≡ bit_of (is_some (kind_on sets s))
kinds_shown sets s =
    or_bits _ sets.knights s _ _
    (or_bits _ sets.bishops s _ _
    (or_bits _ sets.queens s _ _
    (or_bits _ sets.rooks s _ _ (or_bits sets.kings sets.pawns s _ _ (is_bit sets.kings s) (is_bit sets.pawns s)) (is_bit sets.rooks s))
    (is_bit sets.queens s))
    (is_bit sets.bishops s))
    (is_bit sets.knights s)
    ∙ ap bit_of (some_kind (is_in sets.kings s) (is_in sets.pawns s) (is_in sets.rooks s) (is_in sets.queens s) (is_in sets.bishops s) (is_in sets.knights s))

-- the men of each side
white_by : (w b : Bool) (kind : Option Kind) → (w && is_some kind) ≡ is_of White (man_by (side_by w b) kind)
white_by true b None = refl
white_by true b (Some this) = refl
white_by false true None = refl
white_by false true (Some this) = refl
white_by false false this = refl

black_by : (w b : Bool) (kind : Option Kind) → ((b && is_some kind) && not w) ≡ is_of Black (man_by (side_by w b) kind)
black_by true true None = refl
black_by true true (Some this) = refl
black_by true false None = refl
black_by true false (Some this) = refl
black_by false true None = refl
black_by false true (Some this) = refl
black_by false false this = refl

pub white_shown : (sets : Sets) (kinds set : ℕ) → ((s : ℕ) → bit_at kinds s ≡ bit_of (is_some (kind_on sets s))) → set < 2 ^ 64 → set ≡ bit_and sets.white kinds → set ≡ squares_where (is_of White) (men_shown sets)
white_shown sets kinds set is below e = same_as_shown (is_of White) refl sets set below (λ s.
    ap (λ x. bit_at x s) e
    ∙ and_bits sets.white kinds s _ _ (is_bit sets.white s) (is s)
    ∙ ap bit_of (white_by (is_in sets.white s) (is_in sets.black s) (kind_on sets s)))

pub black_shown : (sets : Sets) (kinds both set : ℕ) → ((s : ℕ) → bit_at kinds s ≡ bit_of (is_some (kind_on sets s))) → set < 2 ^ 64 → both ≡ bit_and sets.black kinds
    → ((s : ℕ) → bit_at set s ≡ bit_at both s - bit_at sets.white s) → set ≡ squares_where (is_of Black) (men_shown sets)
black_shown sets kinds both set is below e less = same_as_shown (is_of Black) refl sets set below (λ s.
    except_bits set both sets.white s _ _ (less s) (ap (λ x. bit_at x s) e ∙ and_bits sets.black kinds s _ _ (is_bit sets.black s) (is s)) (is_bit sets.white s)
    ∙ ap bit_of (black_by (is_in sets.white s) (is_in sets.black s) (kind_on sets s)))

-- the kings and the pawns
with_true : (x : Bool) → (x && true) ≡ x
with_true true = refl
with_true false = refl

with_false : (x : Bool) → (x && false) ≡ false
with_false true = refl
with_false false = refl

kind_by : (test : Kind → Bool) (w b : Bool) (kind : Option Kind) → (is_this test kind && (w || b)) ≡ is_kind_passing test (man_by (side_by w b) kind)
kind_by test true b None = refl
kind_by test true b (Some this) = with_true (test this)
kind_by test false true None = refl
kind_by test false true (Some this) = with_true (test this)
kind_by test false false this = with_false (is_this test this)

swapped : (x y z : Bool) → ((x && y) && z) ≡ ((x && z) && y)
swapped true true true = refl
swapped true true false = refl
swapped true false true = refl
swapped true false false = refl
swapped false y z = refl

pub kings_shown : (sets : Sets) (of_a_side set : ℕ) → of_a_side ≡ bit_or sets.white sets.black → set < 2 ^ 64 → set ≡ bit_and sets.kings of_a_side → set ≡ squares_where (is_kind_passing is_king) (men_shown sets)
kings_shown sets of_a_side set sides below e = same_as_shown (is_kind_passing is_king) refl sets set below (λ s.
    ap (λ x. bit_at x s) e
    ∙ and_bits sets.kings of_a_side s _ _ (is_bit sets.kings s) (ap (λ x. bit_at x s) sides ∙ or_bits sets.white sets.black s _ _ (is_bit sets.white s) (is_bit sets.black s))
    ∙ ap (λ x. bit_of (x && (is_in sets.white s || is_in sets.black s))) (king_kind (is_in sets.kings s) (is_in sets.pawns s) (is_in sets.rooks s) (is_in sets.queens s) (is_in sets.bishops s) (is_in sets.knights s))
    ∙ ap bit_of (kind_by is_king (is_in sets.white s) (is_in sets.black s) (kind_on sets s)))

pub pawns_shown : (sets : Sets) (of_a_side both set : ℕ) → of_a_side ≡ bit_or sets.white sets.black → set < 2 ^ 64 → both ≡ bit_and sets.pawns of_a_side
    → ((s : ℕ) → bit_at set s ≡ bit_at both s - bit_at sets.kings s) → set ≡ squares_where (is_kind_passing is_pawn_kind) (men_shown sets)
pawns_shown sets of_a_side both set sides below e less = same_as_shown (is_kind_passing is_pawn_kind) refl sets set below (λ s.
    except_bits set both sets.kings s _ _ (less s)
    (ap (λ x. bit_at x s) e ∙ and_bits sets.pawns of_a_side s _ _ (is_bit sets.pawns s) (ap (λ x. bit_at x s) sides ∙ or_bits sets.white sets.black s _ _ (is_bit sets.white s) (is_bit sets.black s)))
    (is_bit sets.kings s)
    ∙ ap bit_of (swapped (is_in sets.pawns s) (is_in sets.white s || is_in sets.black s) (not (is_in sets.kings s)))
    ∙ ap (λ x. bit_of (x && (is_in sets.white s || is_in sets.black s))) (pawn_kind (is_in sets.kings s) (is_in sets.pawns s) (is_in sets.rooks s) (is_in sets.queens s) (is_in sets.bishops s) (is_in sets.knights s))
    ∙ ap bit_of (kind_by is_pawn_kind (is_in sets.white s) (is_in sets.black s) (kind_on sets s)))

-- men copied from a list, square by square of those on which they stand
abbrev pub IsManned : List (Option Piece) → ℕ → Type 0
IsManned shown s = IsTrue (is_some (man_at shown s))

abbrev no_man : Option Piece
no_man = None

bare : (o : Option Piece) → (IsTrue (is_some o) → ⊥) → o ≡ None
bare None h = refl
bare (Some man) h = absurd (h refl)

pub record IsCopied (shown men : List (Option Piece)) (next rest : ℕ) : Type 0 where
  pub squares : length men ≡ 64
  pub rests : Rests (IsManned shown) next rest
  pub below : (s : ℕ) → s < next → man_at men s ≡ man_at shown s
  pub above : (s : ℕ) → next ≤ s → man_at men s ≡ None

pub copied_none : (shown men : List (Option Piece)) (set : ℕ) → IsOccupied shown set → men ≡ replicate 64 None → IsCopied shown men 0 set
copied_none shown men set is e = record {
  squares = rw e (length-replicate 64 no_man);
  rests = Rests-begin (IsManned shown) set (λ s lt q. (is s).1 q);
  below = λ s lt. absurd (omega arith);
  above = λ s _. rw e (elim (cases_lt s 64) [
    | inl lt ↦ get_or-replicate 64 s None None lt
    | inr ge ↦ get_or_past (replicate 64 None) s None (omega (arith, ge, length-replicate 64 no_man))
  ]);
}

pub copied_put : (shown men : List (Option Piece)) (next rest to rest' : ℕ) → IsCopied shown men next rest → to < 64 → ((s : ℕ) → s < to → bit_at rest s ≡ 0) → bit_at rest to ≡ 1 → bit_at rest' to ≡ 0
    → ((s : ℕ) → s < 64 → s ≢ to → bit_at rest' s ≡ bit_at rest s) → IsCopied shown (set men to (man_at shown to)) (to + 1) rest'
copied_put shown men next rest to rest' h b first here gone kept = record {
  squares = length-set men to (man_at shown to) ∙ h.squares;
  rests = Rests-without (IsManned shown) next rest to rest' b h.rests first here gone kept;
  below = λ s lt. elim (cases_eq s to) [
    | inl e ↦ rw e (get_or-set_same men to (man_at shown to) None (omega (arith, h.squares)))
    | inr ne ↦ get_or-set_other men to s (man_at shown to) None ne ∙ earlier s (omega arith)
  ];
  above = λ s le. get_or-set_other men to s (man_at shown to) None (omega arith) ∙ h.above s (let n = Rests-next (IsManned shown) next rest to h.rests here in omega arith);
}
  where
    earlier : (s : ℕ) → s < to → man_at men s ≡ man_at shown s
    earlier s lt = elim (cases_lt s next) [
      | inl x ↦ h.below s x
      | inr ge ↦ h.above s ge ∙ sym (bare (man_at shown s) (λ q. Rests-between (IsManned shown) next rest to s h.rests first (omega arith) ge lt q))
    ]

pub copied_all : (shown men : List (Option Piece)) (next rest : ℕ) → length shown ≡ 64 → IsCopied shown men next rest → rest ≡ 0 → men ≡ shown
copied_all shown men next rest len h none = ext_get_or None men shown (h.squares ∙ sym len) (λ s lt. elim (cases_lt s next) [
  | inl x ↦ h.below s x
  | inr ge ↦ h.above s ge ∙ sym (bare (man_at shown s) (λ q. Rests-empty (IsManned shown) next rest s h.rests none (omega (arith, lt, h.squares)) ge q))
])
