-- After the turning men without pawns stand as the number of three men, or of two kings, wants.
use Rattle.std.proofs.Common.{◌≡◌, ◌≢◌, ℕ, ◌+◌, ◌*◌, ◌/◌, ◌%◌, ◌<◌, ◌≤◌, ◌⊎◌, Bool, true, false, cond, List, [], ◌∷◌, length, refl, sym, ap, ◌∙◌, inl, inr, arith}
use Rattle.std.specs.Prelude.{nat_lt}
use Rattle.std.proofs.lemmas.Bool.{cases_eq, cases_lt, cases_Bool, eq-eqb, ne_eqb, lt-ltb, le-ltb, ltb-true, ltb-false, false≢true, agree_below_at}
use Rattle.place_index.specs.Square.{file, rank, on_diagonal, left_right, bottom_top, across}
use Rattle.place_index.specs.Men.{stands, squares_of, square_of, moved}
use Rattle.place_index.specs.Turning.{leftward, downward, under, is_above, to_left, to_bottom, turned_pieces}
use Rattle.place_index.specs.Three.{IsTurnedThree}
use Rattle.place_index.specs.Kings.{kings_apart, AreTurnedKings}
use Rattle.place_index.specs.Material.{count_of, pieces_of}
use Rattle.place_index.specs.Shape.{is_pawn_code}
use Rattle.place_index.specs.Index.{IsPlacement}
use Rattle.place_index.specs.declared.man.Man.{Man}
use Rattle.place_index.proofs.Counting.Falling.{falling_empty}
use Rattle.place_index.proofs.Indices.Settled.{IsSettled}
use Rattle.place_index.proofs.Turns.Board.{settled, IsMirroring, moved_placement, left_right_mirrors, bottom_top_mirrors, across_mirrors}
use Rattle.place_index.proofs.Turns.Alone.{IsAlone, square_of_alone, alone_moved}

-- ---- no pawns

empty_list : (xs : List ℕ) → length xs ≡ 0 → xs ≡ []
empty_list [] e = refl
empty_list (x ∷ xs) e = absurd (omega (arith, e))

-- a code of which the material has no man
pub stands_nowhere : (key : ℕ) (men : List Man) (c s : ℕ) → IsSettled key men → count_of (pieces_of key) c ≡ 0 → stands men c s ≡ true → ⊥
unfolding squares_of
stands_nowhere key men c s h none is =
    false≢true (sym (falling_empty (stands men c) 64 s (empty_list (squares_of men c) (h.counts c ∙ none)) (h.board c s is)) ∙ is)

abbrev pub HasNoPawns : ℕ → Type 0
HasNoPawns key = (c : ℕ) → is_pawn_code c ≡ true → count_of (pieces_of key) c ≡ 0

plain_moved : (f : ℕ → ℕ) (key : ℕ) (men : List Man) → IsMirroring f → HasNoPawns key → IsPlacement key men → IsPlacement key (moved f men)
plain_moved f key men m none p = moved_placement f key men m (λ c s pawn h. absurd (stands_nowhere key men c s (settled key men p) (none c pawn) h)) p

-- ---- three lone men

pub record IsTrio (key : ℕ) (men : List Man) (a b c s0 s1 s2 : ℕ) : Type 0 where
  pub placed : IsPlacement key men
  pub first : IsAlone men a s0
  pub second : IsAlone men b s1
  pub third : IsAlone men c s2

trio_moved : (f : ℕ → ℕ) → IsMirroring f → (key : ℕ) → HasNoPawns key → (men : List Man) (a b c s0 s1 s2 : ℕ) → IsTrio key men a b c s0 s1 s2 → IsTrio key (moved f men) a b c (f s0) (f s1) (f s2)
trio_moved f m key none men a b c s0 s1 s2 t = record {
  placed = plain_moved f key men m none t.placed;
  first = alone_moved f men a s0 m t.placed.board t.first;
  second = alone_moved f men b s1 m t.placed.board t.second;
  third = alone_moved f men c s2 m t.placed.board t.third;
}

left_trio : (key : ℕ) → HasNoPawns key → (men : List Man) (a b c s0 s1 s2 : ℕ) → IsTrio key men a b c s0 s1 s2
    → (t0 : ℕ) × (t1 : ℕ) × (t2 : ℕ) × IsTrio key (leftward s0 men) a b c t0 t1 t2 × (file t0 < 4)
left_trio key none men a b c s0 s1 s2 t =
    elim (cases_lt (file s0) 4) [
      | inl lt ↦ rw (lt-ltb (file s0) 4 lt) (s0, s1, s2, t, lt)
      | inr le ↦
          let board = t.first.board in
          let few : file (left_right s0) < 4 = omega (arith, le, board) in
          rw (le-ltb (file s0) 4 le) (left_right s0, left_right s1, left_right s2, trio_moved left_right left_right_mirrors key none men a b c s0 s1 s2 t, few)
    ]

down_trio : (key : ℕ) → HasNoPawns key → (men : List Man) (a b c s0 s1 s2 : ℕ) → IsTrio key men a b c s0 s1 s2 → file s0 < 4
    → (t0 : ℕ) × (t1 : ℕ) × (t2 : ℕ) × IsTrio key (downward s0 men) a b c t0 t1 t2 × (file t0 < 4) × (rank t0 < 4)
down_trio key none men a b c s0 s1 s2 t left =
    elim (cases_lt (rank s0) 4) [
      | inl lt ↦ rw (lt-ltb (rank s0) 4 lt) (s0, s1, s2, t, left, lt)
      | inr le ↦
          let board = t.first.board in
          let same : file (bottom_top s0) < 4 = omega (arith, left, board) in
          let few : rank (bottom_top s0) < 4 = omega (arith, le, board) in
          rw (le-ltb (rank s0) 4 le) (bottom_top s0, bottom_top s1, bottom_top s2, trio_moved bottom_top bottom_top_mirrors key none men a b c s0 s1 s2 t, same, few)
    ]

-- ---- the first off the diagonal

abbrev above_at : ℕ → ℕ → ℕ → Bool
above_at s0 s1 s2 =
    cond (on_diagonal s0) (cond (on_diagonal s1) (cond (on_diagonal s2) false (nat_lt (file s2) (rank s2))) (nat_lt (file s1) (rank s1))) (nat_lt (file s0) (rank s0))

record IsUnder (s0 s1 s2 : ℕ) : Type 0 where
  under0 : rank s0 ≤ file s0
  under1 : file s0 ≡ rank s0 → rank s1 ≤ file s1
  under2 : file s0 ≡ rank s0 → file s1 ≡ rank s1 → rank s2 ≤ file s2

record IsOver (s0 s1 s2 : ℕ) : Type 0 where
  over0 : file s0 ≤ rank s0
  over1 : file s0 ≡ rank s0 → file s1 ≤ rank s1
  over2 : file s0 ≡ rank s0 → file s1 ≡ rank s1 → file s2 ≤ rank s2

is_over : (s0 s1 s2 : ℕ) → above_at s0 s1 s2 ≡ true → IsOver s0 s1 s2
is_over s0 s1 s2 h =
    elim (cases_eq (file s0) (rank s0)) [
      | inr n0 ↦
          let lt = ltb-true _ _ (rw (ne_eqb (file s0) (rank s0) n0) at h) in
          record { over0 = omega (arith, lt); over1 = λ e. absurd (n0 e); over2 = λ e. absurd (n0 e) }
      | inl e0 ↦ elim (cases_eq (file s1) (rank s1)) [
        | inr n1 ↦
            let lt = ltb-true _ _ (rw (eq-eqb (file s0) (rank s0) e0, ne_eqb (file s1) (rank s1) n1) at h) in
            record { over0 = omega (arith, e0); over1 = λ e. omega (arith, lt); over2 = λ e f. absurd (n1 f) }
        | inl e1 ↦ elim (cases_eq (file s2) (rank s2)) [
          | inr n2 ↦
              let lt = ltb-true _ _ (rw (eq-eqb (file s0) (rank s0) e0, eq-eqb (file s1) (rank s1) e1, ne_eqb (file s2) (rank s2) n2) at h) in
              record { over0 = omega (arith, e0); over1 = λ e. omega (arith, e1); over2 = λ e f. omega (arith, lt) }
          | inl e2 ↦ record { over0 = omega (arith, e0); over1 = λ e. omega (arith, e1); over2 = λ e f. omega (arith, e2) }
        ]
      ]
    ]

is_under : (s0 s1 s2 : ℕ) → above_at s0 s1 s2 ≡ false → IsUnder s0 s1 s2
is_under s0 s1 s2 h =
    elim (cases_eq (file s0) (rank s0)) [
      | inr n0 ↦
          let lt = ltb-false _ _ (rw (ne_eqb (file s0) (rank s0) n0) at h) in
          record { under0 = lt; under1 = λ e. absurd (n0 e); under2 = λ e. absurd (n0 e) }
      | inl e0 ↦ elim (cases_eq (file s1) (rank s1)) [
        | inr n1 ↦
            let lt = ltb-false _ _ (rw (eq-eqb (file s0) (rank s0) e0, ne_eqb (file s1) (rank s1) n1) at h) in
            record { under0 = omega (arith, e0); under1 = λ e. lt; under2 = λ e f. absurd (n1 f) }
        | inl e1 ↦ elim (cases_eq (file s2) (rank s2)) [
          | inr n2 ↦
              let lt = ltb-false _ _ (rw (eq-eqb (file s0) (rank s0) e0, eq-eqb (file s1) (rank s1) e1, ne_eqb (file s2) (rank s2) n2) at h) in
              record { under0 = omega (arith, e0); under1 = λ e. omega (arith, e1); under2 = λ e f. lt }
          | inl e2 ↦ record { under0 = omega (arith, e0); under1 = λ e. omega (arith, e1); under2 = λ e f. omega (arith, e2) }
        ]
      ]
    ]

file_across : (s : ℕ) → s < 64 → file (across s) ≡ rank s
file_across s lt = omega arith

rank_across : (s : ℕ) → s < 64 → rank (across s) ≡ file s
rank_across s lt = omega arith

above_is : (key : ℕ) (men : List Man) (a b c s0 s1 s2 : ℕ) → IsTrio key men a b c s0 s1 s2 → is_above men (a ∷ b ∷ c ∷ []) ≡ above_at s0 s1 s2
above_is key men a b c s0 s1 s2 t =
    ap (λ x. above_at x (square_of men b) (square_of men c)) (square_of_alone men a s0 t.first)
    ∙ ap (λ x. above_at s0 x (square_of men c)) (square_of_alone men b s1 t.second)
    ∙ ap (λ x. above_at s0 s1 x) (square_of_alone men c s2 t.third)

-- three men of whom the first is in the triangle, and the first one off the diagonal below it
pub record IsLow (s0 s1 s2 : ℕ) : Type 0 where
  pub left : file s0 < 4
  pub low : rank s0 < 4
  pub under0 : rank s0 ≤ file s0
  pub under1 : file s0 ≡ rank s0 → rank s1 ≤ file s1
  pub under2 : file s0 ≡ rank s0 → file s1 ≡ rank s1 → rank s2 ≤ file s2

pub under_yes : (lead : List ℕ) (men : List Man) → is_above men lead ≡ true → under lead men ≡ moved across men
unfolding under
under_yes lead men e = rw e refl

pub under_not : (lead : List ℕ) (men : List Man) → is_above men lead ≡ false → under lead men ≡ men
unfolding under
under_not lead men e = rw e refl

under_trio : (key : ℕ) → HasNoPawns key → (men : List Man) (a b c s0 s1 s2 : ℕ) → IsTrio key men a b c s0 s1 s2 → file s0 < 4 → rank s0 < 4
    → (t0 : ℕ) × (t1 : ℕ) × (t2 : ℕ) × IsTrio key (under (a ∷ b ∷ c ∷ []) men) a b c t0 t1 t2 × IsLow t0 t1 t2
under_trio key none men a b c s0 s1 s2 t left low =
    elim (cases_Bool (above_at s0 s1 s2)) [
      | inl above ↦
          let o = is_over s0 s1 s2 above in
          let f0 = file_across s0 t.first.board in
          let f1 = file_across s1 t.second.board in
          let f2 = file_across s2 t.third.board in
          let r0 = rank_across s0 t.first.board in
          let r1 = rank_across s1 t.second.board in
          let r2 = rank_across s2 t.third.board in
          rw (under_yes (a ∷ b ∷ c ∷ []) men (above_is key men a b c s0 s1 s2 t ∙ above)) (
            across s0,
            across s1,
            across s2,
            trio_moved across across_mirrors key none men a b c s0 s1 s2 t,
            record {
              left = rw f0 low;
              low = rw r0 left;
              under0 = rw (f0, r0) o.over0;
              under1 = λ e. rw (f1, r1) (o.over1 (sym r0 ∙ sym e ∙ f0));
              under2 = λ e g. rw (f2, r2) (o.over2 (sym r0 ∙ sym e ∙ f0) (sym r1 ∙ sym g ∙ f1));
            },
          )
      | inr not_above ↦
          let u = is_under s0 s1 s2 not_above in
          rw (under_not (a ∷ b ∷ c ∷ []) men (above_is key men a b c s0 s1 s2 t ∙ not_above)) (
            s0,
            s1,
            s2,
            t,
            record {
              left = left;
              low = low;
              under0 = u.under0;
              under1 = u.under1;
              under2 = u.under2;
            },
          )
    ]

to_left_is : (men : List Man) (a s : ℕ) → IsAlone men a s → to_left a men ≡ leftward s men
unfolding to_left
to_left_is men a s h = ap (λ x. leftward x men) (square_of_alone men a s h)

to_bottom_is : (men : List Man) (a s : ℕ) → IsAlone men a s → to_bottom a men ≡ downward s men
unfolding to_bottom
to_bottom_is men a s h = ap (λ x. downward x men) (square_of_alone men a s h)

to_left_trio : (key : ℕ) → HasNoPawns key → (men : List Man) (a b c s0 s1 s2 : ℕ) → IsTrio key men a b c s0 s1 s2
    → (t0 : ℕ) × (t1 : ℕ) × (t2 : ℕ) × IsTrio key (to_left a men) a b c t0 t1 t2 × (file t0 < 4)
to_left_trio key none men a b c s0 s1 s2 t = rw (to_left_is men a s0 t.first) (left_trio key none men a b c s0 s1 s2 t)

to_bottom_trio : (key : ℕ) → HasNoPawns key → (men : List Man) (a b c s0 s1 s2 : ℕ) → IsTrio key men a b c s0 s1 s2 → file s0 < 4
    → (t0 : ℕ) × (t1 : ℕ) × (t2 : ℕ) × IsTrio key (to_bottom a men) a b c t0 t1 t2 × (file t0 < 4) × (rank t0 < 4)
to_bottom_trio key none men a b c s0 s1 s2 t left = rw (to_bottom_is men a s0 t.first) (down_trio key none men a b c s0 s1 s2 t left)

pieces_of_trio : (a b c : ℕ) (men : List Man) → turned_pieces (a ∷ b ∷ c ∷ []) men ≡ under (a ∷ b ∷ c ∷ []) (to_bottom a (to_left a men))
unfolding turned_pieces
pieces_of_trio a b c men = refl

turned_trio : (key : ℕ) → HasNoPawns key → (men : List Man) (a b c s0 s1 s2 : ℕ) → IsTrio key men a b c s0 s1 s2
    → (t0 : ℕ) × (t1 : ℕ) × (t2 : ℕ) × IsTrio key (turned_pieces (a ∷ b ∷ c ∷ []) men) a b c t0 t1 t2 × IsLow t0 t1 t2
turned_trio key none men a b c s0 s1 s2 t =
    let l = to_left_trio key none men a b c s0 s1 s2 t in
    let d = to_bottom_trio key none (to_left a men) a b c l.0 l.1 l.2 l.3 l.4 in
    rw (pieces_of_trio a b c men) (under_trio key none (to_bottom a (to_left a men)) a b c d.0 d.1 d.2 d.3 d.4 d.5)

-- ---- three different men

-- what the number of a turned group of three wants
pub record AreThree (key : ℕ) (men : List Man) (a b c : ℕ) : Type 0 where
  pub placed : IsPlacement key men
  pub s0 : ℕ
  pub s1 : ℕ
  pub s2 : ℕ
  pub first : IsAlone men a s0
  pub second : IsAlone men b s1
  pub third : IsAlone men c s2
  pub turned : IsTurnedThree s0 s1 s2

different : (key : ℕ) (men : List Man) (a b s t : ℕ) → IsPlacement key men → a ≢ b → IsAlone men a s → IsAlone men b t → s ≢ t
different key men a b s t p ne h k e = ne ((settled key men p).once a b s h.here (ap (stands men b) e ∙ k.here))

pub turned_three : (key : ℕ) → HasNoPawns key → (men : List Man) (a b c s0 s1 s2 : ℕ) → a ≢ b → a ≢ c → b ≢ c → IsTrio key men a b c s0 s1 s2
    → AreThree key (turned_pieces (a ∷ b ∷ c ∷ []) men) a b c
turned_three key none men a b c s0 s1 s2 ab ac bc t =
    let d = turned_trio key none men a b c s0 s1 s2 t in
    let trio = d.3 in
    let low = d.4 in
    record {
      placed = trio.placed;
      s0 = d.0;
      s1 = d.1;
      s2 = d.2;
      first = trio.first;
      second = trio.second;
      third = trio.third;
      turned = record {
        board0 = trio.first.board;
        board1 = trio.second.board;
        board2 = trio.third.board;
        apart01 = different key _ a b _ _ trio.placed ab trio.first trio.second;
        apart02 = different key _ a c _ _ trio.placed ac trio.first trio.third;
        apart12 = different key _ b c _ _ trio.placed bc trio.second trio.third;
        left = low.left;
        low = low.low;
        under0 = low.under0;
        under1 = low.under1;
        under2 = low.under2;
      };
    }

-- ---- two kings: as three men of whom the last two are one

two_above : (men : List Man) (a b : ℕ) → is_above men (a ∷ b ∷ []) ≡ is_above men (a ∷ b ∷ b ∷ [])
two_above men a b = same (on_diagonal (square_of men a)) (on_diagonal (square_of men b)) (nat_lt (file (square_of men a)) (rank (square_of men a))) (nat_lt (file (square_of men b)) (rank (square_of men b)))
  where
    same : (x y u v : Bool) → cond x (cond y false v) u ≡ cond x (cond y (cond y false v) v) u
    same true true u v = refl
    same true false u v = refl
    same false y u v = refl

two_under : (a b : ℕ) (men : List Man) → under (a ∷ b ∷ []) men ≡ under (a ∷ b ∷ b ∷ []) men
unfolding under
two_under a b men = ap (λ t. cond t (moved across men) men) (two_above men a b)

pieces_of_two : (a b : ℕ) (men : List Man) → turned_pieces (a ∷ b ∷ []) men ≡ turned_pieces (a ∷ b ∷ b ∷ []) men
unfolding turned_pieces
pieces_of_two a b men = two_under a b (to_bottom a (to_left a men))

-- what the number of two turned kings wants
pub record AreTwo (key : ℕ) (men : List Man) (a b : ℕ) : Type 0 where
  pub placed : IsPlacement key men
  pub s0 : ℕ
  pub s1 : ℕ
  pub first : IsAlone men a s0
  pub second : IsAlone men b s1
  pub turned : AreTurnedKings s0 s1

apart_other : (i : ℕ) → i < 4096 → kings_apart (i % 64) (i / 64) ≡ kings_apart (i / 64) (i % 64)
apart_other i lt = agree_below_at (λ i. kings_apart (i % 64) (i / 64)) (λ i. kings_apart (i / 64) (i % 64)) 4096 i refl lt

pub apart_back : (a b : ℕ) → a < 64 → b < 64 → kings_apart b a ≡ kings_apart a b
apart_back a b la lb =
    let x : (a * 64 + b) / 64 ≡ a = omega arith in
    let y : (a * 64 + b) % 64 ≡ b = omega arith in
    let h = apart_other (a * 64 + b) (omega arith) in
    rw (x, y) at h

pub turned_two : (key : ℕ) → HasNoPawns key → (men : List Man) (a b s0 s1 : ℕ) → ((a ≡ 6) × (b ≡ 14)) ⊎ ((a ≡ 14) × (b ≡ 6)) → IsTrio key men a b b s0 s1 s1
    → AreTwo key (turned_pieces (a ∷ b ∷ []) men) a b
turned_two key none men a b s0 s1 kings t =
    let d = turned_trio key none men a b b s0 s1 s1 t in
    let trio = d.3 in
    let low = d.4 in
    rw (pieces_of_two a b men) (record {
      placed = trio.placed;
      s0 = d.0;
      s1 = d.1;
      first = trio.first;
      second = trio.second;
      turned = record {
        board0 = trio.first.board;
        board1 = trio.second.board;
        left = low.left;
        under0 = low.under0;
        under1 = low.under1;
        apart = elim kings [
          | inl e ↦ trio.placed.kings d.0 d.1 (ap (λ c. stands (turned_pieces (a ∷ b ∷ b ∷ []) men) c d.0) (sym e.0) ∙ trio.first.here)
              (ap (λ c. stands (turned_pieces (a ∷ b ∷ b ∷ []) men) c d.1) (sym e.1) ∙ trio.second.here)
          | inr e ↦ sym (apart_back d.0 d.1 trio.first.board trio.second.board) ∙ trio.placed.kings d.1 d.0
              (ap (λ c. stands (turned_pieces (a ∷ b ∷ b ∷ []) men) c d.1) (sym e.1) ∙ trio.second.here)
              (ap (λ c. stands (turned_pieces (a ∷ b ∷ b ∷ []) men) c d.0) (sym e.0) ∙ trio.first.here)
        ];
      };
    })
