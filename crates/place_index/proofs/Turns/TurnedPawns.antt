-- After the turning leading pawns stand as their number wants.
use Rattle.std.proofs.Common.{◌≡◌, ◌≢◌, ℕ, zero, suc, ◌+◌, ◌-◌, ◌%◌, ◌<◌, ◌≤◌, ◌⊎◌, Bool, true, false, cond, eqb, leb, List, [], ◌∷◌, length, slice_index, refl, sym, ap, ◌∙◌, subst, inl, inr, arith}
use Rattle.std.specs.Prelude.{nat_lt, ◌&&◌, ◌||◌}
use Rattle.std.proofs.lemmas.Bool.{cases_lt, cases_eq, cases_Bool, eq-eqb, ne_eqb, eqb-true, leb-true, lt-ltb, le-ltb, and_parts, false≢true, agree_below_at}
use Rattle.place_index.specs.Square.{file, rank, left_file, left_right}
use Rattle.place_index.specs.Choose.{IsFallingBelow}
use Rattle.place_index.specs.Material.{count_of, pieces_of}
use Rattle.place_index.specs.Men.{codes_of, stands, falling, squares_of, moved}
use Rattle.place_index.specs.Inside.ShortLists.{inserted}
use Rattle.place_index.specs.Pawns.{pawn_number, pawn_square, pawn_numbers_of, AreTurnedPawns}
use Rattle.place_index.specs.Shape.{has_pawns, is_pawn_code, lead_code}
use Rattle.place_index.specs.Turning.{lead_pawn, leftward, turned_pawns, lead_file}
use Rattle.place_index.specs.Inside.Turns.{lead_square}
use Rattle.place_index.specs.Index.{AreAlone, IsPlacement}
use Rattle.place_index.specs.declared.man.Man.{Man}
use Rattle.place_index.proofs.Materials.Arranging.{count_nil, count_hit, count_miss, count_arranged}
use Rattle.place_index.proofs.Counting.Falling.{falling_hit, falling_miss, falling_falls, falling_same, same_falling, falling_member}
use Rattle.place_index.proofs.Indices.Settled.{IsSettled, squares_same}
use Rattle.place_index.proofs.Turns.Board.{settled, stands_here, stands_later, stands_same_code, stands_other_code, stands_moved, moved_placement, left_right_mirrors, length_inserted, falling_inserted}

-- ---- numbers and squares of pawns

square_number_test : (n : ℕ) → n < 48 → eqb (pawn_number (pawn_square n)) n ≡ true
unfolding pawn_number pawn_square
square_number_test n lt = agree_below_at (λ n. eqb (pawn_number (pawn_square n)) n) (λ n. true) 48 n refl lt

pub square_number : (n : ℕ) → n < 48 → pawn_number (pawn_square n) ≡ n
square_number n lt = eqb-true _ _ (square_number_test n lt)

number_square_test : (i : ℕ) → i < 48 → (eqb (pawn_square (pawn_number (i + 8))) (i + 8) && leb (suc (pawn_number (i + 8))) 48) ≡ true
unfolding pawn_number pawn_square
number_square_test i lt = agree_below_at (λ i. eqb (pawn_square (pawn_number (i + 8))) (i + 8) && leb (suc (pawn_number (i + 8))) 48) (λ i. true) 48 i refl lt

number_square_both : (s : ℕ) → 8 ≤ s → s < 56 → (pawn_square (pawn_number s) ≡ s) × (pawn_number s < 48)
number_square_both s low high =
    let e : s - 8 + 8 ≡ s = omega arith in
    let h = number_square_test (s - 8) (omega arith) in
    let both = and_parts _ _ (rw e at h) in
    (eqb-true _ _ both.0, leb-true _ _ both.1)

pub number_square : (s : ℕ) → 8 ≤ s → s < 56 → pawn_square (pawn_number s) ≡ s
number_square s low high = (number_square_both s low high).0

pub number_few : (s : ℕ) → 8 ≤ s → s < 56 → pawn_number s < 48
number_few s low high = (number_square_both s low high).1

square_range_test : (n : ℕ) → n < 48 → (leb 8 (pawn_square n) && leb (pawn_square n) 55) ≡ true
unfolding pawn_square
square_range_test n lt = agree_below_at (λ n. leb 8 (pawn_square n) && leb (pawn_square n) 55) (λ n. true) 48 n refl lt

pub square_range : (n : ℕ) → n < 48 → (8 ≤ pawn_square n) × (pawn_square n ≤ 55)
square_range n lt = let both = and_parts _ _ (square_range_test n lt) in (leb-true _ _ both.0, leb-true _ _ both.1)

-- the number of the square that lies opposite
abbrev mate : ℕ → ℕ
mate n = cond (eqb (n % 2) 0) (n + 1) (n - 1)

mate_test : (n : ℕ) → n < 48 → eqb (left_right (pawn_square n)) (pawn_square (mate n)) ≡ true
unfolding pawn_square
mate_test n lt = agree_below_at (λ n. eqb (left_right (pawn_square n)) (pawn_square (mate n))) (λ n. true) 48 n refl lt

mate_square : (n : ℕ) → n < 48 → left_right (pawn_square n) ≡ pawn_square (mate n)
mate_square n lt = eqb-true _ _ (mate_test n lt)

left_test : (n : ℕ) → n < 48 → nat_lt (file (pawn_square n)) 4 ≡ eqb (n % 2) 1
unfolding pawn_square
left_test n lt = agree_below_at (λ n. nat_lt (file (pawn_square n)) 4) (λ n. eqb (n % 2) 1) 48 n refl lt

mate_even : (n : ℕ) → n % 2 ≡ 0 → mate n ≡ n + 1
mate_even n e = rw (eq-eqb (n % 2) 0 e) refl

mate_odd : (n : ℕ) → n % 2 ≢ 0 → mate n ≡ n - 1
mate_odd n ne = rw (ne_eqb (n % 2) 0 ne) refl

-- ---- the list of numbers

pawn_test : (men : List Man) (c : ℕ) → pawn_numbers_of men c ≡ falling (λ n. stands men c (pawn_square n)) 48
unfolding pawn_numbers_of
pawn_test men c = refl

same_pawn : (s t : ℕ) → 8 ≤ s → s < 56 → t < 48 → eqb s (pawn_square t) ≡ eqb (pawn_number s) t
same_pawn s t low high lt =
    elim (cases_eq s (pawn_square t)) [
      | inl e ↦ eq-eqb s (pawn_square t) e ∙ sym (eq-eqb (pawn_number s) t (ap pawn_number e ∙ square_number t lt))
      | inr ne ↦ ne_eqb s (pawn_square t) ne ∙ sym (ne_eqb (pawn_number s) t (λ e. ne (sym (number_square s low high) ∙ ap pawn_square e)))
    ]

pub numbers_more : (m : Man) (men : List Man) (c : ℕ) → m.code ≡ c → 8 ≤ m.square → m.square < 56 → stands men c m.square ≡ false
    → pawn_numbers_of (m ∷ men) c ≡ inserted (pawn_number m.square) (pawn_numbers_of men c)
numbers_more m men c e low high free =
    pawn_test (m ∷ men) c
    ∙ falling_same (λ n. stands (m ∷ men) c (pawn_square n)) (λ t. eqb (pawn_number m.square) t || stands men c (pawn_square t)) 48
    (λ t lt. stands_same_code m men c (pawn_square t) e ∙ ap (λ b. b || stands men c (pawn_square t)) (same_pawn m.square t low high lt))
    ∙ falling_inserted (λ n. stands men c (pawn_square n)) (pawn_number m.square) 48 (ap (stands men c) (number_square m.square low high) ∙ free) (number_few m.square low high)
    ∙ ap (inserted (pawn_number m.square)) (sym (pawn_test men c))

pub numbers_still : (m : Man) (men : List Man) (c : ℕ) → m.code ≢ c → pawn_numbers_of (m ∷ men) c ≡ pawn_numbers_of men c
numbers_still m men c ne =
    pawn_test (m ∷ men) c ∙ falling_same (λ n. stands (m ∷ men) c (pawn_square n)) (λ n. stands men c (pawn_square n)) 48 (λ t lt. stands_other_code m men c (pawn_square t) ne) ∙ sym (pawn_test men c)

numbers_nil : (c : ℕ) → pawn_numbers_of [] c ≡ []
unfolding pawn_numbers_of falling stands
numbers_nil c = refl

numbers_counted : (men : List Man) (c : ℕ) → AreAlone men → ((s : ℕ) → stands men c s ≡ true → (8 ≤ s) × (s < 56)) → length (pawn_numbers_of men c) ≡ count_of (codes_of men) c
numbers_counted [] c a range = rw (numbers_nil c) (sym (count_nil c))
numbers_counted (m ∷ men) c a range =
    let rest = numbers_counted men c a.1 (λ s h. range s (stands_later m men c s h)) in
    elim (cases_eq m.code c) [
      | inl e ↦
          let at = range m.square (subst (λ d. stands (m ∷ men) d m.square ≡ true) e (stands_here m men)) in
          let more = numbers_more m men c e at.0 at.1 (a.0 c) in
          omega (arith, ap length more, length_inserted (pawn_number m.square) (pawn_numbers_of men c), rest, count_hit m.code (codes_of men), ap (count_of (m.code ∷ codes_of men)) e, ap (count_of (codes_of men)) e)
      | inr ne ↦ omega (arith, ap length (numbers_still m men c ne), rest, count_miss m.code (codes_of men) c ne)
    ]

pub numbers_size : (key : ℕ) (men : List Man) (c : ℕ) → IsPlacement key men → is_pawn_code c ≡ true → length (pawn_numbers_of men c) ≡ count_of (pieces_of key) c
numbers_size key men c p pawn =
    numbers_counted men c p.alone (λ s h. (settled key men p).pawns c s pawn h) ∙ count_arranged (codes_of men) (pieces_of key) c p.material

-- equal numbers are equal squares
pub squares_by_numbers : (key : ℕ) (one other : List Man) (c : ℕ) → IsSettled key one → IsSettled key other → is_pawn_code c ≡ true → pawn_numbers_of one c ≡ pawn_numbers_of other c → squares_of one c ≡ squares_of other c
squares_by_numbers key one other c h k pawn e =
    squares_same one other c (λ s lt. at s (cases_lt s 8) (cases_lt s 56))
  where
    outside : (men : List Man) (s : ℕ) → IsSettled key men → ((8 ≤ s) × (s < 56) → ⊥) → stands men c s ≡ false
    outside men s q out = elim (cases_Bool (stands men c s)) [ inl is ↦ absurd (out (q.pawns c s pawn is)) | inr isnt ↦ isnt ]

    at : (s : ℕ) → (s < 8) ⊎ (8 ≤ s) → (s < 56) ⊎ (56 ≤ s) → stands one c s ≡ stands other c s
    at s (inl low) range = outside one s h (λ r. omega (arith, r.0, low)) ∙ sym (outside other s k (λ r. omega (arith, r.0, low)))
    at s (inr low) (inr high) = outside one s h (λ r. omega (arith, r.1, high)) ∙ sym (outside other s k (λ r. omega (arith, r.1, high)))
    at s (inr low) (inl high) =
        let numbers = same_falling (λ n. stands one c (pawn_square n)) (λ n. stands other c (pawn_square n)) 48 (pawn_number s) (sym (pawn_test one c) ∙ e ∙ pawn_test other c) (number_few s low high) in
        rw (number_square s low high) at numbers

-- ---- the greatest number

after_first : (test : ℕ → Bool) (n s t : ℕ) (xs : List ℕ) → falling test n ≡ s ∷ xs → s < t → t < n → test t ≡ false
after_first test zero s t xs e lt below = absurd (omega (arith, below))
after_first test (suc n) s t xs e lt below =
    elim (cases_Bool (test n)) [
      | inl is ↦ absurd (omega (arith, heads n s (falling test n) xs (sym (falling_hit test n is) ∙ e), lt, below))
      | inr isnt ↦ elim (cases_eq t n) [
        | inl same ↦ ap test same ∙ isnt
        | inr ne ↦ after_first test n s t xs (sym (falling_miss test n isnt) ∙ e) lt (omega (arith, below, ne))
      ]
    ]
  where
    heads : (x y : ℕ) (xs ys : List ℕ) → x ∷ xs ≡ y ∷ ys → x ≡ y
    heads x y xs ys h = cc

first_is : (test : ℕ → Bool) (n s : ℕ) → test s ≡ true → s < n → ((t : ℕ) → s < t → t < n → test t ≡ false) → falling test n ≡ s ∷ falling test s
first_is test zero s is lt later = absurd (omega (arith, lt))
first_is test (suc n) s is lt later =
    elim (cases_eq s n) [
      | inl e ↦ rw e (falling_hit test n (ap test (sym e) ∙ is))
      | inr ne ↦
          let below : s < n = omega (arith, lt, ne) in
          falling_miss test n (later n below (omega arith)) ∙ first_is test n s is below (λ t a b. later t a (omega (arith, b)))
    ]

-- ---- turned pawns

-- what the number of turned leading pawns wants
pub record ArePawns (key : ℕ) (men : List Man) (c f : ℕ) : Type 0 where
  pub placed : IsPlacement key men
  pub lead : ℕ
  pub others : List ℕ
  pub few : lead < 48
  pub numbers : pawn_numbers_of men c ≡ lead ∷ others
  pub turned : AreTurnedPawns f (pawn_square lead) others

some_number : (xs : List ℕ) → 1 ≤ length xs → (x : ℕ) × (rest : List ℕ) × (xs ≡ x ∷ rest)
some_number [] some = absurd (omega (arith, some))
some_number (x ∷ xs) some = (x, xs, refl)

rank_range : (s : ℕ) → 8 ≤ s → s ≤ 55 → (1 ≤ rank s) × (rank s ≤ 6) × (s < 64)
rank_range s low high = (omega arith, omega arith, omega arith)

turned_record : (f n : ℕ) (others : List ℕ) → n < 48 → file (pawn_square n) ≡ f → IsFallingBelow n others → AreTurnedPawns f (pawn_square n) others
turned_record f n others lt on falls =
    let r = square_range n lt in
    let k = rank_range (pawn_square n) r.0 r.1 in
    record { board = k.2; on_file = on; off_first = k.0; off_last = k.1; falling = subst (λ m. IsFallingBelow m others) (sym (square_number n lt)) falls }

lead_is : (key : ℕ) (men : List Man) (n : ℕ) (others : List ℕ) → pawn_numbers_of men (lead_code key) ≡ n ∷ others → lead_pawn key men ≡ pawn_square n
unfolding lead_pawn
lead_is key men n others e = ap (λ l. pawn_square (slice_index l 0)) e

turned_left : (key : ℕ) (men : List Man) (s : ℕ) → lead_pawn key men ≡ s → file s < 4 → turned_pawns key men ≡ men
unfolding turned_pawns
turned_left key men s e lt = ap (λ t. leftward t men) e ∙ rw (lt-ltb (file s) 4 lt) refl

turned_right : (key : ℕ) (men : List Man) (s : ℕ) → lead_pawn key men ≡ s → 4 ≤ file s → turned_pawns key men ≡ moved left_right men
unfolding turned_pawns
turned_right key men s e le = ap (λ t. leftward t men) e ∙ rw (le-ltb (file s) 4 le) refl

pub file_left : (key : ℕ) (men : List Man) (s : ℕ) → has_pawns key ≡ true → lead_pawn key men ≡ s → file s < 4 → lead_file key men ≡ file s
unfolding lead_file
file_left key men s pawned e lt = rw (pawned, e, lt-ltb (file s) 4 lt) refl

pub file_right : (key : ℕ) (men : List Man) (s : ℕ) → has_pawns key ≡ true → lead_pawn key men ≡ s → 4 ≤ file s → lead_file key men ≡ 7 - file s
unfolding lead_file
file_right key men s pawned e le = rw (pawned, e, le-ltb (file s) 4 le) refl

pub file_none : (key : ℕ) (men : List Man) → has_pawns key ≡ false → lead_file key men ≡ 0
unfolding lead_file
file_none key men plain = rw plain refl

-- by the leading pawn's square, 0 without pawns
pub left_is : (key : ℕ) (men : List Man) → left_file (lead_square key men) ≡ lead_file key men
unfolding lead_file
left_is key men =
    elim (cases_Bool (has_pawns key)) [
      | inr plain ↦ rw plain refl
      | inl pawned ↦ rw pawned refl
    ]

file_opposite : (s : ℕ) → s < 64 → file (left_right s) ≡ 7 - file s
file_opposite s lt = omega arith

rank_opposite : (s : ℕ) → s < 64 → rank (left_right s) ≡ rank s
rank_opposite s lt = omega arith

back_rank : (s : ℕ) → s < 64 → (1 ≤ rank s) × (rank s ≤ 6) → (1 ≤ rank (left_right s)) × (rank (left_right s) ≤ 6)
back_rank s lt r = subst (λ k. (1 ≤ k) × (k ≤ 6)) (sym (rank_opposite s lt)) r

mirrored_rank : (key : ℕ) (men : List Man) → IsPlacement key men → (c s : ℕ) → is_pawn_code c ≡ true → stands men c s ≡ true → (1 ≤ rank (left_right s)) × (rank (left_right s) ≤ 6)
mirrored_rank key men p c s pawn h = back_rank s (p.board c s h) (p.pawns c s pawn h)

even_lead : (n : ℕ) → n < 48 → 4 ≤ file (pawn_square n) → n % 2 ≡ 0
even_lead n lt le =
    elim (cases_eq (n % 2) 1) [
      | inl odd ↦ absurd (false≢true (sym (le-ltb (file (pawn_square n)) 4 le) ∙ left_test n lt ∙ eq-eqb (n % 2) 1 odd))
      | inr ne ↦ omega (arith, ne)
    ]

-- the mirrored leading pawn still has the greatest number
mirrored_numbers : (key : ℕ) (men : List Man) (c n : ℕ) (others : List ℕ) → IsPlacement key men → n < 48 → n % 2 ≡ 0 → pawn_numbers_of men c ≡ n ∷ others
    → pawn_numbers_of (moved left_right men) c ≡ (n + 1) ∷ falling (λ t. stands (moved left_right men) c (pawn_square t)) (n + 1)
mirrored_numbers key men c n others p lt even e =
    pawn_test (moved left_right men) c
    ∙ first_is (λ t. stands (moved left_right men) c (pawn_square t)) 48 (n + 1) here (omega (arith, even, lt)) later
  where
    list : falling (λ t. stands men c (pawn_square t)) 48 ≡ n ∷ others
    list = sym (pawn_test men c) ∙ e

    square_board : (t : ℕ) → t < 48 → pawn_square t < 64
    square_board t few = omega (arith, (square_range t few).1)

    mirrored : (t : ℕ) → t < 48 → stands (moved left_right men) c (pawn_square t) ≡ stands men c (pawn_square (mate t))
    mirrored t few = stands_moved left_right men c (pawn_square t) left_right_mirrors p.board (square_board t few) ∙ ap (stands men c) (mate_square t few)

    here : stands (moved left_right men) c (pawn_square (n + 1)) ≡ true
    here =
        let back : mate (n + 1) ≡ n = mate_odd (n + 1) (λ z. omega (arith, z, even)) ∙ omega arith in
        mirrored (n + 1) (omega (arith, even, lt)) ∙ ap (λ t. stands men c (pawn_square t)) back ∙ (falling_member (λ t. stands men c (pawn_square t)) 48 n others list).0

    later : (t : ℕ) → n + 1 < t → t < 48 → stands (moved left_right men) c (pawn_square t) ≡ false
    later t far few = mirrored t few ∙ elim (cases_eq (t % 2) 0) [
      | inl z ↦ ap (λ x. stands men c (pawn_square x)) (mate_even t z) ∙ after_first (λ x. stands men c (pawn_square x)) 48 n (t + 1) others list (omega (arith, far)) (omega (arith, few, z))
      | inr o ↦ ap (λ x. stands men c (pawn_square x)) (mate_odd t o) ∙ after_first (λ x. stands men c (pawn_square x)) 48 n (t - 1) others list (omega (arith, far)) (omega (arith, few, far))
    ]

mirrored_file : (n : ℕ) → n < 48 → n % 2 ≡ 0 → file (pawn_square (n + 1)) ≡ 7 - file (pawn_square n)
mirrored_file n lt even =
    ap file (ap pawn_square (sym (mate_even n even)) ∙ sym (mate_square n lt)) ∙ file_opposite (pawn_square n) (omega (arith, (square_range n lt).1))

pub turned_leading_pawns : (key : ℕ) (men : List Man) → has_pawns key ≡ true → is_pawn_code (lead_code key) ≡ true → 1 ≤ count_of (pieces_of key) (lead_code key) → IsPlacement key men
    → ArePawns key (turned_pawns key men) (lead_code key) (lead_file key men)
turned_leading_pawns key men pawned pawn some p =
    let c = lead_code key in
    let l = some_number (pawn_numbers_of men (lead_code key)) (omega (arith, some, numbers_size key men (lead_code key) p pawn)) in
    let list = sym (pawn_test men (lead_code key)) ∙ l.2 in
    let member = falling_member (λ t. stands men (lead_code key) (pawn_square t)) 48 l.0 l.1 list in
    let lead = lead_is key men l.0 l.1 l.2 in
    elim (cases_lt (file (pawn_square l.0)) 4) [
      | inl lt ↦
          let falls = subst (λ xs. IsFallingBelow 48 xs) list (falling_falls (λ t. stands men (lead_code key) (pawn_square t)) 48) in
          rw (turned_left key men (pawn_square l.0) lead lt, file_left key men (pawn_square l.0) pawned lead lt) (record {
            placed = p;
            lead = l.0;
            others = l.1;
            few = member.1;
            numbers = l.2;
            turned = turned_record (file (pawn_square l.0)) l.0 l.1 member.1 refl falls.1;
          })
      | inr le ↦
          let even = even_lead l.0 member.1 le in
          let more : l.0 + 1 < 48 = omega (arith, even, member.1) in
          rw (turned_right key men (pawn_square l.0) lead le, file_right key men (pawn_square l.0) pawned lead le) (record {
            placed = moved_placement left_right key men left_right_mirrors (mirrored_rank key men p) p;
            lead = l.0 + 1;
            others = falling (λ t. stands (moved left_right men) (lead_code key) (pawn_square t)) (l.0 + 1);
            few = more;
            numbers = mirrored_numbers key men (lead_code key) l.0 l.1 p member.1 even l.2;
            turned = turned_record (7 - file (pawn_square l.0)) (l.0 + 1) _ more (mirrored_file l.0 member.1 even) (falling_falls (λ t. stands (moved left_right men) (lead_code key) (pawn_square t)) (l.0 + 1));
          })
    ]

pub file_below : (key : ℕ) (men : List Man) → lead_file key men < 4
file_below key men =
    elim (cases_Bool (has_pawns key)) [
      | inr plain ↦ omega (arith, file_none key men plain)
      | inl pawned ↦ elim (cases_lt (file (lead_pawn key men)) 4) [
        | inl lt ↦ omega (arith, file_left key men (lead_pawn key men) pawned refl lt, lt)
        | inr le ↦ omega (arith, file_right key men (lead_pawn key men) pawned refl le, le)
      ]
    ]
