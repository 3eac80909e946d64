-- Going through men from the last to the first, squares and pawn numbers are collected.
use Rattle.std.proofs.Common.{◌≡◌, ◌≢◌, ℕ, zero, suc, ◌+◌, ◌-◌, ◌<◌, ◌≤◌, ◌⊎◌, true, List, [], ◌∷◌, ◌++◌, length, take, drop, slice_index, get_or, refl, sym, ap, ◌∙◌, subst, inl, inr, arith}
use Rattle.std.proofs.lemmas.List.{drop_more, drop_all, take_more, append_assoc, take_all}
use Rattle.std.proofs.lemmas.Bool.{cases_eq, cases_lt, lt-ltb}
use Rattle.place_index.specs.Men.{stands, squares_of, falling}
use Rattle.place_index.specs.Inside.ShortLists.{inserted}
use Rattle.place_index.specs.Pawns.{pawn_number, pawn_numbers_of}
use Rattle.place_index.specs.Index.{AreAlone}
use Rattle.place_index.specs.Inside.Groups.{AreMen}
use Rattle.place_index.specs.declared.man.Man.{Man}
use Rattle.place_index.proofs.Turns.Board.{stands_here, stands_later, squares_more, squares_still, inserted_below, length_inserted}
use Rattle.place_index.proofs.Turns.TurnedPawns.{numbers_more, numbers_still}

-- ---- a number's place among falling ones

pub inserted_above : (s x : ℕ) (xs : List ℕ) → x < s → inserted s (x ∷ xs) ≡ s ∷ x ∷ xs
unfolding inserted
inserted_above s x xs lt = rw (lt-ltb x s lt) refl

pub inserted_last : (s : ℕ) → inserted s [] ≡ s ∷ []
unfolding inserted
inserted_last s = refl

pub insert_start : (s : ℕ) (xs : List ℕ) → inserted s xs ≡ take 0 xs ++ inserted s (drop 0 xs)
insert_start s xs = refl

pub insert_on : (s i : ℕ) (xs : List ℕ) → i < length xs → s ≤ get_or xs i 0 → inserted s xs ≡ take i xs ++ inserted s (drop i xs) → inserted s xs ≡ take (i + 1) xs ++ inserted s (drop (i + 1) xs)
insert_on s i xs lt le e =
    e ∙ ap (λ l. take i xs ++ inserted s l) (drop_more xs i 0 lt) ∙ ap (λ l. take i xs ++ l) (inserted_below s (get_or xs i 0) (drop (i + 1) xs) le)
    ∙ sym (append_assoc (take i xs) (get_or xs i 0 ∷ []) (inserted s (drop (i + 1) xs))) ∙ ap (λ l. l ++ inserted s (drop (i + 1) xs)) (sym (take_more xs i 0 lt))

pub insert_here : (s i : ℕ) (xs : List ℕ) → i < length xs → get_or xs i 0 < s → inserted s xs ≡ take i xs ++ inserted s (drop i xs) → take i xs ++ s ∷ drop i xs ≡ inserted s xs
insert_here s i xs lt less e =
    sym (e ∙ ap (λ l. take i xs ++ inserted s l) (drop_more xs i 0 lt) ∙ ap (λ l. take i xs ++ l) (inserted_above s (get_or xs i 0) (drop (i + 1) xs) less)
    ∙ ap (λ l. take i xs ++ s ∷ l) (sym (drop_more xs i 0 lt)))

pub insert_end : (s i : ℕ) (xs : List ℕ) → length xs ≤ i → inserted s xs ≡ take i xs ++ inserted s (drop i xs) → xs ++ s ∷ [] ≡ inserted s xs
insert_end s i xs le e =
    sym (e ∙ ap (λ l. take i xs ++ inserted s l) (drop_all i xs le) ∙ ap (λ l. take i xs ++ l) (inserted_last s) ∙ ap (λ l. l ++ s ∷ []) (take_all i xs le))

-- ---- men from the last on

alone_drop : (i : ℕ) (men : List Man) → AreAlone men → AreAlone (drop i men)
alone_drop zero men a = a
alone_drop (suc i) [] a = tt
alone_drop (suc i) (m ∷ men) a = alone_drop i men a.1

board_drop : (i : ℕ) (men : List Man) → ((c s : ℕ) → stands men c s ≡ true → s < 64) → (c s : ℕ) → stands (drop i men) c s ≡ true → s < 64
board_drop zero men b c s h = b c s h
board_drop (suc i) [] b c s h = b c s h
board_drop (suc i) (m ∷ men) b c s h = board_drop i men (λ d t k. b d t (stands_later m men d t k)) c s h

range_drop : (c i : ℕ) (men : List Man) → ((s : ℕ) → stands men c s ≡ true → (8 ≤ s) × (s < 56)) → (s : ℕ) → stands (drop i men) c s ≡ true → (8 ≤ s) × (s < 56)
range_drop c zero men b s h = b s h
range_drop c (suc i) [] b s h = b s h
range_drop c (suc i) (m ∷ men) b s h = range_drop c i men (λ t k. b t (stands_later m men c t k)) s h

pub drop_back : (men : List Man) (i : ℕ) (m : Man) → 0 < i → i ≤ length men → m ≡ get_or men (i - 1) m → drop (i - 1) men ≡ m ∷ drop i men
drop_back men i m pos le is =
    let up : i - 1 + 1 ≡ i = omega arith in
    drop_more men (i - 1) m (omega arith) ∙ ap (λ x. x ∷ drop (i - 1 + 1) men) (sym is) ∙ ap (λ n. m ∷ drop n men) up

pub squares_none : (c : ℕ) → squares_of [] c ≡ []
unfolding squares_of falling stands
squares_none c = refl

pub numbers_none : (c : ℕ) → pawn_numbers_of [] c ≡ []
unfolding pawn_numbers_of falling stands
numbers_none c = refl

pub squares_end : (men : List Man) (c : ℕ) → squares_of (drop (length men) men) c ≡ []
squares_end men c = ap (λ l. squares_of l c) (drop_all (length men) men (same (length men))) ∙ squares_none c
  where
    same : (n : ℕ) → n ≤ n
    same n = omega arith

pub numbers_end : (men : List Man) (c : ℕ) → pawn_numbers_of (drop (length men) men) c ≡ []
numbers_end men c = ap (λ l. pawn_numbers_of l c) (drop_all (length men) men (same (length men))) ∙ numbers_none c
  where
    same : (n : ℕ) → n ≤ n
    same n = omega arith

pub squares_pass : (men : List Man) (i c : ℕ) (m : Man) → 0 < i → i ≤ length men → m ≡ get_or men (i - 1) m → m.code ≢ c → squares_of (drop i men) c ≡ squares_of (drop (i - 1) men) c
squares_pass men i c m pos le is ne = sym (ap (λ l. squares_of l c) (drop_back men i m pos le is) ∙ squares_still m (drop i men) c ne)

pub squares_take : (men : List Man) (i c : ℕ) (m : Man) → AreMen men → 0 < i → i ≤ length men → m ≡ get_or men (i - 1) m → m.code ≡ c → inserted m.square (squares_of (drop i men) c) ≡ squares_of (drop (i - 1) men) c
squares_take men i c m a pos le is e =
    let d = drop_back men i m pos le is in
    let alone = subst AreAlone d (alone_drop (i - 1) men a.alone) in
    let board = subst (λ l. (c s : ℕ) → stands l c s ≡ true → s < 64) d (board_drop (i - 1) men a.board) in
    sym (ap (λ l. squares_of l c) d ∙ squares_more m (drop i men) c e (board m.code m.square (stands_here m (drop i men))) (alone.0 c))

pub numbers_pass : (men : List Man) (i c : ℕ) (m : Man) → 0 < i → i ≤ length men → m ≡ get_or men (i - 1) m → m.code ≢ c → pawn_numbers_of (drop i men) c ≡ pawn_numbers_of (drop (i - 1) men) c
numbers_pass men i c m pos le is ne = sym (ap (λ l. pawn_numbers_of l c) (drop_back men i m pos le is) ∙ numbers_still m (drop i men) c ne)

pub numbers_take : (men : List Man) (i c : ℕ) (m : Man) → AreMen men → ((s : ℕ) → stands men c s ≡ true → (8 ≤ s) × (s < 56)) → 0 < i → i ≤ length men → m ≡ get_or men (i - 1) m → m.code ≡ c
    → inserted (pawn_number m.square) (pawn_numbers_of (drop i men) c) ≡ pawn_numbers_of (drop (i - 1) men) c
numbers_take men i c m a pawns pos le is e =
    let d = drop_back men i m pos le is in
    let alone = subst AreAlone d (alone_drop (i - 1) men a.alone) in
    let range = subst (λ l. (s : ℕ) → stands l c s ≡ true → (8 ≤ s) × (s < 56)) d (range_drop c (i - 1) men pawns) in
    let at = range m.square (subst (λ k. stands (m ∷ drop i men) k m.square ≡ true) e (stands_here m (drop i men))) in
    sym (ap (λ l. pawn_numbers_of l c) d ∙ numbers_more m (drop i men) c e at.0 at.1 (alone.0 c))

-- ---- room for one more

squares_grow : (m : Man) (men : List Man) (c : ℕ) → AreAlone (m ∷ men) → m.square < 64 → length (squares_of men c) ≤ length (squares_of (m ∷ men) c)
squares_grow m men c a lt =
    elim (cases_eq m.code c) [
      | inl e ↦ omega (arith, ap length (squares_more m men c e lt (a.0 c)), length_inserted m.square (squares_of men c))
      | inr ne ↦ omega (arith, ap length (squares_still m men c ne))
    ]

squares_shrink : (i : ℕ) (men : List Man) (c : ℕ) → AreAlone men → ((c s : ℕ) → stands men c s ≡ true → s < 64) → length (squares_of (drop i men) c) ≤ length (squares_of men c)
squares_shrink zero men c a b = omega arith
squares_shrink (suc i) [] c a b = omega arith
squares_shrink (suc i) (m ∷ men) c a b =
    omega (arith, squares_shrink i men c a.1 (λ d s h. b d s (stands_later m men d s h)), squares_grow m men c a (b m.code m.square (stands_here m men)))

pub squares_room : (men : List Man) (i c : ℕ) (m : Man) → AreMen men → 0 < i → i ≤ length men → m ≡ get_or men (i - 1) m → m.code ≡ c → length (squares_of (drop i men) c) < length (squares_of men c)
squares_room men i c m a pos le is e =
    omega (
      arith,
      ap length (squares_take men i c m a pos le is e),
      length_inserted m.square (squares_of (drop i men) c),
      squares_shrink (i - 1) men c a.alone a.board,
    )

numbers_grow : (m : Man) (men : List Man) (c : ℕ) → AreAlone (m ∷ men) → (m.code ≡ c → (8 ≤ m.square) × (m.square < 56)) → length (pawn_numbers_of men c) ≤ length (pawn_numbers_of (m ∷ men) c)
numbers_grow m men c a at =
    elim (cases_eq m.code c) [
      | inl e ↦ omega (arith, ap length (numbers_more m men c e (at e).0 (at e).1 (a.0 c)), length_inserted (pawn_number m.square) (pawn_numbers_of men c))
      | inr ne ↦ omega (arith, ap length (numbers_still m men c ne))
    ]

numbers_shrink : (i : ℕ) (men : List Man) (c : ℕ) → AreAlone men → ((s : ℕ) → stands men c s ≡ true → (8 ≤ s) × (s < 56)) → length (pawn_numbers_of (drop i men) c) ≤ length (pawn_numbers_of men c)
numbers_shrink zero men c a b = omega arith
numbers_shrink (suc i) [] c a b = omega arith
numbers_shrink (suc i) (m ∷ men) c a b =
    omega (
      arith,
      numbers_shrink i men c a.1 (λ s h. b s (stands_later m men c s h)),
      numbers_grow m men c a (λ e. b m.square (subst (λ k. stands (m ∷ men) k m.square ≡ true) e (stands_here m men))),
    )

pub numbers_room : (men : List Man) (i c : ℕ) (m : Man) → AreMen men → ((s : ℕ) → stands men c s ≡ true → (8 ≤ s) × (s < 56)) → 0 < i → i ≤ length men → m ≡ get_or men (i - 1) m → m.code ≡ c
    → length (pawn_numbers_of (drop i men) c) < length (pawn_numbers_of men c)
numbers_room men i c m a pawns pos le is e =
    omega (
      arith,
      ap length (numbers_take men i c m a pawns pos le is e),
      length_inserted (pawn_number m.square) (pawn_numbers_of (drop i men) c),
      numbers_shrink (i - 1) men c a.alone pawns,
    )

-- ---- the highest square

pub head_inserted : (s : ℕ) (xs : List ℕ) → ((slice_index xs 0 < s) × (slice_index (inserted s xs) 0 ≡ s)) ⊎ ((s ≤ slice_index xs 0) × (slice_index (inserted s xs) 0 ≡ slice_index xs 0))
head_inserted s [] =
    elim (cases_lt 0 s) [
      | inl lt ↦ inl (lt, ap (λ l. slice_index l 0) (inserted_last s))
      | inr le ↦ inr (le, ap (λ l. slice_index l 0) (inserted_last s) ∙ omega (arith, le))
    ]
head_inserted s (x ∷ xs) =
    elim (cases_lt x s) [
      | inl lt ↦ inl (lt, ap (λ l. slice_index l 0) (inserted_above s x xs lt))
      | inr le ↦ inr (le, ap (λ l. slice_index l 0) (inserted_below s x xs le))
    ]

-- ---- the greatest pawn number

pub greatest_more : (men : List Man) (i c greatest n : ℕ) (m : Man) → AreMen men → ((s : ℕ) → stands men c s ≡ true → (8 ≤ s) × (s < 56)) → 0 < i → i ≤ length men → m ≡ get_or men (i - 1) m → m.code ≡ c
    → greatest ≡ slice_index (pawn_numbers_of (drop i men) c) 0 → n ≡ pawn_number m.square → greatest < n → n ≡ slice_index (pawn_numbers_of (drop (i - 1) men) c) 0
greatest_more men i c greatest n m a pawns pos le is e h number lt =
    let all = ap (λ l. slice_index l 0) (numbers_take men i c m a pawns pos le is e) in
    elim (head_inserted (pawn_number m.square) (pawn_numbers_of (drop i men) c)) [
      | inl more ↦ number ∙ sym more.1 ∙ all
      | inr less ↦ absurd (omega (arith, h, lt, number, less.0))
    ]

pub greatest_same : (men : List Man) (i c greatest n : ℕ) (m : Man) → AreMen men → ((s : ℕ) → stands men c s ≡ true → (8 ≤ s) × (s < 56)) → 0 < i → i ≤ length men → m ≡ get_or men (i - 1) m → m.code ≡ c
    → greatest ≡ slice_index (pawn_numbers_of (drop i men) c) 0 → n ≡ pawn_number m.square → n ≤ greatest → greatest ≡ slice_index (pawn_numbers_of (drop (i - 1) men) c) 0
greatest_same men i c greatest n m a pawns pos le is e h number lt =
    let all = ap (λ l. slice_index l 0) (numbers_take men i c m a pawns pos le is e) in
    elim (head_inserted (pawn_number m.square) (pawn_numbers_of (drop i men) c)) [
      | inl more ↦ absurd (omega (arith, h, lt, number, more.0))
      | inr less ↦ h ∙ sym less.1 ∙ all
    ]
