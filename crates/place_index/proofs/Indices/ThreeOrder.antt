-- Leading groups of three by their numbers.
use Rattle.std.proofs.Common.{◌≡◌, ◌≢◌, ℕ, zero, suc, ◌+◌, ◌-◌, ◌*◌, ◌<◌, ◌≤◌, ◌⊎◌, Bool, true, false, not, leb, eqb, [], ◌∷◌, get_or, refl, sym, ap, ◌∙◌, inl, inr, arith}
use Rattle.std.specs.Prelude.{nat_lt, ◌&&◌, ◌||◌}
use Rattle.std.proofs.lemmas.Bool.{cases_lt, cases_eq, agree_below_at, lt-ltb, le-ltb, ltb-true, eqb-true, eq-eqb, ne_eqb, le-leb}
use Rattle.place_index.specs.Square.{file, rank, under_diagonal, before}
use Rattle.place_index.specs.Counting.{count_before}
use Rattle.place_index.proofs.Counting.Counts.{count_later}
use Rattle.place_index.proofs.Counting.Orders.{later_head, never_later, later_total, same_heads}
use Rattle.place_index.specs.Choose.{IsLater}
use Rattle.place_index.specs.Three.{triangle_number, lower_number, IsTurnedThree, first_off, three_at, three_number, three_order, triangle, ThreesAreNumbered}

-- ---- men before a man

pub before_cases : (a b : ℕ) → ((a < b) × (before a b ≡ 1)) ⊎ ((b ≤ a) × (before a b ≡ 0))
unfolding before
before_cases a b =
    elim (cases_lt a b) [
      | inl lt ↦ inl (lt, rw (lt-ltb a b lt) refl)
      | inr le ↦ inr (le, rw (le-ltb a b le) refl)
    ]

-- ---- lower squares

under_is : (s : ℕ) → rank s < file s → under_diagonal s ≡ true
under_is s lt = lt-ltb (rank s) (file s) lt

pub lower_later : (s t : ℕ) → rank s < file s → s < t → lower_number s < lower_number t
lower_later s t under lt = count_later under_diagonal s t (under_is s under) lt

lower_all : lower_number 64 ≡ 28
unfolding count_before
lower_all = refl

pub lower_below : (s : ℕ) → rank s < file s → s < 64 → lower_number s < 28
lower_below s under lt = omega (arith, lower_later s 64 under lt, lower_all)

-- ---- the triangle

implied : (a c : Bool) → (not a || c) ≡ true → a ≡ true → c ≡ true
implied true c h e = h
implied false c h e = cc

both : (a b : Bool) → a ≡ true → b ≡ true → (a && b) ≡ true
both a b p q = rw (p, q) refl

triangle_off_test : (s : ℕ) → s < 64 → (not (nat_lt (rank s) (file s) && nat_lt (file s) 4) || nat_lt (triangle_number s) 6) ≡ true
unfolding triangle_number
triangle_off_test s lt = agree_below_at (λ s. not (nat_lt (rank s) (file s) && nat_lt (file s) 4) || nat_lt (triangle_number s) 6) (λ s. true) 64 s refl lt

triangle_on_test : (s : ℕ) → s < 64 → (not (eqb (file s) (rank s) && nat_lt (file s) 4) || eqb (triangle_number s) (6 + rank s)) ≡ true
unfolding triangle_number
triangle_on_test s lt = agree_below_at (λ s. not (eqb (file s) (rank s) && nat_lt (file s) 4) || eqb (triangle_number s) (6 + rank s)) (λ s. true) 64 s refl lt

triangle_back_test : (s : ℕ) → s < 64 → (not (leb (rank s) (file s) && nat_lt (file s) 4) || eqb (get_or triangle (triangle_number s) 0) s) ≡ true
unfolding triangle_number
triangle_back_test s lt = agree_below_at (λ s. not (leb (rank s) (file s) && nat_lt (file s) 4) || eqb (get_or triangle (triangle_number s) 0) s) (λ s. true) 64 s refl lt

pub triangle_off : (s : ℕ) → s < 64 → rank s < file s → file s < 4 → triangle_number s < 6
triangle_off s lt under left =
    ltb-true (triangle_number s) 6 (implied _ _ (triangle_off_test s lt) (both _ _ (lt-ltb (rank s) (file s) under) (lt-ltb (file s) 4 left)))

pub triangle_on : (s : ℕ) → s < 64 → file s ≡ rank s → file s < 4 → triangle_number s ≡ 6 + rank s
triangle_on s lt on left =
    eqb-true (triangle_number s) (6 + rank s) (implied _ _ (triangle_on_test s lt) (both _ _ (eq-eqb (file s) (rank s) on) (lt-ltb (file s) 4 left)))

pub triangle_back : (s : ℕ) → s < 64 → rank s ≤ file s → file s < 4 → get_or triangle (triangle_number s) 0 ≡ s
triangle_back s lt under left =
    eqb-true (get_or triangle (triangle_number s) 0) s (implied _ _ (triangle_back_test s lt) (both _ _ (le-leb (rank s) (file s) under) (lt-ltb (file s) 4 left)))

pub triangle_one : (s t : ℕ) → s < 64 → t < 64 → rank s ≤ file s → rank t ≤ file t → file s < 4 → file t < 4 → triangle_number s ≡ triangle_number t → s ≡ t
triangle_one s t ls lt us ut fs ft e =
    sym (triangle_back s ls us fs) ∙ ap (λ n. get_or triangle n 0) e ∙ triangle_back t lt ut ft

-- ---- what is left of a square, a rank, when the men before are taken out

slot1_below : (a b : ℕ) → a < 64 → b < 64 → a ≢ b → b - before a b < 63
slot1_below a b la lb ne =
    elim (before_cases a b) [ inl h ↦ omega (arith, h.0, h.1) | inr h ↦ omega (arith, h.0, h.1) ]

slot1_later : (a b e : ℕ) → a ≢ b → a ≢ e → b < e → b - before a b < e - before a e
slot1_later a b e nb ne lt =
    elim (before_cases a b) [
      | inl h ↦ elim (before_cases a e) [ inl i ↦ omega (arith, h.0, h.1, i.0, i.1) | inr i ↦ omega (arith, h.0, h.1, i.0, i.1) ]
      | inr h ↦ elim (before_cases a e) [ inl i ↦ omega (arith, h.0, h.1, i.0, i.1) | inr i ↦ omega (arith, h.0, h.1, i.0, i.1) ]
    ]

slot2_below : (a b c : ℕ) → a < 64 → b < 64 → c < 64 → a ≢ b → a ≢ c → b ≢ c → c - (before a c + before b c) < 62
slot2_below a b c la lb lc ab ac bc =
    elim (before_cases a c) [
      | inl h ↦ elim (before_cases b c) [ inl i ↦ omega (arith, h.0, h.1, i.0, i.1) | inr i ↦ omega (arith, h.0, h.1, i.0, i.1) ]
      | inr h ↦ elim (before_cases b c) [ inl i ↦ omega (arith, h.0, h.1, i.0, i.1) | inr i ↦ omega (arith, h.0, h.1, i.0, i.1) ]
    ]

slot2_later : (a b c f : ℕ) → a ≢ b → a ≢ c → b ≢ c → a ≢ f → b ≢ f → c < f → c - (before a c + before b c) < f - (before a f + before b f)
slot2_later a b c f ab ac bc af bf lt =
    elim (before_cases a c) [
      | inl h ↦ elim (before_cases b c) [
        | inl i ↦ elim (before_cases a f) [ inl j ↦ elim (before_cases b f) [ inl k ↦ omega (arith, h.0, h.1, i.0, i.1, j.0, j.1, k.0, k.1) | inr k ↦ omega (arith, h.0, h.1, i.0, i.1, j.0, j.1, k.0, k.1) ] | inr j ↦ omega (arith, h.0, j.0) ]
        | inr i ↦ elim (before_cases a f) [ inl j ↦ elim (before_cases b f) [ inl k ↦ omega (arith, h.0, h.1, i.0, i.1, j.0, j.1, k.0, k.1) | inr k ↦ omega (arith, h.0, h.1, i.0, i.1, j.0, j.1, k.0, k.1) ] | inr j ↦ omega (arith, h.0, j.0) ]
      ]
      | inr h ↦ elim (before_cases b c) [
        | inl i ↦ elim (before_cases a f) [ inl j ↦ elim (before_cases b f) [ inl k ↦ omega (arith, h.0, h.1, i.0, i.1, j.0, j.1, k.0, k.1) | inr k ↦ omega (arith, i.0, k.0) ] | inr j ↦ elim (before_cases b f) [ inl k ↦ omega (arith, h.0, h.1, i.0, i.1, j.0, j.1, k.0, k.1) | inr k ↦ omega (arith, i.0, k.0) ] ]
        | inr i ↦ elim (before_cases a f) [ inl j ↦ elim (before_cases b f) [ inl k ↦ omega (arith, h.0, h.1, i.0, i.1, j.0, j.1, k.0, k.1) | inr k ↦ omega (arith, h.0, h.1, i.0, i.1, j.0, j.1, k.0, k.1) ] | inr j ↦ elim (before_cases b f) [ inl k ↦ omega (arith, h.0, h.1, i.0, i.1, j.0, j.1, k.0, k.1) | inr k ↦ omega (arith, h.0, h.1, i.0, i.1, j.0, j.1, k.0, k.1) ] ]
      ]
    ]

-- a square on the diagonal is nine times its rank
nine : (s : ℕ) → file s ≡ rank s → s ≡ 9 * rank s
nine s on = omega (arith, on)

before_ranks : (a b : ℕ) → file a ≡ rank a → file b ≡ rank b → before a b ≡ before (rank a) (rank b)
before_ranks a b oa ob =
    elim (before_cases a b) [
      | inl h ↦ elim (before_cases (rank a) (rank b)) [ inl i ↦ omega (arith, h.1, i.1) | inr i ↦ absurd (omega (arith, h.0, i.0, nine a oa, nine b ob)) ]
      | inr h ↦ elim (before_cases (rank a) (rank b)) [ inl i ↦ absurd (omega (arith, h.0, i.0, nine a oa, nine b ob)) | inr i ↦ omega (arith, h.1, i.1) ]
    ]

ranks_apart : (a b : ℕ) → file a ≡ rank a → file b ≡ rank b → a ≢ b → rank a ≢ rank b
ranks_apart a b oa ob ne e = ne (omega (arith, nine a oa, nine b ob, e))

ranks_later : (a b : ℕ) → file a ≡ rank a → file b ≡ rank b → a < b → rank a < rank b
ranks_later a b oa ob lt = omega (arith, nine a oa, nine b ob, lt)

rank1_below : (a b : ℕ) → a < 64 → b < 64 → a ≢ b → file a ≡ rank a → file b ≡ rank b → rank b - before a b < 7
rank1_below a b la lb ne oa ob =
    let apart = ranks_apart a b oa ob ne in
    elim (before_cases (rank a) (rank b)) [
      | inl h ↦ omega (arith, before_ranks a b oa ob, h.0, h.1)
      | inr h ↦ omega (arith, before_ranks a b oa ob, h.0, h.1, apart)
    ]

rank1_later : (a b e : ℕ) → a ≢ b → a ≢ e → b < e → file a ≡ rank a → file b ≡ rank b → file e ≡ rank e → rank b - before a b < rank e - before a e
rank1_later a b e nb ne lt oa ob oe =
    omega (
      arith,
      before_ranks a b oa ob,
      before_ranks a e oa oe,
      slot1_later (rank a) (rank b) (rank e) (ranks_apart a b oa ob nb) (ranks_apart a e oa oe ne) (ranks_later b e ob oe lt),
    )

rank2_below : (a b c : ℕ) → a < 64 → b < 64 → c < 64 → a ≢ b → a ≢ c → b ≢ c → file a ≡ rank a → file b ≡ rank b → file c ≡ rank c → rank c - (before a c + before b c) < 6
rank2_below a b c la lb lc ab ac bc oa ob oc =
    let x = ranks_apart a b oa ob ab in
    let y = ranks_apart a c oa oc ac in
    let z = ranks_apart b c ob oc bc in
    elim (before_cases (rank a) (rank c)) [
      | inl h ↦ elim (before_cases (rank b) (rank c)) [ inl i ↦ omega (arith, before_ranks a c oa oc, before_ranks b c ob oc, h.0, h.1, i.0, i.1) | inr i ↦ omega (arith, before_ranks a c oa oc, before_ranks b c ob oc, h.0, h.1, i.0, i.1, z) ]
      | inr h ↦ elim (before_cases (rank b) (rank c)) [ inl i ↦ omega (arith, before_ranks a c oa oc, before_ranks b c ob oc, h.0, h.1, i.0, i.1, y) | inr i ↦ omega (arith, before_ranks a c oa oc, before_ranks b c ob oc, h.0, h.1, i.0, i.1, x, y, z) ]
    ]

rank2_later : (a b c f : ℕ) → a ≢ b → a ≢ c → b ≢ c → a ≢ f → b ≢ f → c < f → file a ≡ rank a → file b ≡ rank b → file c ≡ rank c → file f ≡ rank f
    → rank c - (before a c + before b c) < rank f - (before a f + before b f)
rank2_later a b c f ab ac bc af bf lt oa ob oc of =
    omega (
      arith,
      before_ranks a c oa oc,
      before_ranks b c ob oc,
      before_ranks a f oa of,
      before_ranks b f ob of,
      slot2_later (rank a) (rank b) (rank c) (rank f) (ranks_apart a b oa ob ab) (ranks_apart a c oa oc ac) (ranks_apart b c ob oc bc)
          (ranks_apart a f oa of af) (ranks_apart b f ob of bf) (ranks_later c f oc of lt),
    )

-- ---- the four cases

-- which man is the first off the diagonal
abbrev pub IsFirstOff : ℕ → ℕ → ℕ → ℕ → Type 0
IsFirstOff zero a b c = rank a < file a
IsFirstOff (suc zero) a b c = (file a ≡ rank a) × (rank b < file b)
IsFirstOff (suc (suc zero)) a b c = (file a ≡ rank a) × (file b ≡ rank b) × (rank c < file c)
IsFirstOff (suc (suc (suc n))) a b c = (n ≡ 0) × (file a ≡ rank a) × (file b ≡ rank b) × (file c ≡ rank c)

abbrev pub floor : ℕ → ℕ
floor zero = 0
floor (suc zero) = 23436
floor (suc (suc zero)) = 30380
floor (suc (suc (suc zero))) = 31164
floor (suc (suc (suc (suc n)))) = 31332

in_range : (k a b c : ℕ) → IsTurnedThree a b c → IsFirstOff k a b c → (floor k ≤ three_at k a b c) × (three_at k a b c < floor (suc k))
unfolding three_at
in_range zero a b c t off =
    let x = slot1_below a b t.board0 t.board1 t.apart01 in
    let y = slot2_below a b c t.board0 t.board1 t.board2 t.apart01 t.apart02 t.apart12 in
    let n = triangle_off a t.board0 off t.left in
    (omega arith, omega arith)
in_range (suc zero) a b c t off =
    let x = lower_below b off.1 t.board1 in
    let y = slot2_below a b c t.board0 t.board1 t.board2 t.apart01 t.apart02 t.apart12 in
    let n = t.low in
    (omega arith, omega arith)
in_range (suc (suc zero)) a b c t off =
    let x = rank1_below a b t.board0 t.board1 t.apart01 off.0 off.1 in
    let y = lower_below c off.2 t.board2 in
    let n = t.low in
    (omega arith, omega arith)
in_range (suc (suc (suc zero))) a b c t off =
    let x = rank1_below a b t.board0 t.board1 t.apart01 off.1 off.2 in
    let y = rank2_below a b c t.board0 t.board1 t.board2 t.apart01 t.apart02 t.apart12 off.1 off.2 off.3 in
    let n = t.low in
    (omega arith, omega arith)
in_range (suc (suc (suc (suc k)))) a b c t off = absurd (omega (arith, off.0))

-- a greater triangle number of the first
first_later : (k a b c d e f : ℕ) → IsTurnedThree a b c → IsTurnedThree d e f → IsFirstOff k a b c → IsFirstOff k d e f
    → triangle_number a < triangle_number d → three_at k a b c < three_at k d e f
unfolding three_at
first_later zero a b c d e f t u off off2 lt =
    let x = slot1_below a b t.board0 t.board1 t.apart01 in
    let y = slot2_below a b c t.board0 t.board1 t.board2 t.apart01 t.apart02 t.apart12 in
    omega arith
first_later (suc zero) a b c d e f t u off off2 lt =
    let x = lower_below b off.1 t.board1 in
    let y = slot2_below a b c t.board0 t.board1 t.board2 t.apart01 t.apart02 t.apart12 in
    let n = triangle_on a t.board0 off.0 t.left in
    let m = triangle_on d u.board0 off2.0 u.left in
    omega arith
first_later (suc (suc zero)) a b c d e f t u off off2 lt =
    let x = rank1_below a b t.board0 t.board1 t.apart01 off.0 off.1 in
    let y = lower_below c off.2 t.board2 in
    let n = triangle_on a t.board0 off.0 t.left in
    let m = triangle_on d u.board0 off2.0 u.left in
    omega arith
first_later (suc (suc (suc k))) a b c d e f t u off off2 lt =
    let x = rank1_below a b t.board0 t.board1 t.apart01 off.1 off.2 in
    let y = rank2_below a b c t.board0 t.board1 t.board2 t.apart01 t.apart02 t.apart12 off.1 off.2 off.3 in
    let n = triangle_on a t.board0 off.1 t.left in
    let m = triangle_on d u.board0 off2.1 u.left in
    omega arith

-- the same first, a greater square of the second
second_later : (k a b c e f : ℕ) → IsTurnedThree a b c → IsTurnedThree a e f → IsFirstOff k a b c → IsFirstOff k a e f
    → b < e → three_at k a b c < three_at k a e f
unfolding three_at
second_later zero a b c e f t u off off2 lt =
    let x = slot1_later a b e t.apart01 u.apart01 lt in
    let y = slot2_below a b c t.board0 t.board1 t.board2 t.apart01 t.apart02 t.apart12 in
    omega arith
second_later (suc zero) a b c e f t u off off2 lt =
    let x = lower_later b e off.1 lt in
    let y = slot2_below a b c t.board0 t.board1 t.board2 t.apart01 t.apart02 t.apart12 in
    omega arith
second_later (suc (suc zero)) a b c e f t u off off2 lt =
    let x = rank1_later a b e t.apart01 u.apart01 lt off.0 off.1 off2.1 in
    let y = lower_below c off.2 t.board2 in
    omega arith
second_later (suc (suc (suc k))) a b c e f t u off off2 lt =
    let x = rank1_later a b e t.apart01 u.apart01 lt off.1 off.2 off2.2 in
    let y = rank2_below a b c t.board0 t.board1 t.board2 t.apart01 t.apart02 t.apart12 off.1 off.2 off.3 in
    omega arith

-- the same first and second, a greater square of the third
third_later : (k a b c f : ℕ) → IsTurnedThree a b c → IsTurnedThree a b f → IsFirstOff k a b c → IsFirstOff k a b f
    → c < f → three_at k a b c < three_at k a b f
unfolding three_at
third_later zero a b c f t u off off2 lt =
    let x = slot2_later a b c f t.apart01 t.apart02 t.apart12 u.apart02 u.apart12 lt in
    omega arith
third_later (suc zero) a b c f t u off off2 lt =
    let x = slot2_later a b c f t.apart01 t.apart02 t.apart12 u.apart02 u.apart12 lt in
    omega arith
third_later (suc (suc zero)) a b c f t u off off2 lt =
    let x = lower_later c f off.2 lt in
    omega arith
third_later (suc (suc (suc k))) a b c f t u off off2 lt =
    let x = rank2_later a b c f t.apart01 t.apart02 t.apart12 u.apart02 u.apart12 lt off.1 off.2 off.3 off2.3 in
    omega arith

-- each turned three is in one of the cases
first_off_is : (a b c : ℕ) → IsTurnedThree a b c → IsFirstOff (first_off a b c) a b c
first_off_is a b c t =
    elim (cases_eq (file a) (rank a)) [
      | inr na ↦ rw (ne_eqb (file a) (rank a) na) (omega (arith, t.under0, na))
      | inl ea ↦ elim (cases_eq (file b) (rank b)) [
        | inr nb ↦ rw (eq-eqb (file a) (rank a) ea, ne_eqb (file b) (rank b) nb) (ea, omega (arith, t.under1 ea, nb))
        | inl eb ↦ elim (cases_eq (file c) (rank c)) [
          | inr nc ↦ rw (eq-eqb (file a) (rank a) ea, eq-eqb (file b) (rank b) eb, ne_eqb (file c) (rank c) nc) (ea, eb, omega (arith, t.under2 ea eb, nc))
          | inl ec ↦ rw (eq-eqb (file a) (rank a) ea, eq-eqb (file b) (rank b) eb, eq-eqb (file c) (rank c) ec) (refl, ea, eb, ec)
        ]
      ]
    ]

floor_far : (j k : ℕ) → j < k → k ≤ 3 → floor (suc j) ≤ floor k
floor_far zero zero lt le = omega arith
floor_far zero (suc zero) lt le = omega arith
floor_far zero (suc (suc zero)) lt le = omega arith
floor_far zero (suc (suc (suc zero))) lt le = omega arith
floor_far (suc zero) (suc zero) lt le = omega arith
floor_far (suc zero) zero lt le = absurd (omega arith)
floor_far (suc zero) (suc (suc zero)) lt le = omega arith
floor_far (suc zero) (suc (suc (suc zero))) lt le = omega arith
floor_far (suc (suc zero)) zero lt le = absurd (omega arith)
floor_far (suc (suc zero)) (suc zero) lt le = absurd (omega arith)
floor_far (suc (suc zero)) (suc (suc zero)) lt le = absurd (omega arith)
floor_far (suc (suc zero)) (suc (suc (suc zero))) lt le = omega arith
floor_far (suc (suc (suc j))) zero lt le = absurd (omega arith)
floor_far (suc (suc (suc j))) (suc zero) lt le = absurd (omega arith)
floor_far (suc (suc (suc j))) (suc (suc zero)) lt le = absurd (omega arith)
floor_far (suc (suc (suc j))) (suc (suc (suc zero))) lt le = absurd (omega arith)
floor_far j (suc (suc (suc (suc k)))) lt le = absurd (omega arith)

at_most_3 : (k a b c : ℕ) → IsFirstOff k a b c → k ≤ 3
at_most_3 zero a b c off = omega arith
at_most_3 (suc zero) a b c off = omega arith
at_most_3 (suc (suc zero)) a b c off = omega arith
at_most_3 (suc (suc (suc k))) a b c off = omega (arith, off.0)

floor_top : (k : ℕ) → k ≤ 3 → floor (suc k) ≤ 31332
floor_top zero le = omega arith
floor_top (suc zero) le = omega arith
floor_top (suc (suc zero)) le = omega arith
floor_top (suc (suc (suc zero))) le = omega arith
floor_top (suc (suc (suc (suc k)))) le = absurd (omega arith)

-- ---- the law

below_at : (k a b c : ℕ) → IsTurnedThree a b c → IsFirstOff k a b c → three_at k a b c < 31332
below_at k a b c t off =
    let r = in_range k a b c t off in
    omega (arith, r.1, floor_top k (at_most_3 k a b c off))

pub three_below : (a b c : ℕ) → IsTurnedThree a b c → three_number a b c < 31332
three_below a b c t = below_at (first_off a b c) a b c t (first_off_is a b c t)

-- the order over variables for the cases
later_at : (j k a b c d e f : ℕ) → IsTurnedThree a b c → IsTurnedThree d e f → IsFirstOff j a b c → IsFirstOff k d e f
    → IsLater (j ∷ triangle_number a ∷ b ∷ c ∷ []) (k ∷ triangle_number d ∷ e ∷ f ∷ []) → three_at j a b c < three_at k d e f
later_at j k a b c d e f t u off off2 later =
    elim (later_head j k _ _ later) [
      | inl lt ↦
          let r = in_range j a b c t off in
          let s = in_range k d e f u off2 in
          omega (arith, r.1, s.0, floor_far j k lt (at_most_3 k d e f off2))
      | inr h ↦
          let off3 = rw (← h.0) at off2 in
          elim (later_head _ _ _ _ h.1) [
            | inl lt ↦ rw (← h.0) (first_later j a b c d e f t u off off3 lt)
            | inr i ↦
                let p : a ≡ d = triangle_one a d t.board0 u.board0 t.under0 u.under0 t.left u.left i.0 in
                let v = rw (← p) at u in
                let off4 = rw (← p) at off3 in
                elim (later_head _ _ _ _ i.1) [
                  | inl lt ↦ rw (← h.0, ← p) (second_later j a b c e f t v off off4 lt)
                  | inr g ↦
                      let w = rw (← g.0) at v in
                      let off5 = rw (← g.0) at off4 in
                      elim (later_head _ _ _ _ g.1) [
                        | inl lt ↦ rw (← h.0, ← p, ← g.0) (third_later j a b c f t w off off5 lt)
                        | inr m ↦ absurd (never_later m.1)
                      ]
                ]
          ]
    ]

pub three_later : (a b c d e f : ℕ) → IsTurnedThree a b c → IsTurnedThree d e f → IsLater (three_order a b c) (three_order d e f) → three_number a b c < three_number d e f
three_later a b c d e f t u later = later_at (first_off a b c) (first_off d e f) a b c d e f t u (first_off_is a b c t) (first_off_is d e f u) later

pub three_one : (a b c d e f : ℕ) → IsTurnedThree a b c → IsTurnedThree d e f → three_number a b c ≡ three_number d e f → (a ≡ d) × (b ≡ e) × (c ≡ f)
three_one a b c d e f t u same =
    elim (later_total (three_order a b c) (three_order d e f) refl) [
      | inl e1 ↦
          let h = same_heads _ _ _ _ e1 in
          let i = same_heads _ _ _ _ h.1 in
          let j = same_heads _ _ _ _ i.1 in
          let k = same_heads _ _ _ _ j.1 in
          (triangle_one a d t.board0 u.board0 t.under0 u.under0 t.left u.left i.0, j.0, k.0)
      | inr (inl l) ↦ absurd (omega (arith, same, three_later a b c d e f t u l))
      | inr (inr l) ↦ absurd (omega (arith, same, three_later d e f a b c u t l))
    ]

pub threes_are_numbered : ThreesAreNumbered
threes_are_numbered = (three_below, three_later, three_one)
