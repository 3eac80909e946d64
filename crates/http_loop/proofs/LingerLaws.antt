-- Sockets that linger, as one more does and some are let go.
use Rattle.std.proofs.Common.{◌≡◌, ◌⊎◌, ◌+◌, arith, cond, ◌<◌, ◌≤◌, ℕ, zero, suc, Bool, true, false, List, [], ◌∷◌, ◌++◌, length, get_or, set, All, Contains, filter, refl, sym, ap, subst, ◌∙◌, inl, inr}
use Rattle.std.proofs.lemmas.List.{map-append, map-set, set_past, length-map, get_or-set_same, get_or-set_other}
use Rattle.std.proofs.lemmas.List.Elements.{All-nil, All-cons, All-append, All-contains_itself, Contains-append_right}
use Rattle.std.specs.List.{items_where_true}
use Rattle.std.specs.List.Retain.{IsFiltered}
use Rattle.std.specs.declared.time.Instant.{Instant}
use Rattle.http_loop.specs.declared.lingering.Leaving.{Leaving}
use Rattle.http_loop.specs.Lingering.{closed_times}
use Rattle.http_loop.specs.Times.{LingerFrom, Moments, Remain}

imp : {X : Type 0} (P Q : X → Type 0) (xs : List X) → ((x : X) → P x → Q x) → All P xs → All Q xs
imp P Q xs f all = λ k d within. f _ (all k d within)

abbrev From : Instant → Moments → Instant → Type 0
From now old closed = Contains old closed ⊎ (closed ≡ now)

-- those behind the first ones remain
pub remain_behind : (old front mid : List Leaving) → old ≡ front ++ mid → Remain (closed_times old) (closed_times mid)
remain_behind old front mid is =
    let both = ap closed_times is ∙ map-append (λ (one : Leaving). one.closed) front mid in
    imp (Contains (closed_times mid)) (Contains (closed_times old)) (closed_times mid)
    (λ closed at. subst (λ (t : Moments). Contains t closed) (sym both) (Contains-append_right (closed_times front) (closed_times mid) closed at))
    (All-contains_itself (closed_times mid))

-- one more lingers, if there was memory for it
pub pushed_from : (old : Moments) (mid new : List Leaving) (one : Leaving) (kept : Bool) → Remain old (closed_times mid) → new ≡ cond kept (mid ++ one ∷ []) mid
    → LingerFrom one.closed old (closed_times new)
pushed_from old mid new one kept remain is = subst (λ (t : List Leaving). LingerFrom one.closed old (closed_times t)) (sym is) (at kept)
  where
    old_ones : All (From one.closed old) (closed_times mid)
    old_ones = imp (Contains old) (From one.closed old) (closed_times mid) (λ closed there. inl there) remain

    at : (b : Bool) → LingerFrom one.closed old (closed_times (cond b (mid ++ one ∷ []) mid))
    at true =
        subst (All (From one.closed old)) (sym (map-append (λ (l : Leaving). l.closed) mid (one ∷ [])))
        (All-append (From one.closed old) (closed_times mid) (one.closed ∷ []) old_ones (All-cons (From one.closed old) one.closed [] (inr refl) (All-nil (From one.closed old))))
    at false = old_ones

-- some of those that lingered remain
picked_remain : (bs : List Bool) (xs : List Leaving) → Remain (closed_times xs) (closed_times (items_where_true bs xs))
picked_remain [] xs = All-nil (Contains (closed_times xs))
picked_remain (b ∷ bs) [] = All-nil (Contains (closed_times []))
picked_remain (true ∷ bs) (x ∷ xs) =
    let P = Contains (closed_times (x ∷ xs)) in
    All-cons P x.closed (closed_times (items_where_true bs xs)) (zero, omega arith, refl) (later x xs (items_where_true bs xs) (picked_remain bs xs))
  where
    later : (x : Leaving) (xs ys : List Leaving) → Remain (closed_times xs) (closed_times ys) → All (Contains (closed_times (x ∷ xs))) (closed_times ys)
    later x xs ys rest = imp (Contains (closed_times xs)) (Contains (closed_times (x ∷ xs))) (closed_times ys) (λ closed at. Contains-append_right (x.closed ∷ []) (closed_times xs) closed at) rest
picked_remain (false ∷ bs) (x ∷ xs) =
    imp (Contains (closed_times xs)) (Contains (closed_times (x ∷ xs))) (closed_times (items_where_true bs xs)) (λ closed at. Contains-append_right (x.closed ∷ []) (closed_times xs) closed at) (picked_remain bs xs)

pub filtered_remain : {P : Type 0} (R : P → Leaving → Bool → P → Type 0) (p : P) (xs ys : List Leaving) → IsFiltered R p xs ys → Remain (closed_times xs) (closed_times ys)
filtered_remain R p xs ys h = subst (λ (t : List Leaving). Remain (closed_times xs) (closed_times t)) (sym h.4) (picked_remain h.0 xs)

times_of_first : (x : Leaving) (kept : List Leaving) (times : Moments) (b : Bool) → closed_times kept ≡ times → closed_times (cond b (x ∷ kept) kept) ≡ cond b (x.closed ∷ times) times
times_of_first x kept times true is = ap (λ (t : Moments). x.closed ∷ t) is
times_of_first x kept times false is = is

-- a test of the times alone picks the same times
pub times_of_filtered : (p : Instant → Bool) (xs : List Leaving) → closed_times (filter (λ (one : Leaving). p one.closed) xs) ≡ filter p (closed_times xs)
times_of_filtered p [] = refl
times_of_filtered p (x ∷ xs) = times_of_first x _ _ (p x.closed) (times_of_filtered p xs)

-- one's time was written
pub times_written : (old new : List Leaving) (place : ℕ) (one : Leaving) (now : Instant) → new ≡ set old place one → one.closed ≡ now
    → closed_times new ≡ set (closed_times old) place now
times_written old new place one now is anew =
    ap closed_times is ∙ map-set (λ (l : Leaving). l.closed) old place one ∙ ap (set (closed_times old) place) anew

-- there is none at that place
pub times_past : (old : List Leaving) (place : ℕ) (now : Instant) → length old ≤ place → closed_times old ≡ set (closed_times old) place now
times_past old place now past =
    sym (set_past (closed_times old) place now (omega (arith, length-map old (λ (l : Leaving). l.closed))))

-- those below a place are counted from now on
abbrev pub AnewBelow : Moments → Instant → ℕ → Type 0
AnewBelow times now place = (k : ℕ) (d : Instant) → k < place → k < length times → get_or times k d ≡ now

pub anew_more : (old new : Moments) (now : Instant) (place : ℕ) → new ≡ set old place now → length new ≡ length old → AnewBelow old now place → AnewBelow new now (place + 1)
anew_more old new now place is same below = λ k d within there.
    subst (λ (t : Moments). get_or t k d ≡ now) (sym is) (at k d within (omega (arith, same)) (cases k place))
  where
    cases : (a b : ℕ) → (a < b) ⊎ (b ≤ a)
    cases a zero = inr (omega arith)
    cases zero (suc b) = inl (omega arith)
    cases (suc a) (suc b) = elim (cases a b) [ inl x ↦ inl (omega arith) | inr x ↦ inr (omega arith) ]

    at : (k : ℕ) (d : Instant) → k < place + 1 → k < length old → (k < place) ⊎ (place ≤ k) → get_or (set old place now) k d ≡ now
    at k d within there (inl less) = get_or-set_other old place k now d (λ same. absurd (omega (arith, same))) ∙ below k d less there
    at k d within there (inr more) =
        let same : k ≡ place = omega arith in
        subst (λ (j : ℕ). get_or (set old place now) j d ≡ now) (sym same) (get_or-set_same old place now d (omega (arith, same)))

pub all_anew : (times : Moments) (now : Instant) (place : ℕ) → length times ≤ place → AnewBelow times now place → All (λ closed. closed ≡ now) times
all_anew times now place short below = λ k d within. below k d (omega arith) within
