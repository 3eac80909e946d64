-- Sections that were read have their sizes.
use Rattle.std.proofs.Common.{◌≡◌, ℕ, zero, suc, ◌+◌, ◌≤◌, ◌<◌, Bool, true, false, cond, ltb, List, [], ◌∷◌, length, get_or, take, drop, Some, Result, Ok, Err, refl, sym, ap, subst, ◌∙◌, arith}
use Rattle.std.specs.Prelude.{slice_get, ◌&&◌}
use Rattle.std.proofs.lemmas.List.{length-take, drop_more, drop_all}
use Rattle.table_file.specs.Sparse.{fits_in, all_fit}
use Rattle.std.proofs.lemmas.Bool.{ltb-false}
use Rattle.table_file.specs.declared.fault.TableFault.{TableFault}
use Rattle.table_file.specs.declared.fault.TableFault.TheVariants.{Truncated}
use Rattle.table_file.specs.declared.parts.Part.{Part}
use Rattle.table_file.specs.declared.parts.Section.{Section}
use Rattle.table_file.specs.Reading.{◌>>=◌, each_at, taken_at}
use Rattle.table_file.specs.Files.{section_at, section_size, begun, indices}
use Rattle.table_file.specs.Sections.{AreSized}

bind_ok : {A B : Type 0} (r : Result A TableFault) (f : A → Result B TableFault) (y : B) → (r >>= f) ≡ Ok y → (x : A) × (r ≡ Ok x) × (f x ≡ Ok y)
bind_ok (Ok x) f y e = (x, refl, e)
bind_ok (Err d) f y e = absurd cc

abbrev done : {A : Type 0} → A → Result A TableFault
done x = Ok x

is_ok : {A : Type 0} (x y : A) → done x ≡ done y → x ≡ y
is_ok x y e = cc

guard_ok : {A : Type 0} (b : Bool) (d : TableFault) (x y : A) → cond b (Err d) (Ok x) ≡ Ok y → (b ≡ false) × (x ≡ y)
guard_ok true d x y e = absurd cc
guard_ok false d x y e = (refl, cc)

section_sized : (section : Section) (p : Part) (bytes : List ℕ) (x : List ℕ × List ℕ) → section_at section p bytes ≡ Ok x → length x.0 ≡ section_size section (indices p.shape) p.size_record.coding
unfolding section_at taken_at
section_sized section p bytes x e =
    let n = section_size section (indices p.shape) p.size_record.coding in
    let from = begun section bytes in
    let g = guard_ok (ltb (length from) n) Truncated (take n from, drop n from) x e in
    let long : n ≤ length from = ltb-false _ _ g.0 in
    let same : take n from ≡ x.0 = ap (λ (y : List ℕ × List ℕ). y.0) g.1 in
    omega (arith, ap length same, length-take n from, long)

no_parts : (section : Section) → AreSized section [] []
no_parts section = record { lengths = refl; each = λ k p r lt. absurd (omega arith) }

some_is : {A : Type 0} (a b : A) → Some a ≡ Some b → a ≡ b
some_is a b e = cc

one_more : (section : Section) (p : Part) (r : List ℕ) (parts : List Part) (runs : List (List ℕ)) → length r ≡ section_size section (indices p.shape) p.size_record.coding → AreSized section parts runs → AreSized section (p ∷ parts) (r ∷ runs)
one_more section p r parts runs here others = record { lengths = ap suc others.lengths; each = each }
  where
    each : (k : ℕ) (q : Part) (s : List ℕ) → k < length (p ∷ parts) → slice_get (p ∷ parts) k ≡ Some q → slice_get (r ∷ runs) k ≡ Some s → length s ≡ section_size section (indices q.shape) q.size_record.coding
    each zero q s lt e f = subst (λ (x : Part). length s ≡ section_size section (indices x.shape) x.size_record.coding) (some_is p q e) (ap length (sym (some_is r s f)) ∙ here)
    each (suc k) q s lt e f = others.each k q s (omega arith) e f

pub sized : (section : Section) (parts : List Part) (bytes : List ℕ) (x : List (List ℕ) × List ℕ) → each_at (section_at section) parts bytes ≡ Ok x → AreSized section parts x.0
unfolding each_at
sized section [] bytes x e = subst (λ (y : List (List ℕ) × List ℕ). AreSized section [] y.0) (is_ok ([], bytes) x e) (no_parts section)
sized section (p ∷ parts) bytes x e =
    let a = bind_ok (section_at section p bytes) (λ first. each_at (section_at section) parts first.1 >>= λ rest. Ok (first.0 ∷ rest.0, rest.1)) x e in
    let b = bind_ok (each_at (section_at section) parts a.0.1) (λ rest. Ok (a.0.0 ∷ rest.0, rest.1)) x a.2 in
    let both = one_more section p a.0.0 parts b.0.0 (section_sized section p bytes a.0 a.1) (sized section parts a.0.1 b.0 b.1) in
    subst (λ (y : List (List ℕ) × List ℕ). AreSized section (p ∷ parts) y.0) (is_ok (a.0.0 ∷ b.0.0, b.0.1) x b.2) both

-- ---- the entries of all parts

read_more : {X : Type 0} (xs : List X) (i : ℕ) (x : X) → i < length xs → x ≡ get_or xs i x → drop i xs ≡ x ∷ drop (i + 1) xs
read_more xs i x lt is = drop_more xs i x lt ∙ ap (λ y. y ∷ drop (i + 1) xs) (sym is)

pub fit_step : (parts : List Part) (entries lengths : List (List ℕ)) (i : ℕ) (p : Part) (e l : List ℕ) → i < length parts → length entries ≡ length parts → length lengths ≡ length parts
    → p ≡ get_or parts i p → e ≡ get_or entries i e → l ≡ get_or lengths i l
    → all_fit (drop i parts) (drop i entries) (drop i lengths) ≡ (fits_in (indices p.shape) p.size_record.coding e l && all_fit (drop (i + 1) parts) (drop (i + 1) entries) (drop (i + 1) lengths))
unfolding all_fit
fit_step parts entries lengths i p e l lt same-e same-l p-is e-is l-is =
    rw (read_more parts i p lt p-is, read_more entries i e (omega (arith, same-e)) e-is, read_more lengths i l (omega (arith, same-l)) l-is) refl

pub fit_end : (parts : List Part) (entries lengths : List (List ℕ)) (i : ℕ) → length parts ≤ i → all_fit (drop i parts) (drop i entries) (drop i lengths) ≡ true
unfolding all_fit
fit_end parts entries lengths i le = rw (drop_all i parts le) refl
