-- Plans, their values, and blocks that hold them.
use Rattle.std.proofs.Common.{◌≡◌, ◌≢◌, ℕ, zero, suc, ◌-◌, ◌+◌, ◌*◌, ◌/◌, ◌≤◌, ◌<◌, Bool, true, false, eqb, List, [], ◌∷◌, ◌++◌, length, get_or, take, drop, map, replicate, Option, None, Some, Result, Ok, Err, refl, sym, ap, subst, ◌∙◌, inl, inr, append_assoc, arith}
use Rattle.std.specs.Prelude.{◌⊎◌, slice_get, OnOk, IfOk}
use Rattle.std.specs.List.{flat_map}
use Rattle.std.proofs.lemmas.List.Concat.{flat_map-append}
use Rattle.std.specs.Cmp.Lexicographic.{pointwise}
use Rattle.std.proofs.lemmas.Bool.{ne_eqb}
use Rattle.std.proofs.lemmas.Bool.Decides.{Decides-eqb}
use Rattle.std.proofs.lemmas.Slice.Eq.{strip_prefix_is}
use Rattle.std.proofs.lemmas.List.{length-append, length-take, take_all, take_more, append-nil, append_cancel_left, drop_more, drop_all, drop-drop, get_or-take, map-append}
use denote.Ref.{Bor}
use Rattle.pair_dict.specs.Symbols.{values_to, left, right}
use Rattle.pair_dict.specs.Blocks.{block_values}
use Rattle.place_index.specs.Shape.{Layout}
use Rattle.table_file.specs.Figures.{Figures, block_size}
use Rattle.table_file.specs.Sparse.{sizes_of}
use Rattle.table_file.specs.Files.{indices}
use Rattle.table_file.specs.Tables.{PartAt, part_of, shape_in, shape_of, flags_in, flags_of}
use Rattle.table_file.specs.Plan.{planned_shape, planned_expansion, HasEnough}
use Rattle.table_file.specs.Forged.{IsPartOf}
use Rattle.table_file.specs.Inside.Checked.{IsViewOf}
use Rattle.table_file.specs.declared.plan.PartPlan.{PartPlan}
use Rattle.table_file.specs.declared.spots.View.{View}
use Rattle.table_file.proofs.Views.{got, view_expansion}
use Rattle.table_file.specs.Expansion.{filled, joined, listed, expanded, expansion, values_in}
use Rattle.table_file.specs.Files.{section_size}
use Rattle.table_file.specs.declared.parts.Section.TheVariants.{Lengths}
use Rattle.table_file.specs.declared.size_record.Coding.{Coding}
use Rattle.table_file.specs.declared.size_record.Coding.TheVariants.{Pairs}

pub on_ok : {A E P Q : Type 0} (r : Result A E) → OnOk r P → (P → Q) → OnOk r Q
on_ok (Ok x) h f = f h
on_ok (Err e) h f = tt

pub values_of_pair : (symbols : List ℕ) (depth s : ℕ) → depth ≢ 0 → right symbols s ≢ 4095
    → values_to symbols depth s ≡ values_to symbols (depth - 1) (left symbols s) ++ values_to symbols (depth - 1) (right symbols s)
unfolding values_to
values_of_pair symbols zero s some pair = absurd (some refl)
values_of_pair symbols (suc depth) s some pair =
    let e : suc depth - 1 ≡ depth = omega arith in
    rw (e, ne_eqb (right symbols s) 4095 pair) refl

-- the values of the right symbol come behind those of the left one
pub pair_pushed : (symbols old new newer : List ℕ) (depth s x y : ℕ) → x ≡ left symbols s → y ≡ right symbols s → depth ≢ 0 → y ≢ 4095
    → new ≡ old ++ values_to symbols (depth - 1) x
    → newer ≡ new ++ values_to symbols (depth - 1) y
    → newer ≡ old ++ values_to symbols depth s
pair_pushed symbols old new newer depth s x y x-is y-is some pair first second =
    let a = values_to symbols (depth - 1) x in
    let b = values_to symbols (depth - 1) y in
    let whole = values_of_pair symbols depth s some (λ e. pair (y-is ∙ e)) in
    let both : values_to symbols depth s ≡ a ++ b = rw (x-is, y-is) whole in
    second ∙ ap (λ xs. xs ++ b) first ∙ append_assoc old a b ∙ ap (λ xs. old ++ xs) (sym both)

-- ---- blocks that hold the values, one after the other

full_block : (size : ℕ) (vs : List ℕ) → length (take size vs) ≡ size → filled size vs ≡ map (λ (v : ℕ). Some v) (take size vs)
full_block size vs long =
    let none : size - length vs ≡ 0 = omega (arith, length-take size vs, long) in
    rw none (append-nil (map (λ (v : ℕ). Some v) (take size vs)))

pub block_step : (c : Figures) (lengths blocks values rest after : List ℕ) (b : ℕ)
    → b < c.blocks → c.blocks ≤ length (sizes_of lengths)
    → values ≡ take (get_or (sizes_of lengths) b 0) (block_values c.dictionary (take (block_size c) (drop (b * block_size c) blocks)))
    → length values ≡ get_or (sizes_of lengths) b 0
    → rest ≡ values ++ after
    → map (λ (v : ℕ). Some v) after ≡ joined c (drop (b + 1) (take c.blocks (sizes_of lengths))) (drop ((b + 1) * block_size c) blocks)
    → map (λ (v : ℕ). Some v) rest ≡ joined c (drop b (take c.blocks (sizes_of lengths))) (drop (b * block_size c) blocks)
unfolding joined
block_step c lengths blocks values rest after b lt few values-is long rest-is h =
    let n = block_size c in
    let sizes = take c.blocks (sizes_of lengths) in
    let size = get_or (sizes_of lengths) b 0 in
    let vs = block_values c.dictionary (take n (drop (b * n) blocks)) in
    let within : b < length sizes = omega (arith, length-take c.blocks (sizes_of lengths), few, lt) in
    let more : drop b sizes ≡ get_or sizes b 0 ∷ drop (b + 1) sizes = drop_more sizes b 0 within in
    let same : get_or sizes b 0 ≡ size = get_or-take c.blocks (sizes_of lengths) b 0 lt in
    let on : drop n (drop (b * n) blocks) ≡ drop ((b + 1) * n) blocks = drop-drop n (b * n) blocks ∙ ap (λ k. drop k blocks) (omega arith) in
    let full : filled size vs ≡ map (λ (v : ℕ). Some v) values = full_block size vs (ap length (sym values-is) ∙ long) ∙ ap (λ xs. map (λ (v : ℕ). Some v) xs) (sym values-is) in
    let whole : joined c (drop b sizes) (drop (b * n) blocks) ≡ map (λ (v : ℕ). Some v) values ++ map (λ (v : ℕ). Some v) after
    = rw (more, same, on, full, h) refl in
    ap (λ xs. map (λ (v : ℕ). Some v) xs) rest-is ∙ map-append (λ (v : ℕ). Some v) values after ∙ sym whole

pub blocks_done : (c : Figures) (lengths blocks rest : List ℕ) (b : ℕ) → c.blocks ≤ b → rest ≡ []
    → map (λ (v : ℕ). Some v) rest ≡ joined c (drop b (take c.blocks (sizes_of lengths))) (drop (b * block_size c) blocks)
unfolding joined
blocks_done c lengths blocks rest b le none =
    let all : drop b (take c.blocks (sizes_of lengths)) ≡ [] = drop_all b (take c.blocks (sizes_of lengths)) (omega (arith, length-take c.blocks (sizes_of lengths), le)) in
    rw (all, none) refl

-- what a list of values alone says of the filled block at its front
record IsBlockFirst (size : ℕ) (vs xs : List ℕ) (more : List (Option ℕ)) : Type 0 where
  full : length (take size vs) ≡ size
  after : List ℕ
  front : xs ≡ take size vs ++ after
  behind : map (λ (v : ℕ). Some v) after ≡ more

heads : (a b : Option ℕ) (xs ys : List (Option ℕ)) → a ∷ xs ≡ b ∷ ys → (a ≡ b) × (xs ≡ ys)
heads a b xs ys e = (cc, cc)

nil_not : (a : Option ℕ) (xs : List (Option ℕ)) → [] ≡ a ∷ xs → ⊥
nil_not a xs e = cc

no_gap : (size : ℕ) (vs xs : List ℕ) (more : List (Option ℕ)) → map (λ (v : ℕ). Some v) xs ≡ filled size vs ++ more → IsBlockFirst size vs xs more
no_gap zero vs xs more e =
    let none : 0 - length vs ≡ zero = omega arith in
    record { full = refl; after = xs; front = refl; behind = rw none at e }
no_gap (suc size) [] [] more e = let all : suc size - 0 ≡ suc size = omega arith in absurd (nil_not None (replicate size None ++ more) (rw all at e))
no_gap (suc size) [] (x ∷ xs) more e = let all : suc size - 0 ≡ suc size = omega arith in absurd (some_none x (heads (Some x) None (map (λ (v : ℕ). Some v) xs) (replicate size None ++ more) (rw all at e)).0)
  where
    some_none : (x : ℕ) → Some x ≡ None → ⊥
    some_none x e = cc
no_gap (suc size) (v ∷ vs) [] more e = absurd (nil_not (Some v) _ e)
no_gap (suc size) (v ∷ vs) (x ∷ xs) more e =
    let less : suc size - suc (length vs) ≡ size - length vs = omega arith in
    let both = heads (Some x) (Some v) (map (λ (y : ℕ). Some y) xs) (filled size vs ++ more) (rw less at e) in
    let same = some_is x v both.0 in
    let rest = no_gap size vs xs more both.1 in
    record { full = ap suc rest.full; after = rest.after; front = ap (λ (y : ℕ). y ∷ xs) same ∙ ap (λ ys. v ∷ ys) rest.front; behind = rest.behind }
  where
    some_is : (a b : ℕ) → Some a ≡ Some b → a ≡ b
    some_is a b e = cc

-- what a list of values alone says of the block at its front
pub record HoldsFront (c : Figures) (lengths blocks values rest : List ℕ) (b : ℕ) : Type 0 where
  pub full : length values ≡ get_or (sizes_of lengths) b 0
  pub after : List ℕ
  pub front : rest ≡ values ++ after
  pub behind : map (λ (v : ℕ). Some v) after ≡ joined c (drop (b + 1) (take c.blocks (sizes_of lengths))) (drop ((b + 1) * block_size c) blocks)

pub block_back : (c : Figures) (lengths blocks values rest : List ℕ) (b : ℕ)
    → b < c.blocks → c.blocks ≤ length (sizes_of lengths)
    → values ≡ take (get_or (sizes_of lengths) b 0) (block_values c.dictionary (take (block_size c) (drop (b * block_size c) blocks)))
    → map (λ (v : ℕ). Some v) rest ≡ joined c (drop b (take c.blocks (sizes_of lengths))) (drop (b * block_size c) blocks)
    → HoldsFront c lengths blocks values rest b
unfolding joined
block_back c lengths blocks values rest b lt few values-is h =
    let n = block_size c in
    let sizes = take c.blocks (sizes_of lengths) in
    let size = get_or (sizes_of lengths) b 0 in
    let vs = block_values c.dictionary (take n (drop (b * n) blocks)) in
    let within : b < length sizes = omega (arith, length-take c.blocks (sizes_of lengths), few, lt) in
    let more : drop b sizes ≡ get_or sizes b 0 ∷ drop (b + 1) sizes = drop_more sizes b 0 within in
    let same : get_or sizes b 0 ≡ size = get_or-take c.blocks (sizes_of lengths) b 0 lt in
    let on : drop n (drop (b * n) blocks) ≡ drop ((b + 1) * n) blocks = drop-drop n (b * n) blocks ∙ ap (λ k. drop k blocks) (omega arith) in
    let whole : joined c (drop b sizes) (drop (b * n) blocks) ≡ filled size vs ++ joined c (drop (b + 1) sizes) (drop ((b + 1) * n) blocks) = rw (more, same, on) refl in
    let f = no_gap size vs rest (joined c (drop (b + 1) sizes) (drop ((b + 1) * n) blocks)) (h ∙ whole) in
    record { full = ap length values-is ∙ f.full; after = f.after; front = f.front ∙ ap (λ ys. ys ++ f.after) (sym values-is); behind = f.behind }

-- the same, where the rest was cut by the block's values
pub back_step : (c : Figures) (lengths blocks values rest after : List ℕ) (b : ℕ) → HoldsFront c lengths blocks values rest b → rest ≡ values ++ after
    → map (λ (v : ℕ). Some v) after ≡ joined c (drop (b + 1) (take c.blocks (sizes_of lengths))) (drop ((b + 1) * block_size c) blocks)
back_step c lengths blocks values rest after b f cut =
    let same : after ≡ f.after = append_cancel_left values after f.after (sym cut ∙ f.front) in
    ap (λ (ys : List ℕ). map (λ (v : ℕ). Some v) ys) same ∙ f.behind

pub not_stripped : (s p held : List ℕ) → pointwise eqb (take (length p) s) p ≡ false → p ≡ held → (after : List ℕ) → s ≡ held ++ after → ⊥
not_stripped s p held none is after e = (strip_prefix_is Decides-eqb s p None none) after (e ∙ ap (λ (q : List ℕ). q ++ after) (sym is))

pub done_back : (c : Figures) (lengths blocks rest : List ℕ) (b : ℕ) → c.blocks ≤ b → map (λ (v : ℕ). Some v) rest ≡ joined c (drop b (take c.blocks (sizes_of lengths))) (drop (b * block_size c) blocks) → rest ≡ []
unfolding joined
done_back c lengths blocks rest b le e =
    let all : drop b (take c.blocks (sizes_of lengths)) ≡ [] = drop_all b (take c.blocks (sizes_of lengths)) (omega (arith, length-take c.blocks (sizes_of lengths), le)) in
    nothing rest (rw all at e)
  where
    nothing : (xs : List ℕ) → map (λ (v : ℕ). Some v) xs ≡ [] → xs ≡ []
    nothing [] e = refl
    nothing (x ∷ xs) e = absurd cc

pub back_expansion : (v : Coding) (c : Figures) (lengths blocks values : List ℕ) → v ≡ Pairs c → expanded v lengths blocks ≡ listed (map (λ (x : ℕ). Some x) values)
    → map (λ (x : ℕ). Some x) values ≡ joined c (take c.blocks (sizes_of lengths)) blocks
back_expansion v c lengths blocks values is h = same (joined c (take c.blocks (sizes_of lengths)) blocks) (map (λ (x : ℕ). Some x) values) (rw is at h)
  where
    same : (xs ys : List (Option ℕ)) → listed xs ≡ listed ys → ys ≡ xs
    same xs ys e = cc

pub stripped : (s p held : List ℕ) (x : Bor (List ℕ)) → (pointwise eqb (take (length p) s) p ≡ true) × (x.now ≡ drop (length p) s) × (length x.now + length p ≡ length s)
    → p ≡ held → s ≡ held ++ x.now
stripped s p held x h is = let e : s ≡ p ++ x.now = strip_prefix_is Decides-eqb s p (Some x) h in e ∙ ap (λ (q : List ℕ). q ++ x.now) is

-- ---- shorter forms of what the loop over the blocks knows

pub coded_lengths : (size : ℕ) (v : Coding) (c : Figures) (lengths : List ℕ) → v ≡ Pairs c → length lengths ≡ section_size Lengths size v → c.blocks ≤ length lengths / 2
coded_lengths size v c lengths is fit = let e : length lengths ≡ section_size Lengths size (Pairs c) = rw is at fit in omega (arith, e)

pub coded_values : (v : Coding) (c : Figures) (lengths blocks held : List ℕ) (b : ℕ) → v ≡ Pairs c → held ≡ values_in v lengths blocks b
    → held ≡ take (get_or (sizes_of lengths) b 0) (block_values c.dictionary (take (block_size c) (drop (b * block_size c) blocks)))
coded_values v c lengths blocks held b is h = rw is at h

pub coded_expansion : (v : Coding) (c : Figures) (lengths blocks values : List ℕ) → v ≡ Pairs c
    → map (λ (x : ℕ). Some x) values ≡ joined c (take c.blocks (sizes_of lengths)) blocks → expanded v lengths blocks ≡ listed (map (λ (x : ℕ). Some x) values)
coded_expansion v c lengths blocks values is h = rw is (ap listed (sym h))

-- what the comparison of a part found
pub part_is : (material : ℕ) (at : PartAt) (p : PartPlan) (v : View) (flags size : ℕ) (shape : Layout)
    → IsViewOf at v → flags_of at ≡ Some flags → flags ≡ p.flags → shape_of at ≡ Some shape → shape ≡ planned_shape material p at.file → size ≡ indices shape
    → HasEnough p.content size → expanded v.coding.now v.lengths.now v.blocks.now ≡ planned_expansion p.content size → IsPartOf material at p
part_is material at p v flags size shape h flags-are flags-is shape-found shape-is size-is enough values =
    let found : part_of at ≡ Some h.part = h.found in
    let f : h.part.size_record.flags ≡ flags = some_is h.part.size_record.flags flags (sym (ap flags_in found) ∙ flags-are) in
    let g : h.part.shape ≡ shape = some_is h.part.shape shape (sym (ap shape_in found) ∙ shape-found) in
    let n : size ≡ indices h.part.shape = size-is ∙ ap indices (sym g) in
    record {
      part = h.part;
      found = found;
      shape = g ∙ shape-is;
      flags = f ∙ flags-is;
      enough = subst (λ (k : ℕ). HasEnough p.content k) n enough;
      values = sym (view_expansion at v h) ∙ subst (λ (k : ℕ). expanded v.coding.now v.lengths.now v.blocks.now ≡ planned_expansion p.content k) n values;
    }
  where
    some_is : {A : Type 0} (a b : A) → Some a ≡ Some b → a ≡ b
    some_is a b e = cc

-- what a part that is as planned has to show in the comparison
pub part_has : (material : ℕ) (at : PartAt) (p : PartPlan) (v : View) (size : ℕ) (shape : Layout)
    → IsViewOf at v → shape_of at ≡ Some shape → size ≡ indices shape → IsPartOf material at p
    → HasEnough p.content size × (expanded v.coding.now v.lengths.now v.blocks.now ≡ planned_expansion p.content size)
part_has material at p v size shape h shape-found size-is is =
    let g : is.part.shape ≡ shape = some_is is.part.shape shape (sym (ap shape_in is.found) ∙ shape-found) in
    let n : indices is.part.shape ≡ size = ap indices g ∙ sym size-is in (
      subst (λ (k : ℕ). HasEnough p.content k) n is.enough,
      view_expansion at v h ∙ subst (λ (k : ℕ). expansion at ≡ planned_expansion p.content k) n is.values,
    )
  where
    some_is : {A : Type 0} (a b : A) → Some a ≡ Some b → a ≡ b
    some_is a b e = cc

pub if_one : {E : Type 0} {P Q : Bool → Type 0} (r : Result Bool E) → IfOk r P → ((b : Bool) → P b → Q b) → IfOk r Q
if_one (Ok x) h f = f x h
if_one (Err e) h f = tt

pub if_both : {E : Type 0} {P R Q : Bool → Type 0} (r : Result Bool E) → IfOk r P → IfOk r R → ((b : Bool) → P b → R b → Q b) → IfOk r Q
if_both (Ok x) h k f = f x h k
if_both (Err e) h k f = tt

-- ---- how many values blocks have

pub more_values : {X : Type 0} (f : X → List ℕ) (xs : List X) (i : ℕ) (x : X) → i < length xs → x ≡ get_or xs i x
    → length (flat_map f (take (i + 1) xs)) ≡ length (flat_map f (take i xs)) + length (f x)
more_values f xs i x lt is =
    let more : take (i + 1) xs ≡ take i xs ++ x ∷ [] = take_more xs i x lt ∙ ap (λ y. take i xs ++ y ∷ []) (sym is) in
    let both : flat_map f (take (i + 1) xs) ≡ flat_map f (take i xs) ++ (f x ++ []) = ap (flat_map f) more ∙ flat_map-append f (take i xs) (x ∷ []) in
    ap length both ∙ length-append (flat_map f (take i xs)) (f x ++ []) ∙ ap (λ ys. length (flat_map f (take i xs)) + length ys) (append-nil (f x))

-- what holds of the elements so far, and of one more
pub each_more : {X : Type 0} (P : X → ℕ → Type 0) (xs : List X) (k : ℕ) (x : X) → k < length xs → x ≡ get_or xs k x → P x k
    → ((j : ℕ) (p : X) → j < k → slice_get xs j ≡ Some p → P p j)
    → (j : ℕ) (p : X) → j < k + 1 → slice_get xs j ≡ Some p → P p j
each_more {X} P xs k x lt is here before j p below e =
    elim (cases_lt j k) [
      | inl less ↦ before j p less e
      | inr not_less ↦
          let same : j ≡ k = omega arith in
          let at : slice_get xs k ≡ Some p = ap (λ (i : ℕ). slice_get xs i) (sym same) ∙ e in
          let eq : x ≡ p = some_is x p (sym (got xs k x lt is) ∙ at) in
          subst (λ (q : X). P q j) eq (subst (λ (i : ℕ). P x i) (sym same) here)
    ]
  where
    some_is : {A : Type 0} (a b : A) → Some a ≡ Some b → a ≡ b
    some_is a b e = cc

    cases_lt : (i n : ℕ) → (i < n) ⊎ (n ≤ i)
    cases_lt i n = grind arith

-- ---- what is mapped one after the other

pub one_more_mapped : {X Y : Type 0} (f : X → Y) (xs : List X) (ys : List Y) (i : ℕ) (x : X) (y : Y) → i < length xs → i < length ys → x ≡ get_or xs i x → y ≡ get_or ys i y → y ≡ f x
    → take i ys ≡ map f (take i xs) → take (i + 1) ys ≡ map f (take (i + 1) xs)
one_more_mapped f xs ys i x y lx ly ix iy same before =
    let a : take (i + 1) ys ≡ take i ys ++ y ∷ [] = take_more ys i y ly ∙ ap (λ z. take i ys ++ z ∷ []) (sym iy) in
    let b : take (i + 1) xs ≡ take i xs ++ x ∷ [] = take_more xs i x lx ∙ ap (λ z. take i xs ++ z ∷ []) (sym ix) in
    a ∙ ap (λ l. l ++ y ∷ []) before ∙ ap (λ z. map f (take i xs) ++ z ∷ []) same ∙ sym (ap (map f) b ∙ map-append f (take i xs) (x ∷ []))

pub all_mapped : {X Y : Type 0} (f : X → Y) (xs : List X) (ys : List Y) (i : ℕ) → length xs ≤ i → length ys ≤ i → take i ys ≡ map f (take i xs) → ys ≡ map f xs
all_mapped f xs ys i lx ly h = sym (take_all i ys ly) ∙ h ∙ ap (map f) (take_all i xs lx)

nth_mapped : {X Y : Type 0} (f : X → Y) (xs : List X) (i : ℕ) (x : X) (y : Y) → i < length xs → x ≡ get_or xs i x → y ≡ get_or (map f xs) i y → y ≡ f x
nth_mapped f [] i x y lt ix iy = absurd (omega (arith, lt))
nth_mapped f (z ∷ xs) zero x y lt ix iy = iy ∙ ap f (sym ix)
nth_mapped f (z ∷ xs) (suc i) x y lt ix iy = nth_mapped f xs i x y (omega (arith, lt)) ix iy

pub each_mapped : {X Y : Type 0} (f : X → Y) (xs : List X) (ys : List Y) (i : ℕ) (x : X) (y : Y) → ys ≡ map f xs → i < length xs → x ≡ get_or xs i x → y ≡ get_or ys i y → y ≡ f x
each_mapped f xs ys i x y h lt ix iy = nth_mapped f xs i x y lt ix (iy ∙ ap (λ l. get_or l i y) h)
