-- One part among the parts of a file that was checked.
use Rattle.std.proofs.Common.{◌≡◌, ℕ, zero, suc, ◌+◌, ◌/◌, ◌<◌, ◌≤◌, true, List, [], ◌∷◌, length, map, get_or, Some, refl, sym, ap, subst, ◌∙◌, arith}
use Rattle.std.specs.Prelude.{slice_get, slice_index_or, Result, Ok, Err, IfOk}
use Rattle.std.proofs.lemmas.Bool.{and_parts}
use Rattle.std.proofs.lemmas.List.{get_or-map, length-map}
use Rattle.board_core.specs.declared.piece.Side.{Side}
use Rattle.place_index.specs.Placed.{side_number}
use Rattle.place_index.specs.Shape.{Layout, size_of}
use Rattle.table_file.specs.declared.parts.Part.{Part}
use Rattle.table_file.specs.declared.table.OpenedPart.{OpenedPart}
use Rattle.table_file.specs.declared.table.Table.TheInside.{Inside}
use Rattle.table_file.specs.Inside.Opened.{contents_of, IsOpened}
use Rattle.table_file.specs.Inside.OpenedParts.{plain_parts, all_entries, all_lengths, all_blocks}
use Rattle.table_file.specs.Inside.KeptPart.{IsWholePart, StandsInTable}
use Rattle.table_file.specs.declared.parts.Section.{Section}
use Rattle.table_file.specs.declared.parts.Section.TheVariants.{Entries, Lengths, Blocks}
use Rattle.table_file.specs.Files.{indices, section_size}
use Rattle.table_file.specs.Sections.{AreSized}
use Rattle.table_file.specs.Sparse.{fits_in, all_fit}
use Rattle.table_file.specs.declared.size_record.Coding.{Coding}
use Rattle.table_file.specs.declared.size_record.Coding.TheVariants.{Single, Pairs}
use Rattle.table_file.specs.declared.spots.Spot.{Spot}
use Rattle.table_file.specs.declared.spots.Spot.TheVariants.{Single as SingleSpot, At}
use Rattle.table_file.specs.declared.spots.View.{View}
use Rattle.table_file.specs.Tables.{PartAt, part_for, part_file, part_place, coding_span, shape_of, span_of}
use Rattle.table_file.specs.Inside.Checked.{IsViewOf}
use Rattle.table_file.specs.Expansion.{expanded, expansion, IsSpotOf, IsSpot, IsShort, IsRealSpot, blocks_in, real_blocks, values_in, part_block_values}
use Rattle.table_file.proofs.PartPlaces.{file_of_place}

-- an element that was read by its index
pub got : {X : Type 0} (xs : List X) (k : ℕ) (x : X) → k < length xs → x ≡ get_or xs k x → slice_get xs k ≡ Some x
got [] k x lt is = absurd (omega (arith, lt))
got (y ∷ xs) zero x lt is = ap (λ z. Some z) (sym is)
got (y ∷ xs) (suc k) x lt is = got xs k x (omega (arith, lt)) is

pub got_or : {X : Type 0} (xs : List X) (k : ℕ) (x d : X) → k < length xs → x ≡ get_or xs k x → x ≡ slice_index_or xs k d
got_or [] k x d lt is = absurd (omega (arith, lt))
got_or (y ∷ xs) zero x d lt is = is
got_or (y ∷ xs) (suc k) x d lt is = got_or xs k x d (omega (arith, lt)) is

some_is : {A : Type 0} (a b : A) → Some a ≡ Some b → a ≡ b
some_is a b e = cc

pub fit_at : (parts : List Part) (entries lengths : List (List ℕ)) (k : ℕ) (p : Part) (e l : List ℕ) → all_fit parts entries lengths ≡ true → length entries ≡ length parts → length lengths ≡ length parts
    → k < length parts → slice_get parts k ≡ Some p → slice_get entries k ≡ Some e → slice_get lengths k ≡ Some l → fits_in (indices p.shape) p.size_record.coding e l ≡ true
unfolding all_fit
fit_at [] entries lengths k p e l fit es ls lt a b d = absurd (omega (arith, lt))
fit_at (q ∷ parts) [] lengths k p e l fit es ls lt a b d = absurd (omega (arith, es))
fit_at (q ∷ parts) (x ∷ entries) [] k p e l fit es ls lt a b d = absurd (omega (arith, ls))
fit_at (q ∷ parts) (x ∷ entries) (y ∷ lengths) zero p e l fit es ls lt a b d =
    let both = and_parts (fits_in (indices q.shape) q.size_record.coding x y) (all_fit parts entries lengths) fit in
    let q-is = some_is q p a in
    let x-is = some_is x e b in
    let y-is = some_is y l d in
    subst (λ (m : List ℕ). fits_in (indices p.shape) p.size_record.coding e m ≡ true) y-is
    (subst (λ (n : List ℕ). fits_in (indices p.shape) p.size_record.coding n y ≡ true) x-is
    (subst (λ (r : Part). fits_in (indices r.shape) r.size_record.coding x y ≡ true) q-is both.0))
fit_at (q ∷ parts) (x ∷ entries) (y ∷ lengths) (suc k) p e l fit es ls lt a b d =
    let both = and_parts (fits_in (indices q.shape) q.size_record.coding x y) (all_fit parts entries lengths) fit in
    fit_at parts entries lengths k p e l both.1 (omega (arith, es)) (omega (arith, ls)) (omega (arith, lt)) a b d

pub sized_at : (section : Section) (parts : List Part) (runs : List (List ℕ)) (k : ℕ) (p : Part) (r : List ℕ) → AreSized section parts runs → k < length parts → p ≡ get_or parts k p → r ≡ get_or runs k r
    → length r ≡ section_size section (indices p.shape) p.size_record.coding
sized_at section parts runs k p r sized lt p-is r-is = sized.each k p r lt (got parts k p lt p-is) (got runs k r (omega (arith, lt, sized.lengths)) r-is)

pub right_at : (parts : List Part) (entries lengths : List (List ℕ)) (k : ℕ) (p : Part) (e l : List ℕ) → AreSized Entries parts entries → AreSized Lengths parts lengths → all_fit parts entries lengths ≡ true
    → k < length parts → p ≡ get_or parts k p → e ≡ get_or entries k e → l ≡ get_or lengths k l → fits_in (indices p.shape) p.size_record.coding e l ≡ true
right_at parts entries lengths k p e l es ls fit lt p-is e-is l-is =
    fit_at parts entries lengths k p e l fit es.lengths ls.lengths lt (got parts k p lt p-is) (got entries k e (omega (arith, lt, es.lengths)) e-is) (got lengths k l (omega (arith, lt, ls.lengths)) l-is)

-- ---- what is kept of a part

-- a field of an element that was read by its index
mapped_at : {X Y : Type 0} (f : X → Y) (xs : List X) (k : ℕ) (x : X) → k < length xs → x ≡ get_or xs k x → f x ≡ get_or (map f xs) k (f x)
mapped_at f xs k x lt is = ap f is ∙ sym (get_or-map f xs k x (f x) lt)

here : (os : List OpenedPart) (k : ℕ) → k < length (plain_parts os) → k < length os
here os k lt = omega (arith, lt, length-map os (λ (o : OpenedPart). o.head))

pub plain_at : (os : List OpenedPart) (k : ℕ) (o : OpenedPart) → k < length (plain_parts os) → o ≡ get_or os k o → o.head ≡ get_or (plain_parts os) k o.head
plain_at os k o lt is = mapped_at (λ (o : OpenedPart). o.head) os k o (here os k lt) is

pub part_at : (os : List OpenedPart) (k : ℕ) (o : OpenedPart) → k < length (plain_parts os) → o ≡ get_or os k o → slice_get (plain_parts os) k ≡ Some o.head
part_at os k o lt is = got (plain_parts os) k o.head lt (plain_at os k o lt is)

pub entries_at : (os : List OpenedPart) (k : ℕ) (o : OpenedPart) → k < length (plain_parts os) → o ≡ get_or os k o → o.entries ≡ get_or (all_entries os) k o.entries
entries_at os k o lt is = mapped_at (λ (o : OpenedPart). o.entries) os k o (here os k lt) is

pub lengths_at : (os : List OpenedPart) (k : ℕ) (o : OpenedPart) → k < length (plain_parts os) → o ≡ get_or os k o → o.lengths ≡ get_or (all_lengths os) k o.lengths
lengths_at os k o lt is = mapped_at (λ (o : OpenedPart). o.lengths) os k o (here os k lt) is

pub blocks_at : (os : List OpenedPart) (k : ℕ) (o : OpenedPart) → k < length (plain_parts os) → o ≡ get_or os k o → o.blocks ≡ get_or (all_blocks os) k o.blocks
blocks_at os k o lt is = mapped_at (λ (o : OpenedPart). o.blocks) os k o (here os k lt) is

-- the part at a place has its sections whole
pub whole_at : (a : Inside) (k : ℕ) (o : OpenedPart) → IsOpened a → k < length (plain_parts a.parts.items) → o ≡ get_or a.parts.items k o → IsWholePart o
whole_at a k o h lt is =
    let os = a.parts.items in
    let p-is = plain_at os k o lt is in
    let e-is = entries_at os k o lt is in
    let l-is = lengths_at os k o lt is in
    record {
      entries_fit = sized_at Entries (plain_parts os) (all_entries os) k o.head o.entries h.entries lt p-is e-is;
      lengths_fit = sized_at Lengths (plain_parts os) (all_lengths os) k o.head o.lengths h.lengths lt p-is l-is;
      blocks_fit = sized_at Blocks (plain_parts os) (all_blocks os) k o.head o.blocks h.blocks lt p-is (blocks_at os k o lt is);
      right = right_at (plain_parts os) (all_entries os) (all_lengths os) k o.head o.entries o.lengths h.entries h.lengths h.fit lt p-is e-is l-is;
    }

-- and it is the part for a side and a file
pub stands_at : (a : Inside) (side : Side) (file k : ℕ) (o : OpenedPart) → IsOpened a → k < length (plain_parts a.parts.items) → o ≡ get_or a.parts.items k o → k ≡ part_place (part_for (contents_of a) side file)
    → StandsInTable (part_for (contents_of a) side file) o
stands_at a side file k o h lt is k-is =
    let os = a.parts.items in
    let said = h.shaped k o.head (part_at os k o lt is) in
    record {
      found = rw (← k-is) (got (plain_parts os) k o.head lt (plain_at os k o lt is));
      lengths = rw (← k-is) (got_or (all_lengths os) k o.lengths [] (omega (arith, lt, h.lengths.lengths)) (lengths_at os k o lt is));
      blocks = rw (← k-is) (got_or (all_blocks os) k o.blocks [] (omega (arith, lt, h.blocks.lengths)) (blocks_at os k o lt is));
      material = said.0;
      file = said.1 ∙ file_of_place a.kind a.material (side_number side) (part_file a.material file) k k-is;
    }

-- ---- what a view shows of a table

pub view_expansion : (p : PartAt) (v : View) → IsViewOf p v → expanded v.coding.now v.lengths.now v.blocks.now ≡ expansion p
unfolding expansion
view_expansion p v h = rw (h.coding, h.lengths, h.blocks, h.found) refl

pub view_spot : (p : PartAt) (index : ℕ) (spot : Spot) (v : View) → IsViewOf p v → IsSpotOf v.coding.now v.lengths.now index spot → IsSpot p index spot
unfolding IsSpot
view_spot p index spot v h at = rw h.found (rw (h.coding, h.lengths) at at)

pub view_real : (p : PartAt) (block : ℕ) (v : View) → IsViewOf p v → block < real_blocks p → block < blocks_in v.coding.now
unfolding real_blocks
view_real p block v h lt = rw h.coding (rw h.found at lt)

real_view : (p : PartAt) (block : ℕ) (v : View) → IsViewOf p v → block < blocks_in v.coding.now → block < real_blocks p
unfolding real_blocks
real_view p block v h lt = rw h.found (rw h.coding at lt)

-- steps within half a span of a view are so within that of its side and file
pub view_steps : (p : PartAt) (index before after : ℕ) (v : View) → IsViewOf p v → (index < v.size → after ≤ before + coding_span v.coding.now / 2 + 65536)
    → (shape : Layout) → shape_of p ≡ Some shape → index < size_of shape → after ≤ before + span_of p / 2 + 65536
unfolding indices
view_steps p index before after v h cost shape is lt =
    let same : h.part.shape ≡ shape = some_is h.part.shape shape (rw h.found at is) in
    rw h.found (rw h.coding at (cost (rw (h.size, same) lt)))

pub view_values : (p : PartAt) (block : ℕ) (v : View) → IsViewOf p v → values_in v.coding.now v.lengths.now v.blocks.now block ≡ part_block_values p block
unfolding part_block_values
view_values p block v h = rw (h.coding, h.lengths, h.blocks, h.found) refl

pub if_ok : {A E : Type 0} {P Q : A → Type 0} (r : Result A E) → IfOk r P → ((x : A) → P x → Q x) → IfOk r Q
if_ok (Ok x) h f = f x h
if_ok (Err e) h f = tt

pub view_short : (p : PartAt) (index : ℕ) (spot : Spot) (v : View) → IsViewOf p v → IsSpotOf v.coding.now v.lengths.now index spot → IsShort spot → IsRealSpot p spot
view_short p index (SingleSpot w) v h at short = tt
view_short p index (At block offset) v h at short = (real (v.coding.now) refl at, short)
  where
    real : (coding : Coding) → v.coding.now ≡ coding → IsSpotOf coding v.lengths.now index (At block offset) → block < real_blocks p
    real (Single w) e at = absurd at
    real (Pairs c) e at = real_view p block v h (rw e at.is_real)

pub if_both : {A E : Type 0} {P R Q : A → Type 0} (r : Result A E) → IfOk r P → IfOk r R → ((x : A) → P x → R x → Q x) → IfOk r Q
if_both (Ok x) h k f = f x h k
if_both (Err e) h k f = tt
