-- The entry of an index, by the values of its block.
use Rattle.std.proofs.Common.{◌≡◌, ℕ, zero, suc, ◌+◌, ◌*◌, ◌<◌, ◌≤◌, List, [], ◌∷◌, length, get_or, take, drop, Some, refl, sym, ap, ◌∙◌, arith}
use Rattle.std.specs.Prelude.{slice_get, Result, Ok, Err, OnErr, IfOk, None}
use Rattle.std.proofs.lemmas.Option.{slice_get_past}
use Rattle.pair_dict.specs.Blocks.{block_values}
use Rattle.table_file.specs.declared.size_record.Coding.{Coding}
use Rattle.table_file.specs.declared.size_record.Coding.TheVariants.{Single, Pairs}
use Rattle.table_file.specs.declared.parts.Section.TheVariants.{Lengths}
use Rattle.table_file.specs.declared.spots.Spot.{Spot}
use Rattle.table_file.specs.declared.spots.Spot.TheVariants.{At}
use Rattle.table_file.specs.declared.spots.View.{View}
use Rattle.table_file.specs.Figures.{Figures, block_size}
use Rattle.table_file.specs.Files.{section_size}
use Rattle.table_file.specs.Sparse.{sizes_of}
use Rattle.table_file.specs.Tables.{PartAt}
use Rattle.table_file.specs.Inside.Checked.{IsChecked, IsViewOf}
use Rattle.table_file.specs.Expansion.{expanded, expansion, entry_at, values_in, part_block_values, IsSpotOf, IsSpot}
use Rattle.table_file.proofs.Expanded.{spot_value}
use Rattle.table_file.proofs.Views.{view_expansion, view_values}

spot_view : (p : PartAt) (index : ℕ) (spot : Spot) (v : View) → IsViewOf p v → IsSpot p index spot → IsSpotOf v.coding.now v.lengths.now index spot
unfolding IsSpot
spot_view p index spot v h at = rw (h.coding, h.lengths) (rw h.found at at)

get-take : {X : Type 0} (n i : ℕ) (xs : List X) → i < n → slice_get (take n xs) i ≡ slice_get xs i
get-take zero i xs lt = absurd (omega arith)
get-take (suc n) i [] lt = refl
get-take (suc n) zero (x ∷ xs) lt = refl
get-take (suc n) (suc i) (x ∷ xs) lt = get-take n i xs (omega arith)

in_values : (coding : Coding) (size : ℕ) (lengths blocks : List ℕ) (index block offset : ℕ) → length lengths ≡ section_size Lengths size coding → IsSpotOf coding lengths index (At block offset)
    → slice_get (values_in coding lengths blocks block) offset ≡ entry_at (expanded coding lengths blocks) index
in_values (Single v) size lengths blocks index block offset fit spot = absurd spot
in_values (Pairs c) size lengths blocks index block offset fit spot =
    get-take (get_or (sizes_of lengths) block 0) offset (block_values c.dictionary (take (block_size c) (drop (block * block_size c) blocks))) spot.within
    ∙ sym (spot_value c lengths blocks index block offset (omega (arith, fit)) spot)

module _ (p : PartAt) (v : View) (h : IsViewOf p v) (checked : IsChecked v) where
  pub among : (index block offset : ℕ) → IsSpot p index (At block offset) → slice_get (part_block_values p block) offset ≡ entry_at (expansion p) index
  among index block offset spot =
      ap (λ (vs : List ℕ). slice_get vs offset) (sym (view_values p block v h))
      ∙ in_values v.coding.now v.size v.lengths.now v.blocks.now index block offset checked.lengths_fit (spot_view p index (At block offset) v h spot)
      ∙ ap (λ e. entry_at e index) (view_expansion p v h)

  -- by the dictionary's answer for the block
  module _ (c : Figures) (is : v.coding.now ≡ Pairs c) (index block offset : ℕ) (spot : IsSpot p index (At block offset)) where
    here : entry_at (expansion p) index ≡ slice_get (block_values c.dictionary (take (block_size c) (drop (block * block_size c) v.blocks.now))) offset
    here =
        let fit : length v.lengths.now ≡ 2 * (c.blocks + c.padding) = rw is at checked.lengths_fit in
        ap (λ e. entry_at e index) (sym (view_expansion p v h)) ∙ ap (λ (k : Coding). entry_at (expanded k v.lengths.now v.blocks.now) index) is
        ∙ spot_value c v.lengths.now v.blocks.now index block offset (omega (arith, fit)) (rw is at (spot_view p index (At block offset) v h spot))

    pub found_in : {E : Type 0} (r : Result ℕ E) → IfOk r (λ x. slice_get (block_values c.dictionary (take (block_size c) (drop (block * block_size c) v.blocks.now))) offset ≡ Some x) → IfOk r (λ x. entry_at (expansion p) index ≡ Some x)
    found_in (Ok x) e = here ∙ e
    found_in (Err e) h = tt

    pub damaged_in : {E : Type 0} (r : Result ℕ E) → OnErr r (length (block_values c.dictionary (take (block_size c) (drop (block * block_size c) v.blocks.now))) ≤ offset) → OnErr r (entry_at (expansion p) index ≡ None)
    damaged_in (Ok x) e = tt
    damaged_in (Err e) le = here ∙ slice_get_past _ offset le
