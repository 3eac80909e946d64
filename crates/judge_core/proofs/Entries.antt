-- What a table has at the index of placed men.
use Rattle.std.proofs.Common.{◌≡◌, ◌∙◌, sym, ap, subst, refl, ℕ, false, Option, Some, None, List, get_or, option_map}
use Rattle.board_core.specs.declared.piece.Side.{Side}
use Rattle.board_core.specs.declared.piece.Side.TheVariants.{White, Black}
use Rattle.place_index.specs.Shape.{Layout, has_pawns}
use Rattle.place_index.specs.Index.{index_of}
use Rattle.place_index.specs.Placed.{Placement, side_number}
use Rattle.table_file.specs.Tables.{Contents, PartAt, part_for, shape_of, part_of, lengths_of, blocks_of}
use Rattle.std.proofs.lemmas.Option.{slice_get_past}
use Rattle.table_file.specs.declared.kind.TableKind.{TableKind}
use Rattle.table_file.specs.declared.parts.Part.{Part}
use Rattle.table_file.specs.declared.size_record.Coding.{Coding}
use Rattle.table_file.specs.declared.size_record.Coding.TheVariants.{Single, Pairs}
use Rattle.table_file.specs.declared.spots.Spot.TheVariants.{Single as SingleSpot}
use Rattle.table_file.specs.Expansion.{Expansion, everywhere, listed, known, expanded, expanded_part, expansion, entry_at, IsSpotOf, IsSpotAt, IsSpot, IsPast}
use Rattle.table_file.specs.declared.outcome.Outcome.{Outcome}
use Rattle.table_file.specs.Files.{side_of}
use Rattle.table_file.specs.Distances.{distance}
use Rattle.judge_core.specs.declared.blocks.BlockKey.{BlockKey}
use Rattle.judge_core.specs.Blocks.{keyed_part}
use Rattle.judge_core.specs.Tables.{Tables, slot, table_at, part_asked, placed_entry, entry_in}
use Rattle.judge_core.specs.Distances.{distance_of, distance_in}
use Rattle.judge_core.specs.Inside.Placing.{IsPartFor}

-- ---- the part for placed men

pub part_found : (tables : Tables) (kind : TableKind) (placed : Placement) (t : Contents) (side : Side) (file : ℕ) (part : PartAt) → part ≡ part_for t side file → side ≡ placed.side → file ≡ placed.file → (has_pawns placed.material ≡ false → file ≡ 0)
    → table_at tables kind placed.material ≡ Some t → t.kind ≡ kind → t.material ≡ placed.material → IsPartFor tables kind placed part
part_found tables kind placed t side file part e es ef first on kind_is own = subst (IsPartFor tables kind placed) (sym e) (record {
  on = on;
  kind_is = kind_is;
  is = ap (λ (s : Side). part_for t s file) es ∙ ap (part_for t placed.side) ef;
  asked = record { material = sym own; file = sym ef; first = λ none. sym ef ∙ first none };
})

same_side : (side : Side) → side_of (side_number side) ≡ side
same_side White = refl
same_side Black = refl

-- a key names the part
pub part_named : (tables : Tables) (kind : TableKind) (placed : Placement) (part : PartAt) (key : BlockKey) → IsPartFor tables kind placed part → key.slot ≡ slot kind placed.material → key.side ≡ side_number placed.side → key.file ≡ placed.file → keyed_part tables key ≡ Some part
part_named tables kind placed part key for es side file =
    ap (option_map (λ (t : Contents). part_for t (side_of key.side) key.file)) (ap (λ (n : ℕ). get_or tables n None) es ∙ for.on)
    ∙ ap (λ (s : Side). Some (part_for part.table s key.file)) (ap side_of side ∙ same_side placed.side)
    ∙ ap (λ (f : ℕ). Some (part_for part.table placed.side f)) file
    ∙ ap (λ (x : PartAt). Some x) (sym for.is)

-- ---- what it has at the index of the men

module _ (part : PartAt) (placed : Placement) (is : part ≡ part_asked part.table placed) where
  pub an_entry : (l : Layout) (i : ℕ) (o : Option ℕ) → shape_of part ≡ Some l → i ≡ index_of l placed.men → o ≡ entry_at (expansion part) i → o ≡ entry_in part.table placed
  unfolding entry_in
  an_entry l i o shape at e =
      e ∙ ap (entry_at (expansion part)) at ∙ ap (λ (s : Option Layout). placed_entry s part placed) (sym shape) ∙ ap (λ (x : PartAt). placed_entry (shape_of x) x placed) is

  pub a_distance : (outcome : Outcome) (value : ℕ) (o : Option ℕ) → Some value ≡ entry_in part.table placed → ((i : ℕ) → entry_at (expansion part) i ≡ Some value → distance part i outcome ≡ o) → o ≡ distance_in part.table placed outcome
  unfolding entry_in distance_in
  a_distance outcome value o e told = by_shape (shape_of (part_asked part.table placed)) e (subst (λ (x : PartAt). (i : ℕ) → entry_at (expansion x) i ≡ Some value → distance x i outcome ≡ o) is told)
    where
      by_shape : (s : Option Layout) → Some value ≡ placed_entry s (part_asked part.table placed) placed → ((i : ℕ) → entry_at (expansion (part_asked part.table placed)) i ≡ Some value → distance (part_asked part.table placed) i outcome ≡ o) → o ≡ distance_of s (part_asked part.table placed) placed outcome
      by_shape None h at = absurd cc
      by_shape (Some l) h at = sym (at (index_of l placed.men) (sym h))

no_distance_at : (part : PartAt) (i : ℕ) (outcome : Outcome) → entry_at (expansion part) i ≡ None → distance part i outcome ≡ None
unfolding distance
no_distance_at part i outcome e = rw e refl

-- no entry, no distance
pub no_distance : (t : Contents) (placed : Placement) (outcome : Outcome) → None ≡ entry_in t placed → None ≡ distance_in t placed outcome
unfolding entry_in distance_in
no_distance t placed outcome e = by_shape (shape_of (part_asked t placed)) e
  where
    by_shape : (s : Option Layout) → None ≡ placed_entry s (part_asked t placed) placed → None ≡ distance_of s (part_asked t placed) placed outcome
    by_shape None h = refl
    by_shape (Some l) h = sym (no_distance_at (part_asked t placed) (index_of l placed.men) outcome (sym h))

-- ---- the entry at a spot

pub single_entry : (part : PartAt) (index w : ℕ) → IsSpot part index (SingleSpot w) → Some w ≡ entry_at (expansion part) index
unfolding IsSpot expansion
single_entry part index w spot = by_part (part_of part) (lengths_of part) (blocks_of part) spot
  where
    by_coding : (coding : Coding) (lengths blocks : List ℕ) → IsSpotOf coding lengths index (SingleSpot w) → Some w ≡ entry_at (expanded coding lengths blocks) index
    by_coding (Single v) lengths blocks e = ap (λ (n : ℕ). Some n) e
    by_coding (Pairs c) lengths blocks e = absurd e

    by_part : (o : Option Part) (lengths blocks : List ℕ) → IsSpotAt o lengths index (SingleSpot w) → Some w ≡ entry_at (expanded_part o lengths blocks) index
    by_part None lengths blocks e = absurd e
    by_part (Some p) lengths blocks e = by_coding p.size_record.coding lengths blocks e

pub past_entry : (e : Expansion) (index : ℕ) → IsPast e index → None ≡ entry_at e index
past_entry (everywhere v) index past = absurd past
past_entry (listed entries) index past = sym (ap known (slice_get_past entries index past))
