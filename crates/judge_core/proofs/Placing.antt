-- The table value of a position whose men are placed.
use Rattle.std.proofs.Common.{◌≡◌, ◌∙◌, sym, ap, subst, refl, ℕ, Option, Some, None, Ok, Err}
use Rattle.std.specs.Option.{option_and_then}
use Rattle.board_core.specs.declared.parts.Parts.{Parts}
use Rattle.place_index.specs.Placed.{Placement}
use Rattle.table_file.specs.declared.kind.TableKind.TheVariants.{Wdl}
use Rattle.table_file.specs.Tables.{Contents}
use Rattle.judge_core.specs.declared.wdl.Wdl.{Wdl as Value}
use Rattle.judge_core.specs.declared.wdl.Wdl.TheVariants.{Draw}
use Rattle.judge_core.specs.declared.fault.ValueFault.TheVariants.{NotCovered, Damaged}
use Rattle.judge_core.specs.LookUp.{material_of, placed_of}
use Rattle.judge_core.specs.Values.{Reading, of_points}
use Rattle.judge_core.specs.Tables.{Tables, table_at, entry_in, value_or_damaged, table_value}
use Rattle.judge_core.specs.Inside.Placing.{IsPlacedAt, IsPlacedOf}

pub bare_value : (tables : Tables) (p : Parts) (o : Option Placement) → o ≡ None → IsPlacedOf p o → Ok Draw ≡ table_value tables p
unfolding table_value
bare_value tables p o none at = let found : material_of p ≡ None = subst (IsPlacedOf p) none at in rw found refl

module _ (tables : Tables) (p : Parts) (o : Option Placement) (placed : Placement) (key : ℕ) (is : o ≡ Some placed) (at : IsPlacedOf p o) (own : key ≡ placed.material) where
  placing : IsPlacedAt p placed
  placing = subst (IsPlacedOf p) is at

  found : material_of p ≡ Some key
  found = placing.found ∙ ap (λ (k : ℕ). Some k) (sym own)

  pub missing_value : table_at tables Wdl key ≡ None → Err (NotCovered key) ≡ table_value tables p
  unfolding table_value
  missing_value none = rw (found, none) refl

  pub read_value : (t : Contents) (points : Option ℕ) (r : Reading) → table_at tables Wdl key ≡ Some t → points ≡ entry_in t placed → r ≡ value_or_damaged key (option_and_then of_points points) → r ≡ table_value tables p
  unfolding table_value
  read_value t points r some read e =
      let entry : points ≡ entry_in t (placed_of key p) = read ∙ ap (entry_in t) (placing.is ∙ ap (λ k. placed_of k p) (sym own)) in
      e ∙ rw (found, some, ← entry) refl

-- a number that is read, and the value that it stands for
pub good_value : (key : ℕ) (o : Option ℕ) (points : ℕ) (v : Value) → o ≡ Some points → of_points points ≡ Some v → Ok v ≡ value_or_damaged key (option_and_then of_points o)
good_value key o points v e ev = rw (e, ev) refl

pub bad_value : (key : ℕ) (o : Option ℕ) (points : ℕ) → o ≡ Some points → of_points points ≡ None → Err (Damaged key) ≡ value_or_damaged key (option_and_then of_points o)
bad_value key o points e ev = rw (e, ev) refl

pub no_value : (key : ℕ) (o : Option ℕ) → o ≡ None → Err (Damaged key) ≡ value_or_damaged key (option_and_then of_points o)
no_value key o e = rw e refl
