-- What opening a file leaves for each part: its shape, and sections of the right size.
use Rattle.std.specs.Prelude.{◌≡◌, ℕ, ◌/◌, ◌<◌, List, length, slice_get, Some}
use Rattle.table_file.specs.declared.kind.TableKind.{TableKind}
use Rattle.table_file.specs.declared.parts.Part.{Part}
use Rattle.table_file.specs.declared.parts.Section.{Section}
use Rattle.table_file.specs.Files.{section_size, indices, side_count}

-- each part has a shape of the material, for its file of the leading pawn
abbrev pub AreShaped : TableKind → ℕ → List Part → Type 0
AreShaped kind material parts = (k : ℕ) (p : Part) → slice_get parts k ≡ Some p → (p.shape.material ≡ material) × (p.shape.file ≡ k / side_count kind material)

-- a section of each part, of the size that the part gives it
pub record AreSized (section : Section) (parts : List Part) (runs : List (List ℕ)) : Type 0 where
  pub lengths : length runs ≡ length parts
  pub each : (k : ℕ) (p : Part) (r : List ℕ) → k < length parts → slice_get parts k ≡ Some p → slice_get runs k ≡ Some r → length r ≡ section_size section (indices p.shape) p.size_record.coding
