-- What writing a table file guarantees: a file of the plan's name opens, and says what the plan says.
use Rattle.std.specs.Prelude.{◌≡◌, ℕ, List, length, slice_get, Some, Ok}
use Rattle.table_file.specs.declared.parts.Part.{Part}
use Rattle.table_file.specs.declared.plan.Plan.{Plan}
use Rattle.table_file.specs.declared.plan.PartPlan.{PartPlan}
use Rattle.table_file.specs.Names.{file_name}
use Rattle.table_file.specs.Files.{indices}
use Rattle.table_file.specs.Tables.{Contents, PartAt, nth_part, contents_at, part_of}
use Rattle.table_file.specs.Expansion.{expansion}
use Rattle.table_file.specs.Plan.{planned_shape, planned_expansion, planned_maps, HasEnough, IsGoodPlan}
use Rattle.table_file.specs.PlannedFile.{planned_file}

-- a part of an opened file has the pieces, orders and flags of a planned part, and its values, one for each index
pub record IsPartOf (material : ℕ) (at : PartAt) (p : PartPlan) : Type 0 where
  pub part : Part
  pub found : part_of at ≡ Some part
  pub shape : part.shape ≡ planned_shape material p at.file
  pub flags : part.size_record.flags ≡ p.flags
  pub enough : HasEnough p.content (indices part.shape)
  pub values : expansion at ≡ planned_expansion p.content (indices part.shape)

-- Parts go by files, and in each file by sides.
abbrev pub ArePartsOf : ℕ → Contents → List PartPlan → Type 0
ArePartsOf material t parts =
    (k : ℕ) (p : PartPlan) → slice_get parts k ≡ Some p → IsPartOf material (nth_part t k) p

-- an opened file says what the plan says
pub record ShowsPlan (plan : Plan) (t : Contents) : Type 0 where
  pub kind : t.kind ≡ plan.kind
  pub material : t.material ≡ plan.material
  pub all : length t.parts ≡ length plan.parts.items
  pub parts : ArePartsOf plan.material t plan.parts.items
  pub maps : t.maps ≡ planned_maps plan.kind plan.parts.items

-- the bytes, under the file name of the plan's kind and material, open and say what the plan says
abbrev pub OpensAs : Plan → List ℕ → Type 0
OpensAs plan file = (t : Contents) × (contents_at (file_name plan.kind plan.material) file ≡ Ok t) × ShowsPlan plan t

-- a good plan whose bytes open as what it says
abbrev pub CanBeForged : Plan → Type 0
CanBeForged plan = IsGoodPlan plan.kind plan.material plan.parts.items × OpensAs plan (planned_file plan)
