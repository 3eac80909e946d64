-- Which names the files of tables have.
use Rattle.std.specs.Prelude.{◌≡◌, ◌<◌, ℕ, List}
use Rattle.table_file.specs.declared.kind.TableKind.{TableKind}
use Rattle.table_file.specs.Names.{file_name}
use Rattle.move_msg.specs.TableNames.{IsFileName}

-- The file names that a manifest may have are those of the 145 tables, each with either ending, and no others.
abbrev pub FileNamesAreThoseOfTables : Type 0
FileNamesAreThoseOfTables =
    ((name : List ℕ) → IsFileName name → (kind : TableKind) × (material : ℕ) × (material < 145) × (name ≡ file_name kind material))
    × ((kind : TableKind) (material : ℕ) → material < 145 → IsFileName (file_name kind material))
