-- Files of tables, and the entries that a manifest has of them (manifest format).
use Rattle.std.specs.Prelude.{◌≡◌, ℕ, List, [], ◌∷◌, map}
use Rattle.std.specs.Ordering.{nat_cmp}
use Rattle.std.specs.Cmp.Lexicographic.{slice_cmp}
use Rattle.std.specs.declared.cmp.Ordering.TheVariants.{Less}
use Rattle.sha2.specs.Sha256.{sha256}
use Rattle.move_msg.specs.declared.files.NamedFile.{NamedFile}
use Rattle.move_msg.specs.Manifests.{Entry}
use Rattle.move_msg.specs.TableNames.{IsFileName}

-- a file: its name and its bytes
pub record File : Type 0 where
  pub name : List ℕ
  pub bytes : List ℕ

abbrev pub table_file_of : NamedFile → File
table_file_of f = record { name = f.name.bytes; bytes = f.bytes.items }

-- each has the name of a table's file
abbrev pub AreNamed : List File → Type 0
AreNamed [] = Unit {0}
AreNamed (f ∷ others) = IsFileName f.name × AreNamed others

-- each name comes after the one before it in the order of bytes
abbrev pub AreSorted : List File → Type 0
AreSorted [] = Unit {0}
AreSorted (f ∷ []) = Unit {0}
AreSorted (f ∷ g ∷ others) = (slice_cmp nat_cmp f.name g.name ≡ Less) × AreSorted (g ∷ others)

-- files that a manifest may have
abbrev pub AreFiles : List File → Type 0
AreFiles files = AreNamed files × AreSorted files

-- the entry of a file: the SHA-256 digest of its bytes (FIPS 180-4) and its name
abbrev pub entry_for : File → Entry
entry_for f = record { digest = sha256 f.bytes; name = f.name }

abbrev pub entries_of : List File → List Entry
entries_of files = map entry_for files
