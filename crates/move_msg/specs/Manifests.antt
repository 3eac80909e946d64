-- Manifests: the files of tables with the digests of their bytes (manifest format).
use Rattle.std.specs.Prelude.{◌≡◌, ◌≢◌, ◌<◌, ◌+◌, ◌++◌, ℕ, List, [], ◌∷◌, length, slice_index}
use Rattle.std.specs.Ordering.{nat_cmp}
use Rattle.std.specs.Cmp.Lexicographic.{slice_cmp}
use Rattle.std.specs.declared.cmp.Ordering.TheVariants.{Less}
use Rattle.hex.specs.Hex.{encode_lower}
use Rattle.move_msg.specs.declared.manifest.Line.{Line}
use Rattle.move_msg.specs.TableNames.{IsFileName}

-- the contents of a line: the digest of a file's bytes and the file's name
pub record Entry : Type 0 where
  pub digest : List ℕ
  pub name : List ℕ

abbrev pub entry_of : Line → Entry
entry_of line = record { digest = line.digest; name = line.name.bytes }

-- a digest of 32 bytes (FIPS 180-4) and the name of a table's file
pub record IsEntry (e : Entry) : Type 0 where
  pub long : length e.digest ≡ 32
  pub bytes : (i : ℕ) → slice_index e.digest i < 256
  pub file : IsFileName e.name

-- the digest in lower-case hexadecimal digits, two spaces and the name
unfoldable pub entry_text : Entry → List ℕ
entry_text e = encode_lower e.digest ++ 32 ∷ 32 ∷ e.name

-- the same, ended by a line feed
abbrev pub line_text : Entry → List ℕ
line_text e = entry_text e ++ 10 ∷ []

abbrev pub lines_text : List Entry → List ℕ
lines_text [] = []
lines_text (e ∷ others) = line_text e ++ lines_text others

-- the one name comes before the other in the order of bytes
abbrev pub IsBefore : Entry → Entry → Type 0
IsBefore a b = slice_cmp nat_cmp a.name b.name ≡ Less

-- the name comes after that of the last entry
abbrev pub IsAfter : List Entry → Entry → Type 0
IsAfter [] e = Unit {0}
IsAfter (a ∷ []) e = IsBefore a e
IsAfter (a ∷ b ∷ others) e = IsAfter (b ∷ others) e

-- each name comes after the one before it
abbrev pub AreRising : List Entry → Type 0
AreRising [] = Unit {0}
AreRising (a ∷ []) = Unit {0}
AreRising (a ∷ b ∷ others) = IsBefore a b × AreRising (b ∷ others)

-- each has a digest and a file's name
abbrev pub AreOfFiles : List Entry → Type 0
AreOfFiles [] = Unit {0}
AreOfFiles (e ∷ others) = IsEntry e × AreOfFiles others

-- entries that a manifest may have
abbrev pub AreEntries : List Entry → Type 0
AreEntries es = AreOfFiles es × AreRising es

-- the text is that of the entries, a line each
abbrev pub SpellsManifest : List ℕ → List Entry → Type 0
SpellsManifest t es = AreEntries es × (t ≡ lines_text es)

-- line k, counted from 1, is the first malformed one: the lines before it are a manifest, and the rest doesn't begin with
-- an entry of a later name
pub record IsFirstBadLine (t : List ℕ) (k : ℕ) : Type 0 where
  pub before : List Entry
  pub rest : List ℕ
  pub manifest : AreEntries before
  pub number : k ≡ length before + 1
  pub text : t ≡ lines_text before ++ rest
  pub more : rest ≢ []
  pub none : (e : Entry) (after : List ℕ) → IsEntry e → IsAfter before e → rest ≡ line_text e ++ after → ⊥

-- the text begins by the line of an entry
abbrev pub HasFirstLine : List ℕ → Type 0
HasFirstLine t = (e : Entry) × (rest : List ℕ) × IsEntry e × (t ≡ line_text e ++ rest)
