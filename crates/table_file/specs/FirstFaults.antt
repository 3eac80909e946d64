-- The first fault of a table file (Syzygy table format): all that stands before the part at fault is laid out, and that
-- part can't be. Each relation says which fault is the first one from an offset on. It corresponds to the relation of the
-- layout for the same part, and offsets are counted as there.
use Rattle.std.specs.Prelude.{◌≡◌, ℕ, ◌+◌, ◌-◌, ◌*◌, ◌/◌, ◌%◌, ◌<◌, ◌≤◌, ◌↔◌, ◌⊎◌, Bool, true, false, List, [], ◌∷◌, length, map, take, drop, Err}
use Rattle.std.specs.List.{range_with_len}
use Rattle.pair_dict.specs.Reading.{dictionary_at}
use Rattle.pair_dict.specs.declared.fault.DictFault.{DictFault}
use Rattle.place_index.specs.Material.{pieces_of}
use Rattle.place_index.specs.Shape.{Layout, layout, both_have_pawns, HasGoodPieces, HasGoodOrder}
use Rattle.table_file.specs.declared.fault.TableFault.{TableFault}
use Rattle.table_file.specs.declared.fault.TableFault.TheVariants.{BadName, BadSize, BadMagic, BadFlags, BadPieces, BadOrder, Truncated, BadExponent, BadSparse}
use Rattle.table_file.specs.declared.kind.TableKind.{TableKind}
use Rattle.table_file.specs.declared.kind.TableKind.TheVariants.{Wdl, Dtz}
use Rattle.table_file.specs.declared.parts.Part.{Part}
use Rattle.table_file.specs.declared.parts.Section.{Section}
use Rattle.table_file.specs.declared.parts.Section.TheVariants.{Entries, Lengths, Blocks}
use Rattle.table_file.specs.Reading.{has_bit}
use Rattle.table_file.specs.Names.{file_name}
use Rattle.table_file.specs.Dictionaries.{dictionary_fault}
use Rattle.table_file.specs.Files.{side_count, side_of, indices, magic_of, flags_agree, nibble, section_size}
use Rattle.table_file.specs.Tables.{contents_at, part_count}
use Rattle.table_file.specs.Layouts.{IsByte, AreBytes, IsNumber, IsRaised, Each, IsSecond, IsSetup, IsExponent, IsPart, IsMap, IsMapStart, AreMaps, AreAllMaps, IsSectionStart, IsSection, AllSparseEntries, IsHead}

-- ---- ways to be at fault

-- A part has its own fault, or it is laid out, and what follows it has one.
pub data HasFaultInTurn {A : Type 0} (own : ℕ → TableFault → Type 0) (laid : ℕ → A → ℕ → Type 0) (following : A → ℕ → TableFault → Type 0) (p : ℕ) (e : TableFault) : Type 0 where
  here : own p e → HasFaultInTurn own laid following p e
  behind : (a : A) (q : ℕ) → laid p a q → following a q e → HasFaultInTurn own laid following p e

-- one part after the other
abbrev pub InEach : {A B : Type 0} → (A → ℕ → TableFault → Type 0) → (A → ℕ → B → ℕ → Type 0) → List A → ℕ → TableFault → Type 0
InEach own laid [] p e = ⊥
InEach own laid (a ∷ others) p e = HasFaultInTurn (own a) (laid a) (λ _. InEach own laid others) p e

-- n bytes pass the end
abbrev pub PassEnd : ℕ → List ℕ → ℕ → TableFault → Type 0
PassEnd n body p e = (length body < p + n) × (e ≡ Truncated)

-- what was read isn't as it has to be
abbrev pub IsNot : Type 0 → TableFault → TableFault → Type 0
IsNot good fault e = (good → ⊥) × (e ≡ fault)

-- ---- orders and pieces

abbrev pub IsSecondFault : ℕ → List ℕ → ℕ → TableFault → Type 0
IsSecondFault m body p e = (both_have_pawns m ≡ true) × PassEnd 1 body p e

-- pieces before orders
abbrev pub IsShapeFault : ℕ → List ℕ → Layout → TableFault → Type 0
IsShapeFault m pieces shape e = IsNot (HasGoodPieces m pieces) BadPieces e ⊎ (HasGoodPieces m pieces × IsNot (HasGoodOrder shape) BadOrder e)

-- order byte, second order byte, pieces, and the shape of part k that they make
unfoldable pub IsSetupFault : ℕ → ℕ → ℕ → List ℕ → ℕ → TableFault → Type 0
IsSetupFault m sides k body =
    HasFaultInTurn (PassEnd 1 body) (IsByte body) (λ order.
    HasFaultInTurn (IsSecondFault m body) (IsSecond m body) (λ second.
    HasFaultInTurn (PassEnd (length (pieces_of m)) body) (AreBytes (length (pieces_of m)) body) (λ men _.
    IsShapeFault m (map (nibble (side_of (k % sides))) men) (layout m (map (nibble (side_of (k % sides))) men) (nibble (side_of (k % sides)) order) (nibble (side_of (k % sides)) second) (k / sides)))))

-- ---- size records

unfoldable pub IsExponentFault : ℕ → ℕ → List ℕ → ℕ → TableFault → Type 0
IsExponentFault least greatest body = HasFaultInTurn (PassEnd 1 body) (IsByte body) (λ exponent _. IsNot ((least ≤ exponent) × (exponent ≤ greatest)) BadExponent)

-- the first fault of the dictionary's own bytes
abbrev pub IsDictionaryFault : List ℕ → ℕ → TableFault → Type 0
IsDictionaryFault body p e = (fault : DictFault) × (dictionary_at (drop p body) ≡ Err fault) × (e ≡ dictionary_fault fault)

-- exponents of the block size and of the span, padding entries, blocks, dictionary
unfoldable pub IsCodesFault : List ℕ → ℕ → TableFault → Type 0
IsCodesFault body =
    HasFaultInTurn (IsExponentFault 0 24 body) (IsExponent 0 24 body) (λ _.
    HasFaultInTurn (IsExponentFault 1 31 body) (IsExponent 1 31 body) (λ _.
    HasFaultInTurn (PassEnd 1 body) (IsByte body) (λ _.
    HasFaultInTurn (PassEnd 4 body) (IsNumber 4 body) (λ _. IsDictionaryFault body))))

-- the byte of a single value, or codes
abbrev pub IsCodingFault : List ℕ → ℕ → ℕ → TableFault → Type 0
IsCodingFault body flags p e = ((128 ≤ flags) × PassEnd 1 body p e) ⊎ ((flags < 128) × IsCodesFault body p e)

unfoldable pub IsSizeRecordFault : List ℕ → ℕ → TableFault → Type 0
IsSizeRecordFault body = HasFaultInTurn (PassEnd 1 body) (IsByte body) (IsCodingFault body)

-- ---- value maps

-- a length, and that many entries
abbrev pub IsMapFault : Bool → List ℕ → ℕ → TableFault → Type 0
IsMapFault true body = HasFaultInTurn (PassEnd 2 body) (IsNumber 2 body) (λ n. PassEnd (2 * n) body)
IsMapFault false body = HasFaultInTurn (PassEnd 1 body) (IsByte body) (λ n. PassEnd n body)

-- maps of wins, losses, cursed wins and blessed losses
unfoldable pub IsFourFault : Bool → List ℕ → ℕ → TableFault → Type 0
IsFourFault wide body =
    HasFaultInTurn (IsMapFault wide body) (IsMap wide body) (λ _.
    HasFaultInTurn (IsMapFault wide body) (IsMap wide body) (λ _.
    HasFaultInTurn (IsMapFault wide body) (IsMap wide body) (λ _. IsMapFault wide body)))

abbrev pub IsMapsFault : List ℕ → Part → ℕ → TableFault → Type 0
IsMapsFault body part p e =
    (has_bit 2 part.size_record.flags ≡ true) × ((at : ℕ) × IsMapStart (has_bit 16 part.size_record.flags) p at × IsFourFault (has_bit 16 part.size_record.flags) body at e)

abbrev pub IsAllMapsFault : TableKind → List Part → List ℕ → ℕ → TableFault → Type 0
IsAllMapsFault Wdl parts body p e = ⊥
IsAllMapsFault Dtz parts body p e = InEach (IsMapsFault body) (λ part. AreMaps part body) parts p e

-- ---- sparse entries, block lengths, blocks

abbrev pub IsSectionFault : Section → List ℕ → Part → ℕ → TableFault → Type 0
IsSectionFault section body part p e = (start : ℕ) × IsSectionStart section p start × PassEnd (section_size section (indices part.shape) part.size_record.coding) body start e

-- a section of each part in turn
abbrev pub InSection : Section → List ℕ → List Part → (List (List ℕ) → ℕ → TableFault → Type 0) → ℕ → TableFault → Type 0
InSection section body parts = HasFaultInTurn (InEach (IsSectionFault section body) (λ part. IsSection section part body) parts) (Each (λ part. IsSection section part body) parts)

-- ---- the whole file

-- the sections of all parts, and then their sparse entries
unfoldable pub IsSectionsFault : List ℕ → List Part → ℕ → TableFault → Type 0
IsSectionsFault body parts =
    InSection Entries body parts (λ entries.
    InSection Lengths body parts (λ lengths.
    InSection Blocks body parts (λ _ _. IsNot (AllSparseEntries parts entries lengths) BadSparse)))

-- size records, from an even place on, value maps, and sections
unfoldable pub IsRecordsFault : TableKind → List ℕ → List Layout → ℕ → TableFault → Type 0
IsRecordsFault kind body shapes p e =
    (q : ℕ) × IsRaised 2 p q × HasFaultInTurn (InEach (λ _. IsSizeRecordFault body) (λ shape. IsPart kind shape body) shapes) (Each (λ shape. IsPart kind shape body) shapes) (λ parts.
    HasFaultInTurn (IsAllMapsFault kind parts body) (AreAllMaps kind parts body) (λ _. IsSectionsFault body parts)) q e

-- all behind the flags
unfoldable pub IsPartsFault : TableKind → ℕ → List ℕ → ℕ → TableFault → Type 0
IsPartsFault kind m body =
    HasFaultInTurn (InEach (λ k. IsSetupFault m (side_count kind m) k body) (λ k. IsSetup m (side_count kind m) k body) (range_with_len 0 (part_count kind m)))
    (Each (λ k. IsSetup m (side_count kind m) k body) (range_with_len 0 (part_count kind m))) (IsRecordsFault kind body)

-- the name of a table file of this kind and material
pub record IsTableFileName (name : List ℕ) (kind : TableKind) (m : ℕ) : Type 0 where
  pub known : m < 145
  pub named : name ≡ file_name kind m

-- a length that a file can have, and the file without its last 16 bytes
pub record IsSized (file body : List ℕ) : Type 0 where
  pub long : 80 ≤ length file
  pub sized : length file % 64 ≡ 16
  pub body_is : body ≡ take (length file - 16) file

-- The first fault of a file of this name.
pub data IsFirstTableFault (name file : List ℕ) : TableFault → Type 0 where
  bad_name : ((kind : TableKind) (m : ℕ) → IsTableFileName name kind m → ⊥) → IsFirstTableFault name file BadName
  bad_size : (kind : TableKind) (m : ℕ) → IsTableFileName name kind m → ((body : List ℕ) → IsSized file body → ⊥) → IsFirstTableFault name file BadSize
  bad_magic : (kind : TableKind) (m : ℕ) (body : List ℕ) → IsTableFileName name kind m → IsSized file body → (IsNumber 4 body 0 (magic_of kind) 4 → ⊥) → IsFirstTableFault name file BadMagic
  bad_flags : (kind : TableKind) (m : ℕ) (body : List ℕ) (flags : ℕ) → IsTableFileName name kind m → IsSized file body → IsNumber 4 body 0 (magic_of kind) 4 → IsByte body 4 flags 5 → (flags_agree kind m flags ≡ true → ⊥)
      → IsFirstTableFault name file BadFlags
  in_parts : {e : TableFault} (kind : TableKind) (m : ℕ) (body : List ℕ) → IsHead name file kind m body → IsPartsFault kind m body 5 e → IsFirstTableFault name file e

-- Reading reports a fault exactly where it is the file's first one.
abbrev pub TellsFirstFault : Type 0
TellsFirstFault = (name file : List ℕ) (e : TableFault) → ((contents_at name file ≡ Err e) ↔ IsFirstTableFault name file e)
