-- The layout of a table file: a chain of small relations, each of which says what stands from one offset up to the next
-- (Syzygy table format). Offsets are counted from the beginning of the file; `body` is the file without its last 16 bytes.
use Rattle.std.specs.Prelude.{◌≡◌, ℕ, ◌+◌, ◌-◌, ◌*◌, ◌/◌, ◌%◌, ◌<◌, ◌≤◌, ◌↔◌, Bool, true, false, List, [], ◌∷◌, length, map, take, drop, slice_index, Ok, ◌==◌, if◌then◌else◌}
use Rattle.std.specs.List.{range_with_len}
use Rattle.byteorder.specs.Endian.{little_number}
use Rattle.pair_dict.specs.Codes.{Pairing}
use Rattle.pair_dict.specs.Beginnings.{SpellsDictionary}
use Rattle.place_index.specs.Material.{pieces_of}
use Rattle.place_index.specs.Shape.{Layout, layout, both_have_pawns, HasGoodPieces, HasGoodOrder}
use Rattle.table_file.specs.declared.kind.TableKind.{TableKind}
use Rattle.table_file.specs.declared.kind.TableKind.TheVariants.{Wdl, Dtz}
use Rattle.table_file.specs.declared.size_record.Coding.{Coding}
use Rattle.table_file.specs.declared.size_record.Coding.TheVariants.{Single, Pairs}
use Rattle.table_file.specs.declared.size_record.SizeRecord.{SizeRecord}
use Rattle.table_file.specs.declared.parts.Part.{Part}
use Rattle.table_file.specs.declared.parts.Section.{Section}
use Rattle.table_file.specs.declared.parts.Section.TheVariants.{Entries, Lengths, Blocks}
use Rattle.table_file.specs.Reading.{has_bit}
use Rattle.table_file.specs.Names.{file_name}
use Rattle.table_file.specs.Figures.{Figures, span, sparse_entry_count}
use Rattle.table_file.specs.SizeRecords.{single_value}
use Rattle.table_file.specs.Files.{side_count, side_of, indices, magic_of, flags_agree, nibble, section_size}
use Rattle.table_file.specs.Maps.{ValueMaps, no_maps}
use Rattle.table_file.specs.Sparse.{sizes_of, values_before, entry_block, entry_offset}
use Rattle.table_file.specs.Tables.{Contents, contents_at, part_count}

-- ---- bytes and numbers

pub record IsByte (body : List ℕ) (p b q : ℕ) : Type 0 where
  pub within : p + 1 ≤ length body
  pub is : b ≡ slice_index body p
  pub next : q ≡ p + 1

pub record AreBytes (n : ℕ) (body : List ℕ) (p : ℕ) (bytes : List ℕ) (q : ℕ) : Type 0 where
  pub within : p + n ≤ length body
  pub are : bytes ≡ take n (drop p body)
  pub next : q ≡ p + n

-- a number of n bytes, the low one first
pub record IsNumber (n : ℕ) (body : List ℕ) (p v q : ℕ) : Type 0 where
  pub within : p + n ≤ length body
  pub is : v ≡ little_number n (drop p body)
  pub next : q ≡ p + n

-- the next place that m divides
pub record IsRaised (m p q : ℕ) : Type 0 where
  pub ordered : p ≤ q
  pub near : q < p + m
  pub divides : q % m ≡ 0

-- one part after the other, each from where the one before ends
abbrev pub Each : {A B : Type 0} → (A → ℕ → B → ℕ → Type 0) → List A → ℕ → List B → ℕ → Type 0
Each R [] p [] q = q ≡ p
Each R [] p (b ∷ bs) q = ⊥
Each R (a ∷ others) p [] q = ⊥
Each R (a ∷ others) p (b ∷ bs) q = (next : ℕ) × R a p b next × Each R others next bs q

-- ---- orders and pieces

-- the second order byte, where both sides have pawns
pub record IsSecond (m : ℕ) (body : List ℕ) (p b q : ℕ) : Type 0 where
  pub pawns : both_have_pawns m ≡ true → IsByte body p b q
  pub others : both_have_pawns m ≡ false → (b ≡ 0) × (q ≡ p)

-- The shape of part k. The sides of a file have the same bytes, and after the last of them the next file begins.
pub record IsSetup (m sides k : ℕ) (body : List ℕ) (p : ℕ) (shape : Layout) (q : ℕ) : Type 0 where
  pub order : ℕ
  pub second : ℕ
  pub men : List ℕ
  pub at_second : ℕ
  pub at_men : ℕ
  pub at_end : ℕ
  pub order_is : IsByte body p order at_second
  pub second_is : IsSecond m body at_second second at_men
  pub men_are : AreBytes (length (pieces_of m)) body at_men men at_end
  pub shape_is : shape ≡ layout m (map (nibble (side_of (k % sides))) men) (nibble (side_of (k % sides)) order) (nibble (side_of (k % sides)) second) (k / sides)
  pub pieces : HasGoodPieces m (map (nibble (side_of (k % sides))) men)
  pub orders : HasGoodOrder shape
  pub next : q ≡ (if k % sides + 1 == sides then at_end else p)

-- ---- the lines of a size record

pub record IsExponent (least greatest : ℕ) (body : List ℕ) (p e q : ℕ) : Type 0 where
  pub byte : IsByte body p e q
  pub low : least ≤ e
  pub high : e ≤ greatest

pub record IsDictionary (body : List ℕ) (p : ℕ) (d : Pairing) (q : ℕ) : Type 0 where
  pub ordered : p ≤ q
  pub within : q ≤ length body
  pub spelled : SpellsDictionary (take (q - p) (drop p body)) d

pub record AreCodes (body : List ℕ) (p : ℕ) (c : Figures) (q : ℕ) : Type 0 where
  pub at_span : ℕ
  pub at_padding : ℕ
  pub at_blocks : ℕ
  pub at_dictionary : ℕ
  pub block : IsExponent 0 24 body p c.block_exponent at_span
  pub span : IsExponent 1 31 body at_span c.span_exponent at_padding
  pub padding : IsByte body at_padding c.padding at_blocks
  pub blocks : IsNumber 4 body at_blocks c.blocks at_dictionary
  pub dictionary : IsDictionary body at_dictionary c.dictionary q

-- The byte of a single value is ignored in a DTZ file.
pub record IsSingle (kind : TableKind) (body : List ℕ) (p v q : ℕ) : Type 0 where
  pub byte : ℕ
  pub byte_is : IsByte body p byte q
  pub is : v ≡ single_value kind byte

abbrev pub IsCoding : TableKind → ℕ → List ℕ → ℕ → Coding → ℕ → Type 0
IsCoding kind flags body p (Single v) q = (128 ≤ flags) × IsSingle kind body p v q
IsCoding kind flags body p (Pairs c) q = (flags < 128) × AreCodes body p c q

pub record IsSizeRecord (kind : TableKind) (body : List ℕ) (p : ℕ) (r : SizeRecord) (q : ℕ) : Type 0 where
  pub at_coding : ℕ
  pub flags : IsByte body p r.flags at_coding
  pub coding : IsCoding kind r.flags body at_coding r.coding q

pub record IsPart (kind : TableKind) (shape : Layout) (body : List ℕ) (p : ℕ) (part : Part) (q : ℕ) : Type 0 where
  pub shape_is : part.shape ≡ shape
  pub size_record : IsSizeRecord kind body p part.size_record q

-- ---- value maps

-- a length and that many entries, of two bytes each where they are wide
abbrev pub IsMap : Bool → List ℕ → ℕ → List ℕ → ℕ → Type 0
IsMap true body p bytes q = (n : ℕ) × (at : ℕ) × IsNumber 2 body p n at × AreBytes (2 * n) body at bytes q
IsMap false body p bytes q = (n : ℕ) × (at : ℕ) × IsByte body p n at × AreBytes n body at bytes q

pub record AreFour (wide : Bool) (body : List ℕ) (p : ℕ) (maps : ValueMaps) (q : ℕ) : Type 0 where
  pub at_loss : ℕ
  pub at_cursed : ℕ
  pub at_blessed : ℕ
  pub wide_is : maps.wide ≡ wide
  pub win : IsMap wide body p maps.win at_loss
  pub loss : IsMap wide body at_loss maps.loss at_cursed
  pub cursed : IsMap wide body at_cursed maps.cursed_win at_blessed
  pub blessed : IsMap wide body at_blessed maps.blessed_loss q

-- where four maps begin: wide ones at an even place
abbrev pub IsMapStart : Bool → ℕ → ℕ → Type 0
IsMapStart true p q = IsRaised 2 p q
IsMapStart false p q = q ≡ p

-- Bit 1 of the flags says that there are maps, bit 4 that they are wide.
pub record AreMaps (part : Part) (body : List ℕ) (p : ℕ) (maps : ValueMaps) (q : ℕ) : Type 0 where
  pub mapped : has_bit 2 part.size_record.flags ≡ true → (at : ℕ) × IsMapStart (has_bit 16 part.size_record.flags) p at × AreFour (has_bit 16 part.size_record.flags) body at maps q
  pub others : has_bit 2 part.size_record.flags ≡ false → (maps ≡ no_maps) × (q ≡ p)

-- the maps of all files of a DTZ table, up to an even place
abbrev pub AreAllMaps : TableKind → List Part → List ℕ → ℕ → List ValueMaps → ℕ → Type 0
AreAllMaps Wdl parts body p maps q = (maps ≡ []) × (q ≡ p)
AreAllMaps Dtz parts body p maps q = (at : ℕ) × Each (λ part. AreMaps part body) parts p maps at × IsRaised 2 at q

-- ---- sparse entries, block lengths, blocks

-- blocks begin at a multiple of 64
abbrev pub IsSectionStart : Section → ℕ → ℕ → Type 0
IsSectionStart Entries p q = q ≡ p
IsSectionStart Lengths p q = q ≡ p
IsSectionStart Blocks p q = IsRaised 64 p q

pub record IsSection (section : Section) (part : Part) (body : List ℕ) (p : ℕ) (bytes : List ℕ) (q : ℕ) : Type 0 where
  pub start : ℕ
  pub start_is : IsSectionStart section p start
  pub bytes_are : AreBytes (section_size section (indices part.shape) part.size_record.coding) body start bytes q

-- sparse entry k names a block, or the place behind the last one, and an offset: together the value in the middle of its span
pub record IsSparseEntry (sizes : List ℕ) (span : ℕ) (entries : List ℕ) (k : ℕ) : Type 0 where
  pub block : entry_block entries k ≤ length sizes
  pub value : values_before sizes (entry_block entries k) + entry_offset entries k ≡ k * span + span / 2

abbrev pub AreSparseEntries : ℕ → Coding → List ℕ → List ℕ → Type 0
AreSparseEntries size (Single v) entries lengths = Unit {0}
AreSparseEntries size (Pairs c) entries lengths = (k : ℕ) → k < sparse_entry_count size c → IsSparseEntry (sizes_of lengths) (span c) entries k

abbrev pub AllSparseEntries : List Part → List (List ℕ) → List (List ℕ) → Type 0
AllSparseEntries [] entries lengths = Unit {0}
AllSparseEntries (p ∷ parts) [] lengths = Unit {0}
AllSparseEntries (p ∷ parts) (e ∷ entries) [] = Unit {0}
AllSparseEntries (p ∷ parts) (e ∷ entries) (l ∷ lengths) = AreSparseEntries (indices p.shape) p.size_record.coding e l × AllSparseEntries parts entries lengths

-- ---- the whole file

pub record IsHead (name file : List ℕ) (kind : TableKind) (material : ℕ) (body : List ℕ) : Type 0 where
  pub known : material < 145
  pub named : name ≡ file_name kind material
  pub long : 80 ≤ length file
  pub sized : length file % 64 ≡ 16
  pub body_is : body ≡ take (length file - 16) file
  pub magic : IsNumber 4 body 0 (magic_of kind) 4
  pub flags : ℕ
  pub flags_are : IsByte body 4 flags 5
  pub flags_agree_with_name : flags_agree kind material flags ≡ true

pub record AreParts (body : List ℕ) (t : Contents) : Type 0 where
  pub shapes : List Layout
  pub at_padding : ℕ
  pub at_size_records : ℕ
  pub at_maps : ℕ
  pub at_entries : ℕ
  pub at_lengths : ℕ
  pub at_blocks : ℕ
  pub at_end : ℕ
  pub setups : Each (λ k. IsSetup t.material (side_count t.kind t.material) k body) (range_with_len 0 (part_count t.kind t.material)) 5 shapes at_padding
  pub padding : IsRaised 2 at_padding at_size_records
  pub size_records : Each (λ shape. IsPart t.kind shape body) shapes at_size_records t.parts at_maps
  pub maps : AreAllMaps t.kind t.parts body at_maps t.maps at_entries
  pub entries : Each (λ part. IsSection Entries part body) t.parts at_entries t.entries at_lengths
  pub lengths : Each (λ part. IsSection Lengths part body) t.parts at_lengths t.lengths at_blocks
  pub blocks : Each (λ part. IsSection Blocks part body) t.parts at_blocks t.blocks at_end
  pub sparse : AllSparseEntries t.parts t.entries t.lengths

-- The file of this name has these parts.
pub record IsLayout (name file : List ℕ) (t : Contents) : Type 0 where
  pub body : List ℕ
  pub head : IsHead name file t.kind t.material body
  pub parts : AreParts body t

-- Reading gives the parts of a file exactly where the file has them.
abbrev pub ReadsWhatIsLaidOut : Type 0
ReadsWhatIsLaidOut = (name file : List ℕ) (t : Contents) → ((contents_at name file ≡ Ok t) ↔ IsLayout name file t)
