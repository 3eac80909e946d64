-- The size record of a file and a side (Syzygy table format, size record).
use Rattle.std.specs.Prelude.{ℕ, List, Result, Ok, nat_le, if◌then◌else◌}
use Rattle.table_file.specs.declared.fault.TableFault.{TableFault}
use Rattle.table_file.specs.declared.kind.TableKind.{TableKind}
use Rattle.table_file.specs.declared.kind.TableKind.TheVariants.{Wdl, Dtz}
use Rattle.table_file.specs.declared.size_record.Coding.{Coding}
use Rattle.table_file.specs.declared.size_record.Coding.TheVariants.{Single, Pairs}
use Rattle.table_file.specs.declared.size_record.SizeRecord.{SizeRecord}
use Rattle.table_file.specs.Figures.{Figures}
use Rattle.table_file.specs.Reading.{◌>>=◌, byte_at, four_bytes_at, exponent_at}
use Rattle.table_file.specs.Dictionaries.{pairing_at}

-- exponents of the block size and of the span, padding entries, blocks, dictionary
unfoldable pub codes_at : List ℕ → Result (Figures × List ℕ) TableFault
codes_at bytes = do
  block ← exponent_at 0 24 bytes
  span ← exponent_at 1 31 block.1
  padding ← byte_at span.1
  blocks ← four_bytes_at padding.1
  dictionary ← pairing_at blocks.1
  Ok (record { block_exponent = block.0; span_exponent = span.0; padding = padding.0; blocks = blocks.0; dictionary = dictionary.0 }, dictionary.1)

-- in a DTZ file the byte of a single value is ignored, and the value is 0
abbrev pub single_value : TableKind → ℕ → ℕ
single_value Wdl b = b
single_value Dtz b = 0

unfoldable pub single_at : TableKind → List ℕ → Result (ℕ × List ℕ) TableFault
single_at kind bytes = do
  value ← byte_at bytes
  Ok (single_value kind value.0, value.1)

-- one value for all where bit 7 is set, else codes
unfoldable pub coding_at : TableKind → ℕ → List ℕ → Result (Coding × List ℕ) TableFault
coding_at kind flags bytes =
    if nat_le 128 flags
    then (do
      value ← single_at kind bytes
      Ok (Single value.0, value.1))
    else (do
      codes ← codes_at bytes
      Ok (Pairs codes.0, codes.1))

unfoldable pub size_record_at : TableKind → List ℕ → Result (SizeRecord × List ℕ) TableFault
size_record_at kind bytes = do
  flags ← byte_at bytes
  coding ← coding_at kind flags.0 flags.1
  Ok (record { flags = flags.0; coding = coding.0 }, coding.1)
