-- Value maps of a DTZ file (Syzygy table format, value maps).
use Rattle.std.specs.Prelude.{ℕ, ◌*◌, Bool, false, List, [], Result, Ok, if◌then◌else◌}
use Rattle.table_file.specs.declared.fault.TableFault.{TableFault}
use Rattle.table_file.specs.declared.kind.TableKind.{TableKind}
use Rattle.table_file.specs.declared.kind.TableKind.TheVariants.{Wdl, Dtz}
use Rattle.table_file.specs.declared.parts.Part.{Part}
use Rattle.table_file.specs.Reading.{◌>>=◌, each_at, byte_at, word_at, taken_at, risen, has_bit}

-- the bytes of the four maps of a file, and whether an entry has two
pub record ValueMaps : Type 0 where
  pub wide : Bool
  pub win : List ℕ
  pub loss : List ℕ
  pub cursed_win : List ℕ
  pub blessed_loss : List ℕ

-- the maps of a file without any
abbrev pub no_maps : ValueMaps
no_maps = record { wide = false; win = []; loss = []; cursed_win = []; blessed_loss = [] }

-- a length and that many entries
unfoldable pub map_at : Bool → List ℕ → Result (List ℕ × List ℕ) TableFault
map_at wide bytes =
    if wide
    then (do
      n ← word_at bytes
      taken_at (2 * n.0) n.1)
    else (do
      n ← byte_at bytes
      taken_at n.0 n.1)

unfoldable pub four_at : Bool → List ℕ → Result (ValueMaps × List ℕ) TableFault
four_at wide bytes = do
  win ← map_at wide bytes
  loss ← map_at wide win.1
  cursed ← map_at wide loss.1
  blessed ← map_at wide cursed.1
  Ok (record { wide = wide; win = win.0; loss = loss.0; cursed_win = cursed.0; blessed_loss = blessed.0 }, blessed.1)

-- Where bit 1 of the flags is set there are four maps. Bit 4 says that they are wide, and then they begin at an even place.
unfoldable pub maps_at : Part → List ℕ → Result (ValueMaps × List ℕ) TableFault
maps_at part bytes =
    if has_bit 2 part.size_record.flags
    then four_at (has_bit 16 part.size_record.flags) (if has_bit 16 part.size_record.flags then risen 2 bytes else bytes)
    else Ok (no_maps, bytes)

-- The maps of all files, up to an even place. A WDL file has none.
unfoldable pub all_maps_at : TableKind → List Part → List ℕ → Result (List ValueMaps × List ℕ) TableFault
all_maps_at Wdl parts bytes = Ok ([], bytes)
all_maps_at Dtz parts bytes = do
  maps ← each_at maps_at parts bytes
  Ok (maps.0, risen 2 maps.1)
