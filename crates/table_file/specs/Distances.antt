-- Distances of a DTZ table (Syzygy table format, flags of DTZ tables and value maps).
use Rattle.std.specs.Prelude.{◌≡◌, ℕ, ◌*◌, ◌%◌, Bool, true, false, List, slice_get, slice_index_or, Option, Some, None, ◌==◌, ◌||◌, not, if◌then◌else◌}
use Rattle.board_core.specs.declared.piece.Side.TheVariants.{White, Black}
use Rattle.pair_dict.specs.Reading.{words}
use Rattle.place_index.specs.Placed.{side_number}
use Rattle.table_file.specs.declared.outcome.Outcome.{Outcome}
use Rattle.table_file.specs.declared.outcome.Outcome.TheVariants.{Win, CursedWin, BlessedLoss, Loss}
use Rattle.table_file.specs.Reading.{has_bit}
use Rattle.table_file.specs.Files.{is_symmetric}
use Rattle.table_file.specs.Maps.{ValueMaps, no_maps}
use Rattle.table_file.specs.Tables.{Contents, PartAt, part_for, part_place, flags_of}
use Rattle.table_file.specs.Expansion.{expansion, entry_at}

abbrev pub flags_or_none : Option ℕ → ℕ
flags_or_none None = 0
flags_or_none (Some flags) = flags

-- The flags of a file of the leading pawn, which has one side, and its maps.
abbrev pub file_flags : PartAt → ℕ
file_flags p = flags_or_none (flags_of (part_for p.table White p.file))

abbrev pub file_maps : PartAt → ValueMaps
file_maps p = slice_index_or p.table.maps (part_place (part_for p.table White p.file)) no_maps

-- Whether the values of a file are for this side to move: bit 0 of the flags is the side, or both sides have the same men.
unfoldable pub stores : PartAt → Bool
stores p = file_flags p % 2 == side_number p.side || is_symmetric p.table.material

-- A file stores one side at least.
abbrev pub ASideIsStored : Type 0
ASideIsStored =
    (t : Contents) (file : ℕ)
    → (stores (part_for t White file) ≡ false → stores (part_for t Black file) ≡ true) × (stores (part_for t Black file) ≡ false → stores (part_for t White file) ≡ true)

-- the bytes of the map of an outcome
abbrev pub map_of : ValueMaps → Outcome → List ℕ
map_of maps Win = maps.win
map_of maps CursedWin = maps.cursed_win
map_of maps BlessedLoss = maps.blessed_loss
map_of maps Loss = maps.loss

-- the entries of a map: its bytes, or where it is wide numbers of two bytes, the low one first
abbrev pub map_entries : Bool → List ℕ → List ℕ
map_entries false bytes = bytes
map_entries true bytes = words bytes

-- None past the end of the map
abbrev pub map_entry : ValueMaps → Outcome → ℕ → Option ℕ
map_entry maps outcome place = slice_get (map_entries maps.wide (map_of maps outcome)) place

-- Where bit 1 of the flags is set, the stored value is a place in the map of the outcome.
abbrev pub mapped_value : ℕ → ValueMaps → Outcome → ℕ → Option ℕ
mapped_value flags maps outcome value = if has_bit 2 flags then map_entry maps outcome value else Some value

-- Whether the value counts moves of one side, and not plies. It does where the fifty-move rule makes the game a draw, for a
-- win where bit 2 of the flags is clear, and for a loss where bit 3 is.
abbrev pub counts_moves : ℕ → Outcome → Bool
counts_moves flags Win = not (has_bit 4 flags)
counts_moves flags CursedWin = true
counts_moves flags BlessedLoss = true
counts_moves flags Loss = not (has_bit 8 flags)

abbrev pub value_in_plies : Bool → ℕ → ℕ
value_in_plies moves value = if moves then 2 * value else value

abbrev pub distance_told : ℕ → Outcome → Option ℕ → Option ℕ
distance_told flags outcome None = None
distance_told flags outcome (Some value) = Some (value_in_plies (counts_moves flags outcome) value)

abbrev pub mapped : ℕ → ValueMaps → Outcome → Option ℕ → Option ℕ
mapped flags maps outcome None = None
mapped flags maps outcome (Some value) = mapped_value flags maps outcome value

-- The plies that the table gives at an index of a part, for a game of that outcome, if the value is there. They are the
-- entry of the expanded table, through the map, and doubled where it counts moves.
unfoldable pub distance : PartAt → ℕ → Outcome → Option ℕ
distance p index outcome = distance_told (file_flags p) outcome (mapped (file_flags p) (file_maps p) outcome (entry_at (expansion p) index))
