-- How a position is looked up, as functions: its material, and its men as the table sees them (Syzygy tables).
use Rattle.std.specs.Prelude.{ℕ, Bool, not, ◌||◌, List, Option, find, if◌then◌else◌}
use Rattle.std.specs.List.{range_with_len}
use Rattle.board_core.specs.declared.parts.Parts.{Parts}
use Rattle.board_core.specs.declared.piece.Side.{Side}
use Rattle.board_core.specs.Side.{other}
use Rattle.place_index.specs.declared.man.Man.{Man}
use Rattle.place_index.specs.Men.{codes_of, exchanged}
use Rattle.place_index.specs.Turning.{lead_file}
use Rattle.place_index.specs.Placed.{Placement, men_on, is_black}
use Rattle.table_file.specs.Files.{is_symmetric}
use Rattle.table_file.specs.Shapes.{is_arrangement}

-- the men are those of the table with this key, in its colours
abbrev pub is_named : ℕ → List Man → Bool
is_named key men = is_arrangement key (codes_of men)

-- the men are those of the table with this key, in its colours or with colours exchanged
unfoldable pub is_material : List Man → ℕ → Bool
is_material men key = is_named key men || is_named key (exchanged men)

-- the key of the table with the men of a position: none for bare kings, and none for more than five men
unfoldable pub material_of : Parts → Option ℕ
material_of p = find (is_material (men_on p.men)) (range_with_len 0 145)

-- colours are exchanged where white's men are the name's second side, and for symmetric material with black to move
abbrev pub is_exchanged : ℕ → Parts → Bool
is_exchanged key p = if is_symmetric key then is_black p.side else not (is_named key (men_on p.men))

abbrev pub placement : ℕ → List Man → Side → Placement
placement key men side = record { material = key; men = men; side = side; file = lead_file key men }

-- What is looked up: the men, the side to move and the file of the leading pawn, after the exchange of colours.
unfoldable pub placed_of : ℕ → Parts → Placement
placed_of key p =
    if is_exchanged key p
    then placement key (exchanged (men_on p.men)) (other p.side)
    else placement key (men_on p.men) p.side
