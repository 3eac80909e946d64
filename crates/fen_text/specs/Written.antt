-- The one text of a position, as a computable definition.
use Rattle.std.specs.Prelude.{◌+◌, ◌++◌, ℕ, zero, suc, List, [], ◌∷◌, map, Option, Some, None}
use Rattle.std.specs.Fmt.{decimal}
use Rattle.std.specs.List.{join_with_byte}
use Rattle.board_core.specs.declared.piece.Piece.{Piece}
use Rattle.board_core.specs.declared.parts.Parts.{Parts}
use Rattle.fen_text.specs.Placement.{letter_of, ranks_down}
use Rattle.fen_text.specs.Fields.{side_text, castling_text, en_passant_text}

-- the digit of a run of empty squares, where there is one
abbrev pub run_text : ℕ → List ℕ
run_text zero = []
run_text (suc n) = (49 + n) ∷ []

-- the text of the squares of a rank that follow a run of empty ones
unfoldable pub rank_text : ℕ → List (Option Piece) → List ℕ
rank_text run [] = run_text run
rank_text run (None ∷ cells) = rank_text (run + 1) cells
rank_text run (Some man ∷ cells) = run_text run ++ (letter_of man ∷ rank_text 0 cells)

-- the ranks from the eighth down to the first, with a slash between
unfoldable pub placement_text : List (Option Piece) → List ℕ
placement_text men = join_with_byte 47 (map (rank_text 0) (ranks_down men 8))

-- the six fields, with a space between
unfoldable pub fen_of : Parts → List ℕ
fen_of p =
    join_with_byte 32 (placement_text p.men ∷ side_text p.side ∷ castling_text p.rights ∷ en_passant_text p.en_passant ∷ decimal p.halfmove ∷ decimal p.fullmove ∷ [])
