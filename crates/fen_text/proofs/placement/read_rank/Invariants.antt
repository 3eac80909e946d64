use Rattle.std.proofs.Common.{◌≡◌, ◌+◌, ◌*◌, ◌++◌, List, Option, false, take, drop}
use Rattle.std.specs.List.{flat_map}
use Rattle.board_core.specs.declared.piece.Piece.{Piece}
use Rattle.fen_text.specs.Placement.{cells_of}
use Rattle.fen_text.specs.Inside.Scan.{fills, IsFilled}
use Rattle.fen_text.proofs.placement.read_rank.Given as goal

abbrev pub invariant-loop-byte : goal.invariant-loop-byte
invariant-loop-byte l = record {
  rest : fills l.at.after_run l.at.left (drop l.byte-index l.text) ≡ fills false 8 l.text;
  place : l.at.square + l.at.left ≡ 8 * l.rank + 8;
  puts : (before tail : List (Option Piece)) → IsFilled l.initial.men before (8 * l.rank) 8 tail
      → IsFilled l.men (before ++ flat_map cells_of (take l.byte-index l.text)) l.at.square l.at.left tail;
}
