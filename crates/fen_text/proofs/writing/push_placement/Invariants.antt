use Rattle.std.proofs.Common.{◌≡◌, ◌≤◌, ◌*◌, ◌-◌, ◌++◌}
use Rattle.arrayvec.specs.ArrayString.{array_string_len}
use Rattle.fen_text.specs.Written.{placement_text}
use Rattle.fen_text.proofs.PlacementLaws.{left_text}
use Rattle.fen_text.proofs.writing.push_placement.Given as goal

abbrev pub invariant-loop-above : goal.invariant-loop-above
invariant-loop-above l = record {
  text : l.out.bytes ++ left_text l.men (8 - l.above) ≡ l.initial.out.bytes ++ placement_text l.men;
  len : array_string_len l.out ≤ 9 * l.above;
}
