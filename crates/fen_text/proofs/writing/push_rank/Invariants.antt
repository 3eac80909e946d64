use Rattle.std.proofs.Common.{◌≡◌, ◌≤◌, ◌+◌, ◌++◌, drop}
use Rattle.arrayvec.specs.ArrayString.{array_string_len}
use Rattle.fen_text.specs.Placement.{rank_men}
use Rattle.fen_text.specs.Written.{rank_text}
use Rattle.fen_text.proofs.writing.push_rank.Given as goal

abbrev pub invariant-loop-file : goal.invariant-loop-file
invariant-loop-file l = record {
  text : l.out.bytes ++ rank_text l.run (drop l.file (rank_men l.men l.rank)) ≡ l.initial.out.bytes ++ rank_text 0 (rank_men l.men l.rank);
  len : array_string_len l.out + l.run ≤ array_string_len l.initial.out + l.file;
  run : l.run ≤ l.file;
}
