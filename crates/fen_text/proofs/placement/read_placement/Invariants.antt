use Rattle.std.proofs.Common.{◌≡◌, ◌-◌, drop}
use Rattle.fen_text.specs.Cuts.{cut_at}
use Rattle.fen_text.proofs.RanksLaws.{ReadsRanks}
use Rattle.fen_text.proofs.placement.read_placement.Given as goal

abbrev pub invariant-loop-above : goal.invariant-loop-above
invariant-loop-above l = record {
  read : ReadsRanks (cut_at 47 l.text) l.above (8 - l.above) l.men;
  left : drop l.above (cut_at 47 l.text) ≡ cut_at 47 l.rest;
}
