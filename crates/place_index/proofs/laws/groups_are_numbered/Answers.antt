use Rattle.place_index.proofs.Counting.SetNumbers.{sets_are_numbered}
use Rattle.place_index.proofs.Indices.ThreeOrder.{threes_are_numbered}
use Rattle.place_index.proofs.Indices.KingOrder.{kings_are_numbered}
use Rattle.place_index.proofs.Indices.PawnOrder.{pawns_are_numbered}
use Rattle.place_index.proofs.Counting.FreeSets.{free_sets_are_numbered}
use Rattle.place_index.proofs.laws.groups_are_numbered.Goals as goal

pub returns : goal.returns
returns c = record {
  pawns = pawns_are_numbered;
  threes = threes_are_numbered;
  kings = kings_are_numbered;
  sets = sets_are_numbered;
  others = free_sets_are_numbered;
}
