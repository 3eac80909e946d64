use Rattle.std.proofs.Common.{ℕ, List, ◌^◌, ◌<◌, ◌≤◌}
use Rattle.pair_dict.specs.Codes.{Pairing}
use Rattle.pair_dict.specs.Marks.{AreMarks}
use Rattle.pair_dict.specs.Inside.Runs.{IsBefore}
use Rattle.pair_dict.proofs.bookmarks.Bookmarks.before.Given as goal

abbrev pub invariant-loop-i : goal.invariant-loop-i
invariant-loop-i l =
    record {
      is : (d : Pairing) (block : List ℕ) → AreMarks d block l.self → IsBefore d block l.offset l.place;
      near : l.place.at < 2 ^ 32;
      left : l.place.left ≤ l.offset;
    }
