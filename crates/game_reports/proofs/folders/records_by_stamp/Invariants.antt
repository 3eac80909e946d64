use Rattle.std.proofs.Common.{◌≡◌, ℕ, List}
use Rattle.system_io.specs.Records.{records_of}
use Rattle.arbiter_server.specs.StoreGames.{bytes_at}
use Rattle.game_status.specs.StoredDisks.{bytes_in}
use Rattle.game_reports.proofs.folders.records_by_stamp.Given as goal

abbrev pub invariant-loop-entry : goal.invariant-loop-entry
invariant-loop-entry l = record {
  can : goal.iterator-loop-entry.can_next l.entry-iterator;
  finite : goal.iterator-loop-entry.is_finite l.entry-iterator;
  kept : (stamp : List ℕ) → bytes_in l.records stamp ≡ bytes_at (records_of l.yielded) stamp;
}
