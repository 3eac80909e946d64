use Rattle.std.proofs.Common.{◌≡◌, ◌≤◌, ◌-◌, length}
use Rattle.probe_api.specs.Batches.{AreTold}
use Rattle.probe_api.specs.Inside.{question_of}
use Rattle.probe_api.proofs.batch.wdl_of_each.Given as goal

-- the boards before this place are answered
abbrev pub invariant-boards : goal.invariant-boards
invariant-boards l = (length l.replies ≡ length l.fn.replies) × (l.set ≡ l.fn.set) × (l.from ≤ length l.boards) × AreTold (question_of l.fn.search) l.fn.set.tables l.boards l.replies l.from

abbrev pub decreases-boards : goal.decreases-boards
decreases-boards l = length l.boards - l.from
