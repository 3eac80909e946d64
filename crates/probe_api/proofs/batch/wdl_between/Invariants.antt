use Rattle.std.proofs.Common.{◌≡◌, ◌+◌, length}
use Rattle.probe_api.specs.Batches.{AreTold}
use Rattle.probe_api.specs.Inside.{question_of}
use Rattle.probe_api.proofs.batch.wdl_between.Given as goal

-- the boards so far are answered
abbrev pub invariant-loop-i : goal.invariant-loop-i
invariant-loop-i l = (length l.replies ≡ length l.fn.replies) × (l.set ≡ l.fn.set) × AreTold (question_of l.fn.search) l.fn.set.tables l.boards l.replies (l.part.start + l.i)
