use Rattle.std.proofs.Common.{◌≡◌, length}
use Rattle.probe_api.specs.Batches.{AreTold}
use Rattle.probe_api.proofs.batch.answer_between.Given as goal

-- the boards so far are answered, and the set is as it was
abbrev pub invariant-loop-place : goal.invariant-loop-place
invariant-loop-place l = (length l.replies ≡ length l.fn.replies) × (l.set ≡ l.fn.set) × AreTold l.question l.fn.set.tables l.boards l.replies l.place
