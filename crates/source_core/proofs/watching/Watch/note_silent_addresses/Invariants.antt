use Rattle.source_core.specs.Heard.{OnlyNotes}
use Rattle.timeline.specs.Outsides.{AddsSome}
use Rattle.source_core.proofs.watching.Watch.note_silent_addresses.Given as goal

abbrev pub invariant-loop-word : goal.invariant-loop-word
invariant-loop-word g l = AddsSome (g.S.System.outside l.system) l.fn.timeline l.timeline OnlyNotes
