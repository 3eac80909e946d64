use Rattle.std.proofs.Common.{ℕ, List, take}
use Rattle.std.specs.Prelude.{Ok}
use Rattle.game_server.specs.Printing.{KnowsLines}
use Rattle.game_server.specs.Inside.Running.{WritesAll, held_lines}
use Rattle.game_server.proofs.printing.print_lines.Given as goal

abbrev pub invariant-loop-one : goal.invariant-loop-one
invariant-loop-one g l = record {
  made : (before : List (List ℕ)) → KnowsLines l.fn.lines before → WritesAll (g.S.System.outside l.system) before l.fn.lines l.lines (held_lines l.are_sent (take l.one-index l.held)) l.fn.timeline l.timeline (Ok tt);
}
