use Rattle.std.specs.Prelude.{IfSome}
use Rattle.command_line.specs.Inside.Putting.{IsNearCommand}
use Rattle.command_line.proofs.words.near.near_command.Given as goal

-- what was found is a near command
abbrev pub invariant-loop-name : goal.invariant-loop-name
invariant-loop-name l = IfSome l.best (λ near. IsNearCommand l.fn.given near.word.now)
