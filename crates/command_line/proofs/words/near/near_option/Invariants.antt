use Rattle.std.specs.Prelude.{IfSome}
use Rattle.command_line.specs.Uses.{IsOptionOf}
use Rattle.command_line.proofs.words.near.near_option.Given as goal

-- what was found is an option or a flag of the command
abbrev pub invariant-loop-value : goal.invariant-loop-value
invariant-loop-value l = IfSome l.best (λ near. IsOptionOf l.fn.name near.word.now)
