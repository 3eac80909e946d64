use Rattle.std.proofs.Common.{◌≡◌, map, drop}
use Rattle.clap.specs.Words.{app_of}
use Rattle.command_line.specs.Tasks.{app_for}
use Rattle.command_line.specs.Rules.{rule_of_value, with_rules}
use Rattle.command_line.proofs.commands.command_of.Given as goal

-- the values that are left make it the whole command
abbrev pub invariant-loop-value : goal.invariant-loop-value
invariant-loop-value l = with_rules (app_of l.command) (map rule_of_value (drop l.value-index l.value-items)) ≡ app_for l.fn.name
