use Rattle.std.proofs.Common.{◌∙◌, ap, subst}
use Rattle.std.specs.Prelude.{map}
use Rattle.clap.specs.Words.{App, first_value, found_of, is_simple_and_free}
use Rattle.command_line.specs.Rules.{argument_value}
use Rattle.command_line.specs.Tasks.{TakesWords}
use Rattle.command_line.proofs.Clap.{is_simple}
use Rattle.command_line.proofs.MisuseLaws.{value_so}
use Rattle.command_line.proofs.commands.task_by.Goals as goal

pub matches_at-requires : goal.matches_at-requires
matches_at-requires c = ap is_simple_and_free c.in_ok-command.ensures ∙ is_simple c.args.name

pub returns-in-Ok-clause-misuse : goal.returns-in-Ok-clause-misuse
returns-in-Ok-clause-misuse c = λ misuse is.
    let words = map (λ w. w.now) c.args.words.now in
    value_so words c.args.name (first_value (found_of c.in-Ok.matches)) c.in-Err-task_of.fault misuse c.requires
    (subst (λ (app : App). TakesWords app words) c.in_ok-command.ensures c.in-Ok.ensures.taken)
    (λ id. c.in-Ok.ensures.values id ∙ ap (λ (app : App). argument_value app words id) c.in_ok-command.ensures)
    c.in-Err-task_of.ensures is
