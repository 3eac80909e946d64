use Rattle.std.proofs.Common.{◌∙◌, ap, sym}
use Rattle.std.specs.Prelude.{Some}
use Rattle.clap.specs.Words.{Rule, rule_of}
use Rattle.clap.specs.declared.builder.action.ArgAction.TheVariants.{SetTrue}
use Rattle.clap.specs.declared.builder.arg.Arg.{Arg}
use Rattle.command_line.specs.Rules.{rule_of_form}
use Rattle.command_line.specs.declared.commands.Form.{Form}
use Rattle.command_line.proofs.commands.arg_of.Goals as goal

pub returns-in-Word-clause-rule : goal.returns-in-Word-clause-rule
returns-in-Word-clause-rule c = c.new-arg.ensures.rule ∙ ap (λ (form : Form). rule_of_form form c.args.value.now.name.now) (sym c.in-Word.is)

pub returns-in-Word-clause-own : goal.returns-in-Word-clause-own
returns-in-Word-clause-own c = c.new-arg.ensures.optional.1

pub returns-in-Option-clause-rule : goal.returns-in-Option-clause-rule
returns-in-Option-clause-rule c =
    ap rule_of c.long.ensures
    ∙ ap (λ (r : Rule). record r { long = Some c.args.value.now.name.now }) c.new-arg.ensures.rule
    ∙ ap (λ (form : Form). rule_of_form form c.args.value.now.name.now) (sym c.in-Option.is)

pub returns-in-Option-clause-own : goal.returns-in-Option-clause-own
returns-in-Option-clause-own c = ap (λ (a : Arg). a.global) c.long.ensures ∙ c.new-arg.ensures.optional.1

pub returns-in-Flag-clause-rule : goal.returns-in-Flag-clause-rule
returns-in-Flag-clause-rule c =
    ap rule_of c.action.ensures
    ∙ ap (λ (a : Arg). record (rule_of a) { action = Some SetTrue }) c.long-in-Flag.ensures
    ∙ ap (λ (r : Rule). record r { long = Some c.args.value.now.name.now; action = Some SetTrue }) c.new-arg.ensures.rule
    ∙ ap (λ (form : Form). rule_of_form form c.args.value.now.name.now) (sym c.in-Flag.is)

pub returns-in-Flag-clause-own : goal.returns-in-Flag-clause-own
returns-in-Flag-clause-own c =
    ap (λ (a : Arg). a.global) c.action.ensures ∙ ap (λ (a : Arg). a.global) c.long-in-Flag.ensures
    ∙ c.new-arg.ensures.optional.1
