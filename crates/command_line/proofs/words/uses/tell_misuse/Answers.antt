use Rattle.std.proofs.Common.{◌++◌, ◌∙◌, [], ap, append-nil, codes, inl, inr, refl, sym}
use Rattle.std.specs.Prelude.{None}
use Rattle.command_line.specs.Uses.{behind_line, shown_line}
use Rattle.command_line.specs.Inside.Putting.{hinted}
use Rattle.command_line.specs.declared.words.usage.Misuse.TheVariants as misuse
use Rattle.command_line.proofs.NearLaws.{command_told, option_told}
use Rattle.command_line.proofs.PutLaws.{tells_so}
use Rattle.command_line.proofs.words.uses.tell_misuse.Goals as goal

pub returns-in-NoCommand : goal.returns-in-NoCommand
returns-in-NoCommand g c = rw c.in-NoCommand.is (tells_so (g.S.System.outside c.args.system.now) _ _ misuse.NoCommand _ (c.tell_no_command.ensures.0, refl) c.tell_no_command.ensures.1)

pub returns-in-Help : goal.returns-in-Help
returns-in-Help g c = rw c.in-Help.is (tells_so (g.S.System.outside c.args.system.now) _ _ misuse.Help c.tell_list.ensures.0 tt c.tell_list.ensures.1)

pub returns-in-HelpOf : goal.returns-in-HelpOf
returns-in-HelpOf g c = rw c.in-HelpOf.is (tells_so (g.S.System.outside c.args.system.now) _ _ (misuse.HelpOf c.in-HelpOf.name) _ (c.tell_help_of.ensures.0, refl) c.tell_help_of.ensures.1)

pub returns-in-NoText : goal.returns-in-NoText
returns-in-NoText g c =
    let word = c.in-NoText.word in
    let told = rw c.all_of_help-behind.ensures at c.tell_line.ensures in
    rw c.in-NoText.is (tells_so (g.S.System.outside c.args.system.now) _ _ (misuse.NoText word) _ (None, tt, ap (λ l. shown_line l ++ behind_line None None) (append-nil (codes "no text " ++ word.now))) told)

pub returns-in-UnknownCommand : goal.returns-in-UnknownCommand
returns-in-UnknownCommand g c =
    let word = c.in-UnknownCommand.word in
    let near = hinted c.command_hint.result in
    let told = rw (c.as_bytes.ensures.value, c.all_of_help-behind-in-UnknownCommand.ensures) at c.tell_line-in-UnknownCommand.ensures in
    rw c.in-UnknownCommand.is (tells_so (g.S.System.outside c.args.system.now) _ _ (misuse.UnknownCommand word) _ (near, command_told word c.command_hint.result c.command_hint.ensures, ap (λ l. shown_line l ++ behind_line near None) (append-nil (codes "no command " ++ word.now))) told)

pub returns-in-DisplayHelp : goal.returns-in-DisplayHelp
returns-in-DisplayHelp g c =
    rw c.in-Refused.is (tells_so (g.S.System.outside c.args.system.now) _ _ (misuse.Refused c.in-Refused.name c.in-Refused.error) _ (inl (sym c.kind.ensures ∙ c.in-DisplayHelp.is, (c.tell_help_of-in-DisplayHelp.ensures.0, refl))) c.tell_help_of-in-DisplayHelp.ensures.1)

pub returns-in_default : goal.returns-in_default
returns-in_default g c =
    let text = c.tell_refused.ensures.0 in
    let line = c.tell_refused.ensures.1 in
    rw c.in-Refused.is (tells_so (g.S.System.outside c.args.system.now) _ _ (misuse.Refused c.in-Refused.name c.in-Refused.error) text (inr (λ is. c.in_default.not-DisplayHelp (c.kind.ensures ∙ is), (line.0, (hinted line.1.0, option_told c.in-Refused.name c.in-Refused.error line.1.0 line.1.1, line.1.2)))) c.tell_refused.ensures.2)

pub returns-in-Value : goal.returns-in-Value
returns-in-Value g c = rw c.in-Value.is (tells_so (g.S.System.outside c.args.system.now) _ _ (misuse.Value c.in-Value.name c.in-Value.fault) _ (None, tt, refl) c.tell_fault.ensures)
