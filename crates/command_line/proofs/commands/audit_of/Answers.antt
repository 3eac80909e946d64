use Rattle.std.proofs.Common.{ap, sym, ◌∙◌}
use Rattle.std.specs.Prelude.{option_map}
use Rattle.command_line.proofs.AuditGameLaws.{has_some}
use Rattle.command_line.proofs.commands.audit_of.Goals as goal

pub audit_of_folders-requires : goal.audit_of_folders-requires
audit_of_folders-requires c = λ none. has_some _ _ (sym (ap (option_map (λ s. s.now)) c.in-Some.is) ∙ c.get_str.ensures) none.0

pub audit_of_folders-requires-in-Some-get_str : goal.audit_of_folders-requires-in-Some-get_str
audit_of_folders-requires-in-Some-get_str c = λ none. has_some _ _ (sym (ap (option_map (λ s. s.now)) c.in-Some-get_str.is) ∙ c.get_str-in-None.ensures) none.1

pub audit_of_files-requires : goal.audit_of_files-requires
audit_of_files-requires c = (sym c.get_str.ensures ∙ ap (option_map (λ s. s.now)) c.in-None.is, sym c.get_str-in-None.ensures ∙ ap (option_map (λ s. s.now)) c.in-None-get_str.is)
