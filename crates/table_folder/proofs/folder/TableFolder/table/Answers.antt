use Rattle.std.proofs.Common.{◌∙◌, subst, sym}
use Rattle.std.specs.List.{Contains}
use Rattle.table_folder.specs.Reads.{LooksAt}
use Rattle.table_folder.proofs.Reading.{looks_nowhere, says_so}
use Rattle.table_folder.proofs.folder.TableFolder.table.Goals as goal

pub returns-in-Some-clause-says : goal.returns-in-Some-clause-says
returns-in-Some-clause-says g c =
    let made = c.table_of.ensures in
    let named = c.in-Some.ensures.some.0 ∙ c.as_str.ensures.value ∙ c.file_name.ensures in
    says_so _ _ _ c.table_of.result made.0 (subst (λ n. LooksAt (g.F.TableFiles.facts c.args.self.now.disk) c.args.self.now.folder n c.table_of.result made.0) named made.2)

pub returns-in-None-clause-made : goal.returns-in-None-clause-made
returns-in-None-clause-made g c = looks_nowhere _ _ _ _ (λ h. c.in-None.ensures.none (subst (Contains c.args.self.now.folder.names) (sym (c.as_str.ensures.value ∙ c.file_name.ensures)) h))
