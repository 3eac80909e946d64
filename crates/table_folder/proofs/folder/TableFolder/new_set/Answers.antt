use Rattle.std.proofs.Common.{ap, sym, subst}
use Rattle.std.proofs.lemmas.Result.{IfOk-weaker}
use Rattle.judge_core.specs.Tables.{Holding}
use Rattle.table_folder.specs.Folders.{AreOf}
use Rattle.table_folder.proofs.Adding.{none_of}
use Rattle.table_folder.proofs.folder.TableFolder.new_set.Goals as goal

pub returns-clause-opened : goal.returns-clause-opened
returns-clause-opened g c =
    IfOk-weaker c.new.result _ _ (λ set is. subst (AreOf (g.F.TableFiles.facts c.args.self.now.disk) c.args.self.now.folder) (sym (ap (λ (s : Holding). s.tables) is)) (none_of _ _)) c.new.ensures

pub returns-clause-empty : goal.returns-clause-empty
returns-clause-empty g c = IfOk-weaker c.new.result _ _ (λ set is. ap (λ (s : Holding). s.tables) is) c.new.ensures
