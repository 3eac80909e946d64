use Rattle.std.proofs.Common.{None, Some, ap, refl}
use Rattle.std.specs.Prelude.{Ok}
use Rattle.judge_core.specs.Tables.{Holding}
use Rattle.table_commands.proofs.FollowLaws.{begun_in, later_in, missed_err, missed_so, missed_till}
use Rattle.table_commands.proofs.judging.begin.Goals as goal

pub returns-in-Ok-clause-begun : goal.returns-in-Ok-clause-begun
returns-in-Ok-clause-begun g c =
    let settled = rw c.in_default.is at c.in_ok-refusal.ensures.settled in
    begun_in (g.F.TableFiles.facts c.args.folder.now.disk) c.settled_games_stay.ensures c.args.folder.now.folder c.settle_one.new.set.tables c.begin.new.self.tables c.args.start.now c.in-Ok.standing (ap (λ (h : Holding). h.tables) c.in-Ok.ensures.unchanged) c.settle_one.ensures.opened settled c.in-Ok.ensures.at

pub returns-in_err-refusal-clause-later : goal.returns-in_err-refusal-clause-later
returns-in_err-refusal-clause-later g c = later_in _ _ c.args.set.now.tables c.settle_one.new.set.tables c.settle_one.new.set.tables refl c.settle_one.ensures.opened c.settle_one.ensures.kept

pub returns-in-Err-clause-later : goal.returns-in-Err-clause-later
returns-in-Err-clause-later g c = later_in _ _ c.args.set.now.tables c.settle_one.new.set.tables c.settle_one.new.set.tables refl c.settle_one.ensures.opened c.settle_one.ensures.kept

pub returns-in-Ok-clause-later : goal.returns-in-Ok-clause-later
returns-in-Ok-clause-later g c = later_in _ _ c.args.set.now.tables c.settle_one.new.set.tables c.begin.new.self.tables (ap (λ (h : Holding). h.tables) c.in-Ok.ensures.unchanged) c.settle_one.ensures.opened c.settle_one.ensures.kept

pub returns-in-Err-begin-clause-later : goal.returns-in-Err-begin-clause-later
returns-in-Err-begin-clause-later g c = later_in _ _ c.args.set.now.tables c.settle_one.new.set.tables c.begin.new.self.tables (ap (λ (h : Holding). h.tables) c.in-Err-begin.ensures.unchanged) c.settle_one.ensures.opened c.settle_one.ensures.kept

pub returns-in-Ok-clause-made : goal.returns-in-Ok-clause-made
returns-in-Ok-clause-made g c =
    let made = rw c.in_default.is at c.in_ok-refusal.ensures.made in
    missed_so (g.F.TableFiles.facts c.args.folder.now.disk) c.args.folder.now.folder c.args.start.now c.args.set.now.tables c.settle_one.new.set.tables _ _ c.settle_one.ensures.only c.begin.new.self.tables (Ok None) (ap (λ (h : Holding). h.tables) c.in-Ok.ensures.unchanged) made

pub returns-in-Err-begin-clause-made : goal.returns-in-Err-begin-clause-made
returns-in-Err-begin-clause-made g c =
    let made = rw c.in_default.is at c.in_ok-refusal.ensures.made in
    missed_till (g.F.TableFiles.facts c.args.folder.now.disk) c.args.folder.now.folder c.args.start.now c.args.set.now.tables c.settle_one.new.set.tables _ _ c.settle_one.ensures.only c.begin.new.self.tables _ (ap (λ (h : Holding). h.tables) c.in-Err-begin.ensures.unchanged) made

pub returns-in-Err-clause-made : goal.returns-in-Err-clause-made
returns-in-Err-clause-made g c =
    let made = rw c.in-Err.is at c.in_ok-refusal.ensures.made in
    missed_so (g.F.TableFiles.facts c.args.folder.now.disk) c.args.folder.now.folder c.args.start.now c.args.set.now.tables c.settle_one.new.set.tables _ _ c.settle_one.ensures.only c.settle_one.new.set.tables (Ok (Some c.in-Err.refusal)) refl made

pub returns-in_err-refusal-clause-made : goal.returns-in_err-refusal-clause-made
returns-in_err-refusal-clause-made g c = missed_err (g.F.TableFiles.facts c.args.folder.now.disk) c.args.folder.now.folder c.args.start.now c.args.set.now.tables c.settle_one.new.set.tables _ _ c.settle_one.ensures.only c.from_residual.result c.in_err-refusal.field-0.0 c.from_residual.ensures.0 c.in_err-refusal.ensures.made
