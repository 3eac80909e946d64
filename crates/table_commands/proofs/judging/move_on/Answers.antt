use Rattle.std.proofs.Common.{None, Some, ap, refl}
use Rattle.std.specs.Prelude.{Ok}
use Rattle.judge_core.specs.Tables.{Holding}
use Rattle.table_commands.proofs.FollowLaws.{later_in, missed_err, missed_so, missed_till, on_in}
use Rattle.table_commands.proofs.judging.move_on.Goals as goal

pub returns-in-Ok-clause-on : goal.returns-in-Ok-clause-on
returns-in-Ok-clause-on g c =
    let settled = rw c.in_default.is at c.in_ok-refusal.ensures.settled in
    on_in (g.F.TableFiles.facts c.args.folder.now.disk) c.settled_games_stay.ensures c.args.folder.now.folder c.args.set.now.tables c.settle_one.new.set.tables c.move_on.new.self.tables c.args.standing.now c.args.position c.in-Ok.standing (ap (λ (h : Holding). h.tables) c.in-Ok.ensures.unchanged) c.requires c.settle_one.ensures.opened c.settle_one.ensures.kept settled c.in-Ok.ensures.at

pub returns-in_err-refusal-clause-later : goal.returns-in_err-refusal-clause-later
returns-in_err-refusal-clause-later g c = later_in _ _ c.args.set.now.tables c.settle_one.new.set.tables c.settle_one.new.set.tables refl c.settle_one.ensures.opened c.settle_one.ensures.kept

pub returns-in-Err-clause-later : goal.returns-in-Err-clause-later
returns-in-Err-clause-later g c = later_in _ _ c.args.set.now.tables c.settle_one.new.set.tables c.settle_one.new.set.tables refl c.settle_one.ensures.opened c.settle_one.ensures.kept

pub returns-in-Ok-clause-later : goal.returns-in-Ok-clause-later
returns-in-Ok-clause-later g c = later_in _ _ c.args.set.now.tables c.settle_one.new.set.tables c.move_on.new.self.tables (ap (λ (h : Holding). h.tables) c.in-Ok.ensures.unchanged) c.settle_one.ensures.opened c.settle_one.ensures.kept

pub returns-in-Err-move_on-clause-later : goal.returns-in-Err-move_on-clause-later
returns-in-Err-move_on-clause-later g c = later_in _ _ c.args.set.now.tables c.settle_one.new.set.tables c.move_on.new.self.tables (ap (λ (h : Holding). h.tables) c.in-Err-move_on.ensures.unchanged) c.settle_one.ensures.opened c.settle_one.ensures.kept

pub returns-in-Ok-clause-made : goal.returns-in-Ok-clause-made
returns-in-Ok-clause-made g c =
    let made = rw c.in_default.is at c.in_ok-refusal.ensures.made in
    missed_so (g.F.TableFiles.facts c.args.folder.now.disk) c.args.folder.now.folder c.args.position c.args.set.now.tables c.settle_one.new.set.tables _ _ c.settle_one.ensures.only c.move_on.new.self.tables (Ok None) (ap (λ (h : Holding). h.tables) c.in-Ok.ensures.unchanged) made

pub returns-in-Err-move_on-clause-made : goal.returns-in-Err-move_on-clause-made
returns-in-Err-move_on-clause-made g c =
    let made = rw c.in_default.is at c.in_ok-refusal.ensures.made in
    missed_till (g.F.TableFiles.facts c.args.folder.now.disk) c.args.folder.now.folder c.args.position c.args.set.now.tables c.settle_one.new.set.tables _ _ c.settle_one.ensures.only c.move_on.new.self.tables _ (ap (λ (h : Holding). h.tables) c.in-Err-move_on.ensures.unchanged) made

pub returns-in-Err-clause-made : goal.returns-in-Err-clause-made
returns-in-Err-clause-made g c =
    let made = rw c.in-Err.is at c.in_ok-refusal.ensures.made in
    missed_so (g.F.TableFiles.facts c.args.folder.now.disk) c.args.folder.now.folder c.args.position c.args.set.now.tables c.settle_one.new.set.tables _ _ c.settle_one.ensures.only c.settle_one.new.set.tables (Ok (Some c.in-Err.refusal)) refl made

pub returns-in_err-refusal-clause-made : goal.returns-in_err-refusal-clause-made
returns-in_err-refusal-clause-made g c = missed_err (g.F.TableFiles.facts c.args.folder.now.disk) c.args.folder.now.folder c.args.position c.args.set.now.tables c.settle_one.new.set.tables _ _ c.settle_one.ensures.only c.from_residual.result c.in_err-refusal.field-0.0 c.from_residual.ensures.0 c.in_err-refusal.ensures.made
