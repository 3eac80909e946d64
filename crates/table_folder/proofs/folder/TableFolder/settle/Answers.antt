use Rattle.std.proofs.Common.{ap, sym, subst, refl, ◌∙◌}
use Rattle.judge_core.specs.Tables.{Tables}
use Rattle.table_folder.specs.Folders.{AreOf}
use Rattle.table_folder.proofs.Only.{adds_as, adds_more, adds_none}
use Rattle.table_folder.proofs.Reading.{opens_both, opens_for_err, opens_none, passes_none}
use Rattle.table_folder.proofs.folder.TableFolder.settle.Goals as goal

pub returns-in_err-columns-clause-opened : goal.returns-in_err-columns-clause-opened
returns-in_err-columns-clause-opened g c =
    subst (AreOf (g.F.TableFiles.facts c.args.self.now.disk) c.args.self.now.folder) (sym (ap {B = Tables} (λ s. s.tables) c.in_err-columns.ensures.memory)) c.loop-columns.invariant.0

pub returns-in-Settled-clause-opened : goal.returns-in-Settled-clause-opened
returns-in-Settled-clause-opened g c =
    let look = rw c.in-Settled.is at c.in_ok-columns.ensures.look in
    subst (AreOf (g.F.TableFiles.facts c.args.self.now.disk) c.args.self.now.folder) (sym look.0) c.loop-columns.invariant.0

pub returns-in-Refused-clause-opened : goal.returns-in-Refused-clause-opened
returns-in-Refused-clause-opened g c =
    let look = rw c.in-Refused.is at c.in_ok-columns.ensures.look in
    subst (AreOf (g.F.TableFiles.facts c.args.self.now.disk) c.args.self.now.folder) (sym look.0) c.loop-columns.invariant.0

pub loop-columns-init : goal.loop-columns-init
loop-columns-init g c = (c.requires, (λ kind key t there. there), refl, adds_none _ _ _ _, passes_none _ _ (opens_none _ _ _))

pub loop-columns-preserved : goal.loop-columns-preserved
loop-columns-preserved g c =
    let look = rw c.in-Opened.is at c.in_ok-columns.ensures.look in (
      look.opened,
      (λ kind key t there. look.kept kind key t (c.loop-columns.invariant.1 kind key t there)),
      c.in_ok-columns.ensures.cache ∙ c.loop-columns.invariant.2,
      adds_more _ _ _ c.loop-columns.invariant.1 c.loop-columns.invariant.3 look.only,
      opens_both _ _ _ _ _ _ _ _ _ c.loop-columns.invariant.4 (rw c.in-Opened.is at c.in_ok-columns.ensures.made),
    )

pub returns-in_err-columns-clause-only : goal.returns-in_err-columns-clause-only
returns-in_err-columns-clause-only g c = adds_as _ _ _ (ap {B = Tables} (λ s. s.tables) c.in_err-columns.ensures.memory) c.loop-columns.invariant.3

pub returns-in-Settled-clause-only : goal.returns-in-Settled-clause-only
returns-in-Settled-clause-only g c =
    let look = rw c.in-Settled.is at c.in_ok-columns.ensures.look in
    adds_as _ _ _ look.0 c.loop-columns.invariant.3

pub returns-in-Refused-clause-only : goal.returns-in-Refused-clause-only
returns-in-Refused-clause-only g c =
    let look = rw c.in-Refused.is at c.in_ok-columns.ensures.look in
    adds_as _ _ _ look.0 c.loop-columns.invariant.3

pub returns-in_err-columns-clause-made : goal.returns-in_err-columns-clause-made
returns-in_err-columns-clause-made g c = opens_for_err _ _ _ _ c.from_residual.result c.in_err-columns.field-0.0 _ _ c.from_residual.ensures.0 (opens_both _ _ _ _ _ _ _ _ _ c.loop-columns.invariant.4 c.in_err-columns.ensures.made)

pub returns-in-Settled-clause-made : goal.returns-in-Settled-clause-made
returns-in-Settled-clause-made g c = opens_both _ _ _ _ _ _ _ _ _ c.loop-columns.invariant.4 (rw c.in-Settled.is at c.in_ok-columns.ensures.made)

pub returns-in-Refused-clause-made : goal.returns-in-Refused-clause-made
returns-in-Refused-clause-made g c = opens_both _ _ _ _ _ _ _ _ _ c.loop-columns.invariant.4 (rw c.in-Refused.is at c.in_ok-columns.ensures.made)
