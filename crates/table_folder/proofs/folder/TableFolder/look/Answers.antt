use Rattle.table_folder.proofs.Adding.{one_more_after, refused_after}
use Rattle.table_folder.proofs.Reading.{looks_for_err, opens_nothing, opens_till, passes_so}
use Rattle.table_folder.proofs.folder.TableFolder.look.Goals as goal

pub returns-in-Ok-clause-look : goal.returns-in-Ok-clause-look
returns-in-Ok-clause-look g c =
    let adds = rw c.in-Ok.is at c.in_ok-add.ensures.added in
    let missing = c.in-Some.ensures.some in
    one_more_after c.adding_keeps_the_rest.ensures _ _ _ _ _ _ c.in_ok-columns.columns.probed _ _ c.add.ensures.known c.in_ok-columns.ensures.unchanged c.in_ok-columns.ensures.told missing.0 c.in-Some.ensures.in_turn missing.1 c.requires adds

pub returns-in-Err-clause-look : goal.returns-in-Err-clause-look
returns-in-Err-clause-look g c =
    let same = rw c.in-Err.is at c.in_ok-add.ensures.unchanged in
    let refused = rw c.in-Err.is at c.in_ok-add.ensures.refused in
    let missing = c.in-Some.ensures.some in
    refused_after _ _ _ _ _ _ _ _ _ c.add.ensures.known c.in_ok-columns.ensures.unchanged same c.in_ok-columns.ensures.told missing.0 missing.1 c.in-Some.ensures.in_turn c.requires refused

pub returns-in_err-columns-clause-made : goal.returns-in_err-columns-clause-made
returns-in_err-columns-clause-made g c =
    looks_for_err _ _ _ _ c.from_residual.result c.in_err-columns.field-0.0 _ _ c.from_residual.ensures.0 (passes_so _ _ _ _ (opens_till _ _ _ _ _) (opens_nothing _ _ _ _ _ c.in_err-columns.ensures.unchanged))

pub returns-in_default-clause-made : goal.returns-in_default-clause-made
returns-in_default-clause-made g c = opens_nothing _ _ _ _ _ c.in_ok-columns.ensures.unchanged
