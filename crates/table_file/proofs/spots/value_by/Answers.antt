use Rattle.std.proofs.Common.{arith}
use Rattle.std.proofs.lemmas.Result.{on_err_weaker}
use Rattle.table_file.proofs.Expanded.{spot_value, spot_none, past_none}
use Rattle.table_file.proofs.spots.value_by.Goals as goal

pub returns-in_default-clause-damaged : goal.returns-in_default-clause-damaged
returns-in_default-clause-damaged g c =
    rw c.in-Pairs.is (past_none c.in-Pairs.codes c.args.view.lengths.now c.args.view.blocks.now c.args.index c.in_default.ensures.damaged)

pub returns-in-Ok-clause-found : goal.returns-in-Ok-clause-found
returns-in-Ok-clause-found g c =
    let len = rw c.in-Pairs.is at c.requires.checked.lengths_fit in
    let f = c.value_of.ensures.found in
    rw c.in-Pairs.is (rw (spot_value c.in-Pairs.codes c.args.view.lengths.now c.args.view.blocks.now c.args.index c.in-Ok.place.block c.in-Ok.place.offset (omega (arith, len)) c.in-Ok.ensures.found) f)

pub returns-in-Ok-clause-damaged : goal.returns-in-Ok-clause-damaged
returns-in-Ok-clause-damaged g c =
    let len = rw c.in-Pairs.is at c.requires.checked.lengths_fit in
    let f = c.value_of.ensures.damaged in
    rw c.in-Pairs.is (on_err_weaker c.value_of.result (λ le. spot_none c.in-Pairs.codes c.args.view.lengths.now c.args.view.blocks.now c.args.index c.in-Ok.place.block c.in-Ok.place.offset (omega (arith, len)) c.in-Ok.ensures.found le) f)
