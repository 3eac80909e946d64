use Rattle.std.proofs.Common.{sym, ◌∙◌, subst, arith, IsTrue}
use Rattle.std.proofs.lemmas.Result.{IfOk-weaker}
use Rattle.sqlite.specs.Held.{state}
use Rattle.sqlite.specs.State.{HasCleanDisk}
use Rattle.sqlite.specs.Tree.{Trees}
use Rattle.sqlite.proofs.StateLemmas.{survives_then}
use Rattle.game_store.specs.Shelves.{KeepsGames, Mirrors}
use Rattle.game_store.proofs.ShelfLemmas.{found}
use Rattle.game_store.proofs.reading.prepare.Goals as goal

pub returns-clause-mirrors : goal.returns-clause-mirrors
returns-clause-mirrors g c clean =
    let mid = state g.S.Store c.make_table.new.conn in
    let early : HasCleanDisk mid = omega (arith, c.read.ensures.survives.clean) in
    IfOk-weaker c.read.result _ _ (λ memory it.
    let ready = c.in_ok-make_table.ensures.ready early it.0.0.was_open in
    (it.0.0.is_open, subst (Mirrors memory) (sym (it.0.0.committed_is ∙ ready.done)) (it.1 ready.sound)))
    (c.read.ensures.mirrors clean (c.in_ok-make_table.ensures.schema early))

pub returns-clause-found : goal.returns-clause-found
returns-clause-found g c clean =
    let old = state g.S.Store c.args.conn.now in
    let mid = state g.S.Store c.make_table.new.conn in
    let early : HasCleanDisk mid = omega (arith, c.read.ensures.survives.clean) in
    IfOk-weaker c.read.result _ _ (λ memory it. let ready = c.in_ok-make_table.ensures.ready early it.0.0.was_open in found memory old mid ready (it.1 ready.sound))
    (c.read.ensures.mirrors clean (c.in_ok-make_table.ensures.schema early))

pub returns-clause-survives : goal.returns-clause-survives
returns-clause-survives g c =
    let old = state g.S.Store c.args.conn.now in
    let mid = state g.S.Store c.make_table.new.conn in
    let P = λ (db : Trees). IsTrue old.is_open → KeepsGames old.committed.trees db in
    survives_then old mid (state g.S.Store c.read.new.conn) _ _ P (λ clean db kept. kept)
    (λ clean db other. let early : HasCleanDisk mid = omega (arith, c.read.ensures.survives.clean) in absurd (other (c.in_ok-make_table.ensures.schema early)))
    c.make_table.ensures.survives c.read.ensures.survives
