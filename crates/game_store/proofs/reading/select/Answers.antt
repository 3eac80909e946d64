use Rattle.sqlite.specs.Held.{state}
use Rattle.std.proofs.lemmas.Result.{IfOk-weaker}
use Rattle.sqlite.proofs.StateLemmas.{survives_weaker}
use Rattle.game_store.proofs.ReadLemmas.{lists, list_keeps, list_commits_nothing}
use Rattle.game_store.proofs.reading.select.Goals as goal

pub returns-clause-rows : goal.returns-clause-rows
returns-clause-rows g c clean has =
    let old = state g.S.Store c.args.conn.now in
    let new = state g.S.Store c.query_all.new.self in
    IfOk-weaker c.query_all.result _ _ (λ rows shows. (lists old new rows.items has shows, list_keeps old new rows.items has shows)) (c.query_all.ensures.ok clean)

pub returns-clause-survives : goal.returns-clause-survives
returns-clause-survives g c =
    survives_weaker (state g.S.Store c.args.conn.now) (state g.S.Store c.query_all.new.self) _ _ (λ clean db commits has. list_commits_nothing (state g.S.Store c.args.conn.now) db has commits) c.query_all.ensures.survives
