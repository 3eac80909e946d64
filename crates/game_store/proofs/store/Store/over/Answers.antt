use Rattle.std.proofs.Common.{sym}
use Rattle.sqlite.specs.Held.{state}
use Rattle.game_store.specs.Rows.{games_in}
use Rattle.game_store.specs.Slots.{game_at, number_at}
use Rattle.game_store.proofs.StoreLemmas.{holds_same, leaves_own}
use Rattle.game_store.proofs.store.Store.over.Goals as goal

pub returns-in-Ok-clause-found : goal.returns-in-Ok-clause-found
returns-in-Ok-clause-found g c clean =
    let new = state g.S.Store c.prepare.new.conn in
    let m = (c.in-Ok.ensures.mirrors clean).1 in
    holds_same (state g.S.Store c.args.conn).committed.trees (game_at c.in-Ok.memory) (games_in (new.committed.trees 0)) (λ stamp. sym (m.games stamp)) (c.in-Ok.ensures.found clean)

pub returns-in-Ok-clause-lasts : goal.returns-in-Ok-clause-lasts
returns-in-Ok-clause-lasts g c clean =
    let it = c.in-Ok.ensures.mirrors clean in
    leaves_own (number_at c.in-Ok.memory) (state g.S.Store c.prepare.new.conn) (c.prepare.ensures.lasts it.0) it.1.has
