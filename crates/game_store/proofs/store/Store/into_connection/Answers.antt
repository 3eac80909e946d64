use Rattle.std.proofs.Common.{subst}
use Rattle.sqlite.specs.Held.{state}
use Rattle.game_store.specs.Slots.{number_at}
use Rattle.game_store.specs.Shelves.{HoldsGames, IsOpen, IsTrusted, Shelf, committed, database}
use Rattle.game_store.proofs.StoreLemmas.{holds_own}
use Rattle.game_store.proofs.store.Store.into_connection.Goals as goal

pub returns-clause-holds : goal.returns-clause-holds
returns-clause-holds g c =
    subst (λ (v : Shelf _). IsTrusted g.S.Store v → IsOpen g.S.Store v → HoldsGames (database g.S.Store v).committed.trees (committed g.S.Store v)) c.self.view_is
    (λ clean is_open. holds_own (number_at c.self.inside.memory) (state g.S.Store c.self.inside.conn).committed (c.self.invariant.mirrors clean is_open).has)
