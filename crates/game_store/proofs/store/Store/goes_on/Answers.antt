use Rattle.std.proofs.Common.{arith, subst, sym}
use Rattle.sqlite.specs.Held.{state}
use Rattle.sqlite.specs.State.{HasCleanDisk}
use Rattle.game_store.specs.Slots.{number_at}
use Rattle.game_store.specs.Shelves.{Mirrors}
use Rattle.game_store.proofs.StoreLemmas.{leaves_own}
use Rattle.game_store.proofs.store.Store.goes_on.Goals as goal

pub returns-clause-lasts : goal.returns-clause-lasts
returns-clause-lasts g c clean is_open =
    let old = state g.S.Store c.self.inside.conn in
    let new = state g.S.Store c.takes_more.new.conn in
    let early : HasCleanDisk old = omega (arith, c.takes_more.ensures.crash.clean) in
    let kept = c.takes_more.ensures.kept clean in
    let m = subst (Mirrors c.self.inside.memory) (sym (kept.committed is_open)) (c.self.invariant.mirrors early (kept.was_open is_open)) in
    leaves_own (number_at c.self.inside.memory) new (λ d. g.met.S.Store.settled c.takes_more.new.conn.store d is_open) m.has
