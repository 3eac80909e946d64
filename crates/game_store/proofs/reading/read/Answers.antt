use Rattle.std.proofs.Common.{subst}
use Rattle.sqlite.specs.Held.{state}
use Rattle.game_store.specs.Shelves.{HasRead}
use Rattle.game_store.proofs.MirrorLemmas.{mirrors}
use Rattle.game_store.proofs.reading.read.Goals as goal

pub returns-clause-mirrors : goal.returns-clause-mirrors
returns-clause-mirrors g c clean has =
    let old = state g.S.Store c.args.conn.now in
    let listed = c.in-Ok.ensures.rows clean has in
    (listed.1, λ sound. mirrors c.load_all.new.memory old.now c.in-Ok.rows.items has sound listed.0 (subst (λ rows. HasRead rows c.load_all.new.memory) c.deref.ensures.value c.in_ok-load_all.ensures))
