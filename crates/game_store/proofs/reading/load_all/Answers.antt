use Rattle.game_store.proofs.MirrorLemmas.{read_more}
use Rattle.game_store.proofs.reading.load_all.Goals as goal

pub loop-row-preserved : goal.loop-row-preserved
loop-row-preserved c = read_more c.args.rows.now c.loop-row.row-index c.row-item.result c.loop-row.memory c.load.new.memory c.loop-row-test.true c.row-item.is c.loop-row.invariant c.in_ok-load.ensures
