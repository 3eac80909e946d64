use Rattle.std.proofs.Common.{refl}
use Rattle.table_commands.specs.Probes.{OfPosition}
use Rattle.table_commands.proofs.probes.columns.Goals as goal

pub returns-clause-told : goal.returns-clause-told
returns-clause-told c =
    OfPosition c.args.position.now c.requires.spelled c.requires.position c.in_ok-columns.columns.probed c.in_ok-columns.ensures.told (rw (c.has_both.ensures, c.in_ok-columns.ensures.verdict) refl)
