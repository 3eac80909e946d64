use Rattle.std.proofs.Common.{refl}
use Rattle.table_commands.specs.Probes.{OfKnown}
use Rattle.table_commands.proofs.probes.known.Goals as goal

pub returns-clause-told : goal.returns-clause-told
returns-clause-told c =
    OfKnown c.args.position.now c.requires.spelled c.requires.position c.known_wdl-told.result (c.known_wdl-told.ensures.no_memory, c.known_wdl-told.ensures.answer) (rw (c.number_of.ensures, c.is_ok-is_told.ensures.value) refl)
