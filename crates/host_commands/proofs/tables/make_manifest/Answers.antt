use Rattle.std.proofs.Common.{refl}
use Rattle.host_commands.specs.Tables.{ManifestIs}
use Rattle.host_commands.proofs.tables.make_manifest.Goals as goal

pub returns-in-Ok : goal.returns-in-Ok
returns-in-Ok c = ManifestIs c.in-Ok.manifest.items c.in-Ok.ensures refl refl
