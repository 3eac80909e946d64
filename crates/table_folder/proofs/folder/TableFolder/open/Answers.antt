use Rattle.std.proofs.Common.{Ok, refl, subst, sym}
use Rattle.table_folder.specs.Reads.{NoRoomForNames, NotOpened, Opened}
use Rattle.task_files.specs.TableReads.{ListsTables}
use Rattle.table_folder.proofs.folder.TableFolder.open.Goals as goal

pub returns-in-Err-clause-made : goal.returns-in-Err-clause-made
returns-in-Err-clause-made g c = let listing = c.in-Err.ensures in (listing.0, listing.1, NotOpened c.in-Err.fault listing.2 refl)

pub returns-in-Ok-from_vec-clause-made : goal.returns-in-Ok-from_vec-clause-made
returns-in-Ok-from_vec-clause-made g c =
    let listing = c.in-Ok.ensures in (
      listing.0,
      listing.1,
      Opened _ (subst (λ names. ListsTables (g.F.TableFiles.facts c.args.disk.now) c.args.path.now c.args.manifest.now (Ok names) listing.0) (sym c.in-Ok-from_vec.ensures) listing.2) refl,
    )

pub returns-in-Err-from_vec-clause-made : goal.returns-in-Err-from_vec-clause-made
returns-in-Err-from_vec-clause-made g c = let listing = c.in-Ok.ensures in (listing.0, listing.1, NoRoomForNames c.in-Ok.names.items listing.2 refl)
