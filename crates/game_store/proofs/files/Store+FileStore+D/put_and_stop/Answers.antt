use Rattle.std.proofs.Common.{OnOk, Ok, Err, Result}
use Rattle.std.proofs.Math.Logic.{∥∥₁_map}
use Rattle.sqlite.specs.Files.{over_files}
use Rattle.game_store.specs.Shelves.{committed}
use Rattle.game_store.proofs.FileLemmas.{finds_batch}
use Rattle.game_store.proofs.files.Store+FileStore+D.put_and_stop.Goals as goal

onward : {A E P Q : Type 0} (r : Result A E) → (P → Q) → OnOk r P → OnOk r Q
onward (Ok a) f h = f h
onward (Err e) f h = tt

pub returns : goal.returns
returns g c clean left may =
    let put = c.put_batch-done.ensures in
    let early = c.stop.ensures.clean clean in
    ∥∥₁_map (c.stop.ensures.finds clean left may) (λ it. (
      it.0,
      it.1,
      finds_batch (committed over_files c.args.self) (committed over_files c.put_batch-done.new.self) c.args.entries.items c.put_batch-done.result it.0 (put.all early)
          (onward c.put_batch-done.result (λ is_open. put.lasts early is_open it.0 it.2) (put.open early)) (put.stops early c.requires it.0 it.2),
    ))
