use Rattle.std.proofs.Common.{◌∷◌, [], ap, refl}
use Rattle.std.specs.Prelude.{Ok, Err}
use Rattle.timeline.specs.Events.{FileSought}
use Rattle.answer_commands.specs.Earlier.{KeptThere, NotKept}
use Rattle.answer_commands.proofs.earlier.seek_moves.Goals as goal

pub returns-in-Ok : goal.returns-in-Ok
returns-in-Ok g c =
    let look = c.in-Ok.ensures in
    (FileSought c.args.path.now (Ok c.in-Ok.bytes.items) ∷ [], look.made, KeptThere c.in-Ok.bytes.items look.bytes look.short (rw c.deref.ensures.value at c.moves_in.ensures) refl)

pub returns-in-Err : goal.returns-in-Err
returns-in-Err g c =
    let look = c.in-Err.ensures in
    (FileSought c.args.path.now (Err c.in-Err.field-0) ∷ [], look.made, NotKept c.in-Err.field-0 (λ is. look.cause (ap Err is)) refl refl)
