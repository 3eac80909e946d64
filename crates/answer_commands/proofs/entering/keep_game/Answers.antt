use Rattle.answer_commands.specs.Inside.Entering.{place_of}
use Rattle.answer_commands.proofs.EnterLaws.{new_there, no_paths, unkept, was_there}
use Rattle.answer_commands.proofs.entering.keep_game.Goals as goal

pub returns-in_default : goal.returns-in_default
returns-in_default g c = no_paths (g.S.System.outside c.args.system.now) _ (place_of c.args.place.now) c.args.stamp c.args.text.now _

pub returns-in-Ok-Stood : goal.returns-in-Ok-Stood
returns-in-Ok-Stood g c =
    let keeps = rw c.in-Ok-Stood.field-0-is at c.in-Ok-Stood.ensures in
    was_there (g.S.System.outside c.args.system.now) _ _ _ (place_of c.args.place.now) c.args.stamp c.args.text.now _ _ _ _ c.in-Ok.ensures.game c.in-Ok.ensures.kept (rw c.as_str.ensures.value at keeps) (rw c.as_str-in-Ok-Stood.ensures.value at c.note_earlier.ensures)

pub returns-in-Ok-Written : goal.returns-in-Ok-Written
returns-in-Ok-Written g c =
    let keeps = rw c.in-Ok-Written.field-0-is at c.in-Ok-Written.ensures in
    new_there (g.S.System.outside c.args.system.now) _ _ (place_of c.args.place.now) c.args.stamp c.args.text.now _ _ c.in-Ok.ensures.game (rw c.as_str.ensures.value at keeps)

pub returns : goal.returns
returns g c = unkept (g.S.System.outside c.args.system.now) _ _ (place_of c.args.place.now) c.args.stamp c.args.text.now _ _ c.in-Err.fault c.in-Ok.ensures.game (rw c.as_str.ensures.value at c.in-Err.ensures)
