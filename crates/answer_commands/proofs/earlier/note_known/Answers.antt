use Rattle.std.proofs.Common.{◌∷◌, ◌++◌, [], refl}
use Rattle.timeline.proofs.EventLaws.{adds_more}
use Rattle.timeline.specs.Events.{Noted}
use Rattle.answer_commands.specs.Earlier.{earlier_words}
use Rattle.answer_commands.proofs.earlier.note_known.Goals as goal

pub returns : goal.returns
returns g c =
    let o = g.S.System.outside c.args.system.now in
    let n = c.count_moves-count.ensures in
    let words = earlier_words c.args.stamp c.count_moves-count.result in
    let note = rw c.earlier_line-line.ensures at (rw c.as_str.ensures.value at c.note.ensures.made) in
    (n.0 ++ Noted words ∷ [], adds_more o _ _ _ n.0 (Noted words ∷ []) n.1 note, record { count = c.count_moves-count.result; seeking = n.0; counts = n.2; all = refl })
