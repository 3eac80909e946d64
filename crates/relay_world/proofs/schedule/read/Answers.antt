use Rattle.std.proofs.Common.{List, refl, inl, inr}
use Rattle.board_core.specs.declared.moves.Move.{Move as Moves}
use Rattle.fen_text.specs.Cuts.{cut_at}
use Rattle.relay_world.specs.Texts.{AreEvents, IsBadEvent, IsMovesLine}
use Rattle.relay_world.proofs.BadLines.{takes_memory, third_or_later}
use Rattle.relay_world.proofs.Reading.{bad_second, bad_third, bad_later}
use Rattle.relay_world.proofs.schedule.read.Goals as goal

pub returns-in_default-read_start-clause-err : goal.returns-in_default-read_start-clause-err
returns-in_default-read_start-clause-err c =
    inr (
      2,
      refl,
      bad_second c.args.text.now c.in-Some.line.now c.in-Some.rest.now c.in-Some-cut_first.line.now c.in-Some-cut_first.rest.now
          c.in-Some.ensures.some (c.in-Some-read_name.name.now, c.in-Some-read_name.ensures.some) c.in-Some-cut_first.ensures.some (λ h. c.in_default-read_start.ensures.none h.0 h.1),
    )

pub returns-in-Ok-None-clause-err : goal.returns-in-Ok-None-clause-err
returns-in-Ok-None-clause-err c =
    let never : (moves : List Moves) → IsMovesLine c.in-Some-cut_first-2.line.now moves → ⊥ = rw c.in-Ok-None.field-0-is at c.in-Ok-None.ensures.none in
    inr (
      3,
      refl,
      bad_third c.args.text.now c.in-Some.line.now c.in-Some.rest.now c.in-Some-cut_first.line.now c.in-Some-cut_first.rest.now c.in-Some-cut_first-2.line.now c.in-Some-cut_first-2.rest.now
          c.in-Some.ensures.some (c.in-Some-read_name.name.now, c.in-Some-read_name.ensures.some) c.in-Some-cut_first.ensures.some (c.in-Some-read_start.start, c.in-Some-read_start.ensures.some) c.in-Some-cut_first-2.ensures.some (λ h. never h.0 h.1),
    )

pub returns-in-Ok-Err-clause-err : goal.returns-in-Ok-Err-clause-err
returns-in-Ok-Err-clause-err c =
    let moves : IsMovesLine c.in-Some-cut_first-2.line.now c.in-Ok-Some.moves.items = rw c.in-Ok-Some.field-0-is at c.in-Ok-Some.ensures.some in
    let bad : IsBadEvent 4 c.in-Ok-Err.number (cut_at 10 c.in-Some-cut_first-2.rest.now) = rw c.in-Ok-Err.field-0-is at c.in-Ok-Err.ensures.err in
    inr (
      c.in-Ok-Err.number,
      refl,
      bad_later c.in-Ok-Err.number c.args.text.now c.in-Some.line.now c.in-Some.rest.now c.in-Some-cut_first.line.now c.in-Some-cut_first.rest.now c.in-Some-cut_first-2.line.now c.in-Some-cut_first-2.rest.now
          c.in-Some.ensures.some (c.in-Some-read_name.name.now, c.in-Some-read_name.ensures.some) c.in-Some-cut_first.ensures.some (c.in-Some-read_start.start, c.in-Some-read_start.ensures.some) c.in-Some-cut_first-2.ensures.some (c.in-Ok-Some.moves.items, moves) bad,
    )

pub returns-in-Err-clause-memory : goal.returns-in-Err-clause-memory
returns-in-Err-clause-memory c = λ _.
    third_or_later c.args.text.now c.in-Some.line.now c.in-Some.rest.now c.in-Some-cut_first.line.now c.in-Some-cut_first.rest.now c.in-Some-read_name.name.now c.in-Some-read_start.start
    c.in-Some.ensures.some c.in-Some-read_name.ensures.some c.in-Some-cut_first.ensures.some c.in-Some-read_start.ensures.some

pub returns-in-Err-read_events-clause-memory : goal.returns-in-Err-read_events-clause-memory
returns-in-Err-read_events-clause-memory c = λ _.
    third_or_later c.args.text.now c.in-Some.line.now c.in-Some.rest.now c.in-Some-cut_first.line.now c.in-Some-cut_first.rest.now c.in-Some-read_name.name.now c.in-Some-read_start.start
    c.in-Some.ensures.some c.in-Some-read_name.ensures.some c.in-Some-cut_first.ensures.some c.in-Some-read_start.ensures.some

pub returns-in_default-from_slice-clause-memory : goal.returns-in_default-from_slice-clause-memory
returns-in_default-from_slice-clause-memory c = λ _.
    third_or_later c.args.text.now c.in-Some.line.now c.in-Some.rest.now c.in-Some-cut_first.line.now c.in-Some-cut_first.rest.now c.in-Some-read_name.name.now c.in-Some-read_start.start
    c.in-Some.ensures.some c.in-Some-read_name.ensures.some c.in-Some-cut_first.ensures.some c.in-Some-read_start.ensures.some

pub returns-in-Err-clause-taken : goal.returns-in-Err-clause-taken
returns-in-Err-clause-taken c = λ _.
    takes_memory c.args.text.now c.in-Some.line.now c.in-Some.rest.now c.in-Some-cut_first.line.now c.in-Some-cut_first.rest.now c.in-Some-cut_first-2.line.now c.in-Some-cut_first-2.rest.now c.in-Some-read_name.name.now c.in-Some-read_start.start
    c.in-Some.ensures.some c.in-Some-read_name.ensures.some c.in-Some-cut_first.ensures.some c.in-Some-read_start.ensures.some c.in-Some-cut_first-2.ensures.some (inl c.in-Err.ensures.memory)

pub returns-in-Err-read_events-clause-taken : goal.returns-in-Err-read_events-clause-taken
returns-in-Err-read_events-clause-taken c = λ _.
    let moves : IsMovesLine c.in-Some-cut_first-2.line.now c.in-Ok-Some.moves.items = rw c.in-Ok-Some.field-0-is at c.in-Ok-Some.ensures.some in
    takes_memory c.args.text.now c.in-Some.line.now c.in-Some.rest.now c.in-Some-cut_first.line.now c.in-Some-cut_first.rest.now c.in-Some-cut_first-2.line.now c.in-Some-cut_first-2.rest.now c.in-Some-read_name.name.now c.in-Some-read_start.start
    c.in-Some.ensures.some c.in-Some-read_name.ensures.some c.in-Some-cut_first.ensures.some c.in-Some-read_start.ensures.some c.in-Some-cut_first-2.ensures.some (inr ((c.in-Ok-Some.moves.items, moves), inl c.in-Err-read_events.ensures.memory))

pub returns-in_default-from_slice-clause-taken : goal.returns-in_default-from_slice-clause-taken
returns-in_default-from_slice-clause-taken c = λ _.
    let moves : IsMovesLine c.in-Some-cut_first-2.line.now c.in-Ok-Some.moves.items = rw c.in-Ok-Some.field-0-is at c.in-Ok-Some.ensures.some in
    let events : AreEvents (cut_at 10 c.in-Some-cut_first-2.rest.now) c.in-Ok-Ok.events.items = rw c.in-Ok-Ok.field-0-is at c.in-Ok-Ok.ensures.ok in
    takes_memory c.args.text.now c.in-Some.line.now c.in-Some.rest.now c.in-Some-cut_first.line.now c.in-Some-cut_first.rest.now c.in-Some-cut_first-2.line.now c.in-Some-cut_first-2.rest.now c.in-Some-read_name.name.now c.in-Some-read_start.start
    c.in-Some.ensures.some c.in-Some-read_name.ensures.some c.in-Some-cut_first.ensures.some c.in-Some-read_start.ensures.some c.in-Some-cut_first-2.ensures.some (inr ((c.in-Ok-Some.moves.items, moves), inr (c.in-Ok-Ok.events.items, events)))
