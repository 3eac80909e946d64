use Rattle.std.proofs.Common.{ℕ, List, sym}
use Rattle.board_core.specs.declared.parts.Parts.{Parts}
use Rattle.arbiter_server.specs.declared.game_lines.GameFileFault.TheVariants.{Delay, More, Name, Start}
use Rattle.arbiter_server.specs.GameFiles.{HasDelay, HasStart, IsFirstGameFault, SpellsGame, game_as_told}
use Rattle.arbiter_server.proofs.GameLaws.{delays, is_none, is_some, no_fault, one_game, spelled, starts}
use Rattle.arbiter_server.proofs.game_file.read_game.Goals as goal

pub returns-in_default-clause-only : goal.returns-in_default-clause-only
returns-in_default-clause-only c = λ g h. no_fault c.args.bytes.now g Name h c.in_default.ensures.none

start_missing : (c : goal.In_default-start_text_in) → IsFirstGameFault c.args.bytes.now Start
start_missing c = (c.in-Some.name.now, c.in-Some.rest.now, c.in-Some.ensures.some, c.in_default-start_text_in.ensures.none)

pub returns-in_default-start_text_in-clause-only : goal.returns-in_default-start_text_in-clause-only
returns-in_default-start_text_in-clause-only c = λ g h. no_fault c.args.bytes.now g Start h (start_missing c)

pub returns-in_default-start_text_in-clause-err : goal.returns-in_default-start_text_in-clause-err
returns-in_default-start_text_in-clause-err c = start_missing c

start_bad : (c : goal.In_default-read) → IsFirstGameFault c.args.bytes.now Start
start_bad c =
    let none : (start : Parts) (last : List ℕ) → HasStart c.in-Some.rest.now start last → ⊥ =
    λ start last h. let read = c.in_default-read.ensures.written start h.0 (sym (c.in-Some-start_text_in.ensures.only start last h)) in absurd cc in
    (c.in-Some.name.now, c.in-Some.rest.now, c.in-Some.ensures.some, none)

pub returns-in_default-read-clause-only : goal.returns-in_default-read-clause-only
returns-in_default-read-clause-only c = λ g h. no_fault c.args.bytes.now g Start h (start_bad c)

pub returns-in_default-read-clause-err : goal.returns-in_default-read-clause-err
returns-in_default-read-clause-err c = start_bad c

delay_missing : (c : goal.In_default-delay_text_in) → IsFirstGameFault c.args.bytes.now Delay
delay_missing c =
    let start = starts c.in-Some.rest.now c.in-Some-start_text_in.fen.now c.in-Some-start_text_in.rest.now c.in-Ok.start c.in-Ok.ensures.position c.in-Some-start_text_in.ensures.some c.in-Ok.ensures.one_text in
    (c.in-Some.name.now, c.in-Some.rest.now, c.in-Some.ensures.some, (c.in-Ok.start, c.in-Some-start_text_in.rest.now, start, c.in_default-delay_text_in.ensures.none))

pub returns-in_default-delay_text_in-clause-only : goal.returns-in_default-delay_text_in-clause-only
returns-in_default-delay_text_in-clause-only c = λ g h. no_fault c.args.bytes.now g Delay h (delay_missing c)

pub returns-in_default-delay_text_in-clause-err : goal.returns-in_default-delay_text_in-clause-err
returns-in_default-delay_text_in-clause-err c = delay_missing c

delay_bad : (c : goal.In_default-delay_of_digit) → IsFirstGameFault c.args.bytes.now Delay
delay_bad c =
    let start = starts c.in-Some.rest.now c.in-Some-start_text_in.fen.now c.in-Some-start_text_in.rest.now c.in-Ok.start c.in-Ok.ensures.position c.in-Some-start_text_in.ensures.some c.in-Ok.ensures.one_text in
    let none : (delay : ℕ) (end : List ℕ) → HasDelay c.in-Some-start_text_in.rest.now delay end → ⊥ =
    λ delay end h. c.in_default-delay_of_digit.ensures.none delay h.0 (sym (c.in-Some-delay_text_in.ensures.only delay end h)) in
    (c.in-Some.name.now, c.in-Some.rest.now, c.in-Some.ensures.some, (c.in-Ok.start, c.in-Some-start_text_in.rest.now, start, none))

pub returns-in_default-delay_of_digit-clause-only : goal.returns-in_default-delay_of_digit-clause-only
returns-in_default-delay_of_digit-clause-only c = λ g h. no_fault c.args.bytes.now g Delay h (delay_bad c)

pub returns-in_default-delay_of_digit-clause-err : goal.returns-in_default-delay_of_digit-clause-err
returns-in_default-delay_of_digit-clause-err c = delay_bad c

more_there : (c : goal.Then-not-is_empty) → IsFirstGameFault c.args.bytes.now More
more_there c =
    let start = starts c.in-Some.rest.now c.in-Some-start_text_in.fen.now c.in-Some-start_text_in.rest.now c.in-Ok.start c.in-Ok.ensures.position c.in-Some-start_text_in.ensures.some c.in-Ok.ensures.one_text in
    let delay = delays c.in-Some-start_text_in.rest.now c.in-Some-delay_text_in.digit.now c.in-Some-delay_text_in.rest.now c.in-Some-delay_of_digit.delay c.in-Some-delay_of_digit.ensures.some.0 c.in-Some-delay_text_in.ensures.some c.in-Some-delay_of_digit.ensures.some.1 in
    let end = is_some c.in-Some-delay_text_in.rest.now c.if-not-is_empty.ensures in
    (c.in-Some.name.now, c.in-Some.rest.now, c.in-Some.ensures.some, (c.in-Ok.start, c.in-Some-start_text_in.rest.now, start, (c.in-Some-delay_of_digit.delay, c.in-Some-delay_text_in.rest.now, delay, end)))

pub returns-then-not-is_empty-clause-only : goal.returns-then-not-is_empty-clause-only
returns-then-not-is_empty-clause-only c = λ g h. no_fault c.args.bytes.now g More h (more_there c)

pub returns-then-not-is_empty-clause-err : goal.returns-then-not-is_empty-clause-err
returns-then-not-is_empty-clause-err c = more_there c

whole : (c : goal.After-owned) → SpellsGame c.args.bytes.now (game_as_told c.owned.result.items c.in-Ok.start c.in-Some-delay_of_digit.delay)
whole c =
    let start = starts c.in-Some.rest.now c.in-Some-start_text_in.fen.now c.in-Some-start_text_in.rest.now c.in-Ok.start c.in-Ok.ensures.position c.in-Some-start_text_in.ensures.some c.in-Ok.ensures.one_text in
    let delay = delays c.in-Some-start_text_in.rest.now c.in-Some-delay_text_in.digit.now c.in-Some-delay_text_in.rest.now c.in-Some-delay_of_digit.delay c.in-Some-delay_of_digit.ensures.some.0 c.in-Some-delay_text_in.ensures.some c.in-Some-delay_of_digit.ensures.some.1 in
    let end = is_none c.in-Some-delay_text_in.rest.now c.if-not-is_empty.ensures in
    spelled c.args.bytes.now c.in-Some.name.now c.owned.result.items c.in-Some.rest.now c.in-Ok.start c.in-Some-start_text_in.rest.now c.in-Some-delay_of_digit.delay c.in-Some-delay_text_in.rest.now c.in-Some.ensures.some c.owned.ensures start delay end

pub returns-clause-only : goal.returns-clause-only
returns-clause-only c = λ g h. one_game c.args.bytes.now _ g (whole c) h

pub returns-clause-ok : goal.returns-clause-ok
returns-clause-ok c = whole c
