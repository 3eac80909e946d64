use Rattle.std.proofs.Common.{◌++◌, append_assoc}
use Rattle.std.specs.Prelude.{codes}
use Rattle.command_line.specs.Misuses.{instead_name, range_of, wanted_front}
use Rattle.command_line.proofs.words.uses.tell_fault.Goals as goal

pub returns-in-NoOption : goal.returns-in-NoOption
returns-in-NoOption g c = rw c.in-NoOption.is c.tell_name.ensures

pub returns-in-NoWord : goal.returns-in-NoWord
returns-in-NoWord g c = rw c.in-NoWord.is c.tell_name-in-NoWord.ensures

pub returns-in-Unfit : goal.returns-in-Unfit
returns-in-Unfit g c =
    let wanted = c.in-Unfit.wanted in
    let told = rw (c.front.ensures, c.rest.ensures) at c.tell_name-in-Unfit.ensures in
    rw c.in-Unfit.is (rw (append_assoc (wanted_front wanted ++ c.in-Unfit.text.now) (codes ": ") (range_of wanted)) told)

pub returns-in-NotWith : goal.returns-in-NotWith
returns-in-NotWith g c =
    let name = c.in-NotWith.option.now in
    rw c.in-NotWith.is (
    rw (append_assoc name (codes " cannot be used with --") (instead_name c.in-NotWith.instead))
    (rw c.rest-in-NotWith.ensures at c.tell_name-in-NotWith.ensures)
    )

pub returns-in-WordNotWith : goal.returns-in-WordNotWith
returns-in-WordNotWith g c =
    let name = c.in-WordNotWith.word.now in
    rw c.in-WordNotWith.is (
    rw (append_assoc name (codes " cannot be used with --") (instead_name c.in-WordNotWith.instead))
    (rw c.rest-in-WordNotWith.ensures at c.tell_name-in-WordNotWith.ensures)
    )

pub returns-in-Beside : goal.returns-in-Beside
returns-in-Beside g c = rw c.in-Beside.is c.tell_name-in-Beside.ensures

pub returns-in-FlagNotWith : goal.returns-in-FlagNotWith
returns-in-FlagNotWith g c =
    let name = c.in-FlagNotWith.flag.now in
    rw c.in-FlagNotWith.is (
    rw (append_assoc name (codes " cannot be used with --") (instead_name c.in-FlagNotWith.instead))
    (rw c.rest-in-FlagNotWith.ensures at c.tell_name-in-FlagNotWith.ensures)
    )

pub returns-in-WithoutGames : goal.returns-in-WithoutGames
returns-in-WithoutGames g c = rw c.in-WithoutGames.is c.tell_name-in-WithoutGames.ensures
