use Rattle.std.proofs.Common.{◌≡◌, Err, ap, rules}
use Rattle.command_line.specs.declared.words.usage.WordsFault.TheVariants.{NoText}
use Rattle.adjudicate_core.specs.Program.{OnNoText, OnWords, called_by}
use Rattle.adjudicate_core.proofs.program.run_program.Goals as goal

pub returns-in-Ok-tail_of : goal.returns-in-Ok-tail_of
returns-in-Ok-tail_of g c =
    let on_tail = rw c.deref-in-Ok-tail_of.ensures.value at c.run.ensures in
    let on_rest = rw c.in-Ok-tail_of.ensures at on_tail in
    let on_words = rw c.deref.ensures.value at on_rest in
    OnWords _ (ap called_by c.in-Ok.is) on_words

pub returns-in-Err-NoText : goal.returns-in-Err-NoText
returns-in-Err-NoText g c =
    let is : called_by c.args.called.now ≡ Err (NoText c.in-Err-NoText.word) = search rules in
    OnNoText c.in-Err-NoText.word c.as_slice.result is c.as_slice.ensures.value c.refuse_misuse.ensures
