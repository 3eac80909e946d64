use Rattle.std.proofs.Common.{get_or, refl, ap, ◌∙◌, ◌++◌}
use Rattle.std.specs.Int.{w16, to_le_bytes}
use Rattle.table_file.specs.PlannedFile.{word_bytes}
use Rattle.table_file.proofs.Appending.{adds_next, added_all}
use Rattle.table_file.proofs.forging.layout.put_words.Goals as goal

pub loop-word-preserved : goal.loop-word-preserved
loop-word-preserved c =
    let xs = c.args.words.now in
    let i = c.loop-word.word-index in
    let now = c.loop-word.bytes.items in
    let one = c.in_ok-extend_from_slice.ensures.items ∙ ap (λ ys. now ++ ys) c.to_le_bytes.ensures in
    adds_next (λ w. to_le_bytes w16 w) xs i 0 (get_or xs i 0) c.args.bytes.now.items now c.extend_from_slice.new.self.items c.loop-word-test.true refl c.loop-word.invariant one

pub returns : goal.returns
unfolding word_bytes
returns c = added_all (λ w. to_le_bytes w16 w) c.args.words.now c.loop-word.word-index c.args.bytes.now.items c.loop-word.bytes.items c.loop-word-test.false c.loop-word.invariant
