use Rattle.std.proofs.Common.{◌/◌, ◌%◌, ◌∷◌, [], ◌++◌, get_or, refl, ap, ◌∙◌, append_assoc}
use Rattle.table_file.proofs.Appending.{adds_next, added_all}
use Rattle.table_file.proofs.forging.values.put_wide.Goals as goal

pub loop-entry-preserved : goal.loop-entry-preserved
loop-entry-preserved c =
    let xs = c.args.entries.now in
    let i = c.loop-entry.entry-index in
    let e = get_or xs i 0 in
    let now = c.loop-entry.bytes.items in
    let one = c.in_ok-push-2.ensures.items ∙ ap (λ ys. ys ++ e / 256 ∷ []) c.in_ok-push.ensures.items ∙ append_assoc now (e % 256 ∷ []) (e / 256 ∷ []) in
    adds_next (λ e. e % 256 ∷ e / 256 ∷ []) xs i 0 e c.args.bytes.now.items now c.push-in-loop-entry.new.self.items c.loop-entry-test.true refl c.loop-entry.invariant one

pub returns : goal.returns
returns c = added_all (λ e. e % 256 ∷ e / 256 ∷ []) c.args.entries.now c.loop-entry.entry-index c.args.bytes.now.items c.loop-entry.bytes.items c.loop-entry-test.false c.loop-entry.invariant
