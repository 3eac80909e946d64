use Rattle.std.proofs.Common.{◌++◌, ◌∷◌, []}
use Rattle.std.proofs.lemmas.List.Elements.{All-push, All-same}
use Rattle.system_io.proofs.RecipientLaws.{one_more}
use Rattle.system_io.specs.Recipients.{IsAddressed, addressed_word}
use Rattle.system_io.proofs.recipient.all_addressed.Goals as goal

pub loop-word-preserved : goal.loop-word-preserved
loop-word-preserved g c =
    let i = c.loop-word.invariant in
    (one_more addressed_word (λ s. s.now) c.loop-word.all.items c.push.new.self.items c.args.words.now c.loop-word.word-index c.in_ok-addressed_one.field-0 _ c.in_ok-push.ensures.items c.loop-word-test.true c.in_ok-addressed_one.ensures.word i.0, All-same (IsAddressed c.args.own) c.push.new.self.items (c.loop-word.all.items ++ c.in_ok-addressed_one.field-0 ∷ []) c.in_ok-push.ensures.items (All-push (IsAddressed c.args.own) c.loop-word.all.items c.in_ok-addressed_one.field-0 i.1 c.in_ok-addressed_one.ensures.names))
