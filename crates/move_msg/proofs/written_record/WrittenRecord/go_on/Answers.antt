use Rattle.std.proofs.Common.{◌≡◌, ◌+◌, ◌≤◌, ◌++◌, ◌∙◌, ℕ, List, length, sym, ap, subst}
use Rattle.board_core.specs.declared.moves.Move.{Move}
use Rattle.move_msg.specs.Numbers.{most_moves}
use Rattle.move_msg.specs.Records.{SpellsMoves}
use Rattle.move_msg.specs.declared.record_bytes.Record.{Record}
use Rattle.move_msg.proofs.WrittenLaws.{longer, went_on}
use Rattle.move_msg.proofs.written_record.WrittenRecord.go_on.Goals as goal

pub rewrite-requires : goal.rewrite-requires
rewrite-requires c = subst (λ (t : List ℕ). 25 ≤ length t) (sym c.in-Ok.ensures) (longer c.self.inside.bytes.items c.deref.result.now c.self.inside.record c.self.invariant)

pub invariant_of-self-2 : goal.invariant_of-self-2
invariant_of-self-2 c =
    let few : length c.self.inside.record.moves + length c.args.more.now ≤ most_moves = subst (λ (r : Record). length r.moves + length c.args.more.now ≤ most_moves) (sym c.self.view_is) c.requires in
    let spelled : SpellsMoves c.deref.result.now c.args.more.now = subst (λ (t : List ℕ). SpellsMoves t c.args.more.now) (sym c.deref.ensures.value) c.in_ok-words.ensures in
    let count : c.number-count.result ≡ length (c.self.inside.record.moves ++ c.args.more.now) = c.number-count.ensures.value ∙ c.count.ensures ∙ ap (λ (ms : List Move). length ms) c.in_ok-append.ensures in
    rw (c.rewrite.ensures, c.in-Ok.ensures, c.in_ok-append.ensures, c.code_or_none.ensures) (went_on c.self.inside.bytes.items c.deref.result.now c.self.inside.record c.args.more.now c.args.verdict c.number-count.result c.self.invariant spelled few count)
