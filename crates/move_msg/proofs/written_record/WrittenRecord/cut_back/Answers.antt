use Rattle.std.proofs.Common.{◌≤◌, ℕ, List, length, sym, subst}
use Rattle.move_msg.specs.declared.record_bytes.Record.{Record}
use Rattle.move_msg.proofs.WrittenLaws.{cut_long, went_back}
use Rattle.move_msg.proofs.written_record.WrittenRecord.cut_back.Goals as goal

pub rewrite-requires : goal.rewrite-requires
rewrite-requires c = subst (λ (t : List ℕ). 25 ≤ length t) (sym c.truncate-2.ensures.items) (cut_long c.self.inside.bytes.items c.self.inside.record c.args.count c.self.invariant)

pub invariant_of-self : goal.invariant_of-self
invariant_of-self c =
    let few : c.args.count ≤ length c.self.inside.record.moves = subst (λ (r : Record). c.args.count ≤ length r.moves) (sym c.self.view_is) c.requires in
    rw (c.rewrite.ensures, c.truncate-2.ensures.items, c.truncate.ensures) (went_back c.self.inside.bytes.items c.self.inside.record c.args.count c.self.invariant few)
