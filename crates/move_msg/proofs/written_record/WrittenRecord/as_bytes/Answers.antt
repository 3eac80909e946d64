use Rattle.std.proofs.Common.{◌≤◌, ℕ, List, length, sym, subst}
use Rattle.move_msg.proofs.RecordLaws.{written_length}
use Rattle.move_msg.proofs.written_record.WrittenRecord.as_bytes.Goals as goal

pub returns-clause-size : goal.returns-clause-size
returns-clause-size c = subst (λ (t : List ℕ). length t ≤ 8217) (sym c.as_slice.ensures.value) (written_length c.self.inside.bytes.items c.self.inside.record c.self.invariant)
