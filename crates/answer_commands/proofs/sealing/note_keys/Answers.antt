use Rattle.std.proofs.Common.{ap}
use Rattle.answer_commands.specs.Sealed.{key_note, line_at_fault, shared_key}
use Rattle.answer_parts.specs.declared.answers.refusals.Refusal.{Refusal}
use Rattle.answer_commands.proofs.SealLaws.{noted_line}
use Rattle.answer_commands.proofs.sealing.note_keys.Goals as goal

pub returns-in-SharedKey : goal.returns-in-SharedKey
returns-in-SharedKey g c = noted_line (g.S.System.outside c.args.system.now) _ _ c.args.path.now (shared_key c.args.path.now) _ c.shared_line.result c.shared_line.ensures (ap (λ (why : Refusal). key_note c.args.path.now why) c.in-SharedKey.is) c.note_line.ensures

pub returns-in-Key : goal.returns-in-Key
returns-in-Key g c = noted_line (g.S.System.outside c.args.system.now) _ _ c.args.path.now (line_at_fault c.args.path.now c.in-Key.number) _ c.fault_line.result c.fault_line.ensures (ap (λ (why : Refusal). key_note c.args.path.now why) c.in-Key.is) c.note_line-in-Key.ensures
