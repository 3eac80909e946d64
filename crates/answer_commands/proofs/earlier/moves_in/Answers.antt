use Rattle.std.proofs.Common.{refl}
use Rattle.std.proofs.lemmas.Bool.{false≢true}
use Rattle.answer_commands.proofs.EarlierLaws.{counted, other_stamp}
use Rattle.answer_commands.proofs.earlier.moves_in.Goals as goal

pub returns-in-Some : goal.returns-in-Some
returns-in-Some c = counted c.args.bytes.now c.args.stamp _ (c.if-has_stamp.ensures.0 refl) c.in-Some.ensures.some

pub returns-else-has_stamp : goal.returns-else-has_stamp
returns-else-has_stamp c = other_stamp c.args.bytes.now c.args.stamp (λ at. false≢true (c.if-has_stamp.ensures.1 at))
