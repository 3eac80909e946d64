use Rattle.game_status.proofs.NameLaws.{stamp_utf8}
use Rattle.answer_commands.proofs.earlier.stamp_text.Goals as goal

pub unwrap-requires : goal.unwrap-requires
unwrap-requires c = c.from_byte_string.ensures.variant.1 (rw c.digits_of-digits.ensures (stamp_utf8 c.args.stamp))
