use Rattle.game_status.proofs.NameLaws.{stamp_utf8}
use Rattle.game_status.proofs.objects.add_stamp.Goals as goal

pub utf8_text-requires : goal.utf8_text-requires
utf8_text-requires c = rw c.stamp_digits-digits.ensures (stamp_utf8 c.args.stamp)

pub returns : goal.returns
returns c = rw (c.utf8_text.ensures, c.stamp_digits-digits.ensures) at c.add_text.ensures
