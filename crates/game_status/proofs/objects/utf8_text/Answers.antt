use Rattle.game_status.proofs.NameLaws.{read_ok}
use Rattle.game_status.proofs.objects.utf8_text.Goals as goal

pub unwrap-requires : goal.unwrap-requires
unwrap-requires c = read_ok _ _ c.from_utf8.result c.from_utf8.ensures.cases c.requires
