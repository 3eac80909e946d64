use Rattle.probe_api.proofs.Shown.{board_shows}
use Rattle.probe_api.proofs.after.board_shows_its_position.Goals as goal

pub returns : goal.returns
returns c = board_shows
