use Rattle.pgn_games.proofs.ExportLaws.{export_spells_scores}
use Rattle.pgn_games.proofs.laws.export_spells_scores.Goals as goal

pub returns : goal.returns
returns c =
    export_spells_scores c.is_read_back.ensures c.position_after_is_computed.ensures c.position_after_is_a_position.ensures
