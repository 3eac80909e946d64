use Rattle.pgn_games.proofs.ExportLines.{export_is_read_back, only_export_is_read}
use Rattle.pgn_games.proofs.laws.export_is_read_back.Goals as goal

pub returns-clause-read : goal.returns-clause-read
returns-clause-read c =
    export_is_read_back c.position_after_is_computed.ensures c.position_after_is_a_position.ensures c.export_spells_scores.ensures c.scores_are_read_back.ensures.read

pub returns-clause-only : goal.returns-clause-only
returns-clause-only c =
    only_export_is_read (export_is_read_back c.position_after_is_computed.ensures c.position_after_is_a_position.ensures c.export_spells_scores.ensures c.scores_are_read_back.ensures.read) c.one_list_is_spelled.ensures
