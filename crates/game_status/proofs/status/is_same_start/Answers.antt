use Rattle.std.proofs.Common.{◌∙◌}
use Rattle.game_status.proofs.GameLaws.{start_so}
use Rattle.game_status.proofs.status.is_same_start.Goals as goal

pub returns : goal.returns
returns c =
    start_so _ _ _ _ c.args.one.now c.args.other.now c.is_same_text.result c.one_position.ensures c.write-text.ensures.spells c.write-its.ensures.spells c.write-text.ensures.text c.write-its.ensures.text
    (c.as_bytes.ensures.value ∙ c.as_str.ensures.value) (c.as_bytes-2.ensures.value ∙ c.as_str-2.ensures.value) c.is_same_text.ensures
