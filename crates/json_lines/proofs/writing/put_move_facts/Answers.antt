use Rattle.std.proofs.lemmas.Result.{on_ok_weaker}
use Rattle.std.specs.Prelude.{codes}
use Rattle.fen_text.specs.Coordinates.{move_text}
use Rattle.json.specs.Json.{string}
use Rattle.json_lines.specs.Objects.{after_members}
use Rattle.json_lines.proofs.Whole.{move_written}
use Rattle.json_lines.proofs.writing.put_move_facts.Goals as goal

pub returns : goal.returns
returns g c = on_ok_weaker c.put_after.result (λ h. move_written c.args.later (codes "uci") (string (move_text c.args.told.now.played)) (after_members c.args.told.now) _ _ _ _ c.in_ok-put_begin.ensures c.in_ok-put_uci.ensures h) c.put_after.ensures
