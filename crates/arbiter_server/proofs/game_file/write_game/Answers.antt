use Rattle.std.proofs.Common.{◌≤◌, ◌∙◌, ℕ, List, ap, subst}
use Rattle.board_core.specs.Delays.{most_delay}
use Rattle.move_msg.specs.Stamps.{IsGameName}
use Rattle.arbiter_server.specs.GameFiles.{game_as_told, game_text}
use Rattle.arbiter_server.proofs.GameTexts.{lines_are}
use Rattle.arbiter_server.proofs.game_file.write_game.Goals as goal

pub returns-clause-text : goal.returns-clause-text
returns-clause-text c =
    lines_are c.as_bytes.result.now c.as_bytes-2.result.now c.args.start.now c.plies.result c.new-text.result.items c.push_line.new.out.items c.push_line-2.new.out.items c.push_line-3.new.out.items c.plies.ensures.in_range (c.as_bytes-2.ensures.value ∙ c.as_str.ensures.value ∙ c.write.ensures.text) c.new-text.ensures c.push_line.ensures.items c.push_line-2.ensures.items c.push_line-3.ensures.items
    ∙ ap (λ (name : List ℕ). game_text (game_as_told name c.args.start.now c.plies.result)) c.as_bytes.ensures.bytes
    ∙ ap (λ (delay : ℕ). game_text (game_as_told c.args.name.now c.args.start.now delay)) c.plies.ensures.value

pub returns-clause-spells : goal.returns-clause-spells
returns-clause-spells c = (record { name = subst IsGameName c.as_bytes.ensures.bytes c.as_bytes.ensures.name; start = c.parts-conditions.ensures.position; delay = subst (λ (delay : ℕ). delay ≤ most_delay) c.plies.ensures.value c.plies.ensures.in_range }, returns-clause-text c)
