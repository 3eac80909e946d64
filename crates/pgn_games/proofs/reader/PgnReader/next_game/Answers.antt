use Rattle.std.specs.Prelude.{option_map}
use Rattle.pgn_games.specs.Lines.{read_text}
use Rattle.pgn_games.specs.Games.{ReadsGame}
use Rattle.pgn_games.specs.Shown.{reading_of}
use Rattle.pgn_games.specs.Reading.{tokens_with}
use Rattle.pgn_games.specs.Inside.Owned.{course_of}
use Rattle.pgn_games.specs.Inside.Steps.{ReadsToEnd}
use Rattle.pgn_games.proofs.ReadLaws.{known_of, reading_told}
use Rattle.pgn_games.proofs.reader.PgnReader.next_game.Goals as goal

pub returns-clause-game : goal.returns-clause-game
returns-clause-game g c =
    let old = c.args.self.now in
    let cursor = c.tell_game.new.cursor in
    let first = course_of c.new-course.result in
    let last = course_of c.tell_game.new.course in
    known_of (λ o. tokens_with old.cursor (read_text o)) (λ n. tokens_with cursor (read_text n)) ((g.S.System.outside c.args.system.now).lines c.args.lines.now).left ((g.S.System.outside c.args.system.now).lines c.tell_game.new.lines).left (λ o n. ReadsToEnd first (tokens_with old.cursor (read_text o)) last (tokens_with cursor (read_text n))) (λ tokens behind. ReadsGame tokens (option_map reading_of c.reading.result) behind) (λ o n h. reading_told old.usual first last _ _ _ old.is_usual old.is_position c.new-course.ensures c.reading.ensures h) c.in_ok-tell_game.ensures.told
