-- The folders of games that the words of `serve` name (this project's own).
use Rattle.std.specs.Prelude.{Option, option_map}
use Rattle.command_line.specs.declared.commands.serve.Serve.{Serve}
use Rattle.http_answer.specs.Games.{GamesByClock, unread_games}
use Rattle.serve_core.specs.declared.task.Serving.{Serving}

-- on the system that the task is answered over, and by its clock; no report on them was read yet
abbrev pub games_for : {T G : Type 0} → Serving T G → Serve → Option (GamesByClock G T)
games_for by t = option_map (λ games. unread_games (record { system = by.system.now; games = games.now; other = option_map (λ s. s.now) t.other }) by.times.now) t.games
