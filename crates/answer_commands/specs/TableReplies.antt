-- What is answered by tables, which may be read when positions ask for them (this project's own).
use Rattle.std.specs.Borrow.{Bor}
use Rattle.std.specs.Prelude.{ℕ, List, Option, Some, None}
use Rattle.answer_commands.specs.Replies.{MakesReply, Making}
use Rattle.answer_commands.specs.declared.by_tables.TableTask.{TableTask}
use Rattle.answer_commands.specs.declared.by_tables.TableTask.TheVariants as table
use Rattle.command_line.specs.Commands.Game as games
use Rattle.command_line.specs.Commands.Judge as judges
use Rattle.command_line.specs.Commands.Probe as probes
use Rattle.command_line.specs.Commands.Root as roots
use Rattle.command_line.specs.declared.commands.game.FollowGame.{FollowGame}
use Rattle.command_line.specs.declared.commands.judge.Judge.{Judge}
use Rattle.command_line.specs.declared.commands.probe.Probe.{Probe}
use Rattle.command_line.specs.declared.commands.root.Root.{Root}
use Rattle.table_commands.specs.Follow.{FollowsGame}
use Rattle.table_commands.specs.FolderReads.{Doing}
use Rattle.table_commands.specs.Game.{PlaysGame}
use Rattle.table_commands.specs.Games.{games_asking}
use Rattle.table_commands.specs.Judge.{Judges}
use Rattle.table_commands.specs.LineTasks.{AnswersLinesOf}
use Rattle.table_commands.specs.Pgn.{JudgesPgn}
use Rattle.table_commands.specs.Probe.{Probes}
use Rattle.table_commands.specs.Probes.{probes_asking}
use Rattle.table_commands.specs.Root.{RanksText, root_asking}
use Rattle.timeline.specs.Outsides.{Outside}

-- the verdict on a position
abbrev pub judge_making : Judge → Making
judge_making t = record { named = judges.named t; Makes = λ disk. Judges disk t }

-- what tables tell of a position
abbrev pub probe_making : Probe → Making
probe_making t = record { named = probes.named t; Makes = λ disk. Probes disk t }

-- what the game of the input comes to
abbrev pub game_making : FollowGame → Making
game_making t = record { named = games.named t; Makes = λ disk. PlaysGame disk t }

-- what tables tell of the legal moves of the position of a text
abbrev pub root_making : Root → List ℕ → Making
root_making t text = record { named = roots.named t; Makes = λ disk. RanksText text disk t }

-- so it is of the position of the words, or of each line of the input
abbrev pub RanksOf : {T P F K S L : Type 0} → Outside T P F K S L → Root → Option (Bor (List ℕ)) → Doing
RanksOf o t (Some text) = MakesReply o (root_making t text.now)
RanksOf o t None = AnswersLinesOf o (root_asking t)

abbrev pub RanksMoves : {T P F K S L : Type 0} → Outside T P F K S L → Root → Doing
RanksMoves o t = RanksOf o t t.fen

-- what a command by tables does, up to the output's end
abbrev pub DoesByTables : {T P F K S L : Type 0} → Outside T P F K S L → TableTask → Doing
DoesByTables o (table.Judge t) = MakesReply o (judge_making t)
DoesByTables o (table.Probe t) = MakesReply o (probe_making t)
DoesByTables o (table.Probes t) = AnswersLinesOf o (probes_asking t)
DoesByTables o (table.Root t) = RanksMoves o t
DoesByTables o (table.Game t) = MakesReply o (game_making t)
DoesByTables o (table.Games t) = AnswersLinesOf o (games_asking t)
DoesByTables o (table.Pgn t) = JudgesPgn o t
DoesByTables o (table.Follow t) = FollowsGame o t
