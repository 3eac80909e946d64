-- What is answered to a schedule before it is written; cited by private functions alone.
use Rattle.std.specs.Prelude.{◌≡◌, ℕ, List, Option, map}
use Rattle.answer_commands.specs.Inside.Answering.{answer_lines, answer_status}
use Rattle.answer_commands.specs.Run.{IsRun, RunsInput, scheduled_game}
use Rattle.answer_commands.specs.declared.answers.Answer.{Answer}
use Rattle.command_line.specs.declared.commands.run.RunSchedule.{RunSchedule}
use Rattle.move_msg.specs.Files.{File, table_file_of}
use Rattle.move_msg.specs.declared.files.NamedFile.{NamedFile}
use Rattle.relay_world.specs.Runs.{GameView}
use Rattle.relay_world.specs.Texts.{SpellsSchedule}
use Rattle.relay_world.specs.declared.schedule.Schedule.{Schedule}
use Rattle.timeline.specs.Events.{Event}
use Rattle.timeline.specs.Outsides.{Outside}

-- to a text
abbrev pub IsRunAnswer : List ℕ → List File → ℕ → Answer → Type 0
IsRunAnswer text files delay answer = IsRun text files delay (answer_lines answer) (answer_status answer)

-- to any text of a schedule
abbrev pub AnswersSchedule : Schedule → List File → ℕ → Answer → Type 0
AnswersSchedule schedule files delay answer = (text : List ℕ) → SpellsSchedule text schedule → IsRunAnswer text files delay answer

-- by the game of a schedule
abbrev pub AnswersGame : GameView → Schedule → List File → Answer → Type 0
AnswersGame game schedule files answer = (delay : ℕ) → game ≡ scheduled_game schedule delay → AnswersSchedule schedule files delay answer

-- with these files
abbrev pub RunsRead : {T P F K S L : Type 0} → Outside T P F K S L → RunSchedule → List NamedFile → List Event → Option ℕ → Type 0
RunsRead o t files events status = RunsInput o.input t (map table_file_of files) events status
