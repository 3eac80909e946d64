-- What is answered to a schedule, and what is printed of it.
use Rattle.std.proofs.Common.{◌≡◌, ◌∷◌, [], ℕ, List, Option, ap, length, map, refl, subst}
use Rattle.std.specs.Prelude.{Result, Ok, Err, IfOk}
use Rattle.answer_commands.specs.Inputs.{IsInput}
use Rattle.answer_commands.specs.Inside.Answering.{PrintsAnswered, answer_lines, answer_status}
use Rattle.answer_commands.specs.Inside.Running.{AnswersGame, IsRunAnswer, RunsRead}
use Rattle.answer_parts.specs.Printing.{Performs, Prints}
use Rattle.answer_commands.specs.Run.{ByTables, NoRoomToRun, NoTables, Ran, ReadsFiles, RunsAll, RunsInput, RunsSchedule, scheduled_game, world_words}
use Rattle.answer_commands.specs.declared.answers.Answer.{Answer}
use Rattle.command_line.specs.declared.commands.run.RunSchedule.{RunSchedule}
use Rattle.line_teller.specs.ToldLines.{cut_words}
use Rattle.move_msg.specs.Files.{File, table_file_of}
use Rattle.move_msg.specs.declared.files.NamedFile.{NamedFile}
use Rattle.relay_world.specs.Runs.{GameView, Runs, TellsWorld, WorldView}
use Rattle.relay_world.specs.Texts.{SpellsSchedule}
use Rattle.relay_world.specs.Worlds.{Judged, World}
use Rattle.relay_world.specs.declared.event.Event.{Event as Step}
use Rattle.relay_world.specs.declared.schedule.Schedule.{Schedule}
use Rattle.system_io.specs.Inputs.{InputFacts}
use Rattle.system_io.specs.declared.output.WriteFault.{WriteFault}
use Rattle.system_io.specs.declared.reading.ReadFault.{ReadFault}
use Rattle.timeline.specs.Events.{Event, InputRead}
use Rattle.timeline.specs.Outsides.{AddsSome, Outside}
use Rattle.answer_parts.proofs.PrintLaws.{then_does, then_prints}
use Rattle.answer_commands.proofs.ScheduleLaws.{last_of}

-- the lines for the last world are the answer
pub ran : (text : List ℕ) (files : List File) (delay : ℕ) (schedule : Schedule) (game : GameView) (events : List Step) (told : WorldView) (answer : Answer) → SpellsSchedule text schedule → game ≡ scheduled_game schedule delay → events ≡ schedule.events.items → Runs game files events told
    → ((judged : Judged) (last : World) → TellsWorld judged told last → answer_lines answer ≡ world_words last) → answer_status answer ≡ 0 → IsRunAnswer text files delay answer
ran text files delay schedule game events told answer spells is_game are_events h tells zero =
    let by_game : Runs (scheduled_game schedule delay) files events told = subst (λ (g : GameView). Runs g files events told) is_game h in
    let runs : Runs (scheduled_game schedule delay) files schedule.events.items told = subst (λ (es : List Step). Runs (scheduled_game schedule delay) files es told) are_events by_game in
    let last = last_of runs.worlds (length schedule.events.items) runs.are.many in
    Ran schedule spells told runs last.0 last.1 (tells _ last.0 (runs.last last.0 last.1)) zero

-- what is printed of an answer, after the input was read
pub prints_run : {E : Type 0} (input : InputFacts) (t : RunSchedule) (files : List File) (text : List ℕ) (answered : Result Answer E) → IsInput input text → IfOk answered (IsRunAnswer text files t.delay)
    → (events : List Event) (status : Option ℕ) → PrintsAnswered answered events status → RunsInput input t files (InputRead (Ok text) ∷ events) status
prints_run input t files text (Ok answer) read h events status p = RunsAll text (answer_lines answer) (answer_status answer) read h (ap (λ (e : List Event). InputRead (Ok text) ∷ e) p.0) p.1
prints_run input t files text (Err e) read h events status p = NoRoomToRun text read (ap (λ (e : List Event). InputRead (Ok text) ∷ e) p.0) p.1

-- so it is of each text of the schedule
pub ran_all : {E : Type 0} (r : Result Answer E) (schedule : Schedule) (game : GameView) (files : List File) (told : WorldView) → Runs game files schedule.events.items told → IfOk r (λ a. (judged : Judged) (last : World) → TellsWorld judged told last → answer_lines a ≡ world_words last) → IfOk r (λ a. answer_status a ≡ 0)
    → IfOk r (AnswersGame game schedule files)
ran_all (Ok answer) schedule game files told runs lines zero = λ delay is_game text spells. ran text files delay schedule game schedule.events.items told answer spells is_game refl runs lines zero
ran_all (Err e) schedule game files told runs lines zero = tt

-- the files of the folder were read, and then the input
pub runs_by_tables : {T P F K S L : Type 0} (o : Outside T P F K S L) (a b c : T) (t : RunSchedule) (files : List NamedFile) (r : Result ℕ WriteFault) → AddsSome o a b (ReadsFiles o t (Ok (map table_file_of files))) → AddsSome o b c (Performs (RunsRead o t files) r)
    → AddsSome o a c (Performs (RunsSchedule o t) r)
runs_by_tables o a b c t files r p q =
    then_does o a b c p.0 (RunsRead o t files) (RunsSchedule o t) r (λ (events : List Event) (status : Option ℕ) (h : RunsRead o t files events status). ByTables (map table_file_of files) p.0 events p.2 h refl) p.1 q

-- they couldn't be read, which was printed
pub not_by_tables : {T P F K S L : Type 0} (o : Outside T P F K S L) (a b c : T) (t : RunSchedule) (fault : ReadFault) (r : Result ℕ WriteFault) → AddsSome o a b (ReadsFiles o t (Err fault)) → AddsSome o b c (Performs (Prints (cut_words fault ∷ []) 1) r)
    → AddsSome o a c (Performs (RunsSchedule o t) r)
not_by_tables o a b c t fault r p q = then_prints o a b c p.0 (RunsSchedule o t) (cut_words fault ∷ []) 1 r (NoTables fault p.0 p.2 refl refl) p.1 q
