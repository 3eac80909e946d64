-- What happens outside for a task (this project's own).
use Rattle.std.specs.Prelude.{◌≡◌, ℕ, List, Option, Some, None, Result, Ok, Err, option_map}
use Rattle.command_line.specs.declared.commands.Task.{Task}
use Rattle.command_line.specs.declared.commands.serve.Serve.{Serve}
use Rattle.host_commands.specs.Hosts.{Hosts}
use Rattle.host_commands.specs.Listens.{Listens}
use Rattle.command_line.specs.declared.commands.Task.TheVariants as task
use Rattle.timeline.specs.Events.{Event}
use Rattle.timeline.specs.Outsides.{AddsSome, Outside}
use Rattle.answer_commands.specs.Check.{check_reply}
use Rattle.answer_commands.specs.Enter.{EntersGames}
use Rattle.answer_commands.specs.Listing.{list_reply}
use Rattle.answer_commands.specs.Moves.{PrintsMoves}
use Rattle.answer_commands.specs.Endings.{Ends}
use Rattle.answer_commands.specs.Records.{audit_asking, record_asking}
use Rattle.answer_commands.specs.Replies.{RepliesBy, RepliesTo}
use Rattle.answer_commands.specs.TableReplies.{DoesByTables}
use Rattle.answer_commands.specs.Run.{RunsSchedule}
use Rattle.answer_commands.specs.Show.{ShowsMessages}
use Rattle.game_reports.specs.Audits.{AuditsGames}
use Rattle.game_reports.specs.GameRecords.{PrintsGameRecord}
use Rattle.game_reports.specs.Statuses.{ReportsStatus}
use Rattle.answer_commands.specs.Sending.{SendsInput}
use Rattle.answer_commands.specs.Version.{PrintsVersion}
use Rattle.answer_commands.specs.declared.answering.AnswerTask.{AnswerTask}
use Rattle.answer_commands.specs.declared.answering.AnswerTask.TheVariants as answer
use Rattle.answer_commands.specs.declared.by_tables.TableTask.TheVariants as table

-- the tasks that are answered over the timeline: all but `serve`
abbrev pub over_timeline : Task → Option AnswerTask
over_timeline (task.Version t) = Some answer.Version
over_timeline (task.Show t) = Some answer.Show
over_timeline (task.Moves t) = Some (answer.Moves t)
over_timeline (task.Run t) = Some (answer.Run t)
over_timeline (task.Record t) = Some (answer.Record t)
over_timeline (task.Audit t) = Some (answer.Audit t)
over_timeline (task.List t) = Some (answer.List t)
over_timeline (task.Check t) = Some (answer.Check t)
over_timeline (task.Judge t) = Some (answer.Table (table.Judge t))
over_timeline (task.Probe t) = Some (answer.Table (table.Probe t))
over_timeline (task.Enter t) = Some (answer.Enter t)
over_timeline (task.Probes t) = Some (answer.Table (table.Probes t))
over_timeline (task.Root t) = Some (answer.Table (table.Root t))
over_timeline (task.Game t) = Some (answer.Table (table.Game t))
over_timeline (task.Games t) = Some (answer.Table (table.Games t))
over_timeline (task.Pgn t) = Some (answer.Table (table.Pgn t))
over_timeline (task.Follow t) = Some (answer.Table (table.Follow t))
over_timeline (task.Status t) = Some (answer.Status t)
over_timeline (task.GameRecord t) = Some (answer.GameRecord t)
over_timeline (task.AuditGames t) = Some (answer.AuditGames t)
over_timeline (task.Send t) = Some (answer.Send t)
over_timeline (task.Listen t) = Some (answer.Listen t)
over_timeline (task.Host t) = Some (answer.Host t)
over_timeline (task.Serve t) = None

-- a task is one of these, or that of `serve`
abbrev pub IsOverTimeline : Task → Result AnswerTask Serve → Type 0
IsOverTimeline t (Ok over) = over_timeline t ≡ Some over
IsOverTimeline t (Err serve) = t ≡ task.Serve serve

-- the path of the file of keys that it names, if it does
abbrev pub key_of : AnswerTask → Option (List ℕ)
key_of (answer.Send t) = option_map (λ s. s.now) t.key
key_of (answer.Listen t) = option_map (λ s. s.now) t.key
key_of (answer.Host t) = option_map (λ s. s.now) t.key
key_of _ = None

-- what the command does, up to the output's end: these events, with this status
abbrev pub Does : {T P F K S L : Type 0} → Outside T P F K S L → AnswerTask → List Event → Option ℕ → Type 0
Does o answer.Version events status = PrintsVersion events status
Does o answer.Show events status = ShowsMessages o.input events status
Does o (answer.Moves t) events status = PrintsMoves t events status
Does o (answer.Run t) events status = RunsSchedule o t events status
Does o (answer.Record t) events status = RepliesBy o (record_asking t) events status
Does o (answer.Audit t) events status = RepliesBy o (audit_asking t) events status
Does o (answer.List t) events status = RepliesTo (list_reply o.disk t) events status
Does o (answer.Check t) events status = RepliesTo (check_reply o.disk t) events status
Does o (answer.Table t) events status = DoesByTables o t events status
Does o (answer.Enter t) events status = EntersGames o t events status
Does o (answer.Status t) events status = ReportsStatus o t events status
Does o (answer.GameRecord t) events status = PrintsGameRecord o t events status
Does o (answer.AuditGames t) events status = AuditsGames o t events status
Does o (answer.Send t) events status = SendsInput o t events status
Does o (answer.Listen t) events status = Listens o t events status
Does o (answer.Host t) events status = Hosts o t events status

-- so it is answered over what is known outside: what it does, and then the output's end
abbrev pub Answers : {T P F K S L : Type 0} → AnswerTask → Outside T P F K S L → T → T → ℕ → Type 0
Answers t o before after status = AddsSome o before after (Ends o after (Does o t) status)
