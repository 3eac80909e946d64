-- Commands and tasks: a list for each thing that the program asks of a command (this project's own).
use Rattle.std.specs.Prelude.{◌≡◌, ◌⊎◌, List, [], ◌∷◌, Option, Some, None, Result, Ok, Err, codes, drop, slice_get}
use Rattle.clap.specs.Words.{App, IsAmong, Rule, Text, kind_of, new_app}
use Rattle.command_line.specs.Rules.{argument_value, with_rules, words_fault}
use Rattle.command_line.specs.Commands.Judge as judges
use Rattle.command_line.specs.Commands.Probe as probes
use Rattle.command_line.specs.Commands.Moves as of_moves
use Rattle.command_line.specs.Commands.List as lists
use Rattle.command_line.specs.Commands.Check as checks
use Rattle.command_line.specs.Commands.Show as shows
use Rattle.command_line.specs.Commands.Run as runs
use Rattle.command_line.specs.Commands.Listen as listens
use Rattle.command_line.specs.Commands.Probes as of_probes
use Rattle.command_line.specs.Commands.Game as games
use Rattle.command_line.specs.Commands.Games as of_games
use Rattle.command_line.specs.Commands.Pgn as of_pgn
use Rattle.command_line.specs.Commands.Send as sends
use Rattle.command_line.specs.Commands.Enter as enters
use Rattle.command_line.specs.Commands.Host as hosts
use Rattle.command_line.specs.Commands.Root as roots
use Rattle.command_line.specs.Commands.Follow as follows
use Rattle.command_line.specs.Commands.Status as statuses
use Rattle.command_line.specs.Commands.Serve as serves
use Rattle.command_line.specs.Commands.Record as records
use Rattle.command_line.specs.Commands.Audit as audits
use Rattle.command_line.specs.Commands.AuditGames as game_audits
use Rattle.command_line.specs.Commands.GameRecord as game_records
use Rattle.command_line.specs.Commands.Version as versions
use Rattle.command_line.specs.Misuses.{AsksForHelp, Fault, IsFirstMisuse, fault_words}
use Rattle.command_line.specs.declared.words.usage.Misuse.{Misuse}
use Rattle.command_line.specs.declared.words.usage.Misuse.TheVariants as misuse
use Rattle.command_line.specs.declared.words.usage.ValueFault.{ValueFault}
use Rattle.command_line.specs.declared.commands.Name.{Name}
use Rattle.command_line.specs.declared.commands.Name.TheVariants as name
use Rattle.command_line.specs.declared.commands.Task.{Task}
use Rattle.command_line.specs.declared.commands.Task.TheVariants as task

-- ---- by the command

-- the word that names it
abbrev pub command_word : Name → Text
command_word name.Judge = codes "judge"
command_word name.Probe = codes "probe"
command_word name.Moves = codes "moves"
command_word name.List = codes "list"
command_word name.Check = codes "check"
command_word name.Show = codes "show"
command_word name.Run = codes "run"
command_word name.Listen = codes "listen"
command_word name.Probes = codes "probes"
command_word name.Game = codes "game"
command_word name.Games = codes "games"
command_word name.Pgn = codes "pgn"
command_word name.Record = codes "record"
command_word name.Audit = codes "audit"
command_word name.Version = codes "version"
command_word name.Send = codes "send"
command_word name.Enter = codes "enter"
command_word name.Host = codes "host"
command_word name.Root = codes "root"
command_word name.Follow = codes "follow"
command_word name.Status = codes "status"
command_word name.Serve = codes "serve"

-- what it is given
abbrev pub command_rules : Name → List Rule
command_rules name.Judge = judges.rules
command_rules name.Probe = probes.rules
command_rules name.Moves = of_moves.rules
command_rules name.List = lists.rules
command_rules name.Check = checks.rules
command_rules name.Show = shows.rules
command_rules name.Run = runs.rules
command_rules name.Listen = listens.rules
command_rules name.Probes = of_probes.rules
command_rules name.Game = games.rules
command_rules name.Games = of_games.rules
command_rules name.Pgn = of_pgn.rules
command_rules name.Record = records.rules
command_rules name.Audit = audits.rules
command_rules name.Version = versions.rules
command_rules name.Send = sends.rules
command_rules name.Enter = enters.rules
command_rules name.Host = hosts.rules
command_rules name.Root = roots.rules
command_rules name.Follow = follows.rules
command_rules name.Status = statuses.rules
command_rules name.Serve = serves.rules

-- what may be wrong with its values, in the order in which it is told; with some values something else than with others
abbrev pub faults_of : Name → (Text → Option Text) → List Fault
faults_of name.Judge value = judges.faults
faults_of name.Probe value = probes.faults
faults_of name.Moves value = of_moves.faults
faults_of name.List value = lists.faults
faults_of name.Check value = checks.faults
faults_of name.Show value = shows.faults
faults_of name.Run value = runs.faults
faults_of name.Listen value = listens.faults
faults_of name.Probes value = of_probes.faults
faults_of name.Game value = games.faults
faults_of name.Games value = of_games.faults
faults_of name.Pgn value = of_pgn.faults
faults_of name.Record value = game_records.faults_by (value (codes "games"))
faults_of name.Audit value = game_audits.faults_by (value (codes "games")) (value (codes "other"))
faults_of name.Version value = versions.faults
faults_of name.Send value = sends.faults
faults_of name.Enter value = enters.faults value
faults_of name.Host value = hosts.faults
faults_of name.Root value = roots.faults
faults_of name.Follow value = follows.faults
faults_of name.Status value = statuses.faults
faults_of name.Serve value = serves.faults

-- ---- by the task

abbrev pub task_name : Task → Name
task_name (task.Judge t) = name.Judge
task_name (task.Probe t) = name.Probe
task_name (task.Moves t) = name.Moves
task_name (task.List t) = name.List
task_name (task.Check t) = name.Check
task_name (task.Show t) = name.Show
task_name (task.Run t) = name.Run
task_name (task.Listen t) = name.Listen
task_name (task.Probes t) = name.Probes
task_name (task.Game t) = name.Game
task_name (task.Games t) = name.Games
task_name (task.Pgn t) = name.Pgn
task_name (task.Record t) = name.Record
task_name (task.GameRecord t) = name.Record
task_name (task.Audit t) = name.Audit
task_name (task.AuditGames t) = name.Audit
task_name (task.Version t) = name.Version
task_name (task.Send t) = name.Send
task_name (task.Enter t) = name.Enter
task_name (task.Host t) = name.Host
task_name (task.Root t) = name.Root
task_name (task.Follow t) = name.Follow
task_name (task.Status t) = name.Status
task_name (task.Serve t) = name.Serve

-- it has these values of its command's arguments
abbrev pub HasTaskValues : (Text → Option Text) → Task → Type 0
HasTaskValues value (task.Judge t) = judges.HasValues value t
HasTaskValues value (task.Probe t) = probes.HasValues value t
HasTaskValues value (task.Moves t) = of_moves.HasValues value t
HasTaskValues value (task.List t) = lists.HasValues value t
HasTaskValues value (task.Check t) = checks.HasValues value t
HasTaskValues value (task.Show t) = Unit {0}
HasTaskValues value (task.Run t) = runs.HasValues value t
HasTaskValues value (task.Listen t) = listens.IsListening value t
HasTaskValues value (task.Probes t) = of_probes.HasValues value t
HasTaskValues value (task.Game t) = games.HasValues value t
HasTaskValues value (task.Games t) = of_games.HasValues value t
HasTaskValues value (task.Pgn t) = of_pgn.HasValues value t
HasTaskValues value (task.Record t) = (value (codes "games") ≡ None) × records.HasValues value t
HasTaskValues value (task.GameRecord t) = game_records.HasValues value t
HasTaskValues value (task.Audit t) = game_audits.LacksFolders value × audits.HasValues value t
HasTaskValues value (task.AuditGames t) = game_audits.HasValues value t
HasTaskValues value (task.Version t) = Unit {0}
HasTaskValues value (task.Send t) = sends.HasValues value t
HasTaskValues value (task.Enter t) = enters.HasValues value t
HasTaskValues value (task.Host t) = hosts.HasValues value t
HasTaskValues value (task.Root t) = roots.HasValues value t
HasTaskValues value (task.Follow t) = follows.HasValues value t
HasTaskValues value (task.Status t) = statuses.HasValues value t
HasTaskValues value (task.Serve t) = serves.HasValues value t

-- ---- words

-- the command as the parser reads it
unfoldable pub app_for : Name → App
app_for name = with_rules (new_app (command_word name)) (command_rules name)

-- the command takes the words
abbrev pub TakesWords : App → List Text → Type 0
TakesWords app words = words_fault app words ≡ []

-- the words are `--version` alone
abbrev pub IsVersion : List Text → Type 0
IsVersion words = words ≡ codes "--version" ∷ []

-- the first word names this command; `--version` alone names `version`
abbrev pub NamesCommand : List Text → Name → Type 0
NamesCommand words n = (slice_get words 0 ≡ Some (command_word n)) ⊎ (IsVersion words × (n ≡ name.Version))

-- the words name no command, or there is none
abbrev pub NamesNoCommand : List Text → Type 0
NamesNoCommand words = (name : Name) → NamesCommand words name → ⊥

-- the words name the task's command, which takes them and gives the task's values
pub record IsTask (words : List Text) (t : Task) : Type 0 where
  pub named : NamesCommand words (task_name t)
  pub taken : TakesWords (app_for (task_name t)) words
  pub values : HasTaskValues (argument_value (app_for (task_name t)) words) t

-- the values are read as this task of the command; or this is the first thing that is wrong with them
abbrev pub IsReadAs : Name → (Text → Option Text) → Result Task ValueFault → Type 0
IsReadAs name value (Ok t) = (task_name t ≡ name) × HasTaskValues value t
IsReadAs name value (Err fault) = IsFirstMisuse value (faults_of name value) (fault_words fault)

-- the word names no command, and doesn't ask for help
abbrev pub IsUnknown : Text → Type 0
IsUnknown word = ((name : Name) → word ≡ command_word name → ⊥) × (AsksForHelp word → ⊥)

-- help of the command, or all of it, by the words behind a request for it; or the first of them names no command
abbrev pub IsHelpBy : List Text → Misuse → Type 0
IsHelpBy others misuse.Help = (others ≡ []) ⊎ ((word : Text) × (slice_get others 0 ≡ Some word) × AsksForHelp word)
IsHelpBy others (misuse.HelpOf command) = slice_get others 0 ≡ Some (command_word command)
IsHelpBy others (misuse.UnknownCommand word) = (slice_get others 0 ≡ Some word.now) × IsUnknown word.now
IsHelpBy others misuse.NoCommand = ⊥
IsHelpBy others (misuse.NoText word) = ⊥
IsHelpBy others (misuse.Refused command e) = ⊥
IsHelpBy others (misuse.Value command fault) = ⊥

-- the first word asks for help
abbrev pub WantsHelp : List Text → Type 0
WantsHelp words = (word : Text) × (slice_get words 0 ≡ Some word) × AsksForHelp word

-- what is wrong with the words, the first of these: there is none; the first asks for help, and the next, if there is one, names a
-- command, or asks for it too, or does neither; the first names no command; the command that
-- it names finds them wrong, in this way, at the first of them where it does; the command's values, of which this is the first that is wrong
abbrev pub IsMisuse : List Text → Misuse → Type 0
IsMisuse words misuse.NoCommand = words ≡ []
IsMisuse words misuse.Help = WantsHelp words × IsHelpBy (drop 1 words) misuse.Help
IsMisuse words (misuse.HelpOf command) = WantsHelp words × IsHelpBy (drop 1 words) (misuse.HelpOf command)
IsMisuse words (misuse.NoText word) = ⊥
IsMisuse words (misuse.UnknownCommand word) =
    (NamesNoCommand words × (slice_get words 0 ≡ Some word.now) × (AsksForHelp word.now → ⊥)) ⊎ (WantsHelp words × IsHelpBy (drop 1 words) (misuse.UnknownCommand word))
IsMisuse words (misuse.Refused command e) = NamesCommand words command × IsAmong (kind_of e) (words_fault (app_for command) words)
IsMisuse words (misuse.Value command fault) =
    NamesCommand words command × TakesWords (app_for command) words × IsFirstMisuse (argument_value (app_for command) words) (faults_of command (argument_value (app_for command) words)) (fault_words fault)
