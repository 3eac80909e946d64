-- The words of `audit --games DIR [--other DIR] --tables DIR [--manifest FILE]` (this project's own).
use Rattle.std.specs.Prelude.{◌≡◌, ◌++◌, false, List, [], ◌∷◌, Option, Some, None, codes, option_map}
use Rattle.clap.specs.Words.{Text}
use Rattle.task_files.specs.Sources.{Named}
use Rattle.command_line.specs.Misuses.{Fault, NoOption, NotWith, WordNotWith}
use Rattle.command_line.specs.declared.words.usage.Instead.TheVariants as instead
use Rattle.command_line.specs.Commands.Audit as one_game
use Rattle.command_line.specs.declared.commands.audit_games.AuditGames.{AuditGames}

-- no folder of games is named: then a game is told, and its kept files are
abbrev pub LacksFolders : (Text → Option Text) → Type 0
LacksFolders value = (value (codes "games") ≡ None) × (value (codes "other") ≡ None)

-- what only one game has
abbrev pub LacksGameWords : (Text → Option Text) → Type 0
LacksGameWords value = (value (codes "name") ≡ None) × (value (codes "start") ≡ None) × (value (codes "delay") ≡ None) × (value (codes "FILE") ≡ None)

-- the values of its arguments
pub record HasValues (value : Text → Option Text) (t : AuditGames) : Type 0 where
  pub games : Some t.games.now ≡ value (codes "games")
  pub no_game : LacksGameWords value
  pub other : option_map (λ s. s.now) t.other ≡ value (codes "other")
  pub tables : Some t.tables.now ≡ value (codes "tables")
  pub manifest : option_map (λ s. s.now) t.manifest ≡ value (codes "manifest")

-- what may be wrong with its values, in the order in which it is told
abbrev pub without_faults : List Fault
without_faults =
    NotWith instead.Games (codes "name")
    ∷ NotWith instead.Games (codes "start")
    ∷ NotWith instead.Games (codes "delay")
    ∷ WordNotWith instead.Games (codes "FILE") ∷ []

abbrev pub faults : List Fault
faults = NoOption (codes "games") ∷ without_faults ++ NoOption (codes "tables") ∷ []

-- and with those of `audit`, by the folders of games
abbrev pub faults_by : Option Text → Option Text → List Fault
faults_by None None = one_game.faults
faults_by None (Some other) = faults
faults_by (Some games) other = faults

-- what is read for it before it answers: its folders of games are not
abbrev pub named : AuditGames → Named
named t = record { folder = Some t.tables.now; manifest = option_map (λ s. s.now) t.manifest; input = false; kept = None; other_kept = None }
