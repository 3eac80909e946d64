-- What tables say of the games of a file, and what the results that stand there are beside it (this project's own).
use Rattle.std.specs.Prelude.{◌≡◌, ℕ, Bool, true, false, List, [], Option, Some, None, Result, Ok, Err, codes, if◌then◌else◌}
use Rattle.std.specs.declared.alloc.AllocError.{AllocError}
use Rattle.board_core.specs.declared.verdict.Verdict.{Verdict}
use Rattle.board_core.specs.declared.verdict.Verdict.TheVariants.{WhiteMates, BlackMates, Stalemate, TableDraw, TableWhite, TableBlack, Stopped}
use Rattle.judge_core.specs.declared.game.GameOutcome.{GameOutcome}
use Rattle.judge_core.specs.declared.game.GameOutcome.TheVariants as outcome
use Rattle.judge_core.specs.Games.{IsOutcome}
use Rattle.judge_core.specs.Tables.{Tables}
use Rattle.pgn_games.specs.declared.game.GameResult.{GameResult}
use Rattle.pgn_games.specs.declared.game.GameResult.TheVariants.{WhiteWins, BlackWins, Draw, Unknown, Missing}
use Rattle.pgn_games.specs.Games.{GameTold}
use Rattle.pgn_teller.specs.declared.finding.Finding.{Finding}
use Rattle.pgn_teller.specs.declared.finding.Finding.TheVariants.{Agrees, Differs, Uncompared}
use Rattle.pgn_teller.specs.declared.rating.Ruled.{Ruled}
use Rattle.table_folder.specs.declared.fault.FileRefusal.{FileRefusal}
use Rattle.timeline.specs.Events.{Event}

-- the verdict gives the game to White (PGN standard, section 8.2.6: 1-0)
abbrev pub gives_white : Verdict → Bool
gives_white WhiteMates = true
gives_white BlackMates = false
gives_white Stalemate = false
gives_white TableDraw = false
gives_white TableWhite = true
gives_white TableBlack = false
gives_white Stopped = false

-- to Black (0-1)
abbrev pub gives_black : Verdict → Bool
gives_black WhiteMates = false
gives_black BlackMates = true
gives_black Stalemate = false
gives_black TableDraw = false
gives_black TableWhite = false
gives_black TableBlack = true
gives_black Stopped = false

-- to neither (1/2-1/2)
abbrev pub is_drawn : Verdict → Bool
is_drawn WhiteMates = false
is_drawn BlackMates = false
is_drawn Stalemate = true
is_drawn TableDraw = true
is_drawn TableWhite = false
is_drawn TableBlack = false
is_drawn Stopped = false

abbrev pub finding_by : Bool → Finding
finding_by true = Agrees
finding_by false = Differs

-- whether the result that stands there is the verdict's; a game that is told to go on, or of which nothing is told, isn't compared
abbrev pub agrees : Verdict → GameResult → Finding
agrees verdict WhiteWins = finding_by (gives_white verdict)
agrees verdict BlackWins = finding_by (gives_black verdict)
agrees verdict Draw = finding_by (is_drawn verdict)
agrees verdict Unknown = Uncompared
agrees verdict Missing = Uncompared

-- a verdict by whole tables; a game that a damaged table has stopped isn't compared
abbrev pub is_sound : Verdict → Bool
is_sound WhiteMates = true
is_sound BlackMates = true
is_sound Stalemate = true
is_sound TableDraw = true
is_sound TableWhite = true
is_sound TableBlack = true
is_sound Stopped = false

abbrev pub finding_of : Option Ruled → GameResult → Finding
finding_of None stands = Uncompared
finding_of (Some ruled) stands = if is_sound ruled.verdict then agrees ruled.verdict stands else Uncompared

-- the first verdict of a game and its ply, if it has one
abbrev pub ruled_by : GameOutcome → Option Ruled
ruled_by (outcome.Ruled ply verdict) = Some (record { ply = ply; verdict = verdict })
ruled_by (outcome.Illegal place) = None
ruled_by outcome.Going = None

-- by tables and a delay, this is the first verdict of a game of a file, or it has none
pub record IsFirstRuled (delay : ℕ) (tables : Tables) (game : GameTold) (ruled : Option Ruled) : Type 0 where
  pub outcome : GameOutcome
  pub is : IsOutcome (record { start = game.start; tables = tables; delay = delay }) game.moves outcome
  pub by : ruled ≡ ruled_by outcome

-- what a game is ruled as: its first verdict, or none; or the file of a table that it needs is refused
abbrev pub RulingTold : Type 0
RulingTold = Result (Option Ruled) FileRefusal

-- What a game is ruled as by what is known before it, such as the tables that are open, behind what is read for that; and what is known after it.
-- Or, behind that, memory is refused.
abbrev pub Ruling : Type 0 → Type 1
Ruling K = K → K → GameTold → Result RulingTold AllocError → List Event → Type 0

-- whatever a game is ruled as later it could have been ruled as before
abbrev pub RulesNoMore : {K : Type 0} → Ruling K → Ruling K → Type 0
RulesNoMore {K} Before After =
    (k next : K) (game : GameTold) (ruling : Result RulingTold AllocError) (events : List Event) → After k next game ruling events → Before k next game ruling events

-- by tables that are all there no file is refused
abbrev pub IsRulingBy : ℕ → Tables → GameTold → RulingTold → Type 0
IsRulingBy delay tables game (Ok ruled) = IsFirstRuled delay tables game ruled
IsRulingBy delay tables game (Err refusal) = ⊥

-- so it is by these tables, for which nothing is read
abbrev pub RulesBy : ℕ → Tables → Ruling (Unit {0})
RulesBy delay tables k next game (Ok ruling) events = IsRulingBy delay tables game ruling × (events ≡ [])
RulesBy delay tables k next game (Err e) events = events ≡ []

-- ---- in words

abbrev pub finding_word : Finding → List ℕ
finding_word Agrees = codes "agree"
finding_word Differs = codes "differ"
finding_word Uncompared = codes "-"

-- a result as a file has it, and a dash where it has none
abbrev pub result_word : GameResult → List ℕ
result_word WhiteWins = codes "1-0"
result_word BlackWins = codes "0-1"
result_word Draw = codes "1/2-1/2"
result_word Unknown = codes "*"
result_word Missing = codes "-"
