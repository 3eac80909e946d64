-- Laws over the worlds of a schedule. The functions of src/laws.rt carry these.
use Rattle.std.specs.Prelude.{◌≡◌, ◌≤◌, ◌<◌, ◌↔◌, ◌⊎◌, ℕ, true, List, [], ◌++◌, length, min, slice_get, take, Some, None, Ok, IsSome, IsTrue, option_map}
use Rattle.board_core.specs.declared.moves.Move.{Move as Moves}
use Rattle.board_core.specs.declared.verdict.Verdict.{Verdict as Ruling}
use Rattle.move_msg.specs.Numbers.{most_moves}
use Rattle.move_msg.specs.declared.message.Message.TheVariants.{Ack, Verdict, Move}
use Rattle.move_msg.specs.declared.stamp.Stamp.{Stamp}
use Rattle.move_msg.specs.declared.arbiter_id.Sender.{Sender}
use Rattle.move_msg.specs.declared.arbiter_id.ArbiterId.{ArbiterId}
use Rattle.move_msg.specs.declared.message.Message.{Message}
use Rattle.move_msg.specs.declared.arbiter_id.Sender.TheVariants.{Source}
use Rattle.move_msg.specs.declared.arbiter_id.ArbiterId.TheVariants.{A, B}
use Rattle.board_core.specs.Position.{IsPosition}
use Rattle.judge_core.specs.Tables.{Tables}
use Rattle.judge_core.specs.declared.game.GameOutcome.{GameOutcome}
use Rattle.judge_core.specs.Games.{IsFirst, IsOutcome, IsUnruled, Rules, judged_after, plies_to, position_after_all}
use Rattle.arbiter_core.specs.Answering.{sent_by}
use Rattle.arbiter_core.specs.Recording.{Recorded, last_ply, move_count, reaches, record_at}
use Rattle.relay_world.specs.declared.event.Event.{Event}
use Rattle.relay_world.specs.Worlds.{Judged, World, first_world, side_in, world_after_all}
use Rattle.relay_world.specs.Gathering.{tables_of}
use Rattle.relay_world.specs.Headline.{kept_count}
use Rattle.relay_world.specs.InOrder.{RunsThrough, all_in_order, brought, is_running}
use Rattle.relay_world.specs.NoTables.{HasNoTable, IsFirstEnd}
use Rattle.move_msg.specs.Files.{File}
use Rattle.relay_world.specs.Runs.{GameView, Runs, WorldView}

-- the world after these events
abbrev pub world_after : Judged → List Event → World
world_after game events = world_after_all game (first_world game) events

-- how many moves one of the two keeps in a world
abbrev pub count_in : World → ArbiterId → ℕ
count_in world who = kept_count (side_in world who).kept

-- A game reaches a ply exactly where its moves up to it are there and legal in turn, and no earlier ply has a verdict.
abbrev pub ReachedPlies : Type 0
ReachedPlies =
    (rules : Rules) (game : List Moves) (ply : ℕ) → (reaches rules game ply ≡ true) ↔ ((ply ≤ length game) × IsSome (position_after_all rules.start (take ply game)) × IsUnruled rules game ply)

-- A kept count never falls.
abbrev pub CountsGrow : Type 0
CountsGrow = (game : Judged) (early late : List Event) (who : ArbiterId) → count_in (world_after game early) who ≤ count_in (world_after game (early ++ late)) who

-- No Ack tells more than its sender keeps, then and later.
abbrev pub AcksAreKept : Type 0
AcksAreKept =
    (game : Judged) (early late : List Event) (i : ℕ) (stamp : Stamp) (who : ArbiterId) (n : ℕ) → slice_get (world_after game early).log i ≡ Some (Ack stamp who n)
    → n ≤ count_in (world_after game (early ++ late)) who

-- Each verdict that is sent is the first of the game, with its ply.
abbrev pub VerdictsAreFirst : Type 0
VerdictsAreFirst =
    (game : Judged) (events : List Event) (i : ℕ) (stamp : Stamp) (who : ArbiterId) (ply : ℕ) (v : Ruling) → slice_get (world_after game events).log i ≡ Some (Verdict stamp who ply v)
    → IsFirst game.rules game.moves ply v

-- A kept verdict stays, and the record with it.
abbrev pub VerdictsStay : Type 0
VerdictsStay =
    (game : Judged) (early late : List Event) (who : ArbiterId) (kept : Recorded) (v : Ruling) → (side_in (world_after game early) who).kept ≡ Some kept → kept.verdict ≡ Some v
    → (side_in (world_after game (early ++ late)) who).kept ≡ Some kept

-- An arbiter that runs through a stretch, in which the moves up to number n came in rising order, keeps n moves, or as many as
-- the game reaches.
abbrev pub RisingOrder : Type 0
RisingOrder =
    (game : Judged) (early late : List Event) (who : ArbiterId) → length game.moves ≤ most_moves → RunsThrough game (world_after game early) who late
    → min (brought game (world_after game early) who late 0) (last_ply game.rules game.moves) ≤ count_in (world_after_all game (world_after game early) late) who

-- Each move in the log is the game's at its number, whoever sent it.
abbrev pub MovesAreTheGames : Type 0
MovesAreTheGames =
    (game : Judged) (events : List Event) (i : ℕ) (stamp : Stamp) (sender : Sender) (n : ℕ) (m : Moves) → slice_get (world_after game events).log i ≡ Some (Move stamp sender n m)
    → slice_get game.moves n ≡ Some m

-- what one of the two keeps after these events
abbrev pub KeepsAfter : Judged → List Event → ArbiterId → Recorded → Type 0
KeepsAfter game events who kept = (side_in (world_after game events) who).kept ≡ Some kept

-- the record has all moves of the game, or its verdict
abbrev pub IsAll : Judged → Recorded → Type 0
IsAll game kept = (kept.moves ≡ game.moves) ⊎ IsSome kept.verdict

-- Two records of a game that have all of its moves or its verdict are equal, whichever arbiter keeps them and whatever happened.
abbrev pub WholeRecordsAreOne : Type 0
WholeRecordsAreOne =
    (game : Judged) (events others : List Event) (who other : ArbiterId) (one two : Recorded) → KeepsAfter game events who one → KeepsAfter game others other two
    → IsAll game one → IsAll game two → one ≡ two

-- the position at this ply has this ruling, and no position before it has one
pub record IsLeastRuling (rules : Rules) (moves : List Moves) (ply : ℕ) (v : Ruling) : Type 0 where
  pub ruled : judged_after rules.tables rules.start (take ply moves) ≡ Some v
  pub earlier : (j : ℕ) → j < ply → judged_after rules.tables rules.start (take j moves) ≡ None

-- With a delay of 0 a record has a verdict exactly where its ply is the least of the game whose position has a ruling, and the
-- verdict is that ruling.
abbrev pub NoDelayIsLeastRuling : Type 0
NoDelayIsLeastRuling =
    (game : Judged) (events : List Event) (who : ArbiterId) (kept : Recorded) (v : Ruling) → game.rules.delay ≡ 0 → KeepsAfter game events who kept
    → (kept.verdict ≡ Some v) ↔ IsLeastRuling game.rules game.moves (move_count kept) v

-- Without tables a record has a verdict exactly where its ply is the first at which the game ends on the board: by checkmate, by
-- stalemate, or by bare kings.
abbrev pub NoTablesIsTheBoard : Type 0
NoTablesIsTheBoard =
    (game : Judged) (events : List Event) (who : ArbiterId) (kept : Recorded) (v : Ruling) → IsPosition game.rules.start → HasNoTable game.rules.tables
    → KeepsAfter game events who kept → (kept.verdict ≡ Some v) ↔ IsFirstEnd game.rules game.moves (move_count kept) v

-- No files give no table.
abbrev pub NoFilesAreNoTables : Type 0
NoFilesAreNoTables = (tables : Tables) → tables_of [] ≡ Ok tables → HasNoTable tables

-- The last ply that a game reaches is that of its first verdict, the one before its first illegal move, or that of its end.
abbrev pub LastPlyIsOutcome : Type 0
LastPlyIsOutcome = (rules : Rules) (game : List Moves) (outcome : GameOutcome) → IsOutcome rules game outcome → last_ply rules game ≡ plies_to game outcome

-- Whatever happened before, an arbiter that runs and is then handed the moves of the game in order, with puts that succeed, keeps
-- the record of the last ply that the game reaches. In another order it need not: a move 32 ahead of the count is refused.
abbrev pub InOrderKeepsAll : Type 0
InOrderKeepsAll =
    (game : Judged) (early : List Event) (who : ArbiterId) → length game.moves ≤ most_moves → IsTrue (is_running (side_in (world_after game early) who).life)
    → KeepsAfter game (early ++ all_in_order who game) who (record_at game.rules game.moves (last_ply game.rules game.moves))

-- So two that run and are each handed them keep one record.
abbrev pub InOrderKeepsOne : Type 0
InOrderKeepsOne =
    (game : Judged) (early : List Event) → length game.moves ≤ most_moves
    → IsTrue (is_running (world_after game early).a.life) → IsTrue (is_running (world_after game early).b.life)
    → let late = world_after game (early ++ all_in_order A game ++ all_in_order B game) in late.a.kept ≡ late.b.kept

-- Message n of a source is the Move with number n and the game's move n, and there are no others.
abbrev pub IsSentGame : Stamp → List Moves → List Message → Type 0
IsSentGame stamp moves log = (n : ℕ) → slice_get log n ≡ option_map (Move stamp Source n) (slice_get moves n)

-- The log of a first world is that list, so that the messages that a sender of the game sends are it.
abbrev pub SourceSendsTheGame : Type 0
SourceSendsTheGame = (stamp : Stamp) (moves : List Moves) (log : List Message) → (log ≡ sent_by stamp Source 0 moves) ↔ IsSentGame stamp moves log

-- A run of a game tells one thing, by its files and its events alone, whatever the number of blocks that the caches hold.
abbrev pub RunsTellOne : Type 0
RunsTellOne = (given : GameView) (files : List File) (events : List Event) (told other : WorldView) → Runs given files events told → Runs given files events other → told ≡ other
