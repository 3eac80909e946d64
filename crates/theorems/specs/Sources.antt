-- What holds of the moves that are sent, and how a run that sends them ends.
use Rattle.std.specs.Prelude.{◌≡◌, ◌<◌, ◌⊎◌, ◌++◌, ℕ, List, Option, Some, length, slice_get}
use Rattle.std.specs.List.{Contains}
use Rattle.std.specs.declared.net.socket_addr.SocketAddr.{SocketAddr}
use Rattle.board_core.specs.declared.moves.Move.{Move as Moves}
use Rattle.move_msg.specs.declared.message.Message.{Message}
use Rattle.move_msg.specs.declared.arbiter_id.ArbiterId.{ArbiterId}
use Rattle.move_msg.specs.Messages.{SpellsMessage}
use Rattle.relay_world.specs.Worlds.{Judged, first_world}
use Rattle.relay_world.specs.declared.event.Event.{Event}
use Rattle.relay_world.specs.Laws.{count_in, world_after}
use Rattle.judge_core.specs.Games.{IsFirst}
use Rattle.move_msg.specs.Messages.{stamp_in}
use Rattle.move_msg.specs.declared.arbiter_id.ArbiterId.TheVariants.{A, B}
use Rattle.source_core.specs.declared.report.Ruling.{Ruling}
use Rattle.source_core.specs.declared.known.Clash.{Clash}
use Rattle.source_core.specs.declared.known.Known.{Known}
use Rattle.source_core.specs.declared.lines.End.{End}
use Rattle.source_core.specs.declared.lines.End.TheVariants as at_end
use Rattle.source_core.specs.Heard.{heard}
use Rattle.source_core.specs.Reports.{HasAcknowledged, HasCome, HasRuled, IsAcked, IsClash, IsRuled}
use Rattle.source_core.specs.Runs.{AreMoveTurns, HasEnded, MoveTurn, OnlySends, RunState, SourceTerms, run_from}
use Rattle.source_core.specs.Sendings.{causes}
use Rattle.system_io.specs.LineReaders.{LineFacts}
use Rattle.system_io.specs.Ports.{Missed, Passing}
use Rattle.system_io.specs.declared.reading.ReadFault.{ReadFault}
use Rattle.timeline.specs.Events.{Sent}
use Rattle.timeline.specs.Events as timeline
use Rattle.theorems.specs.Progress.{HasNoVerdict}

-- Of a game whose moves a source sends, each datagram that it sends spells a message of the log with which the worlds of two arbiters begin:
-- what the headline asks of a source.
abbrev pub SendsTheLog : Type 0
SendsTheLog =
    (game : Judged) (all : List timeline.Event) (to : SocketAddr) (bytes : List ℕ) → OnlySends game.stamp game.moves all → Contains all (Sent to bytes)
    → (m : Message) × Contains (first_world game).log m × SpellsMessage bytes m

-- what came of the game was sent in a world of it
abbrev pub ComesOfWorld : Judged → List Event → List Passing → Type 0
ComesOfWorld game events all = (m : Message) → stamp_in m ≡ game.stamp → HasCome all m → (i : ℕ) × (slice_get (world_after game events).log i ≡ Some m)

-- What a source tells of such a game is so: the verdict that both have reported is the first of the game, no two verdicts differ, and
-- a move that both have acknowledged is kept by both.
pub record SourceTellsTheTruth (game : Judged) (events : List Event) (all : List Passing) : Type 0 where
  pub verdict : (r : Ruling) → IsRuled game.stamp r all → IsFirst game.rules game.moves r.ply r.verdict
  pub no_clash : (c : Clash) → IsClash game.stamp c all → ⊥
  pub kept_a : (n : ℕ) → IsAcked game.stamp n all → n < count_in (world_after game events) A
  pub kept_b : (n : ℕ) → IsAcked game.stamp n all → n < count_in (world_after game events) B

abbrev pub SourcesTellTheTruth : Type 0
SourcesTellTheTruth = (game : Judged) (events : List Event) (all : List Passing) → ComesOfWorld game events all → SourceTellsTheTruth game events all

-- ---- how a run ends

-- what a run did, up to its last line
pub record SourceRun : Type 0 where
  pub terms : SourceTerms
  pub input : Option (List ℕ)
  -- the moves that were acknowledged, and where the run stood behind them
  pub turns : List MoveTurn
  pub at : RunState
  -- one more move that was sent, or none; and what happened then
  pub sent : List Moves
  pub more : List timeline.Event
  -- with what it ended, and what it knew then
  pub end : End
  pub known : Known

-- all that it heard
abbrev pub all_heard : SourceRun → List Passing
all_heard r = heard (r.at.events ++ r.more)

-- it is a run by which a source sends this game, to an end
pub record IsRunOfSource (cause : ReadFault → Type 0) (game : Judged) (r : SourceRun) : Type 0 where
  pub turns : AreMoveTurns r.terms (run_from r.input game.rules.start) r.turns r.at
  pub ends : HasEnded cause r.terms r.at r.sent r.more r.end r.known
  pub stamp : r.terms.terms.stamp ≡ game.stamp
  pub moves : game.moves ≡ r.at.moves ++ r.sent

-- A report of the whole game came of this arbiter: a verdict; or, of a game that has none, as many acknowledged moves as the game has.
abbrev pub HasReportedAll : Judged → List Passing → ArbiterId → Type 0
HasReportedAll game all who =
    ((r : Ruling) × HasRuled game.stamp who r all) ⊎ (HasNoVerdict game × HasAcknowledged game.stamp who (length game.moves) all)

-- The run ends as the game does: with its first verdict; or open, with all of its moves, where it has none. Or it ends by what no arbiter does:
-- nothing can be received at its port; or the next line can't be read, or is no move that is legal then, or is one too many.
abbrev pub EndsAsGame : Judged → List Passing → End → Type 0
EndsAsGame game all (at_end.Ruled r) = IsFirst game.rules game.moves r.ply r.verdict
EndsAsGame game all (at_end.Open count) = (count ≡ length game.moves) × HasNoVerdict game
EndsAsGame game all at_end.PortLost = Contains all Missed
EndsAsGame game all (at_end.NotAMove place) = Unit {0}
EndsAsGame game all (at_end.Illegal place) = Unit {0}
EndsAsGame game all at_end.TooLong = Unit {0}
EndsAsGame game all at_end.Unread = Unit {0}
EndsAsGame game all at_end.OutOfMemory = Unit {0}
EndsAsGame game all (at_end.Clashed c) = ⊥
EndsAsGame game all (at_end.Started s) = ⊥
EndsAsGame game all (at_end.Belied r) = ⊥
EndsAsGame game all at_end.Lost = ⊥

-- Where all that came of the game was sent in a world of it, and a report of the whole game came of both arbiters before the run ended, it ends
-- as the game does: in no disagreement, and with no arbiter counted as silent. From whatever lines it is read.
abbrev pub SourcesGetOn : {L : Type 0} → (L → LineFacts) → Type 0
SourcesGetOn {L = L} facts =
    (lines : L) (game : Judged) (events : List Event) (r : SourceRun) → IsRunOfSource (causes (facts lines).fails (facts lines).takes_memory) game r
    → ComesOfWorld game events (all_heard r) → ((who : ArbiterId) → HasReportedAll game (all_heard r) who) → EndsAsGame game (all_heard r) r.end
