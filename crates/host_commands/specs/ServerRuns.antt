-- A run of a server of games, as a command has it (this project's own).
use Rattle.std.specs.Prelude.{◌≡◌, ◌<◌, ◌++◌, ℕ, false, List, [], ◌∷◌, Option, Some, None, Result, Ok, Err}
use Rattle.std.specs.List.{AllByRecursion}
use Rattle.arbiter_server.specs.Games.{CommonView}
use Rattle.game_folder.specs.Holdings.{GamesFacts}
use Rattle.game_server.specs.Printing.{LineForm}
use Rattle.game_server.specs.Runs.{AreWithin, GoesOnAfter, InTurns, RunEnds, Turn, came, run_events, with_last}
use Rattle.game_server.specs.Seats.{IsNewServer}
use Rattle.game_server.specs.declared.server.Server.{Server}
use Rattle.line_teller.specs.ToldLines.{refused_memory}
use Rattle.system_io.specs.declared.recipient.Recipient.{Recipient}
use Rattle.timeline.specs.Events.{Event}
use Rattle.timeline.specs.Outsides.{Outside}

-- the last turn ends the run with this status; without a status more turns may come
abbrev pub GoesTo : ℕ → ℕ → Option Turn → Option ℕ → Type 0
GoesTo n count last (Some status) = RunEnds n count last (Ok status)
GoesTo n count last None = last ≡ None

module _ {T P F K S L G : Type 0} (o : Outside T P F K S L) (facts : GamesFacts G) (most n : ℕ) (to : List Recipient) (form : LineForm) (old : Server G F) where
  -- Up to n datagrams are answered in turns, whose lines go out: all turns with the status, or the first of them with none. In each there is
  -- room for so many as may be answered together, and as are still to come.
  pub record AnswersAll (events : List Event) (status : Option ℕ) : Type 0 where
    pub turns : List Turn
    pub last : Option Turn
    pub new : Server G F
    pub going : AllByRecursion GoesOnAfter turns
    pub in_turn : InTurns o facts form [] old (with_last turns last) new
    pub within : AreWithin most n (with_last turns last)
    pub ends : GoesTo n (came turns) last status
    pub all : events ≡ run_events to (with_last turns last)

  -- in the last turn a line can't be written or can't go out, and nothing comes behind it
  pub record LosesLine (new : Server G F) (events : List Event) : Type 0 where
    pub turns : List Turn
    pub last : Turn
    pub going : AllByRecursion GoesOnAfter turns
    pub in_turn : InTurns o facts form [] old (turns ++ last ∷ []) new
    pub within : AreWithin most n (turns ++ last ∷ [])
    pub few : came turns < n
    pub lost : last.is_out ≡ false
    pub all : events ≡ run_events to (turns ++ last ∷ [])

-- there is a server over these games, none of which is open yet; or memory for it was refused; nothing happens for this
pub data IsServer {G F : Type 0} (common : CommonView) (games : G) (result : Result (Server G F) (List ℕ)) (events : List Event) : Type 0 where
  ServerIs : (server : Server G F) → IsNewServer common games server → result ≡ Ok server → events ≡ [] → IsServer common games result events
  NoRoomForServer : result ≡ Err refused_memory → events ≡ [] → IsServer common games result events
