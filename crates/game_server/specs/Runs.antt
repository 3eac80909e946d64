-- A run of a server of games, over one timeline (this project's own).
use Rattle.std.specs.Prelude.{◌≡◌, ◌<◌, ◌+◌, ◌-◌, ◌++◌, ℕ, min, Bool, true, false, List, [], ◌∷◌, length, Option, Some, None, Result, Ok, Err}
use Rattle.std.specs.List.{AllByRecursion, flat_map}
use Rattle.arbiter_server.specs.declared.line.Line.{Line}
use Rattle.arbiter_server.specs.declared.line.Line.TheVariants as line
use Rattle.system_io.specs.declared.output.WriteFault.{WriteFault}
use Rattle.system_io.specs.declared.recipient.Recipient.{Recipient}
use Rattle.timeline.specs.Events.{Event, Missed}
use Rattle.timeline.specs.Outsides.{Adds, Outside}
use Rattle.game_folder.specs.Holdings.{GamesFacts}
use Rattle.game_server.specs.Printing.{LineForm, WritesLines, after_lines, form_in}
use Rattle.game_server.specs.Rounds.{IsRound, Round, TakesUpTo, is_loss, lines_of, round_events}
use Rattle.game_server.specs.declared.running.PortServer.{PortServer}
use Rattle.game_server.specs.declared.server.Server.{Server}

-- datagrams came, and were answered; or none could be received
pub data Deed : Type 0 where
  Answers : (round : Round) → Deed
  HearsNone : Deed

-- what was done, and then its lines went out by these events; or the output failed at one of them
pub record Turn : Type 0 where
  pub deed : Deed
  pub lines : List Event
  pub is_out : Bool

abbrev pub deed_events : List Recipient → Deed → List Event
deed_events to (Answers round) = round_events to round
deed_events to HearsNone = Missed ∷ []

abbrev pub deed_lines : Deed → List Line
deed_lines (Answers round) = lines_of round.heard round.committed
deed_lines HearsNone = line.PortLost ∷ []

abbrev pub turn_events : List Recipient → Turn → List Event
turn_events to t = deed_events to t.deed ++ t.lines

-- how many datagrams came
abbrev pub came_in : Deed → ℕ
came_in (Answers round) = length round.heard
came_in HearsNone = 0

abbrev pub came : List Turn → ℕ
came [] = 0
came (t ∷ ts) = came_in t.deed + came ts

-- the port is lost, or no more can be committed, which ends a run
abbrev pub ends_run : Deed → Bool
ends_run (Answers round) = is_loss round.committed
ends_run HearsNone = true

-- the run goes on after it
abbrev pub GoesOnAfter : Turn → Type 0
GoesOnAfter t = (ends_run t.deed ≡ false) × (t.is_out ≡ true)

module _ {T P F K S L G : Type 0} (o : Outside T P F K S L) (facts : GamesFacts G) where
  abbrev pub IsDeed : Server G F → Deed → Server G F → Type 0
  IsDeed old (Answers round) new = IsRound o facts old round new
  IsDeed old HearsNone new = new ≡ old

  -- one turn, after these texts
  pub record IsTurn (form : LineForm) (before : List (List ℕ)) (old : Server G F) (t : Turn) (new : Server G F) : Type 0 where
    pub deed : IsDeed old t.deed new
    pub lines : WritesLines form before (deed_lines t.deed) t.is_out t.lines

  -- one after another
  unfoldable pub InTurns : LineForm → List (List ℕ) → Server G F → List Turn → Server G F → Type 0
  InTurns form before old [] new = new ≡ old
  InTurns form before old (t ∷ ts) new = (mid : Server G F) × IsTurn form before old t mid × InTurns form (after_lines before (deed_lines t.deed)) mid ts new

-- the last turn ends a run with this status, or with this fault of the output
abbrev pub EndsBy : Turn → Result ℕ WriteFault → Type 0
EndsBy t (Ok status) = (ends_run t.deed ≡ true) × (t.is_out ≡ true) × (status ≡ 1)
EndsBy t (Err fault) = t.is_out ≡ false

-- there is room for so many datagrams of a round
abbrev pub IsWithin : ℕ → Deed → Type 0
IsWithin room (Answers round) = TakesUpTo room round.heard round.end
IsWithin room HearsNone = Unit {0}

-- in each turn for as many as may be answered together, and as are still to come
unfoldable pub AreWithin : ℕ → ℕ → List Turn → Type 0
AreWithin most left [] = Unit {0}
AreWithin most left (t ∷ ts) = IsWithin (min most left) t.deed × AreWithin most (left - came_in t.deed) ts

-- Where all so many datagrams came the status is 0. Otherwise one turn more was the last.
abbrev pub RunEnds : ℕ → ℕ → Option Turn → Result ℕ WriteFault → Type 0
RunEnds n count None result = (count ≡ n) × (result ≡ Ok 0)
RunEnds n count (Some t) result = (count < n) × EndsBy t result

abbrev pub with_last : List Turn → Option Turn → List Turn
with_last turns None = turns
with_last turns (Some t) = turns ++ t ∷ []

-- all that happens in turns, at a port with these recipients
abbrev pub run_events : List Recipient → List Turn → List Event
run_events to turns = flat_map (turn_events to) turns

-- A server answers so many datagrams, in turns of which the last alone may end the run, and nothing else happens.
pub record Serves {T P F K S L G : Type 0} (o : Outside T P F K S L) (facts : GamesFacts G) (most : ℕ) (form : LineForm) (before : List (List ℕ)) (n : ℕ) (to : List Recipient) (old new : Server G F) (t t' : T) (result : Result ℕ WriteFault) : Type 0 where
  pub turns : List Turn
  pub last : Option Turn
  pub going : AllByRecursion GoesOnAfter turns
  pub in_turn : InTurns o facts form before old (with_last turns last) new
  pub within : AreWithin most n (with_last turns last)
  pub ends : RunEnds n (came turns) last result
  pub happens : Adds o t t' (run_events to (with_last turns last))

-- so does one at a port, over the texts that it knows of none
abbrev pub ServesPort : {T P F K S L G : Type 0} → Outside T P F K S L → GamesFacts G → ℕ → PortServer G F → PortServer G F → P → T → T → Result ℕ WriteFault → Type 0
ServesPort o facts n old new port t t' result = Serves o facts old.replies.most (form_in old.lines) [] n (o.port port).to old.server new.server t t' result
