-- `send`: the moves of the input are sent (this project's own).
use Rattle.std.specs.Prelude.{◌≡◌, ◌*◌, ◌++◌, ◌==◌, ◌&&◌, not, cond, is_some, ℕ, Bool, true, false, List, [], ◌∷◌, Option, Some, None, Result, Ok, Err, IfSome, codes, take}
use Rattle.std.specs.Duration.{as_nanos}
use Rattle.std.specs.Fmt.{decimal}
use Rattle.answer_commands.specs.SentGames.{ReadsSent}
use Rattle.answer_commands.specs.declared.sent_game.GameSent.{GameSent}
use Rattle.answer_parts.specs.Printing.{printed}
use Rattle.command_line.specs.declared.commands.send.Send.{Send}
use Rattle.host_commands.specs.Binds.{BindsPort}
use Rattle.host_commands.specs.Steps.{ThenOrRefused}
use Rattle.line_teller.specs.ToldLines.{refused_memory}
use Rattle.move_msg.specs.TextLines.{ended}
use Rattle.move_msg.specs.declared.stamp.Stamp.{Stamp}
use Rattle.move_notation.specs.Notations.{notation_by}
use Rattle.source_core.specs.Lines.{ended_status}
use Rattle.source_core.specs.Origins.{origin_by}
use Rattle.source_core.specs.Runs.{SendsOn, source_terms}
use Rattle.source_core.specs.Sendings.{causes}
use Rattle.source_core.specs.declared.known.Known.{Known}
use Rattle.source_core.specs.declared.known.Reported.{Reported}
use Rattle.source_core.specs.declared.lines.Ended.{Ended}
use Rattle.source_core.specs.declared.lines.Ended.TheVariants as run
use Rattle.source_core.specs.declared.turn.SendConfig.{SendConfig}
use Rattle.timeline.specs.Events.{Event, Flushed, FromInput, LinesOpened, Refused, Wrote}
use Rattle.timeline.specs.Outsides.{FailsOrIsKnown, Outside}
use Rattle.timeline.specs.declared.stream.Stream.TheVariants.{Errors}

-- ---- who was silent

-- an arbiter that has acknowledged no move and reported no verdict
abbrev pub is_silent : Reported → Bool
is_silent told = (told.count == 0) && not (is_some told.ruling)

-- no answer of it came, which is all that is known of it: it may run, and answer elsewhere; of any other it is told how many moves it has
-- acknowledged
abbrev pub silence_words : Reported → List ℕ
silence_words told = cond (is_silent told) (codes "no answer came") (codes "last acknowledged " ++ decimal told.count)

abbrev pub silence_a : Known → List ℕ
silence_a known = ended (codes "arbiter 1 " ++ silence_words known.a)

abbrev pub silence_b : Known → List ℕ
silence_b known = ended (codes "arbiter 2 " ++ silence_words known.b)

-- a line for each arbiter is written to the errors, and they go out; or a front of this, where a write was refused or they can't go out
pub data WritesSilence (known : Known) (events : List Event) : Type 0 where
  BothOut : events ≡ Wrote Errors (silence_a known) ∷ Wrote Errors (silence_b known) ∷ Flushed Errors ∷ [] → WritesSilence known events
  BothStuck : events ≡ Wrote Errors (silence_a known) ∷ Wrote Errors (silence_b known) ∷ Refused Errors ∷ [] → WritesSilence known events
  SecondCut : (count : ℕ) → events ≡ Wrote Errors (silence_a known) ∷ Wrote Errors (take count (silence_b known)) ∷ Refused Errors ∷ [] → WritesSilence known events
  FirstCut : (count : ℕ) → events ≡ Wrote Errors (take count (silence_a known)) ∷ Refused Errors ∷ [] → WritesSilence known events

-- so it is where a run ends because an arbiter doesn't answer; otherwise nothing is written
abbrev pub TellsSilent : Ended → List Event → Type 0
TellsSilent (run.With status) events = events ≡ []
TellsSilent (run.Lost known) events = WritesSilence known events

-- ---- at a port

-- the terms on which the moves of a game with this stamp are sent: the words tell whether the game has to be new, how the moves are
-- written, how often, and how many milliseconds the first try of a move waits
pub record AreTerms (t : Send) (stamp : Stamp) (terms : SendConfig) : Type 0 where
  pub is : terms.stamp ≡ stamp
  pub origin : terms.origin ≡ origin_by t.is_new
  pub notation : terms.notation ≡ notation_by t.san
  pub tries : terms.tries ≡ t.tries
  pub wait : as_nanos terms.wait ≡ t.wait * 1_000_000

-- lines that are those of the input
pub record AreOfInput {T P F K S L : Type 0} (o : Outside T P F K S L) (lines : L) : Type 0 where
  pub given : IfSome (o.lines lines).left o.input.gives
  pub known : o.input.is_told ≡ true → FailsOrIsKnown (o.lines lines)
  pub fails : (o.lines lines).fails → o.input.fails
  pub memory : (o.lines lines).takes_memory → o.input.takes_memory

-- a run of a source at a port, over lines
abbrev pub RunsAt : {T P F K S L : Type 0} → Outside T P F K S L → SendConfig → GameSent → P → L → List Event → Option Ended → Type 0
RunsAt o terms game port lines = SendsOn (causes (o.lines lines).fails (o.lines lines).takes_memory) (source_terms terms (o.port port)) game.start (o.lines lines).left

-- The lines of the input are opened, and their moves are sent; then it is said who was silent. Or memory for the lines was refused.
pub data SendsAt {T P F K S L : Type 0} (o : Outside T P F K S L) (t : Send) (game : GameSent) (port : P) (events : List Event) (status : Option ℕ) : Type 0 where
  Ran : (lines : L) → AreOfInput o lines → (terms : SendConfig) → AreTerms t game.stamp terms → (done : Ended) (running silence : List Event) → RunsAt o terms game port lines running (Some done) → TellsSilent done silence → events ≡ LinesOpened FromInput true ∷ running ++ silence → status ≡ Some (ended_status done) → SendsAt o t game port events status
  RunsOn : (lines : L) → AreOfInput o lines → (terms : SendConfig) → AreTerms t game.stamp terms → (running : List Event) → RunsAt o terms game port lines running None → events ≡ LinesOpened FromInput true ∷ running → status ≡ None → SendsAt o t game port events status
  NoRoomForLines : o.input.takes_memory → events ≡ LinesOpened FromInput false ∷ printed (refused_memory ∷ []) → status ≡ Some 1 → SendsAt o t game port events status

-- the port is bound to the address of the words, to send to each of theirs, and the moves are sent there; or it isn't
abbrev pub SendsFrom : {T P F K S L : Type 0} → Outside T P F K S L → Send → GameSent → List Event → Option ℕ → Type 0
SendsFrom o t game = ThenOrRefused (BindsPort o t.bind.now t.to.now) (SendsAt o t game)

-- ---- all of it

-- the game is read, and its moves are sent; or there is none, which is written
pub data SendsInput {T P F K S L : Type 0} (o : Outside T P F K S L) (t : Send) (events : List Event) (status : Option ℕ) : Type 0 where
  OfGame : (game : GameSent) (reading rest : List Event) → ReadsSent o.disk t t.game (Ok game) reading → SendsFrom o t game rest status → events ≡ reading ++ rest → SendsInput o t events status
  NoGame : (words : List ℕ) (reading : List Event) → ReadsSent o.disk t t.game (Err words) reading → events ≡ reading ++ printed (words ∷ []) → status ≡ Some 1 → SendsInput o t events status
