-- What holds of all that a source sends.
use Rattle.std.specs.Prelude.{◌≡◌, ◌++◌, ◌∷◌, ℕ, List, Option, length}
use Rattle.std.specs.List.{Contains}
use Rattle.board_core.specs.declared.moves.Move.{Move as Moves}
use Rattle.board_core.specs.declared.parts.Parts.{Parts}
use Rattle.move_msg.specs.declared.stamp.Stamp.{Stamp}
use Rattle.move_msg.specs.Messages.{SpellsMessage}
use Rattle.std.specs.declared.net.socket_addr.SocketAddr.{SocketAddr}
use Rattle.system_io.specs.LineReaders.{LineFacts}
use Rattle.timeline.specs.Events.{Event, Sent}
use Rattle.source_core.specs.declared.lines.End.TheVariants as at_end
use Rattle.source_core.specs.declared.origin.Origin.TheVariants.{New}
use Rattle.source_core.specs.declared.report.Ruling.{Ruling}
use Rattle.source_core.specs.Origins.{RestsOnSent}
use Rattle.source_core.specs.Sendings.{causes}
use Rattle.source_core.specs.Turns.{move_message}
use Rattle.source_core.specs.Heard.{heard}
use Rattle.source_core.specs.Runs.{AreMoveTurns, HasEnded, MoveTurn, OnlySends, RunState, SourceTerms, run_from}
use Rattle.source_core.specs.declared.known.Known.{Known}

-- one number never has two moves, to whichever address they are sent and however often
abbrev pub SentNumberHasOneMove : Type 0
SentNumberHasOneMove = (stamp : Stamp) (moves : List Moves) (events : List Event) (to v : SocketAddr) (s t : List ℕ) (number : ℕ) (m n : Moves)
    → OnlySends stamp moves events → Contains events (Sent to s) → Contains events (Sent v t)
    → SpellsMessage s (move_message stamp number m) → SpellsMessage t (move_message stamp number n) → m ≡ n

-- of a game that has to be new no line `K acked` and no `verdict` rests on a move that the run hasn't sent, from whatever lines it is read
abbrev pub NewRunRestsOnSent : {L : Type 0} → (L → LineFacts) → Type 0
NewRunRestsOnSent {L} facts = (lines : L) (g : SourceTerms) (start : Parts) (input : Option (List ℕ)) (turns : List MoveTurn) (at : RunState) → AreMoveTurns g (run_from input start) turns at → g.terms.origin ≡ New
    → ((earlier later : List MoveTurn) (t : MoveTurn) → turns ≡ earlier ++ t ∷ later → RestsOnSent g.terms.stamp (length t.after.moves) (heard t.after.events))
    × ((sent : List Moves) (more : List Event) (r : Ruling) (known : Known) → HasEnded (causes (facts lines).fails (facts lines).takes_memory) g at sent more (at_end.Ruled r) known → RestsOnSent g.terms.stamp (length (at.moves ++ sent)) (heard (at.events ++ more)))
