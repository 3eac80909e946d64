-- In which order records are kept and acknowledged (this project's own).
use Rattle.std.specs.Prelude.{◌≡◌, ◌++◌, ℕ, List}
use Rattle.system_io.specs.declared.recipient.Recipient.{Recipient}
use Rattle.timeline.specs.Events.{Event}
use Rattle.timeline.specs.Outsides.{AddsSome, Outside}
use Rattle.game_folder.specs.Holdings.{GamesFacts}
use Rattle.game_server.specs.Backed.{EachEarned}
use Rattle.game_server.specs.Printing.{LineForm}
use Rattle.game_server.specs.Runs.{InTurns, Turn, run_events}
use Rattle.game_server.specs.Seats.{AreKnown}
use Rattle.game_server.specs.declared.server.Server.{Server}

-- what the open games of a server keep was known, and is; and each of these events was earned
pub record Earned {F G : Type 0} (facts : GamesFacts G) (old new : Server G F) (before more : List Event) : Type 0 where
  pub each : EachEarned (facts.places (facts.place old.shared.games)) before more
  pub known : AreKnown facts new (before ++ more)
  pub place : facts.place new.shared.games ≡ facts.place old.shared.games

-- THE LAW: over whatever places of games, each acknowledgement of so many moves that is sent in a run comes after a record of at least so
-- many was put or committed where that game's record is kept, or found there; and each verdict after a record with it
abbrev pub AcksAreEarned : {T P F K S L G : Type 0} → Outside T P F K S L → GamesFacts G → Type 0
AcksAreEarned {F} {G} o facts =
    (form : LineForm) (texts : List (List ℕ)) (to : List Recipient) (old new : Server G F) (turns : List Turn) (before : List Event)
    → AreKnown facts old before → InTurns o facts form texts old turns new → Earned facts old new before (run_events to turns)

-- from one moment to a later one each acknowledgement and each verdict that was sent was earned
abbrev pub EarnsFrom : {T P F K S L G : Type 0} → Outside T P F K S L → GamesFacts G → Server G F → Server G F → T → T → Type 0
EarnsFrom o facts old new t t' = AddsSome o t t' (λ more. (before : List Event) → AreKnown facts old before → Earned facts old new before more)
