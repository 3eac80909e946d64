-- Laws over a host's acts, and over the lines of a server. The functions of src/laws.rt carry those over lines, served_games the other.
use Rattle.std.specs.Prelude.{◌≡◌, ℕ, List, None, Option, length}
use Rattle.std.specs.List.{Contains}
use Rattle.arbiter_core.specs.Delivers.{Delivers, Exchange, Moment}
use Rattle.arbiter_server.specs.Acts.{Action}
use Rattle.arbiter_server.specs.Folders.{Keepers}
use Rattle.arbiter_server.specs.Games.{CommonView, Fresh, Goes, Open}
use Rattle.arbiter_server.specs.LineLogs.{line_kind, logged}
use Rattle.arbiter_server.specs.Lives.{GoesOn}
use Rattle.arbiter_server.specs.ServedLines.{heard_words}
use Rattle.arbiter_server.specs.Told.{stamped}
use Rattle.arbiter_server.specs.declared.line_log.LogForm.TheVariants as form
use Rattle.board_core.specs.declared.verdict.Verdict.{Verdict}
use Rattle.move_msg.specs.TextLines.{ended}

-- Wherever the acts of a game have led, the next delivery leaves a record that goes on from the one before.
abbrev pub RecordsGoOn : {K : Type 0} → Keepers K → Type 0
RecordsGoOn {K = K} s =
    (t : CommonView) (stamp : List ℕ) (acts : List (Action K)) (at : Moment K) (e : Exchange K) → Goes s t stamp Fresh acts (Open at) → Delivers s.facts at e → GoesOn at.arbiter.kept e.after.arbiter.kept

-- A log of changes has each line that is of no kind which strangers cause: one that is left out stands there already.
abbrev pub ChangesHideNothing : Type 0
ChangesHideNothing =
    (lines : List (List ℕ)) (line : List ℕ) → Contains lines line → line_kind (ended line) ≡ None → Contains (logged form.Changes lines) line

-- So it has each count and verdict of a game that was told.
abbrev pub VerdictsAreLogged : Type 0
VerdictsAreLogged =
    (lines : List (List ℕ)) (stamp : List ℕ) (count : ℕ) (verdict : Option Verdict) → length stamp ≡ 16 → Contains lines (stamped stamp (heard_words count verdict)) → Contains (logged form.Changes lines) (stamped stamp (heard_words count verdict))
