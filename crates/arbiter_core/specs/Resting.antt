-- An arbiter but its tables.
use Rattle.std.specs.Prelude.{◌≡◌, ℕ, ◌+◌, ◌≤◌, Bool, true, List}
use Rattle.board_core.specs.Delays.{most_delay}
use Rattle.board_core.specs.declared.parts.Parts.{Parts}
use Rattle.judge_core.specs.Games.{verdict_after}
use Rattle.judge_core.specs.Standings.{IsAt, Reached}
use Rattle.judge_core.specs.Tables.{Holding}
use Rattle.move_msg.specs.Numbers.{most_moves}
use Rattle.arbiter_core.specs.Recording.{Recorded, ReorderBuffer, move_count, reaches}
use Rattle.arbiter_core.specs.Answering.{Answer, Identity}
use Rattle.arbiter_core.specs.Delivers.{ReturnsAnswer, Told, moment}
use Rattle.arbiter_core.specs.Keeping.{KeeperFacts}
use Rattle.arbiter_core.specs.Setups.{SetupView, rules_at}
use Rattle.arbiter_core.specs.Views.{IsNear, View}

pub record Rest : Type 0 where
  pub name : List ℕ
  pub start : Parts
  pub manifest : List ℕ
  pub number : ℕ
  pub delay : ℕ
  pub me : Identity
  pub kept : Recorded
  pub window : ReorderBuffer
  pub is_down : Bool
  -- where the game stands after the recorded moves
  pub standing : Reached
  -- the delay as it is spelled in the record
  pub spelled : ℕ

-- what it was opened from, with these tables
abbrev pub setup_with : Rest → Holding → SetupView
setup_with r set = record { name = r.name; start = r.start; manifest = r.manifest; me = r.number; delay = r.delay; set = set }

-- the arbiter that wakes with these tables
abbrev pub awake : Rest → Holding → View
awake r set = record { setup = setup_with r set; me = r.me; kept = r.kept; window = r.window; is_down = r.is_down }

-- With these tables it can wake: by them its record is whole and its game stands where it rests, and what waits is in range.
pub record CanWake (r : Rest) (set : Holding) : Type 0 where
  pub at : IsAt (rules_at (setup_with r set)) r.kept.moves r.standing
  pub ruled : r.kept.verdict ≡ verdict_after (rules_at (setup_with r set)) r.kept.moves
  pub reached : reaches (rules_at (setup_with r set)) r.kept.moves (move_count r.kept) ≡ true
  pub short : move_count r.kept ≤ most_moves
  pub near : IsNear r.window (move_count r.kept + 1)
  pub delay : r.delay ≤ most_delay
  pub spelled : r.spelled ≡ r.delay

-- with these tables it returns this where its answer is so, with itself and the keeper in this state afterwards
abbrev pub AnswersBy : {K : Type 0} → KeeperFacts K → Holding → Rest → K → Answer → Told → Rest → K → Type 0
AnswersBy facts set old before answer told new now = ReturnsAnswer facts (moment (awake old set) before) answer told (moment (awake new set) now)
