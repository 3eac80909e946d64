-- What is recorded where an arbiter is opened; cited by private functions alone.
use Rattle.std.specs.Prelude.{◌≡◌, ℕ, List, Option, Result, Ok, Err, ◌⊎◌}
use Rattle.move_msg.specs.declared.stamp.Stamp.{Stamp}
use Rattle.arbiter_core.specs.Keeping.{KeeperFacts}
use Rattle.arbiter_core.specs.declared.keeper.Keep.{Keep}
use Rattle.arbiter_core.specs.declared.keeper.Keep.TheVariants.{Good, FailsOld, FailsNew}
use Rattle.arbiter_core.specs.declared.fault.OpenFault.{OpenFault}
use Rattle.arbiter_core.specs.declared.fault.OpenFault.TheVariants.{BadSetup, KeeperFailed, BadRecord, OtherStamp, OutOfMemory}
use Rattle.arbiter_core.specs.declared.played.Played.{Played}
use Rattle.arbiter_core.specs.declared.setup.Terms.{Terms}
use Rattle.arbiter_core.specs.Answering.{Identity}
use Rattle.system_io.specs.Failures.{Risen}
use Rattle.arbiter_core.specs.Setups.{SetupView, rules_at}
use Rattle.move_msg.specs.Records.{WritesRecord}
use Rattle.move_msg.specs.declared.record_bytes.Record.{Record}
use Rattle.judge_core.specs.Games.{Rules}
use Rattle.judge_core.specs.Standings.{ListsMovesInGame}
use Rattle.arbiter_core.specs.Recording.{Recorded}
use Rattle.arbiter_core.specs.Views.{spelled_as}
use Rattle.arbiter_core.specs.Delivers.{IsSpelled, IsWritten}
use Rattle.arbiter_core.specs.Opens.{first_record, IsOfGame, IsWhole, Opens, OpenResult, running}
use Rattle.arbiter_core.specs.Inside.Playing.{IsPlayedRecord, recorded_in}

-- who the arbiter of these terms is, in the game with this stamp
abbrev pub identity_by : Terms → Stamp → Identity
identity_by terms stamp = record { stamp = stamp; who = terms.me }

-- what a record says of its game
abbrev pub recorded_by : Record → Recorded
recorded_by r = record { moves = r.moves; verdict = r.verdict }

-- why an arbiter can't run from a record; memory is wanted only for a list of moves while it is judged
abbrev pub IsNotResumed : Rules → Stamp → Record → OpenFault → Type 0
IsNotResumed rules stamp r OtherStamp = IsOfGame rules stamp r → ⊥
IsNotResumed rules stamp r BadRecord = IsOfGame rules stamp r × (IsWhole rules (recorded_by r) → ⊥)
IsNotResumed rules stamp r OutOfMemory = IsOfGame rules stamp r × ListsMovesInGame rules r.moves
IsNotResumed rules stamp r BadSetup = ⊥
IsNotResumed rules stamp r KeeperFailed = ⊥

-- a put of the first record with this outcome
abbrev pub IsPutSo : Keep → SetupView → Identity → Option (List ℕ) → Option (List ℕ) → Result Played OpenFault → Type 0
IsPutSo Good setup me before now (Ok p) = IsPlayedRecord setup me.stamp p × (recorded_in p ≡ first_record (rules_at setup)) × IsSpelled me.stamp setup.delay (first_record (rules_at setup)) now
IsPutSo Good setup me before now (Err fault) = ⊥
IsPutSo FailsOld setup me before now result = (result ≡ Err KeeperFailed) × (now ≡ before)
IsPutSo FailsNew setup me before now result = (result ≡ Err KeeperFailed) × IsSpelled me.stamp setup.delay (first_record (rules_at setup)) now

pub record IsPutOnce {K : Type 0} (facts : KeeperFacts K) (setup : SetupView) (me : Identity) (before now : K) (result : Result Played OpenFault) : Type 0 where
  pub keep : Keep
  pub stated : facts.may_be before keep
  pub is : IsPutSo keep setup me (facts.kept before) (facts.kept now) result
  pub written : (facts.kept now ≡ facts.kept before) ⊎ IsWritten me.stamp setup.delay (first_record (rules_at setup)) (facts.kept now)
  pub sent : List ℕ
  pub spells : WritesRecord sent (spelled_as me.stamp setup.delay (first_record (rules_at setup)))
  pub once : facts.leaves before sent now
  pub cause : result ≡ Err KeeperFailed → Risen (facts.faults before) (facts.faults now)

-- the put was made once, or memory was refused before it
abbrev pub IsPutFirst : {K : Type 0} → KeeperFacts K → SetupView → Identity → K → K → Result Played OpenFault → Type 0
IsPutFirst facts setup me before now result =
    ((result ≡ Err OutOfMemory) × (now ≡ before)) ⊎ IsPutOnce facts setup me before now result

-- what is answered where this is recorded
abbrev pub told_from : SetupView → Identity → Result Played OpenFault → OpenResult
told_from setup me (Ok p) = Ok (running setup me (recorded_in p))
told_from setup me (Err fault) = Err fault

-- the same of what is recorded
abbrev pub OpensAs : {K : Type 0} → KeeperFacts K → SetupView → Identity → K → K → Result Played OpenFault → Type 0
OpensAs facts setup me before now result = Opens facts setup me before now (told_from setup me result)
