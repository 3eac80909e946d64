-- What opening an arbiter leaves.
use Rattle.std.specs.Prelude.{◌≡◌, ℕ, ◌==◌, true, false, cond, List, [], length, Option, Some, None, Result, Ok, Err, ◌⊎◌}
use Rattle.board_core.specs.declared.moves.Move.{Move}
use Rattle.board_core.specs.declared.verdict.Verdict.{Verdict}
use Rattle.judge_core.specs.declared.game.GameOutcome.{GameOutcome}
use Rattle.judge_core.specs.declared.game.GameOutcome.TheVariants.{Ruled, Illegal, Going}
use Rattle.move_msg.specs.declared.stamp.Stamp.{Stamp}
use Rattle.move_msg.specs.declared.record_bytes.Record.{Record}
use Rattle.move_msg.specs.Records.{SpellsRecord, WritesRecord, HasRecordLayout}
use Rattle.judge_core.specs.Games.{Rules}
use Rattle.judge_core.specs.Standings.{ListsMovesInGame}
use Rattle.arbiter_core.specs.Keeping.{KeeperFacts, HasBytes}
use Rattle.arbiter_core.specs.declared.keeper.Keep.{Keep}
use Rattle.arbiter_core.specs.declared.keeper.Keep.TheVariants.{Good, FailsOld, FailsNew}
use Rattle.arbiter_core.specs.declared.keeper.KeepFault.TheVariants.{Failed}
use Rattle.arbiter_core.specs.declared.keeper.KeepFault.TheVariants as keep_fault
use Rattle.arbiter_core.specs.declared.fault.OpenFault.{OpenFault}
use Rattle.arbiter_core.specs.declared.fault.OpenFault.TheVariants.{BadSetup, KeeperFailed, BadRecord, OtherStamp, OutOfMemory}
use Rattle.arbiter_core.specs.Recording.{Recorded, reaches, record_at}
use Rattle.arbiter_core.specs.Answering.{Identity, nothing_waits}
use Rattle.system_io.specs.Failures.{Risen}
use Rattle.arbiter_core.specs.Setups.{SetupView, IsGood, IsIdentity, rules_at}
use Rattle.arbiter_core.specs.Views.{View, spelled_as}
use Rattle.arbiter_core.specs.Delivers.{IsSpelled, IsWritten}

-- it is the record of all moves of some list
pub record IsWhole (rules : Rules) (kept : Recorded) : Type 0 where
  pub game : List Move
  pub reached : reaches rules game (length game) ≡ true
  pub is : kept ≡ record_at rules game (length game)

-- these bytes are a record of the game: an arbiter can run from it
abbrev pub IsResumed : Rules → Stamp → List ℕ → Recorded → Type 0
IsResumed rules stamp bytes kept = SpellsRecord bytes (spelled_as stamp rules.delay kept) × IsWhole rules kept

-- the record is one of this game, judged with this delay
abbrev pub IsOfGame : Rules → Stamp → Record → Type 0
IsOfGame rules stamp r = (r.stamp ≡ stamp) × (r.delay ≡ rules.delay)

-- why bytes are no such record; memory is taken for the moves of a well-formed record, and for a list of moves to judge a
-- record of this game
abbrev pub IsBadKept : Rules → Stamp → List ℕ → OpenFault → Type 0
IsBadKept rules stamp bytes BadRecord =
    ((r : Record) → SpellsRecord bytes r → ⊥)
    ⊎ ((r : Record) × SpellsRecord bytes r × IsOfGame rules stamp r × ((kept : Recorded) → IsResumed rules stamp bytes kept → ⊥))
IsBadKept rules stamp bytes OtherStamp = (r : Record) × SpellsRecord bytes r × (IsOfGame rules stamp r → ⊥)
IsBadKept rules stamp bytes OutOfMemory = HasRecordLayout bytes ⊎ ((r : Record) × SpellsRecord bytes r × IsOfGame rules stamp r × ListsMovesInGame rules r.moves)
IsBadKept rules stamp bytes BadSetup = ⊥
IsBadKept rules stamp bytes KeeperFailed = ⊥

-- the verdict at the last ply of a game of so many moves, if it gets there
abbrev pub at_end : GameOutcome → ℕ → Option (Option Verdict)
at_end (Ruled ply verdict) n = cond (ply == n) (Some (Some verdict)) None
at_end (Illegal place) n = None
at_end Going n = Some None

-- an arbiter that runs from this record
abbrev pub running : SetupView → Identity → Recorded → View
running setup me kept = record { setup = setup; me = me; kept = kept; window = nothing_waits; is_down = false }

abbrev pub OpenResult : Type 0
OpenResult = Result View OpenFault

-- the record before the first move
abbrev pub first_record : Rules → Recorded
first_record rules = record_at rules [] 0

-- a put of the first record with this outcome, and what is then answered
abbrev pub FirstLands : Keep → SetupView → Identity → Option (List ℕ) → Option (List ℕ) → OpenResult → Type 0
FirstLands Good setup me before now told = (told ≡ Ok (running setup me (first_record (rules_at setup)))) × IsSpelled me.stamp setup.delay (first_record (rules_at setup)) now
FirstLands FailsOld setup me before now told = (told ≡ Err KeeperFailed) × (now ≡ before)
FirstLands FailsNew setup me before now told = (told ≡ Err KeeperFailed) × IsSpelled me.stamp setup.delay (first_record (rules_at setup)) now

-- over nothing kept one put is made, with an outcome that the keeper stated
pub record PutsFirst {K : Type 0} (facts : KeeperFacts K) (setup : SetupView) (me : Identity) (before now : K) (told : OpenResult) : Type 0 where
  pub keep : Keep
  pub stated : facts.may_be before keep
  pub lands : FirstLands keep setup me (facts.kept before) (facts.kept now) told
  pub written : (facts.kept now ≡ facts.kept before) ⊎ IsWritten me.stamp setup.delay (first_record (rules_at setup)) (facts.kept now)
  pub mid : K
  pub got : facts.reads before None mid
  pub sent : List ℕ
  pub spells : WritesRecord sent (spelled_as me.stamp setup.delay (first_record (rules_at setup)))
  pub once : facts.leaves mid sent now
  pub cause : told ≡ Err KeeperFailed → Risen (facts.faults before) (facts.faults now)

-- over kept bytes nothing is put
abbrev pub Resumes : SetupView → Identity → List ℕ → OpenResult → Type 0
Resumes setup me bytes (Ok v) = (v ≡ running setup me v.kept) × IsResumed (rules_at setup) me.stamp bytes v.kept
Resumes setup me bytes (Err fault) = IsBadKept (rules_at setup) me.stamp bytes fault

-- by what was kept
abbrev pub OpensOver : {K : Type 0} → KeeperFacts K → SetupView → Identity → Option (List ℕ) → K → K → OpenResult → Type 0
OpensOver facts setup me None before now told = PutsFirst facts setup me before now told
OpensOver facts setup me (Some bytes) before now told = (facts.kept now ≡ facts.kept before) × Resumes setup me bytes told × facts.reads before None now

-- the get failed, and nothing was put
pub record GetFails {K : Type 0} (facts : KeeperFacts K) (before now : K) (told : OpenResult) : Type 0 where
  pub answer : told ≡ Err KeeperFailed
  pub still : facts.kept now ≡ facts.kept before
  pub stated : facts.get_may_fail before
  pub got : facts.reads before (Some Failed) now
  pub cause : Risen (facts.faults before) (facts.faults now)

-- memory was refused, to the get for a copy of what was kept or, where nothing was kept, for the first record; nothing was put
pub record NoMemory {K : Type 0} (facts : KeeperFacts K) (before now : K) (told : OpenResult) : Type 0 where
  pub answer : told ≡ Err OutOfMemory
  pub still : facts.kept now ≡ facts.kept before
  pub cause : (facts.reads before (Some keep_fault.OutOfMemory) now × HasBytes (facts.kept before)) ⊎ ((facts.kept before ≡ None) × facts.reads before None now)

-- what opening a good setup leaves
abbrev pub Opens : {K : Type 0} → KeeperFacts K → SetupView → Identity → K → K → OpenResult → Type 0
Opens facts setup me before now told =
    GetFails facts before now told
    ⊎ (NoMemory facts before now told ⊎ OpensOver facts setup me (facts.kept before) before now told)

-- an arbiter of a good setup is opened so
abbrev pub OpensIfGood : {K : Type 0} → KeeperFacts K → SetupView → K → K → OpenResult → Type 0
OpensIfGood facts setup before now told = IsGood setup → (me : Identity) × IsIdentity setup me × Opens facts setup me before now told

-- over this keeper an arbiter of a good setup is opened so, or refused; a bad one is refused, and nothing is put
pub record IsOpening {K : Type 0} (facts : KeeperFacts K) (setup : SetupView) (before now : K) (told : OpenResult) : Type 0 where
  pub good : OpensIfGood facts setup before now told
  pub bad : (IsGood setup → ⊥) → (told ≡ Err BadSetup) × (now ≡ before)
