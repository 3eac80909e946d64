-- What a delivery leaves.
use Rattle.std.specs.Prelude.{◌≡◌, ℕ, ◌<◌, true, false, cond, List, length, Option, Some, None, Result, Ok, Err, ◌⊎◌}
use Rattle.std.specs.Str.{bytes_eq}
use Rattle.board_core.specs.declared.moves.Move.{Move as Moves}
use Rattle.move_msg.specs.declared.stamp.Stamp.{Stamp}
use Rattle.move_msg.specs.declared.message.Message.{Message}
use Rattle.move_msg.specs.declared.message.MessageFault.{MessageFault}
use Rattle.move_msg.specs.Messages.{stamp_in}
use Rattle.move_msg.specs.Heard.{heard_in}
use Rattle.move_msg.specs.Records.{SpellsRecord, WritesRecord}
use Rattle.arbiter_core.specs.Keeping.{KeeperFacts}
use Rattle.arbiter_core.specs.declared.keeper.Keep.{Keep}
use Rattle.arbiter_core.specs.declared.keeper.Keep.TheVariants.{Good, FailsOld, FailsNew}
use Rattle.arbiter_core.specs.declared.fault.DeliverFault.{DeliverFault}
use Rattle.arbiter_core.specs.declared.fault.DeliverFault.TheVariants.{NotAMessage, Stranger, Down, KeeperFailed, OutOfMemory}
use Rattle.arbiter_core.specs.Recording.{Recorded, ReorderBuffer, advance}
use Rattle.arbiter_core.specs.Answering.{Answer, Refuses, Sends, Puts, answer_heard, answer_to, answer_to_move, puts}
use Rattle.system_io.specs.Failures.{Risen}
use Rattle.arbiter_core.specs.Setups.{rules_at}
use Rattle.arbiter_core.specs.Views.{View, spelled_as}

-- what a reading of bytes says to an arbiter of the game with this stamp
abbrev pub in_game : Stamp → Result Message MessageFault → Result Message DeliverFault
in_game stamp (Ok message) = cond (bytes_eq (stamp_in message) stamp) (Ok message) (Err Stranger)
in_game stamp (Err fault) = Err (NotAMessage fault)

-- what bytes say to it: a message of the game, or why there is none
abbrev pub heard : Stamp → List ℕ → Result Message DeliverFault
heard stamp bytes = in_game stamp (heard_in bytes)

-- the answer to the datagram
abbrev pub answer_of : View → Result Message DeliverFault → Answer
answer_of old heard = cond old.is_down (Refuses Down) (answer_heard (rules_at old.setup) old.me old.kept old.window heard)

-- these bytes spell the record of an arbiter with this stamp and this delay
abbrev pub IsSpelled : Stamp → ℕ → Recorded → Option (List ℕ) → Type 0
IsSpelled stamp delay kept None = ⊥
IsSpelled stamp delay kept (Some bytes) = SpellsRecord bytes (spelled_as stamp delay kept)

-- these bytes are written of it: version 2 of the record format
abbrev pub IsWritten : Stamp → ℕ → Recorded → Option (List ℕ) → Type 0
IsWritten stamp delay kept None = ⊥
IsWritten stamp delay kept (Some bytes) = WritesRecord bytes (spelled_as stamp delay kept)

-- the keeper keeps the arbiter's record
abbrev pub Keeps : Option (List ℕ) → View → Type 0
Keeps bytes v = IsSpelled v.me.stamp v.setup.delay v.kept bytes

-- what a running arbiter has recorded is what is kept
abbrev pub IsKept : Option (List ℕ) → View → Type 0
IsKept bytes v = v.is_down ≡ false → Keeps bytes v

abbrev pub downed : View → View
downed v = record { setup = v.setup; me = v.me; kept = v.kept; window = v.window; is_down = true }

abbrev pub with_window : View → ReorderBuffer → View
with_window v window = record { setup = v.setup; me = v.me; kept = v.kept; window = window; is_down = v.is_down }

abbrev pub with_record : View → Recorded → ReorderBuffer → View
with_record v next window = record { setup = v.setup; me = v.me; kept = next; window = window; is_down = v.is_down }

abbrev pub Told : Type 0
Told = Result (List Message) DeliverFault

-- an arbiter and its keeper at one moment
pub record Moment (K : Type 0) : Type 0 where
  pub arbiter : View
  pub keeper : K

abbrev pub moment : {K : Type 0} → View → K → Moment K
moment arbiter keeper = record { arbiter = arbiter; keeper = keeper }

-- a datagram that came, what the arbiter answered, and the moment after it
pub record Exchange (K : Type 0) : Type 0 where
  pub datagram : List ℕ
  pub told : Told
  pub after : Moment K

abbrev pub exchange : {K : Type 0} → List ℕ → Told → Moment K → Exchange K
exchange datagram told after = record { datagram = datagram; told = told; after = after }

-- a put of the next record with this outcome, and what is then answered
abbrev pub Lands : Keep → View → Recorded → List Message → ReorderBuffer → Option (List ℕ) → Option (List ℕ) → View → Told → Type 0
Lands Good old next outputs window before now new told = (told ≡ Ok outputs) × (new ≡ with_record old next window) × IsSpelled old.me.stamp old.setup.delay next now
Lands FailsOld old next outputs window before now new told = (told ≡ Err KeeperFailed) × (new ≡ downed old) × (now ≡ before)
Lands FailsNew old next outputs window before now new told = (told ≡ Err KeeperFailed) × (new ≡ downed old) × IsSpelled old.me.stamp old.setup.delay next now

-- one put, with an outcome that the keeper stated
pub record PutsOnce {K : Type 0} (facts : KeeperFacts K) (old : View) (next : Recorded) (outputs : List Message) (window : ReorderBuffer) (before now : K) (new : View) (told : Told) : Type 0 where
  pub keep : Keep
  pub stated : facts.may_be before keep
  pub lands : Lands keep old next outputs window (facts.kept before) (facts.kept now) new told
  pub written : (facts.kept now ≡ facts.kept before) ⊎ IsWritten old.me.stamp old.setup.delay next (facts.kept now)
  pub sent : List ℕ
  pub spells : WritesRecord sent (spelled_as old.me.stamp old.setup.delay next)
  pub once : facts.leaves before sent now
  pub cause : told ≡ Err KeeperFailed → Risen (facts.faults before) (facts.faults now)

-- nothing has changed but to this view, and the answer is this
pub record Unchanged {K : Type 0} (old : View) (before now : K) (new : View) (told wanted : Told) : Type 0 where
  pub answer : told ≡ wanted
  pub arbiter : new ≡ old
  pub keeper : now ≡ before

-- where the answer is a refusal, or messages without a put; more than four messages may be refused for want of memory
abbrev pub RefusesOrSends : {K : Type 0} → View → K → K → View → Told → Answer → Type 0
RefusesOrSends old before now new told (Refuses fault) = Unchanged old before now new told (Err fault)
RefusesOrSends old before now new told (Sends outputs window) =
    Unchanged (with_window old window) before now new told (Ok outputs)
    ⊎ ((4 < length outputs) × Unchanged old before now new told (Err OutOfMemory))
RefusesOrSends old before now new told (Puts next outputs window) = Unit {0}

-- where the answer is a put: it is made once, or memory was refused before it
abbrev pub PutsIfAny : {K : Type 0} → KeeperFacts K → View → K → K → View → Told → Answer → Type 0
PutsIfAny facts old before now new told (Refuses fault) = Unit {0}
PutsIfAny facts old before now new told (Sends outputs window) = Unit {0}
PutsIfAny facts old before now new told (Puts next outputs window) =
    Unchanged old before now new told (Err OutOfMemory) ⊎ PutsOnce facts old next outputs window before now new told

-- the arbiter returns this where its answer is so, with itself and the keeper in this state afterwards
pub record ReturnsAnswer {K : Type 0} (facts : KeeperFacts K) (old : Moment K) (answer : Answer) (told : Told) (after : Moment K) : Type 0 where
  -- a refusal leaves both as they were, and so does what is sent without a put, but for the window
  pub answered : RefusesOrSends old.arbiter old.keeper after.keeper after.arbiter told answer
  -- a record to be put is put once, with an outcome that the keeper states, or memory was refused before it
  pub put : PutsIfAny facts old.arbiter old.keeper after.keeper after.arbiter told answer

-- what an arbiter answers to a datagram
abbrev pub answer_at : View → List ℕ → Answer
answer_at v datagram = answer_of v (heard v.me.stamp datagram)

-- to a message, of its game or of another one
abbrev pub answer_to_any : View → Message → Answer
answer_to_any v message = answer_of v (in_game v.me.stamp (Ok message))

-- what a running one answers to a message of its game
abbrev pub answer_to_message : View → Message → Answer
answer_to_message v message = answer_to (rules_at v.setup) v.me v.kept v.window message

-- to a move with this number
abbrev pub answer_to_numbered : View → ℕ → Moves → Answer
answer_to_numbered v number m = answer_to_move (rules_at v.setup) v.me v.kept v.window number m

-- to a move that is legal in its turn
abbrev pub answer_to_next : View → Moves → Answer
answer_to_next v m = puts v.me v.kept v.window (advance (rules_at v.setup) v.kept.moves m v.window)

-- a datagram is answered so
abbrev pub Delivers : {K : Type 0} → KeeperFacts K → Moment K → Exchange K → Type 0
Delivers facts old e = ReturnsAnswer facts old (answer_at old.arbiter e.datagram) e.told e.after
