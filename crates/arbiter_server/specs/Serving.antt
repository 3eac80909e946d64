-- What is told of an answer (this project's own).
use Rattle.std.specs.Prelude.{ℕ, Bool, true, false, List, [], cond, Ok, Err}
use Rattle.move_msg.specs.declared.message.Message.{Message}
use Rattle.arbiter_core.specs.declared.fault.DeliverFault.{DeliverFault}
use Rattle.arbiter_core.specs.declared.fault.DeliverFault.TheVariants as deliver
use Rattle.arbiter_core.specs.Recording.{Recorded, move_count}
use Rattle.arbiter_core.specs.Delivers.{Exchange, Told}
use Rattle.arbiter_server.specs.ServedLines.{heard_words, refused_datagram, refused_keeper}

-- the messages of an answer: a refusal has none
abbrev pub outputs_of : Told → List Message
outputs_of (Ok outputs) = outputs
outputs_of (Err fault) = []

-- the keeper failed, now or before
abbrev pub is_loss : DeliverFault → Bool
is_loss (deliver.NotAMessage fault) = false
is_loss deliver.Stranger = false
is_loss deliver.IllegalMove = false
is_loss deliver.TooFarAhead = false
is_loss deliver.TooLong = false
is_loss deliver.KeeperFailed = true
is_loss deliver.Down = true
is_loss deliver.OutOfMemory = false

-- the line for an answer, with what is recorded after it
abbrev pub line_for : Told → Recorded → List ℕ
line_for (Ok outputs) kept = heard_words (move_count kept) kept.verdict
line_for (Err fault) kept = cond (is_loss fault) refused_keeper (refused_datagram fault)

abbrev pub line_of : {K : Type 0} → Exchange K → List ℕ
line_of e = line_for e.told e.after.arbiter.kept
