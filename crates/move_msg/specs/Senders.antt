-- Senders of messages by number (message format).
use Rattle.std.specs.Prelude.{ℕ}
use Rattle.move_msg.specs.declared.arbiter_id.ArbiterId.{ArbiterId}
use Rattle.move_msg.specs.declared.arbiter_id.ArbiterId.TheVariants as who
use Rattle.move_msg.specs.declared.arbiter_id.Sender.{Sender}
use Rattle.move_msg.specs.declared.arbiter_id.Sender.TheVariants.{Source, Arbiter}

abbrev pub who_number : ArbiterId → ℕ
who_number who.A = 1
who_number who.B = 2

-- 0 is the source
abbrev pub sender_number : Sender → ℕ
sender_number Source = 0
sender_number (Arbiter a) = who_number a
