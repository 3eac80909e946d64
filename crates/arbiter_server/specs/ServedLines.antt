-- The lines that serving writes (this project's own).
use Rattle.std.specs.Prelude.{ℕ, List, ◌++◌, Option, Some, None, codes}
use Rattle.std.specs.Fmt.{decimal}
use Rattle.board_core.specs.declared.verdict.Verdict.{Verdict}
use Rattle.board_core.specs.Verdicts.{verdict_name}
use Rattle.move_msg.specs.Messages.{message_fault_name}
use Rattle.arbiter_core.specs.declared.fault.DeliverFault.{DeliverFault}
use Rattle.arbiter_core.specs.declared.fault.DeliverFault.TheVariants as deliver
use Rattle.arbiter_server.specs.declared.datagram_report.DatagramReport.{DatagramReport}
use Rattle.arbiter_server.specs.declared.datagram_report.DatagramReport.TheVariants as line
use Rattle.arbiter_core.specs.Faults.{deliver_fault_name}

-- the verdict's name, or that there is none
abbrev pub verdict_or_none : Option Verdict → List ℕ
verdict_or_none None = codes "none"
verdict_or_none (Some v) = verdict_name v

-- how many moves an arbiter has recorded, and its verdict
abbrev pub heard_words : ℕ → Option Verdict → List ℕ
heard_words count verdict = codes "ok " ++ decimal count ++ codes " " ++ verdict_or_none verdict

-- why an arbiter refuses a datagram; where it is no message, with what is wrong with it
abbrev pub refused_datagram : DeliverFault → List ℕ
refused_datagram (deliver.NotAMessage fault) = codes "refused NotAMessage " ++ message_fault_name fault
refused_datagram deliver.Stranger = codes "refused " ++ deliver_fault_name deliver.Stranger
refused_datagram deliver.IllegalMove = codes "refused " ++ deliver_fault_name deliver.IllegalMove
refused_datagram deliver.TooFarAhead = codes "refused " ++ deliver_fault_name deliver.TooFarAhead
refused_datagram deliver.TooLong = codes "refused " ++ deliver_fault_name deliver.TooLong
refused_datagram deliver.KeeperFailed = codes "refused " ++ deliver_fault_name deliver.KeeperFailed
refused_datagram deliver.Down = codes "refused " ++ deliver_fault_name deliver.Down
refused_datagram deliver.OutOfMemory = codes "refused " ++ deliver_fault_name deliver.OutOfMemory

abbrev pub refused_port : List ℕ
refused_port = codes "refused port"

abbrev pub refused_store : List ℕ
refused_store = codes "refused store"

abbrev pub refused_memory : List ℕ
refused_memory = codes "refused memory"

abbrev pub refused_keeper : List ℕ
refused_keeper = codes "refused keeper"

abbrev pub heard_line : DatagramReport → List ℕ
heard_line (line.Recorded count verdict) = heard_words count verdict
heard_line (line.Refused fault) = refused_datagram fault
heard_line line.KeeperLost = refused_keeper
heard_line line.PortLost = refused_port
