-- The names of the faults, as they are printed.
use Rattle.std.specs.Prelude.{ℕ, List, codes}
use Rattle.arbiter_core.specs.declared.fault.DeliverFault.{DeliverFault}
use Rattle.arbiter_core.specs.declared.fault.DeliverFault.TheVariants as deliver
use Rattle.arbiter_core.specs.declared.fault.OpenFault.{OpenFault}
use Rattle.arbiter_core.specs.declared.fault.OpenFault.TheVariants as open_fault

abbrev pub deliver_fault_name : DeliverFault → List ℕ
deliver_fault_name (deliver.NotAMessage fault) = codes "NotAMessage"
deliver_fault_name deliver.Stranger = codes "Stranger"
deliver_fault_name deliver.IllegalMove = codes "IllegalMove"
deliver_fault_name deliver.TooFarAhead = codes "TooFarAhead"
deliver_fault_name deliver.TooLong = codes "TooLong"
deliver_fault_name deliver.KeeperFailed = codes "KeeperFailed"
deliver_fault_name deliver.Down = codes "Down"
deliver_fault_name deliver.OutOfMemory = codes "OutOfMemory"

abbrev pub open_fault_name : OpenFault → List ℕ
open_fault_name open_fault.BadSetup = codes "BadSetup"
open_fault_name open_fault.KeeperFailed = codes "KeeperFailed"
open_fault_name open_fault.BadRecord = codes "BadRecord"
open_fault_name open_fault.OtherStamp = codes "OtherStamp"
open_fault_name open_fault.OutOfMemory = codes "OutOfMemory"
