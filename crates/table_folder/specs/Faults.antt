-- The names of faults, as they are printed (this project's own).
use Rattle.std.specs.Prelude.{ℕ, List, codes}
use Rattle.table_file.specs.Faults.{table_fault_name}
use Rattle.table_folder.specs.declared.fault.FileFault.{FileFault}
use Rattle.table_folder.specs.declared.fault.FileFault.TheVariants.{Missing, Changed, Bad, Unreadable}

abbrev pub file_fault_name : FileFault → List ℕ
file_fault_name Missing = codes "missing"
file_fault_name Changed = codes "changed"
file_fault_name (Bad fault) = table_fault_name fault
file_fault_name Unreadable = codes "unreadable"
