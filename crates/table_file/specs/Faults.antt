-- The names of the faults of a file, as they are printed.
use Rattle.std.specs.Prelude.{ℕ, List, codes}
use Rattle.table_file.specs.declared.fault.TableFault.{TableFault}
use Rattle.table_file.specs.declared.fault.TableFault.TheVariants.{BadName, BadSize, BadMagic, BadFlags, BadPieces, BadOrder, Truncated, BadExponent, BadCode, BadSymbol, BadSparse, OutOfMemory}

abbrev pub table_fault_name : TableFault → List ℕ
table_fault_name BadName = codes "BadName"
table_fault_name BadSize = codes "BadSize"
table_fault_name BadMagic = codes "BadMagic"
table_fault_name BadFlags = codes "BadFlags"
table_fault_name BadPieces = codes "BadPieces"
table_fault_name BadOrder = codes "BadOrder"
table_fault_name Truncated = codes "Truncated"
table_fault_name BadExponent = codes "BadExponent"
table_fault_name BadCode = codes "BadCode"
table_fault_name BadSymbol = codes "BadSymbol"
table_fault_name BadSparse = codes "BadSparse"
table_fault_name OutOfMemory = codes "OutOfMemory"
