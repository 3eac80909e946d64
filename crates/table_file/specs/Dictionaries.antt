-- The dictionary of a size record, and the bytes after it.
use Rattle.std.specs.Prelude.{ℕ, List, drop, Result, Ok, Err}
use Rattle.pair_dict.specs.Codes.{Pairing}
use Rattle.pair_dict.specs.Reading.{dictionary_at}
use Rattle.pair_dict.specs.declared.fault.DictFault.{DictFault}
use Rattle.pair_dict.specs.declared.fault.DictFault.TheVariants as dict
use Rattle.table_file.specs.declared.fault.TableFault.{TableFault}
use Rattle.table_file.specs.declared.fault.TableFault.TheVariants.{Truncated, BadCode, BadSymbol, OutOfMemory}

-- a fault of a dictionary as a fault of the table file
abbrev pub dictionary_fault : DictFault → TableFault
dictionary_fault dict.Truncated = Truncated
dictionary_fault dict.BadCode = BadCode
dictionary_fault dict.BadSymbol = BadSymbol
dictionary_fault dict.OutOfMemory = OutOfMemory

-- what is left after the bytes that were taken
abbrev pub pairing_and_rest : List ℕ → Result (Pairing × ℕ) DictFault → Result (Pairing × List ℕ) TableFault
pairing_and_rest bytes (Ok x) = Ok (x.0, drop x.1 bytes)
pairing_and_rest bytes (Err e) = Err (dictionary_fault e)

unfoldable pub pairing_at : List ℕ → Result (Pairing × List ℕ) TableFault
pairing_at bytes = pairing_and_rest bytes (dictionary_at bytes)
