-- Which statuses tell that memory was refused.
use Rattle.std.proofs.Common.{◌≡◌, refl, arith}
use Rattle.table_file.specs.declared.fault.TableFault.{TableFault}
use Rattle.table_file.specs.declared.fault.TableFault.TheVariants.{BadName, BadSize, BadMagic, BadFlags, BadPieces, BadOrder, Truncated, BadExponent, BadCode, BadSymbol, BadSparse, OutOfMemory}
use Rattle.probe_api.specs.Replies.{table_status}

-- of the faults of a file only refused memory has status 5
pub memory_alone : (fault : TableFault) → table_status fault ≡ 5 → fault ≡ OutOfMemory
memory_alone BadName is = absurd (omega (arith, is))
memory_alone BadSize is = absurd (omega (arith, is))
memory_alone BadMagic is = absurd (omega (arith, is))
memory_alone BadFlags is = absurd (omega (arith, is))
memory_alone BadPieces is = absurd (omega (arith, is))
memory_alone BadOrder is = absurd (omega (arith, is))
memory_alone Truncated is = absurd (omega (arith, is))
memory_alone BadExponent is = absurd (omega (arith, is))
memory_alone BadCode is = absurd (omega (arith, is))
memory_alone BadSymbol is = absurd (omega (arith, is))
memory_alone BadSparse is = absurd (omega (arith, is))
memory_alone OutOfMemory is = refl
