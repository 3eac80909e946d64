use Rattle.std.proofs.Common.{◌≡◌, Err, ap, inl}
use Rattle.system_io.specs.declared.reading.ReadFault.TheVariants.{Unreadable}
use Rattle.system_fakes.proofs.memory_disk.MemoryDiskDisk.read_with_mode.Goals as goal

pub returns-in-Err-clause-cause : goal.returns-in-Err-clause-cause
returns-in-Err-clause-cause c = λ e. let is : c.in-Err.fault ≡ Unreadable = cc in inl (c.in-Err.ensures.cause (ap Err is))
