-- Why something isn't read (this project's own).
use Rattle.std.specs.Prelude.{◌≡◌, ◌⊎◌, ℤ, pos, Option, None, Some, Result, Ok, Err}
use Rattle.std.specs.declared.io.ErrorKind.{ErrorKind}
use Rattle.std.specs.declared.io.ErrorKind.TheVariants as kind
use Rattle.system_io.specs.declared.reading.ReadFault.{ReadFault}
use Rattle.system_io.specs.declared.reading.ReadFault.TheVariants.{Unreadable, OutOfMemory}

-- memory was refused, or else something can't be read
abbrev pub read_fault_of : ErrorKind → ReadFault
read_fault_of kind.OutOfMemory = OutOfMemory
read_fault_of _ = Unreadable

-- by the number of the error the system, or the process, has no descriptor left: ENFILE, EMFILE
abbrev pub LacksDescriptor : Option ℤ → Type 0
LacksDescriptor number = (number ≡ Some (pos 23)) ⊎ (number ≡ Some (pos 24))

-- why a file or a folder wasn't opened: a descriptor that was refused is as memory that was refused
pub record IsUnopened (number : Option ℤ) (kind : ErrorKind) (fault : ReadFault) : Type 0 where
  pub none : LacksDescriptor number → fault ≡ OutOfMemory
  pub other : (LacksDescriptor number → ⊥) → fault ≡ read_fault_of kind

-- nothing stands at the path, where the error is that; or else why the file wasn't opened
abbrev pub IsAbsentOr : {A : Type 0} → Option ℤ → ErrorKind → Result (Option A) ReadFault → Type 0
IsAbsentOr number told (Ok None) = told ≡ kind.NotFound
IsAbsentOr number told (Ok (Some a)) = ⊥
IsAbsentOr number told (Err fault) = IsUnopened number told fault
