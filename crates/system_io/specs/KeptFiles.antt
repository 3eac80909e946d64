-- How the bytes under a file's name are replaced (this project's own).
use Rattle.std.specs.Prelude.{◌≡◌, ◌⊎◌, ◌<◌, ℕ, List, length, Option, Some, None, Vec, option_map}
use Rattle.std.specs.declared.alloc.Global.{Global}
use Rattle.system_io.specs.declared.reading.ReadFault.{ReadFault}

-- what stands under a name: its bytes, or nothing
abbrev pub bytes_of : Option (Vec ℕ Global) → Option (List ℕ)
bytes_of o = option_map (λ v. v.items) o

-- it has more bytes than are kept
abbrev pub IsLong : Option (List ℕ) → Type 0
IsLong None = ⊥
IsLong (Some bytes) = 8217 < length bytes

-- at least one byte stands there: only then a copy takes memory
abbrev pub HasAny : Option (List ℕ) → Type 0
HasAny None = ⊥
HasAny (Some bytes) = 0 < length bytes

-- how far bytes have come on their way to the name
pub data Stage : Type 0 where
  -- they stand in the file beside
  Written : Stage
  -- there they are on the disk
  Synced : Stage
  -- the file beside has got the name
  Renamed : Stage

-- what is known of a kept file
pub record KeptFacts : Type 1 where
  -- these bytes have come so far
  pub reached : Stage → List ℕ → Type 0
  -- a start that comes now finds the one or the other under the name: the bytes of the file, or that there is none
  pub finds : Option (List ℕ) → Option (List ℕ) → Type 0
  -- what is read under the name is what a start finds there, also after a loss of power
  pub settled : Type 0
  -- what stands under the name can't be brought to the disk, for this reason
  pub cannot_settle : ReadFault → Type 0
  -- it can't be read, or has more than 8217 bytes; or memory for a copy may be refused
  pub cannot_read : ReadFault → Type 0
  -- how often a call has failed; a read, which changes nothing, isn't counted
  pub faults : ℕ

-- what stands under the name can't be brought to the disk or read, for this reason
abbrev pub CannotStart : KeptFacts → ReadFault → Type 0
CannotStart file fault = file.cannot_settle fault ⊎ file.cannot_read fault

-- what every start finds is one of any two of which each start finds the one or the other
abbrev pub FindsOne : KeptFacts → Type 0
FindsOne file = (a b c : Option (List ℕ)) → file.finds a b → file.finds c c → (c ≡ a) ⊎ (c ≡ b)

-- this is one of any two of which each start finds the one or the other
abbrev pub IsOneOfFound : KeptFacts → Option (List ℕ) → Type 0
IsOneOfFound file c = (a b : Option (List ℕ)) → file.finds a b → (c ≡ a) ⊎ (c ≡ b)

-- a start finds what was there before, or that or these bytes
abbrev pub FindsOldOrNew : KeptFacts → Option (List ℕ) → List ℕ → Type 0
FindsOldOrNew file old bytes = file.finds old old ⊎ file.finds old (Some bytes)

-- a put of these bytes was cut off somewhere in it: a start finds what was there before, or these bytes
abbrev pub IsCutOff : KeptFacts → List ℕ → KeptFacts → Type 0
IsCutOff before bytes left = (old : Option (List ℕ)) → before.finds old old → FindsOldOrNew left old bytes ⊎ left.finds (Some bytes) (Some bytes)
