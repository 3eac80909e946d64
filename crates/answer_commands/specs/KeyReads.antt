-- What happens outside while a file of keys is read (this project's own).
use Rattle.std.specs.Prelude.{◌≡◌, ◌≢◌, ◌≤◌, ℕ, List, [], ◌∷◌, Result, Ok, Err, bit_and, length}
use Rattle.answer_parts.specs.declared.answers.refusals.Refusal.{Refusal}
use Rattle.answer_parts.specs.declared.answers.refusals.Refusal.TheVariants as refusal
use Rattle.sealed_port.specs.KeyFiles.{IsFirstKeyFault, SpellsKeys, key_fault_line}
use Rattle.sealed_port.specs.declared.key_file.KeyFault.{KeyFault}
use Rattle.sealed_port.specs.declared.seal_port.Keys.{Keys}
use Rattle.system_io.specs.Disks.{DiskFacts, IsNoSmallFile}
use Rattle.system_io.specs.declared.reading.ReadFault.{ReadFault}
use Rattle.system_io.specs.declared.reading.ReadFault.TheVariants as read
use Rattle.timeline.specs.Events.{Event, FileWithModeRead}

-- what the group and others may do with a file of this mode; nothing is 0
abbrev pub rights_of_others : ℕ → ℕ
rights_of_others mode = bit_and mode 0o077

-- the most bytes of a file of keys
abbrev pub most_key_bytes : ℕ
most_key_bytes = 130

-- at this path is a regular file of at most 130 bytes, with these bytes and this mode
pub record IsKeyFile (disk : DiskFacts) (path text : List ℕ) (mode : ℕ) : Type 0 where
  pub holds : disk.holds path text
  pub short : length text ≤ most_key_bytes
  pub has : disk.has_mode path mode

-- what a file of these bytes and this mode gives: its keys, where its owner alone may use it; or that others may; or its first malformed line
pub data GivesKeysOf (text : List ℕ) (mode : ℕ) (result : Result Keys Refusal) : Type 0 where
  KeysAre : (keys : Keys) → rights_of_others mode ≡ 0 → SpellsKeys text keys → result ≡ Ok keys → GivesKeysOf text mode result
  OthersMay : rights_of_others mode ≢ 0 → result ≡ Err refusal.SharedKey → GivesKeysOf text mode result
  LineAtFault : rights_of_others mode ≡ 0 → (fault : KeyFault) → IsFirstKeyFault text fault → result ≡ Err (refusal.Key (key_fault_line fault)) → GivesKeysOf text mode result

-- why there are no keys of a file that wasn't read
abbrev pub unread_keys : ReadFault → Refusal
unread_keys read.Unreadable = refusal.Files
unread_keys read.OutOfMemory = refusal.Memory

-- the file at a path is read, once: its bytes and its mode, and what it gives; or why it can't be, with the cause where it can't be read
pub data ReadsKeys (disk : DiskFacts) (path : List ℕ) (result : Result Keys Refusal) (events : List Event) : Type 0 where
  KeysRead : (text : List ℕ) (mode : ℕ) → IsKeyFile disk path text mode → GivesKeysOf text mode result → events ≡ FileWithModeRead path (Ok (text, mode)) ∷ [] → ReadsKeys disk path result events
  KeysUnread : (fault : ReadFault) → (fault ≡ read.Unreadable → IsNoSmallFile disk path most_key_bytes) → result ≡ Err (unread_keys fault) → events ≡ FileWithModeRead path (Err fault) ∷ [] → ReadsKeys disk path result events
