-- Keys that are read, or not.
use Rattle.std.proofs.Common.{◌≡◌, ◌∷◌, [], ℕ, List, refl}
use Rattle.std.specs.Prelude.{Result, Ok, Err}
use Rattle.answer_parts.specs.declared.answers.refusals.Refusal.{Refusal}
use Rattle.sealed_port.specs.declared.seal_port.Keys.{Keys}
use Rattle.answer_commands.specs.KeyReads.{GivesKeysOf, IsKeyFile, KeysRead, KeysUnread, ReadsKeys, most_key_bytes, unread_keys}
use Rattle.system_io.specs.Disks.{DiskFacts, IsNoSmallFile}
use Rattle.system_io.specs.declared.reading.ReadFault.{ReadFault}
use Rattle.system_io.specs.declared.reading.ReadFault.TheVariants as read
use Rattle.timeline.specs.Events.{FileWithModeRead}
use Rattle.timeline.specs.Outsides.{Adds, AddsSome, Outside}

pub keys_read : {T P F K S L : Type 0} (o : Outside T P F K S L) (a b : T) (path text : List ℕ) (mode : ℕ) (result : Result Keys Refusal)
    → IsKeyFile o.disk path text mode → GivesKeysOf text mode result → Adds o a b (FileWithModeRead path (Ok (text, mode)) ∷ []) → AddsSome o a b (ReadsKeys o.disk path result)
keys_read o a b path text mode result file gives added = (FileWithModeRead path (Ok (text, mode)) ∷ [], added, KeysRead text mode file gives refl)

pub keys_unread : {T P F K S L : Type 0} (o : Outside T P F K S L) (a b : T) (path : List ℕ) (fault : ReadFault) (result : Result Keys Refusal)
    → (fault ≡ read.Unreadable → IsNoSmallFile o.disk path most_key_bytes) → result ≡ Err (unread_keys fault) → Adds o a b (FileWithModeRead path (Err fault) ∷ []) → AddsSome o a b (ReadsKeys o.disk path result)
keys_unread o a b path fault result cause is added = (FileWithModeRead path (Err fault) ∷ [], added, KeysUnread fault cause is refl)
