-- What is made of files that are read one by one.
use Rattle.std.proofs.Common.{◌≡◌, ◌&&◌, ℕ, Bool, true, false, List, [], ◌∷◌, map, Option, Some, None, refl, ap, ◌∙◌}
use Rattle.std.specs.Prelude.{Ok, Err, find, is_none, option_map, if◌then◌else◌}
use Rattle.std.specs.List.{list_all}
use Rattle.std.specs.Result.{is_ok}
use Rattle.std.specs.Str.{bytes_eq}
use Rattle.sha2.specs.Sha256.{sha256}
use Rattle.move_msg.specs.Files.{File}
use Rattle.move_msg.specs.Manifests.{Entry}
use Rattle.move_msg.specs.TextLines.{text_of}
use Rattle.answer_commands.specs.declared.check.FileCheck.{FileCheck}
use Rattle.answer_commands.specs.Check.{checked}
use Rattle.table_folder.specs.declared.fault.FileFault.TheVariants.{Changed}
use Rattle.task_files.specs.FileNames.{file_named}
use Rattle.task_files.specs.Made.{AreMadeOf}
use Rattle.answer_commands.specs.Inside.Looking.{IsSeenOf, Sight, fault_by, fault_seen, reply_seen, sight_at, sight_of}
use Rattle.answer_parts.specs.Lines.{look_words}
use Rattle.table_folder.specs.Folders.{Found}
use Rattle.answer_parts.specs.Looks.{are_tables, file_found, found_fault, held, look_for, look_line}
use Rattle.answer_parts.specs.Reply.{status_if}

-- what is seen of them
pub same_sights : (seen : List FileCheck) (files : List File) → AreMadeOf IsSeenOf seen files → map sight_of seen ≡ map sight_at files
same_sights [] [] h = refl
same_sights [] (f ∷ files) h = absurd h
same_sights (s ∷ seen) [] h = absurd h
same_sights (s ∷ seen) (f ∷ files) h = ap (λ (x : Sight). x ∷ map sight_of seen) h.0 ∙ ap (λ xs. sight_at f ∷ xs) (same_sights seen files h.1)

-- ---- what is seen of them under a manifest

find_seen : (name : List ℕ) (files : List File) → find (λ s. bytes_eq s.entry.name name) (map sight_at files) ≡ option_map sight_at (file_named name files)
find_seen name [] = refl
find_seen name (f ∷ files) = by_name (find_seen name files) (bytes_eq f.name name)
  where
    by_name : find (λ s. bytes_eq s.entry.name name) (map sight_at files) ≡ option_map sight_at (file_named name files) → (b : Bool) → (if b then Some (sight_at f) else find (λ s. bytes_eq s.entry.name name) (map sight_at files)) ≡ option_map sight_at (if b then Some f else file_named name files)
    by_name rest true = refl
    by_name rest false = rest

held_so : (digest : List ℕ) (o : Option File) → fault_by digest (option_map sight_at o) ≡ found_fault (held digest o)
held_so digest None = refl
held_so digest (Some f) = by_digest (bytes_eq (sha256 f.bytes) digest)
  where
    by_digest : (b : Bool) → (if b then found_fault (file_found f) else Some Changed) ≡ found_fault (if b then file_found f else Err Changed)
    by_digest true = refl
    by_digest false = refl

seen_so : (files : List File) (e : Entry) → fault_seen (map sight_at files) e ≡ found_fault (look_for files e).found
seen_so files e = ap (fault_by e.digest) (find_seen e.name files) ∙ held_so e.digest (file_named e.name files)

none_is_ok : (found : Found) → is_none (found_fault found) ≡ is_ok found
none_is_ok (Ok t) = refl
none_is_ok (Err fault) = refl

same_lines : (files : List File) (es : List Entry) → map (λ e. look_words e.name (fault_seen (map sight_at files) e)) es ≡ map look_line (map (look_for files) es)
same_lines files [] = refl
same_lines files (e ∷ es) =
    ap (λ fault. look_words e.name fault ∷ map (λ e. look_words e.name (fault_seen (map sight_at files) e)) es) (seen_so files e)
    ∙ ap (λ ls. look_line (look_for files e) ∷ ls) (same_lines files es)

same_done : (files : List File) (es : List Entry) → list_all (λ e. is_none (fault_seen (map sight_at files) e)) es ≡ are_tables (map (look_for files) es)
same_done files [] = refl
same_done files (e ∷ es) =
    ap (λ fault. is_none fault && list_all (λ e. is_none (fault_seen (map sight_at files) e)) es) (seen_so files e)
    ∙ ap (λ b. b && list_all (λ e. is_none (fault_seen (map sight_at files) e)) es) (none_is_ok (look_for files e).found)
    ∙ ap (λ b. is_ok (look_for files e).found && b) (same_done files es)

pub same_reply : (seen : List FileCheck) (files : List File) (es : List Entry) → AreMadeOf IsSeenOf seen files → reply_seen (map sight_of seen) es ≡ checked (map (look_for files) es)
same_reply seen files es h =
    ap (λ sights. reply_seen sights es) (same_sights seen files h)
    ∙ ap (λ ls. record { text = text_of ls; status = status_if (list_all (λ e. is_none (fault_seen (map sight_at files) e)) es) }) (same_lines files es)
    ∙ ap (λ b. record { text = text_of (map look_line (map (look_for files) es)); status = status_if b }) (same_done files es)
