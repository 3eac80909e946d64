-- What is replied by files that were read one by one.
use Rattle.std.proofs.Common.{◌≡◌, ◌∙◌, ◌++◌, ◌∷◌, [], ℕ, List, Option, Some, ap, append_assoc, map, refl, subst, sym}
use Rattle.std.specs.Prelude.{Result, Ok, Err, IfOk, OnErr}
use Rattle.answer_parts.proofs.LookLaws.{are_entries, same_entries}
use Rattle.answer_parts.specs.Asked.{reply_of}
use Rattle.answer_parts.specs.Reply.{Reply}
use Rattle.answer_parts.specs.declared.answers.Answer.{Answer}
use Rattle.command_line.specs.declared.commands.check.Check.{Check}
use Rattle.command_line.specs.declared.commands.list.List.{List as ListTask}
use Rattle.line_teller.specs.ToldLines.{cut_words, refused_memory}
use Rattle.move_msg.specs.Files.{AreFiles, File, entry_for}
use Rattle.move_msg.specs.Manifests.{AreEntries, IsEntry, SpellsManifest, entry_of}
use Rattle.move_msg.specs.TableNames.{IsFileName}
use Rattle.move_msg.specs.ToldBy.{told_by}
use Rattle.move_msg.specs.declared.manifest.Line.{Line}
use Rattle.move_msg.specs.declared.told.Manifest.{Manifest}
use Rattle.move_msg.specs.declared.told.Manifest.TheVariants.{Unnamed}
use Rattle.system_io.specs.declared.output.WriteFault.{WriteFault}
use Rattle.system_io.specs.declared.reading.ReadFault.{ReadFault}
use Rattle.task_files.proofs.InputReadLaws.{then_alone, then_gives}
use Rattle.task_files.specs.InputReads.{Both, Gives, Reading, ReadsManifest}
use Rattle.task_files.specs.Made.{AreMadeOf}
use Rattle.task_files.specs.TableLooks.{AreKeptOf, LooksAt, LooksInFolder}
use Rattle.timeline.specs.Events.{Event}
use Rattle.timeline.specs.Outsides.{AddsSome, Outside}
use Rattle.answer_commands.specs.Check.{Checked, check_reply, checked_by, folder_reply}
use Rattle.answer_commands.specs.Inside.Looking.{IsManifestOf, IsSeenOf}
use Rattle.answer_commands.specs.Listing.{IsListedManifest, list_reply}
use Rattle.answer_parts.specs.Printing.{Performs, Prints, PrintsReplied, printed}
use Rattle.answer_commands.specs.Replies.{NoRoomToReply, Replied, RepliesTo, Unread}
use Rattle.answer_commands.specs.declared.check.FileCheck.{FileCheck}
use Rattle.answer_parts.proofs.PrintLaws.{then_does}
use Rattle.answer_commands.proofs.ReplyLaws.{replied, unread}

-- ---- `list`

abbrev IsLineOf : Line → File → Type 0
IsLineOf line f = (entry_of line ≡ entry_for f) × (IsFileName f.name → IsEntry (entry_of line))

-- lines of files in order can stand in a manifest
pub entries_kept : (lines : List Line) (files : Result (List File) ReadFault) → AreKeptOf IsLineOf (Ok lines) files → IfOk files AreFiles → AreEntries (map entry_of lines)
entries_kept lines (Ok files) made order = are_entries lines files made order
entries_kept lines (Err fault) made order = absurd made

listed_so : (lines : List Line) (files : List File) → AreMadeOf IsLineOf lines files → (r : Reply) → IsManifestOf (map entry_of lines) r → IsListedManifest files r
listed_so lines files made r h = (subst (SpellsManifest r.text) (same_entries lines files made) h.0, h.1)

answered_so : {E : Type 0} (lines : List Line) (files : List File) (answered : Result Answer E) → AreMadeOf IsLineOf lines files → IfOk answered (λ a. IsManifestOf (map entry_of lines) (reply_of a)) → IfOk answered (λ a. IsListedManifest files (reply_of a))
answered_so lines files (Ok a) made h = listed_so lines files made (reply_of a) h
answered_so lines files (Err e) made h = tt

always : {A E : Type 0} (r : Result A E) → OnErr r (Unit {0})
always (Ok a) = tt
always (Err e) = tt

module _ {T P F K S L : Type 0} (o : Outside T P F K S L) (t : ListTask) where
  list_so : {E : Type 0} (a b c : T) (lines : List Line) (answered : Result Answer E) (r : Result ℕ WriteFault) (files : Result (List File) ReadFault) → AreKeptOf IsLineOf (Ok lines) files → IfOk answered (λ x. IsManifestOf (map entry_of lines) (reply_of x))
      → AddsSome o a b (LooksInFolder o.disk t.folder.now Unnamed t.progress files) → AddsSome o b c (Performs (PrintsReplied answered) r) → AddsSome o a c (Performs (RepliesTo (list_reply o.disk t)) r)
  list_so a b c lines answered r (Ok files) made is p q = replied o (list_reply o.disk t) a b c files answered r (answered_so lines files answered made is) (always answered) p q
  list_so a b c lines answered r (Err fault) made is p q = absurd made

  pub list_replied : {E : Type 0} (a b c : T) (lines : List Line) (answered : Result Answer E) (r : Result ℕ WriteFault) → IfOk answered (λ x. IsManifestOf (map entry_of lines) (reply_of x))
      → AddsSome o a b (LooksAt IsLineOf (LooksInFolder o.disk t.folder.now Unnamed t.progress) (Ok lines)) → AddsSome o b c (Performs (PrintsReplied answered) r) → AddsSome o a c (Performs (RepliesTo (list_reply o.disk t)) r)
  list_replied a b c lines answered r is p q = list_so a b c lines answered r p.2.files p.2.made is (p.0, p.1, p.2.reads) q

-- the same fault
fault_kept : {X : Type 0} (IsMadeOf : X → File → Type 0) (Reads : Reading (List File)) (fault : ReadFault) (files : Result (List File) ReadFault) (events : List Event) → AreKeptOf IsMadeOf (Err fault) files → Reads files events → Reads (Err fault) events
fault_kept IsMadeOf Reads fault (Ok files) events made h = absurd made
fault_kept IsMadeOf Reads fault (Err same) events made h = subst (λ (f : ReadFault). Reads (Err f) events) (sym made) h

pub looks_fail : {T P F K S L X : Type 0} (o : Outside T P F K S L) (IsMadeOf : X → File → Type 0) (Reads : Reading (List File)) (a b : T) (fault : ReadFault) → AddsSome o a b (LooksAt IsMadeOf Reads (Err fault)) → AddsSome o a b (Reads (Err fault))
looks_fail o IsMadeOf Reads a b fault p = (p.0, p.1, fault_kept IsMadeOf Reads fault p.2.files p.0 p.2.made p.2.reads)

-- ---- `check`

checked_so : {E : Type 0} (manifest : Manifest) (seen : List FileCheck) (files : List File) (answered : Result Answer E) → AreMadeOf IsSeenOf seen files → IfOk answered (λ a. (fs : List File) → AreMadeOf IsSeenOf seen fs → reply_of a ≡ checked_by fs (told_by manifest))
    → IfOk answered (λ a. reply_of a ≡ checked_by files (told_by manifest))
checked_so manifest seen files (Ok a) made h = h files made
checked_so manifest seen files (Err e) made h = tt

module _ {T P F K S L : Type 0} (o : Outside T P F K S L) (t : Check) (manifest : Manifest) where
  abbrev looks : Reading (List File)
  looks = LooksInFolder o.disk t.folder.now manifest t.progress

  abbrev with_told : List File → Checked
  with_told files = record { told = told_by manifest; files = files }

  after_looks : (a b : T) (files : List File) → AddsSome o a b (looks (Ok files)) → AddsSome o a b ((folder_reply o.disk t manifest).Reads (Ok (with_told files)))
  after_looks a b files p = then_gives o a b looks with_told files p

  check_so : {E : Type 0} (a b c : T) (seen : List FileCheck) (answered : Result Answer E) (r : Result ℕ WriteFault) (files : Result (List File) ReadFault) → AreKeptOf IsSeenOf (Ok seen) files → IfOk answered (λ x. (fs : List File) → AreMadeOf IsSeenOf seen fs → reply_of x ≡ checked_by fs (told_by manifest))
      → AddsSome o a b (looks files) → AddsSome o b c (Performs (PrintsReplied answered) r) → AddsSome o a c (Performs (RepliesTo (folder_reply o.disk t manifest)) r)
  check_so a b c seen answered r (Ok files) made is p q = replied o (folder_reply o.disk t manifest) a b c (with_told files) answered r (checked_so manifest seen files answered made is) (always answered) (after_looks a b files p) q
  check_so a b c seen answered r (Err fault) made is p q = absurd made

  pub check_replied : {E : Type 0} (a b c : T) (seen : List FileCheck) (answered : Result Answer E) (r : Result ℕ WriteFault) → IfOk answered (λ x. (fs : List File) → AreMadeOf IsSeenOf seen fs → reply_of x ≡ checked_by fs (told_by manifest))
      → AddsSome o a b (LooksAt IsSeenOf looks (Ok seen)) → AddsSome o b c (Performs (PrintsReplied answered) r) → AddsSome o a c (Performs (RepliesTo (folder_reply o.disk t manifest)) r)
  check_replied a b c seen answered r is p q = check_so a b c seen answered r p.2.files p.2.made is (p.0, p.1, p.2.reads) q

  pub check_unread : (a b c : T) (fault : ReadFault) (r : Result ℕ WriteFault) → AddsSome o a b (LooksAt IsSeenOf looks (Err fault)) → AddsSome o b c (Performs (Prints (cut_words fault ∷ []) 1) r) → AddsSome o a c (Performs (RepliesTo (folder_reply o.disk t manifest)) r)
  check_unread a b c fault r p q = unread o (folder_reply o.disk t manifest) a b c fault r (then_alone o a b looks (λ files. Gives (with_told files)) fault (looks_fail o IsSeenOf looks a b fault p)) q

  -- after the manifest
  by_manifest : (first : List Event) → ReadsManifest o.disk (Some t.manifest.now) (Ok manifest) first → (events : List Event) (status : Option ℕ) → RepliesTo (folder_reply o.disk t manifest) events status → RepliesTo (check_reply o.disk t) (first ++ events) status
  by_manifest first p events status (Replied given reading writing r read is w all) = Replied given (first ++ reading) writing r (Both manifest first reading p read refl) is w (ap (λ (e : List Event). first ++ e) all ∙ sym (append_assoc first reading writing))
  by_manifest first p events status (NoRoomToReply given reading read memory all one) = NoRoomToReply given (first ++ reading) (Both manifest first reading p read refl) memory (ap (λ (e : List Event). first ++ e) all ∙ sym (append_assoc first reading (printed (refused_memory ∷ [])))) one
  by_manifest first p events status (Unread fault reading read all one) = Unread fault (first ++ reading) (Both manifest first reading p read refl) (ap (λ (e : List Event). first ++ e) all ∙ sym (append_assoc first reading (printed (cut_words fault ∷ [])))) one

  pub checked_after : (a b c : T) (r : Result ℕ WriteFault) → AddsSome o a b (ReadsManifest o.disk (Some t.manifest.now) (Ok manifest)) → AddsSome o b c (Performs (RepliesTo (folder_reply o.disk t manifest)) r) → AddsSome o a c (Performs (RepliesTo (check_reply o.disk t)) r)
  checked_after a b c r p q = then_does o a b c p.0 (RepliesTo (folder_reply o.disk t manifest)) (RepliesTo (check_reply o.disk t)) r (by_manifest p.0 p.2) p.1 q

-- no manifest
pub not_checked : {T P F K S L : Type 0} (o : Outside T P F K S L) (t : Check) (a b c : T) (fault : ReadFault) (r : Result ℕ WriteFault) → AddsSome o a b (ReadsManifest o.disk (Some t.manifest.now) (Err fault)) → AddsSome o b c (Performs (Prints (cut_words fault ∷ []) 1) r) → AddsSome o a c (Performs (RepliesTo (check_reply o.disk t)) r)
not_checked o t a b c fault r p q = unread o (check_reply o.disk t) a b c fault r (then_alone o a b (ReadsManifest o.disk (Some t.manifest.now)) (λ manifest. (folder_reply o.disk t manifest).Reads) fault p) q
