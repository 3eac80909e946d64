-- Lines that are answered by the tables of a folder that are open.
use Rattle.std.proofs.Common.{◌≡◌, ◌∙◌, ◌==◌, [], ℕ, Bool, true, false, List, Result, Ok, Err, ap, inl, inr, refl, subst, sym}
use Rattle.std.specs.List.{flat_map}
use Rattle.std.specs.declared.alloc.AllocError.{AllocError}
use Rattle.answer_parts.specs.Reply.{status_if}
use Rattle.board_core.specs.declared.parts.Parts.{Parts}
use Rattle.judge_core.specs.Tables.{Tables}
use Rattle.line_events.proofs.LineLaws.{same_answers}
use Rattle.line_events.proofs.WritingLaws.{answer_written, no_room_for}
use Rattle.line_events.specs.LineEvents.{Answering, AnswersLine, AnswersNoMore, Told}
use Rattle.line_events.specs.Writing.{WritesAnswer}
use Rattle.line_teller.specs.ToldLines.{LineTold}
use Rattle.line_teller.specs.declared.told_lines.TellFault.{TellFault}
use Rattle.line_teller.specs.declared.told_lines.TellFault.TheVariants as tell
use Rattle.move_msg.specs.TextLines.{ended}
use Rattle.system_io.specs.Disks.{DiskFacts}
use Rattle.table_folder.specs.Folders.{Folder, FolderOn}
use Rattle.table_folder.specs.declared.fault.FileRefusal.{FileRefusal}
use Rattle.timeline.proofs.EventLaws.{adds_none}
use Rattle.timeline.specs.Events.{Event}
use Rattle.timeline.specs.Outsides.{Adds, AddsSome, Outside}
use Rattle.table_commands.specs.FolderReads.{AnswersByFolder, ByItsTables, ByNoTable, FindsKept, ForBadFile, LacksRoomFor, by_folder_lines}
use Rattle.table_commands.proofs.FolderReadLaws.{asked_as, kept_so}

-- a status that is 0 where all is done
pub is_done : (b : Bool) → (status_if b == 0) ≡ b
is_done true = refl
is_done false = refl

-- the same folder, which answers alike
pub same_over : {D K : Type 0} (by : FolderOn D → Answering K) (old new : FolderOn D) → new ≡ old → AnswersNoMore (by old) (by new)
same_over by old new same = subst (λ on. AnswersNoMore (by old) (by on)) (sym same) (same_answers (by old))

module _ {X : Type 0} (disk : DiskFacts) (folder : Folder) (Spells : List ℕ → X → Type 0) (IsNeeded : X → Tables → Parts → Type 0) (Tells : Tables → List ℕ → LineTold → Type 0) (refused : FileRefusal → List ℕ) (Takes : List ℕ → Type 0) (old : Tables) (text : List ℕ) where
  -- what is found of what a line spells
  module _ {Y : Type 0} (Is : Tables → Y → Type 0) (f : Y → LineTold) (so : (tables : Tables) (y : Y) → Is tables y → Tells tables text (f y)) (x : X) (spells : Spells text x) (new : Tables) where
    found : (y : Y) (events : List Event) → FindsKept disk folder (IsNeeded x) Is old new (Ok (Ok y)) events → AnswersByFolder disk folder Spells IsNeeded Tells refused old new text (f y) events
    found y events finds = ByItsTables x spells (kept_so (IsNeeded x) Is (λ tables l. Tells tables text l) f so disk folder old new (Ok (Ok y)) events finds)

    refuses : (file : FileRefusal) (line : LineTold) → line ≡ record { words = refused file; done = false } → (events : List Event) → FindsKept disk folder (IsNeeded x) Is old new (Ok (Err file)) events → AnswersByFolder disk folder Spells IsNeeded Tells refused old new text line events
    refuses file line is events finds = ForBadFile x spells file (kept_so (IsNeeded x) Is (λ tables l. Tells tables text l) f so disk folder old new (Ok (Err file)) events finds) is

    module _ {T P F O S L : Type 0} (o : Outside T P F O S L) (a b : T) where
      pub line_found : (y : Y) → AddsSome o a b (FindsKept disk folder (IsNeeded x) Is old new (Ok (Ok y))) → AddsSome o a b (AnswersByFolder disk folder Spells IsNeeded Tells refused old new text (f y))
      line_found y q = (q.0, q.1, found y q.0 q.2)

      pub line_refused : (file : FileRefusal) (line : LineTold) → line ≡ record { words = refused file; done = false } → AddsSome o a b (FindsKept disk folder (IsNeeded x) Is old new (Ok (Err file))) → AddsSome o a b (AnswersByFolder disk folder Spells IsNeeded Tells refused old new text line)
      line_refused file line is q = (q.0, q.1, refuses file line is q.0 q.2)

  lacks : {Y : Type 0} (Is : Tables → Y → Type 0) (x : X) (new : Tables) (r : Result (Result Y FileRefusal) AllocError) (events : List Event) → Takes text → Spells text x → FindsKept disk folder (IsNeeded x) Is old new r events → LacksRoomFor disk folder Spells IsNeeded Takes old text events
  lacks Is x new r events takes spells finds = (takes, inr (x, spells, new, asked_as (λ _. tt) r, kept_so (IsNeeded x) Is (λ _ _. Unit {0}) (λ _. tt) (λ _ _ _. tt) disk folder old new r events finds))

  behind : (new : Tables) (line : LineTold) (events : List Event) → Takes text → AnswersByFolder disk folder Spells IsNeeded Tells refused old new text line events → LacksRoomFor disk folder Spells IsNeeded Takes old text events
  behind new line events takes (ByNoTable same kept none) = (takes, inl none)
  behind new line events takes (ByItsTables x spells finds) = lacks (λ tables l. Tells tables text l) x new (Ok (Ok line)) events takes spells finds
  behind new line events takes (ForBadFile x spells file finds is) = lacks (λ tables l. Tells tables text l) x new (Ok (Err file)) events takes spells finds

  module _ {T P F O S L : Type 0} (o : Outside T P F O S L) where
    -- the same by whatever tables
    pub line_by_none : (a : T) (line : LineTold) → ((tables : Tables) → Tells tables text line) → AddsSome o a a (AnswersByFolder disk folder Spells IsNeeded Tells refused old old text line)
    line_by_none a line same = ([], adds_none o a, ByNoTable same refl refl)

    -- memory was refused: before anything was read, while it was, or behind it
    pub room_by_none : (a : T) → Takes text → AddsSome o a a (LacksRoomFor disk folder Spells IsNeeded Takes old text)
    room_by_none a takes = ([], adds_none o a, (takes, inl refl))

    pub room_lacked : {Y : Type 0} (Is : Tables → Y → Type 0) (x : X) (new : Tables) (r : Result (Result Y FileRefusal) AllocError) (a b : T) → Takes text → Spells text x → AddsSome o a b (FindsKept disk folder (IsNeeded x) Is old new r) → AddsSome o a b (LacksRoomFor disk folder Spells IsNeeded Takes old text)
    room_lacked Is x new r a b takes spells q = (q.0, q.1, lacks Is x new r q.0 takes spells q.2)

    pub room_behind : (new : Tables) (line : LineTold) (a b : T) → Takes text → AddsSome o a b (AnswersByFolder disk folder Spells IsNeeded Tells refused old new text line) → AddsSome o a b (LacksRoomFor disk folder Spells IsNeeded Takes old text)
    room_behind new line a b takes q = (q.0, q.1, behind new line q.0 takes q.2)

    -- the answer is written
    pub line_written : (new : Tables) (words answer : List ℕ) (done is : Bool) (r : Result Bool TellFault) (a b c : T) → answer ≡ ended words → is ≡ done
        → AddsSome o a b (AnswersByFolder disk folder Spells IsNeeded Tells refused old new text (record { words = words; done = done })) → AddsSome o b c (WritesAnswer answer is r)
        → AddsSome o a c (AnswersLine (by_folder_lines disk folder Spells IsNeeded Tells refused Takes) old new text r)
    line_written new words answer done is r a b c same all p q =
        answer_written o (by_folder_lines disk folder Spells IsNeeded Tells refused Takes) old new text a b c answer is p.0 r
        (λ t whole so. (words, subst (λ (d : Bool). AnswersByFolder disk folder Spells IsNeeded Tells refused old new text (record { words = words; done = d }) p.0) (sym (so ∙ all)) p.2, whole ∙ same))
        p.1 q

    -- or memory was refused for it
    pub line_lacked : (new : Tables) (a b : T) → AddsSome o a b (LacksRoomFor disk folder Spells IsNeeded Takes old text) → AddsSome o a b (AnswersLine (by_folder_lines disk folder Spells IsNeeded Tells refused Takes) old new text (Err tell.OutOfMemory))
    line_lacked new a b q = no_room_for o (by_folder_lines disk folder Spells IsNeeded Tells refused Takes) old new text a b q.0 q.2 q.1
