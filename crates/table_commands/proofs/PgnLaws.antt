-- The games of a PGN file, reported over a system.
use Rattle.std.proofs.Common.{◌≡◌, ◌∙◌, ◌++◌, ◌∷◌, ◌⊎◌, [], ℕ, Bool, true, false, List, Option, Some, None, ap, inl, inr, refl, subst, sym}
use Rattle.std.specs.Prelude.{IfOk, IfSome, IsSome, Result, Ok, Err, option_map}
use Rattle.std.specs.declared.alloc.AllocError.{AllocError}
use Rattle.answer_parts.proofs.PrintLaws.{cut_behind, does_so, then_does, then_prints}
use Rattle.answer_parts.specs.Lines.{refusal_words}
use Rattle.answer_parts.specs.Printing.{Performs, Prints, printed}
use Rattle.answer_parts.specs.Reply.{status_if}
use Rattle.answer_parts.specs.declared.answers.refusals.Refusal.{Refusal}
use Rattle.board_core.specs.declared.moves.Move.{Move}
use Rattle.board_core.specs.declared.parts.Parts.{Parts}
use Rattle.command_line.specs.declared.commands.pgn.JudgePgn.{JudgePgn}
use Rattle.judge_core.specs.Games.{IsOutcome}
use Rattle.judge_core.specs.Tables.{Tables}
use Rattle.judge_core.specs.declared.game.GameOutcome.{GameOutcome}
use Rattle.line_teller.specs.ToldLines.{cut_words, refused_memory}
use Rattle.move_msg.specs.ToldBy.{told_by}
use Rattle.move_msg.specs.declared.told.Manifest.{Manifest}
use Rattle.pgn_teller.proofs.ReportLaws.{pgn_back}
use Rattle.pgn_games.specs.Games.{GameTold}
use Rattle.pgn_teller.specs.Ratings.{IsFirstRuled, Ruling, RulingTold, RulesNoMore, ruled_by}
use Rattle.pgn_teller.specs.Reports.{ReportsPgn, Terms, begun}
use Rattle.system_io.specs.Disks.{AtFile, DiskFacts}
use Rattle.system_io.specs.Inputs.{InputFacts}
use Rattle.system_io.specs.LineReaders.{LineFacts}
use Rattle.system_io.specs.declared.output.WriteFault.{WriteFault}
use Rattle.system_io.specs.declared.reading.ReadFault.{ReadFault}
use Rattle.system_io.specs.declared.reading.ReadFault.TheVariants.{OutOfMemory, Unreadable}
use Rattle.timeline.proofs.EventLaws.{adds_more}
use Rattle.timeline.specs.Events.{Event, FromFile, FromInput, LinesOpened, is_done}
use Rattle.timeline.specs.Outsides.{Adds, AddsSome, FailsOrIsKnown, Outside}
use Rattle.table_folder.specs.Folders.{Folder, FolderOn}
use Rattle.table_folder.specs.Settled.{IsInPlayBy}
use Rattle.table_folder.specs.declared.fault.FileRefusal.{FileRefusal}
use Rattle.table_commands.specs.FolderReads.{Apart, ByThese, DoesInFolder, DoesOfGiven, DoesWith, Doing, FindsBy, FindsKept, FolderRefused, ForNoRoom, ForTheFile, Kept, NoRoomForIt, NoRoomForTables, OpensToAsk, TablesRefused, WithFolder, WithTables, no_tables}
use Rattle.table_commands.specs.Pgn.{AreLinesOf, IsOpened, IsUnopened, LinesFail, OpensLines, ReportsFile, RulesIn, StayUnopened, file_of, found_as, source_of, status_of, terms_by}

-- ---- what is found of a game

module _ {X Y : Type 0} (disk : DiskFacts) (folder : Folder) (IsNeeded : Tables → Parts → Type 0) (A : Tables → X → Type 0) (B : Tables → Y → Type 0) (f : X → Y) (so : (tables : Tables) (x : X) → A tables x → B tables (f x)) where
  finds_as : (old new : Tables) (found : Result (Result X FileRefusal) AllocError) (events : List Event) → FindsBy disk folder IsNeeded A old new found events → FindsBy disk folder IsNeeded B old new (found_as f found) events
  finds_as old new found events (ByThese opens are settled x is e) = ByThese opens are settled (f x) (so new x is) (ap (found_as f) e)
  finds_as old new found events (ForTheFile file opens refused e) = ForTheFile file opens refused (ap (found_as f) e)
  finds_as old new found events (ForNoRoom e opens is) = ForNoRoom e opens (ap (found_as f) is)

  kept_as : (r : Result X FileRefusal) (found : Result (Result X FileRefusal) AllocError) (old new : Tables) (events : List Event) → found ≡ Ok r → FindsBy disk folder IsNeeded A old new (Ok r) events → FindsKept disk folder IsNeeded B old new (found_as f found) events
  kept_as (Ok x) found old new events e h = Kept (Ok (f x)) (finds_as old new (Ok (Ok x)) events h) (ap (found_as f) e)
  kept_as (Err file) found old new events e h = Kept (Err file) (finds_as old new (Ok (Err file)) events h) (ap (found_as f) e)

  pub finds_kept_as : (old new : Tables) (found : Result (Result X FileRefusal) AllocError) (events : List Event) → FindsKept disk folder IsNeeded A old new found events → FindsKept disk folder IsNeeded B old new (found_as f found) events
  finds_kept_as old new found events (Kept r h e) = kept_as r found old new events e h
  finds_kept_as old new found events (Apart e alone first second h k is) = Apart e alone first second (finds_as old new (Err e) first h) (finds_as no_tables alone found second k) is

-- a game that is ruled by what is found of it
pub game_ruled : {T P F K S L : Type 0} (o : Outside T P F K S L) (a b : T) (disk : DiskFacts) (folder : Folder) (delay : ℕ) (game : GameTold) (moves : List Move) (old new : Tables) (found : Result (Result GameOutcome FileRefusal) AllocError) (ruling : Result RulingTold AllocError)
    → moves ≡ game.moves → ruling ≡ found_as ruled_by found
    → AddsSome o a b (FindsKept disk folder (IsInPlayBy game.start moves delay) (λ tables outcome. IsOutcome (record { start = game.start; tables = tables; delay = delay }) moves outcome) old new found) → AddsSome o a b (RulesIn delay disk folder old new game ruling)
game_ruled o a b disk folder delay game moves old new found ruling is ruled p =
    let q = subst (λ (ms : List Move). AddsSome o a b (FindsKept disk folder (IsInPlayBy game.start ms delay) (λ tables outcome. IsOutcome (record { start = game.start; tables = tables; delay = delay }) ms outcome) old new found)) is p in
    subst (λ (r : Result RulingTold AllocError). AddsSome o a b (RulesIn delay disk folder old new game r)) (sym ruled)
    (q.0, q.1, finds_kept_as disk folder (IsInPlayBy game.start game.moves delay) (λ tables outcome. IsOutcome (record { start = game.start; tables = tables; delay = delay }) game.moves outcome) (λ tables r. IsFirstRuled delay tables game r) ruled_by (λ tables outcome h. record { outcome = outcome; is = h; by = refl }) old new found q.0 q.2)

-- a folder that stays
pub rules_stay : {D : Type 0} (disk_of : D → DiskFacts) (delay : ℕ) (old new : FolderOn D) → new ≡ old → RulesNoMore (RulesIn delay (disk_of old.disk) old.folder) (RulesIn delay (disk_of new.disk) new.folder)
rules_stay {D} disk_of delay old new is k next game ruling events h = subst (λ (on : FolderOn D). RulesIn delay (disk_of on.disk) on.folder k next game ruling events) is h

pub reads_on : {D Q : Type 0} (of : D → Q) (old new : FolderOn D) (q : Q) → new ≡ old → of old.disk ≡ q → of new.disk ≡ q
reads_on {D} of old new q is h = ap (λ (on : FolderOn D). of on.disk) is ∙ h

module _ {T P F K S L : Type 0} (o : Outside T P F K S L) where
  -- ---- the lines

  file_stays : (path : List ℕ) (fault : ReadFault) → (fault ≡ Unreadable → o.disk.fails (AtFile path)) → StayUnopened o.disk o.input (Some path) fault
  file_stays path Unreadable cause = cause refl
  file_stays path OutOfMemory cause = tt

  file_opened : (a b : T) (file : Option (List ℕ)) (path : List ℕ) (lines : L) → file ≡ Some path → IfSome (o.lines lines).left (o.disk.holds path) → (o.disk.is_told ≡ true → IsSome (o.lines lines).left) → ((o.lines lines).fails → o.disk.fails (AtFile path))
      → Adds o a b (LinesOpened (FromFile path) true ∷ []) → AddsSome o a b (OpensLines o file (Ok lines))
  file_opened a b file path lines is held known broken p = subst (λ (f : Option (List ℕ)). AddsSome o a b (OpensLines o f (Ok lines))) (sym is) (LinesOpened (FromFile path) true ∷ [], p, (((held, known), broken), refl))

  file_unopened : (a b : T) (file : Option (List ℕ)) (path : List ℕ) (fault : ReadFault) → file ≡ Some path → (fault ≡ Unreadable → o.disk.fails (AtFile path)) → Adds o a b (LinesOpened (FromFile path) false ∷ []) → AddsSome o a b (OpensLines o file (Err fault))
  file_unopened a b file path fault is cause p = subst (λ (f : Option (List ℕ)). AddsSome o a b (OpensLines o f (Err fault))) (sym is) (LinesOpened (FromFile path) false ∷ [], p, (file_stays path fault cause, refl))

  pub file_opened_or_not : (a b : T) (file : Option (List ℕ)) (path : List ℕ) (r : Result L ReadFault) → file ≡ Some path → IfOk r (λ lines. IfSome (o.lines lines).left (o.disk.holds path)) → IfOk r (λ lines. o.disk.is_told ≡ true → IsSome (o.lines lines).left)
      → IfOk r (λ lines. (o.lines lines).fails → o.disk.fails (AtFile path)) → (r ≡ Err Unreadable → o.disk.fails (AtFile path)) → Adds o a b (LinesOpened (FromFile path) (is_done r) ∷ []) → AddsSome o a b (OpensLines o file r)
  file_opened_or_not a b file path (Ok lines) is held known broken cause p = file_opened a b file path lines is held known broken p
  file_opened_or_not a b file path (Err fault) is held known broken cause p = file_unopened a b file path fault is (λ e. cause (ap Err e)) p

  known_lines : (lines : LineFacts) → (lines.fails → o.input.fails) → FailsOrIsKnown lines → o.input.fails ⊎ IsSome lines.left
  known_lines lines cause (inl fails) = inl (cause fails)
  known_lines lines cause (inr known) = inr known

  pub input_opened : (a b : T) (file : Option (List ℕ)) (lines : L) → file ≡ None → IfSome (o.lines lines).left o.input.gives → (o.input.is_told ≡ true → FailsOrIsKnown (o.lines lines)) → ((o.lines lines).fails → o.input.fails) → Adds o a b (LinesOpened FromInput true ∷ []) → AddsSome o a b (OpensLines o file (Ok lines))
  input_opened a b file lines is given known cause p =
      subst (λ (f : Option (List ℕ)). AddsSome o a b (OpensLines o f (Ok lines))) (sym is) (LinesOpened FromInput true ∷ [], p, (((given, λ told. known_lines (o.lines lines) cause (known told)), cause), refl))

  pub input_unopened : (a b : T) (file : Option (List ℕ)) → file ≡ None → o.input.takes_memory → Adds o a b (LinesOpened FromInput false ∷ []) → AddsSome o a b (OpensLines o file (Err OutOfMemory))
  input_unopened a b file is memory p = subst (λ (f : Option (List ℕ)). AddsSome o a b (OpensLines o f (Err OutOfMemory))) (sym is) (LinesOpened FromInput false ∷ [], p, (memory, refl))

  -- ---- the games

  module _ {N : Type 0} (t : JudgePgn) (Rules : Ruling N) (k : N) where
    opened_so : (lines : L) → AreLinesOf o.disk o.input (file_of t) (o.lines lines) → (events : List Event) (well : Option Bool) → ReportsPgn Rules (terms_by t) (o.lines lines).fails (begun (o.lines lines).left k) events well
        → ReportsFile o.disk o.input t Rules k (LinesOpened (source_of (file_of t)) true ∷ events) (status_of well)
    opened_so lines are events well h = IsOpened (o.lines lines).left events well are.0 (pgn_back Rules (terms_by t) (o.lines lines).fails (LinesFail o.disk o.input (file_of t)) (begun (o.lines lines).left k) events well are.1 h) refl refl

    pub games_reported : (a b c : T) (lines : L) (now : Terms) (well : Bool) (status : ℕ) → now ≡ terms_by t → status ≡ status_if well → AddsSome o a b (OpensLines o (file_of t) (Ok lines)) → AddsSome o b c (Performs (ReportsPgn Rules now (o.lines lines).fails (begun (o.lines lines).left k)) (Ok well))
        → AddsSome o a c (Performs (ReportsFile o.disk o.input t Rules k) (Ok status))
    games_reported a b c lines now well status terms is p q =
        let opened = subst (Adds o a b) p.2.1 p.1 in
        let games = subst (λ (u : Terms). ReportsPgn Rules u (o.lines lines).fails (begun (o.lines lines).left k) q.0 (Some well)) terms q.2 in (
          LinesOpened (source_of (file_of t)) true ∷ q.0,
          adds_more o a b c (LinesOpened (source_of (file_of t)) true ∷ []) q.0 opened q.1,
          subst (λ (s : ℕ). ReportsFile o.disk o.input t Rules k (LinesOpened (source_of (file_of t)) true ∷ q.0) (Some s)) (sym is) (opened_so lines p.2.0 q.0 (Some well) games),
        )

    pub games_lost : (a b c : T) (lines : L) (now : Terms) (e f : WriteFault) → now ≡ terms_by t → AddsSome o a b (OpensLines o (file_of t) (Ok lines)) → AddsSome o b c (Performs (ReportsPgn Rules now (o.lines lines).fails (begun (o.lines lines).left k)) (Err e))
        → AddsSome o a c (Performs (ReportsFile o.disk o.input t Rules k) (Err f))
    games_lost a b c lines now e f terms p q =
        let opened = subst (Adds o a b) p.2.1 p.1 in
        let (all, well, h, cut) = q.2 in
        let games = subst (λ (u : Terms). ReportsPgn Rules u (o.lines lines).fails (begun (o.lines lines).left k) all well) terms h in (
          LinesOpened (source_of (file_of t)) true ∷ q.0,
          adds_more o a b c (LinesOpened (source_of (file_of t)) true ∷ []) q.0 opened q.1,
          (LinesOpened (source_of (file_of t)) true ∷ all, status_of well, opened_so lines p.2.0 all well games, cut_behind (LinesOpened (source_of (file_of t)) true ∷ []) all q.0 cut),
        )

    pub games_unopened : (a b c : T) (fault : ReadFault) (r : Result ℕ WriteFault) → AddsSome o a b (OpensLines o (file_of t) (Err fault)) → AddsSome o b c (Performs (Prints (cut_words fault ∷ []) 1) r) → AddsSome o a c (Performs (ReportsFile o.disk o.input t Rules k) r)
    games_unopened a b c fault r p q =
        let opened = subst (Adds o a b) p.2.1 p.1 in
        then_prints o a b c (LinesOpened (source_of (file_of t)) false ∷ []) (ReportsFile o.disk o.input t Rules k) (cut_words fault ∷ []) 1 r (IsUnopened fault p.2.0 refl refl) opened q

  -- ---- by tables that were given

  module _ (given : Result Tables (List ℕ)) (Does : Tables → Doing) where
    pub by_tables : (a b : T) (tables : Tables) (r : Result ℕ WriteFault) → given ≡ Ok tables → AddsSome o a b (Performs (Does tables) r) → AddsSome o a b (Performs (DoesOfGiven given Does) r)
    by_tables a b tables r is p = does_so o a b (Does tables) (DoesOfGiven given Does) r (λ events status h. WithTables tables is h) p

    pub by_bad_tables : (a b : T) (words : List ℕ) (r : Result ℕ WriteFault) → given ≡ Err words → AddsSome o a b (Performs (Prints (words ∷ []) 1) r) → AddsSome o a b (Performs (DoesOfGiven given Does) r)
    by_bad_tables a b words r is p = does_so o a b (Prints (words ∷ []) 1) (DoesOfGiven given Does) r (λ events status h. TablesRefused words is h) p

    pub no_room : (a b : T) (r : Result ℕ WriteFault) → AddsSome o a b (Performs (Prints (refused_memory ∷ []) 1) r) → AddsSome o a b (Performs (DoesOfGiven given Does) r)
    no_room a b r p = does_so o a b (Prints (refused_memory ∷ []) 1) (DoesOfGiven given Does) r (λ events status h. NoRoomForTables h) p

  -- ---- by a folder

  module _ (path : List ℕ) (manifest : Manifest) (Does : Folder → Doing) where
    told : (events : List Event) (status : Option ℕ) → DoesWith o.disk path manifest Does events status → DoesInFolder o.disk path (told_by manifest) Does events status
    told events status h = (manifest, refl, h)

    pub by_folder : (a b c : T) (folder : Folder) (r : Result ℕ WriteFault) → AddsSome o a b (OpensToAsk o.disk path manifest (Ok (Ok folder))) → AddsSome o b c (Performs (Does folder) r) → AddsSome o a c (Performs (DoesInFolder o.disk path (told_by manifest) Does) r)
    by_folder a b c folder r p q = then_does o a b c p.0 (Does folder) (DoesInFolder o.disk path (told_by manifest) Does) r (λ events status h. told (p.0 ++ events) status (WithFolder folder p.0 events p.2 h refl)) p.1 q

    pub no_folder : (a b c : T) (refused : Refusal) (r : Result ℕ WriteFault) → AddsSome o a b (OpensToAsk o.disk path manifest (Ok (Err refused))) → AddsSome o b c (Performs (Prints (refusal_words refused ∷ []) 1) r) → AddsSome o a c (Performs (DoesInFolder o.disk path (told_by manifest) Does) r)
    no_folder a b c refused r p q = then_prints o a b c p.0 (DoesInFolder o.disk path (told_by manifest) Does) (refusal_words refused ∷ []) 1 r (told (p.0 ++ printed (refusal_words refused ∷ [])) (Some 1) (FolderRefused refused p.0 p.2 refl refl)) p.1 q

    pub no_room_for_folder : (a b c : T) (e : AllocError) (r : Result ℕ WriteFault) → AddsSome o a b (OpensToAsk o.disk path manifest (Err e)) → AddsSome o b c (Performs (Prints (refused_memory ∷ []) 1) r) → AddsSome o a c (Performs (DoesInFolder o.disk path (told_by manifest) Does) r)
    no_room_for_folder a b c e r p q = then_prints o a b c p.0 (DoesInFolder o.disk path (told_by manifest) Does) (refused_memory ∷ []) 1 r (told (p.0 ++ printed (refused_memory ∷ [])) (Some 1) (NoRoomForIt e p.0 p.2 refl refl)) p.1 q
