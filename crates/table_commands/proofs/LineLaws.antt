-- Lines of the input that are answered in columns, by objects and by outcomes of games.
use Rattle.std.proofs.Common.{◌≡◌, ◌∙◌, ◌==◌, ℕ, Bool, true, false, List, Result, Ok, Err, ap, length, refl, subst, sym}
use Rattle.std.specs.Prelude.{IfOk}
use Rattle.std.specs.declared.alloc.AllocError.{AllocError}
use Rattle.answer_parts.specs.JsonAnswers.{json_reply}
use Rattle.answer_parts.specs.Lines.{refused_fen}
use Rattle.answer_parts.specs.Printing.{Performs}
use Rattle.answer_parts.specs.Reply.{IsText, Reply}
use Rattle.board_core.specs.declared.parts.Parts.{Parts}
use Rattle.fen_text.specs.Fen.{IsFirstFenFault}
use Rattle.fen_text.specs.declared.fault.FenFault.{FenFault}
use Rattle.json_lines.specs.Objects.{json_text, line_json}
use Rattle.json_lines.specs.Told.{ForNone, ForPosition, IsLineOf, is_done as is_told}
use Rattle.json_lines.specs.declared.told.JsonLine.{JsonLine}
use Rattle.json_lines.specs.declared.told.JsonLine.TheVariants as line
use Rattle.judge_core.specs.ProbeResult.{has_both}
use Rattle.judge_core.specs.Tables.{Tables}
use Rattle.judge_core.specs.Words.{columns_words, outcome_words}
use Rattle.judge_core.specs.declared.ask.Ask.TheVariants.{Strict}
use Rattle.judge_core.specs.declared.display.Columns.{Columns}
use Rattle.judge_core.specs.declared.game.GameOutcome.{GameOutcome}
use Rattle.line_events.proofs.LineLaws.{same_answers}
use Rattle.line_events.proofs.WritingLaws.{told_at_once}
use Rattle.line_events.specs.LineEvents.{Answering, AnswersInput, AnswersLine, AnswersNoMore}
use Rattle.line_events.specs.Writing.{WritesAnswer, at_once}
use Rattle.line_teller.specs.ToldLines.{LineTold}
use Rattle.line_teller.specs.declared.told_lines.TellFault.{TellFault}
use Rattle.move_msg.specs.TextLines.{ended}
use Rattle.system_io.specs.Disks.{DiskFacts}
use Rattle.system_io.specs.declared.output.WriteFault.{WriteFault}
use Rattle.table_folder.specs.Folders.{Folder, FolderOn}
use Rattle.table_folder.specs.Settled.{IsAlone}
use Rattle.table_folder.specs.declared.fault.FileRefusal.{FileRefusal}
use Rattle.timeline.specs.Outsides.{AddsSome, Outside}
use Rattle.table_commands.specs.Courses.{GameAsked, IsOutcomeOf, in_play_of}
use Rattle.table_commands.specs.FolderAnswers.{IsSpelledBy, refused_table, refused_table_in}
use Rattle.table_commands.specs.FolderReads.{FindsKept, LacksRoomFor, no_tables}
use Rattle.table_commands.specs.Game.{are_all_legal}
use Rattle.table_commands.specs.Games.{AnswersGame, HasStartFen, LacksRoomForGame, Played, SpellsGame, TellsGameLine}
use Rattle.table_commands.specs.Inside.JsonLines.{IsPositionLine}
use Rattle.table_commands.specs.Inside.LookingUp.{AreColumns}
use Rattle.table_commands.specs.JsonAnswers.{AnswersJson, LacksRoomForJson, TellsJson, needed_by, object_told}
use Rattle.table_commands.specs.Probes.{AnswersColumns, OfNone, OfPosition, TellsLine}
use Rattle.table_commands.proofs.FolderLineLaws.{is_done, line_by_none, line_found, line_refused, room_lacked}

-- ---- what stays

-- the same folder and the same of what is asked, by which lines are answered alike
pub same_by : {A D K : Type 0} (by : A → FolderOn D → Answering K) (old new : A) (before after : FolderOn D) → new ≡ old → after ≡ before → AnswersNoMore (by old before) (by new after)
same_by by old new before after asked same =
    let over = subst (λ on. AnswersNoMore (by old before) (by old on)) (sym same) (same_answers (by old before)) in
    subst (λ a. AnswersNoMore (by old before) (by a after)) (sym asked) over

-- ---- tables that were given

-- the same tables, by which lines are told alike
pub same_tables : (Tells : Tables → List ℕ → LineTold → Type 0) (Takes : List ℕ → Type 0) (old new : Tables) → new ≡ old → AnswersNoMore (at_once (Tells old) Takes) (at_once (Tells new) Takes)
same_tables Tells Takes old new same = subst (λ tables. AnswersNoMore (at_once (Tells old) Takes) (at_once (Tells tables) Takes)) (sym same) (same_answers (at_once (Tells old) Takes))

-- and the same of what is asked
pub same_tables_by : {A : Type 0} (Tells : A → Tables → List ℕ → LineTold → Type 0) (Takes : List ℕ → Type 0) (before after : A) (old new : Tables) → after ≡ before → new ≡ old → AnswersNoMore (at_once (Tells before old) Takes) (at_once (Tells after new) Takes)
same_tables_by Tells Takes before after old new asked same =
    subst (λ a. AnswersNoMore (at_once (Tells before old) Takes) (at_once (Tells a new) Takes)) (sym asked) (same_tables (Tells before) Takes old new same)

module _ {T P F O S L : Type 0} (o : Outside T P F O S L) where
  -- a line was told at once
  pub line_told : (Tells : List ℕ → LineTold → Type 0) (Takes : List ℕ → Type 0) (text words answer : List ℕ) (done is : Bool) (r : Result Bool TellFault) (a b : T) → answer ≡ ended words → is ≡ done → Tells text (record { words = words; done = done })
      → AddsSome o a b (WritesAnswer answer is r) → AddsSome o a b (AnswersLine (at_once Tells Takes) tt tt text r)
  line_told Tells Takes text words answer done is r a b whole all told q =
      told_at_once o Tells Takes a b text answer words is r (subst (λ (d : Bool). Tells text (record { words = words; done = d })) (sym all) told) whole q

  module _ (disk : DiskFacts) (folder : Folder) (old : Tables) (text : List ℕ) where
    -- ---- columns

    module _ (p : Parts) (spells : IsSpelledBy text p) (new : Tables) (a b : T) where
      abbrev columns_told : Columns → LineTold
      columns_told c = record { words = columns_words c.probed.wdl c.probed.dtz c.verdict; done = has_both c.probed }

      columns_tell : (tables : Tables) (c : Columns) → AreColumns p tables c → TellsLine Strict tables text (columns_told c)
      columns_tell tables c is = OfPosition p spells.0 spells.1 c.probed is.0 (ap (λ verdict. record { words = columns_words c.probed.wdl c.probed.dtz verdict; done = has_both c.probed }) is.1)

      pub columns_found : (c : Columns) (done : Bool) → done ≡ has_both c.probed → AddsSome o a b (FindsKept disk folder (IsAlone p) (AreColumns p) old new (Ok (Ok c)))
          → AddsSome o a b (AnswersColumns disk folder old new text (record { words = columns_words c.probed.wdl c.probed.dtz c.verdict; done = done }))
      columns_found c done both q =
          subst (λ (d : Bool). AddsSome o a b (AnswersColumns disk folder old new text (record { words = columns_words c.probed.wdl c.probed.dtz c.verdict; done = d }))) (sym both)
          (line_found disk folder IsSpelledBy IsAlone (TellsLine Strict) refused_table IsText old text (AreColumns p) columns_told columns_tell p spells new o a b c q)

      pub columns_refused : (file : FileRefusal) → AddsSome o a b (FindsKept disk folder (IsAlone p) (AreColumns p) old new (Ok (Err file)))
          → AddsSome o a b (AnswersColumns disk folder old new text (record { words = refused_table file; done = false }))
      columns_refused file q = line_refused disk folder IsSpelledBy IsAlone (TellsLine Strict) refused_table IsText old text (AreColumns p) columns_told columns_tell p spells new o a b file _ refl q

      pub columns_lacked : (r : Result (Result Columns FileRefusal) AllocError) → AddsSome o a b (FindsKept disk folder (IsAlone p) (AreColumns p) old new r) → AddsSome o a b (LacksRoomFor disk folder IsSpelledBy IsAlone IsText old text)
      columns_lacked r q = room_lacked disk folder IsSpelledBy IsAlone (TellsLine Strict) refused_table IsText old text o (AreColumns p) p new r a b (p, spells.0, spells.1) spells q

    pub columns_none : (a : T) (fault : FenFault) → IsFirstFenFault text fault → AddsSome o a a (AnswersColumns disk folder old old text (record { words = refused_fen fault; done = false }))
    columns_none a fault first = line_by_none disk folder IsSpelledBy IsAlone (TellsLine Strict) refused_table IsText old text o a _ (λ tables. OfNone fault first refl)

    -- ---- objects

    module _ (with_moves : Bool) (p : Parts) (spells : IsSpelledBy text p) (new : Tables) (a b : T) where
      object_tells : (tables : Tables) (l : JsonLine) → IsLineOf Strict with_moves tables p l → TellsJson Strict with_moves tables text (object_told l)
      object_tells tables l is = (l, ForPosition p spells.0 spells.1 is, refl)

      pub object_found : (l : JsonLine) → AddsSome o a b (FindsKept disk folder (needed_by with_moves p) (λ tables l. IsLineOf Strict with_moves tables p l) old new (Ok (Ok l))) → AddsSome o a b (AnswersJson with_moves disk folder old new text l)
      object_found l q = line_found disk folder IsSpelledBy (needed_by with_moves) (TellsJson Strict with_moves) (refused_table_in true) IsText old text (λ tables l. IsLineOf Strict with_moves tables p l) object_told object_tells p spells new o a b l q

      told_as : (l : JsonLine) (words : List ℕ) (done : Bool) → json_text (line_json l) ≡ words → is_told l ≡ done → object_told l ≡ record { words = words; done = done }
      told_as l words done same all =
          ap (λ w. record { words = w; done = is_told l }) same ∙ ap (λ d. record { words = words; done = d }) all

      pub object_refused : (file : FileRefusal) (l : JsonLine) → json_text (line_json l) ≡ refused_table_in true file → is_told l ≡ false
          → AddsSome o a b (FindsKept disk folder (needed_by with_moves p) (λ tables l. IsLineOf Strict with_moves tables p l) old new (Ok (Err file))) → AddsSome o a b (AnswersJson with_moves disk folder old new text l)
      object_refused file l same all q =
          line_refused disk folder IsSpelledBy (needed_by with_moves) (TellsJson Strict with_moves) (refused_table_in true) IsText old text (λ tables l. IsLineOf Strict with_moves tables p l) object_told object_tells p spells new o a b file (object_told l) (told_as l (refused_table_in true file) false same all) q

      pub object_lacked : (r : Result (Result JsonLine FileRefusal) AllocError) → AddsSome o a b (FindsKept disk folder (needed_by with_moves p) (λ tables l. IsLineOf Strict with_moves tables p l) old new r) → AddsSome o a b (LacksRoomForJson with_moves disk folder old text)
      object_lacked r q = room_lacked disk folder IsSpelledBy (needed_by with_moves) (TellsJson Strict with_moves) (refused_table_in true) IsText old text o (λ tables l. IsLineOf Strict with_moves tables p l) p new r a b (p, spells.0, spells.1) spells q

    pub object_none : (with_moves : Bool) (a : T) (fault : FenFault) → IsFirstFenFault text fault → AddsSome o a a (AnswersJson with_moves disk folder old old text (line.Fault fault))
    object_none with_moves a fault first =
        line_by_none disk folder IsSpelledBy (needed_by with_moves) (TellsJson Strict with_moves) (refused_table_in true) IsText old text o a (object_told (line.Fault fault)) (λ tables. (line.Fault fault, ForNone fault first refl, refl))

    -- ---- games

    module _ (delay : ℕ) (g : GameAsked) (spells : SpellsGame delay text g) (new : Tables) (a b : T) where
      abbrev outcome_told : GameOutcome → LineTold
      outcome_told outcome = record { words = outcome_words outcome (length g.moves); done = are_all_legal outcome }

      outcome_tells : (tables : Tables) (outcome : GameOutcome) → IsOutcomeOf g tables outcome → TellsGameLine delay tables text (outcome_told outcome)
      outcome_tells tables outcome is = Played g.start spells.0 spells.1 g.moves spells.2 outcome (subst (λ (d : ℕ). IsOutcomeOf (record { start = g.start; moves = g.moves; delay = d }) tables outcome) spells.3 is) refl

      pub outcome_found : (outcome : GameOutcome) (plies : ℕ) (done : Bool) → plies ≡ length g.moves → done ≡ are_all_legal outcome → AddsSome o a b (FindsKept disk folder (in_play_of g) (IsOutcomeOf g) old new (Ok (Ok outcome)))
          → AddsSome o a b (AnswersGame delay disk folder old new text (record { words = outcome_words outcome plies; done = done }))
      outcome_found outcome plies done count legal q =
          let by = line_found disk folder (SpellsGame delay) in_play_of (TellsGameLine delay) refused_table HasStartFen old text (IsOutcomeOf g) outcome_told outcome_tells g spells new o a b outcome q in
          let counted = subst (λ (n : ℕ). AddsSome o a b (AnswersGame delay disk folder old new text (record { words = outcome_words outcome n; done = are_all_legal outcome }))) (sym count) by in
          subst (λ (d : Bool). AddsSome o a b (AnswersGame delay disk folder old new text (record { words = outcome_words outcome plies; done = d }))) (sym legal) counted

      pub outcome_refused : (file : FileRefusal) → AddsSome o a b (FindsKept disk folder (in_play_of g) (IsOutcomeOf g) old new (Ok (Err file))) → AddsSome o a b (AnswersGame delay disk folder old new text (record { words = refused_table file; done = false }))
      outcome_refused file q = line_refused disk folder (SpellsGame delay) in_play_of (TellsGameLine delay) refused_table HasStartFen old text (IsOutcomeOf g) outcome_told outcome_tells g spells new o a b file _ refl q

      pub outcome_lacked : (r : Result (Result GameOutcome FileRefusal) AllocError) → AddsSome o a b (FindsKept disk folder (in_play_of g) (IsOutcomeOf g) old new r) → AddsSome o a b (LacksRoomForGame delay disk folder old text)
      outcome_lacked r q = room_lacked disk folder (SpellsGame delay) in_play_of (TellsGameLine delay) refused_table HasStartFen old text o (IsOutcomeOf g) g new r a b (g.start, spells.0, spells.1) spells q

-- ---- objects of lines

-- the reply of an object has its words, and is complete where all is told
pub object_text : (r : Reply) (l : JsonLine) → r ≡ json_reply l → r.text ≡ ended (json_text (line_json l))
object_text r l is = ap (λ (x : Reply). x.text) is

pub object_done : (r : Reply) (l : JsonLine) → r ≡ json_reply l → (r.status == 0) ≡ is_told l
object_done r l is = ap (λ (x : Reply). x.status == 0) is ∙ is_done (is_told l)

-- the text is a position, whatever its line is
pub for_position_line : {P E : Type 0} (r : Result JsonLine E) → P → IfOk r (λ l. IsPositionLine l → P)
for_position_line (Ok l) p = λ h. p
for_position_line (Err e) p = tt

-- ---- the lines of an input

-- by a folder of which no table is open, over the system that its files are of
pub answers_over : {A T P F O S L : Type 0} (outside : A → Outside T P F O S L) (by : DiskFacts → Answering Tables) (s t : A) (tables : Tables) (progress : Bool) (r : Result ℕ WriteFault) (a b : T) → s ≡ t → tables ≡ no_tables
    → AddsSome (outside t) a b (Performs (AnswersInput (outside t).input (by (outside s).disk) tables progress) r) → AddsSome (outside t) a b (Performs (AnswersInput (outside t).input (by (outside t).disk) no_tables progress) r)
answers_over outside by s t tables progress r a b same none q =
    let empty = subst (λ k. AddsSome (outside t) a b (Performs (AnswersInput (outside t).input (by (outside s).disk) k progress) r)) none q in
    subst (λ x. AddsSome (outside t) a b (Performs (AnswersInput (outside t).input (by (outside x).disk) no_tables progress) r)) same empty
