-- What comes of a manifest, and of the next line of a list; cited by private functions alone.
use Rattle.std.specs.Prelude.{◌≡◌, ◌++◌, ℕ, Bool, true, false, List, [], ◌∷◌, Option, Some, Result, Ok, Err, Vec, option_map}
use Rattle.std.specs.Borrow.{Bor}
use Rattle.std.specs.Global.{Global}
use Rattle.answer_parts.specs.Lines.{refusal_words}
use Rattle.answer_parts.specs.declared.answers.refusals.EntryFault.{EntryFault}
use Rattle.answer_parts.specs.declared.answers.refusals.Refusal.{Refusal}
use Rattle.answer_commands.specs.Earlier.{FindsCount, NotesEarlier}
use Rattle.answer_commands.specs.Enter.{ComesOf, EntersAll, KeepsGame, LacksRoom, Place, PutsGame, TellsOf, entered}
use Rattle.answer_commands.specs.Inside.StoreReading.{known_of}
use Rattle.answer_commands.specs.Keeping.{KeepsOver}
use Rattle.answer_parts.specs.Printing.{IsCutIn, printed}
use Rattle.answer_commands.specs.Stamping.{ReadsStamping}
use Rattle.answer_commands.specs.StoreReads.{Known}
use Rattle.answer_commands.specs.declared.entering.GamePlace.{GamePlace}
use Rattle.answer_commands.specs.declared.entering.Step.{Step}
use Rattle.answer_commands.specs.declared.keeping.GameText.{GameText}
use Rattle.answer_commands.specs.declared.keeping.KeepFault.{KeepFault}
use Rattle.answer_commands.specs.declared.store_reading.Records.{Records}
use Rattle.board_core.specs.declared.parts.Parts.{Parts}
use Rattle.command_line.specs.declared.commands.enter.OneGame.{OneGame}
use Rattle.answer_commands.specs.declared.entering.Step.TheVariants as step
use Rattle.line_teller.specs.ToldLines.{LineTold}
use Rattle.move_msg.specs.TextLines.{lines_in}
use Rattle.move_msg.specs.declared.stamp.Stamp.{Stamp}
use Rattle.system_io.specs.KeptFiles.{bytes_of}
use Rattle.system_io.specs.Records.{records_of}
use Rattle.system_io.specs.declared.record_store.Entry.{Entry}
use Rattle.system_io.specs.declared.output.WriteFault.{WriteFault}
use Rattle.timeline.specs.Events.{Event}
use Rattle.timeline.specs.Outsides.{Outside}

-- a manifest, or the words that say why there is none
abbrev pub stamping_taken : Result (Vec ℕ Global) Refusal → Result (List ℕ) (List ℕ)
stamping_taken (Ok text) = Ok text.items
stamping_taken (Err refusal) = Err (refusal_words refusal)

-- the manifest is read so, of the file that is named or of the tables of a folder
abbrev pub StampingOf : {T P F K S L : Type 0} → Outside T P F K S L → Option (List ℕ) → List ℕ → Result (Vec ℕ Global) Refusal → List Event → Type 0
StampingOf o named tables result = ReadsStamping o.disk named tables (stamping_taken result)

-- whatever the folder is, of the file at this path
abbrev pub FileStamping : {T P F K S L : Type 0} → Outside T P F K S L → List ℕ → Result (Vec ℕ Global) Refusal → List Event → Type 0
FileStamping o path result events = (tables : List ℕ) → StampingOf o (Some path) tables result events

abbrev pub StampingBy : {T P F K S L : Type 0} → Outside T P F K S L → Option (Bor (List ℕ)) → List ℕ → Result (Vec ℕ Global) Refusal → List Event → Type 0
StampingBy o named tables = StampingOf o (option_map (λ s. s.now) named) tables

abbrev pub place_of : GamePlace → Place
place_of p = record { games = p.games.now; manifest = p.manifest.now; is_new = p.is_new }

-- what comes of a line, or that memory was refused for its game
abbrev pub ComesOfLine : {T P F K S L E : Type 0} → Outside T P F K S L → Place → List ℕ → Known → Known → Result (Result Stamp EntryFault) E → List Event → Type 0
ComesOfLine o p line before after (Ok r) events = ComesOf o p line before after r events
ComesOfLine o p line before after (Err e) events = LacksRoom o p line before after events

-- what was told of the next line, and whether it is the last
abbrev pub IsStep : LineTold → Bool → Step → Type 0
IsStep t is_last (step.Told done) = (is_last ≡ false) × (done ≡ t.done)
IsStep t is_last step.Cut = is_last ≡ true

-- the next line is entered and told; or what is told of it can't be written
abbrev pub EntersNext : {T P F K S L : Type 0} → Outside T P F K S L → Place → ℕ → List ℕ → Known → Known → Result Step WriteFault → List Event → Type 0
EntersNext o p number line before after (Ok step) events =
    (t : LineTold) × (is_last : Bool) × (entering : List Event) × TellsOf o p number line before after t is_last entering × IsStep t is_last step × (events ≡ entering ++ printed (t.words ∷ []))
EntersNext o p number line before after (Err fault) events =
    (t : LineTold) × (is_last : Bool) × (entering : List Event) × TellsOf o p number line before after t is_last entering × IsCutIn (entering ++ printed (t.words ∷ [])) events

-- ---- at a place, with what is known of the folder's store before and after

abbrev pub NotesAt : {T P F K S L : Type 0} → Outside T P F K S L → GamePlace → List ℕ → Stamp → Records → Records → List Event → Type 0
NotesAt o p path stamp before after = NotesEarlier o p.games.now path stamp (known_of before) (known_of after)

abbrev pub KeepsAt : {T P F K S L : Type 0} → Outside T P F K S L → GamePlace → Stamp → List ℕ → Records → Records → Result (Unit {0}) KeepFault → List Event → Type 0
KeepsAt o p stamp text before after = KeepsGame o (place_of p) stamp text (known_of before) (known_of after)

abbrev pub PutsAt : {T P F K S L : Type 0} → Outside T P F K S L → GamePlace → OneGame → Parts → List Event → Option ℕ → Type 0
PutsAt o p game start = PutsGame o (place_of p) (entered game start)

abbrev pub LineAt : {T P F K S L E : Type 0} → Outside T P F K S L → GamePlace → List ℕ → Records → Records → Result (Result Stamp EntryFault) E → List Event → Type 0
LineAt o p line before after = ComesOfLine o (place_of p) line (known_of before) (known_of after)

abbrev pub NextAt : {T P F K S L : Type 0} → Outside T P F K S L → GamePlace → ℕ → List ℕ → Records → Records → Result Step WriteFault → List Event → Type 0
NextAt o p number line before after = EntersNext o (place_of p) number line (known_of before) (known_of after)

abbrev pub AllAt : {T P F K S L : Type 0} → Outside T P F K S L → GamePlace → List ℕ → List Event → Option ℕ → Type 0
AllAt o p list = EntersAll o (place_of p) (lines_in list)

-- a text over what a start found in a file
abbrev pub KeepsFound : {T P F K S L : Type 0} → Outside T P F K S L → Bool → F → F → Option (Vec ℕ Global) → List ℕ → Result GameText KeepFault → List Event → Type 0
KeepsFound o is_new file after found = KeepsOver o is_new file after (bytes_of found)

-- how many moves a record has, of the entries of a store or else of its file
abbrev pub FindsMoves : {T P F K S L : Type 0} → Outside T P F K S L → List ℕ → Stamp → List Entry → Option ℕ → List Event → Type 0
FindsMoves o path stamp entries = FindsCount o.disk path stamp (records_of entries stamp)
