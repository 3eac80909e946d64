-- What is told of misused words, piece by piece; cited by private functions alone.
use Rattle.std.specs.Borrow.{Bor}
use Rattle.std.specs.Prelude.{◌≡◌, ◌⊎◌, ◌++◌, ◌*◌, ◌≤◌, ◌<◌, ℕ, List, Option, Some, None, Result, Ok, Err, codes}
use Rattle.clap.specs.Words.{Text}
use Rattle.command_line.specs.declared.words.usage.Misuse.{Misuse}
use Rattle.command_line.specs.declared.words.usage.Misuse.TheVariants as misuse
use Rattle.command_line.specs.Misuses.{AsksForHelp}
use Rattle.command_line.specs.Tasks.{IsHelpBy, command_word}
use Rattle.command_line.specs.Uses.{CutsOff, GoesOut, IsNear, IsOptionOf, WritesText, behind_line, shown_line}
use Rattle.command_line.specs.declared.commands.Name.{Name}
use Rattle.command_line.specs.declared.words.uses.Behind.{Behind}
use Rattle.command_line.specs.declared.words.uses.Hint.{Hint}
use Rattle.command_line.specs.declared.words.uses.Hint.TheVariants as hint
use Rattle.timeline.specs.Events.{Event}
use Rattle.timeline.specs.Outsides.{AddsSome, Outside}

-- of a first word that names no command, and the words behind it
abbrev pub IsMisuseOf : Text → List Text → Misuse → Type 0
IsMisuseOf word others m = (AsksForHelp word × IsHelpBy others m) ⊎ ((AsksForHelp word → ⊥) × ((told : Bor (List ℕ)) × (told.now ≡ word) × (m ≡ misuse.UnknownCommand told)))

-- ---- near words

-- the word of a hint, as it is printed
abbrev pub hinted : Hint → Option Text
hinted hint.Nothing = None
hinted (hint.Command word) = Some word.now
hinted (hint.Option word) = Some (codes "--" ++ word.now)

-- few edits, for a word of so many bytes
abbrev pub IsFew : ℕ → ℕ → Type 0
IsFew edits size = (edits ≤ 2) × (2 * edits < size)

-- a near command's word
abbrev pub IsNearCommand : Text → Text → Type 0
IsNearCommand given word = IsNear given word × ((name : Name) × (word ≡ command_word name))

abbrev pub IsCommandHint : Text → Hint → Type 0
IsCommandHint given hint.Nothing = Unit {0}
IsCommandHint given (hint.Command word) = IsNearCommand given word.now
IsCommandHint given (hint.Option word) = ⊥

abbrev pub IsOptionHint : Name → Hint → Type 0
IsOptionHint command hint.Nothing = Unit {0}
IsOptionHint command (hint.Command word) = ⊥
IsOptionHint command (hint.Option word) = IsOptionOf command word.now

-- ---- what is written

-- what stands behind the line of a misuse
abbrev pub words_behind : Behind → List ℕ
words_behind b = behind_line (hinted b.hint) b.name

-- the line for words that the parser of a command refuses, with what stands behind it
abbrev pub IsRefusedLine : Name → List ℕ → Type 0
IsRefusedLine command text = (words : List ℕ) × ((h : Hint) × IsOptionHint command h × (text ≡ shown_line words ++ behind_line (hinted h) (Some command)))

-- the text is written, or it is cut off
abbrev pub IsPut : {T P F K S L X E : Type 0} → Outside T P F K S L → List ℕ → Result X E → List Event → Type 0
IsPut o text (Ok x) events = WritesText text events
IsPut o text (Err e) events = CutsOff o text events

abbrev pub Puts : {T P F K S L X E : Type 0} → Outside T P F K S L → T → T → List ℕ → Result X E → Type 0
Puts o before after text r = AddsSome o before after (IsPut o text r)

-- the text goes out
abbrev pub Tells : {T P F K S L : Type 0} → Outside T P F K S L → T → T → List ℕ → Type 0
Tells o before after text = AddsSome o before after (GoesOut o after text)
