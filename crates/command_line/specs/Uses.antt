-- What is printed for a misuse: one line, perhaps a near word, and the line that names help (this project's own).
use Rattle.std.specs.Prelude.{◌≡◌, ◌≢◌, ◌≤◌, ◌<◌, ◌*◌, ◌⊎◌, ◌++◌, ◌==◌, ◌&&◌, not, nat_le, cond, ℕ, Bool, List, [], ◌∷◌, length, Option, Some, None, codes, map}
use Rattle.std.specs.List.{Contains, flat_map}
use Rattle.std.specs.Str.{chars}
use Rattle.strsim.specs.Edits.{osa_table}
use Rattle.hex.specs.Hex.{encode_lower}
use Rattle.clap.specs.Words.{Rule, Text, kind_of}
use Rattle.clap.specs.declared.error.kind.ErrorKind.TheVariants.{DisplayHelp}
use Rattle.move_msg.specs.TextLines.{ended}
use Rattle.command_line.specs.declared.words.usage.Misuse.{Misuse}
use Rattle.command_line.specs.declared.words.usage.Misuse.TheVariants as misuse
use Rattle.command_line.specs.Misuses.{fault_words}
use Rattle.command_line.specs.Tasks.{command_rules, command_word}
use Rattle.command_line.specs.declared.commands.Name.{Name}
use Rattle.timeline.specs.Events.{Event, Flushed, Refused, Wrote}
use Rattle.timeline.specs.Outsides.{Outside}
use Rattle.timeline.specs.declared.stream.Stream.TheVariants.{Errors}

-- ---- words as they are told

-- a byte from the space to the tilde, but for the backslash
abbrev pub is_plain_byte : ℕ → Bool
is_plain_byte b = nat_le 32 b && (nat_le b 126 && not (b == 92))

-- a plain byte is told as it is, any other by its number in hexadecimal digits, as `\x0a`
abbrev pub shown_byte : ℕ → List ℕ
shown_byte b = cond (is_plain_byte b) (b ∷ []) (92 ∷ 120 ∷ encode_lower (b ∷ []))

-- so a line of words has no control byte and no line feed
abbrev pub shown_bytes : List ℕ → List ℕ
shown_bytes = flat_map shown_byte

abbrev pub shown_line : List ℕ → List ℕ
shown_line words = ended (shown_bytes words)

-- ---- what is told

-- how many letters are put in, taken out, changed or swapped with their neighbour to make the second text of the first
abbrev pub edits : Text → Text → ℕ
edits given word = (osa_table (chars given) (chars word)).last_row (length (chars word))

-- a word that may be meant by a given one: at most two edits, fewer than half of its bytes
abbrev pub IsNear : Text → Text → Type 0
IsNear given word = (edits given word ≤ 2) × (2 * edits given word < length given)

-- the command has an option or a flag of this name
abbrev pub IsOptionOf : Name → Text → Type 0
IsOptionOf name word = (rule : Rule) × Contains (command_rules name) rule × (rule.long ≡ Some word)

-- a near word, if there is one: of an unknown command a command's, of words that a command's parser refuses that of an option or flag
abbrev pub IsNearWord : Misuse → Option Text → Type 0
IsNearWord m None = Unit {0}
IsNearWord misuse.NoCommand (Some word) = ⊥
IsNearWord misuse.Help (Some word) = ⊥
IsNearWord (misuse.HelpOf command) (Some word) = ⊥
IsNearWord (misuse.NoText given) (Some word) = ⊥
IsNearWord (misuse.UnknownCommand given) (Some word) = IsNear given.now word × ((name : Name) × (word ≡ command_word name))
IsNearWord (misuse.Refused command e) (Some word) = (id : Text) × IsOptionOf command id × (word ≡ codes "--" ++ id)
IsNearWord (misuse.Value command fault) (Some word) = ⊥

-- the line that asks whether it is meant
abbrev pub near_line : Option Text → List ℕ
near_line None = []
near_line (Some word) = codes "did you mean " ++ word ++ codes "?\n"

-- the line that names help: that of a command, or all of it
abbrev pub help_line : Option Name → List ℕ
help_line None = codes "see adjudicate help\n"
help_line (Some command) = codes "see adjudicate help " ++ command_word command ++ codes "\n"

-- both
abbrev pub behind_line : Option Text → Option Name → List ℕ
behind_line near command = near_line near ++ help_line command

-- a line with what stands behind it
abbrev pub IsToldAs : Misuse → Option Name → List ℕ → List ℕ → Type 0
IsToldAs m command line text = (near : Option Text) × IsNearWord m near × (text ≡ line ++ behind_line near command)

-- help of a command begins with its name; what stands behind it is not said
abbrev pub help_head : Name → List ℕ
help_head command = codes "adjudicate " ++ command_word command ++ codes ": "

abbrev pub IsHelpOf : Name → List ℕ → Type 0
IsHelpOf command text = (rest : List ℕ) × (text ≡ help_head command ++ rest)

-- What is told of a misuse: a line, perhaps a near word, and where help is. Of words that the parser of command lines refuses the line is
-- some line of printing bytes: that the words are the parser's is not said. Where there is no word the list of commands stands behind
-- the line, and where help is asked for, it alone, or help of the command: of that list is not said what it is
abbrev pub IsToldSo : Misuse → List ℕ → Type 0
IsToldSo misuse.NoCommand text = (list : List ℕ) × (text ≡ shown_line (codes "no command") ++ list)
IsToldSo misuse.Help text = Unit {0}
IsToldSo (misuse.HelpOf command) text = IsHelpOf command text
IsToldSo (misuse.NoText word) text = IsToldAs (misuse.NoText word) None (shown_line (codes "no text " ++ word.now)) text
IsToldSo (misuse.UnknownCommand word) text = IsToldAs (misuse.UnknownCommand word) None (shown_line (codes "no command " ++ word.now)) text
IsToldSo (misuse.Refused command e) text =
    ((kind_of e ≡ DisplayHelp) × IsHelpOf command text) ⊎ ((kind_of e ≢ DisplayHelp) × ((words : List ℕ) × IsToldAs (misuse.Refused command e) (Some command) (shown_line words) text))
IsToldSo (misuse.Value command fault) text = IsToldAs (misuse.Value command fault) (Some command) (shown_line (fault_words fault)) text

-- ---- on standard error

-- a text is written, in some pieces
pub record WritesText (text : List ℕ) (events : List Event) : Type 0 where
  pub pieces : List (List ℕ)
  pub whole : flat_map (λ piece. piece) pieces ≡ text
  pub written : events ≡ map (Wrote Errors) pieces

-- at a moment standard error can take no more: a write may be refused, or what was written can't go out
abbrev pub TakesNoMore : {T P F K S L : Type 0} → Outside T P F K S L → Type 0
TakesNoMore {T} o = (t : T) × ((o.output t Errors).refuses ⊎ (o.output t Errors).stuck)

-- a front of the text is written, and then no more, since a write was refused, or what was written can't go out
pub record CutsOff {T P F K S L : Type 0} (o : Outside T P F K S L) (text : List ℕ) (events : List Event) : Type 0 where
  pub front : List ℕ
  pub rest : List ℕ
  pub is : text ≡ front ++ rest
  pub before : List Event
  pub written : WritesText front before
  pub all : events ≡ before ++ Refused Errors ∷ []
  pub cause : TakesNoMore o

-- the text is written, and has gone out at the moment after it; or it is cut off
pub data GoesOut {T P F K S L : Type 0} (o : Outside T P F K S L) (after : T) (text : List ℕ) (events : List Event) : Type 0 where
  Gone : (before : List Event) → WritesText text before → (o.output after Errors).gone → events ≡ before ++ Flushed Errors ∷ [] → GoesOut o after text events
  CutOff : CutsOff o text events → GoesOut o after text events

-- the text that tells the misuse goes out
pub record TellsMisuse {T P F K S L : Type 0} (o : Outside T P F K S L) (after : T) (misuse : Misuse) (events : List Event) : Type 0 where
  pub text : List ℕ
  pub is : IsToldSo misuse text
  pub out : GoesOut o after text events
