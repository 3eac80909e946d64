-- A reply that is written, by what is printed.
use Rattle.std.proofs.Common.{◌≡◌, ◌∙◌, ◌++◌, ◌∷◌, [], ℕ, List, Option, Some, ap, append-nil, map, refl}
use Rattle.std.specs.List.{flat_map}
use Rattle.move_msg.specs.TextLines.{ended, text_of}
use Rattle.timeline.specs.Events.{Event, Wrote}
use Rattle.timeline.specs.declared.stream.Stream.TheVariants.{Output}
use Rattle.answer_parts.specs.Printing.{Prints, PrintsReply, printed}
use Rattle.answer_parts.specs.Reply.{Reply, refusal_reply}

abbrev pub reply : List ℕ → ℕ → Reply
reply text status = record { text = text; status = status }

-- a text at once
pub text_written : (text : List ℕ) (status : ℕ) → PrintsReply (reply text status) (Wrote Output text ∷ []) (Some status)
text_written text status = (record { pieces = text ∷ []; whole = append-nil text; written = refl }, refl)

-- lines, each at once
all_ended : (lines : List (List ℕ)) → flat_map (λ (piece : List ℕ). piece) (map ended lines) ≡ text_of lines
all_ended [] = refl
all_ended (line ∷ lines) = ap (λ (l : List ℕ). ended line ++ l) (all_ended lines)

all_written : (lines : List (List ℕ)) → printed lines ≡ map (Wrote Output) (map ended lines)
all_written [] = refl
all_written (line ∷ lines) = ap (λ (l : List Event). Wrote Output (ended line) ∷ l) (all_written lines)

pub lines_written : (lines : List (List ℕ)) (status : ℕ) (events : List Event) (is : Option ℕ) → Prints lines status events is → PrintsReply (reply (text_of lines) status) events is
lines_written lines status events is p = (record { pieces = map ended lines; whole = all_ended lines; written = p.0 ∙ all_written lines }, p.1)

-- one line
pub line_written : (words : List ℕ) (status : ℕ) (events : List Event) (is : Option ℕ) → PrintsReply (reply (text_of (words ∷ [])) status) events is → PrintsReply (reply (ended words) status) events is
line_written words status events is p = (record { pieces = p.0.pieces; whole = p.0.whole ∙ append-nil (ended words); written = p.0.written }, p.1)

pub refusal_written : (words : List ℕ) (events : List Event) (is : Option ℕ) → Prints (words ∷ []) 1 events is → PrintsReply (refusal_reply words) events is
refusal_written words events is p = line_written words 1 events is (lines_written (words ∷ []) 1 events is p)
