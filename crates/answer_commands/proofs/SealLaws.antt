-- What is noted and written where there are no keys.
use Rattle.std.proofs.Common.{◌≡◌, ◌∷◌, ◌++◌, [], ℕ, List, Some, refl, subst}
use Rattle.std.specs.Prelude.{Result, Ok, Err, IfOk, String, string_bytes}
use Rattle.std.specs.Global.{Global}
use Rattle.answer_commands.specs.Sealed.{IsNoted, NotNoted, NotesKeys, RefusesKeys, key_note}
use Rattle.answer_parts.proofs.PrintLaws.{then_prints}
use Rattle.host_commands.specs.Notes.{noted_if}
use Rattle.answer_parts.specs.Lines.{refusal_words}
use Rattle.answer_parts.specs.Printing.{Performs, Prints}
use Rattle.answer_parts.specs.declared.answers.refusals.Refusal.{Refusal}
use Rattle.system_io.specs.declared.output.WriteFault.{WriteFault}
use Rattle.timeline.specs.Events.{Noted}
use Rattle.timeline.specs.Outsides.{Adds, AddsSome, Outside}

-- a line with these words is noted, if it could be made
pub noted_line : {T P F K S L E : Type 0} (o : Outside T P F K S L) (a b : T) (path words : List ℕ) (why : Refusal) (line : Result (String Global) E) → IfOk line (λ l. string_bytes l ≡ words) → key_note path why ≡ Some words → Adds o a b (noted_if line) → AddsSome o a b (NotesKeys path why)
noted_line o a b path words why (Ok l) is key made = (Noted words ∷ [], subst (λ (w : List ℕ). Adds o a b (Noted w ∷ [])) is made, IsNoted words key refl)
noted_line o a b path words why (Err e) is key made = ([], made, NotNoted refl)

-- and then the refusal is written
pub keys_refused : {T P F K S L : Type 0} (o : Outside T P F K S L) (a b c : T) (path : List ℕ) (why : Refusal) (r : Result ℕ WriteFault) → AddsSome o a b (NotesKeys path why) → AddsSome o b c (Performs (Prints (refusal_words why ∷ []) 1) r) → AddsSome o a c (Performs (RefusesKeys path why) r)
keys_refused o a b c path why r p q =
    then_prints o a b c p.0 (RefusesKeys path why) (refusal_words why ∷ []) 1 r (record { noting = p.0; notes = p.2; all = refl; is = refl }) p.1 q
