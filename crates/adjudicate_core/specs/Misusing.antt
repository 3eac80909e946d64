-- Words that are no task, and memory that is refused before there is one (this project's own).
use Rattle.std.specs.Prelude.{ℕ, [], ◌∷◌, Ok}
use Rattle.answer_commands.specs.Endings.{Closes, Ends}
use Rattle.answer_parts.specs.Printing.{Prints}
use Rattle.command_line.specs.Uses.{TellsMisuse}
use Rattle.command_line.specs.declared.words.usage.Misuse.{Misuse}
use Rattle.line_teller.specs.ToldLines.{refused_memory}
use Rattle.timeline.specs.Outsides.{AddsSome, Outside}

-- a misuse is said on standard error, and then the output ends, with status 2; nothing else happens
pub record TellsAndEnds {T P F K S L : Type 0} (m : Misuse) (o : Outside T P F K S L) (before after : T) (status : ℕ) : Type 0 where
  -- when it has been said
  pub mid : T
  pub tells : AddsSome o before mid (TellsMisuse o mid m)
  pub ends : AddsSome o mid after (Closes o after (Ok 2) status)

-- the line `refused memory` is written, and then the output ends, with status 1; nothing else happens
abbrev pub RefusesMemory : {T P F K S L : Type 0} → Outside T P F K S L → T → T → ℕ → Type 0
RefusesMemory o before after status = AddsSome o before after (Ends o after (Prints (refused_memory ∷ []) 1) status)
