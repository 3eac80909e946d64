-- `serve`, and then the output's end (this project's own).
use Rattle.std.specs.Prelude.{ℕ, Result, OnErr}
use Rattle.answer_commands.specs.Endings.{Closes}
use Rattle.answer_parts.specs.Printing.{OutputFails}
use Rattle.command_line.specs.declared.commands.serve.Serve.{Serve}
use Rattle.serve_core.specs.Serve.{Serves}
use Rattle.system_io.specs.declared.output.WriteFault.{WriteFault}
use Rattle.timeline.specs.Outsides.{AddsSome, Outside}

pub record ServesAndEnds {T P F K S L : Type 0} (o : Outside T P F K S L) (t : Serve) (before after : T) (status : ℕ) : Type 0 where
  pub answered : Result ℕ WriteFault
  -- when all is answered
  pub done : T
  pub serves : Serves o t before done answered
  pub cause : OnErr answered (OutputFails o)
  pub closes : AddsSome o done after (Closes o after answered status)
