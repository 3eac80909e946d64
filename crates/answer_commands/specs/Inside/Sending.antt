-- What is read of a game that is sent, and the second line on who was silent; cited by private functions alone.
use Rattle.std.specs.Prelude.{◌≡◌, ℕ, List, [], ◌∷◌, Result, Ok, Err, take}
use Rattle.answer_commands.specs.SentGames.{ReadsGameFile, ReadsSent, ReadsToldGame}
use Rattle.answer_commands.specs.Sending.{silence_b}
use Rattle.answer_commands.specs.declared.sent_game.GameSent.{GameSent}
use Rattle.answer_parts.specs.Lines.{refusal_words}
use Rattle.answer_parts.specs.declared.answers.refusals.Refusal.{Refusal}
use Rattle.command_line.specs.declared.commands.send.GameFile.{GameFile}
use Rattle.command_line.specs.declared.commands.send.Send.{Send}
use Rattle.command_line.specs.declared.commands.send.SentGame.{SentGame}
use Rattle.command_line.specs.declared.commands.send.ToldGame.{ToldGame}
use Rattle.source_core.specs.declared.known.Known.{Known}
use Rattle.timeline.specs.Events.{Event, Flushed, Refused, Wrote}
use Rattle.timeline.specs.Outsides.{Outside}
use Rattle.timeline.specs.declared.stream.Stream.TheVariants.{Errors}

-- a game that was read, or the words that say why there is none
abbrev pub game_taken : Result GameSent Refusal → Result GameSent (List ℕ)
game_taken (Ok game) = Ok game
game_taken (Err refusal) = Err (refusal_words refusal)

-- what is read of a game that words tell, of one in a file, and of either
abbrev pub ToldGiven : {T P F K S L : Type 0} → Outside T P F K S L → Send → ToldGame → Result GameSent Refusal → List Event → Type 0
ToldGiven o t g result = ReadsToldGame o.disk t g (game_taken result)

abbrev pub FileGiven : {T P F K S L : Type 0} → Outside T P F K S L → GameFile → Result GameSent Refusal → List Event → Type 0
FileGiven o f result = ReadsGameFile o.disk f (game_taken result)

abbrev pub GameGiven : {T P F K S L : Type 0} → Outside T P F K S L → Send → SentGame → Result GameSent Refusal → List Event → Type 0
GameGiven o t g result = ReadsSent o.disk t g (game_taken result)

-- the line of the second arbiter is written to the errors, and all goes out; or a front of that
pub data WritesSecond (known : Known) (events : List Event) : Type 0 where
  IsOut : events ≡ Wrote Errors (silence_b known) ∷ Flushed Errors ∷ [] → WritesSecond known events
  IsStuck : events ≡ Wrote Errors (silence_b known) ∷ Refused Errors ∷ [] → WritesSecond known events
  IsCut : (count : ℕ) → events ≡ Wrote Errors (take count (silence_b known)) ∷ Refused Errors ∷ [] → WritesSecond known events
