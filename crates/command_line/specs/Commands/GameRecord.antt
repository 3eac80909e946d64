-- The words of `record --games DIR STAMP` (this project's own).
use Rattle.std.specs.Prelude.{◌≡◌, List, [], ◌∷◌, Option, Some, None, codes}
use Rattle.clap.specs.Words.{Text}
use Rattle.command_line.specs.Commands.Record as one_file
use Rattle.command_line.specs.GamePaths.{SpellsStamp}
use Rattle.command_line.specs.Misuses.{Fault, NoWord, Unfit}
use Rattle.command_line.specs.declared.words.usage.Wanted.TheVariants as wanted
use Rattle.command_line.specs.declared.commands.game_record.GameRecord.{GameRecord}

-- the values of its arguments
pub record HasValues (value : Text → Option Text) (t : GameRecord) : Type 0 where
  pub games : Some t.games.now ≡ value (codes "games")
  pub text : Text
  pub given : Some text ≡ value (codes "FILE")
  pub stamp : SpellsStamp text t.stamp

-- what may be wrong with its values, in the order in which it is told
abbrev pub faults : List Fault
faults = NoWord (codes "FILE") ∷ Unfit wanted.Stamp ∷ []

-- and with those of `record`, by the folder of games
abbrev pub faults_by : Option Text → List Fault
faults_by None = one_file.faults
faults_by (Some games) = faults
