-- The words of `audit --name N --start FEN --tables DIR [--manifest FILE] [--delay N] FILE [FILE]` (this project's own).
use Rattle.std.specs.Prelude.{◌≡◌, ◌++◌, false, List, [], ◌∷◌, Option, Some, codes, option_map}
use Rattle.clap.specs.Words.{Rule, Text}
use Rattle.command_line.specs.Rules.{rule_of_form}
use Rattle.command_line.specs.declared.commands.Form.TheVariants as form
use Rattle.command_line.specs.declared.words.usage.Wanted.TheVariants as wanted
use Rattle.command_line.specs.Misuses.{Fault, NoWord, Unfit, game_faults, AreGameWords}
use Rattle.task_files.specs.Sources.{Named}
use Rattle.command_line.specs.Numbers.{IsDelay}
use Rattle.command_line.specs.declared.commands.audit.Audit.{Audit}

abbrev pub rules : List Rule
rules =
    rule_of_form form.Option (codes "name")
    ∷ rule_of_form form.Option (codes "start")
    ∷ rule_of_form form.Option (codes "tables")
    ∷ rule_of_form form.Option (codes "manifest")
    ∷ rule_of_form form.Option (codes "delay")
    ∷ rule_of_form form.Option (codes "games")
    ∷ rule_of_form form.Option (codes "other")
    ∷ rule_of_form form.Word (codes "FILE")
    ∷ rule_of_form form.Word (codes "OTHER") ∷ []

-- the values of its arguments, of which the name is that of a game
pub record HasValues (value : Text → Option Text) (t : Audit) : Type 0 where
  pub game : AreGameWords value t.name t.start.now t.tables.now
  pub manifest : option_map (λ s. s.now) t.manifest ≡ value (codes "manifest")
  pub delay : IsDelay (value (codes "delay")) t.delay
  pub file : Some t.file.now ≡ value (codes "FILE")
  pub other : option_map (λ s. s.now) t.other ≡ value (codes "OTHER")

-- what may be wrong with its values, in the order in which it is told
abbrev pub faults : List Fault
faults = game_faults ++ Unfit wanted.Delay ∷ NoWord (codes "FILE") ∷ []

-- what is read for it
abbrev pub named : Audit → Named
named t = record { folder = Some t.tables.now; manifest = option_map (λ s. s.now) t.manifest; input = false; kept = Some t.file.now; other_kept = option_map (λ s. s.now) t.other }
