-- The words of `follow [--tables DIR] [--manifest FILE] [--all-tables] [--delay N] [--san] FEN` (this project's own).
use Rattle.std.specs.Prelude.{◌≡◌, not, false, List, [], ◌∷◌, Option, Some, None, codes, option_map}
use Rattle.clap.specs.Words.{Rule, Text}
use Rattle.command_line.specs.Rules.{rule_of_form}
use Rattle.command_line.specs.declared.commands.Form.TheVariants as form
use Rattle.command_line.specs.Misuses.{Fault, NoWord, Unfit}
use Rattle.command_line.specs.declared.words.usage.Wanted.TheVariants as wanted
use Rattle.command_line.specs.LazyFolders.{read_at_once}
use Rattle.task_files.specs.Sources.{Named}
use Rattle.command_line.specs.Numbers.{IsDelay, is_set}
use Rattle.command_line.specs.declared.commands.follow.Follow.{Follow}

abbrev pub rules : List Rule
rules =
    rule_of_form form.Option (codes "tables")
    ∷ rule_of_form form.Option (codes "manifest")
    ∷ rule_of_form form.Flag (codes "all-tables")
    ∷ rule_of_form form.Option (codes "delay")
    ∷ rule_of_form form.Flag (codes "san")
    ∷ rule_of_form form.Word (codes "FEN") ∷ []

-- the values of its arguments
abbrev pub HasValues : (Text → Option Text) → Follow → Type 0
HasValues value t = (option_map (λ s. s.now) t.tables ≡ value (codes "tables")) × (option_map (λ s. s.now) t.manifest ≡ value (codes "manifest")) × (t.all_tables ≡ is_set (value (codes "all-tables"))) × IsDelay (value (codes "delay")) t.delay × (t.san ≡ is_set (value (codes "san"))) × (Some t.fen.now ≡ value (codes "FEN"))

-- what may be wrong with its values, in the order in which it is told
abbrev pub faults : List Fault
faults = Unfit wanted.Delay ∷ NoWord (codes "FEN") ∷ []

-- what is read for it before it answers: the input is not, since its lines are read as they come
abbrev pub named : Follow → Named
named t = record { folder = option_map (λ s. s.now) (read_at_once (not t.all_tables) t.tables); manifest = option_map (λ s. s.now) t.manifest; input = false; kept = None; other_kept = None }
