-- The words of `games --tables DIR [--manifest FILE] [--all-tables] [--memory MB] [--delay N] [--progress]` (this project's own).
use Rattle.std.specs.Prelude.{◌≡◌, not, false, List, [], ◌∷◌, Option, Some, None, codes, option_map}
use Rattle.clap.specs.Words.{Rule, Text}
use Rattle.command_line.specs.LazyFolders.{read_at_once}
use Rattle.task_files.specs.Sources.{Named}
use Rattle.command_line.specs.Rules.{rule_of_form}
use Rattle.command_line.specs.declared.commands.Form.TheVariants as form
use Rattle.command_line.specs.Misuses.{Fault, NoOption, Unfit}
use Rattle.command_line.specs.declared.words.usage.Wanted.TheVariants as wanted
use Rattle.command_line.specs.Numbers.{IsDelay, IsMemory, is_set}
use Rattle.command_line.specs.declared.commands.games.FollowGames.{FollowGames}

abbrev pub rules : List Rule
rules =
    rule_of_form form.Option (codes "tables")
    ∷ rule_of_form form.Option (codes "manifest")
    ∷ rule_of_form form.Flag (codes "all-tables")
    ∷ rule_of_form form.Option (codes "memory")
    ∷ rule_of_form form.Option (codes "delay")
    ∷ rule_of_form form.Flag (codes "progress") ∷ []

-- the values of its arguments
abbrev pub HasValues : (Text → Option Text) → FollowGames → Type 0
HasValues value t =
    (Some t.tables.now ≡ value (codes "tables")) × (option_map (λ s. s.now) t.manifest ≡ value (codes "manifest"))
    × (t.all_tables ≡ is_set (value (codes "all-tables"))) × IsMemory (value (codes "memory")) t.memory × IsDelay (value (codes "delay")) t.delay × (t.progress ≡ is_set (value (codes "progress")))

-- what may be wrong with its values, in the order in which it is told
abbrev pub faults : List Fault
faults = NoOption (codes "tables") ∷ Unfit wanted.Memory ∷ Unfit wanted.Delay ∷ []

-- what is read for it before it answers
abbrev pub named : FollowGames → Named
named t = record { folder = option_map (λ s. s.now) (read_at_once (not t.all_tables) (Some t.tables)); manifest = option_map (λ s. s.now) t.manifest; input = false; kept = None; other_kept = None }
