-- The words of `pgn --tables DIR [--manifest FILE] [--all-tables] [--memory MB] [--delay N] [--json] [--differ] [FILE]` (this project's own).
use Rattle.std.specs.Prelude.{◌≡◌, not, false, List, [], ◌∷◌, Option, Some, None, codes, option_map}
use Rattle.command_line.specs.LazyFolders.{read_at_once}
use Rattle.clap.specs.Words.{Rule, Text}
use Rattle.task_files.specs.Sources.{Named}
use Rattle.command_line.specs.Rules.{rule_of_form}
use Rattle.command_line.specs.declared.commands.Form.TheVariants as form
use Rattle.command_line.specs.Misuses.{Fault, NoOption, Unfit}
use Rattle.command_line.specs.declared.words.usage.Wanted.TheVariants as wanted
use Rattle.command_line.specs.Numbers.{IsDelay, IsMemory, is_set}
use Rattle.command_line.specs.declared.commands.pgn.JudgePgn.{JudgePgn}

abbrev pub rules : List Rule
rules =
    rule_of_form form.Option (codes "tables")
    ∷ rule_of_form form.Option (codes "manifest")
    ∷ rule_of_form form.Flag (codes "all-tables")
    ∷ rule_of_form form.Option (codes "memory")
    ∷ rule_of_form form.Option (codes "delay")
    ∷ rule_of_form form.Flag (codes "json")
    ∷ rule_of_form form.Flag (codes "differ")
    ∷ rule_of_form form.Word (codes "FILE") ∷ []

-- the values of its arguments
abbrev pub HasValues : (Text → Option Text) → JudgePgn → Type 0
HasValues value t =
    (Some t.tables.now ≡ value (codes "tables")) × (option_map (λ s. s.now) t.manifest ≡ value (codes "manifest"))
    × (t.all_tables ≡ is_set (value (codes "all-tables"))) × IsMemory (value (codes "memory")) t.memory × IsDelay (value (codes "delay")) t.delay × (t.json ≡ is_set (value (codes "json"))) × (t.differ ≡ is_set (value (codes "differ")))
    × (option_map (λ s. s.now) t.file ≡ value (codes "FILE"))

-- what may be wrong with its values, in the order in which it is told
abbrev pub faults : List Fault
faults = NoOption (codes "tables") ∷ Unfit wanted.Memory ∷ Unfit wanted.Delay ∷ []

-- what is read for it before it answers: not its games, since they are read as they come
abbrev pub named : JudgePgn → Named
named t = record { folder = option_map (λ s. s.now) (read_at_once (not t.all_tables) (Some t.tables)); manifest = option_map (λ s. s.now) t.manifest; input = false; kept = None; other_kept = None }
