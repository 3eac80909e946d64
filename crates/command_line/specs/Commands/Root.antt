-- The words of `root --tables DIR [--manifest FILE] [--all-tables] [--memory MB] [--json] [--determined] [FEN]` (this project's own).
use Rattle.std.specs.Prelude.{◌≡◌, ◌||◌, not, Bool, false, List, [], ◌∷◌, Option, Some, None, codes, option_map}
use Rattle.clap.specs.Words.{Rule, Text}
use Rattle.command_line.specs.Rules.{rule_of_form}
use Rattle.command_line.specs.declared.commands.Form.TheVariants as form
use Rattle.command_line.specs.Misuses.{Fault, NoOption, Unfit}
use Rattle.command_line.specs.declared.words.usage.Wanted.TheVariants as wanted
use Rattle.task_files.specs.Sources.{Named}
use Rattle.command_line.specs.LazyFolders.{read_at_once}
use Rattle.command_line.specs.Numbers.{IsMemory, is_set}
use Rattle.command_line.specs.declared.commands.root.Root.{Root}

abbrev pub rules : List Rule
rules =
    rule_of_form form.Option (codes "tables")
    ∷ rule_of_form form.Option (codes "manifest")
    ∷ rule_of_form form.Flag (codes "all-tables")
    ∷ rule_of_form form.Option (codes "memory")
    ∷ rule_of_form form.Flag (codes "json")
    ∷ rule_of_form form.Flag (codes "determined")
    ∷ rule_of_form form.Word (codes "FEN") ∷ []

-- the values of its arguments
abbrev pub HasValues : (Text → Option Text) → Root → Type 0
HasValues value t =
    (Some t.tables.now ≡ value (codes "tables")) × (option_map (λ s. s.now) t.manifest ≡ value (codes "manifest"))
    × (t.all_tables ≡ is_set (value (codes "all-tables"))) × IsMemory (value (codes "memory")) t.memory × (t.json ≡ is_set (value (codes "json"))) × (t.determined ≡ is_set (value (codes "determined")))
    × (option_map (λ s. s.now) t.fen ≡ value (codes "FEN"))

-- what may be wrong with its values, in the order in which it is told
abbrev pub faults : List Fault
faults = NoOption (codes "tables") ∷ Unfit wanted.Memory ∷ []

-- a table is read when a position asks for it, unless all are wanted at once, or determined values
abbrev pub is_lazy : Root → Bool
is_lazy t = not (t.all_tables || t.determined)

-- what is read for it before it answers
abbrev pub named : Root → Named
named t = record { folder = option_map (λ s. s.now) (read_at_once (is_lazy t) (Some t.tables)); manifest = option_map (λ s. s.now) t.manifest; input = false; kept = None; other_kept = None }
