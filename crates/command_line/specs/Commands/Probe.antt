-- The words of `probe --tables DIR [--manifest FILE] [--lazy] FEN` (this project's own).
use Rattle.std.specs.Prelude.{◌≡◌, false, List, [], ◌∷◌, Option, Some, None, codes, option_map}
use Rattle.clap.specs.Words.{Rule, Text}
use Rattle.command_line.specs.Rules.{rule_of_form}
use Rattle.command_line.specs.declared.commands.Form.TheVariants as form
use Rattle.command_line.specs.Misuses.{Fault, NoOption, NoWord}
use Rattle.task_files.specs.Sources.{Named}
use Rattle.command_line.specs.LazyFolders.{read_at_once}
use Rattle.command_line.specs.Numbers.{is_set}
use Rattle.command_line.specs.declared.commands.probe.Probe.{Probe}

abbrev pub rules : List Rule
rules =
    rule_of_form form.Option (codes "tables")
    ∷ rule_of_form form.Option (codes "manifest")
    ∷ rule_of_form form.Flag (codes "lazy")
    ∷ rule_of_form form.Word (codes "FEN") ∷ []

-- the values of its arguments
abbrev pub HasValues : (Text → Option Text) → Probe → Type 0
HasValues value t = (Some t.tables.now ≡ value (codes "tables")) × (option_map (λ s. s.now) t.manifest ≡ value (codes "manifest")) × (t.lazy ≡ is_set (value (codes "lazy"))) × (Some t.fen.now ≡ value (codes "FEN"))

-- what may be wrong with its values, in the order in which it is told
abbrev pub faults : List Fault
faults = NoOption (codes "tables") ∷ NoWord (codes "FEN") ∷ []

-- what is read for it before it answers
abbrev pub named : Probe → Named
named t = record { folder = option_map (λ s. s.now) (read_at_once t.lazy (Some t.tables)); manifest = option_map (λ s. s.now) t.manifest; input = false; kept = None; other_kept = None }
