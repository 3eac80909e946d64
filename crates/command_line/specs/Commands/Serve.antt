-- The words of `serve --tables DIR [--manifest FILE] --bind ADDR [--memory MB] [--requests N] [--games DIR [--other DIR]] [--log]` (this project's own).
use Rattle.std.specs.Prelude.{◌≡◌, List, [], ◌∷◌, Option, Some, codes, option_map}
use Rattle.clap.specs.Words.{Rule, Text}
use Rattle.command_line.specs.Addresses.{IsAddressIfAny}
use Rattle.command_line.specs.Rules.{rule_of_form}
use Rattle.command_line.specs.declared.commands.Form.TheVariants as form
use Rattle.command_line.specs.Misuses.{Fault, NoOption, Unfit, WithoutGames}
use Rattle.command_line.specs.declared.words.usage.Wanted.TheVariants as wanted
use Rattle.command_line.specs.Numbers.{IsDatagrams, IsMemory, is_set}
use Rattle.command_line.specs.declared.commands.serve.Serve.{Serve}

abbrev pub rules : List Rule
rules =
    rule_of_form form.Option (codes "tables")
    ∷ rule_of_form form.Option (codes "manifest")
    ∷ rule_of_form form.Option (codes "bind")
    ∷ rule_of_form form.Option (codes "memory")
    ∷ rule_of_form form.Option (codes "requests")
    ∷ rule_of_form form.Option (codes "games")
    ∷ rule_of_form form.Option (codes "other")
    ∷ rule_of_form form.Flag (codes "log") ∷ []

-- the values of its arguments
pub record HasValues (value : Text → Option Text) (t : Serve) : Type 0 where
  pub tables : Some t.tables.now ≡ value (codes "tables")
  pub manifest : option_map (λ s. s.now) t.manifest ≡ value (codes "manifest")
  pub bind : Some t.bind.now ≡ value (codes "bind")
  pub address : IsAddressIfAny (value (codes "bind"))
  pub memory : IsMemory (value (codes "memory")) t.memory
  pub requests : IsDatagrams (value (codes "requests")) t.requests
  pub games : option_map (λ s. s.now) t.games ≡ value (codes "games")
  pub other : option_map (λ s. s.now) t.other ≡ value (codes "other")
  pub log : t.log ≡ is_set (value (codes "log"))

-- what may be wrong with its values, in the order in which it is told
abbrev pub faults : List Fault
faults = NoOption (codes "tables") ∷ NoOption (codes "bind") ∷ Unfit wanted.Address ∷ Unfit wanted.Memory ∷ Unfit wanted.Requests ∷ WithoutGames (codes "other") ∷ []
