-- `enter --name N --start FEN --tables DIR [--manifest FILE] [--delay N] --games DIR [--new]`: a game of a folder.
-- `enter --from FILE --tables DIR [--manifest FILE] --games DIR [--new]`: the games of a list; specs/Enters.antt has what it makes of them
-- (this project's own).
use Rattle.std.specs.Prelude.{◌≡◌, ◌++◌, List, [], ◌∷◌, Option, Some, None, codes, option_map}
use Rattle.clap.specs.Words.{Rule, Text}
use Rattle.command_line.specs.Rules.{rule_of_form}
use Rattle.command_line.specs.declared.commands.Form.TheVariants as form
use Rattle.command_line.specs.Misuses.{AreGameWords, Fault, NoOption, NotWith, Unfit, game_faults}
use Rattle.command_line.specs.declared.words.usage.Instead.TheVariants as instead
use Rattle.command_line.specs.declared.words.usage.Wanted.TheVariants as wanted
use Rattle.command_line.specs.Numbers.{IsDelay, is_set}
use Rattle.command_line.specs.declared.commands.enter.Enter.{Enter}
use Rattle.command_line.specs.declared.commands.enter.Entries.{Entries}
use Rattle.command_line.specs.declared.commands.enter.Entries.TheVariants.{One, From}

abbrev pub rules : List Rule
rules =
    rule_of_form form.Option (codes "name")
    ∷ rule_of_form form.Option (codes "start")
    ∷ rule_of_form form.Option (codes "from")
    ∷ rule_of_form form.Option (codes "tables")
    ∷ rule_of_form form.Option (codes "manifest")
    ∷ rule_of_form form.Option (codes "delay")
    ∷ rule_of_form form.Option (codes "games")
    ∷ rule_of_form form.Flag (codes "new") ∷ []

-- what only one game has
abbrev pub LacksGameWords : (Text → Option Text) → Type 0
LacksGameWords value = (value (codes "name") ≡ None) × (value (codes "start") ≡ None) × (value (codes "delay") ≡ None)

-- without `--from` one game, whose name is that of a game
abbrev pub HasEntries : (Text → Option Text) → Text → Entries → Type 0
HasEntries value tables (One g) = (value (codes "from") ≡ None) × AreGameWords value g.name g.start.now tables × IsDelay (value (codes "delay")) g.delay
HasEntries value tables (From path) = (value (codes "from") ≡ Some path.now) × LacksGameWords value × (Some tables ≡ value (codes "tables"))

-- the values of its arguments
pub record HasValues (value : Text → Option Text) (t : Enter) : Type 0 where
  pub entries : HasEntries value t.tables.now t.entries
  pub manifest : option_map (λ s. s.now) t.manifest ≡ value (codes "manifest")
  pub games : Some t.games.now ≡ value (codes "games")
  pub is_new : t.is_new ≡ is_set (value (codes "new"))

-- what may be wrong with its values, in the order in which it is told: without `--from`, and with it
abbrev pub one_faults : List Fault
one_faults = game_faults ++ Unfit wanted.Delay ∷ NoOption (codes "games") ∷ []

abbrev pub without_faults : List Fault
without_faults = NotWith instead.From (codes "name") ∷ NotWith instead.From (codes "start") ∷ NotWith instead.From (codes "delay") ∷ []

abbrev pub list_faults : List Fault
list_faults = without_faults ++ NoOption (codes "tables") ∷ NoOption (codes "games") ∷ []

abbrev pub faults_by : Option Text → List Fault
faults_by None = one_faults
faults_by (Some from) = list_faults

abbrev pub faults : (Text → Option Text) → List Fault
faults value = faults_by (value (codes "from"))
