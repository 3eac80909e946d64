-- The words of `status --games DIR [--other DIR] [--prometheus|--json]` (this project's own).
use Rattle.std.specs.Prelude.{◌≡◌, Bool, true, false, List, [], ◌∷◌, Option, Some, None, codes, option_map}
use Rattle.clap.specs.Words.{Rule, Text}
use Rattle.game_status.specs.declared.report.ReportForm.{ReportForm}
use Rattle.game_status.specs.declared.report.ReportForm.TheVariants.{Metrics, Json}
use Rattle.command_line.specs.Rules.{rule_of_form}
use Rattle.command_line.specs.declared.commands.Form.TheVariants as form
use Rattle.command_line.specs.Misuses.{Fault, FlagNotWith, NoOption}
use Rattle.command_line.specs.declared.words.usage.Instead.TheVariants as instead
use Rattle.command_line.specs.Numbers.{is_set}
use Rattle.command_line.specs.declared.commands.status.ShowStatus.{ShowStatus}

abbrev pub rules : List Rule
rules =
    rule_of_form form.Option (codes "games")
    ∷ rule_of_form form.Option (codes "other")
    ∷ rule_of_form form.Flag (codes "prometheus")
    ∷ rule_of_form form.Flag (codes "json") ∷ []

-- as which report it is written, if not in lines: as metrics or as JSON
abbrev pub report_by : Bool → Bool → Option ReportForm
report_by true json = Some Metrics
report_by false true = Some Json
report_by false false = None

-- so it is by the values of its arguments
abbrev pub report_told : (Text → Option Text) → Option ReportForm
report_told value = report_by (is_set (value (codes "prometheus"))) (is_set (value (codes "json")))

-- the values of its arguments
abbrev pub HasValues : (Text → Option Text) → ShowStatus → Type 0
HasValues value t =
    (Some t.games.now ≡ value (codes "games")) × (option_map (λ s. s.now) t.other ≡ value (codes "other"))
    × (t.report ≡ report_told value)

-- what may be wrong with its values, in the order in which it is told
abbrev pub faults : List Fault
faults = NoOption (codes "games") ∷ FlagNotWith instead.Prometheus (codes "json") ∷ []
