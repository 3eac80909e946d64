-- What commands are given, as the parser of command lines reads it.
use Rattle.std.specs.Prelude.{List, [], ◌∷◌, Option, Some}
use Rattle.clap.specs.Words.{App, Rule, Text, fault_of, first_of, matches_of, new_rule, with_rule}
use Rattle.clap.specs.Kinds.{Kinds}
use Rattle.clap.specs.declared.builder.action.ArgAction.TheVariants.{SetTrue}
use Rattle.command_line.specs.declared.commands.Form.{Form}
use Rattle.command_line.specs.declared.commands.Form.TheVariants as form
use Rattle.command_line.specs.declared.commands.Value.{Value}

-- a value of this name: a word, an option as `--tables DIR`, or a flag as `--fetch`
abbrev pub rule_of_form : Form → Text → Rule
rule_of_form form.Word id = new_rule id
rule_of_form form.Option id = record (new_rule id) { long = Some id }
rule_of_form form.Flag id = record (new_rule id) { long = Some id; action = Some SetTrue }

abbrev pub rule_of_value : Value → Rule
rule_of_value v = rule_of_form v.form v.name.now

-- a command with more rules
abbrev pub with_rules : App → List Rule → App
with_rules app [] = app
with_rules app (rule ∷ rules) = with_rules (with_rule app rule) rules

-- the value that a command gives an argument at the words
unfoldable pub argument_value : App → List Text → Text → Option Text
argument_value app words id = first_of id (matches_of app words)

-- what a command finds wrong with the words: nothing where it takes them
unfoldable pub words_fault : App → List Text → Kinds
words_fault app words = fault_of app words
