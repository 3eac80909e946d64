-- `listen --name N --start FEN --tables DIR --me M --bind ADDR --to ADDR[,ADDR] --kept FILE [--datagrams N] [--delay N] [--fetch]
-- [--ready] [--key FILE]`: an arbiter that answers datagrams; specs/Listens.antt has what it makes of them (this project's own).
use Rattle.std.specs.Prelude.{◌≡◌, ◌++◌, false, List, [], ◌∷◌, Option, Some, None, codes, option_map}
use Rattle.clap.specs.Words.{Rule, Text}
use Rattle.command_line.specs.Addresses.{AreRecipients, IsAddressIfAny}
use Rattle.command_line.specs.Rules.{rule_of_form}
use Rattle.command_line.specs.declared.commands.Form.TheVariants as form
use Rattle.command_line.specs.Misuses.{Fault, NoOption, Unfit, game_faults, me_faults, recipient_faults}
use Rattle.command_line.specs.declared.words.usage.Wanted.TheVariants as wanted
use Rattle.task_files.specs.Sources.{Named}
use Rattle.command_line.specs.Numbers.{IsDatagrams, IsDelay, IsMe, is_set}
use Rattle.command_line.specs.declared.commands.listen.Listen.{Listen}

abbrev pub rules : List Rule
rules =
    rule_of_form form.Option (codes "name")
    ∷ rule_of_form form.Option (codes "start")
    ∷ rule_of_form form.Option (codes "tables")
    ∷ rule_of_form form.Option (codes "me")
    ∷ rule_of_form form.Option (codes "bind")
    ∷ rule_of_form form.Option (codes "to")
    ∷ rule_of_form form.Option (codes "kept")
    ∷ rule_of_form form.Option (codes "datagrams")
    ∷ rule_of_form form.Option (codes "delay")
    ∷ rule_of_form form.Flag (codes "fetch")
    ∷ rule_of_form form.Flag (codes "ready")
    ∷ rule_of_form form.Option (codes "key") ∷ []

-- the values of its arguments
pub record IsListening (value : Text → Option Text) (l : Listen) : Type 0 where
  pub name : Some l.name ≡ value (codes "name")
  pub start : Some l.start.now ≡ value (codes "start")
  pub tables : Some l.tables.now ≡ value (codes "tables")
  pub me : IsMe (value (codes "me")) l.me
  pub bind : Some l.bind.now ≡ value (codes "bind")
  pub address : IsAddressIfAny (value (codes "bind"))
  pub to : Some l.to.now ≡ value (codes "to")
  pub recipients : AreRecipients l.to.now
  pub kept : Some l.kept.now ≡ value (codes "kept")
  pub datagrams : IsDatagrams (value (codes "datagrams")) l.datagrams
  pub delay : IsDelay (value (codes "delay")) l.delay
  pub fetch : l.fetch ≡ is_set (value (codes "fetch"))
  pub ready : l.ready ≡ is_set (value (codes "ready"))
  pub key : option_map (λ s. s.now) l.key ≡ value (codes "key")

-- what may be wrong with its values, in the order in which it is told: with the words on the game, the addresses and the kept
-- file, the numbers, and that the address that is bound is one
abbrev pub end_faults : List Fault
end_faults = NoOption (codes "bind") ∷ recipient_faults ++ NoOption (codes "kept") ∷ []

abbrev pub term_faults : List Fault
term_faults = me_faults ++ Unfit wanted.Datagrams ∷ Unfit wanted.Delay ∷ Unfit wanted.Address ∷ []

abbrev pub faults : List Fault
faults = game_faults ++ end_faults ++ term_faults

-- what is read for it
abbrev pub named : Listen → Named
named t = record { folder = Some t.tables.now; manifest = None; input = false; kept = None; other_kept = None }
