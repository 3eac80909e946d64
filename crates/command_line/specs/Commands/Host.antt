-- `host --games DIR --tables DIR [--manifest FILE] --bind ADDR --to ADDR[,ADDR] --me M [--at-once N] [--cache N] [--datagrams N]
-- [--log FORM] [--log-failures-ignored] [--store FORM] [--key FILE]`: arbiters of any number of games; specs/Hostings.antt has what it makes of them (this project's own).
use Rattle.std.specs.Prelude.{◌≡◌, ◌++◌, false, List, [], ◌∷◌, Option, Some, None, codes, option_map}
use Rattle.clap.specs.Words.{Rule, Text}
use Rattle.command_line.specs.Addresses.{AreRecipients, IsAddressIfAny}
use Rattle.command_line.specs.Rules.{rule_of_form}
use Rattle.command_line.specs.declared.commands.Form.TheVariants as form
use Rattle.command_line.specs.Misuses.{Fault, NoOption, Unfit, me_faults, recipient_faults}
use Rattle.command_line.specs.declared.words.usage.Wanted.TheVariants as wanted
use Rattle.task_files.specs.Sources.{Named}
use Rattle.command_line.specs.Numbers.{IsAtOnce, IsCache, IsDatagrams, IsLog, IsMe, IsStore, is_set}
use Rattle.command_line.specs.declared.commands.host.HostGames.{HostGames}

abbrev pub rules : List Rule
rules =
    rule_of_form form.Option (codes "games")
    ∷ rule_of_form form.Option (codes "tables")
    ∷ rule_of_form form.Option (codes "manifest")
    ∷ rule_of_form form.Option (codes "bind")
    ∷ rule_of_form form.Option (codes "to")
    ∷ rule_of_form form.Option (codes "me")
    ∷ rule_of_form form.Option (codes "at-once")
    ∷ rule_of_form form.Option (codes "cache")
    ∷ rule_of_form form.Option (codes "datagrams")
    ∷ rule_of_form form.Option (codes "key")
    ∷ rule_of_form form.Option (codes "log")
    ∷ rule_of_form form.Option (codes "store")
    ∷ rule_of_form form.Flag (codes "log-failures-ignored") ∷ []

-- the values of its arguments
pub record HasValues (value : Text → Option Text) (h : HostGames) : Type 0 where
  pub games : Some h.games.now ≡ value (codes "games")
  pub tables : Some h.tables.now ≡ value (codes "tables")
  pub manifest : option_map (λ s. s.now) h.manifest ≡ value (codes "manifest")
  pub bind : Some h.bind.now ≡ value (codes "bind")
  pub address : IsAddressIfAny (value (codes "bind"))
  pub to : Some h.to.now ≡ value (codes "to")
  pub recipients : AreRecipients h.to.now
  pub me : IsMe (value (codes "me")) h.me
  pub at_once : IsAtOnce (value (codes "at-once")) h.at_once.value
  pub cache : IsCache (value (codes "cache")) h.cache
  pub datagrams : IsDatagrams (value (codes "datagrams")) h.datagrams
  pub log : IsLog (value (codes "log")) h.log
  pub store : IsStore (value (codes "store")) h.store
  pub outlives : h.outlives_log ≡ is_set (value (codes "log-failures-ignored"))
  pub key : option_map (λ s. s.now) h.key ≡ value (codes "key")

-- what may be wrong with its values, in the order in which it is told: with the folders and the addresses, the numbers, and that the
-- address that is bound is one
abbrev pub end_faults : List Fault
end_faults = NoOption (codes "games") ∷ NoOption (codes "tables") ∷ NoOption (codes "bind") ∷ recipient_faults

abbrev pub term_faults : List Fault
term_faults = me_faults ++ Unfit wanted.AtOnce ∷ Unfit wanted.Cache ∷ Unfit wanted.Datagrams ∷ Unfit wanted.Log ∷ Unfit wanted.Store ∷ Unfit wanted.Address ∷ []

abbrev pub faults : List Fault
faults = end_faults ++ term_faults

-- what is read for it
abbrev pub named : HostGames → Named
named h = record { folder = Some h.tables.now; manifest = option_map (λ s. s.now) h.manifest; input = false; kept = None; other_kept = None }
