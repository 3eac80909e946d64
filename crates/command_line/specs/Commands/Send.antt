-- `send --name N --start FEN --tables DIR [--manifest FILE] [--delay N] --to ADDR[,ADDR] [--bind ADDR] [--wait MS] [--tries N]
-- [--key FILE] [--san] [--new]`, or with `--game FILE` in place of what is before `--to`: the source of a game at a port; specs/Sends.antt has what it
-- makes of its input (this project's own).
use Rattle.std.specs.Prelude.{◌≡◌, ◌++◌, ℕ, List, [], ◌∷◌, map, Option, Some, None, codes, option_map}
use Rattle.clap.specs.Words.{Rule, Text}
use Rattle.command_line.specs.Addresses.{AreAddresses, IsAddressIfAny}
use Rattle.command_line.specs.Rules.{rule_of_form}
use Rattle.command_line.specs.declared.commands.Form.TheVariants as form
use Rattle.command_line.specs.GamePaths.{NamesGame}
use Rattle.command_line.specs.Misuses.{AreGameWords, Beside, Fault, Unfit, Untold, game_faults, to_faults}
use Rattle.command_line.specs.declared.words.usage.Wanted.TheVariants as wanted
use Rattle.command_line.specs.Numbers.{IsDelay, IsHundredOr, is_set}
use Rattle.command_line.specs.declared.commands.send.Send.{Send}
use Rattle.command_line.specs.declared.commands.send.ToldGame.{ToldGame}
use Rattle.command_line.specs.declared.commands.send.GameFile.{GameFile}
use Rattle.command_line.specs.declared.commands.send.SentGame.{SentGame}
use Rattle.command_line.specs.declared.commands.send.SentGame.TheVariants as sent

abbrev pub rules : List Rule
rules =
    rule_of_form form.Option (codes "name")
    ∷ rule_of_form form.Option (codes "start")
    ∷ rule_of_form form.Option (codes "tables")
    ∷ rule_of_form form.Option (codes "manifest")
    ∷ rule_of_form form.Option (codes "delay")
    ∷ rule_of_form form.Option (codes "game")
    ∷ rule_of_form form.Option (codes "bind")
    ∷ rule_of_form form.Option (codes "to")
    ∷ rule_of_form form.Option (codes "wait")
    ∷ rule_of_form form.Option (codes "tries")
    ∷ rule_of_form form.Option (codes "key")
    ∷ rule_of_form form.Flag (codes "san")
    ∷ rule_of_form form.Flag (codes "new") ∷ []

-- the words that tell a game
abbrev pub IsToldGame : (Text → Option Text) → ToldGame → Type 0
IsToldGame value g = (value (codes "game") ≡ None) × AreGameWords value g.name g.start.now g.tables.now

-- the file that tells it, whose name is its stamp
abbrev pub IsGameInFile : (Text → Option Text) → GameFile → Type 0
IsGameInFile value f = (Some f.path.now ≡ value (codes "game")) × NamesGame f.path.now f.stamp

abbrev pub HasSentGame : (Text → Option Text) → SentGame → Type 0
HasSentGame value (sent.Told g) = IsToldGame value g
HasSentGame value (sent.InFile f) = IsGameInFile value f

-- any port of any address, unless one is named
abbrev pub bind_or_any : Option Text → List ℕ
bind_or_any None = codes "0.0.0.0:0"
bind_or_any (Some address) = address

-- the values of its arguments
pub record HasValues (value : Text → Option Text) (t : Send) : Type 0 where
  pub game : HasSentGame value t.game
  pub manifest : option_map (λ s. s.now) t.manifest ≡ value (codes "manifest")
  pub bind : t.bind.now ≡ bind_or_any (value (codes "bind"))
  pub address : IsAddressIfAny (value (codes "bind"))
  pub to : Some t.to.now ≡ value (codes "to")
  pub addresses : AreAddresses t.to.now
  pub delay : IsDelay (value (codes "delay")) t.delay
  pub wait : IsHundredOr (value (codes "wait")) t.wait
  pub tries : IsHundredOr (value (codes "tries")) t.tries
  pub key : option_map (λ s. s.now) t.key ≡ value (codes "key")
  pub san : t.san ≡ is_set (value (codes "san"))
  pub is_new : t.is_new ≡ is_set (value (codes "new"))

-- what may be wrong with its values, in the order in which it is told: without `--game` the words on a game; with it its path, and
-- what stands beside it
abbrev pub words_faults : List Fault
words_faults = map Untold game_faults

abbrev pub file_faults : List Fault
file_faults = Unfit wanted.GameFile ∷ Beside (codes "name") ∷ Beside (codes "start") ∷ Beside (codes "tables") ∷ Beside (codes "manifest") ∷ Beside (codes "delay") ∷ []

abbrev pub sent_faults : List Fault
sent_faults = words_faults ++ file_faults

abbrev pub term_faults : List Fault
term_faults = Unfit wanted.Delay ∷ Unfit wanted.Wait ∷ Unfit wanted.Tries ∷ Unfit wanted.Address ∷ []

abbrev pub faults : List Fault
faults = sent_faults ++ to_faults ++ term_faults
