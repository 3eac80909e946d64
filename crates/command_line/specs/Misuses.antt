-- The faults of the values of a command, and which one is reported (this project's own).
use Rattle.std.specs.Prelude.{◌≡◌, ◌≢◌, ◌⊎◌, ◌++◌, ℕ, true, List, [], ◌∷◌, Option, Some, None, codes}
use Rattle.std.specs.List.{AllByRecursion}
use Rattle.clap.specs.Words.{Text}
use Rattle.move_msg.specs.declared.arbiter_id.ArbiterId.{ArbiterId}
use Rattle.move_msg.specs.Stamps.{IsGameName}
use Rattle.command_line.specs.Addresses.{AreAddresses, AreRecipients, IsAddress}
use Rattle.command_line.specs.GamePaths.{NamesGame, SpellsStamp}
use Rattle.command_line.specs.Numbers.{IsAtOnce, IsCache, IsDatagrams, IsDelay, IsHundredOr, IsLog, IsMe, IsMegabytes, IsStore, is_set}
use Rattle.arbiter_server.specs.declared.line_log.LogForm.{LogForm}
use Rattle.command_line.specs.declared.words.numbers.StoreForm.{StoreForm}
use Rattle.command_line.specs.declared.words.usage.Instead.{Instead}
use Rattle.command_line.specs.declared.words.usage.Instead.TheVariants as instead
use Rattle.command_line.specs.declared.words.usage.Wanted.{Wanted}
use Rattle.command_line.specs.declared.words.usage.Wanted.TheVariants as wanted
use Rattle.command_line.specs.declared.words.usage.ValueFault.{ValueFault}
use Rattle.command_line.specs.declared.words.usage.ValueFault.TheVariants as told

-- ---- in words

-- the option or the word that has the value
abbrev pub option_name : Wanted → Text
option_name wanted.GameName = codes "name"
option_name wanted.Cache = codes "cache"
option_name wanted.Memory = codes "memory"
option_name wanted.Delay = codes "delay"
option_name wanted.Datagrams = codes "datagrams"
option_name wanted.Requests = codes "requests"
option_name wanted.Me = codes "me"
option_name wanted.Wait = codes "wait"
option_name wanted.Tries = codes "tries"
option_name wanted.Addresses = codes "to"
option_name wanted.Recipients = codes "to"
option_name wanted.Address = codes "bind"
option_name wanted.AtOnce = codes "at-once"
option_name wanted.Log = codes "log"
option_name wanted.Store = codes "store"
option_name wanted.GameFile = codes "game"
option_name wanted.Stamp = codes "FILE"

-- what stands before the value: the option, or the word for what is wanted
abbrev pub wanted_front : Wanted → Text
wanted_front wanted.Stamp = codes "STAMP "
wanted_front option = codes "--" ++ option_name option ++ codes " "

-- what it takes
abbrev pub range_of : Wanted → List ℕ
range_of wanted.GameName = codes "1 to 64 bytes from the space to the tilde"
range_of wanted.Cache = codes "1 to 4096"
range_of wanted.Memory = codes "1 to 1000000"
range_of wanted.Delay = codes "0 to 8"
range_of wanted.Datagrams = codes "0 to 4294967295"
range_of wanted.Requests = codes "0 to 4294967295"
range_of wanted.Me = codes "1 or 2"
range_of wanted.Wait = codes "1 to 65535"
range_of wanted.Tries = codes "1 to 65535"
range_of wanted.AtOnce = codes "1 to 65535"
range_of wanted.Addresses = codes "ADDR[,ADDR], each a host, a colon and a port"
range_of wanted.Recipients = codes "ADDR[,ADDR], each a host, a colon and a port"
range_of wanted.Address = codes "ADDR, a host, a colon and a port"
range_of wanted.Log = codes "all, changes or none"
range_of wanted.Store = codes "sqlite or files"
range_of wanted.GameFile = codes "FOLDER/STAMP.game, with 32 lower-case hexadecimal digits"
range_of wanted.Stamp = codes "32 lower-case hexadecimal digits"

-- an option that takes the place of others
abbrev pub instead_name : Instead → Text
instead_name instead.From = codes "from"
instead_name instead.Games = codes "games"
instead_name instead.Prometheus = codes "prometheus"
instead_name instead.Soon = codes "soon"

abbrev pub not_with_words : Instead → Text → List ℕ
not_with_words other name = codes "--" ++ name ++ codes " cannot be used with --" ++ instead_name other

abbrev pub word_not_with_words : Instead → Text → List ℕ
word_not_with_words other name = name ++ codes " cannot be used with --" ++ instead_name other

abbrev pub unfit_words : Wanted → List ℕ → List ℕ
unfit_words wanted text = wanted_front wanted ++ text ++ codes ": " ++ range_of wanted

abbrev pub no_option_words : Text → List ℕ
no_option_words name = codes "--" ++ name ++ codes " is missing"

abbrev pub no_word_words : Text → List ℕ
no_word_words name = name ++ codes " is missing"

abbrev pub beside_words : Text → List ℕ
beside_words name = codes "--" ++ name ++ codes " cannot be used with --game"

abbrev pub without_games_words : Text → List ℕ
without_games_words name = codes "--" ++ name ++ codes " needs --games"

abbrev pub fault_words : ValueFault → List ℕ
fault_words (told.NoOption name) = no_option_words name.now
fault_words (told.NoWord name) = no_word_words name.now
fault_words (told.Unfit wanted text) = unfit_words wanted text.now
fault_words (told.NotWith other name) = not_with_words other name.now
fault_words (told.WordNotWith other name) = word_not_with_words other name.now
fault_words (told.Beside name) = beside_words name.now
fault_words (told.FlagNotWith other name) = not_with_words other name.now
fault_words (told.WithoutGames name) = without_games_words name.now

-- ---- a wish for help

abbrev pub AsksForHelp : Text → Type 0
AsksForHelp word = (word ≡ codes "help") ⊎ ((word ≡ codes "--help") ⊎ (word ≡ codes "-h"))

-- ---- the first that is wrong

-- what may be wrong: an option or a word that has to be there has no value; or the value is none that the option takes; or an option
-- or a word is there beside another one that takes its place, or an option beside `--game`, whose file tells it, or a flag is given beside
-- one that excludes it; or an option is there without `--games`, of whose folder it tells more.
-- `Untold` is wrong only where there is no `--game`.
pub data Fault : Type 0 where
  NoOption : Text → Fault
  NoWord : Text → Fault
  Unfit : Wanted → Fault
  NotWith : Instead → Text → Fault
  WordNotWith : Instead → Text → Fault
  Beside : Text → Fault
  FlagNotWith : Instead → Text → Fault
  WithoutGames : Text → Fault
  Untold : Fault → Fault

-- the value of the option is none that it takes
abbrev pub IsUnfit : (Text → Option Text) → Wanted → Type 0
IsUnfit value wanted.GameName = (name : List ℕ) → Some name ≡ value (codes "name") → IsGameName name → ⊥
IsUnfit value wanted.Cache = (n : ℕ) → IsCache (value (codes "cache")) n → ⊥
IsUnfit value wanted.Memory = (text : List ℕ) × (value (codes "memory") ≡ Some text) × ((n : ℕ) → IsMegabytes text n → ⊥)
IsUnfit value wanted.Delay = (n : ℕ) → IsDelay (value (codes "delay")) n → ⊥
IsUnfit value wanted.Datagrams = (n : ℕ) → IsDatagrams (value (codes "datagrams")) n → ⊥
IsUnfit value wanted.Requests = (n : ℕ) → IsDatagrams (value (codes "requests")) n → ⊥
IsUnfit value wanted.Me = (who : ArbiterId) → IsMe (value (codes "me")) who → ⊥
IsUnfit value wanted.Wait = (n : ℕ) → IsHundredOr (value (codes "wait")) n → ⊥
IsUnfit value wanted.Tries = (n : ℕ) → IsHundredOr (value (codes "tries")) n → ⊥
IsUnfit value wanted.Addresses = (to : List ℕ) → Some to ≡ value (codes "to") → AreAddresses to → ⊥
IsUnfit value wanted.Recipients = (to : List ℕ) → Some to ≡ value (codes "to") → AreRecipients to → ⊥
IsUnfit value wanted.AtOnce = (n : ℕ) → IsAtOnce (value (codes "at-once")) n → ⊥
IsUnfit value wanted.Address = (address : List ℕ) × (value (codes "bind") ≡ Some address) × (IsAddress address → ⊥)
IsUnfit value wanted.Log = (form : LogForm) → IsLog (value (codes "log")) form → ⊥
IsUnfit value wanted.Store = (form : StoreForm) → IsStore (value (codes "store")) form → ⊥
IsUnfit value wanted.Stamp = (text : List ℕ) × (value (codes "FILE") ≡ Some text) × ((stamp : List ℕ) → SpellsStamp text stamp → ⊥)
IsUnfit value wanted.GameFile = (path : List ℕ) × (value (codes "game") ≡ Some path) × ((stamp : List ℕ) → NamesGame path stamp → ⊥)

abbrev pub Holds : (Text → Option Text) → Fault → Type 0
Holds value (NoOption name) = value name ≡ None
Holds value (NoWord name) = value name ≡ None
Holds value (Unfit wanted) = IsUnfit value wanted
Holds value (NotWith other name) = value name ≢ None
Holds value (WordNotWith other name) = value name ≢ None
Holds value (Beside name) = ((path : Text) × (value (codes "game") ≡ Some path)) × ((text : Text) × (value name ≡ Some text))
Holds value (FlagNotWith other name) = (is_set (value (instead_name other)) ≡ true) × (is_set (value name) ≡ true)
Holds value (WithoutGames name) = (value (codes "games") ≡ None) × ((text : Text) × (value name ≡ Some text))
Holds value (Untold fault) = (value (codes "game") ≡ None) × Holds value fault

abbrev pub text_or_empty : Option Text → Text
text_or_empty None = []
text_or_empty (Some text) = text

-- the line that tells it
abbrev pub misuse_line : (Text → Option Text) → Fault → List ℕ
misuse_line value (NoOption name) = no_option_words name
misuse_line value (NoWord name) = no_word_words name
misuse_line value (Unfit wanted) = unfit_words wanted (text_or_empty (value (option_name wanted)))
misuse_line value (NotWith other name) = not_with_words other name
misuse_line value (WordNotWith other name) = word_not_with_words other name
misuse_line value (Beside name) = beside_words name
misuse_line value (FlagNotWith other name) = not_with_words other name
misuse_line value (WithoutGames name) = without_games_words name
misuse_line value (Untold fault) = misuse_line value fault

-- it is wrong, and the line tells it
abbrev pub IsToldMisuse : (Text → Option Text) → Fault → List ℕ → Type 0
IsToldMisuse value fault line = Holds value fault × (line ≡ misuse_line value fault)

-- the line tells the first of these that is wrong
abbrev pub IsFirstMisuse : (Text → Option Text) → List Fault → List ℕ → Type 0
IsFirstMisuse value [] line = ⊥
IsFirstMisuse value (fault ∷ faults) line = IsToldMisuse value fault line ⊎ ((Holds value fault → ⊥) × IsFirstMisuse value faults line)

-- none of these is wrong
abbrev pub AreWell : (Text → Option Text) → List Fault → Type 0
AreWell value = AllByRecursion (λ fault. Holds value fault → ⊥)

-- ---- options that have to be there and take only some values

abbrev pub name_faults : List Fault
name_faults = NoOption (codes "name") ∷ Unfit wanted.GameName ∷ []

abbrev pub to_faults : List Fault
to_faults = NoOption (codes "to") ∷ Unfit wanted.Addresses ∷ []

abbrev pub recipient_faults : List Fault
recipient_faults = NoOption (codes "to") ∷ Unfit wanted.Recipients ∷ []

abbrev pub me_faults : List Fault
me_faults = NoOption (codes "me") ∷ Unfit wanted.Me ∷ []

-- ---- the words on a game

abbrev pub game_faults : List Fault
game_faults = name_faults ++ NoOption (codes "start") ∷ NoOption (codes "tables") ∷ []

-- its name, the text of its start and the folder of its tables
abbrev pub AreGameWords : (Text → Option Text) → List ℕ → List ℕ → List ℕ → Type 0
AreGameWords value name start tables =
    (Some name ≡ value (codes "name")) × IsGameName name × (Some start ≡ value (codes "start")) × (Some tables ≡ value (codes "tables"))
