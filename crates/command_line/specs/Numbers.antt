-- Numbers of the command line, as Rust reads integers (this project's own bounds).
use Rattle.std.specs.Prelude.{◌≡◌, ◌≤◌, ◌<◌, ◌^◌, ◌-◌, ℕ, Bool, false, List, Option, Some, None, codes}
use Rattle.std.specs.Fmt.{decimal}
use Rattle.std.specs.Str.{bytes_eq}
use Rattle.std.specs.Str.Parse.{IsNumeral, digits_value, without_leading_plus}
use Rattle.arbiter_server.specs.declared.line_log.LogForm.{LogForm}
use Rattle.command_line.specs.declared.words.numbers.StoreForm.{StoreForm}
use Rattle.command_line.specs.declared.words.numbers.StoreForm.TheVariants as store
use Rattle.arbiter_server.specs.declared.line_log.LogForm.TheVariants as log
use Rattle.board_core.specs.Delays.{most_delay}
use Rattle.move_msg.specs.declared.arbiter_id.ArbiterId.{ArbiterId}
use Rattle.move_msg.specs.Senders.{who_number}

-- the text is this number in decimal digits, perhaps after a plus
abbrev pub IsDecimalNumber : List ℕ → ℕ → Type 0
IsDecimalNumber text n = IsNumeral 10 (without_leading_plus text) × (digits_value 10 (without_leading_plus text) ≡ n)

-- a cache has 1 to 4096 blocks, and 64 where no number is given
abbrev pub IsCache : Option (List ℕ) → ℕ → Type 0
IsCache None blocks = blocks ≡ 64
IsCache (Some text) blocks = IsDecimalNumber text blocks × (1 ≤ blocks) × (blocks ≤ 4096)

-- a number of megabytes is 1 to 1,000,000
abbrev pub IsMegabytes : List ℕ → ℕ → Type 0
IsMegabytes text n = IsDecimalNumber text n × (1 ≤ n) × (n ≤ 1000000)

-- so many are kept at most, and any number where none is given
abbrev pub IsMemory : Option (List ℕ) → Option ℕ → Type 0
IsMemory None most = most ≡ None
IsMemory (Some text) None = ⊥
IsMemory (Some text) (Some n) = IsMegabytes text n

-- a delay has 0 to 8 plies, and 0 where no number is given
abbrev pub IsDelay : Option (List ℕ) → ℕ → Type 0
IsDelay None plies = plies ≡ 0
IsDelay (Some text) plies = IsDecimalNumber text plies × (plies ≤ most_delay)

-- in a list of games it is one digit
abbrev pub IsDelayDigit : List ℕ → ℕ → Type 0
IsDelayDigit digit plies = (plies ≤ most_delay) × (digit ≡ decimal plies)

-- a number of datagrams is 0 to 2^32 - 1; where none is given it is 2^64 - 1, which no run comes to
abbrev pub IsDatagrams : Option (List ℕ) → ℕ → Type 0
IsDatagrams None n = n ≡ 2 ^ 64 - 1
IsDatagrams (Some text) n = IsDecimalNumber text n × (n < 2 ^ 32)

-- 1 to 65535, and 100 where no number is given
abbrev pub IsHundredOr : Option (List ℕ) → ℕ → Type 0
IsHundredOr None n = n ≡ 100
IsHundredOr (Some text) n = IsDecimalNumber text n × (1 ≤ n) × (n < 2 ^ 16)

-- 1 to 65535 games are open at once, and 256 where no number is given
abbrev pub IsAtOnce : Option (List ℕ) → ℕ → Type 0
IsAtOnce None n = n ≡ 256
IsAtOnce (Some text) n = IsDecimalNumber text n × (1 ≤ n) × (n < 2 ^ 16)

-- which lines of a host are written: all where that isn't said
abbrev pub IsLog : Option (List ℕ) → LogForm → Type 0
IsLog None form = form ≡ log.All
IsLog (Some text) log.All = text ≡ codes "all"
IsLog (Some text) log.Changes = text ≡ codes "changes"
IsLog (Some text) log.Nothing = text ≡ codes "none"

-- where a host keeps records: in a store where that isn't said
abbrev pub IsStore : Option (List ℕ) → StoreForm → Type 0
IsStore None form = form ≡ store.Sqlite
IsStore (Some text) store.Sqlite = text ≡ codes "sqlite"
IsStore (Some text) store.Files = text ≡ codes "files"

-- the number of an arbiter has to be given, 1 or 2
abbrev pub IsMe : Option (List ℕ) → ArbiterId → Type 0
IsMe None who = ⊥
IsMe (Some text) who = IsDecimalNumber text (who_number who)

-- a flag is given
abbrev pub is_set : Option (List ℕ) → Bool
is_set None = false
is_set (Some text) = bytes_eq text (codes "true")
