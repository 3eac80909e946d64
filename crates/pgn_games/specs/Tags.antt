-- Tag pairs (PGN standard, section 8.1).
use Rattle.std.specs.Prelude.{◌+◌, ◌==◌, ℕ, Bool, true, false, List, [], ◌∷◌, take, drop, Option, Some, None, option_map, if◌then◌else◌, codes, bytes_eq}
use Rattle.pgn_games.specs.declared.tags.TagName.{TagName}
use Rattle.pgn_games.specs.declared.tags.TagName.TheVariants.{Event, White, Black, Round, Result, Fen}
use Rattle.pgn_games.specs.Bytes.{is_space, is_name, run_len}

-- a tag pair: its name, and what stands between the quotes
pub record TagPair : Type 0 where
  pub name : List ℕ
  pub quoted : List ℕ

-- a tag pair, and the text after it
pub record TagAndRest : Type 0 where
  pub pair : TagPair
  pub rest : List ℕ

-- the text after a byte, where it begins with it
abbrev pub after_byte : ℕ → List ℕ → Option (List ℕ)
after_byte byte [] = None
after_byte byte (b ∷ t) = if b == byte then Some t else None

-- a text without the spaces at its front
abbrev pub after_spaces : List ℕ → List ℕ
after_spaces t = drop (run_len is_space t) t

-- how many bytes stand before the quote that closes a string (section 7): neither a quote nor a backslash behind a backslash counts
unfoldable pub closes_at : Bool → List ℕ → Option ℕ
closes_at escaped [] = None
closes_at true (b ∷ t) = option_map (λ n. n + 1) (closes_at false t)
closes_at false (b ∷ t) = if b == 34 then Some 0 else option_map (λ n. n + 1) (closes_at (b == 92) t)

-- the bracket that closes the tag
abbrev pub pair_to_bracket : TagPair → Option (List ℕ) → Option TagAndRest
pair_to_bracket pair None = None
pair_to_bracket pair (Some rest) = Some (record { pair = pair; rest = rest })

-- the string, to the quote that closes it
abbrev pub pair_to_quote : List ℕ → List ℕ → Option ℕ → Option TagAndRest
pair_to_quote name t None = None
pair_to_quote name t (Some n) =
    pair_to_bracket (record { name = name; quoted = take n t }) (after_byte 93 (after_spaces (drop (n + 1) t)))

-- the quote that opens the string
abbrev pub pair_from_quote : List ℕ → Option (List ℕ) → Option TagAndRest
pair_from_quote name None = None
pair_from_quote name (Some t) = pair_to_quote name t (closes_at false t)

-- the name, of one byte at least
abbrev pub pair_from_name : List ℕ → Option TagAndRest
pair_from_name t =
    if run_len is_name t == 0 then None else pair_from_quote (take (run_len is_name t) t) (after_byte 34 (after_spaces (drop (run_len is_name t) t)))

-- the tag pair at the front of the text behind an opening bracket, on one line, and what follows it
unfoldable pub tag_pair : List ℕ → Option TagAndRest
tag_pair t = pair_from_name (after_spaces t)

-- what a string says: the byte behind a backslash stands for itself
unfoldable pub unescaped : Bool → List ℕ → List ℕ
unescaped escaped [] = []
unescaped true (b ∷ t) = b ∷ unescaped false t
unescaped false (b ∷ t) = if b == 92 then unescaped true t else b ∷ unescaped false t

-- of a tag's value 255 bytes are kept
abbrev pub tag_value : List ℕ → List ℕ
tag_value quoted = take 255 (unescaped false quoted)

-- the tags that are kept (sections 8.1.1 and 9.7.2)
abbrev pub tag_by_name : List ℕ → Option TagName
tag_by_name name =
    if bytes_eq name (codes "Event") then Some Event else if bytes_eq name (codes "White") then Some White else if bytes_eq name (codes "Black") then Some Black else if bytes_eq name (codes "Round") then Some Round else if bytes_eq name (codes "Result") then Some Result else if bytes_eq name (codes "FEN") then Some Fen else None

-- the values of the tags that are kept
pub record TagTexts : Type 0 where
  pub event : Option (List ℕ)
  pub white : Option (List ℕ)
  pub black : Option (List ℕ)
  pub round : Option (List ℕ)
  pub result : Option (List ℕ)
  pub fen : Option (List ℕ)

abbrev pub no_tags : TagTexts
no_tags = record { event = None; white = None; black = None; round = None; result = None; fen = None }

-- a later tag of a name takes the place of an earlier one
abbrev pub with_tag : TagName → List ℕ → TagTexts → TagTexts
with_tag Event value tags = record tags { event = Some value }
with_tag White value tags = record tags { white = Some value }
with_tag Black value tags = record tags { black = Some value }
with_tag Round value tags = record tags { round = Some value }
with_tag Result value tags = record tags { result = Some value }
with_tag Fen value tags = record tags { fen = Some value }
