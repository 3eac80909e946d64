-- Objects token by token; cited by private functions alone.
use Rattle.std.specs.Prelude.{◌++◌, ℕ, Bool, List, [], ◌∷◌, Option, codes}
use Rattle.std.specs.List.{fold}
use Rattle.std.specs.Io.KnownBytes.{Appends}
use Rattle.json.specs.Token.{Token, begin_object, key}
use Rattle.json.specs.Json.{Json, object, string, Items, no_items, item, Members, no_members, member}
use Rattle.json.specs.Print.{ArePrintable, ends, print_from}
use Rattle.json.specs.Tree.{json_tokens}
pub use Rattle.json_lines.specs.Members.{members_of, value_json}

-- a value behind these tokens ends, or one begins
abbrev pub value_ends_behind : Bool → List Token → Bool
value_ends_behind later ts = fold (λ _ t. ends t) later ts

-- the text of these tokens was written, with a comma before it where a value stands before and the first begins one
pub record Writes (later : Bool) (ts : List Token) (old new : Option (List ℕ)) : Type 0 where
  pub text : Appends old new (print_from later ts)
  pub printable : ArePrintable ts

-- members without the closing brace, and items without the closing bracket
abbrev pub open_tokens : Members → List Token
open_tokens no_members = []
open_tokens (member k j ms) = key k ∷ (json_tokens j ++ open_tokens ms)

abbrev pub open_items : Items → List Token
open_items no_items = []
open_items (item j js) = json_tokens j ++ open_items js

-- an object without the closing brace
abbrev pub open_object : Members → List Token
open_object members = begin_object ∷ open_tokens members

-- the member that says what is wrong, and an object of it alone
abbrev pub error_tokens : List ℕ → List Token
error_tokens text = key (codes "error") ∷ json_tokens (string text)

abbrev pub error_object : Json → Json
error_object value = object (member (codes "error") value no_members)
