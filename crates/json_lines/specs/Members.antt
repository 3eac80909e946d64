-- Members of an object whose values are neither lists nor objects (RFC 8259, sections 3 to 7).
use Rattle.std.specs.Prelude.{◌++◌, List, [], ◌∷◌}
use Rattle.std.specs.Fmt.{decimal, signed_decimal}
use Rattle.json.specs.Json.{Json, null, boolean, number, string, Members, no_members, member}
use Rattle.json_lines.specs.declared.members.Value.{Value}
use Rattle.json_lines.specs.declared.members.Value.TheVariants as value
use Rattle.json_lines.specs.declared.members.Member.{Member}

abbrev pub value_json : Value → Json
value_json value.Null = null
value_json (value.Boolean b) = boolean b
value_json (value.Number n) = number (signed_decimal n)
value_json (value.Count n) = number (decimal n)
value_json (value.Text text) = string text.now
value_json (value.Words front rest) = string (front.now ++ rest.now)

abbrev pub members_of : List Member → Members
members_of [] = no_members
members_of (m ∷ ms) = member m.name.now (value_json m.value) (members_of ms)
