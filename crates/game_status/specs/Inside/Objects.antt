-- Objects that are written one behind the other; cited by private functions alone.
use Rattle.std.specs.Prelude.{Bool, List, flat_map}
use Rattle.json.specs.Token.{Token}
use Rattle.json.specs.Tree.{json_tokens}
use Rattle.game_status.specs.StatusObjects.{game_json}
use Rattle.game_status.specs.Totals.{FoundGame}

-- the tokens of games, one behind the other
abbrev pub games_tokens : Bool → List FoundGame → List Token
games_tokens compares = flat_map (λ f. json_tokens (game_json compares f))
