-- What is at each path, by which methods, and which pages may read it (RFC 9110, sections 9 and 15; Fetch Standard, section 3.3).
use Rattle.std.specs.Prelude.{ℕ, Bool, true, false, List, [], ◌∷◌, ◌++◌, ◌||◌, Option, Some, None, codes, if◌then◌else◌}
use Rattle.std.specs.Str.{bytes_eq}
use Rattle.http1.specs.Fields.{Header}
use Rattle.http_server.specs.declared.response.Response.{Response}
use Rattle.http_server.specs.Response.{IsResponse}

-- what is at a path
pub data Place : Type 0 where
  -- the page with a board
  Board : Place
  -- values of positions
  Positions : Place
  -- lines of best play
  Mainlines : Place
  -- games of folders, and the page on them
  FoldersOfGames : Place
  -- the server as a whole, of which only its methods can be asked (RFC 9110, section 9.3.7)
  Whole : Place

-- | path | what is there |
-- (Those of games are in `Games`: they begin with `/games`, `/watch` and `/metrics`.)
abbrev pub places : List (List ℕ × Place)
places =
    (codes "/", Board)
    ∷ (codes "/standard", Positions)
    ∷ (codes "/standard/mainline", Mainlines)
    ∷ (codes "/mainline", Mainlines)
    ∷ (codes "*", Whole)
    ∷ []

abbrev pub reading : List (List ℕ)
reading = codes "GET" ∷ codes "HEAD" ∷ codes "OPTIONS" ∷ []

abbrev pub reading_and_posting : List (List ℕ)
reading_and_posting = codes "GET" ∷ codes "HEAD" ∷ codes "POST" ∷ codes "OPTIONS" ∷ []

-- | what is there | its methods |
abbrev pub methods_of : Place → List (List ℕ)
methods_of Board = reading
methods_of Positions = reading_and_posting
methods_of Mainlines = reading
methods_of FoldersOfGames = reading
methods_of Whole = reading_and_posting

-- | what is there | whether pages from elsewhere may read it |
abbrev pub is_shared : Place → Bool
is_shared Board = false
is_shared Positions = true
is_shared Mainlines = true
is_shared FoldersOfGames = false
is_shared Whole = false

-- ---- what follows of these

-- the methods that a server knows (RFC 9110, section 9.3; RFC 5789)
abbrev pub known_methods : List (List ℕ)
known_methods =
    codes "GET" ∷ codes "HEAD" ∷ codes "POST" ∷ codes "PUT" ∷ codes "DELETE" ∷ codes "CONNECT" ∷ codes "OPTIONS" ∷ codes "TRACE"
    ∷ codes "PATCH" ∷ []

abbrev pub is_among : List ℕ → List (List ℕ) → Bool
is_among word [] = false
is_among word (only ∷ []) = bytes_eq word only
is_among word (first ∷ second ∷ more) = bytes_eq word first || is_among word (second ∷ more)

abbrev pub place_in : List (List ℕ × Place) → List ℕ → Option Place
place_in [] path = None
place_in (row ∷ rows) path = if bytes_eq path row.0 then Some row.1 else place_in rows path

-- what is at this path
abbrev pub place_at : List ℕ → Option Place
place_at path = place_in places path

-- what a method asks for where there are these: what is there, or which methods there are; or it isn't one of them; or nobody knows it
pub data Action : Type 0 where
  Reads : Action
  ListsMethods : Action
  IsRefused : Action
  IsUnknown : Action

abbrev pub action_of : List (List ℕ) → List ℕ → Action
action_of methods method =
    if is_among method methods then (if bytes_eq method (codes "OPTIONS") then ListsMethods else Reads)
    else if is_among method known_methods then IsRefused
    else IsUnknown

-- ---- fields

-- the type of a body
abbrev pub typed : List ℕ → Header
typed kind = (codes "content-type", kind)

abbrev pub json_type : Header
json_type = typed (codes "application/json")

abbrev pub html_type : Header
html_type = typed (codes "text/html; charset=utf-8")

-- any page may read the answer (Fetch Standard, section 3.3)
abbrev pub any_origin : Header
any_origin = (codes "access-control-allow-origin", codes "*")

-- how long a cache may keep the answer (RFC 9111, section 5.2)
abbrev pub kept_for : List ℕ → Header
kept_for lifetime = (codes "cache-control", lifetime)

abbrev pub an_hour : List ℕ
an_hour = codes "public, max-age=3600"

-- words, with a comma and a space between them
abbrev pub listed : List (List ℕ) → List ℕ
listed [] = []
listed (only ∷ []) = only
listed (first ∷ second ∷ more) = first ++ (codes ", " ++ listed (second ∷ more))

-- which methods there are
abbrev pub allowed : Place → Header
allowed place = (codes "allow", listed (methods_of place))

-- what a page from elsewhere may send
abbrev pub preflight : Place → List Header
preflight place = any_origin ∷ (codes "access-control-allow-methods", listed (methods_of place)) ∷ (codes "access-control-allow-headers", codes "content-type") ∷ []

abbrev pub methods_fields : Place → List Header
methods_fields place = allowed place ∷ (if is_shared place then preflight place else [])

abbrev pub refusal_fields : Place → List Header
refusal_fields place = json_type ∷ allowed place ∷ (if is_shared place then any_origin ∷ [] else [])

-- ---- responses

-- which methods there are at a place; that the method isn't one of them; and that it is none that the server knows
abbrev pub HasMethods : Place → Response → Type 0
HasMethods place r = IsResponse 204 (methods_fields place) [] r

abbrev pub RefusesMethod : Place → Response → Type 0
RefusesMethod place r = IsResponse 405 (refusal_fields place) (codes "{\"error\":\"method not allowed\"}") r

abbrev pub LacksMethod : Response → Type 0
LacksMethod r = IsResponse 501 (json_type ∷ []) (codes "{\"error\":\"method not implemented\"}") r

-- memory was refused for another response
abbrev pub LacksMemory : Response → Type 0
LacksMemory r = IsResponse 503 [] [] r
