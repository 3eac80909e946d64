-- What is noted of a request (this project's own).
use Rattle.std.specs.Prelude.{◌≡◌, ℕ, Bool, true, List, [], ◌∷◌, ◌++◌, codes, length, if◌then◌else◌}
use Rattle.std.specs.Fmt.{decimal}
use Rattle.std.specs.Str.{bytes_eq}
use Rattle.http.specs.declared.request.Request.{Request}
use Rattle.http.specs.Request.{head_of}
use Rattle.http_uri.specs.Uri.{uri_path}
use Rattle.http_server.specs.declared.response.Response.{Response}
use Rattle.timeline.specs.Events.{Event, Noted}

-- how many bytes of a body are sent: none to HEAD
abbrev pub sent_size : List ℕ → Response → ℕ
sent_size method r = if bytes_eq method (codes "HEAD") then 0 else length r.body.items

-- the method, and the path without its query
abbrev pub asked_words : Request (List ℕ) → List ℕ
asked_words request = ((head_of request).method ++ codes " ") ++ uri_path (head_of request).uri

abbrev pub number_behind : List ℕ → ℕ → List ℕ
number_behind words number = (words ++ codes " ") ++ decimal number

-- behind these the status, and how many bytes of a body are sent
abbrev pub request_line : Request (List ℕ) → Response → List ℕ
request_line request r = number_behind (number_behind (asked_words request) r.status) (sent_size (head_of request).method r)

-- the line is noted, where requests are logged, unless memory for it was refused; nothing else is
pub data NotesRequest (is_logged : Bool) (line : List ℕ) (events : List Event) : Type 0 where
  RequestNoted : is_logged ≡ true → events ≡ Noted line ∷ [] → NotesRequest is_logged line events
  RequestNotNoted : events ≡ [] → NotesRequest is_logged line events
