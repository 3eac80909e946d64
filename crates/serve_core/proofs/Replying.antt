-- Calls of a service, and the streams that they were made for.
use Rattle.std.proofs.Common.{◌≡◌, ℕ, ◌<◌, List, [], ◌∷◌, ◌++◌, length, Option, Some, None, All, Contains, get_or, refl, sym, ap, subst, append_assoc, append-nil}
use Rattle.slab.specs.Slab.{Slab}
use Rattle.http.specs.declared.request.Request.{Request}
use Rattle.http_server.specs.declared.response.Response.{Response}
use Rattle.http_server.specs.Exchange.{Call, Chain}
use Rattle.http_server.specs.declared.state.Config.{Config}
use Rattle.http_server.proofs.StreamLemmas.{Chain-append}
use Rattle.http_answer.specs.Games.{GamesOn, IsServedCall}
use Rattle.http_loop.specs.declared.peer.Peer.{Peer}
use Rattle.http_loop.specs.declared.server.Server.{Server}
use Rattle.http_loop.specs.Servers.{HasServed, ServesCalls}
use Rattle.http_loop.specs.Serving.{IsServedOver, IsServing}
use Rattle.http_loop.specs.Streams.{Closed, HasNoOpen, Streams}
use Rattle.table_folder.specs.Folders.{FolderOn}
use Rattle.table_folder.specs.declared.files.SystemFiles.{SystemFiles}
use Rattle.timeline.specs.Outsides.{Outside}
use Rattle.serve_core.specs.Streams.{HasReplied, IsRepliedOver}

module _ {C L R W S : Type 0} (streams : L → Option Streams) (remaining : R → Option (List ℕ)) (contents : W → Option (List ℕ)) (answers : S → Request (List ℕ) → Response → S → Type 0) where
  pub no_rounds : (s : S) (server : Server C L R W) → ServesCalls streams remaining contents answers s s server server
  no_rounds s server = ([], refl, λ calls before h. subst (λ (cs : List Call). HasServed streams remaining contents cs before server) (sym (append-nil calls)) h)

  -- one round more
  pub next_round : (old now new : S) (server server₁ server₂ : Server C L R W) → ServesCalls streams remaining contents answers old now server server₁
      → ServesCalls streams remaining contents answers now new server₁ server₂
      → ServesCalls streams remaining contents answers old new server server₂
  next_round old now new server server₁ server₂ x y = (
    x.0 ++ y.0,
    Chain-append answers x.0 y.0 old now new x.1 y.1,
    λ calls before h.
        subst (λ (cs : List Call). HasServed streams remaining contents cs before server₂) (append_assoc calls x.0 y.0)
        (y.2 (calls ++ x.0) before (x.2 calls before h)),
  )

among : {X : Type 0} (P : X → Type 0) (xs own : List X) → All P xs → All (Contains xs) own → All P own
among P xs own all have = λ k d within. let at = have k d within in subst P at.2 (all at.0 (get_or own k d) at.1)

-- where all calls are replied, so are those of each stream
pub all_have_replies : {G C T P F K S L R W : Type 0} (outside : G → Outside T P F K S L) (says : C → Option ℕ → Type 0) (tables : FolderOn (SystemFiles G)) (games : Option (GamesOn G)) (remaining : R → Option (List ℕ)) (contents : W → Option (List ℕ)) (config : Config)
    (calls : List Call) (before : List Closed) (known : Option Streams) (peers : Slab (Peer R W)) → All (IsServedCall outside says tables games) calls → HasNoOpen known
    → IsServing remaining contents config calls before known peers → HasReplied outside says tables games config before known
all_have_replies outside says tables games remaining contents config calls before None peers all none h = tt
all_have_replies outside says tables games remaining contents config calls before (Some known) peers all none h = (
  none,
  h.since,
  h.closed,
  λ k d within.
      let one = h.served k d within in
      record {
        history = one.history;
        served = one.served;
        received = one.received;
        sent = one.sent;
        replied = among (IsServedCall outside says tables games) calls one.history.calls all one.among;
      },
)
