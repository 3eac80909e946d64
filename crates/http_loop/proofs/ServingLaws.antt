-- What each step of a server keeps.
use Rattle.std.proofs.Common.{◌≡◌, arith, cond, count_by, is_some, length, ℕ, zero, suc, List, [], ◌∷◌, ◌++◌, Option, Some, None, All, Contains, refl, sym, ap, subst, ◌∙◌, inl, inr, append_assoc, append-nil, get_or, set}
use Rattle.std.proofs.lemmas.List.Sums.{sum_by-cons}
use Rattle.std.proofs.lemmas.Bool.{cases_eq}
use Rattle.std.proofs.lemmas.List.Elements.{All-nil, All-cons, All-append, Contains-append_left, Contains-append_right, All-contains_itself}
use Rattle.std.specs.Io.KnownBytes.{Appends, Consumes}
use Rattle.slab.specs.Slab.{Slab, Updates, get, with_value}
use Rattle.slab.proofs.SlabLemmas.{Updates-with_value}
use Rattle.http.specs.declared.request.Request.{Request}
use Rattle.http_server.specs.declared.response.Response.{Response}
use Rattle.http_server.specs.Connection.{config_of, history}
use Rattle.http_server.specs.Exchange.{Call}
use Rattle.std.proofs.Math.Logic.{∥∥₁_elim}
use Rattle.http_server.specs.History.{History, IsDone, IsServed, Rests, Stands, new_history}
use Rattle.std.specs.Prelude.{IfSome}
use Rattle.http_server.specs.declared.state.State.{State}
use Rattle.http_server.specs.declared.state.State.TheVariants.{Aborted}
use Rattle.http_loop.specs.declared.peer.Fate.{Fate}
use Rattle.http_loop.specs.declared.peer.Fate.TheVariants.{Ends, GoesOn, Waits}
use Rattle.http_server.specs.declared.state.Config.{Config}
use Rattle.http_server.proofs.KnownLemmas.{Appends-then, Consumes-then}
use Rattle.http_server.proofs.StreamLemmas.{Chain-append}
use Rattle.http_server.proofs.Theorems.{always_served}
use Rattle.http_loop.specs.declared.peer.Peer.{Peer}
use Rattle.http_loop.specs.Streams.{Closed, Closes, HasNoOpen, Opens, Stays, Stream, Streams, closed_of, stream_of}
use Rattle.http_loop.specs.Serving.{AreServed, HaveSame, HaveSameEnds, IsPeerOf, IsServedOver, IsServing, IsTheSame, Serves, ServesOn}

Consumes-none : (u : Option (List ℕ)) → Consumes u u []
Consumes-none None = tt
Consumes-none (Some xs) = refl

Appends-none : (u : Option (List ℕ)) → Appends u u []
Appends-none None = tt
Appends-none (Some xs) = sym (append-nil xs)

pub All-imp : {X : Type 0} (P Q : X → Type 0) (xs : List X) → ((x : X) → P x → Q x) → All P xs → All Q xs
All-imp P Q xs f all = λ k d within. f _ (all k d within)

-- a write under a key that has a value leaves as many
pub count_set : {T : Type 0} (slots : List (Option T)) (key : ℕ) (old value : T) → get_or slots key None ≡ Some old
    → count_by is_some (set slots key (Some value)) ≡ count_by is_some slots
count_set [] key old value found = absurd (cc)
count_set (None ∷ rest) zero old value found = absurd (cc)
count_set {T} (Some was ∷ rest) zero old value found =
    let one : Option T → ℕ = λ o. cond (is_some o) 1 0 in
    omega (arith, sum_by-cons one (Some value) rest, sum_by-cons one (Some was) rest)
count_set {T} (slot ∷ rest) (suc key) old value found =
    let one : Option T → ℕ = λ o. cond (is_some o) 1 0 in
    omega (arith, count_set rest key old value found, sum_by-cons one slot (set rest key (Some value)), sum_by-cons one slot rest)

-- what holds of a value holds of the one under its key, once it is written there
pub at_with_value : {T : Type 0} (s : Slab T) (key : ℕ) (was is : T) (P : T → Type 0) → get s key ≡ Some was → P is → IfSome (get (with_value s key is) key) P
at_with_value {T} s key was is P found p =
    let updates = Updates-with_value s key is (rw found refl) in
    subst (λ (o : Option T). IfSome o P) (sym updates.changed) p

pub with_value_updates : {T : Type 0} (s : Slab T) (key : ℕ) (was is : T) → get s key ≡ Some was
    → Updates s (with_value s key is) key (get (with_value s key is) key)
with_value_updates s key was is found =
    let updates = Updates-with_value s key is (rw found refl) in record { changed = refl; others = updates.others }

-- a connection to which nothing happened rests as before
pub rests_still : (config config' : Config) (h h' : History) → config' ≡ config → h' ≡ h → Rests config h → Rests config' h'
rests_still config config' h h' same still rests =
    subst (λ (k : Config). Rests k h') (sym same) (subst (λ (x : History). Rests config x) (sym still) rests)

module _ {R W : Type 0} where
  same_one : (peer : Option (Peer R W)) → HaveSame peer peer
  same_one None = tt
  same_one (Some peer) = record { reader = refl; writer = refl; connection = refl; goes_on = refl }

  same_then : (a b c : Option (Peer R W)) → HaveSame a b → HaveSame b c → HaveSame a c
  same_then None None None x y = tt
  same_then None None (Some c) x y = y
  same_then None (Some b) c x y = absurd x
  same_then (Some a) None c x y = absurd x
  same_then (Some a) (Some b) None x y = y
  same_then (Some a) (Some b) (Some c) x y = record {
    reader = y.reader ∙ x.reader;
    writer = y.writer ∙ x.writer;
    connection = y.connection ∙ x.connection;
    goes_on = y.goes_on ∙ x.goes_on;
  }

  pub same_all : (peers : Slab (Peer R W)) → HaveSameEnds peers peers
  same_all peers = record { each = λ key. same_one (get peers key); count = refl }

  pub same_after : (a b c : Slab (Peer R W)) → HaveSameEnds a b → HaveSameEnds b c → HaveSameEnds a c
  same_after a b c x y = record {
    each = λ key. same_then (get a key) (get b key) (get c key) (x.each key) (y.each key);
    count = y.count ∙ x.count;
  }

  -- one has the same ends
  pub same_with : (peers : Slab (Peer R W)) (key : ℕ) (was is : Peer R W) → get peers key ≡ Some was → IsTheSame was is
      → HaveSameEnds peers (with_value peers key is)
  same_with peers key was is found same =
      let updates = Updates-with_value peers key is (rw found refl) in
      let here : HaveSame (get peers key) (get (with_value peers key is) key) =
      subst (λ (o : Option (Peer R W)). HaveSame o (get (with_value peers key is) key)) (sym found)
      (subst (λ (o : Option (Peer R W)). HaveSame (Some was) o) (sym updates.changed) same) in
      record {
        each = λ other.
            elim (cases_eq other key) [
              | inl at ↦ subst (λ (k : ℕ). HaveSame (get peers k) (get (with_value peers key is) k)) (sym at) here
              | inr differs ↦ subst (HaveSame (get peers other)) (sym (updates.others other differs)) (same_one (get peers other))
            ];
        count = count_set peers.slots key was is found;
      }

module _ {R W : Type 0} (remaining : R → Option (List ℕ)) (contents : W → Option (List ℕ)) (config : Config) (calls : List Call) where
  -- where a peer is, its stream has come
  has_stream : (a : Option Stream) (b : Option (Peer R W)) (peer : Peer R W) → b ≡ Some peer → Serves remaining contents config calls a b
      → (came : Stream) × (a ≡ Some came) × IsPeerOf remaining contents config calls came peer
  has_stream a None peer is s = absurd (cc)
  has_stream None (Some p) peer is s = absurd s
  has_stream (Some came) (Some p) peer is s =
      let same : p ≡ peer = cc in
      (came, refl, subst (λ (q : Peer R W). IsPeerOf remaining contents config calls came q) same s)

  has_none : (a : Option Stream) (b : Option (Peer R W)) → b ≡ None → Serves remaining contents config calls a b → a ≡ None
  has_none None b none s = refl
  has_none (Some came) None none s = absurd s
  has_none (Some came) (Some p) none s = absurd (cc)

  is_none : (a : Option Stream) (b : Option (Peer R W)) → a ≡ None → b ≡ None → Serves remaining contents config calls a b
  is_none a b none none' = rw (none, none') tt

  is_same : (a a' : Option Stream) (b b' : Option (Peer R W)) → a' ≡ a → b' ≡ b → Serves remaining contents config calls a b → Serves remaining contents config calls a' b'
  is_same a a' b b' is is' s = rw (is, is') s

  pub peer_is_served : (came : Stream) (peer : Peer R W) → IsPeerOf remaining contents config calls came peer
      → IsServedOver config calls came (stream_of remaining contents peer.reader peer.writer)
  peer_is_served came peer h = record {
    history = history peer.connection;
    served = subst (λ (c : Config). ∥ IsServed c (history peer.connection) ∥₁) h.limits (always_served peer.connection);
    received = h.received;
    sent = h.sent;
    among = h.among;
  }

  -- a peer and its stream have gone
  pub after_close : (before : List Closed) (known known' : Option Streams) (peers peers' : Slab (Peer R W)) (key : ℕ) (peer : Peer R W)
      → get peers key ≡ Some peer → Updates peers peers' key None → Closes known known' key (stream_of remaining contents peer.reader peer.writer)
      → IsServing remaining contents config calls before known peers → IsServing remaining contents config calls before known' peers'
  after_close before known None peers peers' key peer is updates closes h = tt
  after_close before None (Some new) peers peers' key peer is updates closes h = absurd closes
  after_close before (Some old) (Some new) peers peers' key peer is updates closes h =
      let was = has_stream (old.opened key) (get peers key) peer is (h.opened key) in
      let goes = closes was.0 was.1 in
      let gone : Closed = record { came = was.0; left = stream_of remaining contents peer.reader peer.writer } in
      let P = λ (c : Closed). IsServedOver config calls c.came c.left in
      record {
        opened = λ other.
            elim (cases_eq other key) [
              | inl same ↦ is_none _ _ (ap new.opened same ∙ goes.here) (ap (get peers') same ∙ updates.changed)
              | inr differs ↦ is_same _ _ _ _ (goes.others other differs) (updates.others other differs) (h.opened other)
            ];
        since = h.since ++ gone ∷ [];
        closed = goes.closed ∙ ap (λ (t : List Closed). t ++ gone ∷ []) h.closed ∙ append_assoc before h.since (gone ∷ []);
        served = All-append P h.since (gone ∷ []) h.served (All-cons P gone [] (peer_is_served was.0 peer was.2) (All-nil P));
      }

  -- a stream has come, and has its peer
  pub after_accept : (before : List Closed) (known known' : Option Streams) (peers peers' : Slab (Peer R W)) (key : ℕ) (came : Stream) (peer : Peer R W)
      → get peers key ≡ None → Updates peers peers' key (Some peer) → Opens known known' key came → IsPeerOf remaining contents config calls came peer
      → IsServing remaining contents config calls before known peers → IsServing remaining contents config calls before known' peers'
  after_accept before known None peers peers' key came peer vacant updates opens one h = tt
  after_accept before None (Some new) peers peers' key came peer vacant updates opens one h = absurd opens
  after_accept before (Some old) (Some new) peers peers' key came peer vacant updates opens one h =
      let opens' = opens (has_none (old.opened key) (get peers key) vacant (h.opened key)) in
      record {
        opened = λ other.
            elim (cases_eq other key) [
              | inl same ↦ is_same (Some came) _ (Some peer) _ (ap new.opened same ∙ opens'.here) (ap (get peers') same ∙ updates.changed) one
              | inr differs ↦ is_same _ _ _ _ (opens'.others other differs) (updates.others other differs) (h.opened other)
            ];
        since = h.since;
        closed = opens'.closed ∙ h.closed;
        served = h.served;
      }

  serves_same : (a : Option Stream) (b b' : Option (Peer R W)) → HaveSame b b' → Serves remaining contents config calls a b → Serves remaining contents config calls a b'
  serves_same None None None same s = tt
  serves_same (Some came) None None same s = s
  serves_same a None (Some new) same s = absurd same
  serves_same a (Some old) None same s = absurd same
  serves_same None (Some old) (Some new) same s = absurd s
  serves_same (Some came) (Some old) (Some new) same s = record {
    limits = rw same.connection s.limits;
    received = rw (same.reader, same.connection) s.received;
    sent = rw (same.writer, same.connection) s.sent;
    among = rw same.connection s.among;
  }

  -- the ends and connections are the same
  pub after_same : (before : List Closed) (known : Option Streams) (peers peers' : Slab (Peer R W)) → HaveSameEnds peers peers'
      → IsServing remaining contents config calls before known peers → IsServing remaining contents config calls before known peers'
  after_same before None peers peers' same h = tt
  after_same before (Some known) peers peers' same h = record {
    opened = λ key. serves_same (known.opened key) (get peers key) (get peers' key) (same.each key) (h.opened key);
    since = h.since;
    closed = h.closed;
    served = h.served;
  }

  -- nothing has come or gone
  pub after_nothing : (before : List Closed) (known known' : Option Streams) (peers : Slab (Peer R W)) → Stays known known'
      → IsServing remaining contents config calls before known peers → IsServing remaining contents config calls before known' peers
  after_nothing before known None peers stays h = tt
  after_nothing before None (Some new) peers stays h = absurd stays
  after_nothing before (Some old) (Some new) peers stays h =
      record {
        opened = λ key. is_same _ _ _ _ (stays.opened key) refl (h.opened key);
        since = h.since;
        closed = stays.closed ∙ h.closed;
        served = h.served;
      }

  -- room was made for peers
  pub after_reserve : (before : List Closed) (known : Option Streams) (peers peers' : Slab (Peer R W)) → peers'.slots ≡ peers.slots
      → IsServing remaining contents config calls before known peers → IsServing remaining contents config calls before known peers'
  after_reserve before None peers peers' same h = tt
  after_reserve before (Some known) peers peers' same h =
      record {
        opened = λ key. is_same _ _ _ _ refl (ap (λ (slots : List (Option (Peer R W))). get_or slots key None) same) (h.opened key);
        since = h.since;
        closed = h.closed;
        served = h.served;
      }

  -- nothing has been served where no stream is open
  pub none_served : (known : Option Streams) (peers : Slab (Peer R W)) → peers.slots ≡ [] → HasNoOpen known → IsServing remaining contents config calls (closed_of known) known peers
  none_served None peers empty h = tt
  none_served (Some known) peers empty h =
      record {
        opened = λ key. is_none _ _ (h key) (ap (λ (slots : List (Option (Peer R W))). get_or slots key None) empty);
        since = [];
        closed = sym (append-nil known.closed);
        served = All-nil (λ (c : Closed). IsServedOver config calls c.came c.left);
      }

  -- a connection that was made for the stream
  pub new_is_peer : (peer : Peer R W) → config_of peer.connection ≡ config → history peer.connection ≡ new_history
      → IsPeerOf remaining contents config calls (stream_of remaining contents peer.reader peer.writer) peer
  new_is_peer peer limits fresh = record {
    limits = limits;
    received = subst (Consumes (remaining peer.reader) (remaining peer.reader)) (sym (ap (λ (h : History). h.received) fresh)) (Consumes-none (remaining peer.reader));
    sent = subst (Appends (contents peer.writer) (contents peer.writer)) (sym (ap (λ (h : History). h.sent) fresh)) (Appends-none (contents peer.writer));
    among = subst (All (Contains calls)) (sym (ap (λ (h : History). h.calls) fresh)) (All-nil (Contains calls));
  }

module _ {R W : Type 0} (remaining : R → Option (List ℕ)) (contents : W → Option (List ℕ)) (config : Config) (calls more : List Call) where
  more_among : (own : List Call) → All (Contains calls) own → All (Contains (calls ++ more)) own
  more_among own = All-imp (Contains calls) (Contains (calls ++ more)) own (Contains-append_left calls more)

  more_served : (since : List Closed) → AreServed config calls since → AreServed config (calls ++ more) since
  more_served since = All-imp (λ c. IsServedOver config calls c.came c.left) (λ c. IsServedOver config (calls ++ more) c.came c.left) since
      (λ c h. record { history = h.history; served = h.served; received = h.received; sent = h.sent; among = more_among h.history.calls h.among })

  more_serves : (a : Option Stream) (b : Option (Peer R W)) → Serves remaining contents config calls a b → Serves remaining contents config (calls ++ more) a b
  more_serves None None s = tt
  more_serves None (Some p) s = absurd s
  more_serves (Some came) None s = absurd s
  more_serves (Some came) (Some p) s = record { limits = s.limits; received = s.received; sent = s.sent; among = more_among (history p.connection).calls s.among }

  -- calls were made for others
  pub after_calls : (before : List Closed) (known : Option Streams) (peers : Slab (Peer R W))
      → IsServing remaining contents config calls before known peers → IsServing remaining contents config (calls ++ more) before known peers
  after_calls before None peers h = tt
  after_calls before (Some known) peers h = record {
    opened = λ key. more_serves _ _ (h.opened key);
    since = h.since;
    closed = h.closed;
    served = more_served h.since h.served;
  }

  -- a peer had a turn, in which these calls were made
  pub after_turn : (before : List Closed) (known : Option Streams) (peers : Slab (Peer R W)) (key : ℕ) (peer peer' : Peer R W) → get peers key ≡ Some peer
      → config_of peer'.connection ≡ config_of peer.connection
      → (came : List ℕ) × Consumes (remaining peer.reader) (remaining peer'.reader) came × ((history peer'.connection).received ≡ (history peer.connection).received ++ came)
      → (went : List ℕ) × Appends (contents peer.writer) (contents peer'.writer) went × ((history peer'.connection).sent ≡ (history peer.connection).sent ++ went)
      → (history peer'.connection).calls ≡ (history peer.connection).calls ++ more
      → IsServing remaining contents config calls before known peers → IsServing remaining contents config (calls ++ more) before known (with_value peers key peer')
  after_turn before None peers key peer peer' is limits read written called h = tt
  after_turn before (Some known) peers key peer peer' is limits read written called h =
      let was = has_stream remaining contents config calls (known.opened key) (get peers key) peer is (h.opened key) in
      let old = history peer.connection in
      let updates = Updates-with_value peers key peer' (rw is refl) in
      let own = All-append (Contains (calls ++ more)) old.calls more (more_among old.calls was.2.among)
      (All-imp (Contains more) (Contains (calls ++ more)) more (Contains-append_right calls more) (All-contains_itself more)) in
      let now : IsPeerOf remaining contents config (calls ++ more) was.0 peer' = record {
        limits = limits ∙ was.2.limits;
        received = subst (Consumes was.0.gives (remaining peer'.reader)) (sym read.2)
            (Consumes-then was.0.gives (remaining peer.reader) (remaining peer'.reader) old.received read.0 was.2.received read.1);
        sent = subst (Appends was.0.got (contents peer'.writer)) (sym written.2)
            (Appends-then was.0.got (contents peer.writer) (contents peer'.writer) old.sent written.0 was.2.sent written.1);
        among = subst (All (Contains (calls ++ more))) (sym called) own;
      } in
      record {
        opened = λ other.
            elim (cases_eq other key) [
              | inl same ↦ is_same remaining contents config (calls ++ more) (Some was.0) _ (Some peer') _ (ap known.opened same ∙ was.1) (ap (get (with_value peers key peer')) same ∙ updates.changed) now
              | inr differs ↦ more_serves _ _ (is_same remaining contents config calls _ _ _ _ refl (updates.others other differs) (h.opened other))
            ];
        since = h.since;
        closed = h.closed;
        served = more_served h.since h.served;
      }

module _ {R W S : Type 0} (remaining : R → Option (List ℕ)) (contents : W → Option (List ℕ)) (answers : S → Request (List ℕ) → Response → S → Type 0) (config : Config) where
  -- the service wasn't called
  pub on_nothing : (s : S) (known : Option Streams) (peers : Slab (Peer R W)) → ServesOn remaining contents answers s s config known peers known peers
  on_nothing s known peers = ([], refl, λ calls before h. after_calls remaining contents config calls [] before known peers h)

  -- one step after another
  pub on_then : (a b c : S) (known₁ known₂ known₃ : Option Streams) (peers₁ peers₂ peers₃ : Slab (Peer R W))
      → ServesOn remaining contents answers a b config known₁ peers₁ known₂ peers₂ → ServesOn remaining contents answers b c config known₂ peers₂ known₃ peers₃
      → ServesOn remaining contents answers a c config known₁ peers₁ known₃ peers₃
  on_then a b c known₁ known₂ known₃ peers₁ peers₂ peers₃ x y = (
    x.0 ++ y.0,
    Chain-append answers x.0 y.0 a b c x.1 y.1,
    λ calls before h.
        subst (λ (cs : List Call). IsServing remaining contents config cs before known₃ peers₃) (append_assoc calls x.0 y.0)
        (y.2 (calls ++ x.0) before (x.2 calls before h)),
  )

-- ---- a connection to which memory was refused

-- a step of it ends it
aborted_ends : (config : Config) (h : History) (fate other : Fate) → (Ends ≡ other → ⊥) → ∥ IsServed config h ∥₁ → h.state ≡ Aborted → (IsDone h → fate ≡ Ends) → fate ≡ other → ⊥
aborted_ends config h fate other differs served is done same =
    ∥∥₁_elim served (λ p q. absurd p)
    (λ s.
    let stands = subst (λ (at : State). Stands at config h s.answered s.text s.interim s.rest) is s.stands in
    differs (sym (done ((λ at. absurd (let e = sym is ∙ at in cc)), ap length stands.dropped)) ∙ same))

pub aborted_stops : (config : Config) (h : History) (fate : Fate) → ∥ IsServed config h ∥₁ → h.state ≡ Aborted → (IsDone h → fate ≡ Ends) → fate ≡ Ends
aborted_stops config h Ends served is done = refl
aborted_stops config h Waits served is done = absurd (aborted_ends config h Waits Waits (λ e. absurd (cc)) served is done refl)
aborted_stops config h GoesOn served is done = absurd (aborted_ends config h GoesOn GoesOn (λ e. absurd (cc)) served is done refl)
