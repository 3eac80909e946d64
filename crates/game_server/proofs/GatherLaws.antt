-- Datagrams that are gathered, one after the other.
use Rattle.std.proofs.Common.{◌≡◌, ◌∙◌, ◌==◌, ℕ, zero, suc, not, Bool, true, false, ◌<◌, ◌≤◌, ◌++◌, List, [], ◌∷◌, Option, length, refl, sym, ap, subst, append-nil, arith}
use Rattle.std.specs.List.{flat_map}
use Rattle.std.specs.declared.net.socket_addr.SocketAddr.{SocketAddr}
use Rattle.std.proofs.lemmas.Bool.{eqb-true}
use Rattle.std.proofs.lemmas.List.Concat.{flat_map-append}
use Rattle.timeline.specs.Events.{Came, Event}
use Rattle.timeline.specs.Outsides.{Adds, AddsSome, Outside}
use Rattle.timeline.proofs.EventLaws.{adds_more, adds_none}
use Rattle.game_folder.specs.Holdings.{GamesFacts}
use Rattle.game_server.specs.Datagrams.{HearsDatagram}
use Rattle.game_server.specs.Rounds.{Heard, HearsAll, IsFull, ReceiveFails, RoundEnd, end_events, heard_events}
use Rattle.game_server.specs.Inside.HeldReplies.{RepliesView}
use Rattle.game_server.specs.Inside.Running.{AreHeld, Gathers, HearsOne, IsGathered}
use Rattle.game_server.specs.declared.replies.Held.{Held}
use Rattle.game_server.specs.declared.server.Server.{Server}

-- so many were heard, and are held
pub record HasHeard {T P F K S L G : Type 0} (o : Outside T P F K S L) (facts : GamesFacts G) (old new : Server G F) (held : List Held) (t t' : T) : Type 0 where
  pub heard : List Heard
  pub hears : HearsAll o facts old heard new
  pub are_held : AreHeld heard held
  pub happens : Adds o t t' (flat_map heard_events heard)

held_on : (hs : List Heard) (xs : List Held) (h : Heard) (x : Held) → AreHeld hs xs → h.reply ≡ x.reply → h.from ≡ x.sender → AreHeld (hs ++ h ∷ []) (xs ++ x ∷ [])
held_on [] [] h x p same from = (same, from, tt)
held_on [] (y ∷ xs) h x p same from = absurd p
held_on (k ∷ hs) [] h x p same from = absurd p
held_on (k ∷ hs) (y ∷ xs) h x p same from = (p.0, p.1, held_on hs xs h x p.2 same from)

pub held_count : (hs : List Heard) (xs : List Held) → AreHeld hs xs → length hs ≡ length xs
held_count [] [] p = refl
held_count [] (y ∷ xs) p = absurd p
held_count (k ∷ hs) [] p = absurd p
held_count (k ∷ hs) (y ∷ xs) p = ap suc (held_count hs xs p.2)

-- where it isn't so that none is held, one is
pub some_held : (n : ℕ) → (n == 0) ≡ false → 0 < n
some_held zero e = absurd (let wrong : true ≡ false = e in cc)
some_held (suc n) e = omega arith

module _ {T P F K S L G : Type 0} (o : Outside T P F K S L) (facts : GamesFacts G) where
  hears_on : (old mid new : Server G F) (hs : List Heard) (h : Heard) → HearsAll o facts old hs mid → HearsDatagram o facts mid new h.datagram h.reply h.events → HearsAll o facts old (hs ++ h ∷ []) new
  unfolding HearsAll
  hears_on old mid new [] h p q = (new, subst (λ (s : Server G F). HearsDatagram o facts s new h.datagram h.reply h.events) p q, refl)
  hears_on old mid new (k ∷ hs) h p q = (p.0, p.1, hears_on p.0 mid new hs h p.2 q)

  pub none_heard : (server : Server G F) (held : List Held) (t : T) → held ≡ [] → HasHeard o facts server server held t t
  unfolding HearsAll
  none_heard server held t none = record { heard = []; hears = refl; are_held = subst (AreHeld []) (sym none) tt; happens = adds_none o t }

  pub one_heard : (old mid new : Server G F) (a b c d : T) (from sender : Option SocketAddr) (datagram : List ℕ) (was now : RepliesView) → HasHeard o facts old mid was.held a b → Adds o b c (Came from datagram ∷ []) → from ≡ sender → AddsSome o c d (HearsOne o facts mid new datagram sender was now) → HasHeard o facts old new now.held a d
  one_heard old mid new a b c d from sender datagram was now p came same q =
      let held : Held = q.2.held in
      let h : Heard = record { from = from; datagram = datagram; events = q.0; reply = held.reply } in
      let front : List Event = flat_map heard_events p.heard in
      record {
        heard = p.heard ++ h ∷ [];
        hears = hears_on old mid new p.heard h p.hears q.2.hears;
        are_held = subst (AreHeld (p.heard ++ h ∷ [])) (sym (ap (λ (v : RepliesView). v.held) q.2.holds)) (held_on p.heard was.held h held p.are_held refl (same ∙ sym q.2.from));
        happens = subst (Adds o a d) (sym (flat_map-append heard_events p.heard (h ∷ []) ∙ ap (λ (l : List Event). front ++ l) (append-nil (heard_events h))))
            (adds_more o a b d front (heard_events h) p.happens (adds_more o b c d (Came from datagram ∷ []) q.0 came q.1));
      }

  module _ (most : ℕ) (old new : Server G F) (held : List Held) (a b' c : T) (p : HasHeard o facts old new held a b') where
    gathers : (came : Bool) (end : RoundEnd) → Adds o b' c (end_events end) → IsGathered came most p.heard end → AddsSome o a c (Gathers o facts most old new held came)
    gathers came end q is = (
      flat_map heard_events p.heard ++ end_events end,
      adds_more o a b' c (flat_map heard_events p.heard) (end_events end) p.happens q,
      record { heard = p.heard; end = end; hears = p.hears; are_held = p.are_held; is = is; events_are = refl },
    )

    -- some came
    pub gathered : (end : RoundEnd) → Adds o b' c (end_events end) → 0 < length held → length held ≤ most → (length held ≡ most → end ≡ IsFull) → (end ≡ IsFull → length held ≡ most) → AddsSome o a c (Gathers o facts most old new held true)
    gathered end q some few full only =
        let count = held_count p.heard held p.are_held in
        gathers true end q (omega (arith, count, some), record { few = omega (arith, count, few); full = λ all. full (sym count ∙ all); only = λ is. count ∙ only is })

    no_heard : (hs : List Heard) → length hs ≡ 0 → hs ≡ []
    no_heard [] is = refl
    no_heard (h ∷ hs) is = absurd (let f = is in omega (arith, f))

    -- a receive failed: where some came before, these are a round
    pub failed : (b : Bool) → b ≡ (length held == 0) → Adds o b' c (end_events ReceiveFails) → length held < most → AddsSome o a c (Gathers o facts most old new held (not b))
    failed true is q few =
        let zero : length held ≡ 0 = eqb-true (length held) 0 (sym is) in
        let count = held_count p.heard held p.are_held in
        gathers false ReceiveFails q (no_heard p.heard (omega (arith, zero, count)), refl)
    failed false is q few =
        gathered ReceiveFails q (some_held (length held) (sym is)) (omega (arith, few)) (λ all. absurd (let e : length held ≡ most = all in omega (arith, e, few))) (λ is. absurd (let f : ReceiveFails ≡ IsFull = is in cc))
