-- What is heard in one try, and tries one after the other.
use Rattle.std.proofs.Common.{◌≡◌, ◌∙◌, ◌⊎◌, ◌+◌, ◌≤◌, ◌++◌, ◌∷◌, [], ℕ, List, Option, Some, None, ap, append-nil, append_assoc, arith, inl, inr, length, length-append, refl, subst, sym, true, false}
use Rattle.std.proofs.lemmas.List.{map-append}
use Rattle.std.proofs.lemmas.List.Concat.{flat_map-append}
use Rattle.std.specs.List.{AllByRecursion}
use Rattle.std.specs.declared.net.socket_addr.SocketAddr.{SocketAddr}
use Rattle.board_core.specs.declared.moves.Move.{Move as Moves}
use Rattle.board_core.specs.declared.parts.Parts.{Parts}
use Rattle.move_msg.specs.declared.stamp.Stamp.{Stamp}
use Rattle.system_io.specs.Ports.{Passing}
use Rattle.system_io.specs.Ports as passing
use Rattle.system_io.specs.declared.recipient.Recipient.{Recipient}
use Rattle.std.proofs.lemmas.List.Elements.{Contains-push}
use Rattle.system_io.proofs.HistoryLaws.{Passes-trans}
use Rattle.timeline.specs.Events.{Came, Event, Missed, Passes, Quiet, sent_to_each}
use Rattle.source_core.specs.Heard.{Happened, IsHearing, Moment, OnlyNotes, heard, sender_after}
use Rattle.source_core.specs.Inside.Exchanges.{EndsTry, HearsOne, TriesOnce}
use Rattle.source_core.specs.Inside.Steps.{EndsIf, IsLast, IsWaitBy, TryLearns, TryWaits, Waits, is_ruled, loss_by}
use Rattle.source_core.specs.Reports.{Knows}
use Rattle.source_core.specs.Tries.{EachWaits, SendsMove, heard_all, heard_each, tries_events, try_events}
use Rattle.source_core.specs.Turns.{AllButLastWaited, ComesTo, HasSpelling, HasWaited, Learns, WaitsSoLong, most_answers}
use Rattle.source_core.specs.declared.known.Known.{Known}
use Rattle.source_core.specs.declared.turn.Next.{Next}
use Rattle.source_core.specs.declared.turn.Next.TheVariants as next
use Rattle.source_core.specs.declared.turn.SendConfig.{SendConfig}
use Rattle.source_core.specs.declared.turn.Turn.{Turn}
use Rattle.source_core.specs.declared.turn.Turn.TheVariants as at_turn
use Rattle.source_core.proofs.HeardLaws.{after-append, all_join, happened_more, happened_none, heard-append, notes_hear, notes_same, notes_unheard}
use Rattle.source_core.proofs.ReportLaws.{knows_still}
use Rattle.source_core.proofs.TurnLaws.{IsQuietless, all_but_last, all_more, all_waited, cut_at, nothing_cut, quietless_more, quietless_none, spelled_move, still_waited, waits_last, waits_never}

-- ---- what is heard in one try

-- so many datagrams came in time and were received
pub record HasHeard (stamp : Stamp) (old new : Moment) (known known' : Known) (k : ℕ) : Type 0 where
  pub came : List Event
  pub hearing : AllByRecursion IsHearing came
  pub count : length (heard came) ≡ k
  pub quietless : IsQuietless (heard came)
  pub happened : Happened old new came
  pub learned : (before : List Passing) → Knows stamp before known → Knows stamp (before ++ heard came) known'

pub heard_none : (stamp : Stamp) (at : Moment) (known : Known) → HasHeard stamp at at known known 0
heard_none stamp at known = record { came = []; hearing = tt; count = refl; quietless = quietless_none; happened = happened_none at; learned = λ before h. subst (λ l. Knows stamp l known) (sym (append-nil before)) h }

-- a datagram came, and maybe notes of it
pub hears_came : (stamp : Stamp) (nanos : ℕ) (e0 e1 e2 : Option (List Event)) (to to' : List Recipient) (sender from : Option SocketAddr) (bytes : List ℕ) (known known' : Known) (end : Next) → Passes e0 e1 (Came from bytes ∷ []) → to' ≡ to → (notes : List Event) × Passes e1 e2 notes × OnlyNotes notes
    → IsLast nanos (passing.Came bytes) end → Learns stamp known known' (passing.Came bytes ∷ []) end → HearsOne stamp nanos (record { events = e0; to = to; sender = sender }) (record { events = e2; to = to'; sender = from }) known known' end
hears_came stamp nanos e0 e1 e2 to to' sender from bytes known known' end came same (notes, noted, only) last learns = record {
  came = Came from bytes ∷ notes;
  one = passing.Came bytes;
  hearing = (tt, notes_hear notes only);
  only = ap (λ l. passing.Came bytes ∷ l) (notes_unheard notes only);
  happened = record { passes = Passes-trans e0 e1 e2 (Came from bytes ∷ []) notes came noted; to = same; sender = sym (notes_same from notes only) };
  last = last;
  learns = learns;
}

-- none came in time
pub hears_quiet : (stamp : Stamp) (nanos : ℕ) (e0 e1 e2 : Option (List Event)) (to to' : List Recipient) (sender sender' : Option SocketAddr) (known : Known) → Passes e0 e1 (Quiet nanos ∷ []) → to' ≡ to → sender' ≡ sender → (notes : List Event) × Passes e1 e2 notes × OnlyNotes notes
    → HearsOne stamp nanos (record { events = e0; to = to; sender = sender }) (record { events = e2; to = to'; sender = sender' }) known known next.Waited
hears_quiet stamp nanos e0 e1 e2 to to' sender sender' known came same same_sender (notes, noted, only) = record {
  came = Quiet nanos ∷ notes;
  one = passing.Quiet nanos;
  hearing = (tt, notes_hear notes only);
  only = ap (λ l. passing.Quiet nanos ∷ l) (notes_unheard notes only);
  happened = record { passes = Passes-trans e0 e1 e2 (Quiet nanos ∷ []) notes came noted; to = same; sender = same_sender ∙ sym (notes_same sender notes only) };
  last = refl;
  learns = λ before h. knows_still stamp before (passing.Quiet nanos) known (λ bytes s is spells. cc) h;
}

-- none can be received
pub hears_missed : (stamp : Stamp) (nanos : ℕ) (e0 e1 : Option (List Event)) (to to' : List Recipient) (sender sender' : Option SocketAddr) (known : Known) → Passes e0 e1 (Missed ∷ []) → to' ≡ to → sender' ≡ sender
    → HearsOne stamp nanos (record { events = e0; to = to; sender = sender }) (record { events = e1; to = to'; sender = sender' }) known known next.PortLost
hears_missed stamp nanos e0 e1 to to' sender sender' known came same same_sender = record {
  came = Missed ∷ [];
  one = passing.Missed;
  hearing = (tt, tt);
  only = refl;
  happened = record { passes = came; to = same; sender = same_sender };
  last = refl;
  learns = λ before h. Contains-push before passing.Missed;
}

-- all that was heard so far, and one thing more
one_more : (xs ys : List Event) (p : Passing) → heard ys ≡ p ∷ [] → heard (xs ++ ys) ≡ heard xs ++ p ∷ []
one_more xs ys p is = heard-append xs ys ∙ ap (λ l. heard xs ++ l) is

pub heard_more : (stamp : Stamp) (a b c : Moment) (old mid new : Known) (k nanos : ℕ) → HasHeard stamp a b old mid k → HearsOne stamp nanos b c mid new next.GoesOn → HasHeard stamp a c old new (k + 1)
heard_more stamp a b c old mid new k nanos h t =
    let all : heard (h.came ++ t.came) ≡ heard h.came ++ t.one ∷ [] = one_more h.came t.came t.one t.only in
    let counted = h.count in record {
      came = h.came ++ t.came;
      hearing = all_join IsHearing h.came t.came h.hearing t.hearing;
      count = ap length all ∙ length-append (heard h.came) (t.one ∷ []) ∙ ap (λ n. n + 1) counted;
      quietless = subst IsQuietless (sym all) (quietless_more (heard h.came) t.one t.last.0 h.quietless t.last.1);
      happened = happened_more a b c h.came t.came h.happened t.happened;
      learned = λ before known. subst (λ l. Knows stamp l new) (append_assoc before (heard h.came) (t.one ∷ []) ∙ ap (λ l. before ++ l) (sym all)) (t.learns (before ++ heard h.came) (h.learned before known));
    }

pub try_ended : (terms : SendConfig) (index number : ℕ) (a b c : Moment) (old mid new : Known) (k nanos : ℕ) (end : Next) → HasHeard terms.stamp a b old mid k → IsWaitBy terms.wait index number mid nanos → HearsOne terms.stamp nanos b c mid new end → (end ≡ next.GoesOn → ⊥) → EndsTry terms index number a c old new end
try_ended terms index number a b c old mid new k nanos end h by t not =
    let all : heard (h.came ++ t.came) ≡ heard h.came ++ t.one ∷ [] = one_more h.came t.came t.one t.only in record {
      came = h.came ++ t.came;
      hearing = all_join IsHearing h.came t.came h.hearing t.hearing;
      happened = happened_more a b c h.came t.came h.happened t.happened;
      waits = subst (λ l. Waits l new end) (sym all) (waits end t.last not);
      waited = λ before known. subst (WaitsSoLong terms index number before) (sym all) (waits_last terms index number before (heard h.came) t.one mid nanos end h.quietless t.last (h.learned before known) by);
      learns = λ before known. subst (λ l. ComesTo terms.stamp l new end) (append_assoc before (heard h.came) (t.one ∷ []) ∙ ap (λ l. before ++ l) (sym all)) (t.learns (before ++ heard h.came) (h.learned before known));
    }
  where
    waits : (e : Next) → IsLast nanos t.one e → (e ≡ next.GoesOn → ⊥) → Waits (heard h.came ++ t.one ∷ []) new e
    waits next.GoesOn i n = absurd (n refl)
    waits next.Waited i n = inl (inl (heard h.came, nanos, ap (λ q. heard h.came ++ q ∷ []) i))
    waits (next.Clashed c) i n = tt
    waits next.PortLost i n = tt

pub try_ruled : (terms : SendConfig) (index number : ℕ) (a b : Moment) (old new : Known) (k : ℕ) → HasHeard terms.stamp a b old new k → is_ruled new ≡ true → EndsTry terms index number a b old new next.Waited
try_ruled terms index number a b old new k h ruled = record { came = h.came; hearing = h.hearing; happened = h.happened; waits = inr ruled; waited = λ before known. waits_never terms index number before (heard h.came) h.quietless; learns = h.learned }

pub try_full : (terms : SendConfig) (index number : ℕ) (a b : Moment) (old new : Known) (k : ℕ) → HasHeard terms.stamp a b old new k → k ≡ most_answers → EndsTry terms index number a b old new next.Waited
try_full terms index number a b old new k h full = record { came = h.came; hearing = h.hearing; happened = h.happened; waits = inl (inr (h.count ∙ full)); waited = λ before known. waits_never terms index number before (heard h.came) h.quietless; learns = h.learned }

-- a try: the datagram is sent to each recipient, and then this comes
pub tried_so : (terms : SendConfig) (index number : ℕ) (bytes : List ℕ) (a b c : Moment) (old mid new : Known) (end : Next) → mid ≡ old → Happened a b (sent_to_each a.sender a.to bytes) → EndsTry terms index number b c mid new end → TriesOnce terms index number bytes a c old new (loss_by end)
tried_so terms index number bytes a b c old mid new end same sent h = record {
  came = h.came;
  hearing = h.hearing;
  happened = happened_more a b c (sent_to_each a.sender a.to bytes) h.came sent h.happened;
  waits = waits end h.waits;
  waited = λ before known. h.waited before (still before known);
  learns = λ before known. learned end (before ++ heard h.came) (h.learns before (still before known));
}
  where
    still : (before : List Passing) → Knows terms.stamp before old → Knows terms.stamp before mid
    still before known = subst (Knows terms.stamp before) (sym same) known

    waits : (e : Next) → Waits (heard h.came) new e → TryWaits (heard h.came) new (loss_by e)
    waits next.GoesOn w = absurd w
    waits next.Waited w = w
    waits (next.Clashed c) w = λ is. cc
    waits next.PortLost w = λ is. cc

    learned : (e : Next) (all : List Passing) → ComesTo terms.stamp all new e → TryLearns terms.stamp all new (loss_by e)
    learned next.GoesOn all k = k
    learned next.Waited all k = k
    learned (next.Clashed c) all k = λ origin number plies position. k
    learned next.PortLost all k = λ origin number plies position. k

-- ---- tries one after the other

pub record HasTriedSo (terms : SendConfig) (number : ℕ) (bytes : List ℕ) (old new : Moment) (known known' : Known) (k : ℕ) : Type 0 where
  pub tries : List (List Event)
  pub count : length tries ≡ k
  pub hearing : AllByRecursion (AllByRecursion IsHearing) tries
  pub waited : AllByRecursion HasWaited (heard_each tries) ⊎ (is_ruled known' ≡ true)
  pub happened : Happened old new (tries_events old.sender old.to bytes tries)
  pub again : AllButLastWaited (heard_each tries)
  pub long : (before : List Passing) → Knows terms.stamp before known → EachWaits terms number before tries
  pub learned : (before : List Passing) → Knows terms.stamp before known → Knows terms.stamp (before ++ heard_all tries) known'

pub tries_none : (terms : SendConfig) (number : ℕ) (bytes : List ℕ) (at : Moment) (known : Known) → HasTriedSo terms number bytes at at known known 0
tries_none terms number bytes at known = record {
  tries = [];
  count = refl;
  hearing = tt;
  waited = inl tt;
  happened = happened_none at;
  again = λ earlier later came next is. absurd (nothing_cut earlier (next ∷ later) came is);
  long = λ before h earlier later came is. absurd (nothing_cut earlier later came is);
  learned = λ before h. subst (λ l. Knows terms.stamp l known) (sym (append-nil before)) h;
}

-- one try more
all_tries : (sender : Option SocketAddr) (to : List Recipient) (bytes : List ℕ) (tries : List (List Event)) (came : List Event) → tries_events sender to bytes (tries ++ came ∷ []) ≡ tries_events sender to bytes tries ++ try_events (sender_after sender (tries_events sender to bytes tries)) to bytes came
all_tries sender to bytes [] came = append-nil (try_events sender to bytes came)
all_tries sender to bytes (first ∷ tries) came =
    let one : List Event = try_events sender to bytes first in
    let then' : Option SocketAddr = sender_after sender one in
    let rest : List Event = tries_events then' to bytes tries in
    ap (λ l. one ++ l) (all_tries then' to bytes tries came)
    ∙ sym (append_assoc one rest (try_events (sender_after then' rest) to bytes came))
    ∙ ap (λ s. (one ++ rest) ++ try_events s to bytes came) (sym (after-append sender one rest))

each_more : (tries : List (List Event)) (came : List Event) → heard_each (tries ++ came ∷ []) ≡ heard_each tries ++ heard came ∷ []
each_more tries came = map-append heard tries (came ∷ [])

all_heard : (tries : List (List Event)) (came : List Event) → heard_all (tries ++ came ∷ []) ≡ heard_all tries ++ heard came
all_heard tries came = flat_map-append heard tries (came ∷ []) ∙ ap (λ l. heard_all tries ++ l) (append-nil (heard came))

module _ (terms : SendConfig) (number : ℕ) (bytes : List ℕ) (a b c : Moment) (old mid new : Known) (k : ℕ) (end : Option Turn) (h : HasTriedSo terms number bytes a b old mid k) (t : TriesOnce terms k number bytes b c mid new end) where
  more_happened : Happened a c (tries_events a.sender a.to bytes (h.tries ++ t.came ∷ []))
  more_happened =
      let sent : Happened b c (try_events (sender_after a.sender (tries_events a.sender a.to bytes h.tries)) a.to bytes t.came) = subst (λ s. Happened b c (try_events s a.to bytes t.came)) h.happened.sender (subst (λ to. Happened b c (try_events b.sender to bytes t.came)) h.happened.to t.happened) in
      subst (Happened a c) (sym (all_tries a.sender a.to bytes h.tries t.came)) (happened_more a b c (tries_events a.sender a.to bytes h.tries) (try_events (sender_after a.sender (tries_events a.sender a.to bytes h.tries)) a.to bytes t.came) h.happened sent)

  more_learned : (before : List Passing) → Knows terms.stamp before old → TryLearns terms.stamp (before ++ heard_all (h.tries ++ t.came ∷ [])) new end
  more_learned before known =
      subst (λ l. TryLearns terms.stamp l new end) (append_assoc before (heard_all h.tries) (heard t.came) ∙ ap (λ l. before ++ l) (sym (all_heard h.tries t.came))) (t.learns (before ++ heard_all h.tries) (h.learned before known))

  -- the one more waits so long too
  more_long : (before : List Passing) → Knows terms.stamp before old → EachWaits terms number before (h.tries ++ t.came ∷ [])
  more_long before known earlier later came is = elim (cut_at h.tries t.came earlier later came is) [
    | inl (same, last) ↦
        let so_far : List Passing = before ++ heard_all h.tries in
        let now : WaitsSoLong terms k number so_far (heard t.came) = t.waited so_far (h.learned before known) in
        let counted : WaitsSoLong terms (length h.tries) number so_far (heard t.came) = subst (λ n. WaitsSoLong terms n number so_far (heard t.came)) (sym h.count) now in
        subst (λ l. WaitsSoLong terms (length earlier) number (before ++ heard_all earlier) (heard l)) (sym last)
        (subst (λ ts. WaitsSoLong terms (length ts) number (before ++ heard_all ts) (heard t.came)) (sym same) counted)
    | inr (others, before_it) ↦ h.long before known earlier others came before_it
  ]

  more_hearing : AllByRecursion (AllByRecursion IsHearing) (h.tries ++ t.came ∷ [])
  more_hearing = all_more (AllByRecursion IsHearing) h.tries t.came h.hearing t.hearing

  more_count : length (h.tries ++ t.came ∷ []) ≡ k + 1
  more_count = let counted = h.count in omega (arith, length-append h.tries (t.came ∷ []))

  more_again : is_ruled mid ≡ false → AllButLastWaited (heard_each (h.tries ++ t.came ∷ []))
  more_again open_yet = subst AllButLastWaited (sym (each_more h.tries t.came)) (all_but_last (heard_each h.tries) (heard t.came) (all_waited (heard_each h.tries) mid h.waited open_yet))

pub tries_more : (terms : SendConfig) (number : ℕ) (bytes : List ℕ) (a b c : Moment) (old mid new : Known) (k : ℕ) → HasTriedSo terms number bytes a b old mid k → is_ruled mid ≡ false → TriesOnce terms k number bytes b c mid new None → HasTriedSo terms number bytes a c old new (k + 1)
tries_more terms number bytes a b c old mid new k h open_yet t = record {
  tries = h.tries ++ t.came ∷ [];
  count = more_count terms number bytes a b c old mid new k None h t;
  hearing = more_hearing terms number bytes a b c old mid new k None h t;
  waited = subst (λ l. AllByRecursion HasWaited l ⊎ (is_ruled new ≡ true)) (sym (each_more h.tries t.came)) (still_waited (heard_each h.tries) mid new (heard t.came) h.waited open_yet t.waits);
  happened = more_happened terms number bytes a b c old mid new k None h t;
  again = more_again terms number bytes a b c old mid new k None h t open_yet;
  long = more_long terms number bytes a b c old mid new k None h t;
  learned = more_learned terms number bytes a b c old mid new k None h t;
}

-- ---- a whole turn

module _ (terms : SendConfig) (number : ℕ) (m : Moves) (plies : ℕ) (position : Parts) (bytes : List ℕ) (spelled : bytes ≡ spelled_move terms.stamp number m) (say : HasSpelling terms.stamp number m) (a : Moment) where
  as_spelled : (b : Moment) (tries : List (List Event)) → Happened a b (tries_events a.sender a.to bytes tries) → Happened a b (tries_events a.sender a.to (spelled_move terms.stamp number m) tries)
  as_spelled b tries h = subst (λ w. Happened a b (tries_events a.sender a.to w tries)) spelled h

  pub move_ended : (b : Moment) (old new : Known) (k : ℕ) (end : Turn) → HasTriedSo terms number bytes a b old new k → k ≤ terms.tries → EndsIf terms.origin number plies position new (Some end) → (tries : List (List Event)) × SendsMove terms number m plies position a b old new end tries
  move_ended b old new k end h le ends =
      let counted = h.count in (
        h.tries,
        record {
          spelling = say;
          few = omega arith;
          hearing = h.hearing;
          again = h.again;
          waited = h.long;
          lost = λ is. absurd (ends.0 is);
          happened = as_spelled b h.tries h.happened;
          ends = λ before known. ends.1 terms.stamp _ (h.learned before known);
        },
      )

  pub move_cut : (b c : Moment) (old mid new : Known) (k : ℕ) (end : Turn) → HasTriedSo terms number bytes a b old mid k → k + 1 ≤ terms.tries → is_ruled mid ≡ false → TriesOnce terms k number bytes b c mid new (Some end) → (tries : List (List Event)) × SendsMove terms number m plies position a c old new end tries
  move_cut b c old mid new k end h le open_yet t =
      let counted = more_count terms number bytes a b c old mid new k (Some end) h t in (
        h.tries ++ t.came ∷ [],
        record {
          spelling = say;
          few = omega arith;
          hearing = more_hearing terms number bytes a b c old mid new k (Some end) h t;
          again = more_again terms number bytes a b c old mid new k (Some end) h t open_yet;
          waited = more_long terms number bytes a b c old mid new k (Some end) h t;
          lost = λ is. absurd (t.waits is);
          happened = as_spelled c (h.tries ++ t.came ∷ []) (more_happened terms number bytes a b c old mid new k (Some end) h t);
          ends = λ before known. more_learned terms number bytes a b c old mid new k (Some end) h t before known terms.origin number plies position;
        },
      )

  pub move_lost : (b : Moment) (old new : Known) (k : ℕ) → HasTriedSo terms number bytes a b old new k → k ≡ terms.tries → EndsIf terms.origin number plies position new None → (tries : List (List Event)) × SendsMove terms number m plies position a b old new at_turn.Lost tries
  move_lost b old new k h all ends =
      let counted = h.count in (
        h.tries,
        record {
          spelling = say;
          few = omega arith;
          hearing = h.hearing;
          again = h.again;
          waited = h.long;
          lost = λ is. (h.count ∙ all, all_waited (heard_each h.tries) new h.waited ends.0);
          happened = as_spelled b h.tries h.happened;
          ends = λ before known. let now = ends.1 terms.stamp _ (h.learned before known) in (now.0, h.learned before known, now.1);
        },
      )
