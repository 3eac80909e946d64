-- The queue of the connections that may go on, step by step.
use Rattle.std.proofs.Common.{◌≡◌, ◌≢◌, ◌⊎◌, ◌+◌, arith, cond, eqb, length, ℕ, zero, suc, ◌<◌, ◌≤◌, Bool, true, false, not, ◌&&◌, List, [], ◌∷◌, ◌++◌, Option, Some, None, refl, sym, ap, subst, ◌∙◌, inl, inr, append_assoc, append-nil, get_or, length-append, drop}
use Rattle.std.proofs.lemmas.List.Sums.{sum_by-append, sum_by-cons}
use Rattle.std.proofs.lemmas.Bool.{cases_eq, eq-eqb, ne_eqb}
use Rattle.std.proofs.lemmas.List.{get_or_past}
use Rattle.std.specs.Prelude.{IfSome}
use Rattle.std.specs.declared.time.Duration.{Duration}
use Rattle.std.specs.declared.time.Instant.{Instant}
use Rattle.slab.specs.Slab.{Slab, Updates, get}
use Rattle.http1.specs.declared.conn.Limits.{Limits}
use Rattle.http1.specs.Message.{AcceptsRequest}
use Rattle.http_server.specs.Connection.{config_of, history}
use Rattle.http_server.specs.History.{AreAllCalled, History, IsInvited, Rests, new_history}
use Rattle.http_server.specs.declared.state.Config.{Config}
use Rattle.http_server.proofs.MachineLemmas.{head_is_some}
use Rattle.http_loop.specs.declared.peer.Fate.{Fate}
use Rattle.http_loop.specs.declared.peer.Fate.TheVariants.{Waits}
use Rattle.http_loop.specs.declared.peer.Peer.{Peer}
use Rattle.http_loop.specs.Late.{ClosesLate, is_late, unless_late}
use Rattle.http_loop.specs.Serving.{HaveSame, HaveSameEnds}
use Rattle.http_loop.specs.Turns.{AreOthersQueued, AreQueued, GoesOnOrRests, GrowsBehind, MovesUp, StayQueued, is_going, may_go_on, places_due, times_queued}

cases : (a b : ℕ) → (a < b) ⊎ (b ≤ a)
cases a zero = inr (omega arith)
cases zero (suc b) = inl (omega arith)
cases (suc a) (suc b) = elim (cases a b) [ inl x ↦ inl (omega arith) | inr x ↦ inr (omega arith) ]

at_most_once : (b : Bool) → cond b 1 0 ≤ 1
at_most_once true = omega arith
at_most_once false = omega arith

both : (b : Bool) → b ≡ true → b ≡ false → ⊥
both b x y = absurd (cc)

waits_if_late : (on passed : Bool) → (not on && passed) ≡ true → on ≡ false
waits_if_late true passed is = absurd (cc)
waits_if_late false passed is = refl

-- ---- how often a key stands in a queue

abbrev counts : ℕ → ℕ → ℕ
counts other key = cond (eqb key other) 1 0

counts_same : (other key : ℕ) → key ≡ other → counts other key ≡ 1
counts_same other key is = ap (λ b. cond b 1 0) (eq-eqb key other is)

counts_other : (other key : ℕ) → (key ≡ other → ⊥) → counts other key ≡ 0
counts_other other key differs = ap (λ b. cond b 1 0) (ne_eqb key other differs)

places_behind : (queue : List ℕ) (key other : ℕ) → times_queued other (queue ++ key ∷ []) ≡ times_queued other queue + counts other key
places_behind queue key other =
    omega (arith, sum_by-append (counts other) queue (key ∷ []), sum_by-cons (counts other) key [])

places_first : (rest : List ℕ) (key other : ℕ) → times_queued other (key ∷ rest) ≡ counts other key + times_queued other rest
places_first rest key other = sum_by-cons (counts other) key rest

-- ---- a connection that has received nothing rests

none_called : (limits : Limits) → AreAllCalled limits new_history
none_called limits [] rest x = omega arith
none_called limits (m ∷ ms) rest x =
    let split = ap length x.1.head.reads.1 ∙ length-append _ x.1.after_head in absurd (omega (arith, head_is_some m.head, split))

none_invited : (limits : Limits) → IsInvited limits new_history
none_invited limits [] rest x as_many e =
    let accepts : AcceptsRequest limits [] e.0 e.1 e.2 = subst (λ (s : List ℕ). AcceptsRequest limits s e.0 e.1 e.2) (sym x) e.3 in
    let split = ap length accepts.reads.1 ∙ length-append _ e.2 in absurd (omega (arith, head_is_some e.0, split))
none_invited limits (m ∷ ms) rest x as_many e = absurd (omega arith)

pub fresh_rests : (config : Config) (h : History) → h ≡ new_history → Rests config h
fresh_rests config h fresh =
    subst (Rests config) (sym fresh) (λ is_open room. (refl, none_called config.limits, none_invited config.limits))

module _ {R W : Type 0} where
  pub none_due : (o : Option (Peer R W)) → is_going o ≡ false → places_due o ≡ 0
  none_due o off = ap (λ b. cond b 1 0) off

  due_at : (o : Option (Peer R W)) → is_going o ≡ true → places_due o ≡ 1
  due_at o on = ap (λ b. cond b 1 0) on

  due_below : (o : Option (Peer R W)) → places_due o ≤ 1
  due_below o = at_most_once (is_going o)

  rests_where_on : (o : Option (Peer R W)) → is_going o ≡ true → IfSome o GoesOnOrRests
  rests_where_on None on = tt
  rests_where_on (Some peer) on = λ off. absurd (both peer.goes_on on off)

  -- all are as they are to be where the others are and this one is
  pub complete : (peers : Slab (Peer R W)) (queue : List ℕ) (key : ℕ) → ((other : ℕ) → other ≢ key → times_queued other queue ≡ places_due (get peers other))
      → ((other : ℕ) → other ≢ key → IfSome (get peers other) GoesOnOrRests) → times_queued key queue ≡ places_due (get peers key) → IfSome (get peers key) GoesOnOrRests
      → AreQueued peers queue
  complete peers queue key others rest here rests = record {
    places = λ other. elim (cases_eq other key) [ inl same ↦ subst (λ (k : ℕ). times_queued k queue ≡ places_due (get peers k)) (sym same) here | inr differs ↦ others other differs ];
    rests = λ other. elim (cases_eq other key) [ inl same ↦ subst (λ (k : ℕ). IfSome (get peers k) GoesOnOrRests) (sym same) rests | inr differs ↦ rest other differs ];
  }

  -- one goes to the end of the queue
  pub after_push : (peers : Slab (Peer R W)) (queue : List ℕ) (key : ℕ) → AreOthersQueued key peers queue → is_going (get peers key) ≡ true
      → AreQueued peers (queue ++ key ∷ [])
  after_push peers queue key h on =
      complete peers (queue ++ key ∷ []) key
      (λ other differs. omega (arith, places_behind queue key other, counts_other other key (λ same. differs (sym same)), h.places other differs))
      h.rests
      (omega (arith, places_behind queue key key, counts_same key key refl, h.none, due_at (get peers key) on))
      (rests_where_on (get peers key) on)

  -- one can't go on, and rests
  pub after_rest : (peers : Slab (Peer R W)) (queue : List ℕ) (key : ℕ) → AreOthersQueued key peers queue → is_going (get peers key) ≡ false
      → IfSome (get peers key) GoesOnOrRests → AreQueued peers queue
  after_rest peers queue key h off rests =
      complete peers queue key h.places h.rests (omega (arith, h.none, none_due (get peers key) off)) rests

  -- something happened under this key alone
  pub others_after : (peers peers' : Slab (Peer R W)) (queue : List ℕ) (key : ℕ) (slot : Option (Peer R W)) → Updates peers peers' key slot
      → AreOthersQueued key peers queue → AreOthersQueued key peers' queue
  others_after peers peers' queue key slot updates h = record {
    places = λ other differs. h.places other differs ∙ ap places_due (sym (updates.others other differs));
    none = h.none;
    rests = λ other differs. subst (λ (o : Option (Peer R W)). IfSome o GoesOnOrRests) (sym (updates.others other differs)) (h.rests other differs);
  }

  -- one was closed
  pub after_gone : (peers peers' : Slab (Peer R W)) (queue : List ℕ) (key : ℕ) → Updates peers peers' key None → AreOthersQueued key peers queue → AreQueued peers' queue
  after_gone peers peers' queue key updates h =
      after_rest peers' queue key (others_after peers peers' queue key None updates h)
      (ap is_going updates.changed)
      (subst (λ (o : Option (Peer R W)). IfSome o GoesOnOrRests) (sym updates.changed) tt)

  -- one that can't go on isn't in the queue
  pub as_others : (peers : Slab (Peer R W)) (queue : List ℕ) (key : ℕ) → is_going (get peers key) ≡ false → AreQueued peers queue
      → AreOthersQueued key peers queue
  as_others peers queue key off h = record {
    places = λ other differs. h.places other;
    none = h.places key ∙ none_due (get peers key) off;
    rests = λ other differs. h.rests other;
  }

  -- the first of the queue isn't in the rest of it
  pub popped : (peers : Slab (Peer R W)) (rest : List ℕ) (key : ℕ) → AreQueued peers (key ∷ rest) → AreOthersQueued key peers rest
  popped peers rest key h = record {
    places = λ other differs. omega (arith, h.places other, places_first rest key other, counts_other other key (λ same. differs (sym same)));
    none = omega (arith, h.places key, places_first rest key key, counts_same key key refl, due_below (get peers key));
    rests = λ other differs. h.rests other;
  }

  -- one that couldn't go on was closed
  pub after_close_waiting : (peers peers' : Slab (Peer R W)) (key : ℕ) → is_going (get peers key) ≡ false → Updates peers peers' key None → StayQueued peers peers'
  after_close_waiting peers peers' key off updates = λ queue h. after_gone peers peers' queue key updates (as_others peers queue key off h)

  -- one that has just come can't go on, and rests
  pub after_insert : (peers peers' : Slab (Peer R W)) (key : ℕ) (peer : Peer R W) → get peers key ≡ None → Updates peers peers' key (Some peer) → peer.goes_on ≡ false
      → history peer.connection ≡ new_history → StayQueued peers peers'
  after_insert peers peers' key peer none updates off fresh = λ queue h.
      after_rest peers' queue key
      (others_after peers peers' queue key (Some peer) updates (as_others peers queue key (ap is_going none) h))
      (ap is_going updates.changed ∙ off)
      (subst (λ (o : Option (Peer R W)). IfSome o GoesOnOrRests) (sym updates.changed) (λ _. fresh_rests (config_of peer.connection) (history peer.connection) fresh))

  -- under each key stands what may take the place of what stood there
  each_after : (peers peers' : Slab (Peer R W)) → ((key : ℕ) → places_due (get peers' key) ≡ places_due (get peers key))
      → ((key : ℕ) → IfSome (get peers key) GoesOnOrRests → IfSome (get peers' key) GoesOnOrRests) → StayQueued peers peers'
  each_after peers peers' due rests = λ queue h. record {
    places = λ key. h.places key ∙ sym (due key);
    rests = λ key. rests key (h.rests key);
  }

  pub queued_at_same : (peers peers' : Slab (Peer R W)) → peers'.slots ≡ peers.slots → StayQueued peers peers'
  queued_at_same peers peers' same = λ queue h. record {
    places = λ key. h.places key ∙ ap (λ (slots : List (Option (Peer R W))). places_due (get_or slots key None)) (sym same);
    rests = λ key. subst (λ (slots : List (Option (Peer R W))). IfSome (get_or slots key None) GoesOnOrRests) (sym same) (h.rests key);
  }

  pub updates_at_same : (a b c : Slab (Peer R W)) (key : ℕ) (slot : Option (Peer R W)) → b.slots ≡ a.slots → Updates b c key slot → Updates a c key slot
  updates_at_same a b c key slot same updates = record {
    changed = updates.changed;
    others = λ other differs. updates.others other differs ∙ ap (λ (slots : List (Option (Peer R W))). get_or slots other None) same;
  }

  pub free_at_same : (a b : Slab (Peer R W)) (key : ℕ) → b.slots ≡ a.slots → get b key ≡ None → get a key ≡ None
  free_at_same a b key same none = ap (λ (slots : List (Option (Peer R W))). get_or slots key None) (sym same) ∙ none

  same_due : (a b : Option (Peer R W)) → HaveSame a b → places_due b ≡ places_due a
  same_due None None same = refl
  same_due None (Some b) same = absurd same
  same_due (Some a) None same = absurd same
  same_due (Some a) (Some b) same = ap (λ on. cond on 1 0) same.goes_on

  same_rests : (a b : Option (Peer R W)) → HaveSame a b → IfSome a GoesOnOrRests → IfSome b GoesOnOrRests
  same_rests None None same rests = tt
  same_rests None (Some b) same rests = absurd same
  same_rests (Some a) None same rests = tt
  same_rests (Some a) (Some b) same rests = λ off. rw same.connection (rests (sym same.goes_on ∙ off))

  pub queued_after_same : (peers peers' : Slab (Peer R W)) → HaveSameEnds peers peers' → StayQueued peers peers'
  queued_after_same peers peers' same = each_after peers peers' (λ key. same_due _ _ (same.each key)) (λ key. same_rests _ _ (same.each key))

  late_waits : (now : Instant) (exchange : Duration) (o : Option (Peer R W)) → is_late now exchange o ≡ true → is_going o ≡ false
  late_waits now exchange None late = refl
  late_waits now exchange (Some peer) late = waits_if_late peer.goes_on _ late

  late_due : (now : Instant) (exchange : Duration) (o : Option (Peer R W)) → places_due (unless_late now exchange o) ≡ places_due o
  late_due now exchange o = at (is_late now exchange o) refl
    where
      at : (b : Bool) → is_late now exchange o ≡ b → places_due (cond b None o) ≡ places_due o
      at true is = sym (none_due o (late_waits now exchange o is))
      at false is = refl

  late_rests : (o : Option (Peer R W)) (b : Bool) → IfSome o GoesOnOrRests → IfSome (cond b None o) GoesOnOrRests
  late_rests o true rests = tt
  late_rests o false rests = rests

  pub late_gone : (now : Instant) (exchange : Duration) (peers peers' : Slab (Peer R W)) (key : ℕ) → is_late now exchange (get peers key) ≡ true
      → Updates peers peers' key None → Updates peers peers' key (unless_late now exchange (get peers key))
  late_gone now exchange peers peers' key late updates = record {
    changed = updates.changed ∙ sym (ap (λ b. cond b None (get peers key)) late);
    others = updates.others;
  }

  pub late_none : (now : Instant) (exchange : Duration) (peers : Slab (Peer R W)) (key : ℕ) → is_late now exchange (get peers key) ≡ false
      → Updates peers peers key (unless_late now exchange (get peers key))
  late_none now exchange peers key late = record {
    changed = sym (ap (λ b. cond b None (get peers key)) late);
    others = λ other differs. refl;
  }

  -- the keys are looked through from the first one on: below this one the late are closed, and from it on nothing happened
  pub late_below : (now : Instant) (exchange : Duration) (peers mid peers' : Slab (Peer R W)) (key : ℕ) → Updates mid peers' key (unless_late now exchange (get mid key))
      → ((at : ℕ) → at < key → get mid at ≡ unless_late now exchange (get peers at)) → ((at : ℕ) → key ≤ at → get mid at ≡ get peers at)
      → (at : ℕ) → at < key + 1 → get peers' at ≡ unless_late now exchange (get peers at)
  late_below now exchange peers mid peers' key one below above = λ at within.
      elim (cases_eq at key) [
        | inl same ↦ ap (get peers') same ∙ one.changed ∙ ap (unless_late now exchange) (above key (omega arith)) ∙ ap (λ k. unless_late now exchange (get peers k)) (sym same)
        | inr differs ↦ one.others at differs ∙ below at (less at key within differs)
      ]
    where
      less : (at key : ℕ) → at < key + 1 → (at ≡ key → ⊥) → at < key
      less at key within differs = elim (cases at key) [ inl x ↦ x | inr x ↦ absurd (differs (omega arith)) ]

  pub same_above : (now : Instant) (exchange : Duration) (peers mid peers' : Slab (Peer R W)) (key : ℕ) → Updates mid peers' key (unless_late now exchange (get mid key))
      → ((at : ℕ) → key ≤ at → get mid at ≡ get peers at) → (at : ℕ) → key + 1 ≤ at → get peers' at ≡ get peers at
  same_above now exchange peers mid peers' key one above = λ at past. one.others at (λ same. absurd (omega (arith, same))) ∙ above at (omega arith)

  pub all_late : (now : Instant) (exchange : Duration) (peers peers' : Slab (Peer R W)) (last : ℕ) → length peers.slots ≤ last
      → ((at : ℕ) → at < last → get peers' at ≡ unless_late now exchange (get peers at)) → ((at : ℕ) → last ≤ at → get peers' at ≡ get peers at)
      → ClosesLate now exchange peers peers'
  all_late now exchange peers peers' last short below above = λ at.
      elim (cases at last) [
        | inl within ↦ below at within
        | inr past ↦ let none = get_or_past peers.slots at None (omega arith) in above at past ∙ none ∙ ap (unless_late now exchange) (sym none)
      ]

  -- those that are late were closed
  pub queued_after_late : (now : Instant) (exchange : Duration) (peers peers' : Slab (Peer R W)) → ClosesLate now exchange peers peers' → StayQueued peers peers'
  queued_after_late now exchange peers peers' closes =
      each_after peers peers' (λ key. ap places_due (closes key) ∙ late_due now exchange (get peers key))
      (λ key rests. subst (λ (o : Option (Peer R W)). IfSome o GoesOnOrRests) (sym (closes key)) (late_rests (get peers key) (is_late now exchange (get peers key)) rests))

  -- where there is none, none is in the queue
  pub none_queued : (peers : Slab (Peer R W)) → ((key : ℕ) → get peers key ≡ None) → AreQueued peers []
  none_queued peers none = record {
    places = λ key. ap places_due (sym (none key));
    rests = λ key. subst (λ (o : Option (Peer R W)). IfSome o GoesOnOrRests) (sym (none key)) tt;
  }

  -- what a turn came to
  pub after_wait : (peers peers' : Slab (Peer R W)) (queue : List ℕ) (key : ℕ) (fate : Fate) → Updates peers peers' key (get peers' key)
      → is_going (get peers' key) ≡ may_go_on fate → IfSome (get peers' key) (λ peer. fate ≡ Waits → Rests (config_of peer.connection) (history peer.connection)) → fate ≡ Waits
      → AreOthersQueued key peers queue → AreQueued peers' queue
  after_wait peers peers' queue key fate updates going rests waits h =
      after_rest peers' queue key (others_after peers peers' queue key (get peers' key) updates h) (going ∙ ap may_go_on waits) (at (get peers' key) rests)
    where
      at : (o : Option (Peer R W)) → IfSome o (λ peer. fate ≡ Waits → Rests (config_of peer.connection) (history peer.connection)) → IfSome o GoesOnOrRests
      at None rests = tt
      at (Some peer) rests = λ off. rests waits

-- ---- the order of the queue

pub grows_none : (a b : List ℕ) → b ≡ a → GrowsBehind a b
grows_none a b is = ([], is ∙ sym (append-nil a))

pub grows_then : (a b c : List ℕ) → GrowsBehind a b → GrowsBehind b c → GrowsBehind a c
grows_then a b c x y = (x.0 ++ y.0, y.1 ∙ ap (λ (t : List ℕ). t ++ y.0) x.1 ∙ append_assoc a x.0 y.0)

moved : (a b c more rest : List ℕ) → b ≡ a ++ more → c ≡ drop 1 b ++ rest → MovesUp a c
moved [] b c more rest x y = (c, refl)
moved (first ∷ a) b c more rest x y =
    (more ++ rest, y ∙ ap (λ (t : List ℕ). drop 1 t ++ rest) x ∙ append_assoc a more rest)

-- others came behind, and then the first left
pub moves_then : (a b c : List ℕ) → GrowsBehind a b → MovesUp b c → MovesUp a c
moves_then a b c x y = moved a b c x.0 y.0 x.1 y.1

pub moves_at : (a b c d : List ℕ) → b ≡ a → MovesUp b c → d ≡ c → MovesUp a d
moves_at a b c d was moves is = (moves.0, is ∙ moves.1 ∙ ap (λ (t : List ℕ). drop 1 t ++ moves.0) was)
