-- Which connection has waited longest, and whose time is counted anew, as the keys are looked through.
use Rattle.std.proofs.Common.{◌≡◌, ◌⊎◌, ◌+◌, arith, cond, length, ℕ, zero, suc, ◌<◌, ◌≤◌, Bool, true, false, Option, Some, None, refl, sym, ap, subst, ◌∙◌, inl, inr}
use Rattle.std.proofs.lemmas.Bool.{cases_eq}
use Rattle.std.proofs.lemmas.List.{get_or_past}
use Rattle.std.specs.Prelude.{IfSome}
use Rattle.std.specs.declared.time.Instant.{Instant}
use Rattle.slab.specs.Slab.{ContainsKey, Slab, Updates, get}
use Rattle.http_loop.specs.declared.peer.Peer.{Peer}
use Rattle.http_loop.specs.Late.{AreAnew, IsEarlier, IsLonger, IsNotAfter, WaitsLongest, waits_since}
use Rattle.http_loop.specs.Serving.{HaveSame, HaveSameEnds}
use Rattle.http_loop.specs.Turns.{is_going}

cases : (a b : ℕ) → (a < b) ⊎ (b ≤ a)
cases a zero = inr (omega arith)
cases zero (suc b) = inl (omega arith)
cases (suc a) (suc b) = elim (cases a b) [ inl x ↦ inl (omega arith) | inr x ↦ inr (omega arith) ]

as_late : (a : Option Instant) → IsNotAfter a a
as_late None = tt
as_late (Some a) = omega arith

not_after_then : (a b c : Option Instant) → IsNotAfter a b → IsNotAfter b c → IsNotAfter a c
not_after_then a b None x y = tt
not_after_then a None (Some c) x y = absurd y
not_after_then None (Some b) (Some c) x y = absurd x
not_after_then (Some a) (Some b) (Some c) x y = omega arith

before_not_after : (a b : Option Instant) → IsEarlier a b → IsNotAfter a b
before_not_after None b x = absurd x
before_not_after (Some a) None x = tt
before_not_after (Some a) (Some b) x = omega arith

is_there : (a b : Option Instant) → IsEarlier a b → (since : Instant) × (a ≡ Some since)
is_there None b x = absurd x
is_there (Some a) b x = (a, refl)

module _ {R W : Type 0} (peers : Slab (Peer R W)) (newest : ℕ) where
  -- this is the one that has waited longest of those below a key
  pub record IsLongestBelow (longest : ℕ × Option Instant) (key : ℕ) : Type 0 where
    pub at : (longest ≡ (newest, None)) ⊎ ((since : Instant) × (longest.1 ≡ Some since) × (waits_since (get peers longest.0) ≡ Some since))
    pub all : (other : ℕ) → other < key → IsNotAfter longest.1 (waits_since (get peers other))

  pub longest_at_first : IsLongestBelow (newest, None) 0
  longest_at_first = record { at = inl refl; all = λ other below. absurd (omega (arith, below)) }

  below_more : (first : Option Instant) (key : ℕ) → ((other : ℕ) → other < key → IsNotAfter first (waits_since (get peers other))) → IsNotAfter first (waits_since (get peers key))
      → (other : ℕ) → other < key + 1 → IsNotAfter first (waits_since (get peers other))
  below_more first key all here = λ other below. by other below (cases other key)
    where
      by : (other : ℕ) → other < key + 1 → (other < key) ⊎ (key ≤ other) → IsNotAfter first (waits_since (get peers other))
      by other below (inl less) = all other less
      by other below (inr more) =
          let same : other ≡ key = omega arith in
          subst (λ (k : ℕ). IsNotAfter first (waits_since (get peers k))) (sym same) here

  pub longest_more : (longest next : ℕ × Option Instant) (key : ℕ) (since : Option Instant) → since ≡ waits_since (get peers key) → IsLonger longest (key, since) next
      → IsLongestBelow longest key → IsLongestBelow next (key + 1)
  longest_more longest next key since is (inl (same, before)) h =
      let there = is_there since longest.1 before in
      let first = before_not_after since longest.1 before in
      subst (λ (n : ℕ × Option Instant). IsLongestBelow n (key + 1)) (sym same) (record {
        at = inr (there.0, there.1, sym is ∙ there.1);
        all = below_more since key (λ other below. not_after_then since longest.1 _ first (h.all other below)) (subst (IsNotAfter since) is (as_late since));
      })
  longest_more longest next key since is (inr (same, not_after)) h =
      subst (λ (n : ℕ × Option Instant). IsLongestBelow n (key + 1)) (sym same) (record {
        at = h.at;
        all = below_more longest.1 key h.all (subst (IsNotAfter longest.1) is not_after);
      })

  waits_there : (o : Option (Peer R W)) (since : Instant) → waits_since o ≡ Some since → (peer : Peer R W) × (o ≡ Some peer) × (peer.goes_on ≡ false)
  waits_there None since is = absurd (cc)
  waits_there (Some peer) since is = (peer, refl, off peer.goes_on is)
    where
      off : (b : Bool) → cond b None (Some peer.since) ≡ Some since → b ≡ false
      off true is = absurd (cc)
      off false is = refl

  pub longest_contained : (longest : ℕ × Option Instant) (key : ℕ) → IsLongestBelow longest key → ContainsKey peers newest → ContainsKey peers longest.0
  longest_contained longest key h there =
      elim h.at [
        | inl same ↦ subst (λ (n : ℕ × Option Instant). ContainsKey peers n.0) (sym same) there
        | inr waits ↦ let one = waits_there (get peers longest.0) waits.0 waits.2 in rw one.1 refl
      ]

  pub longest_waits : (longest : ℕ × Option Instant) (key : ℕ) → IsLongestBelow longest key → is_going (get peers newest) ≡ false → is_going (get peers longest.0) ≡ false
  longest_waits longest key h off =
      elim h.at [
        | inl same ↦ subst (λ (n : ℕ × Option Instant). is_going (get peers n.0) ≡ false) (sym same) off
        | inr waits ↦ let one = waits_there (get peers longest.0) waits.0 waits.2 in ap is_going one.1 ∙ one.2
      ]

  all_after : (first : Option Instant) (key other : ℕ) → length peers.slots ≤ key → ((k : ℕ) → k < key → IsNotAfter first (waits_since (get peers k)))
      → IsNotAfter first (waits_since (get peers other))
  all_after first key other short all = by (cases other key)
    where
      by : (other < key) ⊎ (key ≤ other) → IsNotAfter first (waits_since (get peers other))
      by (inl less) = all other less
      by (inr past) = subst (λ (o : Option (Peer R W)). IsNotAfter first (waits_since o)) (sym (get_or_past peers.slots other None (omega arith))) tt

  -- where none waits there is nothing to say
  none_longest : (o : Option Instant) → IsNotAfter None o → (other : Option Instant) → IsNotAfter None other → IfSome o (λ since. IsNotAfter (Some since) other)
  none_longest None x other y = tt
  none_longest (Some o) x other y = absurd x

  if_all : (o : Option Instant) (P : Instant → ℕ → Type 0) → ((other : ℕ) → IfSome o (λ since. P since other)) → IfSome o (λ since. (other : ℕ) → P since other)
  if_all None P each = tt
  if_all (Some o) P each = each

  pub waits_longest : (longest : ℕ × Option Instant) (key : ℕ) → length peers.slots ≤ key → IsLongestBelow longest key → WaitsLongest peers longest.0
  waits_longest longest key short h =
      elim h.at [
        | inl same ↦
            let none : (other : ℕ) → IsNotAfter None (waits_since (get peers other)) = λ other.
            all_after None key other short (subst (λ (n : ℕ × Option Instant). (k : ℕ) → k < key → IsNotAfter n.1 (waits_since (get peers k))) same h.all) in
            if_all (waits_since (get peers longest.0)) (λ since other. IsNotAfter (Some since) (waits_since (get peers other)))
            (λ other. none_longest (waits_since (get peers longest.0)) (none longest.0) (waits_since (get peers other)) (none other))
        | inr waits ↦
            subst (λ (o : Option Instant). IfSome o (λ since. (other : ℕ) → IsNotAfter (Some since) (waits_since (get peers other)))) (sym waits.2)
            (λ other. all_after (Some waits.0) key other short (subst (λ (o : Option Instant). (k : ℕ) → k < key → IsNotAfter o (waits_since (get peers k))) waits.1 h.all))
      ]

-- ---- the time of each is counted anew, key by key

module _ {R W : Type 0} (now : Instant) where
  pub anew_below : (peers peers' : Slab (Peer R W)) (key : ℕ) → Updates peers peers' key (get peers' key) → IfSome (get peers' key) (λ peer. peer.since ≡ now)
      → ((at : ℕ) → at < key → IfSome (get peers at) (λ peer. peer.since ≡ now)) → (at : ℕ) → at < key + 1 → IfSome (get peers' at) (λ peer. peer.since ≡ now)
  anew_below peers peers' key updates here below = λ at within.
      elim (cases_eq at key) [
        | inl same ↦ subst (λ (k : ℕ). IfSome (get peers' k) (λ peer. peer.since ≡ now)) (sym same) here
        | inr differs ↦ subst (λ (o : Option (Peer R W)). IfSome o (λ peer. peer.since ≡ now)) (sym (updates.others at differs)) (below at (less at within differs (cases at key)))
      ]
    where
      less : (at : ℕ) → at < key + 1 → (at ≡ key → ⊥) → (at < key) ⊎ (key ≤ at) → at < key
      less at within differs (inl x) = x
      less at within differs (inr x) = absurd (differs (omega arith))

  none_there : (a b : Option (Peer R W)) → a ≡ None → HaveSame a b → IfSome b (λ peer. peer.since ≡ now)
  none_there None None none same = tt
  none_there None (Some b) none same = absurd same
  none_there (Some a) b none same = absurd (cc)

  pub all_anew : (old new : Slab (Peer R W)) (key : ℕ) → length old.slots ≤ key → HaveSameEnds old new → ((at : ℕ) → at < key → IfSome (get new at) (λ peer. peer.since ≡ now)) → AreAnew now new
  all_anew old new key short same below = λ at. by at (cases at key)
    where
      by : (at : ℕ) → (at < key) ⊎ (key ≤ at) → IfSome (get new at) (λ peer. peer.since ≡ now)
      by at (inl within) = below at within
      by at (inr past) = none_there (get old at) (get new at) (get_or_past old.slots at None (omega arith)) (same.each at)
