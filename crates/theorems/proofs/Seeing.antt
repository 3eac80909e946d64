-- Keepers of any type, seen as what they keep and how often they failed: nothing else of them matters to two arbiters.
use Rattle.std.proofs.Common.{◌≡◌, ℕ, List, Option, Some, None, ap, inl, inr}
use Rattle.std.specs.Prelude.{◌⊎◌}
use Rattle.arbiter_core.specs.Keeping.{HasBytes, KeeperFacts}
use Rattle.arbiter_core.specs.declared.keeper.KeepFault.TheVariants as keep_fault
use Rattle.arbiter_core.specs.Setups.{SetupView}
use Rattle.arbiter_core.specs.Views.{View}
use Rattle.arbiter_core.specs.Answering.{Answer, Identity, Puts, Refuses, Sends}
use Rattle.arbiter_core.specs.Delivers.{Delivers, Exchange, PutsIfAny, RefusesOrSends, Told, Unchanged, answer_at, exchange, moment}
use Rattle.arbiter_core.specs.Opens as opening
use Rattle.arbiter_core.specs.Opens.{NoMemory, Opens, OpensOver}

pub record Seen : Type 0 where
  pub kept : Option (List ℕ)
  pub faults : ℕ

-- of these nothing more is known
abbrev pub seen_facts : KeeperFacts Seen
seen_facts = record {
  kept = λ k. k.kept;
  faults = λ k. k.faults;
  may_be = λ k keep. Unit {0};
  get_may_fail = λ k. Unit {0};
  leaves = λ k bytes now. Unit {0};
  reads = λ k fault now. Unit {0};
}

module _ {K : Type 0} (facts : KeeperFacts K) where
  abbrev pub seen : K → Seen
  seen k = record { kept = facts.kept k; faults = facts.faults k }

  abbrev pub seen_exchange : Exchange K → Exchange Seen
  seen_exchange e = exchange e.datagram e.told (moment e.after.arbiter (seen e.after.keeper))

  -- ---- a delivery

  unchanged : (old new : View) (before now : K) (told wanted : Told) → Unchanged old before now new told wanted → Unchanged old (seen before) (seen now) new told wanted
  unchanged old new before now told wanted u = record { answer = u.answer; arbiter = u.arbiter; keeper = ap seen u.keeper }

  answered : (old new : View) (before now : K) (told : Told) (a : Answer) → RefusesOrSends old before now new told a → RefusesOrSends old (seen before) (seen now) new told a
  answered old new before now told (Refuses fault) h = unchanged _ new before now told _ h
  answered old new before now told (Sends outputs window) (inl h) = inl (unchanged _ new before now told _ h)
  answered old new before now told (Sends outputs window) (inr h) = inr (h.0, unchanged _ new before now told _ h.1)
  answered old new before now told (Puts next outputs window) h = tt

  put : (old new : View) (before now : K) (told : Told) (a : Answer) → PutsIfAny facts old before now new told a → PutsIfAny seen_facts old (seen before) (seen now) new told a
  put old new before now told (Refuses fault) h = tt
  put old new before now told (Sends outputs window) h = tt
  put old new before now told (Puts next outputs window) (inl h) = inl (unchanged _ new before now told _ h)
  put old new before now told (Puts next outputs window) (inr p) =
      inr (record { keep = p.keep; stated = tt; lands = p.lands; written = p.written; sent = p.sent; spells = p.spells; once = tt; cause = p.cause })

  pub seen_delivers : (v : View) (before : K) (e : Exchange K) → Delivers facts (moment v before) e → Delivers seen_facts (moment v (seen before)) (seen_exchange e)
  seen_delivers v before e d = record {
    answered = answered v e.after.arbiter before e.after.keeper e.told (answer_at v e.datagram) d.answered;
    put = put v e.after.arbiter before e.after.keeper e.told (answer_at v e.datagram) d.put;
  }

  -- ---- an opening

  module _ (setup : SetupView) (me : Identity) (before now : K) (told : opening.OpenResult) where
    no_memory : NoMemory facts before now told → NoMemory seen_facts (seen before) (seen now) told
    no_memory n = record { answer = n.answer; still = n.still; cause = cause n.cause }
      where
        cause : (facts.reads before (Some keep_fault.OutOfMemory) now × HasBytes (facts.kept before)) ⊎ ((facts.kept before ≡ None) × facts.reads before None now) → (Unit {0} × HasBytes (facts.kept before)) ⊎ ((facts.kept before ≡ None) × Unit {0})
        cause (inl c) = inl (tt, c.1)
        cause (inr c) = inr (c.0, tt)

    over : (was : Option (List ℕ)) → OpensOver facts setup me was before now told → OpensOver seen_facts setup me was (seen before) (seen now) told
    over None p = record { keep = p.keep; stated = tt; lands = p.lands; written = p.written; mid = seen p.mid; got = tt; sent = p.sent; spells = p.spells; once = tt; cause = p.cause }
    over (Some bytes) q = (q.0, q.1, tt)

    pub seen_opens : Opens facts setup me before now told → Opens seen_facts setup me (seen before) (seen now) told
    seen_opens (inl g) = inl (record { answer = g.answer; still = g.still; stated = tt; got = tt; cause = g.cause })
    seen_opens (inr (inl n)) = inr (inl (no_memory n))
    seen_opens (inr (inr o)) = inr (inr (over (facts.kept before) o))
