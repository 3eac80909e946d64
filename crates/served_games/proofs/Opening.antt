-- An opening over a draft of what was found, as one over what the timeline says of the record.
use Rattle.std.proofs.Common.{◌≡◌, ◌⊎◌, inl, inr, ◌∙◌, ℕ, true, false, List, Option, Some, None, refl, sym, ap, subst, arith}
use Rattle.std.specs.Prelude.{Ok, Err}
use Rattle.arbiter_core.specs.Answering.{Identity}
use Rattle.arbiter_core.specs.Delivers.{IsSpelled}
use Rattle.arbiter_core.specs.Keeping.{HasBytes}
use Rattle.arbiter_core.specs.Opens.{FirstLands, IsOpening, OpenResult, Opens, OpensOver, PutsFirst, Resumes, first_record, running}
use Rattle.arbiter_core.specs.Setups.{IsGood, IsIdentity, SetupView, rules_at}
use Rattle.arbiter_core.specs.Views.{View, spelled_as}
use Rattle.arbiter_core.specs.declared.fault.OpenFault.{OpenFault}
use Rattle.arbiter_core.specs.declared.fault.OpenFault.TheVariants as open_fault
use Rattle.arbiter_core.specs.declared.keeper.Keep.{Keep}
use Rattle.arbiter_core.specs.declared.keeper.Keep.TheVariants.{FailsOld, Good}
use Rattle.arbiter_server.proofs.OpenedLaws.{good_unless}
use Rattle.move_msg.specs.Records.{WritesRecord}
use Rattle.timeline.specs.Events.{Event}
use Rattle.game_folder.specs.Drafts.{DraftView, draft_facts, settled}
use Rattle.game_folder.specs.Holdings.{GamesFacts}
use Rattle.game_server.specs.Fates.{KeptIfAny, found_draft}
use Rattle.served_games.specs.PlaceKeepers.{PlaceKeeper, found_keeper, has_failed, has_put, place_facts}
use Rattle.served_games.specs.ServedGames.{NothingPut, IsPut, PutsBy}

ok_not_err : (v : View) (fault : OpenFault) → ◌≡◌ {A = OpenResult} (Ok v) (Err fault) → ⊥
ok_not_err v fault is = cc

err_not_ok : (v : View) (fault : OpenFault) → ◌≡◌ {A = OpenResult} (Err fault) (Ok v) → ⊥
err_not_ok v fault is = cc

-- ---- a refusal

module _ (setup : SetupView) (me : Identity) (after : DraftView) (fault : OpenFault) where
  refused_over : (got : Option (List ℕ)) → OpensOver draft_facts setup me got (found_draft got) after (Err fault) → OpensOver place_facts setup me got (found_keeper got) (found_keeper got) (Err fault)
  refused_over None p =
      let good : FirstLands Good setup me None after.kept (Err fault) = subst (λ (keep : Keep). FirstLands keep setup me None after.kept (Err fault)) p.stated p.lands in
      absurd (err_not_ok (running setup me (first_record (rules_at setup))) fault good.0)
  refused_over (Some bytes) p = (refl, p.1, refl)

  refused_by : (got : Option (List ℕ)) → Opens draft_facts setup me (found_draft got) after (Err fault) → Opens place_facts setup me (found_keeper got) (found_keeper got) (Err fault)
  refused_by got (inl fails) = absurd fails.stated
  refused_by got (inr (inl none)) = inr (inl (record { answer = none.answer; still = refl; cause = cause none.cause }))
    where
      cause : ((after ≡ found_draft got) × HasBytes got) ⊎ ((got ≡ None) × (after ≡ found_draft got)) → ((found_keeper got ≡ found_keeper got) × HasBytes got) ⊎ ((got ≡ None) × (found_keeper got ≡ found_keeper got))
      cause (inl c) = inl (refl, c.1)
      cause (inr c) = inr (c.0, refl)
  refused_by got (inr (inr over)) = inr (inr (refused_over got over))

pub opening_refused : (setup : SetupView) (got : Option (List ℕ)) (after : DraftView) (fault : OpenFault) → IsOpening draft_facts setup (found_draft got) after (Err fault) → IsOpening place_facts setup (found_keeper got) (found_keeper got) (Err fault)
opening_refused setup got after fault h = record {
  good = λ is. let x = h.good is in (x.0, x.1, refused_by setup x.0 after fault got x.2);
  bad = λ is. ((h.bad is).0, refl);
}

-- ---- an arbiter that is opened

-- nothing was kept, and a first record was to be put; or one was found
data Begins (setup : SetupView) (me : Identity) (got : Option (List ℕ)) (after : DraftView) (v : View) : Type 0 where
  AtFirst : (bytes : List ℕ) → got ≡ None → v ≡ running setup me (first_record (rules_at setup)) → WritesRecord bytes (spelled_as me.stamp setup.delay (first_record (rules_at setup))) → IsSpelled me.stamp setup.delay (first_record (rules_at setup)) (Some bytes) → after ≡ record { kept = Some bytes; to_put = Some bytes } → Begins setup me got after v
  Goes : (bytes : List ℕ) → got ≡ Some bytes → Resumes setup me bytes (Ok v) → after ≡ found_draft got → Begins setup me got after v

module _ (setup : SetupView) (me : Identity) (after : DraftView) (v : View) where
  begins_over : (got : Option (List ℕ)) → OpensOver draft_facts setup me got (found_draft got) after (Ok v) → Begins setup me got after v
  begins_over None p =
      let good : FirstLands Good setup me None after.kept (Ok v) = subst (λ (keep : Keep). FirstLands keep setup me None after.kept (Ok v)) p.stated p.lands in
      let put : after ≡ record { kept = Some p.sent; to_put = Some p.sent } = ap (λ (x : Option (List ℕ)). record { kept = x; to_put = after.to_put }) p.once.0 ∙ ap (λ (x : Option (List ℕ)). record { kept = Some p.sent; to_put = x }) p.once.1 in
      let same : v ≡ running setup me (first_record (rules_at setup)) = let is = good.0 in cc in
      AtFirst p.sent refl same p.spells (subst (IsSpelled me.stamp setup.delay (first_record (rules_at setup))) p.once.0 good.1) put
  begins_over (Some bytes) p = Goes bytes refl p.1 p.2

  begins_by : (got : Option (List ℕ)) → Opens draft_facts setup me (found_draft got) after (Ok v) → Begins setup me got after v
  begins_by got (inl fails) = absurd fails.stated
  begins_by got (inr (inl none)) = absurd (ok_not_err v open_fault.OutOfMemory none.answer)
  begins_by got (inr (inr over)) = begins_over got over

record Begun (setup : SetupView) (got : Option (List ℕ)) (after : DraftView) (v : View) : Type 0 where
  good : IsGood setup
  me : Identity
  is : IsIdentity setup me
  begins : Begins setup me got after v

begun : (setup : SetupView) (got : Option (List ℕ)) (after : DraftView) (v : View) → IsOpening draft_facts setup (found_draft got) after (Ok v) → Begun setup got after v
begun setup got after v h =
    let good : IsGood setup = good_unless setup (λ bad. ok_not_err v open_fault.BadSetup (h.bad bad).0) in
    let x = h.good good in
    record { good = good; me = x.0; is = x.1; begins = begins_by setup x.0 after v got x.2 }

-- over nothing kept: the first record is put, or that fails
module _ (setup : SetupView) (me : Identity) (bytes : List ℕ) (writes : WritesRecord bytes (spelled_as me.stamp setup.delay (first_record (rules_at setup)))) where
  first_put : IsSpelled me.stamp setup.delay (first_record (rules_at setup)) (Some bytes) → PutsFirst place_facts setup me (found_keeper None) (has_put (found_keeper None) bytes) (Ok (running setup me (first_record (rules_at setup))))
  first_put spelled = record {
    keep = Good;
    stated = inl refl;
    lands = (refl, spelled);
    written = inr writes;
    mid = found_keeper None;
    got = refl;
    sent = bytes;
    spells = writes;
    once = inl refl;
    cause = λ is. absurd (ok_not_err (running setup me (first_record (rules_at setup))) open_fault.KeeperFailed is);
  }

  first_failed : PutsFirst place_facts setup me (found_keeper None) (has_failed (found_keeper None) bytes) (Err open_fault.KeeperFailed)
  first_failed = record {
    keep = FailsOld;
    stated = inr refl;
    lands = (refl, refl);
    written = inl refl;
    mid = found_keeper None;
    got = refl;
    sent = bytes;
    spells = writes;
    once = inr refl;
    cause = λ is. inl (omega arith);
  }

settled_opening : (setup : SetupView) (before now : PlaceKeeper) (told : OpenResult) (me : Identity) → IsGood setup → IsIdentity setup me → Opens place_facts setup me before now told → IsOpening place_facts setup before now told
settled_opening setup before now told me good is opens = record { good = λ _. (me, is, opens); bad = λ not. absurd (not good) }

-- ---- its record couldn't be kept

same_bytes : (a b : List ℕ) → ◌≡◌ {A = Option (List ℕ)} (Some a) (Some b) → a ≡ b
same_bytes a b is = cc

none_not_some : (a : List ℕ) → ◌≡◌ {A = Option (List ℕ)} None (Some a) → ⊥
none_not_some a is = cc

pub opening_unkept : (setup : SetupView) (got : Option (List ℕ)) (after : DraftView) (v : View) (bytes : List ℕ) → IsOpening draft_facts setup (found_draft got) after (Ok v) → after.to_put ≡ Some bytes → IsOpening place_facts setup (found_keeper got) (has_failed (found_keeper got) bytes) (Err open_fault.KeeperFailed)
opening_unkept setup got after v bytes h put = by (begun setup got after v h)
  where
    by : Begun setup got after v → IsOpening place_facts setup (found_keeper got) (has_failed (found_keeper got) bytes) (Err open_fault.KeeperFailed)
    by b = from b.begins
      where
        from : Begins setup b.me got after v → IsOpening place_facts setup (found_keeper got) (has_failed (found_keeper got) bytes) (Err open_fault.KeeperFailed)
        from (AtFirst sent none same writes spelled is) =
            let one : sent ≡ bytes = same_bytes sent bytes (sym (ap (λ (d : DraftView). d.to_put) is) ∙ put) in
            subst (λ (x : Option (List ℕ)). IsOpening place_facts setup (found_keeper x) (has_failed (found_keeper x) bytes) (Err open_fault.KeeperFailed)) (sym none)
            (settled_opening setup (found_keeper None) (has_failed (found_keeper None) bytes) (Err open_fault.KeeperFailed) b.me b.good b.is (inr (inr (first_failed setup b.me bytes (subst (λ (x : List ℕ). WritesRecord x (spelled_as b.me.stamp setup.delay (first_record (rules_at setup)))) one writes)))))
        from (Goes kept some resumes is) = absurd (none_not_some bytes (sym (ap (λ (d : DraftView). d.to_put) is) ∙ put))

-- ---- its record is kept

module _ {G : Type 0} (facts : GamesFacts G) (place : facts.Place) (stamp : List ℕ) where
  pub record IsOpened (games : G) (setup : SetupView) (got : Option (List ℕ)) (after : DraftView) (v : View) (events : List Event) (new : G) : Type 0 where
    pub now : PlaceKeeper
    pub opening : IsOpening place_facts setup (found_keeper got) now (Ok v)
    pub puts : PutsBy facts place stamp games (found_keeper got) now events new
    pub left : settled after ≡ found_draft now.kept
    pub none : now.unkept ≡ None
    pub runs : v.is_down ≡ false

  pub opened : (games new : G) (setup : SetupView) (got : Option (List ℕ)) (after : DraftView) (v : View) (events : List Event) → IsOpening draft_facts setup (found_draft got) after (Ok v) → KeptIfAny facts games stamp after.to_put events new → IsOpened games setup got after v events new
  opened games new setup got after v events h kept = by (begun setup got after v h)
    where
      by : Begun setup got after v → IsOpened games setup got after v events new
      by b = from b.begins
        where
          first : (bytes : List ℕ) → WritesRecord bytes (spelled_as b.me.stamp setup.delay (first_record (rules_at setup))) → IsSpelled b.me.stamp setup.delay (first_record (rules_at setup)) (Some bytes) → facts.keeps games stamp bytes true events new → IsOpened games setup None (record { kept = Some bytes; to_put = Some bytes }) (running setup b.me (first_record (rules_at setup))) events new
          first bytes writes spelled e = record {
            now = has_put (found_keeper None) bytes;
            opening = settled_opening setup (found_keeper None) (has_put (found_keeper None) bytes) (Ok (running setup b.me (first_record (rules_at setup)))) b.me b.good b.is (inr (inr (first_put setup b.me bytes writes spelled)));
            puts = IsPut bytes e refl;
            left = refl;
            none = refl;
            runs = refl;
          }

          from : Begins setup b.me got after v → IsOpened games setup got after v events new
          from (AtFirst sent none same writes spelled is) =
              subst (λ (x : Option (List ℕ)). IsOpened games setup x after v events new) (sym none)
              (subst (λ (w : View). IsOpened games setup None after w events new) (sym same)
              (subst (λ (d : DraftView). KeptIfAny facts games stamp d.to_put events new → IsOpened games setup None d (running setup b.me (first_record (rules_at setup))) events new) (sym is) (first sent writes spelled) kept))
          from (Goes bytes some resumes is) =
              subst (λ (d : DraftView). KeptIfAny facts games stamp d.to_put events new → IsOpened games setup got d v events new) (sym is)
              (λ e. subst (λ (x : Option (List ℕ)). IsOpened games setup x (found_draft x) v events new) (sym some) (record {
                now = found_keeper (Some bytes);
                opening = settled_opening setup (found_keeper (Some bytes)) (found_keeper (Some bytes)) (Ok v) b.me b.good b.is (inr (inr (refl, resumes, refl)));
                puts = NothingPut refl e.0 e.1;
                left = refl;
                none = refl;
                runs = ap (λ (w : View). w.is_down) resumes.0;
              })) kept
