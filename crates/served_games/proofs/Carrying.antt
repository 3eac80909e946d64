-- An answer over a draft, as one over what the timeline says of the record.
use Rattle.std.proofs.Common.{◌≡◌, ◌⊎◌, inl, inr, ◌∙◌, ℕ, ◌<◌, Bool, true, false, cond, List, [], Option, Some, None, length, refl, sym, ap, subst, arith}
use Rattle.std.specs.Prelude.{Ok, Err}
use Rattle.arbiter_core.specs.Answering.{Answer, Puts, Refuses, Sends}
use Rattle.arbiter_core.specs.Delivers.{IsSpelled, Lands, Moment, PutsOnce, ReturnsAnswer, Told, Unchanged, downed, moment, with_record, with_window}
use Rattle.arbiter_core.specs.Recording.{Recorded, ReorderBuffer}
use Rattle.arbiter_core.specs.Views.{View, spelled_as}
use Rattle.arbiter_core.specs.declared.fault.DeliverFault.{DeliverFault}
use Rattle.arbiter_core.specs.declared.fault.DeliverFault.TheVariants.{KeeperFailed, OutOfMemory}
use Rattle.arbiter_core.specs.declared.keeper.Keep.{Keep}
use Rattle.arbiter_core.specs.declared.keeper.Keep.TheVariants.{FailsOld, Good}
use Rattle.arbiter_server.specs.ServedLines.{refused_keeper}
use Rattle.arbiter_server.specs.Serving.{line_for, outputs_of}
use Rattle.move_msg.specs.Records.{WritesRecord}
use Rattle.move_msg.specs.declared.message.Message.{Message}
use Rattle.timeline.specs.Events.{Event}
use Rattle.game_folder.specs.Drafts.{DraftView, draft_facts, settled}
use Rattle.game_folder.specs.Holdings.{GamesFacts}
use Rattle.game_server.specs.Fates.{KeepsAnswer, found_draft, is_unput}
use Rattle.served_games.specs.PlaceKeepers.{PlaceKeeper, has_failed, has_put, place_facts}
use Rattle.served_games.specs.ServedGames.{NothingPut, IsPut, PutFails, PutsBy}

pub moment_is : {K : Type 0} (m : Moment K) (v : View) (k : K) → m.arbiter ≡ v → m.keeper ≡ k → m ≡ moment v k
moment_is m v k a b = ap (λ (x : View). moment x m.keeper) a ∙ ap (λ x. moment v x) b

module _ {G : Type 0} (facts : GamesFacts G) (place : facts.Place) (stamp : List ℕ) where
  -- The same answer over what is kept. Where what was to be put wasn't kept, its put failed, and the arbiter is down.
  pub record Carried (games now : G) (v : View) (k : PlaceKeeper) (answer : Answer) (told : Told) (after : Moment DraftView) (is_kept : Bool) (events : List Event) : Type 0 where
    pub told_is : Told
    pub after_is : Moment PlaceKeeper
    pub returns : ReturnsAnswer place_facts (moment v k) answer told_is after_is
    pub puts : PutsBy facts place stamp games k after_is.keeper events now
    pub outputs : outputs_of told_is ≡ cond (is_unput after.keeper.to_put is_kept told) [] (outputs_of told)
    pub line : line_for told_is after_is.arbiter.kept ≡ cond (is_unput after.keeper.to_put is_kept told) refused_keeper (line_for told after.arbiter.kept)
    pub down : after_is.arbiter.is_down ≡ is_unput after.keeper.to_put is_kept told
    pub left : is_unput after.keeper.to_put is_kept told ≡ false → moment after.arbiter (settled after.keeper) ≡ moment after_is.arbiter (found_draft after_is.keeper.kept)
    pub none : is_unput after.keeper.to_put is_kept told ≡ false → k.unkept ≡ None → after_is.keeper.unkept ≡ None

  module _ (v : View) (k : PlaceKeeper) (runs : v.is_down ≡ false) (games now : G) where
    -- as it is put
    abbrev pub drafted : List ℕ → DraftView
    drafted bytes = record { kept = Some bytes; to_put = Some bytes }

    refused : (answer : Answer) (fault : DeliverFault) (is_kept : Bool) (events : List Event) → ReturnsAnswer place_facts (moment v k) answer (Err fault) (moment v k) → (events ≡ []) × (now ≡ games) → Carried games now v k answer (Err fault) (moment v (found_draft k.kept)) is_kept events
    refused answer fault is_kept events r e = record {
      told_is = Err fault;
      after_is = moment v k;
      returns = r;
      puts = NothingPut refl e.0 e.1;
      outputs = refl;
      line = refl;
      down = runs;
      left = λ _. refl;
      none = λ _ n. n;
    }

    sends : (answer : Answer) (outputs : List Message) (window : ReorderBuffer) (is_kept : Bool) (events : List Event) → ReturnsAnswer place_facts (moment v k) answer (Ok outputs) (moment (with_window v window) k) → (events ≡ []) × (now ≡ games) → Carried games now v k answer (Ok outputs) (moment (with_window v window) (found_draft k.kept)) is_kept events
    sends answer outputs window is_kept events r e = record {
      told_is = Ok outputs;
      after_is = moment (with_window v window) k;
      returns = r;
      puts = NothingPut refl e.0 e.1;
      outputs = refl;
      line = refl;
      down = runs;
      left = λ _. refl;
      none = λ _ n. n;
    }

    -- ---- a put

    module _ (next : Recorded) (outputs : List Message) (window : ReorderBuffer) (bytes : List ℕ) where
      is_put : (events : List Event) → ReturnsAnswer place_facts (moment v k) (Puts next outputs window) (Ok outputs) (moment (with_record v next window) (has_put k bytes)) → facts.keeps games stamp bytes true events now → Carried games now v k (Puts next outputs window) (Ok outputs) (moment (with_record v next window) (drafted bytes)) true events
      is_put events r e = record {
        told_is = Ok outputs;
        after_is = moment (with_record v next window) (has_put k bytes);
        returns = r;
        puts = IsPut bytes e refl;
        outputs = refl;
        line = refl;
        down = runs;
        left = λ _. refl;
        none = λ _ n. refl;
      }

      is_unkept : (events : List Event) → ReturnsAnswer place_facts (moment v k) (Puts next outputs window) (Err KeeperFailed) (moment (downed v) (has_failed k bytes)) → facts.keeps games stamp bytes false events now → Carried games now v k (Puts next outputs window) (Ok outputs) (moment (with_record v next window) (drafted bytes)) false events
      is_unkept events r e = record {
        told_is = Err KeeperFailed;
        after_is = moment (downed v) (has_failed k bytes);
        returns = r;
        puts = PutFails bytes e refl;
        outputs = refl;
        line = refl;
        down = refl;
        left = λ is. absurd (let f : true ≡ false = is in cc);
        none = λ is. absurd (let f : true ≡ false = is in cc);
      }

      module _ (spells : WritesRecord bytes (spelled_as v.me.stamp v.setup.delay next)) where
        good : IsSpelled v.me.stamp v.setup.delay next (Some bytes) → ReturnsAnswer place_facts (moment v k) (Puts next outputs window) (Ok outputs) (moment (with_record v next window) (has_put k bytes))
        good spelled = record {
          answered = tt;
          put = inr (record {
            keep = Good;
            stated = inl refl;
            lands = (refl, refl, spelled);
            written = inr spells;
            sent = bytes;
            spells = spells;
            once = inl refl;
            cause = λ is. absurd (let f : ◌≡◌ {A = Told} (Ok outputs) (Err KeeperFailed) = is in cc);
          });
        }

        failed : ReturnsAnswer place_facts (moment v k) (Puts next outputs window) (Err KeeperFailed) (moment (downed v) (has_failed k bytes))
        failed = record {
          answered = tt;
          put = inr (record {
            keep = FailsOld;
            stated = inr refl;
            lands = (refl, refl, refl);
            written = inl refl;
            sent = bytes;
            spells = spells;
            once = inr refl;
            cause = λ is. inl (omega arith);
          });
        }

        by_keep : (is_kept : Bool) (events : List Event) → IsSpelled v.me.stamp v.setup.delay next (Some bytes) → facts.keeps games stamp bytes is_kept events now → Carried games now v k (Puts next outputs window) (Ok outputs) (moment (with_record v next window) (drafted bytes)) is_kept events
        by_keep true events spelled e = is_put events (good spelled) e
        by_keep false events spelled e = is_unkept events failed e

    -- ---- any answer

    -- it is so of what is told, and of the moment after it
    moved : (answer : Answer) (told told' : Told) (after after' : Moment DraftView) (is_kept : Bool) (events : List Event) → told ≡ told' → after ≡ after' → (KeepsAnswer facts games stamp told' after'.keeper.to_put is_kept events now → Carried games now v k answer told' after' is_kept events) → KeepsAnswer facts games stamp told after.keeper.to_put is_kept events now → Carried games now v k answer told after is_kept events
    moved answer told told' after after' is_kept events a b h =
        subst (λ (x : Told). KeepsAnswer facts games stamp x after.keeper.to_put is_kept events now → Carried games now v k answer x after is_kept events) (sym a)
        (subst (λ (y : Moment DraftView). KeepsAnswer facts games stamp told' y.keeper.to_put is_kept events now → Carried games now v k answer told' y is_kept events) (sym b) h)

    unchanged : (answer : Answer) (told : Told) (fault : DeliverFault) (after : Moment DraftView) (is_kept : Bool) (events : List Event) → ReturnsAnswer place_facts (moment v k) answer (Err fault) (moment v k) → Unchanged v (found_draft k.kept) after.keeper after.arbiter told (Err fault) → KeepsAnswer facts games stamp told after.keeper.to_put is_kept events now → Carried games now v k answer told after is_kept events
    unchanged answer told fault after is_kept events r u =
        moved answer told (Err fault) after (moment v (found_draft k.kept)) is_kept events u.answer (moment_is after v (found_draft k.kept) u.arbiter u.keeper) (λ e. refused answer fault is_kept events r e)

    by_put : (next : Recorded) (outputs : List Message) (window : ReorderBuffer) (told : Told) (after : Moment DraftView) (is_kept : Bool) (events : List Event) → PutsOnce draft_facts v next outputs window (found_draft k.kept) after.keeper after.arbiter told → KeepsAnswer facts games stamp told after.keeper.to_put is_kept events now → Carried games now v k (Puts next outputs window) told after is_kept events
    by_put next outputs window told after is_kept events p =
        let lands : Lands Good v next outputs window k.kept after.keeper.kept after.arbiter told = subst (λ (keep : Keep). Lands keep v next outputs window k.kept after.keeper.kept after.arbiter told) p.stated p.lands in
        let kept : after.keeper ≡ drafted p.sent = let a = p.once.0 in let b = p.once.1 in ap (λ (x : Option (List ℕ)). record { kept = x; to_put = after.keeper.to_put }) a ∙ ap (λ (x : Option (List ℕ)). record { kept = Some p.sent; to_put = x }) b in
        moved (Puts next outputs window) told (Ok outputs) after (moment (with_record v next window) (drafted p.sent)) is_kept events lands.0 (moment_is after (with_record v next window) (drafted p.sent) lands.1 kept)
        (λ e. by_keep next outputs window p.sent p.spells is_kept events (subst (IsSpelled v.me.stamp v.setup.delay next) p.once.0 lands.2) e)

    pub carried : (answer : Answer) (told : Told) (after : Moment DraftView) (is_kept : Bool) (events : List Event) → ReturnsAnswer draft_facts (moment v (found_draft k.kept)) answer told after → KeepsAnswer facts games stamp told after.keeper.to_put is_kept events now → Carried games now v k answer told after is_kept events
    carried (Refuses fault) told after is_kept events r = unchanged (Refuses fault) told fault after is_kept events (record { answered = record { answer = refl; arbiter = refl; keeper = refl }; put = tt }) r.answered
    carried (Sends outputs window) told after is_kept events r = by_sends r.answered
      where
        by_sends : Unchanged (with_window v window) (found_draft k.kept) after.keeper after.arbiter told (Ok outputs) ⊎ ((4 < length outputs) × Unchanged v (found_draft k.kept) after.keeper after.arbiter told (Err OutOfMemory)) → KeepsAnswer facts games stamp told after.keeper.to_put is_kept events now → Carried games now v k (Sends outputs window) told after is_kept events
        by_sends (inl u) = moved (Sends outputs window) told (Ok outputs) after (moment (with_window v window) (found_draft k.kept)) is_kept events u.answer (moment_is after (with_window v window) (found_draft k.kept) u.arbiter u.keeper) (λ e. sends (Sends outputs window) outputs window is_kept events (record { answered = inl (record { answer = refl; arbiter = refl; keeper = refl }); put = tt }) e)
        by_sends (inr p) = unchanged (Sends outputs window) told OutOfMemory after is_kept events (record { answered = inr (p.0, record { answer = refl; arbiter = refl; keeper = refl }); put = tt }) p.1
    carried (Puts next outputs window) told after is_kept events r = by_puts r.put
      where
        by_puts : Unchanged v (found_draft k.kept) after.keeper after.arbiter told (Err OutOfMemory) ⊎ PutsOnce draft_facts v next outputs window (found_draft k.kept) after.keeper after.arbiter told → KeepsAnswer facts games stamp told after.keeper.to_put is_kept events now → Carried games now v k (Puts next outputs window) told after is_kept events
        by_puts (inl u) = unchanged (Puts next outputs window) told OutOfMemory after is_kept events (record { answered = tt; put = inl (record { answer = refl; arbiter = refl; keeper = refl }) }) u
        by_puts (inr p) = by_put next outputs window told after is_kept events p
