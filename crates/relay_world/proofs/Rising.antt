-- An arbiter that runs all the time and is brought the moves in order keeps them.
use Rattle.std.proofs.Common.{◌≡◌, ℕ, ◌+◌, ◌-◌, ◌<◌, ◌≤◌, true, false, cond, ◌||◌, List, [], ◌∷◌, ◌++◌, length, take, min, Option, Some, None, suc, sym, refl, ap, ◌∙◌, subst, arith, ⊎_elim, add-one}
use Rattle.std.specs.Prelude.{is_some, is_none, slice_get, nat_lt, nat_le}
use Rattle.std.proofs.lemmas.Bool.{cases_Bool, cases_lt, and_parts, eqb-true, cond-false, le-ltb, lt-leb, or_from}
use Rattle.std.proofs.lemmas.List.{take_more}
use Rattle.std.proofs.lemmas.Option.{get_or_from_slice_get}
use Rattle.board_core.specs.declared.moves.Move.{Move as Moves}
use Rattle.board_core.specs.declared.verdict.Verdict.{Verdict as Ruling}
use Rattle.judge_core.specs.Games.{position_after_all}
use Rattle.move_msg.specs.declared.stamp.Stamp.{Stamp}
use Rattle.move_msg.specs.declared.arbiter_id.ArbiterId.{ArbiterId}
use Rattle.move_msg.specs.declared.arbiter_id.ArbiterId.TheVariants.{A, B}
use Rattle.move_msg.specs.declared.arbiter_id.Sender.{Sender}
use Rattle.move_msg.specs.declared.message.Message.{Message}
use Rattle.move_msg.specs.declared.message.Message.TheVariants.{Move, Ack, Verdict, Fetch}
use Rattle.move_msg.specs.Numbers.{most_moves}
use Rattle.judge_core.specs.Games.{Rules, verdict_after}
use Rattle.arbiter_core.specs.declared.fault.DeliverFault.TheVariants.{IllegalMove, TooFarAhead, TooLong}
use Rattle.arbiter_core.specs.declared.keeper.Keep.{Keep}
use Rattle.arbiter_core.specs.declared.keeper.Keep.TheVariants.{Good, FailsOld, FailsNew}
use Rattle.arbiter_core.specs.Recording.{Recorded, ReorderBuffer, move_count, reaches, last_ply, advance}
use Rattle.arbiter_core.specs.Answering.{Identity, waits_too, told_now, Answer, Refuses, Sends, puts, answer_to_move, answer_to}
use Rattle.arbiter_core.proofs.Reach.{step_of, reach_below, last_reached}
use Rattle.relay_world.specs.declared.event.Event.{Event}
use Rattle.relay_world.specs.declared.event.Event.TheVariants.{Deliver, Noise, Restart, Ask}
use Rattle.relay_world.specs.Worlds.{SideLife, Closed, Down, Running, Side, World, Judged, identity, side_in, with_side, answered, hears_at, delivered, happens, first_world, world_after_all}
use Rattle.relay_world.specs.Headline.{IsRecordOf, kept_count}
use Rattle.relay_world.specs.InOrder.{is_running, is_same_arbiter, is_move_message, brings, brought, RunsThrough}
use Rattle.relay_world.proofs.Steps.{SideHolds, all_at, moved, count_at, Holds, Goes, happens_goes, side_at}
use Rattle.relay_world.proofs.Schedules.{grows_at, holds_after}

none_is_some : (o : Option Ruling) → o ≡ None → is_some o ≡ false
none_is_some o e = rw e refl

not_none : {A : Type 0} (o : Option A) → is_some o ≡ true → is_none o ≡ false
not_none (Some x) e = refl
not_none None e = cc

-- the move whose turn it is, where the game goes on
turn_of : (r : Rules) (game : List Moves) (me : Identity) (old : Recorded) (window : ReorderBuffer) (word : Moves) → IsRecordOf r game old → reaches r game (suc (move_count old)) ≡ true → length game ≤ 4096 → slice_get game (move_count old) ≡ Some word → answer_to_move r me old window (move_count old) word ≡ puts me old window (advance r old.moves word window)
turn_of r game me old window word h go short e =
    let k : ℕ = move_count old in
    let c = count_at r game old h in
    let s = step_of r game k go in
    let within : k < length game = s.within in
    let m : old.moves ≡ take k game = ap (λ (x : Recorded). x.moves) h.is ∙ ap (λ n. take n game) (sym c) in
    let v : old.verdict ≡ None = ap (λ (x : Recorded). x.verdict) h.is ∙ ap (λ n. verdict_after r (take n game)) (sym c) ∙ s.unruled in
    let one : take (suc k) game ≡ old.moves ++ word ∷ [] =
    ap (λ n. take n game) (sym (add-one k)) ∙ take_more game k word within
    ∙ ap (λ (w : Moves). take k game ++ w ∷ []) (get_or_from_slice_get game k word word e)
    ∙ ap (λ (xs : List Moves). xs ++ word ∷ []) (sym m) in
    let legal : is_none (position_after_all r.start (old.moves ++ word ∷ [])) ≡ false = subst (λ (xs : List Moves). is_none (position_after_all r.start xs) ≡ false) one (not_none _ s.legal) in
    let a5 : Answer = puts me old window (advance r old.moves word window) in
    let a4 : Answer = cond (is_none (position_after_all r.start (old.moves ++ word ∷ []))) (Refuses IllegalMove) a5 in
    let a3 : Answer = cond (nat_lt k k) (Sends (Ack me.stamp me.who k ∷ []) (waits_too window (k - (k + 1)) word)) a4 in
    let a2 : Answer = cond (nat_le (k + 32) k) (Refuses TooFarAhead) a3 in
    let a1 : Answer = cond (is_some old.verdict || nat_lt k k) (Sends (told_now me old) window) a2 in
    cond-false (nat_le most_moves k) (Refuses TooLong) a1 (lt-leb _ _ (omega arith))
    ∙ cond-false (is_some old.verdict || nat_lt k k) (Sends (told_now me old) window) a2 (or_from _ _ (none_is_some _ v) (le-ltb _ _ (omega arith)))
    ∙ cond-false (nat_le (k + 32) k) (Refuses TooFarAhead) a3 (lt-leb _ _ (omega arith))
    ∙ cond-false (nat_lt k k) (Sends (Ack me.stamp me.who k ∷ []) (waits_too window (k - (k + 1)) word)) a4 (le-ltb _ _ (omega arith))
    ∙ cond-false (is_none (position_after_all r.start (old.moves ++ word ∷ []))) (Refuses IllegalMove) a5 legal

-- a put that leaves the arbiter running has landed
put_landed : (keep : Keep) (me : Identity) (old : Recorded) (window : ReorderBuffer) (next : Recorded) → is_running (answered keep old window (puts me old window next)).0.life ≡ true → (answered keep old window (puts me old window next)).0.kept ≡ Some next
put_landed Good me old window next e = refl
put_landed FailsOld me old window next e = cc
put_landed FailsNew me old window next e = cc

-- a side that runs hears the move number n, where the lesser of n and the last ply is kept already
one_more : (r : Rules) (game : List Moves) (me : Identity) (keep : Keep) (kept : Option Recorded) (life : SideLife) (stamp : Stamp) (sender : Sender) (n : ℕ) (word : Moves) → SideHolds r game (record { kept = kept; life = life }) → slice_get game n ≡ Some word → length game ≤ 4096
    → let late = hears_at keep kept life (λ old window. answer_to r me old window (Move stamp sender n word)) in
    is_running life ≡ true → is_running late.0.life ≡ true → kept_count kept ≤ kept_count late.0.kept → min n (last_ply r game) ≤ kept_count kept → min (n + 1) (last_ply r game) ≤ kept_count late.0.kept
unfolding answer_to
one_more r game me keep None Closed stamp sender n word h e short a b g low = cc
one_more r game me keep None Down stamp sender n word h e short a b g low = cc
one_more r game me keep None (Running window) stamp sender n word h e short a b g low = absurd h.waits
one_more r game me keep (Some old) Closed stamp sender n word h e short a b g low = cc
one_more r game me keep (Some old) Down stamp sender n word h e short a b g low = cc
one_more r game me keep (Some old) (Running window) stamp sender n word h e short a b g low =
    let k : ℕ = move_count old in
    let last : ℕ = last_ply r game in
    let late : Side × List Message = answered keep old window (answer_to_move r me old window n word) in
    ⊎_elim
    (λ (lt : n < k). omega arith)
    (λ (ge : k ≤ n).
    ⊎_elim
    (λ (on : k < last).
    let at : n ≡ k = omega arith in
    let e2 : slice_get game k ≡ Some word = subst (λ j. slice_get game j ≡ Some word) at e in
    let go : reaches r game (suc k) ≡ true = reach_below r game (suc k) last (omega arith) (last_reached r game) in
    let is : answer_to_move r me old window n word ≡ puts me old window (advance r old.moves word window) = subst (λ j. answer_to_move r me old window j word ≡ puts me old window (advance r old.moves word window)) (sym at) (turn_of r game me old window word h.kept go short e2) in
    let next : Recorded = advance r old.moves word window in
    let runs : is_running (answered keep old window (puts me old window next)).0.life ≡ true = subst (λ x. is_running (answered keep old window x).0.life ≡ true) is b in
    let landed : late.0.kept ≡ Some next = ap (λ x. (answered keep old window x).0.kept) is ∙ put_landed keep me old window next runs in
    let m = moved r game old window word h.kept e2 h.waits in
    let up : k < move_count next = m.further go in
    let c : kept_count late.0.kept ≡ move_count next = ap kept_count landed in
    omega arith)
    (λ (over : last ≤ k). omega arith)
    (cases_lt k last))
    (cases_lt n k)

-- the side that a turn is of
pub turned_side : (world : World) (who : ArbiterId) (late : Side × List Message) → side_in (with_side world who late) who ≡ late.0
turned_side world A late = refl
turned_side world B late = refl

same_is : (who to : ArbiterId) → is_same_arbiter who to ≡ true → to ≡ who
same_is A A e = refl
same_is B B e = refl
same_is A B e = cc
same_is B A e = cc

move_is : (n : ℕ) (o : Option Message) → is_move_message n o ≡ true → (stamp : Stamp) × ((sender : Sender) × ((m : Moves) × (o ≡ Some (Move stamp sender n m))))
move_is n (Some (Move stamp sender number m)) e = (stamp, (sender, (m, ap (λ j. Some (Move stamp sender j m)) (eqb-true number n e))))
move_is n (Some (Ack stamp who count)) e = cc
move_is n (Some (Verdict stamp who ply v)) e = cc
move_is n (Some (Fetch stamp who number wanted)) e = cc
move_is n None e = cc

pub rises : (game : Judged) (world : World) (who : ArbiterId) (event : Event) (n : ℕ) → Holds game world → length game.moves ≤ 4096 → brings world who n event ≡ true
    → is_running (side_in world who).life ≡ true → is_running (side_in (happens game world event) who).life ≡ true
    → min n (last_ply game.rules game.moves) ≤ kept_count (side_in world who).kept → min (n + 1) (last_ply game.rules game.moves) ≤ kept_count (side_in (happens game world event) who).kept
unfolding happens
rises game world who (Deliver to index keep) n h short br a b low =
    let p = and_parts _ _ br in
    let t : to ≡ who = same_is who to p.0 in
    let m = move_is n _ p.1 in
    let step : Goes game world (happens game world (Deliver to index keep)) = happens_goes game world (Deliver to index keep) h in
    let g = grows_at game _ _ who step in
    let sound : slice_get game.moves n ≡ Some m.1.1.0 = all_at _ world.log index _ h.log m.1.1.1 in
    let late : Side × List Message = hears_at keep (side_in world who).kept (side_in world who).life (λ old window. answer_to game.rules (identity game who) old window (Move m.0 m.1.0 n m.1.1.0)) in
    let is : side_in (happens game world (Deliver to index keep)) who ≡ late.0 =
    ap (λ o. side_in (delivered game world to keep o) who) m.1.1.1
    ∙ ap (λ (w : ArbiterId). side_in (delivered game world w keep (Some (Move m.0 m.1.0 n m.1.1.0))) who) t
    ∙ turned_side world who late in
    let runs : is_running late.0.life ≡ true = subst (λ (s : Side). is_running s.life ≡ true) is b in
    let grown : kept_count (side_in world who).kept ≤ kept_count late.0.kept = subst (λ (s : Side). kept_count (side_in world who).kept ≤ kept_count s.kept) is g.count in
    subst (λ (s : Side). min (n + 1) (last_ply game.rules game.moves) ≤ kept_count s.kept) (sym is)
    (one_more game.rules game.moves (identity game who) keep _ _ m.0 m.1.0 n m.1.1.0 (side_at game world who h) sound short a runs grown low)
rises game world who (Noise to bytes keep) n h short br a b low = cc
rises game world who (Restart to keep) n h short br a b low = cc
rises game world who (Ask to) n h short br a b low = cc

starts : (game : Judged) (world : World) (who : ArbiterId) (events : List Event) → RunsThrough game world who events → is_running (side_in world who).life ≡ true
starts game world who [] h = h
starts game world who (e ∷ events) h = h.0

pub rising : (game : Judged) (world : World) (who : ArbiterId) (events : List Event) (n : ℕ) → Holds game world → length game.moves ≤ 4096 → RunsThrough game world who events → min n (last_ply game.rules game.moves) ≤ kept_count (side_in world who).kept → min (brought game world who events n) (last_ply game.rules game.moves) ≤ kept_count (side_in (world_after_all game world events) who).kept
rising game world who [] n h short runs low = low
rising game world who (event ∷ events) n h short runs low =
    let step = happens_goes game world event h in
    let grown = (grows_at game _ _ who step).count in
    let next = starts game (happens game world event) who events runs.1 in
    ⊎_elim
    (λ (yes : brings world who n event ≡ true).
    rw yes (rising game (happens game world event) who events (n + 1) step.holds short runs.1 (rises game world who event n h short yes runs.0 next low)))
    (λ (no : brings world who n event ≡ false).
    rw no (rising game (happens game world event) who events n step.holds short runs.1 (omega arith)))
    (cases_Bool (brings world who n event))

pub rising_from : (game : Judged) (early late : List Event) (who : ArbiterId) → length game.moves ≤ 4096 → RunsThrough game (world_after_all game (first_world game) early) who late → min (brought game (world_after_all game (first_world game) early) who late 0) (last_ply game.rules game.moves) ≤ kept_count (side_in (world_after_all game (world_after_all game (first_world game) early) late) who).kept
rising_from game early late who short runs = rising game _ who late 0 (holds_after game early) short runs (omega arith)
