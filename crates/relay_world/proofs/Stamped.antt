-- Every message in the log is of the game.
use Rattle.std.proofs.Common.{◌≡◌, ℕ, ◌+◌, ◌-◌, cond, ◌||◌, List, [], ◌∷◌, ◌++◌, take, drop, Option, Some, None, Result, Ok, Err, suc, refl}
use Rattle.std.specs.Prelude.{is_some, is_none, slice_get, nat_lt, nat_le, is_ok}
use Rattle.std.specs.List.{AllByRecursion}
use Rattle.std.proofs.lemmas.Bool.{cond_both}
use Rattle.board_core.specs.declared.moves.Move.{Move as Moves}
use Rattle.board_core.specs.declared.verdict.Verdict.{Verdict as Ruling}
use Rattle.judge_core.specs.Games.{position_after_all}
use Rattle.move_msg.specs.declared.stamp.Stamp.{Stamp}
use Rattle.move_msg.specs.declared.arbiter_id.ArbiterId.{ArbiterId}
use Rattle.move_msg.specs.declared.arbiter_id.ArbiterId.TheVariants.{A, B}
use Rattle.move_msg.specs.declared.arbiter_id.Sender.{Sender}
use Rattle.move_msg.specs.declared.arbiter_id.Sender.TheVariants.{Source, Arbiter}
use Rattle.move_msg.specs.declared.message.Message.{Message}
use Rattle.move_msg.specs.declared.message.Message.TheVariants.{Move, Ack, Verdict, Fetch}
use Rattle.move_msg.specs.Messages.{stamp_in}
use Rattle.move_msg.specs.Numbers.{most_moves, most_wanted}
use Rattle.judge_core.specs.Games.{Rules}
use Rattle.arbiter_core.specs.declared.fault.DeliverFault.{DeliverFault}
use Rattle.arbiter_core.specs.declared.fault.DeliverFault.TheVariants.{IllegalMove, TooFarAhead, TooLong}
use Rattle.arbiter_core.specs.declared.keeper.Keep.{Keep}
use Rattle.arbiter_core.specs.declared.keeper.Keep.TheVariants.{Good, FailsOld, FailsNew}
use Rattle.arbiter_core.specs.Recording.{Recorded, ReorderBuffer, move_count, advance}
use Rattle.arbiter_core.specs.Answering.{Identity, waits_too, told_of, told_now, Answer, Refuses, Sends, Puts, puts, sent_by, answer_to_move, answer_to, answer_heard}
use Rattle.relay_world.specs.declared.event.Event.{Event}
use Rattle.relay_world.specs.declared.event.Event.TheVariants.{Deliver, Noise, Restart, Ask}
use Rattle.relay_world.specs.Worlds.{SideLife, Closed, Down, Running, Side, World, Judged, identity, side_in, with_side, answered, hears_at, delivered, listed, wants, happens, first_world, world_after_all}
use Rattle.arbiter_core.specs.Delivers.{heard}
use Rattle.relay_world.specs.Worlds.{AreStamped}
use Rattle.relay_world.proofs.Steps.{all_append}

abbrev pub AreOf : Stamp → List Message → Type 0
AreOf stamp = AllByRecursion (λ m. stamp_in m ≡ stamp)

pub sent_are : (stamp : Stamp) (sender : Sender) (n : ℕ) (moves : List Moves) → AreOf stamp (sent_by stamp sender n moves)
sent_are stamp sender n [] = tt
sent_are stamp sender n (m ∷ moves) = (refl, sent_are stamp sender (suc n) moves)

told_are : (me : Identity) (count : ℕ) (o : Option Ruling) → AreOf me.stamp (told_of me count o)
told_are me count None = (refl, tt)
told_are me count (Some v) = (refl, (refl, tt))

abbrev SaysOf : Stamp → Answer → Type 0
SaysOf stamp (Refuses fault) = Unit {0}
SaysOf stamp (Sends outputs window) = AreOf stamp outputs
SaysOf stamp (Puts next outputs window) = AreOf stamp outputs

move_says : (r : Rules) (me : Identity) (old : Recorded) (window : ReorderBuffer) (number : ℕ) (word : Moves) → SaysOf me.stamp (answer_to_move r me old window number word)
move_says r me old window number word =
    let Q : Answer → Type 0 = SaysOf me.stamp in
    let k : ℕ = move_count old in
    let a5 : Answer = puts me old window (advance r old.moves word window) in
    let a4 : Answer = cond (is_none (position_after_all r.start (old.moves ++ word ∷ []))) (Refuses IllegalMove) a5 in
    let a3 : Answer = cond (nat_lt k number) (Sends (Ack me.stamp me.who k ∷ []) (waits_too window (number - (k + 1)) word)) a4 in
    let a2 : Answer = cond (nat_le (k + 32) number) (Refuses TooFarAhead) a3 in
    let a1 : Answer = cond (is_some old.verdict || nat_lt number k) (Sends (told_now me old) window) a2 in
    cond_both (nat_le most_moves number) (Refuses TooLong) a1 Q (λ _. tt) (λ _.
    cond_both (is_some old.verdict || nat_lt number k) (Sends (told_now me old) window) a2 Q (λ _. told_are me k old.verdict) (λ _.
    cond_both (nat_le (k + 32) number) (Refuses TooFarAhead) a3 Q (λ _. tt) (λ _.
    cond_both (nat_lt k number) (Sends (Ack me.stamp me.who k ∷ []) (waits_too window (number - (k + 1)) word)) a4 Q (λ _. (refl, tt)) (λ _.
    cond_both (is_none (position_after_all r.start (old.moves ++ word ∷ []))) (Refuses IllegalMove) a5 Q (λ _. tt) (λ _. told_are me _ _)))))

answer_says : (r : Rules) (me : Identity) (old : Recorded) (window : ReorderBuffer) (message : Message) → SaysOf me.stamp (answer_to r me old window message)
unfolding answer_to
answer_says r me old window (Move stamp sender number m) = move_says r me old window number m
answer_says r me old window (Ack stamp who n) = tt
answer_says r me old window (Verdict stamp who ply v) = tt
answer_says r me old window (Fetch stamp who number wanted) = sent_are me.stamp (Arbiter me.who) number (take wanted (drop number old.moves))

heard_says : (r : Rules) (me : Identity) (old : Recorded) (window : ReorderBuffer) (said : Result Message DeliverFault) → SaysOf me.stamp (answer_heard r me old window said)
heard_says r me old window (Ok message) = answer_says r me old window message
heard_says r me old window (Err fault) = tt

answered_are : (stamp : Stamp) (keep : Keep) (old : Recorded) (window : ReorderBuffer) (a : Answer) → SaysOf stamp a → AreOf stamp (answered keep old window a).1
answered_are stamp keep old window (Refuses fault) q = tt
answered_are stamp keep old window (Sends outputs later) q = q
answered_are stamp Good old window (Puts next outputs later) q = q
answered_are stamp FailsOld old window (Puts next outputs later) q = tt
answered_are stamp FailsNew old window (Puts next outputs later) q = tt

heard_are : (stamp : Stamp) (keep : Keep) (kept : Option Recorded) (life : SideLife) (respond : Recorded → ReorderBuffer → Answer) → ((old : Recorded) (window : ReorderBuffer) → SaysOf stamp (respond old window)) → AreOf stamp (hears_at keep kept life respond).1
heard_are stamp keep (Some old) (Running window) respond q = answered_are stamp keep old window (respond old window) (q old window)
heard_are stamp keep (Some old) Closed respond q = tt
heard_are stamp keep (Some old) Down respond q = tt
heard_are stamp keep None life respond q = tt

turned_are : (game : Judged) (world : World) (who : ArbiterId) (late : Side × List Message) → AreStamped game world → AreOf game.stamp late.1 → AreStamped game (with_side world who late)
turned_are game world A late h q = all_append _ world.log late.1 h q
turned_are game world B late h q = all_append _ world.log late.1 h q

wants_are : (me : Identity) (kept : Option Recorded) (life : SideLife) → AreOf me.stamp (wants me kept life)
wants_are me (Some old) (Running window) = cond_both (is_some old.verdict || nat_le most_moves (move_count old)) None (Some (Fetch me.stamp me.who (move_count old) most_wanted)) (λ o. AreOf me.stamp (listed o)) (λ _. tt) (λ _. (refl, tt))
wants_are me (Some old) Closed = tt
wants_are me (Some old) Down = tt
wants_are me None life = tt

delivered_are : (game : Judged) (world : World) (who : ArbiterId) (keep : Keep) (o : Option Message) → AreStamped game world → AreStamped game (delivered game world who keep o)
delivered_are game world who keep None h = h
delivered_are game world who keep (Some m) h = turned_are game world who _ h (heard_are game.stamp keep _ _ _ (λ old window. answer_says game.rules (identity game who) old window m))

pub happens_are : (game : Judged) (world : World) (event : Event) → AreStamped game world → AreStamped game (happens game world event)
unfolding happens
happens_are game world (Deliver who index keep) h = delivered_are game world who keep (slice_get world.log index) h
happens_are game world (Noise who bytes keep) h =
    cond_both (is_ok (heard game.stamp bytes.items)) world _ (AreStamped game) (λ _. h)
    (λ _. turned_are game world who _ h (heard_are game.stamp keep _ _ _ (λ old window. heard_says game.rules (identity game who) old window (heard game.stamp bytes.items))))
happens_are game world (Ask who) h = turned_are game world who _ h (wants_are (identity game who) (side_in world who).kept (side_in world who).life)
happens_are game world (Restart who keep) h = turned_are game world who _ h tt

after_are : (game : Judged) (world : World) (events : List Event) → AreStamped game world → AreStamped game (world_after_all game world events)
after_are game world [] h = h
after_are game world (e ∷ events) h = after_are game (happens game world e) events (happens_are game world e h)

pub stamped_after : (game : Judged) (events : List Event) → AreStamped game (world_after_all game (first_world game) events)
stamped_after game events = after_are game (first_world game) events (sent_are game.stamp Source 0 game.moves)
