-- An arbiter that runs and is handed the moves of the game in order keeps them all.
use Rattle.std.proofs.Common.{◌≡◌, ℕ, ◌+◌, ◌<◌, ◌≤◌, true, false, List, [], ◌∷◌, ◌++◌, length, map, min, Option, Some, None, suc, zero, sym, refl, ap, ◌∙◌, subst, arith}
use Rattle.std.specs.Prelude.{slice_get, option_map}
use Rattle.std.specs.List.{range_with_len}
use Rattle.std.proofs.lemmas.Bool.{eq-eqb, and_from}
use Rattle.board_core.specs.declared.moves.Move.{Move as Moves}
use Rattle.move_msg.specs.declared.arbiter_id.ArbiterId.{ArbiterId}
use Rattle.move_msg.specs.declared.arbiter_id.ArbiterId.TheVariants.{A, B}
use Rattle.move_msg.specs.declared.arbiter_id.Sender.TheVariants.{Source}
use Rattle.move_msg.specs.declared.message.Message.{Message}
use Rattle.move_msg.specs.declared.message.Message.TheVariants.{Move}
use Rattle.judge_core.specs.Games.{Rules}
use Rattle.arbiter_core.specs.declared.keeper.Keep.TheVariants.{Good}
use Rattle.arbiter_core.specs.Recording.{Recorded, ReorderBuffer, last_ply, move_count, record_at}
use Rattle.arbiter_core.specs.Answering.{Answer, Refuses, Sends, Puts, answer_to}
use Rattle.relay_world.specs.declared.event.Event.{Event}
use Rattle.relay_world.specs.declared.event.Event.TheVariants.{Deliver}
use Rattle.relay_world.specs.Worlds.{SideLife, Closed, Down, Running, Side, World, Judged, identity, side_in, answered, hears_at, hears, delivered, happens, first_world, world_after_all}
use Rattle.relay_world.specs.Headline.{kept_count}
use Rattle.relay_world.specs.InOrder.{is_running, is_same_arbiter, brings, all_in_order}
use Rattle.relay_world.specs.Laws.{KeepsAfter, world_after}
use Rattle.arbiter_core.proofs.Reach.{reach_within, last_reached}
use Rattle.relay_world.proofs.Steps.{Holds, SideHolds, Goes, happens_goes, run_goes, first_holds, side_at}
use Rattle.relay_world.proofs.Schedules.{after_append}
use Rattle.relay_world.proofs.Rising.{rises, turned_side}
use Rattle.relay_world.proofs.Whole.{at_last, kept_is}
use Rattle.relay_world.proofs.Sending.{is_sent}

-- ---- the log has the game's moves

-- the game's moves stand in the log, each at its number
abbrev AreThere : Judged → World → Type 0
AreThere game world = (i : ℕ) (m : Moves) → slice_get game.moves i ≡ Some m → slice_get world.log i ≡ Some (Move game.stamp Source i m)

there_first : (game : Judged) → AreThere game (first_world game)
there_first game i m e = is_sent game.stamp game.moves i ∙ ap (option_map (Move game.stamp Source i)) e

there_later : (game : Judged) (early late : World) → Goes game early late → AreThere game early → AreThere game late
there_later game early late g h i m e = g.log i (Move game.stamp Source i m) (h i m e)

-- ---- a put that succeeds leaves an arbiter running

runs_answered : (old : Recorded) (window : ReorderBuffer) (a : Answer) → is_running (answered Good old window a).0.life ≡ true
runs_answered old window (Refuses fault) = refl
runs_answered old window (Sends outputs later) = refl
runs_answered old window (Puts next outputs later) = refl

runs_heard : (kept : Option Recorded) (life : SideLife) (respond : Recorded → ReorderBuffer → Answer) → is_running life ≡ true → is_running (hears_at Good kept life respond).0.life ≡ true
runs_heard None life respond h = h
runs_heard (Some old) Closed respond h = cc
runs_heard (Some old) Down respond h = cc
runs_heard (Some old) (Running window) respond h = runs_answered old window (respond old window)

runs_on : (game : Judged) (world : World) (who : ArbiterId) (o : Option Message) → is_running (side_in world who).life ≡ true → is_running (side_in (delivered game world who Good o) who).life ≡ true
runs_on game world who None h = h
runs_on game world who (Some m) h =
    let respond = λ (old : Recorded) (window : ReorderBuffer). answer_to game.rules (identity game who) old window m in
    subst (λ (s : Side). is_running s.life ≡ true) (sym (turned_side world who (hears Good (side_in world who) respond)))
    (runs_heard (side_in world who).kept (side_in world who).life respond h)

pub runs_still : (game : Judged) (world : World) (who : ArbiterId) (i : ℕ) → is_running (side_in world who).life ≡ true → is_running (side_in (happens game world (Deliver who i Good)) who).life ≡ true
unfolding happens
runs_still game world who i h = runs_on game world who (slice_get world.log i) h

-- ---- one move after the other

same_who : (who : ArbiterId) → is_same_arbiter who who ≡ true
same_who A = refl
same_who B = refl

brought_by : (game : Judged) (world : World) (who : ArbiterId) (i : ℕ) (m : Moves) → slice_get world.log i ≡ Some (Move game.stamp Source i m) → brings world who i (Deliver who i Good) ≡ true
brought_by game world who i m e = and_from _ _ (same_who who) (rw e (eq-eqb i i refl))

abbrev from_to : ArbiterId → ℕ → ℕ → List Event
from_to who k n = map (λ i. Deliver who i Good) (range_with_len k n)

record Handed (game : Judged) (world : World) (who : ArbiterId) (n : ℕ) : Type 0 where
  holds : Holds game world
  there : AreThere game world
  runs : is_running (side_in world who).life ≡ true
  low : min n (last_ply game.rules game.moves) ≤ kept_count (side_in world who).kept

hands_one : (game : Judged) (world : World) (who : ArbiterId) (k : ℕ) → length game.moves ≤ 4096 → k < length game.moves → Handed game world who k → Handed game (happens game world (Deliver who k Good)) who (k + 1)
hands_one game world who k short within h =
    let event : Event = Deliver who k Good in
    let m = move_at game.moves k within in
    let go = happens_goes game world event h.holds in
    let on = runs_still game world who k h.runs in
    record {
      holds = go.holds;
      there = there_later game world (happens game world event) go h.there;
      runs = on;
      low = rises game world who event k h.holds short (brought_by game world who k m.0 (h.there k m.0 m.1)) h.runs on h.low;
    }
  where
    move_at : (moves : List Moves) (k : ℕ) → k < length moves → (m : Moves) × (slice_get moves k ≡ Some m)
    move_at [] k l = absurd (omega arith)
    move_at (m ∷ moves) zero l = (m, refl)
    move_at (m ∷ moves) (suc k) l = move_at moves k (omega arith)

hands : (game : Judged) (world : World) (who : ArbiterId) (k n : ℕ) → length game.moves ≤ 4096 → k + n ≤ length game.moves → Handed game world who k → Handed game (world_after_all game world (from_to who k n)) who (k + n)
hands game world who k zero short within h = subst (Handed game world who) (omega arith) h
hands game world who k (suc n) short within h =
    let one = hands_one game world who k short (omega arith) h in
    subst (Handed game (world_after_all game (happens game world (Deliver who k Good)) (from_to who (k + 1) n)) who) (omega arith)
    (hands game (happens game world (Deliver who k Good)) who (k + 1) n short (omega arith) one)

-- after all of them
all_handed : (game : Judged) (early : List Event) (who : ArbiterId) → length game.moves ≤ 4096 → is_running (side_in (world_after game early) who).life ≡ true → Handed game (world_after game (early ++ all_in_order who game)) who (length game.moves)
all_handed game early who short runs =
    let world : World = world_after game early in
    let g = run_goes game (first_world game) early (first_holds game) in
    let begun : Handed game world who 0 = record {
      holds = g.holds;
      there = there_later game (first_world game) world g (there_first game);
      runs = runs;
      low = omega arith;
    } in
    subst (λ (w : World). Handed game w who (length game.moves)) (sym (after_append game (first_world game) early (all_in_order who game)))
    (subst (Handed game (world_after_all game world (all_in_order who game)) who) (from_none (length game.moves)) (hands game world who 0 (length game.moves) short (omega arith) begun))
  where
    from_none : (n : ℕ) → 0 + n ≡ n
    from_none n = omega arith

-- one that runs keeps something
runs_over : (r : Rules) (game : List Moves) (kept : Option Recorded) (life : SideLife) → SideHolds r game (record { kept = kept; life = life }) → is_running life ≡ true → (one : Recorded) × (kept ≡ Some one)
runs_over r game (Some one) life h e = (one, refl)
runs_over r game None Closed h e = cc
runs_over r game None Down h e = cc
runs_over r game None (Running window) h e = absurd h.waits

pub keeps_all : (game : Judged) (early : List Event) (who : ArbiterId) → length game.moves ≤ 4096 → is_running (side_in (world_after game early) who).life ≡ true → KeepsAfter game (early ++ all_in_order who game) who (record_at game.rules game.moves (last_ply game.rules game.moves))
keeps_all game early who short runs =
    let late : List Event = early ++ all_in_order who game in
    let h = all_handed game early who short runs in
    let side : Side = side_in (world_after game late) who in
    let k = runs_over game.rules game.moves side.kept side.life (side_at game (world_after game late) who h.holds) h.runs in
    let last : ℕ = last_ply game.rules game.moves in
    let within = reach_within game.rules game.moves last (last_reached game.rules game.moves) in
    let low = h.low in
    let c : kept_count side.kept ≡ move_count k.0 = ap kept_count k.1 in
    let far : last ≤ move_count k.0 = omega arith in
    k.1 ∙ ap Some (at_last game.rules game.moves k.0 (kept_is game late who k.0 k.1) far)

-- ---- the other one is left alone

delivered_other : (game : Judged) (world : World) (to who : ArbiterId) (o : Option Message) → is_same_arbiter to who ≡ false → side_in (delivered game world to Good o) who ≡ side_in world who
delivered_other game world to who None n = refl
delivered_other game world A A (Some m) n = cc
delivered_other game world B B (Some m) n = cc
delivered_other game world A B (Some m) n = refl
delivered_other game world B A (Some m) n = refl

handed_other : (game : Judged) (world : World) (to who : ArbiterId) (i : ℕ) → is_same_arbiter to who ≡ false → side_in (happens game world (Deliver to i Good)) who ≡ side_in world who
unfolding happens
handed_other game world to who i n = delivered_other game world to who (slice_get world.log i) n

all_other : (game : Judged) (world : World) (to who : ArbiterId) (k n : ℕ) → is_same_arbiter to who ≡ false → side_in (world_after_all game world (from_to to k n)) who ≡ side_in world who
all_other game world to who k zero d = refl
all_other game world to who k (suc n) d = all_other game (happens game world (Deliver to k Good)) to who (k + 1) n d ∙ handed_other game world to who k d

order_other : (game : Judged) (early : List Event) (to who : ArbiterId) → is_same_arbiter to who ≡ false → side_in (world_after game (early ++ all_in_order to game)) who ≡ side_in (world_after game early) who
order_other game early to who d =
    ap (λ (w : World). side_in w who) (after_append game (first_world game) early (all_in_order to game))
    ∙ all_other game (world_after game early) to who 0 (length game.moves) d

pub keeps_one : (game : Judged) (early : List Event) → length game.moves ≤ 4096 → is_running (world_after game early).a.life ≡ true → is_running (world_after game early).b.life ≡ true → (world_after game (early ++ all_in_order A game ++ all_in_order B game)).a.kept ≡ (world_after game (early ++ all_in_order A game ++ all_in_order B game)).b.kept
keeps_one game early short a b =
    let mid : List Event = early ++ all_in_order A game in
    let runs : is_running (world_after game mid).b.life ≡ true = subst (λ (s : Side). is_running s.life ≡ true) (sym (order_other game early A B refl)) b in
    let at_b : (world_after game (mid ++ all_in_order B game)).b.kept ≡ Some (record_at game.rules game.moves (last_ply game.rules game.moves)) = keeps_all game mid B short runs in
    let at_mid : (world_after game mid).a.kept ≡ Some (record_at game.rules game.moves (last_ply game.rules game.moves)) = keeps_all game early A short a in
    let at_a : (world_after game (mid ++ all_in_order B game)).a.kept ≡ (world_after game mid).a.kept = ap (λ (s : Side). s.kept) (order_other game mid B A refl) in
    at_a ∙ at_mid ∙ sym at_b
