-- What both keep is true to the game, in plain words.
use Rattle.std.proofs.Common.{◌≡◌, ◌≤◌, ◌+◌, ℕ, zero, suc, true, is_some, List, [], ◌∷◌, ◌++◌, length, take, get_or, Option, Some, None, sym, refl, ap, ◌∙◌, subst, arith}
use Rattle.std.specs.Prelude.{IfSome, slice_get, option_and_then}
use Rattle.std.proofs.lemmas.List.{take_more}
use Rattle.board_core.specs.ComputedMoves.{position_after}
use Rattle.judge_core.proofs.Plies.{goes_on}
use Rattle.board_core.specs.declared.moves.Move.{Move as Moves}
use Rattle.board_core.specs.declared.verdict.Verdict.{Verdict as Ruling}
use Rattle.judge_core.specs.Games.{Rules, IsFirst, IsUnruled, position_after_all}
use Rattle.arbiter_core.specs.Recording.{Recorded, reaches, move_count}
use Rattle.arbiter_core.proofs.Reach.{step_to, reach_within, unruled_below}
use Rattle.relay_world.specs.declared.event.Event.{Event}
use Rattle.relay_world.specs.Worlds.{Judged, World, happens, world_after_all, worlds, first_world}
use Rattle.relay_world.specs.Headline.{IsFrontOf, IsFaithful, IsRecordOf, IsOneVerdict, Agree, IsRight}
use Rattle.relay_world.specs.Runs.{AreWorlds}
use Rattle.relay_world.proofs.Steps.{start_legal, all_at}
use Rattle.relay_world.proofs.Schedules.{first_is_right}

pub front_of : (r : Rules) (game : List Moves) (kept : Recorded) → IsRecordOf r game kept → IsFrontOf r game kept
front_of r game kept h = record {
  ply = h.ply;
  within = reach_within r game h.ply h.reached;
  moves = ap (λ (k : Recorded). k.moves) h.is;
  legal = start_legal r game h.ply h.reached;
  unruled = λ j l. unruled_below r game j h.ply l h.reached;
  verdict = λ v. (to v, from v);
}
  where
    to : (v : Ruling) → kept.verdict ≡ Some v → IsFirst r game h.ply v
    to v e = record {
      within = reach_within r game h.ply h.reached;
      legal = start_legal r game h.ply h.reached;
      ruled = sym (ap (λ (k : Recorded). k.verdict) h.is) ∙ e;
      unruled = λ j l. unruled_below r game j h.ply l h.reached;
    }

    from : (v : Ruling) → IsFirst r game h.ply v → kept.verdict ≡ Some v
    from v f = ap (λ (k : Recorded). k.verdict) h.is ∙ f.ruled

if_front : (r : Rules) (game : List Moves) (o : Option Recorded) → IfSome o (IsRecordOf r game) → IfSome o (IsFrontOf r game)
if_front r game None h = tt
if_front r game (Some kept) h = front_of r game kept h

agree_at : (r : Rules) (game : List Moves) (x y : Option Recorded) → IfSome x (λ one. IfSome y (Agree r game one)) → (one other : Recorded) (v w : Ruling) → x ≡ Some one → y ≡ Some other → one.verdict ≡ Some v → other.verdict ≡ Some w → (move_count one ≡ move_count other) × (v ≡ w)
agree_at r game None y h one other v w e f p q = absurd cc
agree_at r game (Some x) None h one other v w e f p q = absurd cc
agree_at r game (Some x) (Some y) h one other v w e f p q =
    let a : x ≡ one = cc in
    let b : y ≡ other = cc in
    let z : IsOneVerdict r game x y v w = h v w (ap (λ (k : Recorded). k.verdict) a ∙ p) (ap (λ (k : Recorded). k.verdict) b ∙ q) in
    (ap move_count (sym a) ∙ z.ply ∙ ap move_count b, z.verdict)

pub faithful_of : (game : Judged) (world : World) → IsRight game world → IsFaithful game world
faithful_of game world h = record {
  a = if_front game.rules game.moves world.a.kept h.a;
  b = if_front game.rules game.moves world.b.kept h.b;
  agree = agree_at game.rules game.moves world.a.kept world.b.kept h.agree;
}

-- ---- the worlds of a schedule as a list

many_of : (game : Judged) (world : World) (events : List Event) → length (worlds game world events) ≡ length events + 1
many_of game world [] = refl
many_of game world (e ∷ events) = let h = many_of game (happens game world e) events in omega arith

first_of : (game : Judged) (world : World) (events : List Event) → slice_get (worlds game world events) 0 ≡ Some world
first_of game world [] = refl
first_of game world (e ∷ events) = refl

each_of : (game : Judged) (world : World) (events : List Event) (i : ℕ) (event : Event) (old new : World) → slice_get events i ≡ Some event → slice_get (worlds game world events) i ≡ Some old → slice_get (worlds game world events) (suc i) ≡ Some new → new ≡ happens game old event
each_of game world [] i event old new p q r = absurd cc
each_of game world (e ∷ events) zero event old new p q r =
    let a : e ≡ event = cc in
    let b : world ≡ old = cc in
    let c : happens game world e ≡ new = some_one _ _ (sym (first_of game (happens game world e) events) ∙ r) in
    sym c ∙ ap (happens game world) a ∙ ap (λ (w : World). happens game w event) b
  where
    some_one : (x y : World) → Some x ≡ Some y → x ≡ y
    some_one x y e = cc
each_of game world (e ∷ events) (suc i) event old new p q r = each_of game (happens game world e) events i event old new p q r

-- the world at a place is the one after so many events
pub at_of : (game : Judged) (world : World) (early late : List Event) → slice_get (worlds game world (early ++ late)) (length early) ≡ Some (world_after_all game world early)
at_of game world [] late = first_of game world late
at_of game world (e ∷ early) late = at_of game (happens game world e) early late

pub last_of : (game : Judged) (world : World) (events : List Event) → slice_get (worlds game world events) (length events) ≡ Some (world_after_all game world events)
last_of game world [] = refl
last_of game world (e ∷ events) = last_of game (happens game world e) events

pub are_worlds : (game : Judged) (events : List Event) → AreWorlds game events (worlds game (first_world game) events)
are_worlds game events = record {
  many = many_of game (first_world game) events;
  first = first_of game (first_world game) events;
  each = λ i event old new p q r. each_of game (first_world game) events i event old new p (subst (λ n. slice_get (worlds game (first_world game) events) n ≡ Some old) refl q) (subst (λ n. slice_get (worlds game (first_world game) events) n ≡ Some new) (add_one i) r);
}
  where
    add_one : (i : ℕ) → i + 1 ≡ suc i
    add_one i = omega arith

pub faithful_at : (game : Judged) (events : List Event) (i : ℕ) (world : World) → slice_get (worlds game (first_world game) events) i ≡ Some world → IsFaithful game world
faithful_at game events i world e = faithful_of game world (all_at (IsRight game) (worlds game (first_world game) events) i world (first_is_right game events) e)

-- the first world, the steps and the number of events leave one list
one_from : (game : Judged) (world : World) (events : List Event) (ws : List World) → length ws ≡ length events + 1 → slice_get ws 0 ≡ Some world → ((i : ℕ) (event : Event) (old new : World) → slice_get events i ≡ Some event → slice_get ws i ≡ Some old → slice_get ws (suc i) ≡ Some new → new ≡ happens game old event) → ws ≡ worlds game world events
one_from game world events [] l f each = absurd cc
one_from game world [] (x ∷ []) l f each = ap (λ (w : World). w ∷ []) cc
one_from game world [] (x ∷ y ∷ ws) l f each = absurd (omega arith)
one_from game world (e ∷ events) (x ∷ []) l f each = absurd (omega arith)
one_from game world (e ∷ events) (x ∷ y ∷ ws) l f each =
    let a : x ≡ world = cc in
    let b : y ≡ happens game world e = each 0 e x y refl refl refl ∙ ap (λ (w : World). happens game w e) a in
    let rest : y ∷ ws ≡ worlds game (happens game world e) events =
    one_from game (happens game world e) events (y ∷ ws) (omega arith) (ap Some b) (λ i event old new. each (suc i) event old new) in
    ap (λ (w : World). w ∷ y ∷ ws) a ∙ ap (λ (v : List World). world ∷ v) rest

pub one_list : (game : Judged) (events : List Event) (ws : List World) → AreWorlds game events ws → ws ≡ worlds game (first_world game) events
one_list game events ws h = one_from game (first_world game) events ws h.many h.first (λ i event old new p q r. h.each i event old new p q (subst (λ n. slice_get ws n ≡ Some new) (add_one i) r))
  where
    add_one : (i : ℕ) → suc i ≡ i + 1
    add_one i = omega arith

-- ---- what it means that a ply is reached

pub reached_from : (r : Rules) (game : List Moves) (k : ℕ) → k ≤ length game → is_some (position_after_all r.start (take k game)) ≡ true → IsUnruled r game k → reaches r game k ≡ true
reached_from r game zero w l u = refl
reached_from r game (suc k) w l u =
    step_to r game k (record {
      before = reached_from r game k (omega arith) (shorter r game k w (get_at game k w) l) (λ j lt. u j (omega arith));
      unruled = u k (omega arith);
      within = omega arith;
      legal = l;
    })
  where
    get_at : (game : List Moves) (k : ℕ) → suc k ≤ length game → Moves
    get_at [] k w = absurd (omega arith)
    get_at (m ∷ game) k w = m

    came : {A B : Type 0} (f : A → Option B) (o : Option A) → is_some (option_and_then f o) ≡ true → is_some o ≡ true
    came f (Some x) h = refl
    came f None h = cc

    shorter : (r : Rules) (game : List Moves) (k : ℕ) → suc k ≤ length game → Moves → is_some (position_after_all r.start (take (suc k) game)) ≡ true → is_some (position_after_all r.start (take k game)) ≡ true
    shorter r game k w any l =
        let more : take (suc k) game ≡ take k game ++ get_or game k any ∷ [] = ap (λ n. take n game) {x = suc k} {y = k + 1} (omega arith) ∙ take_more game k any w in
        came (λ p. position_after p (get_or game k any)) (position_after_all r.start (take k game))
        (subst (λ o. is_some o ≡ true) (ap (position_after_all r.start) more ∙ goes_on r.start (take k game) (get_or game k any)) l)
