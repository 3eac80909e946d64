-- Each event keeps the invariant of a world.
use Rattle.std.proofs.Common.{◌≡◌, ℕ, ◌+◌, ◌-◌, ◌<◌, ◌≤◌, true, false, cond, ◌||◌, length-append, List, [], ◌∷◌, ◌++◌, length, take, drop, Option, Some, None, zero, suc, sym, refl, ap, ◌∙◌, subst, arith, ⊎_elim, append_assoc, take-append-drop}
use Rattle.std.specs.Prelude.{is_some, is_none, slice_get, nat_lt, nat_le, IfSome, IsSome, Result, Ok, Err, is_ok}
use Rattle.std.specs.List.{AllByRecursion}
use Rattle.std.specs.Option.{some_prefix}
use Rattle.std.proofs.lemmas.Bool.{cases_lt, ltb-true, ltb-false, or_parts, cond_both}
use Rattle.std.proofs.lemmas.List.{length-take-le, append-nil}
use Rattle.board_core.specs.declared.moves.Move.{Move as Moves}
use Rattle.board_core.specs.declared.verdict.Verdict.{Verdict as Ruling}
use Rattle.judge_core.specs.Games.{position_after_all}
use Rattle.move_msg.specs.declared.stamp.Stamp.{Stamp}
use Rattle.move_msg.specs.declared.arbiter_id.ArbiterId.{ArbiterId}
use Rattle.move_msg.specs.declared.arbiter_id.ArbiterId.TheVariants.{A, B}
use Rattle.move_msg.specs.declared.arbiter_id.Sender.{Sender}
use Rattle.move_msg.specs.declared.arbiter_id.Sender.TheVariants.{Source, Arbiter}
use Rattle.move_msg.specs.declared.message.Message.{Message}
use Rattle.move_msg.specs.declared.message.Message.TheVariants.{Move, Ack, Verdict, Fetch}
use Rattle.move_msg.specs.Numbers.{most_moves, most_wanted}
use Rattle.judge_core.specs.Games.{Rules, IsFirst, verdict_after}
use Rattle.arbiter_core.specs.declared.fault.DeliverFault.{DeliverFault}
use Rattle.arbiter_core.specs.declared.fault.DeliverFault.TheVariants.{IllegalMove, TooFarAhead, TooLong}
use Rattle.arbiter_core.specs.declared.keeper.Keep.{Keep}
use Rattle.arbiter_core.specs.declared.keeper.Keep.TheVariants.{Good, FailsOld, FailsNew}
use Rattle.arbiter_core.specs.Recording.{Recorded, ReorderBuffer, move_count, reaches, record_at, last_ply, advance}
use Rattle.arbiter_core.specs.Answering.{Identity, waits_too, still_waits, nothing_waits, told_of, told_now, Answer, Refuses, Sends, Puts, puts, fetched, sent_by, answer_to_move, answer_to, answer_heard}
use Rattle.arbiter_core.proofs.Reach.{step_of, reach_within, unruled_below, reach_front, reach_more, same_record, last_reached, last_bound}
use Rattle.arbiter_core.proofs.Waiting.{Fits, drop_at, gapless, fits_too, fits_still, fits_nothing}
use Rattle.arbiter_core.specs.Delivers.{heard}
use Rattle.relay_world.specs.declared.event.Event.{Event}
use Rattle.relay_world.specs.declared.event.Event.TheVariants.{Deliver, Noise, Restart, Ask}
use Rattle.relay_world.specs.Worlds.{SideLife, Closed, Down, Running, Side, World, Judged, identity, side_in, with_side, answered, hears_at, restarted, delivered, listed, wants, happens, first_world, world_after_all}
use Rattle.relay_world.specs.Headline.{IsRecordOf, Agree, IsRight, kept_count}

-- what waits at a running arbiter is the game's
abbrev pub WaitsHold : List Moves → Option Recorded → SideLife → Type 0
WaitsHold game (Some old) (Running window) = Fits window game (move_count old + 1)
WaitsHold game (Some old) Closed = Unit {0}
WaitsHold game (Some old) Down = Unit {0}
WaitsHold game None Closed = Unit {0}
WaitsHold game None Down = Unit {0}
WaitsHold game None (Running window) = ⊥

pub record SideHolds (r : Rules) (game : List Moves) (side : Side) : Type 0 where
  pub kept : IfSome side.kept (IsRecordOf r game)
  pub waits : WaitsHold game side.kept side.life

-- what one side says: moves of the game, its own counts, and the first verdict
abbrev pub Says : Rules → List Moves → Identity → ℕ → Message → Type 0
Says r game me count (Move stamp sender number m) = slice_get game number ≡ Some m
Says r game me count (Ack stamp who n) = (who ≡ me.who) × (n ≤ count)
Says r game me count (Verdict stamp who ply v) = IsFirst r game ply v
Says r game me count (Fetch stamp who number wanted) = Unit {0}

-- what holds of a message in the log, where a and b are the kept counts
abbrev pub count_by : ArbiterId → ℕ → ℕ → ℕ
count_by A a b = a
count_by B a b = b

abbrev pub IsSound : Rules → List Moves → ℕ → ℕ → Message → Type 0
IsSound r game a b (Move stamp sender number m) = slice_get game number ≡ Some m
IsSound r game a b (Ack stamp who n) = n ≤ count_by who a b
IsSound r game a b (Verdict stamp who ply v) = IsFirst r game ply v
IsSound r game a b (Fetch stamp who number wanted) = Unit {0}

pub all_append : {X : Type 0} (Q : X → Type 0) (xs ys : List X) → AllByRecursion Q xs → AllByRecursion Q ys → AllByRecursion Q (xs ++ ys)
all_append Q [] ys f g = g
all_append Q (x ∷ xs) ys f g = (f.0, all_append Q xs ys f.1 g)

pub all_weaker : {X : Type 0} (Q R : X → Type 0) (xs : List X) → ((x : X) → Q x → R x) → AllByRecursion Q xs → AllByRecursion R xs
all_weaker Q R [] f h = tt
all_weaker Q R (x ∷ xs) f h = (f x h.0, all_weaker Q R xs f h.1)

pub all_at : {X : Type 0} (Q : X → Type 0) (xs : List X) (i : ℕ) (x : X) → AllByRecursion Q xs → slice_get xs i ≡ Some x → Q x
all_at Q [] i x h e = cc
all_at Q (y ∷ ys) zero x h e = let s : y ≡ x = cc in subst Q s h.0
all_at Q (y ∷ ys) (suc i) x h e = all_at Q ys i x h.1 e

-- from one moment to a later one no kept count falls, and a kept verdict stays with its record
pub record Grows (early late : Option Recorded) : Type 0 where
  pub count : kept_count early ≤ kept_count late
  pub verdict : (kept : Recorded) (v : Ruling) → early ≡ Some kept → kept.verdict ≡ Some v → late ≡ Some kept

-- what one turn of a side leaves
pub record Turn (r : Rules) (game : List Moves) (me : Identity) (early : Option Recorded) (late : Side × List Message) : Type 0 where
  pub side : SideHolds r game late.0
  pub grows : Grows early late.0.kept
  pub says : AllByRecursion (Says r game me (kept_count late.0.kept)) late.1

pub grows_not : (kept : Option Recorded) → Grows kept kept
grows_not kept = record { count = omega arith; verdict = λ k v e _. e }

pub count_at : (r : Rules) (game : List Moves) (kept : Recorded) → (h : IsRecordOf r game kept) → move_count kept ≡ h.ply
count_at r game kept h = ap (λ (k : Recorded). length k.moves) h.is ∙ length-take-le h.ply game (reach_within r game h.ply h.reached)

pub start_legal : (r : Rules) (game : List Moves) (k : ℕ) → reaches r game k ≡ true → IsSome (position_after_all r.start (take k game))
unfolding position_after_all
start_legal r game zero h = refl
start_legal r game (suc k) h = (step_of r game k h).legal

pub first_from : (r : Rules) (game : List Moves) (kept : Recorded) (v : Ruling) → IsRecordOf r game kept → kept.verdict ≡ Some v → IsFirst r game (move_count kept) v
first_from r game kept v h e =
    let c = count_at r game kept h in
    let f : IsFirst r game h.ply v = record {
      within = reach_within r game h.ply h.reached;
      legal = start_legal r game h.ply h.reached;
      ruled = sym (ap (λ (k : Recorded). k.verdict) h.is) ∙ e;
      unruled = λ j l. unruled_below r game j h.ply l h.reached;
    } in
    subst (λ n. IsFirst r game n v) (sym c) f

-- there is one first verdict at most
pub one_first : (r : Rules) (game : List Moves) (j k : ℕ) (v w : Ruling) → IsFirst r game j v → IsFirst r game k w → (j ≡ k) × (v ≡ w)
one_first r game j k v w f g =
    let e : j ≡ k =
    ⊎_elim (λ (lt : j < k). let a = f.ruled in let b = g.unruled j lt in cc)
    (λ (ge : k ≤ j). ⊎_elim (λ (lt : k < j). let a = g.ruled in let b = f.unruled k lt in cc) (λ (le : j ≤ k). omega arith) (cases_lt k j)) (cases_lt j k) in
    let a = f.ruled in let b = subst (λ n. verdict_after r (take n game) ≡ Some w) (sym e) g.ruled in
    (e, cc)

told_says : (r : Rules) (game : List Moves) (me : Identity) (kept : Recorded) → IsRecordOf r game kept → (o : Option Ruling) → kept.verdict ≡ o → AllByRecursion (Says r game me (move_count kept)) (told_of me (move_count kept) o)
told_says r game me kept h None e = ((refl, omega arith), tt)
told_says r game me kept h (Some v) e = ((refl, omega arith), (first_from r game kept v h e, tt))

-- the game's moves from a place on, as messages of any sender
moves_all : (Q : Message → Type 0) (game : List Moves) (stamp : Stamp) (sender : Sender) (n : ℕ) (front rest tail : List Moves) → ((k : ℕ) (w : Moves) → slice_get game k ≡ Some w → Q (Move stamp sender k w)) → n ≡ length front → game ≡ front ++ (rest ++ tail) → AllByRecursion Q (sent_by stamp sender n rest)
moves_all Q game stamp sender n front [] tail q l e = tt
moves_all Q game stamp sender n front (m ∷ rest) tail q l e =
    (q n m (rw (e, l) (get_seam front m (rest ++ tail))), moves_all Q game stamp sender (suc n) (front ++ m ∷ []) rest tail q (simp (length-append, l) (omega arith)) (e ∙ sym (append_assoc front (m ∷ []) (rest ++ tail))))
  where
    get_seam : (front : List Moves) (m : Moves) (rest : List Moves) → slice_get (front ++ m ∷ rest) (length front) ≡ Some m
    get_seam [] m rest = refl
    get_seam (x ∷ xs) m rest = get_seam xs m rest

drop_past : (xs : List Moves) (n : ℕ) → length xs ≤ n → drop n xs ≡ []
drop_past [] zero h = refl
drop_past [] (suc n) h = refl
drop_past (x ∷ xs) zero h = absurd (omega arith)
drop_past (x ∷ xs) (suc n) h = drop_past xs n (omega arith)

-- what a Fetch is answered with are moves of the game
fetched_says : (r : Rules) (game : List Moves) (me : Identity) (count n wanted : ℕ) (old : Recorded) → IsRecordOf r game old → AllByRecursion (Says r game me count) (fetched me old n wanted)
fetched_says r game me count n wanted old h =
    let c = count_at r game old h in
    let m : old.moves ≡ take (move_count old) game = ap (λ (k : Recorded). k.moves) h.is ∙ ap (λ j. take j game) (sym c) in
    let whole : old.moves ++ drop (move_count old) game ≡ game = ap (λ (xs : List Moves). xs ++ drop (move_count old) game) m ∙ take-append-drop (move_count old) game in
    ⊎_elim
    (λ (lt : n < move_count old).
    let rest : List Moves = take wanted (drop n old.moves) in
    let more : List Moves = drop wanted (drop n old.moves) in
    let parts : old.moves ≡ take n old.moves ++ (rest ++ more) = sym (take-append-drop n old.moves) ∙ ap (λ (xs : List Moves). take n old.moves ++ xs) (sym (take-append-drop wanted (drop n old.moves))) in
    let all : game ≡ take n old.moves ++ (rest ++ (more ++ drop (move_count old) game)) =
    sym whole ∙ ap (λ (xs : List Moves). xs ++ drop (move_count old) game) parts ∙ append_assoc (take n old.moves) (rest ++ more) (drop (move_count old) game)
    ∙ ap (λ (xs : List Moves). take n old.moves ++ xs) (append_assoc rest more (drop (move_count old) game)) in
    moves_all (Says r game me count) game me.stamp (Arbiter me.who) n (take n old.moves) rest (more ++ drop (move_count old) game) (λ k w e. e) (sym (length-take-le n old.moves (omega arith))) all)
    (λ (ge : move_count old ≤ n).
    let none : take wanted (drop n old.moves) ≡ [] = ap (take wanted) (drop_past old.moves n ge) ∙ take_none wanted in
    rw none tt)
    (cases_lt n (move_count old))
  where
    take_none : (k : ℕ) → take {A = Moves} k [] ≡ []
    take_none zero = refl
    take_none (suc k) = refl

-- the record after a move of the game and what waits behind it is the game's again
pub record Moved (r : Rules) (game : List Moves) (old : Recorded) (window : ReorderBuffer) (next : Recorded) : Type 0 where
  pub next_is : IsRecordOf r game next
  pub more : move_count old ≤ move_count next
  pub further : reaches r game (suc (move_count old)) ≡ true → move_count old < move_count next
  pub waits : Fits (cond (is_some next.verdict) nothing_waits (still_waits window (move_count next - move_count old))) game (move_count next + 1)

pub moved : (r : Rules) (game : List Moves) (old : Recorded) (window : ReorderBuffer) (word : Moves) → IsRecordOf r game old → slice_get game (move_count old) ≡ Some word → Fits window game (move_count old + 1) → Moved r game old window (advance r old.moves word window)
moved r game old window word h e f =
    let c = count_at r game old h in
    let all : List Moves = old.moves ++ word ∷ some_prefix window in
    let more = gapless window game (move_count old + 1) f in
    let m : old.moves ≡ take (move_count old) game = ap (λ (k : Recorded). k.moves) h.is ∙ ap (λ n. take n game) (sym c) in
    let whole : all ++ more.0 ≡ game =
    append_assoc old.moves (word ∷ some_prefix window) more.0
    ∙ ap (λ (xs : List Moves). old.moves ++ word ∷ xs) more.1
    ∙ ap (λ (xs : List Moves). old.moves ++ xs) (sym (drop_at game (move_count old) word e))
    ∙ ap (λ (xs : List Moves). xs ++ drop (move_count old) game) m
    ∙ take-append-drop (move_count old) game in
    let n : ℕ = last_ply r all in
    let reach : reaches r all n ≡ true = last_reached r all in
    let within : n ≤ length all = reach_within r all n reach in
    let next : Recorded = record_at r all n in
    let next_is : IsRecordOf r game next = record {
      ply = n;
      reached = subst (λ (xs : List Moves). reaches r xs n ≡ true) whole (reach_more r all more.0 n reach);
      is = same_record r all more.0 n within ∙ ap (λ (xs : List Moves). record_at r xs n) whole;
    } in
    let size : move_count next ≡ n = length-take-le n all within in
    let long : move_count old ≤ length all = simp length-append (omega arith) in
    let longer : suc (move_count old) ≤ length all = simp length-append (omega arith) in
    let before : reaches r game (move_count old) ≡ true = subst (λ k. reaches r game k ≡ true) (sym c) h.reached in
    let low : move_count old ≤ n = last_bound r all (move_count old) (reach_front r all more.0 (move_count old) long (subst (λ (xs : List Moves). reaches r xs (move_count old) ≡ true) (sym whole) before)) in
    let up : move_count old ≤ move_count next = subst (λ k. move_count old ≤ k) (sym size) low in
    let at : move_count old + 1 + (move_count next - move_count old) ≡ move_count next + 1 = omega arith in
    record {
      next_is = next_is;
      more = up;
      further = λ x. let y : suc (move_count old) ≤ n = last_bound r all (suc (move_count old)) (reach_front r all more.0 (suc (move_count old)) longer (subst (λ (xs : List Moves). reaches r xs (suc (move_count old)) ≡ true) (sym whole) x)) in
          subst (λ k. move_count old < k) (sym size) (omega arith);
      waits = cond_both (is_some next.verdict) nothing_waits (still_waits window (move_count next - move_count old)) (λ w. Fits w game (move_count next + 1))
          (λ _. fits_nothing game (move_count next + 1))
          (λ _. subst (λ k. Fits (still_waits window (move_count next - move_count old)) game k) at (fits_still window game (move_count old + 1) (move_count next - move_count old) f));
    }

pub record PutHolds (r : Rules) (game : List Moves) (me : Identity) (old next : Recorded) (outputs : List Message) (window : ReorderBuffer) : Type 0 where
  pub next_is : IsRecordOf r game next
  pub more : move_count old ≤ move_count next
  pub unruled : old.verdict ≡ None
  pub says : AllByRecursion (Says r game me (move_count next)) outputs
  pub waits : Fits window game (move_count next + 1)

-- what holds of an answer
abbrev pub AnswerHolds : Rules → List Moves → Identity → Recorded → Answer → Type 0
AnswerHolds r game me old (Refuses fault) = Unit {0}
AnswerHolds r game me old (Sends outputs window) = AllByRecursion (Says r game me (move_count old)) outputs × Fits window game (move_count old + 1)
AnswerHolds r game me old (Puts next outputs window) = PutHolds r game me old next outputs window

move_holds : (r : Rules) (game : List Moves) (me : Identity) (old : Recorded) (window : ReorderBuffer) (number : ℕ) (word : Moves) → IsRecordOf r game old → Fits window game (move_count old + 1) → slice_get game number ≡ Some word → AnswerHolds r game me old (answer_to_move r me old window number word)
move_holds r game me old window number word h f e =
    let Q : Answer → Type 0 = AnswerHolds r game me old in
    let k : ℕ = move_count old in
    let a5 : Answer = puts me old window (advance r old.moves word window) in
    let a4 : Answer = cond (is_none (position_after_all r.start (old.moves ++ word ∷ []))) (Refuses IllegalMove) a5 in
    let a3 : Answer = cond (nat_lt k number) (Sends (Ack me.stamp me.who k ∷ []) (waits_too window (number - (k + 1)) word)) a4 in
    let a2 : Answer = cond (nat_le (k + 32) number) (Refuses TooFarAhead) a3 in
    let a1 : Answer = cond (is_some old.verdict || nat_lt number k) (Sends (told_now me old) window) a2 in
    cond_both (nat_le most_moves number) (Refuses TooLong) a1 Q (λ _. tt) (λ _.
    cond_both (is_some old.verdict || nat_lt number k) (Sends (told_now me old) window) a2 Q (λ _. (told_says r game me old h old.verdict refl, f)) (λ no.
    let low : (is_some old.verdict ≡ false) × (nat_lt number k ≡ false) = or_parts _ _ no in
    cond_both (nat_le (k + 32) number) (Refuses TooFarAhead) a3 Q (λ _. tt) (λ _.
    cond_both (nat_lt k number) (Sends (Ack me.stamp me.who k ∷ []) (waits_too window (number - (k + 1)) word)) a4 Q
    (λ above.
    let lt : k < number = ltb-true _ _ above in
    let at : k + 1 + (number - (k + 1)) ≡ number = omega arith in
    (((refl, omega arith), tt), fits_too window game (k + 1) (number - (k + 1)) word (subst (λ n. slice_get game n ≡ Some word) (sym at) e) f))
    (λ not_above.
    let at : number ≡ k = omega (arith, ltb-false _ _ low.1, ltb-false _ _ not_above) in
    cond_both (is_none (position_after_all r.start (old.moves ++ word ∷ []))) (Refuses IllegalMove) a5 Q (λ _. tt) (λ _.
    let m = moved r game old window word h (subst (λ n. slice_get game n ≡ Some word) at e) f in
    record { next_is = m.next_is; more = m.more; unruled = none_of old.verdict low.0; says = told_says r game me _ m.next_is _ refl; waits = m.waits })))))
  where
    none_of : (o : Option Ruling) → is_some o ≡ false → o ≡ None
    none_of None q = refl
    none_of (Some v) q = cc

pub answer_holds : (r : Rules) (game : List Moves) (me : Identity) (a b : ℕ) (old : Recorded) (window : ReorderBuffer) (message : Message) → IsRecordOf r game old → Fits window game (move_count old + 1) → IsSound r game a b message → AnswerHolds r game me old (answer_to r me old window message)
unfolding answer_to
answer_holds r game me a b old window (Move stamp sender number m) h f e = move_holds r game me old window number m h f e
answer_holds r game me a b old window (Ack stamp who n) h f e = (tt, f)
answer_holds r game me a b old window (Verdict stamp who ply v) h f e = (tt, f)
answer_holds r game me a b old window (Fetch stamp who number wanted) h f e = (fetched_says r game me (move_count old) number wanted old h, f)

answered_turn : (r : Rules) (game : List Moves) (me : Identity) (keep : Keep) (old : Recorded) (window : ReorderBuffer) (a : Answer) → IsRecordOf r game old → Fits window game (move_count old + 1) → AnswerHolds r game me old a → Turn r game me (Some old) (answered keep old window a)
answered_turn r game me keep old window (Refuses fault) h f q = record { side = record { kept = h; waits = f }; grows = grows_not (Some old); says = tt }
answered_turn r game me keep old window (Sends outputs later) h f q = record { side = record { kept = h; waits = q.1 }; grows = grows_not (Some old); says = q.0 }
answered_turn r game me Good old window (Puts next outputs later) h f q = record { side = record { kept = q.next_is; waits = q.waits }; grows = record { count = q.more; verdict = λ k v e s. let n = q.unruled in cc }; says = q.says }
answered_turn r game me FailsOld old window (Puts next outputs later) h f q = record { side = record { kept = h; waits = tt }; grows = grows_not (Some old); says = tt }
answered_turn r game me FailsNew old window (Puts next outputs later) h f q = record { side = record { kept = q.next_is; waits = tt }; grows = record { count = q.more; verdict = λ k v e s. let n = q.unruled in cc }; says = tt }

stays : (r : Rules) (game : List Moves) (me : Identity) (side : Side) → SideHolds r game side → Turn r game me side.kept (side, [])
stays r game me side h = record { side = h; grows = grows_not side.kept; says = tt }

pub hears_turn : (r : Rules) (game : List Moves) (me : Identity) (keep : Keep) (kept : Option Recorded) (life : SideLife) (respond : Recorded → ReorderBuffer → Answer) → SideHolds r game (record { kept = kept; life = life }) → ((old : Recorded) (window : ReorderBuffer) → IsRecordOf r game old → Fits window game (move_count old + 1) → AnswerHolds r game me old (respond old window)) → Turn r game me kept (hears_at keep kept life respond)
hears_turn r game me keep (Some old) (Running window) respond h q = answered_turn r game me keep old window (respond old window) h.kept h.waits (q old window h.kept h.waits)
hears_turn r game me keep (Some old) Closed respond h q = stays r game me _ h
hears_turn r game me keep (Some old) Down respond h q = stays r game me _ h
hears_turn r game me keep None life respond h q = stays r game me _ h

first_is : (r : Rules) (game : List Moves) → IsRecordOf r game (record_at r [] 0)
first_is r game = record { ply = 0; reached = refl; is = refl }

grows_from_none : (late : Option Recorded) → Grows None late
grows_from_none late = record { count = omega arith; verdict = λ k v e _. cc }

pub restarted_turn : (r : Rules) (game : List Moves) (me : Identity) (keep : Keep) (kept : Option Recorded) → IfSome kept (IsRecordOf r game) → Turn r game me kept (restarted r keep kept, [])
restarted_turn r game me keep (Some old) h = record { side = record { kept = h; waits = fits_nothing game (move_count old + 1) }; grows = grows_not (Some old); says = tt }
restarted_turn r game me Good None h = record { side = record { kept = first_is r game; waits = fits_nothing game 1 }; grows = grows_from_none _; says = tt }
restarted_turn r game me FailsOld None h = record { side = record { kept = tt; waits = tt }; grows = grows_from_none _; says = tt }
restarted_turn r game me FailsNew None h = record { side = record { kept = first_is r game; waits = tt }; grows = grows_from_none _; says = tt }

-- the invariant
pub record Holds (game : Judged) (world : World) : Type 0 where
  pub a : SideHolds game.rules game.moves world.a
  pub b : SideHolds game.rules game.moves world.b
  pub log : AllByRecursion (IsSound game.rules game.moves (kept_count world.a.kept) (kept_count world.b.kept)) world.log

-- a step from one world to the next
pub record Goes (game : Judged) (early late : World) : Type 0 where
  pub holds : Holds game late
  pub a : Grows early.a.kept late.a.kept
  pub b : Grows early.b.kept late.b.kept
  pub log : (i : ℕ) (m : Message) → slice_get early.log i ≡ Some m → slice_get late.log i ≡ Some m

slice_get_more : {X : Type 0} (xs ys : List X) (i : ℕ) (x : X) → slice_get xs i ≡ Some x → slice_get (xs ++ ys) i ≡ Some x
slice_get_more [] ys i x e = cc
slice_get_more (z ∷ xs) ys zero x e = e
slice_get_more (z ∷ xs) ys (suc i) x e = slice_get_more xs ys i x e

sound_later : (r : Rules) (game : List Moves) (a b c d : ℕ) → a ≤ c → b ≤ d → (m : Message) → IsSound r game a b m → IsSound r game c d m
sound_later r game a b c d g h (Move stamp sender number m) e = e
sound_later r game a b c d g h (Ack stamp A n) e = omega (arith, e, g)
sound_later r game a b c d g h (Ack stamp B n) e = omega (arith, e, h)
sound_later r game a b c d g h (Verdict stamp who ply v) e = e
sound_later r game a b c d g h (Fetch stamp who number wanted) e = tt

sound_a : (r : Rules) (game : List Moves) (s : Stamp) (a b : ℕ) (m : Message) → Says r game (record { stamp = s; who = A }) a m → IsSound r game a b m
sound_a r game s a b (Move stamp sender number m) e = e
sound_a r game s a b (Ack stamp who n) e = subst (λ (w : ArbiterId). n ≤ count_by w a b) (sym e.0) e.1
sound_a r game s a b (Verdict stamp who ply v) e = e
sound_a r game s a b (Fetch stamp who number wanted) e = tt

sound_b : (r : Rules) (game : List Moves) (s : Stamp) (a b : ℕ) (m : Message) → Says r game (record { stamp = s; who = B }) b m → IsSound r game a b m
sound_b r game s a b (Move stamp sender number m) e = e
sound_b r game s a b (Ack stamp who n) e = subst (λ (w : ArbiterId). n ≤ count_by w a b) (sym e.0) e.1
sound_b r game s a b (Verdict stamp who ply v) e = e
sound_b r game s a b (Fetch stamp who number wanted) e = tt

pub turned_goes : (game : Judged) (world : World) (who : ArbiterId) (late : Side × List Message) → Holds game world → Turn game.rules game.moves (identity game who) (side_in world who).kept late → Goes game world (with_side world who late)
turned_goes game world A late h t =
    record {
      holds = record {
        a = t.side;
        b = h.b;
        log = all_append _ world.log late.1
            (all_weaker _ _ world.log (sound_later game.rules game.moves _ _ _ _ t.grows.count (omega arith)) h.log)
            (all_weaker _ _ late.1 (sound_a game.rules game.moves game.stamp _ _) t.says);
      };
      a = t.grows;
      b = grows_not world.b.kept;
      log = slice_get_more world.log late.1;
    }
turned_goes game world B late h t =
    record {
      holds = record {
        a = h.a;
        b = t.side;
        log = all_append _ world.log late.1
            (all_weaker _ _ world.log (sound_later game.rules game.moves _ _ _ _ (omega arith) t.grows.count) h.log)
            (all_weaker _ _ late.1 (sound_b game.rules game.moves game.stamp _ _) t.says);
      };
      a = grows_not world.a.kept;
      b = t.grows;
      log = slice_get_more world.log late.1;
    }

pub side_at : (game : Judged) (world : World) (who : ArbiterId) → Holds game world → SideHolds game.rules game.moves (side_in world who)
side_at game world A h = h.a
side_at game world B h = h.b

delivered_goes : (game : Judged) (world : World) (who : ArbiterId) (keep : Keep) (o : Option Message) → Holds game world → ((m : Message) → o ≡ Some m → IsSound game.rules game.moves (kept_count world.a.kept) (kept_count world.b.kept) m) → Goes game world (delivered game world who keep o)
delivered_goes game world who keep None h q = record { holds = h; a = grows_not world.a.kept; b = grows_not world.b.kept; log = λ i m e. e }
delivered_goes game world who keep (Some m) h q =
    turned_goes game world who _ h (hears_turn game.rules game.moves (identity game who) keep _ _ _ (side_at game world who h)
    (λ old window i f. answer_holds game.rules game.moves (identity game who) (kept_count world.a.kept) (kept_count world.b.kept) old window m i f (q m refl)))

-- noise says nothing that an arbiter takes for a message of this game
refused_holds : (game : Judged) (me : Identity) (old : Recorded) (window : ReorderBuffer) (bytes : List ℕ) → is_ok (heard game.stamp bytes) ≡ false → AnswerHolds game.rules game.moves me old (answer_heard game.rules me old window (heard game.stamp bytes))
refused_holds game me old window bytes h = by_cases (heard game.stamp bytes) h
  where
    by_cases : (o : Result Message DeliverFault) → is_ok o ≡ false → AnswerHolds game.rules game.moves me old (answer_heard game.rules me old window o)
    by_cases (Ok m) e = cc
    by_cases (Err f) e = tt

asked_says : (r : Rules) (game : List Moves) (me : Identity) (count : ℕ) (kept : Option Recorded) (life : SideLife) → AllByRecursion (Says r game me count) (wants me kept life)
asked_says r game me count (Some old) (Running window) = cond_both (is_some old.verdict || nat_le most_moves (move_count old)) None (Some (Fetch me.stamp me.who (move_count old) most_wanted)) (λ o. AllByRecursion (Says r game me count) (listed o)) (λ _. tt) (λ _. (tt, tt))
asked_says r game me count (Some old) Closed = tt
asked_says r game me count (Some old) Down = tt
asked_says r game me count None life = tt

pub happens_goes : (game : Judged) (world : World) (event : Event) → Holds game world → Goes game world (happens game world event)
unfolding happens
happens_goes game world (Deliver who index keep) h =
    delivered_goes game world who keep (slice_get world.log index) h (λ m e. all_at _ world.log index m h.log e)
happens_goes game world (Noise who bytes keep) h =
    cond_both (is_ok (heard game.stamp bytes.items)) world _ (Goes game world)
    (λ _. record { holds = h; a = grows_not world.a.kept; b = grows_not world.b.kept; log = λ i m e. e })
    (λ e. turned_goes game world who _ h (hears_turn game.rules game.moves (identity game who) keep _ _ _ (side_at game world who h)
    (λ old window i f. refused_holds game (identity game who) old window bytes.items e)))
happens_goes game world (Ask who) h =
    turned_goes game world who _ h (record { side = side_at game world who h; grows = grows_not _; says = asked_says game.rules game.moves (identity game who) (kept_count (side_in world who).kept) (side_in world who).kept (side_in world who).life })
happens_goes game world (Restart who keep) h =
    turned_goes game world who _ h (restarted_turn game.rules game.moves (identity game who) keep _ (side_at game world who h).kept)

pub first_holds : (game : Judged) → Holds game (first_world game)
first_holds game = record { a = record { kept = tt; waits = tt }; b = record { kept = tt; waits = tt }; log = moves_all (IsSound game.rules game.moves 0 0) game.moves game.stamp Source 0 [] game.moves [] (λ k w e. e) refl (sym (append-nil game.moves)) }

grows_on : (x y z : Option Recorded) → Grows x y → Grows y z → Grows x z
grows_on x y z f g = record { count = omega (arith, f.count, g.count); verdict = λ k v e s. g.verdict k v (f.verdict k v e s) s }

pub run_goes : (game : Judged) (world : World) (events : List Event) → Holds game world → Goes game world (world_after_all game world events)
run_goes game world [] h = record { holds = h; a = grows_not world.a.kept; b = grows_not world.b.kept; log = λ i m e. e }
run_goes game world (event ∷ events) h =
    let one = happens_goes game world event h in
    let more = run_goes game (happens game world event) events one.holds in
    record { holds = more.holds; a = grows_on _ _ _ one.a more.a; b = grows_on _ _ _ one.b more.b; log = λ i m e. more.log i m (one.log i m e) }

agree_of : (r : Rules) (game : List Moves) (one other : Recorded) → IsRecordOf r game one → IsRecordOf r game other → Agree r game one other
agree_of r game one other f g v w d e =
    let x = first_from r game one v f d in
    let y = first_from r game other w g e in
    let s = one_first r game _ _ v w x y in
    record { ply = s.0; verdict = s.1; first = x }

pub right_of : (game : Judged) (world : World) → Holds game world → IsRight game world
right_of game world h = record { a = h.a.kept; b = h.b.kept; agree = pairs world.a.kept world.b.kept h.a.kept h.b.kept }
  where
    pairs : (x y : Option Recorded) → IfSome x (IsRecordOf game.rules game.moves) → IfSome y (IsRecordOf game.rules game.moves) → IfSome x (λ one. IfSome y (Agree game.rules game.moves one))
    pairs None y f g = tt
    pairs (Some one) None f g = tt
    pairs (Some one) (Some other) f g = agree_of game.rules game.moves one other f g
