-- A record that is put has more moves than the one before.
use Rattle.std.proofs.Common.{◌≡◌, ℕ, ◌<◌, ◌≤◌, Bool, true, false, cond, ◌||◌, List, [], ◌∷◌, ◌++◌, length, length-append, take, Option, Some, None, suc, sym, refl, ap, ◌∙◌, subst, arith, append_assoc}
use Rattle.std.specs.Prelude.{Result, Ok, Err, is_some, is_none}
use Rattle.std.specs.Option.{some_prefix}
use Rattle.std.proofs.lemmas.List.{length-take-le, take_at}
use Rattle.board_core.specs.declared.moves.Move.{Move as Moves}
use Rattle.judge_core.specs.Games.{position_after_all, Rules, verdict_after}
use Rattle.move_msg.specs.declared.message.Message.{Message}
use Rattle.move_msg.specs.declared.message.Message.TheVariants.{Move, Ack, Verdict, Fetch}
use Rattle.arbiter_core.specs.declared.fault.DeliverFault.{DeliverFault}
use Rattle.arbiter_core.specs.declared.fault.DeliverFault.TheVariants.{Down}
use Rattle.arbiter_core.specs.Recording.{Recorded, ReorderBuffer, advance, last_ply, reaches}
use Rattle.arbiter_core.specs.Answering.{Answer, Identity, Puts, Refuses, Sends, answer_heard, answer_to, answer_to_move}
use Rattle.arbiter_core.specs.Setups.{rules_at}
use Rattle.arbiter_core.specs.Delivers.{heard}
pub use Rattle.arbiter_core.specs.Laws.{Grows, IsOwn}
use Rattle.arbiter_core.specs.Laws.{PutsGrow}
use Rattle.arbiter_core.proofs.Reach.{last_bound, last_reached, reach_more, reach_within, step_to}
use Rattle.arbiter_core.proofs.Settling.{advanced}

none_if : {A : Type 0} (o : Option A) → is_some o ≡ false → o ≡ None
none_if None h = refl
none_if (Some x) h = absurd cc

some_if : {A : Type 0} (o : Option A) → is_none o ≡ false → is_some o ≡ true
some_if None h = absurd cc
some_if (Some x) h = refl

first_false : (a b : Bool) → (a || b) ≡ false → a ≡ false
first_false true b h = h
first_false false b h = refl

advance_grows : (r : Rules) (old : Recorded) (window : ReorderBuffer) (m : Moves) → IsOwn r old → old.verdict ≡ None → is_some (position_after_all r.start (old.moves ++ m ∷ [])) ≡ true → Grows r old (advance r old.moves m window)
advance_grows r old window m own none legal =
    let rest : List Moves = some_prefix window in
    let all : List Moves = old.moves ++ m ∷ rest in
    let k : ℕ = length old.moves in
    let next : Recorded = advance r old.moves m window in
    let whole : take k all ≡ old.moves = take_at old.moves (m ∷ rest) k refl in
    let one : List Moves = old.moves ++ m ∷ [] in
    let size : length one ≡ suc k = simp length-append (omega arith) in
    let apart : all ≡ one ++ rest = sym (append_assoc old.moves (m ∷ []) rest) in
    let front : take (suc k) all ≡ one = ap (take (suc k)) apart ∙ take_at one rest (suc k) size in
    let long : k < length all = simp length-append (omega arith) in
    let reach : reaches r all (suc k) ≡ true = step_to r all k (record {
      before = reach_more r old.moves (m ∷ rest) k own.reached;
      unruled = ap (verdict_after r) whole ∙ sym own.ruled ∙ none;
      within = long;
      legal = ap (λ (xs : List Moves). is_some (position_after_all r.start xs)) front ∙ legal;
    }) in
    let low : suc k ≤ last_ply r all = last_bound r all (suc k) reach in
    let count : length (take (last_ply r all) all) ≡ last_ply r all = length-take-le (last_ply r all) all (reach_within r all (last_ply r all) (last_reached r all)) in
    let a = advanced r old.moves m window next.moves next.verdict refl in
    record { own = record { ruled = a.ruled; reached = a.reached }; more = omega (arith, low, count) }

-- a put comes where all tests fail
by_tests : (b1 b2 b3 b4 b5 : Bool) (f1 f3 f5 : DeliverFault) (o2 o4 : List Message) (w2 w4 : ReorderBuffer) (next : Recorded) (outputs : List Message) (window : ReorderBuffer) (x : Answer)
    → Puts next outputs window ≡ cond b1 (Refuses f1) (cond b2 (Sends o2 w2) (cond b3 (Refuses f3) (cond b4 (Sends o4 w4) (cond b5 (Refuses f5) x))))
    → (b2 ≡ false) × (b5 ≡ false) × (Puts next outputs window ≡ x)
by_tests true b2 b3 b4 b5 f1 f3 f5 o2 o4 w2 w4 next outputs window x e = absurd cc
by_tests false true b3 b4 b5 f1 f3 f5 o2 o4 w2 w4 next outputs window x e = absurd cc
by_tests false false true b4 b5 f1 f3 f5 o2 o4 w2 w4 next outputs window x e = absurd cc
by_tests false false false true b5 f1 f3 f5 o2 o4 w2 w4 next outputs window x e = absurd cc
by_tests false false false false true f1 f3 f5 o2 o4 w2 w4 next outputs window x e = absurd cc
by_tests false false false false false f1 f3 f5 o2 o4 w2 w4 next outputs window x e = (refl, refl, e)

put_in : Recorded → Answer → Recorded
put_in other (Refuses fault) = other
put_in other (Sends outputs window) = other
put_in other (Puts next outputs window) = next

module _ (r : Rules) (me : Identity) (old : Recorded) (waiting : ReorderBuffer) (own : IsOwn r old) (next : Recorded) (outputs : List Message) (window : ReorderBuffer) where
  by_move : (number : ℕ) (m : Moves) → Puts next outputs window ≡ answer_to_move r me old waiting number m → Grows r old next
  unfolding put_in
  by_move number m e =
      let tests = by_tests _ _ _ _ _ _ _ _ _ _ _ _ _ _ _ _ e in
      let is : next ≡ advance r old.moves m waiting = ap (put_in old) tests.2 in
      subst (Grows r old) (sym is) (advance_grows r old waiting m own (none_if old.verdict (first_false _ _ tests.0)) (some_if _ tests.1))

  by_message : (message : Message) → Puts next outputs window ≡ answer_to r me old waiting message → Grows r old next
  unfolding answer_to
  by_message (Move stamp sender number m) e = by_move number m e
  by_message (Ack stamp who count) e = absurd cc
  by_message (Verdict stamp who ply verdict) e = absurd cc
  by_message (Fetch stamp who number wanted) e = absurd cc

  by_heard : (h : Result Message DeliverFault) → Puts next outputs window ≡ answer_heard r me old waiting h → Grows r old next
  by_heard (Ok message) e = by_message message e
  by_heard (Err fault) e = absurd cc

  pub put_grows : (down : Bool) (h : Result Message DeliverFault) → Puts next outputs window ≡ cond down (Refuses Down) (answer_heard r me old waiting h) → Grows r old next
  put_grows true h e = absurd cc
  put_grows false h e = by_heard h e

pub puts_grow : PutsGrow
puts_grow v datagram next outputs window own e = put_grows (rules_at v.setup) v.me v.kept v.window own next outputs window v.is_down (heard v.me.stamp datagram) (sym e)
