-- A record that can't go on is that of the last ply that the game reaches.
use Rattle.std.proofs.Common.{◌≡◌, ℕ, ◌+◌, ◌<◌, ◌≤◌, true, List, length, take, Option, Some, None, suc, sym, refl, ap, ◌∙◌, subst, arith, ⊎_elim, inl, inr, add-one}
use Rattle.std.specs.Prelude.{IfSome, IsSome, is_some}
use Rattle.std.proofs.lemmas.List.{take_all}
use Rattle.std.proofs.lemmas.Bool.{cases_lt}
use Rattle.board_core.specs.declared.moves.Move.{Move as Moves}
use Rattle.board_core.specs.declared.verdict.Verdict.{Verdict as Ruling}
use Rattle.judge_core.specs.declared.game.GameOutcome.{GameOutcome}
use Rattle.judge_core.specs.declared.game.GameOutcome.TheVariants.{Ruled, Illegal, Going}
use Rattle.judge_core.specs.Games.{Rules, IsOutcome, plies_to, verdict_after, position_after_all}
use Rattle.judge_core.specs.Laws.{NoDelayIsTheRuling}
use Rattle.move_msg.specs.declared.arbiter_id.ArbiterId.{ArbiterId}
use Rattle.move_msg.specs.declared.arbiter_id.ArbiterId.TheVariants.{A, B}
use Rattle.arbiter_core.specs.Recording.{Recorded, move_count, record_at, last_ply}
use Rattle.arbiter_core.proofs.Reach.{step_of, reach_below, reach_within, unruled_below, last_reached, last_bound}
use Rattle.relay_world.specs.declared.event.Event.{Event}
use Rattle.relay_world.specs.Worlds.{Judged}
use Rattle.relay_world.specs.Headline.{IsRecordOf}
use Rattle.relay_world.specs.Laws.{IsAll, IsLeastRuling, KeepsAfter}
use Rattle.relay_world.proofs.Steps.{count_at, first_from}
use Rattle.relay_world.proofs.Schedules.{holds_after}
use Rattle.relay_world.proofs.Faithful.{reached_from}

-- what is kept in a world is the record of a ply that the game reaches
pub kept_is : (game : Judged) (events : List Event) (who : ArbiterId) (kept : Recorded) → KeepsAfter game events who kept → IsRecordOf game.rules game.moves kept
kept_is game events A kept e = subst (λ (o : Option Recorded). IfSome o (IsRecordOf game.rules game.moves)) e (holds_after game events).a.kept
kept_is game events B kept e = subst (λ (o : Option Recorded). IfSome o (IsRecordOf game.rules game.moves)) e (holds_after game events).b.kept

-- a record of so many moves is that of the last ply
pub at_last : (r : Rules) (game : List Moves) (kept : Recorded) → IsRecordOf r game kept → last_ply r game ≤ move_count kept → kept ≡ record_at r game (last_ply r game)
at_last r game kept h low =
    let c = count_at r game kept h in
    let up = last_bound r game h.ply h.reached in
    let e : h.ply ≡ last_ply r game = omega (arith, c, low, up) in
    h.is ∙ ap (record_at r game) e

-- the game goes no further than its first verdict
ruled_last : (r : Rules) (game : List Moves) (k : ℕ) (v : Ruling) → verdict_after r (take k game) ≡ Some v → last_ply r game ≤ k
ruled_last r game k v e =
    ⊎_elim (λ (lt : k < last_ply r game). let none = unruled_below r game k (last_ply r game) lt (last_reached r game) in absurd cc)
    (λ (ge : last_ply r game ≤ k). ge) (cases_lt k (last_ply r game))

at_verdict : (r : Rules) (game : List Moves) (kept : Recorded) (v : Ruling) → IsRecordOf r game kept → kept.verdict ≡ Some v → last_ply r game ≤ move_count kept
at_verdict r game kept v h e = ruled_last r game (move_count kept) v (first_from r game kept v h e).ruled

some_is : (o : Option Ruling) → IsSome o → (v : Ruling) × (o ≡ Some v)
some_is (Some v) h = (v, refl)
some_is None h = absurd cc

is_all_last : (game : Judged) (kept : Recorded) → IsRecordOf game.rules game.moves kept → IsAll game kept → last_ply game.rules game.moves ≤ move_count kept
is_all_last game kept h (inl whole) =
    let long = reach_within game.rules game.moves (last_ply game.rules game.moves) (last_reached game.rules game.moves) in
    let c : move_count kept ≡ length game.moves = ap (λ (ms : List Moves). length ms) whole in
    omega (arith, long, c)
is_all_last game kept h (inr some) = let v = some_is kept.verdict some in at_verdict game.rules game.moves kept v.0 h v.1

pub whole_is_one : (game : Judged) (events others : List Event) (who other : ArbiterId) (one two : Recorded) → KeepsAfter game events who one → KeepsAfter game others other two → IsAll game one → IsAll game two → one ≡ two
whole_is_one game events others who other one two e f a b =
    let g = kept_is game events who one e in
    let h = kept_is game others other two f in
    at_last game.rules game.moves one g (is_all_last game one g a) ∙ sym (at_last game.rules game.moves two h (is_all_last game two h b))

-- ---- no delay

pub least_ruling : NoDelayIsTheRuling → (game : Judged) (events : List Event) (who : ArbiterId) (kept : Recorded) (v : Ruling) → game.rules.delay ≡ 0 → KeepsAfter game events who kept → (kept.verdict ≡ Some v → IsLeastRuling game.rules game.moves (move_count kept) v) × (IsLeastRuling game.rules game.moves (move_count kept) v → kept.verdict ≡ Some v)
least_ruling law game events who kept v none e =
    let r : Rules = game.rules in
    let h = kept_is game events who kept e in
    let c = count_at r game.moves kept h in (
      (λ is. (let f = first_from r game.moves kept v h is in record {
        ruled = sym (law r (take (move_count kept) game.moves) none) ∙ f.ruled;
        earlier = λ j lt. sym (law r (take j game.moves) none) ∙ f.unruled j lt;
      })),
      (λ l. ap (λ (k : Recorded). k.verdict) h.is ∙ ap (λ n. verdict_after r (take n game.moves)) (sym c) ∙ law r (take (move_count kept) game.moves) none ∙ l.ruled),
    )

-- ---- the last ply

no_further : (r : Rules) (game : List Moves) (k : ℕ) → position_after_all r.start (take (k + 1) game) ≡ None → last_ply r game ≤ k
no_further r game k e =
    ⊎_elim
    (λ (lt : k < last_ply r game).
    let s = step_of r game k (reach_below r game (suc k) (last_ply r game) (omega arith) (last_reached r game)) in
    let none : position_after_all r.start (take (suc k) game) ≡ None = subst (λ n. position_after_all r.start (take n game) ≡ None) (add-one k) e in
    let some = s.legal in
    absurd (not_some _ none some))
    (λ (ge : last_ply r game ≤ k). ge)
    (cases_lt k (last_ply r game))
  where
    not_some : {X : Type 0} (o : Option X) → o ≡ None → is_some o ≡ true → ⊥
    not_some None e h = cc
    not_some (Some x) e h = cc

pub last_of_outcome : (r : Rules) (game : List Moves) (outcome : GameOutcome) → IsOutcome r game outcome → last_ply r game ≡ plies_to game outcome
last_of_outcome r game (Ruled ply v) f =
    let low = ruled_last r game ply v f.ruled in
    let up = last_bound r game ply (reached_from r game ply f.within f.legal f.unruled) in
    omega (arith, low, up)
last_of_outcome r game (Illegal place) f =
    let low = no_further r game place f.illegal in
    let within = f.within in
    let up = last_bound r game place (reached_from r game place (omega arith) f.legal (λ j lt. f.unruled j (omega arith))) in
    omega (arith, low, up)
last_of_outcome r game Going f =
    let low = reach_within r game (last_ply r game) (last_reached r game) in
    let legal : is_some (position_after_all r.start (take (length game) game)) ≡ true = subst (λ (ms : List Moves). is_some (position_after_all r.start ms) ≡ true) (sym (take_all (length game) game (omega arith))) f.legal in
    let up = last_bound r game (length game) (reached_from r game (length game) (omega arith) legal (λ j lt. f.unruled j (omega arith))) in
    omega (arith, low, up)
