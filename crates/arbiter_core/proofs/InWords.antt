-- What a record says, in plain words.
use Rattle.std.proofs.Common.{◌≡◌, ◌∙◌, ap, refl, ℕ, zero, suc, true, List, take, Option, Some}
use Rattle.std.specs.Prelude.{IsSome, is_some, ◌↔◌}
use Rattle.board_core.specs.declared.moves.Move.{Move}
use Rattle.board_core.specs.declared.verdict.Verdict.{Verdict}
use Rattle.move_msg.specs.declared.stamp.Stamp.{Stamp}
use Rattle.move_msg.specs.declared.record_bytes.Record.{Record}
use Rattle.move_msg.proofs.RecordLaws.{one_record}
use Rattle.judge_core.specs.Games.{Rules, position_after_all, verdict_after, IsFirst}
use Rattle.judge_core.proofs.Plies.{starts}
use Rattle.arbiter_core.specs.Recording.{Recorded, reaches, record_at, last_ply}
use Rattle.arbiter_core.specs.Views.{spelled_as}
use Rattle.arbiter_core.specs.Opens.{IsResumed}
use Rattle.arbiter_core.specs.Laws.{IsReached, IsRecordInWords, IsLastReached}
use Rattle.arbiter_core.proofs.Reach.{step_of, reach_within, unruled_below, last_reached, last_bound}
use Rattle.arbiter_core.proofs.Opened.{reaching}

legal_at : (r : Rules) (game : List Move) (k : ℕ) → reaches r game k ≡ true → IsSome (position_after_all r.start (take k game))
legal_at r game zero h = ap is_some (starts r.start)
legal_at r game (suc k) h = (step_of r game k h).legal

pub reached_in_words : (r : Rules) (game : List Move) (k : ℕ) → (reaches r game k ≡ true) ↔ IsReached r game k
reached_in_words r game k = (
  (λ (h : reaches r game k ≡ true). record {
    within = reach_within r game k h;
    legal = legal_at r game k h;
    unruled = λ j lt. unruled_below r game j k lt h;
  }),
  (λ (h : IsReached r game k). reaching r game k h.within h.legal h.unruled),
)

pub record_in_words : (r : Rules) (game : List Move) (k : ℕ) → reaches r game k ≡ true → IsRecordInWords r game k (record_at r game k)
record_in_words r game k h =
    let words = (reached_in_words r game k).0 h in
    record {
      moves = refl;
      verdict = λ v. (
        (λ (e : verdict_after r (take k game) ≡ Some v). record { within = words.within; legal = words.legal; ruled = e; unruled = words.unruled }),
        (λ (f : IsFirst r game k v). f.ruled),
      );
    }

pub last_ply_in_words : (r : Rules) (game : List Move) → IsLastReached r game (last_ply r game)
last_ply_in_words r game = record { reached = last_reached r game; last = λ j h. last_bound r game j h }

pub one_resumed : (r : Rules) (stamp : Stamp) (bytes : List ℕ) (a b : Recorded) → IsResumed r stamp bytes a → IsResumed r stamp bytes b → a ≡ b
one_resumed r stamp bytes a b x y =
    let e : spelled_as stamp r.delay a ≡ spelled_as stamp r.delay b = one_record bytes (spelled_as stamp r.delay a) (spelled_as stamp r.delay b) x.0 y.0 in
    let moves : a.moves ≡ b.moves = ap (λ (q : Record). q.moves) e in
    let verdict : a.verdict ≡ b.verdict = ap (λ (q : Record). q.verdict) e in
    ap (λ (ms : List Move). record { moves = ms; verdict = a.verdict }) moves ∙ ap (λ (v : Option Verdict). record { moves = b.moves; verdict = v }) verdict
