-- A record of its own moves is whole.
use Rattle.std.proofs.Common.{◌≡◌, List, Option, sym, ap, subst}
use Rattle.std.proofs.Math.Seq.{take-length}
use Rattle.board_core.specs.declared.moves.Move.{Move as Moves}
use Rattle.board_core.specs.declared.verdict.Verdict.{Verdict}
use Rattle.judge_core.specs.Games.{Rules, verdict_after}
use Rattle.arbiter_core.specs.Recording.{Recorded}
use Rattle.arbiter_core.specs.Opens.{IsWhole}
use Rattle.arbiter_core.specs.Laws.{IsOwn}

-- a record of its own moves is whole
pub own_whole : (r : Rules) (kept : Recorded) → IsOwn r kept → IsWhole r kept
own_whole r kept own = record {
  game = kept.moves;
  reached = own.reached;
  is =
      subst (λ (ms : List Moves). kept ≡ record { moves = ms; verdict = verdict_after r ms }) (sym (take-length kept.moves))
      (ap (λ (v : Option Verdict). record { moves = kept.moves; verdict = v }) own.ruled);
}
