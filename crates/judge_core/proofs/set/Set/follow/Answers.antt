use Rattle.std.proofs.Common.{◌≡◌, ◌∙◌, sym, ap, refl, arith, subst, length, take, List, ℕ, Option}
use Rattle.std.proofs.lemmas.List.{take_all}
use Rattle.board_core.specs.declared.moves.Move.{Move}
use Rattle.judge_core.specs.declared.game.GameOutcome.{GameOutcome}
use Rattle.judge_core.specs.Tables.{Holding}
use Rattle.judge_core.specs.Games.{Rules, IsUnruled}
use Rattle.judge_core.specs.Standings.{IsAt}
use Rattle.judge_core.specs.Inside.Following.{IsFollowed}
use Rattle.judge_core.proofs.Plies.{starts}
use Rattle.judge_core.proofs.Rule.{always_err}
use Rattle.judge_core.proofs.set.Set.follow.Goals as goal

pub loop-ply-init : goal.loop-ply-init
loop-ply-init c = (c.in_ok-standing.ensures.at (record { start = c.args.start.now; tables = c.args.self.now.tables; delay = c.args.delay }) refl refl, (λ j lt. absurd (omega arith)), c.in_ok-standing.ensures.unchanged)

pub loop-ply-preserved : goal.loop-ply-preserved
loop-ply-preserved c =
    let r : Rules = record { start = c.args.start.now; tables = c.args.self.now.tables; delay = c.args.delay } in
    let told = c.in_ok-outcome.ensures.value r (sym (ap (λ (h : Holding). h.tables) c.loop-ply.invariant.2)) refl c.loop-ply.invariant.0 c.loop-ply.invariant.1 in
    let on = subst (λ (o : Option GameOutcome). IsFollowed r c.args.moves.now c.loop-ply.ply o c.follow_ply.new.standing) c.in_default.is told in
    (on.0, on.1, c.in_ok-outcome.ensures.unchanged ∙ c.loop-ply.invariant.2)

pub returns-in-Some-clause-value : goal.returns-in-Some-clause-value
returns-in-Some-clause-value c =
    let r : Rules = record { start = c.args.start.now; tables = c.args.self.now.tables; delay = c.args.delay } in
    let told = c.in_ok-outcome.ensures.value r (sym (ap (λ (h : Holding). h.tables) c.loop-ply.invariant.2)) refl c.loop-ply.invariant.0 c.loop-ply.invariant.1 in
    let ended = subst (λ (o : Option GameOutcome). IsFollowed r c.args.moves.now c.loop-ply.ply o c.follow_ply.new.standing) c.in-Some.is told in
    ended.0

pub returns-in-Some-clause-standing : goal.returns-in-Some-clause-standing
returns-in-Some-clause-standing c =
    let r : Rules = record { start = c.args.start.now; tables = c.args.self.now.tables; delay = c.args.delay } in
    let told = c.in_ok-outcome.ensures.value r (sym (ap (λ (h : Holding). h.tables) c.loop-ply.invariant.2)) refl c.loop-ply.invariant.0 c.loop-ply.invariant.1 in
    let ended = subst (λ (o : Option GameOutcome). IsFollowed r c.args.moves.now c.loop-ply.ply o c.follow_ply.new.standing) c.in-Some.is told in
    ended.1

pub returns-clause-value : goal.returns-clause-value
returns-clause-value c =
    let r : Rules = record { start = c.args.start.now; tables = c.args.self.now.tables; delay = c.args.delay } in
    let full : c.loop-ply.ply ≡ length c.args.moves.now = omega (arith, c.loop-ply-test.false, c.loop-ply.auto.ply-end) in
    c.end_of-outcome.ensures.value r refl
    (subst (λ (ms : List Move). IsAt r ms c.loop-ply.standing) (take_all _ _ c.loop-ply-test.false) c.loop-ply.invariant.0)
    (subst (λ (n : ℕ). IsUnruled r c.args.moves.now n) full c.loop-ply.invariant.1)

pub returns-clause-standing : goal.returns-clause-standing
returns-clause-standing c =
    let r : Rules = record { start = c.args.start.now; tables = c.args.self.now.tables; delay = c.args.delay } in
    let full : c.loop-ply.ply ≡ length c.args.moves.now = omega (arith, c.loop-ply-test.false, c.loop-ply.auto.ply-end) in
    subst (λ (n : ℕ). IsAt r (take n c.args.moves.now) c.loop-ply.standing) (full ∙ sym c.end_of-outcome.ensures.plies) c.loop-ply.invariant.0

pub returns-in_err-standing-clause-memory : goal.returns-in_err-standing-clause-memory
returns-in_err-standing-clause-memory c = always_err c.from_residual.result (0, c.args.start.now, starts c.args.start.now, c.in_err-standing.ensures.memory)
