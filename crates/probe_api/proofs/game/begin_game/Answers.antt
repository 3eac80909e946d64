use Rattle.std.proofs.Common.{◌≡◌, ◌≤◌, ℕ, Result, Err, IfOk, OnErr, refl, ap, subst, inl, inr, arith}
use Rattle.board_core.specs.Delays.{most_delay}
use Rattle.judge_core.specs.Answers.{ListsMovesForVerdict}
use Rattle.probe_api.specs.Plays.{Play, IsBegun}
use Rattle.probe_api.specs.Replies.{fen_status}
use Rattle.probe_api.proofs.Texts.{each_position, no_fault, each_fault, no_position}
use Rattle.probe_api.proofs.game.begin_game.Goals as goal

pub returns-in-Ok-clause-is : goal.returns-in-Ok-clause-is
returns-in-Ok-clause-is c =
    let told : Result Play ℕ = c.begin_at.result in
    let few : c.args.delay ≤ most_delay = c.in-Some.ensures.in_range.0 refl in
    record {
      game = λ p le good spells. subst (λ (d : ℕ). IfOk told (IsBegun c.args.set.now.tables p d)) c.in-Some.ensures.number (each_position c.args.text.now c.read.result c.in-Ok.position c.in-Ok.is (c.read.ensures.only, c.read.ensures.only_fault) (λ q. IfOk told (IsBegun c.args.set.now.tables q c.in-Some.delay)) c.begin_at.ensures.game p good spells);
      memory = λ p le good spells. each_position c.args.text.now c.read.result c.in-Ok.position c.in-Ok.is (c.read.ensures.only, c.read.ensures.only_fault) (λ q. OnErr told ((told ≡ Err 5) × ListsMovesForVerdict c.args.set.now.tables q)) c.begin_at.ensures.memory p good spells;
      late = λ more. absurd (omega (arith, more, few));
      fault = λ fault le first. no_fault c.args.text.now c.read.result c.in-Ok.position c.in-Ok.is (c.read.ensures.only, c.read.ensures.only_fault) (λ f. told ≡ Err (fen_status f)) fault first;
      one = λ _. inl (c.in-Ok.position, c.in-Ok.ensures.position, c.in-Ok.ensures.ok);
    }

pub returns-in-Err-clause-is : goal.returns-in-Err-clause-is
returns-in-Err-clause-is c =
    let told : Result Play ℕ = Err c.fen_status.result in
    let few : c.args.delay ≤ most_delay = c.in-Some.ensures.in_range.0 refl in
    record {
      game = λ p le good spells. tt;
      memory = λ p le good spells. no_position c.args.text.now c.read.result c.in-Err.fault c.in-Err.is (c.read.ensures.only, c.read.ensures.only_fault) (λ q. (told ≡ Err 5) × ListsMovesForVerdict c.args.set.now.tables q) p good spells;
      late = λ more. absurd (omega (arith, more, few));
      fault = λ other le first. each_fault c.args.text.now c.read.result c.in-Err.fault c.in-Err.is (c.read.ensures.only, c.read.ensures.only_fault) (λ f. told ≡ Err (fen_status f)) (ap Err c.fen_status.ensures) other first;
      one = λ _. inr (c.in-Err.fault, c.in-Err.ensures.err);
    }
