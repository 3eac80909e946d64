use Rattle.std.proofs.Common.{◌∙◌, ℕ, subst, arith}
use Rattle.std.specs.Prelude.{IfErr, IfOk}
use Rattle.table_folder.specs.Settled.{IsRefusedFor, IsWithMoves}
use Rattle.http_answer.specs.Inside.{IsOnePly}
use Rattle.http_answer.proofs.BestPlay.{IsPlayedSoFar, all_played, line_ends, line_refused, none_left, one_left, one_ply_more}
use Rattle.http_answer.proofs.AnswerLaws.{seen_by}
use Rattle.http_answer.proofs.OpenReadLaws.{reads_then}
use Rattle.http_answer.specs.Files.{files_of}
use Rattle.http_answer.proofs.answerer.Answerer.plies_from.Goals as goal

pub returns-in-Ok-None-clause-answer : goal.returns-in-Ok-None-clause-answer
returns-in-Ok-None-clause-answer g c =
    let disk = (files_of g.S.System.outside) c.args.self.now.disk in
    let folder = c.args.self.now.folder in
    let so_far = subst (λ (n : ℕ). IsPlayedSoFar disk folder n c.args.start.now c.loop.position c.loop.plies.items) (one_left c.loop.counter (omega (arith, c.loop-test.true))) c.loop.invariant.so_far in
    let played = seen_by (files_of g.S.System.outside) _ _ (λ disk folder. IfOk c.in_ok-next.field-0 (IsOnePly disk folder c.loop.position c.loop.plies.items c.play_on.new.plies.items)) c.loop.invariant.same c.in_ok-next.ensures.played in
    line_ends disk folder _ c.args.start.now c.loop.position c.loop.plies.items _ so_far (rw (c.in-Ok-None.is, c.in-Ok-None.field-0-is) at played)

pub returns-in-Err-clause-refused : goal.returns-in-Err-clause-refused
returns-in-Err-clause-refused g c =
    let disk = (files_of g.S.System.outside) c.args.self.now.disk in
    let folder = c.args.self.now.folder in
    let so_far = subst (λ (n : ℕ). IsPlayedSoFar disk folder n c.args.start.now c.loop.position c.loop.plies.items) (one_left c.loop.counter (omega (arith, c.loop-test.true))) c.loop.invariant.so_far in
    let refused = seen_by (files_of g.S.System.outside) _ _ (λ disk folder. IfErr c.in_ok-next.field-0 (IsRefusedFor disk folder (IsWithMoves c.loop.position))) c.loop.invariant.same c.in_ok-next.ensures.refused in
    line_refused disk folder _ c.args.start.now c.loop.position c.loop.plies.items c.loop.plies.items so_far c.in-Err.refusal (rw c.in-Err.is at refused)

pub loop-preserved : goal.loop-preserved
loop-preserved g c =
    let disk = (files_of g.S.System.outside) c.args.self.now.disk in
    let folder = c.args.self.now.folder in
    let so_far = subst (λ (n : ℕ). IsPlayedSoFar disk folder n c.args.start.now c.loop.position c.loop.plies.items) (one_left c.loop.counter (omega (arith, c.loop-test.true))) c.loop.invariant.so_far in
    let played = seen_by (files_of g.S.System.outside) _ _ (λ disk folder. IfOk c.in_ok-next.field-0 (IsOnePly disk folder c.loop.position c.loop.plies.items c.play_on.new.plies.items)) c.loop.invariant.same c.in_ok-next.ensures.played in
    record {
      so_far = one_ply_more disk folder _ c.args.start.now c.loop.position c.loop.plies.items _ so_far c.in-Ok-Some.next (rw (c.in-Ok-Some.is, c.in-Ok-Some.field-0-is) at played);
      same = c.play_on.ensures.same ∙ c.loop.invariant.same;
      made = reads_then g.S.System.outside _ _ _ _ _ c.loop.invariant.same c.loop.invariant.made c.play_on.ensures.made;
    }

pub returns-clause-answer : goal.returns-clause-answer
returns-clause-answer g c =
    let disk = (files_of g.S.System.outside) c.args.self.now.disk in
    let folder = c.args.self.now.folder in
    all_played disk folder c.args.start.now c.loop.position c.loop.plies.items
    (subst (λ (n : ℕ). IsPlayedSoFar disk folder n c.args.start.now c.loop.position c.loop.plies.items) (none_left c.loop.counter (omega (arith, c.loop-test.false))) c.loop.invariant.so_far)

pub returns-in-Ok-None-clause-made : goal.returns-in-Ok-None-clause-made
returns-in-Ok-None-clause-made g c = reads_then g.S.System.outside _ _ _ _ _ c.loop.invariant.same c.loop.invariant.made c.play_on.ensures.made

pub returns-in-Err-clause-made : goal.returns-in-Err-clause-made
returns-in-Err-clause-made g c = reads_then g.S.System.outside _ _ _ _ _ c.loop.invariant.same c.loop.invariant.made c.play_on.ensures.made

pub returns-in_err-next-clause-made : goal.returns-in_err-next-clause-made
returns-in_err-next-clause-made g c = reads_then g.S.System.outside _ _ _ _ _ c.loop.invariant.same c.loop.invariant.made c.play_on.ensures.made
