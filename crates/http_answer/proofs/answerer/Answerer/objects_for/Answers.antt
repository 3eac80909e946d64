use Rattle.std.proofs.Common.{◌∙◌, refl, subst, sym}
use Rattle.http_answer.proofs.AnswerLaws.{AnsweredSoFar, all_answered, next_answered, none_answered}
use Rattle.http_answer.proofs.OpenReadLaws.{no_reads, reads_then}
use Rattle.http_answer.specs.Files.{files_of}
use Rattle.http_answer.proofs.answerer.Answerer.objects_for.Goals as goal

pub loop-line-init : goal.loop-line-init
loop-line-init g c = record { so_far = subst (AnsweredSoFar _ _ _ _) (sym c.new-objects.ensures.items) (none_answered _ _ _); same = refl; made = no_reads g.S.System.outside c.args.self.now.disk.system.now c.args.self.now.folder _ }

pub loop-line-preserved : goal.loop-line-preserved
loop-line-preserved g c =
    let old = c.loop-line.invariant in
    record { so_far = next_answered (files_of g.S.System.outside) _ _ _ _ _ _ _ _ old.same old.so_far c.in-Some.ensures.some c.in_ok-add_line.ensures.answer; same = c.add_line.ensures.same ∙ old.same; made = reads_then g.S.System.outside _ c.args.self.now _ _ _ old.same old.made c.add_line.ensures.made }

pub returns-clause-answer : goal.returns-clause-answer
returns-clause-answer g c = all_answered _ _ _ _ _ c.loop-line.invariant.so_far c.in_default.ensures.none

pub returns-in_err-add_line-clause-made : goal.returns-in_err-add_line-clause-made
returns-in_err-add_line-clause-made g c = reads_then g.S.System.outside _ c.args.self.now _ _ _ c.loop-line.invariant.same c.loop-line.invariant.made c.add_line.ensures.made
