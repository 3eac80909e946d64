use Rattle.std.proofs.Common.{◌∙◌, refl}
use Rattle.http_answer.proofs.OpenReadLaws.{no_reads, reads_then}
use Rattle.http_answer.proofs.PlyLaws.{at_end, at_illegal_by, at_start, more_by, nothing_left}
use Rattle.http_answer.specs.Files.{files_of}
use Rattle.http_answer.proofs.plies.add_moves.Goals as goal

pub loop-m-init : goal.loop-m-init
loop-m-init g c = record { so_far = at_start _ _ _ _ _; same = refl; made = no_reads g.S.System.outside c.args.answerer.now.disk.system.now c.args.answerer.now.folder _ }

pub loop-m-preserved : goal.loop-m-preserved
loop-m-preserved g c =
    let old = c.loop-m.invariant in
    record { so_far = more_by (files_of g.S.System.outside) _ _ _ _ _ _ _ _ _ _ _ _ old.same c.in-Some.ensures.cases.0 old.so_far (rw c.in-Some-2.is at c.in_ok-after.ensures.added); same = c.in_ok-after.ensures.same ∙ old.same; made = reads_then g.S.System.outside _ c.args.answerer.now _ _ _ old.same old.made c.add_next.ensures.made }

pub returns-in-None-clause-added : goal.returns-in-None-clause-added
returns-in-None-clause-added g c =
    at_illegal_by _ _ _ _ _ _ _ _ _ _ _ c.loop-m.invariant.so_far c.in-Some.ensures.cases.0 (rw c.in-None.is at c.in_ok-after.ensures.none) (rw c.in-None.is at c.in_ok-after.ensures.nothing)

pub returns-clause-added : goal.returns-clause-added
returns-clause-added g c = at_end _ _ _ _ _ _ _ _ c.loop-m.invariant.so_far (nothing_left _ c.in_default.ensures.cases)

pub returns-in-None-clause-made : goal.returns-in-None-clause-made
returns-in-None-clause-made g c = reads_then g.S.System.outside _ c.args.answerer.now _ _ _ c.loop-m.invariant.same c.loop-m.invariant.made c.add_next.ensures.made

pub returns-in_err-after-clause-made : goal.returns-in_err-after-clause-made
returns-in_err-after-clause-made g c = reads_then g.S.System.outside _ c.args.answerer.now _ _ _ c.loop-m.invariant.same c.loop-m.invariant.made c.add_next.ensures.made
