use Rattle.std.proofs.Common.{subst}
use Rattle.answer_commands.specs.Answers.{Answers}
use Rattle.answer_commands.specs.Sealed.{BySeal, NoKeys, RefusesKeys}
use Rattle.answer_commands.proofs.EndLaws.{ends_so}
use Rattle.sealed_port.specs.KeyedSystems.{outside_with}
use Rattle.answer_commands.proofs.sealing.answer_sealed.Goals as goal

pub returns-in-Ok : goal.returns-in-Ok
returns-in-Ok g c =
    let answered = subst (λ v. Answers c.args.task.now (outside_with g.S.System.outside v) c.read_keys.new.timeline c.answer_bare.new.timeline c.answer_bare.result) c.over-sealed.ensures c.answer_bare.ensures in
    BySeal c.in-Ok.keys _ c.in-Ok.ensures answered

pub returns-in-Err : goal.returns-in-Err
returns-in-Err g c =
    let o = g.S.System.outside c.args.system.now in
    let ends = ends_so o _ _ _ (RefusesKeys c.args.path.now c.in-Err.refusal) c.refuse_keys-answered.result c.end.result c.refuse_keys-answered.ensures.made c.refuse_keys-answered.ensures.cause c.end.ensures in
    NoKeys c.in-Err.refusal _ c.in-Err.ensures ends
