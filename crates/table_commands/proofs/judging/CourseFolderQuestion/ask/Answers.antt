use Rattle.std.proofs.Common.{◌≡◌, ◌∙◌, None, Ok, Err, Some, ap, sym, subst, arith, length}
use Rattle.board_core.specs.ComputedMoves.{position_after}
use Rattle.judge_core.specs.declared.game.GameOutcome.TheVariants.{Going, Illegal, Ruled}
use Rattle.table_folder.specs.Reads.{PassesSome}
use Rattle.table_commands.proofs.FolderReadLaws.{by_these, for_file, for_room}
use Rattle.table_commands.proofs.GameInPlay.{begins_for_none, going, has_begun, has_gone_on, illegal, reads_all, reads_more, refused_later, ruled, start_refused}
use Rattle.table_commands.specs.Courses.{IsOutcomeOf, in_play_of}
use Rattle.table_commands.specs.FolderReads.{FindsBy}
use Rattle.table_commands.specs.Inside.Courses.{course_of}
use Rattle.table_commands.proofs.judging.CourseFolderQuestion.ask.Goals as goal

pub returns-in-Ok-Err-clause-made : goal.returns-in-Ok-Err-clause-made
returns-in-Ok-Err-clause-made g c =
    let made = rw c.in-Ok-Err.field-0-is at c.in-Ok-Err.ensures.made in
    let refused = rw c.in-Ok-Err.field-0-is at c.in-Ok-Err.ensures.refused in
    let game = (course_of c.args.self.now) in
    for_file (g.F.TableFiles.facts c.args.folder.now.disk) c.args.folder.now.folder (in_play_of game) (IsOutcomeOf game) c.args.set.now.tables c.begin.new.set.tables c.in-Ok-Err.refusal _ _
    (start_refused _ _ c.begin.new.set.tables game.start game.moves game.delay c.in-Ok-Err.refusal c.begin.ensures.opened refused)
    (begins_for_none (g.F.TableFiles.facts c.args.folder.now.disk) c.args.folder.now.folder game c.args.set.now.tables c.begin.new.set.tables (Ok (Some c.in-Ok-Err.refusal)) _ _ made)

pub returns-in-Err-clause-made : goal.returns-in-Err-clause-made
returns-in-Err-clause-made g c =
    let game = (course_of c.args.self.now) in
    for_room (g.F.TableFiles.facts c.args.folder.now.disk) c.args.folder.now.folder (in_play_of game) (IsOutcomeOf game) c.args.set.now.tables c.begin.new.set.tables c.in-Err.fault _ _
    (begins_for_none (g.F.TableFiles.facts c.args.folder.now.disk) c.args.folder.now.folder game c.args.set.now.tables c.begin.new.set.tables (Err c.in-Err.fault) _ _ c.in-Err.ensures.made)

pub loop-ply-init : goal.loop-ply-init
loop-ply-init g c =
    let made = rw c.in-Ok-Ok.field-0-is at c.in-Ok-Ok.ensures.made in
    let begun = rw c.in-Ok-Ok.field-0-is at c.in-Ok-Ok.ensures.begun in
    has_begun (g.F.TableFiles.facts c.args.folder.now.disk) c.args.folder.now.folder (course_of c.args.self.now) c.args.set.now.tables c.begin.new.set.tables c.in-Ok-Ok.standing _ _ c.begin.ensures.opened c.begin.ensures.later.kept begun made

pub returns-in-Some-clause-made : goal.returns-in-Some-clause-made
returns-in-Some-clause-made g c =
    let game = (course_of c.args.self.now) in
    let is = ruled c.loop-ply.invariant.to c.positions_in_play_are_played.ensures c.in-Some.verdict (omega (arith, c.loop-ply-test.true)) c.in-Some.ensures in
    by_these (g.F.TableFiles.facts c.args.folder.now.disk) c.args.folder.now.folder (in_play_of game) (IsOutcomeOf game) c.args.set.now.tables c.loop-ply.set.tables (Ruled c.loop-ply.ply c.in-Some.verdict) _ _ c.loop-ply.invariant.to.opened is (reads_all (g.F.TableFiles.facts c.args.folder.now.disk) c.args.folder.now.folder (course_of c.args.self.now) c.args.set.now.tables c.loop-ply.set.tables c.loop-ply.ply c.loop-ply.standing _ _ c.loop-ply.invariant)

pub returns-in_default-play-clause-made : goal.returns-in_default-play-clause-made
returns-in_default-play-clause-made g c =
    let game = (course_of c.args.self.now) in
    let m = c.index-moves-ply.result in
    let is = illegal c.loop-ply.invariant.to c.positions_in_play_are_played.ensures m c.loop-ply-test.true c.in_default.ensures c.index-moves-ply.is (ap (λ p. position_after p m) (sym c.position.ensures) ∙ sym c.play.ensures.computed ∙ c.in_default-play.is) in
    by_these (g.F.TableFiles.facts c.args.folder.now.disk) c.args.folder.now.folder (in_play_of game) (IsOutcomeOf game) c.args.set.now.tables c.loop-ply.set.tables (Illegal c.loop-ply.ply) _ _ c.loop-ply.invariant.to.opened is (reads_all (g.F.TableFiles.facts c.args.folder.now.disk) c.args.folder.now.folder (course_of c.args.self.now) c.args.set.now.tables c.loop-ply.set.tables c.loop-ply.ply c.loop-ply.standing _ _ c.loop-ply.invariant)

pub returns-in-Ok-Err-move_on-clause-made : goal.returns-in-Ok-Err-move_on-clause-made
returns-in-Ok-Err-move_on-clause-made g c =
    let game = (course_of c.args.self.now) in
    let m = c.index-moves-ply.result in
    let plays = ap (λ p. position_after p m) (sym c.position.ensures) ∙ sym c.play.ensures.computed ∙ c.in-Some-play.is in
    let refused = rw c.in-Ok-Err-move_on.field-0-is at c.in-Ok-Err-move_on.ensures.refused in
    let made = rw c.in-Ok-Err-move_on.field-0-is at c.in-Ok-Err-move_on.ensures.made in
    for_file (g.F.TableFiles.facts c.args.folder.now.disk) c.args.folder.now.folder (in_play_of game) (IsOutcomeOf game) c.args.set.now.tables c.move_on.new.set.tables c.in-Ok-Err-move_on.refusal _ _
    (refused_later c.loop-ply.invariant.to m c.in-Some-play.position c.in-Ok-Err-move_on.refusal c.loop-ply-test.true c.in_default.ensures c.index-moves-ply.is plays refused)
    (reads_more (g.F.TableFiles.facts c.args.folder.now.disk) c.args.folder.now.folder (course_of c.args.self.now) c.args.set.now.tables c.loop-ply.set.tables c.loop-ply.ply c.loop-ply.standing _ _ c.loop-ply.invariant c.move_on.new.set.tables m c.in-Some-play.position _ c.loop-ply-test.true c.in_default.ensures c.index-moves-ply.is plays (Ok (Some c.in-Ok-Err-move_on.refusal)) made)

pub returns-in-Err-move_on-clause-made : goal.returns-in-Err-move_on-clause-made
returns-in-Err-move_on-clause-made g c =
    let game = (course_of c.args.self.now) in
    let m = c.index-moves-ply.result in
    let plays = ap (λ p. position_after p m) (sym c.position.ensures) ∙ sym c.play.ensures.computed ∙ c.in-Some-play.is in
    for_room (g.F.TableFiles.facts c.args.folder.now.disk) c.args.folder.now.folder (in_play_of game) (IsOutcomeOf game) c.args.set.now.tables c.move_on.new.set.tables c.in-Err-move_on.fault _ _
    (reads_more (g.F.TableFiles.facts c.args.folder.now.disk) c.args.folder.now.folder (course_of c.args.self.now) c.args.set.now.tables c.loop-ply.set.tables c.loop-ply.ply c.loop-ply.standing _ _ c.loop-ply.invariant c.move_on.new.set.tables m c.in-Some-play.position _ c.loop-ply-test.true c.in_default.ensures c.index-moves-ply.is plays (Err c.in-Err-move_on.fault) c.in-Err-move_on.ensures.made)

pub loop-ply-preserved : goal.loop-ply-preserved
loop-ply-preserved g c =
    let m = c.index-moves-ply.result in
    let plays = ap (λ p. position_after p m) (sym c.position.ensures) ∙ sym c.play.ensures.computed ∙ c.in-Some-play.is in
    let on = rw c.in-Ok-Ok-move_on.field-0-is at c.in-Ok-Ok-move_on.ensures.on in
    let made = rw c.in-Ok-Ok-move_on.field-0-is at c.in-Ok-Ok-move_on.ensures.made in
    has_gone_on (g.F.TableFiles.facts c.args.folder.now.disk) c.args.folder.now.folder (course_of c.args.self.now) c.args.set.now.tables c.loop-ply.set.tables c.loop-ply.ply c.loop-ply.standing _ _ c.loop-ply.invariant c.move_on.new.set.tables m c.in-Some-play.position _ c.loop-ply-test.true c.in_default.ensures c.index-moves-ply.is plays c.in-Ok-Ok-move_on.next c.move_on.ensures.opened c.move_on.ensures.later.kept on made

pub returns-in-Some-verdict-clause-made : goal.returns-in-Some-verdict-clause-made
returns-in-Some-verdict-clause-made g c =
    let game = (course_of c.args.self.now) in
    let full : c.loop-ply.ply ≡ length game.moves = omega (arith, c.loop-ply-test.false, c.loop-ply.auto.ply-end) in
    let is = ruled c.loop-ply.invariant.to c.positions_in_play_are_played.ensures c.in-Some-verdict.verdict (omega (arith, full)) c.in-Some-verdict.ensures in
    subst (λ n. PassesSome (g.F.TableFiles.events c.args.folder.now.disk c.args.log.now) (g.F.TableFiles.events c.args.folder.now.disk c.loop-ply.log) (FindsBy (g.F.TableFiles.facts c.args.folder.now.disk) c.args.folder.now.folder (in_play_of game) (IsOutcomeOf game) c.args.set.now.tables c.loop-ply.set.tables (Ok (Ok (Ruled n c.in-Some-verdict.verdict))))) full
    (by_these (g.F.TableFiles.facts c.args.folder.now.disk) c.args.folder.now.folder (in_play_of game) (IsOutcomeOf game) c.args.set.now.tables c.loop-ply.set.tables (Ruled c.loop-ply.ply c.in-Some-verdict.verdict) _ _ c.loop-ply.invariant.to.opened is (reads_all (g.F.TableFiles.facts c.args.folder.now.disk) c.args.folder.now.folder (course_of c.args.self.now) c.args.set.now.tables c.loop-ply.set.tables c.loop-ply.ply c.loop-ply.standing _ _ c.loop-ply.invariant))

pub returns-in-None-clause-made : goal.returns-in-None-clause-made
returns-in-None-clause-made g c =
    let game = (course_of c.args.self.now) in
    let is = going c.loop-ply.invariant.to c.positions_in_play_are_played.ensures (omega (arith, c.loop-ply-test.false, c.loop-ply.auto.ply-end)) c.in-None.ensures in
    by_these (g.F.TableFiles.facts c.args.folder.now.disk) c.args.folder.now.folder (in_play_of game) (IsOutcomeOf game) c.args.set.now.tables c.loop-ply.set.tables Going _ _ c.loop-ply.invariant.to.opened is (reads_all (g.F.TableFiles.facts c.args.folder.now.disk) c.args.folder.now.folder (course_of c.args.self.now) c.args.set.now.tables c.loop-ply.set.tables c.loop-ply.ply c.loop-ply.standing _ _ c.loop-ply.invariant)
