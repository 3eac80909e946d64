use Rattle.std.proofs.Common.{rules, ◌≡◌, length, subst, sym}
use Rattle.move_msg.specs.GameTexts.{words_in}
use Rattle.move_notation.specs.Notations.{IsFirstUnread}
use Rattle.move_notation.proofs.TurnLaws.{anyhow, has_words, read_bad, read_more, read_start}
use Rattle.move_notation.proofs.words_in_turn.read_san_moves.Goals as goal

pub loop-word-init : goal.loop-word-init
loop-word-init c = rw c.new-moves.ensures.items (read_start c.args.start.now c.args.text.now)

pub returns-in_default-played-clause-err : goal.returns-in_default-played-clause-err
returns-in_default-played-clause-err c =
    let long : c.len.result ≡ length c.loop-word.moves.items = search rules in
    subst (IsFirstUnread c.args.start.now (words_in c.args.text.now)) (sym long)
    (read_bad _ _ _ c.loop-word.rest.now c.in-Some.word.now c.in-Some.tail.now _ c.loop-word.invariant c.in-Some.ensures.some c.in_default-played.ensures.none)

pub returns-in_err-push-clause-memory : goal.returns-in_err-push-clause-memory
returns-in_err-push-clause-memory c =
    anyhow c.from_residual.result (has_words _ _ _ c.loop-word.rest.now c.in-Some.word.now c.in-Some.tail.now _ c.loop-word.invariant c.in-Some.ensures.some)

pub loop-word-preserved : goal.loop-word-preserved
loop-word-preserved c =
    let played = c.in-Some-played.ensures.some in
    rw c.in_ok-push.ensures.items (read_more _ _ _ _ c.loop-word.rest.now c.in-Some.word.now c.in-Some.tail.now _ c.in-Some-played.m c.loop-word.invariant c.in-Some.ensures.some played.0 played.1)
