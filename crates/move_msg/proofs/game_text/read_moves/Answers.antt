use Rattle.std.proofs.Common.{rules, ◌≡◌, true, false, length, sym, subst}
use Rattle.move_msg.specs.GameTexts.{IsBadWordAt, words_in}
use Rattle.move_msg.specs.Inside.GameSteps.{AddsWord}
use Rattle.move_msg.proofs.GameTextLaws.{anyhow, has_move, read_more, read_all, read_bad}
use Rattle.move_msg.proofs.game_text.read_moves.Goals as goal

pub returns-then-not-is_move-clause-err : goal.returns-then-not-is_move-clause-err
returns-then-not-is_move-clause-err c =
    let none : c.in_ok-is_move.is_move ≡ false = search rules in
    let adds : AddsWord c.in-Some.word.now c.loop-word.moves.items c.add_word.new.moves.items false = subst (λ is. AddsWord c.in-Some.word.now c.loop-word.moves.items c.add_word.new.moves.items is) none c.in_ok-is_move.ensures.added in
    let long : c.len.result ≡ length c.add_word.new.moves.items = search rules in
    subst (λ n. IsBadWordAt (words_in c.args.text.now) n) (sym long) (read_bad _ _ _ _ _ _ c.loop-word.invariant c.in-Some.ensures.some adds)

pub loop-word-preserved : goal.loop-word-preserved
loop-word-preserved c =
    let some : c.in_ok-is_move.is_move ≡ true = search rules in
    read_more _ _ _ _ _ _ c.loop-word.invariant c.in-Some.ensures.some (subst (λ is. AddsWord c.in-Some.word.now c.loop-word.moves.items c.add_word.new.moves.items is) some c.in_ok-is_move.ensures.added)

pub returns-then-not-is_move-2-clause-err : goal.returns-then-not-is_move-2-clause-err
returns-then-not-is_move-2-clause-err c =
    let none : c.in_ok-is_move-2.is_move ≡ false = search rules in
    let adds : AddsWord c.loop-word.rest.now c.loop-word.moves.items c.add_word-2.new.moves.items false = subst (λ is. AddsWord c.loop-word.rest.now c.loop-word.moves.items c.add_word-2.new.moves.items is) none c.in_ok-is_move-2.ensures.added in
    let long : c.len-then-not-is_move-2.result ≡ length c.add_word-2.new.moves.items = search rules in
    subst (λ n. IsBadWordAt (words_in c.args.text.now) n) (sym long) (read_bad _ _ _ _ _ _ c.loop-word.invariant c.in_default.ensures.none adds)

pub returns-clause-ok : goal.returns-clause-ok
returns-clause-ok c =
    let some : c.in_ok-is_move-2.is_move ≡ true = search rules in
    read_all _ _ _ _ c.loop-word.invariant c.in_default.ensures.none (subst (λ is. AddsWord c.loop-word.rest.now c.loop-word.moves.items c.add_word-2.new.moves.items is) some c.in_ok-is_move-2.ensures.added)

pub returns-in_err-is_move-clause-memory : goal.returns-in_err-is_move-clause-memory
returns-in_err-is_move-clause-memory c = anyhow c.from_residual.result (has_move _ _ _ _ _ c.loop-word.invariant c.in-Some.ensures.some c.in_err-is_move.ensures.memory)

pub returns-in_err-is_move-2-clause-memory : goal.returns-in_err-is_move-2-clause-memory
returns-in_err-is_move-2-clause-memory c = anyhow c.from_residual-in_err-is_move-2.result (has_move _ _ _ _ _ c.loop-word.invariant c.in_default.ensures.none c.in_err-is_move-2.ensures.memory)
