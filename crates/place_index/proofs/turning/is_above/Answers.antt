use Rattle.std.proofs.Common.{◌≡◌, ◌∙◌, ap, sym, ltb, slice_index}
use Rattle.std.proofs.lemmas.List.{get_or_default}
use Rattle.place_index.specs.Square.{file}
use Rattle.place_index.specs.Inside.Turns.{turn_square}
use Rattle.place_index.proofs.Turns.Mirrorings.{above_off, above_on, above_end}
use Rattle.place_index.proofs.turning.is_above.Goals as goal

pub returns-then-file-rank : goal.returns-then-file-rank
returns-then-file-rank c =
    let at : c.square-square.result ≡ turn_square c.args.turn (slice_index c.args.lone_squares.now (slice_index c.args.lead.now c.loop-code.code-index)) =
    c.square-square.ensures ∙ ap (turn_square c.args.turn) c.of-from.ensures
    ∙ ap (λ k. turn_square c.args.turn (slice_index c.args.lone_squares.now k)) (c.code-item.is ∙ get_or_default c.args.lead.now c.loop-code.code-index c.code-item.result 0 c.loop-code-test.true) in
    ap (λ f. ltb f c.rank-rank.result) c.file-file.ensures.value ∙ ap (ltb (file c.square-square.result)) c.rank-rank.ensures.value ∙ sym (c.loop-code.invariant ∙ above_off (λ k. turn_square c.args.turn (slice_index c.args.lone_squares.now k)) c.args.lead.now c.loop-code.code-index c.square-square.result c.loop-code-test.true at (λ e. c.if-file-rank.true (c.file-file.ensures.value ∙ e ∙ sym c.rank-rank.ensures.value)))

pub loop-code-preserved : goal.loop-code-preserved
loop-code-preserved c =
    let at : c.square-square.result ≡ turn_square c.args.turn (slice_index c.args.lone_squares.now (slice_index c.args.lead.now c.loop-code.code-index)) =
    c.square-square.ensures ∙ ap (turn_square c.args.turn) c.of-from.ensures
    ∙ ap (λ k. turn_square c.args.turn (slice_index c.args.lone_squares.now k)) (c.code-item.is ∙ get_or_default c.args.lead.now c.loop-code.code-index c.code-item.result 0 c.loop-code-test.true) in
    c.loop-code.invariant ∙ above_on (λ k. turn_square c.args.turn (slice_index c.args.lone_squares.now k)) c.args.lead.now c.loop-code.code-index c.square-square.result c.loop-code-test.true at (sym c.file-file.ensures.value ∙ c.if-file-rank.false ∙ c.rank-rank.ensures.value)

pub returns : goal.returns
returns c = sym (c.loop-code.invariant ∙ above_end (λ k. turn_square c.args.turn (slice_index c.args.lone_squares.now k)) c.args.lead.now c.loop-code.code-index c.loop-code-test.false)
