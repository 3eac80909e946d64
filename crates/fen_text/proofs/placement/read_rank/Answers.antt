use Rattle.std.proofs.Common.{◌≡◌, ◌+◌, ◌++◌, List, Option, eqb, sym, ap, subst, ◌∙◌, arith, take, get_or, append_assoc}
use Rattle.std.proofs.lemmas.Bool.{OnTrue_from, OnFalse_from}
use Rattle.std.proofs.lemmas.Grind.{common_steps}
use Rattle.std.specs.List.{flat_map}
use Rattle.board_core.specs.declared.piece.Piece.{Piece}
use Rattle.fen_text.specs.Placement.{cells_of}
use Rattle.fen_text.specs.Inside.Scan.{IsFilled}
use Rattle.fen_text.proofs.ScanLaws.{fills_next, fills_stuck, fills_end}
use Rattle.fen_text.proofs.placement.read_rank.Goals as goal

pub returns-in-None-clause-no : goal.returns-in-None-clause-no
returns-in-None-clause-no c =
    sym c.loop-byte.invariant.rest ∙ fills_stuck c.args.text.now c.loop-byte.byte-index c.loop-byte.at.after_run c.loop-byte.at.left c.loop-byte-test.true c.in-None.ensures.none

pub loop-byte-preserved : goal.loop-byte-preserved
loop-byte-preserved c = record {
  rest = sym (fills_next c.args.text.now c.loop-byte.byte-index c.loop-byte.at.after_run c.loop-byte.at.left (c.in-Some.next.after_run, c.in-Some.next.left) c.loop-byte-test.true c.in-Some.ensures.steps) ∙ c.loop-byte.invariant.rest;
  place = c.in-Some.ensures.moves ∙ c.loop-byte.invariant.place;
  puts = λ before tail h.
      let cells = flat_map cells_of (take c.loop-byte.byte-index c.args.text.now) in
      let byte = get_or c.args.text.now c.loop-byte.byte-index 0 in
      let more : flat_map cells_of (take (c.loop-byte.byte-index + 1) c.args.text.now) ≡ cells ++ cells_of byte = grind (arith, common_steps) in
      let all : before ++ flat_map cells_of (take (c.loop-byte.byte-index + 1) c.args.text.now) ≡ (before ++ cells) ++ cells_of byte =
      ap (λ (t : List (Option Piece)). before ++ t) more ∙ sym (append_assoc before cells (cells_of byte)) in
      subst (λ (t : List (Option Piece)). IsFilled c.take_byte.new.men t c.in-Some.next.square c.in-Some.next.left tail) (sym all)
      (c.in-Some.ensures.puts (before ++ cells) tail (c.loop-byte.invariant.puts before tail h));
}

pub returns-clause-rank : goal.returns-clause-rank
returns-clause-rank c =
    let end = fills_end c.args.text.now c.loop-byte.byte-index c.loop-byte.at.after_run c.loop-byte.at.left c.loop-byte-test.false in
    OnTrue_from (eqb c.loop-byte.at.left 0) _ (λ t. sym c.loop-byte.invariant.rest ∙ end ∙ t)

pub returns-clause-no : goal.returns-clause-no
returns-clause-no c =
    let end = fills_end c.args.text.now c.loop-byte.byte-index c.loop-byte.at.after_run c.loop-byte.at.left c.loop-byte-test.false in
    OnFalse_from (eqb c.loop-byte.at.left 0) _ (λ t. sym c.loop-byte.invariant.rest ∙ end ∙ t)
