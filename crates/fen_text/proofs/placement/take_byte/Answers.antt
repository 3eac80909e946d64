use Rattle.std.proofs.Common.{inl, inr, List, ◌+◌, ◌-◌, ◌++◌, Option, Some, subst, sym, arith, ◌∙◌}
use Rattle.std.specs.Prelude.{slice_set}
use Rattle.board_core.specs.declared.piece.Piece.{Piece}
use Rattle.fen_text.specs.Inside.Scan.{IsFilled}
use Rattle.fen_text.proofs.BoardLaws.{fill_run, fill_man}
use Rattle.fen_text.proofs.RankLaws.{run_cells, man_cells}
use Rattle.fen_text.proofs.placement.take_byte.Goals as goal

pub returns-else-at-run-clause-puts : goal.returns-else-at-run-clause-puts
returns-else-at-run-clause-puts c = λ before tail h.
    subst (λ (cells : List (Option Piece)). IsFilled c.args.men.now (before ++ cells) (c.args.at.square + (c.args.byte - 48)) (c.args.at.left - (c.args.byte - 48)) tail)
    (sym (run_cells c.args.byte c.if-byte-ge49.true c.if-byte-le56.true))
    (fill_run c.args.men.now before c.args.at.square c.args.at.left (c.args.byte - 48) tail (omega arith) h)

pub returns-else-at-eq0-clause-puts : goal.returns-else-at-eq0-clause-puts
returns-else-at-eq0-clause-puts c = λ before tail h.
    rw (c.put.ensures, c.at.ensures) (subst (λ (cells : List (Option Piece)). IsFilled (slice_set c.args.men.now c.args.at.square (Some c.in-Some.man)) (before ++ cells) (c.args.at.square + 1) (c.args.at.left - 1) tail)
    (sym (man_cells c.args.byte c.in-Some.man (elim c.else-byte-ge49.either [ inl w ↦ inr w.1 | inr w ↦ inl w ]) (sym c.man_of.ensures ∙ c.in-Some.is)))
    (fill_man c.args.men.now before c.args.at.square c.args.at.left c.in-Some.man tail (omega arith) h))
