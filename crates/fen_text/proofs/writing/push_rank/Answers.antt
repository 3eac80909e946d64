use Rattle.std.proofs.Common.{◌+◌, ◌++◌, List, ℕ, sym, ap, ◌∙◌, arith, drop}
use Rattle.fen_text.specs.Placement.{rank_men}
use Rattle.fen_text.specs.Written.{rank_text}
use Rattle.fen_text.proofs.PlacementLaws.{rank_cells, rank_ends}
use Rattle.fen_text.proofs.WritingLaws.{rank_text_end}
use Rattle.fen_text.proofs.writing.push_rank.Goals as goal

pub loop-file-preserved : goal.loop-file-preserved
loop-file-preserved c =
    let cells = rank_men c.args.men.now c.args.rank in
    let here = rank_cells c.args.men.now c.args.rank c.loop-file.file c.at-square.result (omega arith) (omega arith) (omega arith) c.at-square.ensures in
    record {
      text = c.push_cell-run.ensures.text (drop (c.loop-file.file + 1) cells) ∙ rw c.at.ensures.man (ap (λ t. c.loop-file.out.bytes ++ rank_text c.loop-file.run t) (sym here)) ∙ c.loop-file.invariant.text;
      len = omega (arith, c.push_cell-run.ensures.len);
      run = omega (arith, c.push_cell-run.ensures.run);
    }

pub returns-clause-text : goal.returns-clause-text
returns-clause-text c =
    let cells = rank_men c.args.men.now c.args.rank in
    let end = rank_text_end c.loop-file.run c.loop-file.file cells (rank_ends c.args.men.now c.args.rank c.loop-file.file (omega arith)) in
    c.push_str.ensures.bytes ∙ ap (λ (t : List ℕ). c.loop-file.out.bytes ++ t) (c.digit.ensures ∙ sym end) ∙ c.loop-file.invariant.text
