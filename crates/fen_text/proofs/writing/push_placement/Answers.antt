use Rattle.std.proofs.Common.{◌+◌, ◌-◌, ◌++◌, List, ℕ, ap, sym, ◌∙◌, arith, ◌∷◌, []}
use Rattle.fen_text.proofs.PlacementLaws.{left_text, left_all, left_more, left_last}
use Rattle.fen_text.proofs.writing.push_placement.Goals as goal

pub loop-above-init : goal.loop-above-init
loop-above-init c = record {
  text = ap (λ (t : List ℕ). c.args.out.now.bytes ++ t) (left_all c.args.men.now);
  len = omega arith;
}

pub loop-above-preserved : goal.loop-above-preserved
loop-above-preserved c =
    let men = c.args.men.now in
    let above = c.loop-above.above in
    let slash = c.push_str.ensures.bytes ∙ ap (λ (t : List ℕ). t ++ 47 ∷ []) c.push_rank.ensures.text in
    record {
      text = ap (λ (k : ℕ). c.push_str.new.self.bytes ++ left_text men k) {x = 8 - (above + 1)} {y = 7 - above} (omega arith)
          ∙ ap (λ (t : List ℕ). t ++ left_text men (7 - above)) slash ∙ left_more men above c.loop-above.out.bytes c.loop-above-test.true ∙ c.loop-above.invariant.text;
      len = omega (arith, c.push_rank.ensures.len, c.push_str.ensures.len);
    }

pub returns-clause-text : goal.returns-clause-text
returns-clause-text c =
    let men = c.args.men.now in
    c.push_rank-2.ensures.text ∙ ap (λ (t : List ℕ). c.loop-above.out.bytes ++ t) (sym (left_last men))
    ∙ ap (λ (k : ℕ). c.loop-above.out.bytes ++ left_text men k) {x = 1} {y = 8 - c.loop-above.above} (omega arith)
    ∙ c.loop-above.invariant.text
