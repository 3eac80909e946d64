use Rattle.std.proofs.Common.{◌∙◌, List, ap, sym, subst, All}
use Rattle.std.proofs.lemmas.List.Elements.{All-replicate}
use Rattle.judge_core.specs.declared.blocks.MarkedBlock.{MarkedBlock}
use Rattle.judge_core.specs.declared.blocks.Blocks.{Blocks}
use Rattle.judge_core.specs.Blocks.{IsMarked, keyed_part}
use Rattle.judge_core.proofs.blocks.Blocks.marked_place.Goals.{then-is_empty+in-Ok, else-is_empty}
use Rattle.judge_core.proofs.blocks.Blocks.marked_place.Goals as goal

pub returns-clause-marked : goal.returns-clause-marked
returns-clause-marked c = λ tables part on all. elim c.if-is_empty.branch [
  | then-is_empty+in-Ok w ↦ (
      let fresh : IsMarked tables w.new.result = record {
        part = part;
        on = ap (keyed_part tables) w.new.ensures.key ∙ on;
        marks = w.new.ensures.marks part w.new.result.key.block;
      } in
      subst (λ (b : Blocks). All (IsMarked tables) b.marked.items) (sym w.self-is)
      (subst (λ (all : List MarkedBlock). All (IsMarked tables) all) (sym (w.in-Ok.ensures.items_if_clones_equal (λ y e. e))) (All-replicate (IsMarked tables) 2048 w.new.result fresh)))
  | else-is_empty w ↦ subst (λ (b : Blocks). All (IsMarked tables) b.marked.items) (sym w.self-is) all
]
