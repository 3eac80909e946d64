use Rattle.std.proofs.Common.{arith, inl, inr, sym, ◌∙◌}
use Rattle.std.proofs.lemmas.Bool.{false≢true}
use Rattle.board_core.specs.Inside.Search.{IsRayEnd}
use Rattle.board_core.proofs.Outward.{inside}
use Rattle.board_core.proofs.Clearing.{clear_more}
use Rattle.board_core.proofs.Taken.{taken_if, free_else, free_where_none}
use Rattle.board_core.proofs.Grown.{only_more, up_to, reached_more}
use Rattle.board_core.proofs.targets.with_ray.Goals as goal

pub loop-k-init : goal.loop-k-init
loop-k-init c = record {
  clear = λ k s away lt along. absurd (omega arith);
  kept = λ s bit. bit;
  reached = λ n s away lt b along. absurd (omega arith);
  only = λ s bit. inl bit;
}

pub returns-then-is_of-clause-kept : goal.returns-then-is_of-clause-kept
returns-then-is_of-clause-kept c = c.loop-k.invariant.kept

pub returns-then-is_of-clause-reached : goal.returns-then-is_of-clause-reached
returns-then-is_of-clause-reached c = λ n s away b along clear free.
    let own = taken_if c.args.men.now c.args.side c.along-to.result c.in-Some.man (sym c.in-Some.ensures.man) (c.is_of.ensures.relation.0 c.if-is_of.true) in
    elim (up_to c.args.men.now c.args.direction c.loop-k.k n c.args.from c.along-to.result s c.in-Some.man (sym c.in-Some.ensures.man) (omega arith) c.along-to.ensures along clear) [
      | inl lt ↦ c.loop-k.invariant.reached n s away lt b along
      | inr e ↦ absurd (free own.0 (rw e own.1))
    ]

pub returns-then-is_of-clause-only : goal.returns-then-is_of-clause-only
returns-then-is_of-clause-only c = c.loop-k.invariant.only

pub returns-in-Some-clause-kept : goal.returns-in-Some-clause-kept
returns-in-Some-clause-kept c = λ s bit. c.with.ensures.kept s (c.loop-k.invariant.kept s bit)

pub returns-in-Some-clause-reached : goal.returns-in-Some-clause-reached
returns-in-Some-clause-reached c = λ n s away b along clear free.
    elim (up_to c.args.men.now c.args.direction c.loop-k.k n c.args.from c.along-to.result s c.in-Some.man (sym c.in-Some.ensures.man) (omega arith) c.along-to.ensures along clear) [
      | inl lt ↦ c.with.ensures.kept s (c.loop-k.invariant.reached n s away lt b along)
      | inr e ↦ rw e c.with.ensures.here
    ]

pub returns-in-Some-clause-only : goal.returns-in-Some-clause-only
returns-in-Some-clause-only c =
    only_more (IsRayEnd c.args.men.now c.args.side c.args.direction c.args.from) _ c.loop-k.all _ c.along-to.result c.with.ensures.others
    (record {
      distance = c.loop-k.k;
      away = omega arith;
      along = c.along-to.ensures;
      clear = c.loop-k.invariant.clear;
      free = free_else c.args.men.now c.args.side c.along-to.result c.in-Some.man (sym c.in-Some.ensures.man) (λ e. false≢true (sym c.if-is_of.false ∙ c.is_of.ensures.relation.1 e));
    })
    c.loop-k.invariant.only

pub loop-k-preserved : goal.loop-k-preserved
loop-k-preserved c =
    let i = c.loop-k.invariant in
    record {
      clear = clear_more c.args.men.now c.args.direction c.loop-k.k c.args.from c.along-to.result i.clear c.along-to.ensures (sym c.in_default.ensures.man);
      kept = λ s bit. c.with-all.ensures.kept s (i.kept s bit);
      reached = reached_more c.args.direction c.loop-k.k c.args.from c.loop-k.all _ c.along-to.result c.along-to.ensures c.with-all.ensures.here c.with-all.ensures.kept i.reached;
      only = only_more (IsRayEnd c.args.men.now c.args.side c.args.direction c.args.from) _ c.loop-k.all _ c.along-to.result c.with-all.ensures.others
          (record {
            distance = c.loop-k.k;
            away = omega arith;
            along = c.along-to.ensures;
            clear = i.clear;
            free = free_where_none c.args.men.now c.args.side c.along-to.result (sym c.in_default.ensures.man);
          })
          i.only;
    }

pub returns-clause-kept : goal.returns-clause-kept
returns-clause-kept c = c.loop-k.invariant.kept

pub returns-clause-reached : goal.returns-clause-reached
returns-clause-reached c = λ n s away b along _ _.
    let fits = (c.room-end.ensures.inside n).1 (inside c.args.direction n c.args.from s (omega arith) b along) in
    c.loop-k.invariant.reached n s away (omega arith) b along

pub returns-clause-only : goal.returns-clause-only
returns-clause-only c = c.loop-k.invariant.only
