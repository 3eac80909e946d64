use Rattle.std.proofs.Common.{◌≡◌, ◌<◌, ◌+◌, ◌++◌, ◌∷◌, [], ◌∙◌, ap, sym, subst, take, refl, arith}
use Rattle.std.specs.Prelude.{slice_set}
use Rattle.std.proofs.lemmas.List.{take_more_set, length-take-le, length-set}
use Rattle.place_index.specs.Material.{tally_of}
use Rattle.place_index.specs.Men.{codes_of, man}
use Rattle.place_index.proofs.LookUp.MenOn.{IsSwept, swept_start, swept_next, swept_end, swept_all, swept_some, man_put}
use Rattle.place_index.proofs.Materials.Tallies.{tally_last, tally_none}
use Rattle.place_index.proofs.sweep.men_on.Goals as goal

pub loop-count-init : goal.loop-count-init
loop-count-init c = record {
  swept = swept_start c.args.position.now.men c.occupied-rest.result [] c.occupied-rest.ensures refl;
  few = omega arith;
  size = c.told-men;
  tally = sym (tally_none [] refl);
  most = omega arith;
}

pub unreachable-requires : goal.unreachable-requires
unreachable-requires c =
    swept_some c.args.position.now.men c.loop-count.next c.loop-count.rest c.lowest-square.result (take c.loop-count.count c.loop-count.men) c.loop-count.invariant.swept
    (omega (arith, c.number-number.ensures.value, c.number-number.ensures.on_board)) c.lowest-square.ensures.here (sym c.piece_at.ensures ∙ c.in_default.is)

pub overflow_add-tally : goal.overflow_add-tally
overflow_add-tally c = omega (arith, c.loop-count.invariant.most, c.loop-count-test.true, c.known_tally-tally.ensures.most)

pub loop-count-preserved : goal.loop-count-preserved
loop-count-preserved c =
    let board : c.lowest-square.result < 64 = omega (arith, c.number-number.ensures.value, c.number-number.ensures.on_board) in
    let up : c.lowest-square.result + 1 ≡ c.number-number.result + 1 = ap (λ n. n + 1) (sym c.number-number.ensures.value) in
    let below : c.loop-count.count < 5 = omega (arith, c.loop-count-test.true) in
    let next = man c.of-code.result c.lowest-square.result in
    let more = take (c.loop-count.count + 1) (slice_set c.loop-count.men c.loop-count.count next) in
    let last : more ≡ take c.loop-count.count c.loop-count.men ++ next ∷ [] = take_more_set c.loop-count.men c.loop-count.count next (omega (arith, below, c.loop-count.invariant.size)) in
    rw (man_put c.loop-count.men c.loop-count.count c.of-code.result c.lowest-square.result c.index-men-count.result c.index-men-count-in-loop-count.result (omega (arith, below, c.loop-count.invariant.size))) (record {
      swept = subst (λ n. IsSwept c.args.position.now.men n c.without-rest.result more) up
          (swept_next c.args.position.now.men c.loop-count.next c.loop-count.rest c.lowest-square.result c.without-rest.result (take c.loop-count.count c.loop-count.men) more c.in-Some.piece c.parts-position.ensures.position.squares
          c.loop-count.invariant.swept board c.lowest-square.ensures.here c.lowest-square.ensures.first c.without-rest.ensures.gone c.without-rest.ensures.kept (sym c.piece_at.ensures ∙ c.in-Some.is)
          (last ∙ ap (λ n. take c.loop-count.count c.loop-count.men ++ man n c.lowest-square.result ∷ []) c.of-code.ensures));
      few = omega (arith, below);
      size = length-set c.loop-count.men c.loop-count.count next ∙ c.loop-count.invariant.size;
      tally = omega (arith, c.loop-count.invariant.tally, c.known_tally-tally.ensures.is, tally_last (take c.loop-count.count c.loop-count.men) more next last);
      most = omega (arith, c.loop-count.invariant.most, c.known_tally-tally.ensures.most);
    })

pub returns-then-is_empty-clause-men : goal.returns-then-is_empty-clause-men
returns-then-is_empty-clause-men c =
    swept_end c.args.position.now.men c.loop-count.next c.loop-count.rest (take c.loop-count.count c.loop-count.men) c.parts-position.ensures.position.squares c.loop-count.invariant.swept
    (c.is_empty.ensures.0 c.if-is_empty.true)

pub returns-then-is_empty-clause-tally : goal.returns-then-is_empty-clause-tally
returns-then-is_empty-clause-tally c = c.loop-count.invariant.tally ∙ ap (λ men. tally_of (codes_of men)) (returns-then-is_empty-clause-men c)

pub returns-clause-men : goal.returns-clause-men
returns-clause-men c =
    let all : 5 ≡ c.loop-count.count = omega (arith, c.loop-count-test.false, c.loop-count.invariant.few) in
    let size = length-take-le c.loop-count.count c.loop-count.men (omega (arith, c.loop-count.invariant.size, c.loop-count.invariant.few)) in
    ap (λ n. take n c.loop-count.men) all
    ∙ swept_all c.args.position.now.men c.loop-count.next c.loop-count.rest (take c.loop-count.count c.loop-count.men) c.loop-count.invariant.swept (omega (arith, c.requires, all, size))

pub returns-clause-tally : goal.returns-clause-tally
returns-clause-tally c =
    let size = length-take-le c.loop-count.count c.loop-count.men (omega (arith, c.loop-count.invariant.size, c.loop-count.invariant.few)) in
    c.loop-count.invariant.tally
    ∙ ap (λ men. tally_of (codes_of men))
    (swept_all c.args.position.now.men c.loop-count.next c.loop-count.rest (take c.loop-count.count c.loop-count.men) c.loop-count.invariant.swept (omega (arith, c.requires, c.loop-count-test.false, size)))
