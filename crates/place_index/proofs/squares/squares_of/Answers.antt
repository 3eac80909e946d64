use Rattle.std.proofs.Common.{◌∙◌, sym, ap, length, drop, arith}
use Rattle.place_index.specs.Men.{man, squares_of}
use Rattle.place_index.specs.Inside.ShortLists.{inserted}
use Rattle.place_index.specs.Inside.Turns.{turn_square, turned_by}
use Rattle.place_index.proofs.Materials.Comparing.{differs, same}
use Rattle.place_index.proofs.Indices.Collecting.{squares_end, squares_pass, squares_take, squares_room}
use Rattle.place_index.proofs.Turns.Mirrorings.{turned_men, turned_at, turned_within, turned_length}
use Rattle.place_index.proofs.squares.squares_of.Goals as goal

pub men-init : goal.men-init
men-init c = record {
  is = c.new-squares.ensures ∙ sym (squares_end (turned_by c.args.turn c.args.men.now) c.args.code) ∙ ap (λ n. squares_of (drop n (turned_by c.args.turn c.args.men.now)) c.args.code) (turned_length c.args.turn c.args.men.now);
  within = omega arith;
}

pub men-preserved-then-ne : goal.men-preserved-then-ne
men-preserved-then-ne c = record {
  is = c.men.invariant.is
      ∙ squares_pass (turned_by c.args.turn c.args.men.now) c.men.i c.args.code (man c.index-men-i.result.code (turn_square c.args.turn c.index-men-i.result.square)) c.men-test.true
      (turned_within c.args.turn c.args.men.now c.men.i c.men.invariant.within) (turned_at c.args.turn c.args.men.now c.men.i c.index-men-i.result c.men-test.true c.men.invariant.within c.index-men-i.is) (differs c.index-men-i.result.code c.args.code c.ne.result c.ne.ensures c.if-ne.true);
  within = omega (arith, c.men.invariant.within);
}

pub men-preserved : goal.men-preserved
men-preserved c = record {
  is = c.insert.ensures ∙ ap (λ n. inserted n c.men.squares) (c.number.ensures.value ∙ c.square-square.ensures) ∙ ap (inserted (turn_square c.args.turn c.index-men-i.result.square)) c.men.invariant.is
      ∙ squares_take (turned_by c.args.turn c.args.men.now) c.men.i c.args.code (man c.index-men-i.result.code (turn_square c.args.turn c.index-men-i.result.square)) (turned_men c.args.turn c.args.men.now c.requires.men) c.men-test.true
      (turned_within c.args.turn c.args.men.now c.men.i c.men.invariant.within) (turned_at c.args.turn c.args.men.now c.men.i c.index-men-i.result c.men-test.true c.men.invariant.within c.index-men-i.is) (same c.index-men-i.result.code c.args.code c.ne.result c.ne.ensures c.if-ne.false);
  within = omega (arith, c.men.invariant.within);
}

pub insert-requires : goal.insert-requires
insert-requires c =
    omega (
      arith,
      c.requires.few,
      ap length c.men.invariant.is,
      squares_room (turned_by c.args.turn c.args.men.now) c.men.i c.args.code (man c.index-men-i.result.code (turn_square c.args.turn c.index-men-i.result.square)) (turned_men c.args.turn c.args.men.now c.requires.men) c.men-test.true
          (turned_within c.args.turn c.args.men.now c.men.i c.men.invariant.within) (turned_at c.args.turn c.args.men.now c.men.i c.index-men-i.result c.men-test.true c.men.invariant.within c.index-men-i.is) (same c.index-men-i.result.code c.args.code c.ne.result c.ne.ensures c.if-ne.false),
    )
