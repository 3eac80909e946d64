use Rattle.std.proofs.Common.{◌∙◌, sym, ap, slice_index, refl, inl, inr, arith}
use Rattle.std.proofs.lemmas.Bool.{cases_eq, cases_lt}
use Rattle.place_index.specs.Pawns.{pawn_number}
use Rattle.place_index.proofs.Indices.Collecting.{numbers_end, numbers_pass, greatest_more, greatest_same}
use Rattle.place_index.proofs.turning.greatest_number.Goals as goal

pub men-init : goal.men-init
men-init c = record { is = sym (ap (λ l. slice_index l 0) (numbers_end c.args.men.now c.args.code)); within = omega arith }

pub men-preserved : goal.men-preserved
men-preserved c =
    let man = c.index-men-i.result in
    record {
      is = elim (cases_eq man.code c.args.code) [
        | inr other ↦ c.raised-greatest.ensures.other other ∙ c.men.invariant.is
            ∙ ap (λ l. slice_index l 0) (numbers_pass c.args.men.now c.men.i c.args.code man c.men-test.true c.men.invariant.within c.index-men-i.is other)
        | inl one ↦ elim (cases_lt c.men.greatest (pawn_number man.square)) [
          | inl lt ↦ c.raised-greatest.ensures.more one lt
              ∙ greatest_more c.args.men.now c.men.i c.args.code c.men.greatest (pawn_number man.square) man c.requires.men c.requires.pawns c.men-test.true c.men.invariant.within c.index-men-i.is one c.men.invariant.is refl lt
          | inr le ↦ c.raised-greatest.ensures.same one le
              ∙ greatest_same c.args.men.now c.men.i c.args.code c.men.greatest (pawn_number man.square) man c.requires.men c.requires.pawns c.men-test.true c.men.invariant.within c.index-men-i.is one c.men.invariant.is refl le
        ]
      ];
      within = omega (arith, c.men.invariant.within);
    }
