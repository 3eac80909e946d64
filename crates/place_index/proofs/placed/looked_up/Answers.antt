use Rattle.std.proofs.Common.{◌≡◌, ◌∙◌, cond, take, ap, refl, sym, subst, arith}
use Rattle.place_index.specs.Men.{exchanged}
use Rattle.place_index.specs.Index.{IsPlacement}
use Rattle.board_core.specs.Side.{other}
use Rattle.place_index.specs.Placed.{IsNamed, men_on}
use Rattle.place_index.specs.Square.{left_file}
use Rattle.place_index.proofs.LookUp.Colours.{taken_in_colours}
use Rattle.place_index.proofs.LookUp.MenOn.{stood, placement_in_colours}
use Rattle.place_index.proofs.Turns.TurnedPawns.{left_is}
use Rattle.place_index.proofs.placed.looked_up.Goals as goal

pub lead_square-lead-requires : goal.lead_square-lead-requires
lead_square-lead-requires c =
    let men : take c.args.count c.in_colours.new.men ≡ cond c.args.exchanges (exchanged (men_on c.args.position.now.men)) (men_on c.args.position.now.men) =
    taken_in_colours c.args.count c.args.men c.in_colours.new.men (men_on c.args.position.now.men) c.args.exchanges c.in_colours.ensures c.requires.men in
    subst (IsPlacement c.args.material) (sym men)
    (placement_in_colours c.args.material c.args.position.now.men c.args.exchanges (stood c.args.position.now c.parts-position.ensures.position) c.requires.named)

pub invariant_of-result : goal.invariant_of-result
invariant_of-result c =
    let men : take c.args.count c.in_colours.new.men ≡ cond c.args.exchanges (exchanged (men_on c.args.position.now.men)) (men_on c.args.position.now.men) =
    taken_in_colours c.args.count c.args.men c.in_colours.new.men (men_on c.args.position.now.men) c.args.exchanges c.in_colours.ensures c.requires.men in
    record {
      material = omega (arith, c.key-key.ensures.is, c.key-key.ensures.below);
      count = c.requires.few;
      men = subst (IsPlacement c.args.material) (sym men)
          (placement_in_colours c.args.material c.args.position.now.men c.args.exchanges (stood c.args.position.now c.parts-position.ensures.position) c.requires.named);
      lead = c.lead_square-lead.ensures;
      file = c.of.ensures ∙ ap left_file c.lead_square-lead.ensures ∙ left_is c.args.material (take c.args.count c.in_colours.new.men);
    }

pub returns : goal.returns
returns c =
    let men : take c.args.count c.in_colours.new.men ≡ cond c.args.exchanges (exchanged (men_on c.args.position.now.men)) (men_on c.args.position.now.men) =
    taken_in_colours c.args.count c.args.men c.in_colours.new.men (men_on c.args.position.now.men) c.args.exchanges c.in_colours.ensures c.requires.men in
    let side : c.side_after.result ≡ cond c.args.exchanges (other c.args.position.now.side) c.args.position.now.side =
    c.side_after.ensures ∙ ap (λ s. cond c.args.exchanges (other s) s) c.side.ensures in
    record {
      is_exchanged = c.args.exchanges;
      material = refl;
      men = men;
      named = subst (IsNamed c.args.material) (sym men) c.requires.named;
      side = side;
      white = λ symmetric. side ∙ c.requires.white symmetric;
      file = c.of.ensures ∙ ap left_file c.lead_square-lead.ensures ∙ left_is c.args.material (take c.args.count c.in_colours.new.men);
    }
