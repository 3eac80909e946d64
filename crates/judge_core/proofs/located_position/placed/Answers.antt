use Rattle.std.proofs.Common.{sym}
use Rattle.judge_core.proofs.LookUp.{material_found, material_none, placed_is}
use Rattle.judge_core.proofs.located_position.placed.Goals as goal

pub returns-in-None : goal.returns-in-None
returns-in-None c = sym (material_none _ c.in-None.ensures.none)

pub returns-in-Some : goal.returns-in-Some
returns-in-Some c = record {
  found = sym (material_found _ _ c.men-men.ensures.known c.in-Some.ensures.material);
  is = placed_is _ _ _ c.men-men.ensures.known c.in-Some.ensures.placed;
}
