use Rattle.std.proofs.Common.{◌≡◌, Some, None, arith, sym, ◌∙◌}
use Rattle.board_core.specs.Attack.{man_at}
use Rattle.board_core.proofs.CensusLaws.{census_none, census_skip, census_with, census_all}
use Rattle.board_core.proofs.census.Census.of.Goals as goal
use Rattle.board_core.proofs.census.Census.of.Goals.{in-Some, in_default}

pub loop-n-init : goal.loop-n-init
loop-n-init c = census_none c.args.men.now _ c.empty.ensures c.empty-2.ensures c.empty-3.ensures c.empty-4.ensures

pub loop-n-preserved : goal.loop-n-preserved
loop-n-preserved c = elim c.match-at.branch [
  | in-Some w ↦
      let there : man_at c.args.men.now c.loop-n.n ≡ Some w.in-Some.man = rw c.at.ensures at (sym c.at-in-loop-n.ensures.man ∙ w.in-Some.is) in
      let added = rw w.at-in-Some.ensures at w.with-census.ensures in
      rw w.census-is (census_with c.args.men.now c.loop-n.n c.loop-n.census _ w.in-Some.man there c.loop-n.invariant added.white added.black added.kings added.pawns)
  | in_default w ↦
      let there : man_at c.args.men.now c.loop-n.n ≡ None = rw c.at.ensures at (sym c.at-in-loop-n.ensures.man ∙ w.in_default.is) in
      rw w.census-is (census_skip c.args.men.now c.loop-n.n c.loop-n.census there c.loop-n.invariant)
]

pub returns : goal.returns
returns c = census_all c.args.men.now c.loop-n.n c.loop-n.census (omega arith) c.loop-n.invariant
