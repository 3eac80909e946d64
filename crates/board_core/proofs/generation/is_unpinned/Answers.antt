use Rattle.std.proofs.Common.{arith, rules, ◌≢◌, subst, sym}
use Rattle.board_core.specs.declared.piece.Kind.TheVariants.{Queen}
use Rattle.board_core.specs.Attack.{Ray}
use Rattle.board_core.specs.Inside.Search.{IsAttackedAlong}
use Rattle.board_core.specs.Side.{other}
use Rattle.board_core.proofs.Safety.{free_to_go}
use Rattle.board_core.proofs.generation.is_unpinned.Goals as goal

pub returns : goal.returns
returns c = λ t m k here to rule carry.
    let p = c.args.p.now in
    let king = c.args.g.now.king in
    let out_of_check = c.requires.out_of_check (search rules) in
    let away : c.args.from ≢ king = search rules in
    let unpinned : (r : Ray p.men Queen king c.args.from) → IsAttackedAlong p.men (other p.side) r.direction c.args.from → ⊥ =
    λ r s. let x = c.is_pinned.ensures r (rw c.other.ensures s) in search rules in
    free_to_go _ m k _ (omega arith) (omega arith) to rule carry (rw here away) c.requires.only out_of_check
    (subst (λ f. (r : Ray p.men Queen king f) → IsAttackedAlong p.men (other p.side) r.direction f → ⊥) (sym here) unpinned)
