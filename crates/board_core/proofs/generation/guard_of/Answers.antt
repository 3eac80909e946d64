use Rattle.std.proofs.Common.{arith, rules}
use Rattle.board_core.specs.declared.piece.Kind.TheVariants.{King}
use Rattle.board_core.proofs.Attacked.{attack_emptied, emptied_free}
use Rattle.board_core.proofs.Taken.{stands_within}
use Rattle.board_core.proofs.generation.guard_of.Goals as goal

pub returns : goal.returns
returns c =
    let v = c.requires.survey in
    let within = stands_within c.args.p.now.men c.args.v.now.king c.args.p.now.side King v.stands in
    record {
      enemy = v.enemy;
      only = v.only;
      out_of_check = λ t a.
          let attacked_along = c.requires.attacked _ (omega arith) (emptied_free c.args.p.now.men c.args.p.now.side c.args.v.now.king within) (attack_emptied c.args.p.now.men c.args.p.now.side King c.args.v.now.king within v.stands a) in
          let has = c.has.ensures.1 attacked_along in
          search rules;
      attacked = c.requires.attacked;
    }
