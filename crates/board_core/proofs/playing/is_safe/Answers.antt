use Rattle.std.proofs.Common.{arith, rules, refl, Bool, true, false, not, IsTrue}
use Rattle.board_core.proofs.Safety.{only_after, only_safe, enemy_stays}
use Rattle.board_core.proofs.SoleKing.{king_stands_after}
use Rattle.board_core.proofs.playing.is_safe.Goals as goal

pub is_attacked_from-requires : goal.is_attacked_from-requires
is_attacked_from-requires c = λ s b t. c.requires.enemy s b (enemy_stays c.args.p.now c.args.m.now c.args.case s b (omega arith) (omega arith) (omega arith) c.requires.rule (rw (c.move_men.ensures, c.other.ensures) at t))

pub returns : goal.returns
returns c =
    let only = only_after _ _ _ _ _ (omega arith) (omega arith) (omega arith) c.requires.rule c.requires.king c.king_after.ensures.moved c.king_after.ensures.stayed in
    let stands = king_stands_after c.args.p.now c.args.m.now c.args.case _ _ c.requires.position (omega arith) (omega arith) c.requires.rule c.requires.king c.king_after.ensures.moved c.king_after.ensures.stayed in (
      λ t. only_safe _ c.args.p.now.side c.king_after.result only
          (λ a. let x = c.is_attacked_from.ensures.1 (rw (c.move_men.ensures, c.other.ensures) a) in search rules),
      λ safe. is_false _ (λ t. safe (record {
        king = c.king_after.result;
        on_board = omega arith;
        stands = stands;
        attacked = rw (c.move_men.ensures, c.other.ensures) at (c.is_attacked_from.ensures.0 t);
      })),
    )
  where
    is_false : (b : Bool) → (IsTrue b → ⊥) → IsTrue (not b)
    is_false true f = absurd (f refl)
    is_false false f = refl
