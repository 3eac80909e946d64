use Rattle.std.proofs.Common.{arith, rules}
use Rattle.board_core.proofs.Attacked.{king_away}
use Rattle.board_core.proofs.generation.is_safe.Goals as goal

pub returns-then-is_king_away : goal.returns-then-is_king_away
returns-then-is_king_away c =
    let away = c.is_king_away.ensures (search rules) in (
      λ _. rw away.1 (king_away _ _ _ _ (omega arith) (omega arith) (omega arith) (rw away.1 at c.requires.rule) away.0 c.requires.guard.only c.requires.guard.attacked away.2),
      λ _. search rules,
    )
