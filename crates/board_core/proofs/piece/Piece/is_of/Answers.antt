use Rattle.std.proofs.Common.{◌≡◌, refl, sym, ◌∙◌}
use denote.Enum.Bare.{sameb, same_true, true_same}
use Rattle.board_core.specs.contracts.piece.Side.{the_type}
use Rattle.board_core.specs.declared.piece.Side.{Side}
use Rattle.board_core.specs.declared.piece.Side.TheVariants.{White, Black}
use Rattle.board_core.specs.Position.{is_same_side}
use Rattle.board_core.proofs.piece.Piece.is_of.Goals as goal

side_told : (a b : Side) → sameb the_type a b ≡ is_same_side b a
side_told White White = refl
side_told White Black = refl
side_told Black White = refl
side_told Black Black = refl

pub returns-clause-relation : goal.returns-clause-relation
returns-clause-relation c = (
  λ t. same_true the_type tt c.args.self.side c.args.side (sym c.eq.ensures ∙ t),
  λ e. c.eq.ensures ∙ true_same the_type c.args.self.side c.args.side e,
)

pub returns-clause-computed : goal.returns-clause-computed
returns-clause-computed c = c.eq.ensures ∙ side_told c.args.self.side c.args.side
