use Rattle.std.proofs.Common.{◌≡◌, ◌∙◌, ap}
use Rattle.board_core.specs.Position.{is_of}
use Rattle.board_core.specs.Side.{other}
use Rattle.board_core.specs.Sides.{side_squares, squares_where}
use Rattle.board_core.specs.declared.sides.Sides.{Sides}
use Rattle.board_core.proofs.SideSets.{in_set, set_only, side_set}
use Rattle.board_core.proofs.SoleKing.{one_king}
use Rattle.board_core.proofs.generation.survey_of.Goals as goal

pub king_of-requires-clause-own : goal.king_of-requires-clause-own
king_of-requires-clause-own c =
    c.of_side-own.ensures ∙ ap (λ (x : Sides). side_squares x c.args.p.now.side) c.requires.sides ∙ side_set c.args.p.now.men c.args.p.now.side

pub king_of-requires-clause-one : goal.king_of-requires-clause-one
king_of-requires-clause-one c = one_king c.args.p.now c.args.p.now.side c.requires.position

pub returns : goal.returns
returns c =
    let men = c.args.p.now.men in
    let side = c.args.p.now.side in
    let own : c.of_side-own.result ≡ squares_where (is_of side) men =
    c.of_side-own.ensures ∙ ap (λ (x : Sides). side_squares x side) c.requires.sides ∙ side_set men side in
    let enemy : c.of_side.result ≡ squares_where (is_of (other side)) men =
    rw c.other.ensures at c.of_side.ensures ∙ ap (λ (x : Sides). side_squares x (other side)) c.requires.sides ∙ side_set men (other side) in
    record {
      own = λ s _ t. rw own (in_set men side s t);
      enemy = λ s _ t. rw enemy (in_set men (other side) s t);
      enemy_only = λ s bit. set_only men (other side) s (rw enemy at bit);
      only = c.king_of.ensures.only;
      stands = c.king_of.ensures.stands;
    }
