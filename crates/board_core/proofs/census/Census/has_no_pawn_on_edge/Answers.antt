use Rattle.std.proofs.Common.{◌≡◌, ◌∙◌, ap, sym, bit_and}
use Rattle.board_core.specs.declared.census.Census.{Census}
use Rattle.board_core.specs.Sides.{squares_where}
use Rattle.board_core.specs.Inside.Census.{is_kind_passing, is_pawn_kind}
use Rattle.board_core.proofs.CensusLaws.{edge, edge_free}
use Rattle.board_core.proofs.census.Census.has_no_pawn_on_edge.Goals as goal

pub returns : goal.returns
returns c = λ men e.
    let is : c.bitand.result ≡ bit_and (squares_where (is_kind_passing is_pawn_kind) men) edge = c.bitand.ensures ∙ ap (bit_and c.args.self.now.pawns) c.from_bits.ensures ∙ ap (λ (x : Census). bit_and x.pawns edge) e in (
      λ t. (edge_free men).0 (sym is ∙ c.is_empty.ensures.0 t),
      λ h. c.is_empty.ensures.1 (is ∙ (edge_free men).1 h),
    )
