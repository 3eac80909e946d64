use Rattle.std.proofs.Common.{Option, ◌<◌}
use Rattle.board_core.specs.declared.piece.Promotion.{Promotion}
use Rattle.board_core.specs.Moves.{IsLegal, promotion_place}
use Rattle.board_core.specs.Inside.Search.{IsSought}
use Rattle.board_core.proofs.Listing.{make}
use Rattle.board_core.proofs.mobility.may_go.Given as goal

abbrev pub invariant-loop-place : goal.invariant-loop-place
invariant-loop-place l = (o : Option Promotion) → IsLegal l.p (make l.from l.to o) → IsSought l.sought l.p (make l.from l.to o) → promotion_place o < l.place → ⊥
