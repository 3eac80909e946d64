-- How a game ends that is judged without tables: on the board alone (FIDE Laws of Chess, articles 5.1.1, 5.2.1 and 5.2.2).
use Rattle.std.specs.Prelude.{◌≡◌, ◌≤◌, ◌<◌, ◌-◌, ℕ, IsTrue, IsFalse, List, take, Some, None}
use Rattle.board_core.specs.declared.parts.Parts.{Parts}
use Rattle.board_core.specs.declared.moves.Move.{Move}
use Rattle.board_core.specs.declared.verdict.Verdict.{Verdict}
use Rattle.board_core.specs.declared.verdict.Verdict.TheVariants.{Stalemate, TableDraw}
use Rattle.board_core.specs.Castling.{has_any_right}
use Rattle.board_core.specs.ComputedMoves.{legal_moves, count_of_men}
use Rattle.board_core.specs.Ends.{has_no_move, is_checkmate, is_stalemate}
use Rattle.table_file.specs.declared.kind.TableKind.{TableKind}
use Rattle.judge_core.specs.Games.{Rules, position_after_all}
use Rattle.judge_core.specs.Ruling.{mate_of}
use Rattle.judge_core.specs.Tables.{Tables, table_at}

-- there is no table of any kind and material
abbrev pub HasNoTable : Tables → Type 0
HasNoTable tables = (kind : TableKind) (key : ℕ) → table_at tables kind key ≡ None

-- The two kings alone are left, so that neither side can mate (5.2.2). There is a legal move, and no right to castle, which takes
-- a rook.
pub record IsBareKings (p : Parts) : Type 0 where
  pub two : count_of_men p ≤ 2
  pub a_move : IsFalse (has_no_move (legal_moves p))
  pub no_right : IsFalse (has_any_right p.rights)

-- bare kings stand at this ply
pub record HasBareKings (rules : Rules) (moves : List Move) (ply : ℕ) : Type 0 where
  pub position : Parts
  pub stands : position_after_all rules.start (take ply moves) ≡ Some position
  pub bare : IsBareKings position

-- The game ends so at this ply: checkmate and stalemate at once, and bare kings, which are a draw by tables, once they have stood
-- for as many plies as the delay says.
pub data EndsAt (rules : Rules) (moves : List Move) (ply : ℕ) (v : Verdict) : Type 0 where
  checkmate : {p : Parts} → position_after_all rules.start (take ply moves) ≡ Some p → IsTrue (is_checkmate p) → v ≡ mate_of p.side → EndsAt rules moves ply v
  stalemate : {p : Parts} → position_after_all rules.start (take ply moves) ≡ Some p → IsTrue (is_stalemate p) → v ≡ Stalemate → EndsAt rules moves ply v
  bare_kings : rules.delay ≤ ply → ((k : ℕ) → ply - rules.delay ≤ k → k ≤ ply → HasBareKings rules moves k) → v ≡ TableDraw → EndsAt rules moves ply v

-- it does, and at no ply before
pub record IsFirstEnd (rules : Rules) (moves : List Move) (ply : ℕ) (v : Verdict) : Type 0 where
  pub ends : EndsAt rules moves ply v
  pub first : (k : ℕ) (other : Verdict) → k < ply → ¬ EndsAt rules moves k other
