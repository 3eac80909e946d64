-- Games that are found and counted on the way; cited by private functions alone.
use Rattle.std.specs.Prelude.{◌≡◌, ◌≤◌, ◌+◌, cond, min}
use Rattle.game_status.specs.declared.status_lines.Look.{Look}
use Rattle.game_status.specs.declared.totals.Totals.{Totals}
use Rattle.game_status.specs.Statuses.{status_mark}
use Rattle.game_status.specs.Totals.{is_behind_in, is_open_mark, most_total, moves_in}
use Rattle.game_status.specs.Inside.Counting.{AddsMark, CanCountOneMore}

-- one more can be counted
pub record CanAddOneMore (t : Totals) : Type 0 where
  pub sums : CanCountOneMore t.sums
  pub open_games : t.open_games ≤ t.sums.games
  pub behind : t.behind ≤ t.sums.games

-- one more is counted
pub record AddsLook (t : Totals) (l : Look) (new : Totals) : Type 0 where
  pub sums : AddsMark t.sums (status_mark l) new.sums
  pub open_games : new.open_games ≡ t.open_games + cond (is_open_mark (status_mark l)) 1 0
  pub behind : new.behind ≡ t.behind + cond (is_behind_in l) 1 0
  pub moves : new.moves ≡ min (t.moves + moves_in l) most_total
