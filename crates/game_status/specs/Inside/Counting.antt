-- Games that are counted on the way; cited by private functions alone.
use Rattle.std.specs.Prelude.{◌≡◌, ◌≤◌, ◌<◌, ◌+◌, ◌^◌, cond}
use Rattle.game_status.specs.declared.telling.Mark.{Mark}
use Rattle.game_status.specs.declared.telling.Sums.{Sums}
use Rattle.game_status.specs.Tellings.{is_apart, is_fault, is_ruled_mark}

-- one more can be counted
pub record CanCountOneMore (s : Sums) : Type 0 where
  pub games : s.games < 2 ^ 63
  pub ruled : s.ruled ≤ s.games
  pub faults : s.faults ≤ s.games
  pub differ : s.differ ≤ s.games

-- one more is counted
pub record AddsMark (s : Sums) (mark : Mark) (new : Sums) : Type 0 where
  pub games : new.games ≡ s.games + 1
  pub ruled : new.ruled ≡ s.ruled + cond (is_ruled_mark mark) 1 0
  pub faults : new.faults ≡ s.faults + cond (is_fault mark) 1 0
  pub differ : new.differ ≡ s.differ + cond (is_apart mark) 1 0
