-- For how many further plies a verdict by tables may have to hold, at most (this project's own).
use Rattle.std.specs.Prelude.{ℕ}

abbrev pub most_delay : ℕ
most_delay = 8
