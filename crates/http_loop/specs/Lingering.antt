-- The system's sockets that were closed and linger.
use Rattle.std.specs.Prelude.{ℕ, List, map}
use Rattle.std.specs.VecDeque.{deque_items, deque_len}
use Rattle.http_loop.specs.declared.lingering.Leaving.{Leaving}
use Rattle.http_loop.specs.declared.lingering.Lingering.{Lingering}
use Rattle.http_loop.specs.declared.sockets.Sockets.{Sockets}
use Rattle.http_loop.specs.Times.{Moments}

-- when each was closed, or from when its time is counted
abbrev pub closed_times : List Leaving → Moments
closed_times leaving = map (λ (one : Leaving). one.closed) leaving

abbrev pub times_of : Lingering → Moments
times_of lingering = closed_times (deque_items lingering.leaving)

abbrev pub how_many : Lingering → ℕ
how_many lingering = deque_len lingering.leaving

abbrev pub lingering_at : Sockets → Moments
lingering_at sockets = times_of sockets.lingering
