use Rattle.std.proofs.Common.{◌≡◌, ℕ, None, count_by, is_some, slice_index_or}
use Rattle.http_loop.proofs.memory.MemoryListener.new.Given as goal

abbrev pub invariant-loop : goal.invariant-loop
invariant-loop l = ((key : ℕ) → slice_index_or l.opened.items key None ≡ None) × (count_by is_some l.opened.items ≡ 0)
