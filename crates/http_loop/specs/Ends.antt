-- A stream in memory, as it comes and by its ends.
use Rattle.std.specs.Prelude.{ℕ, Some, Vec}
use Rattle.std.specs.Io.Cursor.{cursor_remaining}
use Rattle.std.specs.declared.io.impls.Cursor.{Cursor}
use Rattle.http_loop.specs.declared.memory.Coming.{Coming}
use Rattle.http_loop.specs.Streams.{Stream}

-- it will give these bytes, and has got those
abbrev pub coming_stream : Coming → Stream
coming_stream coming = record { gives = Some coming.gives.items; got = Some coming.got.items }

-- what its ends have still to give, and have got
abbrev pub ends_stream : {A B : Type 0} → Cursor (Vec ℕ A) × Vec ℕ B → Stream
ends_stream ends = record { gives = cursor_remaining (λ v. Some v.items) ends.0; got = Some ends.1.items }
