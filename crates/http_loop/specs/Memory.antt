-- What is known of a listener in memory.
use Rattle.std.specs.Prelude.{◌≡◌, List, [], ◌∷◌, map, reverse, Option, None, option_map, slice_index_or}
use Rattle.http_loop.specs.declared.memory.Coming.{Coming}
use Rattle.http_loop.specs.declared.memory.Left.{Left}
use Rattle.http_loop.specs.declared.memory.MemoryListener.{MemoryListener}
use Rattle.http_loop.specs.Ends.{coming_stream, ends_stream}
use Rattle.http_loop.specs.Streams.{Closed, Stream, Streams}
use Rattle.http_loop.specs.Times.{Moments}

abbrev pub closed_stream : Left → Closed
closed_stream left = record {
  came = coming_stream left.came;
  left = ends_stream (left.reader, left.writer);
}

-- those that have still to come, the next one first
abbrev pub coming_at : MemoryListener → List Coming
coming_at listener = reverse listener.coming.items

-- the first of those that were to come is this one, and the others have still to come
abbrev pub ComesFirst : List Coming → List Coming → Stream → Type 0
ComesFirst old new came = (first : Coming) × (old ≡ first ∷ new) × (came ≡ coming_stream first)

-- no stream lingers
abbrev pub none_lingers : MemoryListener → Moments
none_lingers listener = []

abbrev pub closed_in : MemoryListener → List Left
closed_in listener = listener.closed.items

-- those that are open, each under its key, and those that were closed
abbrev pub streams_in : List (Option Coming) → List Left → Streams
streams_in opened closed = record {
  opened = λ key. option_map coming_stream (slice_index_or opened key None);
  closed = map closed_stream closed;
}

abbrev pub memory_streams : MemoryListener → Streams
memory_streams listener = streams_in listener.opened.items listener.closed.items
