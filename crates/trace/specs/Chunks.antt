-- Lists of events in chunks.
use Rattle.std.specs.Prelude.{◌≡◌, ℕ, ◌<◌, ◌≤◌, ◌^◌, List, [], ◌∷◌, length, take, slice_index_or, All}
use Rattle.std.specs.List.{flat_map}
use Rattle.round_schedule.specs.declared.event.Event.{Event}
use Rattle.round_schedule.specs.Events.{events_of}
use Rattle.trace.specs.declared.chunk.Batch.{Batch}
use Rattle.trace.specs.declared.chunk.Batch.TheVariants as batches
use Rattle.trace.specs.declared.chunk.Chunk.{Chunk}
use Rattle.trace.specs.declared.event_slice.EventSlice.{EventSlice}
use Rattle.trace.specs.declared.event_slice.EventSlice.TheVariants as slices
use Rattle.trace.specs.LentLogs.{accesses_lent}

-- the events, the room that is reserved for more, and for how many logs there is room
pub record Listing : Type 0 where
  pub events : List Event
  pub room : ℕ
  pub logs : ℕ

-- the events of one chunk
abbrev pub batch_events : Batch → List Event
batch_events (batches.Events v) = v.value.items
batch_events (batches.Log n i s l) = events_of n i s l

abbrev pub events_in : Chunk → List Event
events_in p = batch_events p.batch

-- the events of a slice
abbrev pub slice_events : EventSlice → List Event
slice_events (slices.Events es) = es.now
slice_events (slices.Log l) = events_of l.round l.hart l.phase (accesses_lent l.accesses)

-- the events of finished chunks, one after another
abbrev pub joined : List Chunk → List Event
joined chunks = flat_map events_in chunks

abbrev pub HasEvents : Chunk → Type 0
HasEvents p = 0 < length (events_in p)

-- each finished chunk has events, and starts where those before it end
pub record AreChunks (chunks : List Chunk) : Type 0 where
  pub filled : All HasEvents chunks
  pub starts : (k : ℕ) (d : Chunk) → k < length chunks → (slice_index_or chunks k d).start ≡ length (joined (take k chunks))

-- the finished chunks have so many events, few enough that the number of all events is one of 64 bits
pub record AreCounted (chunks : List Chunk) (count : ℕ) : Type 0 where
  pub stand : AreChunks chunks
  pub counted : count ≡ length (joined chunks)
  pub few : count ≤ 2 ^ 62

-- there is room for a log after the finished chunks alone: none while events stand in the tail
abbrev pub logs_after : List Event → ℕ → ℕ
logs_after [] n = n
logs_after (e ∷ es) n = 0
