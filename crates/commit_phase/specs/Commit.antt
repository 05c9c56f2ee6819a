-- What the commit of a round does to memory and the reservations.
use Rattle.std.specs.Prelude.{◌≡◌, ℕ, suc, ◌<◌, ◌/◌, length, ◌==◌, ◌||◌, Bool, true, false, if◌then◌else◌, List, [], ◌∷◌, ◌++◌, Option, None, All}
use Rattle.pages.specs.declared.access.Store.{Store}
use Rattle.pages.specs.declared.access.Width.TheVariants.{W1}
use Rattle.pages.specs.Memory.{covered, store_fault, stored}
use Rattle.pages.specs.Paged.{Paged, is_page_ready}
use Rattle.round_schedule.specs.declared.span.Span.{Span}
use Rattle.round_schedule.specs.ByReservations.{committed_reservations}
use Rattle.round_schedule.specs.Held.{unless}
use Rattle.round_schedule.specs.Schedule.{HartRound, all_stores}
use Rattle.round_schedule.specs.Reservations.{Commits, entry}
use Rattle.store_buffer.specs.Covered.{stores_of}

-- these are bytes of guest memory that are not code, on pages that are ready
pub record IsWritable (p : Paged) (es : List (ℕ × ℕ)) : Type 0 where
  pub fits : All (λ (e : ℕ × ℕ). store_fault p.memory e.0 W1 ≡ None) es
  pub ready : All (λ (e : ℕ × ℕ). is_page_ready p (e.0 / 4096) ≡ true) es

-- the stores of the harts' buffers, hart by hart
abbrev pub all_buffered : List (List (ℕ × ℕ)) → List Store
all_buffered [] = []
all_buffered (es ∷ bs) = stores_of es ++ all_buffered bs

-- whether the buffer of a hart other than h has the byte, the first buffer being hart i's
abbrev pub covered_from : ℕ → ℕ → List (List (ℕ × ℕ)) → ℕ → Bool
covered_from i h [] x = false
covered_from i h (es ∷ bs) x = (if i == h then false else covered (stores_of es) x) || covered_from (suc i) h bs x

-- the buffers of all harts are committed: their bytes are in memory, and the reservations are gone of which another hart's buffer has a byte
pub record CommitsBuffers (bs : List (List (ℕ × ℕ))) (p q : Paged) (old new : List (Option Span)) : Type 0 where
  pub memory : q.memory ≡ stored p.memory (all_buffered bs)
  pub ready : q.ready ≡ p.ready
  pub spare : q.spare ≡ p.spare
  pub size : length new ≡ length old
  pub reservations : (h : ℕ) → h < length old → entry new h ≡ unless (covered_from 0 h bs) (entry old h)

-- the stores of all harts are committed
pub record Committed {H : Type 0} (rs : List (HartRound H)) (p q : Paged) (old new : List (Option Span)) : Type 0 where
  pub memory : q.memory ≡ stored p.memory (all_stores rs)
  pub ready : q.ready ≡ p.ready
  pub spare : q.spare ≡ p.spare
  pub reservations : new ≡ committed_reservations 0 rs old
  pub commits : Commits rs old new
