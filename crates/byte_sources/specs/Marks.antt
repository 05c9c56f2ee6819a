-- Which stores are marked, since nobody read what they wrote.
use Rattle.std.specs.Prelude.{ℕ, zero, suc, ◌+◌, ◌-◌, ◌==◌, ◌&&◌, Bool, false, not, if◌then◌else◌, List, length, Option, Some, None}
use Rattle.std.specs.List.{list_all, list_any}
use Rattle.round_schedule.specs.declared.event.Event.{Event}
use Rattle.round_schedule.specs.Accesses.{byte_written, stores}
use Rattle.round_schedule.specs.Positions.{event, reads_at, source_byte, writes_at}
use Rattle.byte_sources.specs.Sources.{between, bytes, is_index, source}
use Rattle.byte_sources.specs.declared.mark.Mark.{Mark}
use Rattle.byte_sources.specs.declared.mark.Mark.TheVariants.{Lost, Unread, Plain}

-- ---- a byte that is overwritten, and that nobody reads

-- the first of n numbers from a on that passes a test
abbrev pub first_from : (ℕ → Bool) → ℕ → ℕ → Option ℕ
first_from test a zero = None
first_from test a (suc n) = if test a then Some a else first_from test (a + 1) n

-- the first store to byte x after index w
abbrev pub overwriter : List Event → ℕ → ℕ → Option ℕ
overwriter t w x = first_from (λ v. writes_at t v x) (w + 1) (length t - (w + 1))

-- whether the event at v, where there is one, is of the hart of the one at w, and whether it is of another
abbrev pub is_by_same : List Event → ℕ → Option ℕ → Bool
is_by_same t w None = false
is_by_same t w (Some v) = (event t v).hart == (event t w).hart

abbrev pub is_by_other : List Event → ℕ → Option ℕ → Bool
is_by_other t w None = false
is_by_other t w (Some v) = not ((event t v).hart == (event t w).hart)

-- whether an event reads byte x of the store at w
abbrev pub reads_from : List Event → ℕ → ℕ → ℕ → Bool
reads_from t w x r = reads_at t r x && is_index w (source t r x)

abbrev pub is_read : List Event → ℕ → ℕ → Bool
is_read t w x = list_any (reads_from t w x) (between (w + 1) (length t))

-- whether another hart, or its own, was the first to overwrite byte x of the store at w, and nobody ever reads what it wrote
unfoldable pub is_lost_byte : List Event → ℕ → ℕ → Bool
is_lost_byte t w x = is_by_other t w (overwriter t w x) && not (is_read t w x)

unfoldable pub is_unread_byte : List Event → ℕ → ℕ → Bool
is_unread_byte t w x = is_by_same t w (overwriter t w x) && not (is_read t w x)

-- ---- what stood there

-- byte x as the hart of the event at w saw it: of the store that it could have read it from, and else as memory opened
abbrev pub byte_before : List Event → (ℕ → ℕ) → ℕ → ℕ → ℕ
byte_before t opening w x = source_byte t opening x (source t w x)

-- whether the store at w left byte x as its hart saw it
abbrev pub leaves : List Event → (ℕ → ℕ) → ℕ → ℕ → Bool
leaves t opening w x = byte_written (event t w).access x == byte_before t opening w x

-- ---- the marks

-- whether the event at w is a store, each of its bytes is lost, and it did not write just what stood there: so a lost update looks
unfoldable pub is_lost : List Event → (ℕ → ℕ) → ℕ → Bool
is_lost t opening w =
    stores (event t w).access && list_all (is_lost_byte t w) (bytes (event t w).access)
    && not (list_all (leaves t opening w) (bytes (event t w).access))

-- whether it is a store that its own hart overwrote, each byte of it, and that nobody read
unfoldable pub is_unread : List Event → ℕ → Bool
is_unread t w = stores (event t w).access && list_all (is_unread_byte t w) (bytes (event t w).access)

unfoldable pub mark_of : List Event → (ℕ → ℕ) → ℕ → Mark
mark_of t opening w = if is_lost t opening w then Lost else (if is_unread t w then Unread else Plain)
