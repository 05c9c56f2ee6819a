-- What a debugger's bytes say, one after another.
use Rattle.std.specs.Prelude.{◌≡◌, ℕ, ◌*◌, ◌+◌, ◌%◌, ◌==◌, ◌&&◌, nat_le, if◌then◌else◌, Bool, false, List, [], ◌∷◌, ◌++◌, length, sum, Option, Some, None}
use Rattle.std.specs.List.{before_first, after_first}
use Rattle.hex.specs.Hex.{hex_digit_value}
use Rattle.gdb_packets.specs.Payload.{most, payload_of}

-- `+`: the last packet came; `-`: send it again; the byte 3: stop the run; a packet; and one that is to be sent again
pub data Told : Type 0 where
  Accepted : Told
  Again : Told
  Interrupt : Told
  Packet : List ℕ → Told
  Spoilt : Told

-- two hexadecimal digits say the sum of the data modulo 256
abbrev pub is_sum_of : List ℕ → Option ℕ → Option ℕ → Bool
is_sum_of bs None low = false
is_sum_of bs (Some high) None = false
is_sum_of bs (Some high) (Some low) = sum bs % 256 == high * 16 + low

abbrev pub packet_or_spoilt : Option (List ℕ) → Told
packet_or_spoilt None = Spoilt
packet_or_spoilt (Some payload) = Packet payload

-- data and the two digits behind its `#`
abbrev pub told_of : List ℕ → ℕ → ℕ → Told
told_of bs high low =
    if nat_le (length bs) most && is_sum_of bs (hex_digit_value high) (hex_digit_value low) then packet_or_spoilt (payload_of bs) else Spoilt

abbrev pub closed_by : List ℕ → List ℕ → Option (Told × List ℕ)
closed_by bs [] = None
closed_by bs (high ∷ []) = None
closed_by bs (high ∷ low ∷ rest) = Some (told_of bs high low, rest)

abbrev pub is_end : ℕ → Bool
is_end b = b == 35

-- behind `$`: data up to the first `#`, and two digits
abbrev pub framed : List ℕ → Option (Told × List ℕ)
framed bs = closed_by (before_first is_end bs) (after_first is_end bs)

-- what is told first, and the bytes behind it; none where nothing is told yet. Bytes that neither tell something nor begin a packet are passed over
unfoldable pub next_of : List ℕ → Option (Told × List ℕ)
next_of [] = None
next_of (b ∷ bs) =
    if b == 36 then framed bs
    else (if b == 43 then Some (Accepted, bs)
    else (if b == 45 then Some (Again, bs)
    else (if b == 3 then Some (Interrupt, bs)
    else next_of bs)))

-- these bytes tell this and nothing else
abbrev pub Tells : List ℕ → Told → Type 0
Tells text x = next_of text ≡ Some (x, [])

-- what is told doesn't depend on the bytes that come after it: so it is the same in whatever pieces a stream comes
abbrev pub ToldInAnyPieces : Type 0
ToldInAnyPieces = (text more : List ℕ) (x : Told) (rest : List ℕ) → next_of text ≡ Some (x, rest) → next_of (text ++ more) ≡ Some (x, rest ++ more)
