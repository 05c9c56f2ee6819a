-- What the data of a packet stands for: the data is what is sent between `$` and `#`, the payload what it means.
use Rattle.std.specs.Prelude.{ℕ, ◌-◌, ◌==◌, ◌&&◌, ◌||◌, not, nat_le, if◌then◌else◌, Bool, true, MatchBool, List, [], ◌∷◌, ◌++◌, ◌≡◌, length, slice_get, replicate, bit_xor, Option, Some, None}
use Rattle.gdb_packets.specs.declared.payload.Kind.{Kind}
use Rattle.gdb_packets.specs.declared.payload.Kind.TheVariants.{Plain, Escape, Repeat, Frame}

-- `}` says that the next byte is changed, `*` that the byte before is repeated; `#` and `$` end data and begin a packet, and stand
-- in no data; each other byte stands for itself
abbrev pub kind_of : ℕ → Kind
kind_of b = if b == 125 then Escape else (if b == 42 then Repeat else (if b == 35 || b == 36 then Frame else Plain))

-- a byte behind `}` stands for the byte with bit 5 the other way
abbrev pub flipped : ℕ → ℕ
flipped b = bit_xor b 32

-- a count of repeats is sent as a printable byte 29 above it, and never as `#` or `$`
abbrev pub is_count : ℕ → Bool
is_count c = (nat_le 32 c && nat_le c 126) && not (c == 35 || c == 36)

abbrev pub times_of : ℕ → ℕ
times_of c = c - 29

-- a payload with more before it
abbrev pub behind : List ℕ → Option (List ℕ) → Option (List ℕ)
behind front None = None
behind front (Some payload) = Some (front ++ payload)

-- data of one byte
abbrev pub byte_alone : Kind → ℕ → Option (List ℕ)
byte_alone Plain b = Some (b ∷ [])
byte_alone Escape b = None
byte_alone Repeat b = None
byte_alone Frame b = None

-- data of two bytes and more, by what stands for the data after the first one, and for that after the second one, behind some byte
abbrev pub unit_with : Kind → Option ℕ → ℕ → ℕ → (Option ℕ → Option (List ℕ)) → (Option ℕ → Option (List ℕ)) → Option (List ℕ)
unit_with Plain last b c after_one after_two = behind (b ∷ []) (after_one (Some b))
unit_with Escape last b c after_one after_two = behind (flipped c ∷ []) (after_two (Some (flipped c)))
unit_with Repeat None b c after_one after_two = None
unit_with Repeat (Some a) b c after_one after_two =
    if is_count c then behind (replicate (times_of c) a) (after_two (Some a)) else None
unit_with Frame last b c after_one after_two = None

-- the payload that data stands for behind a byte, or at the front; none where it stands for none
unfoldable pub read_behind : Option ℕ → List ℕ → Option (List ℕ)
read_behind last [] = Some []
read_behind last (b ∷ []) = byte_alone (kind_of b) b
read_behind last (b ∷ c ∷ bs) = unit_with (kind_of b) last b c (λ l. read_behind l (c ∷ bs)) (λ l. read_behind l bs)

-- data and payload are of 65,536 bytes at most
abbrev pub most : ℕ
most = 65536

abbrev pub if_short : Option (List ℕ) → Option (List ℕ)
if_short None = None
if_short (Some payload) = if nat_le (length payload) most then Some payload else None

-- the payload of some data, of which there is none where it is too long
abbrev pub payload_of : List ℕ → Option (List ℕ)
payload_of «data» = if_short (read_behind None «data»)

-- the last byte of some, if there is one
abbrev pub last_of : List ℕ → Option ℕ
last_of bs = slice_get bs (length bs - 1)

-- what was read, and what the data behind it stands for
abbrev pub read_on : List ℕ → List ℕ → Option (List ℕ)
read_on payload bs = behind payload (read_behind (last_of payload) bs)

-- the last byte was repeated as often as the count says; or there is none, or the byte is no count
abbrev pub RepeatsLast : List ℕ → ℕ → Bool → List ℕ → Type 0
RepeatsLast old count done new = MatchBool done
    ((last : ℕ) × (last_of old ≡ Some last) × (is_count count ≡ true) × (new ≡ old ++ replicate (times_of count) last))
    ((last : ℕ) → last_of old ≡ Some last → is_count count ≡ true → ⊥)
