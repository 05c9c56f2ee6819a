-- The one text of a payload.
use Rattle.std.specs.Prelude.{◌≡◌, ℕ, ◌%◌, ◌≤◌, List, [], ◌∷◌, ◌++◌, length, sum, Some}
use Rattle.std.specs.List.{flat_map}
use Rattle.hex.specs.Hex.{encode_lower}
use Rattle.gdb_packets.specs.declared.payload.Kind.{Kind}
use Rattle.gdb_packets.specs.declared.payload.Kind.TheVariants.{Plain, Escape, Repeat, Frame}
use Rattle.gdb_packets.specs.Payload.{flipped, kind_of, most}
use Rattle.gdb_packets.specs.Stream.{Told, Accepted, Again, Interrupt, Packet, Spoilt, next_of}

-- a byte as it is sent: the four that mean something else stand behind `}`
abbrev pub sent_as : Kind → ℕ → List ℕ
sent_as Plain b = b ∷ []
sent_as Escape b = 125 ∷ flipped b ∷ []
sent_as Repeat b = 125 ∷ flipped b ∷ []
sent_as Frame b = 125 ∷ flipped b ∷ []

abbrev pub sent : List ℕ → List ℕ
sent payload = flat_map (λ b. sent_as (kind_of b) b) payload

-- `$`, the bytes as they are sent, `#`, and their sum modulo 256 in two digits
abbrev pub packet_text : List ℕ → List ℕ
packet_text payload = 36 ∷ (sent payload ++ 35 ∷ encode_lower (sum (sent payload) % 256 ∷ []))

-- what is written of a payload is told as that payload, whatever follows it
abbrev pub WrittenIsRead : Type 0
WrittenIsRead = (payload more : List ℕ) → length (sent payload) ≤ most →
    next_of (packet_text payload ++ more) ≡ Some (Packet payload, more)

-- a packet is answered by `+`, a spoilt one by `-`, and nothing else is
abbrev pub answer_to : Told → List ℕ
answer_to (Packet payload) = 43 ∷ []
answer_to Spoilt = 45 ∷ []
answer_to Accepted = []
answer_to Again = []
answer_to Interrupt = []
