-- Numbers as the protocol has them: two hexadecimal digits for each byte.
use Rattle.std.specs.Prelude.{ℕ, zero, suc, ◌+◌, ◌==◌, if◌then◌else◌, ◌∷◌, [], ◌++◌, List, codes}
use Rattle.std.specs.Int.{w32, w64, to_be_bytes, to_le_bytes}
use Rattle.std.specs.List.{flat_map}
use Rattle.hex.specs.Hex.{encode_lower}
use Rattle.gdb_replies.specs.declared.registers.Registers.{Registers}

-- a register's eight bytes, the lowest first
abbrev pub register_text : ℕ → List ℕ
register_text v = encode_lower (to_le_bytes w64 v)

-- an address, and a thread's number: the highest digit first
abbrev pub address_text : ℕ → List ℕ
address_text a = encode_lower (to_be_bytes w64 a)

abbrev pub thread_text : ℕ → List ℕ
thread_text t = encode_lower (to_be_bytes w32 t)

-- the numbers of a hart in the order of its description
abbrev pub numbers_of : Registers → List ℕ
numbers_of r = r.x ++ r.pc ∷ r.round ∷ r.place ∷ r.phase ∷ []

abbrev pub registers_text : Registers → List ℕ
registers_text r = flat_map register_text (numbers_of r)

-- threads 1, 2, .., n, with a comma between them
unfoldable pub threads_text : ℕ → List ℕ
threads_text zero = []
threads_text (suc n) = threads_text n ++ (if n == 0 then codes "m" else codes ",") ++ thread_text (n + 1)
