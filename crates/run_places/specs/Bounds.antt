-- Bounds by bytes that are at most others, of bytes of which no less is known.
use Rattle.std.specs.Prelude.{◌≡◌, ℕ, ◌≤◌, List, option_map}
use Rattle.run_bounds.specs.declared.touched.OwnByte.{OwnByte}
use Rattle.run_bounds.specs.declared.touched.TouchedByte.{TouchedByte}
use Rattle.run_bounds.specs.Touched.{known_at}
use Rattle.hart_states.specs.States.{own_of}
use Rattle.private_bytes.specs.Ahead.{OwnAhead, Tells}

-- the same store, of which no less is known, and whose address and data depend on nothing later
pub record IsStoredAhead (o p : OwnByte) : Type 0 where
  pub place : o.place ≡ p.place
  pub byte : Tells p.byte o.byte
  pub atomic : o.atomic ≡ p.atomic
  pub needs : o.needs ≤ p.needs

pub record IsByteAhead (a b : TouchedByte) : Type 0 where
  pub address : a.address ≡ b.address
  pub touched : a.touched ≤ b.touched
  pub seen : a.seen ≤ b.seen
  pub own : OwnAhead (option_map own_of a.own) (option_map own_of b.own)

abbrev pub AreBytesAhead : List TouchedByte → List TouchedByte → Type 0
AreBytesAhead a b = (x : ℕ) → IsByteAhead (known_at a x) (known_at b x)
