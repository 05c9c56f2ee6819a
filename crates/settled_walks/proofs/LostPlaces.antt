-- A place is lost where its bounds let a store that is owed stand behind it alone.
use Rattle.std.proofs.Common.{◌≡◌, ℕ, ◌<◌, true, false, List, length, get_or}
use Rattle.all_endings.specs.RunStates.{stores_from}
use Rattle.all_endings.specs.StoreLists.{Stored, has_byte, no_store}
use Rattle.all_endings.specs.Walking.{Place}
use Rattle.private_bytes.specs.PrivateWalks.{IsLost}

pub lost_from : (h : ℕ) (m : List Stored) (p : Place) (j x : ℕ) → j < length m → (get_or m j no_store).hart ≡ h → p.paid j ≡ false → has_byte (get_or m j no_store) x ≡ true →
    j < stores_from p.state x → IsLost h m p
lost_from h m p j x within mine owed has behind = record { store = j; within = within; hart = mine; owed = owed; byte = x; has = has; behind = behind }
