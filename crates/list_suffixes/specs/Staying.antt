-- Which stores of a list stay in it, where the others are laid into memory, and times that are counted by those that stay.
use Rattle.std.specs.Prelude.{◌≡◌, ℕ, zero, suc, ◌<◌, ◌&&◌, nat_le, not, Bool, true, false, if◌then◌else◌, List, [], ◌∷◌, length, map, slice_index_or, option_map, Some}
use Rattle.rule_checker.specs.declared.annotated.KindBounds.{KindBounds}
use Rattle.rule_checker.specs.declared.carried.Carried.{Carried}
use Rattle.all_endings.specs.RunStates.{OwnByte, RunState}
use Rattle.all_endings.specs.StoreLists.{Stored, byte_in, has_byte, no_store}
use Rattle.private_bytes.specs.Owners.{is_own}
use Rattle.private_bytes.specs.PrivateWalks.{Spot}

-- ---- stores

-- whether the store at a place stays: those behind what is told all do
abbrev pub stays_at : List Bool → ℕ → Bool
stays_at stays j = slice_index_or stays j true

-- the stores that stay, and those that are laid into memory
abbrev pub kept : List Bool → List Stored → List Stored
kept [] m = m
kept (b ∷ stays) [] = []
kept (true ∷ stays) (s ∷ m) = s ∷ kept stays m
kept (false ∷ stays) (s ∷ m) = kept stays m

abbrev pub laid : List Bool → List Stored → List Stored
laid [] m = []
laid (b ∷ stays) [] = []
laid (true ∷ stays) (s ∷ m) = laid stays m
laid (false ∷ stays) (s ∷ m) = s ∷ laid stays m

-- none that stays has a byte of a later one that is laid into memory: each byte is as the whole list leaves it
abbrev pub MayBeLaid : List Bool → List Stored → Type 0
MayBeLaid stays m =
    (j k x : ℕ) → j < k → stays_at stays j ≡ true → stays_at stays k ≡ false → has_byte (slice_index_or m j no_store) x ≡ true → has_byte (slice_index_or m k no_store) x ≡ true → ⊥

-- ---- times

-- of the first t stores so many stay
abbrev pub kept_before : List Bool → ℕ → ℕ
kept_before [] t = t
kept_before (b ∷ stays) zero = 0
kept_before (true ∷ stays) (suc t) = suc (kept_before stays t)
kept_before (false ∷ stays) (suc t) = kept_before stays t

-- where the store that is the n-th of those that stay stood
abbrev pub place_before : List Bool → ℕ → ℕ
place_before [] n = n
place_before (true ∷ stays) zero = 0
place_before (true ∷ stays) (suc n) = suc (place_before stays n)
place_before (false ∷ stays) n = suc (place_before stays n)

-- the place behind the last of the first k stores that is laid into memory and writes byte x; 0 where none does
abbrev pub last_laid : List Bool → List Stored → ℕ → ℕ → ℕ
last_laid stays m x zero = 0
last_laid stays m x (suc k) = if not (stays_at stays k) && has_byte (slice_index_or m k no_store) x then suc k else last_laid stays m x k

-- where a store to byte x stands among those that stay: nowhere, as what memory has, up to the last that is laid there
abbrev pub place_kept : List Bool → List Stored → ℕ → ℕ → ℕ
place_kept stays m x p = if nat_le p (last_laid stays m x (length stays)) then 0 else kept_before stays p

-- ---- states

abbrev pub kinds_kept : List Bool → KindBounds → KindBounds
kinds_kept stays k = record {
  loads = kept_before stays k.loads;
  stores = kept_before stays k.stores;
  acquires = kept_before stays k.acquires;
  annotated = kept_before stays k.annotated;
  load_load = kept_before stays k.load_load;
  load_store = kept_before stays k.load_store;
  store_load = kept_before stays k.store_load;
  store_store = kept_before stays k.store_store;
}

abbrev pub carried_kept : List Bool → Carried → Carried
carried_kept stays c = record { registers = map (kept_before stays) c.registers; steered = kept_before stays c.steered; addressed = kept_before stays c.addressed }

abbrev pub own_kept : List Bool → List Stored → ℕ → OwnByte → OwnByte
own_kept stays m x o = record o { place = place_kept stays m x o.place; needs = kept_before stays o.needs }

abbrev pub state_kept : List Bool → List Stored → RunState → RunState
state_kept stays m a = record a {
  kinds = kinds_kept stays a.kinds;
  carried = carried_kept stays a.carried;
  touched = λ x. kept_before stays (a.touched x);
  seen = λ x. place_kept stays m x (a.seen x);
  own = λ x. option_map (own_kept stays m x) (a.own x);
  reserved = kept_before stays a.reserved;
  sources = λ x. place_kept stays m x (a.sources x);
}

-- of the stores that were done, those that stay
abbrev pub spot_kept : List Bool → List Stored → Spot → Spot
spot_kept stays m p = record p { place = record p.place { state = state_kept stays m p.place.state; paid = λ j. p.place.paid (place_before stays j) } }

-- ---- lists

-- no store of a list is to own bytes of hart h
abbrev pub AreShared : (ℕ → ℕ → Bool) → ℕ → List Stored → Type 0
AreShared owns h m = (k x : ℕ) → k < length m → has_byte (slice_index_or m k no_store) x ≡ true → is_own owns h x ≡ false

-- an own last store to byte x is the one that the list has at its place
pub record IsListed (m : List Stored) (x : ℕ) (o : OwnByte) : Type 0 where
  pub store : ℕ
  pub place : o.place ≡ suc store
  pub has : has_byte (slice_index_or m store no_store) x ≡ true
  pub byte : (n : ℕ) → o.byte ≡ Some n → byte_in (slice_index_or m store no_store) x ≡ n
