-- What a load reads, by its source.
use Rattle.std.proofs.Common.{◌≡◌, ℕ, zero, suc, ◌+◌, ◌-◌, ◌<◌, ◌≤◌, Bool, true, false, if◌then◌else◌, nat_le, nat_lt, List, get_or, Option, None, refl, sym, ap, ◌∙◌, subst, inl, inr, arith}
use Rattle.std.proofs.lemmas.Bool.{and_parts, cases_lt, leb-true, ltb-true}
use Rattle.pages.specs.declared.access.Width.{Width}
use Rattle.pages.specs.Memory.{Memory, byte_of, in_range, width_bytes}
use Rattle.round_schedule.specs.declared.access.Access.{Access}
use Rattle.round_schedule.specs.Accesses.{loads}
use Rattle.memory_order.specs.Operations.{covers}
use Rattle.all_endings.specs.HartRuns.{Acts, Gets, IsRead, branches, calls, exchanges, exchanges-unknown, fails, forwarded, gets, gets-later, jumps, orders, puts, puts-unknown, reads, remembered, reserves, stores, succeeds}
use Rattle.all_endings.specs.RunStates.{Move, RunState}
use Rattle.all_endings.specs.StoreLists.{Stored, has_byte, last_place, later, no_store}
use Rattle.private_bytes.specs.Owners.{is_private}
use Rattle.private_bytes.specs.PrivateMoves.{ActsApart, keeps, recalls, shares}

-- a store to a byte before a time stands before the last one that does
pub before_last : (m : List Stored) (x t k : ℕ) → k < t → has_byte (get_or m k no_store) x ≡ true → k < last_place m x t
before_last m x zero k l e = absurd (omega (arith, l))
before_last m x (suc t) k l e = by_test (has_byte (get_or m t no_store) x) refl (λ less. before_last m x t k less e)
  where
    by_test : (c : Bool) → has_byte (get_or m t no_store) x ≡ c → (k < t → k < last_place m x t) → k < (if c then suc t else last_place m x t)
    by_test true f before = l
    by_test false f before = elim (cases_lt k t) [
      | inl less ↦ before less
      | inr more ↦
          let same : k ≡ t = omega (arith, l, more) in
          let wet : has_byte (get_or m t no_store) x ≡ true = ap (λ (j : ℕ). has_byte (get_or m j no_store) x) (sym same) ∙ e in
          absurd (cc)
    ]

-- a store to a byte before a load's time stands before the byte's source
pub before_source : (m : List Stored) (opening : ℕ → ℕ) (a : RunState) (t x p byte k : ℕ) → IsRead m opening a t x p byte → k < t → has_byte (get_or m k no_store) x ≡ true → k < p
before_source m opening a t x _ byte k (forwarded o _ own late plain needs seen known) l e = omega (arith, l, late)
before_source m opening a t x _ _ k (remembered past seen) l e = before_last m x t k l e

pub seen_before : (m : List Stored) (opening : ℕ → ℕ) (a : RunState) (t x p byte : ℕ) → IsRead m opening a t x p byte → a.seen x ≤ p
seen_before m opening a t x _ byte (forwarded o _ own late plain needs seen known) = seen
seen_before m opening a t x _ _ (remembered past seen) = seen

-- ---- the reading of a move

within : (address n x : ℕ) → in_range address n x ≡ true → (address + (x - address) ≡ x) × (x - address < n)
within address n x e = let both = and_parts (nat_le address x) (nat_lt x (address + n)) e in let l = leb-true address x both.0 in let k = ltb-true x (address + n) both.1 in (omega (arith, l), omega (arith, l, k))

module _ (m : List Stored) (opening : ℕ → ℕ) (a : RunState) (v : Move) (early : v.time < later m) (x : ℕ) (on : covers v.access x ≡ true) where
  abbrev Reads : Type 0
  Reads = (byte : ℕ) × IsRead m opening a v.time x (v.source x) byte

  read_in : (address : ℕ) (w : Width) (n : Option ℕ) → Gets m opening a v address w n → in_range address (width_bytes w) x ≡ true → Reads
  read_in address w _ (gets n known fits bytes) e =
      let at = within address (width_bytes w) x e in
      (byte_of n (x - address), subst (λ (y : ℕ). IsRead m opening a v.time y (v.source y) (byte_of n (x - address))) at.0 (bytes (x - address) at.1))
  read_in address w _ (gets-later late none) e = absurd (omega (arith, early, late))

  covered : (y : Access) → v.access ≡ y → covers y x ≡ true
  covered y e = sym (ap (λ (z : Access). covers z x) e) ∙ on

  no_load : (y : Access) → v.access ≡ y → loads y ≡ false → loads v.access ≡ true → Reads
  no_load y e none is = let d : loads v.access ≡ loads y = ap loads e in absurd (cc)

  module _ (image : Memory) (h : ℕ) (P : Move → Type 0) (is : loads v.access ≡ true) where
    read_by : Acts image h m opening P a v → Reads
    read_by (puts rd n k at e r next) = no_load _ e refl is
    read_by (puts-unknown rd n k at e r next) = no_load _ e refl is
    read_by (jumps rd target k at even e r next) = no_load _ e refl is
    read_by (branches taken target k at even e next) = no_load _ e refl is
    read_by (orders before after mode at e next) = no_load _ e refl is
    read_by (reads rd address w signed number k at safe e g r next) = read_in address w number g (covered _ e)
    read_by (stores address w k at safe e d p next) = no_load _ e refl is
    read_by (reserves rd address w o number k at safe e g r next) = read_in address w number g (covered _ e)
    read_by (fails rd address w o k at safe e r next) = no_load _ e refl is
    read_by (succeeds rd address w o k at safe e d held reserved p unbroken r next) = no_load _ e refl is
    read_by (exchanges rd address w f o number k at safe e g r d p next) = read_in address w number g (covered _ e)
    read_by (exchanges-unknown rd address w o k none at safe e g r d next) = read_in address w None g (covered _ e)
    read_by (calls number answer ecall at nonzero answered e r next) = no_load _ e refl is

    -- each byte of a load that isn't of the hart's own bytes is read
    pub read_of : (owns : ℕ → ℕ → Bool) → is_private owns h v.access ≡ false → ActsApart owns image h m opening P a v → Reads
    read_of owns other (shares private acting) = read_by acting
    read_of owns other (keeps private plain acting) = absurd (cc)
    read_of owns other (recalls rd address w signed private k at safe e needs r source next) = absurd (cc)
