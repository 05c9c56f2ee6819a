-- The places that runs from the beginning keep: of own last stores, and of what a reservation has read.
use Rattle.std.proofs.Common.{◌≡◌, ℕ, zero, suc, ◌+◌, ◌-◌, min, nat_le, nat_lt, Bool, true, false, if◌then◌else◌, List, [], ◌∷◌, length, Option, Some, refl, sym, ap, ◌∙◌, subst, inl, inr, arith}
use Rattle.std.proofs.lemmas.Bool.{and_parts, cases_lt, leb-true, ltb-true}
use Rattle.pages.specs.declared.access.Width.{Width}
use Rattle.pages.specs.Memory.{Memory, in_range, width_bytes}
use Rattle.rv64_decode.specs.declared.ordering.AcquireRelease.{AcquireRelease}
use Rattle.round_schedule.specs.declared.access.Access.{Access}
use Rattle.round_schedule.specs.declared.access.Access.TheVariants.{Load, Store, LoadReserved, StoreConditional, Atomic, Fence}
use Rattle.round_schedule.specs.declared.span.Span.{Span}
use Rattle.round_schedule.specs.Accesses.{is_lr}
use Rattle.round_schedule.specs.Held.{held_after_own}
use Rattle.memory_order.specs.Operations.{is_plain_store}
use Rattle.all_endings.specs.HartRuns.{Acts, Gets, IsPlaced, IsRead, branches, calls, exchanges, exchanges-unknown, fails, forwarded, gets, gets-later, jumps, orders, puts, puts-unknown, reads, remembered, reserves, succeeds}
use Rattle.all_endings.specs.HartRuns.{stores as stores_it}
use Rattle.all_endings.specs.Lowering.{is_held}
use Rattle.all_endings.specs.RunStates.{Move, OwnByte, RunState, behind, moved, moved_at}
use Rattle.all_endings.specs.StoreLists.{Stored, last_place, later}
use Rattle.private_bytes.specs.Owners.{is_private}
use Rattle.private_bytes.specs.PrivateMoves.{ActsApart, keeps, moved_privately, recalls, shares}
use Rattle.private_bytes.specs.PrivateWalks.{Spot, spot_after}
use Rattle.list_suffixes.specs.ApartRuns.{RunsApart, spots_after}
use Rattle.list_suffixes.specs.CurrentRuns.{OwnStoresAreListed}
use Rattle.list_suffixes.proofs.Current.{listed_after}
use Rattle.list_suffixes.proofs.Joining.{IsPlace, place-late, place-none, place-store}
use Rattle.list_suffixes.proofs.KeptRuns.{after_state}
use Rattle.list_suffixes.proofs.Staying.{last_has}

pub record ArePlaced (m : List Stored) (a : RunState) : Type 0 where
  pub own : OwnStoresAreListed m a
  pub sources : (x : ℕ) → is_held a.held x ≡ true → IsPlace m x (a.sources x)

-- an own last store
pub own_placed : (m : List Stored) (a : RunState) → ArePlaced m a → (x : ℕ) (o : OwnByte) → a.own x ≡ Some o → IsPlace m x o.place
own_placed m a placed x o own = elim (cases_lt (length m) o.place) [
  | inl late ↦ place-late o.place late
  | inr within ↦ elim (cases_lt 0 o.place) [
    | inr none ↦ let z : 0 ≡ o.place = omega (arith, none) in subst (IsPlace m x) z place-none
    | inl some ↦ let i = placed.own x o own some within in subst (IsPlace m x) (sym i.place) (place-store i.store i.has)
  ]
]

-- what is read
read_placed : (m : List Stored) (opening : ℕ → ℕ) (a : RunState) (t x source byte : ℕ) → ArePlaced m a → IsRead m opening a t x source byte → IsPlace m x source
read_placed m opening a t x _ _ placed (forwarded o byte own late plain needs seen known) = own_placed m a placed x o own
read_placed m opening a t x _ _ placed (remembered past seen) = by_last (last_place m x t) refl
  where
    by_last : (p : ℕ) → last_place m x t ≡ p → IsPlace m x p
    by_last zero e = place-none
    by_last (suc k) e = place-store k (last_has m x t k e)

gets_placed : (m : List Stored) (opening : ℕ → ℕ) (a : RunState) (v : Move) (address : ℕ) (w : Width) (o : Option ℕ) → ArePlaced m a → Gets m opening a v address w o → (x : ℕ) →
    in_range address (width_bytes w) x ≡ true → IsPlace m x (v.source x)
gets_placed m opening a v address w _ placed (gets-later late none) x e = subst (IsPlace m x) (sym (none x)) place-none
gets_placed m opening a v address w _ placed (gets n before fits bytes) x e =
    let q = and_parts (nat_le address x) (nat_lt x (address + width_bytes w)) e in
    let l = leb-true address x q.0 in
    let i = ltb-true x (address + width_bytes w) q.1 in
    let to : address + (x - address) ≡ x = omega (arith, l) in
    subst (λ (y : ℕ). IsPlace m y (v.source y)) to (read_placed m opening a v.time (address + (x - address)) _ _ placed (bytes (x - address) (omega (arith, l, i))))

-- what an LR gets
record Reserves (m : List Stored) (opening : ℕ → ℕ) (a : RunState) (v : Move) : Type 0 where
  address : ℕ
  width : Width
  ordering : AcquireRelease
  access : v.access ≡ LoadReserved width ordering 0 address 0
  number : Option ℕ
  got : Gets m opening a v address width number

by_reserve : (image : Memory) (h : ℕ) (m : List Stored) (opening : ℕ → ℕ) (P : Move → Type 0) (a : RunState) (v : Move) → is_lr v.access ≡ true → Acts image h m opening P a v → Reserves m opening a v
by_reserve image h m opening P a v lr (puts rd n k is e r z) = absurd (let q = ap is_lr e in cc)
by_reserve image h m opening P a v lr (puts-unknown rd n k is e r z) = absurd (let q = ap is_lr e in cc)
by_reserve image h m opening P a v lr (jumps rd target k is even e r z) = absurd (let q = ap is_lr e in cc)
by_reserve image h m opening P a v lr (branches taken target k is even e z) = absurd (let q = ap is_lr e in cc)
by_reserve image h m opening P a v lr (orders before after mode is e z) = absurd (let q = ap is_lr e in cc)
by_reserve image h m opening P a v lr (reads rd address w signed number k is safe e g r z) = absurd (let q = ap is_lr e in cc)
by_reserve image h m opening P a v lr (stores_it address w k is safe e d q z) = absurd (let q = ap is_lr e in cc)
by_reserve image h m opening P a v lr (reserves rd address w o number k is safe e g r z) = record { address = address; width = w; ordering = o; access = e; number = number; got = g }
by_reserve image h m opening P a v lr (fails rd address w o k is safe e r z) = absurd (let q = ap is_lr e in cc)
by_reserve image h m opening P a v lr (succeeds rd address w o k is safe e d held reserved q unbroken r z) = absurd (let q = ap is_lr e in cc)
by_reserve image h m opening P a v lr (exchanges rd address w g o number k is safe e get r d q z) = absurd (let q = ap is_lr e in cc)
by_reserve image h m opening P a v lr (exchanges-unknown rd address w o k none is safe e get r d z) = absurd (let q = ap is_lr e in cc)
by_reserve image h m opening P a v lr (calls number answer ecall at nonzero answered e r z) = absurd (let q = ap is_lr e in cc)

-- what isn't an LR reserves nothing
held_before : (y : Access) (s : Option Span) (x : ℕ) → is_lr y ≡ false → is_held (held_after_own y s) x ≡ true → is_held s x ≡ true
held_before (LoadReserved w o p a r) s x e l = absurd (cc)
held_before (StoreConditional w o p a v) s x e l = absurd (cc)
held_before (Load w p a r) s x e l = l
held_before (Store w p a v) s x e l = l
held_before (Atomic w o p a r v) s x e l = l
held_before (Fence b a m p) s x e l = l

plain_no_lr : (y : Access) → is_plain_store y ≡ true → is_lr y ≡ true → ⊥
plain_no_lr y plain lr = by_kind y plain lr
  where
    by_kind : (z : Access) → is_plain_store z ≡ true → is_lr z ≡ true → ⊥
    by_kind (Store w q x n) plain lr = cc
    by_kind _ plain lr = cc

module _ (owns : ℕ → ℕ → Bool) (image : Memory) (h : ℕ) (m : List Stored) (opening : ℕ → ℕ) where
  sources_at : (a : RunState) (v : Move) (i : ℕ) → ArePlaced m a → ActsApart owns image h m opening (IsPlaced h m) a v → (x : ℕ) → is_held (moved_at h i a v).held x ≡ true → IsPlace m x ((moved_at h i a v).sources x)
  sources_at a v i placed acts x held = by_test (is_lr v.access) refl
    where
      reserved : is_lr v.access ≡ true → ActsApart owns image h m opening (IsPlaced h m) a v → Reserves m opening a v
      reserved lr (shares public doing) = by_reserve image h m opening (IsPlaced h m) a v lr doing
      reserved lr (keeps private plain doing) = absurd (plain_no_lr v.access plain lr)
      reserved lr (recalls rd address w signed private k is safe e needs r source z) = absurd (let q = ap is_lr e in cc)

      by_test : (c : Bool) → is_lr v.access ≡ c → IsPlace m x ((if c then v.source else a.sources) x)
      by_test true lr =
          let r = reserved lr acts in
          gets_placed m opening a v r.address r.width r.number placed r.got x (sym (ap (λ (y : Access). is_held (held_after_own y a.held) x) r.access) ∙ held)
      by_test false lr = placed.sources x (held_before v.access a.held x lr held)

  placed_after : (p : Spot) (v : Move) → ActsApart owns image h m opening (IsPlaced h m) p.place.state v → ArePlaced m p.place.state → ArePlaced m (spot_after owns h m p v).place.state
  placed_after p v acts placed = record {
    own = listed_after owns image h m opening p v acts placed.own;
    sources = subst (λ (s : RunState). (x : ℕ) → is_held s.held x ≡ true → IsPlace m x (s.sources x)) (sym (after_state owns h m p.place v)) (by_test (is_private owns h v.access));
  }
    where
      by_test : (c : Bool) → (x : ℕ) → is_held (if c then moved_privately h m p.place.state v else moved h m p.place.state v).held x ≡ true →
          IsPlace m x ((if c then moved_privately h m p.place.state v else moved h m p.place.state v).sources x)
      by_test true = sources_at p.place.state v (min v.time (later m)) placed acts
      by_test false = sources_at p.place.state v (behind m v) placed acts

  -- along a run
  pub placed_along : (vs : List Move) (p : Spot) → RunsApart owns image h m opening p vs → ArePlaced m p.place.state → ArePlaced m (spots_after owns h m p vs).place.state
  placed_along [] p run placed = placed
  placed_along (v ∷ vs) p run placed = placed_along vs (spot_after owns h m p v) run.1 (placed_after p v run.0.acts placed)
