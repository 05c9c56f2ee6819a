-- What is told of the runs that go on late from a spot, of its parts.
use Rattle.std.proofs.Common.{◌≡◌, ℕ, ◌<◌, ◌≤◌, not, Bool, true, false, List, length, sym, ap, ◌∙◌, subst, refl, inr}
use Rattle.round_schedule.specs.declared.access.Access.{Access}
use Rattle.memory_order.specs.Operations.{covers}
use Rattle.hart_step.specs.Numbers.{plus}
use Rattle.pages.specs.Memory.{Memory}
use Rattle.all_endings.specs.RunStates.{Move, RunState}
use Rattle.all_endings.specs.StoreLists.{Stored}
use Rattle.private_bytes.specs.PrivateWalks.{Spot}
use Rattle.list_suffixes.specs.LateDebts.{Owes}
use Rattle.list_suffixes.specs.SettledWalks.{AreAhead}
use Rattle.list_suffixes.specs.Staying.{spot_kept, stays_at}
use Rattle.early_reads.specs.declared.early_point.EarlyBytes.{EarlyBytes}
use Rattle.early_reads.specs.Checking.{has_early}
use Rattle.early_reads.specs.EarlyMaps.{Agrees, EarlyMap, LeavesOut}
use Rattle.early_reads.specs.Windows.{ArePassed, late_of, loads_from, shuts}
use Rattle.early_reads.proofs.Behind.{laid_within}
use Rattle.late_spots.specs.declared.opening.Opened.TheVariants.{ByMap, Nothing}
use Rattle.late_spots.specs.LateRuns.{AreDone, AreLaidDone, IsBehindThem, OwnStoresAreWithin, opens-any, opens-by-map, opens-none}
use Rattle.list_suffixes.specs.CurrentRuns.{OwnStoresAreListed}
use Rattle.late_spots.specs.LateSpots.{IsSettledSpot, OfOperations, goes-known, has-new, owes-branched, owes-touched}
use Rattle.late_spots.specs.Onward.{IsOpened, IsOwedAt, LosesDebts, MakesAt, OpensPassed, by-branch, by-touch}

-- ---- debts

pub owes_there : (h : ℕ) (m : List Stored) (p : Spot) (j x : ℕ) → IsOwedAt h m p j x → Owes h m p
owes_there h m p j x o = record { store = j; within = o.within; hart = o.hart; owed = o.owed; byte = x; has = o.has }

pub touches_there : (h : ℕ) (m : List Stored) (p : Spot) (j : ℕ) (y : Access) → (x : ℕ) × IsOwedAt h m p j x × (covers y x ≡ true) → (o : Owes h m p) × (covers y o.byte ≡ true)
unfolding owes_there
touches_there h m p j y t = (owes_there h m p j t.0 t.1, t.2)

pub not_owing : (c : Bool) → not c ≡ false → c ≡ true
not_owing true e = refl
not_owing false e = absurd (cc)

-- ---- stores that are laid into memory

-- what is so of each place of which it is told whether its store stays
pub each_laid : (F : ℕ → Type 0) (stays : List Bool) → ((j : ℕ) → j < length stays → stays_at stays j ≡ false → F j) → (j : ℕ) → stays_at stays j ≡ false → F j
each_laid F stays each j laid = each j (laid_within stays j laid) laid

-- ---- what is loaded early

module _ (f : EarlyMap) (b : ℕ) (owes : Bool) (a : RunState) (y : Access) where
  pub opens_by_bounds : b ≤ loads_from a → IsOpened Nothing f b owes a y
  opens_by_bounds l v makes = opens-none l

  module _ (agrees : Agrees (f.constants a.pc) a.registers) (out : LeavesOut f a.pc) where
    pub opens_by_shutting : shuts (late_of owes y) y ≡ true → IsOpened Nothing f b owes a y
    opens_by_shutting shut v makes =
        opens-by-map agrees out (λ opened x early. let e : shuts (late_of owes v.access) v.access ≡ true = ap (λ (z : Access). shuts (late_of owes z) z) makes.0 ∙ shut in absurd (cc))

    pub opens_by_map : IsOpened ByMap f b owes a y
    opens_by_map v makes =
        opens-by-map agrees out (λ opened x early. subst (λ (z : Access). f.bytes (late_of owes z) (plus a.pc 4) x ≡ true) makes.0
        (subst (λ (n : ℕ). f.bytes (late_of owes v.access) n x ≡ true) makes.1 early))

module _ (f : EarlyMap) (stays : List Bool) (m : List Stored) (owes : Bool) (a : RunState) (y : Access) where
  pub passes_none : IsOpened Nothing f (length m) owes a y → OpensPassed f stays m owes a y
  passes_none opened = (λ x. false, opened, λ k laid x on wet. absurd (cc))

  pub passes_these : (set : EarlyBytes) → IsOpened ByMap f (length m) owes a y → ((x : ℕ) → f.bytes (late_of owes y) (plus a.pc 4) x ≡ has_early set x) →
      ArePassed stays m (has_early set) a → OpensPassed f stays m owes a y
  passes_these set opened same passed = (
    λ x. f.bytes (late_of owes y) (plus a.pc 4) x,
    opened,
    λ k laid x on wet. passed k laid x (sym (same x) ∙ on) wet,
  )

  pub passes_all : ((k : ℕ) → stays_at stays k ≡ false → k < loads_from a) → OpensPassed f stays m owes a y
  passes_all passed = (λ x. true, (λ v makes. opens-any (λ x. refl)), λ k laid x on wet. inr (passed k laid))

pub all_behind : (f : EarlyMap) (h : ℕ) (stays : List Bool) (m : List Stored) (owes : Bool) (a : RunState) (y : Access) → AreLaidDone h stays m a → (owes ≡ false → AreDone h m a) →
    OwnStoresAreListed m a → OwnStoresAreWithin m a → OpensPassed f stays m owes a y →
    (o : Bool) × (bytes : ℕ → Bool) × ((v : Move) → MakesAt a.pc y v → IsBehindThem f h stays m o bytes a v)
all_behind f h stays m owes a y done paid listed within opens =
    (owes, opens.0, λ v makes. record { done = done; paid = paid; listed = listed; within = within; opens = opens.1 v makes; passed = opens.2 })

-- ---- spots

module _ (f : EarlyMap) (owns : ℕ → ℕ → Bool) (image : Memory) (h : ℕ) (stays : List Bool) (m : List Stored) (new : List Spot) (p : Spot) where
  pub settled_known : OfOperations owns image h p.place.state (λ v. ⊥) → IsSettledSpot f owns image h stays m new p
  settled_known none = goes-known none

  module _ (y : Access) (makes : OfOperations owns image h p.place.state (λ v. MakesAt p.place.state.pc y v)) where
    pub settled_lost : LosesDebts image h m p y → IsSettledSpot f owns image h stays m new p
    settled_lost (by-touch o covered) =
        owes-touched o (λ n opening q v ahead moves op public. let e = makes n opening q v ahead moves op public in ap (λ (z : Access). covers z o.byte) e.0 ∙ covered)
    settled_lost (by-branch o branched) = owes-branched o branched

    pub settled_behind : (owes : Bool) × (bytes : ℕ → Bool) × ((v : Move) → MakesAt p.place.state.pc y v → IsBehindThem f h stays m owes bytes p.place.state v) →
        AreAhead new (spot_kept stays m p) → IsSettledSpot f owns image h stays m new p
    settled_behind behind there = has-new behind.0 behind.1 there (λ n opening q v ahead moves op public. behind.2 v (makes n opening q v ahead moves op public))
