-- Where the stores of runs stand, and runs that begin with a move.
use Rattle.std.proofs.Common.{◌≡◌, ℕ, true, List, [], ◌∷◌, Option, None, Some, refl, ap, inl}
use Rattle.pages.specs.declared.access.Width.{Width}
use Rattle.pages.specs.Memory.{Memory}
use Rattle.round_schedule.specs.Accesses.{stores}
use Rattle.hart_step.specs.DecodedCode.{decoded}
use Rattle.all_endings.specs.HartRuns.{Acts, Gets, IsPlaced, Runs, Stands, branches, calls, exchanges, exchanges-unknown, fails, gets, gets-later, jumps, orders, puts, puts-unknown, reads, reserves, runs-more, runs-none, succeeds}
use Rattle.all_endings.specs.HartRuns.{stores as stores_it}
use Rattle.all_endings.specs.RunStates.{Move, RunState, moved, operates}
use Rattle.all_endings.specs.StoreLists.{Stored, later}

-- ---- places of stores

later_of : (m : List Stored) (opening : ℕ → ℕ) (a : RunState) (v : Move) (address : ℕ) → (w : Width) → (o : Option ℕ) → o ≡ None → Gets m opening a v address w o → v.time ≡ later m
later_of m opening a v address w _ e (gets n early fits bytes) = absurd (cc)
later_of m opening a v address w _ e (gets-later late none) = late

pub placed : (image : Memory) (h : ℕ) (m : List Stored) (opening : ℕ → ℕ) (a : RunState) (v : Move) → Acts image h m opening (IsPlaced h m) a v → stores v.access ≡ true → IsPlaced h m v
placed image h m opening a v (puts rd n k is e r x) s = absurd (let q = ap stores e in cc)
placed image h m opening a v (puts-unknown rd n k is e r x) s = absurd (let q = ap stores e in cc)
placed image h m opening a v (jumps rd target k is even e r x) s = absurd (let q = ap stores e in cc)
placed image h m opening a v (branches taken target k is even e x) s = absurd (let q = ap stores e in cc)
placed image h m opening a v (orders before after mode is e x) s = absurd (let q = ap stores e in cc)
placed image h m opening a v (reads rd address w signed number k is safe e g r x) s = absurd (let q = ap stores e in cc)
placed image h m opening a v (stores_it address w k is safe e d p x) s = p
placed image h m opening a v (reserves rd address w o number k is safe e g r x) s = absurd (let q = ap stores e in cc)
placed image h m opening a v (fails rd address w o k is safe e r x) s = absurd (let q = ap stores e in cc)
placed image h m opening a v (succeeds rd address w o k is safe e d held reserved p unbroken r x) s = p
placed image h m opening a v (exchanges rd address w f o number k is safe e g r d p x) s = p
placed image h m opening a v (exchanges-unknown rd address w o k none is safe e g r d x) s = inl (later_of m opening a v address w None refl g)
placed image h m opening a v (calls number answer ecall at nonzero answered e r x) s = absurd (let q = ap stores e in cc)

-- ---- runs that begin with a move

one_before : (image : Memory) (h : ℕ) (m : List Stored) (opening : ℕ → ℕ) (a : RunState) (v : Move) (b : RunState) → Runs image h m opening a (v ∷ []) b →
    (vs : List Move) (c : RunState) → Runs image h m opening b vs c → Runs image h m opening a (v ∷ vs) c
one_before image h m opening a v b one _ _ (runs-none _) = one
one_before image h m opening a v b one _ _ (runs-more _ c vs u runs at doing stand) =
    runs-more a c (v ∷ vs) u (one_before image h m opening a v b one vs c runs) at doing stand

pub runs_behind : (image : Memory) (h : ℕ) (m : List Stored) (opening : ℕ → ℕ) (a : RunState) (v : Move) → decoded image a.pc ≡ Some v.instruction →
    Acts image h m opening (IsPlaced h m) a v → (operates v ≡ true → Stands a v) → (vs : List Move) (c : RunState) → Runs image h m opening (moved h m a v) vs c →
    Runs image h m opening a (v ∷ vs) c
runs_behind image h m opening a v at doing stand vs c runs =
    one_before image h m opening a v (moved h m a v) (runs-more a a [] v (runs-none a) at doing stand) vs c runs
