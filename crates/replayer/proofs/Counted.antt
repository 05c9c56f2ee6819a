-- What rounds leave as it was: how many harts there are; and how many rounds were done.
use Rattle.std.proofs.Common.{◌≡◌, ℕ, zero, suc, ◌+◌, List, [], ◌∷◌, length, slice_get, Some, refl, sym, ap, ◌∙◌, length-append, arith}
use Rattle.elf_loader.specs.Image.{Loaded}
use Rattle.round_schedule.specs.Schedule.{HartRound, State, Words, committed, hart_rounds, joined, round_of, run_of, serial_from, turn_of}
use Rattle.round_schedule.proofs.PastEnds.{rounds_length}
use Rattle.round_planner.specs.Quotas.{Planned, quotas_of}
use Rattle.hart_step.specs.declared.hart.Hart.{Hart}
use Rattle.hart_step.specs.Words.{words_of}
use Rattle.machine.specs.Machine.{Running, after_rounds, opening}
use Rattle.guest_rounds.specs.Opening.{opening_hart, opening_harts}

serial_keeps : {H C : Type 0} (w : Words H C) (budget i : ℕ) (rs : List (HartRound H)) (s : State H C) → (serial_from w budget i rs s).rounds ≡ s.rounds
serial_keeps w budget i [] s = refl
serial_keeps w budget i (r ∷ rs) s = serial_keeps w budget (suc i) rs (joined s (turn_of w budget s i r))

pub round_counted : {H C : Type 0} (w : Words H C) (budget : ℕ) (quotas : ℕ → List ℕ) (s : State H C) → (round_of w budget quotas s).rounds ≡ s.rounds + 1
unfolding round_of
round_counted w budget quotas s =
    let rs = hart_rounds w s.bytes (quotas s.rounds) s.harts in
    serial_keeps w budget 0 rs (committed s rs)

so_many_more : {H C : Type 0} (w : Words H C) (budget : ℕ) (quotas : ℕ → List ℕ) (n : ℕ) (s : State H C) → (run_of w budget quotas n s).rounds ≡ s.rounds + n
unfolding run_of
so_many_more w budget quotas zero s = omega arith
so_many_more w budget quotas (suc n) s = omega (arith, so_many_more w budget quotas n (round_of w budget quotas s), round_counted w budget quotas s)

pub rounds_after : (n : ℕ) (m : Running) → (after_rounds n m).state.rounds ≡ m.state.rounds + n
rounds_after n m = so_many_more (words_of m.code) m.plan.budget (quotas_of m.plan) n m.state

-- ---- the harts that there are

serial_length : {H C : Type 0} (w : Words H C) (budget i : ℕ) (rs : List (HartRound H)) (s : State H C) → length (serial_from w budget i rs s).harts ≡ length s.harts + length rs
serial_length w budget i [] s = omega arith
serial_length w budget i (r ∷ rs) s =
    let p = turn_of w budget s i r in
    omega (arith, serial_length w budget (suc i) rs (joined s p), length-append s.harts (p.hart ∷ []))

round_length : {H C : Type 0} (w : Words H C) (budget : ℕ) (quotas : ℕ → List ℕ) (s : State H C) → length (round_of w budget quotas s).harts ≡ length s.harts
unfolding round_of
round_length w budget quotas s =
    let rs = hart_rounds w s.bytes (quotas s.rounds) s.harts in
    omega (arith, serial_length w budget 0 rs (committed s rs), rounds_length w s.bytes (quotas s.rounds) s.harts)

run_length : {H C : Type 0} (w : Words H C) (budget : ℕ) (quotas : ℕ → List ℕ) (n : ℕ) (s : State H C) → length (run_of w budget quotas n s).harts ≡ length s.harts
unfolding run_of
run_length w budget quotas zero s = refl
run_length w budget quotas (suc n) s = run_length w budget quotas n (round_of w budget quotas s) ∙ round_length w budget quotas s

pub harts_after : (n : ℕ) (m : Running) → length (after_rounds n m).state.harts ≡ length m.state.harts
harts_after n m = run_length (words_of m.code) m.plan.budget (quotas_of m.plan) n m.state

opening_length : (entry n i k : ℕ) → length (opening_harts entry n i k) ≡ k
opening_length entry n i zero = refl
opening_length entry n i (suc k) = ap suc (opening_length entry n (suc i) k)

opening_done : (entry n i k j : ℕ) (h : Hart) → slice_get (opening_harts entry n i k) j ≡ Some h → h.done ≡ 0
opening_done entry n i zero j h e = absurd cc
opening_done entry n i (suc k) zero h e = let is : opening_hart entry n i ≡ h = cc in sym (ap (λ (g : Hart). g.done) is)
opening_done entry n i (suc k) (suc j) h e = opening_done entry n (suc i) k j h e

pub opened_harts : (image : Loaded) (input : List ℕ) (plan : Planned) → length (opening image input plan).state.harts ≡ plan.harts
opened_harts image input plan = opening_length image.entry plan.harts 0 plan.harts

pub none_done : (image : Loaded) (input : List ℕ) (plan : Planned) (j : ℕ) (h : Hart) → slice_get (opening image input plan).state.harts j ≡ Some h → h.done ≡ 0
none_done image input plan j h e = opening_done image.entry plan.harts 0 plan.harts j h e
