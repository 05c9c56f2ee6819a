-- A step of a follower: as the line says, or not, and why not.
use Rattle.std.proofs.Common.{◌≡◌, ◌≢◌, ◌⊎◌, ℕ, zero, suc, ◌+◌, ◌%◌, ◌^◌, ◌<◌, ◌≤◌, ◌==◌, Bool, true, false, if◌then◌else◌, is_some, List, [], ◌∷◌, ◌++◌, MatchOption, get_or, length, map, slice_get, slice_index, slice_index_or, slice_set, take, Option, Some, None, ap, refl, subst, sym, ◌∙◌, inl, inr, arith}
use Rattle.std.proofs.lemmas.Bool.{cases_eq}
use Rattle.std.proofs.lemmas.List.{append_cancel_left, get_or-set_other, get_or-set_same, length-append, length-map}
use Rattle.std.proofs.lemmas.Option.{get_or_from_slice_get, slice_get-map, slice_get_past, slice_get_within}
use Rattle.std.proofs.Math.Seq.{get_or-append_seam}
use Rattle.pages.specs.Memory.{Memory}
use Rattle.rv64_decode.specs.declared.instruction.Instr.{Instr}
use Rattle.round_schedule.specs.declared.access.Access.{Access}
use Rattle.round_schedule.specs.declared.access.Access.TheVariants.{Load, Store, LoadReserved, StoreConditional, Atomic, Fence}
use Rattle.round_schedule.specs.declared.event.Event.{Event}
use Rattle.round_schedule.specs.Accesses.{read_of}
use Rattle.hart_step.specs.declared.hart.Hart.{Hart}
use Rattle.hart_step.specs.Registers.{reg}
use Rattle.execution.specs.Executions.{Goes, Standing, Stops, Takes}
use Rattle.execution.specs.Progressing.{HasNoStep, ReadsOther}
use Rattle.execution.specs.declared.step.ScriptedStep.{ScriptedStep}
use Rattle.execution.specs.declared.step_fault.StepFault.{StepFault}
use Rattle.execution.specs.declared.step_fault.StepFault.TheVariants.{NoSuchHart, HasStopped, OtherNumber as Unread, RoundFalls}
use Rattle.execution_file.specs.Recorded.{HartDeeds}
use Rattle.execution_file.specs.Deeds.{number_shown, numbers_of}
use Rattle.execution_scripts.specs.Following.{Reads, calls, done_by, is_call, line_of}
use Rattle.execution_scripts.specs.Misfits.{CanRead, IsOver, IsStepMisfit}
use Rattle.execution_scripts.specs.Courses.{HasRead, Took, misfit_for, misfit_of, taken_as}
use Rattle.execution_scripts.specs.declared.calls.Taken.{Taken}
use Rattle.execution_scripts.specs.declared.calls.Taken.TheVariants.{Called, Done, Stopped}
use Rattle.execution_scripts.specs.declared.fault.Misfit.TheVariants.{NoNumber, NoStep, OtherNumber}
use Rattle.execution_scripts.proofs.Moving.{goes_before, goes_spares}
use Rattle.execution_scripts.proofs.Reading.{begins, how_many, none_more, one_more_shown, read_all, read_more}

last_same : {A : Type 0} (t : List A) (e f : A) → t ++ e ∷ [] ≡ t ++ f ∷ [] → e ≡ f
last_same t e f same = ap (λ (u : List _). get_or u 0 e) (append_cancel_left t (e ∷ []) (f ∷ []) same)

seam : {A : Type 0} (t : List A) (e : A) → slice_get (t ++ e ∷ []) (length t) ≡ Some e
seam [] e = refl
seam (x ∷ t) e = seam t e

-- what is read is shown
shown_read : (a : Access) (v : ℕ) → read_of a ≡ Some v → number_shown a ≡ Some v
shown_read (Load w p a r) v e = e
shown_read (Store w p a x) v e = absurd cc
shown_read (LoadReserved w o p a r) v e = e
shown_read (StoreConditional w o p a x) v e = absurd cc
shown_read (Atomic w o p a r x) v e = e
shown_read (Fence b a m p) v e = absurd cc

-- ---- why there is no step

-- the hart can read v, which isn't the number that its line has there
pub other_misfit : (image : Memory) (line : HartDeeds) (n h used v : ℕ) (said : Option ℕ) (p : Standing) → HasRead line (numbers_of h p.events) used → said ≡ slice_get line.reads used →
    said ≢ Some v → CanRead image n h v p → IsStepMisfit (misfit_of v said) image line n h p
other_misfit image line n h used v None p r is other can = (read_all line (numbers_of h p.events) used r (sym is), (v, can))
other_misfit image line n h used v (Some said) p r is other can = (
  ap (slice_get line.reads) (how_many line (numbers_of h p.events) used r) ∙ sym is,
  λ same. other (ap (λ (x : ℕ). Some x) (sym same)),
  can,
)

goes_other : (image : Memory) (n h v : ℕ) (p q : Standing) (e : Event) → Goes image h p q → q.round ≡ n → q.events ≡ p.events ++ e ∷ [] → number_shown e.access ≡ Some v → CanRead image n h v p
goes_other image n h v p q e g round events shown =
    let same : e ≡ g.event = last_same p.events e g.event (sym events ∙ g.events) in
    record { after = q; goes = g; round = round; reads = one_more_shown image h v p q g (subst (λ (x : Event). number_shown x.access ≡ Some v) same shown) }

no_stop : (image : Memory) (h : ℕ) (p q : Standing) (e : Event) → Stops image h p q → q.events ≡ p.events ++ e ∷ [] → ⊥
no_stop image h p q e s events = absurd (omega (arith, ap length (sym s.events ∙ events), length-append p.events (e ∷ [])))

pub no_step : (image : Memory) (line : HartDeeds) (n used : ℕ) (s : ScriptedStep) (p : Standing) (fault : StepFault) → HasRead line (numbers_of s.hart p.events) used →
    s.number ≡ slice_get line.reads used → s.round ≡ n → p.round ≤ n → HasNoStep fault image s p → IsStepMisfit (misfit_for fault s.number) image line n s.hart p
no_step image line n used s p NoSuchHart r is round later none = inl none
no_step image line n used s p RoundFalls r is round later none = absurd (omega (arith, none, round, later))
no_step image line n used s p HasStopped r is round later none = inr (λ g at. none g (sym (get_or_from_slice_get p.harts s.hart g g at)))
no_step image line n used s p (Unread v) r is round later none =
    other_misfit image line n s.hart used v s.number p r is none.other
    (elim none.takes.step [
      | inl g ↦ goes_other image n s.hart v p none.after none.event g (none.takes.round ∙ round) none.events (shown_read none.event.access v none.reads)
      | inr x ↦ absurd (no_stop image s.hart p none.after none.event x none.events)
    ])

-- ---- a step that was taken

-- it left an event, and so it is an instruction with this event
pub went_with : (image : Memory) (s : ScriptedStep) (p q : Standing) (e : Event) → Takes image s p q → slice_get q.events (length p.events) ≡ Some e → (g : Goes image s.hart p q) × (g.event ≡ e)
went_with image s p q e t there = elim t.step [
  | inl g ↦
      let at : Some g.event ≡ Some e = sym (ap (λ (u : List Event). slice_get u (length p.events)) g.events ∙ seam p.events g.event) ∙ there in
      (g, some_same g.event e at)
  | inr x ↦ absurd (past (ap (λ (u : List Event). slice_get u (length p.events)) (sym x.events) ∙ there))
]
  where
    some_same : (a b : Event) → Some a ≡ Some b → a ≡ b
    some_same a b e = cc

    past : slice_get p.events (length p.events) ≡ Some e → ⊥
    past is = let l = slice_get_within p.events (length p.events) e is in absurd (omega (arith, l))

-- it left none, and so the hart stopped
pub stopped_with_none : (image : Memory) (s : ScriptedStep) (p q : Standing) → Takes image s p q → slice_get q.events (length p.events) ≡ None → Stops image s.hart p q
stopped_with_none image s p q t there = elim t.step [
  | inl g ↦ absurd (some_none g.event (sym (ap (λ (u : List Event). slice_get u (length p.events)) g.events ∙ seam p.events g.event) ∙ there))
  | inr x ↦ x
]
  where
    some_none : (a : Event) → ◌≡◌ {A = Option Event} (Some a) None → ⊥
    some_none a e = cc

-- what it took is what the instruction is
pub took_as : (image : Memory) (line : HartDeeds) (n h number : ℕ) (p q : Standing) (s : Reads image line n h p q) → ((g : Hart) → slice_get p.harts h ≡ Some g → number ≡ reg g.x 17) →
    Took (taken_as (slice_get q.instructions (length p.instructions)) number) image line n h p q
took_as image line n h number p q s call =
    subst (λ (o : Option Instr). Took (taken_as o number) image line n h p q)
    (sym (ap (λ (is : List Instr). slice_get is (length p.instructions)) s.goes.instructions ∙ seam p.instructions s.goes.instruction))
    (of_call (is_call s.goes.instruction number)
    (ap (is_call s.goes.instruction) (sym (call s.goes.before (goes_before image h p q s.goes)))))
  where
    of_call : (b : Bool) → calls s ≡ b → Took (if b then Called (number == 3) else Done) image line n h p q
    of_call true e = (s, e)
    of_call false e = (s, e)

-- what the harts have read then
abbrev pub HaveRead : List HartDeeds → List ℕ → Standing → Type 0
HaveRead lines used p = (j : ℕ) → j < length lines → HasRead (line_of lines j) (numbers_of j p.events) (slice_index used j)

pub others_read : (lines : List HartDeeds) (image : Memory) (h k : ℕ) (p q : Standing) (used : List ℕ) → Goes image h p q → length used ≡ length lines → h < length lines →
    HasRead (line_of lines h) (numbers_of h q.events) k → HaveRead lines used p → HaveRead lines (slice_set used h k) q
others_read lines image h k p q used g size within here was j l = elim (cases_eq j h) [
  | inl same ↦
      subst (λ (i : ℕ). HasRead (line_of lines i) (numbers_of i q.events) (slice_index (slice_set used h k) i)) (sym same)
      (subst (HasRead (line_of lines h) (numbers_of h q.events)) (sym (get_or-set_same used h k 0 (omega (arith, size, within)))) here)
  | inr other ↦
      subst (HasRead (line_of lines j) (numbers_of j q.events)) (sym (get_or-set_other used h j k 0 other))
      (subst (λ (ns : List ℕ). HasRead (line_of lines j) ns (slice_index used j)) (sym ((goes_spares image h p q g).numbers j other)) (was j l))
]
