-- Harts that have ended are as their lines say.
use Rattle.std.proofs.Common.{◌≡◌, ◌≢◌, ◌⊎◌, ℕ, zero, suc, ◌+◌, ◌^◌, ◌<◌, ◌≤◌, Bool, true, false, List, [], ◌∷◌, ◌++◌, get_or, length, map, slice_get, slice_index, slice_index_or, take, Option, Some, None, ap, refl, subst, sym, ◌∙◌, inl, inr, arith}
use Rattle.std.proofs.lemmas.Bool.{cases_eq, cases_lt}
use Rattle.std.proofs.lemmas.List.{get_or_past, same_lists}
use Rattle.std.proofs.lemmas.Option.{slice_get_within, slice_get-get_or, get_or_from_slice_get}
use Rattle.pages.specs.Memory.{Memory}
use Rattle.round_schedule.specs.declared.event.Event.{Event}
use Rattle.hart_step.specs.declared.hart.Hart.{Hart}
use Rattle.hart_step.specs.declared.hart.Stop.{Stop}
use Rattle.execution.specs.Executions.{Goes, Standing, Stops}
use Rattle.execution_file.specs.Recorded.{HartDeeds, Turn}
use Rattle.execution_file.specs.Deeds.{code_of, deeds, numbers_of, part_of, parts_from, value_of}
use Rattle.execution_scripts.specs.Following.{AreCalled, AreFollowed, Calls, Ends, HaveEnded, IsEnd, Reads, Runs, called-more, called-none, done_by, done_of, ended-more, ended-none, line_of, no_line, stop_by, stop_in}
use Rattle.execution_scripts.proofs.Moving.{Spares, ends_spares, goes_runs, goes_spares, runs_on, runs_spares, spares_both, spares_none, stops_done}

-- a hart is and has read what its line says
pub record IsDone (line : HartDeeds) (h : ℕ) (q : Standing) : Type 0 where
  pub steps : done_by q h ≡ line.steps
  pub code : code_of (stop_by q h) ≡ line.code
  pub value : value_of (stop_by q h) ≡ line.value
  pub reads : numbers_of h q.events ≡ line.reads

done_end : (image : Memory) (line : HartDeeds) (n h : ℕ) (p q : Standing) → IsEnd image line n h p q → done_by q h ≡ done_by p h
done_end image line n h p q e = elim e [
  | inl same ↦ ap (λ (x : Standing). done_by x h) same.2
  | inr other ↦ stops_done image h p q other.1.stops
]

pub ends_done : (image : Memory) (line : HartDeeds) (n h : ℕ) (p q : Standing) → stop_by p h ≡ None → Ends image line n h p q → IsDone line h q
ends_done image line n h p q running e = record {
  steps = done_end image line n h e.before q e.end ∙ e.all;
  code = elim e.end [ inl same ↦ ap code_of (still same.2) ∙ sym same.0 | inr other ↦ other.1.code ];
  value = elim e.end [ inl same ↦ ap value_of (still same.2) ∙ sym same.1 | inr other ↦ other.1.value ];
  reads = e.numbers;
}
  where
    still : q ≡ e.before → stop_by q h ≡ None
    still same = ap (λ (x : Standing). stop_by x h) same ∙ runs_on image line n h e.calls p e.before e.runs running

-- what another hart does leaves it so
stays_done : (line : HartDeeds) (h j : ℕ) (p q : Standing) → j ≢ h → Spares h p q → IsDone line j p → IsDone line j q
stays_done line h j p q other s d =
    let same : slice_get q.harts j ≡ slice_get p.harts j = s.hart j other in
    record {
      steps = ap done_of same ∙ d.steps;
      code = ap (λ (o : Option Hart). code_of (stop_in o)) same ∙ d.code;
      value = ap (λ (o : Option Hart). value_of (stop_in o)) same ∙ d.value;
      reads = s.numbers j other ∙ d.reads;
    }

-- harts that run, from hart k on
abbrev pub AreRunning : ℕ → Standing → Type 0
AreRunning k p = (j : ℕ) → k ≤ j → stop_by p j ≡ None

pub called_running : (image : Memory) (lines : List HartDeeds) (start : Standing) (us : List Turn) (n : ℕ) (q : Standing) → AreCalled image lines start us n q → AreRunning 0 start → AreRunning 0 q
called_running image lines start _ _ _ called-none r = r
called_running image lines start _ _ r (called-more us u n p q x round c) running = λ j l. elim (cases_eq j u.hart) [
  | inl same ↦ ap (stop_by r) same ∙ goes_runs image u.hart c.before r c.last.goes
  | inr other ↦
      ap stop_in (spares.hart j other) ∙ called_running image lines start us n p x running j l
]
  where
    spares : Spares u.hart p r
    spares = spares_both u.hart p c.before r (runs_spares image (line_of lines u.hart) _ u.hart 0 p c.before c.runs) (goes_spares image u.hart c.before r c.last.goes)

-- harts 0 .. k - 1 are done, and the others run
pub record AreDone (lines : List HartDeeds) (k : ℕ) (q : Standing) : Type 0 where
  pub done : (j : ℕ) → j < k → IsDone (line_of lines j) j q
  pub running : AreRunning k q

pub ended_done : (image : Memory) (lines : List HartDeeds) (n : ℕ) (start : Standing) (k : ℕ) (q : Standing) → HaveEnded image lines n start k q → AreRunning 0 start → AreDone lines k q
ended_done image lines n start _ _ ended-none r = record { done = λ j l. absurd (omega (arith, l)); running = r }
ended_done image lines n start _ r (ended-more k p q x e) running =
    let was = ended_done image lines n start k p x running in
    let spares = ends_spares image (line_of lines k) n k p r e in
    record {
      done = λ j l. elim (cases_eq j k) [
        | inl same ↦
            subst (λ (i : ℕ). IsDone (line_of lines i) i r) (sym same) (ends_done image (line_of lines k) n k p r (was.running k (omega arith)) e)
        | inr other ↦ stays_done (line_of lines j) k j p r other spares (was.done j (omega (arith, l, other)))
      ];
      running = λ j l. ap stop_in (spares.hart j (λ same. omega (arith, same, l))) ∙ was.running j (omega (arith, l));
    }

-- ---- all harts

parts_length : (h : ℕ) (gs : List Hart) (t : List Event) → length (parts_from h gs t) ≡ length gs
parts_length h [] t = refl
parts_length h (g ∷ gs) t = ap (λ k. suc k) (parts_length (h + 1) gs t)

part_at : (h k : ℕ) (gs : List Hart) (t : List Event) (g : Hart) (d : HartDeeds) → slice_get gs k ≡ Some g → get_or (parts_from h gs t) k d ≡ part_of (h + k) g t
part_at h k [] t g d at = absurd cc
part_at h zero (f ∷ gs) t g d at = ap (λ (x : Hart). part_of h x t) (some_same f g at) ∙ ap (λ (m : ℕ). part_of m g t) (let e : h ≡ h + 0 = omega arith in e)
  where
    some_same : (a b : Hart) → Some a ≡ Some b → a ≡ b
    some_same a b e = cc
part_at h (suc k) (f ∷ gs) t g d at = part_at (h + 1) k gs t g d at ∙ ap (λ (m : ℕ). part_of m g t) (let e : h + 1 + k ≡ h + suc k = omega arith in e)

line_is : (line : HartDeeds) (h : ℕ) (q : Standing) (g : Hart) → slice_get q.harts h ≡ Some g → IsDone line h q → line ≡ part_of h g q.events
line_is line h q g at d =
    fields line g.done (code_of g.stop) (value_of g.stop) (numbers_of h q.events)
    (sym d.steps ∙ ap done_of at) (sym d.code ∙ ap (λ (o : Option Hart). code_of (stop_in o)) at) (sym d.value ∙ ap (λ (o : Option Hart). value_of (stop_in o)) at) (sym d.reads)
  where
    fields : (l : HartDeeds) (s c : ℕ) (v : Option ℕ) (r : List ℕ) → l.steps ≡ s → l.code ≡ c → l.value ≡ v → l.reads ≡ r → l ≡ record { steps = s; code = c; value = v; reads = r }
    fields l s c v r a b e f = λ i. record { steps = a i; code = b i; value = e i; reads = f i }

-- the lines are what the harts did
pub lines_are_deeds : (lines : List HartDeeds) (q : Standing) → length q.harts ≡ length lines → AreDone lines (length lines) q → lines ≡ deeds q.harts q.events
lines_are_deeds lines q size d =
    same_lists lines (deeds q.harts q.events) (sym size ∙ sym (parts_length 0 q.harts q.events)) (λ k e l.
    let there : (k < length q.harts) = omega (arith, l, size) in
    let g : Hart = get_or q.harts k (some_hart q.harts k there) in
    let z : 0 + k ≡ k = omega arith in
    let at : slice_get q.harts k ≡ Some g = slice_get-get_or q.harts k (some_hart q.harts k there) there in
    default lines k e no_line l
    ∙ line_is (line_of lines k) k q g at (d.done k l)
    ∙ sym (part_at 0 k q.harts q.events g e at ∙ ap (λ (m : ℕ). part_of m g q.events) z))
  where
    some_hart : (hs : List Hart) (k : ℕ) → k < length hs → Hart
    some_hart [] k l = absurd (omega (arith, l))
    some_hart (h ∷ hs) k l = h

    default : (xs : List HartDeeds) (k : ℕ) (a b : HartDeeds) → k < length xs → get_or xs k a ≡ get_or xs k b
    default [] k a b l = absurd (omega (arith, l))
    default (x ∷ xs) zero a b l = refl
    default (x ∷ xs) (suc k) a b l = default xs k a b (omega (arith, l))

-- where all is followed that the lines and the calls say
pub followed_deeds : (image : Memory) (lines : List HartDeeds) (turns : List Turn) (start q : Standing) → length q.harts ≡ length lines → AreRunning 0 start →
    AreFollowed image lines turns start q → lines ≡ deeds q.harts q.events
followed_deeds image lines turns start q size running f =
    lines_are_deeds lines q size
    (ended_done image lines f.round f.called (length lines) q f.ends (called_running image lines start turns f.round f.called f.calls running))
