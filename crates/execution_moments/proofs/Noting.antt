-- What is noted of a step.
use Rattle.std.proofs.Common.{◌≡◌, ℕ, ◌+◌, ◌<◌, ◌≤◌, ◌⊎◌, List, [], ◌∷◌, ◌++◌, length, slice_get, slice_index_or, Some, ap, arith, inl, inr, refl, subst, sym, ◌∙◌}
use Rattle.std.proofs.lemmas.Bool.{cases_lt}
use Rattle.std.proofs.lemmas.List.{append-nil, get_or_append_left, length-append}
use Rattle.std.proofs.Math.Seq.{get_or-append_seam}
use Rattle.pages.specs.Memory.{Memory}
use Rattle.round_schedule.specs.declared.event.Event.{Event}
use Rattle.round_schedule.specs.Positions.{event, no_event}
use Rattle.hart_step.specs.declared.hart.Hart.{Hart}
use Rattle.execution.specs.declared.step.ScriptedStep.{ScriptedStep}
use Rattle.execution.specs.Executions.{Executes, Goes, Standing, Stops, Takes, begins, goes, stops}
use Rattle.execution_views.specs.Passing.{IsBefore}
use Rattle.execution_views.proofs.Further.{Further, before_stays, event_stays, length_more}
use Rattle.execution_views.proofs.Noting.{Grows}
use Rattle.execution_moments.specs.declared.course.HartMoment.{HartMoment}
use Rattle.execution_moments.specs.Courses.{AreBefore, before_one}

-- nothing is done
pub nothing_noted : (image : Memory) (p : Standing) (ms : List HartMoment) → p.events ≡ [] → ms ≡ [] → AreBefore image p p ms
nothing_noted image p ms none empty = record { count = ap length empty ∙ sym (ap length none); each = λ k l. absurd (omega (arith, l, ap length none)) }

-- no instruction more
same_noted : (image : Memory) (p q r : Standing) (ms : List HartMoment) → Further image q r [] → AreBefore image p q ms → AreBefore image p r ms
same_noted image p q r ms f x =
    let same : q.events ≡ r.events = sym (f.events ∙ append-nil q.events) in
    record {
      count = x.count ∙ ap length same;
      each = λ k l.
          let m : k < length q.events = omega (arith, l, length_more image q r [] f) in
          let old = x.each k m in
          (old.0, before_stays image p q r [] k old.0 f m old.1, λ d. old.2 d ∙ ap (λ (t : List Event). before_one (event t k) k old.0) same);
    }

-- an instruction of hart i more, which was g before it
new_event : (image : Memory) (p q r : Standing) (i : ℕ) (g : Hart) (e : Event) → Grows image p q r i g e → event r.events (length q.events) ≡ e
new_event image p q r i g e x = ap (λ (t : List Event). event t (length q.events)) x.further.events ∙ get_or-append_seam q.events e [] no_event

new_before : (image : Memory) (p q r : Standing) (i : ℕ) (g : Hart) (e : Event) → Grows image p q r i g e → IsBefore image p r (length q.events) g
new_before image p q r i g e x = record {
  here = q;
  passes = record { leads = x.leads; goes_on = x.further.on };
  done = refl;
  hart = ap (λ (n : ℕ). slice_get q.harts n) (ap (λ (d : Event). d.hart) (new_event image p q r i g e x) ∙ x.hart) ∙ x.there;
}

abbrev noted_one : ℕ → ℕ → Hart → HartMoment
noted_one i n g = record { number = i; index = Some n; hart = g }

one_noted : (i n k : ℕ) (e : Event) (g : Hart) → i ≡ e.hart → n ≡ k → noted_one i n g ≡ before_one e k g
one_noted i n k e g hart index = ap (λ (j : ℕ). noted_one j n g) hart ∙ ap (λ (j : ℕ). noted_one e.hart j g) index

more_noted : (image : Memory) (p q r : Standing) (i : ℕ) (g : Hart) (e : Event) (old new : List HartMoment) → Grows image p q r i g e →
    new ≡ old ++ noted_one i (length old) g ∷ [] → AreBefore image p q old → AreBefore image p r new
more_noted image p q r i g e old new x is a = record {
  count = ap length is ∙ length-append old (noted_one i (length old) g ∷ []) ∙ ap (λ (n : ℕ). n + 1) a.count ∙ sym (length_more image q r (e ∷ []) x.further);
  each = λ k l. elim (cases_lt k (length q.events)) [
    | inl m ↦
        let was = a.each k m in (
          was.0,
          before_stays image p q r (e ∷ []) k was.0 x.further m was.1,
          λ d. ap (λ (xs : List HartMoment). slice_index_or xs k d) is ∙ get_or_append_left old (noted_one i (length old) g ∷ []) d k (omega (arith, m, a.count)) ∙ was.2 d
              ∙ ap (λ (v : Event). before_one v k was.0) (sym (event_stays image q r (e ∷ []) k x.further m)),
        )
    | inr m ↦
        let at : k ≡ length q.events = omega (arith, m, l, length_more image q r (e ∷ []) x.further) in
        let seam : length old ≡ k = omega (arith, at, a.count) in
        let number : i ≡ (event r.events k).hart = sym (ap (λ (d : Event). d.hart) (ap (event r.events) at ∙ new_event image p q r i g e x) ∙ x.hart) in (
          g,
          subst (λ (j : ℕ). IsBefore image p r j g) (sym at) (new_before image p q r i g e x),
          λ d. ap (λ (xs : List HartMoment). slice_index_or xs k d) is ∙ ap (λ (j : ℕ). slice_index_or (old ++ noted_one i (length old) g ∷ []) j d) (sym seam)
              ∙ get_or-append_seam old (noted_one i (length old) g) [] d ∙ one_noted i (length old) k (event r.events k) g number seam,
        )
  ];
}

-- of a step, by how many instructions there are
abbrev Noted : Standing → ℕ → Hart → List HartMoment → List HartMoment → Type 0
Noted r i g old new = ((length old < length r.events) × (new ≡ old ++ noted_one i (length old) g ∷ [])) ⊎ ((length r.events ≤ length old) × (new ≡ old))

went : (image : Memory) (p q r : Standing) (i : ℕ) (g : Hart) (old new : List HartMoment) → Executes image p q → slice_get q.harts i ≡ Some g → Goes image i q r →
    Noted r i g old new → AreBefore image p q old → AreBefore image p r new
went image p q r i g old new leads there x is f =
    let grows : Grows image p q r i g x.event = record {
      leads = leads;
      further = record { on = goes i q q r (begins q) x; events = x.events };
      hart = x.event_of.hart;
      there = there;
    } in
    elim is [
      | inl here ↦ more_noted image p q r i g x.event old new grows here.1 f
      | inr other ↦ absurd (omega (arith, other.0, f.count, length_more image q r (x.event ∷ []) grows.further))
    ]

stopped : (image : Memory) (p q r : Standing) (i : ℕ) (g : Hart) (old new : List HartMoment) → Stops image i q r → Noted r i g old new → AreBefore image p q old → AreBefore image p r new
stopped image p q r i g old new x is f =
    let further : Further image q r [] = record { on = stops i q q r (begins q) x; events = x.events ∙ sym (append-nil q.events) } in
    elim is [
      | inl here ↦ absurd (omega (arith, here.0, f.count, length_more image q r [] further))
      | inr other ↦ subst (AreBefore image p r) (sym other.1) (same_noted image p q r old further f)
    ]

pub noted : (image : Memory) (p q r : Standing) (s : ScriptedStep) (g : Hart) (old new : List HartMoment) → Executes image p q → slice_get q.harts s.hart ≡ Some g → Takes image s q r →
    Noted r s.hart g old new → AreBefore image p q old → AreBefore image p r new
noted image p q r s g old new leads there t is f =
    elim t.step [ inl x ↦ went image p q r s.hart g old new leads there x is f | inr x ↦ stopped image p q r s.hart g old new x is f ]
