-- What is noted of a step.
use Rattle.std.proofs.Common.{◌≡◌, ℕ, ◌+◌, ◌<◌, ◌≤◌, ◌==◌, ◌&&◌, ◌⊎◌, Bool, true, false, if◌then◌else◌, List, [], ◌∷◌, ◌++◌, length, slice_get, slice_index, take, Option, Some, None, ap, arith, inl, inr, refl, subst, sym, ◌∙◌}
use Rattle.std.proofs.lemmas.Bool.{and_from, and_parts, cases_Bool, cases_lt, cond-false, cond-true, eq-eqb, eqb-true}
use Rattle.std.proofs.lemmas.List.{append-nil, get_or_append_left, length-append}
use Rattle.std.proofs.lemmas.List.Sums.{count_by-le-length, sum_by-append}
use Rattle.std.proofs.Math.Seq.{get_or-append_seam, take-append_seam}
use Rattle.pages.specs.Memory.{Memory}
use Rattle.round_schedule.specs.declared.event.Event.{Event}
use Rattle.round_schedule.specs.Positions.{event, no_event}
use Rattle.hart_step.specs.declared.hart.Hart.{Hart}
use Rattle.execution.specs.declared.step.ScriptedStep.{ScriptedStep}
use Rattle.execution.specs.Executions.{Executes, Goes, Standing, Stops, Takes, begins, goes, stops}
use Rattle.execution_views.specs.declared.sights.Before.{Before}
use Rattle.execution_views.specs.declared.sights.HartStep.{HartStep}
use Rattle.execution_views.specs.declared.walk.Notes.{Notes}
use Rattle.execution_views.specs.Passing.{ArePcs, IsBefore, IsFound, IsStepOf, IsTold, events_of_hart}
use Rattle.execution_views.specs.Walks.{AreNotes, IsNoted, is_asked_hart, is_asked_step, steps_of}
use Rattle.execution_views.proofs.Further.{Further, before_stays, found_up, length_more, step_down, take_stays}

-- ---- nothing is done

told_none : (image : Memory) (p : Standing) (a : Option HartStep) → p.events ≡ [] → IsTold image p p a None
told_none image p None none = refl
told_none image p (Some s) none = λ k st. absurd (omega (arith, st.within, ap length none))

no_steps : (a : Option HartStep) → 0 ≡ steps_of a []
no_steps None = refl
no_steps (Some s) = refl

pub nothing_noted : (image : Memory) (p : Standing) (a : Option HartStep) (n : Notes) → p.events ≡ [] → n.sights.pcs.items ≡ [] → n.sights.before ≡ None → n.steps ≡ 0 → AreNotes image p p a n
nothing_noted image p a n none pcs before steps = record {
  sights = record {
    pcs = record { count = ap length pcs ∙ sym (ap length none); each = λ k l. absurd (omega (arith, l, ap length none)) };
    before = subst (IsTold image p p a) (sym before) (told_none image p a none);
  };
  steps = steps ∙ no_steps a ∙ ap (steps_of a) (sym none);
}

-- ---- no instruction more

found_same : (image : Memory) (p q r : Standing) (s : HartStep) (o : Option Before) → Further image q r [] → IsFound image p q s o → IsFound image p r s o
found_same image p q r s None f none = λ k st.
    none k (step_down image q r [] s.hart s.number k f (omega (arith, st.within, length_more image q r [] f)) st)
found_same image p q r s (Some b) f x = found_up image p q r [] s b f x

told_same : (image : Memory) (p q r : Standing) (a : Option HartStep) (o : Option Before) → Further image q r [] → IsTold image p q a o → IsTold image p r a o
told_same image p q r None o f x = x
told_same image p q r (Some s) o f x = found_same image p q r s o f x

pub notes_same : (image : Memory) (p q r : Standing) (a : Option HartStep) (n : Notes) → Further image q r [] → AreNotes image p q a n → AreNotes image p r a n
notes_same image p q r a n f x =
    let same : q.events ≡ r.events = sym (f.events ∙ append-nil q.events) in
    record {
      sights = record {
        pcs = record {
          count = x.sights.pcs.count ∙ ap length same;
          each = λ k l.
              let m : k < length q.events = omega (arith, l, length_more image q r [] f) in
              let old = x.sights.pcs.each k m in
              (old.0, before_stays image p q r [] k old.0 f m old.1, old.2);
        };
        before = told_same image p q r a n.sights.before f x.sights.before;
      };
      steps = x.steps ∙ ap (steps_of a) same;
    }

-- ---- an instruction of hart i more, which was g before it

pub record Grows (image : Memory) (p q r : Standing) (i : ℕ) (g : Hart) (e : Event) : Type 0 where
  pub leads : Executes image p q
  pub further : Further image q r (e ∷ [])
  pub hart : e.hart ≡ i
  pub there : slice_get q.harts i ≡ Some g

new_event : (image : Memory) (p q r : Standing) (i : ℕ) (g : Hart) (e : Event) → Grows image p q r i g e → event r.events (length q.events) ≡ e
new_event image p q r i g e x = ap (λ (t : List Event). event t (length q.events)) x.further.events ∙ get_or-append_seam q.events e [] no_event

new_before : (image : Memory) (p q r : Standing) (i : ℕ) (g : Hart) (e : Event) → Grows image p q r i g e → IsBefore image p r (length q.events) g
new_before image p q r i g e x = record {
  here = q;
  passes = record { leads = x.leads; goes_on = x.further.on };
  done = refl;
  hart = ap (λ (n : ℕ). slice_get q.harts n) (ap (λ (d : Event). d.hart) (new_event image p q r i g e x) ∙ x.hart) ∙ x.there;
}

new_step : (image : Memory) (p q r : Standing) (i : ℕ) (g : Hart) (e : Event) (h n : ℕ) → Grows image p q r i g e → i ≡ h → events_of_hart h q.events ≡ n → IsStepOf r.events h n (length q.events)
new_step image p q r i g e h n x same count = record {
  within = omega (arith, length_more image q r (e ∷ []) x.further);
  hart = ap (λ (d : Event). d.hart) (new_event image p q r i g e x) ∙ x.hart ∙ same;
  before = ap (events_of_hart h) (take_stays image q r (e ∷ []) (length q.events) x.further (omega arith) ∙ take_all q.events) ∙ count;
}
  where
    take_all : (t : List Event) → take (length t) t ≡ t
    take_all t = ap (λ (u : List Event). take (length t) u) (sym (append-nil t)) ∙ take-append_seam t []

counted : (h : ℕ) (t : List Event) (e : Event) → events_of_hart h (t ++ e ∷ []) ≡ (if e.hart == h then events_of_hart h t + 1 else events_of_hart h t)
counted h t e = sum_by-append (λ (d : Event). if d.hart == h then 1 else 0) t (e ∷ []) ∙ of (e.hart == h) (events_of_hart h t)
  where
    of : (b : Bool) (n : ℕ) → n + (0 + (if b then 1 else 0)) ≡ (if b then n + 1 else n)
    of true n = omega arith
    of false n = omega arith

-- where it isn't the step that is asked for, a step that wasn't found isn't there
none_more : (image : Memory) (p q r : Standing) (i : ℕ) (g : Hart) (e : Event) (s : HartStep) (n : ℕ) → Grows image p q r i g e → n ≡ events_of_hart s.hart q.events →
    ((i == s.hart) && (n == s.number)) ≡ false → IsFound image p q s None → IsFound image p r s None
none_more image p q r i g e s n x count other none = λ k st.
    elim (cases_lt k (length q.events)) [
      | inl l ↦ none k (step_down image q r (e ∷ []) s.hart s.number k x.further l st)
      | inr m ↦
          let at : k ≡ length q.events = omega (arith, m, st.within, length_more image q r (e ∷ []) x.further) in
          let hart : i ≡ s.hart = sym x.hart ∙ sym (ap (λ (d : Event). d.hart) (ap (event r.events) at ∙ new_event image p q r i g e x)) ∙ st.hart in
          let number : n ≡ s.number =
          count ∙ sym (ap (events_of_hart s.hart) (ap (λ (j : ℕ). take j r.events) at ∙ take_stays image q r (e ∷ []) (length q.events) x.further (omega arith) ∙ take_all q.events)) ∙ st.before in
          absurd (true_false (sym (and_from (i == s.hart) (n == s.number) (eq-eqb i s.hart hart) (eq-eqb n s.number number)) ∙ other))
    ]
  where
    take_all : (t : List Event) → take (length t) t ≡ t
    take_all t = ap (λ (u : List Event). take (length t) u) (sym (append-nil t)) ∙ take-append_seam t []

    true_false : true ≡ false → ⊥
    true_false e = cc

found_more : (image : Memory) (p q r : Standing) (i : ℕ) (g : Hart) (e : Event) (s : HartStep) (n : ℕ) (o : Option Before) → Grows image p q r i g e → n ≡ events_of_hart s.hart q.events →
    ((i == s.hart) && (n == s.number)) ≡ false → IsFound image p q s o → IsFound image p r s o
found_more image p q r i g e s n None x count other f = none_more image p q r i g e s n x count other f
found_more image p q r i g e s n (Some b) x count other f = found_up image p q r (e ∷ []) s b x.further f

told_more : (image : Memory) (p q r : Standing) (i : ℕ) (g : Hart) (e : Event) (a : Option HartStep) (n index : ℕ) (o o' : Option Before) → Grows image p q r i g e →
    n ≡ steps_of a q.events → index ≡ length q.events →
    o' ≡ (if is_asked_step a i n then Some (record { index = index; hart = g }) else o) → IsTold image p q a o → IsTold image p r a o'
told_more image p q r i g e None n index o o' x count at is f = is ∙ f
told_more image p q r i g e (Some s) n index o o' x count at is f = elim (cases_Bool ((i == s.hart) && (n == s.number))) [
  | inl here ↦
      let two = and_parts (i == s.hart) (n == s.number) here in
      subst (IsFound image p r s) (sym (is ∙ cond-true _ _ _ here ∙ ap (λ (k : ℕ). Some (record { index = k; hart = g })) at))
      (new_step image p q r i g e s.hart s.number x (eqb-true i s.hart two.0) (sym count ∙ eqb-true n s.number two.1), new_before image p q r i g e x)
  | inr other ↦ subst (IsFound image p r s) (sym (is ∙ cond-false _ _ _ other)) (found_more image p q r i g e s n o x count other f)
]

steps_more : (image : Memory) (p q r : Standing) (i : ℕ) (g : Hart) (e : Event) (a : Option HartStep) (n : ℕ) → Grows image p q r i g e → n ≡ steps_of a q.events →
    (if is_asked_hart a i then n + 1 else n) ≡ steps_of a r.events
steps_more image p q r i g e None n x count = count
steps_more image p q r i g e (Some s) n x count =
    ap (λ (m : ℕ). if i == s.hart then m + 1 else m) count
    ∙ ap (λ (j : ℕ). if j == s.hart then events_of_hart s.hart q.events + 1 else events_of_hart s.hart q.events) (sym x.hart)
    ∙ sym (ap (events_of_hart s.hart) x.further.events ∙ counted s.hart q.events e)

pcs_more : (image : Memory) (p q r : Standing) (i : ℕ) (g : Hart) (e : Event) (old new : List ℕ) → Grows image p q r i g e → new ≡ old ++ g.pc ∷ [] → ArePcs image p q old → ArePcs image p r new
pcs_more image p q r i g e old new x is a = record {
  count = ap length is ∙ length-append old (g.pc ∷ []) ∙ ap (λ (n : ℕ). n + 1) a.count ∙ sym (length_more image q r (e ∷ []) x.further);
  each = λ k l. elim (cases_lt k (length q.events)) [
    | inl m ↦
        let was = a.each k m in (
          was.0,
          before_stays image p q r (e ∷ []) k was.0 x.further m was.1,
          ap (λ (xs : List ℕ). slice_index xs k) is ∙ get_or_append_left old (g.pc ∷ []) 0 k (omega (arith, m, a.count)) ∙ was.2,
        )
    | inr m ↦
        let at : k ≡ length q.events = omega (arith, m, l, length_more image q r (e ∷ []) x.further) in (
          g,
          subst (λ (j : ℕ). IsBefore image p r j g) (sym at) (new_before image p q r i g e x),
          ap (λ (xs : List ℕ). slice_index xs k) is ∙ ap (λ (j : ℕ). slice_index (old ++ g.pc ∷ []) j) (at ∙ sym a.count) ∙ get_or-append_seam old g.pc [] 0,
        )
  ];
}

pub notes_more : (image : Memory) (p q r : Standing) (i : ℕ) (g : Hart) (e : Event) (a : Option HartStep) (n m : Notes) → Grows image p q r i g e → IsNoted a i g n m → AreNotes image p q a n → AreNotes image p r a m
notes_more image p q r i g e a n m x is f = record {
  sights = record {
    pcs = pcs_more image p q r i g e n.sights.pcs.items m.sights.pcs.items x is.pcs f.sights.pcs;
    before = told_more image p q r i g e a n.steps (length n.sights.pcs.items) n.sights.before m.sights.before x f.steps f.sights.pcs.count is.before f.sights.before;
  };
  steps = is.steps ∙ steps_more image p q r i g e a n.steps x f.steps;
}

-- ---- of a step, by how many instructions there are

abbrev Noted : Memory → Standing → Standing → ℕ → Hart → Option HartStep → Notes → Notes → Type 0
Noted image p r i g a n m = ((length n.sights.pcs.items < length r.events) × IsNoted a i g n m) ⊎ ((length r.events ≤ length n.sights.pcs.items) × (m ≡ n))

went : (image : Memory) (p q r : Standing) (i : ℕ) (g : Hart) (a : Option HartStep) (n m : Notes) → Executes image p q → slice_get q.harts i ≡ Some g → Goes image i q r →
    Noted image p r i g a n m → AreNotes image p q a n → AreNotes image p r a m
went image p q r i g a n m leads there x is f =
    let grows : Grows image p q r i g x.event = record {
      leads = leads;
      further = record { on = goes i q q r (begins q) x; events = x.events };
      hart = x.event_of.hart;
      there = there;
    } in
    elim is [
      | inl here ↦ notes_more image p q r i g x.event a n m grows here.1 f
      | inr other ↦ absurd (omega (arith, other.0, f.sights.pcs.count, length_more image q r (x.event ∷ []) grows.further))
    ]

stopped : (image : Memory) (p q r : Standing) (i : ℕ) (g : Hart) (a : Option HartStep) (n m : Notes) → Stops image i q r → Noted image p r i g a n m → AreNotes image p q a n → AreNotes image p r a m
stopped image p q r i g a n m x is f =
    let further : Further image q r [] = record { on = stops i q q r (begins q) x; events = x.events ∙ sym (append-nil q.events) } in
    elim is [
      | inl here ↦ absurd (omega (arith, here.0, f.sights.pcs.count, length_more image q r [] further))
      | inr other ↦ subst (AreNotes image p r a) (sym other.1) (notes_same image p q r a n further f)
    ]

pub noted : (image : Memory) (p q r : Standing) (s : ScriptedStep) (g : Hart) (a : Option HartStep) (n m : Notes) → Executes image p q → slice_get q.harts s.hart ≡ Some g → Takes image s q r →
    Noted image p r s.hart g a n m → AreNotes image p q a n → AreNotes image p r a m
noted image p q r s g a n m leads there t is f = elim t.step [ inl x ↦ went image p q r s.hart g a n m leads there x is f | inr x ↦ stopped image p q r s.hart g a n m x is f ]

-- the steps of one hart are no more than the pcs
pub few_steps : (image : Memory) (p q : Standing) (a : Option HartStep) (n : Notes) → AreNotes image p q a n → n.steps ≤ length n.sights.pcs.items
few_steps image p q None n f = omega (arith, f.steps)
few_steps image p q (Some s) n f = omega (arith, f.steps, f.sights.pcs.count, count_by-le-length (λ (e : Event). e.hart == s.hart) q.events)
