-- What harts put out, step by step.
use Rattle.std.proofs.Common.{◌≡◌, ◌⊎◌, ◌∙◌, ℕ, suc, ◌+◌, ◌<◌, ◌≤◌, ◌==◌, ◌++◌, if◌then◌else◌, List, [], ◌∷◌, length, map, get_or, drop, slice_set, ap, ap₂, sym, subst, refl, inl, inr, arith}
use Rattle.std.specs.Global.{Vec}
use Rattle.std.proofs.lemmas.Bool.{cases_eq, cond-false, cond-true, eq-eqb, ne_eqb}
use Rattle.std.proofs.lemmas.List.{append-nil, get_or-set_other, get_or-set_same, length-set, length_push}
use Rattle.pages.specs.Memory.{Memory}
use Rattle.execution.specs.declared.step.ScriptedStep.{ScriptedStep}
use Rattle.execution.specs.Executions.{Executes, Goes, Standing, Stops, Takes, begins, goes, stops}
use Rattle.all_endings.specs.Endings.{own_output, own_outputs}
use Rattle.ending_judge.specs.JudgedEndings.{AreOutputs, IsPutOut}

-- before the first step none has put anything out
pub none_yet : (image : Memory) (p : Standing) (outputs : List (Vec ℕ)) → length outputs ≡ length p.harts →
    ((h : ℕ) (d : Vec ℕ) → h < length outputs → (get_or outputs h d).items ≡ []) → AreOutputs image p p outputs
none_yet image p outputs count none = record { leads = begins p; count = count; each = none }

-- what a hart's instruction adds is the hart's own
goes_on : (image : Memory) (i : ℕ) (p q r : Standing) (old new : List (Vec ℕ)) → Goes image i q r →
    IsPutOut i (drop (length q.console.output) r.console.output) old new → AreOutputs image p q old → AreOutputs image p r new
goes_on image i p q r old new g o was = record {
  leads = goes i p q r was.leads g;
  count = o.count ∙ was.count ∙ sym (ap length g.harts ∙ length-set q.harts i g.after);
  each = λ h d l.
      let below : h < length old = omega (arith, l, o.count) in
      o.each h d below ∙ ap (λ os. os ++ (if i == h then drop (length q.console.output) r.console.output else [])) (was.each h d below);
}

-- a hart that stops adds nothing
stops_here : (image : Memory) (i : ℕ) (p q r : Standing) (outputs : List (Vec ℕ)) → Stops image i q r → AreOutputs image p q outputs → AreOutputs image p r outputs
stops_here image i p q r outputs s was = record {
  leads = stops i p q r was.leads s;
  count = was.count ∙ sym (ap length s.harts ∙ length-set q.harts i s.after);
  each = was.each;
}

-- bytes that are added at an index
pub put_at : (old : List (Vec ℕ)) (hart : ℕ) (bytes : List ℕ) (v : Vec ℕ) → hart < length old → ((d : Vec ℕ) → v.items ≡ (get_or old hart d).items ++ bytes) →
    IsPutOut hart bytes old (slice_set old hart v)
put_at old hart bytes v l is = record {
  count = length-set old hart v;
  each = λ h d below. elim (cases_eq h hart) [
    | inl same ↦
        ap (λ k. (get_or (slice_set old hart v) k d).items) same ∙ ap (λ (x : Vec ℕ). x.items) (get_or-set_same old hart v d l) ∙ is d
        ∙ ap (λ k. (get_or old k d).items ++ bytes) (sym same)
        ∙ ap (λ bs. (get_or old h d).items ++ bs) (sym (cond-true (hart == h) bytes [] (eq-eqb hart h (sym same))))
    | inr other ↦
        ap (λ (x : Vec ℕ). x.items) (get_or-set_other old hart h v d other) ∙ sym (append-nil (get_or old h d).items)
        ∙ ap (λ bs. (get_or old h d).items ++ bs) (sym (cond-false (hart == h) bytes [] (ne_eqb hart h (λ e. other (sym e)))))
  ];
}

-- where there is an event more, something may have been put out
pub one_step : (image : Memory) (s : ScriptedStep) (p q r : Standing) (old new : List (Vec ℕ)) → Takes image s q r →
    ((length q.events < length r.events) × IsPutOut s.hart (drop (length q.console.output) r.console.output) old new) ⊎ ((length r.events ≤ length q.events) × (new ≡ old)) →
    AreOutputs image p q old → AreOutputs image p r new
one_step image s p q r old new t told was = elim t.step [
  | inl g ↦ elim told [
    | inl o ↦ goes_on image s.hart p q r old new g o.1 was
    | inr same ↦ absurd (omega (arith, same.0, ap length g.events, length_push q.events g.event))
  ]
  | inr ends ↦ elim told [
    | inl o ↦ absurd (omega (arith, o.0, ap length ends.events))
    | inr same ↦ subst (λ (os : List (Vec ℕ)). AreOutputs image p r os) (sym same.1) (stops_here image s.hart p q r old ends was)
  ]
]

-- there are as many harts as before
pub as_many : (image : Memory) (s : ScriptedStep) (q r : Standing) → Takes image s q r → length r.harts ≡ length q.harts
as_many image s q r t = elim t.step [
  | inl g ↦ ap length g.harts ∙ length-set q.harts s.hart g.after
  | inr ends ↦ ap length ends.harts ∙ length-set q.harts s.hart ends.after
]

-- the outputs of harts h, h + 1, .., as a list
from_each : (image : Memory) (p q : Standing) (e : Executes image p q) (h : ℕ) (outputs : List (Vec ℕ)) →
    ((k : ℕ) (d : Vec ℕ) → k < length outputs → (get_or outputs k d).items ≡ own_output image p q (h + k) e) →
    map (λ (v : Vec ℕ). v.items) outputs ≡ own_outputs image p q e h (length outputs)
from_each image p q e h [] each = refl
from_each image p q e h (o ∷ os) each =
    let first : h + 0 ≡ h = omega arith in
    ap₂ (λ (x : List ℕ) (xs : List (List ℕ)). x ∷ xs)
    (each 0 o (omega arith) ∙ ap (λ n. own_output image p q n e) first)
    (from_each image p q e (h + 1) os (λ k d l. let on : h + suc k ≡ h + 1 + k = omega arith in each (suc k) d (omega (arith, l)) ∙ ap (λ n. own_output image p q n e) on))

pub outputs_are : (image : Memory) (p q : Standing) (outputs : List (Vec ℕ)) → (o : AreOutputs image p q outputs) →
    map (λ (v : Vec ℕ). v.items) outputs ≡ own_outputs image p q o.leads 0 (length q.harts)
outputs_are image p q outputs o =
    from_each image p q o.leads 0 outputs (λ k d l. let on : k ≡ 0 + k = omega arith in o.each k d l ∙ ap (λ n. own_output image p q n o.leads) on)
    ∙ ap (λ n. own_outputs image p q o.leads 0 n) o.count
