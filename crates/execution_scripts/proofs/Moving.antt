-- What the steps of one hart leave of the others, and of itself.
use Rattle.std.proofs.Common.{◌≡◌, ◌≢◌, ◌⊎◌, ℕ, zero, suc, ◌+◌, ◌%◌, ◌^◌, ◌<◌, ◌≤◌, Bool, true, false, List, [], ◌∷◌, ◌++◌, get_or, length, slice_get, slice_set, Option, Some, None, ap, refl, subst, sym, ◌∙◌, inl, inr, arith}
use Rattle.std.proofs.lemmas.List.{append-nil, length-set}
use Rattle.std.proofs.lemmas.Option.{slice_get_read}
use Rattle.pages.specs.Memory.{Memory}
use Rattle.round_schedule.specs.declared.event.Event.{Event}
use Rattle.round_schedule.specs.declared.access.Stepped.TheVariants.{Done, Stopped}
use Rattle.hart_step.specs.declared.hart.Hart.{Hart}
use Rattle.hart_step.specs.declared.hart.Stop.{Stop}
use Rattle.hart_step.specs.Numbers.{plus}
use Rattle.execution.specs.Executions.{Goes, Standing, Stops, own_held}
use Rattle.execution_file.specs.Recorded.{HartDeeds}
use Rattle.execution_file.specs.Deeds.{numbers_of}
use Rattle.execution_scripts.proofs.Numbers.{numbers_more, shows_another}
use Rattle.execution_scripts.specs.Following.{Ends, IsEnd, Reads, Runs, StopsWith, done_by, done_of, runs-more, runs-none, stop_by, stop_in}
use Rattle.execution_scripts.proofs.Stepping.{Counted, step_counted}

pub get_set_same : {A : Type 0} (xs : List A) (i : ℕ) (x : A) → i < length xs → slice_get (slice_set xs i x) i ≡ Some x
get_set_same [] i x l = absurd (omega (arith, l))
get_set_same (y ∷ xs) zero x l = refl
get_set_same (y ∷ xs) (suc i) x l = get_set_same xs i x (omega (arith, l))

pub get_set_other : {A : Type 0} (xs : List A) (i j : ℕ) (x : A) → j ≢ i → slice_get (slice_set xs i x) j ≡ slice_get xs j
get_set_other [] i j x n = refl
get_set_other (y ∷ xs) zero zero x n = absurd (n refl)
get_set_other (y ∷ xs) zero (suc j) x n = refl
get_set_other (y ∷ xs) (suc i) zero x n = refl
get_set_other (y ∷ xs) (suc i) (suc j) x n = get_set_other xs i j x (λ e. n (ap (λ (k : ℕ). suc k) e))

-- all but hart h are as they were, and have read what they had read
pub record Spares (h : ℕ) (p q : Standing) : Type 0 where
  pub harts : length q.harts ≡ length p.harts
  pub hart : (j : ℕ) → j ≢ h → slice_get q.harts j ≡ slice_get p.harts j
  pub numbers : (j : ℕ) → j ≢ h → numbers_of j q.events ≡ numbers_of j p.events

pub spares_none : (h : ℕ) (p : Standing) → Spares h p p
spares_none h p = record { harts = refl; hart = λ j n. refl; numbers = λ j n. refl }

pub spares_both : (h : ℕ) (p q r : Standing) → Spares h p q → Spares h q r → Spares h p r
spares_both h p q r a b = record {
  harts = b.harts ∙ a.harts;
  hart = λ j n. b.hart j n ∙ a.hart j n;
  numbers = λ j n. b.numbers j n ∙ a.numbers j n;
}

pub goes_spares : (image : Memory) (h : ℕ) (p q : Standing) → Goes image h p q → Spares h p q
goes_spares image h p q g = record {
  harts = ap length g.harts ∙ length-set p.harts h g.after;
  hart = λ j n. ap (λ (hs : List Hart). slice_get hs j) g.harts ∙ get_set_other p.harts h j g.after n;
  numbers = λ j n.
      ap (numbers_of j) g.events ∙ numbers_more j p.events g.event
      ∙ ap (λ (ns : List ℕ). numbers_of j p.events ++ ns) (shows_another j g.event (λ e. n (sym e ∙ g.event_of.hart)))
      ∙ append-nil (numbers_of j p.events);
}

pub stops_spares : (image : Memory) (h : ℕ) (p q : Standing) → Stops image h p q → Spares h p q
stops_spares image h p q s = record {
  harts = ap length s.harts ∙ length-set p.harts h s.after;
  hart = λ j n. ap (λ (hs : List Hart). slice_get hs j) s.harts ∙ get_set_other p.harts h j s.after n;
  numbers = λ j n. ap (numbers_of j) s.events;
}

-- hart h before its instruction, and after it
pub goes_before : (image : Memory) (h : ℕ) (p q : Standing) (g : Goes image h p q) → slice_get p.harts h ≡ Some g.before
goes_before image h p q g = slice_get_read p.harts (length p.harts) h g.before refl g.within g.there

pub goes_after : (image : Memory) (h : ℕ) (p q : Standing) (g : Goes image h p q) → slice_get q.harts h ≡ Some g.after
goes_after image h p q g = ap (λ (hs : List Hart). slice_get hs h) g.harts ∙ get_set_same p.harts h g.after g.within

pub stops_before : (image : Memory) (h : ℕ) (p q : Standing) (s : Stops image h p q) → slice_get p.harts h ≡ Some s.before
stops_before image h p q s = slice_get_read p.harts (length p.harts) h s.before refl s.within s.there

pub stops_after : (image : Memory) (h : ℕ) (p q : Standing) (s : Stops image h p q) → slice_get q.harts h ≡ Some s.after
stops_after image h p q s = ap (λ (hs : List Hart). slice_get hs h) s.harts ∙ get_set_same p.harts h s.after s.within

-- one instruction more is counted, where there is a number above it
pub goes_done : (image : Memory) (h n : ℕ) (p q : Standing) → Goes image h p q → done_by p h < n → n < 2 ^ 64 → done_by q h ≡ done_by p h + 1
goes_done image h n p q g l m =
    let before : done_by p h ≡ g.before.done = ap done_of (goes_before image h p q g) in
    let after : done_by q h ≡ g.after.done = ap done_of (goes_after image h p q g) in
    let counted : g.after.done ≡ plus g.before.done 1 =
    ((step_counted image q.round (own_held h p.events) p.console q.console g.before g.after (Done g.access) g.step).goes g.access refl).0 in
    let small : plus g.before.done 1 ≡ g.before.done + 1 = omega (arith, l, m, before) in
    after ∙ counted ∙ small ∙ ap (λ (k : ℕ). k + 1) (sym before)

-- a hart that does an instruction doesn't stop
pub goes_runs : (image : Memory) (h : ℕ) (p q : Standing) → Goes image h p q → stop_by q h ≡ None
goes_runs image h p q g =
    ap stop_in (goes_after image h p q g)
    ∙ ((step_counted image q.round (own_held h p.events) p.console q.console g.before g.after (Done g.access) g.step).goes g.access refl).1
    ∙ g.step.runs

-- a stop isn't counted
pub stops_done : (image : Memory) (h : ℕ) (p q : Standing) → Stops image h p q → done_by q h ≡ done_by p h
stops_done image h p q s =
    ap done_of (stops_after image h p q s)
    ∙ (step_counted image q.round (own_held h p.events) p.console q.console s.before s.after (Stopped s.code) s.step).stops s.code refl
    ∙ sym (ap done_of (stops_before image h p q s))

-- ---- several instructions

pub runs_spares : (image : Memory) (line : HartDeeds) (n h k : ℕ) (p q : Standing) → Runs image line n h k p q → Spares h p q
runs_spares image line n h _ p _ (runs-none _) = spares_none h p
runs_spares image line n h _ p r (runs-more k _ q _ x l s) = spares_both h p q r (runs_spares image line n h k p q x) (goes_spares image h q r s.goes)

pub runs_on : (image : Memory) (line : HartDeeds) (n h k : ℕ) (p q : Standing) → Runs image line n h k p q → stop_by p h ≡ None → stop_by q h ≡ None
runs_on image line n h _ p _ (runs-none _) e = e
runs_on image line n h _ p r (runs-more k _ q _ x l s) e = goes_runs image h q r s.goes

end_spares : (image : Memory) (line : HartDeeds) (n h : ℕ) (p q : Standing) → IsEnd image line n h p q → Spares h p q
end_spares image line n h p q e = elim e [
  | inl same ↦ subst (λ (x : Standing). Spares h p x) (sym same.2) (spares_none h p)
  | inr other ↦ stops_spares image h p q other.1.stops
]

pub ends_spares : (image : Memory) (line : HartDeeds) (n h : ℕ) (p q : Standing) → Ends image line n h p q → Spares h p q
ends_spares image line n h p q e = spares_both h p e.before q (runs_spares image line n h e.calls p e.before e.runs) (end_spares image line n h e.before q e.end)
