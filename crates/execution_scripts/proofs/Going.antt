-- A follower after a step of one of its harts.
use Rattle.std.proofs.Common.{◌≡◌, ◌≢◌, ℕ, zero, suc, ◌+◌, ◌%◌, ◌^◌, ◌<◌, ◌≤◌, List, [], ◌∷◌, get_or, length, map, slice_get, slice_index, slice_set, Option, Some, None, ap, refl, subst, sym, ◌∙◌, inl, inr, arith}
use Rattle.std.proofs.lemmas.Bool.{cases_eq}
use Rattle.std.proofs.lemmas.List.{length-set, set-get_or}
use Rattle.std.proofs.lemmas.Option.{slice_get_within}
use Rattle.pages.specs.Memory.{Memory}
use Rattle.round_schedule.specs.declared.event.Event.{Event}
use Rattle.hart_step.specs.declared.hart.Hart.{Hart}
use Rattle.hart_step.specs.Registers.{reg}
use Rattle.execution.specs.Executions.{Goes, Standing, Stops, Takes}
use Rattle.execution.specs.Progressing.{HasNoStep}
use Rattle.execution.specs.declared.step.ScriptedStep.{ScriptedStep}
use Rattle.execution.specs.declared.step_fault.StepFault.{StepFault}
use Rattle.execution_file.specs.Recorded.{HartDeeds}
use Rattle.execution_file.specs.declared.file.HartDeeds.{HartDeeds as HartHeld}
use Rattle.execution_file.specs.Views.{hart_view}
use Rattle.execution_file.specs.Deeds.{number_shown, numbers_of}
use Rattle.execution_scripts.specs.Following.{Reads, done_by, done_of, line_of}
use Rattle.execution_scripts.specs.Courses.{AreWithin, Course, HasRead, IsOn, IsWay, OnFault, Took, misfit_for, misfit_of, taken_as}
use Rattle.execution_scripts.specs.Misfits.{IsFaultAt, IsStepMisfit}
use Rattle.execution_scripts.specs.declared.calls.Taken.{Taken}
use Rattle.execution_scripts.specs.declared.calls.Taken.TheVariants.{Stopped}
use Rattle.execution_scripts.specs.declared.fault.Fault.{Fault}
use Rattle.execution_scripts.specs.declared.fault.Halt.{Halt}
use Rattle.execution_scripts.specs.declared.fault.Halt.TheVariants as halts
use Rattle.execution_scripts.specs.declared.fault.Misfit.{Misfit}
use Rattle.execution_scripts.specs.declared.way.Way.{Way}
use Rattle.execution_scripts.specs.declared.following.Follower.{Follower}
use Rattle.execution_scripts.proofs.Moving.{Spares, goes_done, goes_spares, stops_done, stops_spares}
use Rattle.execution_scripts.proofs.Reading.{begins, none_more, one_more_shown, read_more}
use Rattle.execution_scripts.proofs.Stepped.{HaveRead, no_step, other_misfit, others_read, stopped_with_none, took_as, went_with}

abbrev pub at : Follower → Standing
at f = f.way.execution.standing

-- the numbers of a line are few
pub few_reads : (parts : List HartHeld) (h : ℕ) → length (line_of (map hart_view parts) h).reads < 2 ^ 64
few_reads [] h = omega arith
few_reads (p ∷ ps) zero = omega (arith, p.reads.ok.0, p.reads.ok.1, p.reads.small)
few_reads (p ∷ ps) (suc h) = few_reads ps h

-- the hart did an instruction, after which it has read k numbers
pub on_went : (c : Course) (n h k : ℕ) (f f' : Follower) → IsOn c n f → h < length c.lines → IsWay c.image c.start c.asked f'.way → f'.parts.now ≡ f.parts.now → f'.round ≡ f.round →
    Goes c.image h (at f) (at f') → (at f').round ≡ n → HasRead (line_of c.lines h) (numbers_of h (at f').events) k → f'.used.items ≡ slice_set f.used.items h k → IsOn c n f'
on_went c n h k f f' o within way parts round g later read used = record {
  way = way;
  lines = ap (λ (ps : List HartHeld). map hart_view ps) parts ∙ o.lines;
  few = o.few;
  harts = (goes_spares c.image h (at f) (at f') g).harts ∙ o.harts;
  counts = ap length used ∙ length-set f.used.items h k ∙ o.counts;
  reads = subst (λ (us : List ℕ). HaveRead c.lines us (at f')) (sym used) (others_read c.lines c.image h k (at f) (at f') f.used.items g o.counts within read o.reads);
  round = round ∙ o.round;
  later = omega (arith, later);
}

-- it stopped
pub on_stopped : (c : Course) (n h : ℕ) (f f' : Follower) → IsOn c n f → IsWay c.image c.start c.asked f'.way → f'.parts.now ≡ f.parts.now → f'.round ≡ f.round → f'.used.items ≡ f.used.items →
    Stops c.image h (at f) (at f') → (at f').round ≡ n → IsOn c n f'
on_stopped c n h f f' o way parts round used s later = record {
  way = way;
  lines = ap (λ (ps : List HartHeld). map hart_view ps) parts ∙ o.lines;
  few = o.few;
  harts = (stops_spares c.image h (at f) (at f') s).harts ∙ o.harts;
  counts = ap length used ∙ o.counts;
  reads = λ j l.
      subst (λ (us : List ℕ). HasRead (line_of c.lines j) (numbers_of j (at f').events) (slice_index us j)) (sym used)
      (subst (λ (t : List Event). HasRead (line_of c.lines j) (numbers_of j t) (slice_index f.used.items j)) (sym s.events) (o.reads j l));
  round = round ∙ o.round;
  later = omega (arith, later);
}

-- the instruction showed no number, or the next one of the line
pub on_none : (c : Course) (n h : ℕ) (f f' : Follower) → IsOn c n f → h < length c.lines → IsWay c.image c.start c.asked f'.way → f'.parts.now ≡ f.parts.now → f'.round ≡ f.round →
    (g : Goes c.image h (at f) (at f')) → (at f').round ≡ n → number_shown g.event.access ≡ None → f'.used.items ≡ f.used.items → IsOn c n f'
on_none c n h f f' o within way parts round g later none used =
    on_went c n h (slice_index f.used.items h) f f' o within way parts round g later
    (subst (λ (ns : List ℕ). HasRead (line_of c.lines h) ns (slice_index f.used.items h)) (sym (none_more c.image h (at f) (at f') g none)) (o.reads h within))
    (used ∙ sym (set-get_or f.used.items h 0))

pub on_one : (c : Course) (n h v : ℕ) (f f' : Follower) → IsOn c n f → h < length c.lines → IsWay c.image c.start c.asked f'.way → f'.parts.now ≡ f.parts.now → f'.round ≡ f.round →
    (g : Goes c.image h (at f) (at f')) → (at f').round ≡ n → number_shown g.event.access ≡ Some v → slice_get (line_of c.lines h).reads (slice_index f.used.items h) ≡ Some v →
    f'.used.items ≡ slice_set f.used.items h ((slice_index f.used.items h + 1) % 2 ^ 64) → IsOn c n f'
on_one c n h v f f' o within way parts round g later shown next used =
    let u : ℕ = slice_index f.used.items h in
    let l : u < length (line_of c.lines h).reads = slice_get_within (line_of c.lines h).reads u v next in
    let few : length (line_of c.lines h).reads < 2 ^ 64 = subst (λ (ls : List HartDeeds). length (line_of ls h).reads < 2 ^ 64) o.lines (few_reads f.parts.now h) in
    let small : (u + 1) % 2 ^ 64 ≡ u + 1 = omega (arith, l, few) in
    on_went c n h (u + 1) f f' o within way parts round g later
    (read_more (line_of c.lines h) (numbers_of h (at f).events) (numbers_of h (at f').events) u v (o.reads h within) next (one_more_shown c.image h v (at f) (at f') g shown))
    (used ∙ ap (λ (k : ℕ). slice_set f.used.items h k) small)

-- what was done is as the line says
pub reads_now : (c : Course) (n h : ℕ) (p : Standing) (f' : Follower) → IsOn c n f' → h < length c.lines → Goes c.image h p (at f') → (at f').round ≡ n →
    Reads c.image (line_of c.lines h) n h p (at f')
reads_now c n h p f' o within g round = record {
  goes = g;
  round = round;
  numbers = begins (line_of c.lines h) (numbers_of h (at f').events) (slice_index f'.used.items h) (o.reads h within);
}

-- no hart has done more than its line says
pub within_more : (lines : List HartDeeds) (image : Memory) (n h : ℕ) (p q : Standing) → Reads image (line_of lines h) n h p q → done_by p h < (line_of lines h).steps → (line_of lines h).steps < 2 ^ 64 →
    AreWithin lines p → AreWithin lines q
within_more lines image n h p q s left fits w = λ j. elim (cases_eq j h) [
  | inl same ↦
      let more = goes_done image h (line_of lines h).steps p q s.goes left fits in
      subst (λ (i : ℕ). done_by q i ≤ (line_of lines i).steps) (sym same) (omega (arith, more, left))
  | inr other ↦ subst (λ (k : ℕ). k ≤ (line_of lines j).steps) (sym (ap done_of ((goes_spares image h p q s.goes).hart j other))) (w j)
]

pub within_stopped : (lines : List HartDeeds) (image : Memory) (h : ℕ) (p q : Standing) → Stops image h p q → AreWithin lines p → AreWithin lines q
within_stopped lines image h p q s w = λ j. elim (cases_eq j h) [
  | inl same ↦
      subst (λ (k : ℕ). k ≤ (line_of lines j).steps) (ap (done_by p) same ∙ sym (stops_done image h p q s) ∙ ap (done_by q) (sym same)) (w j)
  | inr other ↦ subst (λ (k : ℕ). k ≤ (line_of lines j).steps) (sym (ap done_of ((stops_spares image h p q s).hart j other))) (w j)
]

-- a hart whose line has steps is there
pub line_within : (lines : List HartDeeds) (h : ℕ) → 0 < (line_of lines h).steps → h < length lines
line_within [] h l = absurd (omega (arith, l))
line_within (x ∷ xs) zero l = omega arith
line_within (x ∷ xs) (suc h) l = let m = line_within xs h l in omega (arith, m)

-- ---- a step, by what was found of it

-- what a step is made of
pub record IsNext (f : Follower) (s : ScriptedStep) : Type 0 where
  pub round : s.round ≡ f.round
  pub number : s.number ≡ slice_get (line_of (map hart_view f.parts.now) s.hart).reads (slice_index f.used.items s.hart)

next_number : (c : Course) (n : ℕ) (f : Follower) (s : ScriptedStep) → IsOn c n f → IsNext f s → s.number ≡ slice_get (line_of c.lines s.hart).reads (slice_index f.used.items s.hart)
next_number c n f s o x = subst (λ (ls : List HartDeeds). s.number ≡ slice_get (line_of ls s.hart).reads (slice_index f.used.items s.hart)) o.lines x.number

pub step_fault : (c : Course) (n done : ℕ) (f : Follower) (s : ScriptedStep) (fault : StepFault) → IsOn c n f → s.hart < length c.lines → IsNext f s → HasNoStep fault c.image s (at f) →
    done ≡ done_by (at f) s.hart → IsFaultAt IsStepMisfit c.image (line_of c.lines s.hart) n s.hart (at f) (record { hart = s.hart; step = done; misfit = misfit_for fault s.number })
step_fault c n done f s fault o within x none so_far = record {
  hart = refl;
  step = so_far;
  why = no_step c.image (line_of c.lines s.hart) n (slice_index f.used.items s.hart) s (at f) fault (o.reads s.hart within) (next_number c n f s o x) (x.round ∙ o.round) o.later none;
}

pub step_misread : (c : Course) (n done v : ℕ) (f : Follower) (s : ScriptedStep) (q : Standing) (e : Event) → IsOn c n f → s.hart < length c.lines → IsNext f s → Takes c.image s (at f) q →
    slice_get q.events (length (at f).events) ≡ Some e → number_shown e.access ≡ Some v → s.number ≢ Some v → done ≡ done_by (at f) s.hart →
    IsFaultAt IsStepMisfit c.image (line_of c.lines s.hart) n s.hart (at f) (record { hart = s.hart; step = done; misfit = misfit_of v s.number })
step_misread c n done v f s q e o within x t there shown other so_far =
    let w = went_with c.image s (at f) q e t there in
    record {
      hart = refl;
      step = so_far;
      why = other_misfit c.image (line_of c.lines s.hart) n s.hart (slice_index f.used.items s.hart) v s.number (at f) (o.reads s.hart within) (next_number c n f s o x) other
          (record {
            after = q;
            goes = w.0;
            round = t.round ∙ x.round ∙ o.round;
            reads = one_more_shown c.image s.hart v (at f) q w.0 (subst (λ (d : Event). number_shown d.access ≡ Some v) (sym w.1) shown);
          });
    }

-- what is counted of the numbers of a line
pub record IsCounted (h : ℕ) (read : Option ℕ) (old new : List ℕ) : Type 0 where
  pub none : read ≡ None → new ≡ old
  pub one : (v : ℕ) → read ≡ Some v → new ≡ slice_set old h ((slice_index old h + 1) % 2 ^ 64)

pub step_stays : (c : Course) (n : ℕ) (read : Option ℕ) (f f' : Follower) (s : ScriptedStep) (e : Event) → IsOn c n f → s.hart < length c.lines → IsNext f s → Takes c.image s (at f) (at f') →
    slice_get (at f').events (length (at f).events) ≡ Some e → IsWay c.image c.start c.asked f'.way → f'.parts.now ≡ f.parts.now → f'.round ≡ f.round →
    number_shown e.access ≡ read → IsCounted s.hart read f.used.items f'.used.items → ((v : ℕ) → read ≡ Some v → s.number ≡ Some v) → IsOn c n f'
step_stays c n None f f' s e o within x t there way parts round shown counted said =
    let w = went_with c.image s (at f) (at f') e t there in
    on_none c n s.hart f f' o within way parts round w.0 (t.round ∙ x.round ∙ o.round) (subst (λ (d : Event). number_shown d.access ≡ None) (sym w.1) shown) (counted.none refl)
step_stays c n (Some v) f f' s e o within x t there way parts round shown counted said =
    let w = went_with c.image s (at f) (at f') e t there in
    on_one c n s.hart v f f' o within way parts round w.0 (t.round ∙ x.round ∙ o.round) (subst (λ (d : Event). number_shown d.access ≡ Some v) (sym w.1) shown)
    (sym (next_number c n f s o x) ∙ said v refl) (counted.one v refl)

pub step_took : (c : Course) (n call : ℕ) (read : Option ℕ) (f f' : Follower) (s : ScriptedStep) (e : Event) → IsOn c n f → s.hart < length c.lines → IsNext f s → Takes c.image s (at f) (at f') →
    slice_get (at f').events (length (at f).events) ≡ Some e → IsWay c.image c.start c.asked f'.way → f'.parts.now ≡ f.parts.now → f'.round ≡ f.round →
    number_shown e.access ≡ read → IsCounted s.hart read f.used.items f'.used.items → ((v : ℕ) → read ≡ Some v → s.number ≡ Some v) →
    ((g : Hart) → slice_get (at f).harts s.hart ≡ Some g → call ≡ reg g.x 17) →
    IsOn c n f' × Took (taken_as (slice_get (at f').instructions (length (at f).instructions)) call) c.image (line_of c.lines s.hart) n s.hart (at f) (at f')
step_took c n call read f f' s e o within x t there way parts round shown counted said number =
    let w = went_with c.image s (at f) (at f') e t there in
    let on = step_stays c n read f f' s e o within x t there way parts round shown counted said in
    (on, took_as c.image (line_of c.lines s.hart) n s.hart call (at f) (at f') (reads_now c n s.hart (at f) f' on within w.0 (t.round ∙ x.round ∙ o.round)) number)

pub step_stopped : (c : Course) (n : ℕ) (f f' : Follower) (s : ScriptedStep) → IsOn c n f → IsNext f s → Takes c.image s (at f) (at f') → slice_get (at f').events (length (at f).events) ≡ None →
    IsWay c.image c.start c.asked f'.way → f'.parts.now ≡ f.parts.now → f'.round ≡ f.round → f'.used.items ≡ f.used.items →
    IsOn c n f' × Took Stopped c.image (line_of c.lines s.hart) n s.hart (at f) (at f')
step_stopped c n f f' s o x t there way parts round used =
    let stops = stopped_with_none c.image s (at f) (at f') t there in
    let now : (at f').round ≡ n = t.round ∙ x.round ∙ o.round in
    (on_stopped c n s.hart f f' o way parts round used stops now, (stops, now))

-- ---- the same of a step of hart h, as the follower makes it

-- a halt for this fault
pub on_fault : (halt : Halt) (x : Fault) (P : Fault → Type 0) → halt ≡ halts.Fault x → P x → OnFault halt P
on_fault halt x P e p = subst (λ (y : Halt). OnFault y P) (sym e) p

pub record IsMade (f : Follower) (h : ℕ) (s : ScriptedStep) : Type 0 where
  pub hart : s.hart ≡ h
  pub round : s.round ≡ f.round
  pub number : s.number ≡ slice_get (line_of (map hart_view f.parts.now) h).reads (slice_index f.used.items h)

own : (f : Follower) (h : ℕ) (s : ScriptedStep) → IsMade f h s → IsNext f s
own f h s x = record {
  round = x.round;
  number = subst (λ (i : ℕ). s.number ≡ slice_get (line_of (map hart_view f.parts.now) i).reads (slice_index f.used.items i)) (sym x.hart) x.number;
}

there_too : (lines : List HartDeeds) (h : ℕ) (s : ScriptedStep) → s.hart ≡ h → h < length lines → s.hart < length lines
there_too lines h s same l = omega (arith, same, l)

pub fault_made : (c : Course) (n h done : ℕ) (m : Misfit) (f : Follower) (s : ScriptedStep) (fault : StepFault) → IsMade f h s → m ≡ misfit_for fault s.number → IsOn c n f → h < length c.lines →
    HasNoStep fault c.image s (at f) → done ≡ done_by (at f) h → IsFaultAt IsStepMisfit c.image (line_of c.lines h) n h (at f) (record { hart = h; step = done; misfit = m })
fault_made c n h done m f s fault x is o l none so_far =
    subst (λ (i : ℕ). IsFaultAt IsStepMisfit c.image (line_of c.lines i) n i (at f) (record { hart = i; step = done; misfit = m })) x.hart
    (subst (λ (w : Misfit). IsFaultAt IsStepMisfit c.image (line_of c.lines s.hart) n s.hart (at f) (record { hart = s.hart; step = done; misfit = w })) (sym is)
    (step_fault c n done f s fault o (there_too c.lines h s x.hart l) (own f h s x) none (so_far ∙ ap (done_by (at f)) (sym x.hart))))

pub misread_made : (c : Course) (n h done v : ℕ) (m : Misfit) (f : Follower) (s : ScriptedStep) (q : Standing) (e : Event) → IsMade f h s → m ≡ misfit_of v s.number → IsOn c n f → h < length c.lines →
    Takes c.image s (at f) q → slice_get q.events (length (at f).events) ≡ Some e → number_shown e.access ≡ Some v → s.number ≢ Some v → done ≡ done_by (at f) h →
    IsFaultAt IsStepMisfit c.image (line_of c.lines h) n h (at f) (record { hart = h; step = done; misfit = m })
misread_made c n h done v m f s q e x is o l t there shown other so_far =
    subst (λ (i : ℕ). IsFaultAt IsStepMisfit c.image (line_of c.lines i) n i (at f) (record { hart = i; step = done; misfit = m })) x.hart
    (subst (λ (w : Misfit). IsFaultAt IsStepMisfit c.image (line_of c.lines s.hart) n s.hart (at f) (record { hart = s.hart; step = done; misfit = w })) (sym is)
    (step_misread c n done v f s q e o (there_too c.lines h s x.hart l) (own f h s x) t there shown other (so_far ∙ ap (done_by (at f)) (sym x.hart))))

pub took_made : (c : Course) (n h call : ℕ) (read : Option ℕ) (taken : Taken) (f f' : Follower) (w : Way) (s : ScriptedStep) (e : Event) → IsMade f h s → IsOn c n f → h < length c.lines →
    IsWay c.image c.start c.asked w → Takes c.image s (at f) w.execution.standing → slice_get w.execution.standing.events (length (at f).events) ≡ Some e →
    f'.way ≡ w → f'.parts.now ≡ f.parts.now → f'.round ≡ f.round →
    number_shown e.access ≡ read → IsCounted h read f.used.items f'.used.items → ((v : ℕ) → read ≡ Some v → s.number ≡ Some v) →
    ((g : Hart) → slice_get (at f).harts h ≡ Some g → call ≡ reg g.x 17) → taken ≡ taken_as (slice_get (at f').instructions (length (at f).instructions)) call →
    IsOn c n f' × Took taken c.image (line_of c.lines h) n h (at f) (at f')
took_made c n h call read taken f f' w s e x o l way t there same parts round shown counted said number is =
    let T : Takes c.image s (at f) (at f') = subst (λ (v : Way). Takes c.image s (at f) v.execution.standing) (sym same) t in
    let E : slice_get (at f').events (length (at f).events) ≡ Some e = ap (λ (v : Way). slice_get v.execution.standing.events (length (at f).events)) same ∙ there in
    let W : IsWay c.image c.start c.asked f'.way = subst (IsWay c.image c.start c.asked) (sym same) way in
    subst (λ (k : Taken). IsOn c n f' × Took k c.image (line_of c.lines h) n h (at f) (at f')) (sym is)
    (subst (λ (i : ℕ). IsOn c n f' × Took (taken_as (slice_get (at f').instructions (length (at f).instructions)) call) c.image (line_of c.lines i) n i (at f) (at f')) x.hart
    (step_took c n call read f f' s e o (there_too c.lines h s x.hart l) (own f h s x) T E W parts round shown
    (subst (λ (i : ℕ). IsCounted i read f.used.items f'.used.items) (sym x.hart) counted) said
    (λ g at_g. number g (ap (slice_get (at f).harts) (sym x.hart) ∙ at_g))))

pub stopped_made : (c : Course) (n h : ℕ) (f f' : Follower) (s : ScriptedStep) → IsMade f h s → IsOn c n f → Takes c.image s (at f) (at f') → slice_get (at f').events (length (at f).events) ≡ None →
    IsWay c.image c.start c.asked f'.way → f'.parts.now ≡ f.parts.now → f'.round ≡ f.round → f'.used.items ≡ f.used.items → IsOn c n f' × (Stops c.image h (at f) (at f') × ((at f').round ≡ n))
stopped_made c n h f f' s x o t there way parts round used =
    subst (λ (i : ℕ). IsOn c n f' × (Stops c.image i (at f) (at f') × ((at f').round ≡ n))) x.hart (step_stopped c n f f' s o (own f h s x) t there way parts round used)
