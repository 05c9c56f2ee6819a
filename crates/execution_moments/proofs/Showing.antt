-- What is shown at the moments of an execution, and in which order they come.
use Rattle.std.proofs.Common.{◌≡◌, ℕ, ◌+◌, ◌-◌, ◌<◌, List, ◌++◌, length, get_or, slice_get, slice_index_or, Option, Some, None, ap, arith, inl, inr, refl, subst, sym, ◌∙◌}
use Rattle.std.proofs.lemmas.Bool.{cases_lt, eq-eqb}
use Rattle.std.proofs.lemmas.List.{get_or-append-add, get_or_append_left, get_or_default, length-append}
use Rattle.std.proofs.lemmas.Option.{get_or_from_slice_get, slice_get_within}
use Rattle.pages.specs.Memory.{Memory}
use Rattle.round_schedule.specs.Positions.{event}
use Rattle.memory_order.specs.Orders.{order_position}
use Rattle.hart_step.specs.declared.hart.Hart.{Hart}
use Rattle.byte_sources.proofs.Firsts.{first_found}
use Rattle.execution.specs.Executions.{Standing}
use Rattle.execution_views.specs.Moments.{byte_at}
use Rattle.execution_views.specs.Passing.{IsBefore}
use Rattle.execution_views.specs.Laws.{LoadsReadWhatIsSeen}
use Rattle.execution_moments.specs.declared.course.Course.{Course}
use Rattle.execution_moments.specs.declared.course.HartMoment.{HartMoment}
use Rattle.execution_moments.specs.Courses.{IsCourse, before_one, stopped_from}
use Rattle.execution_moments.specs.Laws.{HartsRespectProgramOrder, LoadsReadWhatIsShown}
use Rattle.execution_moments.specs.Shown.{hart_by, hart_in, has_number, is_of, moment_at, moment_by, next_of, index_by, index_in, view_by}
use Rattle.execution_moments.specs.Times.{time_of}
use Rattle.execution_moments.proofs.Rising.{time_up}
use Rattle.execution_moments.proofs.Stopping.{none_has_place}

-- ---- the order of time

pub program_order : HartsRespectProgramOrder
program_order image p q g c x i j d l m below_a below_b same =
    let a = get_or c.sequence.items i d in
    let b = get_or c.sequence.items j d in
    elim (cases_lt a b) [
      | inl before ↦ before
      | inr behind ↦
          let up = time_up q.events (order_position g) (length g) b a behind below_a (sym same) in
          let at_a = at a below_a in
          let at_b = at b below_b in
          elim (x.course.sequence.in_time i j d l m) [
            | inl sooner ↦ absurd (omega (arith, sooner, up, at_a, at_b))
            | inr tie ↦ tie.1
          ]
    ]
  where
    at : (k : ℕ) → k < length q.events → slice_index_or x.course.times k (length g) ≡ time_of q.events (order_position g) (length g) k
    at k n = get_or_default x.course.times k (length g) 0 (omega (arith, n, x.course.are_times.count)) ∙ x.course.are_times.each k n

-- ---- a moment that has an index is that of the instruction there

pub record IsInstruction (image : Memory) (p q : Standing) (r : ℕ) (m : HartMoment) : Type 0 where
  pub within : r < length q.events
  pub before : IsBefore image p q r m.hart

differ : (m : HartMoment) (r : ℕ) → m.index ≡ None → m.index ≡ Some r → ⊥
differ m r none some = cc

same_place : (k r : ℕ) → Some k ≡ Some r → k ≡ r
same_place k r e = ap (λ (o : Option ℕ). number o) e
  where
    number : Option ℕ → ℕ
    number None = 0
    number (Some j) = j

instruction_of : (image : Memory) (p q : Standing) (g : List ℕ) (c : Course) (r k : ℕ) (m : HartMoment) → IsCourse image p q g c → slice_get c.moments.items k ≡ Some m → m.index ≡ Some r →
    IsInstruction image p q r m
instruction_of image p q g c r k m x there has =
    let all = x.before ++ stopped_from 0 q.harts in
    let is : get_or all k m ≡ m = ap (λ (ms : List HartMoment). get_or ms k m) (sym x.course.moments) ∙ get_or_from_slice_get c.moments.items k m m there in
    let size : length c.moments.items ≡ length x.before + length (stopped_from 0 q.harts) = ap length x.course.moments ∙ length-append x.before (stopped_from 0 q.harts) in
    let in_all = slice_get_within c.moments.items k m there in
    elim (cases_lt k (length x.before)) [
      | inl l ↦
          let n : k < length q.events = omega (arith, l, x.are_before.count) in
          let noted = x.are_before.each k n in
          let e : m ≡ before_one (event q.events k) k noted.0 = sym is ∙ get_or_append_left x.before (stopped_from 0 q.harts) m k l ∙ noted.2 m in
          let at : k ≡ r = same_place k r (sym (ap (λ (y : HartMoment). y.index) e) ∙ has) in
          record {
            within = omega (arith, n, at);
            before = subst (λ (h : Hart). IsBefore image p q r h) (sym (ap (λ (y : HartMoment). y.hart) e)) (subst (λ (j : ℕ). IsBefore image p q j noted.0) at noted.1);
          }
      | inr l ↦
          let from : length x.before + (k - length x.before) ≡ k = omega (arith, l) in
          let e : get_or (stopped_from 0 q.harts) (k - length x.before) m ≡ m =
          sym (get_or-append-add x.before (stopped_from 0 q.harts) (k - length x.before) m) ∙ ap (λ (j : ℕ). get_or all j m) from ∙ is in
          let none = none_has_place 0 q.harts (k - length x.before) m (omega (arith, in_all, size, l)) in
          absurd (differ m r (ap (λ (y : HartMoment). y.index) (sym e) ∙ none) has)
    ]

number_of : (c : Course) (o : Option ℕ) (m : HartMoment) → moment_by c o ≡ Some m → (k : ℕ) × (o ≡ Some k) × (slice_get c.moments.items k ≡ Some m)
number_of c None m e = absurd (none_some m e)
  where
    none_some : (n : HartMoment) → None ≡ Some n → ⊥
    none_some n f = cc
number_of c (Some k) m e = (k, refl, e)

-- its hart's next moment from its time on is itself
next_is_itself : (c : Course) (time : ℕ) (m : HartMoment) → moment_at c time ≡ Some m → next_of c time m.number ≡ Some time
next_is_itself c time m there =
    let found = number_of c (slice_get c.sequence.items time) m there in
    let within = slice_get_within c.sequence.items time found.0 found.1 in
    sym (first_found (is_of c m.number) time (length c.sequence.items) (next_of c time m.number) refl within
    (ap (has_number m.number) there ∙ eq-eqb m.number m.number refl))

pub shown : LoadsReadWhatIsSeen → LoadsReadWhatIsShown
shown seen image p q g c opening x allows time r m at =
    let found = number_of c (slice_get c.sequence.items time) m at.0 in
    let instruction = instruction_of image p q g c r found.0 m x found.2 at.1 in
    let next = next_is_itself c time m at.0 in (
      (ap (hart_by c m.number) next ∙ ap hart_in at.0, instruction.before),
      λ y reads.
          ap (λ (o : Option ℕ). byte_at q.events opening g (view_by q.events g m.number o) y) (ap (index_by c) next ∙ ap index_in at.0 ∙ at.1)
          ∙ seen q.events opening g allows.lists allows.load_value r y reads,
    )
