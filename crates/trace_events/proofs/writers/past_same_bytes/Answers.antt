use Rattle.std.proofs.Common.{◌≡◌, ◌-◌, ◌∙◌, ℕ, Bool, List, ap, arith, false, get_or, refl, suc, sym, true}
use Rattle.round_schedule.specs.declared.event.Event.{Event}
use Rattle.round_schedule.specs.Positions.{event}
use Rattle.trace_events.specs.Writers.{is_same_bytes, past}
use Rattle.trace_events.proofs.writers.past_same_bytes.Goals as goal
use Rattle.trace_events.proofs.writers.past_same_bytes.Goals.{else-before-gt0-via-then-before-gt0+else-is_same_bytes, else-before-gt0-via-else-before-gt0}

-- what was found for the store before, where that one is alike
past_alike : (same : Event → Event → Bool) (t : List Event) (found : List ℕ) (i before v : ℕ) → before ≡ suc v → same (event t v) (event t i) ≡ true → get_or found v 0 ≡ past same t found i before
past_alike same t found i before v e alike = rw e (rw alike refl)

-- that store, where it isn't
past_unlike : (same : Event → Event → Bool) (t : List Event) (found : List ℕ) (i before v : ℕ) → before ≡ suc v → same (event t v) (event t i) ≡ false → before ≡ past same t found i before
past_unlike same t found i before v e unlike = rw e (rw unlike refl)

past_none : (same : Event → Event → Bool) (t : List Event) (found : List ℕ) (i before : ℕ) → before ≡ 0 → before ≡ past same t found i before
past_none same t found i before e = rw e refl

-- whether two events are of the same bytes, as a call told
told : (t : List Event) (i v : ℕ) (one other : Event) (answer is : Bool) → one ≡ event t v → other ≡ event t i → answer ≡ is_same_bytes one other → answer ≡ is → is_same_bytes (event t v) (event t i) ≡ is
told t i v one other answer is p q r a = sym (r ∙ ap (λ (z : Event). is_same_bytes z other) p ∙ ap (λ (z : Event). is_same_bytes (event t v) z) q) ∙ a

pub returns-then-is_same_bytes : goal.returns-then-is_same_bytes
returns-then-is_same_bytes c =
    let alike = told c.args.events.now c.args.index (c.args.before - 1) _ _ _ true c.event_at.ensures c.event_at-then-before-gt0.ensures c.is_same_bytes.ensures c.if-is_same_bytes.true in
    past_alike is_same_bytes c.args.events.now c.args.of_other_bytes.now c.args.index c.args.before (c.args.before - 1) (omega (arith, c.if-before-gt0.true)) alike

pub returns-else-before-gt0 : goal.returns-else-before-gt0
returns-else-before-gt0 c = elim c.else-before-gt0.branch [
  | else-before-gt0-via-then-before-gt0+else-is_same_bytes w ↦
      let unlike = told c.args.events.now c.args.index (c.args.before - 1) _ _ _ false w.event_at.ensures w.event_at-then-before-gt0.ensures w.is_same_bytes.ensures w.if-is_same_bytes.false in
      past_unlike is_same_bytes c.args.events.now c.args.of_other_bytes.now c.args.index c.args.before (c.args.before - 1) (omega (arith, w.if-before-gt0.true)) unlike
  | else-before-gt0-via-else-before-gt0 w ↦
      past_none is_same_bytes c.args.events.now c.args.of_other_bytes.now c.args.index c.args.before (omega (arith, w.if-before-gt0.false))
]
