use Rattle.std.proofs.Common.{◌≡◌, ◌++◌, List, Bool, true, false, [], filter, append-nil, refl, sym, ap, subst, ◌∙◌}
use Rattle.std.specs.Prelude.{if◌then◌else◌}
use Rattle.round_schedule.specs.declared.event.Event.{Event}
use Rattle.round_schedule.specs.Reservations.{Tied}
use Rattle.gdb_events.specs.Reserved.{is_seen}
use Rattle.gdb_events.specs.Rounds.{is_parallel, round_events}
use Rattle.gdb_events.proofs.reserved.note_seen.Goals as goal

none_seen : (b : Bool) (t es : List Event) → b ≡ true → t ≡ t ++ (if b then [] else es)
none_seen true t es e = sym (append-nil t)
none_seen false t es e = absurd cc

some_seen : (b : Bool) (t es : List Event) → b ≡ false → t ++ es ≡ t ++ (if b then [] else es)
some_seen true t es e = absurd cc
some_seen false t es e = refl

pub returns-then-is_parallel-clause-tied : goal.returns-then-is_parallel-clause-tied
returns-then-is_parallel-clause-tied g c = λ m is t tied.
    let b = is_parallel c.args.moment.place.phase in
    let T : List Event → Type 0 = λ es. Tied c.args.reservations.now.items es in
    subst T (none_seen b t (filter (is_seen c.args.moment c.args.done) (round_events m)) (sym c.is_parallel.ensures ∙ c.if-is_parallel.true)) tied

pub returns-clause-tied : goal.returns-clause-tied
returns-clause-tied g c = λ m is t tied.
    let b = is_parallel c.args.moment.place.phase in
    let seen = is_seen c.args.moment c.args.done in
    let T : List Event → Type 0 = λ es. Tied c.note.new.reservations.items es in
    let events = c.as_slice.ensures.value ∙ c.in_ok-events.ensures.events m is in
    let all = c.as_slice-2.ensures.value ∙ c.in_ok-seen.ensures ∙ ap (λ (es : List Event). filter seen es) events in
    subst T
    (ap (λ (es : List Event). t ++ es) all ∙ some_seen b t (filter seen (round_events m)) (sym c.is_parallel.ensures ∙ c.if-is_parallel.false))
    (c.note.ensures.tied t tied)
