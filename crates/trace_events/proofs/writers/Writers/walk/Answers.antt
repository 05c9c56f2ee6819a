use Rattle.std.proofs.Common.{◌≡◌, ◌-◌, ◌/◌, ◌≤◌, ◌&&◌, ◌∙◌, Bool, false, true, ap, arith, refl, subst, suc, sym, get_or}
use Rattle.round_schedule.specs.declared.event.Event.{Event}
use Rattle.round_schedule.specs.Accesses.{writes}
use Rattle.round_schedule.specs.Positions.{event}
use Rattle.byte_sources.specs.Sources.{gives, sees}
use Rattle.trace_events.specs.Writers.{IndexesBy, after_last, stores_word}
use Rattle.trace_events.proofs.Walking.{after_small, any_default, at_end, at_store, found_at, past_unseen, past_unwritten}
use Rattle.trace_events.proofs.writers.Writers.walk.Goals as goal

pub loop-next-init : goal.loop-next-init
loop-next-init c = (c.args.index, omega (arith, after_small (stores_word c.args.events.now (c.args.byte / 8)) c.args.index, c.requires.last), omega arith, c.requires.last, refl)

pub loop-next-smaller-then-not-sees : goal.loop-next-smaller-then-not-sees
loop-next-smaller-then-not-sees c =
    let t = c.args.events.now in
    let inv = c.loop-next.invariant in
    let self = c.args.self.now in
    let index = subst (IndexesBy t c.args.index self.last.items self.of_others.items self.of_other_bytes.items) c.requires.exact c.requires.before in
    let v = c.loop-next.next - 1 in
    let e : after_last (stores_word t (c.args.byte / 8)) inv.0 ≡ suc v = omega (arith, inv.3, c.loop-next-test.true) in
    let no : sees (event t c.args.index) (event t v) ≡ false =
    sym (c.sees.ensures ∙ ap (λ (z : Event). sees z c.event_at-store.result.now) c.event_at.ensures ∙ ap (λ (z : Event). sees (event t c.args.index) z) c.event_at-store.ensures) ∙ c.if-not-sees.true in
    let back = past_unseen t c.args.index c.args.byte inv.0 self.last.items self.of_others.items self.of_other_bytes.items index (event t c.args.index) inv.2 v e c.requires.word no in
    let same = c.index-next.ensures ∙ any_default self.of_others.items v c.index-next.result.now 0 (omega (arith, index.size, inv.1, c.loop-next-test.true)) in
    omega (arith, same, back.0, c.loop-next-test.true)

pub loop-next-preserved-then-not-sees : goal.loop-next-preserved-then-not-sees
loop-next-preserved-then-not-sees c =
    let t = c.args.events.now in
    let inv = c.loop-next.invariant in
    let self = c.args.self.now in
    let index = subst (IndexesBy t c.args.index self.last.items self.of_others.items self.of_other_bytes.items) c.requires.exact c.requires.before in
    let v = c.loop-next.next - 1 in
    let e : after_last (stores_word t (c.args.byte / 8)) inv.0 ≡ suc v = omega (arith, inv.3, c.loop-next-test.true) in
    let no : sees (event t c.args.index) (event t v) ≡ false =
    sym (c.sees.ensures ∙ ap (λ (z : Event). sees z c.event_at-store.result.now) c.event_at.ensures ∙ ap (λ (z : Event). sees (event t c.args.index) z) c.event_at-store.ensures) ∙ c.if-not-sees.true in
    let back = past_unseen t c.args.index c.args.byte inv.0 self.last.items self.of_others.items self.of_other_bytes.items index (event t c.args.index) inv.2 v e c.requires.word no in
    let same = c.index-next.ensures ∙ any_default self.of_others.items v c.index-next.result.now 0 (omega (arith, index.size, inv.1, c.loop-next-test.true)) in
    let le : c.index-next.result.now ≤ c.args.index = omega (arith, same, back.0, inv.1, c.loop-next-test.true) in
    (get_or self.of_others.items v 0, le, omega (arith, back.0, inv.1, c.loop-next-test.true), same ∙ sym back.1, inv.4 ∙ back.2)

pub loop-next-smaller : goal.loop-next-smaller
loop-next-smaller c =
    let t = c.args.events.now in
    let inv = c.loop-next.invariant in
    let self = c.args.self.now in
    let index = subst (IndexesBy t c.args.index self.last.items self.of_others.items self.of_other_bytes.items) c.requires.exact c.requires.before in
    let v = c.loop-next.next - 1 in
    let e : after_last (stores_word t (c.args.byte / 8)) inv.0 ≡ suc v = omega (arith, inv.3, c.loop-next-test.true) in
    let no : writes (event t v).access c.args.byte ≡ false = sym (c.writes.ensures ∙ ap (λ (z : Event). writes z.access c.args.byte) c.event_at-store.ensures) ∙ c.if-not-writes.true in
    let back = past_unwritten t c.args.index c.args.byte inv.0 self.last.items self.of_others.items self.of_other_bytes.items index (event t c.args.index) inv.2 v e c.requires.word no in
    let same = c.index-next-then-not-writes.ensures ∙ any_default self.of_other_bytes.items v c.index-next-then-not-writes.result.now 0 (omega (arith, index.other_size, inv.1, c.loop-next-test.true)) in
    omega (arith, same, back.0, c.loop-next-test.true)

pub loop-next-preserved : goal.loop-next-preserved
loop-next-preserved c =
    let t = c.args.events.now in
    let inv = c.loop-next.invariant in
    let self = c.args.self.now in
    let index = subst (IndexesBy t c.args.index self.last.items self.of_others.items self.of_other_bytes.items) c.requires.exact c.requires.before in
    let v = c.loop-next.next - 1 in
    let e : after_last (stores_word t (c.args.byte / 8)) inv.0 ≡ suc v = omega (arith, inv.3, c.loop-next-test.true) in
    let no : writes (event t v).access c.args.byte ≡ false = sym (c.writes.ensures ∙ ap (λ (z : Event). writes z.access c.args.byte) c.event_at-store.ensures) ∙ c.if-not-writes.true in
    let back = past_unwritten t c.args.index c.args.byte inv.0 self.last.items self.of_others.items self.of_other_bytes.items index (event t c.args.index) inv.2 v e c.requires.word no in
    let same = c.index-next-then-not-writes.ensures ∙ any_default self.of_other_bytes.items v c.index-next-then-not-writes.result.now 0 (omega (arith, index.other_size, inv.1, c.loop-next-test.true)) in
    let le : c.index-next-then-not-writes.result.now ≤ c.args.index = omega (arith, same, back.0, inv.1, c.loop-next-test.true) in
    (get_or self.of_other_bytes.items v 0, le, omega (arith, back.0, inv.1, c.loop-next-test.true), same ∙ sym back.1, inv.4 ∙ back.2)

pub returns-else-not-writes : goal.returns-else-not-writes
returns-else-not-writes c =
    let t = c.args.events.now in
    let G = gives t (event t c.args.index) c.args.byte in
    let inv = c.loop-next.invariant in
    let self = c.args.self.now in
    let index = subst (IndexesBy t c.args.index self.last.items self.of_others.items self.of_other_bytes.items) c.requires.exact c.requires.before in
    let v = c.loop-next.next - 1 in
    let e : after_last (stores_word t (c.args.byte / 8)) inv.0 ≡ suc v = omega (arith, inv.3, c.loop-next-test.true) in
    let seen : sees (event t c.args.index) (event t v) ≡ true =
    sym (c.sees.ensures ∙ ap (λ (z : Event). sees z c.event_at-store.result.now) c.event_at.ensures ∙ ap (λ (z : Event). sees (event t c.args.index) z) c.event_at-store.ensures) ∙ c.if-not-sees.false in
    let written : writes (event t v).access c.args.byte ≡ true = sym (c.writes.ensures ∙ ap (λ (z : Event). writes z.access c.args.byte) c.event_at-store.ensures) ∙ c.if-not-writes.false in
    let yes : gives t (event t c.args.index) c.args.byte v ≡ true = ap (λ (a : Bool). a && sees (event t c.args.index) (event t v)) written ∙ seen in
    sym
    (inv.4 ∙ at_store t c.args.index c.args.byte inv.0 self.last.items self.of_others.items self.of_other_bytes.items index (event t c.args.index) inv.2 v e ∙ found_at G v yes)

pub returns : goal.returns
returns c =
    let t = c.args.events.now in
    let inv = c.loop-next.invariant in
    let self = c.args.self.now in
    let index = subst (IndexesBy t c.args.index self.last.items self.of_others.items self.of_other_bytes.items) c.requires.exact c.requires.before in
    let e : after_last (stores_word t (c.args.byte / 8)) inv.0 ≡ 0 = omega (arith, inv.3, c.loop-next-test.false) in
    sym (inv.4 ∙ at_end t c.args.index c.args.byte inv.0 self.last.items self.of_others.items self.of_other_bytes.items index (event t c.args.index) inv.2 e)
