use Rattle.std.proofs.Common.{ℕ, ◌+◌, ◌/◌, [], ◌∷◌, ◌++◌, ap, arith, slice_set}
use Rattle.trace_events.proofs.Indexing.{added, added_none, added_outside, before_low, noted}
use Rattle.trace_events.proofs.writers.Writers.add.Goals as goal

pub returns-then-not-stores : goal.returns-then-not-stores
returns-then-not-stores c =
    let self = c.args.self.now in
    let t = c.args.events.now in
    noted c.note.result t (c.args.index + 1) self.last.items (self.of_others.items ++ 0 ∷ []) (self.of_other_bytes.items ++ 0 ∷ []) c.note.new.self.of_others.items c.note.new.self.of_other_bytes.items self.exact c.note.new.self.exact c.note.new.self.last.items
    (added_none t c.args.index self.last.items self.of_others.items self.of_other_bytes.items self.exact c.stores.result c.event_at.result.now c.requires.before c.event_at.ensures c.stores.ensures c.if-not-stores.true)
    (ap (λ v. v.items) c.note.ensures.last) c.note.ensures.others c.note.ensures.other_bytes c.note.ensures.exact

pub returns-then-word-len : goal.returns-then-word-len
returns-then-word-len c =
    let self = c.args.self.now in
    let t = c.args.events.now in
    let new = c.note-then-word-len.new.self in
    noted c.note-then-word-len.result t (c.args.index + 1) self.last.items (self.of_others.items ++ 0 ∷ []) (self.of_other_bytes.items ++ 0 ∷ []) new.of_others.items new.of_other_bytes.items c.stays_exact-self.result new.exact new.last.items
    (added_outside t c.args.index self.last.items self.of_others.items self.of_other_bytes.items self.exact c.stays_exact-self.result c.event_at.result.now (c.address.result / 8)
    c.requires.before c.event_at.ensures (ap (λ (a : ℕ). a / 8) c.address.ensures) (omega (arith, c.if-word-len.true, c.len.ensures)) c.stays_exact-self.ensures.still c.stays_exact-self.ensures.lies)
    (ap (λ v. v.items) c.note-then-word-len.ensures.last) c.note-then-word-len.ensures.others c.note-then-word-len.ensures.other_bytes c.note-then-word-len.ensures.exact

pub past_own-of_others-requires-clause-before : goal.past_own-of_others-requires-clause-before
past_own-of_others-requires-clause-before c =
    let self = c.args.self.now in
    before_low c.args.events.now c.args.index self.last.items self.of_others.items self.of_other_bytes.items self.exact c.event_at.result.now (c.address.result / 8) c.index-before.result.now _
    c.requires.before c.event_at.ensures (ap (λ (a : ℕ). a / 8) c.address.ensures) (omega (arith, c.if-word-len.false, c.len.ensures)) c.index-before.ensures

pub past_same_bytes-of_other_bytes-requires-clause-before : goal.past_same_bytes-of_other_bytes-requires-clause-before
past_same_bytes-of_other_bytes-requires-clause-before c =
    let self = c.args.self.now in
    before_low c.args.events.now c.args.index self.last.items self.of_others.items self.of_other_bytes.items self.exact c.event_at.result.now (c.address.result / 8) c.index-before.result.now _
    c.requires.before c.event_at.ensures (ap (λ (a : ℕ). a / 8) c.address.ensures) (omega (arith, c.if-word-len.false, c.len.ensures)) c.index-before.ensures

pub returns : goal.returns
returns c =
    let self = c.args.self.now in
    let t = c.args.events.now in
    let new = c.note-2.new.self in
    let word = c.address.result / 8 in
    noted c.note-2.result t (c.args.index + 1) (slice_set self.last.items word (c.args.index + 1)) (self.of_others.items ++ c.past_own-of_others.result ∷ [])
    (self.of_other_bytes.items ++ c.past_same_bytes-of_other_bytes.result ∷ []) new.of_others.items new.of_other_bytes.items c.stays_exact-self.result new.exact new.last.items
    (added t c.args.index self.last.items self.of_others.items self.of_other_bytes.items self.exact c.stays_exact-self.result c.stores.result c.event_at.result.now word c.index-before.result.now _
    c.past_own-of_others.result c.past_same_bytes-of_other_bytes.result c.deref.result.now c.deref-2.result.now
    c.requires.before c.event_at.ensures c.stores.ensures c.if-not-stores.false (ap (λ (a : ℕ). a / 8) c.address.ensures) (omega (arith, c.if-word-len.false, c.len.ensures))
    c.stays_exact-self.ensures.still c.stays_exact-self.ensures.lies c.index-before.ensures c.deref.ensures.value c.deref-2.ensures.value c.past_own-of_others.ensures c.past_same_bytes-of_other_bytes.ensures)
    (ap (λ v. v.items) c.note-2.ensures.last) c.note-2.ensures.others c.note-2.ensures.other_bytes c.note-2.ensures.exact
