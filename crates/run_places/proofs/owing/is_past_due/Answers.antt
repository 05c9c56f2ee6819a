use Rattle.std.proofs.Common.{◌∙◌, ℕ, List, sym, ap, arith}
use Rattle.std.proofs.lemmas.List.{get_or-map, length-map}
use Rattle.run_bounds.specs.Touched.{known_at}
use Rattle.run_bounds.specs.declared.touched.TouchedByte.{TouchedByte}
use Rattle.all_endings.specs.StoreLists.{Stored, has_byte, no_store}
use Rattle.hart_states.specs.States.{listed, stored_of}
use Rattle.run_places.specs.Spots.{is_among, place_of}
use Rattle.run_places.proofs.Losing.{lost_at}
use Rattle.run_places.proofs.owing.is_past_due.Goals as goal

pub returns-then-not-is_paid : goal.returns-then-not-is_paid
returns-then-not-is_paid c = λ yes.
    let j = c.loop-store.store in
    let x = c.args.address in
    let same = get_or-map stored_of c.args.list.now j _ no_store c.loop-store-test.true in
    let touched = ap (λ (b : TouchedByte). b.touched) (c.byte_known-touched.ensures ∙ ap (λ (bs : List TouchedByte). known_at bs x) c.deref.ensures.value) in
    let behind = c.if-store-touched.true in
    let within = c.loop-store-test.true in
    lost_at c.args.hart (listed c.args.list.now) (place_of c.args.place.now) j x (omega (arith, length-map c.args.list.now stored_of, within))
    (ap (λ (s : Stored). s.hart) same ∙ c.if-list-store.true)
    (sym (ap (λ (ks : List ℕ). is_among ks j) c.deref-then-writes.ensures.value) ∙ sym c.is_paid.ensures ∙ c.if-not-is_paid.true)
    (ap (λ (s : Stored). has_byte s x) same ∙ sym c.writes.ensures ∙ c.if-writes.true)
    (omega (arith, touched, behind))
