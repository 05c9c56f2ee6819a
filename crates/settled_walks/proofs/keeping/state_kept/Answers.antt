use Rattle.std.proofs.Common.{◌≡◌, ℕ, List, option_map, refl, sym, ap, ◌∙◌, subst, arith}
use Rattle.all_endings.specs.Lowering.{KindsAtMost}
use Rattle.hart_states.specs.States.{listed}
use Rattle.run_bounds.specs.declared.touched.TouchedByte.{TouchedByte}
use Rattle.run_bounds.specs.Bounds.{kinds_of}
use Rattle.run_bounds.specs.Touched.{known_at}
use Rattle.private_bytes.specs.Ahead.{OutputTells}
use Rattle.list_suffixes.specs.Staying.{kinds_kept, place_kept}
use Rattle.rule_checker.specs.declared.annotated.KindBounds.{KindBounds}
use Rattle.settled_walks.specs.Kept.{byte_kept, own_kept}
use Rattle.settled_walks.proofs.Counted.{output_self, own_counted, sources_counted}
use Rattle.settled_walks.proofs.KeptBytes.{known_address}
use Rattle.settled_walks.proofs.keeping.state_kept.Goals as goal

kinds_same : (k : KindBounds) → KindsAtMost k k
kinds_same k = record {
  loads = omega arith;
  stores = omega arith;
  acquires = omega arith;
  annotated = omega arith;
  load_load = omega arith;
  load_store = omega arith;
  store_load = omega arith;
  store_store = omega arith;
}

pub returns : goal.returns
returns c =
    let stays = c.args.stays.now in
    let m = listed c.args.list.now in
    let old = c.args.state.now in
    let bytes = c.in_ok-bytes_kept.field-0 in
    let kept : (x : ℕ) → known_at bytes.items x ≡ byte_kept stays m (known_at old.bytes.items x) =
    λ x. subst (λ (l : List TouchedByte). known_at bytes.items x ≡ byte_kept stays m (known_at l x)) c.deref.ensures.value (c.in_ok-bytes_kept.ensures x) in
    let at : (x : ℕ) → (known_at old.bytes.items x).address ≡ x = λ x. known_address old.bytes.items x in
    record {
      pc = refl;
      size = refl;
      registers = λ r k e. e;
      kinds = subst (λ (k : KindBounds). KindsAtMost k (kinds_kept stays (kinds_of old.kinds))) (sym c.kinds_kept.ensures) (kinds_same (kinds_kept stays (kinds_of old.kinds)));
      carried = c.carried_kept.ensures;
      touched = λ x. let e = ap (λ (b : TouchedByte). b.touched) (kept x) in omega (arith, e);
      seen = λ x. let e = ap (λ (b : TouchedByte). b.seen) (kept x) ∙ ap (λ (y : ℕ). place_kept stays m y (known_at old.bytes.items x).seen) (at x) in omega (arith, e);
      own = λ x. own_counted stays m x _ _ (ap (λ (b : TouchedByte). b.own) (kept x) ∙ ap (λ (y : ℕ). option_map (own_kept stays m y) (known_at old.bytes.items x).own) (at x));
      held = refl;
      reserved = let e = c.kept_before.ensures in omega (arith, e);
      sources = sources_counted stays m old.held old.sources c.sources_kept.result c.sources_kept.ensures;
      output = subst (λ (os : List (_)). OutputTells old.output.items os) (sym (c.in_ok-from_slice.ensures.items ∙ c.deref-2.ensures.value)) (output_self old.output.items);
    }
