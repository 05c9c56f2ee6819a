use Rattle.std.proofs.Common.{◌≡◌, ℕ, true, List, refl, sym, subst, arith}
use Rattle.list_suffixes.specs.Staying.{place_before}
use Rattle.run_places.specs.Spots.{is_among}
use Rattle.settled_walks.proofs.keeping.place_kept.Goals as goal

pub returns : goal.returns
returns c = λ m. record {
  state = c.in_ok-state_kept.ensures;
  count = omega arith;
  paid = λ j l e. c.in_ok-paid_kept.ensures j (subst (λ (ps : List ℕ). is_among ps (place_before c.args.stays.now j) ≡ true) (sym c.deref.ensures.value) e);
  next = refl;
  constant = λ e. e;
}
