-- Spots that stand for others, and places that grow.
use Rattle.std.proofs.Common.{◌≡◌, ℕ, ◌<◌, ◌≤◌, List, [], ◌∷◌, ◌++◌, length, get_or, Contains, Option, Some, None, refl, sym, ap, ◌∙◌, subst, arith}
use Rattle.std.proofs.lemmas.List.{append_assoc, get_or-map, length-map, map-append}
use Rattle.std.proofs.lemmas.List.Elements.{Contains-append_left, Contains-get_or, Contains-push}
use Rattle.round_schedule.specs.declared.span.Span.{Span}
use Rattle.all_endings.specs.Lowering.{is_held}
use Rattle.all_endings.specs.StoreLists.{Stored}
use Rattle.all_endings.specs.RunStates.{OwnByte, RunState}
use Rattle.hart_states.proofs.Kept.{carried_equal, kinds_equal}
use Rattle.private_bytes.specs.Ahead.{IsAhead, OutputTells, OwnAhead, ahead-both, ahead-none, tells-more, tells-nothing}
use Rattle.private_bytes.specs.PrivateWalks.{IsCoveredApart, Spot, StandsForApart}
use Rattle.list_suffixes.specs.ApartRuns.{StandsForAlways}
use Rattle.list_suffixes.specs.SettledWalks.{AreAhead}
use Rattle.run_places.specs.declared.place.Place.{Place as KeptPlace}
use Rattle.run_places.specs.Spots.{Grows, spot_of, spots_of}

-- ---- states that are ahead of others

own_self : (o : Option OwnByte) → OwnAhead o o
own_self None = ahead-none
own_self (Some o) = ahead-both o o refl (λ n e. e) refl (omega arith)

output_self : (os : List (Option ℕ)) → OutputTells os os
output_self [] = tells-nothing
output_self (o ∷ os) = tells-more o o os os (λ n e. e) (output_self os)

pub ahead_self : (a : RunState) → length a.carried.registers ≡ 32 → IsAhead a a
ahead_self a size = record {
  pc = refl;
  size = refl;
  registers = λ r n e. e;
  kinds = kinds_equal _ _ refl;
  carried = carried_equal _ _ size refl;
  touched = λ x. omega arith;
  seen = λ x. omega arith;
  own = λ x. own_self (a.own x);
  held = refl;
  reserved = omega arith;
  sources = λ x s. omega arith;
  output = output_self a.output;
}

own_on : (o p q : Option OwnByte) → OwnAhead o p → OwnAhead p q → OwnAhead o q
own_on _ _ q ahead-none r = r
own_on _ _ q (ahead-both o p place tells atomic needs) r = by_other q r
  where
    by_other : (q : Option OwnByte) → OwnAhead (Some p) q → OwnAhead (Some o) q
    by_other _ (ahead-both _ u place2 tells2 atomic2 needs2) =
        ahead-both o u (place ∙ place2) (λ n e. tells n (tells2 n e)) (atomic ∙ atomic2) (omega (arith, needs, needs2))

output_on : (os ps qs : List (Option ℕ)) → OutputTells os ps → OutputTells ps qs → OutputTells os qs
output_on _ _ qs tells-nothing r = r
output_on _ _ qs (tells-more o p os ps here rest) r = by_other qs (λ us more. output_on os ps us rest more) r
  where
    by_other : (qs : List (Option ℕ)) → ((us : List (Option ℕ)) → OutputTells ps us → OutputTells os us) → OutputTells (p ∷ ps) qs → OutputTells (o ∷ os) qs
    by_other _ on (tells-more _ u _ us here2 rest2) = tells-more o u os us (λ n e. here2 n (here n e)) (on us rest2)

at_most : (u v w : ℕ) → u ≤ v → v ≤ w → u ≤ w
at_most u v w l m = omega (arith, l, m)

pub ahead_on : (a b c : RunState) → IsAhead a b → IsAhead b c → IsAhead a c
ahead_on a b c l m = record {
  pc = l.pc ∙ m.pc;
  size = l.size ∙ m.size;
  registers = λ r n e. l.registers r n (m.registers r n e);
  kinds = record {
    loads = at_most _ _ _ l.kinds.loads m.kinds.loads;
    stores = at_most _ _ _ l.kinds.stores m.kinds.stores;
    acquires = at_most _ _ _ l.kinds.acquires m.kinds.acquires;
    annotated = at_most _ _ _ l.kinds.annotated m.kinds.annotated;
    load_load = at_most _ _ _ l.kinds.load_load m.kinds.load_load;
    load_store = at_most _ _ _ l.kinds.load_store m.kinds.load_store;
    store_load = at_most _ _ _ l.kinds.store_load m.kinds.store_load;
    store_store = at_most _ _ _ l.kinds.store_store m.kinds.store_store;
  };
  carried = record {
    small = l.carried.small;
    size = m.carried.size;
    registers = λ r s. at_most _ _ _ (l.carried.registers r s) (m.carried.registers r s);
    steered = at_most _ _ _ l.carried.steered m.carried.steered;
    addressed = at_most _ _ _ l.carried.addressed m.carried.addressed;
  };
  touched = λ x. at_most _ _ _ (l.touched x) (m.touched x);
  seen = λ x. at_most _ _ _ (l.seen x) (m.seen x);
  own = λ x. own_on (a.own x) (b.own x) (c.own x) (l.own x) (m.own x);
  held = l.held ∙ m.held;
  reserved = at_most _ _ _ l.reserved m.reserved;
  sources = λ x s. at_most _ _ _ (m.sources x s) (l.sources x (ap (λ (u : Option Span). is_held u x) m.held ∙ s));
  output = output_on c.output b.output a.output m.output l.output;
}

-- ---- spots

pub stands_self : (m : List Stored) (p : Spot) → length p.place.state.carried.registers ≡ 32 → StandsForApart m p p
stands_self m p size = record { state = ahead_self p.place.state size; count = omega arith; paid = λ j l e. e; next = refl; constant = λ e. e }

pub stands_on : (m : List Stored) (p q r : Spot) → StandsForApart m p q → StandsForApart m q r → StandsForApart m p r
stands_on m p q r a b = record {
  state = ahead_on p.place.state q.place.state r.place.state a.state b.state;
  count = (let k = a.count in let l = b.count in omega (arith, k, l));
  paid = λ j l e. a.paid j l (b.paid j l e);
  next = a.next ∙ b.next;
  constant = λ e. b.constant (a.constant e);
}

pub grows_by : (ps qs : List KeptPlace) (p : KeptPlace) → qs ≡ ps ++ p ∷ [] → Grows ps qs
grows_by ps qs p e = record { more = p ∷ []; behind = e }

pub grows_on : (ps qs rs : List KeptPlace) → Grows ps qs → Grows qs rs → Grows ps rs
grows_on ps qs rs a b = record {
  more = a.more ++ b.more;
  behind = b.behind ∙ (ap (λ (xs : List KeptPlace). xs ++ b.more) a.behind ∙ append_assoc ps a.more b.more);
}

pub stays : (ps qs : List KeptPlace) (p : Spot) → Grows ps qs → Contains (spots_of ps) p → Contains (spots_of qs) p
stays ps qs p g c =
    subst (λ (xs : List Spot). Contains xs p) (sym (ap spots_of g.behind ∙ map-append spot_of ps g.more)) (Contains-append_left (spots_of ps) (spots_of g.more) p c)

pub covered_stays : (m : List Stored) (ps qs : List KeptPlace) (p : Spot) → Grows ps qs → IsCoveredApart m (spots_of ps) p → IsCoveredApart m (spots_of qs) p
covered_stays m ps qs p g c = (c.0, stays ps qs c.0 g c.1, c.2)

pub ahead_stays : (ps qs : List KeptPlace) (p : Spot) → Grows ps qs → AreAhead (spots_of ps) p → AreAhead (spots_of qs) p
ahead_stays ps qs p g c = (c.0, stays ps qs c.0 g c.1, c.2)

pub ahead_by : (ps : List Spot) (q r : Spot) → AreAhead ps q → StandsForAlways q r → AreAhead ps r
ahead_by ps q r a s = (a.0, a.1, λ m. stands_on m a.0 q r (a.2 m) (s m))

-- a place that came is there
pub came : (ps qs : List KeptPlace) (p : KeptPlace) → qs ≡ ps ++ p ∷ [] → Contains (spots_of qs) (spot_of p)
came ps qs p e =
    subst (λ (xs : List Spot). Contains xs (spot_of p)) (sym (ap spots_of e ∙ map-append spot_of ps (p ∷ []))) (Contains-push (spots_of ps) (spot_of p))

-- a place at an index is among the places
pub place_at : (ps : List KeptPlace) (i : ℕ) (p : KeptPlace) → i < length ps → p ≡ get_or ps i p → Contains (spots_of ps) (spot_of p)
place_at ps i p l at =
    subst (λ (q : KeptPlace). Contains (spots_of ps) (spot_of q)) (sym at)
    (subst (λ (x : Spot). Contains (spots_of ps) x) (get_or-map spot_of ps i p (spot_of p) l)
    (Contains-get_or (spots_of ps) i (spot_of p) (let e = length-map ps spot_of in omega (arith, e, l))))
