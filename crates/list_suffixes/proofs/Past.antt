-- Where a run is, told of a spot that stands for where it is: what holds there holds here.
use Rattle.std.proofs.Common.{◌≡◌, ℕ, zero, suc, ◌<◌, ◌≤◌, Bool, true, false, List, [], ◌∷◌, ◌++◌, length, map, Option, Some, None, is_some, option_map, refl, sym, ap, ◌∙◌, subst, inl, inr, arith}
use Rattle.std.proofs.Math.Path.{fun_ext}
use Rattle.std.proofs.lemmas.Bool.{cases_lt}
use Rattle.std.proofs.lemmas.List.{length-map}
use Rattle.pages.specs.Memory.{Memory}
use Rattle.hart_step.specs.declared.hart.Stop.{Stop}
use Rattle.hart_step.specs.DecodedCode.{decoded}
use Rattle.hart_step.specs.Effect.{Action, action}
use Rattle.memory_order.specs.Registers.{registers_of}
use Rattle.all_endings.specs.Halting.{Halts, KnowsRegisters}
use Rattle.all_endings.specs.Locality.{KnowsButData, Refines, filled, view, without_data}
use Rattle.all_endings.specs.RunStates.{OwnByte, RunState, stores_from}
use Rattle.all_endings.specs.StoreLists.{Stored, has_byte, no_store}
use Rattle.all_endings.proofs.Locality.{filled_acts, filled_refines}
use Rattle.private_bytes.specs.Ahead.{IsAhead, OwnAhead, TellsAll, ahead-both, ahead-none}
use Rattle.private_bytes.specs.Owners.{KeepsToItself, Touches}
use Rattle.private_bytes.specs.PrivateWalks.{IsLost, Spot, StandsForApart}
use Rattle.private_bytes.proofs.Covering.{known_too, refines_too}
use Rattle.private_bytes.proofs.Mirroring.{ahead_on}
use Rattle.list_suffixes.specs.ApartRuns.{StandsForAlways}
use Rattle.list_suffixes.specs.Staying.{kept, kept_before, own_kept, place_before, place_kept, spot_kept, state_kept}
use Rattle.list_suffixes.proofs.Joining.{IsPlace, at_before, before_joined, before_within, joined, place_both, place_joined, place_least}
use Rattle.list_suffixes.proofs.KeptMoves.{reg_kept}
use Rattle.list_suffixes.proofs.Placed.{ArePlaced, own_placed}
use Rattle.list_suffixes.proofs.Staying.{before_kept, kept_rises, place_longer, place_rises}

-- ---- spots that stand for others

pub stands_on : (p q r : Spot) (m : List Stored) → StandsForApart m p q → StandsForApart m q r → StandsForApart m p r
stands_on p q r m s t = record {
  state = ahead_on p.place.state q.place.state r.place.state s.state t.state;
  count = (let a = s.count in let b = t.count in omega (arith, a, b));
  paid = λ j l e. s.paid j l (t.paid j l e);
  next = s.next ∙ t.next;
  constant = λ e. t.constant (s.constant e);
}

-- a list of so many stores
as_many : ℕ → List Stored
as_many zero = []
as_many (suc n) = no_store ∷ as_many n

as_many_are : (n : ℕ) → length (as_many n) ≡ n
unfolding as_many
as_many_are zero = refl
as_many_are (suc n) = let e = as_many_are n in omega (arith, e)

module _ (stays : List Bool) (m : List Stored) where
  own_ahead_kept : (x : ℕ) (o q : Option OwnByte) → OwnAhead o q → OwnAhead (option_map (own_kept stays m x) o) (option_map (own_kept stays m x) q)
  own_ahead_kept x _ _ ahead-none = ahead-none
  own_ahead_kept x _ _ (ahead-both o q place byte atomic needs) =
      ahead-both (own_kept stays m x o) (own_kept stays m x q) (ap (place_kept stays m x) place) byte atomic (kept_rises stays o.needs q.needs needs)

  -- times of both counted by the stores that stay
  pub state_stands_kept : (p q : RunState) → IsAhead p q → IsAhead (state_kept stays m p) (state_kept stays m q)
  state_stands_kept p q l = record {
    pc = l.pc;
    size = l.size;
    registers = l.registers;
    kinds = record {
      loads = kept_rises stays _ _ l.kinds.loads;
      stores = kept_rises stays _ _ l.kinds.stores;
      acquires = kept_rises stays _ _ l.kinds.acquires;
      annotated = kept_rises stays _ _ l.kinds.annotated;
      load_load = kept_rises stays _ _ l.kinds.load_load;
      load_store = kept_rises stays _ _ l.kinds.load_store;
      store_load = kept_rises stays _ _ l.kinds.store_load;
      store_store = kept_rises stays _ _ l.kinds.store_store;
    };
    carried = record {
      small = length-map p.carried.registers (kept_before stays) ∙ l.carried.small;
      size = length-map q.carried.registers (kept_before stays) ∙ l.carried.size;
      registers = λ r s.
          let k = kept_rises stays _ _ (l.carried.registers r s) in
          let d = reg_kept stays m p.carried.registers r in
          let e = reg_kept stays m q.carried.registers r in
          omega (arith, k, d, e);
      steered = kept_rises stays _ _ l.carried.steered;
      addressed = kept_rises stays _ _ l.carried.addressed;
    };
    touched = λ x. kept_rises stays _ _ (l.touched x);
    seen = λ x. place_rises stays m x _ _ (l.seen x);
    own = λ x. own_ahead_kept x (p.own x) (q.own x) (l.own x);
    held = l.held;
    reserved = kept_rises stays _ _ l.reserved;
    sources = λ x e. place_rises stays m x _ _ (l.sources x e);
    output = l.output;
  }

  -- spots whose times are both counted so
  pub stands_kept : (p q : Spot) → StandsForAlways p q → StandsForAlways (spot_kept stays m p) (spot_kept stays m q)
  stands_kept p q s l = record {
    state = state_stands_kept p.place.state q.place.state (s l).state;
    count = (s l).count;
    paid = λ j i e. let k = place_before stays j in (s (as_many (suc k))).paid k (let n = as_many_are (suc k) in omega (arith, n)) e;
    next = (s l).next;
    constant = (s l).constant;
  }

-- ---- whatever stands behind what is told

own_longer : (stays : List Bool) (m e : List Stored) → length stays ≤ length m → (x : ℕ) (o : Option OwnByte) → option_map (own_kept stays (m ++ e) x) o ≡ option_map (own_kept stays m x) o
own_longer stays m e within x None = refl
own_longer stays m e within x (Some o) = ap (λ (i : ℕ). Some (record o { place = i; needs = kept_before stays o.needs })) (place_longer stays m e x o.place within)

state_longer : (stays : List Bool) (m e : List Stored) → length stays ≤ length m → (a : RunState) → state_kept stays (m ++ e) a ≡ state_kept stays m a
state_longer stays m e within a =
    ap (λ (f : ℕ → ℕ). record (state_kept stays (m ++ e) a) { seen = f }) (fun_ext (λ x. place_longer stays m e x (a.seen x) within))
    ∙ ap (λ (f : ℕ → Option OwnByte). record (state_kept stays m a) { own = f; sources = λ x. place_kept stays (m ++ e) x (a.sources x) }) (fun_ext (λ x. own_longer stays m e within x (a.own x)))
    ∙ ap (λ (f : ℕ → ℕ). record (state_kept stays m a) { sources = f }) (fun_ext (λ x. place_longer stays m e x (a.sources x) within))

pub spot_longer : (stays : List Bool) (m e : List Stored) → length stays ≤ length m → (p : Spot) → spot_kept stays (m ++ e) p ≡ spot_kept stays m p
spot_longer stays m e within p = ap (λ (s : RunState). record p { place = record p.place { state = s; paid = λ j. p.place.paid (place_before stays j) } }) (state_longer stays m e within p.place.state)

-- ---- first some are laid into memory, and then some of those that stayed

module _ (bs cs : List Bool) (m : List Stored) (within : length bs ≤ length m) (small : length cs ≤ length (kept bs m)) where
  own_kept_both : (x : ℕ) (o p : Option OwnByte) → ((q : OwnByte) → p ≡ Some q → IsPlace m x q.place) →
      OwnAhead o (option_map (own_kept cs (kept bs m) x) (option_map (own_kept bs m x) p)) → OwnAhead o (option_map (own_kept (joined bs cs) m x) p)
  own_kept_both x o None placed e = e
  own_kept_both x o (Some p) placed e = by_some o _ refl e
    where
      by_some : (o q : Option OwnByte) → q ≡ Some (own_kept cs (kept bs m) x (own_kept bs m x p)) → OwnAhead o q → OwnAhead o (Some (own_kept (joined bs cs) m x p))
      by_some _ _ is ahead-none = absurd (cc)
      by_some _ _ is (ahead-both u q place byte atomic needs) =
          let s : q ≡ own_kept cs (kept bs m) x (own_kept bs m x p) = cc in
          let n = ap (λ (y : OwnByte). y.needs) s in
          let i = before_joined bs cs p.needs in
          ahead-both u (own_kept (joined bs cs) m x p) (place ∙ ap (λ (y : OwnByte). y.place) s ∙ sym (place_both bs cs m x p.place within small (placed p refl)))
          (λ i is. byte i (ap (λ (y : OwnByte). y.byte) s ∙ is)) (atomic ∙ ap (λ (y : OwnByte). y.atomic) s) (omega (arith, needs, n, i))

  -- a time
  both_before : (t u : ℕ) → u ≤ kept_before cs (kept_before bs t) → u ≤ kept_before (joined bs cs) t
  both_before t u l = let e = before_joined bs cs t in omega (arith, l, e)

  state_kept_both : (o p : RunState) → ArePlaced m p → IsAhead o (state_kept cs (kept bs m) (state_kept bs m p)) → IsAhead o (state_kept (joined bs cs) m p)
  state_kept_both o p placed l = record {
    pc = l.pc;
    size = l.size;
    registers = l.registers;
    kinds = record {
      loads = both_before p.kinds.loads _ l.kinds.loads;
      stores = both_before p.kinds.stores _ l.kinds.stores;
      acquires = both_before p.kinds.acquires _ l.kinds.acquires;
      annotated = both_before p.kinds.annotated _ l.kinds.annotated;
      load_load = both_before p.kinds.load_load _ l.kinds.load_load;
      load_store = both_before p.kinds.load_store _ l.kinds.load_store;
      store_load = both_before p.kinds.store_load _ l.kinds.store_load;
      store_store = both_before p.kinds.store_store _ l.kinds.store_store;
    };
    carried = record {
      small = l.carried.small;
      size =
          length-map p.carried.registers (kept_before (joined bs cs)) ∙ sym (length-map p.carried.registers (kept_before bs))
          ∙ sym (length-map (map (kept_before bs) p.carried.registers) (kept_before cs)) ∙ l.carried.size;
      registers = λ r s.
          let k = l.carried.registers r s in
          let d = reg_kept cs m (map (kept_before bs) p.carried.registers) r ∙ ap (kept_before cs) (reg_kept bs m p.carried.registers r) in
          let f = reg_kept (joined bs cs) m p.carried.registers r ∙ before_joined bs cs _ in
          omega (arith, k, d, f);
      steered = both_before p.carried.steered _ l.carried.steered;
      addressed = both_before p.carried.addressed _ l.carried.addressed;
    };
    touched = λ x. both_before (p.touched x) _ (l.touched x);
    seen = λ x. let i = l.seen x in let e = place_least bs cs m x (p.seen x) in omega (arith, i, e);
    own = λ x. own_kept_both x (o.own x) (p.own x) (own_placed m p placed x) (l.own x);
    held = l.held;
    reserved = both_before p.reserved _ l.reserved;
    sources = λ x e. let i = l.sources x e in let s = place_both bs cs m x (p.sources x) within small (placed.sources x e) in omega (arith, i, s);
    output = l.output;
  }

  -- what stands for a spot by the second stands for it by both, if the spot itself stands for another one by the first
  pub stands_kept_both : (o p q : Spot) → ArePlaced m q.place.state → StandsForAlways o (spot_kept cs (kept bs m) p) → StandsForAlways p (spot_kept bs m q) → StandsForAlways o (spot_kept (joined bs cs) m q)
  stands_kept_both o p q placed s t l = record {
    state = state_kept_both o.place.state q.place.state placed
        (ahead_on o.place.state (state_kept cs (kept bs m) p.place.state) (state_kept cs (kept bs m) (state_kept bs m q.place.state)) (s l).state
        (state_stands_kept cs (kept bs m) p.place.state (state_kept bs m q.place.state) (t l).state));
    count = (let i = (s l).count in let j = (t l).count in omega (arith, i, j));
    paid = λ j i e.
        let k = place_before cs j in
        (s l).paid j i ((t (as_many (suc k))).paid k (let n = as_many_are (suc k) in omega (arith, n)) (ap (λ (n : ℕ). q.place.paid n) (sym (place_joined bs cs j)) ∙ e));
    next = (s l).next ∙ (t l).next;
    constant = λ e. (t l).constant ((s l).constant e);
  }

-- ---- what holds of what stands for a spot

known_back : (a r : RunState) → IsAhead r a → (n : ℕ) → is_some (view a.registers n) ≡ true → is_some (view r.registers n) ≡ true
known_back a r l n e = ap (λ (o : Option ℕ). is_some o) (known_too a.registers r.registers l.registers n e).2

pub keeps_back : (owns : ℕ → ℕ → Bool) (image : Memory) (harts h : ℕ) (a r : RunState) → IsAhead r a → KeepsToItself owns image harts h r → KeepsToItself owns image harts h a
keeps_back owns image harts h a r l keeps i plain address owner at k t inside own =
    let knows : KnowsButData (registers_of i) r.registers = record {
      address = known_back a r l (registers_of i).address k.address;
      first = known_back a r l (registers_of i).first k.first;
      second = known_back a r l (registers_of i).second k.second;
    } in
    let refines : Refines a.registers (filled r.registers) = λ n j e. filled_refines r.registers n j (l.registers n j e) in
    let same : without_data (action i (filled r.registers) r.pc) ≡ without_data (action i (filled a.registers) a.pc) =
    ap (λ (q : ℕ). without_data (action i (filled r.registers) q)) l.pc ∙ sym ((filled_acts i a.registers (filled r.registers) a.pc refines).1 k) in
    keeps i plain address owner (ap (decoded image) l.pc ∙ at) knows (subst (λ (y : Action). Touches image y plain address) (sym same) t) inside own

pub knows_back : (a r : RunState) → IsAhead r a → KnowsRegisters a → KnowsRegisters r
knows_back a r l knows n s = known_back a r l n (knows n s)

pub halts_back : (image : Memory) (stop : Stop) (a r : RunState) → r.pc ≡ a.pc → length r.registers ≡ 32 → TellsAll a.registers r.registers → KnowsRegisters a → Halts image a stop → Halts image r stop
halts_back image stop a r pc size tells knows x = record {
  hart = x.hart;
  lags = record { pc = pc ∙ x.lags.pc; registers = refines_too a.registers r.registers x.hart.x size tells knows x.lags.registers };
  round = x.round;
  own = x.own;
  before = x.before;
  behind = x.behind;
  after = x.after;
  code = x.code;
  step = x.step;
  stopped = x.stopped;
}

pub halts_kept : (image : Memory) (stop : Stop) (stays : List Bool) (m : List Stored) (a r : RunState) → length a.registers ≡ 32 → IsAhead r (state_kept stays m a) → KnowsRegisters a → Halts image a stop → Halts image r stop
halts_kept image stop stays m a r size l knows x = halts_back image stop a r l.pc (l.size ∙ size) l.registers knows x

-- a store that is owed is owed there, too
pub lost_kept : (h : ℕ) (stays : List Bool) (m : List Stored) (p q : Spot) → length stays ≤ length m → StandsForApart (kept stays m) p (spot_kept stays m q) → IsLost h (kept stays m) p.place → IsLost h m q.place
lost_kept h stays m p q within s lost =
    let k = place_before stays lost.store in
    let same = at_before stays m lost.store in
    record {
      store = k;
      within = before_within stays m lost.store within lost.within;
      hart = ap (λ (y : Stored). y.hart) (sym same) ∙ lost.hart;
      owed = by_test (q.place.paid k) refl;
      byte = lost.byte;
      has = ap (λ (y : Stored). has_byte y lost.byte) (sym same) ∙ lost.has;
      behind = sooner;
    }
  where
    by_test : (c : Bool) → q.place.paid (place_before stays lost.store) ≡ c → c ≡ false
    by_test false e = refl
    by_test true e = absurd (let i = s.paid lost.store lost.within e in let j = lost.owed in cc)

    -- each of the bounds of a store to the byte is at most all of them
    below : (t u : ℕ) → u ≤ kept_before stays t → t ≤ stores_from q.place.state lost.byte → u ≤ kept_before stays (stores_from q.place.state lost.byte)
    below t u l r = let i = kept_rises stays t (stores_from q.place.state lost.byte) r in omega (arith, l, i)

    sooner : place_before stays lost.store < stores_from q.place.state lost.byte
    sooner = elim (cases_lt (place_before stays lost.store) (stores_from q.place.state lost.byte)) [
      | inl l ↦ l
      | inr l ↦
          absurd (let r = kept_rises stays (stores_from q.place.state lost.byte) (place_before stays lost.store) l in
          let b = before_kept stays lost.store in
          let i = lost.behind in
          let j = below (q.place.state.touched lost.byte) _ (s.state.touched lost.byte) (omega arith) in
          let k0 = below q.place.state.kinds.acquires _ s.state.kinds.acquires (omega arith) in
          let k1 = below q.place.state.kinds.load_store _ s.state.kinds.load_store (omega arith) in
          let k2 = below q.place.state.kinds.store_store _ s.state.kinds.store_store (omega arith) in
          let c0 = below q.place.state.carried.steered _ s.state.carried.steered (omega arith) in
          let c1 = below q.place.state.carried.addressed _ s.state.carried.addressed (omega arith) in
          omega (arith, r, b, i, j, k0, k1, k2, c0, c1))
    ]
