-- What a run of a hart against the list of all stores reads of bytes to which no other hart stores: its own last store, since it does each of
-- its stores of the list, in the order of the program where they meet (rule 1).
use Rattle.std.proofs.Common.{◌≡◌, ℕ, zero, suc, ◌+◌, ◌-◌, ◌<◌, ◌≤◌, ◌&&◌, ◌||◌, ◌⊎◌, max, min, Bool, true, false, if◌then◌else◌, List, [], ◌∷◌, ◌++◌, length, get_or, Contains, Option, Some, None, is_some, option_map, refl, sym, ap, ◌∙◌, subst, inl, inr, arith}
use Rattle.std.proofs.lemmas.Bool.{and_parts, cases_lt}
use Rattle.std.proofs.lemmas.List.Elements.{Contains-append_left, Contains-push, Contains-push_cases}
use Rattle.std.proofs.lemmas.List.{append-nil, append_assoc}
use Rattle.pages.specs.Memory.{Memory, byte_of, in_range}
use Rattle.round_schedule.specs.Accesses.{address_of, bytes_of, is_sc, loads, stores, writes}
use Rattle.hart_step.specs.declared.hart.Hart.{Hart}
use Rattle.memory_order.specs.CheckingProgram.{orders_stores}
use Rattle.memory_order.specs.Operations.{covers, is_acquire, is_amo}
use Rattle.memory_order.specs.Registers.{registers_of}
use Rattle.memory_order.proofs.Facts.{or_left, or_right}
use Rattle.rule_checker.specs.CarriedBounds.{operand_bound, sources_bound}
use Rattle.rule_checker.specs.Kinds.{loads_stores}
use Rattle.all_endings.specs.HartRuns.{Acts, IsListed, IsPast, IsPlaced, IsRead, Runs, Stands, forwarded, remembered, runs-more, runs-none}
use Rattle.all_endings.specs.Offering.{MayPay, Pays}
use Rattle.all_endings.specs.RunStates.{Move, OwnByte, RunState, behind, moved, operates, run_start, stores_from}
use Rattle.all_endings.specs.StoreLists.{Stored, byte_at, has_byte, last_place, later, no_store}
use Rattle.all_endings.proofs.Placing.{placed}
use Rattle.all_endings.proofs.Sources.{both}
use Rattle.private_bytes.specs.PrivateMoves.{left_by, needs_of, own_byte}

-- ---- places of stores

-- a byte of a store is one of the list's store at its time
listed_byte : (h : ℕ) (m : List Stored) (v : Move) → IsListed h m v → (x : ℕ) → covers v.access x ≡ has_byte (get_or m v.time no_store) x
listed_byte h m v l x =
    ap (λ (y : ℕ). in_range y (bytes_of v.access) x) (sym l.address) ∙ ap (λ (y : ℕ). in_range (get_or m v.time no_store).address y x) (sym l.bytes)

not_some : (o : OwnByte) (q : Option OwnByte) → q ≡ Some o → q ≡ None → ⊥
not_some o q a b =
    let c : is_some q ≡ true = ap (λ (y : Option OwnByte). is_some y) a in
    let d : is_some q ≡ false = ap (λ (y : Option OwnByte). is_some y) b in
    cc

listed : (h : ℕ) (m : List Stored) (v : Move) → IsPlaced h m v → v.time < later m → IsListed h m v
listed h m v (inl late) l = absurd (omega (arith, late, l))
listed h m v (inr is) l = is

-- each store of the list to a byte is this hart's
abbrev pub IsAlone : ℕ → List Stored → ℕ → Type 0
IsAlone h m x = (k : ℕ) → k < length m → has_byte (get_or m k no_store) x ≡ true → (get_or m k no_store).hart ≡ h

-- ---- along a run

module _ (image : Memory) (h : ℕ) (m : List Stored) (opening : ℕ → ℕ) (x : ℕ) where
  -- a move among these writes the byte
  abbrev pub Writer : List Move → Move → Type 0
  Writer vs v = Contains vs v × (writes v.access x ≡ true)

  one_placed : (a : RunState) (v : Move) → Acts image h m opening (IsPlaced h m) a v → writes v.access x ≡ true → IsPlaced h m v
  one_placed a v doing w = placed image h m opening a v doing (and_parts (stores v.access) (covers v.access x) w).0

  all_placed : (a : RunState) (vs : List Move) (c : RunState) → Runs image h m opening a vs c → (v : Move) → Contains vs v → stores v.access ≡ true → IsPlaced h m v
  all_placed a _ _ (runs-none _) v c s = absurd (let l = c.1 in omega (arith, l))
  all_placed a _ _ (runs-more _ b vs u r at doing stand) v c s = elim (Contains-push_cases vs u v c) [
    | inl old ↦ all_placed a vs b r v old s
    | inr new ↦ subst (IsPlaced h m) new (placed image h m opening b u doing (ap (λ (y : Move). stores y.access) new ∙ s))
  ]

  -- rule 1
  touched_grows : (a : RunState) (v : Move) → a.touched x ≤ (moved h m a v).touched x
  touched_grows a v = by_test (operates v && covers v.access x)
    where
      by_test : (c : Bool) → a.touched x ≤ (if c then max (a.touched x) (behind m v) else a.touched x)
      by_test true = omega arith
      by_test false = omega arith

  touches : (a : RunState) (v : Move) → (operates v && covers v.access x) ≡ true → behind m v ≤ (moved h m a v).touched x
  touches a v e = by_test (operates v && covers v.access x) e
    where
      by_test : (c : Bool) → c ≡ true → behind m v ≤ (if c then max (a.touched x) (behind m v) else a.touched x)
      by_test true e = omega arith
      by_test false e = absurd (cc)

  writer_touches : (v : Move) → writes v.access x ≡ true → (operates v && covers v.access x) ≡ true
  writer_touches v w = let p = and_parts (stores v.access) (covers v.access x) w in both (loads v.access || stores v.access) (covers v.access x) (or_right (loads v.access) (stores v.access) p.0) p.1

  bounds_grow : (a : RunState) (v : Move) → stores_from a x ≤ stores_from (moved h m a v) x
  bounds_grow a v =
      let t = touched_grows a v in
      let p = raised (operates v && is_acquire v.access) a.kinds.acquires (behind m v) in
      let q = raised (loads_stores v.access) a.kinds.load_store a.kinds.loads in
      let r = raised (orders_stores v.access) a.kinds.store_store a.kinds.stores in
      let u = raised (registers_of v.instruction).steers a.carried.steered (sources_bound a.carried (registers_of v.instruction)) in
      omega (arith, t, p, q, r, u)
    where
      raised : (c : Bool) (y z : ℕ) → y ≤ (if c then max y z else y)
      raised true y z = omega arith
      raised false y z = omega arith

  writer_stands : (a : RunState) (v : Move) → (operates v ≡ true → Stands a v) → writes v.access x ≡ true → stores_from a x ≤ v.time
  writer_stands a v stand w =
      let p = and_parts (stores v.access) (covers v.access x) w in
      let s = stand (or_right (loads v.access) (stores v.access) p.0) in
      let t = s.touched x p.0 p.1 in
      let a0 = s.kinds.0 in
      let k = s.kinds.2 p.0 in
      let k0 = k.0 in
      let k1 = k.1 in
      let c = s.carried.1 p.0 in
      let c1 = c.1 in
      let c2 = c.2 in
      omega (arith, t, a0, k0, k1, c1, c2)

  behind_small : (v : Move) → behind m v ≤ later m
  behind_small v = omega arith

  behind_store : (v : Move) → writes v.access x ≡ true → behind m v ≡ min (v.time + 1) (later m)
  behind_store v w = ap (λ (c : Bool). min (if c then v.time + 1 else v.time) (later m)) (and_parts (stores v.access) (covers v.access x) w).0

  -- what a run keeps of its own stores to the byte
  pub record Kept (vs : List Move) (c : RunState) : Type 0 where
    pub touched : (v : Move) → Writer vs v → behind m v ≤ c.touched x
    pub none : c.own x ≡ None → (v : Move) → Writer vs v → ⊥
    pub last : (o : OwnByte) → c.own x ≡ Some o → (v : Move) → Writer vs v → behind m v ≤ o.place
    pub own : (o : OwnByte) → c.own x ≡ Some o → (v : Move) × Writer vs v × (o.place ≡ behind m v) × (o.byte ≡ option_map (λ n. byte_of n (x - address_of v.access)) v.written) × IsPlaced h m v
    pub needs : (o : OwnByte) → c.own x ≡ Some o → o.needs ≤ o.place

  abbrev newly : RunState → Move → OwnByte
  newly b v = record {
    place = behind m v;
    byte = option_map (λ n. byte_of n (x - address_of v.access)) v.written;
    atomic = is_amo v.access || is_sc v.access;
    needs = operand_bound b.carried (registers_of v.instruction);
  }

  own_after : (b : RunState) (v : Move) (c : Bool) → writes v.access x ≡ c → (moved h m b v).own x ≡ (if c then Some (newly b v) else b.own x)
  own_after b v c e = ap (λ (t : Bool). if t then Some (newly b v) else b.own x) e

  same_own : (o p : OwnByte) (q : Option OwnByte) → q ≡ Some o → q ≡ Some p → o ≡ p
  same_own o p q e d = cc

  placed_time : (v : Move) → IsPlaced h m v → v.time ≤ later m
  placed_time v (inl late) = omega (arith, late)
  placed_time v (inr is) = let l = is.within in omega (arith, l)

  -- by the rules 9 and 10
  new_needs : (b : RunState) (v : Move) → Acts image h m opening (IsPlaced h m) b v → (operates v ≡ true → Stands b v) → writes v.access x ≡ true → (newly b v).needs ≤ (newly b v).place
  new_needs b v doing stand e =
      let p = (and_parts (stores v.access) (covers v.access x) e).0 in
      let may = (stand (or_right (loads v.access) (stores v.access) p)).carried in
      let address = may.0 in
      let value = (may.1 p).0 in
      let place = behind_store v e in
      let t = placed_time v (one_placed b v doing e) in
      omega (arith, address, value, place, t)

  kept_more : (b : RunState) (vs : List Move) (v : Move) → Acts image h m opening (IsPlaced h m) b v → (operates v ≡ true → Stands b v) → Kept vs b → Kept (vs ++ v ∷ []) (moved h m b v)
  kept_more b vs v doing stand k = by_test (writes v.access x) refl
    where
      same_touched : (u : Move) → Writer vs u → behind m u ≤ (moved h m b v).touched x
      same_touched u w = let t = k.touched u w in let g = touched_grows b v in omega (arith, t, g)

      old : writes v.access x ≡ false → (u : Move) → Writer (vs ++ v ∷ []) u → Writer vs u
      old e u w = elim (Contains-push_cases vs v u w.0) [
        | inl c ↦ (c, w.1)
        | inr same ↦ absurd (let q : writes u.access x ≡ false = ap (λ (y : Move). writes y.access x) (sym same) ∙ e in let r = w.1 in cc)
      ]

      older : writes v.access x ≡ true → (u : Move) → Writer vs u → behind m u ≤ behind m v
      older e u w =
          let t = k.touched u w in
          let s = writer_stands b v stand e in
          let p = behind_store v e in
          let q = behind_small u in
          omega (arith, t, s, p, q)

      by_test : (c : Bool) → writes v.access x ≡ c → Kept (vs ++ v ∷ []) (moved h m b v)
      by_test false e =
          let own : b.own x ≡ (moved h m b v).own x = sym (own_after b v false e) in record {
            touched = λ u w. same_touched u (old e u w);
            none = λ none u w. k.none (own ∙ none) u (old e u w);
            last = λ o is u w. k.last o (own ∙ is) u (old e u w);
            own = λ o is. let w = k.own o (own ∙ is) in (w.0, (Contains-append_left vs (v ∷ []) w.0 w.1.0, w.1.1), w.2, w.3, w.4);
            needs = λ o is. k.needs o (own ∙ is);
          }
      by_test true e =
          let own : (moved h m b v).own x ≡ Some (newly b v) = own_after b v true e in record {
            touched = λ u w. elim (Contains-push_cases vs v u w.0) [
              | inl c ↦ same_touched u (c, w.1)
              | inr same ↦ subst (λ (y : Move). behind m y ≤ (moved h m b v).touched x) same (touches b v (writer_touches v e))
            ];
            none = λ none. absurd (not_some (newly b v) ((moved h m b v).own x) own none);
            last = λ o is u w.
                let place : behind m v ≡ o.place = ap (λ (y : OwnByte). y.place) (same_own (newly b v) o ((moved h m b v).own x) own is) in
                elim (Contains-push_cases vs v u w.0) [
                  | inl c ↦ let l = older e u (c, w.1) in omega (arith, l, place)
                  | inr same ↦ let q = ap (behind m) same in omega (arith, place, q)
                ];
            own = λ o is.
                let same = same_own o (newly b v) ((moved h m b v).own x) is own in (
                  v,
                  (Contains-push vs v, e),
                  ap (λ (y : OwnByte). y.place) same,
                  ap (λ (y : OwnByte). y.byte) same,
                  one_placed b v doing e,
                );
            needs = λ o is.
                let same = same_own (newly b v) o ((moved h m b v).own x) own is in
                subst (λ (y : OwnByte). y.needs ≤ y.place) same (new_needs b v doing stand e);
          }

  pub kept_along : (start : Hart) (vs : List Move) (c : RunState) → Runs image h m opening (run_start start) vs c → Kept vs c
  kept_along start vs c runs = from (run_start start) vs c refl runs
    where
      from : (a : RunState) (vs : List Move) (c : RunState) → a ≡ run_start start → Runs image h m opening a vs c → Kept vs c
      from a _ _ is (runs-none _) = record {
        touched = λ v w. absurd (let l = w.0.1 in omega (arith, l));
        none = λ none v w. absurd (let l = w.0.1 in omega (arith, l));
        last = λ o own v w. absurd (let l = w.0.1 in omega (arith, l));
        own = λ o own. absurd (not_some o (a.own x) own (ap (λ (y : RunState). y.own x) is));
        needs = λ o own. absurd (not_some o (a.own x) own (ap (λ (y : RunState). y.own x) is));
      }
      from a _ _ is (runs-more _ b vs v r at doing stand) = kept_more b vs v doing stand (from a vs b is r)

  -- it stands behind a store of the list, or is LATER
  pub own_place : (vs : List Move) (c : RunState) → Kept vs c → (o : OwnByte) → c.own x ≡ Some o →
      (o.place ≡ later m) ⊎ ((j : ℕ) × (j < length m) × (has_byte (get_or m j no_store) x ≡ true) × (o.place ≡ suc j))
  own_place vs c kept o e =
      let w = kept.own o e in
      let place = w.2 ∙ behind_store w.0 w.1.1 in
      elim w.4 [
        | inl late ↦ inl (omega (arith, place, late))
        | inr is ↦ let l = is.within in
            inr (w.0.time, l, sym (listed_byte h m w.0 is x) ∙ (and_parts (stores w.0.access) (covers w.0.access x) w.1.1).1, omega (arith, place, l))
      ]

  -- ---- stores of the list that are still to be done

  -- the hart's stores of the list to the byte were done, or may still be
  abbrev pub Fits : List Move → RunState → Type 0
  Fits vs c = (k : ℕ) → k < length m → (get_or m k no_store).hart ≡ h → has_byte (get_or m k no_store) x ≡ true →
      ((v : Move) × Writer vs v × (v.time ≡ k)) ⊎ (stores_from c x ≤ k)

  -- what does a store of the list writes its bytes
  writer_of : (start : RunState) (vs : List Move) (c : RunState) → Runs image h m opening start vs c → (k : ℕ) → k < length m → has_byte (get_or m k no_store) x ≡ true →
      (v : Move) × Contains vs v × (stores v.access ≡ true) × (v.time ≡ k) → (v : Move) × Writer vs v × (v.time ≡ k)
  writer_of start vs c runs k l wet p =
      let is = listed h m p.0 (all_placed start vs c runs p.0 p.1 p.2) (let t = p.3 in omega (arith, t, l)) in
      (p.0, (p.1, both (stores p.0.access) (covers p.0.access x) p.2 (listed_byte h m p.0 is x ∙ ap (λ (j : ℕ). has_byte (get_or m j no_store) x) p.3 ∙ wet)), p.3)

  pub fits_paid : (start : RunState) (vs : List Move) (c : RunState) → Runs image h m opening start vs c → Pays h m vs → Fits vs c
  fits_paid start vs c runs pays k l here wet = inl (writer_of start vs c runs k l wet (pays k l here))

  pub fits_may : (start : RunState) (vs : List Move) (c : RunState) → Runs image h m opening start vs c → MayPay h m vs c → Fits vs c
  fits_may start vs c runs may k l here wet = elim (may k l here) [
    | inl p ↦ inl (writer_of start vs c runs k l wet p)
    | inr before ↦ inr (before x wet)
  ]

  pub fits_before : (vs : List Move) (b : RunState) (v : Move) → (operates v ≡ true → Stands b v) → Fits (vs ++ v ∷ []) (moved h m b v) → Fits vs b
  fits_before vs b v stand f k l here wet = elim (f k l here wet) [
    | inr late ↦ inr (let g = bounds_grow b v in omega (arith, g, late))
    | inl p ↦ elim (Contains-push_cases vs v p.0 p.1.0) [
      | inl old ↦ inl (p.0, (old, p.1.1), p.2)
      | inr same ↦ inr (
          let s = writer_stands b v stand (ap (λ (y : Move). writes y.access x) same ∙ p.1.1) in
          let t : v.time ≡ k = ap (λ (y : Move). y.time) same ∙ p.2 in
          omega (arith, s, t)
          )
    ]
  ]

  pub fits_along : (us : List Move) (a : RunState) (vs : List Move) (c : RunState) → Runs image h m opening a vs c → Fits (us ++ vs) c → Fits us a
  fits_along us a _ _ (runs-none _) f = subst (λ (ws : List Move). Fits ws a) (append-nil us) f
  fits_along us a _ _ (runs-more _ b vs v r at doing stand) f =
      fits_along us a vs b r (fits_before (us ++ vs) b v stand (subst (λ (ws : List Move). Fits ws (moved h m b v)) (sym (append_assoc us vs (v ∷ []))) f))

  -- ---- what is read

  last_none : (t : ℕ) → ((k : ℕ) → k < t → has_byte (get_or m k no_store) x ≡ true → ⊥) → last_place m x t ≡ 0
  last_none zero none = refl
  last_none (suc t) none = by_test (has_byte (get_or m t no_store) x) refl (last_none t (λ k l w. none k (omega (arith, l)) w))
    where
      by_test : (c : Bool) → has_byte (get_or m t no_store) x ≡ c → last_place m x t ≡ 0 → last_place m x (suc t) ≡ 0
      by_test true e before = absurd (none t (omega arith) e)
      by_test false e before = ap (λ (c : Bool). if c then suc t else last_place m x t) e ∙ before

  last_one : (t j : ℕ) → j < t → has_byte (get_or m j no_store) x ≡ true → ((k : ℕ) → j < k → k < t → has_byte (get_or m k no_store) x ≡ true → ⊥) → last_place m x t ≡ suc j
  last_one zero j l w none = absurd (omega (arith, l))
  last_one (suc t) j l w none = by_test (has_byte (get_or m t no_store) x) refl (λ earlier. last_one t j earlier w (λ k a b wet. none k a (omega (arith, b)) wet))
    where
      by_test : (c : Bool) → has_byte (get_or m t no_store) x ≡ c → (j < t → last_place m x t ≡ suc j) → last_place m x (suc t) ≡ suc j
      by_test true e before = elim (cases_lt j t) [
        | inl earlier ↦ absurd (none t earlier (omega arith) e)
        | inr here ↦ let s : t ≡ j = omega (arith, here, l) in ap (λ (c : Bool). if c then suc t else last_place m x t) e ∙ ap suc s
      ]
      by_test false e before = elim (cases_lt j t) [
        | inl earlier ↦ ap (λ (c : Bool). if c then suc t else last_place m x t) e ∙ before earlier
        | inr here ↦ let s : j ≡ t = omega (arith, here, l) in absurd (let q = ap (λ (k : ℕ). has_byte (get_or m k no_store) x) s in cc)
      ]

  -- where each store of the list to the byte before a time was done, the list has the own last one there
  pub own_remembered : (vs : List Move) (c : RunState) (t : ℕ) → Kept vs c → t ≤ length m →
      ((k : ℕ) → k < t → has_byte (get_or m k no_store) x ≡ true → (v : Move) × Writer vs v × (v.time ≡ k)) → IsPast (c.own x) t →
      own_byte opening c x ≡ Some (byte_at m opening x (last_place m x t))
  own_remembered vs c t kept l done past = by_own (c.own x) refl past
    where
      by_own : (o : Option OwnByte) → c.own x ≡ o → IsPast o t → left_by (opening x) o ≡ Some (byte_at m opening x (last_place m x t))
      by_own None e none = ap (λ (p : ℕ). Some (byte_at m opening x p)) (sym (last_none t (λ k i w. let d = done k i w in kept.none e d.0 d.1)))
      by_own (Some o) e past =
          let w = kept.own o e in
          let place = w.2 ∙ behind_store w.0 w.1.1 in
          let early : w.0.time + 1 ≡ o.place = omega (arith, place, past, l) in
          let is = listed h m w.0 w.4 (omega (arith, early, past, l)) in
          let has : has_byte (get_or m w.0.time no_store) x ≡ true = sym (listed_byte h m w.0 is x) ∙ (and_parts (stores w.0.access) (covers w.0.access x) w.1.1).1 in
          let last : last_place m x t ≡ suc w.0.time =
          last_one t w.0.time (omega (arith, early, past)) has (λ k a b wet.
          let d = done k b wet in
          let q = kept.last o e d.0 d.1 in
          let s = behind_store d.0 d.1.1 in
          let z = d.2 in
          omega (arith, q, s, z, a, b, l, early)) in
          w.3 ∙ ap (option_map (λ n. byte_of n (x - address_of w.0.access))) is.number
          ∙ ap (λ (y : ℕ). Some (byte_of (get_or m w.0.time no_store).number (x - y))) (sym is.address)
          ∙ ap (λ (p : ℕ). Some (byte_at m opening x p)) (sym last)

  -- and a load of it reads that
  pub own_read : (vs : List Move) (c : RunState) (v : Move) (byte : ℕ) → Kept vs c → IsAlone h m x → Fits (vs ++ v ∷ []) (moved h m c v) → v.time ≤ length m →
      covers v.access x ≡ true → loads v.access ≡ true → stores v.access ≡ false →
      (source : ℕ) → IsRead m opening c v.time x source byte → own_byte opening c x ≡ Some byte
  own_read vs c v byte kept alone fits early cover load dry source (forwarded o _ own late plain needs seen known) =
      ap (left_by (opening x)) own ∙ known
  own_read vs c v _ kept alone fits early cover load dry _ (remembered past seen) = own_remembered vs c v.time kept early done past
    where
      after : v.time ≤ (moved h m c v).touched x
      after =
          let t = touches c v (both (loads v.access || stores v.access) (covers v.access x) (or_left (loads v.access) (stores v.access) load) cover) in
          let b : behind m v ≡ min v.time (later m) = ap (λ (z : Bool). min (if z then v.time + 1 else v.time) (later m)) dry in
          omega (arith, t, b, early)

      done : (k : ℕ) → k < v.time → has_byte (get_or m k no_store) x ≡ true → (u : Move) × Writer vs u × (u.time ≡ k)
      done k l w = elim (fits k (omega (arith, l, early)) (alone k (omega (arith, l, early)) w) w) [
        | inr late ↦ absurd (let a = after in omega (arith, a, late, l))
        | inl p ↦ elim (Contains-push_cases vs v p.0 p.1.0) [
          | inl old ↦ (p.0, (old, p.1.1), p.2)
          | inr same ↦ absurd (let q : stores p.0.access ≡ false = ap (λ (y : Move). stores y.access) (sym same) ∙ dry in
              let r = (and_parts (stores p.0.access) (covers p.0.access x) p.1.1).0 in cc)
        ]
      ]

  -- what its own last store needs is at most the load's time: it stands behind the load, or the load behind it
  pub own_needs : (vs : List Move) (c : RunState) (v : Move) (source byte : ℕ) → Kept vs c → IsRead m opening c v.time x source byte →
      needs_of (c.own x) ≤ v.time
  own_needs vs c v _ byte kept (forwarded o _ own late plain needs seen known) = subst (λ (y : Option OwnByte). needs_of y ≤ v.time) (sym own) needs
  own_needs vs c v _ _ kept (remembered past seen) = by_own (c.own x) refl past
    where
      by_own : (o : Option OwnByte) → c.own x ≡ o → IsPast o v.time → needs_of o ≤ v.time
      by_own None e none = omega arith
      by_own (Some o) e past = let b = kept.needs o e in omega (arith, b, past)

  -- it needs nothing behind LATER
  pub own_late : (vs : List Move) (c : RunState) → Kept vs c → needs_of (c.own x) ≤ later m
  own_late vs c kept = by_own (c.own x) refl
    where
      by_own : (o : Option OwnByte) → c.own x ≡ o → needs_of o ≤ later m
      by_own None e = omega arith
      by_own (Some o) e =
          let b = kept.needs o e in
          let w = kept.own o e in
          let p = w.2 in
          let q = behind_small w.0 in
          omega (arith, b, p, q)
