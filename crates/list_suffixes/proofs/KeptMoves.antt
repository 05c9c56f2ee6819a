-- What a state does, each one that is ahead of it does against the stores that stay.
use Rattle.std.proofs.Common.{◌≡◌, ℕ, zero, suc, ◌+◌, ◌-◌, ◌<◌, ◌≤◌, ◌==◌, ◌||◌, min, nat_le, nat_lt, Bool, true, false, if◌then◌else◌, List, [], ◌∷◌, length, map, get_or, Option, Some, None, is_some, option_map, refl, sym, ap, ◌∙◌, subst, inl, inr, arith}
use Rattle.std.proofs.lemmas.Bool.{and_parts, cases_lt, leb-true, ltb-true}
use Rattle.std.proofs.lemmas.List.{length-map}
use Rattle.pages.specs.declared.access.Width.{Width}
use Rattle.pages.specs.Memory.{Memory, byte_of, in_range, width_bytes}
use Rattle.rv64_decode.specs.declared.instruction.Instr.{Instr}
use Rattle.rv64_decode.specs.declared.instruction.Instr.TheVariants.{Ecall}
use Rattle.round_schedule.specs.declared.access.Access.{Access}
use Rattle.round_schedule.specs.declared.access.Access.TheVariants.{Load, Store, LoadReserved, Atomic}
use Rattle.round_schedule.specs.declared.span.Span.{Span}
use Rattle.round_schedule.specs.Accesses.{address_of, loads, stores, writes}
use Rattle.hart_step.specs.DecodedCode.{decoded}
use Rattle.hart_step.specs.Effect.{Put, action}
use Rattle.hart_step.specs.Numbers.{plus}
use Rattle.hart_step.specs.Registers.{reg}
use Rattle.hart_step.specs.Step.{cut, extended_to}
use Rattle.memory_order.specs.Operations.{covers, is_plain_store}
use Rattle.memory_order.specs.Registers.{registers_of}
use Rattle.rule_checker.specs.CarriedBounds.{AreRegisters}
use Rattle.all_endings.specs.HartRuns.{Acts, Gets, IsPast, IsPlaced, IsRead, IsUnbroken, KnowsAll, KnowsMost, Stands, acts, branches, calls, data_of, exchanges, exchanges-unknown, fails, forwarded, gets, gets-later, jumps, orders, puts, puts-unknown, reads, remembered, reserves, succeeds}
use Rattle.all_endings.specs.HartRuns.{stores as stores_it}
use Rattle.all_endings.specs.Locality.{Refines, filled, view, without_data}
use Rattle.all_endings.specs.Lowering.{is_held}
use Rattle.all_endings.specs.Offering.{Offers}
use Rattle.all_endings.specs.RunStates.{Move, OwnByte, RunState, behind, moved, operates}
use Rattle.all_endings.specs.StoreLists.{Stored, byte_at, byte_in, has_byte, last_place, later, no_store}
use Rattle.all_endings.specs.Tables.{memory_of}
use Rattle.all_endings.proofs.DecodedRegisters.{decoded_fits}
use Rattle.all_endings.proofs.Locality.{filled_acts, filled_refines, not_both}
use Rattle.all_endings.proofs.Placing.{placed}
use Rattle.all_endings.proofs.PlainMoves.{is_put, put_of, puts_alike}
use Rattle.all_endings.proofs.SourceRegisters.{fits, none_known, registers_fit, some_or_none}
use Rattle.all_endings.proofs.StepTimes.{within_range}
use Rattle.all_endings.proofs.Times.{Rises, allowed_below, may_below, operands_below}
use Rattle.private_bytes.specs.Ahead.{IsAhead, OwnAhead, Tells, ahead-both, ahead-none}
use Rattle.private_bytes.specs.Owners.{is_own, is_private}
use Rattle.private_bytes.specs.PrivateMoves.{ActsApart, joined, keeps, left_by, moved_privately, needs_of, own_byte, own_number, recalls, shares, without_place}
use Rattle.private_bytes.proofs.ApartMoves.{bytes_tell, exchange_of, knows_or_not, needs_below, own_both, past_below}
use Rattle.private_bytes.proofs.KeptLists.{IsInOne, one_doubleword, readable_one}
use Rattle.private_bytes.proofs.Mirroring.{Mirrors, OwnMirrors, as_apart, mirrors-both, mirrors-none, moved_mirrors, moved_with, tells_map, tells_none, tells_same}
use Rattle.private_bytes.proofs.SpotMoves.{called}
use Rattle.list_suffixes.specs.KeptMoves.{IsCurrent, IsOfThoseKept, MovesAreKept, state_after}
use Rattle.list_suffixes.specs.Staying.{AreShared, IsListed, MayBeLaid, kept, kept_before, laid, own_kept, place_before, place_kept, state_kept, stays_at}
use Rattle.list_suffixes.proofs.Staying.{before_kept, before_stays, byte_kept, end_at_most, end_before, end_laid, end_least, end_within, kept_at, kept_later, kept_length, kept_less, kept_more, kept_none, kept_rises, kept_zero, laid_within, last_kept, last_least, memory_left, memory_untouched, place_below, place_laid, place_rises, place_stays, place_zero, stays_apart, stays_past}

-- ---- states that are ahead, as those that mirror: nothing is anybody's own

abbrev pub nobody : ℕ → ℕ → Bool
nobody h d = false

module _ (stays : List Bool) (m : List Stored) where
  get_kept : (xs : List ℕ) (r : ℕ) → get_or (map (kept_before stays) xs) r 0 ≡ kept_before stays (get_or xs r 0)
  get_kept [] r = sym (kept_zero stays)
  get_kept (x ∷ xs) zero = refl
  get_kept (x ∷ xs) (suc r) = get_kept xs r

  pub reg_kept : (xs : List ℕ) (r : ℕ) → reg (map (kept_before stays) xs) r ≡ kept_before stays (reg xs r)
  reg_kept xs r = by_test (r == 0) (get_kept xs r)
    where
      by_test : (c : Bool) → get_or (map (kept_before stays) xs) r 0 ≡ kept_before stays (get_or xs r 0) →
          (if c then 0 else get_or (map (kept_before stays) xs) r 0) ≡ kept_before stays (if c then 0 else get_or xs r 0)
      by_test true e = sym (kept_zero stays)
      by_test false e = e

  pub own_to : (x : ℕ) (o q : Option OwnByte) → OwnAhead o (option_map (own_kept stays m x) q) → OwnMirrors (kept_before stays) (place_kept stays m x) false o q
  own_to x o None e = by_none o _ refl e
    where
      by_none : (o p : Option OwnByte) → p ≡ None → OwnAhead o p → OwnMirrors (kept_before stays) (place_kept stays m x) false o None
      by_none _ _ is ahead-none = mirrors-none
      by_none _ _ is (ahead-both u p place byte atomic needs) = absurd (cc)
  own_to x o (Some q) e = by_some o _ refl e
    where
      by_some : (o p : Option OwnByte) → p ≡ Some (own_kept stays m x q) → OwnAhead o p → OwnMirrors (kept_before stays) (place_kept stays m x) false o (Some q)
      by_some _ _ is ahead-none = absurd (cc)
      by_some _ _ is (ahead-both u p place byte atomic needs) =
          let s : p ≡ own_kept stays m x q = cc in
          mirrors-both u q (λ z. place ∙ ap (λ (y : OwnByte). y.place) s) (λ z. atomic ∙ ap (λ (y : OwnByte). y.atomic) s) (λ n is. byte n (ap (λ (y : OwnByte). y.byte) s ∙ is))
          (let n = ap (λ (y : OwnByte). y.needs) s in omega (arith, needs, n))

  own_from : (x : ℕ) (o q : Option OwnByte) → OwnMirrors (kept_before stays) (place_kept stays m x) false o q → OwnAhead o (option_map (own_kept stays m x) q)
  own_from x _ _ mirrors-none = ahead-none
  own_from x _ _ (mirrors-both u q place atomic byte needs) = ahead-both u (own_kept stays m x q) (place refl) byte (atomic refl) needs

  pub to_mirrors : (h : ℕ) (p a : RunState) → length a.registers ≡ 32 → length a.carried.registers ≡ 32 → IsAhead p (state_kept stays m a) → Mirrors nobody h (kept_before stays) (place_kept stays m) p a
  to_mirrors h p a size sized l = record {
    pc = l.pc;
    registers = l.registers;
    small = l.size ∙ size;
    size = size;
    kinds = record {
      loads = l.kinds.loads;
      stores = l.kinds.stores;
      acquires = l.kinds.acquires;
      annotated = l.kinds.annotated;
      load_load = l.kinds.load_load;
      load_store = l.kinds.load_store;
      store_load = l.kinds.store_load;
      store_store = l.kinds.store_store;
    };
    carried = record {
      small = l.carried.small;
      size = sized;
      registers = λ r s. let k = l.carried.registers r s in let e = reg_kept a.carried.registers r in omega (arith, k, e);
      steered = l.carried.steered;
      addressed = l.carried.addressed;
    };
    touched = l.touched;
    seen = l.seen;
    own = λ x. own_to x (p.own x) (a.own x) (l.own x);
    held = l.held;
    reserved = l.reserved;
    sources = l.sources;
    output = l.output;
  }

  pub from_mirrors : (h : ℕ) (p a : RunState) → Mirrors nobody h (kept_before stays) (place_kept stays m) p a → IsAhead p (state_kept stays m a)
  from_mirrors h p a l = record {
    pc = l.pc;
    size = l.small ∙ sym l.size;
    registers = l.registers;
    kinds = record {
      loads = l.kinds.loads;
      stores = l.kinds.stores;
      acquires = l.kinds.acquires;
      annotated = l.kinds.annotated;
      load_load = l.kinds.load_load;
      load_store = l.kinds.load_store;
      store_load = l.kinds.store_load;
      store_store = l.kinds.store_store;
    };
    carried = record {
      small = l.carried.small;
      size = length-map a.carried.registers (kept_before stays) ∙ l.carried.size;
      registers = λ r s. let k = l.carried.registers r s in let e = reg_kept a.carried.registers r in omega (arith, k, e);
      steered = l.carried.steered;
      addressed = l.carried.addressed;
    };
    touched = l.touched;
    seen = l.seen;
    own = λ x. own_from x (p.own x) (a.own x) (l.own x);
    held = l.held;
    reserved = l.reserved;
    sources = l.sources;
    output = l.output;
  }

  -- as many bounds as registers
  pub sized_kept : (p a : RunState) → IsAhead p (state_kept stays m a) → length a.carried.registers ≡ 32
  sized_kept p a l = sym (length-map a.carried.registers (kept_before stays)) ∙ l.carried.size

-- ---- numbers of own bytes

joined_tell : (o p os ps : Option ℕ) → Tells o p → Tells os ps → Tells (joined o os) (joined p ps)
joined_tell None p os ps t rest = tells_none (joined p ps)
joined_tell (Some byte) p None ps t rest = tells_none (joined p ps)
joined_tell (Some byte) p (Some n) ps t rest =
    tells_same (joined (Some byte) (Some n)) (joined p ps) (sym (ap (λ (o : Option ℕ). joined o ps) (t byte refl) ∙ ap (joined (Some byte)) (rest n refl)))

numbers_tell : (opening left : ℕ → ℕ) (a p : RunState) (n address : ℕ) → ((k : ℕ) → k < n → Tells (own_byte opening a (address + k)) (own_byte left p (address + k))) →
    Tells (own_number opening a address n) (own_number left p address n)
numbers_tell opening left a p zero address each = λ n e. e
numbers_tell opening left a p (suc n) address each =
    joined_tell (own_byte opening a address) (own_byte left p address) (own_number opening a (address + 1) n) (own_number left p (address + 1) n)
    (let z : address + 0 ≡ address = omega arith in subst (λ (x : ℕ). Tells (own_byte opening a x) (own_byte left p x)) z (each 0 (omega arith)))
    (numbers_tell opening left a p n (address + 1) (λ k l.
    let s : address + (k + 1) ≡ address + 1 + k = omega arith in
    subst (λ (x : ℕ). Tells (own_byte opening a x) (own_byte left p x)) s (each (k + 1) (omega (arith, l)))))

-- ---- one move

module _ (image : Memory) (h : ℕ) (stays : List Bool) (m : List Stored) (opening : ℕ → ℕ) (within : length stays ≤ length m) (separate : MayBeLaid stays m) (a p : RunState) (v : Move)
    (mirrors : Mirrors nobody h (kept_before stays) (place_kept stays m) p a) (at : decoded image a.pc ≡ Some v.instruction) where
  -- the stores that stay, and what the others left
  abbrev pub rest : List Stored
  rest = kept stays m

  abbrev pub left : ℕ → ℕ
  left = memory_of (laid stays m) opening

  up : Rises (kept_before stays)
  up = kept_rises stays

  raises : (x : ℕ) → Rises (place_kept stays m x)
  raises = place_rises stays m

  many : length (kept stays m) ≡ kept_before stays (length m)
  many = kept_length stays m within

  last_is : kept_before stays (later m) ≡ later (kept stays m)
  last_is = kept_later stays m within

  refines : Refines a.registers (filled p.registers)
  refines r n e = filled_refines p.registers r n (mirrors.registers r n e)

  known : (r : ℕ) → is_some (view a.registers r) ≡ true → is_some (view p.registers r) ≡ true
  known r e = by_view (view a.registers r) refl e
    where
      by_view : (o : Option ℕ) → view a.registers r ≡ o → is_some o ≡ true → is_some (view p.registers r) ≡ true
      by_view None is s = absurd (cc)
      by_view (Some n) is s = ap (λ (o : Option ℕ). is_some o) (mirrors.registers r n is)

  most : KnowsMost a v → KnowsMost p v
  most k = record { address = known _ k.address; first = known _ k.first; second = known _ k.second }

  all : KnowsAll a v → KnowsAll p v
  all k = record { but_data = most k.but_data; value = known _ k.value }

  same_pc : action v.instruction (filled p.registers) p.pc ≡ action v.instruction (filled p.registers) a.pc
  same_pc = ap (action v.instruction (filled p.registers)) mirrors.pc

  same_all : KnowsAll a v → acts p v ≡ acts a v
  same_all k = same_pc ∙ sym ((filled_acts v.instruction a.registers (filled p.registers) a.pc refines).0 k)

  same_most : KnowsMost a v → without_data (acts p v) ≡ without_data (acts a v)
  same_most k = ap without_data same_pc ∙ sym ((filled_acts v.instruction a.registers (filled p.registers) a.pc refines).1 k)

  following : (n : ℕ) → n ≡ plus a.pc 4 → n ≡ plus p.pc 4
  following n e = e ∙ ap (λ (q : ℕ). plus q 4) (sym mirrors.pc)

  data_tells : Tells (data_of a v) (data_of p v)
  data_tells = mirrors.registers (registers_of v.instruction).value

  -- ---- what is read

  -- each store with the byte that is laid into memory stands before a place
  abbrev AllBefore : ℕ → ℕ → Type 0
  AllBefore x place = (k : ℕ) → stays_at stays k ≡ false → has_byte (get_or m k no_store) x ≡ true → k < place

  -- a place behind a store that stays
  stays_behind : (x k : ℕ) → stays_at stays k ≡ true → AllBefore x (suc k) → end_laid stays m x < suc k
  stays_behind x k stay before =
      let most = end_at_most stays m x k (λ j out wet. let b = before j out wet in stays_apart stays k j stay out (omega (arith, b))) in
      omega (arith, most)

  -- by the hart's own last store, which stays as well
  own_stays : (x byte k : ℕ) (o : OwnByte) → a.own x ≡ Some o → o.place ≡ suc k → stays_at stays k ≡ true → AllBefore x (suc k) → v.time < o.place → o.atomic ≡ false → o.needs ≤ v.time →
      a.seen x ≤ o.place → o.byte ≡ Some byte → IsRead rest left p (kept_before stays v.time) x (place_kept stays m x o.place) byte
  own_stays x byte k o own at_it stay before late plain needs seen known =
      let u = own_both (kept_before stays) (place_kept stays m x) false (p.own x) (a.own x) o (mirrors.own x) own in
      let place = u.2 refl in
      let n = u.5 in
      let needed = up o.needs v.time needs in
      let s = mirrors.seen x in
      let r = raises x (a.seen x) o.place seen in
      let here = ap (place_kept stays m x) at_it ∙ place_stays stays m x (suc k) (stays_behind x k stay before) ∙ kept_more stays k stay in
      let t = up v.time k (omega (arith, late, at_it)) in
      subst (λ (q : ℕ). IsRead rest left p (kept_before stays v.time) x q byte) place
      (forwarded u.0 byte u.1 (omega (arith, place, here, t)) (u.3 refl ∙ plain) (omega (arith, n, needed)) (omega (arith, place, s, r)) (u.4 byte known))

  -- memory has what it would read
  recalled : (x source byte : ℕ) → IsPast (p.own x) (kept_before stays v.time) → p.seen x ≤ place_kept stays m x source → last_place rest x (kept_before stays v.time) ≡ place_kept stays m x source →
      byte_at rest left x (place_kept stays m x source) ≡ byte → IsRead rest left p (kept_before stays v.time) x (place_kept stays m x source) byte
  recalled x source byte past seen place is =
      subst (λ (n : ℕ). IsRead rest left p (kept_before stays v.time) x (place_kept stays m x source) n) (ap (byte_at rest left x) place ∙ is)
      (subst (λ (q : ℕ). IsRead rest left p (kept_before stays v.time) x q (byte_at rest left x (last_place rest x (kept_before stays v.time)))) place
      (remembered past (omega (arith, place, seen))))

  -- by the hart's own last store, which is laid into memory
  own_laid : (x byte k : ℕ) (o : OwnByte) → a.own x ≡ Some o → o.place ≡ suc k → stays_at stays k ≡ false → AllBefore x (suc k) → v.time < o.place → a.seen x ≤ o.place →
      has_byte (get_or m k no_store) x ≡ true → byte_in (get_or m k no_store) x ≡ byte → IsRead rest left p (kept_before stays v.time) x (place_kept stays m x o.place) byte
  own_laid x byte k o own at_it out before late seen wet is =
      let u = own_both (kept_before stays) (place_kept stays m x) false (p.own x) (a.own x) o (mirrors.own x) own in
      let least = end_least stays m x k out wet in
      let most = end_at_most stays m x (suc k) before in
      let end : end_laid stays m x ≡ suc k = omega (arith, least, most) in
      let none = place_laid stays m x o.place (omega (arith, at_it, end)) in
      let place = u.2 refl in
      let s = mirrors.seen x in
      let r = raises x (a.seen x) o.place seen in
      recalled x o.place byte (subst (λ (q : Option OwnByte). IsPast q (kept_before stays v.time)) (sym u.1) (omega (arith, place, none))) (omega (arith, s, r))
      (kept_none stays m x v.time (λ j l stay wet. let b = end_before stays m separate x j stay wet in omega (arith, b, end, l, late, at_it)) ∙ sym none)
      (ap (byte_at rest left x) none ∙ memory_left stays m opening x within ∙ ap (byte_at m opening x) end ∙ is)

  read_kept : (x source byte : ℕ) → v.time ≤ length m → AllBefore x source → ((o : OwnByte) → a.own x ≡ Some o → v.time < o.place → o.place ≤ length stays → IsListed m x o) →
      IsRead m opening a v.time x source byte → IsRead rest left p (kept_before stays v.time) x (place_kept stays m x source) byte
  read_kept x _ _ early before listed (forwarded o byte own late plain needs seen known) = by_place o.place refl
    where
      by_stay : (k : ℕ) → o.place ≡ suc k → (c : Bool) → stays_at stays k ≡ c → IsRead rest left p (kept_before stays v.time) x (place_kept stays m x o.place) byte
      by_stay k e true c = own_stays x byte k o own e c (λ j out wet. let b = before j out wet in omega (arith, b, e)) late plain needs seen known
      by_stay k e false c =
          let l = laid_within stays k c in
          let i = listed o own late (omega (arith, e, l)) in
          let place = i.place in
          let same : i.store ≡ k = omega (arith, e, place) in
          own_laid x byte k o own e c (λ j out wet. let b = before j out wet in omega (arith, b, e)) late seen
          (sym (ap (λ (j : ℕ). has_byte (get_or m j no_store) x) same) ∙ i.has) (sym (ap (λ (j : ℕ). byte_in (get_or m j no_store) x) same) ∙ i.byte byte known)

      by_place : (q : ℕ) → o.place ≡ q → IsRead rest left p (kept_before stays v.time) x (place_kept stays m x o.place) byte
      by_place zero e = absurd (omega (arith, e, late))
      by_place (suc k) e = by_stay k e (stays_at stays k) refl
  read_kept x _ _ early before listed (remembered past seen) =
      let s = mirrors.seen x in
      let r = raises x (a.seen x) (last_place m x v.time) seen in
      recalled x (last_place m x v.time) _ (past_below (kept_before stays) (place_kept stays m x) up (place_below stays m x) (p.own x) (a.own x) v.time (mirrors.own x) past) (omega (arith, s, r))
      (last_kept stays m separate x v.time before) (byte_kept stays m separate x v.time before opening within)

  -- what a load of the list reads is as those that are laid into memory left it
  pub record MayRead : Type 0 where
    pub current : v.time ≤ length m → IsCurrent stays m v
    pub own : (o : OwnByte) (x : ℕ) → covers v.access x ≡ true → a.own x ≡ Some o → v.time < o.place → o.place ≤ length stays → IsListed m x o

  gets_kept : (result written : Option ℕ) (address : ℕ) (w : Width) (o : Option ℕ) → ((x : ℕ) → in_range address (width_bytes w) x ≡ true → covers v.access x ≡ true) → MayRead →
      Gets m opening a v address w o → Gets rest left p (as_apart v (kept_before stays v.time) result written (λ x. place_kept stays m x (v.source x))) address w o
  gets_kept result written address w _ cover may (gets n before fits bytes) =
      let e = many in
      let early : v.time ≤ length m = omega (arith, before) in
      let r = up v.time (length m) early in
      gets n (omega (arith, e, r)) fits
      (λ k l.
      let c = cover (address + k) (within_range address (width_bytes w) k l) in
      read_kept (address + k) (v.source (address + k)) (byte_of n k) early (λ j out wet. may.current early j (address + k) out c wet)
      (λ o own behind inside. may.own o (address + k) c own behind inside) (bytes k l))
  gets_kept result written address w _ cover may (gets-later late sources) =
      gets-later (ap (kept_before stays) late ∙ last_is) (λ x. ap (place_kept stays m x) (sources x) ∙ place_zero stays m x)

  -- ---- what is stored

  pub placed_kept : (result written : Option ℕ) (source : ℕ → ℕ) → stays_at stays v.time ≡ true → Tells v.written written → IsPlaced h m v → IsPlaced h rest (as_apart v (kept_before stays v.time) result written source)
  placed_kept result written source stay tells (inl last) = inl (ap (kept_before stays) last ∙ last_is)
  placed_kept result written source stay tells (inr is) =
      let e = many in
      let l = kept_less stays v.time (length m) stay is.within in
      let same = kept_at stays m v.time stay in
      inr (record {
        within = omega (arith, e, l);
        hart = ap (λ (s : Stored). s.hart) same ∙ is.hart;
        address = ap (λ (s : Stored). s.address) same ∙ is.address;
        bytes = ap (λ (s : Stored). s.bytes) same ∙ is.bytes;
        number = tells _ is.number ∙ ap (λ (s : Stored). Some s.number) (sym same);
      })

  unbroken_kept : (result written : Option ℕ) (source : ℕ → ℕ) (address : ℕ) (w : Width) → ((x : ℕ) → covers v.access x ≡ true → in_range address (width_bytes w) x ≡ true) →
      a.held ≡ Some (record { address = address; width = w }) → IsUnbroken h m a v → IsUnbroken h rest p (as_apart v (kept_before stays v.time) result written source)
  unbroken_kept result written source address w cover held unbroken k x in_time before c wet other =
      let j = place_before stays k in
      let stay = before_stays stays k in
      let back = before_kept stays k in
      let same : get_or rest k no_store ≡ get_or m j no_store = ap (λ (i : ℕ). get_or rest i no_store) (sym back) ∙ kept_at stays m j stay in
      let there : has_byte (get_or m j no_store) x ≡ true = ap (λ (s : Stored). has_byte s x) (sym same) ∙ wet in
      let earlier : j < v.time = elim (cases_lt j v.time) [ inl l ↦ l | inr l ↦ let r = up v.time j l in omega (arith, r, back, before) ] in
      let inside : v.time ≤ length m = elim (cases_lt (length m) v.time) [
        | inr l ↦ l
        | inl l ↦ let r = kept_less stays (length m) v.time (stays_past stays (length m) within) l in let e = many in omega (arith, r, e, in_time)
      ] in
      let u = unbroken j x inside earlier c there (λ q. other (ap (λ (s : Stored). s.hart) same ∙ q)) in
      let s = mirrors.sources x (ap (λ (q : Option Span). is_held q x) held ∙ cover x c) in
      let b = end_before stays m separate x j stay there in
      let here = place_stays stays m x (a.sources x) (omega (arith, b, u)) in
      let r = kept_less stays j (a.sources x) stay u in
      omega (arith, s, here, r, back)

  -- ---- instructions

  -- it acts so, with these numbers
  pub record Likely (HasPlace : Move → Type 0) : Type 0 where
    pub result : Option ℕ
    pub written : Option ℕ
    pub tells : Tells v.result result
    pub puts : Tells v.written written
    pub acts : Acts image h rest left HasPlace p (as_apart v (kept_before stays v.time) result written (λ x. place_kept stays m x (v.source x)))

  abbrev own_result : Tells v.result v.result
  own_result n e = e

  abbrev own_written : Tells v.written v.written
  own_written n e = e

  covered : (y : Access) → v.access ≡ y → (x : ℕ) → covers y x ≡ true → covers v.access x ≡ true
  covered y e x c = ap (λ (z : Access). covers z x) e ∙ c

  module _ (P Q : Move → Type 0) (place : (result written : Option ℕ) → stores v.access ≡ true → Tells v.written written → P v → Q (as_apart v (kept_before stays v.time) result written (λ x. place_kept stays m x (v.source x))))
      (lately : (result written : Option ℕ) → stores v.access ≡ true → v.time ≡ later m → Q (as_apart v (kept_before stays v.time) result written (λ x. place_kept stays m x (v.source x))))
      (may : loads v.access ≡ true → MayRead) where
    pub acts_kept : Acts image h m opening P a v → Likely Q
    acts_kept (puts rd n k is e r x) = record {
      result = v.result;
      written = v.written;
      tells = own_result;
      puts = own_written;
      acts = puts rd n (all k) (same_all k ∙ is) e r (following v.next x);
    }
    acts_kept (puts-unknown rd n k is e r x) = elim (knows_or_not (registers_of v.instruction) p.registers) [
      | inl all ↦ record {
        result = Some q.1;
        written = v.written;
        tells = (λ j z. absurd (not_both j v.result r z));
        puts = own_written;
        acts = puts q.0 q.1 all q.2 e refl (following v.next x);
      }
      | inr late ↦ record {
        result = None;
        written = v.written;
        tells = tells_same v.result None r;
        puts = own_written;
        acts = puts-unknown q.0 q.1 late q.2 e refl (following v.next x);
      }
    ]
      where
        q : (rd : ℕ) × (n : ℕ) × (acts p v ≡ Put rd n)
        q = put_of (acts p v) (puts_alike v.instruction (filled p.registers) (filled a.registers) p.pc a.pc ∙ ap is_put is)
    acts_kept (jumps rd target k is even e r x) = record {
      result = v.result;
      written = v.written;
      tells = own_result;
      puts = own_written;
      acts = jumps rd target (all k) (same_all k ∙ is) even e (r ∙ ap (λ (q : ℕ). Some (plus q 4)) (sym mirrors.pc)) x;
    }
    acts_kept (branches taken target k is even e x) = record {
      result = v.result;
      written = v.written;
      tells = own_result;
      puts = own_written;
      acts = branches taken target (all k) (same_all k ∙ is) even e (x ∙ ap (λ (q : ℕ). if taken then target else plus q 4) (sym mirrors.pc));
    }
    acts_kept (orders before after mode is e x) = record {
      result = v.result;
      written = v.written;
      tells = own_result;
      puts = own_written;
      acts = orders before after mode (same_all (none_known a.registers (registers_of v.instruction) (sym (ap (fits (registers_of v.instruction)) is) ∙ registers_fit v.instruction (filled a.registers) a.pc)) ∙ is) e
          (following v.next x);
    }
    acts_kept (reads rd address w signed number k is safe e g r x) = record {
      result = v.result;
      written = v.written;
      tells = own_result;
      puts = own_written;
      acts = reads rd address w signed number (all k) (same_all k ∙ is) safe e (gets_kept v.result v.written address w number (λ y c. covered (Load w 0 address 0) e y c) (may (ap loads e)) g) r (following v.next x);
    }
    acts_kept (stores_it address w k is safe e d q x) =
        let tells : Tells v.written (option_map (cut w) (data_of p v)) = λ n z. tells_map (cut w) (data_of a v) (data_of p v) data_tells n (sym d ∙ z) in
        record {
          result = v.result;
          written = option_map (cut w) (data_of p v);
          tells = own_result;
          puts = tells;
          acts = stores_it address w (most k) (same_most k ∙ is) safe e refl (place v.result (option_map (cut w) (data_of p v)) (ap stores e) tells q) (following v.next x);
        }
    acts_kept (reserves rd address w o number k is safe e g r x) = record {
      result = v.result;
      written = v.written;
      tells = own_result;
      puts = own_written;
      acts = reserves rd address w o number (all k) (same_all k ∙ is) safe e (gets_kept v.result v.written address w number (λ y c. covered (LoadReserved w o 0 address 0) e y c) (may (ap loads e)) g) r (following v.next x);
    }
    acts_kept (fails rd address w o k is safe e r x) = record {
      result = v.result;
      written = v.written;
      tells = own_result;
      puts = own_written;
      acts = fails rd address w o (most k) (same_most k ∙ is) safe e r (following v.next x);
    }
    acts_kept (succeeds rd address w o k is safe e d held reserved q unbroken r x) =
        let tells : Tells v.written (option_map (cut w) (data_of p v)) = λ n z. tells_map (cut w) (data_of a v) (data_of p v) data_tells n (sym d ∙ z) in
        record {
          result = v.result;
          written = option_map (cut w) (data_of p v);
          tells = own_result;
          puts = tells;
          acts = succeeds rd address w o (most k) (same_most k ∙ is) safe e refl (mirrors.held ∙ held)
              (let l = mirrors.reserved in let r = up a.reserved v.time reserved in omega (arith, l, r))
              (place v.result (option_map (cut w) (data_of p v)) (ap stores e) tells q)
              (unbroken_kept v.result (option_map (cut w) (data_of p v)) (λ y. place_kept stays m y (v.source y)) address w (λ y c. sym (ap (λ (z : Access). covers z y) e) ∙ c) held unbroken) r (following v.next x);
        }
    acts_kept (exchanges rd address w g o number k is safe e get r d q x) = record {
      result = v.result;
      written = v.written;
      tells = own_result;
      puts = own_written;
      acts = exchanges rd address w g o number (all k) (same_all k ∙ is) safe e (gets_kept v.result v.written address w number (λ y c. covered (Atomic w o 0 address 0 0) e y c) (may (ap loads e)) get) r d
          (place v.result v.written (ap stores e) own_written q) (following v.next x);
    }
    acts_kept (exchanges-unknown rd address w o k none is safe e get r d x) = elim (some_or_none (data_of p v)) [
      | inr unknown ↦ record {
        result = v.result;
        written = v.written;
        tells = own_result;
        puts = own_written;
        acts = exchanges-unknown rd address w o (most k) unknown (same_most k ∙ is) safe e got r d (following v.next x);
      }
      | inl some ↦
          let g = exchange_of (acts p v) rd address w o (same_most k ∙ is) in
          record {
            result = v.result;
            written = v.written;
            tells = own_result;
            puts = own_written;
            acts = exchanges rd address w g.0 o None (record { but_data = most k; value = some }) g.1 safe e got r d (lately v.result v.written (ap stores e) (is_late None refl get)) (following v.next x);
          }
    ]
      where
        got : Gets rest left p (as_apart v (kept_before stays v.time) v.result v.written (λ x. place_kept stays m x (v.source x))) address w None
        got = gets_kept v.result v.written address w None (λ y c. covered (Atomic w o 0 address 0 0) e y c) (may (ap loads e)) get

        is_late : (q : Option ℕ) → q ≡ None → Gets m opening a v address w q → v.time ≡ later m
        is_late _ e (gets n before fits bytes) = absurd (cc)
        is_late _ e (gets-later late none) = late
    acts_kept (calls number answer ecall at nonzero answered e r x) = record {
      result = v.result;
      written = v.written;
      tells = own_result;
      puts = own_written;
      acts = calls number answer ecall (mirrors.registers 17 number at) nonzero answered e r (following v.next x);
    }

  -- it stands where the bounds let it
  pub stands_kept : (result written : Option ℕ) (source : ℕ → ℕ) → Stands a v → Stands p (as_apart v (kept_before stays v.time) result written source)
  stands_kept result written source s = record {
    kinds = allowed_below (kept_before stays) up p.kinds a.kinds v.access v.time mirrors.kinds s.kinds;
    carried = may_below (kept_before stays) up p.carried a.carried (registers_of v.instruction) v.access v.time fit mirrors.carried s.carried;
    touched = λ x store cover. let l = mirrors.touched x in let t = s.touched x store cover in let r = up (a.touched x) v.time t in omega (arith, l, r);
  }
    where
      fit : AreRegisters (registers_of v.instruction)
      fit = decoded_fits image a.pc v.instruction at

  -- ---- together

  module _ (owns : ℕ → ℕ → Bool) (shared : AreShared owns h m) (of_kept : operates v ≡ true → is_private owns h v.access ≡ false → IsOfThoseKept stays m a v)
      (stand : operates v ≡ true → Stands a v) where
    -- what it does, and what that leaves
    record Does : Type 0 where
      result : Option ℕ
      written : Option ℕ
      acts : ActsApart owns image h rest left (IsPlaced h rest) p (as_apart v (kept_before stays v.time) result written (λ x. place_kept stays m x (v.source x)))
      leaves : Mirrors nobody h (kept_before stays) (place_kept stays m) (state_after owns h rest p (as_apart v (kept_before stays v.time) result written (λ x. place_kept stays m x (v.source x)))) (state_after owns h m a v)

    fits_it : AreRegisters (registers_of v.instruction)
    fits_it = decoded_fits image a.pc v.instruction at

    loads_operate : (c d : Bool) → c ≡ true → (c || d) ≡ true
    loads_operate true d e = refl
    loads_operate false d e = absurd (cc)

    stores_operate : (c d : Bool) → d ≡ true → (c || d) ≡ true
    stores_operate true d e = refl
    stores_operate false d e = e

    min_kept : (t : ℕ) → min (kept_before stays t) (later rest) ≡ kept_before stays (min t (later m))
    min_kept t = elim (cases_lt t (later m)) [
      | inl l ↦
          let e : min t (later m) ≡ t = omega (arith, l) in
          let q = ap (kept_before stays) e in
          let r = up t (later m) (omega (arith, l)) in
          let last = last_is in
          omega (arith, q, r, last)
      | inr l ↦
          let e : min t (later m) ≡ later m = omega (arith, l) in
          let q = ap (kept_before stays) e in
          let r = up (later m) t l in
          let last = last_is in
          omega (arith, q, r, last)
    ]

    behind_kept : (c : Bool) → (c ≡ true → stays_at stays v.time ≡ true) →
        min (if c then kept_before stays v.time + 1 else kept_before stays v.time) (later rest) ≡ kept_before stays (min (if c then v.time + 1 else v.time) (later m))
    behind_kept true stay =
        let next : v.time + 1 ≡ suc v.time = omega arith in
        let more = kept_more stays v.time (stay refl) in
        let one : kept_before stays (v.time + 1) ≡ kept_before stays v.time + 1 = ap (kept_before stays) next ∙ (omega (arith, more)) in
        ap (λ (t : ℕ). min t (later rest)) (sym one) ∙ min_kept (v.time + 1)
    behind_kept false stay = min_kept v.time

    -- what it stores stands behind all that is laid into memory
    stored_behind : IsPlaced h m v → stays_at stays v.time ≡ true → stores v.access ≡ true → (x : ℕ) → covers v.access x ≡ true → end_laid stays m x < behind m v
    stored_behind (inl late) stay store x cover =
        let s : behind m v ≡ min (v.time + 1) (later m) = ap (λ (c : Bool). min (if c then v.time + 1 else v.time) (later m)) store in
        let w = end_within stays m x in
        omega (arith, s, w, late, within)
    stored_behind (inr is) stay store x cover =
        let s : behind m v ≡ min (v.time + 1) (later m) = ap (λ (c : Bool). min (if c then v.time + 1 else v.time) (later m)) store in
        let b = end_before stays m separate x v.time stay
        (ap (λ (i : ℕ). in_range i (get_or m v.time no_store).bytes x) is.address ∙ ap (λ (i : ℕ). in_range (address_of v.access) i x) is.bytes ∙ cover) in
        let i = is.within in
        omega (arith, s, b, i)

    does_shared : is_private owns h v.access ≡ false → Acts image h m opening (IsPlaced h m) a v → Does
    does_shared public doing =
        let s = acts_kept (IsPlaced h m) (IsPlaced h rest) (λ result written store tells is. placed_kept result written (λ x. place_kept stays m x (v.source x)) (stay store) tells is)
        (λ result written store last. inl (ap (kept_before stays) last ∙ last_is)) reading doing in
        let u = as_apart v (kept_before stays v.time) s.result s.written (λ x. place_kept stays m x (v.source x)) in
        let after = behind_kept (stores v.access) stay in
        let m1 = moved_mirrors nobody h (kept_before stays) up (place_kept stays m) raises p a mirrors v (kept_before stays v.time) s.result s.written (λ x. place_kept stays m x (v.source x))
        (behind rest u) (behind m v) fits_it (record {
          tells = s.tells;
          puts = s.puts;
          behind = after;
          reads = λ x load cover. omega arith;
          reserves = λ x lr. omega arith;
          calls = called image h m opening (IsPlaced h m) a v doing;
        }) (λ x w.
        let q = and_parts (stores v.access) (covers v.access x) w in
        after ∙ sym (place_stays stays m x (behind m v) (stored_behind (placed image h m opening a v doing q.0) (stay q.0) q.0 x q.1))) in
        record {
          result = s.result;
          written = s.written;
          acts = shares public s.acts;
          leaves = by_test _ _ (moved h rest p u) (moved h m a v) (is_private owns h v.access) public m1;
        }
      where
        stay : stores v.access ≡ true → stays_at stays v.time ≡ true
        stay store = (of_kept (stores_operate (loads v.access) (stores v.access) store) public).stores store

        reading : loads v.access ≡ true → MayRead
        reading load =
            let is = of_kept (loads_operate (loads v.access) (stores v.access) load) public in
            record { current = is.current load; own = is.own load }

        by_test : (u w x y : RunState) (c : Bool) → c ≡ false → Mirrors nobody h (kept_before stays) (place_kept stays m) x y →
            Mirrors nobody h (kept_before stays) (place_kept stays m) (if c then u else x) (if c then w else y)
        by_test u w x y true e r = absurd (cc)
        by_test u w x y false e r = r

    -- what touches own bytes keeps no place
    private_own : (x : ℕ) (w : Bool) (o q : OwnByte) → o.atomic ≡ q.atomic → Tells q.byte o.byte → o.needs ≤ kept_before stays q.needs →
        OwnMirrors (kept_before stays) (place_kept stays m x) false (if w then option_map without_place (if w then Some o else p.own x) else p.own x) (if w then option_map without_place (if w then Some q else a.own x) else a.own x)
    private_own x true o q atomic byte needs = mirrors-both (without_place o) (without_place q) (λ e. sym (place_zero stays m x)) (λ e. atomic) byte needs
    private_own x false o q atomic byte needs = mirrors.own x

    leaves_private : is_private owns h v.access ≡ true → (result written : Option ℕ) → Tells v.result result → Tells v.written written → (v.instruction ≡ Ecall → (n : ℕ) × (view a.registers 17 ≡ Some n)) →
        Mirrors nobody h (kept_before stays) (place_kept stays m) (state_after owns h rest p (as_apart v (kept_before stays v.time) result written (λ x. place_kept stays m x (v.source x)))) (state_after owns h m a v)
    leaves_private private result written tells writes_it call =
        let u = as_apart v (kept_before stays v.time) result written (λ x. place_kept stays m x (v.source x)) in
        by_test (moved_privately h rest p u) (moved_privately h m a v) (moved h rest p u) (moved h m a v) (is_private owns h v.access) private
        (moved_with nobody h (kept_before stays) up (place_kept stays m) raises p a mirrors v (kept_before stays v.time) result written (λ x. place_kept stays m x (v.source x))
        (min (kept_before stays v.time) (later rest)) (min v.time (later m)) (moved_privately h rest p u).own (moved_privately h m a v).own fits_it (record {
          tells = tells;
          puts = writes_it;
          behind = min_kept v.time;
          reads = λ x load cover. omega arith;
          reserves = λ x lr. omega arith;
          calls = call;
        }) (λ x. private_own x (writes v.access x) _ _ refl (tells_map (λ n. byte_of n (x - address_of v.access)) v.written written writes_it)
        (operands_below (kept_before stays) up p.carried a.carried (registers_of v.instruction) fits_it mirrors.carried)))
      where
        by_test : (u w x y : RunState) (c : Bool) → c ≡ true → Mirrors nobody h (kept_before stays) (place_kept stays m) u w →
            Mirrors nobody h (kept_before stays) (place_kept stays m) (if c then u else x) (if c then w else y)
        by_test u w x y true e r = r
        by_test u w x y false e r = absurd (cc)

    no_load : (y : Access) → is_plain_store y ≡ true → loads y ≡ true → ⊥
    no_load y plain load = by_kind y plain load
      where
        by_kind : (z : Access) → is_plain_store z ≡ true → loads z ≡ true → ⊥
        by_kind (Store w q x n) plain load = cc
        by_kind _ plain load = cc

    own_address : (address : ℕ) (w : Width) → v.access ≡ Load w 0 address 0 → is_private owns h v.access ≡ true → is_own owns h address ≡ true
    own_address address w e private = sym (ap (is_private owns h) e) ∙ private

    own_tells : (address : ℕ) (w : Width) → is_own owns h address ≡ true → IsInOne address (width_bytes w) → (k : ℕ) → k < width_bytes w → Tells (own_byte opening a (address + k)) (own_byte left p (address + k))
    own_tells address w own one k l =
        let x = address + k in
        let mine : is_own owns h x ≡ true = ap (owns h) (one_doubleword address (width_bytes w) x one (within_range address (width_bytes w) k l)) ∙ own in
        let same : left x ≡ opening x = memory_untouched stays m opening x within (λ i s wet. let q = shared i x s wet in cc) in
        subst (λ (n : ℕ). Tells (own_byte opening a x) (left_by n (p.own x))) (sym same) (bytes_tell (kept_before stays) (place_kept stays m x) false (opening x) (p.own x) (a.own x) (mirrors.own x))

    does : ActsApart owns image h m opening (IsPlaced h m) a v → Does
    does (shares public doing) = does_shared public doing
    does (keeps private plain doing) =
        let s = acts_kept (λ (u : Move). Unit {0}) (λ (u : Move). Unit {0}) (λ result written store tells is. tt) (λ result written store last. tt) (λ load. absurd (no_load v.access plain load)) doing in
        record {
          result = s.result;
          written = s.written;
          acts = keeps private plain s.acts;
          leaves = leaves_private private s.result s.written s.tells s.puts (called image h m opening (λ (u : Move). Unit {0}) a v doing);
        }
    does (recalls rd address w signed private k is safe e needs r sources x) =
        let tells = own_tells address w (own_address address w e private) (readable_one image address w safe) in
        let number = numbers_tell opening left a p (width_bytes w) address tells in
        record {
          result = option_map (extended_to signed w) (own_number left p address (width_bytes w));
          written = v.written;
          acts = recalls rd address w signed private (all k) (same_all k ∙ is) safe e
              (λ i l.
              let n = needs_below (kept_before stays) (place_kept stays m (address + i)) false (p.own (address + i)) (a.own (address + i)) (mirrors.own (address + i)) in
              let r = up (needs_of (a.own (address + i))) v.time (needs i l) in
              omega (arith, n, r))
              refl (λ y. ap (place_kept stays m y) (sources y) ∙ place_zero stays m y) (following v.next x);
          leaves = leaves_private private (option_map (extended_to signed w) (own_number left p address (width_bytes w))) v.written
              (λ n q. tells_map (extended_to signed w) (own_number opening a address (width_bytes w)) (own_number left p address (width_bytes w)) number n (sym r ∙ q)) own_written
              (λ call. absurd (let q = sym is ∙ ap (λ (i : Instr). action i (filled a.registers) a.pc) call in cc));
        }

pub moves_kept : MovesAreKept
moves_kept owns image h stays m opening a p v within separate shared size ahead at of_kept doing stand =
    let mirrors = to_mirrors stays m h p a size (sized_kept stays m p a ahead) ahead in
    let d = does image h stays m opening within separate a p v mirrors at owns shared of_kept stand doing in
    let u = as_apart v (kept_before stays v.time) d.result d.written (λ x. place_kept stays m x (v.source x)) in (
      u,
      record { instruction = refl; access = refl; time = refl; source = λ x. refl },
      d.acts,
      λ op. stands_kept image h stays m opening within separate a p v mirrors at d.result d.written (λ x. place_kept stays m x (v.source x)) (stand op),
      from_mirrors stays m h (state_after owns h (kept stays m) p u) (state_after owns h m a v) d.leaves,
    )

-- ---- what a load reads

module _ (image : Memory) (h : ℕ) (m : List Stored) (opening : ℕ → ℕ) (P : Move → Type 0) (a : RunState) (v : Move) (known : v.time < later m) where
  abbrev ReadsAt : ℕ → Type 0
  ReadsAt x = (byte : ℕ) × IsRead m opening a v.time x (v.source x) byte

  from_gets : (address : ℕ) (w : Width) (o : Option ℕ) → Gets m opening a v address w o → (x : ℕ) → in_range address (width_bytes w) x ≡ true → ReadsAt x
  from_gets address w _ (gets-later late none) x e = absurd (omega (arith, late, known))
  from_gets address w _ (gets n before fits bytes) x e =
      let q = and_parts (nat_le address x) (nat_lt x (address + width_bytes w)) e in
      let l = leb-true address x q.0 in
      let i = ltb-true x (address + width_bytes w) q.1 in
      let to : address + (x - address) ≡ x = omega (arith, l) in
      (byte_of n (x - address), subst (λ (y : ℕ). IsRead m opening a v.time y (v.source y) (byte_of n (x - address))) to (bytes (x - address) (omega (arith, l, i))))

  covers_at : (y : Access) → v.access ≡ y → (x : ℕ) → covers v.access x ≡ true → covers y x ≡ true
  covers_at y e x c = sym (ap (λ (z : Access). covers z x) e) ∙ c

  pub reads_from : Acts image h m opening P a v → loads v.access ≡ true → (x : ℕ) → covers v.access x ≡ true → ReadsAt x
  reads_from (puts rd n k is e r z) load x c = absurd (let q = ap loads e in cc)
  reads_from (puts-unknown rd n k is e r z) load x c = absurd (let q = ap loads e in cc)
  reads_from (jumps rd target k is even e r z) load x c = absurd (let q = ap loads e in cc)
  reads_from (branches taken target k is even e z) load x c = absurd (let q = ap loads e in cc)
  reads_from (orders before after mode is e z) load x c = absurd (let q = ap loads e in cc)
  reads_from (reads rd address w signed number k is safe e g r z) load x c = from_gets address w number g x (covers_at (Load w 0 address 0) e x c)
  reads_from (stores_it address w k is safe e d q z) load x c = absurd (let q = ap loads e in cc)
  reads_from (reserves rd address w o number k is safe e g r z) load x c = from_gets address w number g x (covers_at (LoadReserved w o 0 address 0) e x c)
  reads_from (fails rd address w o k is safe e r z) load x c = absurd (let q = ap loads e in cc)
  reads_from (succeeds rd address w o k is safe e d held reserved q unbroken r z) load x c = absurd (let q = ap loads e in cc)
  reads_from (exchanges rd address w g o number k is safe e get r d q z) load x c = from_gets address w number get x (covers_at (Atomic w o 0 address 0 0) e x c)
  reads_from (exchanges-unknown rd address w o k none is safe e get r d z) load x c = from_gets address w None get x (covers_at (Atomic w o 0 address 0 0) e x c)
  reads_from (calls number answer ecall at nonzero answered e r z) load x c = absurd (let q = ap loads e in cc)

-- what is read at a time is from no store before one that has the byte and stands before the time
pub read_current : (m : List Stored) (opening : ℕ → ℕ) (a : RunState) (t x source byte k : ℕ) → IsRead m opening a t x source byte → k < t → has_byte (get_or m k no_store) x ≡ true → k < source
read_current m opening a t x _ _ k (forwarded o byte own late plain needs seen known) l wet = omega (arith, l, late)
read_current m opening a t x _ _ k (remembered past seen) l wet = last_least m x t k l wet

-- what a state may store behind a list, each one that is ahead may store behind those that stay
pub offers_kept : (image : Memory) (h : ℕ) (stays : List Bool) (m : List Stored) (opening : ℕ → ℕ) → length stays ≤ length m → MayBeLaid stays m → (a p : RunState) → length a.registers ≡ 32 →
    IsAhead p (state_kept stays m a) → (s : Stored) → Offers image h m opening a s → Offers image h (kept stays m) (memory_of (laid stays m) opening) p s
offers_kept image h stays m opening within separate a p size ahead s o =
    let v = o.move in
    let mirrors = to_mirrors stays m h p a size (sized_kept stays m p a ahead) ahead in
    let now = o.time in
    let end : kept_before stays v.time ≡ length (kept stays m) = ap (kept_before stays) now ∙ sym (kept_length stays m within) in
    let d = acts_kept image h stays m opening within separate a p v mirrors o.decodes (λ (u : Move). u.time ≡ length m) (λ (u : Move). u.time ≡ length (kept stays m)) (λ result written store tells e. end)
    (λ result written store late. absurd (omega (arith, late, now))) (λ load. record {
      current = λ early k x out cover wet.
          let r = reads_from image h m opening (λ (u : Move). u.time ≡ length m) a v (omega (arith, now)) o.acts load x cover in
          let l = laid_within stays k out in
          read_current m opening a v.time x (v.source x) r.0 k r.1 (omega (arith, l, within, now)) wet;
      own = λ q x cover own behind inside. absurd (omega (arith, now, behind, inside, within));
    }) o.acts in
    record {
      move = as_apart v (kept_before stays v.time) d.result d.written (λ x. place_kept stays m x (v.source x));
      decodes = ap (decoded image) ahead.pc ∙ o.decodes;
      acts = d.acts;
      stands = stands_kept image h stays m opening within separate a p v mirrors o.decodes d.result d.written (λ x. place_kept stays m x (v.source x)) o.stands;
      time = end;
      stores = o.stores;
      hart = o.hart;
      address = o.address;
      bytes = o.bytes;
      number = d.puts s.number o.number;
    }
