-- What one move leaves in a run apart mirrors what it leaves against the list of all stores.
use Rattle.std.proofs.Common.{◌≡◌, ◌≢◌, ℕ, suc, ◌+◌, ◌<◌, ◌≤◌, ◌==◌, ◌&&◌, ◌||◌, min, not, Bool, true, false, if◌then◌else◌, List, [], ◌∷◌, ◌++◌, length, get_or, slice_set, Option, Some, None, is_some, option_map, refl, sym, ap, ◌∙◌, subst, inl, inr, arith}
use Rattle.std.proofs.lemmas.Bool.{and_parts, cases_eq, cond-false, cond-true, eq-eqb, ne_eqb}
use Rattle.std.proofs.lemmas.List.{get_or-set_other, get_or-set_same}
use Rattle.pages.specs.declared.access.Width.{Width}
use Rattle.pages.specs.Memory.{Memory, width_bytes}
use Rattle.rv64_decode.specs.declared.instruction.Instr.{Instr}
use Rattle.rv64_decode.specs.declared.instruction.Instr.TheVariants.{Ecall}
use Rattle.round_schedule.specs.Accesses.{address_of, bytes_of, loads, stores, writes}
use Rattle.hart_step.specs.DecodedCode.{decoded}
use Rattle.hart_step.specs.Effect.{Action, Branch, Order, Call, action}
use Rattle.memory_order.specs.Operations.{covers}
use Rattle.memory_order.specs.Registers.{registers_of}
use Rattle.memory_order.proofs.Facts.{or_right}
use Rattle.rule_checker.specs.CarriedBounds.{AreRegisters}
use Rattle.all_endings.specs.HartRuns.{Acts, IsListed, IsPlaced, KnowsMost, Stands, acts, branches, calls, exchanges, exchanges-unknown, fails, jumps, orders, puts, puts-unknown, reads, reserves, succeeds}
use Rattle.all_endings.specs.HartRuns.{stores as stores_it}
use Rattle.all_endings.specs.Locality.{filled, set_view, view, without_data, written_register}
use Rattle.all_endings.specs.RunStates.{Move, OwnByte, RunState, answers_to, behind, moved, moved_at, operates}
use Rattle.all_endings.specs.StoreLists.{Stored, later, no_store}
use Rattle.all_endings.proofs.Moves.{writes_to}
use Rattle.all_endings.proofs.SourceRegisters.{none_known}
use Rattle.all_endings.proofs.Times.{allowed_below, may_below}
use Rattle.all_endings.proofs.Placing.{placed}
use Rattle.private_bytes.specs.Owners.{KeepsToItself, Touches, by-conditional, by-exchange, by-write, is_own, is_private}
use Rattle.private_bytes.specs.PrivateMoves.{ActsApart, moved_privately, shares, without_place}
use Rattle.private_bytes.specs.PrivateWalks.{looks_at_none}
use Rattle.private_bytes.proofs.ApartMoves.{apart_acts, cut_off, f, f_later, shared, shared_acts, up, unplaced}
use Rattle.private_bytes.proofs.KeptLists.{IsInOne, are_kept, is_shared, one_doubleword, writable_one}
use Rattle.private_bytes.proofs.Mirroring.{Mirrors, OwnMirrors, as_apart, moved_mirrors}
use Rattle.private_bytes.proofs.OwnStores.{Fits, Kept}
use Rattle.private_bytes.proofs.SharedLists.{passed_all, passing, skipping}

-- ---- what is said of a move, whatever it reads

module _ (image : Memory) (h : ℕ) (m : List Stored) (opening : ℕ → ℕ) (P : Move → Type 0) (c : RunState) (v : Move) where
  no_call : (b : Action) → v.instruction ≡ Ecall → acts c v ≡ b → b ≡ Call
  no_call b e is = sym is ∙ ap (λ (i : Instr). action i (filled c.registers) c.pc) e

  no_call_but_data : (b : Action) → v.instruction ≡ Ecall → without_data (acts c v) ≡ b → b ≡ Call
  no_call_but_data b e is = sym is ∙ ap (λ (i : Instr). without_data (action i (filled c.registers) c.pc)) e

  -- a call has a number
  pub called : Acts image h m opening P c v → v.instruction ≡ Ecall → (n : ℕ) × (view c.registers 17 ≡ Some n)
  called (puts rd n k is e r x) call = absurd (let q = no_call _ call is in cc)
  called (puts-unknown rd n k is e r x) call = absurd (let q = no_call _ call is in cc)
  called (jumps rd target k is even e r x) call = absurd (let q = no_call _ call is in cc)
  called (branches taken target k is even e x) call = absurd (let q = no_call _ call is in cc)
  called (orders before after mode is e x) call = absurd (let q = no_call _ call is in cc)
  called (reads rd address w signed number k is safe e g r x) call = absurd (let q = no_call _ call is in cc)
  called (stores_it address w k is safe e d p x) call = absurd (let q = no_call_but_data _ call is in cc)
  called (reserves rd address w o number k is safe e g r x) call = absurd (let q = no_call _ call is in cc)
  called (fails rd address w o k is safe e r x) call = absurd (let q = no_call_but_data _ call is in cc)
  called (succeeds rd address w o k is safe e d held reserved p unbroken r x) call = absurd (let q = no_call_but_data _ call is in cc)
  called (exchanges rd address w g o number k is safe e get r d p x) call = absurd (let q = no_call _ call is in cc)
  called (exchanges-unknown rd address w o k none is safe e get r d x) call = absurd (let q = no_call_but_data _ call is in cc)
  called (calls number answer ecall at nonzero answered e r x) call = (number, at)

  -- a store touches its bytes, which lie in one doubleword
  pub record StoreTouches : Type 0 where
    pub plain : Bool
    pub knows : KnowsMost c v
    pub touches : Touches image (without_data (acts c v)) plain (address_of v.access)
    pub one : IsInOne (address_of v.access) (bytes_of v.access)

  store_touches : (plain : Bool) (address : ℕ) (w : Width) (b : Action) → KnowsMost c v → without_data (acts c v) ≡ b → address_of v.access ≡ address → bytes_of v.access ≡ width_bytes w →
      IsInOne address (width_bytes w) → Touches image b plain address → StoreTouches
  store_touches plain address w b k is starts many one t = record {
    plain = plain;
    knows = k;
    touches = subst (λ (y : Action). Touches image y plain (address_of v.access)) (sym is) (subst (Touches image b plain) (sym starts) t);
    one = subst (λ (y : ℕ). IsInOne y (bytes_of v.access)) (sym starts) (subst (IsInOne address) (sym many) one);
  }

  pub stored_touches : Acts image h m opening P c v → stores v.access ≡ true → StoreTouches
  stored_touches (puts rd n k is e r x) s = absurd (let q = ap stores e in cc)
  stored_touches (puts-unknown rd n k is e r x) s = absurd (let q = ap stores e in cc)
  stored_touches (jumps rd target k is even e r x) s = absurd (let q = ap stores e in cc)
  stored_touches (branches taken target k is even e x) s = absurd (let q = ap stores e in cc)
  stored_touches (orders before after mode is e x) s = absurd (let q = ap stores e in cc)
  stored_touches (reads rd address w signed number k is safe e g r x) s = absurd (let q = ap stores e in cc)
  stored_touches (reserves rd address w o number k is safe e g r x) s = absurd (let q = ap stores e in cc)
  stored_touches (fails rd address w o k is safe e r x) s = absurd (let q = ap stores e in cc)
  stored_touches (calls number answer ecall at nonzero answered e r x) s = absurd (let q = ap stores e in cc)
  stored_touches (stores_it address w k is safe e d p x) s =
      store_touches true address w _ k is (ap address_of e) (ap bytes_of e) (writable_one image address w safe) (by-write address 0 w safe)
  stored_touches (succeeds rd address w o k is safe e d held reserved p unbroken r x) s =
      store_touches false address w _ k is (ap address_of e) (ap bytes_of e) (writable_one image address w safe) (by-conditional rd address 0 w o safe)
  stored_touches (exchanges rd address w g o number k is safe e get r d p x) s =
      store_touches false address w _ k.but_data (ap without_data is) (ap address_of e) (ap bytes_of e) (writable_one image address w safe) (by-exchange rd address w (λ old. 0) o safe)
  stored_touches (exchanges-unknown rd address w o k none is safe e get r d x) s =
      store_touches false address w _ k is (ap address_of e) (ap bytes_of e) (writable_one image address w safe) (by-exchange rd address w (λ old. 0) o safe)

  -- what an instruction that looks at no register and no memory puts into one is known
  operating : (loading storing : Bool) → (loading || storing) ≡ true → loads v.access ≡ loading → stores v.access ≡ storing → not (operates v) ≡ true → ⊥
  operating loading storing e l s n =
      let q : operates v ≡ (loading || storing) = ap (λ (b : Bool). b || stores v.access) l ∙ ap (λ (b : Bool). loading || b) s in
      let r : not (operates v) ≡ false = ap not (q ∙ e) in
      cc

  some : (n : ℕ) (o : Option ℕ) → o ≡ Some n → is_some o ≡ true
  some n o e = ap (λ (y : Option ℕ). is_some y) e

  writes_none : (b : Action) → acts c v ≡ b → (b ≢ Call) → written_register b ≡ 0 → answers_to v.instruction ≡ 17 → ⊥
  writes_none b is other none e =
      let w = writes_to v.instruction (filled c.registers) c.pc b is other in
      omega (arith, w, none, e)

  pub constant_known : Acts image h m opening P c v → answers_to v.instruction ≡ 17 → looks_at_none (registers_of v.instruction) ≡ true → not (operates v) ≡ true → is_some v.result ≡ true
  constant_known (puts rd n k is e r x) to none idle = some n v.result r
  constant_known (puts-unknown rd n k is e r x) to none idle = absurd (k (none_known c.registers (registers_of v.instruction) none))
  constant_known (jumps rd target k is even e r x) to none idle = some _ v.result r
  constant_known (branches taken target k is even e x) to none idle = absurd (writes_none (Branch taken target) is (λ q. cc) refl to)
  constant_known (orders before after mode is e x) to none idle = absurd (writes_none (Order before after mode) is (λ q. cc) refl to)
  constant_known (reads rd address w signed number k is safe e g r x) to none idle = absurd (operating true false refl (ap loads e) (ap stores e) idle)
  constant_known (stores_it address w k is safe e d p x) to none idle = absurd (operating false true refl (ap loads e) (ap stores e) idle)
  constant_known (reserves rd address w o number k is safe e g r x) to none idle = absurd (operating true false refl (ap loads e) (ap stores e) idle)
  constant_known (fails rd address w o k is safe e r x) to none idle = some 1 v.result r
  constant_known (succeeds rd address w o k is safe e d held reserved p unbroken r x) to none idle = some 0 v.result r
  constant_known (exchanges rd address w g o number k is safe e get r d p x) to none idle = absurd (operating true true refl (ap loads e) (ap stores e) idle)
  constant_known (exchanges-unknown rd address w o k none is safe e get r d x) to look idle = absurd (operating true true refl (ap loads e) (ap stores e) idle)
  constant_known (calls number answer ecall at nonzero answered e r x) to none idle = some answer v.result r

-- ---- a register that was set

pub view_same : (v : List (Option ℕ)) (r : ℕ) (o : Option ℕ) → r ≢ 0 → r < length v → view (set_view v r o) r ≡ o
view_same v r o nonzero l =
    let z = ne_eqb r 0 nonzero in
    cond-false (r == 0) (Some 0) (get_or (set_view v r o) r None) z
    ∙ ap (λ (ys : List (Option ℕ)). get_or ys r None) (cond-false (r == 0) v (slice_set v r o) z)
    ∙ get_or-set_same v r o None l

pub view_other : (v : List (Option ℕ)) (d r : ℕ) (o : Option ℕ) → r ≢ d → view (set_view v d o) r ≡ view v r
view_other v d r o other = elim (cases_eq d 0) [
  | inl z ↦ ap (λ (ys : List (Option ℕ)). view ys r) (cond-true (d == 0) v (slice_set v d o) (eq-eqb d 0 z))
  | inr z ↦
      ap (λ (ys : List (Option ℕ)). view ys r) (cond-false (d == 0) v (slice_set v d o) (ne_eqb d 0 z))
      ∙ ap (λ n. if r == 0 then Some 0 else n) (get_or-set_other v d r o None other)
]

-- ---- one move

module _ (owns : ℕ → ℕ → Bool) (image : Memory) (harts h : ℕ) (m : List Stored) (opening : ℕ → ℕ) (kept : are_kept owns harts m ≡ true) (inside : h < harts)
    (a c : RunState) (v : Move) (vs : List Move) (mirrors : Mirrors owns h (f owns image harts h m opening kept inside) (λ x. f owns image harts h m opening kept inside) a c) (keeps_own : (x : ℕ) → Kept image h m opening x vs c)
    (apart : KeepsToItself owns image harts h a) (at : decoded image c.pc ≡ Some v.instruction) (fit : AreRegisters (registers_of v.instruction)) where
  abbrev t : ℕ → ℕ
  t = f owns image harts h m opening kept inside

  abbrev n : List Stored
  n = shared owns image harts h m opening kept inside

  rises : (p q : ℕ) → p ≤ q → t p ≤ t q
  rises = up owns image harts h m opening kept inside

  cut : (p : ℕ) → min (t p) (later n) ≡ t (min p (later m))
  cut = cut_off owns image harts h m opening kept inside

  end_is : t (later m) ≡ later n
  end_is = f_later owns image harts h m opening kept inside

  -- it stands where the bounds let it
  pub stands_apart : (result written : Option ℕ) (source : ℕ → ℕ) → Stands c v → Stands a (as_apart v (t v.time) result written source)
  stands_apart result written source s = record {
    kinds = allowed_below t rises a.kinds c.kinds v.access v.time mirrors.kinds s.kinds;
    carried = may_below t rises a.carried c.carried (registers_of v.instruction) v.access v.time fit mirrors.carried s.carried;
    touched = λ x store cover. let l = mirrors.touched x in let k = rises (c.touched x) v.time (s.touched x store cover) in omega (arith, l, k);
  }

  own_address : (b : Bool) → b ≡ true → (b && is_own owns h (address_of v.access)) ≡ is_own owns h (address_of v.access)
  own_address true e = refl
  own_address false e = absurd (cc)

  -- a store of the list is in the shorter one, if it is to nobody's own bytes
  listed_shared : (b : Bool) → is_own owns h (address_of v.access) ≡ b → IsListed h m v → is_shared owns (get_or m v.time no_store) ≡ not b
  listed_shared b e is = ap (λ (j : ℕ). not (is_own owns j (get_or m v.time no_store).address)) is.hart ∙ ap (λ (j : ℕ). not (is_own owns h j)) is.address ∙ ap not e

  pub private_is : stores v.access ≡ true → is_private owns h v.access ≡ is_own owns h (address_of v.access)
  private_is store = own_address (loads v.access || stores v.access) (or_right (loads v.access) (stores v.access) store)

  -- and has its place there
  pub placed_apart : (result written : Option ℕ) → is_private owns h v.access ≡ false → stores v.access ≡ true → ((k : ℕ) → v.written ≡ Some k → written ≡ Some k) → IsPlaced h m v →
      IsPlaced h n (as_apart v (t v.time) result written (λ x. t (v.source x)))
  placed_apart result written public store tells (inl late) = inl (ap t late ∙ end_is)
  placed_apart result written public store tells (inr is) =
      let p = passing (is_shared owns) m v.time is.within (listed_shared false (sym (private_is store) ∙ public) is) in
      inr (record {
        within = p.2;
        hart = ap (λ (s : Stored). s.hart) p.1 ∙ is.hart;
        address = ap (λ (s : Stored). s.address) p.1 ∙ is.address;
        bytes = ap (λ (s : Stored). s.bytes) p.1 ∙ is.bytes;
        number = tells _ is.number ∙ ap (λ (s : Stored). Some s.number) (sym p.1);
      })

  late_apart : (result written : Option ℕ) → v.time ≡ later m → IsPlaced h n (as_apart v (t v.time) result written (λ x. t (v.source x)))
  late_apart result written late = inl (ap t late ∙ end_is)

  -- the time behind it
  one_more : is_private owns h v.access ≡ false → stores v.access ≡ true → IsPlaced h m v → t (v.time + 1) ≡ t v.time + 1
  one_more public store (inl late) =
      let two : v.time + 1 ≡ length m + 2 = omega (arith, late) in
      let p = passed_all (is_shared owns) m 2 in
      let q = ap t two in
      let r = ap t late in
      let e = end_is in
      omega (arith, p, q, r, e)
  one_more public store (inr is) =
      let p = (passing (is_shared owns) m v.time is.within (listed_shared false (sym (private_is store) ∙ public) is)).0 in
      let e : v.time + 1 ≡ suc v.time = omega arith in
      let q = ap t e in
      omega (arith, p, q)

  not_one_more : is_private owns h v.access ≡ true → stores v.access ≡ true → IsPlaced h m v → min (t v.time) (later n) ≡ t (min (v.time + 1) (later m))
  not_one_more private store (inl late) =
      let e : min (v.time + 1) (later m) ≡ later m = omega (arith, late) in
      let q = ap t e in
      let r = ap t late in
      let z = end_is in
      omega (arith, q, r, z)
  not_one_more private store (inr is) =
      let p = skipping (is_shared owns) m v.time is.within (listed_shared true (sym (private_is store) ∙ private) is) in
      let e : v.time + 1 ≡ suc v.time = omega arith in
      ap (λ (k : ℕ). min k (later n)) (sym (ap t e ∙ p)) ∙ cut (v.time + 1)

  pub behind_shared : (result written : Option ℕ) (source : ℕ → ℕ) → is_private owns h v.access ≡ false → (stores v.access ≡ true → IsPlaced h m v) →
      behind n (as_apart v (t v.time) result written source) ≡ t (behind m v)
  behind_shared result written source public place = by_test (stores v.access) refl
    where
      by_test : (b : Bool) → stores v.access ≡ b → min (if b then t v.time + 1 else t v.time) (later n) ≡ t (min (if b then v.time + 1 else v.time) (later m))
      by_test false e = cut v.time
      by_test true e = ap (λ (k : ℕ). min k (later n)) (sym (one_more public e (place e))) ∙ cut (v.time + 1)

  pub behind_private : is_private owns h v.access ≡ true → (stores v.access ≡ true → IsPlaced h m v) → min (t v.time) (later n) ≡ t (behind m v)
  behind_private private place = by_test (stores v.access) refl
    where
      by_test : (b : Bool) → stores v.access ≡ b → min (t v.time) (later n) ≡ t (min (if b then v.time + 1 else v.time) (later m))
      by_test false e = cut v.time
      by_test true e = not_one_more private e (place e)

  -- ---- together

  module _ (doing : Acts image h m opening (IsPlaced h m) c v) where
    place : stores v.access ≡ true → IsPlaced h m v
    place = placed image h m opening c v doing

    -- what the run apart does, and what it leaves
    pub record Did (private : Bool) : Type 0 where
      pub result : Option ℕ
      pub written : Option ℕ
      pub source : ℕ → ℕ
      pub acts : ActsApart owns image h n opening (IsPlaced h n) a (as_apart v (t v.time) result written source)
      pub leaves : Mirrors owns h t (λ x. t) (if private then moved_privately h n a (as_apart v (t v.time) result written source) else moved h n a (as_apart v (t v.time) result written source))
          (moved h m c v)

    pub did_shared : is_private owns h v.access ≡ false → Did false
    did_shared public =
        let s = shared_acts owns image harts h m opening kept inside a c v vs mirrors keeps_own apart at (IsPlaced h m) (IsPlaced h n)
        (λ result written public store tells at. placed_apart result written public store tells at) late_apart public doing in
        record {
          result = s.result;
          written = s.written;
          source = λ x. t (v.source x);
          acts = shares public s.acts;
          leaves = moved_mirrors owns h t rises (λ x. t) (λ x. rises) a c mirrors v (t v.time) s.result s.written (λ x. t (v.source x)) _ _ fit (record {
            tells = s.tells;
            puts = s.puts;
            behind = behind_shared s.result s.written (λ x. t (v.source x)) public place;
            reads = λ x load cover. omega arith;
            reserves = λ x lr. omega arith;
            calls = called image h m opening (IsPlaced h m) c v doing;
          }) (λ x w. behind_shared s.result s.written (λ y. t (v.source y)) public place);
        }

    own_byte_is : is_private owns h v.access ≡ true → IsInOne (address_of v.access) (bytes_of v.access) → (x : ℕ) → writes v.access x ≡ true → is_own owns h x ≡ true
    own_byte_is private one x w =
        ap (owns h) (one_doubleword (address_of v.access) (bytes_of v.access) x one (and_parts (stores v.access) (covers v.access x) w).1)
        ∙ (and_parts (loads v.access || stores v.access) (is_own owns h (address_of v.access)) private).1

    not_written : (x : ℕ) (w : Bool) → w ≡ false → (o : Option OwnByte) → (if w then o else a.own x) ≡ a.own x
    not_written x true e o = absurd (cc)
    not_written x false e o = refl

    -- without places of own bytes it mirrors as well
    unplaced_all : is_private owns h v.access ≡ true → IsInOne (address_of v.access) (bytes_of v.access) → (b : RunState) → ((x : ℕ) → writes v.access x ≡ false → b.own x ≡ a.own x) →
        Mirrors owns h t (λ x. t) b (moved h m c v) →
        Mirrors owns h t (λ x. t) (record b { own = λ x. if writes v.access x then option_map without_place (b.own x) else a.own x }) (moved h m c v)
    unplaced_all private one b same mirror = record {
      pc = mirror.pc;
      registers = mirror.registers;
      small = mirror.small;
      size = mirror.size;
      kinds = mirror.kinds;
      carried = mirror.carried;
      touched = mirror.touched;
      seen = mirror.seen;
      own = λ x. own_at x (writes v.access x) refl;
      held = mirror.held;
      reserved = mirror.reserved;
      sources = mirror.sources;
      output = mirror.output;
    }
      where
        own_at : (x : ℕ) (w : Bool) → writes v.access x ≡ w → OwnMirrors t t (is_own owns h x) (if w then option_map without_place (b.own x) else a.own x) ((moved h m c v).own x)
        own_at x true e =
            let mine = own_byte_is private one x e in
            subst (λ (q : Bool). OwnMirrors t t q (option_map without_place (b.own x)) ((moved h m c v).own x)) (sym mine)
            (unplaced t t (b.own x) ((moved h m c v).own x) (subst (λ (q : Bool). OwnMirrors t t q (b.own x) ((moved h m c v).own x)) mine (mirror.own x)))
        own_at x false e = subst (λ (o : Option OwnByte). OwnMirrors t t (is_own owns h x) o ((moved h m c v).own x)) (same x e) (mirror.own x)

    pub did_private : is_private owns h v.access ≡ true → ((x : ℕ) → Fits image h m opening x (vs ++ v ∷ []) (moved h m c v)) → Did true
    did_private private fits_on =
        let s = apart_acts owns image harts h m opening kept inside a c v vs mirrors keeps_own apart at private fits_on doing in
        let after = moved_mirrors owns h t rises (λ x. t) (λ x. rises) a c mirrors v (t v.time) s.result s.written s.source _ _ fit (record {
          tells = s.tells;
          puts = s.puts;
          behind = behind_private private place;
          reads = λ x load cover. let z = s.none x in omega (arith, z);
          reserves = λ x lr. absurd (let p = s.plain in cc);
          calls = called image h m opening (IsPlaced h m) c v doing;
        }) (λ x w. behind_private private place) in
        record {
          result = s.result;
          written = s.written;
          source = s.source;
          acts = s.acts;
          leaves = unplaced_all private s.one (moved_at h (min (t v.time) (later n)) a (as_apart v (t v.time) s.result s.written s.source)) (λ x e. not_written x (writes v.access x) e _) after;
        }
