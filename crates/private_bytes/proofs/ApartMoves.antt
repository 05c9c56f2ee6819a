-- What a run does next against the list of all stores, a run apart does that mirrors it.
use Rattle.std.proofs.Common.{◌≡◌, ℕ, zero, suc, ◌+◌, ◌*◌, ◌^◌, ◌<◌, ◌≤◌, ◌&&◌, ◌||◌, ◌⊎◌, min, Bool, true, false, if◌then◌else◌, List, [], ◌∷◌, ◌++◌, length, get_or, Option, Some, None, is_some, option_map, refl, sym, ap, ◌∙◌, subst, inl, inr, arith}
use Rattle.std.proofs.lemmas.Bool.{and_parts, cases_lt}
use Rattle.pages.specs.declared.access.Width.{Width}
use Rattle.pages.specs.declared.access.Width.TheVariants.{W1, W2, W4, W8}
use Rattle.pages.specs.Memory.{Memory, byte_of, in_range, width_bytes}
use Rattle.rv64_decode.specs.declared.ordering.AcquireRelease.{AcquireRelease}
use Rattle.round_schedule.specs.declared.access.Access.{Access}
use Rattle.round_schedule.specs.declared.access.Access.TheVariants.{Load, Store, LoadReserved, Atomic}
use Rattle.round_schedule.specs.declared.span.Span.{Span}
use Rattle.round_schedule.specs.Accesses.{address_of, bytes_of, is_lr, loads, stores}
use Rattle.hart_step.specs.DecodedCode.{decoded}
use Rattle.hart_step.specs.Effect.{Action, Put, Read, Reserve, Exchange, action}
use Rattle.hart_step.specs.Numbers.{plus}
use Rattle.hart_step.specs.Step.{cut, extended_to, width_bits}
use Rattle.memory_order.specs.declared.registers.Registers.{Registers}
use Rattle.memory_order.specs.Operations.{covers, is_plain_store}
use Rattle.memory_order.specs.Registers.{registers_of}
use Rattle.all_endings.specs.HartRuns.{Acts, Gets, IsPast, IsPlaced, IsRead, IsUnbroken, KnowsAll, KnowsMost, acts, branches, calls, data_of, exchanges, exchanges-unknown, fails, forwarded, gets, gets-later, jumps, orders, puts, puts-unknown, reads, remembered, reserves, succeeds}
use Rattle.all_endings.specs.HartRuns.{stores as stores_it}
use Rattle.all_endings.specs.Locality.{Knows, Refines, filled, view, without_data}
use Rattle.all_endings.specs.Lowering.{is_held}
use Rattle.all_endings.specs.RunStates.{Move, OwnByte, RunState, moved}
use Rattle.all_endings.specs.StoreLists.{Stored, byte_at, has_byte, last_place, later, no_store}
use Rattle.all_endings.proofs.Locality.{filled_acts, filled_refines, not_both, some_value}
use Rattle.all_endings.proofs.PlainMoves.{is_put, put_of, puts_alike}
use Rattle.all_endings.proofs.SourceRegisters.{fits, none_known, registers_fit, some_or_none}
use Rattle.all_endings.proofs.StepTimes.{within_range}
use Rattle.all_endings.proofs.Times.{Rises}
use Rattle.private_bytes.specs.Ahead.{Tells}
use Rattle.private_bytes.specs.Owners.{KeepsToItself, Touches, by-conditional, by-exchange, by-read, by-reserve, is_own, is_private}
use Rattle.private_bytes.specs.PrivateMoves.{ActsApart, joined, keeps, left_by, needs_of, own_byte, own_number, recalls, without_place}
use Rattle.private_bytes.proofs.KeptLists.{IsInOne, are_kept, concerns, is_shared, alone, one_doubleword, readable_one, writable_one}
use Rattle.private_bytes.proofs.Mirroring.{Mirrors, OwnMirrors, as_apart, mirrors-both, mirrors-none, tells_map, tells_none, tells_same}
use Rattle.private_bytes.proofs.OwnStores.{Fits, Kept, own_late, own_needs, own_place, own_read}
use Rattle.private_bytes.proofs.SharedLists.{byte_passed, found, last_passed, passed, passed_all, passed_rises, passed_none, passing, those}

-- ---- what is known

pub knows_or_not : (x : Registers) (v : List (Option ℕ)) → Knows x v ⊎ (Knows x v → ⊥)
knows_or_not x v = elim (some_or_none (view v x.address)) [
  | inr none ↦ inr (λ k. unknown (view v x.address) none k.but_data.address)
  | inl address ↦ elim (some_or_none (view v x.value)) [
    | inr none ↦ inr (λ k. unknown (view v x.value) none k.value)
    | inl value ↦ elim (some_or_none (view v x.first)) [
      | inr none ↦ inr (λ k. unknown (view v x.first) none k.but_data.first)
      | inl first ↦ elim (some_or_none (view v x.second)) [
        | inr none ↦ inr (λ k. unknown (view v x.second) none k.but_data.second)
        | inl second ↦ inl (record { but_data = record { address = address; first = first; second = second }; value = value })
      ]
    ]
  ]
]
  where
    unknown : (o : Option ℕ) → o ≡ None → is_some o ≡ true → ⊥
    unknown o none some = let q : is_some o ≡ false = ap (λ (p : Option ℕ). is_some p) none in cc

pub exchange_of : (b : Action) (rd address : ℕ) (w : Width) (o : AcquireRelease) → without_data b ≡ Exchange rd address w (λ old. 0) o → (g : ℕ → ℕ) × (b ≡ Exchange rd address w g o)
exchange_of (Exchange rd2 address2 w2 g o2) rd address w o e =
    let a : rd2 ≡ rd = cc in
    let b : address2 ≡ address = cc in
    let c : w2 ≡ w = cc in
    let d : o2 ≡ o = cc in
    (g, cc)
exchange_of _ rd address w o e = absurd (cc)

-- ---- the number in own bytes

abbrev total : (ℕ → ℕ) → ℕ → ℕ
total b zero = 0
total b (suc n) = b 0 + 2 ^ 8 * total (λ k. b (k + 1)) n

own_bytes : (opening : ℕ → ℕ) (a : RunState) (n address : ℕ) (b : ℕ → ℕ) → ((k : ℕ) → k < n → own_byte opening a (address + k) ≡ Some (b k)) → own_number opening a address n ≡ Some (total b n)
own_bytes opening a zero address b each = refl
own_bytes opening a (suc n) address b each =
    let z : address ≡ address + 0 = omega arith in
    let first : own_byte opening a address ≡ Some (b 0) = ap (own_byte opening a) z ∙ each 0 (omega arith) in
    ap (λ (o : Option ℕ). joined o (own_number opening a (address + 1) n)) first
    ∙ ap (joined (Some (b 0))) (own_bytes opening a n (address + 1) (λ k. b (k + 1))
    (λ k l. let s : address + 1 + k ≡ address + (k + 1) = omega arith in ap (own_byte opening a) s ∙ each (k + 1) (omega (arith, l))))

total_is : (w : Width) (n : ℕ) → n < 2 ^ width_bits w → total (byte_of n) (width_bytes w) ≡ n
total_is W1 n l = omega (arith, l)
total_is W2 n l = omega (arith, l)
total_is W4 n l = omega (arith, l)
total_is W8 n l = omega (arith, l)

-- ---- own stores

pub own_both : (f g : ℕ → ℕ) (b : Bool) (p q : Option OwnByte) (o : OwnByte) → OwnMirrors f g b p q → q ≡ Some o →
    (u : OwnByte) × (p ≡ Some u) × (b ≡ false → u.place ≡ g o.place) × (b ≡ false → u.atomic ≡ o.atomic) × Tells o.byte u.byte × (u.needs ≤ f o.needs)
own_both f g b _ _ o mirrors-none e = absurd (cc)
own_both f g b _ _ o (mirrors-both u p place atomic byte needs) e =
    let s : p ≡ o = cc in (
      u,
      refl,
      λ z. place z ∙ ap (λ (y : OwnByte). g y.place) s,
      λ z. atomic z ∙ ap (λ (y : OwnByte). y.atomic) s,
      λ n is. byte n (ap (λ (y : OwnByte). y.byte) s ∙ is),
      (let l = needs in let n = ap (λ (y : OwnByte). f y.needs) s in omega (arith, l, n)),
    )

pub bytes_tell : (f g : ℕ → ℕ) (b : Bool) (opening : ℕ) (p q : Option OwnByte) → OwnMirrors f g b p q → Tells (left_by opening q) (left_by opening p)
bytes_tell f g b opening _ _ mirrors-none = λ n is. is
bytes_tell f g b opening _ _ (mirrors-both u p place atomic byte needs) = byte

pub needs_below : (f g : ℕ → ℕ) (b : Bool) (p q : Option OwnByte) → OwnMirrors f g b p q → needs_of p ≤ f (needs_of q)
needs_below f g b _ _ mirrors-none = omega arith
needs_below f g b _ _ (mirrors-both u p place atomic byte needs) = needs

pub past_below : (f g : ℕ → ℕ) → Rises f → ((n : ℕ) → g n ≤ f n) → (p q : Option OwnByte) (t : ℕ) → OwnMirrors f g false p q → IsPast q t → IsPast p (f t)
past_below f g up lower _ _ t mirrors-none past = past
past_below f g up lower _ _ t (mirrors-both u p place atomic byte needs) past = let e = place refl in let l = up p.place t past in let g = lower p.place in omega (arith, e, l, g)

pub unplaced : (f g : ℕ → ℕ) (p q : Option OwnByte) → OwnMirrors f g true p q → OwnMirrors f g true (option_map without_place p) q
unplaced f g _ _ mirrors-none = mirrors-none
unplaced f g _ _ (mirrors-both u p place atomic byte needs) = mirrors-both (without_place u) p (λ e. absurd (cc)) atomic byte needs

-- ---- one move

module _ (owns : ℕ → ℕ → Bool) (image : Memory) (harts h : ℕ) (m : List Stored) (opening : ℕ → ℕ) (kept : are_kept owns harts m ≡ true) (inside : h < harts) where
  -- a time in numbers of shared stores, and the list of these
  abbrev pub f : ℕ → ℕ
  f = passed (is_shared owns) m

  abbrev pub shared : List Stored
  shared = those (is_shared owns) m

  pub up : Rises f
  up = passed_rises (is_shared owns) m

  pub f_later : f (later m) ≡ later shared
  f_later = passed_all (is_shared owns) m 1

  pub f_all : f (length m) ≡ length shared
  f_all =
      let p = passed_all (is_shared owns) m 0 in
      let e : length m ≡ length m + 0 = omega arith in
      ap f e ∙ omega (arith, p)

  pub early : (t : ℕ) → t ≤ length m → f t ≤ length shared
  early t l = let u = up t (length m) l in let e = f_all in omega (arith, u, e)

  early_back : (t : ℕ) → f t ≤ length shared → t ≤ length m
  early_back t l = elim (cases_lt (length m) t) [
    | inl late ↦ absurd (let u = up (later m) t (omega (arith, late)) in let e = f_later in omega (arith, u, e, l))
    | inr in_time ↦ in_time
  ]

  pub cut_off : (t : ℕ) → min (f t) (later shared) ≡ f (min t (later m))
  cut_off t = elim (cases_lt t (later m)) [
    | inl l ↦
        let e : min t (later m) ≡ t = omega (arith, l) in
        let u = up t (later m) (omega (arith, l)) in
        let z = f_later in
        let q = ap f e in
        omega (arith, u, z, q)
    | inr l ↦
        let e : min t (later m) ≡ later m = omega (arith, l) in
        let u = up (later m) t l in
        let z = f_later in
        let q = ap f e in
        omega (arith, u, z, q)
  ]

  -- nobody's own byte
  abbrev pub Nobodys : ℕ → Type 0
  Nobodys x = (j : ℕ) → j < harts → is_own owns j x ≡ false

  nobodys : (address : ℕ) (w : Width) → IsInOne address (width_bytes w) → Nobodys address → (x : ℕ) → in_range address (width_bytes w) x ≡ true → Nobodys x
  nobodys address w one none x within j l = ap (owns j) (one_doubleword address (width_bytes w) x one within) ∙ none j l

  module _ (a c : RunState) (v : Move) (vs : List Move) (mirrors : Mirrors owns h f (λ x. f) a c) (keeps_own : (x : ℕ) → Kept image h m opening x vs c)
      (apart : KeepsToItself owns image harts h a) (at : decoded image c.pc ≡ Some v.instruction) where
    refines : Refines c.registers (filled a.registers)
    refines r n e = filled_refines a.registers r n (mirrors.registers r n e)

    known : (r : ℕ) → is_some (view c.registers r) ≡ true → is_some (view a.registers r) ≡ true
    known r e = by_view (view c.registers r) refl e
      where
        by_view : (o : Option ℕ) → view c.registers r ≡ o → is_some o ≡ true → is_some (view a.registers r) ≡ true
        by_view None is s = absurd (cc)
        by_view (Some n) is s = ap (λ (o : Option ℕ). is_some o) (mirrors.registers r n is)

    pub most : KnowsMost c v → KnowsMost a v
    most k = record { address = known _ k.address; first = known _ k.first; second = known _ k.second }

    all : KnowsAll c v → KnowsAll a v
    all k = record { but_data = most k.but_data; value = known _ k.value }

    same_pc : action v.instruction (filled a.registers) a.pc ≡ action v.instruction (filled a.registers) c.pc
    same_pc = ap (action v.instruction (filled a.registers)) mirrors.pc

    same_all : KnowsAll c v → acts a v ≡ acts c v
    same_all k = same_pc ∙ sym ((filled_acts v.instruction c.registers (filled a.registers) c.pc refines).0 k)

    pub same_most : KnowsMost c v → without_data (acts a v) ≡ without_data (acts c v)
    same_most k = ap without_data same_pc ∙ sym ((filled_acts v.instruction c.registers (filled a.registers) c.pc refines).1 k)

    following : (n : ℕ) → n ≡ plus c.pc 4 → n ≡ plus a.pc 4
    following n e = e ∙ ap (λ (p : ℕ). plus p 4) (sym mirrors.pc)

    data_tells : Tells (data_of c v) (data_of a v)
    data_tells = mirrors.registers (registers_of v.instruction).value

    -- where it touches, nobody's own byte is touched, unless it is a plain access to the hart's own
    touched : (plain : Bool) (address : ℕ) → KnowsMost a v → Touches image (without_data (acts a v)) plain address → (is_own owns h address ≡ true → plain ≡ true → ⊥) → Nobodys address
    touched plain address k t never j l = by_test (is_own owns j address) refl
      where
        by_test : (b : Bool) → is_own owns j address ≡ b → is_own owns j address ≡ false
        by_test false e = e
        by_test true e =
            let p = apart v.instruction plain address j (ap (decoded image) mirrors.pc ∙ at) k t l e in
            absurd (never (ap (λ (i : ℕ). is_own owns i address) (sym p.0) ∙ e) p.1)

    -- a byte of nobody's own
    read_apart : (t x source byte : ℕ) → t ≤ length m → Nobodys x → IsRead m opening c t x source byte → IsRead shared opening a (f t) x (f source) byte
    read_apart t x _ _ l none (forwarded o byte own late plain needs seen is) =
        let u = own_both f f (is_own owns h x) (a.own x) (c.own x) o (mirrors.own x) own in
        let place = u.2 (none h inside) in
        let n = u.5 in
        let un = up o.needs t needs in
        let us = up (c.seen x) o.place seen in
        let s = mirrors.seen x in
        subst (λ (q : ℕ). IsRead shared opening a (f t) x q byte) place
        (forwarded u.0 byte u.1 (let b = before in omega (arith, place, b)) (u.3 (none h inside) ∙ plain) (omega (arith, n, un)) (omega (arith, place, us, s)) (u.4 byte is))
      where
        before : f t < f o.place
        before = elim (own_place image h m opening x vs c (keeps_own x) o own) [
          | inl lately ↦ let e = early t l in let z = f_later in let q = ap f lately in omega (arith, e, z, q)
          | inr there ↦
              let p = passing (is_shared owns) m there.0 there.1 (concerns owns harts m x kept none there.0 there.1 there.2) in
              let q = ap f there.3 in
              let s = p.0 in
              let place = there.3 in
              let r = up t there.0 (omega (arith, place, late)) in
              omega (arith, q, s, r)
        ]
    read_apart t x _ _ l none (remembered past seen) =
        let c0 = concerns owns harts m x kept none in
        let place = last_passed (is_shared owns) m x c0 t l in
        let byte = byte_passed (is_shared owns) m opening x c0 t l in
        let us = up (c.seen x) (last_place m x t) seen in
        let s = mirrors.seen x in
        let mirror : OwnMirrors f f false (a.own x) (c.own x) = subst (λ (b : Bool). OwnMirrors f f b (a.own x) (c.own x)) (none h inside) (mirrors.own x) in
        subst (λ (n : ℕ). IsRead shared opening a (f t) x (f (last_place m x t)) n) (ap (byte_at shared opening x) place ∙ byte)
        (subst (λ (q : ℕ). IsRead shared opening a (f t) x q (byte_at shared opening x (last_place shared x (f t)))) place
        (remembered (past_below f f up (λ n. omega arith) (a.own x) (c.own x) t mirror past) (omega (arith, place, us, s))))

    gets_apart : (result written : Option ℕ) (address : ℕ) (w : Width) (o : Option ℕ) → IsInOne address (width_bytes w) → Nobodys address → Gets m opening c v address w o →
        Gets shared opening a (as_apart v (f v.time) result written (λ x. f (v.source x))) address w o
    gets_apart result written address w _ one none (gets n before fits bytes) =
        let e = early v.time (omega (arith, before)) in
        gets n (omega (arith, e)) fits (λ k l. read_apart v.time (address + k) _ _ (omega (arith, before)) (nobodys address w one none (address + k) (within_range address (width_bytes w) k l)) (bytes k l))
    gets_apart result written address w _ one none (gets-later late sources) =
        gets-later (ap f late ∙ f_later) (λ x. ap f (sources x) ∙ passed_none (is_shared owns) m)

    unbroken_apart : (result written : Option ℕ) (address : ℕ) (w : Width) → IsInOne address (width_bytes w) → address_of v.access ≡ address → bytes_of v.access ≡ width_bytes w → c.held ≡ Some (record { address = address; width = w }) → IsUnbroken h m c v →
        IsUnbroken h shared a (as_apart v (f v.time) result written (λ x. f (v.source x)))
    unbroken_apart result written address w one starts many held unbroken k x in_time before cover wet other =
        let t = early_back v.time in_time in
        let r = found (is_shared owns) m v.time k t before in
        let l = r.1 in
        let p = passing (is_shared owns) m r.0 (omega (arith, l, t)) r.2 in
        let same : get_or shared k no_store ≡ get_or m r.0 no_store = ap (λ (j : ℕ). get_or shared j no_store) (sym r.3) ∙ p.1 in
        let u = unbroken r.0 x t l cover (ap (λ (s : Stored). has_byte s x) (sym same) ∙ wet) (λ e. other (ap (λ (s : Stored). s.hart) same ∙ e)) in
        let s = mirrors.sources x (ap (λ (q : Option Span). is_held q x) held ∙ ap (λ (n : ℕ). in_range n (width_bytes w) x) (sym starts) ∙ ap (λ (n : ℕ). in_range (address_of v.access) n x) (sym many) ∙ cover) in
        let g = up (suc r.0) (c.sources x) (omega (arith, u)) in
        let q = p.0 in
        let z = r.3 in
        omega (arith, s, g, q, z)

    -- ---- what touches nobody's own bytes

    -- it acts so in the run apart, with these numbers
    pub record Shared (HasPlace : Move → Type 0) : Type 0 where
      pub result : Option ℕ
      pub written : Option ℕ
      pub tells : Tells v.result result
      pub puts : Tells v.written written
      pub acts : Acts image h shared opening HasPlace a (as_apart v (f v.time) result written (λ x. f (v.source x)))

    abbrev own_result : Tells v.result v.result
    own_result n e = e

    abbrev own_written : Tells v.written v.written
    own_written n e = e

    not_own : (b : Bool) (address : ℕ) → is_own owns h address ≡ false → is_own owns h address ≡ true → b ≡ true → ⊥
    not_own b address none some e = cc

    module _ (P Q : Move → Type 0) (place : (result written : Option ℕ) → is_private owns h v.access ≡ false → stores v.access ≡ true → Tells v.written written → P v →
        Q (as_apart v (f v.time) result written (λ x. f (v.source x))))
        (lately : (result written : Option ℕ) → v.time ≡ later m → Q (as_apart v (f v.time) result written (λ x. f (v.source x)))) (public : is_private owns h v.access ≡ false) where
      shared_address : (y : Access) → v.access ≡ y → (loads y || stores y) ≡ true → is_own owns h (address_of y) ≡ false
      shared_address y e op = by_test (loads y || stores y) op (sym (ap (is_private owns h) e) ∙ public)
        where
          by_test : (b : Bool) → b ≡ true → (b && is_own owns h (address_of y)) ≡ false → is_own owns h (address_of y) ≡ false
          by_test true e none = none
          by_test false e none = absurd (cc)

      pub shared_acts : Acts image h m opening P c v → Shared Q
      shared_acts (puts rd n k is e r x) = record {
        result = v.result;
        written = v.written;
        tells = own_result;
        puts = own_written;
        acts = puts rd n (all k) (same_all k ∙ is) e r (following v.next x);
      }
      shared_acts (puts-unknown rd n k is e r x) = elim (knows_or_not (registers_of v.instruction) a.registers) [
        | inl all ↦ record {
          result = Some p.1;
          written = v.written;
          tells = (λ j q. absurd (not_both j v.result r q));
          puts = own_written;
          acts = puts p.0 p.1 all p.2 e refl (following v.next x);
        }
        | inr late ↦ record {
          result = None;
          written = v.written;
          tells = tells_same v.result None r;
          puts = own_written;
          acts = puts-unknown p.0 p.1 late p.2 e refl (following v.next x);
        }
      ]
        where
          p : (rd : ℕ) × (n : ℕ) × (acts a v ≡ Put rd n)
          p = put_of (acts a v) (puts_alike v.instruction (filled a.registers) (filled c.registers) a.pc c.pc ∙ ap is_put is)
      shared_acts (jumps rd target k is even e r x) = record {
        result = v.result;
        written = v.written;
        tells = own_result;
        puts = own_written;
        acts = jumps rd target (all k) (same_all k ∙ is) even e (r ∙ ap (λ (p : ℕ). Some (plus p 4)) (sym mirrors.pc)) x;
      }
      shared_acts (branches taken target k is even e x) = record {
        result = v.result;
        written = v.written;
        tells = own_result;
        puts = own_written;
        acts = branches taken target (all k) (same_all k ∙ is) even e (x ∙ ap (λ (p : ℕ). if taken then target else plus p 4) (sym mirrors.pc));
      }
      shared_acts (orders before after mode is e x) = record {
        result = v.result;
        written = v.written;
        tells = own_result;
        puts = own_written;
        acts = orders before after mode (same_all (none_known c.registers (registers_of v.instruction) (sym (ap (fits (registers_of v.instruction)) is) ∙ registers_fit v.instruction (filled c.registers) c.pc)) ∙ is) e
            (following v.next x);
      }
      shared_acts (reads rd address w signed number k is safe e g r x) =
          let own = shared_address (Load w 0 address 0) e refl in
          let to : acts a v ≡ Read rd address w signed = same_all k ∙ is in
          let none = touched true address (most k.but_data) (subst (λ (y : Action). Touches image y true address) (sym (ap without_data to)) (by-read rd address w signed safe)) (not_own true address own) in
          record {
            result = v.result;
            written = v.written;
            tells = own_result;
            puts = own_written;
            acts = reads rd address w signed number (all k) to safe e (gets_apart v.result v.written address w number (readable_one image address w safe) none g) r (following v.next x);
          }
      shared_acts (stores_it address w k is safe e d p x) =
          let tells : Tells v.written (option_map (cut w) (data_of a v)) = λ n q. tells_map (cut w) (data_of c v) (data_of a v) data_tells n (sym d ∙ q) in
          record {
            result = v.result;
            written = option_map (cut w) (data_of a v);
            tells = own_result;
            puts = tells;
            acts = stores_it address w (most k) (same_most k ∙ is) safe e refl (place v.result (option_map (cut w) (data_of a v)) public (ap stores e) tells p) (following v.next x);
          }
      shared_acts (reserves rd address w o number k is safe e g r x) =
          let own = shared_address (LoadReserved w o 0 address 0) e refl in
          let to : acts a v ≡ Reserve rd address w o = same_all k ∙ is in
          let none = touched false address (most k.but_data) (subst (λ (y : Action). Touches image y false address) (sym (ap without_data to)) (by-reserve rd address w o safe)) (not_own false address own) in
          record {
            result = v.result;
            written = v.written;
            tells = own_result;
            puts = own_written;
            acts = reserves rd address w o number (all k) to safe e (gets_apart v.result v.written address w number (readable_one image address w safe) none g) r (following v.next x);
          }
      shared_acts (fails rd address w o k is safe e r x) = record {
        result = v.result;
        written = v.written;
        tells = own_result;
        puts = own_written;
        acts = fails rd address w o (most k) (same_most k ∙ is) safe e r (following v.next x);
      }
      shared_acts (succeeds rd address w o k is safe e d held reserved p unbroken r x) =
          let tells : Tells v.written (option_map (cut w) (data_of a v)) = λ n q. tells_map (cut w) (data_of c v) (data_of a v) data_tells n (sym d ∙ q) in
          record {
            result = v.result;
            written = option_map (cut w) (data_of a v);
            tells = own_result;
            puts = tells;
            acts = succeeds rd address w o (most k) (same_most k ∙ is) safe e refl (mirrors.held ∙ held)
                (let l = up c.reserved v.time reserved in let q = mirrors.reserved in omega (arith, l, q))
                (place v.result (option_map (cut w) (data_of a v)) public (ap stores e) tells p)
                (unbroken_apart v.result (option_map (cut w) (data_of a v)) address w (writable_one image address w safe) (ap address_of e) (ap bytes_of e) held unbroken) r (following v.next x);
          }
      shared_acts (exchanges rd address w g o number k is safe e get r d p x) =
          let own = shared_address (Atomic w o 0 address 0 0) e refl in
          let to : acts a v ≡ Exchange rd address w g o = same_all k ∙ is in
          let none = touched false address (most k.but_data) (subst (λ (y : Action). Touches image y false address) (sym (ap without_data to)) (by-exchange rd address w (λ old. 0) o safe)) (not_own false address own) in
          record {
            result = v.result;
            written = v.written;
            tells = own_result;
            puts = own_written;
            acts = exchanges rd address w g o number (all k) to safe e (gets_apart v.result v.written address w number (writable_one image address w safe) none get) r d
                (place v.result v.written public (ap stores e) own_written p) (following v.next x);
          }
      shared_acts (exchanges-unknown rd address w o k none is safe e get r d x) = elim (some_or_none (data_of a v)) [
        | inr unknown ↦ record {
          result = v.result;
          written = v.written;
          tells = own_result;
          puts = own_written;
          acts = exchanges-unknown rd address w o (most k) unknown to safe e (got v.result v.written) r d (following v.next x);
        }
        | inl some ↦
            let g = exchange_of (acts a v) rd address w o to in
            record {
              result = v.result;
              written = v.written;
              tells = own_result;
              puts = own_written;
              acts = exchanges rd address w g.0 o None (record { but_data = most k; value = some }) g.1 safe e (got v.result v.written) r d (lately v.result v.written (is_late None refl get)) (following v.next x);
            }
      ]
        where
          to : without_data (acts a v) ≡ Exchange rd address w (λ old. 0) o
          to = same_most k ∙ is

          nobody : Nobodys address
          nobody = touched false address (most k) (subst (λ (y : Action). Touches image y false address) (sym to) (by-exchange rd address w (λ old. 0) o safe))
              (not_own false address (shared_address (Atomic w o 0 address 0 0) e refl))

          got : (result written : Option ℕ) → Gets shared opening a (as_apart v (f v.time) result written (λ x. f (v.source x))) address w None
          got result written = gets_apart result written address w None (writable_one image address w safe) nobody get

          is_late : (q : Option ℕ) → q ≡ None → Gets m opening c v address w q → v.time ≡ later m
          is_late _ e (gets n before fits bytes) = absurd (cc)
          is_late _ e (gets-later late none) = late
      shared_acts (calls number answer ecall at nonzero answered e r x) = record {
        result = v.result;
        written = v.written;
        tells = own_result;
        puts = own_written;
        acts = calls number answer ecall (mirrors.registers 17 number at) nonzero answered e r (following v.next x);
      }

    -- ---- what touches the hart's own bytes

    -- it acts so apart
    pub record Apart : Type 0 where
      pub result : Option ℕ
      pub written : Option ℕ
      pub source : ℕ → ℕ
      pub tells : Tells v.result result
      pub puts : Tells v.written written
      pub none : (x : ℕ) → source x ≡ 0
      pub plain : is_lr v.access ≡ false
      pub one : IsInOne (address_of v.access) (bytes_of v.access)
      pub acts : ActsApart owns image h shared opening (IsPlaced h shared) a (as_apart v (f v.time) result written source)

    module _ (private : is_private owns h v.access ≡ true) (fits_on : (x : ℕ) → Fits image h m opening x (vs ++ v ∷ []) (moved h m c v)) where
      own_address : (y : Access) → v.access ≡ y → (loads y || stores y) ≡ true → is_own owns h (address_of y) ≡ true
      own_address y e op = (and_parts (loads y || stores y) (is_own owns h (address_of y)) (sym (ap (is_private owns h) e) ∙ private)).1

      idle : (y : Access) → v.access ≡ y → (loads y || stores y) ≡ false → ⊥
      idle y e none =
          let p = (and_parts (loads y || stores y) (is_own owns h (address_of y)) (sym (ap (is_private owns h) e) ∙ private)).0 in
          cc

      -- an LR, SC or AMO isn't on own bytes
      never : (address : ℕ) → KnowsMost a v → Touches image (without_data (acts a v)) false address → is_own owns h address ≡ true → ⊥
      never address k t own = let p = (apart v.instruction false address h (ap (decoded image) mirrors.pc ∙ at) k t inside own).1 in cc

      own_at : (address : ℕ) (w : Width) → IsInOne address (width_bytes w) → is_own owns h address ≡ true → (x : ℕ) → in_range address (width_bytes w) x ≡ true → is_own owns h x ≡ true
      own_at address w one own x range = ap (owns h) (one_doubleword address (width_bytes w) x one range) ∙ own

      in_one : (address : ℕ) (w : Width) (y : Access) → v.access ≡ y → address_of y ≡ address → bytes_of y ≡ width_bytes w → IsInOne address (width_bytes w) → IsInOne (address_of v.access) (bytes_of v.access)
      in_one address w y e starts many one = subst (λ (z : Access). IsInOne (address_of z) (bytes_of z)) (sym e) (subst (λ (z : ℕ). IsInOne z (bytes_of y)) (sym starts) (subst (IsInOne address) (sym many) one))

      recalled : (address : ℕ) (w : Width) (o : Option ℕ) → IsInOne address (width_bytes w) → is_own owns h address ≡ true → v.access ≡ Load w 0 address 0 → Gets m opening c v address w o →
          Tells o (own_number opening a address (width_bytes w)) × ((k : ℕ) → k < width_bytes w → needs_of (a.own (address + k)) ≤ f v.time)
      recalled address w _ one own e (gets n before fits bytes) = (
        λ j q.
            let same : n ≡ j = some_value n j q in
            own_bytes opening a (width_bytes w) address (byte_of n) (λ k l.
            let x = address + k in
            let range = within_range address (width_bytes w) k l in
            let mine = own_at address w one own (address + k) range in
            bytes_tell f f (is_own owns h (address + k)) (opening (address + k)) (a.own (address + k)) (c.own (address + k)) (mirrors.own (address + k)) (byte_of n k)
            (own_read image h m opening (address + k) vs c v (byte_of n k) (keeps_own (address + k)) (alone owns harts m h (address + k) kept inside mine) (fits_on (address + k)) (omega (arith, before))
            (ap (λ (y : Access). covers y (address + k)) e ∙ range) (ap loads e) (ap stores e) _ (bytes k l)))
            ∙ ap (λ (i : ℕ). Some i) (total_is w n fits ∙ same),
        λ k l.
            let b = needs_below f f (is_own owns h (address + k)) (a.own (address + k)) (c.own (address + k)) (mirrors.own (address + k)) in
            let t = own_needs image h m opening (address + k) vs c v _ _ (keeps_own (address + k)) (bytes k l) in
            let u = up (needs_of (c.own (address + k))) v.time t in
            omega (arith, b, u),
      )
      recalled address w _ one own e (gets-later late sources) = (
        tells_none (own_number opening a address (width_bytes w)),
        λ k l.
            let b = needs_below f f (is_own owns h (address + k)) (a.own (address + k)) (c.own (address + k)) (mirrors.own (address + k)) in
            let t = own_late image h m opening (address + k) vs c (keeps_own (address + k)) in
            let u = up (needs_of (c.own (address + k))) v.time (omega (arith, t, late)) in
            omega (arith, b, u),
      )

      pub apart_acts : Acts image h m opening (IsPlaced h m) c v → Apart
      apart_acts (puts rd n k is e r x) = absurd (idle _ e refl)
      apart_acts (puts-unknown rd n k is e r x) = absurd (idle _ e refl)
      apart_acts (jumps rd target k is even e r x) = absurd (idle _ e refl)
      apart_acts (branches taken target k is even e x) = absurd (idle _ e refl)
      apart_acts (orders before after mode is e x) = absurd (idle _ e refl)
      apart_acts (calls number answer ecall at nonzero answered e r x) = absurd (idle _ e refl)
      apart_acts (fails rd address w o k is safe e r x) = absurd (idle _ e refl)
      apart_acts (reserves rd address w o number k is safe e g r x) =
          absurd (never address (most k.but_data) (subst (λ (y : Action). Touches image y false address) (sym (ap without_data (same_all k ∙ is))) (by-reserve rd address w o safe)) (own_address _ e refl))
      apart_acts (succeeds rd address w o k is safe e d held reserved p unbroken r x) =
          absurd (never address (most k) (subst (λ (y : Action). Touches image y false address) (sym (same_most k ∙ is)) (by-conditional rd address 0 w o safe)) (own_address _ e refl))
      apart_acts (exchanges rd address w g o number k is safe e get r d p x) =
          absurd (never address (most k.but_data) (subst (λ (y : Action). Touches image y false address) (sym (ap without_data (same_all k ∙ is))) (by-exchange rd address w (λ old. 0) o safe)) (own_address _ e refl))
      apart_acts (exchanges-unknown rd address w o k none is safe e get r d x) =
          absurd (never address (most k) (subst (λ (y : Action). Touches image y false address) (sym (same_most k ∙ is)) (by-exchange rd address w (λ old. 0) o safe)) (own_address _ e refl))
      apart_acts (reads rd address w signed number k is safe e g r x) =
          let one = readable_one image address w safe in
          let got = recalled address w number one (own_address (Load w 0 address 0) e refl) e g in
          record {
            result = option_map (extended_to signed w) (own_number opening a address (width_bytes w));
            written = v.written;
            source = λ y. 0;
            tells = λ n q. tells_map (extended_to signed w) number (own_number opening a address (width_bytes w)) got.0 n (sym r ∙ q);
            puts = own_written;
            none = λ y. refl;
            plain = ap is_lr e;
            one = in_one address w (Load w 0 address 0) e refl refl one;
            acts = recalls rd address w signed private (all k) (same_all k ∙ is) safe e got.1 refl (λ y. refl) (following v.next x);
          }
      apart_acts (stores_it address w k is safe e d p x) = record {
        result = v.result;
        written = option_map (cut w) (data_of a v);
        source = λ y. 0;
        tells = own_result;
        puts = λ n q. tells_map (cut w) (data_of c v) (data_of a v) data_tells n (sym d ∙ q);
        none = λ y. refl;
        plain = ap is_lr e;
        one = in_one address w (Store w 0 address 0) e refl refl (writable_one image address w safe);
        acts = keeps private (ap is_plain_store e) (stores_it address w (most k) (same_most k ∙ is) safe e refl tt (following v.next x));
      }
