-- A move that is known against a list of stores is one against this list, whatever stands behind it.
use Rattle.std.proofs.Common.{◌≡◌, ℕ, zero, suc, ◌+◌, ◌-◌, ◌<◌, ◌≤◌, ◌&&◌, ◌||◌, max, min, Bool, true, false, if◌then◌else◌, List, [], ◌∷◌, ◌++◌, length, map, get_or, Option, Some, None, option_map, refl, sym, ap, ◌∙◌, subst, inl, inr, arith}
use Rattle.std.proofs.Math.Path.{fun_ext}
use Rattle.std.proofs.lemmas.Bool.{and_parts, cases_lt}
use Rattle.std.proofs.lemmas.List.{get_or_append_left, length-append}
use Rattle.pages.specs.declared.access.Width.{Width}
use Rattle.pages.specs.Memory.{Memory, byte_of}
use Rattle.round_schedule.specs.declared.access.Access.{Access}
use Rattle.round_schedule.specs.declared.access.Access.TheVariants.{Store}
use Rattle.round_schedule.specs.Accesses.{address_of, is_lr, is_sc, loads, stores, writes}
use Rattle.hart_step.specs.DecodedCode.{decoded}
use Rattle.memory_order.specs.Operations.{covers, is_amo, is_plain_store}
use Rattle.memory_order.specs.Registers.{registers_of}
use Rattle.rule_checker.specs.CarriedBounds.{AreRegisters, operand_bound}
use Rattle.rule_checker.specs.declared.carried.Carried.{Carried}
use Rattle.execution.specs.Progressing.{step_event}
use Rattle.all_endings.specs.HartRuns.{Acts, Gets, IsPlaced, IsRead, Stands, branches, calls, exchanges, exchanges-unknown, fails, forwarded, gets, gets-later, jumps, orders, puts, puts-unknown, reads, remembered, reserves, succeeds}
use Rattle.all_endings.specs.HartRuns.{stores as stores_it}
use Rattle.all_endings.specs.Lowering.{CarriedAtMost, IsLower, KindsAtMost, OwnAtMost, own-both, own-none}
use Rattle.all_endings.specs.RunStates.{Move, OwnByte, RunState, behind, moved, moved_at, operates}
use Rattle.all_endings.specs.StoreLists.{Stored, byte_at, byte_in, has_byte, last_place, later, no_store}
use Rattle.all_endings.proofs.DecodedRegisters.{decoded_fits}
use Rattle.all_endings.proofs.Earlier.{lower_self}
use Rattle.all_endings.proofs.Lowering.{carried_down, carried_most, kinds_below, kinds_most, rises, same}
use Rattle.all_endings.proofs.Times.{carried_below_after, kinds_below_after}
use Rattle.private_bytes.specs.Ahead.{IsAhead}
use Rattle.private_bytes.specs.Owners.{is_private}
use Rattle.private_bytes.specs.PrivateMoves.{ActsApart, keeps, moved_privately, recalls, shares, without_place}
use Rattle.private_bytes.specs.PrivateWalks.{Spot}
use Rattle.private_bytes.proofs.Mirroring.{ahead_on, lower_ahead}
use Rattle.list_suffixes.specs.SettledWalks.{IsKnown}
use Rattle.list_suffixes.specs.ApartRuns.{StandsForAlways}
use Rattle.list_suffixes.specs.KeptMoves.{IsMoveKept, IsOfThoseKept, state_after}
use Rattle.list_suffixes.specs.Staying.{AreShared, carried_kept, kept_before, own_kept, place_kept, spot_kept, state_kept}
use Rattle.list_suffixes.proofs.KeptMoves.{moves_kept}
use Rattle.list_suffixes.proofs.Staying.{place_laid, place_stays}

-- ---- where none is laid into memory

same_times : (xs : List ℕ) → map (kept_before []) xs ≡ xs
same_times [] = refl
same_times (x ∷ xs) = ap (λ (ys : List ℕ). x ∷ ys) (same_times xs)

same_place : (m : List Stored) (x p : ℕ) → place_kept [] m x p ≡ p
same_place m x p = elim (cases_lt 0 p) [
  | inl some ↦ place_stays [] m x p some
  | inr none ↦ let z = place_laid [] m x p none in omega (arith, z, none)
]

same_own : (m : List Stored) (x : ℕ) (o : Option OwnByte) → option_map (own_kept [] m x) o ≡ o
same_own m x None = refl
same_own m x (Some o) = ap (λ (i : ℕ). Some (record o { place = i })) (same_place m x o.place)

same_carried : (c : Carried) → carried_kept [] c ≡ c
same_carried c = ap (λ (rs : List ℕ). record c { registers = rs }) (same_times c.registers)

state_none : (m : List Stored) (a : RunState) → state_kept [] m a ≡ a
state_none m a = ap (λ (c : Carried). record (state_kept [] m a) { carried = c }) (same_carried a.carried)
    ∙ ap (λ (f : ℕ → ℕ). record (state_kept [] m a) { carried = a.carried; seen = f }) (fun_ext (λ x. same_place m x (a.seen x)))
    ∙ ap (λ (f : ℕ → Option OwnByte). record a { own = f; sources = λ x. place_kept [] m x (a.sources x) }) (fun_ext (λ x. same_own m x (a.own x)))
    ∙ ap (λ (f : ℕ → ℕ). record a { sources = f }) (fun_ext (λ x. same_place m x (a.sources x)))

pub spot_none : (m : List Stored) (p : Spot) → spot_kept [] m p ≡ p
spot_none m p = ap (λ (s : RunState). record p { place = record p.place { state = s } }) (state_none m p.place.state)

pub stands_itself : (p : Spot) → length p.place.state.carried.registers ≡ 32 → StandsForAlways p p
stands_itself p sized m = record {
  state = lower_ahead p.place.state p.place.state (lower_self p.place.state sized);
  count = omega arith;
  paid = λ j l e. e;
  next = refl;
  constant = λ e. e;
}

-- ---- the same stores

module _ (m e : List Stored) where
  at_left : (k : ℕ) → k < length m → get_or (m ++ e) k no_store ≡ get_or m k no_store
  at_left k l = get_or_append_left m e no_store k l

  last_left : (x t : ℕ) → t ≤ length m → last_place (m ++ e) x t ≡ last_place m x t
  last_left x zero l = refl
  last_left x (suc t) l =
      ap (λ (c : Bool). if c then suc t else last_place (m ++ e) x t) (ap (λ (s : Stored). has_byte s x) (at_left t (omega (arith, l))))
      ∙ ap (λ (i : ℕ). if has_byte (get_or m t no_store) x then suc t else i) (last_left x t (omega (arith, l)))

  byte_left : (opening : ℕ → ℕ) (x p : ℕ) → p ≤ length m → byte_at (m ++ e) opening x p ≡ byte_at m opening x p
  byte_left opening x zero l = refl
  byte_left opening x (suc p) l = ap (λ (s : Stored). byte_in s x) (at_left p (omega (arith, l)))

  last_small : (x t : ℕ) → last_place m x t ≤ t
  last_small x zero = omega arith
  last_small x (suc t) = by_test (has_byte (get_or m t no_store) x) (last_small x t)
    where
      by_test : (c : Bool) → last_place m x t ≤ t → (if c then suc t else last_place m x t) ≤ suc t
      by_test true r = omega arith
      by_test false r = omega (arith, r)

-- ---- what is done

module _ (owns : ℕ → ℕ → Bool) (image : Memory) (h : ℕ) (m e : List Stored) (opening : ℕ → ℕ) (a : RunState) (v : Move) where
  read_left : (x source byte : ℕ) → v.time ≤ length m → IsRead (m ++ e) opening a v.time x source byte → IsRead m opening a v.time x source byte
  read_left x _ _ l (forwarded o byte own late plain needs seen known) = forwarded o byte own late plain needs seen known
  read_left x _ _ l (remembered past seen) =
      let same = last_left m e x v.time l in
      let w = last_small m e x v.time in
      subst (λ (n : ℕ). IsRead m opening a v.time x (last_place (m ++ e) x v.time) n) (sym (ap (byte_at (m ++ e) opening x) same ∙ byte_left m e opening x (last_place m x v.time) (omega (arith, w, l))))
      (subst (λ (q : ℕ). IsRead m opening a v.time x q (byte_at m opening x (last_place m x v.time))) (sym same) (remembered past (omega (arith, seen, same))))

  gets_left : (address : ℕ) (w : Width) (o : Option ℕ) → v.time ≤ length m → Gets (m ++ e) opening a v address w o → Gets m opening a v address w o
  gets_left address w _ l (gets n before fits bytes) = gets n (omega (arith, l)) fits (λ k i. read_left (address + k) _ _ l (bytes k i))
  gets_left address w _ l (gets-later late sources) = absurd (let s = length-append m e in omega (arith, late, l, s))

  module _ (P Q : Move → Type 0) (place : stores v.access ≡ true → P v → Q v) (loading : loads v.access ≡ true → v.time ≤ length m) (storing : stores v.access ≡ true → v.time ≤ length m) where
    acts_left : Acts image h (m ++ e) opening P a v → Acts image h m opening Q a v
    acts_left (puts rd n k is d r x) = puts rd n k is d r x
    acts_left (puts-unknown rd n k is d r x) = puts-unknown rd n k is d r x
    acts_left (jumps rd target k is even d r x) = jumps rd target k is even d r x
    acts_left (branches taken target k is even d x) = branches taken target k is even d x
    acts_left (orders before after mode is d x) = orders before after mode is d x
    acts_left (reads rd address w signed number k is safe d g r x) = reads rd address w signed number k is safe d (gets_left address w number (loading (ap loads d)) g) r x
    acts_left (stores_it address w k is safe d data_is q x) = stores_it address w k is safe d data_is (place (ap stores d) q) x
    acts_left (reserves rd address w o number k is safe d g r x) = reserves rd address w o number k is safe d (gets_left address w number (loading (ap loads d)) g) r x
    acts_left (fails rd address w o k is safe d r x) = fails rd address w o k is safe d r x
    acts_left (succeeds rd address w o k is safe d data_is held reserved q unbroken r x) =
        succeeds rd address w o k is safe d data_is held reserved (place (ap stores d) q)
        (λ i y in_time before c wet other.
        let l = storing (ap stores d) in
        let s = length-append m e in
        let there = at_left m e i (omega (arith, l, before)) in
        unbroken i y (omega (arith, in_time, s)) before c (ap (λ (z : Stored). has_byte z y) there ∙ wet) (λ z. other (ap (λ (y : Stored). y.hart) (sym there) ∙ z))) r x
    acts_left (exchanges rd address w f o number k is safe d g r data_is q x) = exchanges rd address w f o number k is safe d (gets_left address w number (loading (ap loads d)) g) r data_is (place (ap stores d) q) x
    acts_left (exchanges-unknown rd address w o k none is safe d g r data_is x) = exchanges-unknown rd address w o k none is safe d (gets_left address w None (loading (ap loads d)) g) r data_is x
    acts_left (calls number answer ecall at nonzero answered d r x) = calls number answer ecall at nonzero answered d r x

  module _ (known : IsKnown owns h m v) where
    any_load : (c d : Bool) → c ≡ true → (c || d) ≡ true
    any_load true d i = refl
    any_load false d i = absurd (cc)

    any_store : (c d : Bool) → d ≡ true → (c || d) ≡ true
    any_store true d i = refl
    any_store false d i = i

    placed_left : stores v.access ≡ true → is_private owns h v.access ≡ false → IsPlaced h (m ++ e) v → IsPlaced h m v
    placed_left store public (inl late) = absurd (let l = (known (any_store (loads v.access) (stores v.access) store) public).1 store in let s = length-append m e in omega (arith, late, l, s))
    placed_left store public (inr is) =
        let l = (known (any_store (loads v.access) (stores v.access) store) public).1 store in
        let there = at_left m e v.time l in
        inr (record {
          within = l;
          hart = ap (λ (s : Stored). s.hart) (sym there) ∙ is.hart;
          address = ap (λ (s : Stored). s.address) (sym there) ∙ is.address;
          bytes = ap (λ (s : Stored). s.bytes) (sym there) ∙ is.bytes;
          number = is.number ∙ ap (λ (s : Stored). Some s.number) there;
        })

    plain_no_load : (y : Access) → is_plain_store y ≡ true → loads y ≡ true → ⊥
    plain_no_load y plain load = by_kind y plain load
      where
        by_kind : (z : Access) → is_plain_store z ≡ true → loads z ≡ true → ⊥
        by_kind (Store w q x n) plain load = cc
        by_kind _ plain load = cc

    apart_left : ActsApart owns image h (m ++ e) opening (IsPlaced h (m ++ e)) a v → ActsApart owns image h m opening (IsPlaced h m) a v
    apart_left (shares public doing) = shares public (acts_left (IsPlaced h (m ++ e)) (IsPlaced h m) (λ store q. placed_left store public q) (λ load. (known (any_load (loads v.access) (stores v.access) load) public).0)
        (λ store. (known (any_store (loads v.access) (stores v.access) store) public).0) doing)
    apart_left (keeps private plain doing) = keeps private plain (plain_left doing plain)
      where
        plain_left : Acts image h (m ++ e) opening (λ (u : Move). Unit {0}) a v → is_plain_store v.access ≡ true → Acts image h m opening (λ (u : Move). Unit {0}) a v
        plain_left (puts rd n k is d r x) p = puts rd n k is d r x
        plain_left (puts-unknown rd n k is d r x) p = puts-unknown rd n k is d r x
        plain_left (jumps rd target k is even d r x) p = jumps rd target k is even d r x
        plain_left (branches taken target k is even d x) p = branches taken target k is even d x
        plain_left (orders before after mode is d x) p = orders before after mode is d x
        plain_left (reads rd address w signed number k is safe d g r x) p = absurd (plain_no_load v.access p (ap loads d))
        plain_left (stores_it address w k is safe d data_is q x) p = stores_it address w k is safe d data_is tt x
        plain_left (reserves rd address w o number k is safe d g r x) p = absurd (plain_no_load v.access p (ap loads d))
        plain_left (fails rd address w o k is safe d r x) p = fails rd address w o k is safe d r x
        plain_left (succeeds rd address w o k is safe d data_is held reserved q unbroken r x) p = absurd (let i = ap is_plain_store d in cc)
        plain_left (exchanges rd address w f o number k is safe d g r data_is q x) p = absurd (plain_no_load v.access p (ap loads d))
        plain_left (exchanges-unknown rd address w o k none is safe d g r data_is x) p = absurd (plain_no_load v.access p (ap loads d))
        plain_left (calls number answer ecall at nonzero answered d r x) p = calls number answer ecall at nonzero answered d r x
    apart_left (recalls rd address w signed private k is safe d needs r sources x) = recalls rd address w signed private k is safe d needs r sources x

    -- ---- and what it leaves

    module _ (sized : length a.carried.registers ≡ 32) (fit : AreRegisters (registers_of v.instruction)) where
      abbrev self : IsLower a a
      self = lower_self a sized

      own_self : (o : Option OwnByte) → OwnAtMost o o
      own_self None = own-none
      own_self (Some o) = own-both o o refl refl refl (omega arith)

      raised : (c : Bool) (u i j : ℕ) → i ≤ j → (if c then max u i else u) ≤ (if c then max u j else u)
      raised true u i j l = omega (arith, l)
      raised false u i j l = omega arith

      chosen : (c : Bool) (u i j : ℕ) → i ≤ j → (if c then i else u) ≤ (if c then j else u)
      chosen true u i j l = l
      chosen false u i j l = omega arith

      module _ (i j : ℕ) (sooner : i ≤ j) where
        kinds_sooner : KindsAtMost (moved_at h i a v).kinds (moved_at h j a v).kinds
        kinds_sooner = kinds_most _ _ (kinds_below_after same rises a.kinds a.kinds v.access (operates v) i j sooner (kinds_below a.kinds a.kinds self.kinds))

        carried_sooner : CarriedAtMost (moved_at h i a v).carried (moved_at h j a v).carried
        carried_sooner = carried_most _ _ (carried_below_after same rises a.carried a.carried (registers_of v.instruction) (step_event h (Some v.access)) i j fit sooner (carried_down a.carried a.carried self.carried))

        -- with own stores that stand at the same places
        with_own : (f g : ℕ → Option OwnByte) → ((x : ℕ) → OwnAtMost (f x) (g x)) → IsLower (record (moved_at h i a v) { own = f }) (record (moved_at h j a v) { own = g })
        with_own f g own = record {
          pc = refl;
          registers = refl;
          kinds = kinds_sooner;
          carried = carried_sooner;
          touched = λ x. raised (operates v && covers v.access x) (a.touched x) i j sooner;
          seen = λ x. omega arith;
          own = own;
          held = refl;
          reserved = chosen (is_lr v.access) a.reserved i j sooner;
          sources = λ x s. omega arith;
          output = refl;
        }

      -- the own store that it leaves
      abbrev made : ℕ → ℕ → OwnByte
      made x i = record { place = i; byte = option_map (λ n. byte_of n (x - address_of v.access)) v.written; atomic = is_amo v.access || is_sc v.access; needs = operand_bound a.carried (registers_of v.instruction) }

      private_sooner : IsLower (moved_privately h m a v) (moved_privately h (m ++ e) a v)
      private_sooner =
          let s = length-append m e in
          with_own (min v.time (later m)) (min v.time (later (m ++ e))) (omega (arith, s)) _ _ (λ x. own_at x (writes v.access x))
        where
          own_at : (x : ℕ) (c : Bool) → OwnAtMost (if c then option_map without_place ((moved_at h (min v.time (later m)) a v).own x) else a.own x) (if c then option_map without_place ((moved_at h (min v.time (later (m ++ e))) a v).own x) else a.own x)
          own_at x true = unplaced_same (writes v.access x)
            where
              unplaced_same : (d : Bool) → OwnAtMost (option_map without_place (if d then Some (made x (min v.time (later m))) else a.own x)) (option_map without_place (if d then Some (made x (min v.time (later (m ++ e)))) else a.own x))
              unplaced_same true = own-both _ _ refl refl refl (omega arith)
              unplaced_same false = own_self (option_map without_place (a.own x))
          own_at x false = own_self (a.own x)

      shared_sooner : is_private owns h v.access ≡ false → IsLower (moved h m a v) (moved h (m ++ e) a v)
      shared_sooner public =
          with_own (behind m v) (behind (m ++ e) v) sooner _ _ (λ x. own_at x (writes v.access x) refl)
        where
          sooner : behind m v ≤ behind (m ++ e) v
          sooner = let s = length-append m e in omega (arith, s)

          same_place : stores v.access ≡ true → behind m v ≡ behind (m ++ e) v
          same_place store =
              let l = (known (any_store (loads v.access) (stores v.access) store) public).1 store in
              let s = length-append m e in
              let i : behind m v ≡ min (v.time + 1) (later m) = ap (λ (c : Bool). min (if c then v.time + 1 else v.time) (later m)) store in
              let j : behind (m ++ e) v ≡ min (v.time + 1) (later (m ++ e)) = ap (λ (c : Bool). min (if c then v.time + 1 else v.time) (later (m ++ e))) store in
              omega (arith, l, s, i, j)

          own_at : (x : ℕ) (c : Bool) → writes v.access x ≡ c → OwnAtMost ((moved_at h (behind m v) a v).own x) ((moved_at h (behind (m ++ e) v) a v).own x)
          own_at x true w = subst (λ (i : ℕ). OwnAtMost ((moved_at h (behind m v) a v).own x) ((moved_at h i a v).own x)) (same_place (and_parts (stores v.access) (covers v.access x) w).0) (own_self ((moved_at h (behind m v) a v).own x))
          own_at x false w = subst (λ (o : Option OwnByte). OwnAtMost o ((moved_at h (behind (m ++ e) v) a v).own x)) (sym (none (behind m v))) (subst (OwnAtMost (a.own x)) (sym (none (behind (m ++ e) v))) (own_self (a.own x)))
            where
              none : (i : ℕ) → (moved_at h i a v).own x ≡ a.own x
              none i = ap (λ (d : Bool). if d then Some (made x i) else a.own x) w

      sooner_lower : IsLower (state_after owns h m a v) (state_after owns h (m ++ e) a v)
      sooner_lower = by_test (is_private owns h v.access) refl
        where
          by_test : (c : Bool) → is_private owns h v.access ≡ c → IsLower (if c then moved_privately h m a v else moved h m a v) (if c then moved_privately h (m ++ e) a v else moved h (m ++ e) a v)
          by_test true i = private_sooner
          by_test false i = shared_sooner i

-- what is known against a list is done against it by each state that is ahead
pub moves_shorter : (owns : ℕ → ℕ → Bool) (image : Memory) (h : ℕ) (m e : List Stored) (opening : ℕ → ℕ) (a p : RunState) (v : Move) → AreShared owns h m → length a.registers ≡ 32 → IsAhead p a →
    decoded image a.pc ≡ Some v.instruction → IsKnown owns h m v → ActsApart owns image h (m ++ e) opening (IsPlaced h (m ++ e)) a v → (operates v ≡ true → Stands a v) →
    (u : Move) × IsMoveKept [] m v u × ActsApart owns image h m opening (IsPlaced h m) p u × (operates u ≡ true → Stands p u) ×
    IsAhead (state_after owns h m p u) (state_after owns h (m ++ e) a v)
moves_shorter owns image h m e opening a p v shared size ahead at known doing stand =
    let s = moves_kept owns image h [] m opening a p v (omega arith) (λ j n x l stay out. absurd (cc)) shared size (subst (IsAhead p) (sym (state_none m a)) ahead) at (λ op public. all_stay)
    (apart_left owns image h m e opening a v known doing) stand in
    let lower = sooner_lower owns image h m e opening a v known ahead.carried.size (decoded_fits image a.pc v.instruction at) in (
      s.0,
      s.1,
      s.2,
      s.3,
      ahead_on (state_after owns h m p s.0) (state_after owns h m a v) (state_after owns h (m ++ e) a v) (subst (IsAhead (state_after owns h m p s.0)) (state_none m (state_after owns h m a v)) s.4) (lower_ahead (state_after owns h m a v) (state_after owns h (m ++ e) a v) lower),
    )
  where
    all_stay : IsOfThoseKept [] m a v
    all_stay = record { stores = λ store. refl; current = λ load known n x out. absurd (cc); own = λ load o x wet own late inside. absurd (omega (arith, late, inside)) }
