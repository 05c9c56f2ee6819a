-- What may be loaded early stays so behind each move, and the loads are current.
use Rattle.std.proofs.Common.{◌≡◌, ℕ, ◌<◌, ◌≤◌, ◌||◌, ◌&&◌, not, Bool, true, false, if◌then◌else◌, List, [], ◌∷◌, length, get_or, Contains, Some, refl, sym, ap, ◌∙◌, subst, inl, inr, arith}
use Rattle.std.proofs.lemmas.Bool.{cases_Bool, cases_lt}
use Rattle.std.proofs.lemmas.List.{get_or_past}
use Rattle.std.proofs.lemmas.List.Elements.{Contains-append_cases, Contains-append_left, Contains-append_right}
use Rattle.pages.specs.Memory.{Memory}
use Rattle.round_schedule.specs.declared.access.Access.{Access}
use Rattle.round_schedule.specs.declared.access.Access.TheVariants.{Load, Store, LoadReserved, StoreConditional, Atomic, Fence}
use Rattle.round_schedule.specs.Accesses.{loads}
use Rattle.round_schedule.specs.Accesses.{stores as writing}
use Rattle.hart_step.specs.DecodedCode.{decoded}
use Rattle.memory_order.specs.Operations.{covers, is_acquire, is_plain_store}
use Rattle.all_endings.specs.HartRuns.{IsPlaced, Stands}
use Rattle.all_endings.specs.RunStates.{Move, RunState, operates}
use Rattle.all_endings.specs.StoreLists.{Stored}
use Rattle.private_bytes.specs.Owners.{is_private}
use Rattle.private_bytes.specs.PrivateMoves.{ActsApart, keeps, recalls, shares}
use Rattle.list_suffixes.specs.KeptMoves.{IsCurrent}
use Rattle.list_suffixes.specs.Staying.{stays_at}
use Rattle.early_reads.specs.declared.early_point.LateKinds.{LateKinds}
use Rattle.early_reads.specs.EarlyMaps.{Agrees, EarlyMap, HoldsAlong, IsRight, LeavesOut}
use Rattle.early_reads.specs.Laws.{IsLateStore, LateOperationsOpen, LoadsAreCurrent, LoadsOnly, LoadsStayOnly, RunsOn, any-bytes, by-map, none-early, on-more, on-none}
use Rattle.early_reads.specs.Windows.{ArePassed, DidLate, late_of, late_with, left_by_move, loads_from, shuts}
use Rattle.early_reads.proofs.Bounds.{behind_late, did_first, did_on, left_so, rises, shut, shut_first, time_behind}
use Rattle.early_reads.proofs.Loads.{before_source, read_of, seen_before}

acquires_no_store : (y : Access) → is_acquire y ≡ true → is_plain_store y ≡ false
acquires_no_store (Load w p x r) e = refl
acquires_no_store (Store w p x r) e = absurd (cc)
acquires_no_store (LoadReserved w o p x r) e = refl
acquires_no_store (StoreConditional w o p x r) e = refl
acquires_no_store (Atomic w o p x r u) e = refl
acquires_no_store (Fence c d m p) e = refl

-- a store that is laid into memory is among those of which this is told
pub laid_within : (stays : List Bool) (k : ℕ) → stays_at stays k ≡ false → k < length stays
laid_within stays k laid = elim (cases_lt k (length stays)) [
  | inl l ↦ l
  | inr past ↦ let e = get_or_past stays k true past in absurd (cc)
]

-- a load behind all of them is current
pub late_current : (owns : ℕ → ℕ → Bool) (image : Memory) (h : ℕ) (stays : List Bool) (m : List Stored) (opening : ℕ → ℕ) (a : RunState) (v : Move) →
    ActsApart owns image h m opening (IsPlaced h m) a v → loads v.access ≡ true → is_private owns h v.access ≡ false → v.time ≤ length m → length stays ≤ v.time → IsCurrent stays m v
late_current owns image h stays m opening a v acting is other known late k x laid on wet =
    let r = read_of m opening a v (omega (arith, known)) x on image h (IsPlaced h m) is owns other acting in
    let l = laid_within stays k laid in
    before_source m opening a v.time x (v.source x) r.0 k r.1 (omega (arith, l, late)) wet

module _ (f : EarlyMap) (owns : ℕ → ℕ → Bool) (image : Memory) (h b : ℕ) (m : List Stored) (opening : ℕ → ℕ) (owes : Bool) (bytes : ℕ → Bool) (right : IsRight f owns image h) (within : b ≤ length m) where
  module _ (a : RunState) (v : Move) (at : decoded image a.pc ≡ Some v.instruction) (acting : ActsApart owns image h m opening (IsPlaced h m) a v) where
    abbrev after : RunState
    after = left_by_move owns h m a v

    -- an acquire that stores isn't of own bytes
    acquiring : writing v.access ≡ true → is_acquire v.access ≡ true → is_private owns h v.access ≡ false
    acquiring wet acquire = by_move acting
      where
        by_move : ActsApart owns image h m opening (IsPlaced h m) a v → is_private owns h v.access ≡ false
        by_move (shares private acts) = private
        by_move (keeps private plain acts) = let none = acquires_no_store v.access acquire in absurd (cc)
        by_move (recalls rd address w signed private k is safe e needs r source next) = let d : writing v.access ≡ false = ap writing e in absurd (cc)

    agrees_behind : (l : LateKinds) → HoldsAlong f owns h l a v → Agrees (f.constants after.pc) after.registers
    agrees_behind l holds =
        let left = left_so owns h m a v in
        subst (λ (pc : ℕ). Agrees (f.constants pc) after.registers) (sym left.pc) (subst (Agrees (f.constants v.next)) (sym left.registers) holds.constants)

    module _ (late : owes ≡ false → IsLateStore owns h b v) where
      -- a late store's time behind it, of a hart that owes none
      stored_late : (l : LateKinds) → l.owes ≡ owes → l.owes ≡ false → writing v.access ≡ true → is_private owns h v.access ≡ false → b ≤ time_behind m v (is_private owns h v.access)
      stored_late l same pays wet private = behind_late m v (is_private owns h v.access) b private within (late (sym same ∙ pays) wet private)

      owes_still : (l : LateKinds) → (late_with owns h l v.access).owes ≡ l.owes
      owes_still l = by_test (not l.owes && (writing v.access && not (is_private owns h v.access)))
        where
          by_test : (c : Bool) → (if c then record { loads = l.loads || loads v.access; stores = true; owes = l.owes } else l).owes ≡ l.owes
          by_test true = refl
          by_test false = refl

      on_map : (l : LateKinds) → l.owes ≡ owes → DidLate b l a → ((x : ℕ) → f.bytes l a.pc x ≡ true → bytes x ≡ true) → HoldsAlong f owns h l a v → LoadsOnly f b owes bytes after
      on_map l same did told holds =
          let left = left_so owns h m a v in
          elim (cases_Bool (shuts l v.access)) [
            | inl shutting ↦ none-early (shut b l did left (λ pays wet acquire. stored_late l same pays wet (acquiring wet acquire)) shutting)
            | inr unshut ↦ by-map (late_with owns h l v.access) (owes_still l ∙ same)
                (did_on b owns h l did left (λ pays wet private. stored_late l same pays wet private))
                (agrees_behind l holds)
                (λ x e. told x (holds.leads x unshut (subst (λ (pc : ℕ). f.bytes (late_with owns h l v.access) pc x ≡ true) left.pc e)))
          ]

      stay_so : LoadsOnly f b owes bytes a → LoadsOnly f b owes bytes after
      stay_so (none-early l) = none-early (let r = rises (left_so owns h m a v) in omega (arith, l, r))
      stay_so (by-map l same did agrees told) = elim (right l m opening a v at acting agrees) [
        | inl all ↦ any-bytes (λ x. told x (all x))
        | inr holds ↦ on_map l same did told holds
      ]
      stay_so (any-bytes all) = any-bytes all

    module _ (stands : operates v ≡ true → Stands a v) (is : loads v.access ≡ true) (dry : writing v.access ≡ false) where
      stands_from : loads_from a ≤ v.time
      stands_from =
          let s = (stands (ap (λ (c : Bool). c || writing v.access) is)).kinds in
          let p = s.0 in
          let q = s.1 is in
          let r = q.0 in
          let t = q.1 in
          omega (arith, p, r, t)

      only : LoadsOnly f b owes bytes a → is_private owns h v.access ≡ false → v.time < b → (x : ℕ) → covers v.access x ≡ true → bytes x ≡ true
      only (none-early l) other early x on = absurd (let s = stands_from in omega (arith, l, s, early))
      only (by-map l same did agrees told) other early x on = elim (right l m opening a v at acting agrees) [
        | inl all ↦ told x (all x)
        | inr holds ↦ told x (holds.reads x is dry other on)
      ]
      only (any-bytes all) other early x on = all x

      -- the load is current
      current : (stays : List Bool) → length stays ≤ b → LoadsOnly f b owes bytes a → ArePassed stays m bytes a → is_private owns h v.access ≡ false → v.time ≤ length m → IsCurrent stays m v
      current stays few before passed other known k x laid on wet =
          elim (cases_lt v.time b) [
            | inr there ↦ late_current owns image h stays m opening a v acting is other known (omega (arith, few, there)) k x laid on wet
            | inl early ↦
                let r = read_of m opening a v (omega (arith, known)) x on image h (IsPlaced h m) is owns other acting in
                elim (passed k laid x (only before other early x on) wet) [
                  | inl seen ↦ let s = seen_before m opening a v.time x (v.source x) r.0 r.1 in omega (arith, seen, s)
                  | inr from ↦ let s = stands_from in before_source m opening a v.time x (v.source x) r.0 k r.1 (omega (arith, from, s)) wet
                ]
          ]

    passes : (stays : List Bool) → ArePassed stays m bytes a → ArePassed stays m bytes after
    passes stays passed k laid x on wet =
        let left = left_so owns h m a v in
        elim (passed k laid x on wet) [
          | inl seen ↦ inl (let s = left.seen x in omega (arith, seen, s))
          | inr from ↦ inr (let r = rises left in omega (arith, from, r))
        ]

    opens : operates v ≡ true → is_private owns h v.access ≡ false → b ≤ v.time → Agrees (f.constants a.pc) a.registers → LeavesOut f a.pc →
        (shuts (late_of owes v.access) v.access ≡ false → (x : ℕ) → f.bytes (late_of owes v.access) v.next x ≡ true → bytes x ≡ true) → LoadsOnly f b owes bytes after
    opens on other there agrees out told =
        let left = left_so owns h m a v in
        let time = behind_late m v (is_private owns h v.access) b other within there in
        elim (cases_Bool (shuts (late_of owes v.access) v.access)) [
          | inl shutting ↦ none-early (shut_first b owes left time shutting)
          | inr unshut ↦ elim (right out.0 m opening a v at acting agrees) [
            | inl all ↦ let e = all out.1 in let n = out.2 in absurd (cc)
            | inr holds ↦ by-map (late_of owes v.access) refl (did_first b owes left time) (agrees_behind out.0 holds)
                (λ x e. told unshut x (subst (λ (pc : ℕ). f.bytes (late_of owes v.access) pc x ≡ true) left.pc e))
          ]
        ]

  -- ---- runs

  abbrev AreLate : List Move → Type 0
  AreLate vs = owes ≡ false → (v : Move) → Contains vs v → IsLateStore owns h b v

  module _ (stays : List Bool) (few : length stays ≤ b) where
    along : (a c : RunState) (vs : List Move) → RunsOn owns image h m opening a vs c → AreLate vs → LoadsOnly f b owes bytes a → ArePassed stays m bytes a →
        LoadsOnly f b owes bytes c × ArePassed stays m bytes c
    along a _ _ on-none late first passed = (first, passed)
    along a _ _ (on-more c vs v run at acting stands) late first passed =
        let before = along a c vs run (λ pays u i. late pays u (Contains-append_left vs (v ∷ []) u i)) first passed in
        (stay_so c v at acting (λ pays. late pays v (Contains-append_right vs (v ∷ []) v here)) before.0, passes c v at acting stays before.1)
      where
        here : Contains (v ∷ []) v
        here = (0, omega arith, refl)

    all_current : (a c : RunState) (vs : List Move) → LoadsOnly f b owes bytes a → ArePassed stays m bytes a → RunsOn owns image h m opening a vs c → AreLate vs →
        (v : Move) → Contains vs v → loads v.access ≡ true → writing v.access ≡ false → is_private owns h v.access ≡ false → v.time ≤ length m → IsCurrent stays m v
    all_current a _ _ first passed on-none late u i is dry other known = let l = i.1 in absurd (omega (arith, l))
    all_current a _ _ first passed (on-more c vs v run at acting stands) late u i is dry other known =
        elim (Contains-append_cases vs (v ∷ []) u i) [
          | inl before ↦ all_current a c vs first passed run (λ pays w j. late pays w (Contains-append_left vs (v ∷ []) w j)) u before is dry other known
          | inr last ↦ by_last last
        ]
      where
        one : (u w : Move) → Contains (w ∷ []) u → w ≡ u
        one u w i = let l = i.1 in let e : i.0 ≡ 0 = omega (arith, l) in sym (ap (λ (k : ℕ). get_or (w ∷ []) k u) e) ∙ i.2

        by_last : Contains (v ∷ []) u → IsCurrent stays m u
        by_last last =
            let e = one u v last in
            let before = along a c vs run (λ pays w j. late pays w (Contains-append_left vs (v ∷ []) w j)) first passed in
            subst (IsCurrent stays m) e (current c v at acting stands
            (ap (λ (w : Move). loads w.access) e ∙ is) (ap (λ (w : Move). writing w.access) e ∙ dry) stays few before.0 before.1
            (ap (λ (w : Move). is_private owns h w.access) e ∙ other) (subst (λ (w : Move). w.time ≤ length m) (sym e) known))

pub stay_only : LoadsStayOnly
stay_only f owns image h b m opening owes bytes a v right within at acting stands late before = (
  stay_so f owns image h b m opening owes bytes right within a v at acting late before,
  λ is dry other early x on. only f owns image h b m opening owes bytes right within a v at acting stands is dry before other early x on,
)

pub late_open : LateOperationsOpen
late_open f owns image h b m opening owes bytes a v right within at acting on other there agrees out told =
    opens f owns image h b m opening owes bytes right within a v at acting on other there agrees out told

pub are_current : LoadsAreCurrent
are_current f owns image h b stays m opening owes bytes a c vs right few within first passed run late v i is dry other known =
    all_current f owns image h b m opening owes bytes right within stays few a c vs first passed run late v i is dry other known
