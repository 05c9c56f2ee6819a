-- Walked spots leave the ending of every execution in a table.
use Rattle.std.proofs.Common.{◌≡◌, ℕ, zero, suc, ◌+◌, ◌<◌, not, nat_le, nat_lt, Bool, true, false, if◌then◌else◌, List, [], ◌∷◌, ◌++◌, length, map, get_or, Contains, Option, Some, None, refl, sym, ap, ◌∙◌, subst, arith}
use Rattle.std.proofs.lemmas.Bool.{and_parts, le-leb, leb-true, lt-ltb, ltb-true}
use Rattle.std.proofs.lemmas.List.{append-nil}
use Rattle.pages.specs.declared.access.Range.{Range}
use Rattle.pages.specs.Memory.{Memory, in_range}
use Rattle.hart_step.specs.declared.hart.Hart.{Hart}
use Rattle.hart_step.specs.declared.hart.Stop.{Stop}
use Rattle.all_endings.specs.Endings.{Ending, bytes_from, opening_bytes}
use Rattle.all_endings.specs.Offering.{AreFresh, IsClosed, IsOffered}
use Rattle.all_endings.specs.RunStates.{run_start}
use Rattle.all_endings.specs.StoreLists.{Stored, byte_at, last_place}
use Rattle.all_endings.specs.Tables.{HartsEnd, memory_of}
use Rattle.all_endings.specs.Walking.{HartEnding, seen_after}
use Rattle.all_endings.proofs.Closing.{hart_in}
use Rattle.all_endings.proofs.Sources.{both}
use Rattle.all_endings.proofs.Tables.{nodes_whole}
use Rattle.all_endings.proofs.Walking.{choice, endings_equal}
use Rattle.private_bytes.specs.Owners.{is_own}
use Rattle.private_bytes.specs.PrivateWalks.{AreNobodys, IsLookedThroughApart, PrivateTablesAreWhole}
use Rattle.private_bytes.proofs.Covering.{ends_apart, from_start, keeps_offered, no_open_call, offered_apart}
use Rattle.private_bytes.proofs.KeptLists.{are_kept, concerns, is_kept_by, is_shared, kept_with}
use Rattle.private_bytes.proofs.OwnStores.{fits_may}
use Rattle.private_bytes.proofs.SharedLists.{byte_passed, last_passed, passed, passed_all, those, those_more}

-- ---- bytes that are looked at

-- two memories that agree on ranges are seen alike
bytes_alike : (f g : ℕ → ℕ) (a n : ℕ) → ((x : ℕ) → in_range a n x ≡ true → f x ≡ g x) → bytes_from f a n ≡ bytes_from g a n
bytes_alike f g a zero same = refl
bytes_alike f g a (suc n) same =
    ap (λ (y : ℕ). y ∷ bytes_from f (a + 1) n) (same a (both (nat_le a a) (nat_lt a (a + suc n)) (le-leb a a (omega arith)) (lt-ltb a (a + suc n) (omega arith))))
    ∙ ap (λ (bs : List ℕ). g a ∷ bs) (bytes_alike f g (a + 1) n (λ x e.
    let p = and_parts (nat_le (a + 1) x) (nat_lt x (a + 1 + n)) e in
    let l = leb-true (a + 1) x p.0 in
    let k = ltb-true x (a + 1 + n) p.1 in
    same x (both (nat_le a x) (nat_lt x (a + suc n)) (le-leb a x (omega (arith, l))) (lt-ltb x (a + suc n) (omega (arith, k))))))

pub ranges_alike : (f g : ℕ → ℕ) (see : List Range) → ((r : Range) (x : ℕ) → Contains see r → in_range r.start r.len x ≡ true → f x ≡ g x) →
    map (λ (r : Range). bytes_from f r.start r.len) see ≡ map (λ (r : Range). bytes_from g r.start r.len) see
ranges_alike f g [] same = refl
ranges_alike f g (r ∷ see) same =
    ap (λ (bs : List ℕ). bs ∷ map (λ (q : Range). bytes_from f q.start q.len) see) (bytes_alike f g r.start r.len (λ x e. same r x (0, omega arith, refl) e))
    ∙ ap (λ (bs : List (List ℕ)). bytes_from g r.start r.len ∷ bs)
    (ranges_alike f g see (λ q x there e. same q x (suc there.0, (let l = there.1 in omega (arith, l)), there.2) e))

-- shared stores leave in nobody's own bytes what all of them do
memory_same : (owns : ℕ → ℕ → Bool) (harts : ℕ) (opening : ℕ → ℕ) (m : List Stored) (x : ℕ) → are_kept owns harts m ≡ true → ((h : ℕ) → h < harts → is_own owns h x ≡ false) →
    memory_of (those (is_shared owns) m) opening x ≡ memory_of m opening x
memory_same owns harts opening m x kept none =
    let all = passed_all (is_shared owns) m 0 in
    let e : length m ≡ length m + 0 = omega arith in
    let end : passed (is_shared owns) m (length m) ≡ length (those (is_shared owns) m) = ap (passed (is_shared owns) m) e ∙ omega (arith, all) in
    let c = concerns owns harts m x kept none in
    ap (byte_at (those (is_shared owns) m) opening x) (ap (last_place (those (is_shared owns) m) x) (sym end) ∙ last_passed (is_shared owns) m x c (length m) (omega arith))
    ∙ byte_passed (is_shared owns) m opening x c (length m) (omega arith)

pub seen_same : (owns : ℕ → ℕ → Bool) (image : Memory) (harts : ℕ) (see : List Range) → AreNobodys owns harts see → (m : List Stored) → are_kept owns harts m ≡ true →
    seen_after image see (those (is_shared owns) m) ≡ seen_after image see m
seen_same owns image harts see nobodys m kept = ranges_alike (memory_of (those (is_shared owns) m) (opening_bytes image)) (memory_of m (opening_bytes image)) see
    (λ r x there e. memory_same owns harts (opening_bytes image) m x kept (λ h small. nobodys r x h there e small))

-- ---- together

-- the shared stores of a list with one more, by a hart whose own byte it is to, or not
pub those_next : (owns : ℕ → ℕ → Bool) (m : List Stored) (h : ℕ) (s : Stored) → s.hart ≡ h → (b : Bool) → is_own owns h s.address ≡ b →
    those (is_shared owns) (m ++ s ∷ []) ≡ those (is_shared owns) m ++ (if not b then s ∷ [] else [])
those_next owns m h s hart b e =
    those_more (is_shared owns) m s
    ∙ ap (λ (c : Bool). those (is_shared owns) m ++ (if c then s ∷ [] else [])) (ap (λ (j : ℕ). not (is_own owns j s.address)) hart ∙ ap not e)

module _ (owns : ℕ → ℕ → Bool) (k : ℕ) (image : Memory) (hs : List Hart) (see : List Range) (nodes : List (List Stored)) (table : List Ending) (fresh : AreFresh hs) (nobodys : AreNobodys owns (length hs) see)
    (begins : Contains nodes []) (looked : (m : List Stored) → Contains nodes m → IsLookedThroughApart owns k image hs see nodes table m) where
  -- a list of all stores counts where its shared stores are a node, and each of its stores keeps to its hart's bytes
  abbrev IsWhole : List Stored → Type 0
  IsWhole m = Contains nodes (those (is_shared owns) m) × (are_kept owns (length hs) m ≡ true)

  grows : (m : List Stored) (h : ℕ) (start : Hart) (s : Stored) → IsWhole m → h < length hs → start ≡ get_or hs h start → IsOffered k image h m (opening_bytes image) start s → IsWhole (m ++ s ∷ [])
  grows m h start s whole small at o =
      let sized = (fresh h start small at).registers in
      let l = looked (those (is_shared owns) m) whole.0 in
      let w = l.walks h start small at in
      let keeps = keeps_offered owns k image (length hs) h m whole.1 small start sized (l.offered h) (get_or l.ways h []) w.0 w.1 s o in (
        by_owner (λ public. l.grows h s small (offered_apart owns k image (length hs) h m whole.1 small start sized (l.offered h) (get_or l.ways h []) w.0 w.1 s o public)) (is_own owns h s.address) refl,
        kept_with owns (length hs) m s whole.1 (is_kept_by owns (length hs) s keeps),
      )
    where
      by_owner : (is_own owns h s.address ≡ false → Contains nodes (those (is_shared owns) m ++ s ∷ [])) → (b : Bool) → is_own owns h s.address ≡ b → Contains nodes (those (is_shared owns) (m ++ s ∷ []))
      by_owner next true e = subst (Contains nodes) (sym (those_next owns m h s o.offers.hart true e ∙ append-nil (those (is_shared owns) m))) whole.0
      by_owner next false e = subst (Contains nodes) (sym (those_next owns m h s o.offers.hart false e)) (next e)

  closed : IsClosed k image hs IsWhole
  closed = record {
    begins = (begins, refl);
    grows = grows;
    calls = λ m h start whole small at vs a short runs may call.
        let sized = (fresh h start small at).registers in
        let l = looked (those (is_shared owns) m) whole.0 in
        let w = l.walks h start small at in
        let q = from_start owns k image (length hs) h m whole.1 small start sized (l.offered h) (get_or l.ways h []) w.0 w.1 vs a runs
        (λ x. fits_may image h m (opening_bytes image) x (run_start start) vs a runs may) short in
        no_open_call owns k image (length hs) h m whole.1 small start sized q.0 vs a None q.2 (λ ecall. w.1.calls q.0 q.1 ecall) call;
  }

  -- ---- endings

  module _ (m : List Stored) (stops : List (Option Stop)) (outputs : List (List ℕ)) (whole : IsWhole m) (ends : HartsEnd k image hs m stops outputs) where
    end_at : (h : ℕ) → h < length hs → (e : HartEnding) × Contains (get_or (looked (those (is_shared owns) m) whole.0).ways h []) e × (get_or stops h None ≡ Some e.stop) × (get_or outputs h [] ≡ e.output)
    end_at h small =
        let l = looked (those (is_shared owns) m) whole.0 in
        let start = hart_in hs h small in
        let w = l.walks h start.0 small start.1 in
        ends_apart owns k image (length hs) h m whole.1 small start.0 (fresh h start.0 small start.1).registers (l.offered h) (get_or l.ways h []) w.0 w.1 (get_or stops h None) (get_or outputs h [])
        (ends.each h start.0 small start.1)

    has_ending : Contains table (record { stops = stops; outputs = outputs; seen = seen_after image see m })
    has_ending =
        let l = looked (those (is_shared owns) m) whole.0 in
        let c = choice (length hs) l.ways stops outputs l.as_many ends.as_many_stops ends.as_many_outputs end_at in
        subst (λ (bs : List (List ℕ)). Contains table (record { stops = stops; outputs = outputs; seen = bs })) (seen_same owns image (length hs) see nobodys m whole.1)
        (subst (λ (e : Ending). Contains table e) (endings_equal _ stops _ outputs (seen_after image see (those (is_shared owns) m)) c.2 c.3) (l.has c.0 c.1))

pub private_whole : PrivateTablesAreWhole
private_whole owns k image hs c see nodes table fresh enough nobodys begins looked =
    nodes_whole k image hs c see (IsWhole owns k image hs see nodes table fresh nobodys begins looked) table fresh enough (closed owns k image hs see nodes table fresh nobodys begins looked)
    (λ m stops outputs whole ends. has_ending owns k image hs see nodes table fresh nobodys begins looked m stops outputs whole ends)
