-- The 4096 bytes of a page.
use Rattle.std.proofs.Common.{◌≡◌, ℕ, zero, suc, ◌+◌, ◌/◌, ◌%◌, ◌^◌, ◌<◌, ◌≤◌, List, [], ◌∷◌, ◌++◌, length, get_or, set, take, drop, replicate, refl, sym, ap, ◌∙◌, arith, ◌⊎◌, ⊎_elim, inl, inr, true, false, subst, map, Option, None, Some, IfSome}
use Rattle.std.proofs.lemmas.List.{length-append, length-replicate, length-take-le, length-map, get_or-map, get_or-take, get_or_append_left, get_or-replicate, get_or_past, take_at, ext_get_or, length-set}
use Rattle.std.proofs.lemmas.Bool.{cases_lt, false≢true}
use Rattle.std.proofs.Math.Nat.{mod-eq_of_lt}
use Rattle.pages.specs.declared.access.Width.{Width}
use Rattle.pages.specs.declared.access.Width.TheVariants.{W1, W2, W4, W8}
use Rattle.pages.specs.declared.access.Store.{Store}
use Rattle.pages.specs.Flat.{Page, blank, bytes_in, full, in_page, page_of}
use Rattle.pages.specs.Memory.{number_at, value_at, written, put, width_bytes}

pub length-blank : length blank ≡ 4096
unfolding blank
length-blank = length-replicate {A = ℕ} 4096 0

pub length-full : (p : Page) → length (full p) ≡ 4096
unfolding full
length-full p =
    let long : 4096 ≤ length (p.bytes ++ blank) = omega (arith, length-append p.bytes blank, length-blank) in
    length-map (take 4096 (p.bytes ++ blank)) (λ b. b % 2 ^ 8) ∙ length-take-le 4096 (p.bytes ++ blank) long

pub get_or-full : (p : Page) (k : ℕ) → k < 4096 → get_or (full p) k 0 ≡ get_or (p.bytes ++ blank) k 0 % 2 ^ 8
unfolding full
get_or-full p k h =
    let bs = p.bytes ++ blank in
    let long : 4096 ≤ length bs = omega (arith, length-append p.bytes blank, length-blank) in
    let inside : k < length (take 4096 bs) = omega (arith, length-take-le 4096 bs long) in
    get_or-map (λ b. b % 2 ^ 8) (take 4096 bs) k 0 0 inside ∙ ap (λ b. b % 2 ^ 8) (get_or-take 4096 bs k 0 h)

-- pages with the same bytes read the same
pub full_same : (p q : Page) → p.bytes ≡ q.bytes → full p ≡ full q
unfolding full
full_same p q e = ap (λ bs. map (λ b. b % 2 ^ 8) (take 4096 (bs ++ blank))) e

-- a page that holds bytes is those bytes
pub full_ready : (p : Page) → length p.bytes ≡ 4096 → ((k : ℕ) → get_or p.bytes k 0 < 2 ^ 8) → full p ≡ p.bytes
full_ready p e small =
    ext_get_or 0 (full p) p.bytes (length-full p ∙ sym e)
    (λ k h.
    let below : k < 4096 = omega (arith, length-full p) in
    let inside : k < length p.bytes = omega arith in
    get_or-full p k below ∙ ap (λ b. b % 2 ^ 8) (get_or_append_left p.bytes blank 0 k inside) ∙ mod-eq_of_lt (small k))

-- a byte of a page that nothing was written to
pub get_or-blank : (k : ℕ) → get_or blank k 0 ≡ 0
unfolding blank
get_or-blank k = ⊎_elim (λ h. get_or-replicate 4096 k 0 0 h) (λ h. get_or_past (replicate 4096 0) k 0 (omega (arith, length-replicate {A = ℕ} 4096 0))) (cases_lt k 4096)

no_bytes : (bs : List ℕ) → length bs ≡ 0 → bs ≡ []
no_bytes [] e = refl
no_bytes (b ∷ bs) e = cc

-- a page that holds no bytes reads 0
pub get_or-absent : (p : Page) (k : ℕ) → length p.bytes ≡ 0 → get_or (full p) k 0 ≡ 0
get_or-absent p k e =
    ⊎_elim
    (λ h. get_or-full p k h ∙ ap (λ bs. get_or (bs ++ blank) k 0 % 2 ^ 8) (no_bytes p.bytes e) ∙ ap (λ b. b % 2 ^ 8) (get_or-blank k))
    (λ h. get_or_past (full p) k 0 (omega (arith, length-full p)))
    (cases_lt k 4096)

-- a number of bytes that are 0
pub number_at-zero : (bs : List ℕ) → ((k : ℕ) → get_or bs k 0 ≡ 0) → (n a : ℕ) → number_at bs a n ≡ 0
number_at-zero bs z zero a = refl
number_at-zero bs z (suc n) a = rw (z a, number_at-zero bs z n (a + 1)) refl

pub value_at-zero : (bs : List ℕ) → ((k : ℕ) → get_or bs k 0 ≡ 0) → (a : ℕ) (w : Width) → value_at bs a w ≡ 0
value_at-zero bs z a W1 = number_at-zero bs z 1 a
value_at-zero bs z a W2 = number_at-zero bs z 2 a
value_at-zero bs z a W4 = number_at-zero bs z 4 a
value_at-zero bs z a W8 = number_at-zero bs z 8 a

pub length-written : (n : ℕ) (bs : List ℕ) (a v : ℕ) → length (written bs a v n) ≡ length bs
length-written zero bs a v = refl
length-written (suc n) bs a v = length-written n (set bs a (v % 2 ^ 8)) (a + 1) (v / 2 ^ 8) ∙ length-set bs a (v % 2 ^ 8)

-- a byte stays one after a write of a byte
small-set : (bs : List ℕ) (a b : ℕ) → ((k : ℕ) → get_or bs k 0 < 2 ^ 8) → b < 2 ^ 8 → (k : ℕ) → get_or (set bs a b) k 0 < 2 ^ 8
small-set [] a b small h k = small k
small-set (x ∷ xs) zero b small h zero = h
small-set (x ∷ xs) zero b small h (suc k) = small (suc k)
small-set (x ∷ xs) (suc a) b small h zero = small zero
small-set (x ∷ xs) (suc a) b small h (suc k) = small-set xs a b (λ j. small (suc j)) h k

pub small-written : (n : ℕ) (bs : List ℕ) (a v : ℕ) → ((k : ℕ) → get_or bs k 0 < 2 ^ 8) → (k : ℕ) → get_or (written bs a v n) k 0 < 2 ^ 8
small-written zero bs a v small = small
small-written (suc n) bs a v small = small-written n (set bs a (v % 2 ^ 8)) (a + 1) (v / 2 ^ 8) (small-set bs a (v % 2 ^ 8) small (omega arith))

-- a store within a page that is ready
pub put_page : (p q : Page) (s : Store) → length p.bytes ≡ 4096 → ((k : ℕ) → get_or p.bytes k 0 < 2 ^ 8) → q.bytes ≡ written p.bytes (s.address % 4096) s.value (width_bytes s.width) → full q ≡ put (full p) (in_page s)
unfolding put
put_page p q s e small is =
    let w = written p.bytes (s.address % 4096) s.value (width_bytes s.width) in
    let size : length q.bytes ≡ 4096 = ap length is ∙ length-written (width_bytes s.width) p.bytes (s.address % 4096) s.value ∙ e in
    let low : (k : ℕ) → get_or q.bytes k 0 < 2 ^ 8 = subst (λ (bs : List ℕ). (k : ℕ) → get_or bs k 0 < 2 ^ 8) (sym is) (small-written (width_bytes s.width) p.bytes (s.address % 4096) s.value small) in
    full_ready q size low ∙ is ∙ ap (λ bs. written bs (s.address % 4096) s.value (width_bytes s.width)) (sym (full_ready p e small))

-- one of bytes of its own that nothing was written to
pub full_blank : full (record { own = true; bytes = blank }) ≡ blank
full_blank = full_ready (record { own = true; bytes = blank }) length-blank (λ k. rw (get_or-blank k) (omega arith))

-- one that holds nothing reads the same
pub full_absent : (p : Page) → length p.bytes ≡ 0 → full p ≡ blank
full_absent p e =
    ext_get_or 0 (full p) blank (length-full p ∙ sym length-blank)
    (λ k h. get_or-absent p k e ∙ sym (get_or-blank k))

-- ---- the page of own bytes and of shared ones

-- one with bytes of its own
pub page_own : (bs shared : List ℕ) → 0 < length bs → page_of bs shared ≡ record { own = true; bytes = bs }
page_own [] shared h = absurd (omega arith)
page_own (b ∷ bs) shared h = refl

-- one with none of its own
pub page_apart : (bs shared : List ℕ) → length bs ≡ 0 → page_of bs shared ≡ record { own = false; bytes = shared }
page_apart [] shared e = refl
page_apart (b ∷ bs) shared e = cc

pub own_bytes : (bs shared : List ℕ) → (page_of bs shared).own ≡ true → 0 < length bs
own_bytes [] shared h = absurd (false≢true h)
own_bytes (b ∷ bs) shared h = omega arith

pub no_own_bytes : (bs shared : List ℕ) → (page_of bs shared).own ≡ false → length bs ≡ 0
no_own_bytes [] shared h = refl
no_own_bytes (b ∷ bs) shared h = absurd (false≢true (sym h))

-- what a page with no bytes of its own holds
pub apart_bytes : (bs shared : List ℕ) → length bs ≡ 0 → (page_of bs shared).bytes ≡ shared
apart_bytes bs shared e = ap (λ (p : Page). p.bytes) (page_apart bs shared e)

-- a page that holds nothing has nothing of its own
pub none_own : (bs shared : List ℕ) → length (page_of bs shared).bytes ≡ 0 → (page_of bs shared).own ≡ false
none_own [] shared e = refl
none_own (b ∷ bs) shared e = cc

pub shared_size : {X : Type 0} (o : Option X) (f : X → List ℕ) → IfSome o (λ x. length (f x) ≡ 4096) → (length (bytes_in o f) ≡ 0) ⊎ (length (bytes_in o f) ≡ 4096)
shared_size None f h = inl refl
shared_size (Some x) f h = inr h

-- a page holds 4096 bytes or none
pub held_size : (bs shared : List ℕ) → (length bs ≡ 0) ⊎ (length bs ≡ 4096) → (length shared ≡ 0) ⊎ (length shared ≡ 4096) → (length (page_of bs shared).bytes ≡ 0) ⊎ (length (page_of bs shared).bytes ≡ 4096)
held_size [] shared h k = k
held_size (b ∷ bs) shared h k = h

pub own_size : (bs shared : List ℕ) → (length bs ≡ 0) ⊎ (length bs ≡ 4096) → (page_of bs shared).own ≡ true → length bs ≡ 4096
own_size bs shared h own = omega (arith, h, own_bytes bs shared own)

-- a store to own bytes, which come back to their vector
pub put_back : (bs w shared : List ℕ) (s : Store) (n : ℕ) → length bs ≡ 4096 → n ≡ 4096 → ((k : ℕ) → get_or bs k 0 < 2 ^ 8) → w ≡ written bs (s.address % 4096) s.value (width_bytes s.width) →
    full (page_of (take n (w ++ drop (length w) bs)) shared) ≡ put (full (page_of bs shared)) (in_page s)
put_back bs w shared s n e m small is =
    let size : length w ≡ 4096 = ap length is ∙ length-written (width_bytes s.width) bs (s.address % 4096) s.value ∙ e in
    let back : take n (w ++ drop (length w) bs) ≡ w = take_at w (drop (length w) bs) n (size ∙ sym m) in
    ap (λ zs. full (page_of zs shared)) back
    ∙ ap full (page_own w shared (omega arith))
    ∙ put_page (record { own = true; bytes = bs }) (record { own = true; bytes = w }) s e small is
    ∙ ap (λ q. put (full q) (in_page s)) (sym (page_own bs shared (omega arith)))

-- bytes of its own in the place of equal shared ones
pub shared_taken : (own bs shared : List ℕ) → own ≡ shared → length shared ≡ 4096 → (page_of bs shared).own ≡ false → full (page_of own []) ≡ full (page_of bs shared)
shared_taken own bs shared e size h =
    let some : 0 < length own = omega (arith, ap length e) in
    full_same (page_of own []) (page_of bs shared) (ap (λ (p : Page). p.bytes) (page_own own [] some) ∙ e ∙ sym (apart_bytes bs shared (no_own_bytes bs shared h)))

-- the same in the place of none
pub blank_taken : (own bs shared : List ℕ) → own ≡ blank → length shared ≡ 0 → (page_of bs shared).own ≡ false → full (page_of own []) ≡ full (page_of bs shared)
blank_taken own bs shared e none h =
    let some : 0 < length blank = omega (arith, length-blank) in
    ap (λ bs. full (page_of bs [])) e ∙ ap full (page_own blank [] some) ∙ full_blank
    ∙ sym (full_absent (page_of bs shared) (ap length (apart_bytes bs shared (no_own_bytes bs shared h)) ∙ none))
