-- Memory behind one store more.
use Rattle.std.proofs.Common.{◌≡◌, ℕ, zero, suc, ◌+◌, ◌<◌, ◌≤◌, Bool, true, false, if◌then◌else◌, List, [], ◌∷◌, ◌++◌, get_or, length, take, refl, sym, ap, ◌∙◌, arith, length-append}
use Rattle.std.proofs.Math.Seq.{get_or-append_seam}
use Rattle.std.proofs.lemmas.List.{get_or_append_left, take_more}
use Rattle.hart_ends.proofs.Told.{pushed}
use Rattle.all_endings.specs.StoreLists.{Stored, byte_at, byte_in, has_byte, last_place, no_store}
use Rattle.all_endings.specs.Tables.{memory_of}
use Rattle.hart_states.specs.declared.listed_store.ListedStore.{ListedStore}
use Rattle.hart_states.specs.States.{listed, stored_of}
use Rattle.ending_nodes.specs.Memories.{IsAsBut, Leaves, left_by}

last_within : (m : List Stored) (x t : ℕ) → last_place m x t ≤ t
last_within m x zero = omega arith
last_within m x (suc t) = by_test (has_byte (get_or m t no_store) x) (last_within m x t)
  where
    by_test : (c : Bool) → last_place m x t ≤ t → (if c then suc t else last_place m x t) ≤ suc t
    by_test true r = omega arith
    by_test false r = omega (arith, r)

-- the stores of a longer list are those of the list as far as it goes
last_front : (m : List Stored) (s : Stored) (x k : ℕ) → k ≤ length m → last_place (m ++ s ∷ []) x k ≡ last_place m x k
last_front m s x zero l = refl
last_front m s x (suc k) l =
    ap (λ (t : Stored). if has_byte t x then suc k else last_place (m ++ s ∷ []) x k) (get_or_append_left m (s ∷ []) no_store k (omega (arith, l)))
    ∙ ap (λ (j : ℕ). if has_byte (get_or m k no_store) x then suc k else j) (last_front m s x k (omega (arith, l)))

byte_front : (m : List Stored) (s : Stored) (opening : ℕ → ℕ) (x p : ℕ) → p ≤ length m → byte_at (m ++ s ∷ []) opening x p ≡ byte_at m opening x p
byte_front m s opening x zero l = refl
byte_front m s opening x (suc k) l = ap (λ (t : Stored). byte_in t x) (get_or_append_left m (s ∷ []) no_store k (omega (arith, l)))

chosen : (m : List Stored) (s : Stored) (opening : ℕ → ℕ) (x : ℕ) (c : Bool) → byte_at (m ++ s ∷ []) opening x (last_place (m ++ s ∷ []) x (length m)) ≡ memory_of m opening x →
    byte_at (m ++ s ∷ []) opening x (if c then suc (length m) else last_place (m ++ s ∷ []) x (length m)) ≡ (if c then byte_in s x else memory_of m opening x)
chosen m s opening x true before = ap (λ (t : Stored). byte_in t x) (get_or-append_seam m s [] no_store)
chosen m s opening x false before = before

pub memory_push : (m : List Stored) (s : Stored) (opening : ℕ → ℕ) (x : ℕ) → memory_of (m ++ s ∷ []) opening x ≡ left_by s (memory_of m opening) x
memory_push m s opening x =
    let many : length (m ++ s ∷ []) ≡ suc (length m) = (let l = length-append m (s ∷ []) in omega (arith, l)) in
    let front : last_place (m ++ s ∷ []) x (length m) ≡ last_place m x (length m) = last_front m s x (length m) (omega arith) in
    let before : byte_at (m ++ s ∷ []) opening x (last_place (m ++ s ∷ []) x (length m)) ≡ memory_of m opening x =
    ap (byte_at (m ++ s ∷ []) opening x) front ∙ byte_front m s opening x (last_place m x (length m)) (last_within m x (length m)) in
    ap (λ (j : ℕ). byte_at (m ++ s ∷ []) opening x (last_place (m ++ s ∷ []) x j)) many
    ∙ (ap (λ (t : Stored). byte_at (m ++ s ∷ []) opening x (if has_byte t x then suc (length m) else last_place (m ++ s ∷ []) x (length m))) (get_or-append_seam m s [] no_store)
    ∙ chosen m s opening x (has_byte s x) before)

-- the same of a list as it is kept
pub memory_pushed : (m n : List ListedStore) (s : ListedStore) (opening : ℕ → ℕ) (x : ℕ) → n ≡ m ++ s ∷ [] → memory_of (listed n) opening x ≡ left_by (stored_of s) (memory_of (listed m) opening) x
memory_pushed m n s opening x e = ap (λ (l : List Stored). memory_of l opening x) (pushed stored_of m n s e) ∙ memory_push (listed m) (stored_of s) opening x

pub memory_more : (m : List ListedStore) (k : ℕ) (s d : ListedStore) (opening : ℕ → ℕ) (x : ℕ) → k < length m → s ≡ get_or m k d →
    memory_of (listed (take (k + 1) m)) opening x ≡ left_by (stored_of s) (memory_of (listed (take k m)) opening) x
memory_more m k s d opening x l at = memory_pushed (take k m) (take (k + 1) m) s opening x (take_more m k d l ∙ ap (λ (t : ListedStore). take k m ++ t ∷ []) (sym at))

-- ---- behind one store

pub left_off : (s : Stored) (before : ℕ → ℕ) (x : ℕ) → has_byte s x ≡ false → left_by s before x ≡ before x
left_off s before x e = ap (λ (b : Bool). if b then byte_in s x else before x) e

pub left_on : (s : Stored) (before : ℕ → ℕ) (x : ℕ) → has_byte s x ≡ true → left_by s before x ≡ byte_in s x
left_on s before x e = ap (λ (b : Bool). if b then byte_in s x else before x) e

pub left_after : (s : Stored) (f g : ℕ → ℕ) (x : ℕ) → f x ≡ g x → left_by s f x ≡ left_by s g x
left_after s f g x e = ap (λ (b : ℕ). if has_byte s x then byte_in s x else b) e

pub left_same : (s t : Stored) (before : ℕ → ℕ) (x : ℕ) → has_byte s x ≡ has_byte t x → byte_in s x ≡ byte_in t x → left_by s before x ≡ left_by t before x
left_same s t before x e f = ap (λ (b : Bool). if b then byte_in s x else before x) e ∙ ap (λ (n : ℕ). if has_byte t x then n else before x) f

off_by : (b c : Bool) → (b ≡ true → c ≡ true) → c ≡ false → b ≡ false
off_by true c f e = sym (f refl) ∙ e
off_by false c f e = refl

-- a store within another one has none of the bytes that this one hasn't
pub within_off : (s other : Stored) (x : ℕ) → ((y : ℕ) → has_byte other y ≡ true → has_byte s y ≡ true) → has_byte s x ≡ false → has_byte other x ≡ false
within_off s other x within e = off_by (has_byte other x) (has_byte s x) (within x) e

-- a list that leaves what a store does, and else what others do
pub stands_by : (s : Stored) (all behind : List Stored) → ((opening : ℕ → ℕ) (x : ℕ) → has_byte s x ≡ false → memory_of all opening x ≡ memory_of behind opening x) → Leaves s all →
    (opening : ℕ → ℕ) (x : ℕ) → memory_of all opening x ≡ left_by s (memory_of behind opening) x
stands_by s all behind others stands opening x = by_test (has_byte s x) refl
  where
    by_test : (c : Bool) → has_byte s x ≡ c → memory_of all opening x ≡ (if c then byte_in s x else memory_of behind opening x)
    by_test true e = stands opening x e
    by_test false e = others opening x e

-- one of the others was put behind
pub put_more : (behind : List ListedStore) (k : ℕ) (s : Stored) (old new : List Stored) (other d : ListedStore) → k < length behind → other ≡ get_or behind k d → IsAsBut s (stored_of other) old new →
    ((opening : ℕ → ℕ) (x : ℕ) → has_byte s x ≡ false → memory_of old opening x ≡ memory_of (listed (take k behind)) opening x) →
    (opening : ℕ → ℕ) (x : ℕ) → has_byte s x ≡ false → memory_of new opening x ≡ memory_of (listed (take (k + 1) behind)) opening x
put_more behind k s old new other d l at put before opening x e =
    put opening x e
    ∙ (left_after (stored_of other) (memory_of old opening) (memory_of (listed (take k behind)) opening) x (before opening x e) ∙ sym (memory_more behind k other d opening x l at))

-- a store more was laid
pub laid_more : (list : List ListedStore) (k : ℕ) (all given more : List ListedStore) (opening begins : ℕ → ℕ) (x : ℕ) (nobodys store d : ListedStore) → k < length list → store ≡ get_or list k d →
    has_byte (stored_of nobodys) x ≡ has_byte (stored_of store) x → byte_in (stored_of nobodys) x ≡ byte_in (stored_of store) x → given ≡ all →
    memory_of (listed more) opening x ≡ left_by (stored_of nobodys) (memory_of (listed given) opening) x → memory_of (listed all) opening x ≡ memory_of (listed (take k list)) begins x →
    memory_of (listed more) opening x ≡ memory_of (listed (take (k + 1) list)) begins x
laid_more list k all given more opening begins x nobodys store d l at bytes number same is before =
    is
    ∙ (left_same (stored_of nobodys) (stored_of store) (memory_of (listed given) opening) x bytes number
    ∙ (left_after (stored_of store) (memory_of (listed given) opening) (memory_of (listed (take k list)) begins) x (ap (λ (m : List ListedStore). memory_of (listed m) opening x) same ∙ before)
    ∙ sym (memory_more list k store d begins x l at)))
