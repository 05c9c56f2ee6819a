-- Bytes laid over others, and the pages that pieces make.
use Rattle.std.proofs.Common.{◌≡◌, ℕ, suc, zero, ◌+◌, ◌-◌, ◌*◌, ◌^◌, ◌<◌, ◌≤◌, List, [], ◌∷◌, ◌++◌, length, map, take, drop, get_or, refl, sym, ap, ◌∙◌, arith, true, false, if◌then◌else◌, ◌⊎◌, ⊎_elim, inl, inr, min, max, slice_range, slice_index}
use Rattle.std.proofs.lemmas.Bool.{cases_lt}
use Rattle.std.proofs.lemmas.Bool.Decides.{nat_tests}
use Rattle.std.proofs.lemmas.List.{append-nil, drop_more, ext_get_or, get_or-append_right, get_or-drop, get_or-take, get_or_append_left, length-drop, length-take, length-take-le, map-append, take_at}
use Rattle.std.specs.List.{range_with_len}
use Rattle.pages.specs.declared.access.Piece.{Piece}
use Rattle.pages.specs.Flat.{Page, full, flat, is_ready, page_of}
use Rattle.pages.specs.Initial.{bytes_from, get_or-bytes_from, is_touched, length-bytes_from, piece_byte}
use Rattle.pages.specs.Memory.{in_range}
use Rattle.pages.proofs.Page.{full_ready, length-full, page_own}
use Rattle.pages.proofs.Lent.{flat-append}
use borrow.Rule.Slice.PartMut.{put_mid}

in_range_yes : (a n k : ℕ) → a ≤ k → k < a + n → in_range a n k ≡ true
in_range_yes a n k l h = grind (arith, nat_tests)

in_range_no : (a n k : ℕ) → (k < a) ⊎ (a + n ≤ k) → in_range a n k ≡ false
in_range_no a n k h = grind (arith, nat_tests)

-- a byte of a list with others laid over it
pub laid_at : (xs ys : List ℕ) (a n k : ℕ) → a + length ys ≤ length xs → n ≡ length ys → get_or (put_mid a n xs ys) k 0 ≡ (if in_range a (length ys) k then get_or ys (k - a) 0 else get_or xs k 0)
laid_at xs ys a n k h e =
    let front : length (take a xs) ≡ a = length-take-le a xs (omega arith) in
    let back = drop n (drop a xs) in
    ⊎_elim
    (λ (lt : k < a).
    let lt' : k < length (take a xs) = omega arith in
    get_or_append_left (take a xs) (ys ++ back) 0 k lt' ∙ get_or-take a xs k 0 lt ∙ sym (ap (λ b. if b then get_or ys (k - a) 0 else get_or xs k 0) (in_range_no a (length ys) k (inl lt))))
    (λ (ge : a ≤ k).
    get_or-append_right (take a xs) (ys ++ back) a k 0 front ge
    ∙ ⊎_elim
    (λ (lt : k < a + length ys).
    let lt' : k - a < length ys = omega arith in
    get_or_append_left ys back 0 (k - a) lt' ∙ sym (ap (λ b. if b then get_or ys (k - a) 0 else get_or xs k 0) (in_range_yes a (length ys) k ge lt)))
    (λ (past : a + length ys ≤ k).
    let place : a + (n + (k - a - n)) ≡ k = omega arith in
    let past' : n ≤ k - a = omega arith in
    get_or-append_right ys back n (k - a) 0 (sym e) past'
    ∙ get_or-drop n (drop a xs) (k - a - n) 0 ∙ get_or-drop a xs (n + (k - a - n)) 0 ∙ ap (λ j. get_or xs j 0) place
    ∙ sym (ap (λ b. if b then get_or ys (k - a) 0 else get_or xs k 0) (in_range_no a (length ys) k (inr past))))
    (cases_lt k (a + length ys)))
    (cases_lt k a)

-- a piece laid into the page at an address
pub laid_piece : (bs : List ℕ) (p a from to k x : ℕ) → from ≡ max p a → to ≡ min (p + length bs) (a + 4096) → from < to → k < 4096 → (if in_range (from - a) (length (slice_range bs (from - p) (to - p))) k then get_or (slice_range bs (from - p) (to - p)) (k - (from - a)) 0 else x) ≡ (if in_range p (length bs) (a + k) then get_or bs (a + k - p) 0 else x)
laid_piece bs p a from to k x ef et l h =
    let size : length (slice_range bs (from - p) (to - p)) ≡ to - from = length-take (to - p - (from - p)) (drop (from - p) bs) ∙ omega (arith, length-drop (from - p) bs) in
    ap (λ n. if in_range (from - a) n k then get_or (slice_range bs (from - p) (to - p)) (k - (from - a)) 0 else x) size
    ∙ ⊎_elim
    (λ (lt : a + k < from). ap (λ b. if b then get_or (slice_range bs (from - p) (to - p)) (k - (from - a)) 0 else x) (in_range_no (from - a) (to - from) k (inl (omega arith))) ∙ sym (ap (λ b. if b then get_or bs (a + k - p) 0 else x) (in_range_no p (length bs) (a + k) (inl (omega arith)))))
    (λ (ge : from ≤ a + k).
    ⊎_elim
    (λ (lt : a + k < to).
    let place : from - p + (k - (from - a)) ≡ a + k - p = omega arith in
    let inside : k - (from - a) < to - p - (from - p) = omega arith in
    ap (λ b. if b then get_or (slice_range bs (from - p) (to - p)) (k - (from - a)) 0 else x) (in_range_yes (from - a) (to - from) k (omega arith) (omega arith))
    ∙ get_or-take (to - p - (from - p)) (drop (from - p) bs) (k - (from - a)) 0 inside ∙ get_or-drop (from - p) bs (k - (from - a)) 0 ∙ ap (λ j. get_or bs j 0) place
    ∙ sym (ap (λ b. if b then get_or bs (a + k - p) 0 else x) (in_range_yes p (length bs) (a + k) (omega arith) (omega arith))))
    (λ (past : to ≤ a + k). ap (λ b. if b then get_or (slice_range bs (from - p) (to - p)) (k - (from - a)) 0 else x) (in_range_no (from - a) (to - from) k (inr (omega arith))) ∙ sym (ap (λ b. if b then get_or bs (a + k - p) 0 else x) (in_range_no p (length bs) (a + k) (inr (omega arith)))))
    (cases_lt (a + k) to))
    (cases_lt (a + k) from)

-- a page whose bytes are those of the pieces
pub page_from : (q : Page) (pieces : List Piece) (a : ℕ) → ((k : ℕ) → k < 4096 → get_or (full q) k 0 ≡ piece_byte pieces (a + k)) → full q ≡ bytes_from pieces a 4096
page_from q pieces a h =
    ext_get_or 0 (full q) (bytes_from pieces a 4096) (length-full q ∙ sym (length-bytes_from pieces a 4096))
    (λ k l.
    let below : k < 4096 = omega (arith, length-full q) in
    h k below ∙ sym (get_or-bytes_from pieces a 4096 k below))

range-append : (n m a : ℕ) → range_with_len a (n + m) ≡ range_with_len a n ++ range_with_len (a + n) m
range-append zero m a = let e : a ≡ a + 0 = omega arith in let z : 0 + m ≡ m = omega arith in ap (λ j. range_with_len a j) z ∙ ap (λ j. range_with_len j m) e
range-append (suc n) m a =
    let e : a + 1 + n ≡ a + suc n = omega arith in
    let s : suc n + m ≡ suc (n + m) = omega arith in
    ap (λ j. range_with_len a j) s ∙ ap (λ r. a ∷ r) (range-append n m (a + 1) ∙ ap (λ j. range_with_len (a + 1) n ++ range_with_len j m) e)

bytes_from-append : (pieces : List Piece) (n m : ℕ) → bytes_from pieces 0 (n + m) ≡ bytes_from pieces 0 n ++ bytes_from pieces n m
unfolding bytes_from
bytes_from-append pieces n m =
    let z : 0 + n ≡ n = omega arith in
    ap (map (piece_byte pieces)) (range-append n m 0 ∙ ap (λ j. range_with_len 0 n ++ range_with_len j m) z) ∙ map-append (piece_byte pieces) (range_with_len 0 n) (range_with_len n m)

pub bytes_from-none : (pieces : List Piece) → bytes_from pieces 0 0 ≡ []
unfolding bytes_from
bytes_from-none pieces = refl

-- one page more
pub pages_more : (pieces : List Piece) (ps : List Page) (q : Page) (i : ℕ) → flat ps ≡ bytes_from pieces 0 (4096 * i) → full q ≡ bytes_from pieces (4096 * i) 4096 → flat (ps ++ q ∷ []) ≡ bytes_from pieces 0 (4096 * (i + 1))
pages_more pieces ps q i e f =
    let size : 4096 * i + 4096 ≡ 4096 * (i + 1) = omega arith in
    flat-append ps (q ∷ []) ∙ ap (λ r. flat ps ++ r) (append-nil (full q)) ∙ ap (λ r. r ++ full q) e ∙ ap (λ r. bytes_from pieces 0 (4096 * i) ++ r) f
    ∙ sym (bytes_from-append pieces (4096 * i) 4096) ∙ ap (bytes_from pieces 0) size

pub touched_more : (pieces : List Piece) (ps : List Page) (q : Page) (i : ℕ) → map is_ready ps ≡ map (is_touched pieces) (range_with_len 0 i) → is_ready q ≡ is_touched pieces i → map is_ready (ps ++ q ∷ []) ≡ map (is_touched pieces) (range_with_len 0 (i + 1))
touched_more pieces ps q i e f =
    let z : 0 + i ≡ i = omega arith in
    map-append is_ready ps (q ∷ []) ∙ ap (λ r. r ++ is_ready q ∷ []) e ∙ ap (λ b. map (is_touched pieces) (range_with_len 0 i) ++ b ∷ []) (f ∙ ap (is_touched pieces) (sym z))
    ∙ sym (map-append (is_touched pieces) (range_with_len 0 i) (range_with_len (0 + i) 1)) ∙ ap (map (is_touched pieces)) (sym (range-append i 1 0))

-- bytes laid over those of a page
filled : (p q : Page) (bytes : List ℕ) (place : ℕ) → length p.bytes ≡ 4096 → length q.bytes ≡ 4096 → ((j : ℕ) → get_or p.bytes j 0 < 2 ^ 8) → ((j : ℕ) → get_or q.bytes j 0 < 2 ^ 8) →
    ((j : ℕ) → get_or q.bytes j 0 ≡ (if in_range place (length bytes) j then get_or bytes (j - place) 0 else get_or p.bytes j 0)) → (k : ℕ) → get_or (full q) k 0 ≡ (if in_range place (length bytes) k then get_or bytes (k - place) 0 else get_or (full p) k 0)
filled p q bytes place e f old new laid k =
    ap (λ bs. get_or bs k 0) (full_ready q f new) ∙ laid k
    ∙ ap (λ x. if in_range place (length bytes) k then get_or bytes (k - place) 0 else x) (ap (λ bs. get_or bs k 0) (sym (full_ready p e old)))

-- the same, where they come back to their vector
pub laid_back : (bs w shared bytes : List ℕ) (place n : ℕ) → length bs ≡ 4096 → n ≡ 4096 → length w ≡ length bs → ((j : ℕ) → get_or bs j 0 < 2 ^ 8) → ((j : ℕ) → get_or w j 0 < 2 ^ 8) →
    ((j : ℕ) → get_or w j 0 ≡ (if in_range place (length bytes) j then get_or bytes (j - place) 0 else get_or bs j 0)) → (k : ℕ) → get_or (full (page_of (take n (w ++ drop (length w) bs)) shared)) k 0 ≡ (if in_range place (length bytes) k then get_or bytes (k - place) 0 else get_or (full (page_of bs shared)) k 0)
laid_back bs w shared bytes place n e m same old new laid k =
    let size : length w ≡ 4096 = same ∙ e in
    let back : take n (w ++ drop (length w) bs) ≡ w = take_at w (drop (length w) bs) n (size ∙ sym m) in
    ap (λ q. get_or (full q) k 0) (ap (λ zs. page_of zs shared) back ∙ page_own w shared (omega arith))
    ∙ filled (record { own = true; bytes = bs }) (record { own = true; bytes = w }) bytes place e size old new laid k
    ∙ ap (λ q. if in_range place (length bytes) k then get_or bytes (k - place) 0 else get_or (full q) k 0) (sym (page_own bs shared (omega arith)))

-- the pages that a run of pieces leaves to the page at an address
pub piece_more : (ps : List Piece) (i x y : ℕ) (z : Piece) → i < length ps → y ≡ piece_byte (drop (i + 1) ps) x → (if in_range (get_or ps i z).start (length (get_or ps i z).bytes.items) x then slice_index (get_or ps i z).bytes.items (x - (get_or ps i z).start) else y) ≡ piece_byte (drop i ps) x
piece_more ps i x y z l e = rw (drop_more ps i z l, e) refl
