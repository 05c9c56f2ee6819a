-- The bytes that a line covers, written eight at a time.
use Rattle.std.proofs.Common.{◌≡◌, ℕ, zero, suc, ◌+◌, ◌*◌, ◌/◌, ◌%◌, ◌^◌, ◌<◌, Bool, true, List, [], ◌∷◌, ◌++◌, Option, Some, None, refl, sym, ap, ◌∙◌, arith, All, set, subst, slice_index, ◌-◌, bit_and}
use Rattle.std.proofs.lemmas.Bool.{eq-eqb}
use Rattle.std.proofs.lemmas.List.Elements.{All-head, All-tail}
use Rattle.std.proofs.lemmas.Nat.Bits.{shr_and_one}
use Rattle.std.proofs.Math.Nat.{mod-eq_of_lt}
use Rattle.pages.specs.declared.access.Width.{Width}
use Rattle.pages.specs.declared.access.Width.TheVariants.{W1, W8}
use Rattle.pages.specs.Flat.{Page, full, in_page, is_ready}
use Rattle.pages.specs.Memory.{after, number_at, put, written}
use Rattle.store_buffer.specs.declared.line.Line.{Line}
use Rattle.store_buffer.specs.Covered.{one_byte, stores_of}
use Rattle.store_buffer.specs.Lines.{byte_if, line_at, line_bytes, put_first, whole_line}
use Rattle.store_buffer.proofs.LineBits.{all_covered, none_covered}
use Rattle.commit_phase.specs.Writing.{Writable, Written, index_bytes, word_bytes}

put_first-append : (a : ℕ) (o : Option ℕ) (es fs : List (ℕ × ℕ)) → put_first a o (es ++ fs) ≡ put_first a o es ++ fs
put_first-append a None es fs = refl
put_first-append a (Some b) es fs = refl

-- the covered bytes of some indices, and of those after them
pub line_bytes-split : (m n k : ℕ) (a : ℕ) (l : Line) (j i : ℕ) → k ≡ m + n → i ≡ j + m → line_bytes a l j k ≡ line_bytes a l j m ++ line_bytes a l i n
line_bytes-split zero n k a l j i e f =
    let here : j ≡ i = omega arith in
    let all : k ≡ n = omega arith in
    ap (λ (x : ℕ). line_bytes a l j x) all ∙ ap (λ (x : ℕ). line_bytes a l x n) here
line_bytes-split (suc m) n zero a l j i e f = absurd (omega arith)
line_bytes-split (suc m) n (suc k) a l j i e f =
    ap (put_first (a + j) (line_at l j)) (line_bytes-split m n k a l (j + 1) i (omega arith) (omega arith))
    ∙ put_first-append (a + j) (line_at l j) (line_bytes a l (j + 1) m) (line_bytes a l i n)

-- indices of which none is covered
pub line_bytes-none : (n a : ℕ) (l : Line) (j : ℕ) → ((i : ℕ) → i < n → line_at l (j + i) ≡ None) → line_bytes a l j n ≡ []
line_bytes-none zero a l j h = refl
line_bytes-none (suc n) a l j h =
    let here : line_at l j ≡ None = ap (line_at l) (omega arith) ∙ h 0 (omega arith) in
    ap (λ (o : Option ℕ). put_first (a + j) o (line_bytes a l (j + 1) n)) here
    ∙ line_bytes-none n a l (j + 1) (λ i q. ap (line_at l) (omega arith) ∙ h (suc i) (omega arith))

-- indices of which each is covered
abbrev pub AllCovered : Line → ℕ → ℕ → Type 0
AllCovered l j n = (i : ℕ) → i < n → line_at l (j + i) ≡ Some (slice_index l.bytes (j + i) % 2 ^ 8)

first_covered : (n : ℕ) (l : Line) (j : ℕ) → AllCovered l j (suc n) → line_at l j ≡ Some (slice_index l.bytes j % 2 ^ 8)
first_covered n l j h =
    let z : j ≡ j + 0 = omega arith in
    ap (line_at l) z ∙ h 0 (omega arith) ∙ ap (λ (x : ℕ). Some (slice_index l.bytes x % 2 ^ 8)) (sym z)

next_covered : (n : ℕ) (l : Line) (j : ℕ) → AllCovered l j (suc n) → AllCovered l (j + 1) n
next_covered n l j h i q =
    let s : j + 1 + i ≡ j + suc i = omega arith in
    ap (line_at l) s ∙ h (suc i) (omega arith) ∙ ap (λ (x : ℕ). Some (slice_index l.bytes x % 2 ^ 8)) (sym s)

pub line_bytes-first : (n a : ℕ) (l : Line) (j : ℕ) → AllCovered l j (suc n) → line_bytes a l j (suc n) ≡ (a + j, slice_index l.bytes j % 2 ^ 8) ∷ line_bytes a l (j + 1) n
line_bytes-first n a l j h = ap (λ (o : Option ℕ). put_first (a + j) o (line_bytes a l (j + 1) n)) (first_covered n l j h)

put_one : (bs : List ℕ) (e : ℕ × ℕ) → put bs (one_byte e) ≡ set bs e.0 (e.1 % 2 ^ 8)
unfolding put
put_one bs e = refl

low : (b r : ℕ) → b < 2 ^ 8 → (b + 2 ^ 8 * r) % 2 ^ 8 ≡ b
low b r h = omega arith

high : (b r : ℕ) → b < 2 ^ 8 → (b + 2 ^ 8 * r) / 2 ^ 8 ≡ r
high b r h = omega arith

-- the bytes one by one leave what one number leaves
pub after_covered : (n a : ℕ) (l : Line) (j : ℕ) (bs : List ℕ) → ((k : ℕ) → slice_index l.bytes k < 2 ^ 8) → AllCovered l j n →
    after bs (stores_of (line_bytes a l j n)) ≡ written bs (a + j) (number_at l.bytes j n) n
after_covered zero a l j bs small h = refl
after_covered (suc n) a l j bs small h =
    let b = slice_index l.bytes j in
    let rest = number_at l.bytes (j + 1) n in
    let fits : b % 2 ^ 8 ≡ b = mod-eq_of_lt (small j) in
    let byte : b % 2 ^ 8 % 2 ^ 8 ≡ (b + 2 ^ 8 * rest) % 2 ^ 8 = ap (λ (x : ℕ). x % 2 ^ 8) fits ∙ fits ∙ sym (low b rest (small j)) in
    let index : a + (j + 1) ≡ a + j + 1 = omega arith in
    ap (λ (es : List (ℕ × ℕ)). after bs (stores_of es)) (line_bytes-first n a l j h)
    ∙ ap (λ (cs : List ℕ). after cs (stores_of (line_bytes a l (j + 1) n))) (put_one bs (a + j, b % 2 ^ 8) ∙ ap (set bs (a + j)) byte)
    ∙ after_covered n a l (j + 1) (set bs (a + j) ((b + 2 ^ 8 * rest) % 2 ^ 8)) small (next_covered n l j h)
    ∙ ap (λ (x : ℕ). written (set bs (a + j) ((b + 2 ^ 8 * rest) % 2 ^ 8)) x rest n) index
    ∙ ap (λ (v : ℕ). written (set bs (a + j) ((b + 2 ^ 8 * rest) % 2 ^ 8)) (a + j + 1) v n) (sym (high b rest (small j)))

-- what holds of each covered byte holds of each index
pub each_index : (P : ℕ → Type 0) (n a : ℕ) (l : Line) (j : ℕ) → AllCovered l j n → All (λ (e : ℕ × ℕ). P e.0) (line_bytes a l j n) → (i : ℕ) → i < n → P (a + j + i)
each_index P zero a l j h all i q = absurd (omega arith)
each_index P (suc n) a l j h all zero q =
    let es = subst (λ (es : List (ℕ × ℕ)). All (λ (e : ℕ × ℕ). P e.0) es) (line_bytes-first n a l j h) all in
    let z : a + j ≡ a + j + 0 = omega arith in
    subst P z (All-head (λ (e : ℕ × ℕ). P e.0) (a + j, slice_index l.bytes j % 2 ^ 8) (line_bytes a l (j + 1) n) es)
each_index P (suc n) a l j h all (suc i) q =
    let es = subst (λ (es : List (ℕ × ℕ)). All (λ (e : ℕ × ℕ). P e.0) es) (line_bytes-first n a l j h) all in
    let s : a + (j + 1) + i ≡ a + j + suc i = omega arith in
    subst P s (each_index P n a l (j + 1) (next_covered n l j h) (All-tail (λ (e : ℕ × ℕ). P e.0) (a + j, slice_index l.bytes j % 2 ^ 8) (line_bytes a l (j + 1) n) es) i (omega arith))

-- ---- the steps of the loops over a line

-- the indices from the eight at k on
pub words_first : (a : ℕ) (l : Line) → whole_line a l ≡ line_bytes a l (8 * 0) (64 - 8 * 0)
unfolding whole_line
words_first a l = refl

pub words_next : (a : ℕ) (l : Line) (k : ℕ) → k < 8 → line_bytes a l (8 * k) (64 - 8 * k) ≡ word_bytes a l (8 * k) ++ line_bytes a l (8 * (k + 1)) (64 - 8 * (k + 1))
unfolding word_bytes
words_next a l k h = line_bytes-split 8 (64 - 8 * (k + 1)) (64 - 8 * k) a l (8 * k) (8 * (k + 1)) (omega arith) (omega arith)

-- the indices from j on, of eight
pub indices_first : (a : ℕ) (l : Line) (p : ℕ) → word_bytes a l p ≡ line_bytes a l p (p + 8 - p)
unfolding word_bytes
indices_first a l p = let e : 8 ≡ p + 8 - p = omega arith in ap (λ (n : ℕ). line_bytes a l p n) e

pub indices_next : (a : ℕ) (l : Line) (p j : ℕ) → j < p + 8 → line_bytes a l j (p + 8 - j) ≡ index_bytes a l j ++ line_bytes a l (j + 1) (p + 8 - (j + 1))
indices_next a l p j h = line_bytes-split 1 (p + 8 - (j + 1)) (p + 8 - j) a l j (j + 1) (omega arith) (omega arith)

pub none_left : (a : ℕ) (l : Line) (j n : ℕ) → n ≡ 0 → line_bytes a l j n ≡ []
none_left a l j n e = ap (λ (x : ℕ). line_bytes a l j x) e

pub word_none : (a : ℕ) (l : Line) (p : ℕ) → bit_and (l.mask / 2 ^ p) 255 ≡ 0 → word_bytes a l p ≡ []
unfolding word_bytes
word_none a l p e = line_bytes-none 8 a l p (none_covered l p 8 e)

pub index_covered : (a : ℕ) (l : Line) (j : ℕ) → bit_and (l.mask / 2 ^ j) 1 ≡ 1 → index_bytes a l j ≡ (a + j, slice_index l.bytes j % 2 ^ 8) ∷ []
index_covered a l j h =
    ap (λ (t : Bool). put_first (a + j) (byte_if t (slice_index l.bytes j)) []) (eq-eqb (l.mask / 2 ^ j % 2) 1 (sym (shr_and_one l.mask j) ∙ h))

-- a store whose address is a index in a page
in_place : (a v : ℕ) (w : Width) → a < 4096 → in_page (record { address = a; width = w; value = v }) ≡ record { address = a; width = w; value = v }
in_place a v w h = ap (λ (x : ℕ). record { address = x; width = w; value = v }) (mod-eq_of_lt h)

-- one store of eight bytes
pub word_ready : (p : Page) (a : ℕ) (l : Line) (j : ℕ) → bit_and (l.mask / 2 ^ j) 255 ≡ 255 → Writable p (word_bytes a l j) → is_ready p ≡ true
unfolding word_bytes
word_ready p a l j e w = each_index (λ (x : ℕ). is_ready p ≡ true) 8 a l j (all_covered l j 8 e) w 0 (omega arith)

pub word_written : (p q : Page) (a : ℕ) (l : Line) (j v : ℕ) → bit_and (l.mask / 2 ^ j) 255 ≡ 255 → ((k : ℕ) → slice_index l.bytes k < 2 ^ 8) → v ≡ number_at l.bytes j 8 → a + j < 4096 → is_ready p ≡ true →
    full q ≡ put (full p) (in_page (record { address = a + j; width = W8; value = v })) → is_ready q ≡ true → Written (word_bytes a l j) p q
unfolding word_bytes put
word_written p q a l j v e small is inside before done behind = record {
  bytes = done ∙ ap (put (full p)) (in_place (a + j) v W8 inside) ∙ ap (λ (n : ℕ). written (full p) (a + j) n 8) is ∙ sym (after_covered 8 a l j (full p) small (all_covered l j 8 e));
  ready = behind ∙ sym before;
}

-- one byte
pub index_ready : (p : Page) (a : ℕ) (l : Line) (j : ℕ) → bit_and (l.mask / 2 ^ j) 1 ≡ 1 → Writable p (index_bytes a l j) → is_ready p ≡ true
index_ready p a l j e w =
    let one : ℕ × ℕ = (a + j, slice_index l.bytes j % 2 ^ 8) in
    All-head (λ (e : ℕ × ℕ). is_ready p ≡ true) one [] (subst (λ (es : List (ℕ × ℕ)). Writable p es) (index_covered a l j e) w)

pub index_written : (p q : Page) (a : ℕ) (l : Line) (j v : ℕ) → bit_and (l.mask / 2 ^ j) 1 ≡ 1 → v ≡ slice_index l.bytes j → v < 2 ^ 8 → a + j < 4096 → is_ready p ≡ true →
    full q ≡ put (full p) (in_page (record { address = a + j; width = W1; value = v })) → is_ready q ≡ true → Written (index_bytes a l j) p q
index_written p q a l j v e is small inside before done behind =
    let value : v ≡ slice_index l.bytes j % 2 ^ 8 = sym (mod-eq_of_lt small) ∙ ap (λ (x : ℕ). x % 2 ^ 8) is in
    record {
      bytes = done ∙ ap (put (full p)) (in_place (a + j) v W1 inside)
          ∙ ap (λ (n : ℕ). put (full p) (record { address = a + j; width = W1; value = n })) value
          ∙ ap (λ (es : List (ℕ × ℕ)). after (full p) (stores_of es)) (sym (index_covered a l j e));
      ready = behind ∙ sym before;
    }

pub nothing_written : (p : Page) (es : List (ℕ × ℕ)) → es ≡ [] → Written es p p
nothing_written p es e = record { bytes = ap (λ (fs : List (ℕ × ℕ)). after (full p) (stores_of fs)) (sym e); ready = refl }
