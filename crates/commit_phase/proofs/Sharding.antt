-- Writing lines to a shard: what a byte of it holds, by the stores that are still to come.
use Rattle.std.proofs.Common.{◌≡◌, ◌≢◌, ℕ, zero, suc, ◌+◌, ◌-◌, ◌*◌, ◌/◌, ◌%◌, ◌<◌, ◌≤◌, ◌⊎◌, ⊎_elim, inl, inr, Bool, true, false, if◌then◌else◌, List, [], ◌∷◌, ◌++◌, length, map, get_or, set, take, drop, slice_index, Option, Some, None, refl, sym, ap, ◌∙◌, subst, arith, All, add-one}
use Rattle.std.proofs.lemmas.Bool.{cases_order}
use Rattle.std.proofs.lemmas.List.Elements.{All-cons, All-head, All-nil, All-tail}
use Rattle.std.proofs.lemmas.Bool.Decides.{nat_tests}
use Rattle.std.proofs.lemmas.List.{append-nil, ext_get_or, map-append, length-set, get_or-set_same, get_or-set_other, get_or-map, length-map, take_all}
use Rattle.std.proofs.Math.Seq.{map-set_same}
use Rattle.pages.specs.declared.access.Store.{Store}
use Rattle.pages.specs.Flat.{Page, absent, flat, full, is_ready, laid}
use Rattle.pages.specs.Memory.{after, byte_put, covered, covers, in_range, last_byte}
use Rattle.pages.specs.Paged.{Paged, is_page_ready}
use Rattle.pages.proofs.StoreLaws.{byte_after, last_byte-append, last_byte-uncovered, length-after}
use Rattle.pages.proofs.FlatPages.{flat_at, length-flat}
use Rattle.pages.proofs.Page.{length-full}
use Rattle.store_buffer.specs.declared.line.Line.{Line}
use Rattle.store_buffer.specs.Covered.{one_byte, stores_of}
use Rattle.store_buffer.specs.Lines.{line_at, line_bytes, put_first, whole_line}
use Rattle.commit_phase.specs.Shards.{IsShardReady, ShardWritten, page_at}
use Rattle.commit_phase.specs.Writing.{Writable, Written}
use Rattle.commit_phase.proofs.Writing.{All-after, All-before}

same_cover : (a c i x : ℕ) → x + a ≡ i + c → in_range a 1 i ≡ in_range c 1 x
same_cover a c i x e = grind (arith, nat_tests)

same_index : (a c i x : ℕ) → x + a ≡ i + c → i - a ≡ x - c
same_index a c i x e = omega arith

moved_byte : (a c : ℕ) (l : Line) (j b i x : ℕ) (o : Option ℕ) (es fs : List (ℕ × ℕ)) → x + a ≡ i + c → ((y : ℕ) → last_byte y (stores_of es) i ≡ last_byte y (stores_of fs) x) →
    last_byte b (stores_of (put_first (a + j) o es)) i ≡ last_byte b (stores_of (put_first (c + j) o fs)) x
moved_byte a c l j b i x None es fs e rest = rest b
moved_byte a c l j b i x (Some v) es fs e rest =
    let far : x + (a + j) ≡ i + (c + j) = omega arith in
    let byte : (if covers (one_byte (a + j, v)) i then byte_put (one_byte (a + j, v)) i else b) ≡ (if covers (one_byte (c + j, v)) x then byte_put (one_byte (c + j, v)) x else b) =
    rw (same_cover (a + j) (c + j) i x far, same_index (a + j) (c + j) i x far) refl in
    ap (λ (y : ℕ). last_byte y (stores_of es) i) byte ∙ rest (if covers (one_byte (c + j, v)) x then byte_put (one_byte (c + j, v)) x else b)

-- a line that starts elsewhere, and a byte as far from its start
moved : (n a c : ℕ) (l : Line) (j b i x : ℕ) → x + a ≡ i + c → last_byte b (stores_of (line_bytes a l j n)) i ≡ last_byte b (stores_of (line_bytes c l j n)) x
moved zero a c l j b i x e = refl
moved (suc n) a c l j b i x e = moved_byte a c l j b i x (line_at l j) (line_bytes a l (j + 1) n) (line_bytes c l (j + 1) n) e (λ y. moved n a c l (j + 1) y i x e)

outside : (a x : ℕ) → (x < a) ⊎ (a < x) → in_range a 1 x ≡ false
outside a x h = grind (arith, nat_tests)

not_first : (a x : ℕ) (o : Option ℕ) (es : List (ℕ × ℕ)) → (x < a) ⊎ (a < x) → covered (stores_of es) x ≡ false → covered (stores_of (put_first a o es)) x ≡ false
not_first a x None es h rest = rest
not_first a x (Some v) es h rest = rw (outside a x h, rest) refl

-- a byte that is not one of the line's indices
not_in_line : (n a : ℕ) (l : Line) (j x : ℕ) → (x < a + j) ⊎ (a + j + n ≤ x) → covered (stores_of (line_bytes a l j n)) x ≡ false
not_in_line zero a l j x h = refl
not_in_line (suc n) a l j x h =
    not_first (a + j) x (line_at l j) (line_bytes a l (j + 1) n) (⊎_elim (λ (lt : x < a + j). inl lt) (λ (ge : a + j + suc n ≤ x). inr (omega arith)) h)
    (not_in_line n a l (j + 1) x (⊎_elim (λ (lt : x < a + j). inl (omega arith)) (λ (ge : a + j + suc n ≤ x). inr (omega arith)) h))

-- the rest of the stores will leave of each byte of the shard now what all of them leave of the old one
pub record Sharding (n : ℕ) (ps qs : List Page) (es rest : List (ℕ × ℕ)) : Type 0 where
  pub count : length qs ≡ length ps
  pub ready : map is_ready qs ≡ map is_ready ps
  pub bytes : (k i : ℕ) → k < length ps → i < 4096 → last_byte (slice_index (full (page_at qs k)) i) (stores_of rest) (4096 * (n + k) + i) ≡ last_byte (slice_index (full (page_at ps k)) i) (stores_of es) (4096 * (n + k) + i)
  pub may : IsShardReady n ps rest

pub sharding_begun : (n : ℕ) (ps : List Page) (es rest : List (ℕ × ℕ)) → es ≡ rest → IsShardReady n ps es → Sharding n ps ps es rest
sharding_begun n ps es rest e r = subst (λ (fs : List (ℕ × ℕ)). Sharding n ps ps es fs) e (record { count = refl; ready = refl; bytes = λ k i low less. refl; may = r })

pub sharding_over : (n : ℕ) (ps qs : List Page) (es rest : List (ℕ × ℕ)) → rest ≡ [] → Sharding n ps qs es rest → ShardWritten n (stores_of es) ps qs
sharding_over n ps qs es rest none k = record {
  count = k.count;
  ready = k.ready;
  bytes = λ j i low less. ap (λ (fs : List (ℕ × ℕ)). last_byte (slice_index (full (page_at qs j)) i) (stores_of fs) (4096 * (n + j) + i)) (sym none) ∙ k.bytes j i low less;
}

pub sharding_same : (n : ℕ) (ps qs : List Page) (es rest fs : List (ℕ × ℕ)) → rest ≡ fs → Sharding n ps qs es rest → Sharding n ps qs es fs
sharding_same n ps qs es rest fs e k = subst (λ (gs : List (ℕ × ℕ)). Sharding n ps qs es gs) e k

parts_of : (now more : List (ℕ × ℕ)) → stores_of (now ++ more) ≡ stores_of now ++ stores_of more
parts_of now more = map-append one_byte now more

-- a line of a page that is not in the shard
pub sharding_skips : (n : ℕ) (ps qs : List Page) (es more : List (ℕ × ℕ)) (start : ℕ) (l : Line) → start % 64 ≡ 0 → (start / 4096 < n) ⊎ (n + length ps ≤ start / 4096) →
    Sharding n ps qs es (whole_line start l ++ more) → Sharding n ps qs es more
unfolding whole_line
sharding_skips n ps qs es more start l aligned out k = record {
  count = k.count;
  ready = k.ready;
  bytes = λ j i low less.
      let x = 4096 * (n + j) + i in
      let apart : (x < start + 0) ⊎ (start + 0 + 64 ≤ x) = ⊎_elim (λ (lt : start / 4096 < n). inr (omega arith)) (λ (ge : n + length ps ≤ start / 4096). inl (omega arith)) out in
      let b = slice_index (full (page_at qs j)) i in
      ap (λ (c : ℕ). last_byte c (stores_of more) x) (sym (last_byte-uncovered b (stores_of (line_bytes start l 0 64)) x (not_in_line 64 start l 0 x apart)))
      ∙ sym (last_byte-append b (stores_of (line_bytes start l 0 64)) (stores_of more) x)
      ∙ ap (λ (ss : List Store). last_byte b ss x) (sym (parts_of (line_bytes start l 0 64) more))
      ∙ k.bytes j i low less;
  may = All-after (λ (e : ℕ × ℕ). n ≤ e.0 / 4096 → e.0 / 4096 < n + length ps → is_ready (page_at ps (e.0 / 4096 - n)) ≡ true) (line_bytes start l 0 64) more k.may;
}

-- a line of page k of the shard, which starts in it at the index `at`
pub sharding_takes : (n : ℕ) (ps qs : List Page) (es more : List (ℕ × ℕ)) (start k at : ℕ) (l : Line) (part : Page) → n + k ≡ start / 4096 → k < length ps → at ≡ start % 4096 → start % 64 ≡ 0 →
    Written (whole_line at l) (page_at qs k) part → Sharding n ps qs es (whole_line start l ++ more) → Sharding n ps (set qs k part) es more
unfolding whole_line
sharding_takes n ps qs es more start k at l part page inside index aligned w s = record {
  count = length-set qs k part ∙ s.count;
  ready = map-set_same is_ready qs k part absent w.ready ∙ s.ready;
  bytes = λ j i low less.
      let x = 4096 * (n + j) + i in
      let b = slice_index (full (page_at qs j)) i in
      now_at j i low less (same_or_other j)
      ∙ sym (last_byte-append b (stores_of (line_bytes start l 0 64)) (stores_of more) x)
      ∙ ap (λ (ss : List Store). last_byte b ss x) (sym (parts_of (line_bytes start l 0 64) more))
      ∙ s.bytes j i low less;
  may = All-after (λ (e : ℕ × ℕ). n ≤ e.0 / 4096 → e.0 / 4096 < n + length ps → is_ready (page_at ps (e.0 / 4096 - n)) ≡ true) (line_bytes start l 0 64) more s.may;
}
  where
    same_or_other : (j : ℕ) → (j ≡ k) ⊎ (j ≢ k)
    same_or_other j = ⊎_elim (λ (e : j ≡ k). inl e) (λ (o : (j < k) ⊎ (k < j)). inr (omega arith)) (cases_order j k)

    now_at : (j i : ℕ) → j < length ps → i < 4096 → (j ≡ k) ⊎ (j ≢ k) → last_byte (slice_index (full (page_at (set qs k part) j)) i) (stores_of more) (4096 * (n + j) + i) ≡ last_byte (last_byte (slice_index (full (page_at qs j)) i) (stores_of (line_bytes start l 0 64)) (4096 * (n + j) + i)) (stores_of more) (4096 * (n + j) + i)
    now_at j i low less (inl e) =
        let x = 4096 * (n + j) + i in
        let b = slice_index (full (page_at qs k)) i in
        let bound : k < length qs = omega (arith, s.count, inside) in
        let far : x + at ≡ i + start = omega arith in
        let short : i < length (full (page_at qs k)) = omega (arith, length-full (page_at qs k)) in
        ap (λ (p : Page). last_byte (slice_index (full p) i) (stores_of more) x) (ap (page_at (set qs k part)) e ∙ get_or-set_same qs k part absent bound)
        ∙ ap (λ (bs : List ℕ). last_byte (slice_index bs i) (stores_of more) x) w.bytes
        ∙ ap (λ (c : ℕ). last_byte c (stores_of more) x) (byte_after (full (page_at qs k)) i (stores_of (line_bytes at l 0 64)) short ∙ moved 64 at start l 0 b i x far)
        ∙ ap (λ (c : ℕ). last_byte (last_byte (slice_index (full (page_at qs c)) i) (stores_of (line_bytes start l 0 64)) x) (stores_of more) x) (sym e)
    now_at j i low less (inr ne) =
        let x = 4096 * (n + j) + i in
        let apart : (x < start + 0) ⊎ (start + 0 + 64 ≤ x) = ⊎_elim (λ (e : j ≡ k). absurd (ne e)) (λ (o : (j < k) ⊎ (k < j)). ⊎_elim (λ (lt : j < k). inl (omega arith)) (λ (gt : k < j). inr (omega arith)) o) (cases_order j k) in
        let b = slice_index (full (page_at qs j)) i in
        ap (λ (p : Page). last_byte (slice_index (full p) i) (stores_of more) x) (get_or-set_other qs k j part absent ne)
        ∙ ap (λ (c : ℕ). last_byte c (stores_of more) x) (sym (last_byte-uncovered b (stores_of (line_bytes start l 0 64)) x (not_in_line 64 start l 0 x apart)))

ready_at : (qs ps : List Page) (k : ℕ) → map is_ready qs ≡ map is_ready ps → k < length ps → length qs ≡ length ps → is_ready (page_at qs k) ≡ is_ready (page_at ps k)
ready_at qs ps k e low count =
    sym (get_or-map is_ready qs k absent false (omega (arith, count))) ∙ ap (λ (bs : List Bool). get_or bs k false) e ∙ get_or-map is_ready ps k absent false low

carried : (o : Option ℕ) (a c : ℕ) (es fs : List (ℕ × ℕ)) (P : ℕ → Type 0) (Q : Type 0) → (P a → Q) → All (λ (e : ℕ × ℕ). P e.0) (put_first a o es) → (All (λ (e : ℕ × ℕ). P e.0) es → All (λ (e : ℕ × ℕ). Q) fs) → All (λ (e : ℕ × ℕ). Q) (put_first c o fs)
carried None a c es fs P Q h all rest = rest all
carried (Some v) a c es fs P Q h all rest = All-cons (λ (e : ℕ × ℕ). Q) (c, v) fs (h (All-head (λ (e : ℕ × ℕ). P e.0) (a, v) es all)) (rest (All-tail (λ (e : ℕ × ℕ). P e.0) (a, v) es all))

-- what follows from each covered index of a line, whatever index the line starts at
line_ready : (n a c : ℕ) (l : Line) (j : ℕ) (P : ℕ → Type 0) (Q : Type 0) → ((x : ℕ) → a + j ≤ x → x < a + j + n → P x → Q) → All (λ (e : ℕ × ℕ). P e.0) (line_bytes a l j n) → All (λ (e : ℕ × ℕ). Q) (line_bytes c l j n)
line_ready zero a c l j P Q h all = All-nil (λ (e : ℕ × ℕ). Q)
line_ready (suc n) a c l j P Q h all =
    carried (line_at l j) (a + j) (c + j) (line_bytes a l (j + 1) n) (line_bytes c l (j + 1) n) P Q (h (a + j) (omega arith) (omega arith)) all
    (λ rest. line_ready n a c l (j + 1) P Q (λ x from to p. h x (omega arith) (omega arith) p) rest)

-- the page of the next line is ready, if there is a byte to be written
pub line_writable : (n : ℕ) (ps qs : List Page) (es more : List (ℕ × ℕ)) (start k at : ℕ) (l : Line) → n + k ≡ start / 4096 → k < length ps → start % 64 ≡ 0 →
    Sharding n ps qs es (whole_line start l ++ more) → Writable (page_at qs k) (whole_line at l)
unfolding whole_line
line_writable n ps qs es more start k at l page inside aligned s =
    let P : ℕ → Type 0 = λ x. n ≤ x / 4096 → x / 4096 < n + length ps → is_ready (page_at ps (x / 4096 - n)) ≡ true in
    line_ready 64 start at l 0 P (is_ready (page_at qs k) ≡ true)
    (λ x from to p.
    let same : k ≡ x / 4096 - n = omega arith in
    ready_at qs ps k s.ready inside s.count ∙ ap (λ (i : ℕ). is_ready (page_at ps i)) same ∙ p (omega arith) (omega arith))
    (All-before (λ (e : ℕ × ℕ). P e.0) (line_bytes start l 0 64) more s.may)

-- the rest of the stores will leave of each byte of the shard now what all of them leave of the old one
pub record Left (n : ℕ) (ps qs : List Page) (ss rest : List Store) : Type 0 where
  pub count : length qs ≡ length ps
  pub ready : map is_ready qs ≡ map is_ready ps
  pub bytes : (k i : ℕ) → k < length ps → i < 4096 → last_byte (slice_index (full (page_at qs k)) i) rest (4096 * (n + k) + i) ≡ last_byte (slice_index (full (page_at ps k)) i) ss (4096 * (n + k) + i)

pub left_past : (n : ℕ) (ps qs rs : List Page) (ss now rest : List Store) → ShardWritten n now qs rs → Left n ps qs ss (now ++ rest) → Left n ps rs ss rest
left_past n ps qs rs ss now rest w k = record {
  count = w.count ∙ k.count;
  ready = w.ready ∙ k.ready;
  bytes = λ j i low less.
      ap (λ (b : ℕ). last_byte b rest (4096 * (n + j) + i)) (w.bytes j i (omega (arith, k.count)) less)
      ∙ sym (last_byte-append (slice_index (full (page_at qs j)) i) now rest (4096 * (n + j) + i))
      ∙ k.bytes j i low less;
}

pub left_same : (n : ℕ) (ps qs : List Page) (ss rest ts : List Store) → rest ≡ ts → Left n ps qs ss rest → Left n ps qs ss ts
left_same n ps qs ss rest ts e k = subst (λ (us : List Store). Left n ps qs ss us) e k

-- pages that are as ready as they were
pub shard_still_ready : (n : ℕ) (ps qs : List Page) (es : List (ℕ × ℕ)) → map is_ready qs ≡ map is_ready ps → length qs ≡ length ps → IsShardReady n ps es → IsShardReady n qs es
shard_still_ready n ps qs es same count h = λ k d low from to.
    let i : ℕ = (get_or es k d).0 / 4096 - n in
    let inside : i < length ps = omega (arith, count) in
    ready_at qs ps i same inside count ∙ h k d low from (omega (arith, count))

-- all of guest memory as one shard
pub whole_memory : (ps qs : List Page) (ss : List Store) → ShardWritten 0 ss ps qs → flat qs ≡ after (flat ps) ss
whole_memory ps qs ss w =
    ext_get_or 0 (flat qs) (after (flat ps) ss) (length-flat qs ∙ ap (λ (n : ℕ). 4096 * n) w.count ∙ sym (length-flat ps) ∙ sym (length-after (flat ps) ss))
    (λ x h.
    let page : ℕ = x / 4096 in
    let index : ℕ = x % 4096 in
    let few : index < 4096 = omega arith in
    let low : page < length ps = omega (arith, length-flat qs, w.count) in
    let low' : page < length qs = omega (arith, w.count) in
    let at : x ≡ 4096 * page + index = omega arith in
    let at0 : 4096 * (0 + page) + index ≡ x = omega arith in
    let inside : x < length (flat ps) = omega (arith, length-flat ps) in
    ap (λ (y : ℕ). get_or (flat qs) y 0) at
    ∙ flat_at qs page index low' few
    ∙ w.bytes page index low few
    ∙ ap (λ (b : ℕ). last_byte b ss (4096 * (0 + page) + index)) (sym (flat_at ps page index low few) ∙ ap (λ (y : ℕ). get_or (flat ps) y 0) (sym at))
    ∙ ap (λ (y : ℕ). last_byte (get_or (flat ps) x 0) ss y) at0
    ∙ sym (byte_after (flat ps) x ss inside))

-- each byte is on a page that is ready
pub shard_of_memory : (ps : List Page) (p : Paged) (es : List (ℕ × ℕ)) → map is_ready ps ≡ p.ready → All (λ (e : ℕ × ℕ). is_page_ready p (e.0 / 4096) ≡ true) es → IsShardReady 0 ps es
shard_of_memory ps p es e h = λ k d low from to.
    let x : ℕ = (get_or es k d).0 / 4096 in
    let low' : x < length ps = omega arith in
    let z : x - 0 ≡ x = omega arith in
    ap (λ (i : ℕ). is_ready (page_at ps i)) z ∙ sym (get_or-map is_ready ps x absent false low') ∙ ap (λ (bs : List Bool). get_or bs x false) e ∙ h k d low

laid_all : {X : Type 0} (xs ys : List X) → length ys ≡ length xs → laid xs ys ≡ ys
laid_all xs ys e =
    ap (λ (zs : List _). take (length xs) (ys ++ zs)) (drop_past (length ys) xs (omega (arith, e)))
    ∙ ap (take (length xs)) (append-nil ys)
    ∙ take_all (length xs) ys (omega (arith, e))
  where
    drop_past : {X : Type 0} (n : ℕ) (xs : List X) → length xs ≤ n → drop n xs ≡ []
    drop_past zero [] h = refl
    drop_past zero (x ∷ xs) h = absurd (omega arith)
    drop_past (suc n) [] h = refl
    drop_past (suc n) (x ∷ xs) h = drop_past n xs (omega arith)

-- the pages that were lent come back
pub memory_back : (p : Paged) (ps qs : List Page) (ss : List Store) → flat ps ≡ p.memory.bytes → ShardWritten 0 ss ps qs → laid p.memory.bytes (flat qs) ≡ after p.memory.bytes ss
memory_back p ps qs ss e w =
    laid_all p.memory.bytes (flat qs) (length-flat qs ∙ ap (λ (n : ℕ). 4096 * n) w.count ∙ sym (length-flat ps) ∙ ap length e)
    ∙ whole_memory ps qs ss w ∙ ap (λ (bs : List ℕ). after bs ss) e

pub ready_back : (p : Paged) (ps qs : List Page) (ss : List Store) → map is_ready ps ≡ p.ready → ShardWritten 0 ss ps qs → laid p.ready (map is_ready qs) ≡ p.ready
ready_back p ps qs ss e w =
    laid_all p.ready (map is_ready qs) (ap length (w.ready ∙ e)) ∙ w.ready ∙ e

-- ---- shards as chunks of the pages

-- a page in a chunk, which was written as a shard
pub record InShard (ps qs : List Page) (ss : List Store) (k : ℕ) : Type 0 where
  pub start : ℕ
  pub offset : ℕ
  pub before : List Page
  pub behind : List Page
  pub at : start + offset ≡ k
  pub inside : offset < length before
  pub old : get_or before offset absent ≡ get_or ps k absent
  pub new : get_or behind offset absent ≡ get_or qs k absent
  pub written : ShardWritten start ss before behind

pub by_chunks : (ps qs : List Page) (ss : List Store) → length qs ≡ length ps → ((k : ℕ) → k < length ps → InShard ps qs ss k) → ShardWritten 0 ss ps qs
by_chunks ps qs ss count each = record {
  count = count;
  ready = ext_get_or false (map is_ready qs) (map is_ready ps) (length-map qs is_ready ∙ count ∙ sym (length-map ps is_ready)) (λ k h.
      let low : k < length ps = omega (arith, length-map qs is_ready, count) in
      let low' : k < length qs = omega (arith, low, count) in
      let s = each k low in
      get_or-map is_ready qs k absent false low' ∙ ap is_ready (sym s.new) ∙ ready_at s.behind s.before s.offset s.written.ready s.inside s.written.count ∙ ap is_ready s.old ∙ sym (get_or-map is_ready ps k absent false low));
  bytes = λ k i low less.
      let s = each k low in
      let index : 4096 * (s.start + s.offset) + i ≡ 4096 * (0 + k) + i = omega (arith, s.at) in
      ap (λ (p : Page). slice_index (full p) i) (sym s.new) ∙ s.written.bytes s.offset i s.inside less
      ∙ ap (λ (p : Page). last_byte (slice_index (full p) i) ss (4096 * (s.start + s.offset) + i)) s.old
      ∙ ap (λ (x : ℕ). last_byte (slice_index (full (page_at ps k)) i) ss x) index;
}

-- ---- the next of some rounds

drop_after : {X Y : Type 0} (f : X → Y) (xs : List X) (i : ℕ) (x : X) → i < length xs → x ≡ get_or xs i x → drop i (map f xs) ≡ f x ∷ drop (suc i) (map f xs)
drop_after f [] i x low e = absurd (omega arith)
drop_after f (y ∷ xs) zero x low e = ap (λ z. f z ∷ map f xs) (sym e)
drop_after f (y ∷ xs) (suc i) x low e = drop_after f xs i x (omega arith) e

pub drop_next : {X Y : Type 0} (f : X → Y) (xs : List X) (i : ℕ) (x : X) → i < length xs → x ≡ get_or xs i x → drop i (map f xs) ≡ f x ∷ drop (i + 1) (map f xs)
drop_next f xs i x low e = drop_after f xs i x low e ∙ ap (λ (n : ℕ). f x ∷ drop n (map f xs)) (sym (add-one i))

pub all_at : {X Y : Type 0} (f : X → Y) (P : Y → Type 0) (xs : List X) (i : ℕ) (x : X) → i < length xs → x ≡ get_or xs i x → All P (map f xs) → P (f x)
all_at f P xs i x low e h = subst P (get_or-map f xs i x (f x) low ∙ ap f (sym e)) (h i (f x) (omega (arith, length-map xs f)))
