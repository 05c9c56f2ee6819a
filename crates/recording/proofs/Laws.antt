-- What is read of a field is spelled so, and what is spelled so is read.
use Rattle.std.proofs.Common.{◌≡◌, ℕ, zero, suc, ◌+◌, ◌*◌, ◌^◌, ◌<◌, ◌≤◌, Bool, true, false, cond, ltb, List, [], ◌∷◌, ◌++◌, length, get_or, take, drop, Option, Some, None, Result, Ok, Err, refl, sym, ap, subst, ◌∙◌, append_assoc, arith, inl, inr}
use Rattle.std.proofs.lemmas.Bool.Decides.{nat_tests}
use Rattle.std.specs.Int.{Width, w32, w64, byte_len, from_le_bytes, to_le_bytes}
use mir.Syntax.{w8}
use Rattle.std.proofs.lemmas.Bool.{cases_lt, ltb-false, le-ltb}
use Rattle.std.proofs.lemmas.List.{take_at, drop_at, take-append-drop, length-append, length-take, get_or-drop, get_or-take, get_or_past}
use Rattle.std.proofs.lemmas.Nat.{le_bytes_4, le_bytes_8, from_le_bytes-to_le_bytes_4, from_le_bytes-to_le_bytes_8}
use Rattle.recording.specs.declared.cause.Cause.{Cause}
use Rattle.recording.specs.declared.cause.Cause.TheVariants.{Cut}
use Rattle.recording.specs.Fields.{Field, ◌>>=◌, ◌&◌, number_or, tested, bytes, bytes_after, known, seen, each, taken_each, HaveEach, spelled_each, given, where_due, is_within, most}

abbrev pub IsBytes : List ℕ → Type 0
IsBytes bs = (i : ℕ) → get_or bs i 0 < 256

pub IsBytes-drop : (n : ℕ) (bs : List ℕ) → IsBytes bs → IsBytes (drop n bs)
IsBytes-drop n bs h i = rw get_or-drop (h (n + i))

IsBytes-take : (n : ℕ) (bs : List ℕ) → IsBytes bs → IsBytes (take n bs)
IsBytes-take n bs h i =
    elim (cases_lt i n) [
      | inl lt ↦ rw (get_or-take n bs i 0 lt) (h i)
      | inr le ↦ rw (get_or_past (take n bs) i 0 (omega (arith, length-take n bs))) (omega arith)
    ]

pub bind_ok : {A B : Type 0} (r : Result A Cause) (f : A → Result B Cause) (y : B) → (r >>= f) ≡ Ok y → (x : A) × (r ≡ Ok x) × (f x ≡ Ok y)
bind_ok (Ok x) f y e = (x, refl, e)
bind_ok (Err d) f y e = absurd cc

-- a test that did not fail
guard_ok : {A : Type 0} (b : Bool) (d : Cause) (r : Result A Cause) (y : A) → cond b (Err d) r ≡ Ok y → (b ≡ false) × (r ≡ Ok y)
guard_ok true d r y e = absurd cc
guard_ok false d r y e = (refl, e)

pub pass_ok : {A : Type 0} (b : Bool) (d : Cause) (x y : A) → cond b (Ok x) (Err d) ≡ Ok y → (b ≡ true) × (x ≡ y)
pass_ok true d x y e = (refl, cc)
pass_ok false d x y e = absurd cc

abbrev done : {A : Type 0} → A → Result A Cause
done x = Ok x

pub ok_is : {A : Type 0} (x y : A) → done x ≡ done y → x ≡ y
ok_is x y e = cc

-- what was taken from the front
pub record Takes (bs text rest : List ℕ) : Type 0 where
  pub parts : bs ≡ text ++ rest
  pub fits : IsBytes rest

Takes-then : (a x b y c : List ℕ) → Takes a x b → Takes b y c → Takes a (x ++ y) c
Takes-then a x b y c p q = record { parts = p.parts ∙ ap (λ (t : List ℕ). x ++ t) q.parts ∙ sym (append_assoc x y c); fits = q.fits }

-- a field whose reading and spelling belong together
pub record Lawful {A : Type 0} (f : Field A) : Type 0 where
  pub takes : (bs : List ℕ) (x : A × List ℕ) → IsBytes bs → f.taken bs ≡ Ok x → f.Has x.0 × Takes bs (f.spelled x.0) x.1
  pub again : (x : A) (rest : List ℕ) → f.Has x → f.taken (f.spelled x ++ rest) ≡ Ok (x, rest)

-- ---- numbers

pub record IsWide (w : Width) : Type 0 where
  pub len : (n : ℕ) → length (to_le_bytes w n) ≡ byte_len w
  pub back : (bs : List ℕ) → length bs ≡ byte_len w → IsBytes bs → to_le_bytes w (from_le_bytes w bs) ≡ bs
  pub again : (n : ℕ) → n < 2 ^ (8 * byte_len w) → from_le_bytes w (to_le_bytes w n) ≡ n
  pub below : (bs : List ℕ) → IsBytes bs → from_le_bytes w bs < 2 ^ (8 * byte_len w)

one_byte : (bs : List ℕ) → length bs ≡ 1 → IsBytes bs → to_le_bytes w8 (from_le_bytes w8 bs) ≡ bs
one_byte [] len fits = absurd cc
one_byte (b ∷ []) len fits = ap (λ (n : ℕ). n ∷ []) (omega (arith, fits 0))
one_byte (b ∷ c ∷ bs) len fits = absurd (omega (arith, len))

pub wide8 : IsWide w8
wide8 = record {
  len = λ n. refl;
  back = one_byte;
  again = λ n lt. omega arith;
  below = λ bs fits. omega (arith, fits 0);
}

pub wide32 : IsWide w32
wide32 = record {
  len = λ n. refl;
  back = λ bs len fits. le_bytes_4 bs _ len fits refl;
  again = λ n lt. from_le_bytes-to_le_bytes_4 n lt;
  below = λ bs fits. omega (arith, fits 0, fits 1, fits 2, fits 3);
}

pub wide64 : IsWide w64
wide64 = record {
  len = λ n. refl;
  back = λ bs len fits. le_bytes_8 bs _ len fits refl;
  again = λ n lt. from_le_bytes-to_le_bytes_8 n lt;
  below = λ bs fits. omega (arith, fits 0, fits 1, fits 2, fits 3, fits 4, fits 5, fits 6, fits 7);
}

pub number_lawful : (w : Width) → IsWide w → (short wrong : Cause) (low high : ℕ) → Lawful (number_or w short wrong low high)
number_lawful w wide short wrong low high = record {
  takes = λ bs x fits e.
      let g = guard_ok (ltb (length bs) (byte_len w)) short (tested low high wrong (from_le_bytes w (take (byte_len w) bs)) (drop (byte_len w) bs)) x e in
      let long : byte_len w ≤ length bs = ltb-false _ _ g.0 in
      let p = pass_ok (is_within low high (from_le_bytes w (take (byte_len w) bs))) wrong (from_le_bytes w (take (byte_len w) bs), drop (byte_len w) bs) x g.1 in
      let front : to_le_bytes w (from_le_bytes w (take (byte_len w) bs)) ≡ take (byte_len w) bs = wide.back (take (byte_len w) bs) (omega (arith, length-take (byte_len w) bs)) (IsBytes-take (byte_len w) bs fits) in
      let there : Takes bs (to_le_bytes w (from_le_bytes w (take (byte_len w) bs))) (drop (byte_len w) bs) = record { parts = rw front (sym (take-append-drop (byte_len w) bs)); fits = IsBytes-drop (byte_len w) bs fits } in
      subst (λ (y : ℕ × List ℕ). ((y.0 < 2 ^ (8 * byte_len w)) × (is_within low high y.0 ≡ true)) × Takes bs (to_le_bytes w y.0) y.1) p.1 ((wide.below (take (byte_len w) bs) (IsBytes-take (byte_len w) bs fits), p.0), there);
  again = λ n rest h.
      let len = wide.len n in
      let long : ltb (length (to_le_bytes w n ++ rest)) (byte_len w) ≡ false = le-ltb _ _ (omega (arith, length-append (to_le_bytes w n) rest)) in
      rw (long, take_at (to_le_bytes w n) rest (byte_len w) len, drop_at (to_le_bytes w n) rest (byte_len w) len, wide.again n h.0, h.1) refl;
}

-- ---- a length and as many bytes

within_all : (n : ℕ) → n < 2 ^ 64 → is_within 0 (most w64) n ≡ true
within_all n lt = grind (arith, nat_tests, lt)

pub bytes_lawful : Lawful bytes
bytes_lawful = record {
  takes = λ bs x fits e.
      let b = bind_ok ((number_or w64 Cut Cut 0 (most w64)).taken bs) bytes_after x e in
      let n = b.0 in
      let t = (number_lawful w64 wide64 Cut Cut 0 (most w64)).takes bs n fits b.1 in
      let g = guard_ok (ltb (length n.1) n.0) Cut (Ok (take n.0 n.1, drop n.0 n.1)) x b.2 in
      let long : n.0 ≤ length n.1 = ltb-false _ _ g.0 in
      let len : length (take n.0 n.1) ≡ n.0 = omega (arith, length-take n.0 n.1) in
      let second : Takes n.1 (take n.0 n.1) (drop n.0 n.1) = record { parts = sym (take-append-drop n.0 n.1); fits = IsBytes-drop n.0 n.1 t.1.fits } in
      let both = Takes-then bs (to_le_bytes w64 n.0) n.1 (take n.0 n.1) (drop n.0 n.1) t.1 second in
      let whole : Takes bs (to_le_bytes w64 (length (take n.0 n.1)) ++ take n.0 n.1) (drop n.0 n.1) = subst (λ (k : ℕ). Takes bs (to_le_bytes w64 k ++ take n.0 n.1) (drop n.0 n.1)) (sym len) both in
      let small : length (take n.0 n.1) < 2 ^ 64 = rw len t.0.0 in
      subst (λ (p : List ℕ × List ℕ). (length p.0 < 2 ^ 64) × Takes bs (to_le_bytes w64 (length p.0) ++ p.0) p.1) (ok_is _ _ g.1) (small, whole);
  again = λ x rest h.
      let long : ltb (length (x ++ rest)) (length x) ≡ false = le-ltb _ _ (omega (arith, length-append x rest)) in
      ap bytes.taken (append_assoc (to_le_bytes w64 (length x)) x rest) ∙ rw ((number_lawful w64 wide64 Cut Cut 0 (most w64)).again (length x) (x ++ rest) (h, within_all (length x) h), long, take_at x rest (length x) refl, drop_at x rest (length x) refl) refl;
}

-- ---- what is built of fields

pub known_lawful : {A : Type 0} (a : A) → Lawful (known a)
known_lawful a = record {
  takes = λ bs x fits e. subst (λ y. (y.0 ≡ a) × Takes bs [] y.1) (ok_is (a, bs) x e) (refl, record { parts = refl; fits = fits });
  again = λ x rest h. rw h refl;
}

pub pair_lawful : {A B : Type 0} (f : Field A) (g : A → Field B) → Lawful f → ((x : A) → Lawful (g x)) → Lawful (f & g)
pair_lawful f g lf lg = record {
  takes = λ bs z fits e.
      let a = bind_ok (f.taken bs) (λ x. (g x.0).taken x.1 >>= λ y. Ok ((x.0, y.0), y.1)) z e in
      let x = a.0 in
      let b = bind_ok ((g x.0).taken x.1) (λ y. Ok ((x.0, y.0), y.1)) z a.2 in
      let y = b.0 in
      let t = lf.takes bs x fits a.1 in
      let u = (lg x.0).takes x.1 y t.1.fits b.1 in
      subst (λ w. (f.Has w.0.0 × (g w.0.0).Has w.0.1) × Takes bs (f.spelled w.0.0 ++ (g w.0.0).spelled w.0.1) w.1) (ok_is ((x.0, y.0), y.1) z b.2) ((t.0, u.0), Takes-then bs (f.spelled x.0) x.1 ((g x.0).spelled y.0) y.1 t.1 u.1);
  again = λ x rest h.
      ap (f & g).taken (append_assoc (f.spelled x.0) ((g x.0).spelled x.1) rest) ∙ rw (lf.again x.0 ((g x.0).spelled x.1 ++ rest) h.0, (lg x.0).again x.1 rest h.1) refl;
}

pub seen_lawful : {A B : Type 0} (to : A → B) (from : B → A) (f : Field A) → Lawful f → ((x : A) → f.Has x → from (to x) ≡ x) → ((y : B) → to (from y) ≡ y) → Lawful (seen to from f)
seen_lawful to from f lf there back = record {
  takes = λ bs z fits e.
      let a = bind_ok (f.taken bs) (λ x. Ok (to x.0, x.1)) z e in
      let x = a.0 in
      let t = lf.takes bs x fits a.1 in
      let same = there x.0 t.0 in
      subst (λ w. f.Has (from w.0) × Takes bs (f.spelled (from w.0)) w.1) (ok_is (to x.0, x.1) z a.2) (subst (λ v. f.Has v × Takes bs (f.spelled v) x.1) (sym same) t);
  again = λ y rest h. rw (lf.again (from y) rest h, back y) refl;
}

each_again_0 : {A : Type 0} (i : ℕ) (f : ℕ → Field A) (x : List A) (rest : List ℕ) → HaveEach 0 i f x → (each 0 i f).taken (spelled_each i f x ++ rest) ≡ Ok (x, rest)
unfolding taken_each
each_again_0 i f [] rest h = refl
each_again_0 i f (x ∷ xs) rest h = absurd h

each_again : {A : Type 0} (n i : ℕ) (f : ℕ → Field A) → Lawful (f i) → Lawful (each n (suc i) f) → (x : List A) (rest : List ℕ) → HaveEach (suc n) i f x → (each (suc n) i f).taken (spelled_each i f x ++ rest) ≡ Ok (x, rest)
unfolding taken_each
each_again n i f l m [] rest h = absurd h
each_again n i f l m (x ∷ xs) rest h =
    ap (each (suc n) i f).taken (append_assoc ((f i).spelled x) (spelled_each (suc i) f xs) rest) ∙ rw (l.again x (spelled_each (suc i) f xs ++ rest) h.0, m.again xs rest h.1) refl

pub each_lawful : {A : Type 0} (n i : ℕ) (f : ℕ → Field A) → ((k : ℕ) → Lawful (f k)) → Lawful (each n i f)
unfolding taken_each
each_lawful zero i f l = record {
  takes = λ bs x fits e. subst (λ y. HaveEach 0 i f y.0 × Takes bs (spelled_each i f y.0) y.1) (ok_is ([], bs) x e) (tt, record { parts = refl; fits = fits });
  again = each_again_0 i f;
}
each_lawful (suc n) i f l = record {
  takes = λ bs z fits e.
      let a = bind_ok ((f i).taken bs) (λ x. taken_each n (suc i) f x.1 >>= λ xs. Ok (x.0 ∷ xs.0, xs.1)) z e in
      let x = a.0 in
      let b = bind_ok (taken_each n (suc i) f x.1) (λ xs. Ok (x.0 ∷ xs.0, xs.1)) z a.2 in
      let xs = b.0 in
      let t = (l i).takes bs x fits a.1 in
      let u = (each_lawful n (suc i) f l).takes x.1 xs t.1.fits b.1 in
      subst (λ w. HaveEach (suc n) i f w.0 × Takes bs (spelled_each i f w.0) w.1) (ok_is (x.0 ∷ xs.0, xs.1) z b.2) ((t.0, u.0), Takes-then bs ((f i).spelled x.0) x.1 (spelled_each (suc i) f xs.0) xs.1 t.1 u.1);
  again = each_again n i f (l i) (each_lawful n (suc i) f l);
}

given_again : {A : Type 0} (f : Field A) → Lawful f → (x : Option A) (rest : List ℕ) → (given f).Has x → (given f).taken ((given f).spelled x ++ rest) ≡ Ok (x, rest)
given_again f l None rest h = absurd h
given_again f l (Some x) rest h = rw (l.again x rest h) refl

pub given_lawful : {A : Type 0} (f : Field A) → Lawful f → Lawful (given f)
given_lawful f l = record {
  takes = λ bs z fits e.
      let a = bind_ok (f.taken bs) (λ x. Ok (Some x.0, x.1)) z e in
      subst (λ w. (given f).Has w.0 × Takes bs ((given f).spelled w.0) w.1) (ok_is (Some a.0.0, a.0.1) z a.2) (l.takes bs a.0 fits a.1);
  again = given_again f l;
}

pub where_due_lawful : {A : Type 0} (due : Bool) (f : Field A) → Lawful f → Lawful (where_due due f)
where_due_lawful true f l = given_lawful f l
where_due_lawful false f l = known_lawful None
