-- Data read unit by unit.
use Rattle.std.proofs.Common.{◌≡◌, ℕ, zero, suc, ◌-◌, Bool, true, false, cond, List, [], ◌∷◌, ◌++◌, length, Option, Some, None, refl, sym, ◌∙◌, ap, append_assoc, arith, length-append, append-nil}
use Rattle.std.specs.Prelude.{slice_get, replicate}
use Rattle.gdb_packets.specs.declared.payload.Kind.{Kind}
use Rattle.gdb_packets.specs.declared.payload.Kind.TheVariants.{Plain, Escape, Repeat, Frame}
use Rattle.gdb_packets.specs.Payload.{RepeatsLast, behind, byte_alone, flipped, is_count, kind_of, last_of, read_behind, read_on, times_of}

at_pushed : (xs : List ℕ) (x : ℕ) → slice_get (xs ++ x ∷ []) (length xs) ≡ Some x
at_pushed [] x = refl
at_pushed (y ∷ ys) x = at_pushed ys x

last_of_pushed : (xs : List ℕ) (x : ℕ) → last_of (xs ++ x ∷ []) ≡ Some x
last_of_pushed xs x =
    let place : length (xs ++ x ∷ []) - 1 ≡ length xs = omega (arith, length-append xs (x ∷ [])) in
    ap (slice_get (xs ++ x ∷ [])) place ∙ at_pushed xs x

last_of_repeated : (n : ℕ) (xs : List ℕ) (x : ℕ) → last_of xs ≡ Some x → last_of (xs ++ replicate n x) ≡ Some x
last_of_repeated zero xs x e = ap last_of (append-nil xs) ∙ e
last_of_repeated (suc n) xs x e = ap last_of (sym (append_assoc xs (x ∷ []) (replicate n x))) ∙ last_of_repeated n (xs ++ x ∷ []) x (last_of_pushed xs x)

behind_both : (xs ys : List ℕ) (r : Option (List ℕ)) → behind xs (behind ys r) ≡ behind (xs ++ ys) r
behind_both xs ys None = refl
behind_both xs ys (Some zs) = ap Some (sym (append_assoc xs ys zs))

pub plain_behind : (last : Option ℕ) (b : ℕ) (others : List ℕ) → kind_of b ≡ Plain → read_behind last (b ∷ others) ≡ behind (b ∷ []) (read_behind (Some b) others)
unfolding read_behind
plain_behind last b [] k = rw k refl
plain_behind last b (c ∷ bs) k = rw k refl

-- ---- what is read with one unit more

pub plain_read : (old new : List ℕ) (b : ℕ) (others bytes : List ℕ) → bytes ≡ b ∷ others → kind_of b ≡ Plain → new ≡ old ++ b ∷ [] → read_on new others ≡ read_on old bytes
plain_read old new b others bytes e k n =
    ap (λ (xs : List ℕ). read_on xs others) n
    ∙ ap (λ (l : Option ℕ). behind (old ++ b ∷ []) (read_behind l others)) (last_of_pushed old b)
    ∙ sym (behind_both old (b ∷ []) (read_behind (Some b) others))
    ∙ ap (behind old) (sym (plain_behind (last_of old) b others k))
    ∙ ap (read_on old) (sym e)

pub escaped_behind : (last : Option ℕ) (b c : ℕ) (rest : List ℕ) → kind_of b ≡ Escape → read_behind last (b ∷ c ∷ rest) ≡ behind (flipped c ∷ []) (read_behind (Some (flipped c)) rest)
unfolding read_behind
escaped_behind last b c rest k = rw k refl

pub escaped_read : (old new : List ℕ) (b c : ℕ) (others rest bytes : List ℕ) → bytes ≡ b ∷ others → others ≡ c ∷ rest → kind_of b ≡ Escape → new ≡ old ++ flipped c ∷ [] → read_on new rest ≡ read_on old bytes
escaped_read old new b c others rest bytes e f k n =
    ap (λ (xs : List ℕ). read_on xs rest) n
    ∙ ap (λ (l : Option ℕ). behind (old ++ flipped c ∷ []) (read_behind l rest)) (last_of_pushed old (flipped c))
    ∙ sym (behind_both old (flipped c ∷ []) (read_behind (Some (flipped c)) rest))
    ∙ ap (behind old) (sym (escaped_behind (last_of old) b c rest k))
    ∙ ap (read_on old) (sym (e ∙ ap (λ (xs : List ℕ). b ∷ xs) f))

repeated_behind : (a b c : ℕ) (rest : List ℕ) → kind_of b ≡ Repeat → is_count c ≡ true → read_behind (Some a) (b ∷ c ∷ rest) ≡ behind (replicate (times_of c) a) (read_behind (Some a) rest)
unfolding read_behind
repeated_behind a b c rest k n = rw (k, n) refl

pub repeated_read : (old new : List ℕ) (b c : ℕ) (others rest bytes : List ℕ) → bytes ≡ b ∷ others → others ≡ c ∷ rest → kind_of b ≡ Repeat → RepeatsLast old c true new → read_on new rest ≡ read_on old bytes
repeated_read old new b c others rest bytes e f k (a, l, n, is) =
    ap (λ (xs : List ℕ). read_on xs rest) is
    ∙ ap (λ (x : Option ℕ). behind (old ++ replicate (times_of c) a) (read_behind x rest)) (last_of_repeated (times_of c) old a l)
    ∙ sym (behind_both old (replicate (times_of c) a) (read_behind (Some a) rest))
    ∙ ap (behind old) (sym (repeated_behind a b c rest k n) ∙ ap (λ (x : Option ℕ). read_behind x (b ∷ c ∷ rest)) (sym l))
    ∙ ap (read_on old) (sym (e ∙ ap (λ (xs : List ℕ). b ∷ xs) f))

-- ---- data that stands for never payload

nothing_behind : (last : Option ℕ) (b c : ℕ) (rest : List ℕ) → kind_of b ≡ Repeat → ((a : ℕ) → last ≡ Some a → is_count c ≡ true → ⊥) → read_behind last (b ∷ c ∷ rest) ≡ None
unfolding read_behind
nothing_behind None b c rest k never = rw k refl
nothing_behind (Some a) b c rest k never = rw k (by_count (is_count c) refl) where
  by_count : (t : Bool) → is_count c ≡ t → cond t (behind (replicate (times_of c) a) (read_behind (Some a) rest)) None ≡ None
  by_count true is = absurd (never a refl is)
  by_count false is = refl

pub not_repeated : (old new : List ℕ) (b c : ℕ) (others rest bytes : List ℕ) → bytes ≡ b ∷ others → others ≡ c ∷ rest → kind_of b ≡ Repeat → RepeatsLast old c false new → read_on old bytes ≡ None
not_repeated old new b c others rest bytes e f k never =
    ap (read_on old) (e ∙ ap (λ (xs : List ℕ). b ∷ xs) f) ∙ ap (behind old) (nothing_behind (last_of old) b c rest k never)

alone_behind : (last : Option ℕ) (b : ℕ) (k : Kind) → kind_of b ≡ k → byte_alone k b ≡ None → read_behind last (b ∷ []) ≡ None
unfolding read_behind
alone_behind last b k e n = rw e n

pub alone_read : (old : List ℕ) (b : ℕ) (others bytes : List ℕ) (k : Kind) → bytes ≡ b ∷ others → length others ≡ 0 → kind_of b ≡ k → byte_alone k b ≡ None → read_on old bytes ≡ None
alone_read old b [] bytes k e z is n = ap (read_on old) e ∙ ap (behind old) (alone_behind (last_of old) b k is n)
alone_read old b (c ∷ bs) bytes k e z is n = absurd (omega arith)

frame_behind : (last : Option ℕ) (b : ℕ) (others : List ℕ) → kind_of b ≡ Frame → read_behind last (b ∷ others) ≡ None
unfolding read_behind
frame_behind last b [] k = rw k refl
frame_behind last b (c ∷ bs) k = rw k refl

pub frame_read : (old : List ℕ) (b : ℕ) (others bytes : List ℕ) → bytes ≡ b ∷ others → kind_of b ≡ Frame → read_on old bytes ≡ None
frame_read old b others bytes e k = ap (read_on old) e ∙ ap (behind old) (frame_behind (last_of old) b others k)
