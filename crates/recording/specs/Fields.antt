-- A field of a format, of values of A: which values it has, the one spelling of each, and how it is read from the front of a text.
use Rattle.std.specs.Prelude.{◌≡◌, ℕ, zero, suc, ◌<◌, ◌^◌, ◌*◌, Bool, true, false, List, [], ◌∷◌, ◌++◌, length, take, drop, Option, Some, None, Result, Ok, Err, nat_lt, nat_le, ◌&&◌, ◌-◌, if◌then◌else◌}
use Rattle.std.specs.Int.{Width, w64, byte_len, to_le_bytes, from_le_bytes}
use Rattle.recording.specs.declared.cause.Cause.{Cause}
use Rattle.recording.specs.declared.cause.Cause.TheVariants.{Cut}

infixl 10 ◌>>=◌
abbrev pub ◌>>=◌ : {A B : Type 0} → Result A Cause → (A → Result B Cause) → Result B Cause
(Ok x) >>= f = f x
(Err e) >>= f = Err e

-- `taken` gives the value and the bytes after it, or the first cause that is met
pub record Field (A : Type 0) : Type 1 where
  pub Has : A → Type 0
  pub spelled : A → List ℕ
  pub taken : List ℕ → Result (A × List ℕ) Cause

-- ---- a number of so many bytes, least significant first

abbrev pub is_within : ℕ → ℕ → ℕ → Bool
is_within low high n = nat_le low n && nat_le n high

abbrev pub tested : ℕ → ℕ → Cause → ℕ → List ℕ → Result (ℕ × List ℕ) Cause
tested low high wrong n rest = if is_within low high n then Ok (n, rest) else Err wrong

-- from low to high; `short` is the cause where it isn't whole, `wrong` where it is whole and out of this range
abbrev pub number_or : Width → Cause → Cause → ℕ → ℕ → Field ℕ
number_or w short wrong low high = record {
  Has = λ n. (n < 2 ^ (8 * byte_len w)) × (is_within low high n ≡ true);
  spelled = λ n. to_le_bytes w n;
  taken = λ bs. if nat_lt (length bs) (byte_len w) then Err short else tested low high wrong (from_le_bytes w (take (byte_len w) bs)) (drop (byte_len w) bs);
}

-- ---- a length of eight bytes, and as many bytes

abbrev pub bytes_after : ℕ × List ℕ → Result (List ℕ × List ℕ) Cause
bytes_after n = if nat_lt (length n.1) n.0 then Err Cut else Ok (take n.0 n.1, drop n.0 n.1)

-- a number of this width, whatever it is
abbrev pub most : Width → ℕ
most w = 2 ^ (8 * byte_len w) - 1

abbrev pub bytes : Field (List ℕ)
bytes = record {
  Has = λ bs. length bs < 2 ^ 64;
  spelled = λ bs. to_le_bytes w64 (length bs) ++ bs;
  taken = λ bs. (number_or w64 Cut Cut 0 (most w64)).taken bs >>= bytes_after;
}

-- ---- no bytes: a value that is known

abbrev pub known : {A : Type 0} → A → Field A
known a = record { Has = λ x. x ≡ a; spelled = λ x. []; taken = λ bs. Ok (a, bs) }

-- ---- one field and then another, which may depend on the value of the first

infixr 6 ◌&◌
abbrev pub ◌&◌ : {A B : Type 0} → Field A → (A → Field B) → Field (A × B)
f & g = record {
  Has = λ x. f.Has x.0 × (g x.0).Has x.1;
  spelled = λ x. f.spelled x.0 ++ (g x.0).spelled x.1;
  taken = λ bs. f.taken bs >>= λ x. (g x.0).taken x.1 >>= λ y. Ok ((x.0, y.0), y.1);
}

-- ---- the same field for other values

abbrev pub seen : {A B : Type 0} → (A → B) → (B → A) → Field A → Field B
seen to from f = record {
  Has = λ y. f.Has (from y);
  spelled = λ y. f.spelled (from y);
  taken = λ bs. f.taken bs >>= λ x. Ok (to x.0, x.1);
}

-- ---- fields i, i + 1, .., n of them

abbrev pub HaveEach : {A : Type 0} → ℕ → ℕ → (ℕ → Field A) → List A → Type 0
HaveEach zero i f [] = Unit {0}
HaveEach zero i f (x ∷ xs) = ⊥
HaveEach (suc n) i f [] = ⊥
HaveEach (suc n) i f (x ∷ xs) = (f i).Has x × HaveEach n (suc i) f xs

abbrev pub spelled_each : {A : Type 0} → ℕ → (ℕ → Field A) → List A → List ℕ
spelled_each i f [] = []
spelled_each i f (x ∷ xs) = (f i).spelled x ++ spelled_each (suc i) f xs

unfoldable pub taken_each : {A : Type 0} → ℕ → ℕ → (ℕ → Field A) → List ℕ → Result (List A × List ℕ) Cause
taken_each zero i f bs = Ok ([], bs)
taken_each (suc n) i f bs = (f i).taken bs >>= λ x. taken_each n (suc i) f x.1 >>= λ xs. Ok (x.0 ∷ xs.0, xs.1)

abbrev pub each : {A : Type 0} → ℕ → ℕ → (ℕ → Field A) → Field (List A)
each n i f = record { Has = HaveEach n i f; spelled = spelled_each i f; taken = taken_each n i f }

-- ---- a field that is there only where a test says so

abbrev pub HasGiven : {A : Type 0} → Field A → Option A → Type 0
HasGiven f None = ⊥
HasGiven f (Some x) = f.Has x

abbrev pub spelled_given : {A : Type 0} → Field A → Option A → List ℕ
spelled_given f None = []
spelled_given f (Some x) = f.spelled x

abbrev pub given : {A : Type 0} → Field A → Field (Option A)
given f = record { Has = HasGiven f; spelled = spelled_given f; taken = λ bs. f.taken bs >>= λ x. Ok (Some x.0, x.1) }

abbrev pub where_due : {A : Type 0} → Bool → Field A → Field (Option A)
where_due true f = given f
where_due false f = known None
