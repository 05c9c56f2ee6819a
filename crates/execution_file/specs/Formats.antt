-- A format of values of A: which values it has, the one spelling of each, and how it is read from the front of a text.
use Rattle.std.specs.Prelude.{◌≡◌, ℕ, zero, suc, ◌<◌, ◌+◌, ◌-◌, ◌*◌, ◌/◌, ◌%◌, ◌==◌, ◌&&◌, ◌||◌, Bool, true, false, if◌then◌else◌, nat_le, nat_lt, List, [], ◌∷◌, ◌++◌, length, codes, Option, Some, None, Result, Ok, Err}
use Rattle.std.specs.Fmt.{decimal}
use Rattle.execution_file.specs.declared.cause.Cause.{Cause}
use Rattle.execution_file.specs.declared.cause.Cause.TheVariants.{Cut, Malformed, OutOfRange}
use Rattle.execution_file.specs.declared.cause.Refusal.{Refusal}
use Rattle.execution_file.specs.Numerals.{is_digit, digits_at, after_digits, is_numeral, value_of}

infixl 10 ◌>>=◌
abbrev pub ◌>>=◌ : {A B : Type 0} → Result A Refusal → (A → Result B Refusal) → Result B Refusal
(Ok x) >>= f = f x
(Err e) >>= f = Err e

-- `taken` gives the value and the bytes after it, or the first cause that is met, and how many bytes stand from there on
pub record Format (A : Type 0) : Type 1 where
  pub Has : A → Type 0
  pub spelled : A → List ℕ
  pub taken : List ℕ → Result (A × List ℕ) Refusal

-- refused for a cause, where these bytes stand
abbrev pub refused : {A : Type 0} → Cause → List ℕ → Result A Refusal
refused c bs = Err (record { cause = c; left = length bs })

-- ---- words

-- `wrong` is the cause at the first byte that is another
abbrev pub taken_word : Cause → Cause → List ℕ → List ℕ → Result (List ℕ) Refusal
taken_word short wrong [] bs = Ok bs
taken_word short wrong (w ∷ ws) [] = refused short []
taken_word short wrong (w ∷ ws) (b ∷ bs) = if b == w then taken_word short wrong ws bs else refused wrong (b ∷ bs)

-- a word, and then a format
abbrev pub begun_or : {A : Type 0} → Cause → Cause → List ℕ → Format A → Format A
begun_or short wrong ws f = record {
  Has = f.Has;
  spelled = λ x. ws ++ f.spelled x;
  taken = λ bs. taken_word short wrong ws bs >>= f.taken;
}

abbrev pub begun : {A : Type 0} → List ℕ → Format A → Format A
begun ws f = begun_or Cut Malformed ws f

-- a format, and then a word
abbrev pub ended : {A : Type 0} → Format A → List ℕ → Format A
ended f ws = record {
  Has = f.Has;
  spelled = λ x. f.spelled x ++ ws;
  taken = λ bs. f.taken bs >>= λ x. taken_word Cut Malformed ws x.1 >>= λ rest. Ok (x.0, rest);
}

-- ---- numbers

abbrev pub no_number : List ℕ → Result (ℕ × List ℕ) Refusal
no_number [] = refused Cut []
no_number (b ∷ bs) = refused Malformed (b ∷ bs)

-- in decimal, up to high
abbrev pub number : ℕ → Format ℕ
number high = record {
  Has = λ n. nat_le n high ≡ true;
  spelled = decimal;
  taken = λ bs. if is_numeral (digits_at bs) then (if nat_le (value_of (digits_at bs)) high then Ok (value_of (digits_at bs), after_digits bs) else refused OutOfRange bs) else no_number bs;
}

-- ---- bytes, each of two hexadecimal digits

abbrev pub hex_digit : ℕ → ℕ
hex_digit d = if nat_lt d 10 then 48 + d else 87 + d

abbrev pub is_hex : ℕ → Bool
is_hex b = is_digit b || (nat_le 97 b && nat_le b 102)

abbrev pub hex_value : ℕ → ℕ
hex_value b = if nat_lt b 97 then b - 48 else b - 87

abbrev pub taken_byte : List ℕ → Result (ℕ × List ℕ) Refusal
taken_byte [] = refused Cut []
taken_byte (a ∷ []) = refused Cut (a ∷ [])
taken_byte (a ∷ b ∷ bs) = if is_hex a && is_hex b then Ok (16 * hex_value a + hex_value b, bs) else refused Malformed (a ∷ b ∷ bs)

abbrev pub byte : Format ℕ
byte = record { Has = λ n. n < 256; spelled = λ n. hex_digit (n / 16) ∷ hex_digit (n % 16) ∷ []; taken = taken_byte }

-- ---- one format and then another, which may depend on the value of the first

infixr 6 ◌&◌
abbrev pub ◌&◌ : {A B : Type 0} → Format A → (A → Format B) → Format (A × B)
f & g = record {
  Has = λ x. f.Has x.0 × (g x.0).Has x.1;
  spelled = λ x. f.spelled x.0 ++ (g x.0).spelled x.1;
  taken = λ bs. f.taken bs >>= λ x. (g x.0).taken x.1 >>= λ y. Ok ((x.0, y.0), y.1);
}

-- ---- the same format for other values

abbrev pub seen : {A B : Type 0} → (A → B) → (B → A) → Format A → Format B
seen to from f = record {
  Has = λ y. f.Has (from y);
  spelled = λ y. f.spelled (from y);
  taken = λ bs. f.taken bs >>= λ x. Ok (to x.0, x.1);
}

-- ---- the values of a format that pass a test; another one is refused where it begins

unfoldable pub taken_limited : {A : Type 0} → (A → Bool) → Cause → Format A → List ℕ → Result (A × List ℕ) Refusal
taken_limited test cause f bs = f.taken bs >>= λ x. if test x.0 then Ok x else refused cause bs

abbrev pub limited : {A : Type 0} → (A → Bool) → Cause → Format A → Format A
limited test cause f = record { Has = λ x. f.Has x × (test x ≡ true); spelled = f.spelled; taken = taken_limited test cause f }

-- ---- a line that says how many values there are, and then values 0, 1, .. of them

abbrev pub HaveEach : {A : Type 0} → ℕ → ℕ → (ℕ → Format A) → List A → Type 0
HaveEach zero i f [] = Unit {0}
HaveEach zero i f (x ∷ xs) = ⊥
HaveEach (suc n) i f [] = ⊥
HaveEach (suc n) i f (x ∷ xs) = (f i).Has x × HaveEach n (suc i) f xs

abbrev pub spelled_each : {A : Type 0} → ℕ → (ℕ → Format A) → List A → List ℕ
spelled_each i f [] = []
spelled_each i f (x ∷ xs) = (f i).spelled x ++ spelled_each (suc i) f xs

unfoldable pub taken_each : {A : Type 0} → ℕ → ℕ → (ℕ → Format A) → List ℕ → Result (List A × List ℕ) Refusal
taken_each zero i f bs = Ok ([], bs)
taken_each (suc n) i f bs = (f i).taken bs >>= λ x. taken_each n (suc i) f x.1 >>= λ xs. Ok (x.0 ∷ xs.0, xs.1)

abbrev pub each : {A : Type 0} → ℕ → (ℕ → Format A) → Format (List A)
each n f = record { Has = HaveEach n 0 f; spelled = spelled_each 0 f; taken = taken_each n 0 f }

abbrev pub items_of : {A : Type 0} → ℕ × List A → List A
items_of t = t.1

abbrev pub with_count : {A : Type 0} → List A → ℕ × List A
with_count xs = (length xs, xs)

abbrev pub counted : {A : Type 0} → ℕ → (ℕ → ℕ → Format A) → Format (List A)
counted high f = seen items_of with_count (ended (number high) (codes "\n") & λ n. each n (f n))

-- ---- values up to the end of a line, each after a blank

abbrev pub HaveAll : {A : Type 0} → Format A → List A → Type 0
HaveAll f [] = Unit {0}
HaveAll f (x ∷ xs) = f.Has x × HaveAll f xs

abbrev pub spelled_list : {A : Type 0} → Format A → List A → List ℕ
spelled_list f [] = 10 ∷ []
spelled_list f (x ∷ xs) = 32 ∷ f.spelled x ++ spelled_list f xs

-- of a text of so many bytes
unfoldable pub taken_list : {A : Type 0} → ℕ → Format A → List ℕ → Result (List A × List ℕ) Refusal
taken_list zero f bs = refused Cut bs
taken_list (suc n) f [] = refused Cut []
taken_list (suc n) f (b ∷ bs) =
    if b == 32 then (f.taken bs >>= λ x. taken_list n f x.1 >>= λ xs. Ok (x.0 ∷ xs.0, xs.1))
    else (if b == 10 then Ok ([], bs) else refused Malformed (b ∷ bs))

abbrev pub listed : {A : Type 0} → Format A → Format (List A)
listed f = record { Has = HaveAll f; spelled = spelled_list f; taken = λ bs. taken_list (length bs) f bs }

-- ---- a value that may be there, after a byte that says so

abbrev pub HasGiven : {A : Type 0} → Format A → Option A → Type 0
HasGiven f None = Unit {0}
HasGiven f (Some x) = f.Has x

abbrev pub spelled_after : {A : Type 0} → ℕ → Format A → Option A → List ℕ
spelled_after c f None = []
spelled_after c f (Some x) = c ∷ f.spelled x

abbrev pub taken_after : {A : Type 0} → ℕ → Format A → List ℕ → Result (Option A × List ℕ) Refusal
taken_after c f [] = Ok (None, [])
taken_after c f (b ∷ bs) = if b == c then (f.taken bs >>= λ x. Ok (Some x.0, x.1)) else Ok (None, b ∷ bs)

abbrev pub after : {A : Type 0} → ℕ → Format A → Format (Option A)
after c f = record { Has = HasGiven f; spelled = spelled_after c f; taken = taken_after c f }

-- ---- a line may end behind a value

abbrev pub broken : {A : Type 0} → Bool → Format A → Format A
broken true f = ended f (codes "\n")
broken false f = f
