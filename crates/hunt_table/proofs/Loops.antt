-- Reading parts one after the other, as a loop does.
use Rattle.std.proofs.Common.{◌≡◌, ◌≢◌, ◌==◌, ℕ, zero, suc, ◌-◌, ◌%◌, ◌^◌, Bool, true, false, if◌then◌else◌, List, [], ◌∷◌, ◌++◌, take, drop, refl, sym, ap, ◌∙◌, append_assoc, arith}
use Rattle.std.proofs.lemmas.List.{append-nil}
use Rattle.std.proofs.lemmas.Bool.Decides.{nat_tests}
use Rattle.hunt_table.specs.declared.seen_range.SeenRange.{SeenRange}
use Rattle.plan_hunt.specs.declared.row.Row.{Row}
use Rattle.hunt_table.specs.Reading.{bytes_at, hex_value, last_ranges, many}

-- these parts were read, and of what is left come the others
pub record Goes {A : Type 0} (there : List ℕ → Bool) (part : List ℕ → A × List ℕ) (n : ℕ) (bs : List ℕ) (front : List A) (total : List A × List ℕ) : Type 0 where
  pub parts : front ++ (many there part n bs).0 ≡ total.0
  pub rest : (many there part n bs).1 ≡ total.1

pub starts : {A : Type 0} (there : List ℕ → Bool) (part : List ℕ → A × List ℕ) (n : ℕ) (bs : List ℕ) → Goes there part (n - 0) bs [] (many there part n bs)
starts there part n bs =
    let less : n - 0 ≡ n = omega arith in
    record { parts = ap (λ (k : ℕ). (many there part k bs).0) less; rest = ap (λ (k : ℕ). (many there part k bs).1) less }

pub one_part : {A : Type 0} (there : List ℕ → Bool) (part : List ℕ → A × List ℕ) (m n : ℕ) (bs : List ℕ) → n ≡ suc m → there bs ≡ true →
    many there part n bs ≡ ((part bs).0 ∷ (many there part m (part bs).1).0, (many there part m (part bs).1).1)
unfolding many
one_part {A} there part m n bs e t =
    let whole : List A × List ℕ = ((part bs).0 ∷ (many there part m (part bs).1).0, (many there part m (part bs).1).1) in
    let none : List A × List ℕ = ([], bs) in
    ap (λ (k : ℕ). many there part k bs) e ∙ ap (λ (b : Bool). if b then whole else none) t

pub goes_on : {A : Type 0} (there : List ℕ → Bool) (part : List ℕ → A × List ℕ) (m n : ℕ) (bs after : List ℕ) (a : A) (front : List A) (total : List A × List ℕ) → n ≡ suc m → there bs ≡ true →
    a ≡ (part bs).0 → after ≡ (part bs).1 → Goes there part n bs front total → Goes there part m after (front ++ a ∷ []) total
goes_on {A} there part m n bs after a front total e t is rest h =
    let one = one_part there part m n bs e t in
    record {
      parts =
          ap (λ (x : A). (front ++ x ∷ []) ++ (many there part m after).0) is
          ∙ ap (λ (r : List ℕ). (front ++ (part bs).0 ∷ []) ++ (many there part m r).0) rest
          ∙ append_assoc front ((part bs).0 ∷ []) (many there part m (part bs).1).0
          ∙ ap (λ (p : List A × List ℕ). front ++ p.0) (sym one) ∙ h.parts;
      rest = ap (λ (r : List ℕ). (many there part m r).1) rest ∙ ap (λ (p : List A × List ℕ). p.1) (sym one) ∙ h.rest;
    }

pub record IsDone {A : Type 0} (bs : List ℕ) (front : List A) (total : List A × List ℕ) : Type 0 where
  pub parts : front ≡ total.0
  pub rest : bs ≡ total.1

pub no_part : {A : Type 0} (there : List ℕ → Bool) (part : List ℕ → A × List ℕ) (n : ℕ) (bs : List ℕ) → there bs ≡ false → many there part n bs ≡ ([], bs)
unfolding many
no_part there part zero bs t = refl
no_part {A} there part (suc m) bs t =
    let whole : List A × List ℕ = ((part bs).0 ∷ (many there part m (part bs).1).0, (many there part m (part bs).1).1) in
    let none : List A × List ℕ = ([], bs) in
    ap (λ (b : Bool). if b then whole else none) t

done_by : {A : Type 0} (there : List ℕ → Bool) (part : List ℕ → A × List ℕ) (n : ℕ) (bs : List ℕ) (front : List A) (total : List A × List ℕ) → many there part n bs ≡ ([], bs) →
    Goes there part n bs front total → IsDone bs front total
done_by {A} there part n bs front total none h = record {
  parts = sym (append-nil front) ∙ ap (λ (p : List A × List ℕ). front ++ p.0) (sym none) ∙ h.parts;
  rest = ap (λ (p : List A × List ℕ). p.1) (sym none) ∙ h.rest;
}

pub goes_none : {A : Type 0} (there : List ℕ → Bool) (part : List ℕ → A × List ℕ) (n : ℕ) (bs : List ℕ) (front : List A) (total : List A × List ℕ) → there bs ≡ false →
    Goes there part n bs front total → IsDone bs front total
goes_none there part n bs front total t h = done_by there part n bs front total (no_part there part n bs t) h

pub at_zero : {A : Type 0} (there : List ℕ → Bool) (part : List ℕ → A × List ℕ) (bs : List ℕ) → many there part 0 bs ≡ ([], bs)
unfolding many
at_zero there part bs = refl

pub goes_end : {A : Type 0} (there : List ℕ → Bool) (part : List ℕ → A × List ℕ) (n : ℕ) (bs : List ℕ) (front : List A) (total : List A × List ℕ) → n ≡ 0 →
    Goes there part n bs front total → IsDone bs front total
goes_end {A} there part n bs front total e h = done_by there part n bs front total (ap (λ (k : ℕ). many there part k bs) e ∙ at_zero there part bs) h

pub one_byte : (m n : ℕ) (bs after old new total : List ℕ) → n ≡ suc m → after ≡ drop 2 bs → new ≡ old ++ hex_value (take 2 bs) % 2 ^ 8 ∷ [] → old ++ bytes_at n bs ≡ total →
    new ++ bytes_at m after ≡ total
unfolding bytes_at
one_byte m n bs after old new total e rest is h =
    ap (λ (v : List ℕ). new ++ bytes_at m v) rest
    ∙ ap (λ (v : List ℕ). v ++ bytes_at m (drop 2 bs)) is ∙ append_assoc old (hex_value (take 2 bs) % 2 ^ 8 ∷ []) (bytes_at m (drop 2 bs))
    ∙ ap (λ (k : ℕ). old ++ bytes_at k bs) (sym e) ∙ h

pub no_bytes : (n : ℕ) (bs old total : List ℕ) → n ≡ 0 → old ++ bytes_at n bs ≡ total → old ≡ total
unfolding bytes_at
no_bytes n bs old total e h = sym (append-nil old) ∙ ap (λ (k : ℕ). old ++ bytes_at k bs) (sym e) ∙ h

-- ---- the tests

pub is_there : (b n k : ℕ) → b ≡ n → b ≡ k → (n == k) ≡ true
is_there b n k e h = grind (arith, nat_tests)

pub not_there : (b n k : ℕ) → b ≡ n → b ≢ k → (n == k) ≡ false
not_there b n k e h = grind (arith, nat_tests)

-- ---- what is kept of the parts

pub last_push : (r : List SeenRange) (es : List (Row × List SeenRange)) (e : Row × List SeenRange) → last_ranges r (es ++ e ∷ []) ≡ e.1
last_push r [] e = refl
last_push r (d ∷ es) e = last_push d.1 es e
