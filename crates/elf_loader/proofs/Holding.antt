-- One step of going through the entries of a symbol table for the symbol that has an address, and names up to their end.
use Rattle.std.proofs.Common.{◌≡◌, ℕ, zero, suc, ◌+◌, ◌<◌, ◌==◌, Bool, true, false, if◌then◌else◌, List, [], ◌∷◌, length, take, get_or, Some, refl, sym, ◌∙◌, ap, arith}
use Rattle.std.proofs.lemmas.Bool.Decides.{nat_tests}
use Rattle.elf_loader.specs.Offsets.{before_zero, has_address, holder_from}
use Rattle.elf_loader.specs.Symbols.{symbol_at}

pub holder_here : (kind : ℕ) (entries : List ℕ) (a at m n : ℕ) → has_address kind a (symbol_at entries at) ≡ true → n ≡ suc m →
    holder_from kind entries a at n ≡ Some (symbol_at entries at)
holder_here kind entries a at m n h e =
    ap (holder_from kind entries a at) e ∙ ap (λ (b : Bool). if b then Some (symbol_at entries at) else holder_from kind entries a (at + 24) m) h

pub other_holder : (kind : ℕ) (entries : List ℕ) (a at m n : ℕ) → has_address kind a (symbol_at entries at) ≡ false → n ≡ suc m →
    holder_from kind entries a at n ≡ holder_from kind entries a (at + 24) m
other_holder kind entries a at m n h e =
    ap (holder_from kind entries a at) e ∙ ap (λ (b : Bool). if b then Some (symbol_at entries at) else holder_from kind entries a (at + 24) m) h

is_zero : (n : ℕ) → n ≡ 0 → (n == 0) ≡ true
is_zero n e = ap (λ (k : ℕ). k == 0) e

no_zero : (n : ℕ) → (n ≡ 0 → ⊥) → (n == 0) ≡ false
no_zero n e = grind (arith, nat_tests)

-- the first 0 ends them
pub zero_here : (bs : List ℕ) (i : ℕ) → ((k : ℕ) → k < i → get_or bs k 0 ≡ 0 → ⊥) → i < length bs → get_or bs i 0 ≡ 0 → take i bs ≡ before_zero bs
zero_here [] i others within z = absurd (omega (arith, within))
zero_here (b ∷ bs) zero others within z = sym (ap (λ (t : Bool). if t then [] else b ∷ before_zero bs) (is_zero b z))
zero_here (b ∷ bs) (suc i) others within z =
    ap (λ (cs : List ℕ). b ∷ cs) (zero_here bs i (λ k l. others (suc k) (omega (arith, l))) (omega (arith, within)) z)
    ∙ sym (ap (λ (t : Bool). if t then [] else b ∷ before_zero bs) (no_zero b (others 0 (omega arith))))

-- where there is none, all of them are
pub no_zero_here : (bs : List ℕ) → ((k : ℕ) → k < length bs → get_or bs k 0 ≡ 0 → ⊥) → bs ≡ before_zero bs
no_zero_here [] others = refl
no_zero_here (b ∷ bs) others =
    ap (λ (cs : List ℕ). b ∷ cs) (no_zero_here bs (λ k l. others (suc k) (omega (arith, l))))
    ∙ sym (ap (λ (t : Bool). if t then [] else b ∷ before_zero bs) (no_zero b (others 0 (omega arith))))
