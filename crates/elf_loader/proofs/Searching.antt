-- One step of going through section headers, and through the entries of a symbol table.
use Rattle.std.proofs.Common.{◌≡◌, ◌≢◌, ℕ, suc, ◌+◌, ◌==◌, ◌||◌, Bool, true, false, if◌then◌else◌, List, Some, refl, ◌∙◌, ap, arith}
use Rattle.std.proofs.lemmas.Bool.Decides.{nat_tests}
use Rattle.elf_loader.specs.Symbols.{is_named, is_other, object_at, object_from, other_from, section_at, symbol_at, symbols_from}
use Rattle.elf_loader.specs.declared.section.Section.{Section}

pub other_section : (file : List ℕ) (at m n : ℕ) (s : Section) → s ≡ section_at file at → s.kind ≢ 2 → n ≡ suc m → symbols_from file at n ≡ symbols_from file (at + 64) m
other_section file at m n s is k e = ap (symbols_from file at) e ∙ rw (not_two (section_at file at).kind (λ q. k (ap (λ (t : Section). t.kind) is ∙ q))) refl
  where
    not_two : (n : ℕ) → n ≢ 2 → (n == 2) ≡ false
    not_two n e = grind (arith, nat_tests)

pub object_here : (kind : ℕ) (entries strings name : List ℕ) (at m n : ℕ) → is_named kind strings name (symbol_at entries at) ≡ true → n ≡ suc m →
    object_from kind entries strings name at n ≡ Some (object_at (symbol_at entries at))
object_here kind entries strings name at m n h e =
    ap (object_from kind entries strings name at) e ∙ ap (λ (b : Bool). if b then Some (object_at (symbol_at entries at)) else object_from kind entries strings name (at + 24) m) h

pub other_symbol : (kind : ℕ) (entries strings name : List ℕ) (at m n : ℕ) → is_named kind strings name (symbol_at entries at) ≡ false → n ≡ suc m →
    object_from kind entries strings name at n ≡ object_from kind entries strings name (at + 24) m
other_symbol kind entries strings name at m n h e =
    ap (object_from kind entries strings name at) e ∙ ap (λ (b : Bool). if b then Some (object_at (symbol_at entries at)) else object_from kind entries strings name (at + 24) m) h

pub other_here : (kind : ℕ) (entries strings name : List ℕ) (address at m n : ℕ) → is_other kind strings name address (symbol_at entries at) ≡ true → n ≡ suc m →
    other_from kind entries strings name address at n ≡ true
other_here kind entries strings name address at m n h e =
    ap (other_from kind entries strings name address at) e ∙ ap (λ (b : Bool). b || other_from kind entries strings name address (at + 24) m) h

pub no_other_here : (kind : ℕ) (entries strings name : List ℕ) (address at m n : ℕ) → is_other kind strings name address (symbol_at entries at) ≡ false → n ≡ suc m →
    other_from kind entries strings name address at n ≡ other_from kind entries strings name address (at + 24) m
no_other_here kind entries strings name address at m n h e =
    ap (other_from kind entries strings name address at) e ∙ ap (λ (b : Bool). b || other_from kind entries strings name address (at + 24) m) h
