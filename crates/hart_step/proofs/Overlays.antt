-- Bytes over guest memory: what code and faults they leave, and one more store.
use Rattle.std.proofs.Common.{◌≡◌, ℕ, zero, suc, ◌+◌, ◌/◌, ◌%◌, ◌^◌, ◌==◌, ◌||◌, Bool, true, false, if◌then◌else◌, nat_lt, List, [], ◌∷◌, Option, None, refl, sym, ap, subst, ◌∙◌, arith}
use Rattle.std.proofs.lemmas.List.Elements.{All-cons}
use Rattle.pages.specs.declared.access.Fault.{Fault}
use Rattle.pages.specs.declared.access.Range.{Range}
use Rattle.pages.specs.declared.access.Store.{Store}
use Rattle.pages.specs.declared.access.Width.{Width}
use Rattle.pages.specs.Memory.{Memory, stored, is_code, any_code, width_bytes, store_fault, fetched, TouchesNoCode}
use Rattle.pages.proofs.StoreLaws.{length-after, fetched_stays}
use Rattle.pages.proofs.Accesses.{store_accepted}
use Rattle.store_buffer.specs.Covered.{Rising, with_byte, with_bytes, with_store, stores_of}
use Rattle.store_buffer.proofs.CoveredLaws.{after_with_store}
use Rattle.hart_step.specs.Buffered.{Overlay, Clear, HasLine, seen_through}

or_false : (a b : Bool) → (a || b) ≡ false → (a ≡ false) × (b ≡ false)
or_false true b e = (e, cc)
or_false false b e = (refl, e)

either : (code : List Range) (t : Bool) (es fs : List (ℕ × ℕ)) → Clear code es → Clear code fs → Clear code (if t then es else fs)
either code true es fs c d = c
either code false es fs c d = d

clear_with_byte : (code : List Range) (es : List (ℕ × ℕ)) (a b : ℕ) → is_code code a ≡ false → Clear code es → Clear code (with_byte es a b)
clear_with_byte code [] a b e c = (e, tt)
clear_with_byte code (f ∷ es) a b e c = either code (nat_lt a f.0) _ _ (e, (c.0, c.1)) (either code (a == f.0) _ _ (e, c.1) (c.0, clear_with_byte code es a b e c.1))

clear_with_bytes : (code : List Range) (es : List (ℕ × ℕ)) (a v n : ℕ) → any_code code a n ≡ false → Clear code es → Clear code (with_bytes es a v n)
clear_with_bytes code es a v zero e c = c
clear_with_bytes code es a v (suc n) e c =
    let p = or_false (is_code code a) (any_code code (a + 1) n) e in
    clear_with_bytes code (with_byte es a (v % 2 ^ 8)) (a + 1) (v / 2 ^ 8) n p.1 (clear_with_byte code es a (v % 2 ^ 8) p.0 c)

pub clear_with_store : (m : Memory) (es : List (ℕ × ℕ)) (s : Store) → store_fault m s.address s.width ≡ None → Clear m.code es → Clear m.code (with_store es s)
unfolding with_store
clear_with_store m es s e c = clear_with_bytes m.code es s.address s.value (width_bytes s.width) (store_accepted m s.address s.width e).2 c

touches_none : (code : List Range) (es : List (ℕ × ℕ)) → Clear code es → TouchesNoCode code (stores_of es)
touches_none code [] c = λ k d h. absurd (omega arith)
touches_none code (e ∷ es) c = All-cons (λ (s : Store). any_code code s.address (width_bytes s.width) ≡ false) _ (stores_of es) (one (is_code code e.0) c.0) (touches_none code es c.1)
  where
    one : (b : Bool) → b ≡ false → (b || false) ≡ false
    one true e = e
    one false e = e

pub fetched_under : (m : Memory) (es : List (ℕ × ℕ)) (pc : ℕ) → Clear m.code es → fetched m pc ≡ fetched (stored m (stores_of es)) pc
fetched_under m es pc c = sym (fetched_stays m pc (stores_of es) (touches_none m.code es c))

pub fault_under : (m : Memory) (ss : List Store) (a : ℕ) (w : Width) → store_fault (stored m ss) a w ≡ store_fault m a w
unfolding store_fault
fault_under m ss a w = rw (length-after m.bytes ss) refl

pub stored_with : (m : Memory) (es : List (ℕ × ℕ)) (s : Store) → Rising 0 es → stored m (stores_of (with_store es s)) ≡ stored (stored m (stores_of es)) (s ∷ [])
stored_with m es s r = ap (λ (bs : List ℕ). record m { bytes = bs }) (after_with_store es m.bytes s r)

module _ (m : Memory) (es : List (ℕ × ℕ)) (v : Overlay) (e : record { base = m; bytes = es } ≡ v) where
  pub fault_seen : (a : ℕ) (w : Width) (f : Option Fault) → store_fault m a w ≡ f → store_fault (seen_through v) a w ≡ f
  fault_seen a w f h = subst (λ (x : Overlay). store_fault (seen_through x) a w ≡ f) e (fault_under m (stores_of es) a w ∙ h)

  pub put_seen : (s : Store) (fs : List (ℕ × ℕ)) → Rising 0 es → fs ≡ with_store es s → stored m (stores_of fs) ≡ stored (seen_through v) (s ∷ [])
  put_seen s fs r h = subst (λ (x : Overlay). stored m (stores_of fs) ≡ stored (seen_through x) (s ∷ [])) e (ap (λ (x : List (ℕ × ℕ)). stored m (stores_of x)) h ∙ stored_with m es s r)

  pub line_seen : (s : Store) → HasLine v s → HasLine (record { base = m; bytes = es }) s
  line_seen s h = subst (λ (x : Overlay). HasLine x s) (sym e) h
