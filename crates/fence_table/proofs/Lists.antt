-- What the lines of a list of gaps say, one after the other.
use Rattle.std.proofs.Common.{◌≡◌, ◌∙◌, ℕ, suc, ◌+◌, List, [], ◌++◌, Option, Some, None, append_assoc, ap, drop, option_map, refl, sym, take, unwrap_or}
use Rattle.fence_table.specs.Accepting.{Words, both, lines_said, said_in, to_end}

pub after_none : (said : Option (List Words)) → option_map (λ more. [] ++ more) said ≡ said
after_none None = refl
after_none (Some s) = refl

some_is : (x y : List Words) → Some x ≡ Some y → x ≡ y
some_is x y e = ap (λ o. unwrap_or o x) e

joins : (old new : List Words) (said rest total : Option (List Words)) → option_map (λ more. old ++ more) said ≡ Some new
    → option_map (λ more. old ++ more) (both said rest) ≡ total → option_map (λ more. new ++ more) rest ≡ total
joins old new None rest total e h = absurd cc
joins old new (Some s) None total e h = h
joins old new (Some s) (Some r) total e h = ap (λ (z : List Words). Some (z ++ r)) (sym (some_is (old ++ s) new e)) ∙ (ap Some (append_assoc old s r) ∙ h)

ends : (old : List Words) (said rest total : Option (List Words)) → option_map (λ more. old ++ more) said ≡ None
    → option_map (λ more. old ++ more) (both said rest) ≡ total → total ≡ None
ends old None rest total e h = sym h
ends old (Some s) rest total e h = absurd cc

-- the line at the front says this, so it is left out
pub goes_on : (n m e : ℕ) (old new : List Words) (text after : List ℕ) (total : Option (List Words)) → n ≡ suc m → e ≡ to_end text → after ≡ drop (e + 1) text
    → option_map (λ said. old ++ said) (said_in (take e text)) ≡ Some new → option_map (λ more. old ++ more) (lines_said n text) ≡ total
    → option_map (λ more. new ++ more) (lines_said m after) ≡ total
goes_on n m e old new text after total more end is said h =
    let here = ap (λ (k : ℕ). option_map (λ s. old ++ s) (said_in (take k text))) (sym end) ∙ said in
    let whole = ap (λ (k : ℕ). option_map (λ s. old ++ s) (lines_said k text)) (sym more) ∙ h in
    ap (λ (t : List ℕ). option_map (λ s. new ++ s) (lines_said m t)) (is ∙ ap (λ (k : ℕ). drop (k + 1) text) end)
    ∙ joins old new (said_in (take (to_end text) text)) (lines_said m (drop (to_end text + 1) text)) total here whole

-- it says nothing that a line may, so the text is no list
pub is_none : (n m e : ℕ) (old : List Words) (text : List ℕ) (total : Option (List Words)) → n ≡ suc m → e ≡ to_end text
    → option_map (λ said. old ++ said) (said_in (take e text)) ≡ None → option_map (λ more. old ++ more) (lines_said n text) ≡ total → total ≡ None
is_none n m e old text total more end said h =
    let here = ap (λ (k : ℕ). option_map (λ s. old ++ s) (said_in (take k text))) (sym end) ∙ said in
    let whole = ap (λ (k : ℕ). option_map (λ s. old ++ s) (lines_said k text)) (sym more) ∙ h in
    ends old (said_in (take (to_end text) text)) (lines_said m (drop (to_end text + 1) text)) total here whole
