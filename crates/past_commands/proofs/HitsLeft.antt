-- The lines of hits that are left to print.
use Rattle.std.proofs.Common.{◌≡◌, ◌∙◌, ◌++◌, ◌+◌, ◌<◌, ◌≤◌, [], ◌∷◌, ℕ, List, Option, ap, arith, drop, get_or, length, refl, suc, subst, sym, zero}
use Rattle.past_commands.specs.Watched.{hit_line, hits_lines, pc_at}
use Rattle.round_schedule.specs.declared.event.Event.{Event}

no_pc : (i : ℕ) → drop {A = Option ℕ} i [] ≡ []
no_pc zero = refl
no_pc (suc i) = refl

next_after : (es : List Event) (pcs : List (Option ℕ)) (i : ℕ) (d : Event) → i < length es →
    hits_lines (drop i es) (drop i pcs) ≡ hit_line (pc_at pcs i) (get_or es i d) ++ hits_lines (drop (suc i) es) (drop (suc i) pcs)
next_after [] pcs i d lt = absurd (omega (arith, lt))
next_after (e ∷ es) pcs zero d lt = refl
next_after (e ∷ es) [] (suc i) d lt =
    ap (hits_lines (drop i es)) (sym (no_pc i)) ∙ next_after es [] i d (omega (arith, lt))
next_after (e ∷ es) (pc ∷ pcs) (suc i) d lt = next_after es pcs i d (omega (arith, lt))

-- the first of them, and those behind it
pub next_line : (es : List Event) (pcs : List (Option ℕ)) (i : ℕ) (d : Event) (pc : Option ℕ) → pc ≡ pc_at pcs i → i < length es →
    hits_lines (drop i es) (drop i pcs) ≡ hit_line pc (get_or es i d) ++ hits_lines (drop (i + 1) es) (drop (i + 1) pcs)
next_line es pcs i d pc is lt =
    let more : suc i ≡ i + 1 = omega arith in
    subst (λ (k : ℕ). hits_lines (drop i es) (drop i pcs) ≡ hit_line pc (get_or es i d) ++ hits_lines (drop k es) (drop k pcs)) more
    (subst (λ (p : Option ℕ). hits_lines (drop i es) (drop i pcs) ≡ hit_line p (get_or es i d) ++ hits_lines (drop (suc i) es) (drop (suc i) pcs)) (sym is) (next_after es pcs i d lt))

pub no_line : (es : List Event) (pcs : List (Option ℕ)) (i : ℕ) → length es ≤ i → hits_lines (drop i es) pcs ≡ []
no_line [] pcs zero le = refl
no_line [] pcs (suc i) le = refl
no_line (e ∷ es) pcs zero le = absurd (omega (arith, le))
no_line (e ∷ es) pcs (suc i) le = no_line es pcs i (omega (arith, le))
