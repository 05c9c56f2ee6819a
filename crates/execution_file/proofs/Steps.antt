-- Adding up how many steps harts do.
use Rattle.std.proofs.Common.{◌≡◌, ℕ, suc, ◌+◌, ◌-◌, ◌<◌, ◌≤◌, Bool, false, leb, List, length, get_or, map, drop, sym, ap, ◌∙◌, arith, drop-cons}
use Rattle.std.proofs.lemmas.Bool.Decides.{nat_tests}
use Rattle.std.proofs.lemmas.List.{get_or-map, length-map}
use Rattle.execution_file.specs.Recorded.{HartDeeds, steps_of}
use Rattle.execution_file.specs.declared.file.HartDeeds.{HartDeeds as HartHeld}
use Rattle.execution_file.specs.Views.{hart_view}

steps_next : (hs : List HartHeld) (i : ℕ) (p : HartHeld) → i < length hs →
    steps_of (drop i (map hart_view hs)) ≡ (get_or hs i p).steps + steps_of (drop (i + 1) (map hart_view hs))
steps_next hs i p l =
    let lv : i < length (map hart_view hs) = omega (arith, l, length-map hs hart_view) in
    let e : get_or (map hart_view hs) i (hart_view p) ≡ hart_view (get_or hs i p) = get_or-map hart_view hs i p (hart_view p) l in
    let n : suc i ≡ i + 1 = omega arith in
    ap steps_of (drop-cons (map hart_view hs) i (hart_view p) lv)
    ∙ ap (λ (h : HartDeeds). h.steps + steps_of (drop (suc i) (map hart_view hs))) e
    ∙ ap (λ m. (get_or hs i p).steps + steps_of (drop m (map hart_view hs))) n

within_rest : (a b left : ℕ) → a ≤ left → leb (a + b) left ≡ leb b (left - a)
within_rest a b left l = grind (arith, nat_tests, l)

past : (a b left : ℕ) → left < a → leb (a + b) left ≡ false
past a b left l = grind (arith, nat_tests, l)

-- what one more hart leaves
pub steps_left : (hs : List HartHeld) (i left : ℕ) (p : HartHeld) (few : Bool) → i < length hs → (get_or hs i p).steps ≤ left →
    leb (steps_of (drop i (map hart_view hs))) left ≡ few → leb (steps_of (drop (i + 1) (map hart_view hs))) (left - (get_or hs i p).steps) ≡ few
steps_left hs i left p few l fits was =
    sym (within_rest (get_or hs i p).steps (steps_of (drop (i + 1) (map hart_view hs))) left fits)
    ∙ ap (λ n. leb n left) (sym (steps_next hs i p l)) ∙ was

pub steps_pass : (hs : List HartHeld) (i left : ℕ) (p : HartHeld) (few : Bool) → i < length hs → left < (get_or hs i p).steps →
    leb (steps_of (drop i (map hart_view hs))) left ≡ few → false ≡ few
steps_pass hs i left p few l more was =
    sym (past (get_or hs i p).steps (steps_of (drop (i + 1) (map hart_view hs))) left more)
    ∙ ap (λ n. leb n left) (sym (steps_next hs i p l)) ∙ was
