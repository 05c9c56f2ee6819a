use Rattle.std.proofs.Common.{◌≡◌, ◌-◌, ◌+◌, ◌*◌, ◌∙◌, ℕ, Bool, true, false, List, cond, drop, get_or, length, length-drop, nat_lt, refl, ap, sym, subst, arith}
use Rattle.std.proofs.Math.Seq.{drop-length}
use mir.Val.{bool_byte}
use Rattle.hart_rounds.specs.declared.hart_end.HartEnd.{HartEnd}
use Rattle.guest_rounds.specs.declared.tally.Tally.{Tally}
use Rattle.guest_rounds.proofs.Tallied.{IsTally, accesses_at, below_double, bit_most, tally_from, tally_more, tally_none}
use Rattle.guest_rounds.proofs.tally.Tally.of.Goals as goal

-- a test as a number
as_number : (b : Bool) → bool_byte b ≡ cond b 1 0
as_number true = refl
as_number false = refl

pub overflow_mul-tally : goal.overflow_mul-tally
overflow_mul-tally c =
    let os = c.args.ends.now in
    let j = length os - c.loop-behind.behind in
    let many : length (drop j os) ≡ c.loop-behind.behind = length-drop j os ∙ omega (arith, c.loop-behind-test.true) in
    omega (arith, below_double c.loop-behind.behind (drop j os) c.loop-behind.tally many (omega (arith, c.loop-behind-test.true, c.requires.few)) c.loop-behind.invariant)

pub overflow_add-tally : goal.overflow_add-tally
overflow_add-tally c =
    let os = c.args.ends.now in
    let j = length os - c.loop-behind.behind in
    let many : length (drop j os) ≡ c.loop-behind.behind = length-drop j os ∙ omega (arith, c.loop-behind-test.true) in
    omega (arith, below_double c.loop-behind.behind (drop j os) c.loop-behind.tally many (omega (arith, c.loop-behind-test.true, c.requires.few)) c.loop-behind.invariant, c.from.ensures, as_number c.index-ends-count.result.waits, bit_most c.index-ends-count.result.waits)

pub overflow_add-tally-in-loop-behind-2 : goal.overflow_add-tally-in-loop-behind-2
overflow_add-tally-in-loop-behind-2 c =
    let os = c.args.ends.now in
    let o : HartEnd = c.index-ends-count.result in
    let b = c.loop-behind.behind in
    let at = accesses_at os (length os - 1 - b) (length os - b) o (omega (arith, c.loop-behind-test.true)) (omega (arith, c.loop-behind-test.true)) c.index-ends-count.is in
    omega (arith, at, c.loop-behind.invariant.accesses, c.requires.accesses)

pub loop-behind-init : goal.loop-behind-init
loop-behind-init c =
    let os = c.args.ends.now in
    let t : Tally = record { waiting = 0; waited = 0; accesses = 0; logs = 0 } in
    let none : drop (length os - 0) os ≡ drop (length os) os = ap (λ (k : ℕ). drop k os) (omega arith) in
    subst (λ (xs : List HartEnd). IsTally xs t) (sym (none ∙ drop-length os)) (tally_none t refl refl refl refl)

pub loop-behind-preserved : goal.loop-behind-preserved
loop-behind-preserved c =
    let os = c.args.ends.now in
    let o : HartEnd = c.index-ends-count.result in
    let b = c.loop-behind.behind in
    let t = c.loop-behind.tally in
    let here : o ≡ get_or os (length os - (b + 1)) o = c.index-ends-count.is ∙ ap (λ (k : ℕ). get_or os k o) (omega arith) in
    tally_from os (length os - (b + 1)) (length os - b) o _ (omega (arith, c.loop-behind-test.true)) (omega (arith, c.loop-behind-test.true)) here
    (tally_more o (drop (length os - b) os) t _ (ap (λ (n : ℕ). 2 * t.waiting + n) (c.from.ensures ∙ as_number o.waits)) (ap (λ (n : ℕ). t.waited + n) (c.from-in-loop-behind.ensures ∙ as_number o.waits))
    refl (omega (arith, c.from-in-loop-behind-2.ensures, as_number (nat_lt 0 o.accesses), bit_most (nat_lt 0 o.accesses))) c.loop-behind.invariant)
