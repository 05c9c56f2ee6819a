-- Harts that have stopped: each stays as it was.
use Rattle.std.proofs.Common.{◌≡◌, ◌<◌, ℕ, zero, suc, Bool, true, List, [], ◌∷◌, ◌+◌, ◌≤◌, get_or, is_some, length, take, sym, ap, ◌∙◌, arith}
use Rattle.std.proofs.Math.ListN.{set}
use Rattle.std.proofs.lemmas.List.{get_or_default, get_or-set_other, set-get_or, take_more_set}
use Rattle.pages.specs.Memory.{Memory}
use Rattle.round_schedule.specs.Schedule.{HartRound, first_or_zero, hart_rounds, rest_of}
use Rattle.hart_step.specs.declared.hart.Hart.{Hart}
use Rattle.hart_step.specs.Words.{words_of}
use Rattle.hart_rounds.specs.declared.hart_end.HartEnd.{HartEnd}
use Rattle.hart_rounds.specs.Ends.{end_at_rest}
use Rattle.hart_rounds.proofs.AtRest.{stays}
use Rattle.guest_rounds.specs.HartEnds.{AreAtRest, AreEndsOf, harts_of}
use Rattle.guest_rounds.proofs.EndParts.{hart_is}
use Rattle.guest_rounds.proofs.Listed.{harts_more}

-- rounds leave harts that had stopped as they were
rest_at : (logs : Bool) (m : Memory) (qs : List ℕ) (hs : List Hart) (os : List HartEnd) → AreEndsOf logs m (hart_rounds (words_of m.code) m.bytes qs hs) os →
    (i : ℕ) (d : Hart) (x : HartEnd) → i < length hs → is_some (get_or hs i d).stop ≡ true → (get_or os i x).hart ≡ get_or hs i d
rest_at logs m qs [] os a i d x low e = absurd (omega (arith, low))
rest_at logs m qs (h ∷ hs) [] a i d x low e = absurd a
rest_at logs m qs (h ∷ hs) (o ∷ os) a zero d x low e = (hart_is a.0) ∙ ap (λ (r : HartRound Hart). r.last.hart) (stays m.code m.bytes (first_or_zero qs) h e)
rest_at logs m qs (h ∷ hs) (o ∷ os) a (suc i) d x low e = rest_at logs m (rest_of qs) hs os a.1 i d x (omega (arith, low)) e

pub at_rest : (logs : Bool) (m : Memory) (qs : List ℕ) (hs : List Hart) (os : List HartEnd) → AreEndsOf logs m (hart_rounds (words_of m.code) m.bytes qs hs) os → AreAtRest hs os
at_rest logs m qs hs os a = λ i d x low e. rest_at logs m qs hs os a i d x low e

-- up to hart n each hart is as its round left it, and from there on as it was
pub record Given (os : List HartEnd) (old : List Hart) (n : ℕ) (hs : List Hart) : Type 0 where
  pub given : take n hs ≡ harts_of (take n os)
  pub rest : (k : ℕ) (h : Hart) → n ≤ k → get_or hs k h ≡ get_or old k h

pub given_more : (os : List HartEnd) (old hs new : List Hart) (n : ℕ) (o : HartEnd) → n < length os → n < length hs → new ≡ set hs n (get_or os n o).hart → Given os old n hs → Given os old (n + 1) new
given_more os old hs new n o low less is k =
    let p : HartEnd = get_or os n o in
    record {
      given = harts_more os n p (take n hs) _ low (get_or_default os n o p low) (ap (take (n + 1)) is ∙ take_more_set hs n p.hart less) k.given;
      rest = λ i h more. ap (λ (xs : List Hart). get_or xs i h) is ∙ get_or-set_other hs n i p.hart h (λ e. omega (arith, e, more)) ∙ k.rest i h (omega (arith, more));
    }

-- the next hart had stopped, and is left as it is
pub given_on : (os : List HartEnd) (old hs new : List Hart) (n : ℕ) (h : Hart) → n < length os → n < length hs → n < length old → new ≡ hs → is_some (get_or hs n h).stop ≡ true → AreAtRest old os → Given os old n hs → Given os old (n + 1) new
given_on os old hs new n h low less within is stopped a k =
    let o : HartEnd = end_at_rest h in
    let same : get_or hs n h ≡ get_or old n h = k.rest n h (omega arith) in
    let rests : (get_or os n o).hart ≡ get_or hs n h = a n h o within (ap (λ (x : Hart). is_some x.stop) (sym same) ∙ stopped) ∙ sym same in
    given_more os old hs new n o low less (is ∙ sym (set-get_or hs n h) ∙ ap (λ (x : Hart). set hs n x) (sym rests)) k
