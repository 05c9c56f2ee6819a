-- The rounds of the harts, gathered and put in hart order.
use Rattle.std.proofs.Common.{◌≡◌, ℕ, zero, suc, ◌+◌, ◌<◌, List, [], ◌∷◌, ◌++◌, Bool, length, take, get_or, Some, refl, sym, ap, ap₂, ◌∙◌, subst, arith, add-one}
use Rattle.pages.specs.Memory.{Memory}
use Rattle.round_schedule.specs.Schedule.{Words, HartRound, hart_rounds, hart_round_of, first_or_zero, rest_of}
use Rattle.hart_step.specs.declared.hart.Hart.{Hart}
use Rattle.hart_step.specs.Console.{ConsoleState}
use Rattle.hart_step.specs.Words.{words_of}
use Rattle.hart_rounds.specs.declared.hart_end.HartEnd.{HartEnd}
use Rattle.hart_rounds.specs.Starts.{Start}
use Rattle.hart_rounds.specs.Ends.{end_of, round_at}
use Rattle.hart_rounds.proofs.RoundAt.{round_at_is}
use Rattle.hart_rounds.proofs.HartRounds.{indexed}
use Rattle.guest_rounds.specs.HartEnds.{AllFit, AreEndsOf, IsEndOf}
use Rattle.guest_rounds.proofs.Fits.{buffer_fits}

first_is : (qs : List ℕ) → first_or_zero qs ≡ get_or qs 0 0
first_is [] = refl
first_is (q ∷ qs) = refl

rest_is : (qs : List ℕ) (i : ℕ) → get_or (rest_of qs) i 0 ≡ get_or qs (suc i) 0
rest_is [] i = refl
rest_is (q ∷ qs) i = refl

rounds_next : (w : Words Hart ConsoleState) (bs qs : List ℕ) (hs : List Hart) (i : ℕ) (d : Hart) → i < length hs →
    hart_rounds w bs qs (take (suc i) hs) ≡ hart_rounds w bs qs (take i hs) ++ hart_round_of w bs (get_or qs i 0) (get_or hs i d) ∷ []
rounds_next w bs qs [] i d low = absurd (omega arith)
rounds_next w bs qs (h ∷ hs) zero d low = ap (λ (q : ℕ). hart_round_of w bs q h ∷ []) (first_is qs)
rounds_next w bs qs (h ∷ hs) (suc i) d low =
    ap (λ (rs : List (HartRound Hart)). hart_round_of w bs (first_or_zero qs) h ∷ rs) (rounds_next w bs (rest_of qs) hs i d (omega arith))
    ∙ ap (λ (q : ℕ). hart_round_of w bs (first_or_zero qs) h ∷ (hart_rounds w bs (rest_of qs) (take i hs) ++ hart_round_of w bs q (get_or hs i d) ∷ [])) (rest_is qs i)

ends-push : (logs : Bool) (m : Memory) (rs : List (HartRound Hart)) (os : List HartEnd) (r : HartRound Hart) (o : HartEnd) → AreEndsOf logs m rs os → IsEndOf logs m r o → AreEndsOf logs m (rs ++ r ∷ []) (os ++ o ∷ [])
ends-push logs m [] [] r o a b = (b, tt)
ends-push logs m (x ∷ rs) [] r o a b = absurd a
ends-push logs m [] (x ∷ os) r o a b = absurd a
ends-push logs m (x ∷ rs) (y ∷ os) r o a b = (a.0, ends-push logs m rs os r o a.1 b)

pub ends_more : (logs : Bool) (m : Memory) (qs : List ℕ) (hs : List Hart) (i : ℕ) (d : Hart) (q : ℕ) (os ps : List HartEnd) (o : HartEnd) → i < length hs → q ≡ get_or qs i 0 → ps ≡ os ++ o ∷ [] →
    AreEndsOf logs m (hart_rounds (words_of m.code) m.bytes qs (take i hs)) os → IsEndOf logs m (hart_round_of (words_of m.code) m.bytes q (get_or hs i d)) o →
    AreEndsOf logs m (hart_rounds (words_of m.code) m.bytes qs (take (i + 1) hs)) ps
ends_more logs m qs hs i d q os ps o low e more a b =
    subst (AreEndsOf logs m (hart_rounds (words_of m.code) m.bytes qs (take (i + 1) hs))) (sym more)
    (subst (λ (rs : List (HartRound Hart)). AreEndsOf logs m rs (os ++ o ∷ []))
    (sym (ap (λ (k : ℕ). hart_rounds (words_of m.code) m.bytes qs (take k hs)) (add-one i) ∙ rounds_next (words_of m.code) m.bytes qs hs i d low))
    (ends-push logs m _ os _ o a (subst (λ (x : ℕ). IsEndOf logs m (hart_round_of (words_of m.code) m.bytes x (get_or hs i d)) o) e b)))

-- the rounds of all harts depend on the quota of each
pub same_rounds : (w : Words Hart ConsoleState) (bs qs ps : List ℕ) (hs : List Hart) → ((k : ℕ) → k < length hs → get_or qs k 0 ≡ get_or ps k 0) → hart_rounds w bs qs hs ≡ hart_rounds w bs ps hs
same_rounds w bs qs ps [] f = refl
same_rounds w bs qs ps (h ∷ hs) f =
    ap₂ (λ (q : ℕ) (rs : List (HartRound Hart)). hart_round_of w bs q h ∷ rs) (first_is qs ∙ f 0 (omega arith) ∙ sym (first_is ps))
    (same_rounds w bs (rest_of qs) (rest_of ps) hs (λ k low. rest_is qs k ∙ f (suc k) (omega arith) ∙ sym (rest_is ps k)))

-- the round of a hart, as the start has it
pub is_end_of : (s : Start) (n : ℕ) (d : Hart) (o : HartEnd) → n < length s.harts → length s.quotas ≡ length s.harts → round_at s n ≡ Some o →
    IsEndOf s.logs s.memory (hart_round_of (words_of s.memory.code) s.memory.bytes (get_or s.quotas n 0) (get_or s.harts n d)) o
is_end_of s n d o low sized at =
    let q = get_or s.quotas n 0 in
    let h = get_or s.harts n d in
    let r = hart_round_of (words_of s.memory.code) s.memory.bytes q h in
    let both : Some (end_of s.logs r) ≡ Some o = sym (round_at_is s n q h (indexed s.harts n d low) (indexed s.quotas n 0 (omega (arith, sized, low)))) ∙ at in
    let same : end_of s.logs r ≡ o = cc in
    record {
      is = sym same;
      fits = subst (λ (es : List (ℕ × ℕ)). AllFit s.memory es) (ap (λ (x : HartEnd). x.buffer) same) (buffer_fits s.memory q h);
    }
