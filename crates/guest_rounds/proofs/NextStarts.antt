-- What the next round of a guest starts from, put together part by part.
use Rattle.std.proofs.Common.{◌≡◌, Bool, ℕ, suc, ◌+◌, ◌-◌, ◌<◌, List, [], ◌∷◌, length, get_or, refl, sym, ap, ap₂, ◌∙◌, subst, arith}
use Rattle.pages.specs.Memory.{Memory}
use Rattle.round_schedule.specs.Schedule.{HartRound, hart_rounds}
use Rattle.round_planner.specs.Quotas.{Planned, quota_of, quotas_of}
use Rattle.hart_step.specs.declared.hart.Hart.{Hart}
use Rattle.hart_step.specs.Words.{words_of}
use Rattle.hart_rounds.specs.Starts.{Start}
use Rattle.hart_rounds.specs.declared.hart_end.HartEnd.{HartEnd}
use Rattle.guest_rounds.specs.Guests.{Guest}
use Rattle.guest_rounds.specs.HartEnds.{AreEndsOf}
use Rattle.guest_rounds.specs.NextStarts.{AreOfGuest, quotas_from}
use Rattle.guest_rounds.proofs.RoundsOfHarts.{same_rounds}

shifted : (plan : Planned) (round k : ℕ) (qs : List ℕ) → ((h : ℕ) → h < length qs → get_or qs h 0 ≡ quota_of plan round (k + h)) → qs ≡ quotas_from plan round k (length qs)
shifted plan round k [] f = refl
shifted plan round k (q ∷ qs) f =
    let here : k + 0 ≡ k = omega arith in
    ap₂ (λ (x : ℕ) (xs : List ℕ). x ∷ xs) (f 0 (omega arith) ∙ ap (quota_of plan round) here)
    (shifted plan round (suc k) qs (λ h low. let next : k + suc h ≡ suc k + h = omega arith in f (suc h) (omega arith) ∙ ap (quota_of plan round) next))

-- quotas that were set one by one are those of the round
pub quotas_set : (plan : Planned) (round n : ℕ) (qs : List ℕ) → n ≡ length qs → ((h : ℕ) → h < n → get_or qs h 0 ≡ quota_of plan round h) → qs ≡ quotas_from plan round 0 n
quotas_set plan round n qs many f = subst (λ (k : ℕ). qs ≡ quotas_from plan round 0 k) (sym many) (shifted plan round 0 qs (λ h low. let none : h ≡ 0 + h = omega arith in f h (omega (arith, low, many)) ∙ ap (quota_of plan round) none))

abbrev starting : Memory → List ℕ → List Hart → Bool → Start
starting m qs hs b = record { memory = m; quotas = qs; harts = hs; logs = b }

-- two starts of the same parts
pub same_start : (m w : Memory) (qs ps : List ℕ) (hs gs : List Hart) (a b : Bool) → m ≡ w → qs ≡ ps → hs ≡ gs → a ≡ b →
    ◌≡◌ {A = Start} (record { memory = m; quotas = qs; harts = hs; logs = a }) (record { memory = w; quotas = ps; harts = gs; logs = b })
same_start m w qs ps hs gs a b em eq eh el =
    ap (λ (x : Memory). starting x qs hs a) em ∙ ap (λ (x : List ℕ). starting w x hs a) eq ∙ ap (λ (x : List Hart). starting w ps x a) eh ∙ ap (λ (x : Bool). starting w ps gs x) el

-- what rounds left with quotas that were set one by one
pub of_guest : (logs : Bool) (plan : Planned) (n : ℕ) (m : Memory) (qs : List ℕ) (hs : List Hart) (g : Guest) (os : List HartEnd) → ((h : ℕ) → h < length hs → get_or qs h 0 ≡ quota_of plan (n + 1) h) →
    m ≡ g.shared.memory → hs ≡ g.harts → AreEndsOf logs m (hart_rounds (words_of m.code) m.bytes qs hs) os → AreOfGuest logs plan n g os
of_guest logs plan n m qs hs g os f em eh a =
    let less : (n + 1) - 1 ≡ n = omega arith in
    let rounds = same_rounds (words_of m.code) m.bytes qs (quotas_of plan n) hs (λ k low. f k low ∙ ap (λ (x : ℕ). get_or (quotas_of plan x) k 0) less) in
    subst (λ (x : Memory). AreEndsOf logs x (hart_rounds (words_of x.code) x.bytes (quotas_of plan n) g.harts) os) em
    (subst (λ (xs : List Hart). AreEndsOf logs m (hart_rounds (words_of m.code) m.bytes (quotas_of plan n) xs) os) eh
    (subst (λ (rs : List (HartRound Hart)). AreEndsOf logs m rs os) rounds a))
