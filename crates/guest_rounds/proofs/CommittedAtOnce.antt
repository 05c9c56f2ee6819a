-- The commit of all buffers at once is the commit of the rounds that they are of.
use Rattle.std.proofs.Common.{◌≡◌, ℕ, suc, ◌<◌, ◌==◌, ◌||◌, Bool, false, cond, List, [], ◌∷◌, All, length, map, Option, refl, sym, ap, ap₂, ◌∙◌, arith}
use Rattle.std.proofs.lemmas.List.Elements.{All-cons}
use Rattle.pages.specs.Memory.{Memory, after, covered, stored}
use Rattle.pages.specs.Paged.{Paged}
use Rattle.pages.proofs.StoreLaws.{after-append}
use Rattle.round_schedule.specs.declared.span.Span.{Span}
use Rattle.round_schedule.specs.Held.{unless}
use Rattle.round_schedule.specs.Schedule.{HartRound, all_stores}
use Rattle.round_schedule.specs.Reservations.{covered_by_others, entry}
use Rattle.store_buffer.specs.Covered.{stores_of}
use Rattle.store_buffer.proofs.CoveredLaws.{after_with_stores, covered-with_stores}
use Rattle.commit_phase.specs.Commit.{Committed, IsWritable, all_buffered, covered_from}
use Rattle.commit_phase.proofs.Breaking.{unless_same}
use Rattle.commit_phase.proofs.HartOrder.{all_committed}
use Rattle.hart_step.specs.declared.hart.Hart.{Hart}
use Rattle.hart_rounds.specs.declared.hart_end.HartEnd.{HartEnd}
use Rattle.guest_rounds.specs.HartEnds.{AreFit, AreEndsOf, AreReady}
use Rattle.guest_rounds.proofs.EndParts.{buffer_is}

-- the buffers, hart by hart
abbrev pub buffers : List HartEnd → List (List (ℕ × ℕ))
buffers os = map (λ (o : HartEnd). o.buffer) os

-- each may be written
pub all_writable : (p : Paged) (os : List HartEnd) → AreFit p.memory os → AreReady p os → All (IsWritable p) (buffers os)
all_writable p [] f r = λ k d low. absurd (omega arith)
all_writable p (o ∷ os) f r = All-cons (IsWritable p) o.buffer (buffers os) (record { fits = f.0; ready = r.0 }) (all_writable p os f.1 r.1)

same_bytes : (logs : Bool) (m : Memory) (bs : List ℕ) (rs : List (HartRound Hart)) (os : List HartEnd) → AreEndsOf logs m rs os → after bs (all_buffered (buffers os)) ≡ after bs (all_stores rs)
same_bytes logs m bs [] [] a = refl
same_bytes logs m bs (r ∷ rs) [] a = absurd a
same_bytes logs m bs [] (o ∷ os) a = absurd a
same_bytes logs m bs (r ∷ rs) (o ∷ os) a =
    after-append bs (stores_of o.buffer) (all_buffered (buffers os))
    ∙ ap (λ (es : List (ℕ × ℕ)). after (after bs (stores_of es)) (all_buffered (buffers os))) (buffer_is a.0)
    ∙ ap (λ (cs : List ℕ). after cs (all_buffered (buffers os))) (after_with_stores [] bs r.last.stores tt)
    ∙ same_bytes logs m (after bs r.last.stores) rs os a.1
    ∙ sym (after-append bs r.last.stores (all_stores rs))

same_cover : (logs : Bool) (m : Memory) (i h x : ℕ) (rs : List (HartRound Hart)) (os : List HartEnd) → AreEndsOf logs m rs os → covered_from i h (buffers os) x ≡ covered_by_others h i rs x
same_cover logs m i h x [] [] a = refl
same_cover logs m i h x (r ∷ rs) [] a = absurd a
same_cover logs m i h x [] (o ∷ os) a = absurd a
same_cover logs m i h x (r ∷ rs) (o ∷ os) a =
    ap₂ (λ (c d : Bool). cond (i == h) false c || d) (ap (λ (es : List (ℕ × ℕ)). covered (stores_of es) x) (buffer_is a.0) ∙ covered-with_stores [] r.last.stores x)
    (same_cover logs m (suc i) h x rs os a.1)

-- what a commit of all buffers leaves
pub record WrittenOver (os : List HartEnd) (p q : Paged) (old new : List (Option Span)) : Type 0 where
  pub memory : q.memory ≡ stored p.memory (all_buffered (buffers os))
  pub ready : q.ready ≡ p.ready
  pub spare : q.spare ≡ p.spare
  pub size : length new ≡ length old
  pub reservations : (h : ℕ) → h < length old → entry new h ≡ unless (covered_from 0 h (buffers os)) (entry old h)

pub committed_at_once : (os : List HartEnd) (p q : Paged) (old new : List (Option Span)) → WrittenOver os p q old new → (logs : Bool) (rs : List (HartRound Hart)) → AreEndsOf logs p.memory rs os → Committed rs p q old new
committed_at_once os p q old new w logs rs a =
    all_committed rs p q old new
    (w.memory ∙ ap (λ (bs : List ℕ). record p.memory { bytes = bs }) (same_bytes logs p.memory p.memory.bytes rs os a))
    w.ready w.spare w.size
    (λ h low. w.reservations h low ∙ unless_same _ _ (entry old h) (λ x. same_cover logs p.memory 0 h x rs os a))
