-- What a commit of all buffers leaves is the commit of the round.
use Rattle.std.proofs.Common.{◌≡◌, ℕ, zero, suc, ◌+◌, ◌<◌, List, [], ◌∷◌, length, Option, None, refl, sym, ap, ◌∙◌, arith}
use Rattle.std.proofs.lemmas.List.{ext_get_or}
use Rattle.pages.specs.Memory.{stored}
use Rattle.pages.specs.Paged.{Paged}
use Rattle.round_schedule.specs.declared.span.Span.{Span}
use Rattle.round_schedule.specs.ByReservations.{committed_reservations}
use Rattle.round_schedule.specs.Held.{unless}
use Rattle.round_schedule.specs.Schedule.{HartRound, all_stores}
use Rattle.round_schedule.specs.Reservations.{covered_by_others, entry}
use Rattle.commit_phase.specs.Commit.{Committed}

module _ {H : Type 0} where
  length-committed : (k : ℕ) (rs : List (HartRound H)) (reservations : List (Option Span)) → length (committed_reservations k rs reservations) ≡ length reservations
  length-committed k rs [] = refl
  length-committed k rs (e ∷ reservations) = ap suc (length-committed (suc k) rs reservations)

  entry-committed : (k : ℕ) (rs : List (HartRound H)) (reservations : List (Option Span)) (h : ℕ) → h < length reservations → entry (committed_reservations k rs reservations) h ≡ unless (covered_by_others (k + h) 0 rs) (entry reservations h)
  entry-committed k rs [] h low = absurd (omega arith)
  entry-committed k rs (e ∷ reservations) zero low = ap (λ (n : ℕ). unless (covered_by_others n 0 rs) e) (omega arith)
  entry-committed k rs (e ∷ reservations) (suc h) low =
      entry-committed (suc k) rs reservations h (omega arith) ∙ ap (λ (n : ℕ). unless (covered_by_others n 0 rs) (entry reservations h)) (omega arith)

  pub all_committed : (rs : List (HartRound H)) (p q : Paged) (old new : List (Option Span)) → q.memory ≡ stored p.memory (all_stores rs) → q.ready ≡ p.ready → q.spare ≡ p.spare →
      length new ≡ length old → ((h : ℕ) → h < length old → entry new h ≡ unless (covered_by_others h 0 rs) (entry old h)) → Committed rs p q old new
  all_committed rs p q old new memory ready spare size each = record {
    memory = memory;
    ready = ready;
    spare = spare;
    reservations = ext_get_or None new (committed_reservations 0 rs old) (size ∙ sym (length-committed 0 rs old)) (λ h low.
        let inside : h < length old = omega (arith, size) in
        each h inside ∙ ap (λ (n : ℕ). unless (covered_by_others n 0 rs) (entry old h)) (omega arith) ∙ sym (entry-committed 0 rs old h inside));
    commits = record { size = size; each = each };
  }
