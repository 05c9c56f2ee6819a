-- Calls that write the text of their answer: how each way out of one is told, and what a caller says of it.
use Rattle.std.proofs.Common.{◌≡◌, ◌⊎◌, ◌<◌, ◌++◌, ℕ, List, Option, Some, None, Result, Ok, Err, IfErr, OnErr, OnOk, option_map, ap, inl, inr, refl, subst, sym, ⊎_elim}
use Rattle.host_io.specs.Taken.{BeganText, WritesText}
use Rattle.host_io.specs.declared.error.RunError.{RunError}
use Rattle.host_io.specs.declared.error.RunError.TheVariants.{OutOfMemory, SinkFailed}
use Rattle.host_io.specs.Writes.{BeganAnswer, CutsOff, IsFaultOr, WritesAnswer, WroteAnswer}

-- ---- reasons

-- refused as the fault, if there is one, and else for a reason
pub fault_or : {X E : Type 0} (fault : Option E) (IsReason : E → Type 0) (e : E) → ((d : E) → fault ≡ Some d → ◌≡◌ {A = Result X E} (Err e) (Err d)) →
    (fault ≡ None → IsReason e) → IsFaultOr fault IsReason e
fault_or None IsReason e same reason = inr (reason refl)
fault_or {X} {E} (Some d) IsReason e same reason = inl (ap Some (is e d (same d refl)))
  where
    is : (e d : E) → ◌≡◌ {A = Result X E} (Err e) (Err d) → d ≡ e
    is e d q = cc

-- the same where the call tells a fault in its own way
pub fault_in : {X D E : Type 0} (fault : Option D) (tell : D → E) (IsReason : E → Type 0) (e : E) → ((d : D) → fault ≡ Some d → ◌≡◌ {A = Result X E} (Err e) (Err (tell d))) →
    (fault ≡ None → IsReason e) → IsFaultOr (option_map tell fault) IsReason e
fault_in None tell IsReason e same reason = inr (reason refl)
fault_in {X} {D} {E} (Some d) tell IsReason e same reason = inl (ap Some (is e (tell d) (same d refl)))
  where
    is : (e d : E) → ◌≡◌ {A = Result X E} (Err e) (Err d) → d ≡ e
    is e d q = cc

-- without a fault it is for the reason
pub no_fault : {E : Type 0} (fault : Option E) (IsReason : E → Type 0) (e : E) → fault ≡ None → IsFaultOr fault IsReason e → IsReason e
no_fault fault IsReason e none h = ⊎_elim (λ q. absurd (other fault e none q)) (λ reason. reason) h
  where
    other : {E : Type 0} (fault : Option E) (e : E) → fault ≡ None → fault ≡ Some e → ⊥
    other fault e none q = cc

-- ---- ways out

module _ {S A E : Type 0} {took : S → List ℕ} {failures : S → ℕ} {IsText : A → List ℕ → Type 0} {IsReason : E → Type 0} {memory sink : E} {old new : S} where
  pub answered : (a : A) (text : List ℕ) → IsText a text → took new ≡ took old ++ text → WritesAnswer took failures IsText IsReason memory sink old new (Ok a)
  answered a text is bytes = record { written = record { text = text; is_text = is; bytes = bytes }; refused = tt }

  pub refused_first : (e : E) → IsReason e → new ≡ old → WritesAnswer took failures IsText IsReason memory sink old new (Err e)
  refused_first e reason same = record { written = tt; refused = inl (reason, same) }

  pub cut_off : (e : E) (a : A) (text : List ℕ) → CutsOff memory sink (failures old) (failures new) e → IsText a text → BeganText (took old) (took new) text →
      WritesAnswer took failures IsText IsReason memory sink old new (Err e)
  cut_off e a text cut is began = record { written = tt; refused = inr (cut, inr (record { answer = a; text = text; is_text = is; began = began })) }

-- the writing of a text was cut off
pub by_writing : (text took : List ℕ) (failed : ℕ) (e : RunError) (took_then : List ℕ) (failed_then : ℕ) → WritesText text took failed (Err e) took_then failed_then →
    CutsOff OutOfMemory SinkFailed failed failed_then e
by_writing text took failed e took_then failed_then w = ⊎_elim (λ memory. inl memory) (λ sink. inr (sink, w.sink (ap Err sink))) w.errors

-- the same in the call's own words
pub by_writing_as : {E : Type 0} (tell : RunError → E) (text took : List ℕ) (failed : ℕ) (e : RunError) (took_then : List ℕ) (failed_then : ℕ) → WritesText text took failed (Err e) took_then failed_then →
    CutsOff (tell OutOfMemory) (tell SinkFailed) failed failed_then (tell e)
by_writing_as tell text took failed e took_then failed_then w = ⊎_elim (λ memory. inl (ap tell memory)) (λ sink. inr (ap tell sink, w.sink (ap Err sink))) w.errors

module _ {S : Type 0} {took : S → List ℕ} {failures : S → ℕ} {IsText : Unit {0} → List ℕ → Type 0} {IsReason : RunError → Type 0} {old new : S} where
  -- a text that was written alone
  pub of_text : (text : List ℕ) (r : Result (Unit {0}) RunError) → IsText tt text → WritesText text (took old) (failures old) r (took new) (failures new) →
      WritesAnswer took failures IsText IsReason OutOfMemory SinkFailed old new r
  of_text text (Ok u) is w = answered u text is w.ok
  of_text text (Err e) is w = cut_off e tt text (by_writing _ _ _ _ _ _ w) is w.begun

  -- the same by its parts, where nothing may be known of the text of which none was written
  pub of_parts : (r : Result (Unit {0}) RunError) → OnOk r (WroteAnswer IsText (took old) (took new) tt) → OnErr r ((took new ≡ took old) ⊎ BeganAnswer IsText (took old) (took new)) →
      (r ≡ Err SinkFailed → failures old < failures new) → IfErr r (λ e. (e ≡ OutOfMemory) ⊎ (e ≡ SinkFailed)) →
      WritesAnswer took failures IsText IsReason OutOfMemory SinkFailed old new r
  of_parts (Ok u) done began sink errors = record { written = done; refused = tt }
  of_parts (Err e) done began sink errors = record { written = tt; refused = inr (⊎_elim (λ memory. inl memory) (λ h. inr (h, sink (ap Err h))) errors, began) }

-- ---- what a caller says

-- the texts and the reasons are told in other words
pub in_words : {S A E : Type 0} {took : S → List ℕ} {failures : S → ℕ} {IsText IsOther : A → List ℕ → Type 0} {IsReason IsWhy : E → Type 0} {memory sink : E} {old new : S} (r : Result A E) →
    ((a : A) (text : List ℕ) → IsText a text → IsOther a text) → ((e : E) → IsReason e → IsWhy e) →
    WritesAnswer took failures IsText IsReason memory sink old new r → WritesAnswer took failures IsOther IsWhy memory sink old new r
in_words (Ok a) text why w = answered a w.written.text (text a w.written.text w.written.is_text) w.written.bytes
in_words (Err e) text why w = record {
  written = tt;
  refused = ⊎_elim (λ h. inl (why e h.0, h.1)) (λ h. inr (
    h.0,
    ⊎_elim (λ none. inl none) (λ b. inr (
        record { answer = b.answer; text = b.text; is_text = text b.answer b.text b.is_text; began = b.began }
        )) h.1,
  )) w.refused;
}

-- a refusal stays what it is where the answer would be another
pub refused_too : {S A B E : Type 0} {took : S → List ℕ} {failures : S → ℕ} {IsText : A → List ℕ → Type 0} {IsOther : B → List ℕ → Type 0} {IsReason : E → Type 0} {memory sink : E} {old new : S} (e : E) →
    ((a : A) (text : List ℕ) → IsText a text → (b : B) × IsOther b text) →
    WritesAnswer took failures IsText IsReason memory sink old new (Err e) → WritesAnswer took failures IsOther IsReason memory sink old new (Err e)
refused_too e text w = record {
  written = tt;
  refused = ⊎_elim (λ h. inl h) (λ h. inr (
    h.0,
    ⊎_elim (λ none. inl none) (λ b. inr (
        record { answer = (text b.answer b.text b.is_text).0; text = b.text; is_text = (text b.answer b.text b.is_text).1; began = b.began }
        )) h.1,
  )) w.refused;
}

module _ {S A E : Type 0} {took : S → List ℕ} {failures : S → ℕ} {IsText : A → List ℕ → Type 0} {IsReason : E → Type 0} {memory sink : E} {old new : S} where
  -- where it is refused, the sink took nothing, or a beginning of a text
  pub begun : (r : Result A E) → WritesAnswer took failures IsText IsReason memory sink old new r → OnErr r ((took new ≡ took old) ⊎ BeganAnswer IsText (took old) (took new))
  begun (Ok a) w = tt
  begun (Err e) w = ⊎_elim (λ h. inl (ap took h.1)) (λ h. h.1) w.refused

  -- for a reason, or what cut it off
  pub why : (r : Result A E) → WritesAnswer took failures IsText IsReason memory sink old new r → IfErr r (λ e. IsReason e ⊎ CutsOff memory sink (failures old) (failures new) e)
  why (Ok a) w = tt
  why (Err e) w = ⊎_elim (λ h. inl h.0) (λ h. inr h.0) w.refused

-- with nothing out of range it is for another reason, of which want of memory is one, or for the sink
pub why_in_range : {S A E : Type 0} {took : S → List ℕ} {failures : S → ℕ} {IsText : A → List ℕ → Type 0} {memory sink : E} {old new : S} (fault : Option E) (IsReason : E → Type 0) (r : Result A E) →
    WritesAnswer took failures IsText (IsFaultOr fault IsReason) memory sink old new r → IsReason memory → fault ≡ None → IfErr r (λ e. IsReason e ⊎ (e ≡ sink))
why_in_range fault IsReason (Ok a) w memory none = tt
why_in_range fault IsReason (Err e) w memory none =
    ⊎_elim (λ h. inl (no_fault fault IsReason e none h.0)) (λ h. ⊎_elim (λ m. inl (subst IsReason (sym m) memory)) (λ s. inr s.0) h.0) w.refused
