-- What was read of a text.
use Rattle.std.proofs.Common.{ℕ, List, Result, Ok, Err, subst}
use Rattle.std.specs.Prelude.{IfOk}
use Rattle.recording.specs.declared.cause.Cause.{Cause}
use Rattle.recording.specs.declared.cause.ReadError.{ReadError}
use Rattle.recording.specs.Recorded.{Recorded}
use Rattle.recording.specs.Grammar.{IsRecording, reading}
use Rattle.recording.specs.Views.{Fails, Gives}
use Rattle.recording.proofs.Laws.{IsBytes}
use Rattle.recording.proofs.Whole.{reading_takes, reading_again}

pub is_found : (text : List ℕ) (r : Result Recorded ReadError) → IsBytes text → Gives (λ (y : Recorded). y) r (reading text) → IfOk r (λ x. IsRecording text x)
is_found text (Ok x) fits given = reading_takes text x fits given
is_found text (Err e) fits given = tt

pub is_only : (text : List ℕ) (r : Result Recorded ReadError) (x : Recorded) → Gives (λ (y : Recorded). y) r (reading text) → IsRecording text x → Gives (λ (y : Recorded). y) r (Ok x)
is_only text r x given is = subst (λ (y : Result Recorded Cause). Gives (λ (y : Recorded). y) r y) (reading_again text x is) given

-- a cause that was met stands, whatever the text could be
pub stands : (text : List ℕ) (e : ReadError) (x : Recorded) → Fails e (reading text) → IsRecording text x → Fails {Y = Recorded} e (Ok x)
stands text e x given is = subst (λ (y : Result Recorded Cause). Fails e y) (reading_again text x is) given
