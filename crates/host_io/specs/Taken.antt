-- What a sink took of a text, and when it failed.
use Rattle.std.specs.Prelude.{◌≡◌, ◌⊎◌, ℕ, ◌+◌, ◌≤◌, ◌<◌, ◌&&◌, ◌==◌, if◌then◌else◌, nat_lt, List, ◌++◌, length, take, Result, Ok, Err, OnOk, OnErr, IfErr}
use Rattle.host_io.specs.declared.error.RunError.{RunError}
use Rattle.host_io.specs.declared.error.RunError.TheVariants.{OutOfMemory, SinkFailed}
use Rattle.host_io.specs.declared.sink.SinkFault.{SinkFault}

-- a beginning of the text came after what was there
pub record BeganText (old new text : List ℕ) : Type 0 where
  pub count : ℕ
  pub within : count ≤ length text
  pub bytes : new ≡ old ++ take count text

-- one more failure where the call failed, or took none of some bytes; else as many as before
abbrev pub Counted : List ℕ → Result ℕ SinkFault → ℕ → ℕ → Type 0
Counted bytes (Err e) old new = new ≡ old + 1
Counted bytes (Ok n) old new = new ≡ (if n == 0 && (nat_lt 0 (length bytes)) then old + 1 else old)

-- a call writes a text: with Ok the sink took it after what was there; else it took a beginning of it, for want of memory or
-- for a failure of the sink, which has then failed once more at least. `took` and `failed` are of before the call
pub record WritesText (text took : List ℕ) (failed : ℕ) (r : Result (Unit {0}) RunError) (took_then : List ℕ) (failed_then : ℕ) : Type 0 where
  pub ok : OnOk r (took_then ≡ took ++ text)
  pub begun : OnErr r (BeganText took took_then text)
  pub sink : r ≡ Err SinkFailed → failed < failed_then
  pub errors : IfErr r (λ e. (e ≡ OutOfMemory) ⊎ (e ≡ SinkFailed))
