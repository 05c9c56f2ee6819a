-- The text of a recording: its fields in order, each with its bytes, its range and the cause where it is out of range.
use Rattle.std.specs.Prelude.{◌≡◌, ℕ, ◌%◌, ◌==◌, ◌&&◌, Bool, true, false, not, if◌then◌else◌, List, length, Option, Result, Ok, Err}
use Rattle.std.specs.Int.{Width, w32, w64}
use mir.Syntax.{w8}
use Rattle.recording.specs.declared.cause.Cause.{Cause}
use Rattle.recording.specs.declared.cause.Cause.TheVariants.{NotARecording, Version, Cut, OutOfRange, BytesLeft}
use Rattle.recording.specs.Fields.{Field, ◌>>=◌, ◌&◌, number_or, bytes, known, each, seen, where_due, most}
use Rattle.recording.specs.Recorded.{HartSummary, Summary, Checkpoint, Recorded}

-- a number from low to high, and a number whatever it is
abbrev pub number : Width → ℕ → ℕ → Field ℕ
number w low high = number_or w Cut OutOfRange low high

abbrev pub any : Width → Field ℕ
any w = number w 0 (most w)

-- the text `RVDETREC`
abbrev pub magic_number : ℕ
magic_number = 0x4345525445445652

-- a value has a field from version 2 on, and is known before
abbrev pub or_known : Bool → ℕ → Field ℕ → Field ℕ
or_known true before f = f
or_known false before f = known before

abbrev pub from_version_2 : ℕ → ℕ → Field ℕ → Field ℕ
from_version_2 version before f = or_known (version == 2) before f

-- pc, done, stop code and value, which is 0 with every other code than 1
abbrev pub most_value : ℕ → ℕ
most_value code = if code == 1 then most w64 else 0

abbrev pub hart_from : ℕ × (ℕ × (ℕ × ℕ)) → HartSummary
hart_from t = record { pc = t.0; done = t.1.0; code = t.1.1.0; value = t.1.1.1 }

abbrev pub hart_fields : HartSummary → ℕ × (ℕ × (ℕ × ℕ))
hart_fields h = (h.pc, (h.done, (h.code, h.value)))

abbrev pub hart_summary : Field HartSummary
hart_summary = seen hart_from hart_fields
    (any w64 & λ pc.
    any w64 & λ done.
    number w8 0 10 & λ code.
    number w64 0 (most_value code))

-- the lengths of the output and the trace, and the harts
abbrev pub summary_from : ℕ × (ℕ × List HartSummary) → Summary
summary_from t = record { output = t.0; trace = t.1.0; harts = t.1.1 }

abbrev pub summary_fields : Summary → ℕ × (ℕ × List HartSummary)
summary_fields s = (s.output, (s.trace, s.harts))

abbrev pub summary : ℕ → Field Summary
summary harts = seen summary_from summary_fields
    (any w64 & λ output.
    any w64 & λ trace.
    each harts 0 (λ i. hart_summary))

-- registers x1 to x31 of each hart
abbrev pub registers : ℕ → Field (List (List ℕ))
registers harts = each harts 0 (λ i. each 31 1 (λ x. any w64))

-- registers are recorded after each round that is a multiple of `every`, after none where it is 0
abbrev pub is_due : ℕ → ℕ → Bool
is_due every round = not (every == 0) && (round % every == 0)

abbrev pub checkpoint_from : Summary × Option (List (List ℕ)) → Checkpoint
checkpoint_from t = record { summary = t.0; registers = t.1 }

abbrev pub checkpoint_fields : Checkpoint → Summary × Option (List (List ℕ))
checkpoint_fields k = (k.summary, k.registers)

abbrev pub checkpoint_after : ℕ → ℕ → ℕ → Field Checkpoint
checkpoint_after harts every round = seen checkpoint_from checkpoint_fields
    (summary harts & λ s.
    where_due (is_due every round) (registers harts))

-- a recording
abbrev pub Fields : Type 0
Fields = ℕ × (ℕ × (ℕ × (ℕ × (ℕ × (ℕ × (ℕ × (ℕ × (List ℕ × (List ℕ × (List ℕ × List Checkpoint))))))))))

abbrev pub recorded_from : Fields → Recorded
recorded_from t = record {
  version = t.1.0;
  format = t.1.1.0;
  harts = t.1.1.1.0;
  pages = t.1.1.1.1.0;
  rounds = t.1.1.1.1.1.0;
  budget = t.1.1.1.1.1.1.0;
  every = t.1.1.1.1.1.1.1.0;
  image = t.1.1.1.1.1.1.1.1.0;
  input = t.1.1.1.1.1.1.1.1.1.0;
  plan = t.1.1.1.1.1.1.1.1.1.1.0;
  checkpoints = t.1.1.1.1.1.1.1.1.1.1.1;
}

abbrev pub recorded_fields : Recorded → Fields
recorded_fields r = (magic_number, (r.version, (r.format, (r.harts, (r.pages, (r.rounds, (r.budget, (r.every, (r.image, (r.input, (r.plan, r.checkpoints)))))))))))

abbrev pub recording : Field Recorded
recording = seen recorded_from recorded_fields
    (number_or w64 NotARecording NotARecording magic_number magic_number & λ magic.
    number_or w32 Cut Version 1 2 & λ version.
    number w8 0 1 & λ format.
    number w32 1 64 & λ harts.
    number w32 1 16384 & λ pages.
    any w32 & λ rounds.
    from_version_2 version 1 (number w32 1 1000) & λ budget.
    from_version_2 version 0 (any w32) & λ every.
    bytes & λ image.
    bytes & λ input.
    bytes & λ plan.
    each rounds 1 (checkpoint_after harts every))

-- the text is this recording
pub record IsRecording (text : List ℕ) (r : Recorded) : Type 0 where
  pub has : recording.Has r
  pub spelled : text ≡ recording.spelled r

-- what a text is read as: a recording, or the first cause in the order of its fields
abbrev pub ended : Recorded → List ℕ → Result Recorded Cause
ended r rest = if length rest == 0 then Ok r else Err BytesLeft

abbrev pub reading : List ℕ → Result Recorded Cause
reading text = recording.taken text >>= λ x. ended x.0 x.1

-- no text is two recordings, and no recording has two texts
abbrev pub OneRecording : Type 0
OneRecording = (text : List ℕ) (r s : Recorded) → IsRecording text r → IsRecording text s → r ≡ s

-- a text is read as what it is, and what it is read as it is
abbrev pub ReadingIsGrammar : Type 0
ReadingIsGrammar = (text : List ℕ) (r : Recorded) → IsRecording text r → reading text ≡ Ok r
