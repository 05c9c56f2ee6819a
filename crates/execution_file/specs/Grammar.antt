-- The text of an execution: lines that end with LF, with decimal numbers, and bytes in hexadecimal, 32 of them a line.
use Rattle.std.specs.Prelude.{◌≡◌, ℕ, ◌+◌, ◌-◌, ◌^◌, ◌%◌, ◌==◌, ◌||◌, Bool, if◌then◌else◌, nat_le, List, ◌++◌, length, codes, Option, Result, Ok}
use Rattle.std.specs.Fmt.{decimal}
use Rattle.execution_file.specs.declared.cause.Cause.TheVariants.{NotAnExecution, Version, TextLeft, TooManySteps}
use Rattle.execution_file.specs.declared.cause.Refusal.{Refusal}
use Rattle.execution_file.specs.declared.file.TheConstants.{MOST_STEPS}
use Rattle.execution_file.specs.Formats.{Format, ◌>>=◌, ◌&◌, refused, taken_word, begun_or, begun, number, byte, seen, counted, limited, listed, after, broken}
use Rattle.execution_file.specs.Recorded.{Turn, HartDeeds, Recorded, steps_of}

-- numbers of 8, 32 and 64 bits
abbrev pub small : Format ℕ
small = number 255

abbrev pub word : Format ℕ
word = number (2 ^ 32 - 1)

abbrev pub double : Format ℕ
double = number (2 ^ 64 - 1)

-- 1 for yes and 0 for no
abbrev pub flag_of : ℕ → Bool
flag_of n = n == 1

abbrev pub number_of_flag : Bool → ℕ
number_of_flag b = if b then 1 else 0

abbrev pub flag : Format Bool
flag = seen flag_of number_of_flag (number 1)

-- how many bytes there are, and then lines of 32 of them, and of those that are left
abbrev pub is_line_end : ℕ → ℕ → Bool
is_line_end n i = (i + 1 == n) || ((i + 1) % 32 == 0)

abbrev pub bytes : Format (List ℕ)
bytes = counted (2 ^ 64 - 1) (λ n i. broken (is_line_end n i) byte)

-- a hart, and after a colon a number
abbrev pub turn_from : ℕ × Option ℕ → Turn
turn_from t = record { hart = t.0; number = t.1 }

abbrev pub turn_fields : Turn → ℕ × Option ℕ
turn_fields t = (t.hart, t.number)

abbrev pub hart_turn : Format Turn
hart_turn = seen turn_from turn_fields
    (small & λ hart.
    after 58 double)

-- `hart H steps N stop CODE`, after the exit call with its value, and a line of what it reads
abbrev pub hart_from : ℕ × (ℕ × (Option ℕ × List ℕ)) → HartDeeds
hart_from t = record { steps = t.0; code = t.1.0; value = t.1.1.0; reads = t.1.1.1 }

abbrev pub hart_fields : HartDeeds → ℕ × (ℕ × (Option ℕ × List ℕ))
hart_fields h = (h.steps, (h.code, (h.value, h.reads)))

abbrev pub hart_lines : ℕ → Format HartDeeds
hart_lines i = begun (codes "hart " ++ decimal i) (seen hart_from hart_fields
    (begun (codes " steps ") double & λ steps.
    begun (codes " stop ") small & λ code.
    after 32 double & λ value.
    begun (codes "\nread") (listed double)))

-- how many harts there are, and then the lines of each. They do few steps together
abbrev pub are_few_steps : List HartDeeds → Bool
are_few_steps hs = nat_le (steps_of hs) MOST_STEPS

abbrev pub harts_lines : Format (List HartDeeds)
harts_lines = limited are_few_steps TooManySteps (counted (2 ^ 64 - 1) (λ n i. hart_lines i))

-- an execution
abbrev pub Fields : Type 0
Fields = Bool × (ℕ × (List ℕ × (List ℕ × (List HartDeeds × (List Turn × List Turn)))))

abbrev pub recorded_from : Fields → Recorded
recorded_from t = record {
  flat = t.0;
  pages = t.1.0;
  image = t.1.1.0;
  input = t.1.1.1.0;
  harts = t.1.1.1.1.0;
  calls = t.1.1.1.1.1.0;
  order = t.1.1.1.1.1.1;
}

abbrev pub recorded_fields : Recorded → Fields
recorded_fields r = (r.flat, (r.pages, (r.image, (r.input, (r.harts, (r.calls, r.order))))))

-- what follows the first line
abbrev pub taken_first_line : List ℕ → Result (List ℕ) Refusal
taken_first_line bs = taken_word NotAnExecution NotAnExecution (codes "execution ") bs >>= taken_word Version Version (codes "1\n")

abbrev pub execution : Format Recorded
execution = begun_or NotAnExecution NotAnExecution (codes "execution ") (begun_or Version Version (codes "1\n") (seen recorded_from recorded_fields
    (begun (codes "flat ") flag & λ flat.
    begun (codes "\npages ") word & λ pages.
    begun (codes "\nimage ") bytes & λ image.
    begun (codes "input ") bytes & λ input.
    begun (codes "harts ") harts_lines & λ harts.
    begun (codes "calls") (listed hart_turn) & λ calls.
    begun (codes "order") (listed hart_turn))))

-- the text is this execution
pub record IsExecution (text : List ℕ) (r : Recorded) : Type 0 where
  pub has : execution.Has r
  pub spelled : text ≡ execution.spelled r

-- what a text is read as: an execution, or the first cause in the order of its parts
abbrev pub whole : Recorded → List ℕ → Result Recorded Refusal
whole r rest = if length rest == 0 then Ok r else refused TextLeft rest

abbrev pub reading : List ℕ → Result Recorded Refusal
reading text = execution.taken text >>= λ x. whole x.0 x.1

-- no text is two executions
abbrev pub OneExecution : Type 0
OneExecution = (text : List ℕ) (r s : Recorded) → IsExecution text r → IsExecution text s → r ≡ s
