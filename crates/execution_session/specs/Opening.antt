-- The execution of a file, as a debugger looks at it.
use Rattle.std.specs.Prelude.{◌≡◌, ◌≢◌, ℕ, ◌*◌, length, slice_index}
use Rattle.trace.specs.Traced.{opening_at}
use Rattle.guest_rounds.specs.Guests.{Guest}
use Rattle.execution_checker.specs.Allowed.{Allows, IsVerdict}
use Rattle.execution_checker.specs.declared.verdict.Verdict.{Verdict}
use Rattle.execution_checker.specs.declared.verdict.Verdict.TheVariants.{Allowed}
use Rattle.execution_file.specs.Recorded.{Recorded}
use Rattle.execution_scripts.specs.Findings.{IsAsSaid, guest_in, start_of}
use Rattle.execution_scripts.specs.declared.checking.Checked.{Checked}
use Rattle.execution_scripts.specs.declared.checking.Finding.TheVariants.{Judged}
use Rattle.execution_moments.specs.Courses.{IsCourse}
use Rattle.execution_session.specs.declared.opening.Opened.{Opened}
use Rattle.execution_session.specs.declared.opening.Opened.TheVariants as opened
use Rattle.execution_moments.specs.declared.past.Past.{Past}

-- an execution of this guest that RVWMO allows, and its moments; the bytes are those that the guest's memory opens with
pub record IsPast (g : Guest) (p : Past) : Type 0 where
  pub allowed : Allows (λ x. slice_index g.shared.memory.bytes x) p.execution.standing p.order.0.items
  pub course : IsCourse g.shared.memory (start_of g) p.execution.standing p.order.0.items p.course
  pub opening : (x : ℕ) → opening_at p.opening.opening x ≡ slice_index g.shared.memory.bytes x

-- the one that a file says: its harts do what the file says of them, and the order is the one that the file's turns name
pub record IsPastOf (r : Recorded) (p : Past) : Type 0 where
  pub past : IsPast (guest_in r) p
  pub as_said : IsAsSaid r.harts r.order p.execution.standing p.order.0.items
  pub harts : p.harts ≡ length r.harts
  pub size : p.size ≡ r.pages * 4096

-- what was found against one of this guest: that it isn't allowed, by a verdict on what the script leads the guest to, or that no script of
-- it can be made
pub record IsFoundAgainst (g : Guest) (c : Checked) : Type 0 where
  pub against : c.finding ≢ Judged Allowed
  pub verdict : (v : Verdict) → c.finding ≡ Judged v →
      IsVerdict v g.shared.memory (λ x. slice_index g.shared.memory.bytes x) c.script.items c.order.0.items (start_of g) c.execution.standing

-- against the execution of a file
abbrev pub IsAgainst : Recorded → Checked → Type 0
IsAgainst r c = IsFoundAgainst (guest_in r) c

abbrev pub IsOpened : Recorded → Opened → Type 0
IsOpened r (opened.Past p) = IsPastOf r p
IsOpened r (opened.Refused c) = IsAgainst r c
