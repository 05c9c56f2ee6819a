-- Which tables have a text that tells all of them, and what a reader answers for it.
use Rattle.std.specs.Prelude.{◌≡◌, ◌≢◌, ℕ, ◌^◌, ◌<◌, List, [], All, length, sum_by, Option, Some, None, Result, MatchResult}
use Rattle.plan_hunt.specs.declared.hart_ending.HartEnding.{HartEnding}
use Rattle.plan_hunt.specs.declared.hart_ending.HartEnding.TheVariants.{Loops, Runs, Stopped}
use Rattle.hunt_table.specs.declared.fingerprint.Fingerprint.{Fingerprint}
use Rattle.hunt_table.specs.declared.header.Header.{Header}
use Rattle.hunt_table.specs.declared.seen_range.SeenRange.{SeenRange}
use Rattle.hunt_table.specs.Names.{name_of}
use Rattle.plan_hunt.specs.declared.row.Row.{Row}
use Rattle.hunt_table.specs.declared.read_error.ReadError.{ReadError}
use Rattle.hunt_table.specs.declared.read_error.ReadError.TheVariants.{OutOfMemory}
use Rattle.hunt_table.specs.declared.table.Table.{Table}

-- a stop's numbers fit their fields, and there is a value with the exit call alone
abbrev pub IsToldStop : HartEnding → Type 0
IsToldStop Runs = Unit {0}
IsToldStop Loops = Unit {0}
IsToldStop (Stopped s) = (s.code < 2 ^ 8) × (s.value < 2 ^ 64) × (s.code ≢ 1 → s.value ≡ 0)

-- a range has no name, or one that can be told
abbrev pub IsToldName : Option (List ℕ) → Type 0
IsToldName None = Unit {0}
IsToldName (Some name) = name_of name ≡ Some name

-- a range's numbers fit their fields
abbrev pub IsToldRange : SeenRange → Type 0
IsToldRange r = (r.address < 2 ^ 32) × (r.length < 2 ^ 32) × IsToldName r.name

-- no program, or one whose numbers fit their fields
abbrev pub IsToldProgram : Option Fingerprint → Type 0
IsToldProgram None = Unit {0}
IsToldProgram (Some p) = (p.length < 2 ^ 64) × (p.checksum < 2 ^ 32)

-- numbers that fit their fields, and as many bytes that are looked at as the ranges have
pub record IsToldRow (ranges : List SeenRange) (r : Row) : Type 0 where
  pub first : r.first < 2 ^ 32
  pub plans : r.plans < 2 ^ 32
  pub stops : All IsToldStop r.ending.stops
  pub stops_length : length r.ending.stops < 2 ^ 64
  pub seen : All (λ b. b < 2 ^ 8) r.ending.seen
  pub seen_length : length r.ending.seen ≡ sum_by (λ (s : SeenRange). s.length) ranges
  pub output : All (λ b. b < 2 ^ 8) r.ending.output
  pub output_length : length r.ending.output < 2 ^ 64

-- numbers that fit their fields; the ranges stand in the lines of endings alone, so that they are none where no ending is
pub record IsTold (h : Header) (endings : List Row) : Type 0 where
  pub seed : h.seed < 2 ^ 64
  pub first : h.first < 2 ^ 32
  pub count : h.count < 2 ^ 32
  pub program : IsToldProgram h.program
  pub ranges : All IsToldRange h.ranges.items
  pub no_ending : endings ≡ [] → h.ranges.items ≡ []
  pub few_endings : length endings < 2 ^ 64
  pub rows : All (IsToldRow h.ranges.items) endings

-- two tables are the same, whatever memory they take
pub record IsSame (h : Header) (endings : List Row) (t : Table) : Type 0 where
  pub is_weak : t.header.is_weak ≡ h.is_weak
  pub seed : t.header.seed ≡ h.seed
  pub first : t.header.first ≡ h.first
  pub count : t.header.count ≡ h.count
  pub program : t.header.program ≡ h.program
  pub ranges : t.header.ranges.items ≡ h.ranges.items
  pub rows : t.rows.items ≡ endings

-- the table was read, unless memory ran out
abbrev pub IsReadAs : Header → List Row → Result Table ReadError → Type 0
IsReadAs h rows r = MatchResult r (IsSame h rows) (λ e. e ≡ OutOfMemory)
