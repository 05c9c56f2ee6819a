-- The tables of slices of one hunt, and the table that they are merged to.
use Rattle.std.specs.Prelude.{◌≡◌, ◌⊎◌, ℕ, ◌+◌, ◌^◌, ◌<◌, Bool, List, [], ◌∷◌, All, Option, get_or, length, sum_by, take}
use Rattle.std.specs.Global.{Vec}
use Rattle.plan_hunt.specs.Endings.{Ended}
use Rattle.plan_hunt.specs.Tables.{IsTable}
use Rattle.plan_hunt.specs.declared.row.Row.{Row}
use Rattle.hunt_table.specs.Text.{IsTextOf, table_text}
use Rattle.hunt_table.specs.Told.{IsTold}
use Rattle.hunt_table.specs.declared.fingerprint.Fingerprint.{Fingerprint}
use Rattle.hunt_table.specs.declared.header.Header.{Header}
use Rattle.hunt_table.specs.declared.seen_range.SeenRange.{SeenRange}
use Rattle.hunt_table.specs.declared.table.Table.{Table}

-- ---- texts

-- the texts are those of the tables, each in one of the two forms
abbrev pub AreTexts : List (Vec ℕ) → List Table → Type 0
AreTexts [] [] = Unit {0}
AreTexts [] (t ∷ ts) = ⊥
AreTexts (x ∷ xs) [] = ⊥
AreTexts (x ∷ xs) (t ∷ ts) = IsTextOf t.header t.rows.items x.items × AreTexts xs ts

-- the tables have texts that tell all of them
abbrev pub AreTold : List Table → Type 0
AreTold [] = Unit {0}
AreTold (t ∷ ts) = IsTold t.header t.rows.items × AreTold ts

-- ---- slices

-- how many harts a table's endings have, by the first; 0 where there is none
abbrev pub harts_of : List Row → ℕ
harts_of [] = 0
harts_of (r ∷ rs) = length r.ending.stops

-- the table is of a hunt of this program with this seed, these ranges and so many harts, and both are weak or neither is
pub record IsOfHunt (program : Option Fingerprint) (weak : Bool) (seed : ℕ) (ranges : List SeenRange) (harts : ℕ) (t : Table) : Type 0 where
  pub is_program : t.header.program ≡ program
  pub is_weak : t.header.is_weak ≡ weak
  pub has_seed : t.header.seed ≡ seed
  pub has_ranges : t.header.ranges.items ≡ ranges
  pub has_harts : harts_of t.rows.items ≡ harts

-- the numbers of its plans are below 2^32
abbrev pub HasFewPlans : Table → Type 0
HasFewPlans t = t.header.first + t.header.count < 2 ^ 32

-- a table has the plans that follow those of another, in the same hunt
pub record Follows (t next : Table) : Type 0 where
  pub hunt : IsOfHunt t.header.program t.header.is_weak t.header.seed t.header.ranges.items (harts_of t.rows.items) next
  pub plans : next.header.first ≡ t.header.first + t.header.count
  pub few_plans : HasFewPlans next

-- each of the tables follows the one before it, and the first one this table
abbrev pub FollowOn : Table → List Table → Type 0
FollowOn t [] = Unit {0}
FollowOn t (next ∷ ts) = Follows t next × FollowOn next ts

-- the tables are those of slices of one hunt, one after the other
abbrev pub AreSlices : List Table → Type 0
AreSlices [] = Unit {0}
AreSlices (t ∷ ts) = HasFewPlans t × FollowOn t ts

-- ---- the table of them all

-- the table tells how the plans that its header names end
abbrev pub TellsPlans : (ℕ → Ended) → Table → Type 0
TellsPlans ends t = IsTable ends t.header.first t.header.count t.rows.items

-- a table of the plans of all these slices: where each of them tells how its plans end, it does so too
pub record IsMerged (t : Table) (ts : List Table) (w : Table) : Type 0 where
  pub slices : AreSlices (t ∷ ts)
  pub program : w.header.program ≡ t.header.program
  pub is_weak : w.header.is_weak ≡ t.header.is_weak
  pub seed : w.header.seed ≡ t.header.seed
  pub ranges : w.header.ranges.items ≡ t.header.ranges.items
  pub first : w.header.first ≡ t.header.first
  pub count : w.header.count ≡ sum_by (λ (s : Table). s.header.count) (t ∷ ts)
  pub tells : (ends : ℕ → Ended) → All (TellsPlans ends) (t ∷ ts) → TellsPlans ends w

-- the texts are those of tables that are merged to this one
abbrev pub AreMerged : List (Vec ℕ) → Table → Type 0
AreMerged texts w = (t : Table) × (ts : List Table) × AreTexts texts (t ∷ ts) × IsMerged t ts w

-- the tables of these texts are merged to the table, and this is its text
pub record IsMergedText (texts : List (Vec ℕ)) (table : Table) (text : List ℕ) : Type 0 where
  pub merged : AreMerged texts table
  pub is_text : text ≡ table_text table.header table.rows.items

-- a table has the plans that follow those of a merged one, in the same hunt of so many harts
pub record Adjoins (harts : ℕ) (w t : Table) : Type 0 where
  pub hunt : IsOfHunt w.header.program w.header.is_weak w.header.seed w.header.ranges.items harts t
  pub next : t.header.first ≡ w.header.first + w.header.count
  pub few_plans : w.header.first + w.header.count + t.header.count < 2 ^ 32

-- a table with that of the plans which follow
pub record IsAppended (w t new : Table) : Type 0 where
  pub program : new.header.program ≡ w.header.program
  pub is_weak : new.header.is_weak ≡ w.header.is_weak
  pub seed : new.header.seed ≡ w.header.seed
  pub ranges : new.header.ranges.items ≡ w.header.ranges.items
  pub first : new.header.first ≡ w.header.first
  pub count : new.header.count ≡ w.header.count + t.header.count
  pub tells : (ends : ℕ → Ended) → TellsPlans ends w → TellsPlans ends t → TellsPlans ends new

-- ---- refusals

-- the text is not that of a table that it would tell all of
abbrev pub IsNoTable : List ℕ → Type 0
IsNoTable text = (h : Header) (rows : List Row) → IsTold h rows → IsTextOf h rows text → ⊥

-- tables that texts tell all of are slices, where these are their texts
abbrev pub TellSlices : List (Vec ℕ) → Type 0
TellSlices texts = (ts : List Table) → AreTold ts → AreTexts texts ts → AreSlices ts

-- the first text that can't be merged with those before it is not that of a table
pub record IsFirstNoTable (texts : List (Vec ℕ)) : Type 0 where
  pub before : ℕ
  pub among : before < length texts
  pub slices : TellSlices (take before texts)
  pub text : Vec ℕ
  pub is_next : get_or texts before text ≡ text
  pub no_table : IsNoTable text.items

-- it is a table's, but not that of the slice which follows
pub record IsFirstApart (texts : List (Vec ℕ)) : Type 0 where
  pub before : ℕ
  pub among : before < length texts
  pub slices : TellSlices (take before texts)
  pub tables : List Table
  pub are_texts : AreTexts (take (before + 1) texts) tables
  pub apart : (ts : List Table) → AreTold ts → AreTexts (take (before + 1) texts) ts → AreSlices ts → ⊥

-- there are no texts, or one is that of a table apart
abbrev pub AreApart : List (Vec ℕ) → Type 0
AreApart texts = (texts ≡ []) ⊎ IsFirstApart texts

-- the tables tell of this program, or, where it is none, of none
abbrev pub HaveProgram : Option Fingerprint → List Table → Type 0
HaveProgram program [] = Unit {0}
HaveProgram program (t ∷ ts) = (t.header.program ≡ program) × HaveProgram program ts

-- the tables are of one program
abbrev pub AreOfOneProgram : List Table → Type 0
AreOfOneProgram [] = Unit {0}
AreOfOneProgram (t ∷ ts) = HaveProgram t.header.program ts

-- it is a table's, but that of another program's
pub record IsFirstOfOther (texts : List (Vec ℕ)) : Type 0 where
  pub before : ℕ
  pub among : before < length texts
  pub slices : TellSlices (take before texts)
  pub tables : List Table
  pub are_texts : AreTexts (take (before + 1) texts) tables
  pub other : (ts : List Table) → AreTold ts → AreTexts (take (before + 1) texts) ts → AreOfOneProgram ts → ⊥
