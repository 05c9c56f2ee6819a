-- A part through an empty buffer: what is read and written in it, and whether its hart waits then.
use Rattle.std.proofs.Common.{◌≡◌, ℕ, Bool, List, [], subst, ap, ◌∙◌, slice_get}
use Rattle.pages.specs.declared.access.Range.{Range}
use Rattle.pages.specs.declared.access.Store.{Store}
use Rattle.pages.specs.Memory.{Memory}
use Rattle.round_schedule.specs.declared.access.Access.{Access}
use Rattle.round_schedule.specs.Schedule.{hart_round_of, round_from}
use Rattle.hart_step.specs.declared.hart.Hart.{Hart}
use Rattle.hart_step.specs.Buffered.{Overlay, Puts, seen_through}
use Rattle.hart_step.specs.Rounds.{Leaves}
use Rattle.hart_step.specs.Words.{words_of}
use Rattle.machine.specs.Machine.{Running}
use Rattle.machine.specs.Untraced.{IsUntraced, Untraced}
use Rattle.past_harts.specs.declared.place.Place.{Place}
use Rattle.past_harts.specs.Begun.{Begun, begun_of}
use Rattle.timelines.specs.OwnParts.{own_stores, stores_by, waits_at, waits_by}
use Rattle.past_harts.proofs.Begun.{begun_by, begun_same}

abbrev LeavesThrough : Overlay → ℕ → Hart → Hart → List Access → Bool → Overlay → Type 0
LeavesThrough v quota h g log w x =
    Leaves (λ (ss : List Store) (b : Overlay). Puts v ss b) (λ (b : Overlay). seen_through b) (seen_through v)
    (round_from (words_of (seen_through v).code) (seen_through v).bytes quota (record { hart = h; stores = []; accesses = [] })) g log w x

-- on memory with this code and these bytes
pub record IsPart (code : List Range) (bs : List ℕ) (quota : ℕ) (h : Hart) (log : List Access) (w : Bool) : Type 0 where
  pub accesses : log ≡ (hart_round_of (words_of code) bs quota h).last.accesses
  pub waits : w ≡ (hart_round_of (words_of code) bs quota h).waits

pub part_left : (m : Memory) (v x : Overlay) (code : List Range) (bs : List ℕ) (quota : ℕ) (h g : Hart) (log : List Access) (w : Bool) → v ≡ record { base = m; bytes = [] } → m.code ≡ code → m.bytes ≡ bs →
    LeavesThrough v quota h g log w x → IsPart code bs quota h log w
part_left m v x code bs quota h g log w e c b l =
    let k : LeavesThrough (record { base = m; bytes = [] }) quota h g log w x = subst (λ (y : Overlay). LeavesThrough y quota h g log w x) e l in
    let there : IsPart m.code m.bytes quota h log w = record { accesses = k.accesses; waits = k.waits } in
    subst (λ (xs : List ℕ). IsPart code xs quota h log w) b (subst (λ (cs : List Range). IsPart cs m.bytes quota h log w) c there)

-- of a machine without its trace
pub stores_there : (m : Running) (u : Untraced) (code : List Range) (p : Place) (i : ℕ) (ss : List Store) → IsUntraced m u → m.code ≡ code → ss ≡ stores_by (begun_by u code) p i (slice_get u.harts i) → ss ≡ own_stores m p i
stores_there m u code p i ss is c e =
    e ∙ ap (λ (b : Begun). stores_by b p i (slice_get u.harts i)) (begun_same m u code is c)
    ∙ ap (λ (hs : List Hart). stores_by (begun_of m) p i (slice_get hs i)) is.harts

pub waits_there : (m : Running) (u : Untraced) (code : List Range) (p : Place) (i : ℕ) (w : Bool) → IsUntraced m u → m.code ≡ code → w ≡ waits_by (begun_by u code) p i (slice_get u.harts i) → w ≡ waits_at m p i
waits_there m u code p i w is c e =
    e ∙ ap (λ (b : Begun). waits_by b p i (slice_get u.harts i)) (begun_same m u code is c)
    ∙ ap (λ (hs : List Hart). waits_by (begun_of m) p i (slice_get hs i)) is.harts
