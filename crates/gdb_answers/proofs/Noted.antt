-- What is said of a hart.
use Rattle.std.proofs.Common.{◌≡◌, ℕ, Bool, List, Option, Some, ap, ◌∙◌}
use Rattle.std.specs.Option.{option_map}
use Rattle.pages.specs.declared.access.Store.{Store}
use Rattle.hart_step.specs.declared.hart.Hart.{Hart}
use Rattle.machine.specs.Machine.{Running, after_rounds}
use Rattle.moments.specs.Sights.{Sight}
use Rattle.timelines.specs.OwnParts.{waits_at, uncommitted}
use Rattle.past_harts.specs.declared.point.Point.{Point}
use Rattle.gdb_replies.specs.declared.note.ThreadNote.{ThreadNote}
use Rattle.gdb_talk.specs.Told.{note_of}
use Rattle.gdb_answers.specs.Answers.{note_at, note_seen}
use Rattle.timelines.specs.Shown.{seen}
use Rattle.gdb_answers.specs.Stores.{bytes_covered}

noted_by : ThreadNote → Bool → ℕ → Option ThreadNote
noted_by n w b = Some (record n { waits = w; uncommitted = b })

pub noted : (m : Running) (at : Point) (i : ℕ) (s : Sight Hart) (h : Hart) (n : ThreadNote) (w : Bool) (ss : List Store) (b : ℕ) → Some s ≡ seen m at i → h ≡ s.hart → n ≡ note_of i h at.moment →
    w ≡ waits_at (after_rounds at.moment.rounds m) at.moment.place i → ss ≡ uncommitted m at i → b ≡ bytes_covered ss → Some (record n { waits = w; uncommitted = b }) ≡ note_at m at i
unfolding noted_by
noted m at i s h n w ss b there hart note waits stores bytes =
    ap (λ (x : ThreadNote). noted_by x w b) (note ∙ ap (λ (y : Hart). note_of i y at.moment) hart)
    ∙ ap (λ (x : Bool). noted_by (note_of i s.hart at.moment) x b) waits
    ∙ ap (λ (x : ℕ). noted_by (note_of i s.hart at.moment) (waits_at (after_rounds at.moment.rounds m) at.moment.place i) x) (bytes ∙ ap bytes_covered stores)
    ∙ ap (λ (o : Option (Sight Hart)). option_map (note_seen m at i) o) there
