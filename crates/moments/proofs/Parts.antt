-- A part through an empty buffer, as a sight.
use Rattle.std.proofs.Common.{◌≡◌, ℕ, List, [], Bool, Option, Some, refl, sym, ◌∙◌, ap, subst}
use Rattle.pages.specs.declared.access.Store.{Store}
use Rattle.pages.specs.Memory.{Memory, after, stored}
use Rattle.round_schedule.specs.declared.access.Access.{Access}
use Rattle.round_schedule.specs.Past.{last_of}
use Rattle.round_schedule.specs.Schedule.{HartRound, hart_round_of, round_from}
use Rattle.store_buffer.specs.Covered.{stores_of}
use Rattle.hart_step.specs.declared.hart.Hart.{Hart}
use Rattle.hart_step.specs.Buffered.{Overlay, Puts, seen_through}
use Rattle.hart_step.specs.DecodedCode.{Shows}
use Rattle.hart_step.specs.Rounds.{Leaves}
use Rattle.hart_step.specs.Words.{words_of}
use Rattle.rv64_decode.specs.declared.instruction.Instr.{Instr}
use Rattle.moments.specs.Sights.{Sight, part_sights}
use Rattle.moments.proofs.Ends.{sights_end}
use Rattle.moments.specs.Bytes.{sight_of}

-- a code that shows memory shows it through an empty buffer
pub shows_through : (m : Memory) (v : Overlay) (first : ℕ) (words : List Instr) → v ≡ record { base = m; bytes = [] } → Shows m first words → Shows (seen_through v) first words
shows_through m v first words e shows = subst (λ (y : Overlay). Shows (seen_through y) first words) (sym e) shows

abbrev there : Sight Hart → Option (Sight Hart)
there s = Some s

abbrev LeavesThrough : Overlay → ℕ → Hart → List Access → Hart → List Access → Bool → Overlay → Type 0
LeavesThrough v quota h before g log w x =
    Leaves (λ (ss : List Store) (b : Overlay). Puts v ss b) (λ (b : Overlay). seen_through b) (seen_through v)
    (round_from (words_of (seen_through v).code) (seen_through v).bytes quota (record { hart = h; stores = []; accesses = before })) g log w x

-- the hart at the end of the part, and memory under the bytes of the buffer
pub part_ended : (m : Memory) (v x : Overlay) (quota : ℕ) (h g : Hart) (before log : List Access) (w : Bool) (own : List (ℕ × ℕ)) → v ≡ record { base = m; bytes = [] } → before ≡ [] →
    LeavesThrough v quota h before g log w x → own ≡ x.bytes → last_of (part_sights (words_of m.code) quota (sight_of h m)) ≡ Some (sight_of g (stored m (stores_of own)))
part_ended m v x quota h g before log w own e f l is =
    let at_first = subst (λ (y : Overlay). LeavesThrough y quota h before g log w x) e l in
    let k : LeavesThrough (record { base = m; bytes = [] }) quota h [] g log w x = subst (λ (z : List Access). LeavesThrough (record { base = m; bytes = [] }) quota h z g log w x) f at_first in
    let round : HartRound Hart = hart_round_of (words_of m.code) m.bytes quota h in
    let seen : stored m (stores_of own) ≡ stored m round.last.stores =
    ap (λ (es : List (ℕ × ℕ)). stored m (stores_of es)) is ∙ ap (λ (b : Memory). stored b (stores_of x.bytes)) (sym k.stores.base) ∙ k.bytes in
    (sights_end _ _).part (words_of m.code) m.bytes quota h
    ∙ ap (λ (y : Hart). there (record { hart = y; bytes = after m.bytes round.last.stores })) (sym k.hart)
    ∙ ap (λ (b : Memory). there (sight_of g b)) (sym seen)
