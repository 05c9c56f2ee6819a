-- The round of a hart through a store buffer that was empty, part by part.
use Rattle.std.proofs.Common.{◌≡◌, ℕ, zero, suc, ◌<◌, Bool, List, [], ◌∷◌, length, get_or, slice_get, Some, ◌∙◌, ap, sym, refl, subst, arith}
use Rattle.pages.specs.declared.access.Store.{Store}
use Rattle.pages.specs.Memory.{Memory}
use Rattle.store_buffer.specs.Covered.{with_stores}
use Rattle.round_schedule.specs.declared.access.Access.{Access}
use Rattle.round_schedule.specs.Schedule.{HartRound, Words, hart_round_of, round_from}
use Rattle.hart_step.specs.declared.hart.Hart.{Hart}
use Rattle.hart_step.specs.Console.{ConsoleState}
use Rattle.hart_step.specs.Buffered.{Overlay, Puts, seen_through}
use Rattle.hart_step.specs.DecodedCode.{Shows}
use Rattle.hart_step.specs.Rounds.{Leaves}
use Rattle.hart_step.specs.Words.{words_of}
use Rattle.rv64_decode.specs.declared.instruction.Instr.{Instr}
use Rattle.hart_rounds.specs.declared.hart_end.HartEnd.{HartEnd}
use Rattle.hart_rounds.specs.Ends.{end_of, logged}
use Rattle.hart_rounds.proofs.FewAccesses.{few_of_round}

-- decoded words that show memory show it through an empty buffer
pub shows_through : (m : Memory) (v : Overlay) (first : ℕ) (words : List Instr) → v ≡ record { base = m; bytes = [] } → Shows m first words → Shows (seen_through v) first words
shows_through m v first words e shows = subst (λ (y : Overlay). Shows (seen_through y) first words) (sym e) shows

abbrev end_from : Hart → List (ℕ × ℕ) → List Access → ℕ → Bool → HartEnd
end_from h es log n w = record { hart = h; buffer = es; log = log; accesses = n; waits = w }

-- it leaves what the schedule says, with the accesses logged or only counted
pub end_is : (logs : Bool) (m : Memory) (v x : Overlay) (quota : ℕ) (h g : Hart) (before log told : List Access) (count : ℕ) (w : Bool) (bytes : List (ℕ × ℕ)) →
    v ≡ record { base = m; bytes = [] } → before ≡ [] →
    Leaves (λ (ss : List Store) (b : Overlay). Puts v ss b) (λ (b : Overlay). seen_through b) (seen_through v) (round_from (words_of (seen_through v).code) (seen_through v).bytes quota (record { hart = h; stores = []; accesses = before })) g log w x →
    bytes ≡ x.bytes → told ≡ logged logs log → count ≡ length log → end_of logs (hart_round_of (words_of m.code) m.bytes quota h) ≡ end_from g bytes told count w
end_is logs m v x quota h g before log told count w bytes e f l b p n =
    let at_first = subst (λ (y : Overlay). Leaves (λ (ss : List Store) (c : Overlay). Puts y ss c) (λ (c : Overlay). seen_through c) (seen_through y) (round_from (words_of (seen_through y).code) (seen_through y).bytes quota (record { hart = h; stores = []; accesses = before })) g log w x) e l in
    let k = subst (λ (z : List Access). Leaves (λ (ss : List Store) (c : Overlay). Puts (record { base = m; bytes = [] }) ss c) (λ (c : Overlay). seen_through c) m (round_from (words_of m.code) m.bytes quota (record { hart = h; stores = []; accesses = z })) g log w x) f at_first in
    let r : HartRound Hart = hart_round_of (words_of m.code) m.bytes quota h in
    let stores : with_stores [] r.last.stores ≡ bytes = sym (b ∙ k.stores.bytes) in
    ap (λ (a : Hart). end_from a (with_stores [] r.last.stores) (logged logs r.last.accesses) (length r.last.accesses) r.waits) (sym k.hart)
    ∙ (ap (λ (es : List (ℕ × ℕ)). end_from g es (logged logs r.last.accesses) (length r.last.accesses) r.waits) stores
    ∙ (ap (λ (zs : List Access). end_from g bytes (logged logs zs) (length zs) r.waits) (sym k.accesses)
    ∙ (ap (λ (zs : List Access). end_from g bytes zs (length log) r.waits) (sym p)
    ∙ (ap (λ (i : ℕ). end_from g bytes told i r.waits) (sym n) ∙ ap (λ (t : Bool). end_from g bytes told count t) (sym k.waits)))))

-- what it leaves of accesses is fewer than a bound above its quota
pub few_left : (most : ℕ) (W : Words Hart ConsoleState) (bs : List ℕ) (quota : ℕ) (h : Hart) (es : List Access) → es ≡ (round_from W bs quota (record { hart = h; stores = []; accesses = [] })).last.accesses → quota < most → length es < most
few_left most W bs quota h es e low = omega (arith, ap length e, few_of_round W bs quota (record { hart = h; stores = []; accesses = [] }))

pub indexed : {A : Type 0} (xs : List A) (n : ℕ) (d : A) → n < length xs → slice_get xs n ≡ Some (get_or xs n d)
indexed [] n d lt = absurd (omega arith)
indexed (x ∷ xs) zero d lt = refl
indexed (x ∷ xs) (suc n) d lt = indexed xs n d (omega arith)
