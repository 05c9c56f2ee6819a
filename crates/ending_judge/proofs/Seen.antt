-- Memory after all operations of an order is what a hart sees behind them.
use Rattle.std.proofs.Common.{◌≡◌, ◌∙◌, ℕ, zero, suc, ◌+◌, ◌<◌, ◌≤◌, ◌&&◌, ◌||◌, ◌++◌, Bool, true, false, if◌then◌else◌, nat_lt, List, [], ◌∷◌, length, take, slice_index, Option, Some, option_map, ap, ap₂, sym, refl, arith}
use Rattle.std.proofs.lemmas.Bool.Decides.{nat_tests}
use Rattle.std.proofs.lemmas.List.{take_all, take_more}
use Rattle.byte_sources.specs.Sources.{last_below}
use Rattle.round_schedule.specs.declared.event.Event.{Event}
use Rattle.round_schedule.specs.Accesses.{byte_written}
use Rattle.round_schedule.specs.Positions.{event, source_byte, writes_at}
use Rattle.execution_views.specs.Moments.{byte_at, bytes_at, may_read}
use Rattle.execution_views.specs.declared.moment.Moment.{Moment}
use Rattle.all_endings.specs.Endings.{bytes_from, memory_after}

-- behind all operations
abbrev end_of : List ℕ → Moment
end_of g = record { hart = 0; index = 0; position = length g }

after_more : (t : List Event) (g : List ℕ) (a : ℕ) (m : ℕ → ℕ) (x : ℕ) →
    memory_after t (g ++ a ∷ []) m x ≡ (if writes_at t a x then byte_written (event t a).access x else memory_after t g m x)
after_more t [] a m x = refl
after_more t (b ∷ g) a m x = after_more t g a (λ y. if writes_at t b y then byte_written (event t b).access y else m y) x

and_or : (w a b : Bool) → a ≡ true → (w && (a || b)) ≡ w
and_or true true b e = refl
and_or false true b e = refl
and_or w false b e = absurd cc

reads_all : (t : List Event) (g : List ℕ) (x n : ℕ) → n < length g → may_read t g (end_of g) x n ≡ writes_at t (slice_index g n) x
reads_all t g x n l =
    let below : nat_lt n (length g) ≡ true = grind (arith, nat_tests) in
    and_or (writes_at t (slice_index g n) x) (nat_lt n (length g)) _ below

choose : (t : List Event) (opening : ℕ → ℕ) (g : List ℕ) (x n : ℕ) (rest : Option ℕ) (b : Bool) →
    source_byte t opening x (option_map (slice_index g) (if b then Some n else rest)) ≡
    (if b then byte_written (event t (slice_index g n)).access x else source_byte t opening x (option_map (slice_index g) rest))
choose t opening g x n rest true = refl
choose t opening g x n rest false = refl

up_to : (t : List Event) (opening : ℕ → ℕ) (g : List ℕ) (x n : ℕ) → n ≤ length g →
    source_byte t opening x (option_map (slice_index g) (last_below (may_read t g (end_of g) x) n)) ≡ memory_after t (take n g) opening x
up_to t opening g x zero l = refl
up_to t opening g x (suc n) l =
    let below : n < length g = omega (arith, l) in
    let w = writes_at t (slice_index g n) x in
    let more : take (suc n) g ≡ take n g ++ slice_index g n ∷ [] = (let on : suc n ≡ n + 1 = omega arith in ap (λ k. take k g) on ∙ take_more g n 0 below) in
    ap (λ (b : Bool). source_byte t opening x (option_map (slice_index g) (if b then Some n else last_below (may_read t g (end_of g) x) n))) (reads_all t g x n below)
    ∙ choose t opening g x n (last_below (may_read t g (end_of g) x) n) w
    ∙ ap (λ (y : ℕ). if w then byte_written (event t (slice_index g n)).access x else y) (up_to t opening g x n (omega (arith, l)))
    ∙ sym (ap (λ (h : List ℕ). memory_after t h opening x) more ∙ after_more t (take n g) (slice_index g n) opening x)

byte_after : (t : List Event) (opening : ℕ → ℕ) (g : List ℕ) (x : ℕ) → byte_at t opening g (end_of g) x ≡ memory_after t g opening x
byte_after t opening g x =
    up_to t opening g x (length g) (omega arith) ∙ ap (λ (h : List ℕ). memory_after t h opening x) (take_all (length g) g (omega arith))

pub bytes_after : (t : List Event) (opening : ℕ → ℕ) (g : List ℕ) (first count : ℕ) →
    bytes_at t opening g (end_of g) first count ≡ bytes_from (memory_after t g opening) first count
bytes_after t opening g first zero = refl
bytes_after t opening g first (suc n) = ap₂ (λ (b : ℕ) (bs : List ℕ). b ∷ bs) (byte_after t opening g first) (bytes_after t opening g (first + 1) n)
