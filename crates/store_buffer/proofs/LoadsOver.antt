-- Loads of memory under stores.
use Rattle.std.proofs.Common.{◌≡◌, ℕ, zero, suc, ◌+◌, ◌%◌, ◌^◌, ◌<◌, ◌≤◌, ◌==◌, List, length, get_or, refl, sym, ap, ◌∙◌, arith, Bool, true, false, if◌then◌else◌, nat_le, None, Ok, Err, Result, unwrap_or, ⊎_elim}
use Rattle.std.proofs.lemmas.Bool.{cases_lt, eqb-true, leb-true}
use Rattle.std.proofs.lemmas.List.{get_or_past}
use Rattle.std.proofs.lemmas.List.Elements.{All-get_or}
use Rattle.pages.specs.declared.access.Fault.{Fault}
use Rattle.pages.specs.declared.access.Fault.TheVariants.{LoadMisaligned, LoadOutside}
use Rattle.pages.specs.declared.access.Store.{Store}
use Rattle.pages.specs.declared.access.Width.{Width}
use Rattle.pages.specs.Memory.{IsBytes, Memory, after, loaded, number_at, stored, value_at, width_bytes}
use Rattle.pages.proofs.StoreLaws.{byte_after, length-after}
use Rattle.store_buffer.specs.Covered.{Rising, byte_at, stores_of}
use Rattle.store_buffer.proofs.CoveredLaws.{last_byte_at}
use Rattle.store_buffer.specs.declared.line.Line.{Line}
use Rattle.store_buffer.specs.Lines.{line_at, number_over}
use Rattle.store_buffer.proofs.LineNumbers.{over_value, value_is}

err_same : (b c : Bool) (v w : ℕ) (e : Fault) → (if b then (if c then Ok v else Err LoadOutside) else Err LoadMisaligned) ≡ Err e → (if b then (if c then Ok w else Err LoadOutside) else Err LoadMisaligned) ≡ Err e
err_same true true v w e h = cc
err_same true false v w e h = h
err_same false c v w e h = h

ok_same : (b c : Bool) (v w n : ℕ) → (if b then (if c then Ok v else Err LoadOutside) else Err LoadMisaligned) ≡ Ok n → (v ≡ n) × (b ≡ true) × (c ≡ true) × ((if b then (if c then Ok w else Err LoadOutside) else Err LoadMisaligned) ≡ Ok w)
ok_same true true v w n h = (ok_value v n h, refl, refl, refl)
  where
    ok_value : (x y : ℕ) → (let r : Result ℕ Fault = Ok x in r) ≡ Ok y → x ≡ y
    ok_value x y h = cc
ok_same true false v w n h = cc
ok_same false c v w n h = cc

-- a load that fails also fails under stores
pub load_err : (m : Memory) (ss : List Store) (a : ℕ) (w : Width) (e : Fault) → loaded m a w ≡ Err e → loaded (stored m ss) a w ≡ Err e
unfolding loaded
load_err m ss a w e h =
    ap (λ n. if a % width_bytes w == 0 then (if nat_le (a + width_bytes w) n then Ok (value_at (after m.bytes ss) a w) else Err LoadOutside) else Err LoadMisaligned) (length-after m.bytes ss)
    ∙ err_same (a % width_bytes w == 0) (nat_le (a + width_bytes w) (length m.bytes)) (value_at m.bytes a w) (value_at (after m.bytes ss) a w) e h

-- a load that gives a number
pub load_ok : (m : Memory) (ss : List Store) (a : ℕ) (w : Width) (n : ℕ) → loaded m a w ≡ Ok n → (value_at m.bytes a w ≡ n) × (a % width_bytes w ≡ 0) × (a + width_bytes w ≤ length m.bytes) × (loaded (stored m ss) a w ≡ Ok (value_at (after m.bytes ss) a w))
unfolding loaded
load_ok m ss a w n h =
    let t = ok_same (a % width_bytes w == 0) (nat_le (a + width_bytes w) (length m.bytes)) (value_at m.bytes a w) (value_at (after m.bytes ss) a w) n h in (
      t.0,
      eqb-true (a % width_bytes w) 0 t.1,
      leb-true (a + width_bytes w) (length m.bytes) t.2,
      ap (λ k. if a % width_bytes w == 0 then (if nat_le (a + width_bytes w) k then Ok (value_at (after m.bytes ss) a w) else Err LoadOutside) else Err LoadMisaligned) (length-after m.bytes ss) ∙ t.3,
    )

-- the number under a buffer, of which one line has the covered bytes
pub number_under : (w : Width) (l : Line) (bs : List ℕ) (es : List (ℕ × ℕ)) (a p : ℕ) → a + width_bytes w ≤ length bs → Rising 0 es → ((k : ℕ) → get_or bs k 0 < 2 ^ 8) → ((i : ℕ) → i < width_bytes w → byte_at es (a + i) ≡ line_at l (p + i)) → number_over l p (value_at bs a w) (width_bytes w) ≡ value_at (after bs (stores_of es)) a w
number_under w l bs es a p inside rising small same =
    over_value w l p bs (after bs (stores_of es)) a small
    (λ i h.
    let here : a + i < length bs = omega arith in
    byte_after bs (a + i) (stores_of es) here ∙ last_byte_at 0 (get_or bs (a + i) 0) es (a + i) rising ∙ ap (λ o. unwrap_or o (get_or bs (a + i) 0)) (same i h))

numbers_same : (n : ℕ) (bs cs : List ℕ) (a : ℕ) → ((i : ℕ) → i < n → get_or cs (a + i) 0 ≡ get_or bs (a + i) 0) → number_at bs a n ≡ number_at cs a n
numbers_same zero bs cs a same = refl
numbers_same (suc n) bs cs a same =
    let z : a + 0 ≡ a = omega arith in
    let here : get_or bs a 0 ≡ get_or cs a 0 = ap (λ k. get_or bs k 0) (sym z) ∙ sym (same 0 (omega arith)) ∙ ap (λ k. get_or cs k 0) z in
    let rest = numbers_same n bs cs (a + 1) (λ i h. let s : a + 1 + i ≡ a + suc i = omega arith in ap (λ k. get_or cs k 0) s ∙ same (suc i) (omega arith) ∙ ap (λ k. get_or bs k 0) (sym s)) in
    rw (here, rest) refl

-- the number under a buffer that has none of its bytes
pub number_apart : (w : Width) (bs : List ℕ) (es : List (ℕ × ℕ)) (a : ℕ) → a + width_bytes w ≤ length bs → Rising 0 es → ((i : ℕ) → i < width_bytes w → byte_at es (a + i) ≡ None) → value_at bs a w ≡ value_at (after bs (stores_of es)) a w
number_apart w bs es a inside rising none =
    value_is w bs a
    ∙ numbers_same (width_bytes w) bs (after bs (stores_of es)) a
    (λ i h.
    let here : a + i < length bs = omega arith in
    byte_after bs (a + i) (stores_of es) here ∙ last_byte_at 0 (get_or bs (a + i) 0) es (a + i) rising ∙ ap (λ o. unwrap_or o (get_or bs (a + i) 0)) (none i h))
    ∙ sym (value_is w (after bs (stores_of es)) a)

pub small_bytes : (bs : List ℕ) → IsBytes bs → (k : ℕ) → get_or bs k 0 < 2 ^ 8
small_bytes bs h k = ⊎_elim (λ l. All-get_or (λ b. b < 2 ^ 8) bs k 0 l h) (λ past. let e = get_or_past bs k 0 past in omega arith) (cases_lt k (length bs))
