-- Data as far as it came, and what follows it.
use Rattle.std.proofs.Common.{◌≡◌, ℕ, suc, ◌+◌, Bool, true, false, List, [], ◌∷◌, ◌++◌, Option, Some, None, refl, sym, ◌∙◌, ap, append_assoc, append-nil, arith}
use Rattle.std.specs.Prelude.{◌==◌}
use Rattle.std.proofs.lemmas.Bool.{eqb-true}
use Rattle.std.specs.List.{after_first, before_first, position_or_len}
use Rattle.gdb_packets.specs.Stream.{Told, closed_by, framed, is_end}

-- data of which so much came, and the bytes behind that
abbrev pub framed_behind : List ℕ → List ℕ → Option (Told × List ℕ)
framed_behind bs more = closed_by (bs ++ before_first is_end more) (after_first is_end more)

-- one byte more, which is no `#`
before_one : (b : ℕ) (more : List ℕ) → (b == 35) ≡ false → before_first is_end (b ∷ more) ≡ b ∷ before_first is_end more
before_one b more e =
    let next : 1 + position_or_len is_end more ≡ suc (position_or_len is_end more) = omega arith in
    rw (e, next) refl

after_one : (b : ℕ) (more : List ℕ) → (b == 35) ≡ false → after_first is_end (b ∷ more) ≡ after_first is_end more
after_one b more e =
    let next : 1 + position_or_len is_end more + 1 ≡ suc (position_or_len is_end more + 1) = omega arith in
    rw (e, next) refl

pub framed_more : (bs : List ℕ) (b : ℕ) (more : List ℕ) → (b == 35) ≡ false → framed_behind bs (b ∷ more) ≡ framed_behind (bs ++ b ∷ []) more
framed_more bs b more e =
    ap (λ (xs : List ℕ). closed_by (bs ++ xs) (after_first is_end (b ∷ more))) (before_one b more e)
    ∙ ap (closed_by (bs ++ (b ∷ before_first is_end more))) (after_one b more e)
    ∙ ap (λ (xs : List ℕ). closed_by xs (after_first is_end more)) (sym (append_assoc bs (b ∷ []) (before_first is_end more)))

pub framed_end : (bs rest : List ℕ) → framed_behind bs (35 ∷ rest) ≡ closed_by bs rest
framed_end bs rest = ap (λ (xs : List ℕ). closed_by xs rest) (append-nil bs)

-- ---- as far as a reader is

-- these bytes came, and none of them is `#`
abbrev pub CameSoFar : List ℕ → Type 0
CameSoFar bs = (more : List ℕ) → framed (bs ++ more) ≡ framed_behind bs more

pub came_one : (bs : List ℕ) (b : ℕ) → (b == 35) ≡ false → CameSoFar bs → CameSoFar (bs ++ b ∷ [])
came_one bs b e came = λ more. ap framed (append_assoc bs (b ∷ []) more) ∙ came (b ∷ more) ∙ framed_more bs b more e

pub came_closed : (bs : List ℕ) → CameSoFar bs → (more : List ℕ) → framed ((bs ++ 35 ∷ []) ++ more) ≡ closed_by bs more
came_closed bs came more = ap framed (append_assoc bs (35 ∷ []) more) ∙ came (35 ∷ more) ∙ framed_end bs more

-- ---- bytes behind what is told

-- with more bytes behind
abbrev pub with_more : List ℕ → Option (Told × List ℕ) → Option (Told × List ℕ)
with_more more None = None
with_more more (Some p) = Some (p.0, p.1 ++ more)

closed_pieces : (bs text more : List ℕ) (x : Told) (rest : List ℕ) → closed_by bs text ≡ Some (x, rest) → closed_by bs (text ++ more) ≡ Some (x, rest ++ more)
closed_pieces bs [] more x rest e = absurd cc
closed_pieces bs (high ∷ []) more x rest e = absurd cc
closed_pieces bs (high ∷ low ∷ text) more x rest e = ap (with_more more) e

-- by whether the next byte is `#`
framed_by : (bs : List ℕ) (b : ℕ) (text more : List ℕ) (x : Told) (rest : List ℕ) (t : Bool) → (b == 35) ≡ t →
    (framed_behind (bs ++ b ∷ []) text ≡ Some (x, rest) → framed_behind (bs ++ b ∷ []) (text ++ more) ≡ Some (x, rest ++ more)) →
    framed_behind bs (b ∷ text) ≡ Some (x, rest) → framed_behind bs (b ∷ (text ++ more)) ≡ Some (x, rest ++ more)
framed_by bs b text more x rest true is ih e =
    let here : b ≡ 35 = eqb-true b 35 is in
    ap (λ (c : ℕ). framed_behind bs (c ∷ (text ++ more))) here
    ∙ framed_end bs (text ++ more)
    ∙ closed_pieces bs text more x rest (sym (framed_end bs text) ∙ sym (ap (λ (c : ℕ). framed_behind bs (c ∷ text)) here) ∙ e)
framed_by bs b text more x rest false is ih e = framed_more bs b (text ++ more) is ∙ ih (sym (framed_more bs b text is) ∙ e)

pub framed_pieces : (bs text more : List ℕ) (x : Told) (rest : List ℕ) → framed_behind bs text ≡ Some (x, rest) → framed_behind bs (text ++ more) ≡ Some (x, rest ++ more)
framed_pieces bs [] more x rest e = absurd cc
framed_pieces bs (b ∷ text) more x rest e = framed_by bs b text more x rest (b == 35) refl (framed_pieces (bs ++ b ∷ []) text more x rest) e
