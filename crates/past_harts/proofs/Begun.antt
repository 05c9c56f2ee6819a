-- What a machine without its trace begins a round with.
use Rattle.std.proofs.Common.{◌≡◌, ℕ, zero, suc, ◌<◌, List, [], ◌∷◌, length, get_or, slice_get, Option, Some, sym, ◌∙◌, ap, arith}
use Rattle.pages.specs.declared.access.Range.{Range}
use Rattle.round_planner.specs.Quotas.{Planned, quotas_of}
use Rattle.hart_step.specs.declared.hart.Hart.{Hart}
use Rattle.machine.specs.Machine.{Running}
use Rattle.machine.specs.Untraced.{IsUntraced, Untraced}
use Rattle.past_harts.specs.Begun.{Begun, begun_of}

abbrev pub begun_by : Untraced → List Range → Begun
begun_by u code = record { harts = u.harts; bytes = u.bytes; code = code; quotas = quotas_of u.plan u.rounds }

pub begun_same : (m : Running) (u : Untraced) (code : List Range) → IsUntraced m u → m.code ≡ code → begun_by u code ≡ begun_of m
begun_same m u code is c =
    ap (λ (hs : List Hart). record { harts = hs; bytes = u.bytes; code = code; quotas = quotas_of u.plan u.rounds }) is.harts
    ∙ ap (λ (bs : List ℕ). record { harts = m.state.harts; bytes = bs; code = code; quotas = quotas_of u.plan u.rounds }) is.bytes
    ∙ ap (λ (rs : List Range). record { harts = m.state.harts; bytes = m.state.bytes; code = rs; quotas = quotas_of u.plan u.rounds }) (sym c)
    ∙ ap (λ (p : Planned). record { harts = m.state.harts; bytes = m.state.bytes; code = m.code; quotas = quotas_of p u.rounds }) is.plan
    ∙ ap (λ (n : ℕ). record { harts = m.state.harts; bytes = m.state.bytes; code = m.code; quotas = quotas_of m.plan n }) is.rounds

-- the item that stands at a place
pub got : {A : Type 0} (xs : List A) (i : ℕ) (x d : A) → i < length xs → x ≡ get_or xs i d → slice_get xs i ≡ Some x
got [] i x d lt e = absurd (omega (arith, lt))
got {A} (y ∷ ys) zero x d lt e = let there : A → Option A = λ z. Some z in ap there (sym e)
got (y ∷ ys) (suc i) x d lt e = got ys i x d (omega (arith, lt)) e
