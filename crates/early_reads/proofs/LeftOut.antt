-- Bytes that a set leaves out.
use Rattle.std.proofs.Common.{◌≡◌, ℕ, ◌+◌, ◌≤◌, ◌||◌, Bool, true, false, if◌then◌else◌, List, [], ◌∷◌, Option, Some, refl, sym, ap, ◌∙◌, subst, arith}
use Rattle.std.proofs.lemmas.Bool.Decides.{nat_tests}
use Rattle.pages.specs.Memory.{in_range, width_bytes}
use Rattle.early_reads.specs.declared.early_point.EarlyBytes.{EarlyBytes}
use Rattle.early_reads.specs.declared.early_point.EarlyBytes.TheVariants.{All, Among}
use Rattle.early_reads.specs.declared.early_point.EarlyPoint.{EarlyPoint}
use Rattle.early_reads.specs.declared.early_point.EarlySets.{EarlySets}
use Rattle.early_reads.specs.declared.early_point.LateKinds.{LateKinds}
use Rattle.early_reads.specs.declared.early_point.LoadedBytes.{LoadedBytes}
use Rattle.early_reads.specs.EarlyMaps.{LeavesOut}
use Rattle.early_reads.specs.Checking.{LeavesSome, bytes_among, bytes_by, bytes_in, has_all, has_early, is_loaded, map_of, point_at}

outside : (a n x : ℕ) → a + n ≤ x → in_range a n x ≡ false
outside a n x l = grind (arith, nat_tests)

neither : (a b : Bool) → a ≡ false → b ≡ false → (a || b) ≡ false
neither true b e f = absurd (cc)
neither false b e f = f

-- no load is of a byte past all of them
past_loads : (rs : List LoadedBytes) → (b : ℕ) × ((x : ℕ) → b ≤ x → is_loaded rs x ≡ false)
past_loads [] = (0, λ x l. refl)
past_loads (r ∷ rs) =
    let rest = past_loads rs in
    let n = width_bytes r.width in (
      rest.0 + (r.address + n),
      λ x l. neither (in_range r.address n x) (is_loaded rs x) (outside r.address n x (omega (arith, l))) (rest.1 x (omega (arith, l))),
    )

out_of : (s : EarlyBytes) → has_all s ≡ false → (x : ℕ) × (has_early s x ≡ false)
out_of All e = absurd (cc)
out_of (Among rs) e = let past = past_loads rs.items in (past.0, past.1 past.0 (omega arith))

pub some_load : (s : EarlySets) → has_all s.after_load ≡ false → LeavesSome s
some_load s e owes = let out = out_of s.after_load e in (record { loads = true; stores = false; owes = owes }, refl, out.0, out.1)

pub some_store : (s : EarlySets) → has_all s.after_store ≡ false → LeavesSome s
some_store s e owes = let out = out_of s.after_store e in (record { loads = false; stores = true; owes = owes }, refl, out.0, out.1)

pub some_both : (s : EarlySets) → has_all s.after_both ≡ false → LeavesSome s
some_both s e owes = let out = out_of s.after_both e in (record { loads = true; stores = true; owes = owes }, refl, out.0, out.1)

abbrev pub Opens : EarlyPoint → Type 0
Opens p = (l : LateKinds) × (x : ℕ) × (has_early (bytes_by l p) x ≡ false)

by_owes : (p : EarlyPoint) (l : LateKinds) (x : ℕ) (c : Bool) → l.owes ≡ c → has_early (if c then bytes_among l p.owing else bytes_among l p.paid) x ≡ false →
    has_early (bytes_by l p) x ≡ false
by_owes p l x c e out = subst (λ (d : Bool). has_early (if d then bytes_among l p.owing else bytes_among l p.paid) x ≡ false) (sym e) out

pub opens_paid : (p : EarlyPoint) → LeavesSome p.paid → Opens p
opens_paid p some = let out = some false in (out.0, out.2, by_owes p out.0 out.2 false out.1 out.3)

pub opens_owing : (p : EarlyPoint) → LeavesSome p.owing → Opens p
opens_owing p some = let out = some true in (out.0, out.2, by_owes p out.0 out.2 true out.1 out.3)

pub leaves_there : (ps : List EarlyPoint) (pc : ℕ) (p : EarlyPoint) → point_at ps pc ≡ Some p → Opens p → LeavesOut (map_of ps) pc
leaves_there ps pc p e out = (out.0, out.1, ap (λ (o : Option EarlyPoint). bytes_in out.0 o out.1) e ∙ out.2)
