-- A map is right where it is so at each of its points.
use Rattle.std.proofs.Common.{◌≡◌, ℕ, suc, ◌<◌, ◌==◌, ◌⊎◌, Bool, true, false, if◌then◌else◌, inl, inr, List, [], ◌∷◌, length, get_or, Option, Some, None, refl, sym, ap, ◌∙◌, subst, arith}
use Rattle.std.proofs.lemmas.Bool.{eqb-true}
use Rattle.pages.specs.Memory.{Memory}
use Rattle.rv64_decode.specs.declared.instruction.Instr.{Instr}
use Rattle.all_endings.specs.RunStates.{Move, RunState}
use Rattle.early_reads.specs.declared.early_point.EarlyPoint.{EarlyPoint}
use Rattle.early_reads.specs.declared.early_point.LateKinds.{LateKinds}
use Rattle.early_reads.specs.Checking.{HoldsOrAll, IsRightAt, bytes_by, bytes_in, constants_in, has_early, map_of, point_at}
use Rattle.early_reads.specs.EarlyMaps.{Agrees, HoldsAlong, IsRight}

-- what is said of each kind of late operations, of a hart that owes stores, or of one that owes none
pub by_kinds : (P : LateKinds → Type 0) (owes : Bool) → P (record { loads = true; stores = true; owes = owes }) → P (record { loads = true; stores = false; owes = owes }) →
    P (record { loads = false; stores = true; owes = owes }) → P (record { loads = false; stores = false; owes = owes }) → (l : LateKinds) → l.owes ≡ owes → P l
by_kinds P owes both load store none l e = subst (λ (c : Bool). P (record { loads = l.loads; stores = l.stores; owes = c })) (sym e) (by_bools l.loads l.stores)
  where
    by_bools : (a b : Bool) → P (record { loads = a; stores = b; owes = owes })
    by_bools true true = both
    by_bools true false = load
    by_bools false true = store
    by_bools false false = none

pub by_owing : (P : LateKinds → Type 0) → ((l : LateKinds) → l.owes ≡ false → P l) → ((l : LateKinds) → l.owes ≡ true → P l) → (l : LateKinds) → P l
by_owing P pays owing l = by_test l.owes refl
  where
    by_test : (c : Bool) → l.owes ≡ c → P l
    by_test true e = owing l e
    by_test false e = pays l e

-- where nothing is late, all bytes may be loaded
pub none_late : (owes : Bool) (p : EarlyPoint) (x : ℕ) → has_early (bytes_by (record { loads = false; stores = false; owes = owes }) p) x ≡ true
none_late true p x = refl
none_late false p x = refl

pub same_instruction : (i j : Instr) (o : Option Instr) → o ≡ Some i → o ≡ Some j → i ≡ j
same_instruction i j o e f = cc

record Found (ps : List EarlyPoint) (pc : ℕ) (p : EarlyPoint) : Type 0 where
  index : ℕ
  within : index < length ps
  is : get_or ps index p ≡ p
  at : p.pc ≡ pc

found : (ps : List EarlyPoint) (pc : ℕ) (p : EarlyPoint) → point_at ps pc ≡ Some p → Found ps pc p
found [] pc p e = absurd (cc)
found (q ∷ ps) pc p e = by_test (q.pc == pc) refl e (λ f. found ps pc p f)
  where
    by_test : (b : Bool) → (q.pc == pc) ≡ b → (if b then Some q else point_at ps pc) ≡ Some p → (point_at ps pc ≡ Some p → Found ps pc p) → Found (q ∷ ps) pc p
    by_test true at e rest =
        let same : q ≡ p = cc in
        record { index = 0; within = omega arith; is = same; at = subst (λ (r : EarlyPoint). r.pc ≡ pc) same (eqb-true q.pc pc at) }
    by_test false at e rest = let f = rest e in record { index = suc f.index; within = (let w = f.within in omega (arith, w)); is = f.is; at = f.at }

module _ (ps : List EarlyPoint) (owns : ℕ → ℕ → Bool) (h : ℕ) (l : LateKinds) (a : RunState) (v : Move) where
  abbrev Right : Type 0
  Right = ((x : ℕ) → (map_of ps).bytes l a.pc x ≡ true) ⊎ HoldsAlong (map_of ps) owns h l a v

  nothing_there : point_at ps a.pc ≡ None → Right
  nothing_there e = inl (λ x. ap (λ (o : Option EarlyPoint). bytes_in l o x) e)

  there : (p : EarlyPoint) → point_at ps a.pc ≡ Some p → HoldsOrAll ps owns h p l a v → Right
  there p e (inl all) = inl (λ x. ap (λ (o : Option EarlyPoint). bytes_in l o x) e ∙ all x)
  there p e (inr holds) = inr (record {
    constants = holds.constants;
    reads = λ x loading dry other on. ap (λ (o : Option EarlyPoint). bytes_in l o x) e ∙ holds.reads x loading dry other on;
    leads = λ x left told. ap (λ (o : Option EarlyPoint). bytes_in l o x) e ∙ holds.leads x left told;
  })

pub right_all : (ps : List EarlyPoint) (owns : ℕ → ℕ → Bool) (image : Memory) (h : ℕ) →
    ((k : ℕ) (d : EarlyPoint) → k < length ps → (l : LateKinds) → IsRightAt ps owns image h (get_or ps k d) l) → IsRight (map_of ps) owns image h
right_all ps owns image h each l m opening a v dec acting agrees = by_point (point_at ps a.pc) refl
  where
    by_point : (o : Option EarlyPoint) → point_at ps a.pc ≡ o → Right ps owns h l a v
    by_point None e = nothing_there ps owns h l a v e
    by_point (Some p) e =
        let f = found ps a.pc p e in
        let right : IsRightAt ps owns image h p l = subst (λ (q : EarlyPoint). IsRightAt ps owns image h q l) f.is (each f.index p f.within l) in
        there ps owns h l a v p e
        (right m opening a v (sym f.at) dec acting (subst (λ (o : Option EarlyPoint). Agrees (constants_in o) a.registers) e agrees))
