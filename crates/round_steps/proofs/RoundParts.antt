-- The parts of a round, as they are walked over.
use Rattle.std.proofs.Common.{◌≡◌, ℕ, zero, suc, ◌+◌, ◌-◌, ◌<◌, ◌==◌, ◌||◌, false, cond, List, [], ◌∷◌, ◌++◌, length, get_or, inl, inr, length-append, add-one, slice_get, slice_index, is_some, Option, Some, None, refl, sym, ◌∙◌, ap, arith}
use Rattle.std.specs.Prelude.{◌⊎◌}
use Rattle.std.proofs.Math.ListN.{get_or-append}
use Rattle.std.proofs.Math.Seq.{get_or-append_seam}
use Rattle.std.proofs.lemmas.Bool.{cases_eq}
use Rattle.pages.specs.declared.access.Range.{Range}
use Rattle.round_schedule.specs.Past.{last_of}
use Rattle.round_planner.specs.Quotas.{Planned, quota_of, quotas_of}
use Rattle.hart_step.specs.declared.hart.Hart.{Hart}
use Rattle.moments.specs.Hits.{harts_in_part}
use Rattle.moments.specs.declared.asked.Asked.{Asked}
use Rattle.past_harts.specs.declared.place.Place.{Place}
use Rattle.past_harts.specs.Begun.{Begun}
use Rattle.past_harts.proofs.Begun.{got}
use Rattle.round_steps.specs.Places.{parallel_places, part_places, turn_at, turn_comes, turns_of}

get_or-append_seam_at : {A : Type 0} (xs : List A) (x : A) (i : ℕ) (d : A) → i ≡ length xs → get_or (xs ++ x ∷ []) i d ≡ x
get_or-append_seam_at xs x i d e = ap (λ (k : ℕ). get_or (xs ++ x ∷ []) k d) e ∙ get_or-append_seam xs x [] d

-- where a part ended as g after so many
pub turn_is : (quota done : ℕ) (h g : Hart) (part : List Hart) (t : Option ℕ) → is_some h.stop ≡ false → last_of part ≡ Some g → length part ≡ done + 1 →
    t ≡ cond (is_some g.stop || (done == quota)) None (Some done) → t ≡ turn_comes quota h part
turn_is quota done h g part t hs last size e =
    let n : length part - 1 ≡ done = omega (arith, size) in
    rw (hs, last, n) e

-- a part by other names of its code, quota and bytes
pub same_part : (code code2 : List Range) (q q2 : ℕ) (h : Hart) (bs bs2 : List ℕ) → code ≡ code2 → q ≡ q2 → bs ≡ bs2 →
    harts_in_part code q (record { hart = h; bytes = bs }) ≡ harts_in_part code2 q2 (record { hart = h; bytes = bs2 })
same_part code code2 q q2 h bs bs2 ec eq eb =
    ap (λ (c : List Range). harts_in_part c q (record { hart = h; bytes = bs })) ec
    ∙ ap (λ (n : ℕ). harts_in_part code2 n (record { hart = h; bytes = bs })) eq
    ∙ ap (λ (b : List ℕ). harts_in_part code2 q2 (record { hart = h; bytes = b })) eb

pub same_quota : (p : Planned) (n i q : ℕ) → q ≡ quota_of p (n + 1) i → q ≡ slice_index (quotas_of p n) i
same_quota p n i q e = let back : (n + 1) - 1 ≡ n = omega arith in e ∙ ap (λ (k : ℕ). slice_index (quotas_of p k) i) back

pub no_parts : (a : Asked) (b : Begun) (xs : List Place) → xs ≡ [] → xs ≡ parallel_places a b 0
unfolding parallel_places
no_parts a b xs e = e

pub no_turns : (b : Begun) (xs : List (Option ℕ)) → xs ≡ [] → xs ≡ turns_of b 0
unfolding turns_of
no_turns b xs e = e

-- ---- turns, hart by hart

turns_size : (b : Begun) (n : ℕ) → length (turns_of b n) ≡ n
unfolding turns_of
turns_size b zero = refl
turns_size b (suc n) = omega (arith, turns_size b n, length-append (turns_of b n) (turn_at b n (slice_get b.harts n) ∷ []))

turn_by : (b : Begun) (n i : ℕ) (d : Option ℕ) → (i ≡ n) ⊎ (i ≡ n → ⊥) → i < suc n → (i < n → get_or (turns_of b n) i d ≡ turn_at b i (slice_get b.harts i)) → get_or (turns_of b (suc n)) i d ≡ turn_at b i (slice_get b.harts i)
unfolding turns_of
turn_by b n i d (inl e) lt ih =
    let here : i ≡ length (turns_of b n) = omega (arith, e, turns_size b n) in
    get_or-append_seam_at (turns_of b n) (turn_at b n (slice_get b.harts n)) i d here ∙ ap (λ (k : ℕ). turn_at b k (slice_get b.harts k)) (sym e)
turn_by b n i d (inr ne) lt ih =
    let less : i < length (turns_of b n) = omega (arith, lt, ne, turns_size b n) in
    get_or-append (turns_of b n) (turn_at b n (slice_get b.harts n) ∷ []) d i less ∙ ih (omega (arith, lt, ne))

pub turns_at : (b : Begun) (n i : ℕ) (d : Option ℕ) → i < n → get_or (turns_of b n) i d ≡ turn_at b i (slice_get b.harts i)
turns_at b zero i d lt = absurd (omega (arith, lt))
turns_at b (suc n) i d lt = turn_by b n i d (cases_eq i n) lt (turns_at b n i d)

pub turns_count : (b : Begun) (n k : ℕ) (ts : List (Option ℕ)) → ts ≡ turns_of b n → k ≡ length ts → k ≡ n
turns_count b n k ts e f = f ∙ ap length e ∙ turns_size b n

-- one more part
pub parallel_more : (a : Asked) (b : Begun) (i : ℕ) (h d : Hart) (old new more : List Place) → i < length b.harts → h ≡ get_or b.harts i d → old ≡ parallel_places a b i → new ≡ old ++ more → more ≡ part_places a b i (Some h) →
    new ≡ parallel_places a b (i + 1)
unfolding parallel_places
parallel_more a b i h d old new more lt is eo en em =
    en
    ∙ ap (λ (xs : List Place). xs ++ more) eo
    ∙ ap (λ (xs : List Place). parallel_places a b i ++ xs) em
    ∙ ap (λ (o : Option Hart). parallel_places a b i ++ part_places a b i o) (sym (got b.harts i h d lt is))
    ∙ ap (parallel_places a b) (sym (add-one i))

pub turns_more : (b : Begun) (i : ℕ) (h d : Hart) (old new : List (Option ℕ)) (t : Option ℕ) → i < length b.harts → h ≡ get_or b.harts i d → old ≡ turns_of b i → new ≡ old ++ t ∷ [] → t ≡ turn_at b i (Some h) → new ≡ turns_of b (i + 1)
unfolding turns_of
turns_more b i h d old new t lt is eo en et =
    en
    ∙ ap (λ (xs : List (Option ℕ)). xs ++ t ∷ []) eo
    ∙ ap (λ (u : Option ℕ). turns_of b i ++ u ∷ []) et
    ∙ ap (λ (o : Option Hart). turns_of b i ++ turn_at b i o ∷ []) (sym (got b.harts i h d lt is))
    ∙ ap (turns_of b) (sym (add-one i))
