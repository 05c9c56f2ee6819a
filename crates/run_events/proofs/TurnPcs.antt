-- The pcs of events by the harts along their turns.
use Rattle.std.proofs.Common.{◌≡◌, ℕ, zero, suc, ◌-◌, ◌<◌, ◌≤◌, ◌^◌, List, [], ◌∷◌, length, get_or, map, slice_get, slice_index, Option, Some, None, is_some, Bool, true, option_map, refl, sym, ap, subst, ◌∙◌, ◌+◌, arith}
use Rattle.std.specs.List.{list_all}
use Rattle.std.proofs.lemmas.Option.{slice_get-map}
use Rattle.round_schedule.specs.declared.event.Event.{Event}
use Rattle.round_schedule.specs.Accesses.{place_of}
use Rattle.round_schedule.specs.Past.{hart_after}
use Rattle.round_planner.specs.Quotas.{Planned, quota_of, quotas_of}
use Rattle.hart_step.specs.declared.hart.Hart.{Hart}
use Rattle.hart_step.specs.Numbers.{minus}
use Rattle.hart_step.specs.Words.{words_of}
use Rattle.machine.specs.Machine.{Running}
use Rattle.guest_turns.specs.TurnHarts.{turns_in_round}
use Rattle.machine.specs.Untraced.{IsUntraced, Untraced}
use Rattle.guest_turns.proofs.TurnHartsAsked.{hart_in_turn}
use Rattle.run_events.specs.Parts.{pc_in_parts}
use Rattle.run_events.specs.Pcs.{done_by, pc_in_next}
use Rattle.run_events.proofs.InParts.{same_quota, some_found}

pub turn_pc : (m : Running) (u : Untraced) (e : Event) (lists : List (List Hart)) (h g : Hart) (xs : List Hart) (count begun : ℕ) (pc : Option ℕ) → IsUntraced m u → slice_get u.harts e.hart ≡ Some h → h.done < 2 ^ 64 →
    slice_index (quotas_of m.plan m.state.rounds) e.hart ≤ 1000000 → lists ≡ turns_in_round (words_of m.code) m.plan.budget (quotas_of m.plan) m.state → slice_get lists e.hart ≡ Some xs → slice_get xs 0 ≡ Some g →
    begun ≡ minus g.done h.done → count ≡ place_of e.access - h.done → begun ≤ count → pc ≡ option_map (λ (x : Hart). x.pc) (slice_get xs (count - begun)) → pc ≡ pc_in_next m e
turn_pc m u e lists h g xs count begun pc is there low few turns at_i at_first eb ec le p =
    let here : slice_get m.state.harts e.hart ≡ Some h = ap (λ (hs : List Hart). slice_get hs e.hart) (sym is.harts) ∙ there in
    let did : done_by m.state.harts e.hart ≡ h.done = rw here refl in
    let after = hart_in_turn m.code m.plan.budget (quotas_of m.plan) m.state e.hart count h g xs here low few (ap (λ (ls : List (List Hart)). slice_get ls e.hart) (sym turns) ∙ at_i) at_first (omega (arith, eb, le)) in
    p
    ∙ ap (option_map (λ (x : Hart). x.pc))
    (ap (λ (n : ℕ). slice_get xs (count - n)) eb
    ∙ sym after
    ∙ ap (hart_after (words_of m.code) m.plan.budget (quotas_of m.plan) m.state e.hart) (ec ∙ ap (λ (d : ℕ). place_of e.access - d) (sym did)))

-- ---- where the parts have all

abbrev pub is_found : Option ℕ → Bool
is_found x = is_some x

found_first : (f g : Event → Option ℕ) (e : Event) (es : List Event) (x : Option ℕ) → f e ≡ x → list_all is_found (map f (e ∷ es)) ≡ true → ((d : Event) (pc : ℕ) → f d ≡ Some pc → g d ≡ Some pc) →
    (list_all is_found (map f es) ≡ true → map f es ≡ map g es) → map f (e ∷ es) ≡ map g (e ∷ es)
found_first f g e es None h t same ih = absurd (cc (rw h at t))
found_first f g e es (Some pc) h t same ih =
    let more : list_all is_found (map f es) ≡ true = rw h at t in
    ap (λ z. z ∷ map f es) (h ∙ sym (same e pc h)) ∙ ap (λ z. g e ∷ z) (ih more)

pub all_found : (f g : Event → Option ℕ) (es : List Event) → list_all is_found (map f es) ≡ true → ((d : Event) (pc : ℕ) → f d ≡ Some pc → g d ≡ Some pc) → map f es ≡ map g es
all_found f g [] t same = refl
all_found f g (e ∷ es) t same = found_first f g e es (f e) refl t same (λ more. all_found f g es more same)

pub all_told : (m : Running) (u : Untraced) (es : List Event) (found : List (Option ℕ)) → IsUntraced m u → found ≡ map (pc_in_parts u) es → list_all is_found found ≡ true → found ≡ map (pc_in_next m) es
all_told m u es found is f t =
    f ∙ all_found (pc_in_parts u) (pc_in_next m) es (ap (list_all is_found) (sym f) ∙ t) (λ d pc h. sym (some_found m u is d (Some pc) (sym h) refl))

-- ---- the harts along a turn, by what is looked up

pub got : {A : Type 0} (xs : List A) (n : ℕ) (x : A) → n < length xs → x ≡ get_or xs n x → slice_get xs n ≡ Some x
got [] n x lt e = absurd (omega (arith, lt))
got (y ∷ ys) zero x lt e = ap Some (sym e)
got (y ∷ ys) (suc n) x lt e = got ys n x (omega (arith, lt)) e

pub got_items : {A B : Type 0} (f : A → B) (xs : List A) (i : ℕ) (x : A) → slice_get xs i ≡ Some x → slice_get (map f xs) i ≡ Some (f x)
got_items f xs i x e = slice_get-map f xs i ∙ ap (option_map f) e

few_of : (m : Running) (u : Untraced) → IsUntraced m u → (p : Planned) (n i j q : ℕ) → q ≡ quota_of p (n + 1) i → p ≡ u.plan → n ≡ u.rounds → i ≡ j → q ≤ 1000000 → slice_index (quotas_of m.plan m.state.rounds) j ≤ 1000000
few_of m u is p n i j q e ep en ei le =
    let same : q ≡ slice_index (quotas_of m.plan m.state.rounds) j =
    same_quota p n i q e
    ∙ ap (λ (r : Planned). slice_index (quotas_of r n) i) (ep ∙ is.plan)
    ∙ ap (λ (k : ℕ). slice_index (quotas_of m.plan k) i) (en ∙ is.rounds)
    ∙ ap (λ (k : ℕ). slice_index (quotas_of m.plan m.state.rounds) k) ei in
    subst (λ (k : ℕ). k ≤ 1000000) same le

pub along : (m : Running) (u : Untraced) → IsUntraced m u → (e : Event) (hs : List Hart) (lists : List (List Hart)) (xs ys zs : List Hart) (h g : Hart) (n place count begun : ℕ) (p : Planned) (rounds i q : ℕ) (pc : Option ℕ) →
    hs ≡ u.harts → n ≡ e.hart → slice_get hs n ≡ Some h → lists ≡ turns_in_round (words_of m.code) m.plan.budget (quotas_of m.plan) m.state → slice_get lists n ≡ Some xs →
    ys ≡ xs → Some g ≡ slice_get ys 0 → begun ≡ minus g.done h.done → h.done < 2 ^ 64 → count ≡ place - h.done → place ≡ place_of e.access → begun ≤ count →
    zs ≡ xs → pc ≡ option_map (λ (x : Hart). x.pc) (slice_get zs (count - begun)) →
    q ≡ quota_of p (rounds + 1) i → p ≡ u.plan → rounds ≡ u.rounds → i ≡ e.hart → q ≤ 1000000 → pc ≡ pc_in_next m e
along m u is e hs lists xs ys zs h g n place count begun p rounds i q pc ehs en at turns at_list eys first eb low ec ep le ezs is_pc eq eplan erounds ei few =
    turn_pc m u e lists h g xs count begun pc is
    (subst (λ (k : ℕ). slice_get u.harts k ≡ Some h) en (subst (λ (l : List Hart). slice_get l n ≡ Some h) ehs at))
    low
    (few_of m u is p rounds i e.hart q eq eplan erounds ei few)
    turns
    (subst (λ (k : ℕ). slice_get lists k ≡ Some xs) en at_list)
    (ap (λ (l : List Hart). slice_get l 0) (sym eys) ∙ sym first)
    eb
    (ec ∙ ap (λ (k : ℕ). k - h.done) ep)
    le
    (is_pc ∙ ap (λ (l : List Hart). option_map (λ (x : Hart). x.pc) (slice_get l (count - begun))) ezs)
