-- What the parts of the parallel phase have of events is what a hart's past has.
use Rattle.std.proofs.Common.{◌≡◌, ℕ, zero, suc, ◌+◌, ◌-◌, ◌<◌, ◌≤◌, ◌==◌, true, List, [], ◌∷◌, ◌++◌, All, length, map, take, slice_get, slice_index, Option, Some, None, is_some, option_map, refl, sym, ap, subst, ◌∙◌, arith}
use Rattle.std.specs.List.{prefix_len}
use Rattle.std.proofs.lemmas.Bool.Decides.{nat_tests}
use Rattle.std.proofs.lemmas.List.Elements.{All-take, All-weaker}
use Rattle.pages.specs.declared.access.Range.{Range}
use Rattle.pages.specs.Memory.{Memory}
use Rattle.round_schedule.specs.declared.event.Event.{Event}
use Rattle.round_schedule.specs.declared.event.Phase.{Phase}
use Rattle.round_schedule.specs.declared.event.Phase.TheVariants.{Parallel, Serial}
use Rattle.round_schedule.specs.Accesses.{place_of}
use Rattle.round_schedule.specs.Past.{before_turn, hart_after, parts_from, turn_of_waiting}
use Rattle.round_schedule.specs.Schedule.{State, began, hart_round_of, hart_rounds}
use Rattle.round_schedule.proofs.PastEnds.{past_is}
use Rattle.round_schedule.proofs.PastParts.{of_first}
use Rattle.round_planner.specs.Quotas.{Planned, quota_of, quotas_of}
use Rattle.hart_step.specs.declared.hart.Hart.{Hart}
use Rattle.hart_step.specs.Console.{ConsoleState}
use Rattle.hart_step.specs.Buffered.{Overlay, seen_through}
use Rattle.hart_step.specs.Words.{words_of}
use Rattle.machine.specs.Machine.{Running}
use Rattle.machine.specs.Untraced.{IsUntraced, Untraced}
use Rattle.moments.proofs.Past.{part_is}
use Rattle.moments.specs.Hits.{harts_in_part}
use Rattle.moments.specs.Pcs.{pc_after, pc_in}
use Rattle.moments.specs.Bytes.{sight_of}
use Rattle.run_events.specs.Parts.{is_of_part, is_parallel, part_of, pc_by_phase, pc_in_parts, pc_of_hart}
use Rattle.run_events.specs.Pcs.{done_by, pc_in_next}
use Rattle.run_events.proofs.StretchByStretch.{front_passes, same_on}

-- ---- the events of one hart's part

by_phase : (u : Untraced) (e : Event) (i : ℕ) (h : Hart) (p : Phase) → is_parallel p e.hart i ≡ true → slice_get u.harts i ≡ Some h → pc_by_phase p u e ≡ pc_in h.done (part_of u i h) e
by_phase u e i h Serial t there = absurd cc
by_phase u e i h Parallel t there =
    let same : e.hart ≡ i = grind (arith, nat_tests, t) in
    ap (λ (j : ℕ). pc_of_hart u e (slice_get u.harts j)) same
    ∙ ap (pc_of_hart u e) there
    ∙ ap (λ (j : ℕ). pc_in h.done (part_of u j h) e) same

of_part : (u : Untraced) (e : Event) (i : ℕ) (h : Hart) → slice_get u.harts i ≡ Some h → is_of_part i e ≡ true → pc_in h.done (part_of u i h) e ≡ pc_in_parts u e
of_part u e i h there t = sym (by_phase u e i h e.phase t there)

pub all_of_part : (u : Untraced) (es : List Event) (i : ℕ) (h : Hart) (n : ℕ) → slice_get u.harts i ≡ Some h → All (λ e. is_of_part i e ≡ true) es → map (pc_in h.done (part_of u i h)) (take n es) ≡ map (pc_in_parts u) (take n es)
all_of_part u es i h n there all =
    same_on (pc_in h.done (part_of u i h)) (pc_in_parts u) (take n es)
    (All-take (λ e. pc_in h.done (part_of u i h) e ≡ pc_in_parts u e) n es
    (All-weaker (λ e. is_of_part i e ≡ true) (λ e. pc_in h.done (part_of u i h) e ≡ pc_in_parts u e) (λ e t. of_part u e i h there t) es all))

pub front_of_part : (i n : ℕ) (es : List Event) → n ≡ prefix_len (is_of_part i) es → All (λ e. is_of_part i e ≡ true) (take n es)
front_of_part i n es e = subst (λ (k : ℕ). All (λ (x : Event). is_of_part i x ≡ true) (take k es)) (sym e) (front_passes (is_of_part i) es)

-- a part by other names of its code, quota and bytes
pub same_part : (code code2 : List Range) (q q2 : ℕ) (h : Hart) (bs bs2 : List ℕ) → code ≡ code2 → q ≡ q2 → bs ≡ bs2 →
    harts_in_part code q (record { hart = h; bytes = bs }) ≡ harts_in_part code2 q2 (record { hart = h; bytes = bs2 })
same_part code code2 q q2 h bs bs2 ec eq eb =
    ap (λ (c : List Range). harts_in_part c q (record { hart = h; bytes = bs })) ec
    ∙ ap (λ (n : ℕ). harts_in_part code2 n (record { hart = h; bytes = bs })) eq
    ∙ ap (λ (b : List ℕ). harts_in_part code2 q2 (record { hart = h; bytes = b })) eb

pub same_quota : (p : Planned) (n i q : ℕ) → q ≡ quota_of p (n + 1) i → q ≡ slice_index (quotas_of p n) i
same_quota p n i q e = let back : (n + 1) - 1 ≡ n = omega arith in e ∙ ap (λ (k : ℕ). slice_index (quotas_of p k) i) back

-- memory by its parts
pub is_memory : (u : Untraced) (m : Memory) → m.bytes ≡ u.bytes → m.code ≡ u.code → m ≡ record { bytes = u.bytes; code = u.code }
is_memory u m eb ec = ap (λ (b : List ℕ). record { bytes = b; code = m.code }) eb ∙ ap (λ (c : List Range). record { bytes = u.bytes; code = c }) ec

-- what is walked over on an empty buffer is the hart's part
pub walk_is : (u : Untraced) (v : Overlay) (mem : Memory) (q i : ℕ) (h : Hart) → v ≡ record { base = mem; bytes = [] } → mem ≡ record { bytes = u.bytes; code = u.code } → q ≡ slice_index (quotas_of u.plan u.rounds) i →
    harts_in_part (seen_through v).code q (sight_of h (seen_through v)) ≡ part_of u i h
walk_is u v mem q i h ev em eq =
    ap (λ (y : Overlay). harts_in_part (seen_through y).code q (sight_of h (seen_through y))) ev
    ∙ ap (λ (n : Memory). harts_in_part n.code q (sight_of h n)) em
    ∙ ap (λ (k : ℕ). harts_in_part u.code k (record { hart = h; bytes = u.bytes })) eq

-- ---- an event that no part has

-- ---- one that a part has

record HasPc (hs : List Hart) (c pc : ℕ) : Type 0 where
  pub within : suc c < length hs
  pub is : option_map (λ (h : Hart). h.pc) (slice_get hs c) ≡ Some pc

has_pc : (hs : List Hart) (c pc : ℕ) → pc_after hs c ≡ Some pc → HasPc hs c pc
has_pc [] c pc e = absurd cc
has_pc (h ∷ []) c pc e = absurd cc
has_pc (h ∷ g ∷ hs) zero pc e = record { within = omega arith; is = e }
has_pc (h ∷ g ∷ hs) (suc c) pc e = let more = has_pc (g ∷ hs) c pc e in record { within = omega (arith, more.within); is = more.is }

-- what its past has there
in_past : (code : List Range) (budget : ℕ) (quotas : ℕ → List ℕ) (s : State Hart ConsoleState) (i c pc : ℕ) (h : Hart) → slice_get s.harts i ≡ Some h →
    pc_after (harts_in_part code (slice_index (quotas s.rounds) i) (record { hart = h; bytes = s.bytes })) c ≡ Some pc →
    option_map (λ (g : Hart). g.pc) (hart_after (words_of code) budget quotas s i c) ≡ Some pc
in_past code budget quotas s i c pc h there e =
    let w = words_of code in
    let quota : ℕ = slice_index (quotas s.rounds) i in
    let begun = before_turn w budget s (hart_rounds w s.bytes (quotas s.rounds) s.harts) i in
    let turn : List Hart = turn_of_waiting w budget begun i (hart_round_of w s.bytes quota h) in
    let part : List Hart = parts_from w s.bytes quota (began h) in
    let has = has_pc part c pc (ap (λ (hs : List Hart). pc_after hs c) (sym (part_is w s.bytes quota (began h))) ∙ e) in
    ap (λ (hs : List Hart). option_map (λ (g : Hart). g.pc) (slice_get hs c)) (past_is w budget quotas s i h there)
    ∙ ap (option_map (λ (g : Hart). g.pc)) (of_first part turn c has.within)
    ∙ has.is

module _ (m : Running) (u : Untraced) (is : IsUntraced m u) where
  same_part_of : (i : ℕ) (h : Hart) → part_of u i h ≡ harts_in_part m.code (slice_index (quotas_of m.plan m.state.rounds) i) (record { hart = h; bytes = m.state.bytes })
  same_part_of i h =
      same_part u.code m.code (slice_index (quotas_of u.plan u.rounds) i) (slice_index (quotas_of m.plan m.state.rounds) i) h u.bytes m.state.bytes is.code
      (ap (λ (p : Planned). slice_index (quotas_of p u.rounds) i) is.plan ∙ ap (λ (n : ℕ). slice_index (quotas_of m.plan n) i) is.rounds) is.bytes

  by_hart : (e : Event) (pc : ℕ) (h : Option Hart) → slice_get u.harts e.hart ≡ h → pc_of_hart u e h ≡ Some pc → pc_in_next m e ≡ Some pc
  by_hart e pc None there f = absurd cc
  by_hart e pc (Some h) there f =
      let here : slice_get m.state.harts e.hart ≡ Some h = ap (λ (hs : List Hart). slice_get hs e.hart) (sym is.harts) ∙ there in
      let did : done_by m.state.harts e.hart ≡ h.done = rw here refl in
      ap (λ (d : ℕ). option_map (λ (g : Hart). g.pc) (hart_after (words_of m.code) m.plan.budget (quotas_of m.plan) m.state e.hart (place_of e.access - d))) did
      ∙ in_past m.code m.plan.budget (quotas_of m.plan) m.state e.hart (place_of e.access - h.done) pc h here (ap (λ (hs : List Hart). pc_after hs (place_of e.access - h.done)) (sym (same_part_of e.hart h)) ∙ f)

  found_by : (e : Event) (pc : ℕ) (p : Phase) → pc_by_phase p u e ≡ Some pc → pc_in_next m e ≡ Some pc
  found_by e pc Serial f = absurd cc
  found_by e pc Parallel f = by_hart e pc (slice_get u.harts e.hart) refl f

  -- it is that of its hart in the round
  pub found_is : (e : Event) (pc : ℕ) → pc_in_parts u e ≡ Some pc → pc_in_next m e ≡ Some pc
  found_is e pc f = found_by e pc e.phase f

pub some_found : (m : Running) (u : Untraced) → IsUntraced m u → (e : Event) (found : Option ℕ) → found ≡ pc_in_parts u e → is_some found ≡ true → found ≡ pc_in_next m e
some_found m u is e None f some = absurd cc
some_found m u is e (Some pc) f some = sym (found_is m u is e pc (sym f))
