-- A walk over a hart's part, hart by hart, and where something is told.
use Rattle.std.proofs.Common.{◌≡◌, ℕ, zero, suc, ◌+◌, ◌-◌, ◌<◌, ◌≤◌, Bool, true, false, cond, ◌&&◌, List, [], ◌∷◌, ◌++◌, length, Option, None, is_some, refl, sym, ◌∙◌, ap, arith, append_assoc, append-nil, add-one}
use Rattle.std.proofs.lemmas.List.{length-map}
use Rattle.pages.specs.declared.access.Range.{Range}
use Rattle.pages.specs.Memory.{Memory, stored}
use Rattle.round_schedule.specs.declared.access.Access.{Access}
use Rattle.round_schedule.specs.declared.access.Stepped.{Stepped}
use Rattle.round_schedule.specs.declared.access.Stepped.TheVariants.{Done, Waits, Stopped}
use Rattle.round_schedule.specs.Past.{last_of}
use Rattle.round_schedule.specs.Schedule.{StepOutcome, Words}
use Rattle.rv64_decode.specs.declared.instruction.Instr.{Instr}
use Rattle.hart_step.specs.declared.hart.Hart.{Hart}
use Rattle.hart_step.specs.DecodedCode.{Shows}
use Rattle.hart_step.specs.Step.{stepped}
use Rattle.hart_step.specs.Words.{words_of}
use Rattle.hart_step.proofs.Shown.{shows_step}
use Rattle.moments.specs.Sights.{Sight, next_seen, part_by, part_sights}
use Rattle.moments.specs.Hits.{Walked, harts_in_part, harts_of, hits_from, is_moment}
use Rattle.moments.specs.Bytes.{sight_of}
use Rattle.moments.proofs.Walked.{is_next, suc_left}

abbrev pub rest : List Range → ℕ → Hart → Memory → List Hart
rest code n h m = harts_in_part code n (sight_of h m)

-- ---- the rest, by the next instruction

by_outcome : {H C : Type 0} (w : Words H C) (n : ℕ) (s : Sight H) (o : StepOutcome H) → next_seen w s ≡ o → w.stopped s.hart ≡ false → part_sights w (suc n) s ≡ part_by o.answer s o (part_sights w n)
unfolding part_sights
by_outcome w n s o e hs = rw (hs, e) refl

pub rest_by : (code : List Range) (n : ℕ) (h : Hart) (m : Memory) (a : Stepped) → m.code ≡ code → h.stop ≡ None → (stepped h m).answer ≡ a →
    rest code (suc n) h m ≡ harts_of (part_by a (sight_of h m) (stepped h m) (part_sights (words_of code) n))
rest_by code n h m a e hs ha =
    ap harts_of (by_outcome (words_of code) n (sight_of h m) (stepped h m) (is_next code h m e) (ap is_some hs))
    ∙ ap (λ (x : Stepped). harts_of (part_by x (sight_of h m) (stepped h m) (part_sights (words_of code) n))) ha

pub rest_none : (code : List Range) (h : Hart) (m : Memory) → rest code 0 h m ≡ h ∷ []
unfolding part_sights
rest_none code h m = refl

pub rest_stopped : (code : List Range) (n : ℕ) (h : Hart) (m : Memory) → is_some h.stop ≡ true → rest code n h m ≡ h ∷ []
unfolding part_sights
rest_stopped code zero h m hs = refl
rest_stopped code (suc n) h m hs = rw hs refl

-- ---- there is always a hart at the end

one_more : {H C : Type 0} (w : Words H C) (n : ℕ) (s : Sight H) (stopped : Bool) (a : Stepped) → w.stopped s.hart ≡ stopped → (next_seen w s).answer ≡ a → 1 ≤ length (part_sights w (suc n) s)
unfolding part_sights
one_more w n s true a hs ha = rw hs (omega arith)
one_more w n s false Waits hs ha = rw (hs, ha) (omega arith)
one_more w n s false (Stopped code) hs ha = rw (hs, ha) (omega arith)
one_more w n s false (Done a) hs ha = rw (hs, ha) (omega arith)

some_sight : {H C : Type 0} (w : Words H C) (n : ℕ) (s : Sight H) → 1 ≤ length (part_sights w n s)
unfolding part_sights
some_sight w zero s = omega arith
some_sight w (suc n) s = one_more w n s (w.stopped s.hart) (next_seen w s).answer refl refl

pub some_rest : (code : List Range) (n : ℕ) (h : Hart) (m : Memory) → 1 ≤ length (rest code n h m)
some_rest code n h m = omega (arith, some_sight (words_of code) n (sight_of h m), length-map (part_sights (words_of code) n (sight_of h m)) (λ (x : Sight Hart). x.hart))

pub is_before : (h : Hart) (hs : List Hart) → 1 ≤ length hs → is_moment h hs ≡ true
is_before h [] le = absurd (omega (arith, le))
is_before h (g ∷ gs) le = refl

pub last_more : (h : Hart) (hs : List Hart) → 1 ≤ length hs → last_of (h ∷ hs) ≡ last_of hs
last_more h [] le = absurd (omega (arith, le))
last_more h (g ∷ gs) le = refl

-- a hart before which something may be told
noted : (f : Hart → Bool) (k : ℕ) (h : Hart) (hs : List Hart) (t : Bool) (old new : List ℕ) → 1 ≤ length hs → f h ≡ t → new ≡ cond t (old ++ k ∷ []) old →
    old ++ hits_from f k (h ∷ hs) ≡ new ++ hits_from f (k + 1) hs
noted f k h hs true old new le ht e =
    rw (is_before h hs le, ht) (
    sym (append_assoc old (k ∷ []) (hits_from f (suc k) hs))
    ∙ ap (λ (xs : List ℕ). xs ++ hits_from f (suc k) hs) (sym e)
    ∙ ap (λ (n : ℕ). new ++ hits_from f n hs) (sym (add-one k)))
noted f k h hs false old new le ht e =
    rw (is_before h hs le, ht) (
    ap (λ (xs : List ℕ). xs ++ hits_from f (suc k) hs) (sym e)
    ∙ ap (λ (n : ℕ). new ++ hits_from f n hs) (sym (add-one k)))

-- the last hart, at which something may be told
pub end_noted : (f : Hart → Bool) (k : ℕ) (h : Hart) (t : Bool) (old new : List ℕ) → (is_moment h [] && f h) ≡ t → new ≡ cond t (old ++ k ∷ []) old → new ≡ old ++ hits_from f k (h ∷ [])
end_noted f k h true old new ht e = rw ht e
end_noted f k h false old new ht e = rw ht (e ∙ sym (append-nil old))

-- ---- the walk

-- k instructions were done, and these counts tell something
pub record On (f : Hart → Bool) (m₀ : Memory) (h₀ : Hart) (quota first : ℕ) (words : List Instr) (counts : List ℕ) (k : ℕ) (m : Memory) (h : Hart) : Type 0 where
  pub code : m.code ≡ m₀.code
  pub within : k ≤ quota
  pub shows : Shows m first words
  pub hits : hits_from f 0 (rest m₀.code quota h₀ m₀) ≡ counts ++ hits_from f k (rest m₀.code (quota - k) h m)
  pub size : length (rest m₀.code quota h₀ m₀) ≡ k + length (rest m₀.code (quota - k) h m)
  pub end : last_of (rest m₀.code quota h₀ m₀) ≡ last_of (rest m₀.code (quota - k) h m)

pub begins : (f : Hart → Bool) (m : Memory) (h : Hart) (quota first : ℕ) (words : List Instr) (counts : List ℕ) → Shows m first words → counts ≡ [] → On f m h quota first words counts 0 m h
begins f m h quota first words counts s none =
    let all : quota - 0 ≡ quota = omega arith in
    record {
      code = refl;
      within = omega arith;
      shows = s;
      hits = ap (λ (n : ℕ). hits_from f 0 (rest m.code n h m)) (sym all) ∙ ap (λ (xs : List ℕ). xs ++ hits_from f 0 (rest m.code (quota - 0) h m)) (sym none);
      size = (let same : length (rest m.code quota h m) ≡ length (rest m.code (quota - 0) h m) = ap (λ (n : ℕ). length (rest m.code n h m)) (sym all) in omega (arith, same));
      end = ap (λ (n : ℕ). last_of (rest m.code n h m)) (sym all);
    }

module _ (f : Hart → Bool) (m₀ : Memory) (h₀ : Hart) (quota first : ℕ) (words : List Instr) (counts : List ℕ) (k : ℕ) (m : Memory) (h : Hart) (on : On f m₀ h₀ quota first words counts k m h) where
  abbrev all : List Hart
  all = rest m₀.code quota h₀ m₀

  abbrev left : List Hart
  left = rest m₀.code (quota - k) h m

  finished : (g : Hart) → left ≡ g ∷ [] → Walked f all counts k g
  finished g e = record {
    hits = on.hits ∙ ap (λ (hs : List Hart). counts ++ hits_from f k hs) e;
    size = on.size ∙ ap (λ (hs : List Hart). k + length hs) e;
    end = on.end ∙ ap last_of e;
  }

  pub at_end : quota ≤ k → Walked f all counts k h
  at_end le =
      let z : quota - k ≡ 0 = omega (arith, le) in
      finished h (ap (λ (n : ℕ). rest m₀.code n h m) z ∙ rest_none m₀.code h m)

  pub is_stopped : is_some h.stop ≡ true → Walked f all counts k h
  is_stopped hs = finished h (rest_stopped m₀.code (quota - k) h m hs)

  here : (x : Stepped) → k < quota → h.stop ≡ None → (stepped h m).answer ≡ x →
      left ≡ harts_of (part_by x (sight_of h m) (stepped h m) (part_sights (words_of m₀.code) (quota - (k + 1))))
  here x lt hs ha = ap (λ (n : ℕ). rest m₀.code n h m) (suc_left quota k lt) ∙ rest_by m₀.code (quota - (k + 1)) h m x on.code hs ha

  pub waits : (h₁ : Hart) → k < quota → h.stop ≡ None → (stepped h m).answer ≡ Waits → h₁ ≡ (stepped h m).hart → Walked f all counts k h₁
  waits h₁ lt hs ha e = finished h₁ (here Waits lt hs ha ∙ ap (λ (g : Hart). g ∷ []) (sym e))

  pub stops : (code : ℕ) (h₁ : Hart) → k < quota → h.stop ≡ None → (stepped h m).answer ≡ Stopped code → h₁ ≡ (stepped h m).hart → Walked f all counts k h₁
  stops code h₁ lt hs ha e = finished h₁ (here (Stopped code) lt hs ha ∙ ap (λ (g : Hart). g ∷ []) (sym e))

  pub goes_on : (x : Option Access) (t : Bool) (m₁ : Memory) (h₁ : Hart) (new : List ℕ) → k < quota → h.stop ≡ None → (stepped h m).answer ≡ Done x → f h ≡ t →
      new ≡ cond t (counts ++ k ∷ []) counts → h₁ ≡ (stepped h m).hart → m₁ ≡ stored m (stepped h m).stores → On f m₀ h₀ quota first words new (k + 1) m₁ h₁
  goes_on x t m₁ h₁ new lt hs ha ht e he me =
      let n : ℕ = quota - (k + 1) in
      let next : left ≡ h ∷ rest m₀.code n h₁ m₁ =
      here (Done x) lt hs ha
      ∙ ap (λ (g : Hart). h ∷ rest m₀.code n g (stored m (stepped h m).stores)) (sym he)
      ∙ ap (λ (z : Memory). h ∷ rest m₀.code n h₁ z) (sym me) in
      let some = some_rest m₀.code n h₁ m₁ in
      record {
        code = ap (λ (z : Memory). z.code) me ∙ on.code;
        within = omega (arith, lt);
        shows = shows_step m m₁ h first words me on.shows;
        hits = on.hits ∙ ap (λ (hs : List Hart). counts ++ hits_from f k hs) next ∙ noted f k h (rest m₀.code n h₁ m₁) t counts new some ht e;
        size = on.size ∙ ap (λ (hs : List Hart). k + length hs) next ∙ omega arith;
        end = on.end ∙ ap last_of next ∙ last_more h (rest m₀.code n h₁ m₁) some;
      }
