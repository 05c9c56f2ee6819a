-- Syntactic dependencies, instruction by instruction of a hart.
use Rattle.std.proofs.Common.{◌≡◌, ◌≢◌, ℕ, ◌+◌, ◌<◌, ◌⊎◌, true, List, sym, ap, ◌∙◌, subst, inl, inr, arith}
use Rattle.std.proofs.lemmas.Bool.{cases_lt, cases_eq}
use Rattle.rv64_decode.specs.declared.instruction.Instr.{Instr}
use Rattle.round_schedule.specs.declared.event.Event.{Event}
use Rattle.round_schedule.specs.Positions.{event}
use Rattle.memory_order.specs.Dependencies.{Depends, IsLastWriter, IsSourceRegister, destination_at, directly, registers_at, through}

pub depends_register : (is : List Instr) (t : List Event) (h j r i : ℕ) → Depends is t h j r i → r ≢ 0
depends_register is t h j r i (directly _ _ _ w) = w.register
depends_register is t h j r i (through _ _ m p _ d c s e) = depends_register is t h j r m d

pub depends_earlier : (is : List Instr) (t : List Event) (h j r i : ℕ) → Depends is t h j r i → i < j
depends_earlier is t h j r i (directly _ _ _ w) = w.earlier
depends_earlier is t h j r i (through _ _ m p _ d c s e) =
    let l = depends_earlier is t h j r m d in
    let k = depends_earlier is t h m p i e in
    omega (arith, l, k)

pub depends_hart : (is : List Instr) (t : List Event) (h j r i : ℕ) → Depends is t h j r i → (event t i).hart ≡ h
depends_hart is t h j r i (directly _ _ _ w) = w.hart
depends_hart is t h j r i (through _ _ m p _ d c s e) = depends_hart is t h m p i e

-- the instruction at j is of another hart, or has another destination than r
abbrev pub Stays : List Instr → List Event → ℕ → ℕ → ℕ → Type 0
Stays is t h j r = (event t j).hart ≡ h → destination_at is t j ≢ r

pub stays_down : (is : List Instr) (t : List Event) (h j k r i : ℕ) → k ≡ j + 1 → Stays is t h j r → Depends is t h k r i → Depends is t h j r i
stays_down is t h j k r i n stays (directly _ _ _ w) = directly j r i (record {
  earlier = elim (cases_eq i j) [
    | inl same ↦ absurd (stays (sym (ap (λ a. (event t a).hart) same) ∙ w.hart) (sym (ap (destination_at is t) same) ∙ w.destination))
    | inr other ↦ omega (arith, w.earlier, other, n)
  ];
  hart = w.hart;
  register = w.register;
  destination = w.destination;
  last = λ a l m. w.last a l (omega (arith, m, n));
})
stays_down is t h j k r i n stays (through _ _ m p _ d c s e) = through j r m p i (stays_down is t h j k r m n stays d) c s e

pub stays_up : (is : List Instr) (t : List Event) (h j r i : ℕ) → Stays is t h j r → Depends is t h j r i → Depends is t h (j + 1) r i
stays_up is t h j r i stays (directly _ _ _ w) = directly (j + 1) r i (record {
  earlier = omega (arith, w.earlier);
  hart = w.hart;
  register = w.register;
  destination = w.destination;
  last = λ a l m s. elim (cases_lt a j) [
    | inl b ↦ w.last a l b s
    | inr b ↦
        let same : a ≡ j = omega (arith, b, m) in
        (λ d. stays (sym (ap (λ x. (event t x).hart) same) ∙ s) (sym (ap (destination_at is t) same) ∙ d))
  ];
})
stays_up is t h j r i stays (through _ _ m p _ d c s e) = through (j + 1) r m p i (stays_up is t h j r m stays d) c s e

-- what a source register of the instruction at j depends on, where it carries it on
abbrev pub Carried_on : List Instr → List Event → ℕ → ℕ → ℕ → Type 0
Carried_on is t h j i = ((registers_at is j).carries ≡ true) × ((p : ℕ) × IsSourceRegister (registers_at is j) p × Depends is t h j p i)

pub new_down : (is : List Instr) (t : List Event) (h j k r i : ℕ) → k ≡ j + 1 → (event t j).hart ≡ h → destination_at is t j ≡ r → Depends is t h k r i →
    (i ≡ j) ⊎ Carried_on is t h j i
new_down is t h j k r i n here d (directly _ _ _ w) = elim (cases_lt i j) [
  | inl l ↦ absurd (w.last j l (omega (arith, n)) here d)
  | inr l ↦ inl (omega (arith, l, w.earlier, n))
]
new_down is t h j k r i n here d (through _ _ m p _ e c s f) = elim (new_down is t h j k r m n here d e) [
  | inl same ↦ inr (
    subst (λ a. (registers_at is a).carries ≡ true) same c,
    (p, subst (λ a. IsSourceRegister (registers_at is a) p) same s, subst (λ a. Depends is t h a p i) same f),
  )
  | inr o ↦ inr (o.0, (o.1.0, o.1.1, through j o.1.0 m p i o.1.2 c s f))
]

pub new_here : (is : List Instr) (t : List Event) (h j r : ℕ) → (event t j).hart ≡ h → destination_at is t j ≡ r → r ≢ 0 → Depends is t h (j + 1) r j
new_here is t h j r here d nonzero = directly (j + 1) r j (record {
  earlier = omega arith;
  hart = here;
  register = nonzero;
  destination = d;
  last = λ a l m. absurd (omega (arith, l, m));
})

pub new_up : (is : List Instr) (t : List Event) (h j r i : ℕ) → (event t j).hart ≡ h → destination_at is t j ≡ r → r ≢ 0 → Carried_on is t h j i → Depends is t h (j + 1) r i
new_up is t h j r i here d nonzero o = through (j + 1) r j o.1.0 i (new_here is t h j r here d nonzero) o.0 o.1.1 o.1.2
