-- Traces that grow at their end: the last write of a byte, and the byte that it leaves.
use Rattle.std.proofs.Common.{◌≡◌, ℕ, ◌+◌, ◌<◌, ◌≤◌, ◌&&◌, Bool, true, false, if◌then◌else◌, List, [], ◌∷◌, ◌++◌, length, Option, Some, None, refl, sym, ◌∙◌, ap, subst, inl, inr, arith, append_assoc, append-nil, length-append}
use Rattle.std.proofs.Math.Seq.{get_or-append_seam}
use Rattle.std.proofs.lemmas.Bool.{cases_lt}
use Rattle.std.proofs.lemmas.List.{get_or_append_left, get_or_past}
use Rattle.round_schedule.specs.declared.event.Event.{Event}
use Rattle.round_schedule.specs.Accesses.{byte_written, reads, writes}
use Rattle.round_schedule.specs.Positions.{IsLatest, event, no_event, reads_at, source_byte, writes_at}

-- what holds of the empty trace, and of a trace with one more event, holds of each
pub by_pushes : (P : List Event → Type 0) → P [] → ((t : List Event) (e : Event) → P t → P (t ++ e ∷ [])) → (t : List Event) → P t
by_pushes P z s t = from [] t z
  where
    from : (u t : List Event) → P u → P (u ++ t)
    from u [] h = subst P (sym (append-nil u)) h
    from u (e ∷ t) h = subst P (append_assoc u (e ∷ []) t) (from (u ++ e ∷ []) t (s u e h))

-- ---- events by their places

pub length_push : (t : List Event) (e : Event) → length (t ++ e ∷ []) ≡ length t + 1
length_push t e = length-append t (e ∷ [])

pub event_before : (t u : List Event) (i : ℕ) → i < length t → event (t ++ u) i ≡ event t i
event_before t u i h = get_or_append_left t u no_event i h

pub event_last : (t : List Event) (e : Event) → event (t ++ e ∷ []) (length t) ≡ e
event_last t e = get_or-append_seam t e [] no_event

pub event_past : (t : List Event) (i : ℕ) → length t ≤ i → event t i ≡ no_event
event_past t i h = get_or_past t i no_event h

none_written : (x : ℕ) → writes no_event.access x ≡ false
unfolding no_event
none_written x = refl

none_read : (x : ℕ) → reads no_event.access x ≡ false
unfolding no_event
none_read x = refl

pub writer_within : (t : List Event) (i x : ℕ) → writes_at t i x ≡ true → i < length t
writer_within t i x h = elim (cases_lt i (length t)) [
  | inl l ↦ l
  | inr l ↦ absurd (cc (sym h ∙ ap (λ (e : Event). writes e.access x) (event_past t i l) ∙ none_written x))
]

pub reader_within : (t : List Event) (i x : ℕ) → reads_at t i x ≡ true → i < length t
reader_within t i x h = elim (cases_lt i (length t)) [
  | inl l ↦ l
  | inr l ↦ absurd (cc (sym h ∙ ap (λ (e : Event). reads e.access x) (event_past t i l) ∙ none_read x))
]

-- ---- the byte that the writes of some events leave

unfoldable pub byte_after : (Event → Bool) → ℕ → List Event → ℕ → ℕ
byte_after p b [] x = b
byte_after p b (e ∷ t) x = byte_after p (if p e && writes e.access x then byte_written e.access x else b) t x

pub byte_none : (p : Event → Bool) (b x : ℕ) → byte_after p b [] x ≡ b
unfolding byte_after
byte_none p b x = refl

pub byte_push : (p : Event → Bool) (b : ℕ) (t : List Event) (e : Event) (x : ℕ) →
    byte_after p b (t ++ e ∷ []) x ≡ (if p e && writes e.access x then byte_written e.access x else byte_after p b t x)
unfolding byte_after
byte_push p b [] e x = refl
byte_push p b (f ∷ t) e x = byte_push p (if p f && writes f.access x then byte_written f.access x else b) t e x

-- the event at a place passes the test and writes the byte
pub record Writer (p : Event → Bool) (t : List Event) (x w : ℕ) : Type 0 where
  pub within : w < length t
  pub passes : p (event t w) ≡ true
  pub writes : writes_at t w x ≡ true

writer_stays : (p : Event → Bool) (t : List Event) (e : Event) (x w : ℕ) → Writer p t x w → Writer p (t ++ e ∷ []) x w
writer_stays p t e x w h =
    let same : event (t ++ e ∷ []) w ≡ event t w = event_before t (e ∷ []) w h.within in
    record {
      within = omega (arith, h.within, length_push t e);
      passes = ap p same ∙ h.passes;
      writes = ap (λ (f : Event). writes f.access x) same ∙ h.writes;
    }

writer_was : (p : Event → Bool) (t : List Event) (e : Event) (x w : ℕ) → w < length t → Writer p (t ++ e ∷ []) x w → Writer p t x w
writer_was p t e x w l h =
    let same : event (t ++ e ∷ []) w ≡ event t w = event_before t (e ∷ []) w l in
    record { within = l; passes = sym (ap p same) ∙ h.passes; writes = sym (ap (λ (f : Event). writes f.access x) same) ∙ h.writes }

both : (a b : Bool) → (a && b) ≡ true → (a ≡ true) × (b ≡ true)
both true b h = (refl, h)
both false b h = cc

and_true : (a b : Bool) → a ≡ true → b ≡ true → (a && b) ≡ true
and_true a b h k = rw (h, k) refl

writer_before : (p : Event → Bool) (t : List Event) (e : Event) (x w : ℕ) → (p e && writes e.access x) ≡ false → Writer p (t ++ e ∷ []) x w → Writer p t x w
writer_before p t e x w off h = elim (cases_lt w (length t)) [
  | inl l ↦ writer_was p t e x w l h
  | inr l ↦
      let last : w ≡ length t = omega (arith, l, h.within, length_push t e) in
      let same : event (t ++ e ∷ []) w ≡ e = ap (event (t ++ e ∷ [])) last ∙ event_last t e in
      absurd (cc (sym off ∙ and_true (p e) (writes e.access x) (sym (ap p same) ∙ h.passes) (sym (ap (λ (f : Event). writes f.access x) same) ∙ h.writes)))
]

-- the last write that passes the test, and the byte that it leaves
unfoldable pub LastWrite : (Event → Bool) → (ℕ → ℕ) → ℕ → List Event → Type 0
LastWrite p opening x t = (s : Option ℕ) × IsLatest (λ w. w) (Writer p t x) s × (byte_after p (opening x) t x ≡ source_byte t opening x s)

same_source : (t : List Event) (e : Event) (opening : ℕ → ℕ) (x : ℕ) (p : Event → Bool) (s : Option ℕ) → IsLatest (λ w. w) (Writer p t x) s →
    source_byte (t ++ e ∷ []) opening x s ≡ source_byte t opening x s
same_source t e opening x p None h = refl
same_source t e opening x p (Some w) h = ap (λ (f : Event). byte_written f.access x) (event_before t (e ∷ []) w h.0.within)

still_latest : (t : List Event) (e : Event) (x : ℕ) (p : Event → Bool) (s : Option ℕ) → (p e && writes e.access x) ≡ false → IsLatest (λ w. w) (Writer p t x) s →
    IsLatest (λ w. w) (Writer p (t ++ e ∷ []) x) s
still_latest t e x p None off h = λ w k. h w (writer_before p t e x w off k)
still_latest t e x p (Some w) off h = (writer_stays p t e x w h.0, λ v k. h.1 v (writer_before p t e x v off k))

write_pushed : (p : Event → Bool) (opening : ℕ → ℕ) (x : ℕ) (t : List Event) (e : Event) (b : Bool) → (p e && writes e.access x) ≡ b →
    LastWrite p opening x t → LastWrite p opening x (t ++ e ∷ [])
unfolding LastWrite
write_pushed p opening x t e true is h =
    let e_both : (p e ≡ true) × (writes e.access x ≡ true) = both (p e) (writes e.access x) is in
    let last : event (t ++ e ∷ []) (length t) ≡ e = event_last t e in (
      Some (length t),
      (
        record { within = omega (arith, length_push t e); passes = ap p last ∙ e_both.0; writes = ap (λ (f : Event). writes f.access x) last ∙ e_both.1 },
        λ v k. omega (arith, k.within, length_push t e),
      ),
      byte_push p (opening x) t e x ∙ ap (λ (c : Bool). if c then byte_written e.access x else byte_after p (opening x) t x) is
          ∙ sym (ap (λ (f : Event). byte_written f.access x) last),
    )
write_pushed p opening x t e false is h = (
  h.0,
  still_latest t e x p h.0 is h.1,
  byte_push p (opening x) t e x ∙ ap (λ (c : Bool). if c then byte_written e.access x else byte_after p (opening x) t x) is
      ∙ h.2 ∙ sym (same_source t e opening x p h.0 h.1),
)

pub last_write : (p : Event → Bool) (opening : ℕ → ℕ) (x : ℕ) (t : List Event) → LastWrite p opening x t
unfolding LastWrite
last_write p opening x t = by_pushes (LastWrite p opening x) (None, (λ w k. omega (arith, k.within)), byte_none p (opening x) x)
    (λ u e h. write_pushed p opening x u e (p e && writes e.access x) refl h) t

-- the latest of two sets that are one
pub same_latest : (P Q : ℕ → Type 0) → ((w : ℕ) → P w → Q w) → ((w : ℕ) → Q w → P w) → (s : Option ℕ) → IsLatest (λ w. w) P s → IsLatest (λ w. w) Q s
same_latest P Q to from None h = λ w q. h w (from w q)
same_latest P Q to from (Some w) h = (to w h.0, λ v q. h.1 v (from v q))
