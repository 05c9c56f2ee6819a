-- Bytes of a line that are written in turn to their page.
use Rattle.std.proofs.Common.{◌≡◌, ℕ, true, List, [], ◌∷◌, ◌++◌, refl, sym, ap, ◌∙◌, All, subst}
use Rattle.std.proofs.lemmas.List.{map-append}
use Rattle.std.proofs.lemmas.List.Elements.{All-cons, All-head, All-nil, All-tail, All-weaker}
use Rattle.pages.specs.Flat.{Page, full, is_ready}
use Rattle.pages.specs.Memory.{after}
use Rattle.pages.proofs.StoreLaws.{after-append}
use Rattle.store_buffer.specs.Covered.{one_byte, stores_of}
use Rattle.commit_phase.specs.Writing.{Writable, Written}

pub All-before : {X : Type 0} (P : X → Type 0) (ss ts : List X) → All P (ss ++ ts) → All P ss
All-before P [] ts h = All-nil P
All-before P (s ∷ ss) ts h = All-cons P s ss (All-head P s (ss ++ ts) h) (All-before P ss ts (All-tail P s (ss ++ ts) h))

pub All-after : {X : Type 0} (P : X → Type 0) (ss ts : List X) → All P (ss ++ ts) → All P ts
All-after P [] ts h = h
All-after P (s ∷ ss) ts h = All-after P ss ts (All-tail P s (ss ++ ts) h)

-- the rest of the bytes will leave of the page now what all of them leave of the old one, and may be written
pub record Writing (p q : Page) (es rest : List (ℕ × ℕ)) : Type 0 where
  pub bytes : after (full q) (stores_of rest) ≡ after (full p) (stores_of es)
  pub ready : is_ready q ≡ is_ready p
  pub may : Writable p rest

pub writing_begun : (p : Page) (es rest : List (ℕ × ℕ)) → es ≡ rest → Writable p es → Writing p p es rest
writing_begun p es rest e w = subst (λ (fs : List (ℕ × ℕ)). Writing p p es fs) e (record { bytes = refl; ready = refl; may = w })

-- the next bytes may be written
pub writable_next : (p q : Page) (es now more : List (ℕ × ℕ)) → Writing p q es (now ++ more) → Writable q now
writable_next p q es now more k =
    All-weaker (λ (e : ℕ × ℕ). is_ready p ≡ true) (λ (e : ℕ × ℕ). is_ready q ≡ true) (λ e f. k.ready ∙ f) now (All-before (λ (e : ℕ × ℕ). is_ready p ≡ true) now more k.may)

-- they are written, and the others are left
pub writing_past : (p q r : Page) (es now more : List (ℕ × ℕ)) → Written now q r → Writing p q es (now ++ more) → Writing p r es more
writing_past p q r es now more w k =
    let parts : stores_of (now ++ more) ≡ stores_of now ++ stores_of more = map-append one_byte now more in
    record {
      bytes = ap (λ (bs : List ℕ). after bs (stores_of more)) w.bytes ∙ sym (after-append (full q) (stores_of now) (stores_of more)) ∙ ap (after (full q)) (sym parts) ∙ k.bytes;
      ready = w.ready ∙ k.ready;
      may = All-after (λ (e : ℕ × ℕ). is_ready p ≡ true) now more k.may;
    }

-- the same rest in other words
pub writing_same : (p q : Page) (es rest fs : List (ℕ × ℕ)) → rest ≡ fs → Writing p q es rest → Writing p q es fs
writing_same p q es rest fs e k = subst (λ (gs : List (ℕ × ℕ)). Writing p q es gs) e k
