-- A payload as it was read, with its limit.
use Rattle.std.proofs.Common.{◌≡◌, ℕ, ◌≤◌, ◌<◌, false, List, [], ◌∷◌, ◌++◌, length, Some, None, inl, inr, refl, sym, ◌∙◌, ap, append-nil, arith}
use Rattle.std.proofs.lemmas.Bool.{le-leb}
use Rattle.std.proofs.lemmas.Bool.Decides.{leb_tells}
use Rattle.std.specs.Prelude.{nat_le}
use Rattle.gdb_packets.specs.Payload.{if_short, most, payload_of, read_behind, read_on}

pub is_not_le : (a b : ℕ) → b < a → nat_le a b ≡ false
is_not_le a b lt = elim (leb_tells a b) [ inl w ↦ absurd (omega (arith, w.1, lt)) | inr w ↦ w.0 ]

pub is_short : (payload : List ℕ) → length payload ≤ most → if_short (Some payload) ≡ Some payload
is_short payload le = rw (le-leb (length payload) most le) refl

-- nothing is left, and it is short
pub short_read : (payload rest bs : List ℕ) → length rest ≡ 0 → read_on payload rest ≡ read_behind None bs → length payload ≤ most → Some payload ≡ payload_of bs
unfolding read_behind
short_read payload [] bs z e le = sym (ap if_short (sym e) ∙ ap (λ (xs : List ℕ). if_short (Some xs)) (append-nil payload) ∙ is_short payload le)
short_read payload (x ∷ xs) bs z e le = absurd (omega arith)
