-- A debugger is served: what is heard one after another, and what is written for it.
use Rattle.std.specs.Prelude.{◌≡◌, ℕ, List, [], ◌∷◌, ◌++◌, codes}
use Rattle.std.specs.Fmt.{decimal}
use Rattle.std.specs.List.{flat_map}
use Rattle.gdb_packets.specs.Stream.{Told, Accepted, Again, Interrupt, Packet, Spoilt, Tells}
use Rattle.gdb_packets.specs.Writing.{answer_to, packet_text}
use Rattle.gdb_talk.specs.Saying.{refused_text}

-- some bytes say these things one after another
pub data Says : List ℕ → List Told → Type 0 where
  Nothing : Says [] []
  Goes_on : (text : List ℕ) (xs : List Told) (more : List ℕ) (x : Told) → Says text xs → Tells more x → Says (text ++ more) (xs ++ x ∷ [])

-- what is heard one after another, and all that is written for it, where `Hears s x v t` says that x, heard in s, is answered by v and leads to t
pub data Hear {T : Type 0} (begun : T) (Hears : T → Told → List ℕ → T → Type 0) : List Told → List ℕ → T → Type 0 where
  Begins : Hear begun Hears [] [] begun
  Goes : (xs : List Told) (w : List ℕ) (s : T) (x : Told) (v : List ℕ) (t : T) →
      Hear begun Hears xs w s → Hears s x v t → Hear begun Hears (xs ++ x ∷ []) (w ++ v) t

-- what is heard is acknowledged, and then this is said
pub record Answered (x : Told) (written : List ℕ) (Fits : List ℕ → Type 0) : Type 0 where
  pub said : List ℕ
  pub fits : Fits said
  pub is : written ≡ answer_to x ++ said

-- something that found no memory itself is acknowledged, and answered so
abbrev pub IsLost : {T : Type 0} → T → List ℕ → T → Type 0
IsLost s written t = (written ≡ 43 ∷ refused_text) × (t ≡ s)

-- what was read says this, and that was written; what is left of the one says nothing yet
pub record Served {T : Type 0} (begun : T) (Hears : T → Told → List ℕ → T → Type 0) (gave gave_then took took_then rest : List ℕ) (t : T) : Type 0 where
  pub text : List ℕ
  pub heard : List Told
  pub written : List ℕ
  pub says : Says text heard
  pub hears : Hear begun Hears heard written t
  pub gave_is : gave_then ≡ gave ++ text ++ rest
  pub took_is : took_then ≡ took ++ written

-- what is looked at is refused: each request is answered by the number of the refusal

abbrev pub refusal_of : ℕ → Told → List ℕ
refusal_of number (Packet payload) = 43 ∷ packet_text (codes "E.error " ++ decimal number)
refusal_of number Spoilt = 45 ∷ []
refusal_of number Accepted = []
refusal_of number Again = []
refusal_of number Interrupt = []

-- what was read says this, and each of it was answered so
pub record Refused (number : ℕ) (gave gave_then took took_then rest : List ℕ) : Type 0 where
  pub text : List ℕ
  pub heard : List Told
  pub says : Says text heard
  pub gave_is : gave_then ≡ gave ++ text ++ rest
  pub took_is : took_then ≡ took ++ flat_map (refusal_of number) heard
