-- What is heard and written so far, and one thing more.
use Rattle.std.proofs.Common.{◌≡◌, ℕ, List, [], ◌∷◌, ◌++◌, sym, ap, ◌∙◌, append_assoc, append-nil}
use Rattle.std.specs.List.{flat_map}
use Rattle.std.proofs.lemmas.Grind.{flat_map-append}
use Rattle.gdb_packets.specs.Reads.{GoesOn, TellsBy}
use Rattle.gdb_packets.specs.Stream.{Told, next_of}
use Rattle.gdb_packets.specs.Writing.{answer_to}
use Rattle.gdb_talk.specs.Serving.{Begins, Goes, Goes_on, Nothing, Refused, Served, refusal_of}

-- bytes behind those that were given, and what is held behind them
pub goes_behind : (g text g1 held g2 held2 y : List ℕ) → g1 ≡ g ++ text ++ held → GoesOn g1 held g2 held2 y → g2 ≡ g ++ (text ++ y) ++ held2
goes_behind g text g1 held g2 held2 y e on =
    on.on (g ++ text) e ∙ sym (append_assoc (g ++ text) y held2) ∙ ap (λ (xs : List ℕ). xs ++ held2) (append_assoc g text y)

pub took_behind : (t w t1 v t2 : List ℕ) → t1 ≡ t ++ w → t2 ≡ t1 ++ v → t2 ≡ t ++ (w ++ v)
took_behind t w t1 v t2 e f = f ∙ ap (λ (xs : List ℕ). xs ++ v) e ∙ append_assoc t w v

module _ {T : Type 0} (begun : T) (Hears : T → Told → List ℕ → T → Type 0) (g t : List ℕ) where
  pub serves_none : Served begun Hears g g t t [] begun
  serves_none = record {
    text = [];
    heard = [];
    written = [];
    says = Nothing;
    hears = Begins;
    gave_is = sym (append-nil (g ++ []) ∙ append-nil g);
    took_is = sym (append-nil t);
  }

  pub serves_more : (g1 t1 held : List ℕ) (s : T) (g2 t2 held2 : List ℕ) (x : Told) (v : List ℕ) (s2 : T) → Served begun Hears g g1 t t1 held s →
      TellsBy next_of g1 held g2 held2 x → Hears s x v s2 → t2 ≡ t1 ++ v → Served begun Hears g g2 t t2 held2 s2
  serves_more g1 t1 held s g2 t2 held2 x v s2 so y hears took = record {
    text = so.text ++ y.text;
    heard = so.heard ++ x ∷ [];
    written = so.written ++ v;
    says = Goes_on so.text so.heard y.text x so.says y.tells;
    hears = Goes so.heard so.written s x v s2 so.hears hears;
    gave_is = goes_behind g so.text g1 held g2 held2 y.text so.gave_is y.on;
    took_is = took_behind t so.written t1 v t2 so.took_is took;
  }

  -- it is acknowledged, and this is said behind that
  pub serves_said : (g1 t1 held : List ℕ) (s : T) (g2 u t2 held2 : List ℕ) (x : Told) (said : List ℕ) (s2 : T) → Served begun Hears g g1 t t1 held s →
      TellsBy next_of g1 held g2 held2 x → Hears s x (answer_to x ++ said) s2 → u ≡ t1 ++ answer_to x → t2 ≡ u ++ said → Served begun Hears g g2 t t2 held2 s2
  serves_said g1 t1 held s g2 u t2 held2 x said s2 so y hears acknowledged says =
      serves_more g1 t1 held s g2 t2 held2 x (answer_to x ++ said) s2 so y hears
      (says ∙ ap (λ (xs : List ℕ). xs ++ said) acknowledged ∙ append_assoc t1 (answer_to x) said)

module _ (number : ℕ) (g t : List ℕ) where
  pub refuses_none : Refused number g g t t []
  refuses_none = record {
    text = [];
    heard = [];
    says = Nothing;
    gave_is = sym (append-nil (g ++ []) ∙ append-nil g);
    took_is = sym (append-nil t);
  }

  pub refuses_more : (g1 t1 held g2 t2 held2 : List ℕ) (x : Told) → Refused number g g1 t t1 held → TellsBy next_of g1 held g2 held2 x →
      t2 ≡ t1 ++ refusal_of number x → Refused number g g2 t t2 held2
  refuses_more g1 t1 held g2 t2 held2 x so y took = record {
    text = so.text ++ y.text;
    heard = so.heard ++ x ∷ [];
    says = Goes_on so.text so.heard y.text x so.says y.tells;
    gave_is = goes_behind g so.text g1 held g2 held2 y.text so.gave_is y.on;
    took_is =
        took ∙ ap (λ (xs : List ℕ). xs ++ refusal_of number x) so.took_is
        ∙ append_assoc t (flat_map (refusal_of number) so.heard) (refusal_of number x)
        ∙ ap (λ (xs : List ℕ). t ++ (flat_map (refusal_of number) so.heard ++ xs)) (sym (append-nil (refusal_of number x)))
        ∙ ap (λ (xs : List ℕ). t ++ xs) (sym (flat_map-append (refusal_of number) so.heard (x ∷ [])));
  }
