-- One more table is merged.
use Rattle.std.proofs.Common.{◌≡◌, ℕ, ◌+◌, ◌<◌, Result, Ok, Err, List, [], ◌∷◌, ◌++◌, All, length, Option, get_or, sum_by, take, refl, sym, ◌∙◌, ap, subst, arith}
use Rattle.std.specs.Global.{Vec}
use Rattle.std.proofs.lemmas.List.{get_or_append_left, get_or_at, length_push, take_more}
use Rattle.std.proofs.lemmas.List.Elements.{All-head}
use Rattle.std.proofs.lemmas.List.Sums.{sum_by-cons, sum_by_push}
use Rattle.plan_hunt.specs.declared.row.Row.{Row}
use Rattle.hunt_table.specs.Text.{IsTextOf}
use Rattle.hunt_table.specs.declared.fingerprint.Fingerprint.{Fingerprint}
use Rattle.hunt_table.specs.declared.header.Header.{Header}
use Rattle.hunt_table.specs.Told.{IsReadAs, IsSame, IsTold}
use Rattle.hunt_table.specs.declared.read_error.ReadError.{ReadError}
use Rattle.hunt_table.specs.declared.read_error.ReadError.TheVariants.{NotATable, OutOfMemory}
use Rattle.hunt_table.specs.declared.table.Table.{Table}
use Rattle.hunt_table.specs.Refusals.{refusal_of}
use Rattle.hunt_table.specs.declared.merge_error.MergeError.TheVariants as refusals
use Rattle.hunt_table.specs.Merging.{Adjoins, AreOfOneProgram, AreSlices, AreTexts, AreTold, FollowOn, Follows, HasFewPlans, HaveProgram, IsAppended, IsMerged, IsNoTable, IsOfHunt, TellSlices, TellsPlans, harts_of}

-- ---- tables that are the same, whatever memory they take

pub record Alike (a b : Table) : Type 0 where
  program : a.header.program ≡ b.header.program
  is_weak : a.header.is_weak ≡ b.header.is_weak
  seed : a.header.seed ≡ b.header.seed
  first : a.header.first ≡ b.header.first
  count : a.header.count ≡ b.header.count
  ranges : a.header.ranges.items ≡ b.header.ranges.items
  rows : a.rows.items ≡ b.rows.items

abbrev pub AreAlike : List Table → List Table → Type 0
AreAlike [] [] = Unit {0}
AreAlike [] (b ∷ bs) = ⊥
AreAlike (a ∷ cs) [] = ⊥
AreAlike (a ∷ cs) (b ∷ bs) = Alike a b × AreAlike cs bs

alike_back : (a b : Table) → Alike a b → Alike b a
alike_back a b h = record { program = sym h.program; is_weak = sym h.is_weak; seed = sym h.seed; first = sym h.first; count = sym h.count; ranges = sym h.ranges; rows = sym h.rows }

pub are_alike_back : (cs bs : List Table) → AreAlike cs bs → AreAlike bs cs
are_alike_back [] [] h = tt
are_alike_back [] (b ∷ bs) h = absurd h
are_alike_back (a ∷ cs) [] h = absurd h
are_alike_back (a ∷ cs) (b ∷ bs) h = (alike_back a b h.0, are_alike_back cs bs h.1)

follows_alike : (a b s t : Table) → Alike a b → Alike s t → Follows a s → Follows b t
follows_alike a b s t p q h = record {
  hunt = record {
    is_program = sym q.program ∙ h.hunt.is_program ∙ p.program;
    is_weak = sym q.is_weak ∙ h.hunt.is_weak ∙ p.is_weak;
    has_seed = sym q.seed ∙ h.hunt.has_seed ∙ p.seed;
    has_ranges = sym q.ranges ∙ h.hunt.has_ranges ∙ p.ranges;
    has_harts = sym (ap harts_of q.rows) ∙ h.hunt.has_harts ∙ ap harts_of p.rows;
  };
  plans = omega (arith, p.first, p.count, q.first, h.plans);
  few_plans = omega (arith, q.first, q.count, h.few_plans);
}

follow_alike : (a b : Table) (cs bs : List Table) → Alike a b → AreAlike cs bs → FollowOn a cs → FollowOn b bs
follow_alike a b [] [] p q h = tt
follow_alike a b [] (t ∷ bs) p q h = absurd q
follow_alike a b (s ∷ cs) [] p q h = absurd q
follow_alike a b (s ∷ cs) (t ∷ bs) p q h = (follows_alike a b s t p q.0 h.0, follow_alike s t cs bs q.0 q.1 h.1)

pub slices_alike : (cs bs : List Table) → AreAlike cs bs → AreSlices cs → AreSlices bs
slices_alike [] [] q h = tt
slices_alike [] (b ∷ bs) q h = absurd q
slices_alike (a ∷ cs) [] q h = absurd q
slices_alike (a ∷ cs) (b ∷ bs) q h = (omega (arith, q.0.first, q.0.count, h.0), follow_alike a b cs bs q.0 q.1 h.1)

-- ---- texts

-- the text is that of the table, which is read of it whatever told table's it is
abbrev pub IsReadOf : Vec ℕ → Table → Type 0
IsReadOf x t = IsTextOf t.header t.rows.items x.items × ((u : Table) → IsTold u.header u.rows.items → IsTextOf u.header u.rows.items x.items → Alike u t)

abbrev pub AreReadOf : List (Vec ℕ) → List Table → Type 0
AreReadOf [] [] = Unit {0}
AreReadOf [] (t ∷ ts) = ⊥
AreReadOf (x ∷ xs) [] = ⊥
AreReadOf (x ∷ xs) (t ∷ ts) = IsReadOf x t × AreReadOf xs ts

pub texts_of : (xs : List (Vec ℕ)) (ts : List Table) → AreReadOf xs ts → AreTexts xs ts
texts_of [] [] h = tt
texts_of [] (t ∷ ts) h = absurd h
texts_of (x ∷ xs) [] h = absurd h
texts_of (x ∷ xs) (t ∷ ts) h = (h.0.0, texts_of xs ts h.1)

pub told_of : (xs : List (Vec ℕ)) (ts us : List Table) → AreReadOf xs ts → AreTold us → AreTexts xs us → AreAlike us ts
told_of [] [] [] h told e = tt
told_of [] [] (u ∷ us) h told e = absurd e
told_of [] (t ∷ ts) us h told e = absurd h
told_of (x ∷ xs) [] us h told e = absurd h
told_of (x ∷ xs) (t ∷ ts) [] h told e = absurd e
told_of (x ∷ xs) (t ∷ ts) (u ∷ us) h told e = (h.0.1 u told.0 e.0, told_of xs ts us h.1 told.1 e.1)

read-push : (xs : List (Vec ℕ)) (ts : List Table) (x : Vec ℕ) (t : Table) → AreReadOf xs ts → IsReadOf x t → AreReadOf (xs ++ x ∷ []) (ts ++ t ∷ [])
read-push [] [] x t h e = (e, tt)
read-push [] (s ∷ ts) x t h e = absurd h
read-push (y ∷ xs) [] x t h e = absurd h
read-push (y ∷ xs) (s ∷ ts) x t h e = (h.0, read-push xs ts x t h.1 e)

pub next_text : (texts : List (Vec ℕ)) (i : ℕ) (x : Vec ℕ) (ts : List Table) (t : Table) → i < length texts → x ≡ get_or texts i x → AreReadOf (take i texts) ts →
    IsReadOf x t → AreReadOf (take (i + 1) texts) (ts ++ t ∷ [])
next_text texts i x ts t l at h e =
    let front : List (Vec ℕ) = take i texts in
    subst (λ (v : List (Vec ℕ)). AreReadOf v (ts ++ t ∷ [])) (ap (λ (y : Vec ℕ). front ++ y ∷ []) at ∙ sym (take_more texts i x l)) (read-push front ts x t h e)

pub first_text : (texts : List (Vec ℕ)) (x : Vec ℕ) (t : Table) → 0 < length texts → x ≡ get_or texts 0 x → IsReadOf x t → AreReadOf (take 1 texts) (t ∷ [])
first_text texts x t l at e = next_text texts 0 x [] t l at tt e

-- what a reader says of a text that it takes
pub is_read : (x : Vec ℕ) (text : List ℕ) (r : Result Table ReadError) (t : Table) → text ≡ x.items → r ≡ Ok t → IsTextOf t.header t.rows.items text →
    ((h : Header) (rows : List Row) → IsTold h rows → IsTextOf h rows text → IsReadAs h rows r) → IsReadOf x t
is_read x text r t is e found only = (
  subst (IsTextOf t.header t.rows.items) is found,
  λ u told its. alike u (subst (IsReadAs u.header u.rows.items) e (only u.header u.rows.items told (subst (IsTextOf u.header u.rows.items) (sym is) its))),
)
  where
    alike : (u : Table) → IsSame u.header u.rows.items t → Alike u t
    alike u s = record { program = sym s.program; is_weak = sym s.is_weak; seed = sym s.seed; first = sym s.first; count = sym s.count; ranges = sym s.ranges; rows = sym s.rows }

-- ---- slices

pub no_texts : TellSlices []
no_texts [] told e = tt
no_texts (t ∷ ts) told e = absurd e

-- told tables of texts that were read of slices
pub tell_slices : (xs : List (Vec ℕ)) (ts : List Table) → AreReadOf xs ts → AreSlices ts → TellSlices xs
tell_slices xs ts h s us told e = slices_alike ts us (are_alike_back us ts (told_of xs ts us h told e)) s

abbrev last_of : Table → List Table → Table
last_of t [] = t
last_of t (n ∷ ts) = last_of n ts

follow-push : (t : Table) (ts : List Table) (n : Table) → FollowOn t ts → Follows (last_of t ts) n → FollowOn t (ts ++ n ∷ [])
follow-push t [] n h f = (f, tt)
follow-push t (s ∷ ts) n h f = (h.0, follow-push s ts n h.1 f)

last_follows : (t : Table) (ts : List Table) (n : Table) → FollowOn t (ts ++ n ∷ []) → Follows (last_of t ts) n
last_follows t [] n h = h.0
last_follows t (s ∷ ts) n h = last_follows s ts n h.1

-- the last slice is of the same hunt
hunt_of : (t : Table) (ts : List Table) → FollowOn t ts → IsOfHunt t.header.program t.header.is_weak t.header.seed t.header.ranges.items (harts_of t.rows.items) (last_of t ts)
hunt_of t [] h = record { is_program = refl; is_weak = refl; has_seed = refl; has_ranges = refl; has_harts = refl }
hunt_of t (n ∷ ts) h =
    let rest = hunt_of n ts h.1 in
    let next = h.0.hunt in
    record { is_program = rest.is_program ∙ next.is_program; is_weak = rest.is_weak ∙ next.is_weak; has_seed = rest.has_seed ∙ next.has_seed; has_ranges = rest.has_ranges ∙ next.has_ranges; has_harts = rest.has_harts ∙ next.has_harts }

-- the plans of the slices end with those of the last
end_of : (t : Table) (ts : List Table) → FollowOn t ts → t.header.first + sum_by (λ (s : Table). s.header.count) (t ∷ ts) ≡ (last_of t ts).header.first + (last_of t ts).header.count
end_of t [] h = omega (arith, sum_by-cons (λ (s : Table). s.header.count) t [])
end_of t (n ∷ ts) h = omega (arith, h.0.plans, sum_by-cons (λ (s : Table). s.header.count) t (n ∷ ts), end_of n ts h.1)

follows_of : (t : Table) (ts : List Table) (w n : Table) → IsMerged t ts w → Adjoins (harts_of t.rows.items) w n → Follows (last_of t ts) n
follows_of t ts w n m a =
    let hunt = hunt_of t ts m.slices.1 in
    let end = end_of t ts m.slices.1 in record {
      hunt = record {
        is_program = a.hunt.is_program ∙ m.program ∙ sym hunt.is_program;
        is_weak = a.hunt.is_weak ∙ m.is_weak ∙ sym hunt.is_weak;
        has_seed = a.hunt.has_seed ∙ m.seed ∙ sym hunt.has_seed;
        has_ranges = a.hunt.has_ranges ∙ m.ranges ∙ sym hunt.has_ranges;
        has_harts = a.hunt.has_harts ∙ sym hunt.has_harts;
      };
      plans = omega (arith, end, m.first, m.count, a.next);
      few_plans = omega (arith, a.next, a.few_plans);
    }

adjoins_of : (t : Table) (ts : List Table) (w n : Table) → IsMerged t ts w → Follows (last_of t ts) n → Adjoins (harts_of t.rows.items) w n
adjoins_of t ts w n m f =
    let hunt = hunt_of t ts m.slices.1 in
    let end = end_of t ts m.slices.1 in
    let next : n.header.first ≡ w.header.first + w.header.count = omega (arith, end, m.first, m.count, f.plans) in record {
      hunt = record {
        is_program = f.hunt.is_program ∙ hunt.is_program ∙ sym m.program;
        is_weak = f.hunt.is_weak ∙ hunt.is_weak ∙ sym m.is_weak;
        has_seed = f.hunt.has_seed ∙ hunt.has_seed ∙ sym m.seed;
        has_ranges = f.hunt.has_ranges ∙ hunt.has_ranges ∙ sym m.ranges;
        has_harts = f.hunt.has_harts ∙ hunt.has_harts;
      };
      next = next;
      few_plans = omega (arith, next, f.few_plans);
    }

-- a table that doesn't adjoin the merged one is apart from the slices, whatever told tables these texts have
pub apart_from : (xs : List (Vec ℕ)) (t : Table) (ts : List Table) (w n : Table) → AreReadOf xs ((t ∷ ts) ++ n ∷ []) → IsMerged t ts w → (Adjoins (harts_of t.rows.items) w n → ⊥) →
    (us : List Table) → AreTold us → AreTexts xs us → AreSlices us → ⊥
apart_from xs t ts w n h m not us told e s =
    let all : AreSlices (t ∷ (ts ++ n ∷ [])) = slices_alike us (t ∷ (ts ++ n ∷ [])) (told_of xs (t ∷ (ts ++ n ∷ [])) us h told e) s in
    not (adjoins_of t ts w n m (last_follows t ts n all.1))

-- tables that are alike are of one program where the others are
programs_alike : (p q : Option Fingerprint) (cs bs : List Table) → p ≡ q → AreAlike cs bs → HaveProgram p cs → HaveProgram q bs
programs_alike p q [] [] same a h = tt
programs_alike p q [] (b ∷ bs) same a h = absurd a
programs_alike p q (c ∷ cs) [] same a h = absurd a
programs_alike p q (c ∷ cs) (b ∷ bs) same a h = (sym a.0.program ∙ h.0 ∙ same, programs_alike p q cs bs same a.1 h.1)

last_has : (p : Option Fingerprint) (ts : List Table) (n : Table) → HaveProgram p (ts ++ n ∷ []) → n.header.program ≡ p
last_has p [] n h = h.0
last_has p (t ∷ ts) n h = last_has p ts n h.1

one_program : (us : List Table) (t : Table) (ts : List Table) (n : Table) → AreAlike us (t ∷ (ts ++ n ∷ [])) → AreOfOneProgram us → n.header.program ≡ t.header.program
one_program [] t ts n a h = absurd a
one_program (u ∷ us) t ts n a h = last_has t.header.program ts n (programs_alike u.header.program t.header.program us (ts ++ n ∷ []) a.0.program a.1 h)

-- a table of another program than the merged one is so beside the slices, whatever told tables these texts have
pub other_from : (xs : List (Vec ℕ)) (t : Table) (ts : List Table) (w n : Table) → AreReadOf xs ((t ∷ ts) ++ n ∷ []) → IsMerged t ts w → (n.header.program ≡ w.header.program → ⊥) →
    (us : List Table) → AreTold us → AreTexts xs us → AreOfOneProgram us → ⊥
other_from xs t ts w n h m not us told e o = not (one_program us t ts n (told_of xs (t ∷ (ts ++ n ∷ [])) us h told e) o ∙ sym m.program)

pub first_apart : (xs : List (Vec ℕ)) (t : Table) → AreReadOf xs (t ∷ []) → (HasFewPlans t → ⊥) → (us : List Table) → AreTold us → AreTexts xs us → AreSlices us → ⊥
first_apart xs t h many us told e s =
    let all : AreSlices (t ∷ []) = slices_alike us (t ∷ []) (told_of xs (t ∷ []) us h told e) s in
    many all.0

-- ---- tables

front_of : (P : Table → Type 0) (ts : List Table) (t : Table) → All P (ts ++ t ∷ []) → All P ts
front_of P ts t h = λ k d l. subst P (get_or_append_left ts (t ∷ []) d k l) (h k d (omega (arith, l, length_push ts t)))

end_of_all : (P : Table → Type 0) (ts : List Table) (t : Table) → All P (ts ++ t ∷ []) → P t
end_of_all P ts t h = subst P (get_or_at ts t [] t (length ts) refl) (h (length ts) t (omega (arith, length_push ts t)))

pub one_table : (t : Table) → HasFewPlans t → IsMerged t [] t
one_table t few = record {
  slices = (few, tt);
  program = refl;
  is_weak = refl;
  seed = refl;
  ranges = refl;
  first = refl;
  count = nothing_before t.header.count;
  tells = λ ends h. All-head (TellsPlans ends) t [] h;
}
  where
    nothing_before : (n : ℕ) → n ≡ 0 + n
    nothing_before n = omega arith

pub next_table : (t : Table) (ts : List Table) (w n new : Table) → IsMerged t ts w → Adjoins (harts_of t.rows.items) w n → IsAppended w n new → IsMerged t (ts ++ n ∷ []) new
next_table t ts w n new m a j = record {
  slices = (m.slices.0, follow-push t ts n m.slices.1 (follows_of t ts w n m a));
  program = j.program ∙ m.program;
  is_weak = j.is_weak ∙ m.is_weak;
  seed = j.seed ∙ m.seed;
  ranges = j.ranges ∙ m.ranges;
  first = j.first ∙ m.first;
  count = j.count ∙ ap (λ (k : ℕ). k + n.header.count) m.count ∙ sym (sum_by_push (λ (s : Table). s.header.count) (t ∷ ts) n);
  tells = λ ends all. j.tells ends (m.tells ends (front_of (TellsPlans ends) (t ∷ ts) n all)) (end_of_all (TellsPlans ends) (t ∷ ts) n all);
}

-- ---- a text that is no table's

-- what a reader says of a text that it refuses
pub no_table : (text : List ℕ) (r : Result Table ReadError) → r ≡ Err NotATable → ((h : Header) (rows : List Row) → IsTold h rows → IsTextOf h rows text → IsReadAs h rows r) → IsNoTable text
no_table text r e only h rows good is = other (subst (IsReadAs h rows) e (only h rows good is))
  where
    other : NotATable ≡ OutOfMemory → ⊥
    other q = cc

pub same_refusal : (x : ReadError) → refusal_of x ≡ refusals.NotATable → x ≡ NotATable
same_refusal NotATable e = refl
same_refusal OutOfMemory e = cc
