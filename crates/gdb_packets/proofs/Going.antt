-- Reading goes on from what was read.
use Rattle.std.proofs.Common.{◌≡◌, ℕ, false, List, [], ◌∷◌, ◌++◌, Option, Some, None, Result, Ok, Err, option_to_list, refl, sym, ◌∙◌, ap, subst, append_assoc, append-nil}
use Rattle.std.specs.Prelude.{◌==◌, IfNone, IfOk}
use Rattle.host_io.specs.declared.error.RunError.{RunError}
use Rattle.gdb_packets.specs.declared.item.Item.{Item}
use Rattle.gdb_packets.specs.declared.draft.Draft.{Draft}
use Rattle.gdb_packets.specs.Drafts.{IsDraft}
use Rattle.gdb_packets.specs.Reads.{EndsBy, GoesOn, Loses, Reads, TellsBy}
use Rattle.gdb_packets.specs.Stream.{Told, Accepted, Again, Interrupt, closed_by, framed, next_of, told_of}
use Rattle.gdb_packets.specs.Views.{told_in}
use Rattle.gdb_packets.proofs.Framing.{CameSoFar, came_closed, came_one}

pub goes_nowhere : (gave held : List ℕ) → GoesOn gave held gave held []
goes_nowhere gave held = record { on = λ read e. e }

at_text : (a b c d s t : List ℕ) → s ≡ t → GoesOn a b c d s → GoesOn a b c d t
at_text a b c d s t e on = let P : List ℕ → Type 0 = λ xs. GoesOn a b c d xs in subst P e on

pub goes_both : (a b c d e f s t : List ℕ) → GoesOn a b c d s → GoesOn c d e f t → GoesOn a b e f (s ++ t)
goes_both a b c d e f s t first then = record {
  on = λ read is.
      then.on (read ++ s) (first.on read is ∙ sym (append_assoc read s d))
      ∙ append_assoc read s (t ++ f)
      ∙ ap (λ (xs : List ℕ). read ++ xs) (sym (append_assoc s t f));
}

module _ (f g : List ℕ → Option (Told × List ℕ)) (front : List ℕ) (same : (more : List ℕ) → f (front ++ more) ≡ g more)
    (a b c d e h : List ℕ) (on : GoesOn a b c d front) where
  pub tells_behind : (x : Told) → TellsBy g c d e h x → TellsBy f a b e h x
  tells_behind x t = record { text = front ++ t.text; on = goes_both _ _ _ _ _ _ _ _ on t.on; tells = same t.text ∙ t.tells }

  pub reads_behind : (x : Option Item) → Reads g c d e h x → Reads f a b e h x
  reads_behind None t = record { text = front ++ t.text; on = goes_both _ _ _ _ _ _ _ _ on t.on; tells = same t.text ∙ t.tells; all = t.all }
  reads_behind (Some x) t = tells_behind (told_in x) t

  pub loses_behind : Loses g c d e h → Loses f a b e h
  loses_behind (x, t) = (x, tells_behind x t)

-- bytes that say nothing were passed over
pub record Passed (gave held gave_then held_then : List ℕ) : Type 0 where
  pub text : List ℕ
  pub on : GoesOn gave held gave_then held_then text
  pub passed : (more : List ℕ) → next_of (text ++ more) ≡ next_of more

-- a packet's `$` was read, and this of its data
pub record Began (gave held gave_then held_then : List ℕ) (draft : Draft) : Type 0 where
  pub text : List ℕ
  pub on : GoesOn gave held gave_then held_then text
  pub came : CameSoFar text
  pub gathered : IsDraft text draft

-- ---- the end of a packet

module _ (a b c d e h : List ℕ) (bs : List ℕ) where
  pub close_ends : (o p : Option ℕ) (high : ℕ) → o ≡ Some high → p ≡ None → GoesOn a b c d (option_to_list o) → GoesOn c d e h (option_to_list p) → IfNone p (h ≡ []) →
      EndsBy (closed_by bs) a b e h
  close_ends None p high is then on more all = absurd cc
  close_ends (Some x) (Some y) high is then on more all = absurd cc
  close_ends (Some x) None high is then on more all = record { text = x ∷ []; on = goes_both _ _ _ _ _ _ _ _ on more; tells = refl; all = all }

  pub close_tells : (o p : Option ℕ) (high low : ℕ) → o ≡ Some high → p ≡ Some low → GoesOn a b c d (option_to_list o) → GoesOn c d e h (option_to_list p) →
      (t : Told) → told_of bs high low ≡ t → TellsBy (closed_by bs) a b e h t
  close_tells None p high low is then on more t told = absurd cc
  close_tells (Some x) None high low is then on more t told = absurd cc
  close_tells (Some x) (Some y) high low is then on more t told =
      let first : x ≡ high = cc in
      let second : y ≡ low = cc in
      record {
        text = x ∷ y ∷ [];
        on = goes_both _ _ _ _ _ _ _ _ on more;
        tells = ap (λ (v : Told). Some (v, [])) (ap (λ (v : ℕ). told_of bs v y) first ∙ ap (λ (v : ℕ). told_of bs high v) second ∙ told);
      }

-- ---- the data of a packet

pub begins : (a b : List ℕ) (draft : Draft) → IsDraft [] draft → Began a b a b draft
begins a b draft is = record { text = []; on = goes_nowhere a b; came = λ more. refl; gathered = is }

module _ (a b c d e h : List ℕ) (draft : Draft) (so_far : Began a b c d draft) where
  pub frame_ends : (o : Option ℕ) → o ≡ None → GoesOn c d e h (option_to_list o) → IfNone o (h ≡ []) → EndsBy framed a b e h
  frame_ends (Some x) is on all = absurd cc
  frame_ends None is on all = record { text = so_far.text ++ []; on = goes_both _ _ _ _ _ _ _ _ so_far.on on; tells = so_far.came []; all = all }

  pub frame_goes : (o : Option ℕ) (x : ℕ) (next : Draft) → o ≡ Some x → (x == 35) ≡ false → GoesOn c d e h (option_to_list o) →
      ((bs : List ℕ) → IsDraft bs draft → IsDraft (bs ++ x ∷ []) next) → Began a b e h next
  frame_goes None x next is other on adds = absurd cc
  frame_goes (Some y) x next is other on adds =
      let same : y ≡ x = cc in
      record {
        text = so_far.text ++ x ∷ [];
        on = goes_both _ _ _ _ _ _ _ _ so_far.on (at_text _ _ _ _ _ _ (ap (λ (v : ℕ). v ∷ []) same) on);
        came = came_one so_far.text x other so_far.came;
        gathered = adds so_far.text so_far.gathered;
      }

  abbrev at_end : (o : Option ℕ) → Type 0
  at_end o = (o ≡ Some 35) × GoesOn c d e h (option_to_list o)

  closing : (o : Option ℕ) → at_end o → GoesOn a b e h (so_far.text ++ 35 ∷ [])
  closing None (is, on) = absurd cc
  closing (Some y) (is, on) =
      let same : y ≡ 35 = cc in
      goes_both _ _ _ _ _ _ _ _ so_far.on (at_text _ _ _ _ _ _ (ap (λ (v : ℕ). v ∷ []) same) on)

  pub frame_closes : (o : Option ℕ) → at_end o → (i j : List ℕ) (r : Result (Option Item) RunError) →
      ((bs : List ℕ) → IsDraft bs draft → IfOk r (λ x. Reads (closed_by bs) e h i j x)) → IfOk r (λ x. Reads framed a b i j x)
  frame_closes o at i j (Ok x) told = reads_behind framed (closed_by so_far.text) _ (came_closed so_far.text so_far.came) a b e h i j (closing o at) x (told so_far.text so_far.gathered)
  frame_closes o at i j (Err x) told = tt

  pub frame_loses : (o : Option ℕ) → at_end o → (i j : List ℕ) → ((bs : List ℕ) → Loses (closed_by bs) e h i j) → Loses framed a b i j
  frame_loses o at i j lost = loses_behind framed (closed_by so_far.text) _ (came_closed so_far.text so_far.came) a b e h i j (closing o at) (lost so_far.text)

-- ---- what is told

module _ (a b c d e h : List ℕ) (so_far : Passed a b c d) where
  pub next_ends : (o : Option ℕ) → o ≡ None → GoesOn c d e h (option_to_list o) → IfNone o (h ≡ []) → EndsBy next_of a b e h
  unfolding next_of
  next_ends (Some x) is on all = absurd cc
  next_ends None is on all = record { text = so_far.text ++ []; on = goes_both _ _ _ _ _ _ _ _ so_far.on on; tells = so_far.passed []; all = all }

  one_more : (o : Option ℕ) (x : ℕ) → o ≡ Some x → GoesOn c d e h (option_to_list o) → GoesOn a b e h (so_far.text ++ x ∷ [])
  one_more None x is on = absurd cc
  one_more (Some y) x is on =
      let same : y ≡ x = cc in
      goes_both _ _ _ _ _ _ _ _ so_far.on (at_text _ _ _ _ _ _ (ap (λ (v : ℕ). v ∷ []) same) on)

  behind_one : (x : ℕ) (more : List ℕ) → next_of ((so_far.text ++ x ∷ []) ++ more) ≡ next_of (x ∷ more)
  behind_one x more = ap next_of (append_assoc so_far.text (x ∷ []) more) ∙ so_far.passed (x ∷ more)

  pub next_passes : (o : Option ℕ) (x : ℕ) → o ≡ Some x → GoesOn c d e h (option_to_list o) →
      (x == 36) ≡ false → (x == 43) ≡ false → (x == 45) ≡ false → (x == 3) ≡ false → Passed a b e h
  unfolding next_of
  next_passes o x is on packet accepted again interrupt = record {
    text = so_far.text ++ x ∷ [];
    on = one_more o x is on;
    passed = λ more. behind_one x more ∙ rw (packet, accepted, again, interrupt) refl;
  }

  pub next_tells : (o : Option ℕ) (x : ℕ) (t : Told) → o ≡ Some x → GoesOn c d e h (option_to_list o) → next_of (x ∷ []) ≡ Some (t, []) → TellsBy next_of a b e h t
  next_tells o x t is on told = record {
    text = so_far.text ++ x ∷ [];
    on = one_more o x is on;
    tells = ap next_of (sym (append-nil (so_far.text ++ x ∷ []))) ∙ behind_one x [] ∙ told;
  }

  pub next_frames : (o : Option ℕ) → o ≡ Some 36 → GoesOn c d e h (option_to_list o) → (i j : List ℕ) (r : Result (Option Item) RunError) →
      IfOk r (λ x. Reads framed e h i j x) → IfOk r (λ x. Reads next_of a b i j x)
  unfolding next_of
  next_frames o is on i j (Ok x) told = reads_behind next_of framed _ (λ more. behind_one 36 more) a b e h i j (one_more o 36 is on) x told
  next_frames o is on i j (Err x) told = tt

  pub next_loses : (o : Option ℕ) → o ≡ Some 36 → GoesOn c d e h (option_to_list o) → (i j : List ℕ) → Loses framed e h i j → Loses next_of a b i j
  unfolding next_of
  next_loses o is on i j lost = loses_behind next_of framed _ (λ more. behind_one 36 more) a b e h i j (one_more o 36 is on) lost

pub tells_accepted : next_of (43 ∷ []) ≡ Some (Accepted, [])
unfolding next_of
tells_accepted = refl

pub tells_again : next_of (45 ∷ []) ≡ Some (Again, [])
unfolding next_of
tells_again = refl

pub tells_interrupt : next_of (3 ∷ []) ≡ Some (Interrupt, [])
unfolding next_of
tells_interrupt = refl
