-- Several instructions of a hart, one after another.
use Rattle.std.proofs.Common.{◌≡◌, ◌≢◌, ◌⊎◌, ℕ, ◌+◌, ◌-◌, ◌%◌, ◌^◌, ◌<◌, ◌≤◌, ◌==◌, Bool, true, false, if◌then◌else◌, List, [], ◌∷◌, ◌++◌, get_or, length, map, option_map, slice_get, take, Option, None, Some, ap, refl, subst, sym, ◌∙◌, inl, inr, arith}
use Rattle.std.proofs.lemmas.Bool.{eqb-true}
use Rattle.std.proofs.lemmas.List.{get_or-map, length-map, take_more}
use Rattle.std.proofs.lemmas.Option.{slice_get-get_or, slice_get-map}
use Rattle.pages.specs.Memory.{Memory}
use Rattle.execution.specs.Executions.{Standing}
use Rattle.execution_file.specs.Recorded.{HartDeeds, Turn}
use Rattle.execution_file.specs.Views.{hart_view, turn_view}
use Rattle.execution_file.specs.declared.file.HartDeeds.{HartDeeds as HartHeld}
use Rattle.execution_file.specs.declared.file.Turn.{Turn as TurnHeld}
use Rattle.execution_scripts.specs.Following.{AreCalled, Calls, Ends, HaveEnded, IsRound, Reads, Runs, called-more, called-none, calls, done_by, ended-more, ended-none, line_of, no_line, round_from, runs-more, runs-none, stop_by}
use Rattle.execution_scripts.specs.Misfits.{HasNoRound, IsCallMisfit, IsEndMisfit, IsFaultAfter, IsFaultAt, IsGoMisfit, IsStepMisfit, Reason, StopsInCall}
use Rattle.hart_step.specs.declared.hart.Stop.{Stop}
use Rattle.execution_file.specs.Deeds.{code_of, value_of}
use Rattle.execution_scripts.specs.Courses.{AreWithin, Course, EndsOtherwise, HasRun, IsOn, OnFault, Took}
use Rattle.execution_scripts.specs.declared.calls.Taken.{Taken}
use Rattle.execution_scripts.specs.declared.calls.Taken.TheVariants.{Called, Done, Stopped}
use Rattle.execution_scripts.specs.declared.fault.Halt.{Halt}
use Rattle.execution_scripts.specs.declared.fault.Halt.TheVariants as halts
use Rattle.execution_scripts.specs.declared.fault.Fault.{Fault}
use Rattle.execution_scripts.specs.declared.fault.Misfit.{Misfit}
use Rattle.execution_scripts.specs.declared.fault.Misfit.TheVariants.{NoCall, NoNumber, NoOperation, NoRound, NoStep, NumbersLeft, OtherExit, OtherNumber, OtherStop, Otherwise, RunsOn, RunsOnWithValue, Stops}
use Rattle.execution_scripts.specs.declared.following.Follower.{Follower}
use Rattle.execution_scripts.specs.declared.way.Way.{Way}
use Rattle.execution_scripts.proofs.Going.{at, line_within, within_more}
use Rattle.execution_scripts.proofs.Moving.{goes_done}

-- since it stood at a place, hart h has done i instructions as its line says, k calls among them
pub record HasGone (c : Course) (n h k i : ℕ) (from : Standing) (f : Follower) : Type 0 where
  pub on : IsOn c n f
  pub within : AreWithin c.lines (at f)
  pub runs : Runs c.image (line_of c.lines h) n h k from (at f)
  pub done : done_by (at f) h ≡ done_by from h + i

-- how many are left to it, from where it stood
pub record AreLeft (c : Course) (h left : ℕ) (from : Standing) : Type 0 where
  pub fits : (line_of c.lines h).steps < 2 ^ 64
  pub left_is : left ≡ (line_of c.lines h).steps - done_by from h

pub are_left : (c : Course) (n h left : ℕ) (f : Follower) → IsOn c n f → (line_of (map hart_view f.parts.now) h).steps < 2 ^ 64 →
    left ≡ (line_of (map hart_view f.parts.now) h).steps - done_by (at f) h → AreLeft c h left (at f)
are_left c n h left f o fits is = record {
  fits = subst (λ (ls : List HartDeeds). (line_of ls h).steps < 2 ^ 64) o.lines fits;
  left_is = subst (λ (ls : List HartDeeds). left ≡ (line_of ls h).steps - done_by (at f) h) o.lines is;
}

pub gone_none : (c : Course) (n h : ℕ) (f : Follower) → IsOn c n f → AreWithin c.lines (at f) → HasGone c n h 0 0 (at f) f
gone_none c n h f o w = record { on = o; within = w; runs = runs-none (at f); done = omega arith }

-- another one is left to it
pub gone_left : (c : Course) (n h k i left : ℕ) (from : Standing) (f : Follower) → HasGone c n h k i from f → AreLeft c h left from → i < left → done_by (at f) h < (line_of c.lines h).steps
gone_left c n h k i left from f g a l = omega (arith, g.done, a.left_is, l)

pub gone_there : (c : Course) (n h k i left : ℕ) (from : Standing) (f : Follower) → HasGone c n h k i from f → AreLeft c h left from → i < left → h < length c.lines
gone_there c n h k i left from f g a l = line_within c.lines h (omega (arith, a.left_is, l))

pub gone_more : (c : Course) (n h k i left : ℕ) (b : Bool) (from : Standing) (f f' : Follower) → HasGone c n h k i from f → AreLeft c h left from → i < left → IsOn c n f' →
    (s : Reads c.image (line_of c.lines h) n h (at f) (at f')) → calls s ≡ b → HasGone c n h (if b then k + 1 else k) (i + 1) from f'
gone_more c n h k i left b from f f' g a l o s is =
    let m : done_by (at f) h < (line_of c.lines h).steps = gone_left c n h k i left from f g a l in
    let more : done_by (at f') h ≡ done_by (at f) h + 1 = goes_done c.image h (line_of c.lines h).steps (at f) (at f') s.goes m a.fits in
    record {
      on = o;
      within = within_more c.lines c.image n h (at f) (at f') s m a.fits g.within;
      runs = subst (λ (x : Bool). Runs c.image (line_of c.lines h) n h (if x then k + 1 else k) from (at f')) is (runs-more k from (at f) (at f') g.runs m s);
      done = omega (arith, more, g.done);
    }

-- all that was left is done
pub gone_enough : (c : Course) (n h k i left : ℕ) (from : Standing) (f : Follower) → HasGone c n h k i from f → AreLeft c h left from → left ≤ i → (line_of c.lines h).steps ≤ done_by (at f) h
gone_enough c n h k i left from f g a l = omega (arith, g.done, a.left_is, l)

pub gone_all : (c : Course) (n h k i left : ℕ) (from : Standing) (f : Follower) → HasGone c n h k i from f → AreLeft c h left from → left ≤ i → done_by (at f) h ≡ (line_of c.lines h).steps
gone_all c n h k i left from f g a l = let v = g.within h in let m = gone_enough c n h k i left from f g a l in omega (arith, m, v)

-- the next one is a call
pub gone_to_call : (c : Course) (n h i left : ℕ) (from : Standing) (f f' : Follower) → HasGone c n h 0 i from f → AreLeft c h left from → i < left →
    (s : Reads c.image (line_of c.lines h) n h (at f) (at f')) → calls s ≡ true → Calls c.image (line_of c.lines h) n h from (at f')
gone_to_call c n h i left from f f' g a l s is = record {
  before = at f;
  runs = g.runs;
  left = gone_left c n h 0 i left from f g a l;
  last = s;
  call = is;
}

-- ---- a misfit in one loop is one of the whole

call_by_go : (m : Misfit) (image : Memory) (line : HartDeeds) (n h : ℕ) (p : Standing) → done_by p h < line.steps → IsGoMisfit m image line n h p → IsCallMisfit m image line n h p
call_by_go NoCall image line n h p l w = absurd w
call_by_go NoStep image line n h p l w = (l, w)
call_by_go NoNumber image line n h p l w = (l, w)
call_by_go (OtherNumber read said) image line n h p l w = (l, w)
call_by_go Stops image line n h p l w = (l, w)
call_by_go RunsOn image line n h p l w = (l, w)
call_by_go (OtherExit v) image line n h p l w = (l, w)
call_by_go (OtherStop k) image line n h p l w = (l, w)
call_by_go RunsOnWithValue image line n h p l w = (l, w)
call_by_go NumbersLeft image line n h p l w = (l, w)
call_by_go NoRound image line n h p l w = (l, w)
call_by_go Otherwise image line n h p l w = (l, w)
call_by_go NoOperation image line n h p l w = (l, w)

end_by_step : (m : Misfit) (image : Memory) (line : HartDeeds) (n h : ℕ) (p : Standing) → (done_by p h < line.steps) ⊎ (line.code ≢ 0) → IsStepMisfit m image line n h p → IsEndMisfit m image line n h p
end_by_step NoStep image line n h p l w = (l, w)
end_by_step NoNumber image line n h p l w = (l, w)
end_by_step (OtherNumber read said) image line n h p l w = (l, w)
end_by_step Stops image line n h p l w = absurd w
end_by_step RunsOn image line n h p l w = absurd w
end_by_step (OtherExit v) image line n h p l w = absurd w
end_by_step (OtherStop k) image line n h p l w = absurd w
end_by_step RunsOnWithValue image line n h p l w = absurd w
end_by_step NumbersLeft image line n h p l w = absurd w
end_by_step NoCall image line n h p l w = absurd w
end_by_step NoRound image line n h p l w = absurd w
end_by_step Otherwise image line n h p l w = absurd w
end_by_step NoOperation image line n h p l w = absurd w

pub go_by_step : (m : Misfit) (image : Memory) (line : HartDeeds) (n h : ℕ) (p : Standing) → IsStepMisfit m image line n h p → IsGoMisfit m image line n h p
go_by_step Stops image line n h p w = absurd w
go_by_step NoStep image line n h p w = w
go_by_step NoNumber image line n h p w = w
go_by_step (OtherNumber read said) image line n h p w = w
go_by_step RunsOn image line n h p w = w
go_by_step (OtherExit v) image line n h p w = w
go_by_step (OtherStop k) image line n h p w = w
go_by_step RunsOnWithValue image line n h p w = w
go_by_step NumbersLeft image line n h p w = w
go_by_step NoCall image line n h p w = w
go_by_step NoRound image line n h p w = w
go_by_step Otherwise image line n h p w = w
go_by_step NoOperation image line n h p w = w

end_by_go : (m : Misfit) (image : Memory) (line : HartDeeds) (n h : ℕ) (p : Standing) → done_by p h < line.steps → IsGoMisfit m image line n h p → IsEndMisfit m image line n h p
end_by_go Stops image line n h p l w = (l, w)
end_by_go NoStep image line n h p l w = (inl l, w)
end_by_go NoNumber image line n h p l w = (inl l, w)
end_by_go (OtherNumber read said) image line n h p l w = (inl l, w)
end_by_go RunsOn image line n h p l w = absurd w
end_by_go (OtherExit v) image line n h p l w = absurd w
end_by_go (OtherStop k) image line n h p l w = absurd w
end_by_go RunsOnWithValue image line n h p l w = absurd w
end_by_go NumbersLeft image line n h p l w = absurd w
end_by_go NoCall image line n h p l w = absurd w
end_by_go NoRound image line n h p l w = absurd w
end_by_go Otherwise image line n h p l w = absurd w
end_by_go NoOperation image line n h p l w = absurd w

pub call_misfit : (c : Course) (n h i left : ℕ) (from : Standing) (f : Follower) (x : Fault) → HasGone c n h 0 i from f → AreLeft c h left from → i < left →
    IsFaultAt IsGoMisfit c.image (line_of c.lines h) n h (at f) x → IsFaultAfter IsCallMisfit c.image (line_of c.lines h) n h 0 from x
call_misfit c n h i left from f x g a l w = record {
  place = at f;
  runs = g.runs;
  fault = record { hart = w.hart; step = w.step; why = call_by_go x.misfit c.image (line_of c.lines h) n h (at f) (gone_left c n h 0 i left from f g a l) w.why };
}

pub end_misfit : (c : Course) (n h k i left : ℕ) (from : Standing) (f : Follower) (x : Fault) → HasGone c n h k i from f → AreLeft c h left from → i < left →
    IsFaultAt IsGoMisfit c.image (line_of c.lines h) n h (at f) x → IsFaultAfter IsEndMisfit c.image (line_of c.lines h) n h k from x
end_misfit c n h k i left from f x g a l w = record {
  place = at f;
  runs = g.runs;
  fault = record { hart = w.hart; step = w.step; why = end_by_go x.misfit c.image (line_of c.lines h) n h (at f) (gone_left c n h k i left from f g a l) w.why };
}

pub stop_misfit : (image : Memory) (line : HartDeeds) (n h : ℕ) (p : Standing) (x : Fault) → line.code ≢ 0 → IsFaultAt IsStepMisfit image line n h p x → IsFaultAt IsEndMisfit image line n h p x
stop_misfit image line n h p x some w = record { hart = w.hart; step = w.step; why = end_by_step x.misfit image line n h p (inr some) w.why }

-- ---- how a hart ends

exits_with_1 : (s : Option Stop) (v : ℕ) → value_of s ≡ Some v → code_of s ≡ 1
exits_with_1 None v e = absurd cc
exits_with_1 (Some s) v e = of_test (s.code == 1) refl e
  where
    of_test : (b : Bool) → (s.code == 1) ≡ b → (if b then Some s.value else None) ≡ Some v → s.code ≡ 1
    of_test true is e = eqb-true s.code 1 is
    of_test false is e = absurd cc

-- the step after all of a hart's instructions was no stop, or another one than is said
pub stop_why : (m : Misfit) (image : Memory) (line : HartDeeds) (n h : ℕ) (p q : Standing) (taken : Taken) (stop : Option Stop) → EndsOtherwise taken stop line.code line.value m →
    Took taken image line n h p q → stop ≡ stop_by q h → done_by p h ≡ line.steps → line.code ≢ 0 → IsEndMisfit m image line n h p
stop_why RunsOn image line n h p q Done stop w t is all some = (all, some, record { after = q; goes = t.0.goes; round = t.0.round })
stop_why RunsOn image line n h p q (Called b) stop w t is all some = (all, some, record { after = q; goes = t.0.goes; round = t.0.round })
stop_why RunsOn image line n h p q Stopped stop w t is all some = absurd (w refl)
stop_why (OtherExit v) image line n h p q taken stop w t is all some =
    let s = subst (λ (x : Taken). Took x image line n h p q) w.0 t in
    let one : code_of stop ≡ 1 = exits_with_1 stop v w.1 in
    record {
      all = all;
      said = some;
      stops = (q, record { stops = s.0; round = s.1; code = ap code_of (sym is) ∙ one; value = ap value_of (sym is) ∙ w.1 });
      other = λ code value. w.2 (one ∙ code) (w.1 ∙ value);
    }
stop_why (OtherStop k) image line n h p q taken stop w t is all some =
    let s = subst (λ (x : Taken). Took x image line n h p q) w.0 t in
    record {
      all = all;
      said = some;
      stops = (q, record { stops = s.0; round = s.1; code = ap code_of (sym is) ∙ w.1; value = ap value_of (sym is) ∙ w.2 });
      other = λ code value. w.3 (w.1 ∙ code) (w.2 ∙ value);
    }
stop_why NoStep image line n h p q taken stop w t is all some = absurd w
stop_why NoNumber image line n h p q taken stop w t is all some = absurd w
stop_why (OtherNumber read said) image line n h p q taken stop w t is all some = absurd w
stop_why Stops image line n h p q taken stop w t is all some = absurd w
stop_why RunsOnWithValue image line n h p q taken stop w t is all some = absurd w
stop_why NumbersLeft image line n h p q taken stop w t is all some = absurd w
stop_why NoCall image line n h p q taken stop w t is all some = absurd w
stop_why NoRound image line n h p q taken stop w t is all some = absurd w
stop_why Otherwise image line n h p q taken stop w t is all some = absurd w
stop_why NoOperation image line n h p q taken stop w t is all some = absurd w

-- a halt that is for a fault of one kind is for one of another
pub on_fault_by : (halt : Halt) (P Q : Fault → Type 0) → OnFault halt P → ((x : Fault) → P x → Q x) → OnFault halt Q
on_fault_by (halts.Fault x) P Q p w = w x p
on_fault_by halts.OutOfMemory P Q p w = tt

-- ---- several calls, and several ends

pub record CallsDone (c : Course) (us : List Turn) (n : ℕ) (f : Follower) : Type 0 where
  pub on : IsOn c n f
  pub within : AreWithin c.lines (at f)
  pub called : AreCalled c.image c.lines c.start us n (at f)

pub calls_none : (c : Course) (f : Follower) → IsOn c 0 f → AreWithin c.lines (at f) → at f ≡ c.start → CallsDone c [] 0 f
calls_none c f o w s = record { on = o; within = w; called = subst (AreCalled c.image c.lines c.start [] 0) (sym s) called-none }

pub calls_more : (c : Course) (us : List Turn) (u : Turn) (n : ℕ) (f f1 f2 : Follower) → CallsDone c us n f → IsRound n u.number → f1.way ≡ f.way → IsOn c (round_from n u.number) f2 → AreWithin c.lines (at f2) →
    Calls c.image (line_of c.lines u.hart) (round_from n u.number) u.hart (at f1) (at f2) → CallsDone c (us ++ u ∷ []) (round_from n u.number) f2
calls_more c us u n f f1 f2 g round same o w x = record {
  on = o;
  within = w;
  called = called-more us u n (at f) (at f2) g.called round
      (subst (λ (v : Way). Calls c.image (line_of c.lines u.hart) (round_from n u.number) u.hart v.execution.standing (at f2)) same x);
}

pub record EndsDone (c : Course) (n k : ℕ) (from : Standing) (f : Follower) : Type 0 where
  pub on : IsOn c n f
  pub within : AreWithin c.lines (at f)
  pub ended : HaveEnded c.image c.lines n from k (at f)

pub ends_none : (c : Course) (n : ℕ) (f : Follower) → IsOn c n f → AreWithin c.lines (at f) → EndsDone c n 0 (at f) f
ends_none c n f o w = record { on = o; within = w; ended = ended-none }

pub ends_more : (c : Course) (n k : ℕ) (from : Standing) (f f' : Follower) → EndsDone c n k from f → IsOn c n f' → AreWithin c.lines (at f') → Ends c.image (line_of c.lines k) n k (at f) (at f') →
    EndsDone c n (k + 1) from f'
ends_more c n k from f f' g o w x = record { on = o; within = w; ended = ended-more k (at f) (at f') g.ended x }

-- ---- where a call isn't done, or a hart doesn't end

-- an instruction of hart h isn't as its line says, where a follower stands
abbrev pub Misses : Reason → Follower → ℕ → Fault → Type 0
Misses Why f h x = (k : Course) (n : ℕ) → IsOn k n f → h < length k.lines → IsFaultAt Why k.image (line_of k.lines h) n h (at f) x

abbrev pub no_turn : TurnHeld
no_turn = record { hart = 0; number = None }

abbrev pub turn_at : List TurnHeld → ℕ → Turn
turn_at us i = turn_view (get_or us i no_turn)

turn_there : (us : List TurnHeld) (i : ℕ) → i < length us → slice_get (map turn_view us) i ≡ Some (turn_at us i)
turn_there us i l = slice_get-map turn_view us i ∙ ap (option_map turn_view) (slice_get-get_or us i no_turn l)

pub turns_next : (us : List TurnHeld) (i : ℕ) → i < length us → take (i + 1) (map turn_view us) ≡ take i (map turn_view us) ++ turn_at us i ∷ []
turns_next us i l =
    take_more (map turn_view us) i (turn_at us i) (omega (arith, l, length-map us turn_view))
    ∙ ap (λ (x : Turn). take i (map turn_view us) ++ x ∷ []) (get_or-map turn_view us i no_turn (turn_at us i) l)

pub no_round : (c : Course) (us : List TurnHeld) (i n : ℕ) (f : Follower) (x : Fault) → i < length us → CallsDone c (take i (map turn_view us)) n f → HasNoRound n (turn_at us i) (at f) x →
    StopsInCall c.image c.lines (map turn_view us) c.start x
no_round c us i n f x l g w = record { index = i; turn = turn_at us i; is_turn = turn_there us i l; round = n; from = at f; before = g.called; why = inl w }

pub no_call : (c : Course) (us : List TurnHeld) (i n : ℕ) (f f1 : Follower) (x : Fault) → i < length us → CallsDone c (take i (map turn_view us)) n f → IsRound n (turn_at us i).number → f1.way ≡ f.way →
    IsFaultAfter IsCallMisfit c.image (line_of c.lines (turn_at us i).hart) (round_from n (turn_at us i).number) (turn_at us i).hart 0 (at f1) x →
    StopsInCall c.image c.lines (map turn_view us) c.start x
no_call c us i n f f1 x l g round same w = record {
  index = i;
  turn = turn_at us i;
  is_turn = turn_there us i l;
  round = n;
  from = at f;
  before = g.called;
  why = inr (
    round,
    subst (λ (v : Way).
        IsFaultAfter IsCallMisfit c.image (line_of c.lines (turn_at us i).hart) (round_from n (turn_at us i).number) (turn_at us i).hart 0 v.execution.standing x) same w,
  );
}

pub within_same : (lines : List HartDeeds) (f f1 : Follower) → f1.way ≡ f.way → AreWithin lines (at f) → AreWithin lines (at f1)
within_same lines f f1 same w = subst (λ (v : Way). AreWithin lines v.execution.standing) (sym same) w

-- the line of a part
pub part_line : (c : Course) (n i : ℕ) (f : Follower) (part : HartHeld) → IsOn c n f → i < length f.parts.now → part ≡ get_or f.parts.now i part → hart_view part ≡ line_of c.lines i
part_line c n i f part o l is =
    ap hart_view is ∙ sym (get_or-map hart_view f.parts.now i part no_line l) ∙ ap (λ (ls : List HartDeeds). line_of ls i) o.lines

pub parts_count : (c : Course) (n : ℕ) (f : Follower) → IsOn c n f → length c.lines ≡ length f.parts.now
parts_count c n f o = sym (ap length o.lines) ∙ length-map f.parts.now hart_view

-- the number of a hart is that of its part
pub same_number : (c : Course) (n i h : ℕ) (f : Follower) → IsOn c n f → i < length f.parts.now → h ≡ i % 256 → h ≡ i
same_number c n i h f o l is = let m = parts_count c n f o in let few = o.few in omega (arith, l, m, few, is)
