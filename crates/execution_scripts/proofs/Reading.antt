-- What a step that shows a number, or none, leaves of a hart's line.
use Rattle.std.proofs.Common.{◌≡◌, ℕ, zero, suc, ◌+◌, ◌<◌, ◌≤◌, List, [], ◌∷◌, ◌++◌, get_or, length, slice_get, take, Option, Some, None, ap, refl, subst, sym, ◌∙◌, arith}
use Rattle.std.proofs.lemmas.List.{append-nil, length-take-le, take_more, take_all}
use Rattle.std.proofs.lemmas.Option.{get_or_from_slice_get, slice_get_within}
use Rattle.pages.specs.Memory.{Memory}
use Rattle.round_schedule.specs.declared.event.Event.{Event}
use Rattle.execution.specs.Executions.{Goes, Standing}
use Rattle.execution_file.specs.Recorded.{HartDeeds}
use Rattle.execution_file.specs.Deeds.{number_shown, numbers_of}
use Rattle.execution_scripts.proofs.Numbers.{numbers_more, shows_none, shows_one}
use Rattle.execution_scripts.specs.Courses.{HasRead}

-- an instruction that shows no number
pub none_more : (image : Memory) (h : ℕ) (p q : Standing) (g : Goes image h p q) → number_shown g.event.access ≡ None → numbers_of h q.events ≡ numbers_of h p.events
none_more image h p q g none =
    ap (numbers_of h) g.events ∙ numbers_more h p.events g.event
    ∙ ap (λ (ns : List ℕ). numbers_of h p.events ++ ns) (shows_none h g.event none)
    ∙ append-nil (numbers_of h p.events)

-- one that shows this number
pub one_more_shown : (image : Memory) (h v : ℕ) (p q : Standing) (g : Goes image h p q) → number_shown g.event.access ≡ Some v → numbers_of h q.events ≡ numbers_of h p.events ++ v ∷ []
one_more_shown image h v p q g shown =
    ap (numbers_of h) g.events ∙ numbers_more h p.events g.event
    ∙ ap (λ (ns : List ℕ). numbers_of h p.events ++ ns) (shows_one h g.event v shown g.event_of.hart)

-- how many numbers were read
pub how_many : (line : HartDeeds) (numbers : List ℕ) (used : ℕ) → HasRead line numbers used → length numbers ≡ used
how_many line numbers used r = ap length r.are ∙ length-take-le used line.reads r.within

-- what was read is how the line begins
pub begins : (line : HartDeeds) (numbers : List ℕ) (used : ℕ) → HasRead line numbers used → numbers ≡ take (length numbers) line.reads
begins line numbers used r = r.are ∙ ap (λ (k : ℕ). take k line.reads) (sym (how_many line numbers used r))

-- the next number of the line was read
pub read_more : (line : HartDeeds) (numbers more : List ℕ) (used v : ℕ) → HasRead line numbers used → slice_get line.reads used ≡ Some v → more ≡ numbers ++ v ∷ [] → HasRead line more (used + 1)
read_more line numbers more used v r next is =
    let l : used < length line.reads = slice_get_within line.reads used v next in
    record {
      are =
          is ∙ ap (λ (ns : List ℕ). ns ++ v ∷ []) r.are
          ∙ ap (λ (x : ℕ). take used line.reads ++ x ∷ []) (sym (get_or_from_slice_get line.reads used v 0 next))
          ∙ sym (take_more line.reads used 0 l);
      within = omega (arith, l);
    }

-- all of it was read, where no number is next
pub read_all : (line : HartDeeds) (numbers : List ℕ) (used : ℕ) → HasRead line numbers used → slice_get line.reads used ≡ None → line.reads ≡ numbers
read_all line numbers used r none = sym (r.are ∙ take_all used line.reads (past line.reads used none))
  where
    past : (xs : List ℕ) (i : ℕ) → slice_get xs i ≡ None → length xs ≤ i
    past [] i e = omega arith
    past (x ∷ xs) zero e = absurd cc
    past (x ∷ xs) (suc i) e = let l = past xs i e in omega (arith, l)
