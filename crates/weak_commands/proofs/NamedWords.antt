-- Words that name fences, one after the other.
use Rattle.std.proofs.Common.{◌≡◌, ◌<◌, ◌+◌, ℕ, Bor, Err, List, Ok, [], ◌∷◌, ◌++◌, ap, drop, get_or, inl, inr, length, map, refl}
use Rattle.std.proofs.lemmas.List.{drop_more}
use Rattle.pages.specs.declared.access.Range.{Range}
use Rattle.weak_commands.specs.Places.{AreFences, IsFence, IsFirstMisplaced}
use Rattle.program_files.specs.declared.reasons.Misplaced.{Misplaced}
use Rattle.timed_machine.specs.declared.assumed.AssumedFence.{AssumedFence}

-- the word at a place, and those behind it
pub at_word : (words : List (Bor (List ℕ))) (i : ℕ) (d : Bor (List ℕ)) → i < length words → map (λ s. s.now) (drop i words) ≡ (get_or words i d).now ∷ map (λ s. s.now) (drop (i + 1) words)
at_word words i d less = ap (λ (ws : List (Bor (List ℕ))). map (λ s. s.now) ws) (drop_more words i d less)

-- what the words that are left name is what all of them name, and the first of them that names none is the first of all
pub record Halfway (file : List ℕ) (code : List Range) (all left : List (List ℕ)) (fences : List AssumedFence) : Type 0 where
  pub named : (after : List AssumedFence) → AreFences file code left fences after → AreFences file code all [] after
  pub misplaced : (word : List ℕ) (why : Misplaced) → IsFirstMisplaced file code left word why → IsFirstMisplaced file code all word why

pub at_first : (file : List ℕ) (code : List Range) (all : List (List ℕ)) → Halfway file code all all []
at_first file code all = record { named = λ after h. h; misplaced = λ word why h. h }

pub one_more : (file : List ℕ) (code : List Range) (all : List (List ℕ)) (word : List ℕ) (rest : List (List ℕ)) (fences : List AssumedFence) (fence : AssumedFence) →
    Halfway file code all (word ∷ rest) fences → IsFence file code word (Ok fence) → Halfway file code all rest (fences ++ fence ∷ [])
one_more file code all word rest fences fence h is = record {
  named = λ after r. h.named after (fence, is, r);
  misplaced = λ other why r. h.misplaced other why (inr ((fence, is), r));
}

pub first_of : (file : List ℕ) (code : List Range) (all : List (List ℕ)) (word : List ℕ) (rest : List (List ℕ)) (fences : List AssumedFence) (why : Misplaced) →
    Halfway file code all (word ∷ rest) fences → IsFence file code word (Err why) → IsFirstMisplaced file code all word why
first_of file code all word rest fences why h is = h.misplaced word why (inl (refl, is))

pub at_last : (file : List ℕ) (code : List Range) (all : List (List ℕ)) (fences : List AssumedFence) → Halfway file code all [] fences → AreFences file code all [] fences
at_last file code all fences h = h.named fences refl
