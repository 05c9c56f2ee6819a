-- The lines of harts and of ranges are read from what is written.
use Rattle.std.proofs.Common.{◌≡◌, ◌≢◌, ℕ, suc, ◌+◌, ◌*◌, ◌/◌, ◌-◌, ◌^◌, ◌<◌, ◌==◌, ◌&&◌, Bool, true, false, min, if◌then◌else◌, List, [], ◌∷◌, ◌++◌, All, length, drop, take, Option, Some, None, refl, sym, ◌∙◌, ap, append_assoc, arith}
use Rattle.std.specs.Prelude.{codes}
use Rattle.std.specs.Fmt.{decimal}
use Rattle.std.specs.List.{list_all, prefix_len}
use Rattle.std.proofs.lemmas.Bool.Decides.{nat_tests}
use Rattle.std.proofs.lemmas.List.{drop-drop, drop_at, length-append, take_at}
use Rattle.hart_step.specs.declared.hart.Stop.{Stop}
use Rattle.plan_hunt.specs.declared.hart_ending.HartEnding.{HartEnding}
use Rattle.plan_hunt.specs.declared.hart_ending.HartEnding.TheVariants.{Loops, Runs, Stopped}
use Rattle.hunt_table.specs.Names.{is_name_byte, name_of}
use Rattle.hunt_table.specs.Text.{hart_words, name_word, seen_line, stop_line}
use Rattle.hunt_table.specs.declared.seen_range.SeenRange.{SeenRange}
use Rattle.report_lines.specs.Text.{bytes_text, hex}
use Rattle.hunt_table.specs.Reading.{bytes_at, is_seen_line, is_stop_line, name_at, named_at, seen_bytes, seen_line_at, stop_at, stop_line_at, word_at}
use Rattle.hunt_table.specs.Told.{IsToldName, IsToldRange, IsToldStop}
use Rattle.hunt_table.proofs.Numbers.{after_bytes, bytes_again, hex_at_front, length-bytes_text, number_again, word_again}

-- ---- harts

exit_again : (v : ℕ) (rest : List ℕ) → v < 2 ^ 64 → stop_at ((codes "exit " ++ hex 16 v) ++ 10 ∷ rest) ≡ (Stopped (record { code = 1; value = v }), 10 ∷ rest)
exit_again v rest small =
    let front = hex_at_front 16 v (10 ∷ rest) (omega (arith, small)) small in
    ap stop_at (append_assoc (codes "exit ") (hex 16 v) (10 ∷ rest))
    ∙ ap (λ (n : ℕ). (Stopped (record { code = 1; value = n }), drop 16 (hex 16 v ++ 10 ∷ rest))) front.0
    ∙ ap (λ (t : List ℕ). (Stopped (record { code = 1; value = v }), t)) front.1

code_again : (k : ℕ) (rest : List ℕ) → k < 2 ^ 8 → stop_at ((codes "stop " ++ decimal k) ++ 10 ∷ rest) ≡ (Stopped (record { code = k; value = 0 }), 10 ∷ rest)
code_again k rest small =
    let few : min k 255 ≡ k = omega (arith, small) in
    ap stop_at (append_assoc (codes "stop ") (decimal k) (10 ∷ rest))
    ∙ ap (λ (p : ℕ × List ℕ). (Stopped (record { code = min p.0 255; value = 0 }), p.1)) (number_again k 10 rest (omega (arith, small)) refl)
    ∙ ap (λ (n : ℕ). (Stopped (record { code = n; value = 0 }), 10 ∷ rest)) few

is_one : (n : ℕ) → (n == 1) ≡ true → n ≡ 1
is_one n e = grind (arith, nat_tests)

not_one : (n : ℕ) → (n == 1) ≡ false → n ≢ 1
not_one n e = grind (arith, nat_tests)

stop_by : (s : Stop) (rest : List ℕ) (t : Bool) → (s.code == 1) ≡ t → IsToldStop (Stopped s) →
    stop_at ((if t then codes "exit " ++ hex 16 s.value else codes "stop " ++ decimal s.code) ++ 10 ∷ rest) ≡ (Stopped s, 10 ∷ rest)
stop_by s rest true e h =
    exit_again s.value rest h.1 ∙ ap (λ (k : ℕ). (Stopped (record { code = k; value = s.value }), 10 ∷ rest)) (sym (is_one s.code e))
stop_by s rest false e h =
    code_again s.code rest h.0 ∙ ap (λ (v : ℕ). (Stopped (record { code = s.code; value = v }), 10 ∷ rest)) (sym (h.2 (not_one s.code e)))

stop_again : (s : HartEnding) (rest : List ℕ) → IsToldStop s → stop_at (hart_words s ++ 10 ∷ rest) ≡ (s, 10 ∷ rest)
stop_again Runs rest h = refl
stop_again Loops rest h = refl
stop_again (Stopped s) rest h = stop_by s rest (s.code == 1) refl h

pub five : (a b c d e r : List ℕ) → (a ++ b ++ c ++ d ++ e) ++ r ≡ a ++ (b ++ (c ++ (d ++ (e ++ r))))
five a b c d e r = simp append_assoc

pub stop_line_again : (i : ℕ) (s : HartEnding) (rest : List ℕ) → i < 2 ^ 64 → IsToldStop s → (is_stop_line (stop_line i s ++ rest) ≡ true) × (stop_line_at (stop_line i s ++ rest) ≡ (s, rest))
unfolding stop_line stop_line_at
stop_line_again i s rest small h =
    let parts = five (codes "hart ") (decimal i) (codes " ") (hart_words s) (codes "\n") rest in (
      ap is_stop_line parts,
      ap stop_line_at parts
          ∙ ap (λ (p : ℕ × List ℕ). ((stop_at (drop 1 p.1)).0, drop 1 (stop_at (drop 1 p.1)).1)) (number_again i 32 (hart_words s ++ 10 ∷ rest) small refl)
          ∙ ap (λ (q : HartEnding × List ℕ). (q.0, drop 1 q.1)) (stop_again s rest h),
    )

-- ---- names

is_told : (t : Bool) (name : List ℕ) → (if t then Some name else None) ≡ Some name → t ≡ true
is_told true name e = refl
is_told false name e = absurd cc

are_name_bytes : (name : List ℕ) → name_of name ≡ Some name → list_all is_name_byte name ≡ true
are_name_bytes [] e = refl
are_name_bytes (b ∷ bs) e = is_told (list_all is_name_byte (b ∷ bs)) (b ∷ bs) e

both : (s t : Bool) → (s && t) ≡ true → (s ≡ true) × (t ≡ true)
both true t e = (refl, e)
both false t e = absurd cc

-- a name ends where the line does
name_bytes : (name rest : List ℕ) → list_all is_name_byte name ≡ true → prefix_len is_name_byte (name ++ 10 ∷ rest) ≡ length name
name_bytes [] rest e = refl
name_bytes (b ∷ bs) rest e =
    let parts = both (is_name_byte b) (list_all is_name_byte bs) e in
    ap (λ (t : Bool). if t then 1 + prefix_len is_name_byte (bs ++ 10 ∷ rest) else 0) parts.0
    ∙ ap (λ (n : ℕ). 1 + n) (name_bytes bs rest parts.1) ∙ one_more (length bs)
  where
    one_more : (n : ℕ) → 1 + n ≡ suc n
    one_more n = omega arith

name_again : (name : Option (List ℕ)) (rest : List ℕ) → IsToldName name → name_at (name_word name ++ 10 ∷ rest) ≡ (name, 10 ∷ rest)
unfolding name_at
name_again None rest h = refl
name_again (Some name) rest h =
    ap (λ (n : ℕ). (name_of (take n (name ++ 10 ∷ rest)), drop n (name ++ 10 ∷ rest))) (name_bytes name rest (are_name_bytes name h))
    ∙ ap (λ (v : List ℕ). (name_of v, drop (length name) (name ++ 10 ∷ rest))) (take_at name (10 ∷ rest) (length name) refl)
    ∙ ap (λ (o : Option (List ℕ)). (o, drop (length name) (name ++ 10 ∷ rest))) h
    ∙ ap (λ (v : List ℕ). (Some name, v)) (drop_at name (10 ∷ rest) (length name) refl)

-- ---- ranges

count_again : (l : ℕ) (bs rest : List ℕ) → length bs ≡ l → min l (length (bytes_text bs ++ rest) / 2) ≡ length bs
count_again l bs rest e = omega (arith, e, length-append (bytes_text bs) rest, length-bytes_text bs)

seen_bytes_again : (a l : ℕ) (name : Option (List ℕ)) (bs rest : List ℕ) → length bs ≡ l → IsToldName name → All (λ b. b < 2 ^ 8) bs →
    seen_bytes a l (bytes_text bs ++ (name_word name ++ 10 ∷ rest)) ≡ ((record { address = a; length = l; name = name }, bs), rest)
seen_bytes_again a l name bs rest e t h =
    let after : List ℕ = name_word name ++ 10 ∷ rest in
    let text : List ℕ = bytes_text bs ++ after in
    ap (λ (n : ℕ). named_at a l (bytes_at n text) (drop (2 * n) text)) (count_again l bs after e)
    ∙ ap (λ (v : List ℕ). named_at a l v (drop (2 * length bs) text)) (bytes_again bs after h)
    ∙ ap (named_at a l bs) (after_bytes bs after)
    ∙ ap (λ (p : Option (List ℕ) × List ℕ). ((record { address = a; length = l; name = p.0 }, bs), drop 1 p.1)) (name_again name rest t)

pub eight : (a b c d e f g h r : List ℕ) → ((a ++ b ++ c ++ d ++ e) ++ f ++ g ++ h) ++ r ≡ a ++ (b ++ (c ++ (d ++ (e ++ (f ++ (g ++ (h ++ r)))))))
eight a b c d e f g h r = simp append_assoc

seen_parts : (a l : ℕ) (name : Option (List ℕ)) (bs rest : List ℕ) → a < 2 ^ 32 → l < 2 ^ 32 → IsToldName name → length bs ≡ l → All (λ b. b < 2 ^ 8) bs →
    seen_line_at (codes "see " ++ (hex 8 a ++ (32 ∷ (decimal l ++ 32 ∷ (bytes_text bs ++ (name_word name ++ 10 ∷ rest))))))
    ≡ ((record { address = a; length = l; name = name }, bs), rest)
unfolding seen_line_at
seen_parts a l name bs rest low small t e h =
    let last : List ℕ = bytes_text bs ++ (name_word name ++ 10 ∷ rest) in
    let size : List ℕ = decimal l ++ 32 ∷ last in
    let front = hex_at_front 8 a (32 ∷ size) (omega (arith, low)) (omega (arith, low)) in
    let after : drop 9 (hex 8 a ++ 32 ∷ size) ≡ size = sym (drop-drop 1 8 (hex 8 a ++ 32 ∷ size)) ∙ ap (drop 1) front.1 in
    let kept : min a (2 ^ 32 - 1) ≡ a = omega (arith, low) in
    ap (λ (n : ℕ). seen_bytes (min n (2 ^ 32 - 1)) (word_at (drop 9 (hex 8 a ++ 32 ∷ size))).0 (drop 1 (word_at (drop 9 (hex 8 a ++ 32 ∷ size))).1)) front.0
    ∙ ap (λ (n : ℕ). seen_bytes n (word_at (drop 9 (hex 8 a ++ 32 ∷ size))).0 (drop 1 (word_at (drop 9 (hex 8 a ++ 32 ∷ size))).1)) kept
    ∙ ap (λ (v : List ℕ). seen_bytes a (word_at v).0 (drop 1 (word_at v).1)) after
    ∙ ap (λ (p : ℕ × List ℕ). seen_bytes a p.0 (drop 1 p.1)) (word_again l 32 last small refl)
    ∙ seen_bytes_again a l name bs rest e t h

pub seen_line_again : (r : SeenRange) (bs rest : List ℕ) → IsToldRange r → length bs ≡ r.length → All (λ b. b < 2 ^ 8) bs →
    (is_seen_line (seen_line r bs ++ rest) ≡ true) × (seen_line_at (seen_line r bs ++ rest) ≡ ((r, bs), rest))
unfolding seen_line
seen_line_again r bs rest t e h =
    let parts = eight (codes "see ") (hex 8 r.address) (codes " ") (decimal r.length) (codes " ") (bytes_text bs) (name_word r.name) (codes "\n") rest in
    (ap is_seen_line parts, ap seen_line_at parts ∙ seen_parts r.address r.length r.name bs rest t.0 t.1 t.2 e h)
