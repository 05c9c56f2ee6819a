-- The bytes of one of many pages.
use Rattle.std.proofs.Common.{◌≡◌, ℕ, zero, suc, ◌+◌, ◌*◌, ◌<◌, List, [], ◌∷◌, ◌++◌, length, take, drop, sym, ap, ◌∙◌, arith, false, subst, get_or, ◌^◌, Option, None, Some, MatchOption, Bor}
use Rattle.std.proofs.Math.Seq.{drop-append-add}
use Rattle.std.proofs.lemmas.List.{take_at}
use Rattle.pages.specs.Flat.{Page, absent, blank, flat, full, is_ready, page_bytes}
use Rattle.pages.proofs.Page.{length-full, full_absent, full_ready}

drop_pages : (ps : List Page) (i : ℕ) → i < length ps → take 4096 (drop (4096 * i) (flat ps)) ≡ full (get_or ps i absent)
drop_pages [] i l = absurd (omega arith)
drop_pages (p ∷ ps) zero l =
    let place : 4096 * 0 ≡ 0 = omega arith in
    ap (λ n. take 4096 (drop n (full p ++ flat ps))) place ∙ take_at (full p) (flat ps) 4096 (length-full p)
drop_pages (p ∷ ps) (suc i) l =
    let place : 4096 * suc i ≡ length (full p) + 4096 * i = omega (arith, length-full p) in
    ap (λ n. take 4096 (drop n (full p ++ flat ps))) place ∙ ap (take 4096) (drop-append-add (full p) (flat ps) (4096 * i)) ∙ drop_pages ps i (omega arith)

pub page_bytes-flat : (ps : List Page) (i : ℕ) → i < length ps → page_bytes (flat ps) i ≡ full (get_or ps i absent)
unfolding page_bytes
page_bytes-flat ps i l = drop_pages ps i l

-- what a page lends
pub page_lent : (ps : List Page) (bs : List ℕ) (i n : ℕ) (p : Page) (r : Option (Bor (List ℕ))) → flat ps ≡ bs → i < length ps → p ≡ get_or ps i absent → MatchOption r ((is_ready p ≡ false) × (full p ≡ blank)) (λ b. b.now ≡ full p) → MatchOption r (i < n → page_bytes bs i ≡ blank) (λ b. b.now ≡ page_bytes bs i)
page_lent ps bs i n p None e l q h = λ _. ap (λ zs. page_bytes zs i) (sym e) ∙ page_bytes-flat ps i l ∙ ap full (sym q) ∙ h.1
page_lent ps bs i n p (Some b) e l q h = h ∙ ap full q ∙ sym (page_bytes-flat ps i l) ∙ ap (λ zs. page_bytes zs i) e

-- what a page holds is what it reads
pub held_bytes : (p : Page) (bs : List ℕ) (r : Option (Bor (List ℕ))) → bs ≡ p.bytes → (length bs ≡ 0 → is_ready p ≡ false) → (0 < length bs → length bs ≡ 4096) → MatchOption r (length bs ≡ 0) (λ b. (0 < length bs) × (b.now ≡ bs) × ((k : ℕ) → get_or bs k 0 < 2 ^ 8)) → MatchOption r ((is_ready p ≡ false) × (full p ≡ blank)) (λ b. b.now ≡ full p)
held_bytes p bs None e none all h = (none h, full_absent p (ap length (sym e) ∙ h))
held_bytes p bs (Some b) e none all h = h.1 ∙ e ∙ sym (full_ready p (ap length (sym e) ∙ all h.0) (subst (λ (zs : List ℕ). (k : ℕ) → get_or zs k 0 < 2 ^ 8) e h.2))
