use Rattle.std.proofs.Common.{◌≡◌, ◌/◌, [], ◌∷◌, ℕ, List, true, All, None, rules}
use Rattle.std.proofs.lemmas.List.Elements.{All-cons, All-nil, All-head, All-same, All-tail}
use Rattle.pages.specs.declared.access.Store.{Store}
use Rattle.pages.specs.Memory.{store_fault}
use Rattle.pages.specs.Paged.{is_page_ready}
use Rattle.store_buffer.specs.Covered.{one_byte, stores_of}
use Rattle.phase_tests.proofs.commits.fits.Goals as goal

all_bytes : (P : Store → Type 0) (es : List (ℕ × ℕ)) → All P (stores_of es) → All (λ (e : ℕ × ℕ). P (one_byte e)) es
all_bytes P [] h = All-nil (λ (e : ℕ × ℕ). P (one_byte e))
all_bytes P (e ∷ es) h =
    All-cons (λ (e : ℕ × ℕ). P (one_byte e)) e es (All-head P (one_byte e) (stores_of es) h) (all_bytes P es (All-tail P (one_byte e) (stores_of es) h))

pub loop-s-preserved : goal.loop-s-preserved
loop-s-preserved c =
    let m = c.args.pages.now.memory in
    let fits : Store → Type 0 = λ (s : Store). store_fault m s.address s.width ≡ None in
    let ready : Store → Type 0 = λ (s : Store). is_page_ready c.args.pages.now (s.address / 4096) ≡ true in
    record {
      fits = λ rest. c.loop-s.invariant.fits (All-same fits _ _ c.in-Some.ensures.steps (All-cons fits c.in-Some.s _ (c.is_writable.ensures.fits (search rules)) rest));
      ready = λ rest. c.loop-s.invariant.ready (All-same ready _ _ c.in-Some.ensures.steps (All-cons ready c.in-Some.s _ (c.is_writable.ensures.ready (search rules)) rest));
    }

pub returns-clause-fits : goal.returns-clause-fits
returns-clause-fits c = λ _.
    let fits : Store → Type 0 = λ (s : Store). store_fault c.args.pages.now.memory s.address s.width ≡ None in
    all_bytes fits c.args.buffer.now (c.loop-s.invariant.fits (All-same fits _ _ c.in-None.ensures.steps.0 (All-nil fits)))

pub returns-clause-ready : goal.returns-clause-ready
returns-clause-ready c = λ _.
    let ready : Store → Type 0 = λ (s : Store). is_page_ready c.args.pages.now (s.address / 4096) ≡ true in
    all_bytes ready c.args.buffer.now (c.loop-s.invariant.ready (All-same ready _ _ c.in-None.ensures.steps.0 (All-nil ready)))
