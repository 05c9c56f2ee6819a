use Rattle.std.proofs.Common.{◌*◌, ap, sym, ◌∙◌, refl, subst, true, false, arith}
use Rattle.std.proofs.lemmas.Result.{err_from_is_err_and}
use Rattle.elf_loader.proofs.Bytes.{file_bytes}
use Rattle.elf_loader.proofs.Causes.{exact}
use Rattle.elf_loader.proofs.ElfLaws.{clear, entry_refused, header_refused, none_stands, same_entry, segments_passed, segments_refused}
use Rattle.elf_loader.proofs.Pieces.{elf_is, elf_is_image}
use Rattle.elf_loader.specs.ElfCauses.{is_entry}
use Rattle.elf_loader.specs.ElfTests.{ArePieces}
use Rattle.elf_loader.specs.Segments.{code_of}
use Rattle.host_io.specs.declared.load_error.LoadError.TheVariants as causes
use Rattle.elf_loader.proofs.elf.load_elf.Goals as goal

pub returns-in_err-check_header-clause-refused : goal.returns-in_err-check_header-clause-refused
returns-in_err-check_header-clause-refused c =
    let p = err_from_is_err_and c.from_residual.result c.from_residual.ensures.1 in
    rw (p.1, p.2) (λ _. header_refused c.args.file.now c.args.pages _ c.in_err-check_header.ensures)

pub returns-in_err-check_header-clause-exact : goal.returns-in_err-check_header-clause-exact
returns-in_err-check_header-clause-exact c =
    let p = err_from_is_err_and c.from_residual.result c.from_residual.ensures.1 in
    rw (p.1, p.2) (λ cause h. exact _ cause (λ _. header_refused c.args.file.now c.args.pages _ c.in_err-check_header.ensures) h)

pub returns-in_err-check_segments-clause-refused : goal.returns-in_err-check_segments-clause-refused
returns-in_err-check_segments-clause-refused c =
    let p = err_from_is_err_and c.from_residual-in_err-check_segments.result c.from_residual-in_err-check_segments.ensures.1 in
    rw (p.1, p.2) (λ _. segments_refused c.args.file.now c.args.pages _ _ _ _ (ap (λ n. 4096 * n) c.from.ensures) (c.deref.ensures.value ∙ c.in_ok-segments.ensures)
    c.in_ok-check_header.ensures c.in_err-check_segments.ensures)

pub returns-in_err-check_segments-clause-exact : goal.returns-in_err-check_segments-clause-exact
returns-in_err-check_segments-clause-exact c =
    let p = err_from_is_err_and c.from_residual-in_err-check_segments.result c.from_residual-in_err-check_segments.ensures.1 in
    rw (p.1, p.2) (λ cause h. exact _ cause (λ _. segments_refused c.args.file.now c.args.pages _ _ _ _ (ap (λ n. 4096 * n) c.from.ensures) (c.deref.ensures.value ∙ c.in_ok-segments.ensures)
    c.in_ok-check_header.ensures c.in_err-check_segments.ensures) h)

pub returns-then-not-is_entry-clause-refused : goal.returns-then-not-is_entry-clause-refused
returns-then-not-is_entry-clause-refused c = λ _.
    entry_refused c.args.file.now c.args.pages
    (segments_passed c.args.file.now c.args.pages _ _ _ _ (ap (λ n. 4096 * n) c.from.ensures) (c.deref.ensures.value ∙ c.in_ok-segments.ensures) c.in_ok-check_header.ensures c.in_ok-check_segments.ensures)
    (same_entry c.args.file.now _ _ _ false (c.deref-2.ensures.value ∙ c.in_ok-segments.ensures) (c.deref-3.ensures.value ∙ c.in_ok-code.ensures) c.double_at-entry.ensures c.if-not-is_entry.ensures)

pub returns-then-not-is_entry-clause-exact : goal.returns-then-not-is_entry-clause-exact
returns-then-not-is_entry-clause-exact c = λ cause h. exact causes.Entry cause (λ _.
    entry_refused c.args.file.now c.args.pages
    (segments_passed c.args.file.now c.args.pages _ _ _ _ (ap (λ n. 4096 * n) c.from.ensures) (c.deref.ensures.value ∙ c.in_ok-segments.ensures) c.in_ok-check_header.ensures c.in_ok-check_segments.ensures)
    (same_entry c.args.file.now _ _ _ false (c.deref-2.ensures.value ∙ c.in_ok-segments.ensures) (c.deref-3.ensures.value ∙ c.in_ok-code.ensures) c.double_at-entry.ensures c.if-not-is_entry.ensures)) h

pub invariant_of-result : goal.invariant_of-result
invariant_of-result c =
    let same = c.deref.ensures.value ∙ c.in_ok-segments.ensures in
    let k = clear c.args.file.now c.args.pages _ _ _ (ap (λ n. 4096 * n) c.from.ensures) same c.in_ok-check_segments.ensures in
    elf_is_image c.args.file.now c.args.pages _ _ _ _ c.requires.some_pages c.requires.few_pages (file_bytes c.args.file.now (λ i. omega (arith, c.type_inv.file i)))
    k.past_file k.past_memory k.overlap
    (subst (λ v. ArePieces c.args.file.now v c.in_ok-pieces_of.field-0.items) (c.deref-4.ensures.value ∙ c.in_ok-segments.ensures) c.in_ok-pieces_of.ensures)
    (c.in_ok-code.ensures ∙ ap code_of (c.deref-2.ensures.value ∙ c.in_ok-segments.ensures))
    (sym (c.if-not-is_entry.ensures ∙ ap (λ v. is_entry v c.double_at-entry.result) c.deref-3.ensures.value))

pub returns-clause-image : goal.returns-clause-image
returns-clause-image c =
    let same = c.deref.ensures.value ∙ c.in_ok-segments.ensures in
    let k = clear c.args.file.now c.args.pages _ _ _ (ap (λ n. 4096 * n) c.from.ensures) same c.in_ok-check_segments.ensures in
    elf_is c.args.file.now c.args.pages _ _ _ _ k.past_file
    (subst (λ v. ArePieces c.args.file.now v c.in_ok-pieces_of.field-0.items) (c.deref-4.ensures.value ∙ c.in_ok-segments.ensures) c.in_ok-pieces_of.ensures)
    refl (c.in_ok-code.ensures ∙ ap code_of (c.deref-2.ensures.value ∙ c.in_ok-segments.ensures)) c.double_at-entry.ensures

pub returns-clause-accepted : goal.returns-clause-accepted
returns-clause-accepted c = none_stands c.args.file.now c.args.pages
    (segments_passed c.args.file.now c.args.pages _ _ _ _ (ap (λ n. 4096 * n) c.from.ensures) (c.deref.ensures.value ∙ c.in_ok-segments.ensures) c.in_ok-check_header.ensures c.in_ok-check_segments.ensures)
    (same_entry c.args.file.now _ _ _ true (c.deref-2.ensures.value ∙ c.in_ok-segments.ensures) (c.deref-3.ensures.value ∙ c.in_ok-code.ensures) c.double_at-entry.ensures c.if-not-is_entry.ensures)

pub returns-clause-exact : goal.returns-clause-exact
returns-clause-exact c = λ cause h. absurd (none_stands c.args.file.now c.args.pages
    (segments_passed c.args.file.now c.args.pages _ _ _ _ (ap (λ n. 4096 * n) c.from.ensures) (c.deref.ensures.value ∙ c.in_ok-segments.ensures) c.in_ok-check_header.ensures c.in_ok-check_segments.ensures)
    (same_entry c.args.file.now _ _ _ true (c.deref-2.ensures.value ∙ c.in_ok-segments.ensures) (c.deref-3.ensures.value ∙ c.in_ok-code.ensures) c.double_at-entry.ensures c.if-not-is_entry.ensures)
    cause h.stands)
