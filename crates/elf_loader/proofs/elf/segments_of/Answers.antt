use Rattle.std.proofs.Common.{◌++◌, ◌∷◌, [], ap, sym, ◌∙◌, arith}
use Rattle.elf_loader.proofs.Reading.{loaded_header, other_header}
use Rattle.elf_loader.proofs.elf.segments_of.Goals as goal
use Rattle.elf_loader.proofs.elf.segments_of.Goals.{then-word_at-eq-LOADED+in_ok-push, else-word_at-eq-LOADED}

pub headers-preserved : goal.headers-preserved
headers-preserved c = record {
  told = elim c.if-word_at-eq-LOADED.branch [
    | then-word_at-eq-LOADED+in_ok-push w ↦
        loaded_header c.args.file.now c.headers.offset _ _ c.headers.segments.items c.if-word_at-eq-LOADED.segments.items _
        (sym c.word_at.ensures ∙ w.if-word_at-eq-LOADED.true)
        (ap (λ v. v.items) w.segments-is ∙ w.in_ok-push.ensures.items ∙ ap (λ s. c.headers.segments.items ++ s ∷ []) w.at.ensures)
        (omega (arith, c.headers-test.true)) c.headers.invariant.told
    | else-word_at-eq-LOADED w ↦
        other_header c.args.file.now c.headers.offset _ _ c.headers.segments.items c.if-word_at-eq-LOADED.segments.items _
        (λ e. w.if-word_at-eq-LOADED.false (c.word_at.ensures ∙ e)) (ap (λ v. v.items) w.segments-is)
        (omega (arith, c.headers-test.true)) c.headers.invariant.told
  ];
  within = omega (arith, c.headers.invariant.within, c.headers-test.true);
}
