use Rattle.std.proofs.Common.{length, refl, arith}
use Rattle.elf_loader.proofs.Bytes.{file_bytes}
use Rattle.elf_loader.proofs.Causes.{exact}
use Rattle.elf_loader.proofs.FlatImage.{flat_is, flat_is_image, only_item, past_memory, whole_words}
use Rattle.host_io.specs.declared.load_error.LoadError.TheVariants as causes
use Rattle.elf_loader.proofs.flat.load_flat.Goals as goal

pub returns-then-file-pages-clause-exact : goal.returns-then-file-pages-clause-exact
returns-then-file-pages-clause-exact c = λ cause h.
    exact causes.PastMemory cause (λ _. past_memory c.args.file.now c.args.pages (omega arith)) h

pub returns-clause-image : goal.returns-clause-image
returns-clause-image c =
    flat_is c.push.new.self.items _ c.push-2.new.self.items c.args.file.now c.args.pages
    (only_item _ _ _ c.new-pieces.ensures.items c.in_ok-push.ensures.items) refl c.in_ok-from_slice.ensures.items
    (only_item _ _ _ c.new-code.ensures.items c.in_ok-push-2.ensures.items)

pub invariant_of-result : goal.invariant_of-result
invariant_of-result c =
    flat_is_image c.push.new.self.items _ c.push-2.new.self.items c.args.file.now c.args.pages
    (only_item _ _ _ c.new-pieces.ensures.items c.in_ok-push.ensures.items) refl c.in_ok-from_slice.ensures.items
    (only_item _ _ _ c.new-code.ensures.items c.in_ok-push-2.ensures.items) c.requires.some_pages c.requires.few_pages
    (file_bytes c.args.file.now (λ i. omega (arith, c.type_inv.file i))) (omega arith) (whole_words (length c.args.file.now) c.if-is_empty.ensures c.if-file-ne0.false)
