use Rattle.std.proofs.Common.{◌≡◌, ◌/◌, All, None, true}
use Rattle.pages.specs.declared.access.Store.{Store}
use Rattle.pages.specs.Memory.{store_fault}
use Rattle.pages.specs.Paged.{is_page_ready}
use Rattle.store_buffer.specs.Covered.{stores_of}
use Rattle.phase_tests.proofs.commits.fits.Given as goal

abbrev pub invariant-loop-s : goal.invariant-loop-s
invariant-loop-s l = record {
  fits : All (λ (s : Store). store_fault l.pages.memory s.address s.width ≡ None) (stores_of l.s-iterator) → All (λ (s : Store). store_fault l.pages.memory s.address s.width ≡ None) (stores_of l.buffer);
  ready : All (λ (s : Store). is_page_ready l.pages (s.address / 4096) ≡ true) (stores_of l.s-iterator) → All (λ (s : Store). is_page_ready l.pages (s.address / 4096) ≡ true) (stores_of l.buffer);
}
