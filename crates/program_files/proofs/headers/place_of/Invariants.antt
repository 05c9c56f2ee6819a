use Rattle.std.proofs.Common.{◌≡◌, ◌+◌, ◌-◌, ◌*◌, ◌≤◌, length}
use Rattle.program_files.specs.Spurious.{place_from, place_of}
use Rattle.program_files.proofs.headers.place_of.Given as goal

-- what is left has the byte where the file has it, and lies in the file
abbrev pub invariant-headers : goal.invariant-headers
invariant-headers l = record {
  told : place_from l.file l.address l.header (l.count - l.counter) ≡ place_of l.file l.address;
  within : l.header + 56 * (l.count - l.counter) ≤ length l.file;
}
