use Rattle.std.proofs.Common.{◌≡◌, drop}
use Rattle.execution_file.specs.Formats.{taken_word}
use Rattle.execution_file.proofs.words.word_or.Given as goal

abbrev pub invariant-loop-byte : goal.invariant-loop-byte
invariant-loop-byte l = taken_word l.short l.wrong (drop l.byte-index l.word) l.rest ≡ taken_word l.short l.wrong l.word l.bytes
