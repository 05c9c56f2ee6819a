-- What a table tells of the program that its runs are of.
use Rattle.std.specs.Prelude.{ℕ, List, length}
use Rattle.checksums.specs.Checksums.{checksum_of}
use Rattle.hunt_table.specs.declared.fingerprint.Fingerprint.{Fingerprint}

abbrev pub fingerprint : ℕ → ℕ → Fingerprint
fingerprint length checksum = record { length = length; checksum = checksum }

-- how many bytes the image has, and their CRC-32
abbrev pub fingerprint_of : List ℕ → Fingerprint
fingerprint_of image = fingerprint (length image) (checksum_of image)
