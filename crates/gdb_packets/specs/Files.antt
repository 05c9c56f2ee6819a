-- What is asked of files. The program has one, which is its image: `/recording/image`.
use Rattle.std.specs.Prelude.{ℕ, List, codes, Option, Some, None}
use Rattle.gdb_packets.specs.declared.file_request.FileRequest.{FileRequest}
use Rattle.gdb_packets.specs.declared.file_request.FileRequest.TheVariants.{Close, Describe, OpenImage, OpenOther, Read, Root}
use Rattle.gdb_packets.specs.declared.request.Request.{Request}
use Rattle.gdb_packets.specs.declared.request.Request.TheVariants as requests
use Rattle.gdb_packets.specs.Fields.{behind, behind_spelled, by_address, by_three, by_two, number_from, or_else, three_numbers, two_numbers}

abbrev pub image_name : List ℕ
image_name = codes "/recording/image"

-- the process is passed over, whose files are meant or whose program's name is asked for: there is one
abbrev pub named_behind : Option (List ℕ) → Request
named_behind None = requests.Unknown
named_behind (Some bs) = by_two requests.ImageName (two_numbers bs)

abbrev pub name_of : Option (ℕ × List ℕ) → Request
name_of None = requests.Unknown
name_of (Some x) = named_behind (behind (codes ":") x.1)

-- a file's name ends before a comma; what follows says no more
abbrev pub opened_by : Option (List ℕ) → FileRequest
opened_by None = OpenOther
opened_by (Some bs) = OpenImage

abbrev pub after_name : Option (List ℕ) → FileRequest
after_name None = OpenOther
after_name (Some bs) = opened_by (behind (codes ",") bs)

-- behind `vFile:`
abbrev pub file_of : List ℕ → Request
file_of bs =
    or_else (behind (codes "setfs:") bs) (λ r. requests.File Root)
    (or_else (behind (codes "open:") bs) (λ r. requests.File (after_name (behind_spelled image_name r)))
    (or_else (behind (codes "fstat:") bs) (λ r. by_address (λ file. requests.File (Describe file)) (number_from 0 r))
    (or_else (behind (codes "pread:") bs) (λ r. by_three (λ file count offset. requests.File (Read file count offset)) (three_numbers r))
    (or_else (behind (codes "close:") bs) (λ r. by_address (λ file. requests.File (Close file)) (number_from 0 r))
    requests.Unknown))))
