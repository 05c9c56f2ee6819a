-- What a debugger is answered about files: there is the program's image alone, or, where it isn't told, none.
use Rattle.std.specs.Prelude.{ℕ, ◌==◌, if◌then◌else◌, min, List, length, take, drop, Option, Some, None}
use Rattle.gdb_packets.specs.declared.file_request.FileRequest.{FileRequest}
use Rattle.gdb_packets.specs.declared.file_request.FileRequest.TheVariants as requests
use Rattle.gdb_replies.specs.FileReplies.{bytes_text, file_text}
use Rattle.gdb_replies.specs.declared.file_reply.FileReply.TheVariants.{Done, Failed, Status}

-- the image is open file 1, whether it was opened or not
abbrev pub opened : Option (List ℕ) → ℕ → Option (List ℕ)
opened image file = if file == 1 then image else None

-- error 9 where no file is open by that number
abbrev pub of_open : Option (List ℕ) → (List ℕ → List ℕ) → List ℕ
of_open None f = file_text (Failed 9)
of_open (Some bs) f = f bs

-- error 2 where there is no such file
abbrev pub open_answer : Option (List ℕ) → List ℕ
open_answer None = file_text (Failed 2)
open_answer (Some bs) = file_text (Done 1)

-- no more than 32,000 bytes are told at once: so a reply is no longer than a packet may be, with two bytes for each that needs it
abbrev pub most_read : ℕ
most_read = 32000

abbrev pub file_answer : Option (List ℕ) → FileRequest → List ℕ
file_answer image requests.Root = file_text (Done 0)
file_answer image requests.OpenImage = open_answer image
file_answer image requests.OpenOther = file_text (Failed 2)
file_answer image (requests.Describe file) = of_open (opened image file) (λ bs. file_text (Status (length bs)))
file_answer image (requests.Read file count offset) = of_open (opened image file) (λ bs. bytes_text (take (min count most_read) (drop offset bs)))
file_answer image (requests.Close file) = of_open (opened image file) (λ bs. file_text (Done 0))
