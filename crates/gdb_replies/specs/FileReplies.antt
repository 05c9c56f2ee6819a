-- What a debugger is told of files: `F` and a number, which is -1 where it can't be done, and then what there is more to be said.
use Rattle.std.specs.Prelude.{ℕ, List, [], ◌∷◌, ◌++◌, length, codes}
use Rattle.std.specs.Fmt.{decimal}
use Rattle.std.specs.Int.{w32, w64, to_be_bytes}
use Rattle.std.specs.List.{flat_map}
use Rattle.gdb_replies.specs.Words.{address_text}
use Rattle.gdb_replies.specs.declared.file_reply.FileReply.{FileReply}
use Rattle.gdb_replies.specs.declared.file_reply.FileReply.TheVariants.{Bytes, Done, Failed, Status}

abbrev pub result_text : ℕ → List ℕ
result_text number = codes "F" ++ address_text number

-- bytes behind how many there are
abbrev pub bytes_text : List ℕ → List ℕ
bytes_text bs = result_text (length bs) ++ (codes ";" ++ bs)

-- the 64 bytes that say what a file is: device, inode, mode, links, user, group and device number in four bytes each; the size, the size of a block and
-- the number of blocks in eight bytes each; when it was read, written and changed. The mode is that of a regular file that everybody may read
abbrev pub status_text : ℕ → List ℕ
status_text size =
    flat_map (to_be_bytes w32) (0 ∷ 0 ∷ 0x8124 ∷ 1 ∷ 0 ∷ 0 ∷ 0 ∷ [])
    ++ flat_map (to_be_bytes w64) (size ∷ 512 ∷ 0 ∷ [])
    ++ flat_map (to_be_bytes w32) (0 ∷ 0 ∷ 0 ∷ [])

abbrev pub file_text : FileReply → List ℕ
file_text (Done number) = result_text number
file_text (Failed reason) = codes "F-1," ++ decimal reason
file_text (Status size) = result_text 64 ++ (codes ";" ++ status_text size)
file_text (Bytes bs) = bytes_text bs.now
