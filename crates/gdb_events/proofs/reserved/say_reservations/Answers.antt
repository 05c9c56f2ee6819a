use Rattle.std.proofs.Common.{◌≡◌, ℕ, List, codes, length, subst, ◌∙◌}
use Rattle.std.specs.Prelude.{IfOk}
use Rattle.hex.specs.Hex.{encode_lower}
use Rattle.gdb_packets.specs.Writing.{packet_text}
use Rattle.gdb_events.specs.Saying.{text_or}
use Rattle.gdb_events.specs.Reserved.{held_lines}
use Rattle.gdb_events.proofs.reserved.say_reservations.Goals as goal

pub returns : goal.returns
returns c = λ t tied.
    let W : List ℕ → Type 0 = λ xs. IfOk c.say_or.result (λ said. said.items ≡ packet_text (encode_lower (text_or (codes "no reservations\n") xs))) in
    subst W (c.as_slice.ensures.value ∙ c.in_ok-text.ensures t tied) c.say_or.ensures
