use Rattle.std.proofs.Common.{◌++◌, ◌-◌, ◌^◌, ◌∙◌, List, ℕ, ap, append_assoc, codes, map}
use Rattle.std.specs.Fmt.{decimal}
use Rattle.execution_file.specs.declared.file.HartDeeds.{HartDeeds}
use Rattle.execution_file.specs.declared.file.Turn.{Turn}
use Rattle.execution_file.specs.Grammar.{bytes, hart_lines, hart_turn, number_of_flag}
use Rattle.execution_file.specs.Formats.{counted, spelled_list}
use Rattle.execution_file.specs.Views.{hart_view, turn_view}
use Rattle.execution_file.proofs.Written.{on_ok, then_written}
use Rattle.execution_file.proofs.writing.put_file.Goals as goal

pub returns : goal.returns
returns c =
    on_ok c.put_named_turns-2.result _ _ (λ e.
    then_written c.args.text.now.items c.put_head.new.text.items _ _ c.put_named_turns-2.new.text.items (c.in_ok-put_head.ensures ∙ ap (λ (n : ℕ). c.args.text.now.items ++ (codes "execution 1\nflat " ++ (decimal n ++ (codes "\npages " ++ decimal c.args.file.now.pages)))) c.flag_number.ensures)
    (then_written c.put_head.new.text.items c.put_named_bytes.new.text.items _ _ c.put_named_turns-2.new.text.items
    (c.in_ok-put_named_bytes.ensures ∙ ap (λ (bs : List ℕ). c.put_head.new.text.items ++ (codes "\nimage " ++ bytes.spelled bs)) c.as_slice.ensures.value)
    (then_written c.put_named_bytes.new.text.items c.put_named_bytes-2.new.text.items _ _ c.put_named_turns-2.new.text.items
    (c.in_ok-put_named_bytes-2.ensures ∙ ap (λ (bs : List ℕ). c.put_named_bytes.new.text.items ++ (codes "input " ++ bytes.spelled bs)) c.as_slice-2.ensures.value)
    (then_written c.put_named_bytes-2.new.text.items c.put_harts.new.text.items _ _ c.put_named_turns-2.new.text.items
    (c.in_ok-put_harts.ensures ∙ ap (λ (hs : List HartDeeds). c.put_named_bytes-2.new.text.items ++ (codes "harts " ++ (counted (2 ^ 64 - 1) (λ n i. hart_lines i)).spelled (map hart_view hs))) c.as_slice-3.ensures.value)
    (then_written c.put_harts.new.text.items c.put_named_turns.new.text.items _ _ c.put_named_turns-2.new.text.items
    (c.in_ok-put_named_turns.ensures ∙ ap (λ (ts : List Turn). c.put_harts.new.text.items ++ (codes "calls" ++ spelled_list hart_turn (map turn_view ts))) c.as_slice-4.ensures.value)
    (e ∙ ap (λ (ts : List Turn). c.put_named_turns.new.text.items ++ (codes "order" ++ spelled_list hart_turn (map turn_view ts))) c.as_slice-5.ensures.value)))))
    ∙ ap (λ (r : List ℕ). c.args.text.now.items ++ (codes "execution 1\nflat " ++ r)) (append_assoc (decimal (number_of_flag c.args.file.now.flat)) (codes "\npages " ++ decimal c.args.file.now.pages) _)) c.put_named_turns-2.ensures
