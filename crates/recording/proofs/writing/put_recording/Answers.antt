use Rattle.std.proofs.Common.{◌≡◌, ◌++◌, ℕ, List, map, subst}
use Rattle.std.specs.Int.{w32}
use Rattle.recording.specs.declared.recording.Checkpoint.{Checkpoint}
use Rattle.recording.specs.Fields.{bytes, most, spelled_each}
use Rattle.recording.specs.Grammar.{checkpoint_after}
use Rattle.recording.specs.Views.{checkpoint_view}
use Rattle.recording.proofs.Written.{on_ok, then_written}
use Rattle.recording.proofs.writing.put_recording.Goals as goal

bytes_put : (text new xs ys : List ℕ) → xs ≡ ys → new ≡ text ++ bytes.spelled xs → new ≡ text ++ bytes.spelled ys
bytes_put text new xs ys e f = subst (λ (zs : List ℕ). new ≡ text ++ bytes.spelled zs) e f

pub returns : goal.returns
returns c =
    on_ok c.put_rounds.result _ _ (λ e.
    (then_written c.args.text.now.items c.put_double.new.text.items _ _ c.put_rounds.new.text.items c.in_ok-put_double.ensures
    (then_written c.put_double.new.text.items c.put_word.new.text.items _ _ c.put_rounds.new.text.items c.in_ok-put_word.ensures
    (then_written c.put_word.new.text.items c.put_byte.new.text.items _ _ c.put_rounds.new.text.items c.in_ok-put_byte.ensures
    (then_written c.put_byte.new.text.items c.put_word-2.new.text.items _ _ c.put_rounds.new.text.items c.in_ok-put_word-2.ensures
    (then_written c.put_word-2.new.text.items c.put_word-3.new.text.items _ _ c.put_rounds.new.text.items c.in_ok-put_word-3.ensures
    (then_written c.put_word-3.new.text.items c.put_word-4.new.text.items _ _ c.put_rounds.new.text.items c.in_ok-put_word-4.ensures
    (then_written c.put_word-4.new.text.items c.put_from_version_2.new.text.items _ _ c.put_rounds.new.text.items (c.in_ok-put_from_version_2.ensures 1 1 1000)
    (then_written c.put_from_version_2.new.text.items c.put_from_version_2-2.new.text.items _ _ c.put_rounds.new.text.items (c.in_ok-put_from_version_2-2.ensures 0 0 (most w32))
    (then_written c.put_from_version_2-2.new.text.items c.put_bytes.new.text.items _ _ c.put_rounds.new.text.items (bytes_put c.put_from_version_2-2.new.text.items c.put_bytes.new.text.items c.as_slice.result.now c.args.r.now.image.items c.as_slice.ensures.value c.in_ok-put_bytes.ensures)
    (then_written c.put_bytes.new.text.items c.put_bytes-2.new.text.items _ _ c.put_rounds.new.text.items (bytes_put c.put_bytes.new.text.items c.put_bytes-2.new.text.items c.as_slice-2.result.now c.args.r.now.input.items c.as_slice-2.ensures.value c.in_ok-put_bytes-2.ensures)
    (then_written c.put_bytes-2.new.text.items c.put_bytes-3.new.text.items _ _ c.put_rounds.new.text.items (bytes_put c.put_bytes-2.new.text.items c.put_bytes-3.new.text.items c.as_slice-3.result.now c.args.r.now.plan.items c.as_slice-3.ensures.value c.in_ok-put_bytes-3.ensures)
    (subst (λ (ks : List Checkpoint). c.put_rounds.new.text.items ≡ c.put_bytes-3.new.text.items ++ spelled_each 1 (checkpoint_after c.args.r.now.harts c.args.r.now.every) (map checkpoint_view ks)) c.as_slice-4.ensures.value (e c.args.r.now.harts)))))))))))))) c.put_rounds.ensures
