use Rattle.std.proofs.Common.{refl}
use Rattle.execution_file.specs.Views.{as_recorded}
use Rattle.execution_commands.proofs.checking.checked_file.Goals as goal

pub returns-clause-checks : goal.returns-clause-checks
returns-clause-checks g c = (
  record {
    text = c.in_ok-text.text.items;
    held = c.in_ok-text.ensures.holds;
    made = record {
      execution = as_recorded c.in_ok-file.file;
      checked = c.in_ok-check_file.field-0;
      says = rw c.deref.ensures.value at c.in_ok-file.ensures.reads;
      found = c.in_ok-check_file.ensures;
    };
  },
  refl,
)
