-- The texts that are the same in each picture, as the code has them.
use Rattle.std.specs.Prelude.{ℕ, List}
use Rattle.picture.specs.declared.style.TheConstants.{LEGEND, ROOT, STYLE, VIEW_BOX, WAIT}

-- the start of the root element
unfoldable pub root_text : List ℕ
root_text = ROOT.now

-- the start of the part of the plane that is shown
unfoldable pub view_box_start : List ℕ
view_box_start = VIEW_BOX.now

-- how the classes look, and the shapes that are used again
unfoldable pub style_text : List ℕ
style_text = STYLE.now

-- what the arrows and marks mean
unfoldable pub legend_text : List ℕ
legend_text = LEGEND.now

-- the start of the mark of a hart that had waited
unfoldable pub wait_start : List ℕ
wait_start = WAIT.now
