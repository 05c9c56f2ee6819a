-- The elements of a picture, as text of SVG. Positions are from the left and from the top.
use Rattle.std.specs.Prelude.{ℕ, List, ◌++◌, codes}
use Rattle.std.specs.Fmt.{decimal}
use Rattle.picture.specs.declared.elements.Curve.{Curve}
use Rattle.picture.specs.declared.elements.Point.{Point}
use Rattle.picture.specs.declared.elements.Rectangle.{Rectangle}
use Rattle.picture.specs.Style.{wait_start}

-- an attribute that is a number: what stands before the number, the number, and a quote
abbrev pub attribute : List ℕ → ℕ → List ℕ
attribute name v = name ++ decimal v ++ codes "'"

-- a rectangle of a class
unfoldable pub rectangle_text : List ℕ → Rectangle → List ℕ
rectangle_text class r =
    codes "<rect class='" ++ class ++ attribute (codes "' x='") r.x ++ attribute (codes " y='") r.y
    ++ attribute (codes " width='") r.width ++ attribute (codes " height='") r.height ++ codes "/>\n"

-- the start of a text of a class at a point
unfoldable pub label_start : List ℕ → Point → List ℕ
label_start class p = codes "<text class='" ++ class ++ attribute (codes "' x='") p.x ++ attribute (codes " y='") p.y ++ codes ">"

-- a text of a class at a point
abbrev pub label_text : List ℕ → Point → List ℕ → List ℕ
label_text class p content = label_start class p ++ content ++ codes "</text>\n"

abbrev pub point_text : Point → List ℕ
point_text p = decimal p.x ++ codes " " ++ decimal p.y

-- the start of a path of a class at a point
unfoldable pub path_start : List ℕ → Point → List ℕ
path_start class p = codes "<path class='" ++ class ++ codes "' d='M" ++ point_text p

-- a line straight down from a point
unfoldable pub down_text : List ℕ → Point → ℕ → List ℕ
down_text class p bottom = path_start class p ++ codes "V" ++ decimal bottom ++ codes "'/>\n"

-- a curve that leaves and enters level
unfoldable pub curve_text : List ℕ → Curve → List ℕ
curve_text class c =
    path_start class c.start ++ codes "C" ++ point_text (record { x = c.leaving; y = c.start.y })
    ++ codes " " ++ point_text (record { x = c.entering; y = c.end.y }) ++ codes " " ++ point_text c.end ++ codes "'/>\n"

-- the mark of a hart that had waited, at a point
unfoldable pub wait_text : Point → List ℕ
wait_text p = wait_start ++ attribute (codes " x='") p.x ++ attribute (codes " y='") p.y ++ codes "/>\n"
