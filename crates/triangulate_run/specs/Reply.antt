-- The texts of replies.
use Rattle.std.specs.Prelude.{ℕ, List, [], ◌∷◌, ◌++◌, codes, decimal}
use Rattle.std.specs.Fmt.{signed_decimal}
use Rattle.std.specs.List.{flat_map}
use Rattle.plane.specs.{across, along, at_vertex, Item}
use Rattle.delaunay_core.specs.{InsertionError, OutOfIndexes, OutOfMemory, TooLarge}
use Rattle.triangulate_run.specs.{declared.corners.Corners.Corners, declared.reply.Reply.Reply}
use Rattle.triangulate_run.specs.declared.reply.Reply.TheVariants as reply

-- the name of an error of an insertion
abbrev name_of : InsertionError → List ℕ
name_of TooLarge = codes "TooLarge"
name_of OutOfMemory = codes "OutOfMemory"
name_of OutOfIndexes = codes "OutOfIndexes"

-- three corners with spaces between them and a line's end behind
abbrev pub corners_text : Corners → List ℕ
corners_text c = decimal c.first ++ codes " " ++ decimal c.second ++ codes " "
    ++ decimal c.third ++ codes "\n"

-- the text of a reply, each of its lines with its end
abbrev pub reply_text : Reply → List ℕ
reply_text reply.BadLine = codes "bad line\n"
reply_text reply.UnknownPoint = codes "unknown point\n"
reply_text (reply.Refused error) = codes "refused " ++ name_of error ++ codes "\n"
reply_text (reply.Vertex i) = codes "vertex " ++ decimal i ++ codes "\n"
reply_text (reply.Edge i j) = codes "edge " ++ decimal i ++ codes "-" ++ decimal j ++ codes "\n"
reply_text (reply.Face corners) = codes "face " ++ corners_text corners
reply_text reply.Outside = codes "outside\n"
reply_text reply.NoTriangulation = codes "no triangulation\n"
reply_text (reply.Distance d) = codes "distance " ++ signed_decimal d ++ codes "\n"
reply_text reply.NoNeighbor = codes "none\n"
reply_text (reply.Removed x y) =
    codes "removed " ++ signed_decimal x ++ codes " " ++ signed_decimal y ++ codes "\n"
reply_text reply.NoVertex = codes "no vertex\n"
reply_text reply.Released = codes "released\n"
reply_text reply.NotConstrained = codes "not constrained\n"
reply_text reply.NoEdge = codes "no edge\n"
reply_text reply.NoPath = codes "none\n"
reply_text (reply.Counts v e f c) = decimal v ++ codes " " ++ decimal e ++ codes " " ++ decimal f
    ++ codes " " ++ decimal c ++ codes "\n"
reply_text (reply.Faces faces) = flat_map corners_text faces.items ++ codes "end\n"

-- an edge by its ends, in its direction
abbrev pub edge_text : List ℕ → List ℕ → ℕ → ℕ → List ℕ
edge_text name between i j = name ++ decimal i ++ between ++ decimal j

-- an edge of a path, by its ends
abbrev pub pair_text : ℕ × ℕ → List ℕ
pair_text p = edge_text (codes " ") (codes "-") p.0 p.1

-- the text of a path: a word, the ends of each of its edges, and a line's end
abbrev pub path_text : List (ℕ × ℕ) → List ℕ
path_text path = codes "edges" ++ flat_map pair_text path ++ codes "\n"

-- what a line meets
abbrev pub item_text : Item → List ℕ
item_text (at_vertex i) = codes "v " ++ decimal i
item_text (across i j) = edge_text (codes "e ") (codes ">") i j
item_text (along i j) = edge_text (codes "o ") (codes ">") i j

-- an item that a line meets, behind a space
abbrev pub next_text : Item → List ℕ
next_text m = codes " " ++ item_text m

-- the text of all items that a line meets, or that it meets nothing
abbrev pub line_text : List Item → List ℕ
line_text [] = codes "nothing\n"
line_text (m ∷ items) = item_text m ++ flat_map next_text items ++ codes "\n"
