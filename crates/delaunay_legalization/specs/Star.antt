-- The faces at one vertex, and the edges round them, where only these may fail the circle test.
use Rattle.std.specs.Prelude.{◌≡◌, ◌⊎◌, ℕ, ◌/◌, ◌<◌, List, length, Contains}
use Rattle.plane.specs.{Face, Joins, Point}
use Rattle.half_edge_links.specs.{Mesh, next, origin}
use Rattle.plane_theorems.specs.{IsFaceOf, Pass}

-- v is one of the corners i j k
abbrev pub IsOneOf : ℕ → ℕ → ℕ → ℕ → Type 0
IsOneOf v i j k = (i ≡ v) ⊎ ((j ≡ v) ⊎ (k ≡ v))

-- each face is an old one, or has the corner v; the side opposite v of a face that has it was a
-- side of a face, or an outer edge
pub record MakesFacesAt (v : ℕ) (old : List Face) (outer : List (ℕ × ℕ))
    (new : List Face) : Type 0 where
  pub each : (i j k : ℕ) → IsFaceOf new i j k → IsFaceOf old i j k ⊎ IsOneOf v i j k
  pub sides : (j k : ℕ) → IsFaceOf new v j k
      → ((o : ℕ) × IsFaceOf old j k o) ⊎ Contains outer (j, k)

-- each edge between two faces without the corner v passes, but perhaps constraints
abbrev pub AllPassBeside : List Point → List Face → List (ℕ × ℕ) → ℕ → Type 0
AllPassBeside points faces constraints v =
    (i j k l : ℕ) → IsFaceOf faces i j k → IsFaceOf faces j i l →
    ¬ Joins constraints i j → ¬ IsOneOf v i j k → ¬ IsOneOf v j i l → Pass points i j k l

-- directed edge h and the one after it in its loop are among ks, without their directions
pub record HasSidesAt (m : Mesh) (h : ℕ) (ks : List ℕ) : Type 0 where
  pub here : Contains ks (h / 2)
  pub after : Contains ks (next m h / 2)

-- so for each edge that starts at vertex v: the edges of v, and those of the faces at v that lie
-- opposite it
abbrev pub HasStar : Mesh → ℕ → List ℕ → Type 0
HasStar m v ks = (h : ℕ) → h < length m.half_edges → origin m h ≡ v → HasSidesAt m h ks
