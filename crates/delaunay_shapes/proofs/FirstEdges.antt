-- Lists of the edges that a flood begins with.
-- Lemmas: three_sides, if_ok, on_ok.
use Rattle.std.proofs.Common.{◌≡◌, ℕ, ◌/◌, [], ◌∷◌, arith}
use Rattle.std.specs.Prelude.{Result, Ok, Err, IfOk, OnOk}
use Rattle.half_edge_links.specs.{Mesh, next, prev}
use Rattle.delaunay_shapes.specs.{HasSides}

-- the three sides of a face, each by its index
pub three_sides : (m : Mesh) (h x y z : ℕ) → x ≡ h / 2 → y ≡ next m h / 2 → z ≡ prev m h / 2 →
    HasSides m (x ∷ y ∷ z ∷ []) h
three_sides m h x y z a b c =
    record {
      first = (0, omega arith, a);
      second = (1, omega arith, b);
      third = (2, omega arith, c);
    }

-- of a result
pub if_ok : {T E : Type 0} (P Q : T → Type 0) (r : Result T E) → ((x : T) → P x → Q x)
    → IfOk r P → IfOk r Q
if_ok P Q (Ok x) into p = into x p
if_ok P Q (Err e) into p = p

-- of a result without a value that is read
pub on_ok : {T E P Q : Type 0} (r : Result T E) → (P → Q) → OnOk r P → OnOk r Q
on_ok (Ok x) f h = f h
on_ok (Err e) f h = h
