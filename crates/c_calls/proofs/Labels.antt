-- Which faces ways join, as C is told of it.
-- Lemma: labels_told.
use Rattle.std.proofs.Common.{◌≡◌, ℕ, Bool, List, sym, subst}
use Rattle.std.specs.Prelude.{IfOk, IsTrue, Ok, Err, Option, Result}
use Rattle.{delaunay_ways.specs.Parts.AreLabels, plane.specs.Triangulation}
use Rattle.{c_calls.specs.is_free_face, c_calls.specs.is_marked, delaunay_shapes.specs.by_place}
use Rattle.c_calls.proofs.{Guided.joined_same, Seen.free_by_place}

-- labels by any name of the free faces
labels_same : (t : Triangulation) (f g : ℕ → Bool) → ((n : ℕ) → f n ≡ g n)
    → (labels : List (Option ℕ)) → AreLabels t f labels → AreLabels t g labels
labels_same t f g same labels are = record {
  count = are.count;
  outer = are.outer;
  closed = λ n below no. are.closed n below (λ yes. no (subst IsTrue (same n) yes));
  labelled = λ n below yes. are.labelled n below (subst IsTrue (sym (same n)) yes);
  joined = λ m n p q at_p at_q.
      let both = are.joined m n p q (at_p.0, subst IsTrue (sym (same m)) at_p.1, at_p.2)
      (at_q.0, subst IsTrue (sym (same n)) at_q.1, at_q.2) in (
        λ joined. both.0 (joined_same t g f (λ k. sym (same k)) p q joined),
        λ equal. joined_same t f g same p q (both.1 equal),
      );
  in_turn = are.in_turn;
}

-- those that were found
pub labels_told : {W E : Type 0} (items : W → List (Option ℕ)) (bytes : List ℕ)
    (s t : Triangulation) → s ≡ t → (r : Result W E)
    → IfOk r (λ w. AreLabels s (by_place (is_free_face bytes)) (items w))
    → IfOk r (λ w. AreLabels t (is_marked bytes) (items w))
labels_told items bytes s t law (Ok w) are =
    subst (λ (u : Triangulation). AreLabels u (is_marked bytes) (items w)) law
    (labels_same s (by_place (is_free_face bytes)) (is_marked bytes) (free_by_place bytes)
    (items w) are)
labels_told items bytes s t law (Err e) are = are
