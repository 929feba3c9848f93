use Rattle.std.proofs.Common.{rules, ◌∙◌, ◌≤◌, ◌/◌, ℕ, [], ◌∷◌, length, refl, sym, ap, subst}
use Rattle.std.proofs.Common.{append-nil, append_assoc}
use Rattle.std.specs.Prelude.{Contains}
use Rattle.std.proofs.lemmas.List.Elements.{All-cons, All-nil}
use Rattle.half_edge_links.specs.{face, rev}
use Rattle.{delaunay_legalization.proofs.both_ways, drawing_faces.specs.Holes.faces_at}
use Rattle.delaunay_location.specs.{OnEdge, OnFace, OutsideOfConvexHull}
use Rattle.drawing_faces.proofs.{InFaces.in_no_face, Refusing.ok_of}
use Rattle.drawing_faces.proofs.holes.add_faces.Goals as goal

pub returns-in_ok-push-in-OnFace-clause-adds : goal.returns-in_ok-push-in-OnFace-clause-adds
returns-in_ok-push-in-OnFace-clause-adds g c =
    let few : ℕ → Type 0 = λ f. f ≤ length
    (g.T.Triangulation.state c.args.triangulation.now).faces in
    record {
      here = c.in-OnFace.face ∷ [];
      is_in = record {
        in_range = c.validate_vertex.ensures.exactly.0
            (ok_of c.validate_vertex.result (sym c.is_err.ensures.value ∙ c.if-is_err.false));
        at = OnFace c.in-OnFace.face;
        found = c.in-OnFace.ensures;
        holds = record { free = λ h. h; beside = λ h. h; faces_are = refl };
      };
      faces = c.in_ok-push-in-OnFace.ensures.items;
      within = All-cons few c.in-OnFace.face [] c.in-OnFace.ensures.element.1 (All-nil few);
    }

pub returns-in-OutsideOfConvexHull-clause-adds : goal.returns-in-OutsideOfConvexHull-clause-adds
returns-in-OutsideOfConvexHull-clause-adds g c = record {
  here = [];
  is_in = record {
    in_range = c.validate_vertex.ensures.exactly.0
        (ok_of c.validate_vertex.result (sym c.is_err.ensures.value ∙ c.if-is_err.false));
    at = OutsideOfConvexHull c.in-OutsideOfConvexHull.field-0;
    found = c.in-OutsideOfConvexHull.ensures;
    holds = record { free = λ h. h; beside = λ h. h; faces_are = refl };
  };
  faces = sym (append-nil c.args.faces.now.items);
  within = All-nil (λ f. f ≤ length (g.T.Triangulation.state c.args.triangulation.now).faces);
}

pub returns-in_ok-push-in-OnEdge-2-clause-adds : goal.returns-in_ok-push-in-OnEdge-2-clause-adds
returns-in_ok-push-in-OnEdge-2-clause-adds g c =
    let s = g.T.Triangulation.state c.args.triangulation.now in
    let constraints = g.T.Constraints.ConstraintMarker.constraints in
    let whole = c.fix-whole.ensures.value ∙ c.as_undirected.ensures.index
    ∙ ap (λ i. i / 2) c.directed_edge-edge.ensures.index in
    let few : ℕ → Type 0 = λ f. f ≤ length s.faces in
    let e = c.in-OnEdge.edge in
    let mesh = c.directed_edge-edge.result.dcel.now.mesh in
    let at = c.directed_edge-edge.ensures.index in
    let state = c.directed_edge-edge.ensures.state in
    let many = ap (λ t. length t.faces) state in
    let left = c.fix.ensures.value ∙ c.face.ensures.index ∙ ap (face mesh) at
    ∙ ap (λ t. face t.mesh e) state in
    let right = c.fix-in-OnEdge.ensures.value ∙ c.face-in-OnEdge.ensures.index
    ∙ ap (λ d. face d.now.mesh c.rev.result.index) c.rev.ensures.dcel
    ∙ ap (face mesh) (c.rev.ensures.index ∙ ap rev at) ∙ ap (λ t. face t.mesh (rev e)) state in
    record {
      here = faces_at s.mesh (OnEdge c.in-OnEdge.edge);
      is_in = record {
        in_range = c.validate_vertex.ensures.exactly.0
            (ok_of c.validate_vertex.result (sym c.is_err.ensures.value ∙ c.if-is_err.false));
        at = OnEdge c.in-OnEdge.edge;
        found = c.in-OnEdge.ensures;
        holds = record {
          free = λ has. both_ways _ (c.is_constraint_edge.ensures.1
              (subst (λ t. Contains (constraints t.undirected) c.fix-whole.result)
              (sym c.s.ensures.state)
              (subst (Contains (constraints s.undirected)) (sym whole) has)))
              c.if-is_constraint_edge.false;
          beside = λ h. h;
          faces_are = refl;
        };
      };
      faces = search (rules, append_assoc);
      within = All-cons few (face s.mesh e) (face s.mesh (rev e) ∷ [])
          (subst few left (subst (λ n. c.fix.result ≤ n)
          (ap (λ d. length d.now.faces) c.face.ensures.dcel ∙ many) c.fix.ensures.in_range))
          (All-cons few (face s.mesh (rev e)) []
          (subst few right (subst (λ n. c.fix-in-OnEdge.result ≤ n)
          (ap (λ d. length d.now.faces) (c.face-in-OnEdge.ensures.dcel ∙ c.rev.ensures.dcel)
          ∙ many) c.fix-in-OnEdge.ensures.in_range)) (All-nil few));
    }

pub returns-in_default-clause-refuses : goal.returns-in_default-clause-refuses
returns-in_default-clause-refuses g c = (
  refl,
  record {
    in_range = c.validate_vertex.ensures.exactly.0
        (ok_of c.validate_vertex.result (sym c.is_err.ensures.value ∙ c.if-is_err.false));
    at = c.locate.result;
    found = c.locate.ensures;
    holds = in_no_face c.locate.result c.in_default.not-OnEdge c.in_default.not-OnFace
        c.in_default.not-OutsideOfConvexHull;
  },
)
