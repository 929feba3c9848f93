use Rattle.delaunay_vertices.proofs.choice.Spokes.is_turnable.Goals as goal

pub returns-then-is_convex_at : goal.returns-then-is_convex_at
returns-then-is_convex_at g c =
    let convex = rw (← c.self.view_is) at c.is_convex_at.ensures in
    let between = c.is_between_faces.ensures in
    rw (← c.self.view_is) (
      λ t. record {
        convex = convex.0 c.if-is_convex_at.true;
        left = (between.0 t).0;
        right = (between.0 t).1;
      },
      λ k. between.1 (k.left, k.right),
    )
