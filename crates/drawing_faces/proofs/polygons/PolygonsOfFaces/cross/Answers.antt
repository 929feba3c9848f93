use Rattle.std.proofs.Common.{◌≡◌, ◌≤◌, ◌<◌, ◌+◌, ◌/◌, ◌∙◌, ℕ, List, length, map, set}
use Rattle.std.proofs.Common.{ap, sym, subst, arith}
use Rattle.std.specs.Prelude.{Option, None, Some}
use Rattle.std.proofs.lemmas.Result.{on_ok_weaker}
use Rattle.half_edge_links.specs.{face, rev}
use Rattle.drawing_faces.specs.{IsSearch, label_at, lists_in, sides_in, work_left}
use Rattle.drawing_faces.specs.PolygonSearch.{GoesOn}
use Rattle.drawing_faces.proofs.PolygonSearching.{is_no_some, less_left, told}
use Rattle.drawing_faces.proofs.polygons.PolygonsOfFaces.cross.Goals as goal

pub returns-clause-search : goal.returns-clause-search
returns-clause-search g c =
    let m = c.args.dcel.now.mesh in
    let borders = sides_in c.args.borders.now in
    let labels = c.args.self.now.labels.items in
    let lists = lists_in c.args.self.now in
    let h = c.args.edge in
    let i = c.in-Some.label in
    let j = c.in_ok-label.label in
    let whole = c.recall_invariant.ensures.whole.fits in
    let edges = whole.directed_fit in
    let faces = whole.faces_fit in
    let edge = c.requires.edge in
    let size = c.requires.search.size in
    let right = c.faces_beside-here.ensures.right in
    let inner = c.faces_beside-here.ensures.within in
    let within : h < length m.half_edges = omega (arith, edges, edge) in
    let small : face m (rev h) < length labels = omega (arith, faces, size, right, inner) in
    let here : label_at labels (face m h) ≡ Some i =
    ap (label_at labels) (sym c.faces_beside-here.ensures.left) ∙ sym c.label_of.ensures
    ∙ c.in-Some.is in
    let new : label_at labels (face m (rev h)) ≡ None =
    ap (label_at labels) (sym right) ∙ sym c.label_of-2.ensures
    ∙ is_no_some c.label_of-2.result (sym c.is_some.ensures ∙ c.if-is_some.false) in
    let on : GoesOn lists i (borders (h / 2)) j (lists_in c.list_across.new.self) =
    subst (λ (xs : List ℕ). GoesOn lists i xs j (lists_in c.list_across.new.self))
    (c.at-sides.ensures ∙ ap borders c.as_undirected.ensures) c.in_ok-label.ensures.lists in
    let marks : c.tell.new.self.labels.items ≡ set labels (face m (rev h)) (Some j) =
    c.tell.ensures.labels
    ∙ ap (λ v. set v.items c.faces_beside-here.result.1 (Some j)) c.list_across.ensures.labels
    ∙ ap (λ f. set labels f (Some j)) right in
    let found = subst (λ (ls : List (Option ℕ)). IsSearch m borders ls (lists_in c.tell.new.self))
    (sym marks)
    (subst (IsSearch m borders (set labels (face m (rev h)) (Some j)))
    (sym (ap (λ v. map (λ l. l.items) v.items) c.tell.ensures.lists))
    (told m borders labels lists (lists_in c.list_across.new.self) c.requires.search h i j within
    small here new on)) in
    on_ok_weaker c.tell.result (λ x. found) c.tell.ensures.due

pub returns-clause-less : goal.returns-clause-less
returns-clause-less g c =
    let m = c.args.dcel.now.mesh in
    let labels = c.args.self.now.labels.items in
    let h = c.args.edge in
    let j = c.in_ok-label.label in
    let faces = c.recall_invariant.ensures.whole.fits.faces_fit in
    let size = c.requires.search.size in
    let right = c.faces_beside-here.ensures.right in
    let inner = c.faces_beside-here.ensures.within in
    let small : face m (rev h) < length labels = omega (arith, faces, size, right, inner) in
    let new : label_at labels (face m (rev h)) ≡ None =
    ap (label_at labels) (sym right) ∙ sym c.label_of-2.ensures
    ∙ is_no_some c.label_of-2.result (sym c.is_some.ensures ∙ c.if-is_some.false) in
    let marks : c.tell.new.self.labels.items ≡ set labels (face m (rev h)) (Some j) =
    c.tell.ensures.labels
    ∙ ap (λ v. set v.items c.faces_beside-here.result.1 (Some j)) c.list_across.ensures.labels
    ∙ ap (λ f. set labels f (Some j)) right in
    on_ok_weaker c.tell.result
    (λ few is_open. subst (λ (ls : List (Option ℕ)). work_left ls c.tell.new.due.items
    < work_left labels c.args.due.now.items) (sym marks)
    (less_left labels c.args.due.now.items c.tell.new.due.items (face m (rev h)) j small new few))
    c.tell.ensures.due
