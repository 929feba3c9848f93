-- The faces of a mesh as triples of vertices: the face of a directed edge, and how a list with some
-- faces written anew has changed.
-- Notions: face_at; one_written, two_written, two_set, set_has, sets_have, sets_have_last,
-- contains_map, length_map, face_within, listed_face, is_face_at, turned_faces, come_of,
-- total_faces, face_listed.
use Rattle.std.proofs.Common.{◌≡◌, ◌⊎◌, ◌<◌, ◌-◌, [], ◌∷◌, ◌++◌, ◌∙◌}
use Rattle.std.proofs.Common.{ℕ, zero, suc, List, length, map, set, get_or, refl, sym, ap, subst}
use Rattle.std.proofs.Common.{arith, length-set, get_or-set_same, get_or-set_other}
use mathlib.Core.Logic.{inl, inr, ◌≢◌}
use Rattle.std.specs.Prelude.{ℤ, ◌+ℤ◌, Contains}
use Rattle.std.proofs.lemmas.Int.{ints}
use Rattle.plane.specs.{Face, face as corners}
use Rattle.half_edge_links.specs.{AreSoundLinks, face, face_edge, Mesh, next, origin, prev}
use Rattle.half_edge_links.specs.{Triangle, triangle_at, triangles}
use Rattle.plane_theorems.specs.{IsFaceOf, IsTurnFree, total}
use Rattle.plane_theorems.proofs.{Contains-cases, Contains-head, Contains-later, Contains-none}
use Rattle.plane_theorems.proofs.{Edits.LocalMesh.Changes.total_append, get_or_any}
use Rattle.delaunay_legalization.specs.{corners_of, faces_of}
use Rattle.delaunay_legalization.proofs.OwnEdges.{total-map}
use Rattle.half_edge_links.proofs.Sound.Triangles as T

-- ---- lists in which one or two entries are written, and some added
module _ {X : Type 0} (f : X → ℤ) where
  one_set : (xs : List X) (i : ℕ) (y d : X) → i < length xs
      → total f (set xs i y) +ℤ f (get_or xs i d) ≡ total f xs +ℤ f y
  one_set [] i y d h = absurd (omega arith)
  one_set (x ∷ xs) zero y d h = turn (f y) (total f xs) (f x)
    where
      turn : (a b c : ℤ) → (a +ℤ b) +ℤ c ≡ (c +ℤ b) +ℤ a
      turn a b c = omega (arith, ints)
  one_set (x ∷ xs) (suc i) y d h = behind (f x) (total f (set xs i y)) (f (get_or xs i d))
      (total f xs) (f y) (one_set xs i y d (omega arith))
    where
      behind : (a s t u v : ℤ) → s +ℤ t ≡ u +ℤ v → (a +ℤ s) +ℤ t ≡ (a +ℤ u) +ℤ v
      behind a s t u v e = omega (arith, ints)

  -- the sum over a list where one entry is written and some are added, by what goes and what comes
  pub one_written : (xs more : List X) (i : ℕ) (y d : X) → i < length xs
      → total f (set xs i y ++ more) +ℤ f (get_or xs i d) ≡ total f xs +ℤ (f y +ℤ total f more)
  one_written xs more i y d h =
      join (total f (set xs i y ++ more)) (total f (set xs i y)) (total f more) (f (get_or xs i d))
      (total f xs) (f y) (total_append f (set xs i y) more) (one_set xs i y d h)
    where
      join : (a s m t u v : ℤ) → a ≡ s +ℤ m → s +ℤ t ≡ u +ℤ v → a +ℤ t ≡ u +ℤ (v +ℤ m)
      join a s m t u v p q = omega (arith, ints)

  -- the same sum where two entries at different places are written and some are added
  pub two_written : (xs more : List X) (i j : ℕ) (y z d : X) → i < length xs → j < length xs → i ≢ j
      → total f (set (set xs i y) j z ++ more) +ℤ (f (get_or xs i d) +ℤ f (get_or xs j d))
      ≡ total f xs +ℤ (f y +ℤ (f z +ℤ total f more))
  two_written xs more i j y z d h k apart =
      join (total f (set (set xs i y) j z ++ more)) (total f (set xs i y)) (total f more)
      (f (get_or xs i d)) (f (get_or xs j d)) (total f xs) (f y) (f z)
      (one_written (set xs i y) more j z d (subst (λ n. j < n) (sym (length-set xs i y)) k))
      (ap f (get_or-set_other xs i j y d (λ e. apart (sym e)))) (one_set xs i y d h)
    where
      join : (a s m t w u v z : ℤ) {r : ℤ} → a +ℤ r ≡ s +ℤ (z +ℤ m) → r ≡ w → s +ℤ t ≡ u +ℤ v
          → a +ℤ (t +ℤ w) ≡ u +ℤ (v +ℤ (z +ℤ m))
      join a s m t w u v z {r} p e q = omega (arith, ints)

  -- the sum over a list where two entries at different places are written
  pub two_set : (xs : List X) (i j : ℕ) (y z d : X) → i < length xs → j < length xs → i ≢ j
      → total f (set (set xs i y) j z) +ℤ (f (get_or xs i d) +ℤ f (get_or xs j d))
      ≡ total f xs +ℤ (f y +ℤ f z)
  two_set xs i j y z d h k apart =
      join (total f (set (set xs i y) j z)) (total f (set xs i y)) (f (get_or xs i d))
      (f (get_or xs j d)) (total f xs) (f y) (f z)
      (one_set (set xs i y) j z d (subst (λ n. j < n) (sym (length-set xs i y)) k))
      (ap f (get_or-set_other xs i j y d (λ e. apart (sym e)))) (one_set xs i y d h)
    where
      join : (a s t w u v z : ℤ) {r : ℤ} → a +ℤ r ≡ s +ℤ z → r ≡ w → s +ℤ t ≡ u +ℤ v
          → a +ℤ (t +ℤ w) ≡ u +ℤ (v +ℤ z)
      join a s t w u v z {r} p e q = omega (arith, ints)

module _ {X : Type 0} where
  -- a list has an entry that was written in it
  pub set_has : (xs : List X) (i : ℕ) (y : X) → i < length xs → Contains (set xs i y) y
  set_has xs i y h = (i, subst (λ n. i < n) (sym (length-set xs i y)) h, get_or-set_same xs i y y h)

  -- of two entries written at different places a list has the first
  pub sets_have : (xs : List X) (i j : ℕ) (y z : X) → i < length xs → i ≢ j
      → Contains (set (set xs i y) j z) y
  sets_have xs i j y z h apart = (
    i,
    subst (λ n. i < n) (sym (length-set (set xs i y) j z ∙ length-set xs i y)) h,
    get_or-set_other (set xs i y) j i z y apart ∙ get_or-set_same xs i y y h,
  )

  -- of two entries written in a list it has the last
  pub sets_have_last : (xs : List X) (i j : ℕ) (y z : X) → j < length xs
      → Contains (set (set xs i y) j z) z
  sets_have_last xs i j y z h =
      set_has (set xs i y) j z (subst (λ n. j < n) (sym (length-set xs i y)) h)

  -- the values of a function over a list contain its value at each entry
  pub contains_map : {Y : Type 0} (g : X → Y) (xs : List X) (x : X) → Contains xs x
      → Contains (map g xs) (g x)
  contains_map g [] x c = absurd (Contains-none x c)
  contains_map g (y ∷ xs) x c = go (Contains-cases y xs x c) (contains_map g xs x)
    where
      go : (y ≡ x) ⊎ Contains xs x → (Contains xs x → Contains (map g xs) (g x))
          → Contains (g y ∷ map g xs) (g x)
      go (inl e) r = subst (Contains (g y ∷ map g xs)) (ap g e) (Contains-head (g y) (map g xs))
      go (inr k) r = Contains-later (g y) (map g xs) (g x) (r k)

get_map : {X Y : Type 0} (g : X → Y) (xs : List X) (k : ℕ) (d : X) (e : Y) → k < length xs
    → get_or (map g xs) k e ≡ g (get_or xs k d)
get_map g [] k d e h = absurd (omega arith)
get_map g (x ∷ xs) zero d e h = refl
get_map g (x ∷ xs) (suc k) d e h = get_map g xs k d e (omega arith)

-- there are as many values of a function over a list as entries
pub length_map : {X Y : Type 0} (g : X → Y) (xs : List X) → length (map g xs) ≡ length xs
length_map g [] = refl
length_map g (x ∷ xs) = ap suc (length_map g xs)

-- ---- the face of a directed edge
-- the corners round the face on the left of an edge
abbrev pub face_at : Mesh → ℕ → Face
face_at m e = corners (origin m e) (origin m (next m e)) (origin m (prev m e))

-- the inner face on the left of an edge has its place in the list of triangles
pub face_within : (m : Mesh) (e : ℕ) → AreSoundLinks m → e < length m.half_edges → 0 < face m e
    → (face m e - 1) < length (triangles m)
face_within m e s h inner =
    let f = (s.edges e h).face_in in let n = length_map (triangle_at m) m.face_edges in omega arith

module _ (m : Mesh) (e : ℕ) (s : AreSoundLinks m) (t : T.IsTriangle m e)
    (inner : 0 < face m e) where
  -- the three edges from which the face may be named
  named_from : (face_edge m (face m e) ≡ e)
      ⊎ ((face_edge m (face m e) ≡ next m e) ⊎ (face_edge m (face m e) ≡ prev m e))
  named_from = (s.edges e t.h_in).owned inner

  in_face_edges : (face m e - 1) < length m.face_edges
  in_face_edges = let f = (s.edges e t.h_in).face_in in omega arith

  -- what a function that reads faces alike from each corner says of the listed face
  pub listed_face : (f : Face → ℤ) (d : Triangle) → IsTurnFree f
      → f (corners_of (get_or (triangles m) (face m e - 1) d)) ≡ f (face_at m e)
  listed_face f d free = ap (λ x. f (corners_of x))
      (get_map (triangle_at m) m.face_edges (face m e - 1) 0 d in_face_edges) ∙ go named_from
    where
      o : ℕ
      o = origin m e

      p : ℕ
      p = origin m (next m e)

      q : ℕ
      q = origin m (prev m e)

      go : (face_edge m (face m e) ≡ e)
          ⊎ ((face_edge m (face m e) ≡ next m e) ⊎ (face_edge m (face m e) ≡ prev m e))
          → f (corners_of (triangle_at m (face_edge m (face m e)))) ≡ f (face_at m e)
      go (inl i) = ap (λ h. f (corners_of (triangle_at m h))) i
      go (inr (inl i)) = ap (λ h. f (corners_of (triangle_at m h))) i
          ∙ (λ j. f (corners p (origin m (t.next_next j)) (origin m (t.prev_next j))))
          ∙ sym (free o p q)
      go (inr (inr i)) = ap (λ h. f (corners_of (triangle_at m h))) i
          ∙ (λ j. f (corners q (origin m (t.next_prev j)) (origin m (t.prev_prev j)))) ∙ free q o p

  -- the corners round the inner face on the left of the edge, from its start on, are a listed face
  pub is_face_at : IsFaceOf (faces_of m) (origin m e) (origin m (next m e)) (origin m (prev m e))
  is_face_at = go named_from
    where
      o : ℕ
      o = origin m e

      p : ℕ
      p = origin m (next m e)

      q : ℕ
      q = origin m (prev m e)

      listed : Contains (faces_of m) (corners_of (triangle_at m (face_edge m (face m e))))
      listed = contains_map corners_of (triangles m) (triangle_at m (face_edge m (face m e)))
          (contains_map (triangle_at m) m.face_edges (face_edge m (face m e)) (
            face m e - 1,
            in_face_edges,
            get_or_any m.face_edges (face m e - 1) (face_edge m (face m e)) 0 in_face_edges,
          ))

      go : (face_edge m (face m e) ≡ e)
          ⊎ ((face_edge m (face m e) ≡ next m e) ⊎ (face_edge m (face m e) ≡ prev m e))
          → IsFaceOf (faces_of m) o p q
      go (inl i) = inl (subst (λ h. Contains (faces_of m) (corners_of (triangle_at m h))) i listed)
      go (inr (inl i)) =
          inr (inl (subst (Contains (faces_of m)) (ap (λ h. corners_of (triangle_at m h)) i
          ∙ (λ j. corners p (origin m (t.next_next j)) (origin m (t.prev_next j)))) listed))
      go (inr (inr i)) =
          inr (inr (subst (Contains (faces_of m)) (ap (λ h. corners_of (triangle_at m h)) i
          ∙ (λ j. corners q (origin m (t.next_prev j)) (origin m (t.prev_prev j)))) listed))

-- ---- faces made, up to rotation
-- a face of a list, up to rotation, is one from its second corner on, too
pub turned_faces : (faces : List Face) (i j k : ℕ) → IsFaceOf faces i j k → IsFaceOf faces j k i
turned_faces faces i j k (inl c) = inr (inr c)
turned_faces faces i j k (inr (inl c)) = inl c
turned_faces faces i j k (inr (inr c)) = inr (inl c)

-- each of the made faces is one of the faces, each up to rotation
abbrev AreAmong : List Face → List Face → Type 0
AreAmong faces [] = Unit {0}
AreAmong faces (f ∷ fs) = IsFaceOf faces f.a f.b f.c × AreAmong faces fs

one_of_them : (faces made : List Face) → AreAmong faces made → (i j k : ℕ)
    → Contains made (corners i j k) → IsFaceOf faces i j k
one_of_them faces [] a i j k c = absurd (Contains-none (corners i j k) c)
one_of_them faces (f ∷ made) a i j k c =
    go (Contains-cases f made (corners i j k) c) (one_of_them faces made a.1 i j k)
  where
    go : (f ≡ corners i j k) ⊎ Contains made (corners i j k)
        → (Contains made (corners i j k) → IsFaceOf faces i j k) → IsFaceOf faces i j k
    go (inl e) r = subst (λ (g : Face). IsFaceOf faces g.a g.b g.c) e a.0
    go (inr k) r = r k

-- a face of the made ones, up to rotation, is one of the faces where each of the made ones is
pub come_of : (faces made : List Face) → AreAmong faces made → (i j k : ℕ) → IsFaceOf made i j k
    → IsFaceOf faces i j k
come_of faces made a i j k (inl c) = one_of_them faces made a i j k c
come_of faces made a i j k (inr (inl c)) =
    turned_faces faces k i j (turned_faces faces j k i (one_of_them faces made a j k i c))
come_of faces made a i j k (inr (inr c)) =
    turned_faces faces k i j (one_of_them faces made a k i j c)

-- the listed faces are those of the triangles
pub total_faces : (f : Face → ℤ) (m : Mesh)
    → total f (faces_of m) ≡ total (λ t. f (corners_of t)) (triangles m)
total_faces f m = total-map f corners_of (triangles m)

-- the corners of a listed triangle are listed as a face
pub face_listed : (m : Mesh) (t : Triangle) → Contains (triangles m) t
    → Contains (faces_of m) (corners_of t)
face_listed m t c = contains_map corners_of (triangles m) t c
