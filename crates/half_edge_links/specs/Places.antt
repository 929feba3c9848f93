-- What writes to a list of directed edges ask of the edges that they are given.
use Rattle.std.specs.Prelude.{◌≡◌, ◌≢◌, ℕ, ◌+◌, ◌%◌, ◌<◌, List, length}
use Rattle.half_edge_links.specs.{declared.records.HalfEdge.HalfEdge, Meshes.edge_at}

-- the links of each directed edge lead to edges of the list, and back
pub record AreJoined (hs : List HalfEdge) : Type 0 where
  pub next_in : (h : ℕ) → h < length hs → (edge_at hs h).next < length hs
  pub prev_in : (h : ℕ) → h < length hs → (edge_at hs h).prev < length hs
  pub prev_next : (h : ℕ) → h < length hs → (edge_at hs (edge_at hs h).next).prev ≡ h
  pub next_prev : (h : ℕ) → h < length hs → (edge_at hs (edge_at hs h).prev).next ≡ h

-- three different directed edges that follow each other in a loop
pub record IsLoopOfThree (hs : List HalfEdge) (h : ℕ) : Type 0 where
  pub within : h < length hs
  pub three : (edge_at hs (edge_at hs h).next).next ≡ (edge_at hs h).prev
  pub next_differs : (edge_at hs h).next ≢ h
  pub prev_differs : (edge_at hs h).prev ≢ h
  pub both_differ : (edge_at hs h).next ≢ (edge_at hs h).prev

-- six places of a list, no two of them the same
pub record AreSixPlaces (n a b c d e f : ℕ) : Type 0 where
  pub a_in : a < n
  pub b_in : b < n
  pub c_in : c < n
  pub d_in : d < n
  pub e_in : e < n
  pub f_in : f < n
  pub ab : a ≢ b
  pub ac : a ≢ c
  pub ad : a ≢ d
  pub ae : a ≢ e
  pub af : a ≢ f
  pub bc : b ≢ c
  pub bd : b ≢ d
  pub be : b ≢ e
  pub bf : b ≢ f
  pub cd : c ≢ d
  pub ce : c ≢ e
  pub cf : c ≢ f
  pub de : d ≢ e
  pub df : d ≢ f
  pub ef : e ≢ f

-- the far end of edge k, which comes after edge e, is free: l is the other side of k, t that of e,
-- and z the edge before t
pub record AreSlidPlaces (hs : List HalfEdge) (e t k l z : ℕ) : Type 0 where
  pub edge_in : e < length hs
  pub twin_in : t < length hs
  pub there_is : k ≡ (edge_at hs e).next
  pub back_is : l ≡ (edge_at hs k).next
  pub before_is : z ≡ (edge_at hs t).prev
  pub edge-twin : e ≢ t
  pub edge-before : e ≢ z
  pub edge-there : e ≢ k
  pub before-there : z ≢ k
  pub back-there : l ≢ k
  pub back-twin : l ≢ t
  pub there-twin : k ≢ t
  pub before-twin : z ≢ t

-- edge l comes after edge e, and its other side k before the other side t of e; z is the edge
-- before k
pub record ArePassedPlaces (hs : List HalfEdge) (e t k l z : ℕ) : Type 0 where
  pub edge_in : e < length hs
  pub twin_in : t < length hs
  pub back_is : l ≡ (edge_at hs e).next
  pub there_is : k ≡ (edge_at hs t).prev
  pub before_is : z ≡ (edge_at hs k).prev
  pub edge-twin : e ≢ t
  pub edge-before : e ≢ z
  pub edge-there : e ≢ k
  pub before-there : z ≢ k
  pub back-there : l ≢ k
  pub back-twin : l ≢ t
  pub there-twin : k ≢ t
  pub before-twin : z ≢ t

-- edges e and t differ, and neither comes after itself
pub record AreUnlinkedPlaces (hs : List HalfEdge) (e t : ℕ) : Type 0 where
  pub edge_in : e < length hs
  pub twin_in : t < length hs
  pub differ : e ≢ t
  pub edge_proper : (edge_at hs e).next ≢ e
  pub twin_proper : (edge_at hs t).next ≢ t

-- directed edges hole and hole + 1, the two sides of an edge, are loops of their own
pub record IsHole (hs : List HalfEdge) (hole : ℕ) : Type 0 where
  pub even : length hs % 2 ≡ 0
  pub hole_even : hole % 2 ≡ 0
  pub within : hole + 1 < length hs
  pub next_self : (edge_at hs hole).next ≡ hole
  pub twin_next_self : (edge_at hs (hole + 1)).next ≡ hole + 1
