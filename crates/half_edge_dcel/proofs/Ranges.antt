-- The edges that a mesh names are edges of it.
-- Lemmas: out_edge-within, outer_edge-within.
use Rattle.std.proofs.Common.{◌≡◌, ℕ, ◌<◌, length, Option, None, Some, IfSome}
use Rattle.half_edge_links.specs.{out_edge}
use Rattle.half_edge_dcel.specs.{Contents, IsMeshWithData}

-- the edge that a vertex names, if it names one
pub out_edge-within : {V D U F : Type 0} (c : Contents V D U F) (v : ℕ) (first : Option ℕ)
    → IsMeshWithData c → out_edge c.mesh v ≡ first → IfSome first (λ h. h < length c.directed)
out_edge-within c v None w is = tt
out_edge-within c v (Some h) w is = rw w.fits.directed_fit (w.valid.sound.vertices v h is).0

-- the edge that the outer face names, if it names one
pub outer_edge-within : {V D U F : Type 0} (c : Contents V D U F) (first : Option ℕ)
    → IsMeshWithData c → c.mesh.outer_edge ≡ first → IfSome first (λ h. h < length c.directed)
outer_edge-within c None w is = tt
outer_edge-within c (Some h) w is = rw w.fits.directed_fit (w.valid.sound.outer h is).0
