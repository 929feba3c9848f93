use Rattle.plane_theorems.proofs.Tiling.Counts.{hull_edges_count, line_edges_count}
use Rattle.plane_theorems.proofs.Tiling.Locations.{each_point_has_one_location, no_edges_cross}
use Rattle.plane_theorems.proofs.{Tiling.Meshes.meshes_tile, Tiling.Tiles.tiles}
use Rattle.plane_theorems.proofs.tilings_hold.Goals as goal

pub returns : goal.returns
returns c = record {
  local_meshes_tile = tiles;
  meshes_tile = meshes_tile;
  no_edges_cross = no_edges_cross;
  each_point_has_one_location = each_point_has_one_location;
  hull_edges_count = hull_edges_count;
  line_edges_count = line_edges_count;
}
