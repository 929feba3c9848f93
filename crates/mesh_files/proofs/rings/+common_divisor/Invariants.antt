use Rattle.mesh_files.proofs.rings.+common_divisor.Given as goal

abbrev pub decreases-common_divisor : goal.decreases-common_divisor
decreases-common_divisor l = l.second
