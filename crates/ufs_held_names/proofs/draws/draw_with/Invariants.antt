use Rattle.ufs_held_names.specs.Drawn.{names_left, next_cells}
use Rattle.ufs_held_names.proofs.draws.draw_with.Given as goal

abbrev pub ghosts-draw_kept_file : goal.ghosts-draw_kept_file
ghosts-draw_kept_file g a = record { leaves = names_left a.fresh.now a.right.now a.noted.now a.pool.now a.desc (next_cells a.file.now a.right.now.files) }
