-- Steps that don't touch an inode leave its blocks as a directory.
use Rattle.std.proofs.Common.{◌≡◌, ◌≢◌, ℕ, ◌<◌, ◌≤◌, ◌⊎◌, inl, inr, ◌||◌, List, [], ◌∷◌, Bool, true, false, length, ap, sym, refl, ◌∙◌, arith, get_or-set_same, get_or-set_other}
use Rattle.std.specs.Prelude.{◌==◌}
use Rattle.std.proofs.Math.Seq.{set_out}
use Rattle.std.proofs.lemmas.Bool.{cases_eq, cases_lt}
use Rattle.std.proofs.lemmas.Bool.Decides.{nat_tests}
use Rattle.ufs_dirs.specs.Directory.{Directory}
use Rattle.ufs_dir_tree.specs.DirTable.{DirTable, blocks_at, no_dir}
use Rattle.ufs_dir_tree.specs.Steps.{Step, Born, Grown, Put, Freed, table_after, table_after_all, with_dir}
use Rattle.ufs_name_tree.specs.Notes.{is_of, is_touched}

apart : (i j : ℕ) → (i == j) ≡ false → j ≢ i
apart i j off same = grind (arith, nat_tests, off, same)

first_off : (a b : Bool) → (a || b) ≡ false → a ≡ false
first_off false b e = refl
first_off true b e = e

rest_off : (a b : Bool) → (a || b) ≡ false → b ≡ false
rest_off false b e = e
rest_off true b e = (let clash = e in absurd cc)

-- another directory gets the place
else_stays : (t : DirTable) (i j : ℕ) (d : Directory) → j ≢ i → blocks_at (with_dir i d t) j ≡ blocks_at t j
else_stays t i j d other = ap (λ (x : Directory). x.blocks) (get_or-set_other t.dirs i j d no_dir other)

-- one with the same blocks does
same_blocks : (t : DirTable) (i j : ℕ) (d : Directory) → d.blocks ≡ blocks_at t i → (j ≡ i) ⊎ (j ≢ i) → (i < length t.dirs) ⊎ (length t.dirs ≤ i) → blocks_at (with_dir i d t) j ≡ blocks_at t j
same_blocks t i j d same (inr other) either = else_stays t i j d other
same_blocks t i j d same (inl here) (inl within) = ap (blocks_at (with_dir i d t)) here ∙ ap (λ (x : Directory). x.blocks) (get_or-set_same t.dirs i d no_dir within) ∙ same ∙ ap (blocks_at t) (sym here)
same_blocks t i j d same (inl here) (inr past) = ap (λ (ds : List Directory). blocks_at (record { dirs = ds; free = t.free }) j) (set_out t.dirs i d past)

step_stays : (x : Step) (t : DirTable) (inode : ℕ) → is_of inode x ≡ false → blocks_at (table_after x t) inode ≡ blocks_at t inode
step_stays (Born i kind) t inode off = refl
step_stays (Grown i block) t inode off = else_stays t i inode _ (apart i inode off)
step_stays (Put i slot d) t inode off = same_blocks t i inode _ refl (cases_eq inode i) (cases_lt i (length t.dirs))
step_stays (Freed i) t inode off = ap (λ (x : Directory). x.blocks) (get_or-set_other t.dirs i inode no_dir no_dir (apart i inode off))

pub blocks_stay : (xs : List Step) (t : DirTable) (inode : ℕ) → is_touched xs inode ≡ false → blocks_at (table_after_all xs t) inode ≡ blocks_at t inode
blocks_stay [] t inode off = refl
blocks_stay (x ∷ xs) t inode off =
    blocks_stay xs (table_after x t) inode (rest_off (is_of inode x) (is_touched xs inode) off) ∙ step_stays x t inode (first_off (is_of inode x) (is_touched xs inode) off)
