-- The lines of what is damaged in an image.
use Rattle.std.specs.Prelude.{ℕ, List, ◌∷◌, ◌++◌, flat_map, codes}
use Rattle.std.specs.Fmt.{decimal}
use Rattle.ufs_image.specs.Damage.{Damage, BadInode, BadExtent, SharedBlock, ShortExtents, BadDentry, FreeInode, NameTwice, TwoNames, BitmapDiffers}
use Rattle.ufs_print.specs.Lines.{line}

-- nothing is damaged
abbrev pub clean_line : List ℕ
clean_line = line (codes "clean")

-- a kind and its numbers
abbrev pub one_number : List ℕ → ℕ → List ℕ
one_number kind a = line (codes "damage " ++ kind ++ 32 ∷ decimal a)

abbrev pub two_numbers : List ℕ → ℕ → ℕ → List ℕ
two_numbers kind a b = line (codes "damage " ++ kind ++ 32 ∷ decimal a ++ 32 ∷ decimal b)

abbrev pub three_numbers : List ℕ → ℕ → ℕ → ℕ → List ℕ
three_numbers kind a b c = line (codes "damage " ++ kind ++ 32 ∷ decimal a ++ 32 ∷ decimal b ++ 32 ∷ decimal c)

abbrev pub damage_line : Damage → List ℕ
damage_line (BadInode inode) = one_number (codes "BadInode") inode
damage_line (BadExtent inode) = one_number (codes "BadExtent") inode
damage_line (SharedBlock block first second) = three_numbers (codes "SharedBlock") block first second
damage_line (ShortExtents inode) = one_number (codes "ShortExtents") inode
damage_line (BadDentry dir slot) = two_numbers (codes "BadDentry") dir slot
damage_line (FreeInode dir slot inode) = three_numbers (codes "FreeInode") dir slot inode
damage_line (NameTwice dir slot) = two_numbers (codes "NameTwice") dir slot
damage_line (TwoNames inode) = one_number (codes "TwoNames") inode
damage_line (BitmapDiffers block) = one_number (codes "BitmapDiffers") block

-- a line for each damage, in the list's order
abbrev pub damage_lines : List Damage → List ℕ
damage_lines list = flat_map damage_line list
