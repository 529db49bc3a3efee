-- The table of a catalog in which one inode changed.
use Rattle.std.proofs.Common.{◌≡◌, ◌≢◌, ℕ, ◌⊎◌, inl, inr, length, ap, sym, ◌∙◌, subst, arith}
use Rattle.std.specs.FinSet as set
use Rattle.std.proofs.lemmas.Bool.{cases_eq}
use Rattle.ufs_layout.specs.declared.geometry.Geometry.{Geometry}
use Rattle.ufs_dirs.specs.Directory.{Directory}
use Rattle.ufs_image.specs.Catalog.{Catalog, IsInode, slots_in}
use Rattle.ufs_dir_tree.specs.DirTable.{DirTable, dir_at, slots_at, blocks_at}
use Rattle.ufs_dir_laws.specs.Tables.{dir_blocks, is_free_inode, IsTableOf}

module _ (g : Geometry) (c d : Catalog) (t u : DirTable) (inode : ℕ) (inside : IsInode g inode) (of : IsTableOf g c t)
    (counted : length u.dirs ≡ length t.dirs)
    (others : (k : ℕ) → k ≢ inode → dir_at u k ≡ dir_at t k)
    (slots : slots_at u inode ≡ slots_in d inode)
    (blocks : blocks_at u inode ≡ dir_blocks d inode)
    (slots_else : (k : ℕ) → IsInode g k → k ≢ inode → slots_in d k ≡ slots_in c k)
    (blocks_else : (k : ℕ) → k ≢ inode → dir_blocks d k ≡ dir_blocks c k)
    (free : (k : ℕ) → set.contains u.free k ≡ is_free_inode g d k) where
  slots_now : (k : ℕ) → IsInode g k → slots_at u k ≡ slots_in d k
  slots_now k in_range = by (cases_eq k inode)
    where
      by : (k ≡ inode) ⊎ (k ≢ inode) → slots_at u k ≡ slots_in d k
      by (inl same) = subst (λ n. slots_at u n ≡ slots_in d n) (sym same) slots
      by (inr other) = ap (λ (x : Directory). x.slots) (others k other) ∙ of.slots k in_range ∙ sym (slots_else k in_range other)

  blocks_now : (k : ℕ) → IsInode g k → blocks_at u k ≡ dir_blocks d k
  blocks_now k in_range = by (cases_eq k inode)
    where
      by : (k ≡ inode) ⊎ (k ≢ inode) → blocks_at u k ≡ dir_blocks d k
      by (inl same) = subst (λ n. blocks_at u n ≡ dir_blocks d n) (sym same) blocks
      by (inr other) = ap (λ (x : Directory). x.blocks) (others k other) ∙ of.blocks k in_range ∙ sym (blocks_else k other)

  pub kept_table : IsTableOf g d u
  kept_table = record {
    counted = counted ∙ of.counted;
    none = let from = inside.from_one in others 0 (λ e. omega (arith, e, from)) ∙ of.none;
    slots = slots_now;
    blocks = blocks_now;
    free = free;
  }
