use Rattle.std.proofs.Common.{List, ℕ, ◌++◌, drop, ◌∙◌, ap}
use Rattle.ufs_layout.specs.InodeForm.{inode_bytes}
use Rattle.ufs_recover.proofs.tables.put_root.Goals as goal

pub returns : goal.returns
returns c = ap (λ (bytes : List ℕ). bytes ++ drop 512 c.args.bytes.now) (c.put_inode.ensures.spelling ∙ ap inode_bytes c.from_extents.ensures)
