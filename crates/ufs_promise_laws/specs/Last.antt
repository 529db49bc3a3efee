-- A tree that everything stands in.
use Rattle.std.specs.Prelude.{ℕ, ◌≡◌, List, [], ◌∷◌, ◌++◌, Ok}
use Rattle.ufs_base.specs.Images.{Image}
use Rattle.ufs_image.specs.Opens.{ImageTree, opens}
use Rattle.ufs_ledger.specs.Kept.{paths_of}
use Rattle.ufs_model.specs.History.{IsLegal, tree_after}
use Rattle.ufs_model.specs.PosixTree.{IsTree, PosixTree}
use Rattle.ufs_model.specs.Start.{HasContents, PathNodes}
use Rattle.ufs_model.specs.declared.data.Entry.{Entry}
use Rattle.ufs_model.specs.declared.data.Op.TheVariants as op
use Rattle.ufs_model.specs.declared.data.Reply.TheVariants as reply
use Rattle.ufs_crash_laws.specs.Explained.{IsExplained}

-- The image stands for exactly the paths of this tree, each file with its bytes.
pub record StandsForTree (sectors : ℕ) (t : PosixTree) (image : Image) : Type 0 where
  pub tree : ImageTree
  pub opened : opens sectors image ≡ Ok tree
  pub contents : HasContents t (paths_of tree)

-- Where the last entry is a `sync` that is acknowledged, a history explains one tree alone: the last.
abbrev pub SyncedIsLast : Type 0
SyncedIsLast = (tree : PathNodes) (start : PosixTree) (history : List Entry) (entry : Entry) → IsTree start → IsLegal start (history ++ entry ∷ []) → entry.op ≡ op.Sync → entry.reply ≡ reply.Done
    → IsExplained tree start (history ++ entry ∷ []) → HasContents (tree_after start history) tree
