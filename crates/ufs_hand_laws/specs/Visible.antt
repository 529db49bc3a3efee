-- What a session may say of its disk rests on this: the disk is visible, and was proper as the session began.
use Rattle.std.specs.Prelude.{◌≡◌, true, [], ◌∷◌, length, Ok}
use Rattle.ufs_disk.specs.Disk.{IsSettled, seen}
use Rattle.ufs_image.specs.Opens.{ImageTree, opens}
use Rattle.ufs_image.specs.Proper.{IsProperImage}
use Rattle.ufs_image.specs.Volume.{superblock_of}
use Rattle.ufs_model.specs.Start.{start_of}
use Rattle.ufs_hand_laws.specs.DiskBytes.{state_of}
use Rattle.ufs_hand_laws.specs.Parts.{StorePart, Start}
use Rattle.ufs_hand_laws.specs.Shown.{nodes_of}

pub record IsDiskVisible (k : Start) : Type 0 where
  pub visible : k.is_visible ≡ true
  -- the first hand has the store, with the disk as it was then
  pub store : StorePart
  pub has_store : k.view.store ≡ (tt, store) ∷ []
  -- nothing was pending
  pub settled : IsSettled (state_of store.state)
  -- what a read gave was proper, marked clean, and opened to the tree with which the session starts
  pub proper : IsProperImage (length store.state) (seen (state_of store.state))
  pub clean : (superblock_of (seen (state_of store.state))).clean ≡ true
  pub tree : ImageTree
  pub opened : opens (length store.state) (seen (state_of store.state)) ≡ Ok tree
  pub starts : k.tree ≡ start_of (nodes_of tree)
