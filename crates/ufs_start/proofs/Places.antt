-- An inode of an image has one place, and a place one inode.
use Rattle.std.proofs.Common.{◌≡◌, ◌≤◌, Some, ap, sym, ◌∙◌}
use Rattle.ufs_layout.specs.declared.geometry.Geometry.{Geometry}
use Rattle.ufs_image.specs.Catalog.{Catalog}
use Rattle.ufs_image.specs.Sound.{IsSoundCatalog}
use Rattle.ufs_image.specs.Walks.{inode_of, path_text}
use Rattle.ufs_image.proofs.Texts.{same_texts}
use Rattle.ufs_image.proofs.Found.{same_some}
use Rattle.ufs_image.proofs.Depth.{once}
use Rattle.ufs_walk.specs.Walked.{Place}
use Rattle.ufs_walk.proofs.Reached.{IsMetAtPlace}

module _ (g : Geometry) (c : Catalog) (sound : IsSoundCatalog g c) (some : 1 ≤ g.inodes) where
  -- an inode has one place
  pub one_place : (p q : Place) → IsMetAtPlace c p → IsMetAtPlace c q → p.1 ≡ q.1 → p.0 ≡ q.0
  one_place p q a b same =
      let names : a.names ≡ b.names = once g c sound some a.names b.names q.1 (a.met ∙ ap Some same) b.met in
      a.text ∙ ap path_text names ∙ sym b.text

  -- and a place one inode
  pub one_inode : (p q : Place) → IsMetAtPlace c p → IsMetAtPlace c q → p.0 ≡ q.0 → p.1 ≡ q.1
  one_inode p q a b same =
      let names : a.names ≡ b.names = same_texts a.names b.names a.pieces b.pieces (sym a.text ∙ same ∙ b.text) in
      same_some p.1 q.1 (sym a.met ∙ ap (inode_of c) names ∙ b.met)
