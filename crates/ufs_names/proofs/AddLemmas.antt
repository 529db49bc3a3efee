-- A file that a path makes, and what is undone where it finds no room.
use Rattle.std.proofs.Common.{◌≡◌, ◌≢◌, ℕ, List, [], Some, None, true, is_some, refl, ap, sym, subst, ◌∙◌}
use Rattle.std.specs.Ordering.{nat_cmp}
use Rattle.std.specs.FinMap as map
use Rattle.std.specs.FinSet as set
use Rattle.ufs_bitmap.specs.Blocks.{BlockSet}
use Rattle.ufs_bitmap.specs.Taking.{IsApart}
use Rattle.ufs_bitmap.proofs.TakingLemmas.{apart_none, union_end}
use Rattle.ufs_files.specs.Files.{Files, blocks_at}
use Rattle.ufs_files.proofs.MapLemmas.{blocks_there, put_here}
use Rattle.ufs_name_tree.specs.NameTable.{NameTable, file_at}
use Rattle.ufs_names.specs.Calls.{no_bytes}
use Rattle.ufs_file.specs.Hand.{FileState}
use Rattle.ufs_model.proofs.Facts.Lookups.{from_some}
use Rattle.ufs_names.specs.NamesPart.{NamesPart, AreInodesOf, holding_of}
use Rattle.ufs_names.specs.Space.{AreApart}
use Rattle.ufs_names.specs.Steps.{KeepsSpace}
use Rattle.ufs_names.specs.declared.holding.Holding.{Holding}
use Rattle.ufs_names.proofs.KeepsSpaceLemmas.{keeps_known, keeps_emptied}
use Rattle.ufs_names.proofs.SettleLemmas.{holding_is}

-- no inode has the number that is still to be given
pub fresh_number : (n : NamesPart) → AreInodesOf n.tree n.held → map.get n.held n.next ≡ None → (tree : NameTable) → tree ≡ n.tree → (k : ℕ) → k ≡ n.next → (i : ℕ) → file_at tree i ≢ Some k
fresh_number n inodes untold tree same k is i at =
    let here = inodes.live i k (ap (λ (t : NameTable). file_at t i) (sym same) ∙ at) in
    let none = ap (map.get n.held) is ∙ untold in
    cc

module _ (fs fs' : Files) (k i : ℕ) (is : fs' ≡ map.insert fs k (no_bytes k i)) where
  -- a file without a byte has no block
  bare : blocks_at fs' k ≡ []
  bare = blocks_there fs' k (no_bytes k i) (ap (λ (m : Files). map.get m k) is ∙ put_here fs k (no_bytes k i))

  pub new_is_here : is_some (map.get fs' k) ≡ true
  new_is_here = ap is_some (ap (λ (m : Files). map.get m k) is ∙ put_here fs k (no_bytes k i))

  pub new_is_apart : (pool : BlockSet) → IsApart pool (blocks_at fs' k)
  new_is_apart pool = subst (IsApart pool) (sym bare) (apart_none pool [] refl)

  -- so the pool has what it had when the file goes again
  pub pool_undone : (pool pool' : BlockSet) → pool' ≡ set.union pool (set.from_list (blocks_at fs' k)) → pool' ≡ pool
  pool_undone pool pool' gives = gives ∙ ap (λ (bs : List ℕ). set.union pool (set.from_list {R = nat_cmp} bs)) bare ∙ union_end pool

-- ---- a file that is there is opened

module _ (n : NamesPart) (inodes : AreInodesOf n.tree n.held) (file inode : ℕ) (at : file_at n.tree inode ≡ Some file) where
  pub held_here : is_some (map.get n.held file) ≡ true
  held_here = inodes.live inode file at

  module _ (new : NamesPart) (fs fs' : Files) (pool pool' : BlockSet) (apart : AreApart n.tree.dirs fs pool) (tree : new.tree ≡ n.tree) (h : Holding) (same : h.inode ≡ (holding_of n.held file).inode) (held : new.held ≡ map.insert n.held file h) where
    -- it keeps its bytes
    pub keeps_opened : fs' ≡ fs → pool' ≡ pool → KeepsSpace n new fs fs' pool pool'
    keeps_opened = keeps_known n new fs fs' pool pool' apart file h held_here same tree held

    -- it loses them
    pub keeps_cut : is_some (map.get fs file) ≡ true → ((s : FileState) → map.get fs file ≡ Some s → fs' ≡ map.insert fs file (no_bytes file s.inode)) → pool' ≡ set.union pool (set.from_list (blocks_at fs file))
        → KeepsSpace n new fs fs' pool pool'
    keeps_cut here cut left =
        let s = from_some (map.get fs file) here in
        let known = from_some (map.get n.held file) held_here in
        keeps_emptied n new fs fs' pool pool' apart file s.0 h same
        (λ all. same ∙ ap (λ (h : Holding). h.inode) (holding_is n.held file known.0 known.1) ∙ sym (all file s.0 known.0 s.1 known.1))
        tree held (cut s.0 s.1) left
