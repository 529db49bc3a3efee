-- Images that agree where it matters are left alike.
use Rattle.std.proofs.Common.{◌≡◌, ℕ, ◌≤◌, ◌⊎◌, inl, inr, [], ◌∷◌, ◌++◌, Bool, true, false, None, length, unwrap_or, ap, sym, refl, ◌∙◌, subst, arith}
use Rattle.std.specs.Prelude.{nat_le, Ok, IsTrue}
use Rattle.std.proofs.lemmas.Bool.{and_parts, false≢true}
use Rattle.std.proofs.lemmas.Bool.Decides.{nat_tests}
use Rattle.ufs_disk.specs.Disk.{Cell, possible}
use Rattle.ufs_layout.specs.Areas.{first_of_data, sector_of_inode, is_inode_number}
use Rattle.ufs_layout.specs.Superblock.{geometry_of}
use Rattle.ufs_layout.specs.InodeForm.{inode_of, free_inode}
use Rattle.ufs_base.specs.Images.{Image}
use Rattle.ufs_image.specs.Images.{block_at}
use Rattle.ufs_image.specs.Journal.{committed, epoch_in}
use Rattle.ufs_image.specs.BadSectors.{bad_sector}
use Rattle.ufs_image.specs.Fold.{folded, with_committed}
use Rattle.ufs_image.specs.Proper.{IsProperClean}
use Rattle.ufs_image.specs.Volume.{Volume, volume, volume_of, superblock_of, superblock_refusal}
use Rattle.ufs_layout.specs.declared.geometry.Geometry.{Geometry}
use Rattle.ufs_layout.specs.declared.superblock.Super.{Super}
use Rattle.ufs_layout.specs.declared.records.Committed.{Committed}
use Rattle.ufs_journal.specs.Found.{IsOffJournal, journal_sector}
use Rattle.ufs_journal.specs.Kept.{HasNoLater}
use Rattle.ufs_journal.specs.Written.{IsOfEpoch, DiffersInEpoch, SaysTheSame, CommitsOne}
use Rattle.ufs_image.specs.Catalog.{Catalog, IsInode}
use Rattle.ufs_image.specs.Agree.{AgreeOn, IsOfBlock}
use Rattle.ufs_image.specs.Folding.{Spells, with_committed_in}
use Rattle.ufs_image.specs.CatalogLaws.{FoldsCatalogs, FoldsOneMore}
use Rattle.ufs_image.proofs.Journals.{taken, is_taken}
use Rattle.ufs_image.proofs.Agreeing.{folded_agrees}
use Rattle.ufs_image.proofs.Blocks.{block_same, read_same}
use Rattle.ufs_ledger.specs.Ledger.{IsDataBlock, IsMixOf, is_held, Stand, IsLeft, with_one}
use Rattle.ufs_ledger.specs.Changes.{MayCommit}
use Rattle.ufs_ledger.proofs.Held.{held_before}
use Rattle.ufs_ledger.proofs.Opened.{same_image}

-- An image in use need not be as a clean one.
pub not_clean : (superblock : Super) → superblock.clean ≡ false → (P : Type 0) → IsTrue superblock.clean → P
not_clean superblock used P clean = absurd (false≢true (sym used ∙ clean))

-- ---- areas

pub in_range : (g : Geometry) (inode : ℕ) → IsInode g inode → is_inode_number g inode ≡ true
in_range g inode is = let from = is.from_one in let most = is.within in grind (arith, nat_tests, from, most)

inode_off : (g : Geometry) (inode : ℕ) → is_inode_number g inode ≡ true → IsOffJournal g (sector_of_inode g inode)
inode_off g inode is =
    let low : 1 ≤ inode = let t = (and_parts (nat_le 1 inode) (nat_le inode g.inodes) is).0 in grind (arith, nat_tests, t) in
    let high : inode ≤ g.inodes = let t = (and_parts (nat_le 1 inode) (nat_le inode g.inodes) is).1 in grind (arith, nat_tests, t) in
    inl (omega (arith, low, high))

pub block_off : (g : Geometry) (block sector : ℕ) → first_of_data g ≤ block → IsOfBlock block sector → IsOffJournal g sector
block_off g block sector from of = let at = of.same in inr (omega (arith, from, at))

zero_off : (g : Geometry) → IsOffJournal g 0
zero_off g = inl (omega arith)

-- ---- what is spelled

module _ (g : Geometry) (these : ℕ → Type 0) (table : (inode : ℕ) → is_inode_number g inode ≡ true → these (sector_of_inode g inode)) where
  pub spells_agree : (dirs : ℕ → Bool) (image other : Image) (c : Catalog) → AgreeOn these image other → ((block sector : ℕ) → IsTrue (dirs block) → first_of_data g ≤ block → IsOfBlock block sector → these sector)
      → Spells g true dirs image c → Spells g true dirs other c
  spells_agree dirs image other c agree blocks is =
      let inodes : (inode : ℕ) → IsInode g inode → image (sector_of_inode g inode) ≡ other (sector_of_inode g inode) = λ inode ranged. agree (sector_of_inode g inode) (table inode (in_range g inode ranged)) in
      record {
        forms = λ inode ranged. sym (ap (λ bytes. unwrap_or (inode_of bytes) (free_inode 0)) (inodes inode ranged)) ∙ is.forms inode ranged;
        on_form = λ whole inode ranged. sym (ap inode_of (inodes inode ranged)) ∙ is.on_form whole inode ranged;
        fit = is.fit;
        in_data = is.in_data;
        slots = λ block of. sym (read_same image other block (λ s at. agree s (blocks block s of (is.in_data block of) at))) ∙ is.slots block of;
        sized = λ block sector of at. subst (λ bytes. length bytes ≡ 512) (agree sector (blocks block sector of (is.in_data block of) at)) (is.sized block sector of at);
      }

-- ---- the volume

module _ (sectors : ℕ) (superblock : Super) (blocks : ℕ → Cell) (s : Stand) (before : Image) (left : IsLeft sectors superblock blocks s before) where
  pub same_superblock : superblock_of before ≡ superblock
  same_superblock = let is = taken sectors before left.as_volume left.taken in sym (ap (λ (v : Volume). v.superblock) is.same) ∙ left.superblock_is

  pub no_bad : bad_sector (geometry_of superblock) superblock before ≡ None
  no_bad = let is = taken sectors before left.as_volume left.taken in ap (λ (h : Super). bad_sector (geometry_of h) h before) (sym same_superblock) ∙ is.journal

  pub taken_again : (image : Image) → before 0 ≡ image 0 → bad_sector (geometry_of superblock) superblock image ≡ None → volume sectors image ≡ Ok (volume_of superblock image)
  taken_again image first good =
      let is = taken sectors before left.as_volume left.taken in
      let superblocks : superblock_of image ≡ superblock = sym (ap (λ bytes. superblock_of (λ _. bytes)) first) ∙ same_superblock in
      is_taken sectors image (sym (ap (λ bytes. superblock_refusal sectors (λ _. bytes)) first) ∙ is.superblock) (ap (λ (h : Super). bad_sector (geometry_of h) h image) superblocks ∙ good)
      ∙ ap (λ (h : Super). Ok (volume_of h image)) superblocks

  pub spelled_folds : Spells (geometry_of superblock) true s.dirs (folded (geometry_of superblock) s.log before) s.catalog
  spelled_folds = subst (λ i. Spells (geometry_of superblock) true s.dirs i s.catalog) (same_image sectors superblock blocks s before left) left.spells

  -- ---- the journal goes on

  module _ (image : Image) (differs : DiffersInEpoch (geometry_of superblock) superblock.epoch before image) where
    pub agree_off : AgreeOn (IsOffJournal (geometry_of superblock)) before image
    agree_off sector off = by (differs sector) off
      where
        by : (image sector ≡ before sector) ⊎ IsOfEpoch (geometry_of superblock) superblock.epoch sector image → IsOffJournal (geometry_of superblock) sector → before sector ≡ image sector
        by (inl same) off = sym same
        by (inr of) (inl low) = let from = of.from in absurd (omega (arith, from, low))
        by (inr of) (inr high) = let under = of.under in absurd (omega (arith, under, high))

    folds_spelled : Spells (geometry_of superblock) true s.dirs (folded (geometry_of superblock) s.log image) s.catalog
    folds_spelled =
        spells_agree (geometry_of superblock) (IsOffJournal (geometry_of superblock)) (inode_off (geometry_of superblock)) s.dirs (folded (geometry_of superblock) s.log before) (folded (geometry_of superblock) s.log image) s.catalog
        (folded_agrees (geometry_of superblock) (IsOffJournal (geometry_of superblock)) (inode_off (geometry_of superblock)) s.log before image agree_off)
        (λ block sector of from at. block_off (geometry_of superblock) block sector from at) spelled_folds

    same_contents : (block : ℕ) → IsDataBlock (geometry_of superblock) block → is_held s.log block ≡ false → IsMixOf (possible (blocks block)) (block_at image block)
    same_contents block data' free =
        subst (IsMixOf (possible (blocks block))) (block_same before image block (λ s of. agree_off s (block_off (geometry_of superblock) block s data'.from of))) (left.contents block data' free)

  -- The journal has no later epoch still.
  latest_on : (image : Image) → DiffersInEpoch (geometry_of superblock) superblock.epoch before image → HasNoLater (geometry_of superblock) superblock.epoch image
  latest_on image differs place under = by (differs (journal_sector (geometry_of superblock) place))
    where
      by : (image (journal_sector (geometry_of superblock) place) ≡ before (journal_sector (geometry_of superblock) place)) ⊎ IsOfEpoch (geometry_of superblock) superblock.epoch (journal_sector (geometry_of superblock) place) image
          → epoch_in (image (journal_sector (geometry_of superblock) place)) ≤ superblock.epoch
      by (inl same) = subst (λ b. epoch_in b ≤ superblock.epoch) (sym same) (left.latest place under)
      by (inr of) = let is = of.epoch_is in omega (arith, is)

  pub says_same : (image : Image) → superblock.clean ≡ false → SaysTheSame (geometry_of superblock) superblock.epoch before image → IsLeft sectors superblock blocks s image
  says_same image used says = record {
    as_volume = volume_of superblock image;
    taken = taken_again image (agree_off image says.differs 0 (zero_off (geometry_of superblock))) (says.bad superblock refl ∙ no_bad);
    superblock_is = refl;
    logged = says.same ∙ left.logged;
    latest = latest_on image says.differs;
    spells = subst (λ log. Spells (geometry_of superblock) true s.dirs (folded (geometry_of superblock) log image) s.catalog) (sym (says.same ∙ left.logged)) (folds_spelled image says.differs);
    covers = left.covers;
    sound = left.sound;
    contents = same_contents image says.differs;
    if_clean = not_clean superblock used (IsProperClean (volume_of superblock image) image);
  }

  pub commits_one : FoldsCatalogs (geometry_of superblock) → FoldsOneMore (geometry_of superblock) → (t : Committed) (image : Image) → superblock.clean ≡ false → superblock.next ≤ t.number → MayCommit (geometry_of superblock) t s → CommitsOne (geometry_of superblock) superblock.epoch t before image
      → IsLeft sectors superblock blocks (with_one (geometry_of superblock) t s) image
  commits_one folds one_more t image used later may says =
      let g : Geometry = geometry_of superblock in
      let log : committed g superblock.epoch image ≡ s.log ++ t ∷ [] = says.more ∙ ap (λ log. log ++ t ∷ []) left.logged in
      let after : Spells g true s.dirs (with_committed g t (folded g s.log image)) (with_committed_in g t s.catalog) = folds true s.dirs (folded g s.log image) s.catalog (t ∷ []) (folds_spelled image says.differs) (may.fits, tt) in
      record {
        as_volume = volume_of superblock image;
        taken = taken_again image (agree_off image says.differs 0 (zero_off g)) (says.bad superblock refl later ∙ no_bad);
        superblock_is = refl;
        logged = log;
        latest = latest_on image says.differs;
        spells = subst (λ i. Spells g true s.dirs i (with_committed_in g t s.catalog)) (sym (ap (λ log. folded g log image) log ∙ one_more s.log t image)) after;
        covers = may.covers;
        sound = may.sound;
        contents = λ block data' free. same_contents image says.differs block data' (held_before s.log t block free);
        if_clean = not_clean superblock used (IsProperClean (volume_of superblock image) image);
      }
