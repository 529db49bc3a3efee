-- A block is written: what a crash may leave at each moment of it.
use Rattle.std.proofs.Common.{◌≡◌, ℕ, ◌+◌, ◌*◌, ◌<◌, ◌≤◌, ◌⊎◌, inl, inr, List, Bool, true, false, length, sym, refl, ◌∙◌, subst, arith}
use Rattle.std.specs.Prelude.{◌==◌, if◌then◌else◌, IsTrue}
use Rattle.std.proofs.lemmas.Bool.Decides.{nat_tests}
use Rattle.std.proofs.lemmas.Bool.{cases_lt}
use Rattle.ufs_disk.specs.Disk.{Cell, possible, overwritten, Mixes}
use Rattle.ufs_layout.specs.Areas.{sector_of_inode, is_inode_number}
use Rattle.ufs_layout.specs.Superblock.{geometry_of}
use Rattle.ufs_base.specs.Images.{Image}
use Rattle.ufs_image.specs.Images.{block_at}
use Rattle.ufs_image.specs.Journal.{committed, epoch_in}
use Rattle.ufs_image.specs.Fold.{folded}
use Rattle.ufs_image.specs.Proper.{IsProperClean}
use Rattle.ufs_image.specs.Volume.{volume_of}
use Rattle.ufs_journal.specs.Found.{journal_sector}
use Rattle.ufs_layout.specs.declared.superblock.Super.{Super}
use Rattle.ufs_image.specs.Agree.{AgreeOn, IsOfBlock, IsMetadata}
use Rattle.ufs_image.specs.Folding.{Spells}
use Rattle.ufs_image.proofs.Journals.{inode_metadata, bad_sector_agrees, committed_same}
use Rattle.ufs_image.proofs.Agreeing.{folded_agrees}
use Rattle.ufs_image.proofs.Blocks.{block_same}
use Rattle.ufs_ledger.specs.Ledger.{IsDataBlock, IsMixOf, is_held, Stand, IsLeft}
use Rattle.ufs_ledger.specs.Changes.{rewritten}
use Rattle.ufs_ledger.proofs.Alike.{not_clean, spells_agree, taken_again, spelled_folds, no_bad}
use Rattle.ufs_ledger.proofs.Mixing.{block_either, elsewhere, mix_written}

-- a sector of no such block
abbrev pub IsApart : ℕ → ℕ → Type 0
IsApart block sector = (sector < 8 * block) ⊎ (8 * block + 8 ≤ sector)

pub apart_of : (block other sector : ℕ) → (other ≡ block → ⊥) → IsOfBlock other sector → IsApart block sector
apart_of block other sector apart of = by (cases_lt sector (8 * block)) (cases_lt sector (8 * block + 8))
  where
    by : (sector < 8 * block) ⊎ (8 * block ≤ sector) → (sector < 8 * block + 8) ⊎ (8 * block + 8 ≤ sector) → IsApart block sector
    by (inl low) high = inl low
    by (inr from) (inr high) = inr high
    by (inr from) (inl under) = let at = of.same in let low = of.in_block in absurd (apart (omega (arith, at, low, from, under)))

module _ (sectors : ℕ) (superblock : Super) (blocks : ℕ → Cell) (s : Stand) (before image : Image) (block : ℕ) (bytes : List ℕ) (left : IsLeft sectors superblock blocks s before) (used : superblock.clean ≡ false)
    (data' : IsDataBlock (geometry_of superblock) block) (no_dir : IsTrue (s.dirs block) → ⊥) (size : length bytes ≡ 4096) (long : (sector : ℕ) → IsOfBlock block sector → length (before sector) ≡ 512)
    (mixed : Mixes before (overwritten (8 * block) bytes before) image) where
  agree : AgreeOn (IsApart block) before image
  agree sector at = elsewhere block bytes before image size mixed sector at

  metadata : (sector : ℕ) → IsMetadata (geometry_of superblock) sector → IsApart block sector
  metadata sector low = let from = data'.from in inl (omega (arith, low, from))

  table : (inode : ℕ) → is_inode_number (geometry_of superblock) inode ≡ true → IsApart block (sector_of_inode (geometry_of superblock) inode)
  table inode is = metadata (sector_of_inode (geometry_of superblock) inode) (inode_metadata (geometry_of superblock) inode is)

  log_same : committed (geometry_of superblock) superblock.epoch image ≡ s.log
  log_same = sym (committed_same (geometry_of superblock) (IsApart block) metadata before image agree superblock.epoch) ∙ left.logged

  contents : (k : ℕ) → IsDataBlock (geometry_of superblock) k → is_held s.log k ≡ false → IsMixOf (possible (rewritten block bytes blocks k)) (block_at image k)
  contents k is free = by (k == block) refl
    where
      by : (b : Bool) → (k == block) ≡ b → IsMixOf (possible (if b then record { older = possible (blocks k); seen = bytes } else blocks k)) (block_at image k)
      by false e =
          let apart : k ≡ block → ⊥ = λ same. let yes : (k == block) ≡ true = grind (arith, nat_tests, same) in let not = sym e ∙ yes in cc in
          subst (IsMixOf (possible (blocks k))) (block_same before image k (λ sector of. agree sector (apart_of block k sector apart of))) (left.contents k is free)
      by true e =
          let same : block ≡ k = grind (arith, nat_tests, e) in
          mix_written (possible (blocks k)) (block_at before k) bytes (block_at image k) (left.contents k is free)
          (block_either k bytes before image size (subst (λ b. (sector : ℕ) → IsOfBlock b sector → length (before sector) ≡ 512) same long) (subst (λ b. Mixes before (overwritten (8 * b) bytes before) image) same mixed))

  pub left_written : IsLeft sectors superblock (rewritten block bytes blocks) s image
  left_written = record {
    as_volume = volume_of superblock image;
    taken = taken_again sectors superblock blocks s before left image (agree 0 (metadata 0 (omega arith))) (sym (bad_sector_agrees (geometry_of superblock) (IsApart block) metadata superblock before image agree) ∙ no_bad sectors superblock blocks s before left);
    superblock_is = refl;
    logged = log_same;
    latest = λ place under. subst (λ b. epoch_in b ≤ superblock.epoch) (agree (journal_sector (geometry_of superblock) place) (metadata (journal_sector (geometry_of superblock) place) (omega (arith, under)))) (left.latest place under);
    spells = subst (λ log. Spells (geometry_of superblock) true s.dirs (folded (geometry_of superblock) log image) s.catalog) (sym log_same)
        (spells_agree (geometry_of superblock) (IsApart block) table s.dirs (folded (geometry_of superblock) s.log before) (folded (geometry_of superblock) s.log image) s.catalog
        (folded_agrees (geometry_of superblock) (IsApart block) table s.log before image agree)
        (λ other sector its from of. apart_of block other sector (λ same. no_dir (subst (λ b. IsTrue (s.dirs b)) same its)) of) (spelled_folds sectors superblock blocks s before left));
    covers = left.covers;
    sound = left.sound;
    contents = contents;
    if_clean = not_clean superblock used (IsProperClean (volume_of superblock image) image);
  }
