-- How the ledger of a disk goes on.
use Rattle.std.proofs.Common.{◌≡◌, ℕ, ◌*◌, ◌≤◌, ◌⊎◌, inl, inr, List, [], ◌∷◌, ◌++◌, Bool, true, false, Some, None, length, ap, sym, refl, ◌∙◌, subst, arith}
use Rattle.std.specs.Prelude.{◌==◌, if◌then◌else◌}
use Rattle.std.proofs.lemmas.Bool.Decides.{nat_tests}
use Rattle.ufs_disk.specs.Disk.{Cell, State, IsImage, IsSettled, Leaves, IsPartlyWritten, possible, overwritten, Mixes, put, seen}
use Rattle.ufs_disk.proofs.Images.{seen_is_image}
use Rattle.ufs_layout.specs.Areas.{sector_count}
use Rattle.ufs_layout.specs.Superblock.{geometry_of, super_of}
use Rattle.ufs_base.specs.Images.{Image}
use Rattle.ufs_image.specs.Images.{IsImageOf, block_at}
use Rattle.ufs_image.specs.Fold.{folded}
use Rattle.ufs_layout.specs.declared.superblock.Super.{Super}
use Rattle.ufs_layout.specs.declared.records.Committed.{Committed}
use Rattle.ufs_journal.specs.Found.{IsFreeFrom}
use Rattle.ufs_journal.specs.Written.{SaysTheSame, CommitsOne, IsAppended, IsMaybeCommitted}
use Rattle.ufs_crash_laws.specs.FileChanges.{byte_at}
use Rattle.ufs_image.specs.Agree.{IsOfBlock}
use Rattle.ufs_image.specs.CatalogLaws.{FoldsCatalogs, FoldsOneMore}
use Rattle.ufs_image.proofs.Blocks.{block_same}
use Rattle.ufs_image.proofs.Opening.{has_geometry}
use Rattle.ufs_overlay.specs.Over.{IsHomeWritten}
use Rattle.ufs_ledger.specs.Ledger.{IsDataBlock, HasByte, IsMixOf, is_held, Stand, IsLeft, with_one, Ledger, IsLeftBy, IsLedgerOf}
use Rattle.ufs_ledger.specs.Changes.{MayCommit, committing, settled, settled_cell, committed_one, rewritten, written, tried, without_log, home_cells, beginning, emptied}
use Rattle.ufs_ledger.specs.Laws.{MayWrite}
use Rattle.ufs_ledger.proofs.Held.{held_before}
use Rattle.ufs_ledger.proofs.Opened.{same_geometry}
use Rattle.ufs_ledger.proofs.Alike.{says_same, commits_one, agree_off, block_off}
use Rattle.ufs_ledger.proofs.Mixing.{mix_more, elsewhere, overwritten_block, has_byte_last}
use Rattle.ufs_ledger.proofs.Writing.{left_written, apart_of}
use Rattle.ufs_ledger.proofs.Homing.{left_homing}
use Rattle.ufs_ledger.proofs.SuperblockPut.{left_superblock_put}

-- where nothing is committed besides
pub on_one : (sectors : ℕ) (l : Ledger) (image : Image) → l.maybe ≡ None → IsLeftBy sectors l image → IsLeft sectors l.superblock l.blocks l.now image
on_one sectors l image none (inl left) = left
on_one sectors l image none (inr one) = let free : Some one.0 ≡ None = sym one.1 ∙ none in absurd cc

-- other cells, where what the image has is among theirs
pub with_cells : (sectors : ℕ) (superblock : Super) (blocks others : ℕ → Cell) (s : Stand) (image : Image) → ((block : ℕ) → IsDataBlock (geometry_of superblock) block → is_held s.log block ≡ false → IsMixOf (possible (blocks block)) (block_at image block) → IsMixOf (possible (others block)) (block_at image block))
    → IsLeft sectors superblock blocks s image → IsLeft sectors superblock others s image
with_cells sectors superblock blocks others s image leads left = record {
  as_volume = left.as_volume;
  taken = left.taken;
  superblock_is = left.superblock_is;
  logged = left.logged;
  latest = left.latest;
  spells = left.spells;
  covers = left.covers;
  sound = left.sound;
  contents = λ block data' free. leads block data' free (left.contents block data' free);
  if_clean = left.if_clean;
}

-- a content that is the only one
pub only_mix : (xs : List (List ℕ)) (bytes : List ℕ) → IsMixOf xs bytes → IsMixOf (bytes ∷ []) bytes
only_mix xs bytes is = record { size = is.size; each = λ place less. inl refl }

settles : (sectors : ℕ) (superblock : Super) (blocks : ℕ → Cell) (s : Stand) (image : Image) → ((block : ℕ) → IsDataBlock (geometry_of superblock) block → is_held s.log block ≡ false → block_at image block ≡ (blocks block).seen)
    → IsLeft sectors superblock blocks s image → IsLeft sectors superblock (λ block. settled_cell (blocks block)) s image
settles sectors superblock blocks s image reads = with_cells sectors superblock blocks (λ block. settled_cell (blocks block)) s image
    (λ block data' free is. subst (λ seen. IsMixOf (seen ∷ []) (block_at image block)) (reads block data' free) (only_mix (possible (blocks block)) (block_at image block) is))

-- cells that were settled may have more
pub fewer_cells : (sectors : ℕ) (l : Ledger) (image : Image) → IsLeftBy sectors (settled l) image → IsLeftBy sectors l image
fewer_cells sectors l image left = by left
  where
    last : (older : List (List ℕ)) (seen : List ℕ) (place byte : ℕ) → HasByte (seen ∷ []) place byte → HasByte (older ++ seen ∷ []) place byte
    last older seen place byte (inl e) = has_byte_last older seen place byte e
    last older seen place byte (inr none) = absurd none

    more : (older : List (List ℕ)) (seen bytes : List ℕ) → IsMixOf (seen ∷ []) bytes → IsMixOf (older ++ seen ∷ []) bytes
    more older seen bytes mix = record { size = mix.size; each = λ place less. last older seen place (byte_at bytes place) (mix.each place less) }

    goes : (superblock : Super) (s : Stand) → IsLeft sectors superblock (settled l).blocks s image → IsLeft sectors superblock l.blocks s image
    goes superblock s one = with_cells sectors superblock (settled l).blocks l.blocks s image (λ block _ _ mix. more (l.blocks block).older (l.blocks block).seen (block_at image block) mix) one

    by : IsLeftBy sectors (settled l) image → IsLeftBy sectors l image
    by (inl left) = inl (goes l.superblock l.now left)
    by (inr one) = inr (one.0, one.1, goes one.0.superblock one.0.stand one.2)

-- ---- a barrier

pub barrier_quiet : (sectors : ℕ) (old new : State) (l : Ledger) → IsLedgerOf sectors old l → Leaves (IsImage old) new → seen new ≡ seen old → IsLedgerOf sectors new l
barrier_quiet sectors old new l is no_more same = record {
  images = λ image left. is.images image (no_more image left);
  reads = λ block data' free. ap (λ i. block_at i block) same ∙ is.reads block data' free;
}

pub barrier_settles : (sectors : ℕ) (old new : State) (l : Ledger) → l.maybe ≡ None → IsLedgerOf sectors old l → Leaves (IsImage old) new → seen new ≡ seen old → IsSettled new → IsLedgerOf sectors new (settled l)
barrier_settles sectors old new l none is no_more same settled' = record {
  images = λ image left.
      let still = settled' image left in
      let reads : (block : ℕ) → IsDataBlock (geometry_of l.superblock) block → is_held l.now.log block ≡ false → block_at image block ≡ (l.blocks block).seen = λ block data' free. ap (λ i. block_at i block) (still ∙ same) ∙ is.reads block data' free in
      inl (settles sectors l.superblock l.blocks l.now image reads (on_one sectors l image none (is.images image (no_more image left))));
  reads = λ block data' free. ap (λ i. block_at i block) same ∙ is.reads block data' free;
}

-- ---- a block

module _ (sectors : ℕ) (old : State) (l : Ledger) (block : ℕ) (bytes : List ℕ) (whole : Leaves (IsImageOf sectors) old) (none : l.maybe ≡ None) (used : l.superblock.clean ≡ false) (is : IsLedgerOf sectors old l) (may : MayWrite l block bytes) where
  here : (image : Image) → IsImage old image → IsLeft sectors l.superblock l.blocks l.now image
  here image left = on_one sectors l image none (is.images image left)

  room : (image : Image) → IsLeft sectors l.superblock l.blocks l.now image → sector_count (geometry_of l.superblock) ≤ sectors
  room image left = subst (λ g. sector_count g ≤ sectors) (same_geometry sectors l.superblock l.blocks l.now image left) (has_geometry sectors image left.as_volume left.taken).1

  long : (before : Image) → IsImage old before → (sector : ℕ) → IsOfBlock block sector → length (before sector) ≡ 512
  long before left sector of =
      let fits = room before (here before left) in
      let at = of.same in
      let low = of.in_block in
      let under = may.data_block.under in
      (whole before left sector (omega (arith, fits, at, low, under))).sized

  left_now : (image : Image) → IsPartlyWritten (8 * block) bytes old image → IsLeft sectors l.superblock (rewritten block bytes l.blocks) l.now image
  left_now image part = left_written sectors l.superblock l.blocks l.now part.before image block bytes (here part.before part.left) used may.data_block may.no_dir may.size (long part.before part.left) part.mixed

  pub writing : (image : Image) → IsPartlyWritten (8 * block) bytes old image → IsLeftBy sectors (written block bytes l) image
  writing image part = inl (left_now image part)

  same_elsewhere : (now : Image) → Mixes (seen old) (overwritten (8 * block) bytes (seen old)) now → (k : ℕ) → (k == block) ≡ false → block_at now k ≡ block_at (seen old) k
  same_elsewhere now mixed k e =
      let apart : k ≡ block → ⊥ = λ same. let yes : (k == block) ≡ true = grind (arith, nat_tests, same) in let both = sym e ∙ yes in cc in
      sym (block_same (seen old) now k (λ sector of. elsewhere block bytes (seen old) now may.size mixed sector (apart_of block k sector apart of)))

  written_there : block_at (overwritten (8 * block) bytes (seen old)) block ≡ bytes
  written_there = overwritten_block block bytes (seen old) may.size

  pub wrote : (new : State) → Leaves (IsPartlyWritten (8 * block) bytes old) new → seen new ≡ overwritten (8 * block) bytes (seen old) → IsLedgerOf sectors new (written block bytes l)
  wrote new part reads = record {
    images = λ image left. writing image (part image left);
    reads = λ k data' free. by k data' free (k == block) refl;
  }
    where
      by : (k : ℕ) → IsDataBlock (geometry_of l.superblock) k → is_held l.now.log k ≡ false → (b : Bool) → (k == block) ≡ b → block_at (seen new) k ≡ (if b then record { older = possible (l.blocks k); seen = bytes } else l.blocks k).seen
      by k data' free true e = let same : k ≡ block = grind (arith, nat_tests, e) in ap (block_at (seen new)) same ∙ ap (λ i. block_at i block) reads ∙ written_there
      by k data' free false e = same_elsewhere (seen new) (λ sector. inr (λ i. reads i sector)) k e ∙ is.reads k data' free

  pub tried_to : (new : State) → Leaves (IsPartlyWritten (8 * block) bytes old) new → Mixes (seen old) (overwritten (8 * block) bytes (seen old)) (seen new) → IsLedgerOf sectors new (tried block bytes (block_at (seen new) block) l)
  tried_to new part mixed = record {
    images = λ image left. inl (with_cells sectors l.superblock (rewritten block bytes l.blocks) (rewritten block (block_at (seen new) block) (rewritten block bytes l.blocks)) l.now image (λ k _ _ mix. more k (k == block) image mix) (left_now image (part image left)));
    reads = λ k data' free. by k data' free (k == block) refl;
  }
    where
      more : (k : ℕ) (b : Bool) (image : Image) → IsMixOf (possible (rewritten block bytes l.blocks k)) (block_at image k)
          → IsMixOf (possible (if b then record { older = possible (rewritten block bytes l.blocks k); seen = block_at (seen new) block } else rewritten block bytes l.blocks k)) (block_at image k)
      more k true image mix = mix_more (possible (rewritten block bytes l.blocks k)) (block_at (seen new) block ∷ []) (block_at image k) mix
      more k false image mix = mix

      by : (k : ℕ) → IsDataBlock (geometry_of l.superblock) k → is_held l.now.log k ≡ false → (b : Bool) → (k == block) ≡ b
          → block_at (seen new) k ≡ (if b then record { older = possible (if b then record { older = possible (l.blocks k); seen = bytes } else l.blocks k); seen = block_at (seen new) block } else (if b then record { older = possible (l.blocks k); seen = bytes } else l.blocks k)).seen
      by k data' free true e = let same : k ≡ block = grind (arith, nat_tests, e) in ap (block_at (seen new)) same
      by k data' free false e = same_elsewhere (seen new) mixed k e ∙ is.reads k data' free

-- ---- the journal

pub appends : (sectors : ℕ) (state : State) (l : Ledger) (image : Image) → l.maybe ≡ None → l.superblock.clean ≡ false → IsLedgerOf sectors state l → IsAppended (geometry_of l.superblock) l.superblock.epoch state image → IsLeftBy sectors l image
appends sectors state l image none used is appended =
    inl (says_same sectors l.superblock l.blocks l.now appended.before (on_one sectors l appended.before none (is.images appended.before appended.left)) image used appended.says)

pub commits_or_not : (sectors : ℕ) (state : State) (l : Ledger) (t : Committed) (image : Image) → FoldsCatalogs (geometry_of l.superblock) → FoldsOneMore (geometry_of l.superblock) → l.maybe ≡ None → l.superblock.clean ≡ false → IsLedgerOf sectors state l → l.superblock.next ≤ t.number
    → MayCommit (geometry_of l.superblock) t l.now → IsMaybeCommitted (geometry_of l.superblock) l.superblock.epoch t state image → IsLeftBy sectors (committing t l) image
commits_or_not sectors state l t image folds one_more none used is later may maybe = by maybe.says
  where
    before : IsLeft sectors l.superblock l.blocks l.now maybe.before
    before = on_one sectors l maybe.before none (is.images maybe.before maybe.left)

    by : SaysTheSame (geometry_of l.superblock) l.superblock.epoch maybe.before image ⊎ CommitsOne (geometry_of l.superblock) l.superblock.epoch t maybe.before image → IsLeftBy sectors (committing t l) image
    by (inl same) = inl (says_same sectors l.superblock l.blocks l.now maybe.before before image used same)
    by (inr one) = inr (record { superblock = l.superblock; stand = with_one (geometry_of l.superblock) t l.now }, refl, commits_one sectors l.superblock l.blocks l.now maybe.before before folds one_more t image used later may one)

pub commits_for_good : (sectors : ℕ) (old new : State) (l : Ledger) (t : Committed) → FoldsCatalogs (geometry_of l.superblock) → FoldsOneMore (geometry_of l.superblock) → l.maybe ≡ None → l.superblock.clean ≡ false → IsLedgerOf sectors old l → l.superblock.next ≤ t.number
    → MayCommit (geometry_of l.superblock) t l.now → IsSettled new → CommitsOne (geometry_of l.superblock) l.superblock.epoch t (seen old) (seen new) → IsLedgerOf sectors new (committed_one t l)
commits_for_good sectors old new l t folds one_more none used is later may settled' one =
    record {
      images = λ image left. subst (IsLeftBy sectors (committed_one t l)) (sym (settled' image left))
          (inl (settles sectors l.superblock l.blocks (with_one (geometry_of l.superblock) t l.now) (seen new) reads (commits_one sectors l.superblock l.blocks l.now (seen old) before folds one_more t (seen new) used later may one)));
      reads = reads;
    }
  where
    before : IsLeft sectors l.superblock l.blocks l.now (seen old)
    before = on_one sectors l (seen old) none (is.images (seen old) (seen_is_image old))

    reads : (block : ℕ) → IsDataBlock (geometry_of l.superblock) block → is_held (l.now.log ++ t ∷ []) block ≡ false → block_at (seen new) block ≡ (l.blocks block).seen
    reads block data' free =
        sym (block_same (seen old) (seen new) block (λ sector of. agree_off sectors l.superblock l.blocks l.now (seen old) before (seen new) one.differs sector (block_off (geometry_of l.superblock) block sector data'.from of)))
        ∙ is.reads block data' (held_before l.now.log t block free)

-- ---- a checkpoint

pub homes : (sectors : ℕ) (state : State) (l : Ledger) (image : Image) → Leaves (IsImageOf sectors) state → l.maybe ≡ None → l.superblock.clean ≡ false → IsLedgerOf sectors state l
    → IsHomeWritten (geometry_of l.superblock) l.now.log state image → IsLeftBy sectors l image
homes sectors state l image whole none used is part =
    inl (left_homing sectors l.superblock l.blocks l.now part.before image (on_one sectors l part.before none (is.images part.before part.left)) (whole part.before part.left) used part.mixed)

pub begins : (sectors : ℕ) (l : Ledger) (home : Image) (new : Super) (bytes : List ℕ) → IsImageOf sectors home → IsLeft sectors l.superblock l.blocks l.now home
    → folded (geometry_of l.superblock) l.now.log home ≡ home → ((block : ℕ) → IsDataBlock (geometry_of l.superblock) block → is_held l.now.log block ≡ false → block_at home block ≡ (l.blocks block).seen)
    → l.superblock.epoch ≤ new.epoch → IsFreeFrom (geometry_of l.superblock) new.epoch 0 home → new.clean ≡ false → super_of 1 bytes ≡ Some new → geometry_of new ≡ geometry_of l.superblock
    → IsLeftBy sectors (beginning new (block_at home) l) home × IsLeftBy sectors (beginning new (block_at home) l) (put 0 bytes home) × IsLeftBy sectors (emptied new (block_at home) l) (put 0 bytes home)
begins sectors l home new bytes whole left at_home reads later free used spelled kept =
    (inl old, inr (record { superblock = new; stand = without_log l.now }, refl, new'), inl new')
  where
    cell : (block : ℕ) → IsDataBlock (geometry_of l.superblock) block → (b : Bool) → is_held l.now.log block ≡ b → (if b then record { older = []; seen = block_at home block } else settled_cell (l.blocks block)) ≡ record { older = []; seen = block_at home block }
    cell block data' true e = refl
    cell block data' false e = ap (λ seen. record { older = []; seen = seen }) (sym (reads block data' e))

    old : IsLeft sectors l.superblock (home_cells (block_at home) l) l.now home
    old = with_cells sectors l.superblock l.blocks (home_cells (block_at home) l) l.now home
        (λ block data' _ mix. subst (λ c. IsMixOf (possible c) (block_at home block)) (sym (cell block data' (is_held l.now.log block) refl)) (only_mix (possible (l.blocks block)) (block_at home block) mix)) left

    new' : IsLeft sectors new (home_cells (block_at home) l) (without_log l.now) (put 0 bytes home)
    new' = with_cells sectors new (λ block. record { older = []; seen = block_at home block }) (home_cells (block_at home) l) (without_log l.now) (put 0 bytes home)
        (λ block data' _ mix. subst (λ c. IsMixOf (possible c) (block_at (put 0 bytes home) block)) (sym (cell block (subst (λ g. IsDataBlock g block) kept data') (is_held l.now.log block) refl)) mix)
        (left_superblock_put sectors l.superblock new l.blocks l.now home bytes left spelled kept whole at_home later free used)
