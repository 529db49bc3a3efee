-- Directories, files and the pool exchange blocks: no block comes to have two of them, and together they have what
-- they had.
use Rattle.std.proofs.Common.{◌≡◌, ℕ, ◌⊎◌, inl, inr, List, Bool, true, false, not, ◌||◌, ◌&&◌, eqb, Option, Some, None, ap, refl, sym, ◌∙◌}
use Rattle.std.proofs.lemmas.Bool.{eqb-true, eq-eqb, true≢false}
use Rattle.std.specs.FinSet as set
use Rattle.std.specs.List.{list_all}
use Rattle.ufs_layout.specs.DentryForm.{is_named}
use Rattle.ufs_bitmap.specs.Blocks.{BlockSet}
use Rattle.ufs_bitmap.specs.Taking.{has}
use Rattle.ufs_bitmap.proofs.SetLemmas.{has-remove, has-union}
use Rattle.ufs_dirs.specs.Directory.{has_block}
use Rattle.ufs_dir_tree.specs.DirTable.{DirTable, blocks_at, dir_at, found_at}
use Rattle.ufs_dir_tree.specs.DirCalls.{IsApart, TakesBlock, GetsRoom, SpendsBlock, FreesInode, Frees}
use Rattle.ufs_dir_tree.specs.declared.found.Found.{Found}
use Rattle.ufs_dir_tree.specs.declared.found.Found.TheVariants.{Dir, File}
use Rattle.ufs_dir_tree.proofs.SpaceLemmas.{has-push, listed-is}
use Rattle.ufs_files.specs.Files as file_set
use Rattle.ufs_files.specs.Files.{Files}
use Rattle.ufs_files.proofs.ExchangeLemmas.{Exchanges, either, from_either, not_both, nobody_has, one_had, one_has, stay_apart}
use Rattle.ufs_names.specs.Space.{AreApart, HasBlock, HaveTheSame}
use Rattle.ufs_names.proofs.LinkLemmas.{number_apart}

-- a directory has the block
abbrev pub DirHas : DirTable → ℕ → Type 0
DirHas t b = (i : ℕ) × (has_block (blocks_at t i) b ≡ true)

-- ---- nothing, and one after the other

pub same_blocks : (t t' : DirTable) → ((i : ℕ) → blocks_at t' i ≡ blocks_at t i) → (b : ℕ) → (DirHas t' b → DirHas t b) × (DirHas t b → DirHas t' b)
same_blocks t t' same b = (
  (λ h. (h.0, ap (λ (l : List ℕ). has_block l b) (sym (same h.0)) ∙ h.1)),
  (λ h. (h.0, ap (λ (l : List ℕ). has_block l b) (same h.0) ∙ h.1)),
)

pub the_same : (t : DirTable) (fs : Files) (pool : BlockSet) → HaveTheSame t fs pool t fs pool
the_same t fs pool b = ((λ h. h), (λ h. h))

pub and_then : (t u v : DirTable) (fs gs hs : Files) (pool qool rool : BlockSet) → HaveTheSame t fs pool u gs qool → HaveTheSame u gs qool v hs rool → HaveTheSame t fs pool v hs rool
and_then t u v fs gs hs pool qool rool first second b = ((λ h. (first b).0 ((second b).0 h)), (λ h. (second b).1 ((first b).1 h)))

-- ---- a file and the pool

-- The directories have the blocks that they had.
module _ (t t' : DirTable) (same : (i : ℕ) → blocks_at t' i ≡ blocks_at t i) (fs fs' : Files) (pool pool' : BlockSet) (f : ℕ) (e : Exchanges fs fs' pool pool' f) where
  pub file_together : HaveTheSame t fs pool t' fs' pool'
  file_together b = (before, after)
    where
      had : (set.contains pool b ≡ true) ⊎ file_set.HasBlock fs b → HasBlock t fs pool b
      had (inl h) = inl h
      had (inr h) = inr (inr h)

      before : HasBlock t' fs' pool' b → HasBlock t fs pool b
      before (inl h) = had (one_had fs fs' pool pool' f e b (inl h))
      before (inr (inl h)) = inr (inl ((same_blocks t t' same b).0 h))
      before (inr (inr h)) = had (one_had fs fs' pool pool' f e b (inr h))

      has_now : (set.contains pool' b ≡ true) ⊎ file_set.HasBlock fs' b → HasBlock t' fs' pool' b
      has_now (inl h) = inl h
      has_now (inr h) = inr (inr h)

      after : HasBlock t fs pool b → HasBlock t' fs' pool' b
      after (inl h) = has_now (one_has fs fs' pool pool' f e b (inl h))
      after (inr (inl h)) = inr (inl ((same_blocks t t' same b).1 h))
      after (inr (inr h)) = has_now (one_has fs fs' pool pool' f e b (inr h))

  pub file_apart : AreApart t fs pool → AreApart t' fs' pool'
  file_apart apart = record {
    dirs = λ i b h. (nobody b i h).0;
    files = stay_apart fs fs' pool pool' f e apart.files;
    mixed = λ i g b h. (nobody b i h).1 g;
  }
    where
      nobody : (b i : ℕ) → has_block (blocks_at t' i) b ≡ true → (set.contains pool' b ≡ false) × ((g : ℕ) → has (file_set.blocks_at fs' g) b ≡ false)
      nobody b i h =
          let was = ap (λ (l : List ℕ). has_block l b) (sym (same i)) ∙ h in
          nobody_has fs fs' pool pool' f e b (apart.dirs i b was) (λ g. apart.mixed i g b was)

-- ---- directories and the pool

-- Directories and pool have together the blocks that they had, and are apart.
pub record DirExchanges (t t' : DirTable) (pool pool' : BlockSet) : Type 0 where
  pub had : (b : ℕ) → (set.contains pool' b ≡ true) ⊎ DirHas t' b → (set.contains pool b ≡ true) ⊎ DirHas t b
  pub has_now : (b : ℕ) → (set.contains pool b ≡ true) ⊎ DirHas t b → (set.contains pool' b ≡ true) ⊎ DirHas t' b
  pub apart : IsApart t' pool'

module _ (t t' : DirTable) (fs : Files) (pool pool' : BlockSet) (e : DirExchanges t t' pool pool') where
  pub dir_together : HaveTheSame t fs pool t' fs pool'
  dir_together b = (before, after)
    where
      had : (set.contains pool b ≡ true) ⊎ DirHas t b → HasBlock t fs pool b
      had (inl h) = inl h
      had (inr h) = inr (inl h)

      before : HasBlock t' fs pool' b → HasBlock t fs pool b
      before (inl h) = had (e.had b (inl h))
      before (inr (inl h)) = had (e.had b (inr h))
      before (inr (inr h)) = inr (inr h)

      has_now : (set.contains pool' b ≡ true) ⊎ DirHas t' b → HasBlock t' fs pool' b
      has_now (inl h) = inl h
      has_now (inr h) = inr (inl h)

      after : HasBlock t fs pool b → HasBlock t' fs pool' b
      after (inl h) = has_now (e.has_now b (inl h))
      after (inr (inl h)) = has_now (e.has_now b (inr h))
      after (inr (inr h)) = inr (inr h)

  pub dir_apart : AreApart t fs pool → AreApart t' fs pool'
  dir_apart apart = record {
    dirs = e.apart;
    files = record { each = λ f. record { absent = absent f; once = (apart.files.each f).once }; pairwise = apart.files.pairwise };
    mixed = λ i f b h. not_both (has (file_set.blocks_at fs f) b) (λ of. other f b of (e.had b (inr (i, h))));
  }
    where
      -- a block of a file is neither the pool's nor a directory's
      other : (f b : ℕ) → has (file_set.blocks_at fs f) b ≡ true → (set.contains pool b ≡ true) ⊎ DirHas t b → ⊥
      other f b of (inl h) = true≢false (sym h ∙ (apart.files.each f).absent b of)
      other f b of (inr h) = true≢false (sym of ∙ apart.mixed h.0 f b h.1)

      absent : (f b : ℕ) → has (file_set.blocks_at fs f) b ≡ true → set.contains pool' b ≡ false
      absent f b of = not_both (set.contains pool' b) (λ h. other f b of (e.had b (inl h)))

-- ---- what a directory gets and gives

-- no block came or went
pub none_spent : (t t' : DirTable) (pool pool' : BlockSet) → ((i : ℕ) → blocks_at t' i ≡ blocks_at t i) → pool' ≡ pool → IsApart t' pool' → DirExchanges t t' pool pool'
none_spent t t' pool pool' same kept apart = record { had = had; has_now = has_now; apart = apart }
  where
    had : (b : ℕ) → (set.contains pool' b ≡ true) ⊎ DirHas t' b → (set.contains pool b ≡ true) ⊎ DirHas t b
    had b (inl h) = inl (ap (λ (s : BlockSet). set.contains s b) (sym kept) ∙ h)
    had b (inr h) = inr ((same_blocks t t' same b).0 h)

    has_now : (b : ℕ) → (set.contains pool b ≡ true) ⊎ DirHas t b → (set.contains pool' b ≡ true) ⊎ DirHas t' b
    has_now b (inl h) = inl (ap (λ (s : BlockSet). set.contains s b) kept ∙ h)
    has_now b (inr h) = inr ((same_blocks t t' same b).1 h)

-- the blocks of an inode are the pool's
pub inode_freed : (t t' : DirTable) (pool pool' : BlockSet) (k : ℕ) → FreesInode t t' pool pool' k → IsApart t' pool' → DirExchanges t t' pool pool'
inode_freed t t' pool pool' k frees apart = record { had = had; has_now = has_now; apart = apart }
  where
    in_pool : (b : ℕ) → set.contains pool' b ≡ (set.contains pool b || has_block (blocks_at t k) b)
    in_pool b =
        ap (λ (s : BlockSet). set.contains s b) frees.pool ∙ has-union pool (set.from_list (blocks_at t k)) b
        ∙ ap (λ x. set.contains pool b || x) (listed-is (blocks_at t k) b)

    pooled : (b : ℕ) → (set.contains pool b ≡ true) ⊎ (has_block (blocks_at t k) b ≡ true) → (set.contains pool b ≡ true) ⊎ DirHas t b
    pooled b (inl h) = inl h
    pooled b (inr h) = inr (k, h)

    other : (b i : ℕ) → has_block (blocks_at t' i) b ≡ true → (i ≡ k) ⊎ (i ≡ k → ⊥) → DirHas t b
    other b i h (inl e) = let none : true ≡ false = sym h ∙ ap (λ j. has_block (blocks_at t' j) b) e ∙ ap (λ (l : List ℕ). has_block l b) frees.blocks in cc
    other b i h (inr not) = (i, ap (λ (l : List ℕ). has_block l b) (sym (frees.others i not)) ∙ h)

    had : (b : ℕ) → (set.contains pool' b ≡ true) ⊎ DirHas t' b → (set.contains pool b ≡ true) ⊎ DirHas t b
    had b (inl h) = pooled b (either (set.contains pool b) (has_block (blocks_at t k) b) (sym (in_pool b) ∙ h))
    had b (inr h) = inr (other b h.0 h.1 (number_apart h.0 k))

    stays : (b i : ℕ) → has_block (blocks_at t i) b ≡ true → (i ≡ k) ⊎ (i ≡ k → ⊥) → (set.contains pool' b ≡ true) ⊎ DirHas t' b
    stays b i h (inl e) = inl (in_pool b ∙ from_either (set.contains pool b) (has_block (blocks_at t k) b) (inr (ap (λ j. has_block (blocks_at t j) b) (sym e) ∙ h)))
    stays b i h (inr not) = inr (i, ap (λ (l : List ℕ). has_block l b) (frees.others i not) ∙ h)

    has_now : (b : ℕ) → (set.contains pool b ≡ true) ⊎ DirHas t b → (set.contains pool' b ≡ true) ⊎ DirHas t' b
    has_now b (inl h) = inl (in_pool b ∙ from_either (set.contains pool b) (has_block (blocks_at t k) b) (inl h))
    has_now b (inr h) = stays b h.0 h.1 (number_apart h.0 k)

-- what stood there is freed, if it was a directory
pub freed : (t t' : DirTable) (pool pool' : BlockSet) (o : Option Found) → Frees t t' pool pool' o → IsApart t' pool' → DirExchanges t t' pool pool'
freed t t' pool pool' None frees apart = none_spent t t' pool pool' frees.blocks frees.pool apart
freed t t' pool pool' (Some (Dir i)) frees apart = inode_freed t t' pool pool' i frees apart
freed t t' pool pool' (Some (File i)) frees apart = none_spent t t' pool pool' frees.blocks frees.pool apart

module _ (t t' : DirTable) (pool pool' : BlockSet) (p : ℕ) (apart : IsApart t' pool') (others : (i : ℕ) → (i ≡ p → ⊥) → blocks_at t' i ≡ blocks_at t i) where
  -- a directory got the pool's lowest block
  block_taken : TakesBlock (blocks_at t p) (blocks_at t' p) pool pool' → DirExchanges t t' pool pool'
  block_taken takes = record { had = had; has_now = has_now; apart = apart }
    where
      pushed : (b : ℕ) → has_block (blocks_at t' p) b ≡ (has_block (blocks_at t p) b || eqb takes.block b)
      pushed b = ap (λ (l : List ℕ). has_block l b) takes.behind ∙ has-push (blocks_at t p) takes.block b

      left : (b : ℕ) → set.contains pool' b ≡ (not (eqb b takes.block) && set.contains pool b)
      left b = ap (λ (s : BlockSet). set.contains s b) takes.pool ∙ has-remove pool takes.block b

      in_pool : (x y : Bool) → (not x && y) ≡ true → y ≡ true
      in_pool true y e = cc
      in_pool false y e = e

      came : (b : ℕ) → (has_block (blocks_at t p) b ≡ true) ⊎ (eqb takes.block b ≡ true) → (set.contains pool b ≡ true) ⊎ DirHas t b
      came b (inl h) = inr (p, h)
      came b (inr e) = inl (ap (set.contains pool) (sym (eqb-true takes.block b e)) ∙ takes.lowest.held)

      was : (b i : ℕ) → has_block (blocks_at t' i) b ≡ true → (i ≡ p) ⊎ (i ≡ p → ⊥) → (set.contains pool b ≡ true) ⊎ DirHas t b
      was b i h (inl e) = came b (either (has_block (blocks_at t p) b) (eqb takes.block b) (sym (pushed b) ∙ ap (λ j. has_block (blocks_at t' j) b) (sym e) ∙ h))
      was b i h (inr not) = inr (i, ap (λ (l : List ℕ). has_block l b) (sym (others i not)) ∙ h)

      had : (b : ℕ) → (set.contains pool' b ≡ true) ⊎ DirHas t' b → (set.contains pool b ≡ true) ⊎ DirHas t b
      had b (inl h) = inl (in_pool (eqb b takes.block) (set.contains pool b) (sym (left b) ∙ h))
      had b (inr h) = was b h.0 h.1 (number_apart h.0 p)

      now_dir : (b : ℕ) → (has_block (blocks_at t p) b ≡ true) ⊎ (eqb takes.block b ≡ true) → DirHas t' b
      now_dir b h = (p, pushed b ∙ from_either (has_block (blocks_at t p) b) (eqb takes.block b) h)

      still : (b i : ℕ) → has_block (blocks_at t i) b ≡ true → (i ≡ p) ⊎ (i ≡ p → ⊥) → DirHas t' b
      still b i h (inl e) = now_dir b (inl (ap (λ j. has_block (blocks_at t j) b) (sym e) ∙ h))
      still b i h (inr not) = (i, ap (λ (l : List ℕ). has_block l b) (others i not) ∙ h)

      pooled : (b : ℕ) → set.contains pool b ≡ true → (b ≡ takes.block) ⊎ (b ≡ takes.block → ⊥) → (set.contains pool' b ≡ true) ⊎ DirHas t' b
      pooled b h (inl e) = inr (now_dir b (inr (ap (eqb takes.block) e ∙ eq-eqb takes.block takes.block refl)))
      pooled b h (inr not') = inl (left b ∙ ap (λ x. not x && set.contains pool b) (not_both (eqb b takes.block) (λ e. not' (eqb-true b takes.block e))) ∙ h)

      has_now : (b : ℕ) → (set.contains pool b ≡ true) ⊎ DirHas t b → (set.contains pool' b ≡ true) ⊎ DirHas t' b
      has_now b (inl h) = pooled b h (number_apart b takes.block)
      has_now b (inr h) = inr (still b h.0 h.1 (number_apart h.0 p))

  room_got : GetsRoom (dir_at t p) (dir_at t' p) pool pool' → DirExchanges t t' pool pool'
  room_got gets = by (list_all is_named (dir_at t p).slots) refl
    where
      all : blocks_at t' p ≡ blocks_at t p → (i : ℕ) → (i ≡ p) ⊎ (i ≡ p → ⊥) → blocks_at t' i ≡ blocks_at t i
      all here i (inl e) = ap (blocks_at t') e ∙ here ∙ ap (blocks_at t) (sym e)
      all here i (inr not) = others i not

      by : (b : Bool) → list_all is_named (dir_at t p).slots ≡ b → DirExchanges t t' pool pool'
      by true e = block_taken (gets.taken e)
      by false e = none_spent t t' pool pool' (λ i. all (gets.spared e).0 i (number_apart i p)) (gets.spared e).1 apart

-- the directory of these names did so
pub block_spent : (t t' : DirTable) (pool pool' : BlockSet) (names : List (List ℕ)) (p : ℕ) → found_at t names ≡ Some (Dir p) → SpendsBlock t t' pool pool' names → IsApart t' pool' → DirExchanges t t' pool pool'
block_spent t t' pool pool' names p there spends apart =
    room_got t t' pool pool' p apart (λ i not. spends.others i (λ e. let same : Some (Dir p) ≡ Some (Dir i) = sym there ∙ e in let is : p ≡ i = cc in not (sym is))) (spends.here p there)
