-- The blocks of directories stay among those in which dentries are spelled.
use Rattle.std.proofs.Common.{◌≡◌, ℕ, zero, suc, ◌<◌, ◌≤◌, leb, ◌⊎◌, inl, inr, List, [], ◌∷◌, ◌++◌, Bool, true, false, Some, length, set, get_or, ap, sym, refl, ◌∙◌, subst, arith}
use Rattle.std.specs.Prelude.{◌==◌, IsTrue, if◌then◌else◌}
use Rattle.std.specs.List.{slice_get}
use Rattle.std.proofs.lemmas.Bool.Decides.{nat_tests, leb_tells}
use Rattle.std.proofs.lemmas.List.{get_or_past}
use Rattle.ufs_layout.specs.declared.geometry.Geometry.{Geometry}
use Rattle.ufs_dirs.specs.Directory.{Directory}
use Rattle.ufs_dirs.specs.Changes.{with_entry}
use Rattle.ufs_image.specs.Nodes.{blocks_of}
use Rattle.ufs_image.specs.Catalog.{Catalog, IsInode, HasDirBlocks}
use Rattle.ufs_dir_tree.specs.DirTable.{no_dir, dir_at, blocks_at}
use Rattle.ufs_dir_tree.specs.Steps.{DirState, Step, Born, Grown, Put, Freed, grown, without_block, after, after_all}
use Rattle.ufs_promise_laws.specs.Held.{HasState, MayStep, MaySteps}
use Rattle.ufs_promise_laws.proofs.Growing.{split_at}

-- an element of a list in which one was set
pub set_or_same : {X : Type 0} (xs : List X) (i k : ℕ) (x d : X) → (get_or (set xs i x) k d ≡ x) ⊎ (get_or (set xs i x) k d ≡ get_or xs k d)
set_or_same [] i k x d = inr refl
set_or_same (y ∷ ys) zero zero x d = inl refl
set_or_same (y ∷ ys) zero (suc k) x d = inr refl
set_or_same (y ∷ ys) (suc i) zero x d = inr refl
set_or_same (y ∷ ys) (suc i) (suc k) x d = set_or_same ys i k x d

module _ (g : Geometry) (these : ℕ → Bool) where
  pub record Covers (s : DirState) : Type 0 where
    pub dirs : (i p b : ℕ) → slice_get (blocks_at s.table i) p ≡ Some b → IsTrue (these b)
    pub zeroed : (b : ℕ) → s.zeroed b ≡ true → IsTrue (these b)

  of_dir : (d : Directory) (other : Directory) (p b : ℕ) → d ≡ other → slice_get d.blocks p ≡ Some b → slice_get other.blocks p ≡ Some b
  of_dir d other p b same at = ap (λ (x : Directory). slice_get x.blocks p) (sym same) ∙ at

  covered : (s : DirState) (x : Step) → MayStep g s x → Covers s → Covers (after x s)
  covered s (Born i kind) may has = record { dirs = has.dirs; zeroed = has.zeroed }
  covered s (Grown i block) may has = record { dirs = λ k p b at. by k p b at (set_or_same s.table.dirs i k (grown block (dir_at s.table i)) no_dir); zeroed = λ b e. has.zeroed b (rest b e) }
    where
      new : (p b : ℕ) → slice_get (blocks_at s.table i ++ block ∷ []) p ≡ Some b → IsTrue (these b)
      new p b at = of (split_at (blocks_at s.table i) block p b at)
        where
          of : (slice_get (blocks_at s.table i) p ≡ Some b) ⊎ ((p ≡ length (blocks_at s.table i)) × (b ≡ block)) → IsTrue (these b)
          of (inl was) = has.dirs i p b was
          of (inr now) = subst (λ n. IsTrue (these n)) (sym now.1) (has.zeroed block may.zeroed)

      by : (k p b : ℕ) → slice_get (blocks_at (after (Grown i block) s).table k) p ≡ Some b
          → (dir_at (after (Grown i block) s).table k ≡ grown block (dir_at s.table i)) ⊎ (dir_at (after (Grown i block) s).table k ≡ dir_at s.table k) → IsTrue (these b)
      by k p b at (inl here) = new p b (of_dir (dir_at (after (Grown i block) s).table k) (grown block (dir_at s.table i)) p b here at)
      by k p b at (inr same) = has.dirs k p b (of_dir (dir_at (after (Grown i block) s).table k) (dir_at s.table k) p b same at)

      rest : (b : ℕ) → without_block block s.zeroed b ≡ true → s.zeroed b ≡ true
      rest b e = of (b == block) e
        where
          of : (v : Bool) → (if v then false else s.zeroed b) ≡ true → s.zeroed b ≡ true
          of true off = absurd cc
          of false on = on
  covered s (Put i slot d) may has = record { dirs = λ k p b at. by k p b at (set_or_same s.table.dirs i k (with_entry (dir_at s.table i) slot d) no_dir); zeroed = has.zeroed }
    where
      by : (k p b : ℕ) → slice_get (blocks_at (after (Put i slot d) s).table k) p ≡ Some b
          → (dir_at (after (Put i slot d) s).table k ≡ with_entry (dir_at s.table i) slot d) ⊎ (dir_at (after (Put i slot d) s).table k ≡ dir_at s.table k) → IsTrue (these b)
      by k p b at (inl here) = has.dirs i p b (of_dir (dir_at (after (Put i slot d) s).table k) (with_entry (dir_at s.table i) slot d) p b here at)
      by k p b at (inr same) = has.dirs k p b (of_dir (dir_at (after (Put i slot d) s).table k) (dir_at s.table k) p b same at)
  covered s (Freed i) may has = record { dirs = λ k p b at. by k p b at (set_or_same s.table.dirs i k no_dir no_dir); zeroed = has.zeroed }
    where
      by : (k p b : ℕ) → slice_get (blocks_at (after (Freed i) s).table k) p ≡ Some b → (dir_at (after (Freed i) s).table k ≡ no_dir) ⊎ (dir_at (after (Freed i) s).table k ≡ dir_at s.table k) → IsTrue (these b)
      by k p b at (inl here) = let none = of_dir (dir_at (after (Freed i) s).table k) no_dir p b here at in absurd cc
      by k p b at (inr same) = has.dirs k p b (of_dir (dir_at (after (Freed i) s).table k) (dir_at s.table k) p b same at)

  pub covered_all : (s : DirState) (xs : List Step) → MaySteps g s xs → Covers s → Covers (after_all xs s)
  covered_all s [] may has = has
  covered_all s (x ∷ xs) may has = covered_all (after x s) xs may.1 (covered s x may.0 has)

  -- ---- of a catalog

  module _ (c : Catalog) (s : DirState) (has : HasState g c s) where
    pub covers_table : HasDirBlocks g c these → ((b : ℕ) → s.zeroed b ≡ true → IsTrue (these b)) → Covers s
    covers_table covers zeroed = record { dirs = dirs; zeroed = zeroed }
      where
        inside_or_none : (i : ℕ) → IsInode g i ⊎ (dir_at s.table i ≡ no_dir)
        inside_or_none zero = inr has.table.none
        inside_or_none (suc i) = by (leb_tells (suc i) g.inodes)
          where
            by : ((leb (suc i) g.inodes ≡ true) × (suc i ≤ g.inodes)) ⊎ ((leb (suc i) g.inodes ≡ false) × (g.inodes < suc i)) → IsInode g (suc i) ⊎ (dir_at s.table (suc i) ≡ no_dir)
            by (inl low) = let most = low.1 in inl (record { from_one = omega arith; within = most })
            by (inr high) = let above = high.1 in let all = has.table.counted in inr (get_or_past s.table.dirs (suc i) no_dir (omega (arith, above, all)))

        dirs : (i p b : ℕ) → slice_get (blocks_at s.table i) p ≡ Some b → IsTrue (these b)
        dirs i p b at = by (inside_or_none i)
          where
            of : (v : Bool) → ((c.forms i).kind == 2) ≡ v → IsInode g i → slice_get (if v then blocks_of (c.forms i) else []) p ≡ Some b → IsTrue (these b)
            of true e inside there = covers b (record { inode = i; place = p; has = record { in_range = inside; there = there }; dir = grind (arith, nat_tests, e) })
            of false e inside there = let clash = there in absurd cc

            by : IsInode g i ⊎ (dir_at s.table i ≡ no_dir) → IsTrue (these b)
            by (inl inside) = of ((c.forms i).kind == 2) refl inside (ap (λ xs. slice_get xs p) (sym (has.table.blocks i inside)) ∙ at)
            by (inr none) = let clash = of_dir (dir_at s.table i) no_dir p b none at in absurd cc

    pub covers_catalog : Covers s → HasDirBlocks g c these
    covers_catalog covers b is =
        let test : ((c.forms is.inode).kind == 2) ≡ true = ap (λ k. k == 2) is.dir in
        let blocks : blocks_at s.table is.inode ≡ blocks_of (c.forms is.inode) = has.table.blocks is.inode is.has.in_range ∙ ap (λ v. if v then blocks_of (c.forms is.inode) else []) test in
        covers.dirs is.inode is.place b (ap (λ xs. slice_get xs is.place) blocks ∙ is.has.there)
