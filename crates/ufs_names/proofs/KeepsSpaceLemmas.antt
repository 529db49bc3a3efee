-- Each kind of change keeps space: directories, files and pool stay apart and have together what they had, and files
-- have the inodes that are told.
use Rattle.std.proofs.Common.{◌≡◌, ℕ, ◌⊎◌, inl, inr, length, true, Some, None, is_some, ap, refl, sym, subst, ◌∙◌}
use Rattle.std.specs.Cmp.{nat_cmp_total}
use Rattle.std.specs.FinMap as map
use Rattle.std.specs.FinMap.{nat_cmp-IsAntisymmetric}
use Rattle.std.specs.FinSet as set
use Rattle.ufs_bitmap.specs.Blocks.{BlockSet}
use Rattle.ufs_dir_tree.specs.DirTable.{DirTable, blocks_at}
use Rattle.ufs_dir_tree.specs.DirCalls.{IsApart}
use Rattle.ufs_file.specs.Hand.{FileState}
use Rattle.ufs_files.specs.Files as file_set
use Rattle.ufs_files.specs.Files.{Files}
use Rattle.ufs_files.proofs.ExchangeLemmas.{Exchanges, emptied, made, removed}
use Rattle.ufs_model.proofs.Facts.Lookups.{from_some, same_some, inserted_here, inserted_else, left_was}
use Rattle.ufs_name_tree.specs.NameTable.{NameTable}
use Rattle.ufs_names.specs.Calls.{HaveInodes, KeepInodes, no_bytes}
use Rattle.ufs_names.specs.NamesPart.{NamesPart, Holdings, holding_of}
use Rattle.ufs_names.specs.Space.{AreApart, HaveTheSame}
use Rattle.ufs_names.specs.Steps.{KeepsSpace}
use Rattle.ufs_names.specs.declared.holding.Holding.{Holding}
use Rattle.ufs_names.proofs.LinkLemmas.{number_apart}
use Rattle.ufs_names.proofs.SettleLemmas.{holding_is}
use Rattle.ufs_names.proofs.SpaceLemmas.{DirExchanges, and_then, dir_apart, dir_together, file_apart, file_together, the_same}

-- ---- inodes

module _ (held : Holdings) (fs : Files) (all : HaveInodes held fs) (f : ℕ) where
  -- the same of the file is known now, but for who holds it
  pub inodes_known : (h : Holding) → is_some (map.get held f) ≡ true → h.inode ≡ (holding_of held f).inode → HaveInodes (map.insert held f h) fs
  inodes_known h here same g s k at told = by (number_apart g f)
    where
      was : (o : Holding) × (map.get held f ≡ Some o)
      was = from_some (map.get held f) here

      by : (g ≡ f) ⊎ (g ≡ f → ⊥) → s.inode ≡ k.inode
      by (inl e) =
          let is : h ≡ k = same_some h k (sym (inserted_here nat_cmp_total nat_cmp-IsAntisymmetric held f h) ∙ sym (ap (map.get (map.insert held f h)) e) ∙ told) in
          all f s was.0 (sym (ap (map.get fs) e) ∙ at) was.1 ∙ sym (ap (λ (o : Holding). o.inode) (holding_is held f was.0 was.1)) ∙ sym same ∙ ap (λ (o : Holding). o.inode) is
      by (inr not) = all g s k at (sym (inserted_else nat_cmp_total nat_cmp-IsAntisymmetric held f h g not) ∙ told)

  -- the file goes
  pub inodes_left : HaveInodes (map.remove held f) (map.remove fs f)
  inodes_left g s k at told =
      all g s k (left_was nat_cmp_total nat_cmp-IsAntisymmetric fs f g s at).1 (left_was nat_cmp_total nat_cmp-IsAntisymmetric held f g k told).1

  -- it has another state and the same inode, which is told
  pub inodes_with : (i : ℕ) (h : Holding) (r : FileState) → h.inode ≡ i → r.inode ≡ i → HaveInodes (map.insert held f h) (map.insert fs f r)
  inodes_with i h r told here g s k at at' = by (number_apart g f)
    where
      by : (g ≡ f) ⊎ (g ≡ f → ⊥) → s.inode ≡ k.inode
      by (inl e) =
          let is : h ≡ k = same_some h k (sym (inserted_here nat_cmp_total nat_cmp-IsAntisymmetric held f h) ∙ sym (ap (map.get (map.insert held f h)) e) ∙ at') in
          let is' : r ≡ s = same_some r s (sym (inserted_here nat_cmp_total nat_cmp-IsAntisymmetric fs f r) ∙ sym (ap (map.get (map.insert fs f r)) e) ∙ at) in
          sym (ap (λ (o : FileState). o.inode) is') ∙ here ∙ sym told ∙ ap (λ (o : Holding). o.inode) is
      by (inr not) =
          all g s k (sym (inserted_else nat_cmp_total nat_cmp-IsAntisymmetric fs f r g not) ∙ at) (sym (inserted_else nat_cmp_total nat_cmp-IsAntisymmetric held f h g not) ∙ at')

-- ---- files that stay live

pub stay_same : (held : Holdings) → KeepInodes held held
stay_same held g h k at at' = ap (λ (o : Holding). o.inode) (same_some k h (sym at' ∙ at))

module _ (held : Holdings) (f : ℕ) where
  -- this is known of one now
  stay_known : (h : Holding) → ((o : Holding) → map.get held f ≡ Some o → h.inode ≡ o.inode) → KeepInodes held (map.insert held f h)
  stay_known h same g o k at at' = by (number_apart g f)
    where
      by : (g ≡ f) ⊎ (g ≡ f → ⊥) → k.inode ≡ o.inode
      by (inl e) =
          let is : h ≡ k = same_some h k (sym (inserted_here nat_cmp_total nat_cmp-IsAntisymmetric held f h) ∙ sym (ap (map.get (map.insert held f h)) e) ∙ at') in
          sym (ap (λ (x : Holding). x.inode) is) ∙ same o (sym (ap (map.get held) e) ∙ at)
      by (inr not) = stay_same held g o k at (sym (inserted_else nat_cmp_total nat_cmp-IsAntisymmetric held f h g not) ∙ at')

  -- one goes
  stay_left : KeepInodes held (map.remove held f)
  stay_left g o k at at' = stay_same held g o k at (left_was nat_cmp_total nat_cmp-IsAntisymmetric held f g k at').1

-- ---- one after the other

pub keeps_then : (old mid new : NamesPart) (fs gs hs : Files) (pool qool rool : BlockSet) → mid.held ≡ old.held → KeepsSpace old mid fs gs pool qool → KeepsSpace mid new gs hs qool rool → KeepsSpace old new fs hs pool rool
keeps_then old mid new fs gs hs pool qool rool held first second = record {
  inodes = λ all. second.inodes (first.inodes all);
  stay = subst (λ (m : Holdings). KeepInodes m new.held) held second.stay;
  together = and_then old.tree.dirs mid.tree.dirs new.tree.dirs fs gs hs pool qool rool first.together second.together;
  apart = second.apart;
  counted = second.counted ∙ first.counted;
}

-- what stays of directories and pool where a file goes
pub goes_apart : (t : DirTable) (fs fs' : Files) (pool pool' : BlockSet) (f : ℕ) → fs' ≡ map.remove fs f → pool' ≡ set.union pool (set.from_list (file_set.blocks_at fs f)) → AreApart t fs pool → IsApart t pool'
goes_apart t fs fs' pool pool' f hands left apart = (file_apart t t (λ i. refl) fs fs' pool pool' f (removed fs fs' pool pool' f hands left) apart).dirs

-- ---- the kinds

module _ (old new : NamesPart) (fs fs' : Files) (pool pool' : BlockSet) (apart : AreApart old.tree.dirs fs pool) where
  -- directories and pool exchange blocks
  pub keeps_dirs : DirExchanges old.tree.dirs new.tree.dirs pool pool' → length new.tree.dirs.dirs ≡ length old.tree.dirs.dirs → new.held ≡ old.held → fs' ≡ fs → KeepsSpace old new fs fs' pool pool'
  keeps_dirs e counted held hands =
      subst (λ (hs : Files). KeepsSpace old new fs hs pool pool') (sym hands)
      (record {
        inodes = λ all. subst (λ (m : Holdings). HaveInodes m fs) (sym held) all;
        stay = subst (KeepInodes old.held) (sym held) (stay_same old.held);
        together = dir_together old.tree.dirs new.tree.dirs fs pool pool' e;
        apart = dir_apart old.tree.dirs new.tree.dirs fs pool pool' e apart;
        counted = counted;
      })

  -- a file and the pool exchange blocks
  keeps_file : (f : ℕ) → Exchanges fs fs' pool pool' f → ((i : ℕ) → blocks_at new.tree.dirs i ≡ blocks_at old.tree.dirs i) → length new.tree.dirs.dirs ≡ length old.tree.dirs.dirs → (HaveInodes old.held fs → HaveInodes new.held fs') → KeepInodes old.held new.held → KeepsSpace old new fs fs' pool pool'
  keeps_file f e same counted inodes stay = record {
    inodes = inodes;
    stay = stay;
    together = file_together old.tree.dirs new.tree.dirs same fs fs' pool pool' f e;
    apart = file_apart old.tree.dirs new.tree.dirs same fs fs' pool pool' f e apart;
    counted = counted;
  }

  module _ (f : ℕ) where
    -- this is known of a file now
    pub keeps_known : (h : Holding) → is_some (map.get old.held f) ≡ true → h.inode ≡ (holding_of old.held f).inode → new.tree ≡ old.tree → new.held ≡ map.insert old.held f h → fs' ≡ fs → pool' ≡ pool
        → KeepsSpace old new fs fs' pool pool'
    keeps_known h here same tree held hands left =
        subst (λ (k : Files × BlockSet). KeepsSpace old new fs k.0 pool k.1) (λ i. (sym hands i, sym left i))
        (record {
          inodes = λ all. subst (λ (m : Holdings). HaveInodes m fs) (sym held) (inodes_known old.held fs all f h here same);
          stay = subst (KeepInodes old.held) (sym held) (stay_known old.held f h (λ o at. same ∙ ap (λ (x : Holding). x.inode) (holding_is old.held f o at)));
          together = subst (λ (t : NameTable). HaveTheSame old.tree.dirs fs pool t.dirs fs pool) (sym tree) (the_same old.tree.dirs fs pool);
          apart = subst (λ (t : NameTable). AreApart t.dirs fs pool) (sym tree) apart;
          counted = ap (λ (t : NameTable). length t.dirs.dirs) tree;
        })

    -- a file goes
    pub keeps_gone : ((i : ℕ) → blocks_at new.tree.dirs i ≡ blocks_at old.tree.dirs i) → length new.tree.dirs.dirs ≡ length old.tree.dirs.dirs → new.held ≡ map.remove old.held f → fs' ≡ map.remove fs f → pool' ≡ set.union pool (set.from_list (file_set.blocks_at fs f))
        → KeepsSpace old new fs fs' pool pool'
    keeps_gone same counted held hands left =
        keeps_file f (removed fs fs' pool pool' f hands left) same counted
        (λ all. subst (λ (k : Holdings × Files). HaveInodes k.0 k.1) (λ i. (sym held i, sym hands i)) (inodes_left old.held fs all f))
        (subst (KeepInodes old.held) (sym held) (stay_left old.held f))

    -- a file is emptied, and this is known of it now
    pub keeps_emptied : (s : FileState) (h : Holding) → h.inode ≡ (holding_of old.held f).inode → (HaveInodes old.held fs → h.inode ≡ s.inode) → new.tree ≡ old.tree → new.held ≡ map.insert old.held f h → fs' ≡ map.insert fs f (no_bytes f s.inode)
        → pool' ≡ set.union pool (set.from_list (file_set.blocks_at fs f)) → KeepsSpace old new fs fs' pool pool'
    keeps_emptied s h was same tree held hands left =
        keeps_file f (emptied fs fs' pool pool' f (no_bytes f s.inode) refl hands left) (λ i. ap (λ (t : NameTable). blocks_at t.dirs i) tree) (ap (λ (t : NameTable). length t.dirs.dirs) tree)
        (λ all. subst (λ (k : Holdings × Files). HaveInodes k.0 k.1) (λ i. (sym held i, sym hands i)) (inodes_with old.held fs all f s.inode h (no_bytes f s.inode) (same all) refl))
        (subst (KeepInodes old.held) (sym held) (stay_known old.held f h (λ o at. was ∙ ap (λ (x : Holding). x.inode) (holding_is old.held f o at))))

    -- a file is new, and a directory may get a block for its name
    pub keeps_made : (i : ℕ) (h : Holding) → map.get old.held f ≡ None → map.get fs f ≡ None → h.inode ≡ i → DirExchanges old.tree.dirs new.tree.dirs pool pool' → length new.tree.dirs.dirs ≡ length old.tree.dirs.dirs → new.held ≡ map.insert old.held f h → fs' ≡ map.insert fs f (no_bytes f i)
        → KeepsSpace old new fs fs' pool pool'
    keeps_made i h unheld absent same e counted held hands = record {
      inodes = λ all. subst (λ (k : Holdings × Files). HaveInodes k.0 k.1) (λ j. (sym held j, sym hands j)) (inodes_with old.held fs all f i h (no_bytes f i) same refl);
      stay = subst (KeepInodes old.held) (sym held) (stay_known old.held f h (λ o at. let clash : None ≡ Some o = sym unheld ∙ at in absurd cc));
      together = and_then old.tree.dirs old.tree.dirs new.tree.dirs fs fs' fs' pool pool pool' (file_together old.tree.dirs old.tree.dirs (λ j. refl) fs fs' pool pool f comes) (dir_together old.tree.dirs new.tree.dirs fs' pool pool' e);
      apart = dir_apart old.tree.dirs new.tree.dirs fs' pool pool' e (file_apart old.tree.dirs old.tree.dirs (λ j. refl) fs fs' pool pool f comes apart);
      counted = counted;
    }
      where
        comes : Exchanges fs fs' pool pool f
        comes = made fs fs' pool f (no_bytes f i) absent refl hands
