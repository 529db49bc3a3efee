-- No block is lost by what a hand's steps do to whole parts.
use Rattle.std.proofs.Common.{◌≡◌, ◌≢◌, ℕ, ◌⊎◌, inl, inr, ⊎_elim, true, List, [], ◌++◌, Option, Some, None, sym, refl, ap, ◌∙◌, subst, append-nil}
use Rattle.std.specs.FinMap as fin
use Rattle.std.specs.FinSet as set
use Rattle.ufs_bitmap.specs.Blocks.{BlockSet}
use Rattle.ufs_bitmap.specs.Taking.{has, set_of}
use Rattle.ufs_dir_tree.specs.DirTable.{blocks_at}
use Rattle.ufs_file_commits.specs.State.{DurableState, blocks_held, file_committed}
use Rattle.ufs_extent.specs.Runs.{blocks_of}
use Rattle.ufs_file.specs.Hand.{FileState}
use Rattle.ufs_files.specs.Files.{AreNumbered}
use Rattle.ufs_files.proofs.MapLemmas.{one_or_apart}
use Rattle.ufs_model.specs.PosixTree.{PosixTree}
use Rattle.ufs_model.proofs.Facts.Lookups.{same_some, there_or_not}
use Rattle.ufs_names.specs.Space as space
use Rattle.ufs_promise_laws.specs.Requests.{IsNamesRequest, StaysOrEmptied, emptied}
use Rattle.ufs_promise_laws.proofs.ListedBlocks.{at_from, at_there, has_same, held_case, held_dropped, held_own}
use Rattle.ufs_promise_laws.specs.Parts.{FileOwns, Parts, durable_in, with_file}
use Rattle.ufs_promise_laws.proofs.Puts.{durable_else, durable_here, here, other_file}
use Rattle.ufs_joint.specs.NoneLost.{IsDropped, IsFree, IsHad, OfDir, OfFile, OfPool}
use Rattle.ufs_joint.proofs.Blocks.{union_left, union_right}

-- ---- free blocks move

-- The pool's blocks and the unassigned ones are together what they were, or more.
pub moved : (p : Parts) (free pool rest : BlockSet) (b : ℕ) → ((set.contains p.pool b ≡ true) ⊎ (set.contains free b ≡ true) → (set.contains pool b ≡ true) ⊎ (set.contains rest b ≡ true))
    → IsHad p free b → IsHad (record p { pool = pool }) rest b
moved p free pool rest b goes (OfFile file owns) = OfFile file (record { hand = owns.hand; here = owns.here; held = owns.held })
moved p free pool rest b goes (OfPool is) = ⊎_elim (λ x. OfPool x) (λ x. IsFree x) (goes (inl is))
moved p free pool rest b goes (IsFree is) = ⊎_elim (λ x. OfPool x) (λ x. IsFree x) (goes (inr is))
moved p free pool rest b goes (IsDropped is) = IsDropped is
moved p free pool rest b goes (OfDir dir is) = OfDir dir is

-- Of no pool the free blocks go to one and to the rest.
pub parted : (p : Parts) (free pool rest : BlockSet) (b : ℕ) → (set.contains p.pool b ≡ true → ⊥) → (set.contains free b ≡ true → (set.contains pool b ≡ true) ⊎ (set.contains rest b ≡ true)) → IsHad p free b → IsHad (record p { pool = pool }) rest b
parted p free pool rest b none split = moved p free pool rest b (λ x. ⊎_elim (λ y. absurd (none y)) split x)

-- Those of the pool join the unassigned ones.
pub joined : (p : Parts) (pool rest none free : BlockSet) (b : ℕ) → p.pool ≡ pool → (set.contains pool b ≡ true → set.contains free b ≡ true) → (set.contains rest b ≡ true → set.contains free b ≡ true) → IsHad p rest b → IsHad (record p { pool = none }) free b
joined p pool rest none free b is in_pool in_rest = moved p rest none free b (λ x. inr (⊎_elim (λ y. in_pool (subst (λ (q : BlockSet). set.contains q b ≡ true) is y)) in_rest x))

-- ---- a file in the place of the one of its number

module _ (p : Parts) (s : FileState) (x : DurableState) (pool old new : BlockSet) (at : fin.get p.files s.file ≡ Some s) (number : x.file.file ≡ s.file) (numbered : AreNumbered p.files) (b : ℕ)
    (goes : (has (blocks_held (durable_in p.commits s)) b ≡ true) ⊎ ((set.contains p.pool b ≡ true) ⊎ (set.contains old b ≡ true)) → (has (blocks_held x) b ≡ true) ⊎ ((set.contains pool b ≡ true) ⊎ (set.contains new b ≡ true))) where
  abbrev q : Parts
  q = with_file x pool p

  given : (has (blocks_held x) b ≡ true) ⊎ ((set.contains pool b ≡ true) ⊎ (set.contains new b ≡ true)) → IsHad q new b
  given (inl is) = OfFile x.file.file (record { hand = x.file; here = here x pool p; held = ap (λ (d : DurableState). has (blocks_held d) b) (durable_here x pool p) ∙ is })
  given (inr (inl is)) = OfPool is
  given (inr (inr is)) = IsFree is

  -- The file's blocks, what it dropped, the pool and the unassigned ones are together what they were, or more.
  pub file_keeps : IsHad p old b → IsHad q new b
  file_keeps (OfPool is) = given (goes (inr (inl is)))
  file_keeps (IsFree is) = given (goes (inr (inr is)))
  file_keeps (IsDropped is) = IsDropped is
  file_keeps (OfDir dir is) = OfDir dir is
  file_keeps (OfFile file owns) = by (one_or_apart file x.file.file)
    where
      by : (file ≡ x.file.file) ⊎ (file ≢ x.file.file) → IsHad q new b
      by (inl is) =
          let same : owns.hand ≡ s = same_some owns.hand s (sym owns.here ∙ ap (fin.get p.files) (is ∙ number) ∙ at) in
          given (goes (inl (ap (λ (r : FileState). has (blocks_held (durable_in p.commits r)) b) (sym same) ∙ owns.held)))
      by (inr not) =
          let other = durable_else x pool p owns.hand (λ e. not (sym (numbered file owns.hand owns.here) ∙ e)) in
          OfFile file (record { hand = owns.hand; here = other_file x pool p file not ∙ owns.here; held = ap (λ (d : DurableState). has (blocks_held d) b) other ∙ owns.held })

-- A commit gives back what the file dropped.
pub commit_keeps : (f : DurableState) (pool old : BlockSet) (b : ℕ) → (has (blocks_held f) b ≡ true) ⊎ ((set.contains pool b ≡ true) ⊎ (set.contains old b ≡ true))
    → (has (blocks_held (file_committed f)) b ≡ true) ⊎ ((set.contains pool b ≡ true) ⊎ (set.contains (set.union old (set_of f.dropped)) b ≡ true))
commit_keeps f pool old b (inr (inl is)) = inr (inl is)
commit_keeps f pool old b (inr (inr is)) = inr (inr (union_left old (set_of f.dropped) b is))
commit_keeps f pool old b (inl is) = by (held_case f b is)
  where
    by : (has (blocks_of f.file.extents) b ≡ true) ⊎ (has (blocks_of f.dropped) b ≡ true) → (has (blocks_held (file_committed f)) b ≡ true) ⊎ ((set.contains pool b ≡ true) ⊎ (set.contains (set.union old (set_of f.dropped)) b ≡ true))
    by (inl own) = inl (held_own (file_committed f) b own)
    by (inr gone) = inr (inr (union_right old (set_of f.dropped) b gone))

-- ---- a request of the names

module _ (t u : PosixTree) (p next : Parts) (lent left unassigned : BlockSet) (r : IsNamesRequest t u p next lent left) (b : ℕ) (unlent : set.contains p.pool b ≡ true → (set.contains lent b ≡ true) ⊎ (set.contains next.pool b ≡ true)) where
  -- whoever has what was the names', a file's or lent
  shown : space.HasBlock next.names.tree.dirs next.files left b → IsHad next unassigned b
  shown (inl back) = IsDropped ((r.dropped b).1 (inr (inl back)))
  shown (inr (inl now)) = OfDir now.0 (sym (has_same (blocks_at next.names.tree.dirs now.0) b) ∙ now.1)
  shown (inr (inr file)) = let it = at_from next.files file.0 b file.1 in OfFile file.0 (record { hand = it.0; here = it.1; held = held_own (durable_in next.commits it.0) b it.2 })

  pub names_keep : IsHad p unassigned b → IsHad next unassigned b
  names_keep (OfPool is) = ⊎_elim (λ x. shown ((r.together b).1 (inl x))) (λ x. OfPool x) (unlent is)
  names_keep (IsFree is) = IsFree is
  names_keep (IsDropped is) = IsDropped ((r.dropped b).1 (inl is))
  names_keep (OfDir dir is) = shown ((r.together b).1 (inr (inl (dir, has_same (blocks_at p.names.tree.dirs dir) b ∙ is))))
  names_keep (OfFile f owns) = by (there_or_not (fin.get next.files f)) (held_case (durable_in p.commits owns.hand) b owns.held)
    where
      by : ((s : FileState) × (fin.get next.files f ≡ Some s)) ⊎ (fin.get next.files f ≡ None) → (has (blocks_of owns.hand.extents) b ≡ true) ⊎ (has (blocks_of (durable_in p.commits owns.hand).dropped) b ≡ true) → IsHad next unassigned b
      by at (inl own) = shown ((r.together b).1 (inr (inr (f, at_there p.files f b owns.hand owns.here own))))
      by (inr none) (inr gone) = IsDropped ((r.dropped b).1 (inr (inr (record { file = f; hand = owns.hand; was = owns.here; gone = none; held = gone }))))
      by (inl at) (inr gone) = stays (r.stay f owns.hand at.0 owns.here at.1)
        where
          stays : StaysOrEmptied p next owns.hand at.0 → IsHad next unassigned b
          stays (inl same) = OfFile f (record { hand = at.0; here = at.1; held = ap (λ (d : DurableState). has (blocks_held d) b) same.1 ∙ held_dropped (durable_in p.commits owns.hand) b gone })
          stays (inr cut) = OfFile f (record { hand = at.0; here = at.1; held = ap (λ (d : DurableState). has (blocks_held d) b) cut.1 ∙ held_dropped (emptied (durable_in p.commits owns.hand)) b gone })
