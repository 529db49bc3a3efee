-- Tables in which one inode gets a number, or has it no more.
use Rattle.std.proofs.Common.{◌≡◌, ◌≢◌, ℕ, ◌<◌, ◌⊎◌, inl, inr, List, [], Option, Some, None, IsSome, is_some, length, set, true, false, eqb, ap, sym, refl, ◌∙◌, subst, arith, length-set, get_or-set_same, get_or-set_other}
use Rattle.std.specs.FinSet as fin
use Rattle.std.proofs.lemmas.Bool.{true≢false}
use Rattle.std.proofs.lemmas.Bool.Decides.{eqb_tells}
use Rattle.ufs_bitmap.specs.Blocks.{BlockSet}
use Rattle.ufs_bitmap.proofs.SetLemmas.{union_none}
use Rattle.ufs_dirs.specs.Directory.{Directory}
use Rattle.ufs_dir_tree.specs.Space.{TakesLowest}
use Rattle.ufs_dir_tree.specs.DirTable.{DirTable, IsDirTable, IsUsed, blocks_at, found_at}
use Rattle.ufs_dir_tree.specs.DirCalls.{SetsFound, SpendsBlock, FreesInode}
use Rattle.ufs_dir_tree.specs.declared.found.Found.TheVariants.{Dir, File}
use Rattle.std.specs.Option.{option_map, unwrap_or}
use Rattle.ufs_model.specs.declared.data.Node.{Node}
use Rattle.ufs_model.specs.declared.data.Node.TheVariants as node
use Rattle.ufs_name_tree.specs.Nodes.{SetsNode}
use Rattle.ufs_name_tree.specs.NameTable.{NameTable, IsNameTable, file_at, node_of, node_at}
use Rattle.ufs_name_tree.proofs.NodeMaps.{sets_node}
use Rattle.ufs_name_tree.proofs.Founds.{came_or_was}
use Rattle.ufs_name_tree.proofs.KeptFiles.{kept_files, one_freed, still_used, was_free}

same_or_other : (i j : ℕ) → (i ≡ j) ⊎ (i ≢ j)
same_or_other i j = by (eqb_tells i j)
  where
    by : ((eqb i j ≡ true) × (i ≡ j)) ⊎ ((eqb i j ≡ false) × (i ≢ j)) → (i ≡ j) ⊎ (i ≢ j)
    by (inl same) = inl same.1
    by (inr other) = inr other.1

module _ (t : NameTable) (dirs : DirTable) (i : ℕ) (w : Option ℕ) where
  abbrev pub numbered : NameTable
  numbered = record { dirs = dirs; files = set t.files i w; noted = t.noted; lost = t.lost }

  pub other_number : (j : ℕ) → j ≢ i → file_at numbered j ≡ file_at t j
  other_number j other = get_or-set_other t.files i j w None other

  pub this_number : i < length t.files → file_at numbered i ≡ w
  this_number inside = get_or-set_same t.files i w None inside

  counted_still : IsNameTable t → length dirs.dirs ≡ length t.dirs.dirs → length numbered.files ≡ length dirs.dirs
  counted_still is inodes = length-set t.files i w ∙ is.counted ∙ sym inodes

-- ---- a new file

module _ (t : NameTable) (dirs : DirTable) (is : IsNameTable t) (table : IsDirTable dirs) (inodes : length dirs.dirs ≡ length t.dirs.dirs) (i file : ℕ)
    (takes : TakesLowest t.dirs.free dirs.free i) (path above : List (List ℕ)) (before after : BlockSet) (spends : SpendsBlock t.dirs dirs before after above)
    (sets : SetsFound (found_at t.dirs) (found_at dirs) path (Some (File i))) where
  abbrev with_file : NameTable
  with_file = numbered t dirs i (Some file)

  was_unnumbered : (f : ℕ) → file_at t i ≢ Some f
  was_unnumbered f at = was_free t is dirs.free i i f takes at refl

  pub no_number : file_at t i ≡ None
  no_number = by (file_at t i) refl
    where
      by : (o : Option ℕ) → file_at t i ≡ o → o ≡ None
      by None e = refl
      by (Some f) e = absurd (was_unnumbered f e)

  inside : i < length t.files
  inside = let free = (is.table).free i takes.lowest.held in omega (arith, free.within, is.counted)

  pub new_number : file_at with_file i ≡ Some file
  new_number = this_number t dirs i (Some file) inside

  pub kept_number : (names : List (List ℕ)) (j : ℕ) → found_at t.dirs names ≡ Some (File j) → file_at with_file j ≡ file_at t j
  kept_number names j at = other_number t dirs i (Some file) j (λ same. by (file_at t i) no_number (ap (λ k. is_some (file_at t k)) (sym same) ∙ is.named names j at))
    where
      by : (o : Option ℕ) → o ≡ None → is_some o ≡ true → ⊥
      by None e some = cc
      by (Some f) e some = cc

  -- what has a number now is the new file, or had it
  numbered_now : (j f : ℕ) → file_at with_file j ≡ Some f → ((j ≡ i) × (f ≡ file)) ⊎ ((j ≢ i) × (file_at t j ≡ Some f))
  numbered_now j f at = by (same_or_other j i)
    where
      by : (j ≡ i) ⊎ (j ≢ i) → ((j ≡ i) × (f ≡ file)) ⊎ ((j ≢ i) × (file_at t j ≡ Some f))
      by (inl same) = let this = sym new_number ∙ ap (file_at with_file) (sym same) ∙ at in inl (same, cc)
      by (inr other) = inr (other, sym (other_number t dirs i (Some file) j other) ∙ at)

  named_then : (names : List (List ℕ)) (j : ℕ) → found_at dirs names ≡ Some (File j) → IsSome (file_at with_file j)
  named_then names j at = by (came_or_was t.dirs dirs path names (File i) (File j) sets at)
    where
      by : (File i ≡ File j) ⊎ (found_at t.dirs names ≡ Some (File j)) → IsSome (file_at with_file j)
      by (inl e) = let same : i ≡ j = cc in ap (λ k. is_some (file_at with_file k)) (sym same) ∙ ap is_some new_number
      by (inr was) = ap is_some (kept_number names j was) ∙ is.named names j was

  used_now : (j f : ℕ) → file_at with_file j ≡ Some f → IsUsed dirs j
  used_now j f at = by (numbered_now j f at)
    where
      by : ((j ≡ i) × (f ≡ file)) ⊎ ((j ≢ i) × (file_at t j ≡ Some f)) → IsUsed dirs j
      by (inl here) = table.met path (File j) (sets.this ∙ ap (λ k. Some (File k)) (sym here.0))
      by (inr was) =
          let before = is.used j f was.1 in
          record { from_one = before.from_one; within = omega (arith, before.within, inodes); used = still_used t.dirs.free dirs.free j i takes before.used }

  no_dir_now : (j f : ℕ) (names : List (List ℕ)) → file_at with_file j ≡ Some f → found_at dirs names ≢ Some (Dir j)
  no_dir_now j f names at met = by (numbered_now j f at) (came_or_was t.dirs dirs path names (File i) (Dir j) sets met)
    where
      by : ((j ≡ i) × (f ≡ file)) ⊎ ((j ≢ i) × (file_at t j ≡ Some f)) → (File i ≡ Dir j) ⊎ (found_at t.dirs names ≡ Some (Dir j)) → ⊥
      by here (inl e) = cc
      by (inl here) (inr was) =
          let used = (is.table).met names (Dir j) was in
          true≢false (sym takes.lowest.held ∙ ap (fin.contains t.dirs.free) (sym here.0) ∙ used.used)
      by (inr is_old) (inr was) = is.no_dir j f names is_old.1 was

  bare_now : (j f : ℕ) → file_at with_file j ≡ Some f → blocks_at dirs j ≡ []
  bare_now j f at = by (numbered_now j f at)
    where
      by : ((j ≡ i) × (f ≡ file)) ⊎ ((j ≢ i) × (file_at t j ≡ Some f)) → blocks_at dirs j ≡ []
      by (inl here) =
          let free = (is.table).free i takes.lowest.held in
          ap (blocks_at dirs) here.0 ∙ spends.others i (λ met. let used = (is.table).met above (Dir i) met in true≢false (sym takes.lowest.held ∙ used.used)) ∙ ap (λ (d : Directory). d.blocks) free.bare
      by (inr was) = spends.others j (is.no_dir j f above was.1) ∙ is.bare j f was.1

  pub added_file : ((j : ℕ) → file_at t j ≢ Some file) → IsNameTable with_file
  added_file fresh = record {
    table = table;
    counted = counted_still t dirs i (Some file) is inodes;
    named = named_then;
    used = used_now;
    no_dir = no_dir_now;
    bare = bare_now;
    once = λ j k f at too. by j k f (numbered_now j f at) (numbered_now k f too);
  }
    where
      by : (j k f : ℕ) → ((j ≡ i) × (f ≡ file)) ⊎ ((j ≢ i) × (file_at t j ≡ Some f)) → ((k ≡ i) × (f ≡ file)) ⊎ ((k ≢ i) × (file_at t k ≡ Some f)) → j ≡ k
      by j k f (inl a) (inl b) = a.0 ∙ sym b.0
      by j k f (inl a) (inr b) = absurd (fresh k (b.1 ∙ ap Some a.1))
      by j k f (inr a) (inl b) = absurd (fresh j (a.1 ∙ ap Some b.1))
      by j k f (inr a) (inr b) = is.once j k f a.1 b.1

  -- what a tree says then
  pub file_added : (old : NameTable) → t ≡ old → SetsNode (node_at old) (node_at with_file) path (Some (node.File file))
  file_added old same =
      let node_is : option_map (node_of with_file) (Some (File i)) ≡ Some (node.File file) = ap (λ (o : Option ℕ). Some (node.File (unwrap_or o 0))) new_number in
      subst (λ (before : NameTable). SetsNode (node_at before) (node_at with_file) path (Some (node.File file))) same
      (subst (λ (w : Option Node). SetsNode (node_at t) (node_at with_file) path w) node_is (sets_node t with_file kept_number path (Some (File i)) sets))

-- ---- a file that is no more

module _ (t : NameTable) (dirs : DirTable) (is : IsNameTable t) (table : IsDirTable dirs) (i : ℕ) (some : IsSome (file_at t i)) where
  abbrev without : NameTable
  without = numbered t dirs i None

  the_number : (f : ℕ) × (file_at t i ≡ Some f)
  the_number = by (file_at t i) refl some
    where
      by : (o : Option ℕ) → file_at t i ≡ o → IsSome o → (f : ℕ) × (file_at t i ≡ Some f)
      by None e some = cc
      by (Some f) e some = (f, e)

  pub is_used : IsUsed t.dirs i
  is_used = is.used i the_number.0 the_number.1

  pub has_no_block : blocks_at t.dirs i ≡ []
  has_no_block = is.bare i the_number.0 the_number.1

  gone_number : file_at without i ≡ None
  gone_number = let used = is_used in this_number t dirs i None (omega (arith, used.within, is.counted))

  module _ (before after : BlockSet) (frees : FreesInode t.dirs dirs before after i) (unmet : (names : List (List ℕ)) → found_at t.dirs names ≢ Some (File i)) (found : (names : List (List ℕ)) → found_at dirs names ≡ found_at t.dirs names) where
    pub number_freed : (names : List (List ℕ)) (j : ℕ) → found_at t.dirs names ≡ Some (File j) → file_at without j ≡ file_at t j
    number_freed names j at = other_number t dirs i None j (λ same. unmet names (at ∙ ap (λ k. Some (File k)) same))

    numbered_left : (j f : ℕ) → file_at without j ≡ Some f → (j ≢ i) × (file_at t j ≡ Some f)
    numbered_left j f at = by (same_or_other j i)
      where
        by : (j ≡ i) ⊎ (j ≢ i) → (j ≢ i) × (file_at t j ≡ Some f)
        by (inl same) = let none = sym gone_number ∙ ap (file_at without) (sym same) ∙ at in absurd cc
        by (inr other) = (other, sym (other_number t dirs i None j other) ∙ at)

    pub freed_file : length dirs.dirs ≡ length t.dirs.dirs → IsNameTable without
    freed_file inodes =
        kept_files t without is table (counted_still t dirs i None is inodes) inodes (λ j f at. let left = numbered_left j f at in left.1)
        (λ names j at. let was = sym (found names) ∙ at in ap is_some (number_freed names j was) ∙ is.named names j was)
        (λ j met. inl (met.0, sym (found met.0) ∙ met.1))
        (λ j f at. one_freed t.dirs dirs before after i frees j (let left = numbered_left j f at in left.0))

    pub pool_same : after ≡ before
    pool_same = frees.pool ∙ ap (λ (l : List ℕ). fin.union before (fin.from_list l)) has_no_block ∙ sym (union_none before 0)
