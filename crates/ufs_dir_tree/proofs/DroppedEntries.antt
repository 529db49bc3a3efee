-- An entry that is taken out, and what it stood for freed.
use Rattle.std.proofs.Common.{◌≡◌, ◌≢◌, ℕ, ◌⊎◌, inl, inr, List, [], Option, Some, None, if◌then◌else◌, Bool, eqb, ap, sym, refl, ◌∙◌, subst}
use Rattle.std.specs.Option.{option_map}
use Rattle.std.specs.FinSet as set
use Rattle.std.proofs.lemmas.Bool.{cases_eq, ne_eqb}
use Rattle.ufs_layout.specs.DentryForm.{DentryForm}
use Rattle.ufs_dirs.specs.Directory.{entry_of, has_block}
use Rattle.ufs_bitmap.specs.Blocks.{BlockSet}
use Rattle.ufs_dir_tree.specs.DirTable.{DirTable, InodeSet, IsDirTable, slots_at, blocks_at, found_of, inode_of}
use Rattle.ufs_dir_tree.specs.DirCalls.{IsBare, IsUnmet, IsApart, HasRoom, FreesInode, Frees}
use Rattle.ufs_dir_tree.specs.DirEdits.{ChangesOne, SetsEntry, SameEntries, IsLoose, ClearsName, dir_in}
use Rattle.ufs_dir_tree.specs.declared.found.Found.{Found}
use Rattle.ufs_dir_tree.specs.declared.found.Found.TheVariants.{Dir, File}
use Rattle.ufs_dir_tree.proofs.Prefixes.{one_name}
use Rattle.ufs_dir_tree.proofs.EntryEdits.{entry-else, blocks-same}

pub dir_found : (e : DentryForm) → e.kind ≡ 2 → found_of e ≡ Dir e.inode
dir_found e kind = ap (λ k. if eqb k 2 then Dir e.inode else File e.inode) kind

pub file_found : (e : DentryForm) → e.kind ≢ 2 → found_of e ≡ File e.inode
file_found e kind = ap (λ (b : Bool). if b then Dir e.inode else File e.inode) (ne_eqb e.kind 2 kind)

module _ (old mid : DirTable) (p : ℕ) (x : List ℕ) (e : DentryForm) (sets : SetsEntry old.dirs mid.dirs p x None) (free : mid.free ≡ old.free) (was : entry_of (slots_at old p) x ≡ Some e) where
  mid_blocks : (i : ℕ) → blocks_at mid i ≡ blocks_at old i
  mid_blocks i = blocks-same old mid.dirs p x None sets i

  pub mid_apart : (pool : BlockSet) → IsApart old pool → IsApart mid pool
  mid_apart pool apart i b has = apart i b (ap (λ (l : List ℕ). has_block l b) (sym (mid_blocks i)) ∙ has)

  -- what had no names has none
  pub mid_bare : (i : ℕ) → IsBare (slots_at old i) → IsBare (slots_at mid i)
  mid_bare i bare name = by (cases_eq i p) (one_name name x)
    where
      by : (i ≡ p) ⊎ (i ≢ p) → (name ≡ x) ⊎ (name ≢ x) → entry_of (slots_at mid i) name ≡ None
      by (inl at) (inl same) = (λ k. entry_of (slots_at mid (at k)) (same k)) ∙ sets.names.this
      by (inl at) (inr other) = entry-else old mid.dirs p x None sets i name (λ _. other) ∙ bare name
      by (inr apart) same = entry-else old mid.dirs p x None sets i name (λ at. absurd (apart at)) ∙ bare name

  stood : (f : Found) → found_of e ≡ f → option_map found_of (entry_of (slots_at old p) x) ≡ Some f
  stood f at = ap (option_map found_of) was ∙ ap (λ (f : Found). Some f) at

  pub dir_bare : ((i : ℕ) → option_map found_of (entry_of (slots_at old p) x) ≡ Some (Dir i) → IsBare (slots_at old i)) → (i : ℕ) → found_of e ≡ Dir i → IsBare (slots_at mid i)
  dir_bare may_go i at = mid_bare i (may_go i (stood (Dir i) at))

  -- a file goes
  pub none_freed : (pool : BlockSet) (i : ℕ) → found_of e ≡ File i → Frees old mid pool pool (option_map found_of (entry_of (slots_at old p) x))
  none_freed pool i at = subst (λ (o : Option Found). Frees old mid pool pool o) (sym (stood (File i) at)) (record { free = free; pool = refl; blocks = mid_blocks })

  pub mid_clears : IsDirTable old → IsDirTable mid → HasRoom (dir_in mid.dirs p) → ClearsName old mid p x
  mid_clears is is' room = record {
    this = sets.names.this;
    others = entry-else old mid.dirs p x None sets;
    room = room;
    before = is;
    table = is';
  }

  -- a directory goes
  module _ (new : DirTable) (k : ℕ) (at : found_of e ≡ Dir k) where
    pub dir_freed : (pool after : BlockSet) → FreesInode mid new pool after k → Frees old new pool after (option_map found_of (entry_of (slots_at old p) x))
    dir_freed pool after frees = subst (λ (o : Option Found). Frees old new pool after o) (sym (stood (Dir k) at)) (record {
      free = frees.free ∙ ap (λ (s : InodeSet). set.insert s k) free;
      blocks = frees.blocks;
      pool = frees.pool ∙ ap (λ (l : List ℕ). set.union pool (set.from_list l)) (mid_blocks k);
      others = λ j other. frees.others j other ∙ mid_blocks j;
    })

    -- the directory of the name isn't the one that goes
    pub new_clears : IsDirTable old → IsDirTable new → HasRoom (dir_in mid.dirs p) → SameEntries mid.dirs new.dirs → ChangesOne mid.dirs new.dirs k → p ≢ k → ClearsName old new p x
    new_clears is is' room same one other = record {
      this = same p x ∙ sets.names.this;
      others = λ i name off. same i name ∙ entry-else old mid.dirs p x None sets i name off;
      room = subst HasRoom (sym (one.others p other)) room;
      before = is;
      table = is';
    }

-- what is loose is met by no walk
pub loose_unmet : (t : DirTable) (f : Found) → IsLoose t f → IsUnmet t (inode_of f)
loose_unmet t f loose names g at same = loose.unmet [] names f g refl at (sym same)

-- what was freed stays so, where blocks and free inodes stay
pub frees_on : (old mid new : DirTable) (pool after : BlockSet) (o : Option Found) → new.free ≡ mid.free → ((i : ℕ) → blocks_at new i ≡ blocks_at mid i) → Frees old mid pool after o → Frees old new pool after o
frees_on old mid new pool after None free blocks f = record { free = free ∙ f.free; pool = f.pool; blocks = λ i. blocks i ∙ f.blocks i }
frees_on old mid new pool after (Some (File k)) free blocks f = record { free = free ∙ f.free; pool = f.pool; blocks = λ i. blocks i ∙ f.blocks i }
frees_on old mid new pool after (Some (Dir k)) free blocks f = record { free = free ∙ f.free; blocks = blocks k ∙ f.blocks; pool = f.pool; others = λ j other. blocks j ∙ f.others j other }
