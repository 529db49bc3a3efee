-- Where nothing is noted all changes of names stand on the disk.
use Rattle.std.proofs.Common.{◌≡◌, ℕ, ◌≤◌, ◌⊎◌, inl, inr, false, List, [], ◌∷◌, Some, None, length, ap, sym, refl, ◌∙◌, subst, arith}
use Rattle.std.specs.Prelude.{IsSome}
use Rattle.std.specs.FinMap as map
use Rattle.ufs_bitmap.specs.Blocks.{BlockSet}
use Rattle.ufs_bitmap.specs.Taking.{has}
use Rattle.ufs_dir_tree.specs.Steps.{DirState, Step, after_all}
use Rattle.ufs_file.specs.Hand.{FileState}
use Rattle.ufs_image.specs.Catalog.{HasBlock}
use Rattle.ufs_layout.specs.Superblock.{geometry_of}
use Rattle.ufs_layout.specs.declared.geometry.Geometry.{Geometry}
use Rattle.ufs_ledger.specs.Kept.{Counts, IsLedgerKept}
use Rattle.ufs_ledger.specs.Laws.{CommitsKeep, StandsOn}
use Rattle.ufs_ledger.specs.Ledger.{Ledger, with_one}
use Rattle.ufs_model.specs.FileBytes.{bytes_of}
use Rattle.ufs_model.specs.History.{tree_after}
use Rattle.ufs_model.specs.PosixTree.{PosixTree}
use Rattle.ufs_model.specs.declared.data.Entry.{Entry}
use Rattle.ufs_model.proofs.Facts.Lookups.{same_some}
use Rattle.ufs_promise_laws.specs.Files.{KeepsInode, MayGoOn, NamesStandOn}
use Rattle.ufs_promise_laws.specs.Held.{HasSoundNames}
use Rattle.ufs_promise_laws.specs.ChangeLaws.{AreOlder, change}
use Rattle.ufs_promise_laws.specs.Steps.{records_of}
use Rattle.ufs_name_tree.specs.NameTable.{IsNameTable}
use Rattle.ufs_name_tree.specs.Notes.{AreKindsOf}
use Rattle.ufs_promise_laws.specs.Going.{NamesMayGoOn}
use Rattle.ufs_promise_laws.specs.PathNumbers.{numbers_of}
use Rattle.ufs_crash_laws.specs.Changes.{NameState, name_changes, names_after}
use Rattle.ufs_crash_laws.specs.Laws.{NamesGoByChanges}
use Rattle.ufs_crash_laws.specs.Stored.{IsNamed}
use Rattle.ufs_file_commits.specs.Standing.{StandsFor}
use Rattle.ufs_file_commits.specs.State.{DurableState, whole_of}
use Rattle.ufs_store.specs.State.{StoreState, geometry_of_store}
use Rattle.ufs_promise_laws.specs.Laws.{all_named, with_names_committed}
use Rattle.ufs_promise_laws.specs.Known.{IsKeptGoing, Known, with_names_known}
use Rattle.ufs_promise_laws.specs.Parts.{NamesOwn, Parts, durable_in}
use Rattle.ufs_promise_laws.specs.Stored.{AreNamesNoted, AreNamesStored, FileHasIt, IsFileStored, IsKnownBlock, IsStored, with_fresh, with_none}
use Rattle.ufs_promise_laws.proofs.Known.{named_covers}
use Rattle.ufs_promise_laws.proofs.Numbered.{alone_now, born_now, has_inode, live, names_now, numbered}
use Rattle.ufs_promise_laws.proofs.Unfresh.{before, never, part_committed, sound_zeroed}

pub no_steps : (d : DirState) (xs : List Step) → records_of d xs ≡ [] → xs ≡ []
no_steps d [] none = refl
no_steps d (x ∷ xs) none = (let no = none in cc)

module _ (l : Ledger) (u : BlockSet) (start : PosixTree) (history : List Entry) (k : Counts) (p : Parts) (number : ℕ) (st : IsStored l u start history k p) (n : AreNamesNoted l k.numbers p.fresh p.names) (empty : n.steps ≡ [])
    (none : l.maybe ≡ None) (table : IsNameTable p.names.tree) (older : AreOlder (geometry_of l.superblock) l.now.catalog number) where
  abbrev g : Geometry
  g = geometry_of l.superblock

  -- the server's directories, as the disk has them
  abbrev d : DirState
  d = with_none n.committed

  abbrev fresh : DirState
  fresh = with_fresh p.fresh n.committed

  abbrev tree : PosixTree
  tree = tree_after start history

  abbrev more : ℕ
  more = length (name_changes start history)

  abbrev p2 : Parts
  p2 = with_names_committed p

  abbrev k2 : Counts
  k2 = all_named start history p.names k

  dirs : d.table ≡ p.names.tree.dirs
  dirs = ap (λ (xs : List Step). (after_all xs fresh).table) (sym empty) ∙ n.dirs

  kinds : AreKindsOf p.names.tree d.kinds
  kinds = subst (λ (xs : List Step). AreKindsOf p.names.tree (after_all xs fresh).kinds) empty n.kinds

  sound : HasSoundNames g d
  sound = sound_zeroed g fresh (λ _. false) (subst (λ (xs : List Step). HasSoundNames g (after_all xs fresh)) empty n.sound)

  keeps : (file : ℕ) → IsSome (map.get p.names.held file) → KeepsInode [] k.numbers (numbers_of p.names) file
  keeps file is = subst (λ (xs : List Step). KeepsInode xs k.numbers (numbers_of p.names) file) empty (n.live file is)

  -- so no live file changed its inode
  same_inode : (file inode : ℕ) → IsSome (map.get p.names.held file) → (numbers_of p.names).inode file ≡ Some inode → k.numbers.inode file ≡ Some inode
  same_inode file inode is now = by (keeps file is)
    where
      by : KeepsInode [] k.numbers (numbers_of p.names) file → k.numbers.inode file ≡ Some inode
      by (inl same) = sym same.0 ∙ now
      by (inr new) = (let no = new.1 inode now in cc)

  -- ---- the promise

  go : NamesGoByChanges → NamesMayGoOn g → MayGoOn g l.now d [] number start history k.names more k.numbers (numbers_of p.names)
  go by names = names l.now d [] number start history k.names more k.numbers p.names tree n.has older tt sound
      (record { dirs = dirs; sound = table; part = st.parts.names; files = kinds.file })
      (record { made = omega arith; paths = ap (λ (s : NameState). s.paths) (sym (names_now l u start history k p st by)); next = omega arith })
      st.kept.here.stored.made each
    where
      each : (count file : ℕ) → more ≤ count → count ≤ length (name_changes start history) → IsNamed (names_after start history count).paths file → KeepsInode [] k.numbers (numbers_of p.names) file
      each count file from to is_named =
          let is : count ≡ more = omega (arith, from, to) in
          keeps file (live l u start history k p st file (subst (λ (s : NameState). IsNamed s.paths file) (ap (names_after start history) is ∙ names_now l u start history k p st by) is_named))

  stays : NamesGoByChanges → NamesMayGoOn g → NamesStandOn g → StandsOn g l.blocks l.now l.now start history k.names more k.files k.files k.numbers (numbers_of p.names)
  stays by names stand = record {
    later = on.later;
    made = on.made;
    paths = on.paths;
    inodes = on.inodes;
    unheld = st.kept.here.stored.unheld;
    rises = on.rises;
    each = on.each;
    fresh = on.fresh;
  }
    where
      on : StandsOn g l.blocks l.now (with_one g (change number d []) l.now) start history k.names more k.files k.files k.numbers (numbers_of p.names)
      on = stand l.blocks l.now d [] number start history k.names more k.files k.numbers (numbers_of p.names) st.kept.here (go by names)

  kept : NamesGoByChanges → NamesMayGoOn g → NamesStandOn g → CommitsKeep g → IsLedgerKept l start history k2 k2
  kept by names stand commit = record {
    here = commit l.blocks l.now l.now start history k.names more k.files k.files k.numbers (numbers_of p.names) st.tree st.legal (stays by names stand) st.kept.here;
    there = λ other is. (let clash = sym none ∙ is in absurd cc);
  }

  -- ---- what is stored

  noted : AreNamesNoted l (numbers_of p.names) [] p2.names
  noted = record {
    committed = n.committed;
    steps = [];
    has = n.has;
    noted = refl;
    may = tt;
    dirs = dirs;
    kinds = record { dir = kinds.dir; file = kinds.file; free = kinds.free };
    sound = sound_zeroed g d (has []) sound;
    live = λ file is. inl (refl, λ inode at. refl);
    known = λ inode place block at. known_now inode block (subst (λ (xs : List Step). IsKnownBlock k.numbers p.names xs inode block) empty (n.known inode place block at));
  }
    where
      known_now : (inode block : ℕ) → IsKnownBlock k.numbers p.names [] inode block → IsKnownBlock (numbers_of p.names) p2.names [] inode block
      known_now inode block (inl on) = (let no = on in absurd cc)
      known_now inode block (inr (inl dir)) = inr (inl dir)
      known_now inode block (inr (inr file)) = by (keeps file.0 file.1)
        where
          by : KeepsInode [] k.numbers (numbers_of p.names) file.0 → IsKnownBlock (numbers_of p.names) p2.names [] inode block
          by (inl same) = inr (inr (file.0, file.1, same.0 ∙ file.2))
          by (inr new) = (let clash = sym new.0 ∙ file.2 in absurd cc)

  abbrev whole_at : ℕ → FileState → DurableState
  whole_at file s = whole_of (bytes_of (tree_after start history).bytes file) (durable_in p.commits s)

  stored : (file : ℕ) (s : FileState) → map.get p.files file ≡ Some s → IsFileStored l k.numbers (whole_at file s) → IsFileStored l (numbers_of p.names) (whole_at file s)
  stored file s here was = inl (ap (numbers_of p.names).inode is ∙ mine.1, by was)
    where
      is : s.file ≡ file
      is = (st.parts.files file s here).0

      mine : IsSome (map.get p.names.held file) × ((numbers_of p.names).inode file ≡ Some s.inode)
      mine = numbered l u start history k p st file s here

      by : IsFileStored l k.numbers (whole_at file s) → StandsFor l (whole_at file s)
      by (inl both) = both.1
      by (inr both) = (let clash = sym both.0 ∙ ap k.numbers.inode is ∙ same_inode file s.inode mine.0 mine.1 in absurd cc)

  has_it : (inode block : ℕ) → FileHasIt p k.numbers inode block → FileHasIt p2 (numbers_of p.names) inode block
  has_it inode block (file, owns, is) = (file, record { hand = owns.hand; here = owns.here; held = owns.held }, now)
    where
      mine : IsSome (map.get p.names.held file) × ((numbers_of p.names).inode file ≡ Some owns.hand.inode)
      mine = numbered l u start history k p st file owns.hand owns.here

      now : (numbers_of p.names).inode file ≡ Some inode
      now = mine.1 ∙ sym (same_inode file owns.hand.inode mine.0 mine.1) ∙ is

  held_now : (inode place block : ℕ) → HasBlock g l.now.catalog inode place block → NamesOwn p2 block ⊎ FileHasIt p2 (numbers_of p.names) inode block
  held_now inode place block at = by (st.spaced.held inode place block at)
    where
      by : NamesOwn p block ⊎ FileHasIt p k.numbers inode block → NamesOwn p2 block ⊎ FileHasIt p2 (numbers_of p.names) inode block
      by (inl (inl fresh_one)) = absurd (st.spaced.unheld inode place block fresh_one at)
      by (inl (inr rest)) = inl (inr rest)
      by (inr has_one) = inr (has_it inode block has_one)

  pub there_stored : NamesGoByChanges → NamesMayGoOn g → NamesStandOn g → CommitsKeep g → IsStored l u start history k2 p2
  there_stored by names stand commit = record {
    tree = st.tree;
    legal = st.legal;
    kept = kept by names stand commit;
    parts = record { names = part_committed p tree st.parts.names; files = st.parts.files; inodes = st.parts.inodes; here = st.parts.here };
    names = inr noted;
    counted = record { born = born_now l u start history k p st by; alone = alone_now l u start history k p st; made = st.counted.made };
    noted = st.noted;
    each = λ file s here. let w = st.each file s here in record { noted = w.noted; once = w.once; own = w.own; stored = stored file s here w.stored };
    spaced = record {
      apart = λ one other b a c. st.spaced.apart one other b (before p u one b a) (before p u other b c);
      usable = λ owner b off owns. st.spaced.usable owner b off (before p u owner b owns);
      fresh = λ b is. absurd (never b is);
      unheld = λ inode place b is at. never b is;
      held = held_now;
    };
  }

pub there : (g : Geometry) → NamesGoByChanges → NamesMayGoOn g → NamesStandOn g → CommitsKeep g → (s : StoreState) (start : PosixTree) (history : List Entry) (p : Parts) (known : Known) → geometry_of_store s ≡ g → p.names.tree.noted ≡ Some [] → IsNameTable p.names.tree
    → IsKeptGoing s start history p known → IsKeptGoing s start history (with_names_committed p) (with_names_known p.names (length (name_changes start history)) known)
there g by names stand commit s start history p known same none_noted table kept = record {
  going = record { ledger = kept.going.ledger; counts = all_named start history p.names kept.going.counts; has = kept.going.has; formed = kept.going.formed; stored = on kept.going.stored.names };
  covers = named_covers kept.going.ledger s.unassigned.free start history kept.going.counts p known kept.going.stored kept.covers by;
  numbered = λ file is live. has_inode p.names file live;
}
  where
    form : g ≡ geometry_of kept.going.ledger.superblock
    form = sym (kept.going.formed ∙ same)

    on : AreNamesStored kept.going.ledger kept.going.counts.numbers p.fresh p.names → IsStored kept.going.ledger s.unassigned.free start history (all_named start history p.names kept.going.counts) (with_names_committed p)
    on (inl off) = (let clash = sym off ∙ none_noted in absurd cc)
    on (inr n) = there_stored kept.going.ledger s.unassigned.free start history kept.going.counts p s.journal.number kept.going.stored n
        (no_steps (with_fresh p.fresh n.committed) n.steps (same_some _ [] (sym n.noted ∙ none_noted))) kept.going.has.by.none table kept.going.has.older
        by (subst NamesMayGoOn form names) (subst NamesStandOn form stand) (subst CommitsKeep form commit)
