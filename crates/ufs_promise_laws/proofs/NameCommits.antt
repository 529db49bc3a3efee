-- The names are committed.
use Rattle.std.proofs.Common.{◌≡◌, ◌≢◌, ℕ, ◌<◌, ◌≤◌, ◌^◌, ◌⊎◌, inl, inr, Bool, true, false, not, List, [], Some, None, length, ap, sym, refl, ◌∙◌, subst, arith}
use Rattle.std.specs.Prelude.{IsSome, IsTrue, ◌==◌, if◌then◌else◌}
use Rattle.std.specs.List.{list_any, slice_get}
use Rattle.std.specs.FinMap as map
use Rattle.std.proofs.lemmas.Bool.Decides.{nat_tests}
use Rattle.ufs_bitmap.specs.Blocks.{BlockSet}
use Rattle.ufs_bitmap.specs.Taking.{has}
use Rattle.ufs_dir_tree.specs.DirTable.{DirTable, blocks_at}
use Rattle.ufs_disk.specs.Disk.{possible}
use Rattle.ufs_extent.specs.Runs as runs
use Rattle.ufs_file.specs.Content.{own_bytes}
use Rattle.ufs_file.specs.Hand.{FileState}
use Rattle.ufs_image.specs.Catalog.{Catalog, HasBlock, IsDirBlock, IsInode}
use Rattle.ufs_image.specs.Changes.{IsTakenBlock}
use Rattle.ufs_image.specs.Folding.{with_committed_in}
use Rattle.ufs_image.specs.Nodes.{blocks_of}
use Rattle.ufs_image.proofs.Empty.{apart_false}
use Rattle.ufs_layout.specs.InodeForm.{InodeForm}
use Rattle.ufs_layout.specs.Superblock.{geometry_of}
use Rattle.ufs_layout.specs.declared.geometry.Geometry.{Geometry}
use Rattle.ufs_layout.specs.declared.inode.Extent.{Extent}
use Rattle.ufs_layout.specs.declared.records.Committed.{Committed}
use Rattle.ufs_ledger.specs.Changes.{MayCommit, committed_one, settled}
use Rattle.ufs_ledger.specs.Kept.{Counts, IsLedgerKept}
use Rattle.ufs_ledger.specs.Laws.{GoesOnBy, SettledIsKept}
use Rattle.ufs_ledger.specs.Ledger.{CoversDirs, IsDataBlock, Ledger, is_held, is_set_in}
use Rattle.ufs_ledger.proofs.Held.{held_after}
use Rattle.ufs_model.specs.FileBytes.{bytes_of}
use Rattle.ufs_model.specs.History.{tree_after}
use Rattle.ufs_model.specs.PosixTree.{PosixTree}
use Rattle.ufs_model.specs.declared.data.Entry.{Entry}
use Rattle.ufs_model.proofs.Facts.Lookups.{from_some}
use Rattle.ufs_promise_laws.specs.Files.{BornAreEmpty, KeepsInode, MayGoOn, NamesStandOn, OthersStay}
use Rattle.ufs_promise_laws.specs.Held.{HasState}
use Rattle.ufs_promise_laws.specs.ChangeLaws.{AreOlder, StepsAreNoted, StepsMayCommit, change}
use Rattle.ufs_dir_tree.specs.Steps.{DirState, Step, after_all}
use Rattle.ufs_promise_laws.proofs.Covers.{covers_table}
use Rattle.ufs_promise_laws.proofs.Forms.{form_here}
use Rattle.ufs_name_tree.specs.NameTable.{IsNameTable, file_at}
use Rattle.ufs_name_tree.specs.Notes.{is_touched}
use Rattle.ufs_names.specs.declared.holding.Holding.{Holding}
use Rattle.ufs_promise_laws.specs.Going.{NamesMayGoOn}
use Rattle.ufs_promise_laws.specs.PathNumbers.{numbers_of}
use Rattle.ufs_crash_laws.specs.Changes.{NameState, name_changes, names_after}
use Rattle.ufs_crash_laws.specs.Laws.{NamesGoByChanges}
use Rattle.ufs_crash_laws.specs.Stored.{IsNamed}
use Rattle.ufs_file_commits.specs.Committing.{HasOwnBlocks}
use Rattle.ufs_file_commits.specs.Standing.{HaveOnly, IsFileBlock, StandsFor}
use Rattle.ufs_file_commits.specs.State.{DurableState, whole_of}
use Rattle.ufs_file_commits.proofs.Standing.{settled_has}
use Rattle.ufs_file_commits.proofs.Served.{has_at}
use Rattle.ufs_promise_laws.specs.Parts.{NamesOwn, OneFile, Owner, Owns, Parts, TheNames, durable_in}
use Rattle.ufs_promise_laws.specs.Stored.{AreNamesNoted, FileHasIt, IsFileStored, IsKnownBlock, IsSpelled, IsStored, empty_form, with_born, with_fresh}
use Rattle.ufs_promise_laws.specs.Laws.{all_named, with_names_committed}
use Rattle.ufs_promise_laws.proofs.Numbered.{alone_now, born_now, live, names_now, numbered}
use Rattle.ufs_promise_laws.proofs.Places.{held_at}
use Rattle.ufs_promise_laws.proofs.Unfresh.{before, never, part_committed, sound_zeroed}
use Rattle.ufs_promise_laws.proofs.Steps.{bare_after, others, unset_in}

not_false : (b : Bool) → b ≡ false → not b ≡ true
not_false b e = ap not e

module _ (l : Ledger) (u : BlockSet) (start : PosixTree) (history : List Entry) (k : Counts) (p : Parts) (number : ℕ) (st : IsStored l u start history k p) (n : AreNamesNoted l k.numbers p.fresh p.names)
    (none : l.maybe ≡ None) (table : IsNameTable p.names.tree) (ready : (block : ℕ) → has p.fresh block ≡ true → IsSpelled l block) (older : AreOlder (geometry_of l.superblock) l.now.catalog number) where
  abbrev g : Geometry
  g = geometry_of l.superblock

  abbrev c : Catalog
  c = l.now.catalog

  abbrev d : DirState
  d = with_fresh p.fresh n.committed

  abbrev xs : List Step
  xs = n.steps

  abbrev t : Committed
  t = change number d xs

  abbrev c2 : Catalog
  c2 = with_committed_in g t c

  abbrev tree : PosixTree
  tree = tree_after start history

  abbrev more : ℕ
  more = length (name_changes start history)

  abbrev k2 : Counts
  k2 = all_named start history p.names k

  state : HasState g c d
  state = record {
    forms = n.has.forms;
    table = n.has.table;
    kinds = n.has.kinds;
    sized = n.has.sized;
    zeroed = λ b is. let r = ready b is in record { from = r.data_block.from; under = r.data_block.under; slots = r.slots; unheld = λ i place at. st.spaced.unheld i place b is at };
  }

  pub may_commit : StepsMayCommit g → CoversDirs g l.now → number < 2 ^ 64 → MayCommit g t l.now
  may_commit may covers fits = may l.now d xs number state covers (λ b is. (ready b is).spelled) older fits n.may n.sound

  -- ---- the names

  go : NamesGoByChanges → NamesMayGoOn g → MayGoOn g l.now d xs number start history k.names more k.numbers (numbers_of p.names)
  go by names = names l.now d xs number start history k.names more k.numbers p.names tree state older n.may n.sound
      (record { dirs = n.dirs; sound = table; part = st.parts.names; files = n.kinds.file })
      (record { made = omega arith; paths = ap (λ (s : NameState). s.paths) (sym (names_now l u start history k p st by)); next = omega arith })
      st.kept.here.stored.made each
    where
      each : (count file : ℕ) → more ≤ count → count ≤ length (name_changes start history) → IsNamed (names_after start history count).paths file → KeepsInode xs k.numbers (numbers_of p.names) file
      each count file from to named =
          let is : count ≡ more = omega (arith, from, to) in
          n.live file (live l u start history k p st file (subst (λ (s : NameState). IsNamed s.paths file) (ap (names_after start history) is ∙ names_now l u start history k p st by) named))

  pub goes_on_by : NamesGoByChanges → NamesMayGoOn g → NamesStandOn g → SettledIsKept g → GoesOnBy g l t start history k k2
  goes_on_by by names stand settle = stand (settled l).blocks l.now d xs number start history k.names more k.files k.numbers (numbers_of p.names) (settle l start history k k refl none st.kept).here (go by names)

  module _ (told : StepsAreNoted g) (stay : OthersStay g) (born : BornAreEmpty g) where
    abbrev m : Ledger
    m = committed_one t l

    abbrev p2 : Parts
    p2 = with_names_committed p

    led : HasState g c2 (after_all xs d)
    led = told c d xs number state older n.may

    -- ---- blocks

    -- no dentry is set in a block that isn't the names'
    outside : (b : ℕ) → (NamesOwn p b → ⊥) → ((inode place : ℕ) → HasBlock g c inode place b → (c.forms inode).kind ≡ 2 → ⊥) → list_any (is_set_in b) t.records ≡ false
    outside b not_names no_dir = unset_in g number c older b c d xs state n.may (covers_table g (others g number c older b) c d state dirs zeroed)
      where
        dirs : (k : ℕ) → IsDirBlock g c k → IsTrue (not (k == b))
        dirs k is = not_false (k == b) (apart_false k b (λ same. no_dir is.inode is.place (subst (HasBlock g c is.inode is.place) same is.has) is.dir))

        zeroed : (k : ℕ) → has p.fresh k ≡ true → IsTrue (not (k == b))
        zeroed k is = not_false (k == b) (apart_false k b (λ same. not_names (inl (ap (has p.fresh) (sym same) ∙ is))))

    owned_outside : (owner : Owner) (b : ℕ) → owner ≢ TheNames → Owns p u owner b → list_any (is_set_in b) t.records ≡ false
    owned_outside owner b off owns = outside b not_names no_dir
      where
        not_names : NamesOwn p b → ⊥
        not_names is = off (st.spaced.apart owner TheNames b owns is)

        no_dir : (inode place : ℕ) → HasBlock g c inode place b → (c.forms inode).kind ≡ 2 → ⊥
        no_dir inode place at dir = by (st.spaced.held inode place b at)
          where
            by : NamesOwn p b ⊎ FileHasIt p k.numbers inode b → ⊥
            by (inl names) = not_names names
            by (inr file) = (let is = (st.kept.here.stored.inodes file.0 inode file.2).1 in omega (arith, is, dir))

    file_block : (owner : Owner) (b : ℕ) → owner ≢ TheNames → Owns p u owner b → IsFileBlock l b → IsFileBlock m b
    file_block owner b off owns was = record { data_block = was.data_block; no_dir = was.no_dir; unheld = held_after l.now.log t b was.unheld (owned_outside owner b off owns) }

    -- ---- files

    has_it : (inode b : ℕ) → FileHasIt p k.numbers inode b → FileHasIt p2 (numbers_of p.names) inode b
    has_it inode b file = by (n.live file.0 (numbered l u start history k p st file.0 file.1.hand file.1.here).0)
      where
        by : KeepsInode xs k.numbers (numbers_of p.names) file.0 → FileHasIt p2 (numbers_of p.names) inode b
        by (inl same) = (file.0, record { hand = file.1.hand; here = file.1.here; held = file.1.held }, same.0 ∙ file.2)
        by (inr new) = (let clash = sym new.0 ∙ file.2 in absurd cc)

    bare : (inode : ℕ) → is_touched xs inode ≡ true → ((c2.forms inode).kind ≡ 2 → ⊥) → (c2.forms inode).extents ≡ []
    bare inode on = bare_after g number c older c d xs inode n.may (inl on)

    nothing_at : (es : List Extent) (kind size number place b : ℕ) → es ≡ [] → slice_get (blocks_of (record { kind = kind; extents = es; size = size; number = number })) place ≡ Some b → ⊥
    nothing_at es kind size number place b e at =
        let gone : slice_get (blocks_of (record { kind = kind; extents = []; size = size; number = number })) place ≡ Some b = ap (λ (x : List Extent). slice_get (blocks_of (record { kind = kind; extents = x; size = size; number = number })) place) (sym e) ∙ at in
        cc

    in_table : (inode place b : ℕ) → HasBlock g c2 inode place b → (c2.forms inode).kind ≡ 2 → has (blocks_at p.names.tree.dirs inode) b ≡ true
    in_table inode place b at dir =
        let blocks : blocks_at p.names.tree.dirs inode ≡ blocks_of (c2.forms inode) =
        ap (λ (x : DirTable). blocks_at x inode) (sym n.dirs) ∙ led.table.blocks inode at.in_range ∙ ap (λ (v : Bool). if v then blocks_of (c2.forms inode) else []) (ap (λ v. v == 2) dir) in
        has_at (blocks_at p.names.tree.dirs inode) place b (ap (λ (x : List ℕ). slice_get x place) blocks ∙ at.there)

    is_dir_block : (inode place b : ℕ) → HasBlock g c2 inode place b → (c2.forms inode).kind ≡ 2 → NamesOwn p2 b
    is_dir_block inode place b at dir = inr (inr (inode, in_table inode place b at dir))

    held_now : (inode place b : ℕ) → HasBlock g c2 inode place b → NamesOwn p2 b ⊎ FileHasIt p2 (numbers_of p.names) inode b
    held_now inode place b at = by (is_touched xs inode) refl
      where
        old : NamesOwn p b ⊎ FileHasIt p k.numbers inode b → HasBlock g c inode place b → NamesOwn p2 b ⊎ FileHasIt p2 (numbers_of p.names) inode b
        old (inl (inl fresh)) was = absurd (st.spaced.unheld inode place b fresh was)
        old (inl (inr rest)) was = inl (inr rest)
        old (inr file) was = inr (has_it inode b file)

        kinds : (v : Bool) → ((c2.forms inode).kind == 2) ≡ v → is_touched xs inode ≡ true → NamesOwn p2 b ⊎ FileHasIt p2 (numbers_of p.names) inode b
        kinds true e on = inl (is_dir_block inode place b at (grind (arith, nat_tests, e)))
        kinds false e on =
            let form = c2.forms inode in
            absurd (nothing_at form.extents form.kind form.size form.number place b (bare inode on (λ dir. let clash = sym e ∙ ap (λ v. v == 2) dir in cc)) at.there)

        by : (v : Bool) → is_touched xs inode ≡ v → NamesOwn p2 b ⊎ FileHasIt p2 (numbers_of p.names) inode b
        by true on = kinds ((c2.forms inode).kind == 2) refl on
        by false off =
            let same = stay c d xs number inode off in
            let was : HasBlock g c inode place b = record { in_range = at.in_range; there = ap (λ (f : InodeForm). slice_get (blocks_of f) place) (sym same) ∙ at.there } in
            old (st.spaced.held inode place b was) was

    -- ---- each file

    abbrev whole_at : ℕ → FileState → DurableState
    whole_at file s = whole_of (bytes_of (tree_after start history).bytes file) (durable_in p.commits s)

    stands : (a : Ledger) (s : FileState) (file : ℕ) → map.get p.files file ≡ Some s → a.superblock ≡ l.superblock → a.now.log ≡ l.now.log → a.now.dirs ≡ l.now.dirs → a.blocks ≡ l.blocks
        → ((c2.forms s.inode).kind ≡ 1) → ((c2.forms s.inode).size ≡ (a.now.catalog.forms s.inode).size) → ((c2.forms s.inode).extents ≡ (a.now.catalog.forms s.inode).extents)
        → StandsFor a (whole_at file s) → StandsFor m (whole_at file s)
    stands a s file here superblock log dirs cells kind size extents stood = record {
      in_range = subst (λ h. IsInode (geometry_of h) s.inode) superblock stood.in_range;
      kind = kind;
      size = size ∙ stood.size;
      extents = extents ∙ stood.extents;
      blocks = λ place b at.
          let was = stood.blocks place b at in
          file_block (OneFile file) b (λ e. cc) (record { hand = s; here = here; held = held_at (durable_in p.commits s) place b at })
          (record { data_block = subst (λ h. IsDataBlock (geometry_of h) b) superblock was.data_block; no_dir = subst (λ (x : ℕ → Bool). IsTrue (x b) → ⊥) dirs was.no_dir; unheld = subst (λ x. is_held x b ≡ false) log was.unheld });
      clean = λ place b at off. settled_has (l.blocks b) (own_bytes (bytes_of (tree_after start history).bytes file) place) (subst (λ x. HaveOnly (possible (x b)) (own_bytes (bytes_of (tree_after start history).bytes file) place)) cells (stood.clean place b at off));
    }

    stored : (file : ℕ) (s : FileState) → map.get p.files file ≡ Some s → IsFileStored l k.numbers (whole_at file s) → IsFileStored m (numbers_of p.names) (whole_at file s)
    stored file s here was = inl (ap (numbers_of p.names).inode is ∙ (numbered l u start history k p st file s here).1, by (subst (KeepsInode xs k.numbers (numbers_of p.names)) (sym is) (n.live file (numbered l u start history k p st file s here).0)) was)
      where
        is : s.file ≡ file
        is = (st.parts.files file s here).0

        mine : (numbers_of p.names).inode s.file ≡ Some s.inode
        mine = ap (numbers_of p.names).inode is ∙ (numbered l u start history k p st file s here).1

        kind_now : IsInode g s.inode → (c2.forms s.inode).kind ≡ 1
        kind_now inside = led.kinds s.inode inside ∙ n.kinds.file s.inode file (at_inode (from_some (map.get p.names.held file) (numbered l u start history k p st file s here).0))
          where
            at_inode : (h : Holding) × (map.get p.names.held file ≡ Some h) → file_at p.names.tree s.inode ≡ Some file
            at_inode (h, at) = ap (file_at p.names.tree) (st.parts.inodes file s h here at) ∙ st.parts.names.inodes.inode file h at

        by : KeepsInode xs k.numbers (numbers_of p.names) s.file → IsFileStored l k.numbers (whole_at file s) → StandsFor m (whole_at file s)
        by (inl same) (inl both) =
            let form = stay c d xs number s.inode (same.1 s.inode both.0) in
            stands l s file here refl refl refl refl (kind_now both.1.in_range) (ap (λ (f : InodeForm). f.size) form) (ap (λ (f : InodeForm). f.extents) form) both.1
        by (inl same) (inr both) = (let clash = sym both.0 ∙ sym same.0 ∙ mine in absurd cc)
        by (inr new) (inl both) = (let clash = sym new.0 ∙ both.0 in absurd cc)
        by (inr new) (inr both) =
            let bare = born c d xs number s.inode older n.may (new.1 s.inode mine) (kind_now both.1.in_range) in
            let here_form = form_here c s.inode empty_form in
            stands (with_born s.inode l) s file here refl refl refl refl (kind_now both.1.in_range) (bare.1 ∙ sym (ap (λ (f : InodeForm). f.size) here_form)) (bare.0 ∙ sym (ap (λ (f : InodeForm). f.extents) here_form)) both.1

    own : (file : ℕ) (s : FileState) → map.get p.files file ≡ Some s → HasOwnBlocks l (whole_at file s) → IsFileStored l k.numbers (whole_at file s) → HasOwnBlocks m (whole_at file s)
    own file s here was is place b at = by (was place b at)
      where
        owns : Owns p u (OneFile file) b
        owns = record { hand = s; here = here; held = held_at (durable_in p.commits s) place b at }

        by : (slice_get (runs.blocks_of (durable_in p.commits s).log.committed.runs) place ≡ Some b) ⊎ (IsTakenBlock g c b → ⊥) → (slice_get (runs.blocks_of (durable_in p.commits s).log.committed.runs) place ≡ Some b) ⊎ (IsTakenBlock g c2 b → ⊥)
        by (inl there) = inl there
        by (inr free) = inr taken
          where
            taken : IsTakenBlock g c2 b → ⊥
            taken (inl below) = free (inl below)
            taken (inr (inode, q, at)) = touch (is_touched xs inode) refl
              where
                touch : (v : Bool) → is_touched xs inode ≡ v → ⊥
                touch false off = free (inr (inode, q, record { in_range = at.in_range; there = ap (λ (f : InodeForm). slice_get (blocks_of f) q) (sym (stay c d xs number inode off)) ∙ at.there }))
                touch true on = kinds ((c2.forms inode).kind == 2) refl
                  where
                    kinds : (v : Bool) → ((c2.forms inode).kind == 2) ≡ v → ⊥
                    kinds true e =
                        let dir : (c2.forms inode).kind ≡ 2 = grind (arith, nat_tests, e) in
                        (let clash = st.spaced.apart (OneFile file) TheNames b owns (before p u TheNames b (is_dir_block inode q b at dir)) in cc)
                    kinds false e =
                        let form = c2.forms inode in
                        nothing_at form.extents form.kind form.size form.number q b (bare inode on (λ dir. let clash = sym e ∙ ap (λ v. v == 2) dir in cc)) at.there

    -- ---- the whole

    noted_anew : AreNamesNoted m (numbers_of p.names) [] p2.names
    noted_anew = record {
      committed = after_all xs d;
      steps = [];
      has = record { forms = led.forms; table = led.table; kinds = led.kinds; sized = led.sized; zeroed = λ b is. (let off = is in absurd cc) };
      noted = refl;
      may = tt;
      dirs = n.dirs;
      kinds = record { dir = n.kinds.dir; file = n.kinds.file; free = n.kinds.free };
      sound = sound_zeroed g (after_all xs d) (has []) n.sound;
      live = λ file is. inl (refl, λ inode at. refl);
      known = known_now;
    }
      where
        known_now : (inode place b : ℕ) → HasBlock (geometry_of m.superblock) m.now.catalog inode place b → IsKnownBlock (numbers_of p.names) p2.names [] inode b
        known_now inode place b at = by (is_touched xs inode) refl
          where
            kinds : (v : Bool) → ((c2.forms inode).kind == 2) ≡ v → is_touched xs inode ≡ true → IsKnownBlock (numbers_of p.names) p2.names [] inode b
            kinds true e on = inr (inl (in_table inode place b at (grind (arith, nat_tests, e))))
            kinds false e on =
                let form = c2.forms inode in
                absurd (nothing_at form.extents form.kind form.size form.number place b (bare inode on (λ dir. let clash = sym e ∙ ap (λ v. v == 2) dir in cc)) at.there)

            file : (f : ℕ) → IsSome (map.get p.names.held f) → k.numbers.inode f ≡ Some inode → KeepsInode xs k.numbers (numbers_of p.names) f → IsKnownBlock (numbers_of p.names) p2.names [] inode b
            file f live number (inl same) = inr (inr (f, live, same.0 ∙ number))
            file f live number (inr new) = (let clash = sym new.0 ∙ number in absurd cc)

            old : is_touched xs inode ≡ false → IsKnownBlock k.numbers p.names xs inode b → IsKnownBlock (numbers_of p.names) p2.names [] inode b
            old off (inl on) = (let clash = sym on ∙ off in absurd cc)
            old off (inr (inl dir)) = inr (inl dir)
            old off (inr (inr of)) = file of.0 of.1 of.2 (n.live of.0 of.1)

            by : (v : Bool) → is_touched xs inode ≡ v → IsKnownBlock (numbers_of p.names) p2.names [] inode b
            by true on = kinds ((c2.forms inode).kind == 2) refl on
            by false off = old off (n.known inode place b (record { in_range = at.in_range; there = ap (λ (f : InodeForm). slice_get (blocks_of f) place) (sym (stay c d xs number inode off)) ∙ at.there }))

    pub committed_stored : NamesGoByChanges → IsLedgerKept m start history k2 k2 → IsStored m u start history k2 p2
    committed_stored by kept = record {
      tree = st.tree;
      legal = st.legal;
      kept = kept;
      parts = record { names = part_committed p tree st.parts.names; files = st.parts.files; inodes = st.parts.inodes; here = st.parts.here };
      names = inr noted_anew;
      counted = record { born = born_now l u start history k p st by; alone = alone_now l u start history k p st; made = st.counted.made };
      noted = st.noted;
      each = λ file s here. let w = st.each file s here in record { noted = w.noted; once = w.once; own = own file s here w.own w.stored; stored = stored file s here w.stored };
      spaced = record {
        apart = λ one other b a c. st.spaced.apart one other b (before p u one b a) (before p u other b c);
        usable = λ owner b off owns. file_block owner b off (before p u owner b owns) (st.spaced.usable owner b off (before p u owner b owns));
        fresh = λ b is. absurd (never b is);
        unheld = λ inode place b is at. never b is;
        held = held_now;
      };
    }
