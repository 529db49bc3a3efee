-- What a change of names leaves of the files.
use Rattle.std.proofs.Common.{◌≡◌, ◌≢◌, ℕ, ◌*◌, ◌/◌, ◌⊎◌, inl, inr, List, [], ◌∷◌, ◌++◌, Bool, true, false, Option, Some, None, length, ap, sym, refl, ◌∙◌, subst, arith}
use Rattle.std.specs.Prelude.{◌==◌, ◌||◌, if◌then◌else◌}
use Rattle.std.specs.List.{slice_get, list_any}
use Rattle.std.proofs.lemmas.Bool.Decides.{nat_tests}
use Rattle.ufs_disk.specs.Disk.{Cell}
use Rattle.ufs_layout.specs.InodeForm.{InodeForm, free_inode}
use Rattle.ufs_layout.specs.declared.inode.Extent.{Extent}
use Rattle.ufs_layout.specs.declared.geometry.Geometry.{Geometry}
use Rattle.ufs_layout.specs.declared.records.Committed.{Committed}
use Rattle.ufs_model.specs.PosixTree.{PosixTree}
use Rattle.ufs_model.specs.declared.data.Entry.{Entry}
use Rattle.ufs_image.specs.Fold.{is_in_range, after_delta}
use Rattle.ufs_image.specs.Nodes.{blocks_of}
use Rattle.ufs_image.specs.Catalog.{Catalog, IsInode, HasBlock}
use Rattle.ufs_image.specs.Folding.{with_form, with_record_in, with_valid_in, with_records_in, with_committed_in, is_newer_in}
use Rattle.ufs_image.proofs.Empty.{apart_false}
use Rattle.ufs_dir_tree.specs.DirTable.{blocks_at}
use Rattle.ufs_dir_tree.specs.Space.{extents_of}
use Rattle.ufs_ilog.specs.Deltas as log
use Rattle.ufs_ledger.specs.Ledger.{Stand, with_one, is_set_in, is_held}
use Rattle.ufs_ledger.specs.Kept.{Numbers, Shape, shape_of, IsStandKept}
use Rattle.ufs_ledger.specs.Laws.{StandsOn}
use Rattle.ufs_ledger.proofs.Held.{held_after}
use Rattle.ufs_dir_tree.specs.Steps.{DirState, Step, Born, Grown, Put, Freed, after, after_all}
use Rattle.ufs_name_tree.specs.Notes.{is_of, is_touched}
use Rattle.ufs_promise_laws.specs.Steps.{record_of, records_of}
use Rattle.ufs_promise_laws.specs.Held.{HasState, MayStep, MaySteps}
use Rattle.ufs_promise_laws.specs.ChangeLaws.{change, AreOlder}
use Rattle.ufs_promise_laws.specs.Files.{KeepsInode, MayGoOn}
use Rattle.ufs_promise_laws.proofs.Forms.{form_here, form_else}
use Rattle.ufs_promise_laws.proofs.Putting.{holds, is_dir}
use Rattle.ufs_promise_laws.proofs.RecordsTold.{ranged, newer, kept_none, told, told_all}

or_parts : (a b : Bool) → (a || b) ≡ false → (a ≡ false) × (b ≡ false)
or_parts true b e = let no = e in cc
or_parts false b e = (refl, e)

-- ---- the forms of other inodes

module _ (g : Geometry) (number : ℕ) (before : Catalog) where
  unlike : (i inode : ℕ) → (i == inode) ≡ false → inode ≢ i
  unlike i inode e same = let t : (i == inode) ≡ true = grind (arith, nat_tests, same) in let no = sym e ∙ t in cc

  if_same : (b : Bool) (c d : Catalog) (inode : ℕ) → c.forms inode ≡ d.forms inode → (if b then c else d).forms inode ≡ d.forms inode
  if_same true c d inode e = e
  if_same false c d inode e = refl

  stays : (c : Catalog) (s : DirState) (x : Step) (inode : ℕ) → is_of inode x ≡ false → (with_record_in number before (record_of s x) c).forms inode ≡ c.forms inode
  stays c s (Born i kind) inode off = if_same (is_newer_in number before i) (with_form i (after_delta (c.forms i) number kind 0 0 []) c) c inode (form_else c i (after_delta (c.forms i) number kind 0 0 []) inode (unlike i inode off))
  stays c s (Grown i block) inode off = if_same (is_newer_in number before i) _ c inode (form_else c i _ inode (unlike i inode off))
  stays c s (Put i slot d) inode off = refl
  stays c s (Freed i) inode off = if_same (is_newer_in number before i) (with_form i (free_inode number) c) c inode (form_else c i (free_inode number) inode (unlike i inode off))

  stays_valid : (c : Catalog) (s : DirState) (x : Step) (inode : ℕ) → is_of inode x ≡ false → (with_valid_in g number before (record_of s x) c).forms inode ≡ c.forms inode
  stays_valid c s x inode off = if_same (is_in_range g (record_of s x)) (with_record_in number before (record_of s x) c) c inode (stays c s x inode off)

  pub stays_all : (c : Catalog) (s : DirState) (xs : List Step) (inode : ℕ) → is_touched xs inode ≡ false → (with_records_in g number before (records_of s xs) c).forms inode ≡ c.forms inode
  stays_all c s [] inode off = refl
  stays_all c s (x ∷ xs) inode off =
      let parts = or_parts (is_of inode x) (is_touched xs inode) off in
      stays_all (with_valid_in g number before (record_of s x) c) (after x s) xs inode parts.1 ∙ stays_valid c s x inode parts.0

-- ---- born files

abbrev IsBare : InodeForm → Type 0
IsBare f = f.kind ≡ 1 → (f.extents ≡ []) × (f.size ≡ 0)

module _ (g : Geometry) (number : ℕ) (before : Catalog) (older : AreOlder g before number) where
  same_inode : (i inode : ℕ) → (i == inode) ≡ true → i ≡ inode
  same_inode i inode e = grind (arith, nat_tests, e)

  bare_at : (c : Catalog) (i inode : ℕ) (form : InodeForm) → i ≡ inode → IsBare form → IsBare ((with_form i form c).forms inode)
  bare_at c i inode form same is = subst (λ n. IsBare ((with_form i form c).forms n)) same (subst IsBare (sym (form_here c i form)) is)

  touched : (c : Catalog) (s : DirState) (x : Step) (inode : ℕ) → MayStep g s x → is_of inode x ≡ true → IsBare ((with_valid_in g number before (record_of s x) c).forms inode)
  touched c s (Born i kind) inode may is =
      let form = after_delta (c.forms i) number kind 0 0 [] in
      let catalog : with_valid_in g number before (record_of s (Born i kind)) c ≡ with_form i form c = λ n. if ranged g number before older i may.in_range n then (if newer g number before older i may.in_range n then with_form i form c else c) else c in
      subst (λ (d : Catalog). IsBare (d.forms inode)) (sym catalog) (bare_at c i inode form (same_inode i inode is) (λ file. (kept_none (c.forms i).extents [], refl)))
  touched c s (Grown i block) inode may is =
      let form = after_delta (c.forms i) number 2 (4096 * length (blocks_at s.table i ++ block ∷ [])) 0 (log.extents_of (extents_of (blocks_at s.table i ++ block ∷ []))) in
      let catalog : with_valid_in g number before (record_of s (Grown i block)) c ≡ with_form i form c = λ n. if ranged g number before older i may.in_range n then (if newer g number before older i may.in_range n then with_form i form c else c) else c in
      subst (λ (d : Catalog). IsBare (d.forms inode)) (sym catalog) (bare_at c i inode form (same_inode i inode is) (λ file. absurd (omega (arith, file))))
  touched c s (Put i slot d) inode may is = let no = is in cc
  touched c s (Freed i) inode may is =
      let catalog : with_valid_in g number before (record_of s (Freed i)) c ≡ with_form i (free_inode number) c = λ n. if ranged g number before older i may.in_range n then (if newer g number before older i may.in_range n then with_form i (free_inode number) c else c) else c in
      subst (λ (d : Catalog). IsBare (d.forms inode)) (sym catalog) (bare_at c i inode (free_inode number) (same_inode i inode is) (λ file. (refl, refl)))

  pub bare_all : (c : Catalog) (s : DirState) (xs : List Step) (inode : ℕ) → MaySteps g s xs → (is_touched xs inode ≡ true) ⊎ IsBare (c.forms inode) → IsBare ((with_records_in g number before (records_of s xs) c).forms inode)
  bare_all c s [] inode may (inl off) = absurd cc
  bare_all c s [] inode may (inr is) = is
  bare_all c s (x ∷ xs) inode may before' = bare_all (with_valid_in g number before (record_of s x) c) (after x s) xs inode may.1 (by (is_of inode x) refl before')
    where
      by : (b : Bool) → is_of inode x ≡ b → (is_touched (x ∷ xs) inode ≡ true) ⊎ IsBare (c.forms inode) → (is_touched xs inode ≡ true) ⊎ IsBare ((with_valid_in g number before (record_of s x) c).forms inode)
      by true e was = inr (touched c s x inode may.0 e)
      by false e (inl later) = inl (ap (λ b. b || is_touched xs inode) (sym e) ∙ later)
      by false e (inr is) = inr (subst IsBare (sym (stays_valid g number before c s x inode e)) is)

  -- ---- dentries

  unset : (c : Catalog) (s : DirState) (x : Step) (inode place block : ℕ) → HasState g c s → MayStep g s x → HasBlock g c inode place block → (c.forms inode).kind ≡ 1 → is_set_in block (record_of s x) ≡ false
  unset c s (Born i kind) inode place block has may at file = refl
  unset c s (Grown i b) inode place block has may at file = refl
  unset c s (Freed i) inode place block has may at file = refl
  unset c s (Put i slot d) inode place block has may at file = apart_false (slot.sector / 8) block other
    where
      other : slot.sector / 8 ≢ block
      other same =
          let one = (has.forms.blocks_once inode i place _ block at (subst (HasBlock g c i _) same (holds g c s has i slot d may))).0 in
          let kind = ap (λ k. (c.forms k).kind) one in
          let dir = is_dir g c s has i slot d may in
          omega (arith, kind, dir, file)

  pub unset_all : (c : Catalog) (s : DirState) (xs : List Step) (inode place block : ℕ) → HasState g c s → MaySteps g s xs → is_touched xs inode ≡ false → HasBlock g c inode place block → (c.forms inode).kind ≡ 1
      → list_any (is_set_in block) (records_of s xs) ≡ false
  unset_all c s [] inode place block has may off at file = refl
  unset_all c s (x ∷ xs) inode place block has may off at file =
      let parts = or_parts (is_of inode x) (is_touched xs inode) off in
      let next : Catalog = with_valid_in g number before (record_of s x) c in
      let same : next.forms inode ≡ c.forms inode = stays_valid g number before c s x inode parts.0 in
      ap (λ b. b || list_any (is_set_in block) (records_of (after x s) xs)) (unset c s x inode place block has may.0 at file)
      ∙ unset_all next (after x s) xs inode place block (told g number before older c s x has may.0) may.1 parts.1
      (record { in_range = at.in_range; there = ap (λ (f : InodeForm). slice_get (blocks_of f) place) same ∙ at.there }) (ap (λ (f : InodeForm). f.kind) same ∙ file)

-- ---- how the disk stands on

module _ (g : Geometry) (blocks : ℕ → Cell) (s : Stand) (d : DirState) (xs : List Step) (number : ℕ) (start : PosixTree) (history : List Entry) (names more : ℕ) (files : ℕ → ℕ) (n m : Numbers)
    (kept : IsStandKept g blocks s start history names files n) (go : MayGoOn g s d xs number start history names more n m) where
  abbrev c : Catalog
  c = s.catalog

  abbrev txn : Committed
  txn = change number d xs

  abbrev next : Catalog
  next = with_committed_in g (change number d xs) s.catalog

  led : HasState g next (after_all xs d)
  led = told_all g number c go.older c d xs go.state go.steps

  inodes : (file inode : ℕ) → m.inode file ≡ Some inode → IsInode g inode × ((next.forms inode).kind ≡ 1)
  inodes file inode at = let is = go.inodes file inode at in (is.0, led.kinds inode is.0 ∙ is.1)

  bare : (inode : ℕ) → is_touched xs inode ≡ true → (next.forms inode).kind ≡ 1 → ((next.forms inode).extents ≡ []) × ((next.forms inode).size ≡ 0)
  bare inode on = bare_all g number c go.older c d xs inode go.steps (inl on)

  same : (inode : ℕ) → is_touched xs inode ≡ false → next.forms inode ≡ c.forms inode
  same inode off = stays_all g number c c d xs inode off

  unheld : (inode place block : ℕ) → HasBlock g next inode place block → (next.forms inode).kind ≡ 1 → is_held (s.log ++ txn ∷ []) block ≡ false
  unheld inode place block at file = by (is_touched xs inode) refl
    where
      by : (b : Bool) → is_touched xs inode ≡ b → is_held (s.log ++ txn ∷ []) block ≡ false
      by true on =
          let nothing : slice_get (blocks_of (record { kind = 1; extents = []; size = 0; number = 0 })) place ≡ Some block =
          ap (λ (es : List Extent). slice_get (blocks_of (record { kind = 1; extents = es; size = 0; number = 0 })) place) (sym (bare inode on file).0) ∙ at.there in
          absurd cc
      by false off =
          let was : HasBlock g c inode place block = record { in_range = at.in_range; there = ap (λ (f : InodeForm). slice_get (blocks_of f) place) (sym (same inode off)) ∙ at.there } in
          let kind : (c.forms inode).kind ≡ 1 = ap (λ (f : InodeForm). f.kind) (sym (same inode off)) ∙ file in
          held_after s.log txn block (kept.stored.unheld inode place block was kind) (unset_all g number c go.older c d xs inode place block go.state go.steps off was kind)

  -- ---- what the files have

  stays_shape : (o : Option ℕ) → ((inode : ℕ) → o ≡ Some inode → is_touched xs inode ≡ false) → shape_of next o ≡ shape_of c o
  stays_shape None off = refl
  stays_shape (Some inode) off = ap (λ (f : InodeForm). record { size = f.size; holds = blocks_of f }) (same inode (off inode refl))

  abbrev nothing : Shape
  nothing = record { size = 0; holds = [] }

  no_shape : (o : Option ℕ) → ((inode : ℕ) → o ≡ Some inode → (is_touched xs inode ≡ true) × ((next.forms inode).kind ≡ 1)) → shape_of next o ≡ nothing
  no_shape None on = refl
  no_shape (Some inode) on =
      let is = on inode refl in let none = bare inode is.0 is.1 in
      λ k. record { size = none.1 k; holds = blocks_of (record { kind = 1; extents = none.0 k; size = 0; number = 0 }) }

  shape : (file : ℕ) → KeepsInode xs n m file → shape_of next (m.inode file) ≡ shape_of c (n.inode file)
  shape file (inl a) = ap (shape_of next) a.0 ∙ stays_shape (n.inode file) a.1
  shape file (inr a) = no_shape (m.inode file) (λ inode at. (a.1 inode at, (inodes file inode at).1)) ∙ sym (ap (shape_of c) a.0)

  pub stands_on : StandsOn g blocks s (with_one g (change number d xs) s) start history names more files files n m
  stands_on = record {
    later = go.later;
    made = go.made;
    paths = go.paths;
    inodes = inodes;
    unheld = unheld;
    rises = λ file. omega arith;
    each = λ count file from to named. inl (refl, shape file (go.each count file from to named));
    fresh = λ file above. ((kept.stored.fresh file above).0, go.fresh file above);
  }
