-- The conditions of what the store does are met by the trees of the disk's images.
use Rattle.std.proofs.Common.{◌≡◌, ◌≢◌, ◌≤◌, ◌⊎◌, inl, inr, ⊎_elim, ℕ, Bool, cond, eqb, eq-eqb, ne_eqb, List, ◌∷◌, length, Some, None, unwrap_or, ap, sym, refl, ◌∙◌, subst, arith}
use Rattle.std.specs.FinMap as map
use Rattle.std.specs.Prelude.{slice_index_or}
use Rattle.std.specs.Cmp.{nat_cmp_total}
use Rattle.std.specs.FinMap.{nat_cmp-IsAntisymmetric}
use native.Mathlib.Decide.{ℕ_discrete}
use Rattle.ufs_model.specs.PosixTree.{Paths}
use Rattle.ufs_model.specs.FileBytes.{bytes_of}
use Rattle.ufs_model.proofs.Facts.Lookups.{inserted_here, inserted_else}
use Rattle.ufs_model.specs.declared.data.Entry.{Entry}
use Rattle.ufs_crash_laws.specs.FileChanges.{all_changed}
use Rattle.ufs_crash_laws.specs.Changes.{NameState, names_of, changes_of, name_changes, names_after}
use Rattle.ufs_hand_laws.specs.Owned.{Has}
use Rattle.ufs_hand_laws.specs.Parts.{Cells, FilePart, NamesPart, StorePart, View, Start, committed}
use Rattle.ufs_model.specs.Start.{PathNodes}
use Rattle.ufs_hand_laws.specs.Events.{HadLent, NamesCommit, Failure, file_committed}
use Rattle.ufs_hand_laws.specs.Shown.{nodes_of, ShowsAtLeast, ShowsImages, SameTreesShow}
use Rattle.ufs_hand_laws.specs.Commits.{TreesGo, IsWrittenBack, AreFilesWrittenBack, IsFileWrittenBack, IsFileCommitted, AreNamesCommitted, TreesMayGo}
use Rattle.ufs_hand_laws.specs.Commits.{AreFresh}
use Rattle.ufs_hand_laws.specs.Meets.{IsFileWrittenBy, AreFilesWrittenBy, HaveTheirBytes, PassagesMay, CommitsFile, FileCommitsMay, CommitsNames, NameCommitsMay, MayHaveDone, Fails, FailuresMay, CheckpointsMay, NothingIsDone, NothingIsWritten, WritesAreDone, FileCommitsAreDone, NameCommitsAreDone}
use Rattle.ufs_hand_laws.proofs.Commits.{blocks_show, block_writes_show, commit_shows, file_commits_show, names_show, name_commits_show, any_names, fewer_changes, fewer_show, on_the_way}
use Rattle.ufs_hand_laws.specs.Visible.{IsDiskVisible}

-- ---- trees that stand so to one that shows the history show it too

module _ (k : Start) (h : List Entry) (g : ℕ) (x : FilePart) (s : StorePart) (paths : Paths) (told : s.paths ≡ Some paths) (made : committed s g ≤ length x.changes)
    (bytes : all_changed (bytes_of k.tree.bytes g) (changes_of g k.tree h) ≡ x.bytes) (is : changes_of g k.tree h ≡ x.changes) where
  abbrev raised : ℕ → ℕ
  raised f = cond (eqb f g) (length (changes_of g k.tree h)) (committed s f)

  raised_own : raised g ≡ length (changes_of g k.tree h)
  raised_own = ap (λ b. cond b (length (changes_of g k.tree h)) (committed s g)) (eq-eqb g g refl)

  raised_else : (f : ℕ) → f ≢ g → raised f ≡ committed s f
  raised_else f ne = ap (λ b. cond b (length (changes_of g k.tree h)) (committed s f)) (ne_eqb f g ne)

  rise : (f : ℕ) → Dec (f ≡ g) → committed s f ≤ raised f
  rise f (yes e) = subst (λ n. committed s n ≤ raised n) (sym e) (let a = raised_own in let b = ap length is in omega arith)
  rise f (no ne) = let a = raised_else f ne in omega arith

  committed_on_the_way : (before after : PathNodes) → IsFileCommitted paths g x.bytes before after → ShowsAtLeast k.tree h (committed s) s.names s.paths before → ShowsAtLeast k.tree h (committed s) s.names None after
  committed_on_the_way before after goes old =
      fewer_changes k.tree h (committed s) raised s.names s.names (Some paths) after (λ f. rise f (ℕ_discrete f g)) (omega arith)
      (commit_shows k.tree h (committed s) raised s.names paths before after g (record { own = raised_own; others = raised_else })
      (subst (λ b. IsFileCommitted paths g b before after) (sym bytes) goes) (subst (λ p. ShowsAtLeast k.tree h (committed s) s.names p before) told old))

named_on_the_way : (k : Start) (h : List Entry) (p : NamesPart) (s : StorePart) (paths : Paths) (fresh : ℕ → Bool) → s.paths ≡ Some paths → s.names ≤ length p.changes → AreFresh fresh k.tree (committed s)
    → (names_after k.tree h (length (name_changes k.tree h))).paths ≡ p.paths → name_changes k.tree h ≡ p.changes
    → (before after : PathNodes) → AreNamesCommitted fresh paths p.paths before after → ShowsAtLeast k.tree h (committed s) s.names s.paths before → ShowsAtLeast k.tree h (committed s) s.names None after
named_on_the_way k h p s paths fresh told made new last is before after goes old =
    let few : s.names ≤ length (name_changes k.tree h) = (let l = ap length is in omega arith) in
    fewer_changes k.tree h (committed s) (committed s) s.names (length (name_changes k.tree h)) (Some (names_after k.tree h (length (name_changes k.tree h))).paths) after (λ f. omega arith) few
    (names_show k.tree h (committed s) s.names fresh paths before after new few (subst (λ (q : Paths). AreNamesCommitted fresh paths q before after) (sym last) goes) (subst (λ q. ShowsAtLeast k.tree h (committed s) s.names q before) told old))

-- the same by a history that has the changes of what was lent
module _ (k : Start) (v : View) (s : StorePart) (paths : Paths) (told : s.paths ≡ Some paths) (bytes : HaveTheirBytes k v) (h : List Entry) (lent : (g : ℕ) (x : FilePart) → Has (g, x) v.files → Has (g, length x.changes) s.lent → changes_of g k.tree h ≡ x.changes) where
  now_is : (g : ℕ) (x : FilePart) → Has (g, x) v.files → Has (g, length x.changes) s.lent → all_changed (bytes_of k.tree.bytes g) (changes_of g k.tree h) ≡ x.bytes
  now_is g x held at = ap (all_changed (bytes_of k.tree.bytes g)) (lent g x held at) ∙ bytes g x held

  written_back : (before after : PathNodes) → AreFilesWrittenBy v s paths before after → AreFilesWrittenBack k.tree h paths before after
  written_back before after goes path = by (goes path)
    where
      by : (map.get after path ≡ map.get before path) ⊎ IsFileWrittenBy v s paths before after path → (map.get after path ≡ map.get before path) ⊎ IsFileWrittenBack k.tree h paths before after path
      by (inl same) = inl same
      by (inr w) = inr (record { file = w.file; named = w.named; old = w.old; was = w.was; new = w.new; is = w.is; back = subst (IsWrittenBack w.old w.new) (sym (now_is w.file w.part w.held w.lent)) w.back })

  written_on_the_way : (before after : PathNodes) → AreFilesWrittenBy v s paths before after → ShowsAtLeast k.tree h (committed s) s.names s.paths before → ShowsAtLeast k.tree h (committed s) s.names None after
  written_on_the_way before after goes old = any_names k.tree h (committed s) s.names (Some paths) after
      (blocks_show k.tree h (committed s) s.names paths before after (written_back before after goes) (subst (λ p. ShowsAtLeast k.tree h (committed s) s.names p before) told old))

module _ (k : Start) (tickets : ℕ) (v : View) (g : ℕ) (x : FilePart) (s : StorePart) (paths : Paths) (through : List Cells) (state : Cells) (c : CommitsFile k v g x s paths through state) where
  abbrev t : StorePart
  t = file_committed tickets g x through state s

  here : committed t g ≡ length x.changes
  here = ap (λ o. unwrap_or o 0) (inserted_here nat_cmp_total nat_cmp-IsAntisymmetric s.files g (length x.changes))

  else : (f : ℕ) → f ≢ g → committed t f ≡ committed s f
  else f ne = ap (λ o. unwrap_or o 0) (inserted_else nat_cmp_total nat_cmp-IsAntisymmetric s.files g (length x.changes) f ne)

  -- after the commit
  shows : IsDiskVisible k → (h : List Entry) → changes_of g k.tree h ≡ x.changes → ShowsImages k.tree h (committed s) s.names s.paths s.state → ShowsImages k.tree h (committed t) s.names (Some paths) state
  shows told h is old = file_commits_show k.tree h (committed s) (committed t) s.names paths s.state state g
      (record { own = here ∙ ap length (sym is); others = else })
      (subst (λ bytes. TreesGo (IsFileCommitted paths g bytes) s.state state) (sym (ap (all_changed (bytes_of k.tree.bytes g)) is ∙ c.bytes)) (c.trees told))
      (subst (λ p. ShowsImages k.tree h (committed s) s.names p s.state) c.told old)

  at_path : (h : List Entry) → changes_of g k.tree h ≡ x.changes → (before after : PathNodes) → IsFileCommitted paths g x.bytes before after → ShowsAtLeast k.tree h (committed s) s.names s.paths before → ShowsAtLeast k.tree h (committed s) s.names None after
  at_path h is = committed_on_the_way k h g x s paths c.told c.made (ap (all_changed (bytes_of k.tree.bytes g)) is ∙ c.bytes) is

  inside : IsDiskVisible k → (h : List Entry) → changes_of g k.tree h ≡ x.changes → ShowsImages k.tree h (committed s) s.names s.paths s.state → (d : Cells) → Has d through → ShowsImages k.tree h (committed s) s.names None d
  inside told h is old d at = on_the_way k.tree h (committed s) s.names s.paths (IsFileCommitted paths g x.bytes) s.state d (at_path h is) (c.between told d at) old

pub file_commits_may : FileCommitsMay
file_commits_may k tickets v g x s paths through state c = record {
  file = c.file;
  born = c.born;
  store = c.store;
  last = c.last;
  others = c.others;
  own = c.own;
  inside = λ told h lent old d at. inside k tickets v g x s paths through state c told h (lent (sym c.lent)) old d at;
  end = λ told h is old. subst (λ p. ShowsImages k.tree h (committed (file_committed tickets g x through state s)) s.names p state) (sym c.told) (shows k tickets v g x s paths through state c told h is old);
}

module _ (k : Start) (v : View) (p : NamesPart) (s : StorePart) (paths : Paths) (fresh : ℕ → Bool) (n : NamesCommit) (c : CommitsNames k v p s paths fresh n) where
  last_paths : (h : List Entry) → name_changes k.tree h ≡ p.changes → (names_after k.tree h (length (name_changes k.tree h))).paths ≡ p.paths
  last_paths h is = ap (λ (l : List NameState). (slice_index_or (names_of k.tree ∷ l) (length l) (names_of k.tree)).paths) is ∙ c.last_names

  names_shown : IsDiskVisible k → (h : List Entry) → name_changes k.tree h ≡ p.changes → ShowsImages k.tree h (committed s) s.names s.paths s.state → ShowsImages k.tree h (committed s) (length p.changes) (Some p.paths) n.state
  names_shown told h is old =
      subst (λ (q : ℕ × Paths). ShowsImages k.tree h (committed s) q.0 (Some q.1) n.state) (λ i. (length (is i), last_paths h is i))
      (name_commits_show k.tree h (committed s) s.names fresh paths s.state n.state c.new (let m = c.made in let l = ap length is in omega arith)
      (subst (λ (q : Paths). TreesGo (AreNamesCommitted fresh paths q) s.state n.state) (sym (last_paths h is)) (c.trees told))
      (subst (λ q. ShowsImages k.tree h (committed s) s.names q s.state) c.told old))

  names_inside : IsDiskVisible k → (h : List Entry) → name_changes k.tree h ≡ p.changes → ShowsImages k.tree h (committed s) s.names s.paths s.state → (d : Cells) → Has d n.through → ShowsImages k.tree h (committed s) s.names None d
  names_inside told h is old d at = on_the_way k.tree h (committed s) s.names s.paths (AreNamesCommitted fresh paths p.paths) s.state d (named_on_the_way k h p s paths fresh c.told c.made c.new (last_paths h is) is) (c.between told d at) old

pub name_commits_may : NameCommitsMay
name_commits_may k tickets v p s paths fresh n c = record {
  names = c.names;
  store = c.store;
  fewer = c.fewer;
  gone = c.gone;
  dirs = c.dirs;
  born = c.born;
  last = c.last;
  others = c.others;
  own = c.own;
  inside = λ told h lent old d at. names_inside k v p s paths fresh n c told h (lent c.lent) old d at;
  end = λ told h is old. names_shown k v p s paths fresh n c told h is old;
}

-- ---- a block is written, or a barrier passed

-- the same at each image
trees_go_by : (One Other : PathNodes → PathNodes → Type 0) (old new : Cells) → ((before after : PathNodes) → One before after → Other before after) → TreesGo One old new → TreesGo Other old new
trees_go_by One Other old new leads go image at = let g = go image at in (g.0, g.1, λ before opened. let n = g.2 before opened in (n.0, n.1, leads (nodes_of before) (nodes_of n.0) n.2))

pub passages_may : PassagesMay
passages_may k v s lent lent_names paths c p = record {
  store = p.store;
  lends = p.lends;
  last = p.last;
  others = p.others;
  own = p.own;
  inside = λ told h had old d at. on_the_way k.tree h (committed s) s.names s.paths (AreFilesWrittenBy v s paths) s.state d (written_on_the_way k v s paths p.told p.bytes h had.files) (p.between told d at) old;
  end = λ told h has old.
      subst (λ q. ShowsImages k.tree h (committed s) s.names q c.state) (sym p.told)
      (block_writes_show k.tree h (committed s) s.names paths s.state c.state
      (trees_go_by (AreFilesWrittenBy v s paths) (AreFilesWrittenBack k.tree h paths) s.state c.state (written_back k v s paths p.told p.bytes h (λ g x held at. has.files g x held)) (p.trees told))
      (subst (λ q. ShowsImages k.tree h (committed s) s.names q s.state) p.told old));
}

-- ---- what fails

module _ (k : Start) (v : View) (s : StorePart) (paths : Paths) (f : Failure) (is : Fails k v s paths f) (h : List Entry) (had : HadLent k v s h) where
  done_on_the_way : (before after : PathNodes) → MayHaveDone k v s paths before after → ShowsAtLeast k.tree h (committed s) s.names s.paths before → ShowsAtLeast k.tree h (committed s) s.names None after
  done_on_the_way before after (inl w) old = written_on_the_way k v s paths is.told is.bytes h had.files before after w old
  done_on_the_way before after (inr (inl c)) old =
      committed_on_the_way k h c.file c.part s paths is.told c.made (now_is k v s paths is.told is.bytes h had.files c.file c.part c.held c.lent) (had.files c.file c.part c.held c.lent) before after c.goes old
  done_on_the_way before after (inr (inr c)) old =
      let same = had.names c.part c.held c.lent in
      let last : (names_after k.tree h (length (name_changes k.tree h))).paths ≡ c.part.paths = ap (λ (l : List NameState). (slice_index_or (names_of k.tree ∷ l) (length l) (names_of k.tree)).paths) same ∙ c.last_names in
      named_on_the_way k h c.part s paths c.fresh is.told c.made c.new last same before after c.goes old

pub failures_may : FailuresMay
failures_may k v s paths f is = record {
  store = is.store;
  running = is.running;
  new = is.new;
  last = is.last;
  others = is.others;
  own = is.own;
  inside = λ told h had old d at. on_the_way k.tree h (committed s) s.names s.paths (MayHaveDone k v s paths) s.state d (done_on_the_way k v s paths f is h had) (is.between told d at) old;
}

-- ---- what a call may have done

may_go_by : (One Other : PathNodes → PathNodes → Type 0) (old new : Cells) → ((before after : PathNodes) → One before after → Other before after) → TreesMayGo One old new → TreesMayGo Other old new
may_go_by One Other old new leads go image at =
    let g = go image at in (g.0, g.1, ⊎_elim (λ same. inl same) (λ goes. inr (λ before opened. let n = goes before opened in (n.0, n.1, leads (nodes_of before) (nodes_of n.0) n.2))) g.2)

pub nothing_is_done : NothingIsDone
nothing_is_done k v s paths old new same image at = let g = same image at in (g.0, g.1, inl g.2)

pub nothing_is_written : NothingIsWritten
nothing_is_written v s paths old new same image at = let g = same image at in (g.0, g.1, λ before opened. (before, g.2 ∙ opened, λ path. inl refl))

pub writes_are_done : WritesAreDone
writes_are_done k v s paths old new go = may_go_by (AreFilesWrittenBy v s paths) (MayHaveDone k v s paths) old new (λ before after goes. inl goes) go

pub file_commits_are_done : FileCommitsAreDone
file_commits_are_done k v s paths file x old new held lent made go =
    may_go_by (IsFileCommitted paths file x.bytes) (MayHaveDone k v s paths) old new (λ before after goes. inr (inl (record { file = file; part = x; held = held; lent = lent; made = made; goes = goes }))) go

pub name_commits_are_done : NameCommitsAreDone
name_commits_are_done k v s paths fresh p old new held lent made last new_files go =
    may_go_by (AreNamesCommitted fresh paths p.paths) (MayHaveDone k v s paths) old new
    (λ before after goes. inr (inr (record { part = p; held = held; lent = lent; made = made; last_names = last; fresh = fresh; new = new_files; goes = goes }))) go

-- ---- a checkpoint

pub checkpoints_may : SameTreesShow → CheckpointsMay
checkpoints_may same k v p s c is = record {
  names = is.names;
  store = is.store;
  blocks = is.blocks;
  fewer = is.fewer;
  apart = is.apart;
  last = is.last;
  others = is.others;
  own = is.own;
  inside = λ told h had old d at. fewer_show k.tree h (committed s) (committed s) s.names s.names s.paths d (λ f. omega arith) (omega arith) (same k.tree h (committed s) s.names s.paths s.state d (is.between told d at) old);
  end = λ told h has old. same k.tree h (committed s) s.names s.paths s.state c.state (is.same told) old;
}
