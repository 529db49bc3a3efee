-- A disk goes on showing the history while blocks are written, and files and names are committed.
use Rattle.std.proofs.Common.{◌≡◌, ◌≢◌, ◌≤◌, ℕ, ◌⊎◌, inl, inr, ⊎_elim, Bool, true, false, cond, eqb, eq-eqb, ne_eqb, List, [], length, Option, Some, None, ap, sym, refl, ◌∙◌, subst, arith}
use Rattle.std.specs.FinMap as map
use native.Mathlib.Decide.{dec_le, ℕ_discrete}
use Rattle.std.proofs.lemmas.Bool.{leb-true}
use Rattle.ufs_model.specs.PosixTree.{PosixTree, Paths}
use Rattle.ufs_model.specs.FileBytes.{bytes_of}
use Rattle.ufs_model.specs.Start.{PathNodes}
use Rattle.ufs_model.specs.declared.data.Entry.{Entry}
use Rattle.ufs_model.specs.declared.data.Node.{Node}
use Rattle.ufs_model.specs.declared.data.Node.TheVariants.{Dir, File}
use Rattle.ufs_model.specs.declared.data.PathNode.{PathNode}
use Rattle.ufs_model.specs.declared.data.PathNode.TheVariants as path_node
use Rattle.ufs_crash_laws.specs.FileChanges.{IsShown}
use Rattle.ufs_crash_laws.specs.Changes.{changes_of, name_changes, names_after}
use Rattle.ufs_crash_laws.specs.Explained.{IsNodeWith, IsFileShown}
use Rattle.ufs_crash_laws.proofs.Facts.Contents.{unborn_empty}
use Rattle.ufs_crash_laws.proofs.Facts.Sessions.{next_names}
use Rattle.ufs_crash_laws.proofs.Facts.Shows.{shown_now, shown_written_back}
use Rattle.ufs_crash_laws.proofs.Facts.Explains.{tree_weaker, committed_file, written_back}
use Rattle.ufs_hand_laws.specs.Parts.{Cells}
use Rattle.ufs_hand_laws.specs.Shown.{nodes_of, ShowsAtLeast, ShowsImages}
use Rattle.ufs_hand_laws.specs.Commits.{bytes_now, IsWrittenBack, AreFilesWrittenBack, IsFileWrittenBack, BlockWritesShow, IsFileCommitted, IsOneMore, FileCommitsShow, IsKeptFile, AreNamesCommitted, AreFresh, NameCommitsShow, UnbornAreFresh, FewerShow, TreesMayGo}

some_paths : (p q : Paths) → Some p ≡ Some q → p ≡ q
some_paths p q e = cc

none_paths : (p : Paths) → None ≡ Some p → ⊥
none_paths p e = cc

-- ---- blocks are written

module _ (start : PosixTree) (history : List Entry) (files : ℕ → ℕ) (names : ℕ) (paths : Paths) (before after : PathNodes) where
  pub blocks_show : AreFilesWrittenBack start history paths before after → ShowsAtLeast start history files names (Some paths) before → ShowsAtLeast start history files names (Some paths) after
  blocks_show back s = record {
    shown_names = s.shown_names;
    shown_files = s.shown_files;
    most_names = s.most_names;
    most_files = s.most_files;
    shown = written_back start history s.shown_names s.shown_files before after (λ path. at path (back path)) s.shown;
    placed = s.placed;
  }
    where
      same_file : (path : List ℕ) (f g : ℕ) → map.get paths path ≡ Some (File f) → map.get (names_after start history s.shown_names).paths path ≡ Some (File g) → f ≡ g
      same_file path f g a b = let e : Some (File f) ≡ Some (File g) = sym a ∙ ap (λ (p : Paths). map.get p path) (sym (s.placed paths refl)) ∙ b in cc

      at : (path : List ℕ) → (map.get after path ≡ map.get before path) ⊎ IsFileWrittenBack start history paths before after path
          → (map.get after path ≡ map.get before path) ⊎ ((x : List ℕ) × (y : List ℕ) × (map.get before path ≡ Some (path_node.File x)) × (map.get after path ≡ Some (path_node.File y))
          × ((file : ℕ) → map.get (names_after start history s.shown_names).paths path ≡ Some (File file) → IsFileShown start history s.shown_files file x → IsFileShown start history s.shown_files file y))
      at path (inl same) = inl same
      at path (inr w) = inr (
        w.old,
        w.new,
        w.was,
        w.is,
        λ file named shown.
            let e = same_file path w.file file w.named named in
            shown_written_back (bytes_of start.bytes file) (changes_of file start history) (s.shown_files file) w.old w.new shown w.back.size
            (subst (λ (n : ℕ). IsWrittenBack w.old w.new (bytes_now start history n)) e w.back).each,
      )

pub block_writes_show : BlockWritesShow
block_writes_show start history files names paths old new go shows image at =
    let g = go image at in
    let o = shows g.0 g.1 in
    let n = g.2 o.0 o.1 in (n.0, n.1, blocks_show start history files names paths (nodes_of o.0) (nodes_of n.0) n.2 o.2)

-- ---- a file is committed

module _ (start : PosixTree) (history : List Entry) (files more : ℕ → ℕ) (names : ℕ) (paths : Paths) (before after : PathNodes) (file : ℕ) (one : IsOneMore files more file (length (changes_of file start history)))
    (c : IsFileCommitted paths file (bytes_now start history file) before after) (s : ShowsAtLeast start history files names (Some paths) before) where
  abbrev now : ℕ → ℕ
  now f = cond (eqb f file) (length (changes_of file start history)) (s.shown_files f)

  now_own : now file ≡ length (changes_of file start history)
  now_own = ap (λ b. cond b (length (changes_of file start history)) (s.shown_files file)) (eq-eqb file file refl)

  now_else : (f : ℕ) → f ≢ file → now f ≡ s.shown_files f
  now_else f ne = ap (λ b. cond b (length (changes_of file start history)) (s.shown_files f)) (ne_eqb f file ne)

  most : (f : ℕ) → Dec (f ≡ file) → more f ≤ now f
  most f (yes e) = subst (λ n. more n ≤ now n) (sym e) (let a = one.own in let b = now_own in omega arith)
  most f (no ne) = let a = one.others f ne in let b = now_else f ne in let l = s.most_files f in omega arith

  others : (f : ℕ) → Dec (f ≡ file) → (f ≡ file) ⊎ (s.shown_files f ≡ now f)
  others f (yes e) = inl e
  others f (no ne) = inr (sym (now_else f ne))

  shown_paths : (names_after start history s.shown_names).paths ≡ paths
  shown_paths = s.placed paths refl

  elsewhere : (path : List ℕ) (o : Option Node) → map.get paths path ≡ o → (map.get after path ≡ map.get before path) ⊎ (map.get paths path ≡ Some (File file))
  elsewhere path None e = inl (c.elsewhere path (λ a. let z : None ≡ Some (File file) = sym e ∙ a in cc))
  elsewhere path (Some Dir) e = inl (c.elsewhere path (λ a. let z : Some Dir ≡ Some (File file) = sym e ∙ a in cc))
  elsewhere path (Some (File f)) e = by (ℕ_discrete f file)
    where
      by : Dec (f ≡ file) → (map.get after path ≡ map.get before path) ⊎ (map.get paths path ≡ Some (File file))
      by (yes s') = inr (e ∙ ap (λ n. Some (File n)) s')
      by (no ne) = inl (c.elsewhere path (λ a. ne (let z : Some (File f) ≡ Some (File file) = sym e ∙ a in cc)))

  pub commit_shows : ShowsAtLeast start history more names (Some paths) after
  commit_shows = record {
    shown_names = s.shown_names;
    shown_files = now;
    most_names = s.most_names;
    most_files = λ f. most f (ℕ_discrete f file);
    shown = committed_file start history s.shown_names s.shown_files now file before after (λ f. others f (ℕ_discrete f file))
        (λ path. subst (λ (p : Paths). (map.get after path ≡ map.get before path) ⊎ (map.get p path ≡ Some (File file))) (sym shown_paths) (elsewhere path (map.get paths path) refl))
        (λ path named. (
          bytes_now start history file,
          c.here path (ap (λ (p : Paths). map.get p path) (sym shown_paths) ∙ named),
          subst (λ n. IsShown (bytes_of start.bytes file) (changes_of file start history) n (bytes_now start history file)) (sym now_own) (shown_now (bytes_of start.bytes file) (changes_of file start history)),
        ))
        s.shown;
    placed = s.placed;
  }

pub file_commits_show : FileCommitsShow
file_commits_show start history files more names paths old new file one go shows image at =
    let g = go image at in
    let o = shows g.0 g.1 in
    let n = g.2 o.0 o.1 in (n.0, n.1, commit_shows start history files more names paths (nodes_of o.0) (nodes_of n.0) file one n.2 o.2)

-- ---- names are committed

-- what stands in a file's place has what it may have
file_has : (Has : ℕ → List ℕ → Type 0) (o : Option Node) (p : Option PathNode) (file : ℕ) (bytes : List ℕ) → o ≡ Some (File file) → p ≡ Some (path_node.File bytes) → IsNodeWith Has o p → Has file bytes
file_has Has o p file bytes e f h = subst (λ (x : Option Node × Option PathNode). IsNodeWith Has x.0 x.1) (λ i. (e i, f i)) h

module _ (start : PosixTree) (history : List Entry) (files : ℕ → ℕ) (names : ℕ) (fresh : ℕ → Bool) (paths : Paths) (before after : PathNodes) (new : AreFresh fresh start files)
    (few : names ≤ length (name_changes start history))
    (c : AreNamesCommitted fresh paths (names_after start history (length (name_changes start history))).paths before after) (s : ShowsAtLeast start history files names (Some paths) before) where
  abbrev then : ℕ → ℕ
  then f = cond (fresh f) 0 (s.shown_files f)

  most_then : (f : ℕ) (b : Bool) → fresh f ≡ b → files f ≤ cond b 0 (s.shown_files f)
  most_then f true e = let z = (new f e).0 in omega arith
  most_then f false e = s.most_files f

  kept : (f : ℕ) (bytes : List ℕ) → fresh f ≡ false → IsKeptFile paths before f bytes → IsFileShown start history then f bytes
  kept f bytes old k =
      subst (λ b. IsShown (bytes_of start.bytes f) (changes_of f start history) (cond b 0 (s.shown_files f)) bytes) (sym old)
      (file_has (IsFileShown start history s.shown_files) (map.get (names_after start history s.shown_names).paths k.path) (map.get before k.path) f bytes (ap (λ (p : Paths). map.get p k.path) (s.placed paths refl) ∙ k.named) k.there
      (s.shown.shown k.path))

  nothing : (f : ℕ) → bytes_of start.bytes f ≡ [] → IsShown (bytes_of start.bytes f) (changes_of f start history) 0 []
  nothing f none = subst (λ (opening : List ℕ). IsShown opening (changes_of f start history) 0 []) (sym none) (record { made = omega arith; size = refl; each = λ place below. absurd (omega arith) })

  made : (f : ℕ) (bytes : List ℕ) → fresh f ≡ true → bytes ≡ [] → IsFileShown start history then f bytes
  made f bytes is none = subst (λ (x : Bool × List ℕ). IsShown (bytes_of start.bytes f) (changes_of f start history) (cond x.0 0 (s.shown_files f)) x.1) (λ i. (sym is i, sym none i)) (nothing f (new f is).1)

  pub names_show : ShowsAtLeast start history files (length (name_changes start history)) (Some (names_after start history (length (name_changes start history))).paths) after
  names_show = record {
    shown_names = length (name_changes start history);
    shown_files = then;
    most_names = omega arith;
    most_files = λ f. most_then f (fresh f) refl;
    shown = record {
      made = omega arith;
      shown = tree_weaker _ (IsFileShown start history then) (names_after start history (length (name_changes start history))).paths after
          (λ path f bytes at there has. by f bytes has) c;
    };
    placed = λ p is. some_paths _ p is;
  }
    where
      by : (f : ℕ) (bytes : List ℕ) → ((fresh f ≡ false) × IsKeptFile paths before f bytes) ⊎ ((fresh f ≡ true) × (bytes ≡ [])) → IsFileShown start history then f bytes
      by f bytes (inl k) = kept f bytes k.0 k.1
      by f bytes (inr n) = made f bytes n.0 n.1

pub name_commits_show : NameCommitsShow
name_commits_show start history files names fresh paths old new are few go shows image at =
    let g = go image at in
    let o = shows g.0 g.1 in
    let n = g.2 o.0 o.1 in (n.0, n.1, names_show start history files names fresh paths (nodes_of o.0) (nodes_of n.0) are few n.2 o.2)

pub unborn_are_fresh : UnbornAreFresh
unborn_are_fresh start history files names is legal made born file unborn = (none (dec_le 1 (files file)), unborn_empty start is file (omega (arith, high, rise)))
  where
    high : (names_after start history names).next ≤ file
    high = leb-true (names_after start history names).next file unborn

    rise : start.next ≤ (names_after start history names).next
    rise = next_names start history legal.entries 0 names (omega arith) made

    none : Dec (1 ≤ files file) → files file ≡ 0
    none (yes more) = let b = born file more in absurd (omega (arith, b, high))
    none (no not) = omega arith

-- ---- on the way

-- the same with whatever names
pub any_names : (start : PosixTree) (history : List Entry) (files : ℕ → ℕ) (names : ℕ) (paths : Option Paths) (tree : PathNodes) → ShowsAtLeast start history files names paths tree → ShowsAtLeast start history files names None tree
any_names start history files names paths tree s = record {
  shown_names = s.shown_names;
  shown_files = s.shown_files;
  most_names = s.most_names;
  most_files = s.most_files;
  shown = s.shown;
  placed = λ p is. absurd (none_paths p is);
}

-- and fewer changes
pub fewer_changes : (start : PosixTree) (history : List Entry) (files more : ℕ → ℕ) (names last : ℕ) (paths : Option Paths) (tree : PathNodes) → ((file : ℕ) → files file ≤ more file) → names ≤ last
    → ShowsAtLeast start history more last paths tree → ShowsAtLeast start history files names None tree
fewer_changes start history files more names last paths tree few low s = record {
  shown_names = s.shown_names;
  shown_files = s.shown_files;
  most_names = let a = s.most_names in omega arith;
  most_files = λ f. let a = few f in let b = s.most_files f in omega arith;
  shown = s.shown;
  placed = λ p is. absurd (none_paths p is);
}

pub fewer_show : FewerShow
fewer_show start history files more names last paths cells few low shows image at = let o = shows image at in (o.0, o.1, fewer_changes start history files more names last paths (nodes_of o.0) few low o.2)

-- each image on the way opens as one from before does, or to a tree that stands so to its tree
pub on_the_way : (start : PosixTree) (history : List Entry) (files : ℕ → ℕ) (names : ℕ) (paths : Option Paths) (Goes : PathNodes → PathNodes → Type 0) (old cells : Cells)
    → ((before after : PathNodes) → Goes before after → ShowsAtLeast start history files names paths before → ShowsAtLeast start history files names None after)
    → TreesMayGo Goes old cells → ShowsImages start history files names paths old → ShowsImages start history files names None cells
on_the_way start history files names paths Goes old cells leads go shows image at =
    let g = go image at in
    let o = shows g.0 g.1 in
    ⊎_elim (λ same. (o.0, same ∙ o.1, any_names start history files names paths (nodes_of o.0) o.2))
    (λ goes. let n = goes o.0 o.1 in (n.0, n.1, leads (nodes_of o.0) (nodes_of n.0) n.2 o.2)) g.2
