-- In a legal history a file goes on with one name at most.
use Rattle.std.proofs.Common.{◌≡◌, ◌⊎◌, inl, inr, ℕ, zero, suc, ◌+◌, Bool, true, false, cond, ◌&&◌, not, List, [], ◌∷◌, ◌++◌, get_or, Option, Some, None, is_none, ap, sym, refl, ◌∙◌, subst, arith, bytes_eq}
use Rattle.std.specs.FinMap as map
use Rattle.ufs_model.specs.Paths.{whole_of}
use Rattle.ufs_model.specs.PosixTree.{PosixTree, Paths, IsTree}
use Rattle.ufs_model.specs.Walk.{node_at, file_of}
use Rattle.ufs_model.specs.Directories.{renamed, renamed_path}
use Rattle.ufs_model.specs.Descriptors.{Mode, mode_of_open}
use Rattle.ufs_model.specs.Posix.{change, open_node, forget, without_path, rename_path}
use Rattle.ufs_model.specs.Laws.{KeepsTrees}
use Rattle.ufs_model.specs.History.{IsLegalFrom, IsReplyTo, goes_on}
use Rattle.ufs_model.specs.declared.data.Entry.{Entry}
use Rattle.ufs_model.specs.declared.data.Node.{Node}
use Rattle.ufs_model.specs.declared.data.Node.TheVariants.{Dir, File}
use Rattle.ufs_model.specs.declared.data.Op.{Op}
use Rattle.ufs_model.specs.declared.data.Op.TheVariants as op
use Rattle.ufs_model.proofs.Facts.Orders.{path_total, path_same}
use Rattle.ufs_model.proofs.Facts.Lookups.{same_some, one_or_apart, inserted_here, inserted_else, left_was, rekeyed_from}
use Rattle.ufs_model.proofs.Facts.Live.{held_has}
use Rattle.ufs_crash_laws.specs.Steps.{is_served}
use Rattle.ufs_crash_laws.specs.Changes.{NameState, names_of, changes_names, name_changes, names_after}
use Rattle.ufs_crash_laws.proofs.Facts.Entries.{IsDone, Left, Went, done, names_forget, names_still}
use Rattle.ufs_crash_laws.proofs.Facts.Sessions.{tree_goes_on}
use Rattle.ufs_hand_laws.specs.Acknowledged.{IsNamedOnce}

-- ---- a path comes or goes

-- what stands now stood, or is what came
put_or_stood : (paths : Paths) (path : List ℕ) (w : Node) (q : List ℕ) (n : Node) → map.get (map.insert paths path w) q ≡ Some n → ((q ≡ path) × (w ≡ n)) ⊎ (map.get paths q ≡ Some n)
put_or_stood paths path w q n there = by (one_or_apart path_total path_same q path)
  where
    by : (q ≡ path) ⊎ (q ≡ path → ⊥) → ((q ≡ path) × (w ≡ n)) ⊎ (map.get paths q ≡ Some n)
    by (inl e) = inl (e, same_some w n (sym (inserted_here path_total path_same paths path w) ∙ sym (ap (map.get (map.insert paths path w)) e) ∙ there))
    by (inr not) = inr (sym (inserted_else path_total path_same paths path w q not) ∙ there)

-- no path names a file whose number is still to be given
next_unnamed : (t : PosixTree) → IsTree t → (p : List ℕ) → map.get t.paths p ≡ Some (File t.next) → ⊥
next_unnamed t tree p there = let below = tree.numbered t.next (held_has t tree t.next (inl (p, there))) in omega (arith, below)

module _ (paths : Paths) (once : IsNamedOnce paths) where
  once_dir : (path : List ℕ) → IsNamedOnce (map.insert paths path Dir)
  once_dir path p q f at at' = once p q f (stood p at) (stood q at')
    where
      by : (r : List ℕ) → ((r ≡ path) × (Dir ≡ File f)) ⊎ (map.get paths r ≡ Some (File f)) → map.get paths r ≡ Some (File f)
      by r (inl e) = let no = e.1 in cc
      by r (inr there) = there

      stood : (r : List ℕ) → map.get (map.insert paths path Dir) r ≡ Some (File f) → map.get paths r ≡ Some (File f)
      stood r there = by r (put_or_stood paths path Dir r (File f) there)

  once_file : (path : List ℕ) (g : ℕ) → ((p : List ℕ) → map.get paths p ≡ Some (File g) → ⊥) → IsNamedOnce (map.insert paths path (File g))
  once_file path g unnamed p q f at at' = by (put_or_stood paths path (File g) p (File f) at) (put_or_stood paths path (File g) q (File f) at')
    where
      other : (r : List ℕ) → File g ≡ File f → map.get paths r ≡ Some (File f) → ⊥
      other r e there = unnamed r (there ∙ ap Some (sym e))

      by : ((p ≡ path) × (File g ≡ File f)) ⊎ (map.get paths p ≡ Some (File f)) → ((q ≡ path) × (File g ≡ File f)) ⊎ (map.get paths q ≡ Some (File f)) → p ≡ q
      by (inl a) (inl b) = a.0 ∙ sym b.0
      by (inl a) (inr b) = absurd (other q a.1 b)
      by (inr a) (inl b) = absurd (other p b.1 a)
      by (inr a) (inr b) = once p q f a b

  once_gone : (path : List ℕ) → IsNamedOnce (map.remove paths path)
  once_gone path p q f at at' = once p q f (left_was path_total path_same paths path p (File f) at).1 (left_was path_total path_same paths path q (File f) at').1

  once_renamed : (from to : List ℕ) → IsNamedOnce (renamed paths from to)
  once_renamed from to p q f at at' =
      let a = rekeyed_from path_total path_same (renamed_path from to) (map.remove paths to) p (File f) at in
      let b = rekeyed_from path_total path_same (renamed_path from to) (map.remove paths to) q (File f) at' in
      a.2 ∙ ap (renamed_path from to) (once_gone to a.0 b.0 f a.1 b.1) ∙ sym b.2

-- ---- a request

forgotten_once : (t : PosixTree) (lost : Option ℕ) → IsNamedOnce t.paths → IsNamedOnce (forget t lost).paths
forgotten_once t lost = subst (λ (n : NameState). IsNamedOnce n.paths) (sym (names_forget t lost))

opened_once : (t : PosixTree) → IsTree t → IsNamedOnce t.paths → (client : ℕ) (whole : List ℕ) (m : Mode) (o : Option Node) → is_none o ≡ true → IsNamedOnce (open_node t client whole m o).paths
opened_once t is once client whole m None e = once_file t.paths once whole t.next (next_unnamed t is)
opened_once t is once client whole m (Some n) e = cc

gone_once : (t : PosixTree) → IsNamedOnce t.paths → (whole : List ℕ) → IsNamedOnce (without_path t whole).paths
gone_once t once whole = forgotten_once (record t { paths = map.remove t.paths whole }) (file_of (map.get t.paths whole)) (once_gone t.paths once whole)

moved_once : (t : PosixTree) → IsNamedOnce t.paths → (from to : List ℕ) → IsNamedOnce (rename_path t from to).paths
moved_once t once from to = by (bytes_eq from to)
  where
    by : (b : Bool) → IsNamedOnce (cond b t (forget (record t { paths = renamed t.paths from to }) (file_of (map.get t.paths to)))).paths
    by true = once
    by false = forgotten_once (record t { paths = renamed t.paths from to }) (file_of (map.get t.paths to)) (once_renamed t.paths once from to)

changed_once : (t : PosixTree) → IsTree t → IsNamedOnce t.paths → (client : ℕ) (request : Op) → changes_names t request ≡ true → IsNamedOnce (change t client request).paths
changed_once t is once client (op.OpenFile path read write creat excl trunc append) e = opened_once t is once client (whole_of path) (mode_of_open read write creat excl trunc append) (node_at t.paths path) e
changed_once t is once client (op.Mkdir path) e = once_dir t.paths once (whole_of path)
changed_once t is once client (op.Rmdir path) e = gone_once t once (whole_of path)
changed_once t is once client (op.Unlink path) e = gone_once t once (whole_of path)
changed_once t is once client (op.Rename from to) e = moved_once t once (whole_of from) (whole_of to)
changed_once t is once client (op.Close fd) e = cc
changed_once t is once client (op.Read fd n) e = cc
changed_once t is once client (op.Write fd data') e = cc
changed_once t is once client (op.Pread fd n at) e = cc
changed_once t is once client (op.Pwrite fd data' at) e = cc
changed_once t is once client (op.Seek fd from by) e = cc
changed_once t is once client (op.Trunc fd size) e = cc
changed_once t is once client (op.Fsync fd) e = cc
changed_once t is once client op.Sync e = cc
changed_once t is once client (op.Stat path) e = cc
changed_once t is once client (op.List path) e = cc

-- ---- a history

once_goes_on : (t : PosixTree) → IsTree t → IsNamedOnce t.paths → (e : Entry) → IsReplyTo t e → IsNamedOnce (goes_on t e).paths
once_goes_on t is once e legal = by (done t e legal)
  where
    on : (b : Bool) → changes_names t e.op ≡ b → goes_on t e ≡ change t e.client e.op → is_served e.reply ≡ true → IsNamedOnce (goes_on t e).paths
    on true changes goes served = subst (λ (u : PosixTree). IsNamedOnce u.paths) (sym goes) (changed_once t is once e.client e.op changes)
    on false changes goes served = subst (λ (n : NameState). IsNamedOnce n.paths) (sym (names_still t e legal (λ i. served i && changes i))) once

    by : IsDone t e → IsNamedOnce (goes_on t e).paths
    by (Left stays not_served) = subst (λ (u : PosixTree). IsNamedOnce u.paths) (sym stays) once
    by (Went passed goes served) = on (changes_names t e.op) refl goes served

-- the names after so many changes, where those of a tree stand before them
abbrev At : NameState → PosixTree → List Entry → ℕ → NameState
At d t history count = get_or (names_of t ∷ name_changes t history) count d

once_step : (t : PosixTree) → IsNamedOnce t.paths → (e : Entry) → IsReplyTo t e → (history : List Entry) (d : NameState) → ((n : ℕ) → IsNamedOnce (At d (goes_on t e) history n).paths) → (n : ℕ) → IsNamedOnce (At d t (e ∷ history) n).paths
once_step t once e legal history d rest = by (is_served e.reply && changes_names t e.op) refl
  where
    by : (b : Bool) → (is_served e.reply && changes_names t e.op) ≡ b → (n : ℕ) → IsNamedOnce (get_or (names_of t ∷ (cond b (names_of (goes_on t e) ∷ []) [] ++ name_changes (goes_on t e) history)) n d).paths
    by true is zero = once
    by true is (suc n) = rest n
    by false is n = subst (λ (x : NameState). IsNamedOnce (get_or (x ∷ name_changes (goes_on t e) history) n d).paths) (names_still t e legal is) (rest n)

once_at : KeepsTrees → (ticket : ℕ) (t : PosixTree) → IsTree t → IsNamedOnce t.paths → (history : List Entry) → IsLegalFrom ticket t history → (d : NameState) → IsNamedOnce d.paths → (n : ℕ) → IsNamedOnce (At d t history n).paths
once_at keeps ticket t is once [] legal d last zero = once
once_at keeps ticket t is once [] legal d last (suc n) = last
once_at keeps ticket t is once (e ∷ history) legal d last n =
    once_step t once e legal.0.replied history d (once_at keeps (ticket + 1) (goes_on t e) (tree_goes_on keeps t is e legal.0.replied) (once_goes_on t is once e legal.0.replied) history legal.1 d last) n

-- After any number of changes of names a file has one name at most.
pub names_once : KeepsTrees → (start : PosixTree) → IsTree start → IsNamedOnce start.paths → (history : List Entry) → IsLegalFrom 0 start history → (n : ℕ) → IsNamedOnce (names_after start history n).paths
names_once keeps start is once history legal = once_at keeps 0 start is once history legal (names_of start) once
