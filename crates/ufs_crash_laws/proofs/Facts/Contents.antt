-- The bytes of a file go on by its changes.
use Rattle.std.proofs.Common.{◌≡◌, ◌≤◌, ℕ, ◌+◌, ◌⊎◌, inl, inr, Bool, true, false, cond, eqb, ◌&&◌, List, [], ◌∷◌, length, Option, Some, None, is_some, unwrap_or, ap, sym, refl, ◌∙◌, subst, arith, bytes_eq}
use Rattle.std.specs.Cmp.{nat_cmp_total}
use Rattle.std.specs.FinMap as map
use Rattle.std.specs.FinMap.{nat_cmp-IsAntisymmetric}
use Rattle.std.proofs.lemmas.Bool.{ne_eqb}
use Rattle.ufs_model.specs.Paths.{whole_of}
use Rattle.ufs_model.specs.PosixTree.{PosixTree, Files, IsTree, desc_at, is_number, is_live}
use Rattle.ufs_model.specs.Walk.{node_at, file_of}
use Rattle.ufs_model.specs.Directories.{renamed}
use Rattle.ufs_model.specs.Descriptors.{Mode, opened, closed, with_offset, desc_of, mode_of_open}
use Rattle.ufs_model.specs.FileBytes.{bytes_of, content, put_at, resized, place_of}
use Rattle.ufs_model.specs.Posix.{change, with_fd, with_bytes, forget, open_node, written, write_fd, rename_path, new_fd, file_bytes}
use Rattle.ufs_model.specs.History.{IsReplyTo, goes_on}
use Rattle.ufs_model.proofs.Facts.Live.{HasBytes, held_has, is_itself, number_is}
use Rattle.ufs_model.proofs.Facts.Lookups.{same_some, one_or_apart, inserted_here, inserted_else, left_was, from_some}
use Rattle.ufs_model.specs.declared.data.Desc.{Desc}
use Rattle.ufs_model.specs.declared.data.Entry.{Entry}
use Rattle.ufs_model.specs.declared.data.Node.{Node}
use Rattle.ufs_model.specs.declared.data.Node.TheVariants.{Dir, File}
use Rattle.ufs_model.specs.declared.data.Op.{Op}
use Rattle.ufs_model.specs.declared.data.Op.TheVariants as op
use Rattle.ufs_crash_laws.specs.FileChanges.{all_changed}
use Rattle.ufs_crash_laws.specs.Steps.{is_served}
use Rattle.ufs_crash_laws.specs.Changes.{file_changed, written_at, change_asked, change_of}
use Rattle.ufs_crash_laws.proofs.Facts.Entries.{IsDone, Left, Went, done}
use Rattle.ufs_crash_laws.specs.declared.data.FileChange.{FileChange}
use Rattle.ufs_crash_laws.specs.declared.data.FileChange.TheVariants as change'

no_bytes : (m : Files) (f : ℕ) → (HasBytes m f → ⊥) → bytes_of m f ≡ []
no_bytes m f not = by (map.get m f) refl
  where
    by : (o : Option (List ℕ)) → map.get m f ≡ o → unwrap_or (map.get m f) [] ≡ []
    by None e = ap (λ o. unwrap_or o []) e
    by (Some v) e = absurd (not (ap is_some e))

-- a file that isn't made yet has no bytes
pub unborn_empty : (t : PosixTree) → IsTree t → (f : ℕ) → t.next ≤ f → bytes_of t.bytes f ≡ []
unborn_empty t is f unborn = no_bytes t.bytes f (λ h. let below = is.numbered f h in omega (arith, below))

-- ---- the file that a request may change is there

pub opened_live : (t : PosixTree) → IsTree t → (client fd f : ℕ) → (opened t client fd).file ≡ Some f → HasBytes t.bytes f
opened_live t is client fd f e = by (desc_at t client fd) refl
  where
    by : (o : Option Desc) → desc_at t client fd ≡ o → HasBytes t.bytes f
    by None h = let none : (unwrap_or (desc_at t client fd) closed).file ≡ None = ap (λ o. (unwrap_or o closed).file) h in cc
    by (Some d) h = held_has t is f (inr ((client, fd), d, h, sym (ap (λ o. (unwrap_or o closed).file) h) ∙ e))

node_live : (t : PosixTree) → IsTree t → (path : List ℕ) (f : ℕ) → file_of (node_at t.paths path) ≡ Some f → HasBytes t.bytes f
node_live t is path f e = by (node_at t.paths path) refl e
  where
    by : (o : Option Node) → node_at t.paths path ≡ o → file_of o ≡ Some f → HasBytes t.bytes f
    by None h e = cc
    by (Some Dir) h e = cc
    by (Some (File g)) h e = held_has t is f (inl (whole_of path, h ∙ ap (λ f. Some (File f)) (same_some g f e)))

pub changed_live : (t : PosixTree) → IsTree t → (client : ℕ) (request : Op) (f : ℕ) → file_changed t client request ≡ Some f → HasBytes t.bytes f
changed_live t is client (op.OpenFile path read write creat excl trunc append) f e = node_live t is path f e
changed_live t is client (op.Close fd) f e = cc
changed_live t is client (op.Read fd n) f e = cc
changed_live t is client (op.Write fd data') f e = opened_live t is client fd f e
changed_live t is client (op.Pread fd n at) f e = cc
changed_live t is client (op.Pwrite fd data' at) f e = opened_live t is client fd f e
changed_live t is client (op.Seek fd from by) f e = cc
changed_live t is client (op.Trunc fd size) f e = opened_live t is client fd f e
changed_live t is client (op.Fsync fd) f e = cc
changed_live t is client op.Sync f e = cc
changed_live t is client (op.Mkdir path) f e = cc
changed_live t is client (op.Rmdir path) f e = cc
changed_live t is client (op.Unlink path) f e = cc
changed_live t is client (op.Rename from to) f e = cc
changed_live t is client (op.Stat path) f e = cc
changed_live t is client (op.List path) f e = cc

-- A file that isn't made yet has no changes.
pub unborn_still : (t : PosixTree) → IsTree t → (entry : Entry) (f : ℕ) → t.next ≤ f → change_of f (record { before = t; entry = entry }) ≡ []
unborn_still t is entry f unborn = by (is_served entry.reply) (is_number f (file_changed t entry.client entry.op)) refl
  where
    by : (a b : Bool) → is_number f (file_changed t entry.client entry.op) ≡ b → cond (a && b) (change_asked t entry.client entry.op) [] ≡ []
    by false b e = refl
    by true false e = refl
    by true true e = let below = is.numbered f (changed_live t is entry.client entry.op f (number_is f _ e)) in absurd (omega (arith, below, unborn))

-- ---- bytes go on by changes

-- What has bytes afterwards had them, or is the new file; and they go on by these changes.
abbrev GoesOn : PosixTree → ℕ → Files → List FileChange → Type 0
GoesOn t f after changes = HasBytes after f → (HasBytes t.bytes f ⊎ (f ≡ t.next)) × (bytes_of after f ≡ all_changed (bytes_of t.bytes f) changes)

module _ (t : PosixTree) (f : ℕ) where
  stay : GoesOn t f t.bytes []
  stay h = (inl h, refl)

  -- a file leaves
  gone : (u : PosixTree) (o : Option ℕ) → GoesOn t f u.bytes [] → GoesOn t f (forget u o).bytes []
  gone u None goes = goes
  gone u (Some g) goes = by (is_live u.paths u.fds g)
    where
      at : HasBytes (map.remove u.bytes g) f → (HasBytes t.bytes f ⊎ (f ≡ t.next)) × (bytes_of (map.remove u.bytes g) f ≡ bytes_of t.bytes f)
      at h =
          let some = from_some (map.get (map.remove u.bytes g) f) h in
          let was = left_was nat_cmp_total nat_cmp-IsAntisymmetric u.bytes g f some.0 some.1 in
          let same : map.get (map.remove u.bytes g) f ≡ map.get u.bytes f = some.1 ∙ sym was.1 in
          let before = goes (ap is_some was.1) in
          (before.0, ap (λ o. unwrap_or o []) same ∙ before.1)

      by : (b : Bool) → GoesOn t f (cond b u (record u { bytes = map.remove u.bytes g })).bytes []
      by true = goes
      by false = at

  -- a file's bytes become others
  put_bytes : (o : Option ℕ) (v : List ℕ) (changes : List FileChange) → ((g : ℕ) → o ≡ Some g → HasBytes t.bytes g) → v ≡ all_changed (content t.bytes o) changes
      → GoesOn t f (with_bytes t o v).bytes (cond (is_number f o) changes [])
  put_bytes None v changes live is h = stay h
  put_bytes (Some g) v changes live is h = by (one_or_apart nat_cmp_total nat_cmp-IsAntisymmetric f g)
    where
      by : (f ≡ g) ⊎ (f ≡ g → ⊥) → (HasBytes t.bytes f ⊎ (f ≡ t.next)) × (bytes_of (map.insert t.bytes g v) f ≡ all_changed (bytes_of t.bytes f) (cond (eqb g f) changes []))
      by (inl e) = (
        inl (subst (HasBytes t.bytes) (sym e) (live g refl)),
        ap (λ k. bytes_of (map.insert t.bytes g v) k) e ∙ ap (λ o. unwrap_or o []) (inserted_here nat_cmp_total nat_cmp-IsAntisymmetric t.bytes g v)
            ∙ is ∙ ap (λ k. all_changed (bytes_of t.bytes k) changes) (sym e) ∙ ap (λ b. all_changed (bytes_of t.bytes f) (cond b changes [])) (sym (ap (eqb g) e ∙ is_itself g)),
      )
      by (inr not) =
          let same : map.get (map.insert t.bytes g v) f ≡ map.get t.bytes f = inserted_else nat_cmp_total nat_cmp-IsAntisymmetric t.bytes g v f not in (
            inl (sym (ap is_some same) ∙ h),
            ap (λ o. unwrap_or o []) same ∙ ap (λ b. all_changed (bytes_of t.bytes f) (cond b changes [])) (sym (ne_eqb g f (λ e. not (sym e)))),
          )

  -- bytes are written
  put_written : (o : Option ℕ) (at : ℕ) (data' : List ℕ) → ((g : ℕ) → o ≡ Some g → HasBytes t.bytes g) → GoesOn t f (written t o at data').bytes (cond (is_number f o) (written_at at data') [])
  put_written o at data' live = by (eqb (length data') 0)
    where
      none : (b : Bool) → all_changed (bytes_of t.bytes f) (cond b [] []) ≡ bytes_of t.bytes f
      none true = refl
      none false = refl

      by : (b : Bool) → GoesOn t f (cond b t (with_bytes t o (put_at (content t.bytes o) at data'))).bytes (cond (is_number f o) (cond b [] (change'.Written at data' ∷ [])) [])
      by true h = (inl h, sym (none (is_number f o)))
      by false h = put_bytes o (put_at (content t.bytes o) at data') (change'.Written at data' ∷ []) live refl h

  write_bytes : (client fd : ℕ) (data' : List ℕ) → (write_fd t client fd data').bytes ≡ (written t (opened t client fd).file (place_of (opened t client fd) (content t.bytes (opened t client fd).file)) data').bytes
  write_bytes client fd data' = by (eqb (length data') 0)
    where
      at : ℕ
      at = place_of (opened t client fd) (content t.bytes (opened t client fd).file)

      by : (b : Bool) → (cond b t (with_fd (cond b t (with_bytes t (opened t client fd).file (put_at (content t.bytes (opened t client fd).file) (place_of (opened t client fd) (content t.bytes (opened t client fd).file)) data'))) client fd (with_offset (opened t client fd) (place_of (opened t client fd) (content t.bytes (opened t client fd).file) + length data')))).bytes
          ≡ (cond b t (with_bytes t (opened t client fd).file (put_at (content t.bytes (opened t client fd).file) (place_of (opened t client fd) (content t.bytes (opened t client fd).file)) data'))).bytes
      by true = refl
      by false = refl

  -- what stands at a path is opened
  opens : IsTree t → (client : ℕ) (whole : List ℕ) (m : Mode) (o : Option Node) → ((g : ℕ) → file_of o ≡ Some g → HasBytes t.bytes g)
      → GoesOn t f (open_node t client whole m o).bytes (cond (is_number f (file_of o)) (cond m.trunc (change'.Resized 0 ∷ []) []) [])
  opens is client whole m None live h = by (one_or_apart nat_cmp_total nat_cmp-IsAntisymmetric f t.next)
    where
      by : (f ≡ t.next) ⊎ (f ≡ t.next → ⊥) → (HasBytes t.bytes f ⊎ (f ≡ t.next)) × (bytes_of (map.insert t.bytes t.next []) f ≡ bytes_of t.bytes f)
      by (inl e) = (
        inr e,
        ap (bytes_of (map.insert t.bytes t.next [])) e ∙ ap (λ o. unwrap_or o []) (inserted_here nat_cmp_total nat_cmp-IsAntisymmetric t.bytes t.next [])
            ∙ sym (unborn_empty t is f (omega (arith, e))),
      )
      by (inr not) =
          let same : map.get (map.insert t.bytes t.next []) f ≡ map.get t.bytes f = inserted_else nat_cmp_total nat_cmp-IsAntisymmetric t.bytes t.next [] f not in
          (inl (sym (ap is_some same) ∙ h), ap (λ o. unwrap_or o []) same)
  opens is client whole m (Some Dir) live h = stay h
  opens is client whole m (Some (File g)) live h = by m.trunc h
    where
      none : (b : Bool) → all_changed (bytes_of t.bytes f) (cond b [] []) ≡ bytes_of t.bytes f
      none true = refl
      none false = refl

      by : (b : Bool) → GoesOn t f (with_fd (cond b (with_bytes t (Some g) []) t) client (new_fd t client) (desc_of m (Some g))).bytes (cond (eqb g f) (cond b (change'.Resized 0 ∷ []) []) [])
      by true h = put_bytes (Some g) [] (change'.Resized 0 ∷ []) live refl h
      by false h = (inl h, sym (none (eqb g f)))

  renames : (from to : List ℕ) → GoesOn t f (rename_path t from to).bytes []
  renames from to = by (bytes_eq from to)
    where
      by : (b : Bool) → GoesOn t f (cond b t (forget (record t { paths = renamed t.paths from to }) (file_of (map.get t.paths to)))).bytes []
      by true = stay
      by false = gone (record t { paths = renamed t.paths from to }) (file_of (map.get t.paths to)) stay

  pub change_goes_on : IsTree t → (client : ℕ) (request : Op) → GoesOn t f (change t client request).bytes (cond (is_number f (file_changed t client request)) (change_asked t client request) [])
  change_goes_on is client (op.OpenFile path read write creat excl trunc append) = opens is client (whole_of path) (mode_of_open read write creat excl trunc append) (node_at t.paths path) (λ g e. node_live t is path g e)
  change_goes_on is client (op.Close fd) = gone (record t { fds = map.remove t.fds (client, fd) }) (opened t client fd).file stay
  change_goes_on is client (op.Read fd n) = stay
  change_goes_on is client (op.Write fd data') =
      subst (λ (m : Files). GoesOn t f m (cond (is_number f (opened t client fd).file) (written_at (place_of (opened t client fd) (file_bytes t client fd)) data') [])) (sym (write_bytes client fd data'))
      (put_written (opened t client fd).file (place_of (opened t client fd) (file_bytes t client fd)) data' (λ g e. opened_live t is client fd g e))
  change_goes_on is client (op.Pread fd n at) = stay
  change_goes_on is client (op.Pwrite fd data' at) = put_written (opened t client fd).file at data' (λ g e. opened_live t is client fd g e)
  change_goes_on is client (op.Seek fd from by) = stay
  change_goes_on is client (op.Trunc fd size) = put_bytes (opened t client fd).file (resized (file_bytes t client fd) size) (change'.Resized size ∷ []) (λ g e. opened_live t is client fd g e) refl
  change_goes_on is client (op.Fsync fd) = stay
  change_goes_on is client op.Sync = stay
  change_goes_on is client (op.Mkdir path) = stay
  change_goes_on is client (op.Rmdir path) = gone (record t { paths = map.remove t.paths (whole_of path) }) (file_of (map.get t.paths (whole_of path))) stay
  change_goes_on is client (op.Unlink path) = gone (record t { paths = map.remove t.paths (whole_of path) }) (file_of (map.get t.paths (whole_of path))) stay
  change_goes_on is client (op.Rename from to) = renames (whole_of from) (whole_of to)
  change_goes_on is client (op.Stat path) = stay
  change_goes_on is client (op.List path) = stay

-- An entry's change of a file leads to the bytes that the file has then; and what has bytes then had them, or is new.
pub bytes_go_on : (t : PosixTree) → IsTree t → (entry : Entry) → IsReplyTo t entry → (f : ℕ) → HasBytes (goes_on t entry).bytes f
    → (HasBytes t.bytes f ⊎ (f ≡ t.next)) × (bytes_of (goes_on t entry).bytes f ≡ all_changed (bytes_of t.bytes f) (change_of f (record { before = t; entry = entry })))
bytes_go_on t is entry legal f = by (done t entry legal)
  where
    by : IsDone t entry → GoesOn t f (goes_on t entry).bytes (change_of f (record { before = t; entry = entry }))
    by (Left stays not_served) =
        subst (λ (x : PosixTree × Bool). GoesOn t f x.0.bytes (cond (x.1 && is_number f (file_changed t entry.client entry.op)) (change_asked t entry.client entry.op) []))
        (λ i. (sym stays i, sym not_served i)) (stay t f)
    by (Went passed goes served) =
        subst (λ (x : PosixTree × Bool). GoesOn t f x.0.bytes (cond (x.1 && is_number f (file_changed t entry.client entry.op)) (change_asked t entry.client entry.op) []))
        (λ i. (sym goes i, sym served i)) (change_goes_on t f is entry.client entry.op)
