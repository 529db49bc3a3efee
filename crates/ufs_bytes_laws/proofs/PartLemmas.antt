-- A request touches the same parts of trees that are alike.
use Rattle.std.proofs.Common.{◌≡◌, ℕ, List, [], ◌∷◌, Bool, true, false, cond, length, map, Option, Some, None, ap, sym, refl, ◌∙◌, ◌&&◌}
use Rattle.std.specs.Prelude.{is_some}
use Rattle.std.specs.Option.{option_map}
use Rattle.std.specs.Ordering.{nat_cmp, eq_by_cmp, is_lt}
use Rattle.std.specs.Cmp.{nat_cmp_total}
use Rattle.std.specs.FinMap as fin
use Rattle.std.specs.FinMap.{find, is_sorted, get-entries, get-from_entries, from_entries, entries, same_map, nat_cmp-IsAntisymmetric}
use Rattle.std.specs.FinMap.Entries.{below_all}
use Rattle.ufs_model.specs.Paths.{whole_of}
use Rattle.ufs_model.specs.PosixTree.{PosixTree, Files, is_live}
use Rattle.ufs_model.specs.Walk.{file_of}
use Rattle.ufs_model.specs.Descriptors.{opened}
use Rattle.ufs_model.specs.Refusals.{own_refusal, refusal}
use Rattle.ufs_model.specs.Posix.{change}
use Rattle.ufs_model.specs.Touched.{touched_parts, reached, dropped_part, replaced_part}
use Rattle.ufs_model.specs.declared.data.Op.{Op}
use Rattle.ufs_model.specs.declared.data.Op.TheVariants as op
use Rattle.ufs_model.specs.declared.data.Whence.TheVariants as whence
use Rattle.ufs_model.specs.declared.data.PartName.TheVariants as part
use Rattle.ufs_model.proofs.Facts.Rising.{entries-rise, entries-rising}
use Rattle.ufs_bytes_laws.specs.Alike.{AreAlike, HaveSameSizes}
use Rattle.ufs_bytes_laws.specs.Laws.{TouchedPartsAreSame}
use Rattle.ufs_bytes_laws.proofs.TreeLemmas.{with_files, by_files}
use Rattle.ufs_bytes_laws.proofs.StepLemmas.{refused, changed}

-- ---- the files of both

-- each file with its size
abbrev sized : List (ℕ × List ℕ) → List (ℕ × ℕ)
sized es = map (λ e. (e.0, length e.1)) es

found_sized : (file : ℕ) (es : List (ℕ × List ℕ)) → find nat_cmp file (sized es) ≡ option_map length (find nat_cmp file es)
found_sized file [] = refl
found_sized file (e ∷ es) = by (eq_by_cmp nat_cmp file e.0) (found_sized file es)
  where
    by : (here : Bool) → find nat_cmp file (sized es) ≡ option_map length (find nat_cmp file es)
        → cond here (Some (length e.1)) (find nat_cmp file (sized es)) ≡ option_map length (cond here (Some e.1) (find nat_cmp file es))
    by true rest = refl
    by false rest = rest

below_sized : (file : ℕ) (es : List (ℕ × List ℕ)) → below_all nat_cmp file (sized es) ≡ below_all nat_cmp file es
below_sized file [] = refl
below_sized file (e ∷ es) = ap (λ b. is_lt (nat_cmp file e.0) && b) (below_sized file es)

rising_sized : (es : List (ℕ × List ℕ)) → is_sorted nat_cmp (sized es) ≡ is_sorted nat_cmp es
rising_sized [] = refl
rising_sized (e ∷ es) = λ i. below_sized e.0 es i && rising_sized es i

keys_sized : (es : List (ℕ × List ℕ)) → map (λ e. e.0) (sized es) ≡ map (λ e. e.0) es
keys_sized [] = refl
keys_sized (e ∷ es) = ap (λ ks. e.0 ∷ ks) (keys_sized es)

abbrev sizes : Files → fin.FinMap nat_cmp ℕ
sizes a = from_entries (sized (entries a))

sizes_at : (a : Files) (file : ℕ) → fin.get (sizes a) file ≡ option_map length (fin.get a file)
sizes_at a file = get-from_entries nat_cmp_total (sized (entries a)) file ∙ found_sized file (entries a) ∙ ap (option_map length) (sym (get-entries a file))

sizes_keys : (a : Files) → fin.keys (sizes a) ≡ fin.keys a
sizes_keys a =
    ap (map (λ e. e.0)) (entries-rising nat_cmp nat_cmp_total nat_cmp-IsAntisymmetric (sized (entries a)) (rising_sized (entries a) ∙ entries-rise a))
    ∙ keys_sized (entries a)

pub same_files : (a b : Files) → HaveSameSizes a b → fin.keys a ≡ fin.keys b
same_files a b same =
    sym (sizes_keys a)
    ∙ ap fin.keys (same_map nat_cmp_total nat_cmp-IsAntisymmetric (sizes a) (sizes b) (λ f. sizes_at a f ∙ same f ∙ sym (sizes_at b f)))
    ∙ sizes_keys b

-- ---- the parts

dropped_same : (t u : PosixTree) → AreAlike t u → (file : Option ℕ) → dropped_part t file ≡ dropped_part u file
dropped_same t u is None = refl
dropped_same t u is (Some file) = λ i. cond (is_live (is.paths i) (is.fds i) file) [] (part.File file ∷ [])

module _ (t : PosixTree) (bytes : Files) (same : HaveSameSizes t.bytes bytes) (client : ℕ) where
  abbrev u : PosixTree
  u = with_files t bytes

  -- the part of a file that goes, where the request isn't refused
  replaced_same : (request : Op) (whole : List ℕ)
      → cond (is_some (refusal t client request)) [] (replaced_part t client request whole) ≡ cond (is_some (refusal u client request)) [] (replaced_part u client request whole)
  replaced_same request whole = λ i.
      cond (is_some (refused t bytes same client request i)) []
      (dropped_same (change t client request) (change u client request) (changed t bytes same client request) (file_of (fin.get t.paths whole)) i)

  reached_same : (request : Op) → reached t client request ≡ reached u client request
  reached_same (op.OpenFile path read write creat excl trunc append) = refl
  reached_same (op.Close fd) =
      ap (λ parts. part.Names ∷ parts) (dropped_same (change t client (op.Close fd)) (change u client (op.Close fd)) (changed t bytes same client (op.Close fd)) (opened t client fd).file)
  reached_same (op.Read fd n) = refl
  reached_same (op.Write fd fresh) = refl
  reached_same (op.Pread fd n at) = refl
  reached_same (op.Pwrite fd fresh at) = refl
  reached_same (op.Seek fd whence.Set by) = refl
  reached_same (op.Seek fd whence.Cur by) = refl
  reached_same (op.Seek fd whence.End by) = refl
  reached_same (op.Trunc fd size) = refl
  reached_same (op.Fsync fd) = refl
  reached_same op.Sync = ap (λ files. part.Names ∷ map (λ file. part.File file) files) (same_files t.bytes bytes same)
  reached_same (op.Mkdir path) = refl
  reached_same (op.Rmdir path) = refl
  reached_same (op.Unlink path) = ap (λ parts. part.Names ∷ parts) (replaced_same (op.Unlink path) (whole_of path))
  reached_same (op.Rename from to) = ap (λ parts. part.Names ∷ parts) (replaced_same (op.Rename from to) (whole_of to))
  reached_same (op.Stat path) = refl
  reached_same (op.List path) = refl

  own_same : (request : Op) → own_refusal t client request ≡ own_refusal u client request
  own_same (op.OpenFile path read write creat excl trunc append) = refl
  own_same (op.Close fd) = refl
  own_same (op.Read fd n) = refl
  own_same (op.Write fd fresh) = refl
  own_same (op.Pread fd n at) = refl
  own_same (op.Pwrite fd fresh at) = refl
  own_same (op.Seek fd from by) = refl
  own_same (op.Trunc fd size) = refl
  own_same (op.Fsync fd) = refl
  own_same op.Sync = refl
  own_same (op.Mkdir path) = refl
  own_same (op.Rmdir path) = refl
  own_same (op.Unlink path) = refl
  own_same (op.Rename from to) = refl
  own_same (op.Stat path) = refl
  own_same (op.List path) = refl

  touched_same : (request : Op) → touched_parts t client request ≡ touched_parts u client request
  touched_same request = λ i. part.Client client ∷ cond (is_some (own_same request i)) [] (reached_same request i)

pub touched : TouchedPartsAreSame
touched t u' client request is = by_files (λ u. touched_parts t client request ≡ touched_parts u client request) t u' is (touched_same t u'.bytes is.sizes client request)
