-- Changes of two trees that agree on the touched parts: each is alike in both.
use Rattle.std.proofs.Common.{◌≡◌, ℕ, ◌+◌, List, [], ◌∷◌, Bool, true, false, cond, Option, Some, None, ap, sym, refl, ◌∙◌, subst, inl, inr}
use Rattle.std.specs.Prelude.{is_some}
use Rattle.std.specs.Str.{bytes_eq}
use Rattle.std.specs.FinMap as fin
use Rattle.ufs_model.specs.PosixTree.{PosixTree, Paths, Files, Fds, desc_at, is_live}
use Rattle.ufs_model.specs.Walk.{file_of}
use Rattle.ufs_model.specs.Directories.{renamed}
use Rattle.ufs_model.specs.Descriptors.{Mode, desc_of}
use Rattle.ufs_model.specs.Posix.{with_fd, with_bytes, forget, open_node, rename_path, new_fd}
use Rattle.ufs_model.specs.Touched.{holds, IsSamePart, IsPartOf, file_part, dropped_part, opened_part}
use Rattle.ufs_model.specs.Laws.{AgreeOn}
use Rattle.ufs_model.specs.declared.data.Desc.{Desc}
use Rattle.ufs_model.specs.declared.data.Node.{Node}
use Rattle.ufs_model.specs.declared.data.Node.TheVariants.{Dir, File}
use Rattle.ufs_model.specs.declared.data.PartName.{PartName}
use Rattle.ufs_model.specs.declared.data.PartName.TheVariants as name
use Rattle.ufs_model.proofs.Facts.Held.{moved_holds}
use Rattle.ufs_model.proofs.AlikeLemmas.{FdsAlike, fds_stay, fds_put, holds_after, live_alike, BytesAlike, bytes_stay, bytes_put, bytes_dropped, NamesAlike, Alike}
use Rattle.ufs_model.proofs.ToldLemmas.{new_fd_same}

-- ---- changes of bytes, as the bytes that they leave

abbrev put_bytes : Files → Option ℕ → List ℕ → Files
put_bytes bytes None v = bytes
put_bytes bytes (Some f) v = fin.insert bytes f v

with_bytes_is : (t : PosixTree) (file : Option ℕ) (v : List ℕ) → record t { bytes = put_bytes t.bytes file v } ≡ with_bytes t file v
with_bytes_is t None v = refl
with_bytes_is t (Some f) v = refl

abbrev kept_bytes : PosixTree → Option ℕ → Files
kept_bytes t None = t.bytes
kept_bytes t (Some f) = cond (is_live t.paths t.fds f) t.bytes (fin.remove t.bytes f)

forget_is : (t : PosixTree) (file : Option ℕ) → record t { bytes = kept_bytes t file } ≡ forget t file
forget_is t None = refl
forget_is t (Some f) =
    elim (is_live t.paths t.fds f) as (λ b. record t { bytes = cond b t.bytes (fin.remove t.bytes f) } ≡ cond b t (record t { bytes = fin.remove t.bytes f })) [
      | true ↦ refl
      | false ↦ refl
    ]

-- the tree with other paths and descriptors
abbrev pub with_names : PosixTree → Paths → Fds → PosixTree
with_names t paths fds = record t { paths = paths; fds = fds }

module _ (parts : List PartName) (a b : Files) (same : (f : ℕ) → IsPartOf parts (name.File f) → fin.get a f ≡ fin.get b f) where
  put_alike : (file file' : Option ℕ) (v v' : List ℕ) → file ≡ file' → v ≡ v' → ((f : ℕ) → IsPartOf (file_part file) (name.File f) → IsPartOf parts (name.File f))
      → BytesAlike parts a b (put_bytes a file v) (put_bytes b file' v')
  put_alike None None v v' p q among = bytes_stay parts a b same
  put_alike None (Some f') v v' p q among = cc
  put_alike (Some f) None v v' p q among = cc
  put_alike (Some f) (Some f') v v' p q among = let number : f ≡ f' = cc in bytes_put parts a b same f f' v v' number q (among f (inl refl))

kept_alike : (parts : List PartName) (t u : PosixTree) (file : Option ℕ) → ((f : ℕ) → IsPartOf parts (name.File f) → fin.get t.bytes f ≡ fin.get u.bytes f)
    → ((f : ℕ) → is_live t.paths t.fds f ≡ is_live u.paths u.fds f) → ((f : ℕ) → IsPartOf (dropped_part t file) (name.File f) → IsPartOf parts (name.File f))
    → BytesAlike parts t.bytes u.bytes (kept_bytes t file) (kept_bytes u file)
kept_alike parts t u None same live among = bytes_stay parts t.bytes u.bytes same
kept_alike parts t u (Some f) same live among =
    bytes_dropped parts t.bytes u.bytes same f (is_live t.paths t.fds f) (is_live u.paths u.fds f) (live f)
    (λ gone. among f (subst (λ (b : Bool). IsPartOf (cond b [] (name.File f ∷ [])) (name.File f)) (sym gone) (inl refl)))

-- ---- changes, each alike in both trees

module _ (t u : PosixTree) (client : ℕ) where
  names_still : (parts : List PartName) (t' u' : PosixTree) → AgreeOn parts t u → t.paths ≡ t'.paths → u.paths ≡ u'.paths → t.next ≡ t'.next → u.next ≡ u'.next
      → ((file : ℕ) → holds t.fds client file ≡ holds t'.fds client file) → NamesAlike parts client t u t' u'
  names_still parts t' u' agree p p' n n' held = record {
    paths = λ among. sym p ∙ (agree name.Names among).0 ∙ p';
    next = λ among. sym n ∙ (agree name.Names among).1 ∙ n';
    kept = λ out. (p, n, held);
  }

  names_touched : (parts : List PartName) (t' u' : PosixTree) → IsPartOf parts name.Names → t'.paths ≡ u'.paths → t'.next ≡ u'.next → NamesAlike parts client t u t' u'
  names_touched parts t' u' among p n = record { paths = λ _. p; next = λ _. n; kept = λ out. absurd (out among) }

  pub nothing : (rest : List PartName) → AgreeOn (name.Client client ∷ rest) t u → Alike (name.Client client ∷ rest) client t u t u
  nothing rest agree = record {
    fds = fds_stay client t.fds u.fds (agree (name.Client client) (inl refl));
    bytes = bytes_stay (name.Client client ∷ rest) t.bytes u.bytes (λ f among. agree (name.File f) among);
    names = names_still (name.Client client ∷ rest) t u agree refl refl refl refl (λ file. refl);
  }

  -- bytes change, and a descriptor of the same file moves on
  pub bytes_and_fd : (rest : List PartName) → AgreeOn (name.Client client ∷ rest) t u → (fd : ℕ) (file file' : Option ℕ) (v v' : List ℕ) (old d d' : Desc)
      → file ≡ file' → v ≡ v' → ((f : ℕ) → IsPartOf (file_part file) (name.File f) → IsPartOf rest (name.File f))
      → desc_at t client fd ≡ Some old → d.file ≡ old.file → d ≡ d'
      → Alike (name.Client client ∷ rest) client t u (with_fd (with_bytes t file v) client fd d) (with_fd (with_bytes u file' v') client fd d')
  bytes_and_fd rest agree fd file file' v v' old d d' p q among there same is =
      subst (λ (x : PosixTree × PosixTree). Alike (name.Client client ∷ rest) client t u (with_fd x.0 client fd d) (with_fd x.1 client fd d'))
      (λ i. (with_bytes_is t file v i, with_bytes_is u file' v' i))
      (record {
        fds = fds_put client t.fds u.fds (agree (name.Client client) (inl refl)) fd fd d d' refl is;
        bytes = put_alike (name.Client client ∷ rest) t.bytes u.bytes (λ f at. agree (name.File f) at) file file' v v' p q (λ f at. inr (among f at));
        names = names_still (name.Client client ∷ rest) _ _ agree refl refl refl refl (moved_holds t.fds client fd old d there same);
      })

  -- bytes change
  pub bytes_alone : (rest : List PartName) → AgreeOn (name.Client client ∷ rest) t u → (file file' : Option ℕ) (v v' : List ℕ)
      → file ≡ file' → v ≡ v' → ((f : ℕ) → IsPartOf (file_part file) (name.File f) → IsPartOf rest (name.File f))
      → Alike (name.Client client ∷ rest) client t u (with_bytes t file v) (with_bytes u file' v')
  bytes_alone rest agree file file' v v' p q among =
      subst (λ (x : PosixTree × PosixTree). Alike (name.Client client ∷ rest) client t u x.0 x.1)
      (λ i. (with_bytes_is t file v i, with_bytes_is u file' v' i))
      (record {
        fds = fds_stay client t.fds u.fds (agree (name.Client client) (inl refl));
        bytes = put_alike (name.Client client ∷ rest) t.bytes u.bytes (λ f at. agree (name.File f) at) file file' v v' p q (λ f at. inr (among f at));
        names = names_still (name.Client client ∷ rest) _ _ agree refl refl refl refl (λ file. refl);
      })

  -- a descriptor of the same file moves on
  pub fd_alone : (rest : List PartName) → AgreeOn (name.Client client ∷ rest) t u → (fd : ℕ) (old d d' : Desc) → desc_at t client fd ≡ Some old → d.file ≡ old.file → d ≡ d'
      → Alike (name.Client client ∷ rest) client t u (with_fd t client fd d) (with_fd u client fd d')
  fd_alone rest agree fd old d d' there same is = record {
    fds = fds_put client t.fds u.fds (agree (name.Client client) (inl refl)) fd fd d d' refl is;
    bytes = bytes_stay (name.Client client ∷ rest) t.bytes u.bytes (λ f at. agree (name.File f) at);
    names = names_still (name.Client client ∷ rest) _ _ agree refl refl refl refl (moved_holds t.fds client fd old d there same);
  }

  -- paths or descriptors change, and a file that is live no more goes
  pub forgotten : (rest : List PartName) → AgreeOn (name.Client client ∷ name.Names ∷ rest) t u → (p p' : Paths) (a a' : Fds) (file file' : Option ℕ)
      → p ≡ p' → FdsAlike client t.fds u.fds a a' → file ≡ file'
      → ((f : ℕ) → IsPartOf (dropped_part (forget (with_names t p a) file) file) (name.File f) → IsPartOf rest (name.File f))
      → Alike (name.Client client ∷ name.Names ∷ rest) client t u (forget (with_names t p a) file) (forget (with_names u p' a') file')
  forgotten rest agree p p' a a' file file' paths fds files among =
      subst (λ (x : PosixTree × PosixTree). Alike (name.Client client ∷ name.Names ∷ rest) client t u x.0 x.1)
      (λ i. (forget_is (with_names t p a) file i, (forget_is (with_names u p' a') file ∙ ap (forget (with_names u p' a')) files) i))
      (record {
        fds = fds;
        bytes = kept_alike (name.Client client ∷ name.Names ∷ rest) (with_names t p a) (with_names u p' a') file (λ f at. agree (name.File f) at)
            (λ f. live_alike p p' a a' f paths (λ c. holds_after client t.fds u.fds a a' fds (agree name.Names (inr (inl refl))).2 c f))
            (λ f at. inr (inr (among f (subst (λ (x : PosixTree). IsPartOf (dropped_part x file) (name.File f)) (forget_is (with_names t p a) file) at))));
        names = names_touched (name.Client client ∷ name.Names ∷ rest) _ _ (inr (inl refl)) paths (agree name.Names (inr (inl refl))).1;
      })

  -- what stands at a path is opened
  pub open_alike : (rest : List PartName) → AgreeOn (name.Client client ∷ name.Names ∷ rest) t u → (whole : List ℕ) (m : Mode) (node : Option Node)
      → ((f : ℕ) → IsPartOf (opened_part t.next (is_some node) (file_of node) m.trunc) (name.File f) → IsPartOf rest (name.File f))
      → Alike (name.Client client ∷ name.Names ∷ rest) client t u (open_node t client whole m node) (open_node u client whole m node)
  open_alike rest agree whole m None among =
      let names = agree name.Names (inr (inl refl)) in
      record {
        fds = fds_put client t.fds u.fds (agree (name.Client client) (inl refl)) (new_fd t client) (new_fd u client) (desc_of m (Some t.next)) (desc_of m (Some u.next))
            (new_fd_same t u client (name.Names ∷ rest) agree) (ap (λ n. desc_of m (Some n)) names.1);
        bytes = bytes_put (name.Client client ∷ name.Names ∷ rest) t.bytes u.bytes (λ f at. agree (name.File f) at) t.next u.next [] [] names.1 refl (inr (inr (among t.next (inl refl))));
        names = names_touched (name.Client client ∷ name.Names ∷ rest) _ _ (inr (inl refl)) (λ i. fin.insert (names.0 i) whole (File (names.1 i))) (ap (λ n. n + 1) names.1);
      }
  open_alike rest agree whole m (Some Dir) among =
      let names = agree name.Names (inr (inl refl)) in
      record {
        fds = fds_put client t.fds u.fds (agree (name.Client client) (inl refl)) (new_fd t client) (new_fd u client) (desc_of m None) (desc_of m None) (new_fd_same t u client (name.Names ∷ rest) agree) refl;
        bytes = bytes_stay (name.Client client ∷ name.Names ∷ rest) t.bytes u.bytes (λ f at. agree (name.File f) at);
        names = names_touched (name.Client client ∷ name.Names ∷ rest) _ _ (inr (inl refl)) names.0 names.1;
      }
  open_alike rest agree whole m (Some (File f)) among =
      elim m.trunc as (λ b. ((g : ℕ) → IsPartOf (opened_part t.next true (Some f) b) (name.File g) → IsPartOf rest (name.File g))
      → Alike (name.Client client ∷ name.Names ∷ rest) client t u
      (with_fd (cond b (with_bytes t (Some f) []) t) client (new_fd t client) (desc_of m (Some f)))
      (with_fd (cond b (with_bytes u (Some f) []) u) client (new_fd u client) (desc_of m (Some f)))) [
        | true ↦ λ among. record {
          fds = fds;
          bytes = bytes_put (name.Client client ∷ name.Names ∷ rest) t.bytes u.bytes (λ g at. agree (name.File g) at) f f [] [] refl refl (inr (inr (among f (inl refl))));
          names = names_touched (name.Client client ∷ name.Names ∷ rest) _ _ (inr (inl refl)) names.0 names.1;
        }
        | false ↦ λ among. record {
          fds = fds;
          bytes = bytes_stay (name.Client client ∷ name.Names ∷ rest) t.bytes u.bytes (λ g at. agree (name.File g) at);
          names = names_touched (name.Client client ∷ name.Names ∷ rest) _ _ (inr (inl refl)) names.0 names.1;
        }
      ] among
    where
      names : IsSamePart name.Names t u
      names = agree name.Names (inr (inl refl))

      fds : FdsAlike client t.fds u.fds (fin.insert t.fds (client, new_fd t client) (desc_of m (Some f))) (fin.insert u.fds (client, new_fd u client) (desc_of m (Some f)))
      fds = fds_put client t.fds u.fds (agree (name.Client client) (inl refl)) (new_fd t client) (new_fd u client) (desc_of m (Some f)) (desc_of m (Some f)) (new_fd_same t u client (name.Names ∷ rest) agree) refl

  pub rename_alike : (rest : List PartName) → AgreeOn (name.Client client ∷ name.Names ∷ rest) t u → (from to : List ℕ)
      → ((f : ℕ) → IsPartOf (dropped_part (rename_path t from to) (file_of (fin.get t.paths to))) (name.File f) → IsPartOf rest (name.File f))
      → Alike (name.Client client ∷ name.Names ∷ rest) client t u (rename_path t from to) (rename_path u from to)
  rename_alike rest agree from to among =
      let names = agree name.Names (inr (inl refl)) in
      let file : Option ℕ = file_of (fin.get t.paths to) in
      let file' : Option ℕ = file_of (fin.get u.paths to) in
      elim (bytes_eq from to) as (λ b. ((f : ℕ) → IsPartOf (dropped_part (cond b t (forget (with_names t (renamed t.paths from to) t.fds) file)) file) (name.File f) → IsPartOf rest (name.File f))
      → Alike (name.Client client ∷ name.Names ∷ rest) client t u
      (cond b t (forget (with_names t (renamed t.paths from to) t.fds) file)) (cond b u (forget (with_names u (renamed u.paths from to) u.fds) file'))) [
        | true ↦ λ _. nothing (name.Names ∷ rest) agree
        | false ↦ λ among. forgotten rest agree (renamed t.paths from to) (renamed u.paths from to) t.fds u.fds file file'
            (ap (λ (p : Paths). renamed p from to) names.0) (fds_stay client t.fds u.fds (agree (name.Client client) (inl refl))) (ap (λ (p : Paths). file_of (fin.get p to)) names.0) among
      ] among
