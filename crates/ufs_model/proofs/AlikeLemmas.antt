-- Two trees that agree on some parts change alike: what is then the same in both, and what stays.
use Rattle.std.proofs.Common.{◌≡◌, ◌≢◌, ℕ, List, ◌∷◌, Bool, true, false, cond, Some, None, ap, sym, refl, ◌∙◌, subst, ◌⊎◌, inl, inr, ◌||◌}
use Rattle.std.proofs.lemmas.Bool.{cases_eq}
use Rattle.std.specs.Option.{option_map}
use Rattle.std.specs.Ordering.{eq_by_cmp, nat_cmp}
use Rattle.std.specs.Cmp.{nat_cmp_total}
use Rattle.std.specs.List.{list_any}
use Rattle.std.specs.FinMap as fin
use Rattle.std.specs.FinMap.{get-insert, get-remove, nat_cmp-IsAntisymmetric}
use Rattle.ufs_model.specs.Order.{fd_cmp}
use Rattle.ufs_model.specs.PosixTree.{PosixTree, Paths, Files, Fds, is_node_of, is_live}
use Rattle.ufs_model.specs.Touched.{holds, IsSamePart, IsPartOf}
use Rattle.ufs_model.specs.Laws.{AgreeOn}
use Rattle.ufs_model.specs.declared.data.Desc.{Desc}
use Rattle.ufs_model.specs.declared.data.PartName.{PartName}
use Rattle.ufs_model.specs.declared.data.PartName.TheVariants as part
use Rattle.ufs_model.proofs.Facts.Orders.{fd_total}
use Rattle.ufs_model.proofs.Facts.Lookups.{inserted_else, removed_else}
use Rattle.ufs_model.proofs.Facts.Held.{holds_by, open_by, put_elsewhere, gone_elsewhere}

-- ---- descriptors

-- the client's own descriptors are the same afterwards, and all others as before
pub record FdsAlike (client : ℕ) (a b a' b' : Fds) : Type 0 where
  pub own : (fd : ℕ) → fin.get a' (client, fd) ≡ fin.get b' (client, fd)
  pub left : (c : ℕ) → c ≢ client → (fd : ℕ) → fin.get a (c, fd) ≡ fin.get a' (c, fd)
  pub right : (c : ℕ) → c ≢ client → (fd : ℕ) → fin.get b (c, fd) ≡ fin.get b' (c, fd)

module _ (client : ℕ) (a b : Fds) (same : (fd : ℕ) → fin.get a (client, fd) ≡ fin.get b (client, fd)) where
  pub fds_stay : FdsAlike client a b a b
  fds_stay = record { own = same; left = λ c ne fd. refl; right = λ c ne fd. refl }

  pub fds_put : (fd fd' : ℕ) (d d' : Desc) → fd ≡ fd' → d ≡ d' → FdsAlike client a b (fin.insert a (client, fd) d) (fin.insert b (client, fd') d')
  fds_put fd fd' d d' p q = record {
    own = λ n. get-insert fd_total a (client, fd) d (client, n)
        ∙ (λ i. cond (eq_by_cmp fd_cmp (client, n) (client, p i)) (Some (q i)) (same n i))
        ∙ sym (get-insert fd_total b (client, fd') d' (client, n));
    left = λ c ne n. put_elsewhere a client fd d c n ne;
    right = λ c ne n. put_elsewhere b client fd' d' c n ne;
  }

  pub fds_gone : (fd : ℕ) → FdsAlike client a b (fin.remove a (client, fd)) (fin.remove b (client, fd))
  fds_gone fd = record {
    own = λ n. get-remove fd_total a (client, fd) (client, n)
        ∙ ap (cond (eq_by_cmp fd_cmp (client, n) (client, fd)) None) (same n)
        ∙ sym (get-remove fd_total b (client, fd) (client, n));
    left = λ c ne n. gone_elsewhere a client fd c n ne;
    right = λ c ne n. gone_elsewhere b client fd c n ne;
  }

-- the files of descriptors that are the same
same_file : (a b : Fds) (client fd : ℕ) → fin.get a (client, fd) ≡ fin.get b (client, fd) → option_map (λ (d : Desc). d.file) (fin.get a (client, fd)) ≡ option_map (λ (d : Desc). d.file) (fin.get b (client, fd))
same_file a b client fd e = ap (option_map (λ (d : Desc). d.file)) e

module _ (client : ℕ) (a b a' b' : Fds) (alike : FdsAlike client a b a' b') where
  -- who holds which file is the same afterwards
  pub holds_after : ((c file : ℕ) → holds a c file ≡ holds b c file) → (c file : ℕ) → holds a' c file ≡ holds b' c file
  holds_after before c file = by_client (cases_eq c client)
    where
      by_client : (c ≡ client) ⊎ (c ≡ client → ⊥) → holds a' c file ≡ holds b' c file
      by_client (inl is) = subst (λ c. holds a' c file ≡ holds b' c file) (sym is) (holds_by a' b' client file (λ fd. same_file a' b' client fd (alike.own fd)))
      by_client (inr ne) =
          sym (holds_by a a' c file (λ fd. same_file a a' c fd (alike.left c ne fd)))
          ∙ before c file
          ∙ holds_by b b' c file (λ fd. same_file b b' c fd (alike.right c ne fd))

  -- where it is so for the client, each holds what it held
  pub holds_still : ((file : ℕ) → holds a client file ≡ holds a' client file) → (c file : ℕ) → holds a c file ≡ holds a' c file
  holds_still own c file = by_client (cases_eq c client)
    where
      by_client : (c ≡ client) ⊎ (c ≡ client → ⊥) → holds a c file ≡ holds a' c file
      by_client (inl is) = subst (λ c. holds a c file ≡ holds a' c file) (sym is) (own file)
      by_client (inr ne) = holds_by a a' c file (λ fd. same_file a a' c fd (alike.left c ne fd))

pub live_alike : (p p' : Paths) (a b : Fds) (file : ℕ) → p ≡ p' → ((c : ℕ) → holds a c file ≡ holds b c file) → is_live p a file ≡ is_live p' b file
live_alike p p' a b file paths same = λ i. list_any (is_node_of file) (fin.values (paths i)) || open_by a b file same i

-- ---- bytes

-- the touched files have the same bytes afterwards, and all others those that they had
pub record BytesAlike (parts : List PartName) (a b a' b' : Files) : Type 0 where
  pub files : (file : ℕ) → IsPartOf parts (part.File file) → fin.get a' file ≡ fin.get b' file
  pub others : (file : ℕ) → (IsPartOf parts (part.File file) → ⊥) → fin.get a file ≡ fin.get a' file

module _ (parts : List PartName) (a b : Files) (same : (file : ℕ) → IsPartOf parts (part.File file) → fin.get a file ≡ fin.get b file) where
  pub bytes_stay : BytesAlike parts a b a b
  bytes_stay = record { files = same; others = λ file out. refl }

  untouched : (file g : ℕ) → IsPartOf parts (part.File file) → (IsPartOf parts (part.File g) → ⊥) → g ≡ file → ⊥
  untouched file g among out is = out (subst (λ f. IsPartOf parts (part.File f)) (sym is) among)

  pub bytes_put : (file file' : ℕ) (v v' : List ℕ) → file ≡ file' → v ≡ v' → IsPartOf parts (part.File file) → BytesAlike parts a b (fin.insert a file v) (fin.insert b file' v')
  bytes_put file file' v v' p q among = record {
    files = λ g at. get-insert nat_cmp_total a file v g
        ∙ (λ i. cond (eq_by_cmp nat_cmp g (p i)) (Some (q i)) (same g at i))
        ∙ sym (get-insert nat_cmp_total b file' v' g);
    others = λ g out. sym (inserted_else nat_cmp_total nat_cmp-IsAntisymmetric a file v g (untouched file g among out));
  }

  pub bytes_gone : (file : ℕ) → IsPartOf parts (part.File file) → BytesAlike parts a b (fin.remove a file) (fin.remove b file)
  bytes_gone file among = record {
    files = λ g at. get-remove nat_cmp_total a file g
        ∙ ap (cond (eq_by_cmp nat_cmp g file) None) (same g at)
        ∙ sym (get-remove nat_cmp_total b file g);
    others = λ g out. sym (removed_else nat_cmp_total nat_cmp-IsAntisymmetric a file g (untouched file g among out));
  }

  -- a file that is live in neither goes in both
  pub bytes_dropped : (file : ℕ) (live live' : Bool) → live ≡ live' → (live ≡ false → IsPartOf parts (part.File file))
      → BytesAlike parts a b (cond live a (fin.remove a file)) (cond live' b (fin.remove b file))
  bytes_dropped file true true e among = bytes_stay
  bytes_dropped file true false e among = cc
  bytes_dropped file false true e among = cc
  bytes_dropped file false false e among = bytes_gone file (among refl)

-- ---- names

-- the names are the same afterwards where they are touched, and else as they were
pub record NamesAlike (parts : List PartName) (client : ℕ) (t u t' u' : PosixTree) : Type 0 where
  pub paths : IsPartOf parts part.Names → t'.paths ≡ u'.paths
  pub next : IsPartOf parts part.Names → t'.next ≡ u'.next
  pub kept : (IsPartOf parts part.Names → ⊥) → (t.paths ≡ t'.paths) × (t.next ≡ t'.next) × ((file : ℕ) → holds t.fds client file ≡ holds t'.fds client file)

-- ---- all parts

pub record Alike (parts : List PartName) (client : ℕ) (t u t' u' : PosixTree) : Type 0 where
  pub fds : FdsAlike client t.fds u.fds t'.fds u'.fds
  pub bytes : BytesAlike parts t.bytes u.bytes t'.bytes u'.bytes
  pub names : NamesAlike parts client t u t' u'

module _ (client : ℕ) (rest : List PartName) (t u t' u' : PosixTree) (agree : AgreeOn (part.Client client ∷ rest) t u) (alike : Alike (part.Client client ∷ rest) client t u t' u') where
  abbrev parts : List PartName
  parts = part.Client client ∷ rest

  pub touched_alike : AgreeOn parts t' u'
  touched_alike (part.Client c) among = by_client (cases_eq c client)
    where
      by_client : (c ≡ client) ⊎ (c ≡ client → ⊥) → IsSamePart (part.Client c) t' u'
      by_client (inl is) = subst (λ c. IsSamePart (part.Client c) t' u') (sym is) alike.fds.own
      by_client (inr ne) = λ fd. sym (alike.fds.left c ne fd) ∙ agree (part.Client c) among fd ∙ alike.fds.right c ne fd
  touched_alike (part.Asked c) among = tt
  touched_alike (part.File file) among = alike.bytes.files file among
  touched_alike part.Names among = (alike.names.paths among, alike.names.next among, holds_after client t.fds u.fds t'.fds u'.fds alike.fds (agree part.Names among).2)
  touched_alike part.Store among = tt

  pub others_alike : (other : PartName) → (IsPartOf parts other → ⊥) → IsSamePart other t t'
  others_alike (part.Client c) out = λ fd. alike.fds.left c (λ is. out (inl (ap part.Client is))) fd
  others_alike (part.Asked c) out = tt
  others_alike (part.File file) out = alike.bytes.others file out
  others_alike part.Names out =
      let kept = alike.names.kept out in
      (kept.0, kept.1, holds_still client t.fds u.fds t'.fds u'.fds alike.fds kept.2)
  others_alike part.Store out = tt
