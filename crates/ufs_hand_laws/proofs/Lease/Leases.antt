-- After a change of leases those that stay are listed.
use Rattle.std.proofs.Common.{◌≡◌, ℕ, ◌≤◌, eqb, Some, sym, refl, ap, ◌∙◌, subst, ⊎_elim, arith}
use native.Mathlib.Decide.{dec_le}
use Rattle.ufs_model.specs.declared.data.Lease.{Lease}
use Rattle.ufs_model.specs.declared.data.PartName.{PartName}
use Rattle.ufs_model.specs.declared.data.PartName.TheVariants as name
use Rattle.ufs_hand_laws.specs.LeasesTrue.{IsListed}
use Rattle.ufs_hand_laws.specs.Owned.{Has, count}
use Rattle.ufs_hand_laws.specs.Parts.{FilePart, NamesPart}
use Rattle.ufs_hand_laws.proofs.Owning.{has_count, each_has, same_some, replaced_here, replaced_else}
use Rattle.ufs_hand_laws.proofs.Keys.{itself, alike}
use Rattle.ufs_hand_laws.proofs.Lease.Setting.{LeaseStep, leasing, file_counts, single_files, names_case}

module _ (step : LeaseStep) where
  open step use {S, k, word, views, i, v, o, at, go}
  open leasing step use {w, next, client_was, file_was, names_were, client_present, file_present}

  pub listed_next : (x : Lease) (p : PartName) → ((g : ℕ) (q : FilePart) → p ≡ name.File g → Has x q.leases → Has x (go.file g q).leases)
      → ((q : NamesPart) → p ≡ name.Names → Has x q.leases → Has x (go.names tt q).leases) → IsListed o.world.file o.world.names x p → IsListed next.file next.names x p
  listed_next x (name.File g) f n is = by (dec_le 1 (count eqb g v.files))
    where
      by : Dec (1 ≤ count eqb g v.files) → (y : FilePart) × (next.file g ≡ Some y) × Has x y.leases
      by (yes c) =
          let y = has_count eqb itself alike g v.files c in
          let same : y.0 ≡ is.0 = same_some y.0 is.0 (sym (o.one_hand.files.agree i v at g y.0 y.1) ∙ is.1) in
          (go.file g y.0, replaced_here eqb itself alike v.files w.files o.world.file (single_files step) g (go.file g y.0) (each_has go.file g y.0 v.files y.1), f g y.0 refl (subst (λ (z : FilePart). Has x z.leases) (sym same) is.2))
      by (no c) = let a = (file_counts step) g in (is.0, replaced_else eqb itself alike v.files w.files o.world.file g (omega arith) (omega arith) ∙ is.1, is.2)
  listed_next x name.Names f n is = ⊎_elim
      (λ (e : next.names ≡ o.world.names). subst (Has x) (ap (λ (q : NamesPart). q.leases) (sym e)) is)
      (λ (y : (y : NamesPart) × (o.world.names ≡ y) × (next.names ≡ go.names tt y)).
      subst (Has x) (ap (λ (q : NamesPart). q.leases) (sym y.2)) (n y.0 refl (subst (Has x) (ap (λ (q : NamesPart). q.leases) y.1) is)))
      (names_case step)
  listed_next x (name.Client c) f n is = tt
  listed_next x (name.Asked c) f n is = tt
  listed_next x name.Store f n is = tt
