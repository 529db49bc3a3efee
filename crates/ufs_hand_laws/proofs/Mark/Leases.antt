-- After a mark leases are listed where they were.
use Rattle.std.proofs.Common.{◌≡◌, ◌≤◌, eqb, Some, sym, ap, ◌∙◌, subst, arith}
use native.Mathlib.Decide.{dec_le}
use Rattle.ufs_model.specs.History.{tree_after}
use Rattle.ufs_model.specs.declared.data.Lease.{Lease}
use Rattle.ufs_model.specs.declared.data.PartName.{PartName}
use Rattle.ufs_model.specs.declared.data.PartName.TheVariants as name
use Rattle.ufs_hand_laws.specs.LeasesTrue.{AreLeasesTrue, IsListed}
use Rattle.ufs_hand_laws.specs.Owned.{Has, count}
use Rattle.ufs_hand_laws.specs.Parts.{FilePart, NamesPart}
use Rattle.ufs_hand_laws.proofs.Owning.{has_count, same_some, replaced_else, replaced_here}
use Rattle.ufs_hand_laws.proofs.Keys.{itself, alike}
use Rattle.ufs_hand_laws.proofs.Mark.Setting.{Mark, remaking}

module _ (mark : Mark) where
  open mark use {keeps, S, k, word, views, i, v, w, o, at, m}
  open remaking mark use {remade, single_files, r, names_are_kept, file_case, file_present}

  listed_remade : (x : Lease) (p : PartName) → IsListed o.world.file o.world.names x p → IsListed remade.file remade.names x p
  listed_remade x (name.File g) is = by (dec_le 1 (count eqb g v.files))
    where
      by : Dec (1 ≤ count eqb g v.files) → (y : FilePart) × (remade.file g ≡ Some y) × Has x y.leases
      by (yes c) =
          let a = m.file_names g in
          let y = has_count eqb itself alike g w.files (omega arith) in
          let z = m.files g y.0 y.1 in
          let same : z.0 ≡ is.0 = same_some z.0 is.0 (sym (o.one_hand.files.agree i v at g z.0 z.1) ∙ is.1) in
          (y.0, replaced_here eqb itself alike v.files w.files o.world.file single_files g y.0 y.1, subst (Has x) (sym (ap (λ (u : FilePart). u.leases) z.2 ∙ ap (λ (u : FilePart). u.leases) same)) is.2)
      by (no c) = let a = m.file_names g in (is.0, replaced_else eqb itself alike v.files w.files o.world.file g (omega arith) (omega arith) ∙ is.1, is.2)
  listed_remade x name.Names is = subst (Has x) (sym (ap (λ (u : NamesPart). u.leases) names_are_kept)) is
  listed_remade x (name.Client c) is = tt
  listed_remade x (name.Asked c) is = tt
  listed_remade x name.Store is = tt

  pub leases_remade : AreLeasesTrue word.clock (tree_after k.tree o.history) remade.client remade.file remade.names
  leases_remade = record { listed = λ c p x is h live. listed_remade x x.part (o.leases_true.listed c p x is h live); true' = o.leases_true.true'; held = o.leases_true.held; own = o.leases_true.own; ends = o.leases_true.ends }
