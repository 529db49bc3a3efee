-- Files that may be a tree's may be the next tree's, too.
use Rattle.std.proofs.Common.{◌≡◌, ℕ, ◌⊎◌, inl, inr, [], Option, Some, None, refl, sym, ap, ◌∙◌, subst}
use Rattle.std.specs.FinMap as map
use Rattle.ufs_file.specs.Hand.{FileState, IsFileOf}
use Rattle.ufs_files.specs.Files.{Files, AreFilesOf}
use Rattle.ufs_model.specs.PosixTree.{PosixTree}
use Rattle.ufs_model.specs.Posix.{posix}
use Rattle.ufs_model.specs.declared.data.Ask.{Ask}
use Rattle.ufs_model.specs.declared.data.Desc.{Desc}
use Rattle.ufs_model.specs.declared.data.Reply.{Reply}
use Rattle.ufs_model.proofs.Facts.Lookups.{there_or_not}
use Rattle.ufs_names.specs.Calls.{FilesGoOn, HasNoByte, IsServed}
use Rattle.ufs_names.specs.NamesPart.{NamesPart}

module _ (t u : PosixTree) (fs fs' : Files) (files : AreFilesOf fs t) (on : FilesGoOn t u fs fs') where
  bare : (f i : ℕ) (r : FileState) → HasNoByte u f i r → (r.file ≡ f) × IsFileOf r u
  bare f i r none = subst (λ (s : FileState). (s.file ≡ f) × IsFileOf s u) (sym none.0) (refl, record { bytes = []; has = none.1; may = record { long = refl; same = λ place there. refl } })

  stayed : (f : ℕ) (s r : FileState) → map.get fs f ≡ Some s → ((r ≡ s) × (map.get u.bytes f ≡ map.get t.bytes f)) ⊎ HasNoByte u f s.inode r → (r.file ≡ f) × IsFileOf r u
  stayed f s r at (inl same) =
      let is = files f s at in
      subst (λ (s : FileState). (s.file ≡ f) × IsFileOf s u) (sym same.0) (is.0, record { bytes = is.1.bytes; has = ap (map.get u.bytes) is.0 ∙ same.1 ∙ ap (map.get t.bytes) (sym is.0) ∙ is.1.has; may = is.1.may })
  stayed f s r at (inr none) = bare f s.inode r none

  pub whole_on : AreFilesOf fs' u
  whole_on f r here = by (there_or_not (map.get fs f))
    where
      by : ((s : FileState) × (map.get fs f ≡ Some s)) ⊎ (map.get fs f ≡ None) → (r.file ≡ f) × IsFileOf r u
      by (inl at) = stayed f at.0 r at.1 (on.stays f at.0 r at.1 here)
      by (inr off) = bare f r.inode r (on.born f r off here)

pub whole_served : (t : PosixTree) (ask : Ask) (new : NamesPart) (fs fs' : Files) (reply : Reply) (desc : Option Desc) → AreFilesOf fs t → IsServed t ask new fs fs' reply desc → AreFilesOf fs' (posix t ask.client ask.op).0
whole_served t ask new fs fs' reply desc files served = whole_on t (posix t ask.client ask.op).0 fs fs' files served.go_on
