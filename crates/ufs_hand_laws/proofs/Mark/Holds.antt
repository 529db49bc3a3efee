-- After a mark the names know who holds which file.
use Rattle.std.proofs.Common.{ap, ◌∙◌}
use Rattle.ufs_hand_laws.specs.Parts.{NamesPart, is_holder}
use Rattle.ufs_hand_laws.specs.Holds.{AreHoldsTrue}
use Rattle.ufs_hand_laws.proofs.Mark.Setting.{Mark, remaking}

module _ (mark : Mark) where
  open mark use {keeps, S, k, word, views, i, v, w, o, at, m}
  open remaking mark use {remade, single_files, r, names_are_kept, file_case, file_present}

  pub holds_remade : AreHoldsTrue k o.history remade
  holds_remade c g = ap (λ (z : NamesPart). is_holder z.holds c g) names_are_kept ∙ o.holds c g
