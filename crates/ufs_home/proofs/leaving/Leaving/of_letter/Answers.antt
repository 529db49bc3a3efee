use Rattle.std.proofs.Common.{sym, ◌∙◌}
use Rattle.ufs_home.proofs.Posting.{parcel_is, recall_is}
use Rattle.ufs_home.proofs.leaving.Leaving.of_letter.Goals as goal

pub returns-in-Parcel : goal.returns-in-Parcel
returns-in-Parcel g c = λ m is. c.with_file.ensures ∙ parcel_is m c.in-Parcel.parcel (sym c.in-Parcel.is ∙ is)

pub returns-in-Recall : goal.returns-in-Recall
returns-in-Recall g c = λ m is. c.recall.ensures ∙ recall_is m c.in-Recall.file (sym c.in-Recall.is ∙ is)
