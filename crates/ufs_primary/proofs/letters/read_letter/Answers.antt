use Rattle.std.proofs.Common.{None, Some, refl, sym, subst}
use Rattle.ufs_joint.specs.Cells.{FileCell}
use Rattle.ufs_msg.specs.declared.letter.Letter.{Letter}
use Rattle.ufs_primary.specs.Letters.{IsLetterDone}
use Rattle.ufs_primary.specs.declared.turn.PrimaryTurn.TheVariants as turn
use Rattle.ufs_primary.proofs.letters.read_letter.Goals as goal

pub returns-in-Parcel-clause-done : goal.returns-in-Parcel-clause-done
returns-in-Parcel-clause-done g c = subst (λ (l : Letter FileCell). IsLetterDone c.args.stock.now.home c.settle.new.stock.home c.settle.new.coming l c.settle.result) (sym c.in-Parcel.is) c.settle.ensures.settled

pub returns-in-Recall-clause-done : goal.returns-in-Recall-clause-done
returns-in-Recall-clause-done g c = subst (λ (l : Letter FileCell). IsLetterDone c.args.stock.now.home c.args.stock.now.home c.args.coming.now l None) (sym c.in-Recall.is) (refl, refl, c.requires)

pub returns-clause-done : goal.returns-clause-done
returns-clause-done g c = subst (λ (l : Letter FileCell). IsLetterDone c.args.stock.now.home c.args.stock.now.home c.args.coming.now l (Some turn.Noted)) (sym c.in-Report.is) (refl, refl, c.requires)
