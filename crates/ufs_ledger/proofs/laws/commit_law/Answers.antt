use Rattle.std.proofs.Common.{sym, subst}
use Rattle.ufs_disk.specs.Disk.{seen}
use Rattle.ufs_journal.specs.Written.{IsMaybeCommitted, CommitsOne}
use Rattle.ufs_image.specs.CatalogLaws.{FoldsCatalogs, FoldsOneMore}
use Rattle.ufs_ledger.specs.Changes.{MayCommit}
use Rattle.ufs_ledger.proofs.States.{appends, commits_or_not, commits_for_good}
use Rattle.ufs_ledger.proofs.laws.commit_law.Goals as goal

pub returns : goal.returns
returns c = record {
  append = λ state l image none used is appended. appends c.args.sectors state l image none used is appended;
  maybe = λ sectors state l t image same none used is later may maybe.
      commits_or_not sectors state l t image (subst FoldsCatalogs (sym same) c.fold_law.ensures.folds) (subst FoldsOneMore (sym same) c.fold_law.ensures.one_more) none used is later (subst (λ g. MayCommit g t l.now) (sym same) may)
      (subst (λ g. IsMaybeCommitted g l.superblock.epoch t state image) (sym same) maybe);
  good = λ sectors old new l t whole same none used is later may settled one.
      commits_for_good sectors old new l t (subst FoldsCatalogs (sym same) c.fold_law.ensures.folds) (subst FoldsOneMore (sym same) c.fold_law.ensures.one_more) none used is later (subst (λ g. MayCommit g t l.now) (sym same) may) settled
      (subst (λ g. CommitsOne g l.superblock.epoch t (seen old) (seen new)) (sym same) one);
}
