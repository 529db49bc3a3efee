use Rattle.ufs_ledger.proofs.Promise.{fewer_kept, writing_kept, entry_kept, commit_kept, shows_now}
use Rattle.std.proofs.Common.{◌∙◌, sym, subst}
use Rattle.ufs_ledger.specs.Laws.{GoesOnBy}
use Rattle.ufs_ledger.proofs.Whole.{beginning_kept, emptied_is_kept, ledger_kept, ledger_goes_on}
use Rattle.ufs_ledger.proofs.Freed.{free_block_kept}
use Rattle.ufs_ledger.proofs.FileCommits.{may_commit, stands_on}
use Rattle.ufs_ledger.proofs.laws.promise_law.Goals as goal

pub returns : goal.returns
returns c = record {
  barrier = λ blocks others s start history names files n less kept. fewer_kept c.args.geometry.now blocks s start history names files n kept others less;
  write = λ blocks s block bytes start history names files n now kept. writing_kept c.args.geometry.now blocks s start history names files n kept block bytes now;
  entry = λ blocks s start history entry names files n is legal acked kept. entry_kept c.args.geometry.now blocks s start history names files n kept c.a_request_keeps_the_tree.ensures is entry legal.entries acked;
  commit = λ blocks s t start history names more files others n m is legal on kept. commit_kept c.args.geometry.now blocks s start history names files n kept c.a_request_keeps_the_tree.ensures is legal.entries t more others m on;
  file = λ blocks s start history names files n file inode number size keep extents sound covers kept go.
      stands_on c.args.geometry.now blocks s start history names files n file inode number size keep extents sound covers kept go;
  may = λ blocks s start history names files n file inode number size keep extents sound covers kept go.
      may_commit c.args.geometry.now blocks s start history names files n file inode number size keep extents sound covers kept go;
  zeros = λ blocks s block start history names files n sound covers no_dir kept. free_block_kept c.args.geometry.now s block covers no_dir sound c.requires blocks start history names files n kept;
  written = λ l block bytes start history now maybe same none now_there kept. (ledger_kept l start history now maybe none kept).0 block bytes now_there;
  settled = λ l start history now maybe same none kept. (ledger_kept l start history now maybe none kept).1;
  committing = λ l t start history now next same none is legal kept on.
      (ledger_goes_on l t start history now next c.a_request_keeps_the_tree.ensures none is legal.entries kept (subst (λ g. GoesOnBy g l t start history now next) (sym same) on)).0;
  committed = λ l t start history now next same none is legal kept on.
      (ledger_goes_on l t start history now next c.a_request_keeps_the_tree.ensures none is legal.entries kept (subst (λ g. GoesOnBy g l t start history now next) (sym same) on)).1;
  beginning = λ l superblock home start history now maybe same next kept. beginning_kept l superblock home start history now maybe (next ∙ sym same) kept;
  emptied = λ l superblock home start history now maybe same next kept. emptied_is_kept l superblock home start history now maybe (next ∙ sym same) kept;
  now = λ blocks shape opening changes size now. shows_now blocks shape opening changes size now;
}
