use Rattle.std.proofs.Common.{subst, sym, ◌∙◌}
use Rattle.ufs_ledger.specs.Laws.{CommitsKeep}
use Rattle.ufs_names_commit.proofs.Everything.{all_there}
use Rattle.ufs_names_commit.proofs.laws.all_law.Goals as goal

pub returns : goal.returns
returns c s start history p done same all h =
    all_there c.a_request_keeps_the_tree.ensures c.a_history_goes_by_its_changes.ensures.names s start history p done h all
    (subst CommitsKeep (sym (h.names.going.formed ∙ same)) c.promise_law.ensures.commit)
