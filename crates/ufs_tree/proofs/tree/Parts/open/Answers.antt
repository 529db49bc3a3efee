use Rattle.std.proofs.Common.{◌≡◌, ap, ◌∙◌}
use Rattle.std.specs.FinMap as map
use Rattle.ufs_model.specs.PosixTree.{PosixTree}
use Rattle.ufs_tree.proofs.PartLemmas.{same_tree, fd_undone}
use Rattle.ufs_tree.proofs.tree.Parts.open.Goals as goal

pub returns-in-Err-clause-err : goal.returns-in-Err-clause-err
returns-in-Err-clause-err c =
    let same = c.in-Err.ensures.err in
    let opened : c.make_or_empty.new.self.fds ≡ map.insert c.args.self.now.fds (c.args.client, c.from-key.result) c.desc.result = ap (λ (t : PosixTree). t.fds) same ∙ c.in_ok-open.ensures.ok in
    let fds = fd_undone c.args.self.now.fds _ _ c.args.client c.from-key.result c.desc.result (ap (λ k. map.get c.args.self.now.fds (c.args.client, k)) c.from-key.ensures ∙ c.in-Some.ensures.free) opened c.close.ensures in
    same_tree _ _ _ _ _ _ _ _ (ap (λ (t : PosixTree). t.paths) same) (ap (λ (t : PosixTree). t.bytes) same) fds (ap (λ (t : PosixTree). t.next) same)
