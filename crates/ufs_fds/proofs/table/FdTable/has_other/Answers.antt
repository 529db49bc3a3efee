use Rattle.std.proofs.Common.{sym, ap, ◌∙◌, arith}
use Rattle.ufs_model.specs.Asks.{file_in}
use Rattle.ufs_model.specs.PosixTree.{is_number}
use Rattle.ufs_fds.proofs.HoldLemmas.{other_holds, none_holds}
use Rattle.ufs_fds.proofs.table.FdTable.has_other.Goals as goal

pub returns-then-is_of : goal.returns-then-is_of
returns-then-is_of c = λ fds client are.
    sym (other_holds c.args.self.now fds client c.args.fd c.loop-other.other c.args.file are c.if-other-fd.true
    (ap (λ o. is_number c.args.file (file_in o)) (sym c.get.ensures.value) ∙ sym c.if-is_of.ensures))

pub returns : goal.returns
returns c = λ fds client are.
    sym (none_holds c.args.self.now fds client c.args.fd c.args.file are c.requires
    (λ k low high apart. c.loop-other.invariant k low (omega (arith, c.loop-other-test.false, high)) apart))
