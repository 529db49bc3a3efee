use Rattle.std.proofs.Common.{◌≡◌, [], ◌∷◌, rules}
use Rattle.ufs_layout.specs.declared.records.LogRecord.TheVariants.{Delta}
use Rattle.ufs_ilog.specs.Deltas.{extents_of}
use Rattle.ufs_ilog.proofs.DeltaLemmas.{delta_form}
use Rattle.ufs_ilog.proofs.inode_log.file_delta.Goals as goal

pub returns-clause-form : goal.returns-clause-form
returns-clause-form c =
    let is : c.from_vec.result ≡ Delta c.args.inode 1 c.args.size c.args.keep (extents_of c.args.given.now) ∷ [] = search rules in
    rw is (delta_form c.args.inode c.args.size c.args.keep c.args.given.now c.requires.few c.requires.runs)
