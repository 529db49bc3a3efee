use Rattle.std.proofs.Common.{ap, ◌∙◌}
use Rattle.std.specs.Cmp.{nat_cmp_total}
use Rattle.std.specs.FinMap as fin
use Rattle.std.specs.FinMap.{nat_cmp-IsAntisymmetric}
use Rattle.ufs_files.specs.Files.{Files}
use Rattle.ufs_model.proofs.Facts.Lookups.{inserted_else}
use Rattle.ufs_begin_hands.proofs.files.known_file.Goals as goal

pub returns-in_err-commits-clause-others : goal.returns-in_err-commits-clause-others
returns-in_err-commits-clause-others c other not = ap (λ (m : Files). fin.get m other) c.in-Ok-Some.ensures.ok ∙ inserted_else nat_cmp_total nat_cmp-IsAntisymmetric c.args.files.now c.args.file c.in_ok-empty.empty other not

pub returns-clause-others : goal.returns-clause-others
returns-clause-others c other not = ap (λ (m : Files). fin.get m other) c.in-Ok-Some.ensures.ok ∙ inserted_else nat_cmp_total nat_cmp-IsAntisymmetric c.args.files.now c.args.file c.in_ok-empty.empty other not
