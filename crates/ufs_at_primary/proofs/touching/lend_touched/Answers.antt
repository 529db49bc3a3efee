use Rattle.std.proofs.Common.{sym, subst}
use Rattle.std.specs.Prelude.{IfSome, IsSome}
use Rattle.ufs_home.specs.Home.{HomeState}
use Rattle.ufs_home.specs.Places.{file_here}
use Rattle.ufs_at_primary.proofs.touching.lend_touched.Goals as goal

pub lend_for-requires : goal.lend_for-requires
lend_for-requires g c = subst (λ (h : HomeState). IfSome c.args.file (λ f. IsSome (file_here h.places f))) (sym c.free_number.ensures.home) c.requires.here
