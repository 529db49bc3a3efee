use Rattle.std.proofs.Common.{◌++◌, [], ◌∷◌, sym, subst}
use Rattle.ufs_held.specs.Together.{HasThemToo}
use Rattle.ufs_joint.specs.Cells.{View}
use Rattle.ufs_held.proofs.Together.{none_too}
use Rattle.ufs_gathered.proofs.Joined.{one_back}
use Rattle.ufs_gathered.proofs.gathering.gather_files.Goals as goal

pub loop-file-init : goal.loop-file-init
loop-file-init g c = none_too c.args.hand.now

pub loop-file-preserved : goal.loop-file-preserved
loop-file-preserved g c =
    let l = c.loop-file in
    let file = c.in-Some.file in
    let parts = c.into_parts-value in
    subst (λ (v : View). HasThemToo (l.yielded ++ file ∷ []) c.args.hand.now v) (sym c.join.ensures) (one_back l.yielded c.args.hand.now l.hand file parts.result.2 l.invariant parts.ensures.hand parts.ensures.calm)
