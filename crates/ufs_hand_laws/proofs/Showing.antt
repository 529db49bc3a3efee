-- What a disk shows at the opening, and while its images open to the same trees.
use Rattle.std.proofs.Common.{◌≡◌, [], Some, ◌∙◌, arith}
use Rattle.ufs_model.specs.PosixTree.{Paths}
use Rattle.ufs_model.specs.Laws.{KeepsTrees}
use Rattle.ufs_crash_laws.proofs.Facts.Ends.{all_files, last_shown}
use Rattle.ufs_hand_laws.specs.Shown.{nodes_of, OpeningsShow, SameTreesShow}

some_is : (p q : Paths) → Some p ≡ Some q → p ≡ q
some_is p q e = cc

pub openings_show : KeepsTrees → OpeningsShow
openings_show keeps start files cells is none opens image at =
    let o = opens image at in (
      o.0,
      o.1,
      record {
        shown_names = 0;
        shown_files = all_files start [];
        most_names = omega arith;
        most_files = λ file. let z = none file in omega arith;
        shown = last_shown keeps start is [] tt (nodes_of o.0) o.2;
        placed = λ p is. some_is start.paths p is;
      },
    )

pub same_trees_show : SameTreesShow
same_trees_show start history files names paths old new alike shows image at =
    let a = alike image at in
    let o = shows a.0 a.1 in (o.0, a.2 ∙ o.1, o.2)
