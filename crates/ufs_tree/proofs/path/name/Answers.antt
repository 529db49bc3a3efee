use Rattle.std.proofs.Common.{◌≤◌, ◌-◌, ◌∙◌, length, drop, arith, length-drop}
use Rattle.std.proofs.lemmas.List.{take_all}
use Rattle.ufs_tree.proofs.PathLemmas.{last_is}
use Rattle.ufs_tree.proofs.path.name.Goals as goal

pub returns : goal.returns
returns c =
    let path = c.args.path.now in
    let end = c.name_start.result in
    let all : length (drop end path) ≤ length path - end = omega (arith, length-drop end path) in
    take_all (length path - end) (drop end path) all ∙ last_is path end c.name_start.ensures c.requires.whole c.requires.not_root
