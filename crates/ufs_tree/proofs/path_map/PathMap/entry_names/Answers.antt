use Rattle.std.proofs.Common.{◌∙◌, ap}
use Rattle.ufs_model.specs.Directories.{entry_names}
use Rattle.ufs_model.specs.Order.{names_rise}
use Rattle.ufs_model.specs.PosixTree.{Paths}
use Rattle.ufs_tree.proofs.NameLemmas.{all_whole, names_rising, names_are, from_front}
use Rattle.ufs_tree.proofs.path_map.PathMap.entry_names.Goals as goal

pub names_of-requires : goal.names_of-requires
names_of-requires c =
    all_whole c.self.inside.nodes c.args.dir.now c.as_slice.result.now c.self.invariant.whole
    (from_front c.as_slice.result.now c.in_ok-below.below.items c.self.inside.nodes c.front.result.now c.args.dir.now c.as_slice.ensures.value c.in_ok-below.ensures c.front.ensures)

pub from_vec-requires : goal.from_vec-requires
from_vec-requires c =
    ap names_rise c.in_ok-names.ensures
    ∙ names_rising c.self.inside.nodes c.args.dir.now c.as_slice.result.now c.self.invariant.whole
    (from_front c.as_slice.result.now c.in_ok-below.below.items c.self.inside.nodes c.front.result.now c.args.dir.now c.as_slice.ensures.value c.in_ok-below.ensures c.front.ensures)

pub returns : goal.returns
returns c =
    c.from_vec.ensures ∙ c.in_ok-names.ensures
    ∙ names_are c.self.inside.nodes c.args.dir.now c.as_slice.result.now c.self.invariant.whole
    (from_front c.as_slice.result.now c.in_ok-below.below.items c.self.inside.nodes c.front.result.now c.args.dir.now c.as_slice.ensures.value c.in_ok-below.ensures c.front.ensures)
    ∙ ap (λ (m : Paths). entry_names m c.args.dir.now) c.self.view_is
