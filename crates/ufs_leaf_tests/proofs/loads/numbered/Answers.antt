use Rattle.std.proofs.Common.{◌≡◌, ◌+◌, sym, subst, refl, List}
use Rattle.ufs_model.specs.declared.data.Load.{Load}
use Rattle.ufs_load.specs.Laws.{AreOfFiles}
use Rattle.ufs_leaf_tests.proofs.FileLemmas.{AreBelow, no_files, no_low, push_files, push_low}
use Rattle.ufs_leaf_tests.proofs.loads.numbered.Goals as goal

pub loop-i-init : goal.loop-i-init
loop-i-init c = record {
  distinct = no_files c.new-loads.result.items c.new-loads.ensures.items;
  low = no_low c.new-loads.result.items 0 c.new-loads.ensures.items;
}

pub loop-i-preserved : goal.loop-i-preserved
loop-i-preserved c = record {
  distinct = subst AreOfFiles (sym c.in_ok-push.ensures.items) (push_files c.loop-i.loads.items _ c.loop-i.i c.loop-i.invariant.distinct c.loop-i.invariant.low refl);
  low = subst (λ (l : List Load). AreBelow l (c.loop-i.i + 1)) (sym c.in_ok-push.ensures.items) (push_low c.loop-i.loads.items _ c.loop-i.i c.loop-i.invariant.low refl);
}
