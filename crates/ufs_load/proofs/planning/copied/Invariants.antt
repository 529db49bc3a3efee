use Rattle.std.proofs.Common.{◌≡◌, ◌<◌, ◌^◌, ℕ, take, get_or}
use Rattle.ufs_model.specs.declared.data.Load.{Load}
use Rattle.ufs_load.proofs.planning.copied.Given as goal

abbrev pub invariant-loop-load : goal.invariant-loop-load
invariant-loop-load l = record {
  same : l.copy.items ≡ take l.load-index l.loads;
  files : (k : ℕ) (d : Load) → k < l.load-index → (get_or l.loads k d).file < 2 ^ 32;
}
