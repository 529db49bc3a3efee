use Rattle.std.proofs.Common.{◌≡◌, List, [], take}
use Rattle.std.specs.Prelude.{IsTrue}
use Rattle.ufs_model.specs.PosixTree.{PosixTree}
use Rattle.ufs_model.specs.declared.data.Entry.{Entry}
use Rattle.ufs_promise_laws.specs.Known.{Known}
use Rattle.ufs_promise_laws.specs.OnDisk.{IsExplainedBetween}
use Rattle.ufs_promise_laws.specs.Parts.{Parts}
use Rattle.ufs_names_commit.specs.Ready.{HasZeros}
use Rattle.ufs_names_commit.proofs.zeros.write_zeros.Given as goal

abbrev pub invariant-loop-place : goal.invariant-loop-place
invariant-loop-place g l = record {
  passed : g.D.Door.store l.door ≡ record (g.D.Door.store l.fn.door) { moments = (g.D.Door.store l.door).moments; unsettled = (g.D.Door.store l.door).unsettled };
  moments : IsTrue g.D.Door.visible → (start : PosixTree) (history : List Entry) (p : Parts) (known : Known) → p.fresh ≡ l.fn.fresh → HasZeros (g.D.Door.store l.fn.door) start history p known []
      → IsExplainedBetween g.D.Door.keeps (g.D.Door.store l.fn.door).sectors start history (g.D.Door.store l.fn.door).moments (g.D.Door.store l.door).moments;
  zero : IsTrue g.D.Door.visible → (start : PosixTree) (history : List Entry) (p : Parts) (known : Known) → p.fresh ≡ l.fn.fresh → HasZeros (g.D.Door.store l.fn.door) start history p known [] → HasZeros (g.D.Door.store l.door) start history p known (take l.place l.fn.fresh);
}
