use Rattle.std.proofs.Common.{◌+◌, ◌*◌, ◌≡◌, ◌≤◌, ◌<◌, ℕ, sym, ap, ◌∙◌, List, take, get_or, refl, arith}
use Rattle.std.proofs.lemmas.List.{take_more}
use Rattle.ufs_model.specs.declared.data.Load.{Load}
use Rattle.ufs_load.specs.Plan.{part_on, load_of}
use Rattle.ufs_load.proofs.LoadLemmas.{load_of-push, part_small}
use Rattle.ufs_load.proofs.totals.totals_of.Goals as goal

pub add-requires : goal.add-requires
add-requires c =
    let x : Load = get_or c.args.loads.now c.loop-load.load-index (record { file = 0; worker = 0; count = 0 }) in
    let few = c.requires in
    let here = c.loop-load-test.true in
    let low : x.worker < 256 = omega arith in
    let small = c.loop-load.invariant.small x.worker low in
    omega arith

pub loop-load-preserved : goal.loop-load-preserved
loop-load-preserved c =
    let loads = c.args.loads.now in
    let i = c.loop-load.load-index in
    let none : Load = record { file = 0; worker = 0; count = 0 } in
    let x : Load = get_or loads i none in
    let light : x.count ≤ 4294967295 = omega arith in
    record {
      values = λ w lt. c.add.ensures w ∙ ap (λ k. k + part_on x w) (c.loop-load.invariant.values w lt) ∙ sym (load_of-push (take i loads) x w)
          ∙ ap (λ (l : List Load). load_of l w) (sym (take_more loads i none c.loop-load-test.true));
      small = λ w lt.
          let e = c.add.ensures w in
          let s = c.loop-load.invariant.small w lt in
          let p = part_small x w 4294967295 light in
          omega arith;
    }
