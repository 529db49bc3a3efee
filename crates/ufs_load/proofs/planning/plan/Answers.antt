use Rattle.std.proofs.Common.{◌≡◌, ◌∙◌, ◌+◌, ◌≤◌, ◌++◌, ◌∷◌, sym, ap, subst, length, length-append, List, arith, refl, [], take, drop, map, All, ◌<◌}
use Rattle.ufs_model.specs.declared.data.Load.{Load}
use Rattle.ufs_load.specs.declared.moves.Move.{Move}
use Rattle.ufs_load.specs.Plan.{Lead, after, on_worker, IsNextMove}
use Rattle.ufs_load.proofs.LoadLemmas.{few_loads, lead-push, length-after, refilled}
use Rattle.ufs_load.proofs.planning.plan.Goals as goal

pub loop-made-init : goal.loop-made-init
loop-made-init c =
    let left : c.in_ok-left.left.items ≡ c.args.loads.now = c.in_ok-left.ensures.same ∙ c.as_slice.ensures in
    let few = few_loads c.args.loads.now c.requires (subst (λ (l : List Load). All (λ (x : Load). x.file < 4294967296) l) c.as_slice.ensures c.in_ok-left.ensures.files) in
    let long = ap length left in
    record {
      lead = subst (λ (m : List Move). Lead c.args.loads.now c.args.workers m c.in_ok-left.left.items) (sym c.new-moves.ensures.items) left;
      count = ap length c.new-moves.ensures.items;
      small = omega arith;
    }

pub loop-made-preserved : goal.loop-made-preserved
loop-made-preserved c =
    let loads = c.args.loads.now in
    let old = c.loop-made.left.items in
    let new = c.make_move.new.loads in
    let next : Move = c.in-Some.next in
    let moved : new ≡ after old next = c.make_move.ensures ∙ ap (map (on_worker next.file next.to)) c.deref_mut.ensures.value in
    let long : length new ≡ c.loop-made.left.len = ap length moved ∙ length-after old next ∙ sym c.loop-made.left.ok.0 in
    let left : take c.loop-made.left.len (new ++ drop (length new) old) ≡ after old next = refilled c.loop-made.left.len new (drop (length new) old) long ∙ moved in
    let taken : List Load = take c.loop-made.left.len (new ++ drop (length new) old) in
    let pushed = c.in_ok-push.ensures.items in
    record {
      lead = subst (λ (m : List Move). Lead loads c.args.workers m taken) (sym pushed)
          (subst (λ (l : List Load). Lead loads c.args.workers (c.loop-made.moves.items ++ next ∷ []) l) (sym left)
          (lead-push loads c.args.workers c.loop-made.moves.items old next c.loop-made.invariant.lead (subst (λ (l : List Load). IsNextMove l c.args.workers next) c.deref.ensures.value c.in-Some.ensures)));
      count = ap length pushed ∙ length-append c.loop-made.moves.items (next ∷ []) ∙ ap (λ k. k + 1) c.loop-made.invariant.count;
      small =
          let a = ap length left in
          let b = length-after old next in
          let d = c.loop-made.invariant.small in
          omega arith;
    }

pub returns-in_default : goal.returns-in_default
returns-in_default c =
    let old = c.loop-made.left.items in
    let same = ap length c.from_vec.ensures in
    let count = c.loop-made.invariant.count in
    let short = c.loop-made-test.true in
    record {
      left = old;
      lead = subst (λ (m : List Move). Lead c.args.loads.now c.args.workers m old) (sym c.from_vec.ensures) c.loop-made.invariant.lead;
      few = omega arith;
      whole = λ _ m n. c.in_default.ensures m (subst (λ (l : List Load). IsNextMove l c.args.workers m) (sym c.deref.ensures.value) n);
    }
