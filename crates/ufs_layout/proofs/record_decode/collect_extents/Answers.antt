use Rattle.std.proofs.Common.{◌≡◌, ◌+◌, [], ◌∷◌, ◌++◌, ap, sym, ◌∙◌, arith, add-one}
use Rattle.std.specs.List.{list_all}
use Rattle.ufs_base.specs.Choices.{some_if}
use Rattle.ufs_layout.specs.InodeForm.{extents_at, is_extent}
use Rattle.ufs_layout.proofs.Extents.{extents_at-suc, list_all-push, no_block_at}
use Rattle.ufs_layout.proofs.record_decode.collect_extents.Goals as goal

pub returns-then-extent-eq0 : goal.returns-then-extent-eq0
returns-then-extent-eq0 c =
    let none = no_block_at c.args.count c.loop-i.i c.args.area.now (omega arith) (ap is_extent (sym c.extent_at-extent.ensures) ∙ grind arith) in
    sym (ap (λ t. some_if t (extents_at c.args.count c.args.area.now)) none)

pub loop-i-preserved : goal.loop-i-preserved
loop-i-preserved c =
    let more : extents_at (c.loop-i.i + 1) c.args.area.now ≡ _ = ap (λ n. extents_at n c.args.area.now) (add-one c.loop-i.i) ∙ extents_at-suc c.loop-i.i c.args.area.now in
    record {
      taken = c.in_ok-push.ensures.items ∙ (λ i. c.loop-i.invariant.taken i ++ c.extent_at-extent.ensures i ∷ []) ∙ sym more;
      used = ap (list_all is_extent) more ∙ list_all-push is_extent (extents_at c.loop-i.i c.args.area.now) _ c.loop-i.invariant.used (ap is_extent (sym c.extent_at-extent.ensures) ∙ grind arith);
    }
