use Rattle.std.proofs.Common.{refl, ◌≡◌, ◌+◌, ap, sym, ◌∙◌, set, [], ◌∷◌, ◌++◌, arith, add-one}
use Rattle.std.specs.List.{list_all}
use Rattle.ufs_layout.specs.Words.{padded}
use Rattle.ufs_layout.specs.InodeForm.{extents_at, is_extent, no_extent}
use Rattle.ufs_layout.proofs.Extents.{length-extents_at, extents_at-suc, list_all-push, no_block_at, padded-push}
use Rattle.ufs_layout.proofs.inode.read_extents.Goals as goal

pub returns-then-extent-eq0 : goal.returns-then-extent-eq0
returns-then-extent-eq0 c =
    let none = no_block_at c.args.count c.loop-i.i c.args.area.now (omega arith) (ap is_extent (sym c.extent_at-extent.ensures) ∙ grind arith) in
    rw none refl

pub loop-i-preserved : goal.loop-i-preserved
loop-i-preserved c =
    let more : extents_at (c.loop-i.i + 1) c.args.area.now ≡ _ = ap (λ n. extents_at n c.args.area.now) (add-one c.loop-i.i) ∙ extents_at-suc c.loop-i.i c.args.area.now in
    record {
      taken =
          ap (λ es. set es c.loop-i.i c.extent_at-extent.result) c.loop-i.invariant.taken
          ∙ padded-push no_extent 56 c.loop-i.i (extents_at c.loop-i.i c.args.area.now) c.extent_at-extent.result (length-extents_at c.loop-i.i c.args.area.now) (omega arith)
          ∙ ap (padded no_extent 56) (ap (λ e. extents_at c.loop-i.i c.args.area.now ++ e ∷ []) c.extent_at-extent.ensures ∙ sym more);
      used = ap (list_all is_extent) more ∙ list_all-push is_extent (extents_at c.loop-i.i c.args.area.now) _ c.loop-i.invariant.used (ap is_extent (sym c.extent_at-extent.ensures) ∙ grind arith);
    }
