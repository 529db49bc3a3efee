use Rattle.std.proofs.Common.{ℕ, ◌≡◌, ◌+◌, ◌*◌, ◌<◌, ◌≤◌, List, [], ◌∷◌, ◌++◌, length, take, drop, ap, sym, ◌∙◌, subst, arith}
use Rattle.std.specs.List.{flat_map, AllByRecursion}
use Rattle.std.proofs.lemmas.List.{take_more, flat_map_more, length-take-le}
use Rattle.ufs_layout.specs.InodeForm.{extent_bytes, FitsExtent}
use Rattle.ufs_layout.specs.declared.inode.Extent.{Extent}
use Rattle.ufs_layout.proofs.Extents.{AllByRecursion-push, length-extents, put-next}
use Rattle.ufs_layout.proofs.inode.put_extents.Goals as goal

-- one extent more is written
more : (at i : ℕ) (old area new : List ℕ) (es : List Extent) (e : Extent) → i < length es → at + 8 * length es ≤ length old
    → area ≡ take at old ++ flat_map extent_bytes (take i es) ++ drop (at + 8 * i) old → new ≡ take (at + 8 * i) area ++ extent_bytes e ++ drop (at + 8 * i + 8) area
    → new ≡ take at old ++ flat_map extent_bytes (take i es ++ e ∷ []) ++ drop (at + 8 * (i + 1)) old
more at i old area new es e less room before here =
    let n : length (take i es) ≡ i = length-take-le i es (omega arith) in
    let sized : length (flat_map extent_bytes (take i es)) ≡ 8 * i = length-extents (take i es) ∙ ap (λ n. 8 * n) n in
    let end : at + 8 * i + 8 ≡ at + 8 * (i + 1) = omega arith in
    put-next at (8 * i) 8 old area new (flat_map extent_bytes (take i es)) (extent_bytes e) (omega arith) sized before here
    ∙ (λ k. take at old ++ flat_map_more extent_bytes [] (take i es) e k ++ drop (end k) old)

pub loop-i-preserved : goal.loop-i-preserved
loop-i-preserved c =
    let next = take_more c.args.extents.now c.loop-i.i _ c.loop-i-test.true in
    record {
      written =
          more c.args.at c.loop-i.i c.args.sector.now c.loop-i.sector c.put_extent.new.sector c.args.extents.now _ c.loop-i-test.true (omega arith) c.loop-i.invariant.written c.put_extent.ensures.spelling
          ∙ ap (λ es. take c.args.at c.args.sector.now ++ flat_map extent_bytes es ++ drop (c.args.at + 8 * (c.loop-i.i + 1)) c.args.sector.now) (sym next);
      in_range = subst (AllByRecursion FitsExtent) (sym next) (AllByRecursion-push FitsExtent (take c.loop-i.i c.args.extents.now) _ c.loop-i.invariant.in_range c.put_extent.ensures.in_range);
    }
