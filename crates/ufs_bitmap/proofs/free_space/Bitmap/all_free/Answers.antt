use Rattle.std.proofs.Common.{◌≡◌, ◌-◌, ap, sym, ◌∙◌, arith}
use Rattle.std.specs.FinSet as set
use Rattle.ufs_extent.specs.Runs.{blocks_from}
use Rattle.ufs_bitmap.specs.Blocks.{BlockSet}
use Rattle.ufs_bitmap.specs.Words.{Members}
use Rattle.ufs_bitmap.proofs.SetLemmas.{has-empty, empty_union, has-blocks_between}
use Rattle.ufs_bitmap.proofs.free_space.Bitmap.all_free.Goals as goal

pub insert_all-requires-clause-absent : goal.insert_all-requires-clause-absent
insert_all-requires-clause-absent c b l h = ap (λ (s : BlockSet). set.contains s b) c.in_ok-free.ensures.blocks ∙ has-empty b

-- the blocks that came in are the whole set
all_in : (c : goal.After-insert_all) → c.insert_all.new.self.blocks ≡ set.from_list (blocks_from c.args.first (c.args.blocks - c.args.first))
all_in c =
    let range : BlockSet = set.from_list (blocks_from c.args.first (c.args.blocks - c.args.first)) in
    ap (λ (m : Members). m.blocks) c.insert_all.ensures ∙ ap (λ (s : BlockSet). set.union s range) c.in_ok-free.ensures.blocks ∙ empty_union range

pub invariant_of-result : goal.invariant_of-result
invariant_of-result c =
    let limit_is = ap (λ (m : Members). m.limit) c.insert_all.ensures in (
      c.requires,
      omega (arith, limit_is, c.in_ok-free.ensures.limit, c.div_ceil.ensures),
      λ b h. has-blocks_between c.args.first c.args.blocks b (ap (λ (s : BlockSet). set.contains s b) (sym (all_in c)) ∙ h),
    )

pub returns : goal.returns
returns c = λ i. record { first = c.args.first; blocks = c.args.blocks; free = all_in c i }
