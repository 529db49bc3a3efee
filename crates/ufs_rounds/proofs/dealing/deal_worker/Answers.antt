use Rattle.std.proofs.Common.{◌≡◌, ◌≤◌, ℕ, sym, subst, arith}
use Rattle.std.specs.FinSet as set
use Rattle.std.specs.Ordering.{nat_cmp}
use Rattle.ufs_bitmap.specs.Blocks.{BlockSet}
use Rattle.ufs_joint.specs.FirstHand.{HasPoolAlone}
use Rattle.ufs_joint.specs.Whole.{no_blocks}
use Rattle.ufs_hand_laws.specs.Owned.{Has}
use Rattle.ufs_primary.specs.OfServing.{most_at_rest}
use Rattle.ufs_rounds.proofs.dealing.deal_worker.Goals as goal

pub deal_pool-right-requires-clause-has : goal.deal_pool-right-requires-clause-has
deal_pool-right-requires-clause-has g c = (no_blocks, subst (λ (n : ℕ). Has {A = ℕ × BlockSet} (n, no_blocks) c.args.hand.now.pools) (sym c.pool_number.ensures) c.requires.has)

pub new-requires-clause-hand : goal.new-requires-clause-hand
new-requires-clause-hand g c =
    let alone = c.deal_pool-right.ensures.pool no_blocks (subst (λ (n : ℕ). Has {A = ℕ × BlockSet} (n, no_blocks) c.args.hand.now.pools) (sym c.pool_number.ensures) c.requires.has) in
    subst (λ (x : ℕ × BlockSet). HasPoolAlone x.0 x.1 c.deal_pool-right.result) (λ i. (c.pool_number.ensures i, sym c.requires.bare i)) alone

pub new-requires-clause-few : goal.new-requires-clause-few
new-requires-clause-few g c = subst (λ (p : BlockSet). set.len p ≤ most_at_rest) (sym c.requires.bare) (let none : set.len no_blocks ≡ 0 = set.len-empty nat_cmp in omega (arith, none))
