use Rattle.std.proofs.Common.{◌≡◌, ◌≤◌, ℕ, sym, subst, arith}
use Rattle.std.specs.FinSet as set
use Rattle.std.specs.Ordering.{nat_cmp}
use Rattle.ufs_bitmap.specs.Blocks.{BlockSet}
use Rattle.ufs_hand_laws.specs.Owned.{Has}
use Rattle.ufs_primary.specs.OfHome.{HomeState}
use Rattle.ufs_joint.specs.FirstHand.{HasPoolAlone}
use Rattle.ufs_joint.specs.Whole.{no_blocks}
use Rattle.ufs_primary.specs.OfAtPrimary.{AreHere}
use Rattle.ufs_primary.specs.OfServing.{most_at_rest}
use Rattle.ufs_rounds.proofs.Dealt.{home_here}
use Rattle.ufs_rounds.proofs.dealing.deal_primary.Goals as goal

pub deal_pool-right-requires-clause-has : goal.deal_pool-right-requires-clause-has
deal_pool-right-requires-clause-has g c = (no_blocks, subst (λ (n : ℕ). Has {A = ℕ × BlockSet} (n, no_blocks) c.args.hand.now.pools) (sym c.pool_number.ensures) c.requires.has)

pub make-requires-clause-hand : goal.make-requires-clause-hand
make-requires-clause-hand g c =
    let alone = c.deal_pool-right.ensures.pool no_blocks (subst (λ (n : ℕ). Has {A = ℕ × BlockSet} (n, no_blocks) c.args.hand.now.pools) (sym c.pool_number.ensures) c.requires.has) in
    subst (λ (x : ℕ × BlockSet). HasPoolAlone x.0 x.1 c.deal_pool-right.result) (λ i. (c.pool_number.ensures i, sym c.requires.bare i)) alone

pub make-requires-clause-few : goal.make-requires-clause-few
make-requires-clause-few g c = subst (λ (p : BlockSet). set.len p ≤ most_at_rest) (sym c.requires.bare) (let none : set.len no_blocks ≡ 0 = set.len-empty nat_cmp in omega (arith, none))

pub make-requires-clause-here : goal.make-requires-clause-here
make-requires-clause-here g c =
    subst (λ (h : HomeState). AreHere c.args.names h) (sym c.put_back_all.ensures)
    (λ file live standing. home_here c.args.home.places c.args.files.items c.requires.away file (c.requires.live file live))
