use Rattle.std.proofs.Common.{ℕ, ap, ◌∙◌}
use Rattle.ufs_owner.specs.Owners.{Owners, is_coming, owner_at, with_owner}
use Rattle.ufs_owner.specs.declared.owner.Owner.TheVariants.{Primary}
use Rattle.ufs_home.specs.Home.{home_of}
use Rattle.ufs_home.proofs.moving.take_in.Goals as goal

pub settle-requires : goal.settle-requires
settle-requires g c = ap (λ (n : ℕ). is_coming (owner_at c.args.owners.now.files n)) c.number-number.ensures.is ∙ c.requires.coming

pub returns-in-Ok-clause-come : goal.returns-in-Ok-clause-come
returns-in-Ok-clause-come g c = λ boxes.
    let owned = ap (λ (o : Owners). o.files) c.settle.ensures.files ∙ ap (λ (n : ℕ). with_owner c.args.owners.now.files n Primary 0) c.number-number.ensures.is in
    (λ i. home_of (c.in-Ok.ensures.ok i) (owned i) boxes)
