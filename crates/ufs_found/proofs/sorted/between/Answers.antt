use Rattle.std.proofs.Common.{not, nat_lt, filter, ap, ◌∙◌, refl}
use Rattle.ufs_found.specs.Sorted.{place_of, is_between}
use Rattle.ufs_found.proofs.Buckets.{filter_both}
use Rattle.ufs_found.proofs.sorted.between.Goals as goal

pub returns : goal.returns
returns c =
    c.up_to_place.ensures ∙ ap (filter (λ b. nat_lt (place_of b.now) c.args.high)) c.from_place.ensures.kept
    ∙ filter_both (λ b. not (nat_lt (place_of b.now) c.args.low)) (λ b. nat_lt (place_of b.now) c.args.high) (λ b. is_between c.args.low c.args.high b.now) (λ b. refl) c.args.list.now
