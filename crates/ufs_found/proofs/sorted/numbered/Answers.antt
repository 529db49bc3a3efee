use Rattle.std.proofs.Common.{not, nat_lt, nat_le, filter, ap, ◌∙◌, refl}
use Rattle.ufs_found.specs.Sorted.{number_of, is_numbered}
use Rattle.ufs_found.proofs.Buckets.{filter_both}
use Rattle.ufs_found.proofs.sorted.numbered.Goals as goal

pub returns : goal.returns
returns c =
    c.up_to_number.ensures ∙ ap (filter (λ b. nat_le (number_of b.now) c.args.number)) c.from_number.ensures.kept
    ∙ filter_both (λ b. not (nat_lt (number_of b.now) c.args.number)) (λ b. nat_le (number_of b.now) c.args.number) (λ b. is_numbered c.args.number b.now) (λ b. refl) c.args.list.now
