use Rattle.std.proofs.Common.{◌≡◌, ◌+◌, ◌++◌, ◌<◌, length, ap, sym, ◌∙◌, arith}
use Rattle.std.specs.List.{filter_map, range_with_len}
use Rattle.std.specs.Option.{option_map}
use Rattle.std.proofs.lemmas.Option.{get_or_from_slice_get}
use Rattle.ufs_base.specs.Choices.{some_if}
use Rattle.ufs_image.specs.Damage.{TwoNames, has_two_names}
use Rattle.ufs_damage.specs.Meaning.{meaning}
use Rattle.ufs_damage.specs.Marks.{names_damage}
use Rattle.ufs_damage.proofs.Lists.{told_range, map_filter}
use Rattle.ufs_damage.proofs.Marked.{names_is}
use Rattle.ufs_damage.proofs.names.push_two_of.Goals as goal

pub loop-k-preserved : goal.loop-k-preserved
loop-k-preserved c dirs are =
    let m = c.loop-k.k + 1 in
    let less : m < length c.args.marks.now = omega arith in
    told_range (λ i. some_if (has_two_names dirs i) (TwoNames i)) 1 c.loop-k.k m c.args.list.now c.loop-k.list c.push_some.new.self (option_map meaning c.names_damage.result) (omega arith) (c.loop-k.invariant dirs are)
    (c.names_damage.ensures ∙ ap (names_damage m) (get_or_from_slice_get c.args.marks.now m _ _ (are m less)) ∙ names_is dirs m) c.in_ok-push_some.ensures

pub returns : goal.returns
returns c dirs are =
    let whole : c.loop-k.k ≡ c.args.count = omega arith in
    c.loop-k.invariant dirs are
    ∙ ap (λ l. c.args.list.now ++ l) (ap (λ n. filter_map (λ i. some_if (has_two_names dirs i) (TwoNames i)) (range_with_len 1 n)) whole ∙ sym (map_filter TwoNames (has_two_names dirs) (range_with_len 1 c.args.count)))
