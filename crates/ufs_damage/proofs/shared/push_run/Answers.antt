use Rattle.std.proofs.Common.{◌+◌, ◌<◌, length, ap, refl, ◌∙◌, arith}
use Rattle.std.specs.Option.{option_map}
use Rattle.std.proofs.lemmas.Option.{get_or_from_slice_get}
use Rattle.ufs_image.specs.Damage.{shared_block}
use Rattle.ufs_damage.specs.Meaning.{meaning}
use Rattle.ufs_damage.specs.Marks.{shared_damage}
use Rattle.ufs_damage.proofs.Lists.{told_range}
use Rattle.ufs_damage.proofs.Marked.{shared_is}
use Rattle.ufs_damage.proofs.shared.push_run.Goals as goal

pub loop-k-preserved : goal.loop-k-preserved
loop-k-preserved c nodes are =
    let m = c.args.first + c.loop-k.k in
    let less : m < length c.args.marks.now = omega arith in
    told_range (shared_block nodes) c.args.first c.loop-k.k m c.args.list.now c.loop-k.list c.push_some.new.self (option_map meaning c.shared_damage.result) refl (c.loop-k.invariant nodes are)
    (c.shared_damage.ensures ∙ ap (shared_damage m) (get_or_from_slice_get c.args.marks.now m _ _ (are m less)) ∙ shared_is nodes m) c.in_ok-push_some.ensures
