use Rattle.std.proofs.Common.{◌<◌, ◌∷◌, [], false, None, Option, length, get_or, ap, ◌∙◌, arith}
use Rattle.std.proofs.lemmas.List.{length-append}
use Rattle.ufs_layout.specs.InodeForm.{InodeForm}
use Rattle.ufs_recovery.specs.Orphans.{orphan_dir_number, orphan_number}
use Rattle.ufs_recovery.proofs.Marked.{told_more}
use Rattle.ufs_recovery.proofs.OneMore.{any_default}
use Rattle.ufs_recovery.proofs.orphans.find_orphans.Goals as goal

pub loop-place-preserved : goal.loop-place-preserved
loop-place-preserved c =
    let i = c.loop-place.invariant in
    let forms = c.args.forms.now in
    let marks = c.args.reached.now in
    let k = c.loop-place.place in
    let less : k < length forms = c.loop-place-test.true in
    record {
      counted = let long = length-append c.loop-place.numbers.items (c.orphan_number.result ∷ []) in let is = ap length c.in_ok-push.ensures.items in let was = i.counted in omega (arith, long, is, was);
      counted_dirs = let long = length-append c.loop-place.dirs.items (c.orphan_dir_number.result ∷ []) in let is = ap length c.in_ok-push-2.ensures.items in let was = i.counted_dirs in omega (arith, long, is, was);
      numbers = told_more orphan_number forms marks c.loop-place.numbers.items c.push.new.self.items c.orphan_number.result k i.counted c.in_ok-push.ensures.items
          (c.orphan_number.ensures ∙ ap (λ (f : Option InodeForm). orphan_number f (get_or marks k false)) (c.index-forms-place.is ∙ any_default forms k c.index-forms-place.result None less)) i.numbers;
      dirs = told_more orphan_dir_number forms marks c.loop-place.dirs.items c.push-in-loop-place.new.self.items c.orphan_dir_number.result k i.counted_dirs c.in_ok-push-2.ensures.items
          (c.orphan_dir_number.ensures ∙ ap (λ (f : Option InodeForm). orphan_dir_number f (get_or marks k false)) (c.index-forms-place-in-loop-place.is ∙ any_default forms k c.index-forms-place-in-loop-place.result None less)) i.dirs;
    }
