use Rattle.std.proofs.Common.{◌≡◌, ◌<◌, ◌%◌, ◌/◌, length, [], ◌+◌, ◌-◌, ◌++◌, List, ℕ, get_or, sym, ◌∙◌, ap, subst, arith, rules}
use Rattle.std.proofs.lemmas.List.{append-nil}
use Rattle.ufs_disk.specs.Disk.{IsImage}
use Rattle.ufs_disk.specs.Bytes.{image_of}
use Rattle.ufs_disk.specs.Calls.{picked}
use Rattle.ufs_disk.specs.Medium.{medium_moments}
use Rattle.ufs_disk.proofs.Picked.{picked_more, some_possible, get_any, picked_is_image}
use Rattle.ufs_disk.proofs.medium.Medium.crash.Goals as goal

pub loop-sector-preserved : goal.loop-sector-preserved
loop-sector-preserved c =
    let st = (medium_moments c.args.self).state in
    let contents = c.in_ok-contents.contents.items in
    let count : c.len-count.result ≡ length contents = search rules in
    let some : 0 < length contents = some_possible (st c.loop-sector.sector) contents (sym c.in_ok-contents.ensures) in
    let got : c.index.result.now ≡ get_or contents (c.loop-sector.left % length contents) [] = c.index.ensures ∙ ap (λ n. get_or contents (c.loop-sector.left % n) c.index.result.now) count ∙ get_any contents (c.loop-sector.left % length contents) c.index.result.now [] (omega (arith, some)) in
    let image : c.extend_from_slice.new.self.items ≡ c.loop-sector.image.items ++ get_or contents (c.loop-sector.left % length contents) [] =
    c.in_ok-extend_from_slice.ensures.items ∙ ap (λ (l : List ℕ). c.loop-sector.image.items ++ l) got in
    (λ j. image j ++ picked st (c.loop-sector.left / count j) (c.loop-sector.sector + 1) (c.args.self.sectors - (c.loop-sector.sector + 1)))
    ∙ picked_more st c.loop-sector.left c.loop-sector.sector (c.args.self.sectors - c.loop-sector.sector) (c.args.self.sectors - (c.loop-sector.sector + 1)) c.loop-sector.image.items contents
    (omega arith) c.in_ok-contents.ensures
    ∙ c.loop-sector.invariant

pub returns-clause-image : goal.returns-clause-image
returns-clause-image c =
    let st = (medium_moments c.args.self).state in
    let none : c.args.self.sectors - c.loop-sector.sector ≡ 0 = omega (arith, c.loop-sector-test.false) in
    let all : c.loop-sector.image.items ≡ picked st c.args.pick 0 c.args.self.sectors =
    sym (append-nil c.loop-sector.image.items) ∙ ap (λ n. c.loop-sector.image.items ++ picked st c.loop-sector.left c.loop-sector.sector n) (sym none) ∙ c.loop-sector.invariant in
    subst (λ (l : List ℕ). IsImage st (image_of l)) (sym all) (picked_is_image c.args.self.sectors st c.args.self.whole c.args.pick)
