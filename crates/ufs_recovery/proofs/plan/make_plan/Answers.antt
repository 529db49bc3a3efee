use Rattle.std.proofs.Common.{Option, inl, inr, ⊎_elim, length, ap, sym, ◌∙◌, subst, arith}
use Rattle.ufs_layout.specs.InodeForm.{InodeForm}
use Rattle.ufs_walk.specs.Reached.{AreReachedMarks}
use Rattle.ufs_image.specs.Catalog.{catalog_at}
use Rattle.ufs_recovery.specs.Orphans.{AreNumbersBelow}
use Rattle.ufs_recovery.proofs.Planned.{are_orphans, are_orphan_dirs, number_below, numbers_below}
use Rattle.ufs_recovery.proofs.plan.make_plan.Goals as goal

pub returns-in-Some-clause-orphans : goal.returns-in-Some-clause-orphans
returns-in-Some-clause-orphans c folded found whole =
    let g = c.args.image.now.geometry in
    are_orphans g folded c.forms.result.now (c.forms.ensures ∙ found.forms) c.as_slice.result.now
    (subst (AreReachedMarks g (catalog_at g folded)) (sym c.as_slice.ensures.value) (c.in_ok-reached.ensures.marks folded found whole))
    c.in_ok-orphans.orphans.numbers.items (c.in_ok-orphans.ensures.counted ∙ ap (length {A = Option InodeForm}) c.forms.ensures ∙ c.requires.read) c.in_ok-orphans.ensures.numbers

pub returns-in-Some-clause-dirs : goal.returns-in-Some-clause-dirs
returns-in-Some-clause-dirs c folded found whole =
    let g = c.args.image.now.geometry in
    are_orphan_dirs g folded c.forms.result.now (c.forms.ensures ∙ found.forms) c.as_slice.result.now
    (subst (AreReachedMarks g (catalog_at g folded)) (sym c.as_slice.ensures.value) (c.in_ok-reached.ensures.marks folded found whole))
    c.in_ok-orphans.orphans.dirs.items (c.in_ok-orphans.ensures.counted_dirs ∙ ap (length {A = Option InodeForm}) c.forms.ensures ∙ c.requires.read) c.in_ok-orphans.ensures.dirs

pub returns-in-Some-clause-inodes : goal.returns-in-Some-clause-inodes
returns-in-Some-clause-inodes c folded found k ranged =
    let g = c.args.image.now.geometry in
    let above = c.in-Some.ensures.above in
    let most = c.max-highest.ensures in
    number_below g folded c.forms-2.result.now (c.forms-2.ensures ∙ found.forms) c.highest_number.result c.in-Some.superblock.next c.highest_number.ensures.most (omega (arith, above, most)) k ranged

pub returns-in-Some-clause-least : goal.returns-in-Some-clause-least
returns-in-Some-clause-least c folded found n from over below =
    let g = c.args.image.now.geometry in
    let next = c.in-Some.ensures.next in
    let most = c.max-highest.ensures in
    let under = c.highest_number.ensures.least n (omega (arith, over)) (numbers_below g folded c.forms-2.result.now (c.forms-2.ensures ∙ found.forms) n below) in
    omega (arith, from, over, next, most, under)

pub returns-clause-lack : goal.returns-clause-lack
returns-clause-lack c =
    let most = c.max-highest.ensures in
    ⊎_elim (λ epoch. inl epoch)
    (λ end. inr (λ n over below.
    let under = c.highest_number.ensures.least n (omega (arith, over)) (subst (λ forms. AreNumbersBelow forms n) (sym c.forms-2.ensures) below) in
    omega (arith, over, most, under, end)))
    c.in-None.ensures.none
