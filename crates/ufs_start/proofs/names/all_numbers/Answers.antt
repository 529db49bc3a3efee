use Rattle.std.proofs.Common.{◌≡◌, ◌≤◌, List, Option, length, ap, sym, ◌∙◌, subst, arith}
use Rattle.std.proofs.lemmas.Result.{err_from_is_err_and}
use Rattle.ufs_image.specs.Catalog.{catalog_at}
use Rattle.ufs_layout.specs.InodeForm.{InodeForm}
use Rattle.ufs_start.specs.Numbers.{is_unnamed_in}
use Rattle.ufs_start.proofs.Unnumbered.{forms_counted, have_numbers, unnamed_file}
use Rattle.ufs_start.proofs.names.all_numbers.Goals as goal

pub unnamed-requires-clause-counted : goal.unnamed-requires-clause-counted
unnamed-requires-clause-counted c =
    let forms : length c.forms.result.now ≡ c.args.geometry.now.inodes = ap length c.forms.ensures ∙ forms_counted c.args.geometry.now c.requires.sound.0 c.args.findings.now c.requires.sound.1.found in
    let files : length c.deref.result.now ≡ length c.in_ok-numbers.numbers.files.items = ap length c.deref.ensures.value in
    omega (arith, forms, files, c.in_ok-numbers.ensures.counted)

pub unnamed-requires-clause-few : goal.unnamed-requires-clause-few
unnamed-requires-clause-few c =
    let forms : length c.forms.result.now ≡ c.args.geometry.now.inodes = ap length c.forms.ensures ∙ forms_counted c.args.geometry.now c.requires.sound.0 c.args.findings.now c.requires.sound.1.found in
    let most = c.requires.geometry.most_inodes in
    omega (arith, forms, most)

pub returns-clause-named : goal.returns-clause-named
returns-clause-named c image u =
    let g = c.args.geometry.now in
    let is = c.damage_law.ensures.catalog image u.whole in
    have_numbers g image c.args.findings.now c.requires.geometry u is (c.damage_law.ensures.sound image (catalog_at g image) is u.whole) c.in_ok-numbers.numbers.files.items
    (λ inode first last.
    sym (λ i. is_unnamed_in (c.forms.ensures i) (c.deref.ensures.value i) inode)
    ∙ c.in_default.ensures.none inode first (subst (λ (forms : List (Option InodeForm)). inode ≤ length forms) (sym c.forms.ensures) last))

pub returns-in-Some-clause-fault : goal.returns-in-Some-clause-fault
returns-in-Some-clause-fault c image u =
    let g = c.args.geometry.now in
    let is = c.damage_law.ensures.catalog image u.whole in
    let forms : length c.forms.result.now ≡ g.inodes = ap length c.forms.ensures ∙ forms_counted g image c.args.findings.now u.found in
    let last = c.in-Some.ensures.within in (
      unnamed_file g image c.args.findings.now c.requires.geometry u is (c.damage_law.ensures.sound image (catalog_at g image) is u.whole) c.in_ok-numbers.numbers.files.items
          (c.in_ok-numbers.ensures.numbers image u) c.in-Some.inode (record { from_one = c.in-Some.ensures.from_one; within = omega (arith, forms, last) })
          (sym (λ i. is_unnamed_in (c.forms.ensures i) (c.deref.ensures.value i) c.in-Some.inode) ∙ c.in-Some.ensures.unnamed),
      c.requires.whole image u,
    )

pub returns-in_err-numbers-clause-fault : goal.returns-in_err-numbers-clause-fault
returns-in_err-numbers-clause-fault c =
    let p = err_from_is_err_and c.from_residual.result c.from_residual.ensures.1 in
    rw (p.1, p.2) c.in_err-numbers.ensures.lack
