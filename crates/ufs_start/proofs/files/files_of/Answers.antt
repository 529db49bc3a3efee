use Rattle.std.proofs.Common.{◌≡◌, ◌+◌, inl, inr, List, Option, None, length, slice_index_or, ap, sym, ◌∙◌, arith}
use Rattle.std.specs.FinMap as map
use Rattle.std.proofs.lemmas.Bool.{cases_lt}
use Rattle.std.proofs.lemmas.Result.{err_from_is_err_and}
use Rattle.ufs_image.specs.Catalog.{catalog_at}
use Rattle.ufs_layout.specs.InodeForm.{InodeForm}
use Rattle.ufs_start.specs.Tables.{form_in}
use Rattle.ufs_start.proofs.FileLemmas.{inside, names_inode, none_here, none_laid, none_read, none_told, none_unread}
use Rattle.ufs_start.proofs.files.files_of.Goals as goal

pub loop-place-init : goal.loop-place-init
loop-place-init c =
    let none : c.new-files.result ≡ map.empty = c.new-files.ensures in
    record {
      read = λ geometry image n found numbered sized. none_read image (catalog_at geometry image) n c.new-files.result none;
      here = λ inode file from within number. absurd (omega (arith, from, within));
      told = λ file here. absurd (none_told c.new-files.result file none here);
      unread = λ geometry image found. none_unread (catalog_at geometry image) c.new-files.result none;
      laid = λ geometry image found. none_laid (catalog_at geometry image) c.new-files.result none;
    }

pub add_file-requires-clause-sound : goal.add_file-requires-clause-sound
add_file-requires-clause-sound c file number =
    let s = c.requires.sound.each (c.loop-place.place + 1) file (omega arith) number in
    (s.0, ap (λ (l : List (Option InodeForm)). form_in l (c.loop-place.place + 1)) c.forms-forms.ensures ∙ s.1, s.2)

pub add_file-requires-clause-absent : goal.add_file-requires-clause-absent
add_file-requires-clause-absent c file number =
    none_here (map.get c.loop-place.files file) (λ here.
    let at = c.loop-place.invariant.told file here in
    let same = c.requires.sound.once at.0 (c.loop-place.place + 1) file at.3 number in
    let most = at.2 in
    omega (arith, most, same))

pub returns-in_err-add_file-clause-refused : goal.returns-in_err-add_file-clause-refused
returns-in_err-add_file-clause-refused c geometry image found =
    let p = err_from_is_err_and c.from_residual.result c.from_residual.ensures.1 in
    rw (p.1, p.2) (c.in_err-add_file.ensures.refused geometry image (c.forms-forms.ensures ∙ found.forms))

pub returns-in_err-add_file-clause-named : goal.returns-in_err-add_file-clause-named
returns-in_err-add_file-clause-named c geometry image found =
    let p = err_from_is_err_and c.from_residual.result c.from_residual.ensures.1 in
    let forms = c.forms-forms.result.now in
    rw (p.1, p.2) (names_inode geometry image forms (c.forms-forms.ensures ∙ found.forms) c.loop-place.place (omega arith) c.in_err-add_file.field-0.0 c.in_err-add_file.ensures.named)

pub loop-place-preserved : goal.loop-place-preserved
loop-place-preserved c =
    let i = c.loop-place.invariant in
    let e = c.in_ok-add_file.ensures in
    let place = c.loop-place.place in
    record {
      read = λ geometry image n found numbered sized. e.read geometry image n (c.forms-forms.ensures ∙ found.forms) numbered sized (i.read geometry image n found numbered sized);
      here = λ inode file from within number. elim (cases_lt inode (place + 1)) [
        | inl less ↦ e.kept file (i.here inode file from (omega (arith, less)) number)
        | inr last ↦ (let at : inode ≡ place + 1 = omega (arith, within, last) in
            e.here file (ap (λ k. slice_index_or c.args.numbers.now k None) (sym at) ∙ number))
      ];
      told = λ file here. elim (e.alone file here) [
        | inl was ↦ (let at = i.told file was in let most = at.2 in (at.0, at.1, omega (arith, most), at.3))
        | inr number ↦ (place + 1, omega arith, omega arith, number)
      ];
      unread = λ geometry image found. e.unread geometry image (c.forms-forms.ensures ∙ found.forms) (i.unread geometry image found);
      laid = λ geometry image found. e.laid geometry image (c.forms-forms.ensures ∙ found.forms) (i.laid geometry image found);
    }

pub returns-clause-here : goal.returns-clause-here
returns-clause-here c inode file from number =
    let within = inside c.args.numbers.now inode file number in
    let counted = c.requires in
    let long = ap (length {A = Option InodeForm}) c.forms-forms.ensures in
    c.loop-place.invariant.here inode file from (omega (arith, within, counted, long)) number
