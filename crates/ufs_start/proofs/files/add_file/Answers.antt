use Rattle.std.proofs.Common.{◌≡◌, ◌+◌, ◌-◌, ℕ, Option, None, Some, inl, inr, get_or, length, slice_index_or, refl, rules, ap, sym, ◌∙◌, subst, arith}
use Rattle.std.specs.Prelude.{IsSome, map as list_map}
use Rattle.std.specs.FinMap as map
use Rattle.std.proofs.lemmas.Result.{err_from_is_err_and}
use Rattle.ufs_file.specs.Content.{block_count, unread}
use Rattle.ufs_files.specs.Files.{Files}
use Rattle.ufs_image.specs.Catalog.{catalog_at}
use Rattle.ufs_image.specs.Images.{form_at}
use Rattle.ufs_image.specs.Nodes as nodes
use Rattle.ufs_image.specs.Opens.{file_bytes}
use Rattle.ufs_layout.specs.InodeForm.{InodeForm}
use Rattle.ufs_model.proofs.Facts.Lookups.{same_some}
use Rattle.ufs_name_tree.specs.NameTable.{file_at}
use Rattle.ufs_promise_laws.specs.Loaded.{AreRead}
use Rattle.ufs_start.specs.Extents.{run_of}
use Rattle.ufs_start.specs.Files.{AreLaid, AreUnread}
use Rattle.ufs_start.proofs.FileLemmas.{alone_with, form_there, here_with, inode_within, kept_with, laid_with, marks_of, may_be, read_with, sound_form, unread_with}
use Rattle.ufs_start.proofs.files.add_file.Goals as goal

pub returns-in_err-hand-clause-refused : goal.returns-in_err-hand-clause-refused
returns-in_err-hand-clause-refused c geometry image are =
    let inode = c.args.inode in
    let at : inode - 1 + 1 ≡ inode = let from = c.requires.from_one in omega (arith, from) in
    let p = err_from_is_err_and c.from_residual.result c.from_residual.ensures.1 in
    rw (p.1, p.2) (c.in_err-hand.ensures.refused (form_at geometry image)
    (form_there geometry image c.args.forms.now are inode (inode - 1) at c.requires.form c.in-Some-forms.form
    (sym c.in-Some-forms.is ∙ c.index-forms-inode.is ∙ ap (λ (o : Option InodeForm). get_or c.args.forms.now (inode - 1) o) c.in-Some-forms.is)))

pub file_in-requires : goal.file_in-requires
file_in-requires c =
    let inode = c.args.inode in
    let at : inode - 1 + 1 ≡ inode = let from = c.requires.from_one in omega (arith, from) in
    let given : slice_index_or c.args.numbers.now inode None ≡ Some c.in-Some.file = search (rules, c.in-Some.is) in
    let s = c.requires.sound c.in-Some.file given in
    sound_form c.args.forms.now inode (inode - 1) at c.requires.form c.index-forms-inode.result c.index-forms-inode.is s.0 c.in-Some-forms.form s.1 c.in-Some-forms.is s.2

pub insert-requires : goal.insert-requires
insert-requires c =
    let given : slice_index_or c.args.numbers.now c.args.inode None ≡ Some c.in-Some.file = search (rules, c.in-Some.is) in
    subst (λ (f : ℕ). map.get c.args.files.now f ≡ None) (sym c.in_ok-hand.ensures.file) (c.requires.absent c.in-Some.file given)

pub returns-clause-alone : goal.returns-clause-alone
returns-clause-alone c file now =
    let files : Files = c.args.files.now in
    let h = c.in_ok-hand.hand in
    let given : slice_index_or c.args.numbers.now c.args.inode None ≡ Some c.in-Some.file = search (rules, c.in-Some.is) in
    elim (alone_with files h.file h file (subst (λ (fs : Files). IsSome (map.get fs file)) c.in_ok-insert.ensures.ok now)) [
      | inl was ↦ inl was
      | inr is ↦ inr (given ∙ ap {B = Option ℕ} Some (sym (is ∙ c.in_ok-hand.ensures.file)))
    ]

pub returns-clause-kept : goal.returns-clause-kept
returns-clause-kept c file was =
    let files : Files = c.args.files.now in
    let h = c.in_ok-hand.hand in
    subst (λ (fs : Files). IsSome (map.get fs file)) (sym c.in_ok-insert.ensures.ok) (kept_with files h.file h file was)

pub returns-clause-here : goal.returns-clause-here
returns-clause-here c file number =
    let files : Files = c.args.files.now in
    let h = c.in_ok-hand.hand in
    let given : slice_index_or c.args.numbers.now c.args.inode None ≡ Some c.in-Some.file = search (rules, c.in-Some.is) in
    let same : file ≡ c.in-Some.file = same_some file c.in-Some.file (sym number ∙ given) in
    subst (λ (fs : Files). IsSome (map.get fs file)) (sym c.in_ok-insert.ensures.ok)
    (subst (λ f. IsSome (map.get (map.insert files h.file h) f)) (c.in_ok-hand.ensures.file ∙ sym same) (here_with files h.file h))

pub returns-clause-read : goal.returns-clause-read
returns-clause-read c geometry image n are numbered sized before =
    let files : Files = c.args.files.now in
    let inode = c.args.inode in
    let h = c.in_ok-hand.hand in
    let e = c.in_ok-hand.ensures in
    let at : inode - 1 + 1 ≡ inode = let from = c.requires.from_one in omega (arith, from) in
    let given : slice_index_or c.args.numbers.now inode None ≡ Some c.in-Some.file = search (rules, c.in-Some.is) in
    let form : form_at geometry image inode ≡ c.in-Some-forms.form = form_there geometry image c.args.forms.now are inode (inode - 1) at c.requires.form c.in-Some-forms.form
    (sym c.in-Some-forms.is ∙ c.index-forms-inode.is ∙ ap (λ (o : Option InodeForm). get_or c.args.forms.now (inode - 1) o) c.in-Some-forms.is) in
    let here : c.in-Some-forms.form ≡ form_at geometry image h.inode = sym form ∙ ap (form_at geometry image) (sym e.inode) in
    let s = c.requires.sound c.in-Some.file given in
    let sound = sound_form c.args.forms.now inode (inode - 1) at c.requires.form c.index-forms-inode.result c.index-forms-inode.is s.0 c.in-Some-forms.form s.1 c.in-Some-forms.is s.2 in
    let long = sized inode (inode_within geometry image c.args.forms.now are inode c.requires.from_one c.requires.form) (ap (λ (f : InodeForm). f.kind) form ∙ sound.kind) in
    subst (λ (fs : Files). AreRead image (catalog_at geometry image) n fs) (sym c.in_ok-insert.ensures.ok)
    (read_with files h.file h image (catalog_at geometry image) n before (record {
      number = refl;
      inode = ap (file_at n.tree) e.inode ∙ numbered inode c.in-Some.file given ∙ ap {B = Option ℕ} Some (sym e.file);
      may = may_be h.content c.in-Some-forms.form.size (file_bytes image (form_at geometry image h.inode)) e.content
          (ap (λ (f : InodeForm). length (file_bytes image f)) (sym here ∙ sym form) ∙ long ∙ ap (λ (f : InodeForm). f.size) form);
      blocks = e.blocks ∙ ap nodes.blocks_of here;
    }))

pub returns-clause-unread : goal.returns-clause-unread
returns-clause-unread c geometry image are before =
    let inode = c.args.inode in
    let h = c.in_ok-hand.hand in
    let e = c.in_ok-hand.ensures in
    let at : inode - 1 + 1 ≡ inode = let from = c.requires.from_one in omega (arith, from) in
    let form : form_at geometry image inode ≡ c.in-Some-forms.form = form_there geometry image c.args.forms.now are inode (inode - 1) at c.requires.form c.in-Some-forms.form
    (sym c.in-Some-forms.is ∙ c.index-forms-inode.is ∙ ap (λ (o : Option InodeForm). get_or c.args.forms.now (inode - 1) o) c.in-Some-forms.is) in
    let here : c.in-Some-forms.form ≡ form_at geometry image h.inode = sym form ∙ ap (form_at geometry image) (sym e.inode) in
    subst (AreUnread (catalog_at geometry image)) (sym c.in_ok-insert.ensures.ok)
    (unread_with c.args.files.now h.file h (catalog_at geometry image) before (e.content ∙ ap (λ (f : InodeForm). unread f.size) here))

pub returns-clause-laid : goal.returns-clause-laid
returns-clause-laid c geometry image are before =
    let inode = c.args.inode in
    let h = c.in_ok-hand.hand in
    let e = c.in_ok-hand.ensures in
    let at : inode - 1 + 1 ≡ inode = let from = c.requires.from_one in omega (arith, from) in
    let form : form_at geometry image inode ≡ c.in-Some-forms.form = form_there geometry image c.args.forms.now are inode (inode - 1) at c.requires.form c.in-Some-forms.form
    (sym c.in-Some-forms.is ∙ c.index-forms-inode.is ∙ ap (λ (o : Option InodeForm). get_or c.args.forms.now (inode - 1) o) c.in-Some-forms.is) in
    let here : c.in-Some-forms.form ≡ form_at geometry image h.inode = sym form ∙ ap (form_at geometry image) (sym e.inode) in
    subst (λ (fs : Files). AreLaid (catalog_at geometry image) fs) (sym c.in_ok-insert.ensures.ok)
    (laid_with c.args.files.now h.file h (catalog_at geometry image) before (record {
      extents = e.runs ∙ ap (λ (f : InodeForm). list_map run_of f.extents) here;
      count = e.count ∙ ap (λ (f : InodeForm). block_count f.size) here;
      marks = marks_of h.content c.in-Some-forms.form.size e.content ∙ sym e.count;
    }))
