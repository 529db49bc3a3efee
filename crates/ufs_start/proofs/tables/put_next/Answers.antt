use Rattle.std.proofs.Common.{◌≡◌, ℕ, ◌-◌, ◌<◌, List, Option, Some, None, length, get_or, ap, sym, ◌∙◌, subst, arith, refl}
use Rattle.std.specs.List.{slice_get}
use Rattle.std.proofs.lemmas.List.{get_or_default}
use Rattle.std.proofs.lemmas.Option.{slice_get_read}
use Rattle.ufs_layout.specs.InodeForm.{InodeForm}
use Rattle.ufs_image.specs.Nodes.{Dir}
use Rattle.ufs_start.specs.Tables.{IsAsRead, IsSoundDir, form_in}
use Rattle.ufs_start.proofs.TableLemmas.{one_bare, one_read, passed_from}
use Rattle.ufs_start.proofs.tables.put_next.Goals as goal

pub returns-then-next-read-clause-so_far : goal.returns-then-next-read-clause-so_far
returns-then-next-read-clause-so_far c =
    one_bare c.args.findings.now.forms c.args.findings.now.dirs c.args.next c.args.table.now.items c.push.new.self.items c.new.result c.requires.so_far c.in_ok-push.ensures.items c.new.ensures

pub read_of-requires : goal.read_of-requires
read_of-requires c =
    let read : List Dir = c.dirs-read.result.now in
    let forms : List (Option InodeForm) = c.forms-forms.result.now in
    let next : ℕ = c.args.next in
    let d : Dir = c.index-read-next-2.result in
    let less : next < length read = omega (arith, c.if-next-read.false) in
    let there : slice_get c.args.findings.now.dirs next ≡ Some d = ap (λ (l : List Dir). slice_get l next) (sym c.dirs-read.ensures) ∙ slice_get_read read (length read) next d refl less c.index-read-next-2.is in
    let one : d ≡ c.index-read-next.result = c.index-read-next-2.is ∙ get_or_default read next d c.index-read-next.result less ∙ sym c.index-read-next.is in
    let inode : d.inode ≡ c.args.inode = ap (λ (x : Dir). x.inode) one ∙ sym c.inode.ensures ∙ omega (arith, c.if-inode.false) in
    let long : length forms ≡ length c.args.findings.now.forms = ap length c.forms-forms.ensures in
    let form : c.index-forms-inode.result ≡ form_in c.args.findings.now.forms d.inode =
    c.index-forms-inode.is ∙ get_or_default forms (c.args.inode - 1) c.index-forms-inode.result None (omega (arith, c.requires.from_one, c.requires.within, long))
    ∙ (λ i. get_or (c.forms-forms.ensures i) (sym inode i - 1) None) in
    subst (λ (o : Option InodeForm). IsSoundDir o d.slots) (sym form) (c.requires.sound.each next d there)

pub returns-clause-so_far : goal.returns-clause-so_far
returns-clause-so_far c =
    let read : List Dir = c.dirs-read.result.now in
    let forms : List (Option InodeForm) = c.forms-forms.result.now in
    let next : ℕ = c.args.next in
    let d : Dir = c.index-read-next-2.result in
    let less : next < length read = omega (arith, c.if-next-read.false) in
    let there : slice_get c.args.findings.now.dirs next ≡ Some d = ap (λ (l : List Dir). slice_get l next) (sym c.dirs-read.ensures) ∙ slice_get_read read (length read) next d refl less c.index-read-next-2.is in
    let one : d ≡ c.index-read-next.result = c.index-read-next-2.is ∙ get_or_default read next d c.index-read-next.result less ∙ sym c.index-read-next.is in
    let inode : d.inode ≡ c.args.inode = ap (λ (x : Dir). x.inode) one ∙ sym c.inode.ensures ∙ omega (arith, c.if-inode.false) in
    let long : length forms ≡ length c.args.findings.now.forms = ap length c.forms-forms.ensures in
    let form : c.index-forms-inode.result ≡ form_in c.args.findings.now.forms d.inode =
    c.index-forms-inode.is ∙ get_or_default forms (c.args.inode - 1) c.index-forms-inode.result None (omega (arith, c.requires.from_one, c.requires.within, long))
    ∙ (λ i. get_or (c.forms-forms.ensures i) (sym inode i - 1) None) in
    one_read c.args.findings.now.forms c.args.findings.now.dirs next c.args.table.now.items c.push-2.new.self.items c.in_ok-dir.dir c.requires.so_far c.in_ok-push-2.ensures.items d there (inode ∙ c.requires.behind)
    (subst (λ (o : Option InodeForm). IsAsRead o d.slots c.in_ok-dir.dir) form c.in_ok-dir.ensures)

pub returns-clause-from : goal.returns-clause-from
returns-clause-from c =
    let read : List Dir = c.dirs-read.result.now in
    let next : ℕ = c.args.next in
    let d : Dir = c.index-read-next-2.result in
    let less : next < length read = omega (arith, c.if-next-read.false) in
    let there : slice_get c.args.findings.now.dirs next ≡ Some d = ap (λ (l : List Dir). slice_get l next) (sym c.dirs-read.ensures) ∙ slice_get_read read (length read) next d refl less c.index-read-next-2.is in
    let one : d ≡ c.index-read-next.result = c.index-read-next-2.is ∙ get_or_default read next d c.index-read-next.result less ∙ sym c.index-read-next.is in
    let inode : d.inode ≡ c.args.inode = ap (λ (x : Dir). x.inode) one ∙ sym c.inode.ensures ∙ omega (arith, c.if-inode.false) in
    passed_from c.args.findings.now.dirs next c.args.inode d there inode c.requires.sound.rising
