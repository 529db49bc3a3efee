use Rattle.std.proofs.Common.{◌≡◌, Ok, sym, subst}
use Rattle.std.proofs.lemmas.Result.{IfErr-weaker, IfOk-weaker}
use Rattle.ufs_base.specs.Images.{Image}
use Rattle.ufs_disk.specs.Moments.{reads}
use Rattle.ufs_image.specs.Opens.{opens}
use Rattle.ufs_metadata.specs.Faults.{IsOutside}
use Rattle.ufs_metadata.proofs.Outside.{why_outside}
use Rattle.ufs_metadata.proofs.Quiet.{read_more}
use Rattle.ufs_opening.specs.Told.{TellsWhy}
use Rattle.ufs_opening.specs.Heads.{HasHeads}
use Rattle.ufs_opening.specs.Shown.{IsOpened}
use Rattle.ufs_opening.proofs.tree.tree_heads.Goals as goal

-- a disk that isn't visible reads as anything before and after
pub returns-clause-heads : goal.returns-clause-heads
returns-clause-heads g c =
    let sectors = g.D.Disk.size c.args.disk.now in
    let disk = reads (g.D.Disk.moments c.args.disk.now) in
    IfOk-weaker c.heads_in.result (λ hs. HasHeads g.D.Disk.visible sectors (reads (g.D.Disk.moments c.open.new.disk)) c.args.most hs.items) (λ hs. HasHeads g.D.Disk.visible sectors disk c.args.most hs.items)
    (λ hs is. record {
      tree = is.tree;
      opened = λ visible. subst (λ (d : Image). opens sectors d ≡ Ok is.tree) (c.open.ensures.read_only visible).content (is.opened visible);
      same = is.same;
    })
    (c.heads_in.ensures.heads sectors (λ visible.
    let e = c.in_ok-opened.ensures in
    subst (IsOpened c.in_ok-opened.opened sectors) (sym (c.open.ensures.read_only visible).content) (record { taken = e.taken visible; added = e.added visible; found = e.found visible; whole = e.whole visible })))

pub returns-clause-refused : goal.returns-clause-refused
returns-clause-refused g c visible =
    let disk = reads (g.D.Disk.moments c.args.disk.now) in
    let content : reads (g.D.Disk.moments c.open.new.disk) ≡ disk = (c.open.ensures.read_only visible).content in
    let e = c.in_ok-opened.ensures in
    let is : IsOpened c.in_ok-opened.opened (g.D.Disk.size c.args.disk.now) disk = record { taken = e.taken visible; added = e.added visible; found = e.found visible; whole = e.whole visible } in
    IfErr-weaker c.heads_in.result IsOutside (TellsWhy (g.D.Disk.size c.args.disk.now) disk) (why_outside (opens (g.D.Disk.size c.args.disk.now) disk))
    (c.heads_in.ensures.outside visible (g.D.Disk.size c.args.disk.now) (subst (IsOpened c.in_ok-opened.opened (g.D.Disk.size c.args.disk.now)) (sym content) is))

pub returns-clause-read_only : goal.returns-clause-read_only
returns-clause-read_only g c visible = read_more g.D.Disk.keeps (g.D.Disk.moments c.args.disk.now) (g.D.Disk.moments c.open.new.disk) (g.D.Disk.moments c.heads_in.new.disk) (c.open.ensures.read_only visible) (c.heads_in.ensures.read_only visible)
