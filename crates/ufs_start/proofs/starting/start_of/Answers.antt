use Rattle.std.proofs.Common.{◌≡◌, ◌∙◌}
use Rattle.std.specs.Prelude.{IfOk, IsTrue}
use Rattle.ufs_base.specs.Images.{Image}
use Rattle.ufs_disk.specs.Bytes.{image_of}
use Rattle.ufs_disk.specs.Moments.{reads}
use Rattle.ufs_front.specs.Fronts.{bytes_of}
use Rattle.ufs_start.specs.Begun.{IsBegun, session_start}
use Rattle.ufs_start.specs.Copies.{image_seen}
use Rattle.ufs_start.specs.declared.parts.Start.{Start}
use Rattle.ufs_walk.proofs.Maps.{if_ok}
use Rattle.ufs_start.proofs.Beginning.{of_calm}
use Rattle.ufs_start.proofs.Copies.{none_there, part_there, seen_is, seen_same, some_there}
use Rattle.ufs_start.proofs.starting.start_of.Given.{Over}
use Rattle.ufs_start.proofs.starting.start_of.Goals.{After-drop-copy}
use Rattle.ufs_start.proofs.starting.start_of.Goals as goal

pub returns-clause-begun : goal.returns-clause-begun
returns-clause-begun g c =
    let disk = g.D.Disk in
    let copy = c.in_ok-copy.copy in
    let image : Image = image_of (bytes_of copy) in
    let size = c.copy_of.ensures.size in
    let seen = seen_same disk.visible (reads (disk.moments c.copy_of.new.disk)) (reads (disk.moments c.args.disk.now)) image (λ visible. (c.copy_of.ensures.read_only visible).content) in
    let starts : c.session_parts-parts.result.start ≡ session_start (disk.size c.args.disk.now) (image_seen disk.visible (reads (disk.moments c.args.disk.now)) image) = c.session_parts-parts.ensures ∙ (λ i. session_start (size i) (seen i)) in
    some_there disk.visible copy.sectors (disk.size c.args.disk.now) image (reads (disk.moments c.args.disk.now)) c.in_ok-copy.ensures.taken c.in_ok-copy.ensures.copied c.start_in.result c.session_parts-parts.result c.start_in.ensures.parts c.start_in.ensures.begun starts

-- ---- over a visible disk

module _ (g : Over) (c : After-drop-copy g) (visible : IsTrue g.D.Disk.visible) where
  -- what a server's beginning on the copy tells of the start is told of it on the disk
  there : (P : Start → Type 0) → ((s : Start) → IsBegun (g.D.Disk.size c.args.disk.now) (reads (g.D.Disk.moments c.args.disk.now)) s → P s) → IfOk c.start_in.result P
  there P =
      let disk = g.D.Disk in
      let copy = c.in_ok-copy.copy in
      let image : Image = image_of (bytes_of copy) in
      let size = c.copy_of.ensures.size in
      let content = (c.copy_of.ensures.read_only visible).content in
      let seen = seen_is disk.visible (reads (disk.moments c.copy_of.new.disk)) image visible ∙ content in
      let starts : c.session_parts-parts.result.start ≡ session_start (disk.size c.args.disk.now) (reads (disk.moments c.args.disk.now)) = c.session_parts-parts.ensures ∙ (λ i. session_start (size i) (seen i)) in
      part_there _ _ _ _ (c.in_ok-copy.ensures.copied visible) c.start_in.result c.session_parts-parts.result c.start_in.ensures.parts c.start_in.ensures.begun starts P

pub returns-clause-standing : goal.returns-clause-standing
returns-clause-standing g c visible = there g c visible _ (λ (s : Start) begun. begun.standing)

pub returns-clause-opened : goal.returns-clause-opened
returns-clause-opened g c visible = there g c visible _ (λ (s : Start) begun. begun.opened)

pub returns-clause-table : goal.returns-clause-table
returns-clause-table g c visible = there g c visible _ (λ (s : Start) begun. begun.table)

pub returns-clause-names : goal.returns-clause-names
returns-clause-names g c visible = there g c visible _ (λ (s : Start) begun. begun.names)

pub returns-clause-read : goal.returns-clause-read
returns-clause-read g c visible = there g c visible _ (λ (s : Start) begun. begun.read)

pub returns-clause-files : goal.returns-clause-files
returns-clause-files g c visible = there g c visible _ (λ (s : Start) begun. begun.files)

pub returns-clause-free : goal.returns-clause-free
returns-clause-free g c visible = there g c visible _ (λ (s : Start) begun. begun.free)

pub returns-clause-unread : goal.returns-clause-unread
returns-clause-unread g c visible = there g c visible _ (λ (s : Start) begun. begun.unread)

pub returns-clause-inodes : goal.returns-clause-inodes
returns-clause-inodes g c = if_ok c.start_in.result _ _ (λ (s : Start) some. some.1.inodes) (returns-clause-begun g c)

pub returns-clause-here : goal.returns-clause-here
returns-clause-here g c = if_ok c.start_in.result _ _ (λ (s : Start) some. some.1.here) (returns-clause-begun g c)

pub returns-clause-first : goal.returns-clause-first
returns-clause-first g c = if_ok c.start_in.result _ _ (λ (s : Start) some. some.1.first) (returns-clause-begun g c)

pub returns-clause-blocks : goal.returns-clause-blocks
returns-clause-blocks g c = if_ok c.start_in.result _ _ (λ (s : Start) some. some.1.blocks) (returns-clause-begun g c)

pub returns-clause-apart : goal.returns-clause-apart
returns-clause-apart g c = if_ok c.start_in.result _ _ (λ (s : Start) some. some.1.apart) (returns-clause-begun g c)

pub returns-clause-refused : goal.returns-clause-refused
returns-clause-refused g c visible = none_there _ _ _ _ (c.in_ok-copy.ensures.copied visible) c.start_in.result c.start_in.ensures.refused

pub returns-clause-cause : goal.returns-clause-cause
returns-clause-cause g c = of_calm c.start_in.result (g.D.Disk.faults c.args.disk.now) (g.D.Disk.faults c.copy_of.new.disk) c.in_ok-copy.ensures.passed c.start_in.ensures.calm
