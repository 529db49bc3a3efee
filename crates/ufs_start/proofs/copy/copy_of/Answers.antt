use Rattle.std.proofs.Common.{◌≡◌, ◌≤◌, ◌*◌, ℕ, length, min, ap, sym, ◌∙◌, subst, arith}
use Rattle.ufs_base.specs.Images.{Image}
use Rattle.ufs_disk.specs.Bytes.{image_of}
use Rattle.ufs_disk.specs.Disk.{bytes_from}
use Rattle.ufs_disk.specs.Moments.{reads}
use Rattle.ufs_metadata.proofs.Quiet.{read_more}
use Rattle.ufs_layout.specs.Areas.{sector_count}
use Rattle.ufs_layout.specs.declared.geometry.Geometry.{Geometry}
use Rattle.ufs_start.specs.Copies.{IsUsed}
use Rattle.ufs_front.specs.Fronts.{bytes_of}
use Rattle.ufs_front.specs.Padded.{padded_sized, padded_small}
use Rattle.ufs_start.proofs.Copied.{lengths_there, within}
use Rattle.ufs_start.proofs.FirstSector.{own_count, refused_count}
use Rattle.ufs_start.proofs.copy.copy_of.Goals as goal

pub returns-in_default-clause-taken : goal.returns-in_default-clause-taken
returns-in_default-clause-taken g c =
    let count = c.min-count.result in
    let all = c.sectors-sectors.result in
    let some = c.if-sectors-eq0.false in
    let least = c.min-count.ensures in
    let long = c.in_ok-first.ensures.long in
    let first : count ≡ min 8 all = omega (arith, least) in
    c.in_ok-copy.ensures.sectors
    ∙ refused_count all (g.D.Disk.size c.args.disk.now) count (image_of c.deref.result.now) (image_of (bytes_of c.in_ok-copy.copy)) c.sectors-sectors.ensures
    (c.in_ok-copy.ensures.first 0 (let value = ap (length {A = ℕ}) c.deref-in_default.ensures.value in omega (arith, long, value, some, first)) ∙ ap (λ l. image_of l 0) (c.deref-in_default.ensures.value ∙ sym c.deref.ensures.value)) c.in_default.ensures.refused first

pub returns-in_default-clause-copied : goal.returns-in_default-clause-copied
returns-in_default-clause-copied g c visible =
    let size = g.D.Disk.size c.args.disk.now in
    let state = (g.D.Disk.moments c.args.disk.now).state in
    let whole = g.met.D.Disk.whole visible c.args.disk.now in
    let copy = c.in_ok-copy.copy in
    let count = c.min-count.result in
    let first : count ≡ min 8 c.sectors-sectors.result = let least = c.min-count.ensures in omega (arith, least) in
    let fits : count ≤ size = let least = c.min-count.ensures in let all = c.sectors-sectors.ensures in omega (arith, least, all) in
    let counted = c.in_ok-copy.ensures.sectors in
    let long = c.in_ok-first.ensures.long in
    let value = ap (length {A = ℕ}) c.deref-in_default.ensures.value in
    record {
      taken = returns-in_default-clause-taken g c;
      same = λ s used. let less = used.inside in
          c.in_ok-copy.ensures.first s (omega (arith, less, counted, long, value))
          ∙ within size state whole count fits c.deref-in_default.result.now (c.deref-in_default.ensures.value ∙ c.in_ok-first.ensures.bytes visible) s (omega (arith, less, counted));
      sized = lengths_there size state whole copy.sectors (omega (arith, counted, fits)) (bytes_of copy) (padded_small (512 * copy.sectors) copy.held.items copy.small_bytes) (padded_sized (512 * copy.sectors) copy.held.items copy.within);
    }

pub returns-clause-taken : goal.returns-clause-taken
returns-clause-taken g c =
    c.in_ok-copy-2.ensures.sectors
    ∙ own_count c.sectors-sectors.result (g.D.Disk.size c.args.disk.now) (sector_count c.in-Some.geometry) (image_of c.deref.result.now) (image_of (bytes_of c.in_ok-copy-2.copy)) c.sectors-sectors.ensures
    (c.in_ok-copy-2.ensures.first ∙ ap (λ l. image_of l 0) (c.deref-2.ensures.value ∙ sym c.deref.ensures.value)) c.in-Some.ensures.taken (ap (λ (h : Geometry). sector_count h) c.in-Some.ensures.fields)

pub returns-clause-copied : goal.returns-clause-copied
returns-clause-copied g c visible =
    let size = g.D.Disk.size c.args.disk.now in
    let old = g.D.Disk.moments c.args.disk.now in
    let now = g.D.Disk.moments c.first_sectors.new.disk in
    let copy = c.in_ok-copy-2.copy in
    let content = (c.first_sectors.ensures.read_only visible).content in
    let eight : c.min-count.result ≡ 8 = let least = c.min-count.ensures in let room = c.in-Some.ensures.large in let some = c.in-Some.ensures.limits.least_blocks in omega (arith, least, room, some) in
    let front : c.deref-2.result.now ≡ bytes_from (reads now) 0 8 = c.deref-2.ensures.value ∙ c.in_ok-first.ensures.bytes visible ∙ ap (bytes_from (reads old) 0) eight ∙ ap (λ (d : Image). bytes_from d 0 8) (sym content) in
    let counted = c.in_ok-copy-2.ensures.sectors in
    let fits : copy.sectors ≤ size = let room = c.in-Some.ensures.large in let sized = c.sectors-sectors.ensures in omega (arith, room, sized, counted) in
    record {
      taken = counted
          ∙ own_count c.sectors-sectors.result size (sector_count c.in-Some.geometry) (image_of c.deref.result.now) (image_of (bytes_of copy)) c.sectors-sectors.ensures
          (c.in_ok-copy-2.ensures.first ∙ ap (λ l. image_of l 0) (c.deref-2.ensures.value ∙ sym c.deref.ensures.value)) c.in-Some.ensures.taken (ap (λ (h : Geometry). sector_count h) c.in-Some.ensures.fields);
      same = λ s used. c.in_ok-copy-2.ensures.same visible front s (subst (λ n. IsUsed n (image_of (bytes_of copy)) s) counted used) ∙ ap (λ (d : Image). d s) content;
      sized = lengths_there size old.state (g.met.D.Disk.whole visible c.args.disk.now) copy.sectors fits (bytes_of copy) (padded_small (512 * copy.sectors) copy.held.items copy.small_bytes) (padded_sized (512 * copy.sectors) copy.held.items copy.within);
    }

pub returns-clause-read_only : goal.returns-clause-read_only
returns-clause-read_only g c visible =
    read_more g.D.Disk.keeps (g.D.Disk.moments c.args.disk.now) (g.D.Disk.moments c.first_sectors.new.disk) (g.D.Disk.moments c.copy_in.new.disk) (c.first_sectors.ensures.read_only visible) (c.copy_in.ensures.read_only visible)

pub returns-in_err-copy-2-clause-read_only : goal.returns-in_err-copy-2-clause-read_only
returns-in_err-copy-2-clause-read_only g c visible =
    read_more g.D.Disk.keeps (g.D.Disk.moments c.args.disk.now) (g.D.Disk.moments c.first_sectors.new.disk) (g.D.Disk.moments c.copy_in.new.disk) (c.first_sectors.ensures.read_only visible) (c.copy_in.ensures.read_only visible)
