use Rattle.std.proofs.Common.{◌≡◌, ◌<◌, ◌≤◌, None, Some, take, ap, sym, ◌∙◌, arith}
use Rattle.ufs_disk.specs.Bytes.{image_of}
use Rattle.ufs_layout.specs.Areas.{geometry_refusal, sector_count}
use Rattle.ufs_layout.specs.Superblock.{geometry_of, super_fields, super_of}
use Rattle.ufs_layout.specs.declared.geometry.Geometry.{Geometry}
use Rattle.ufs_start.proofs.FirstSector.{bad_refused, fields_are, is_taken, off_refused, small_refused}
use Rattle.ufs_start.proofs.copy.geometry_in.Goals as goal

pub returns-in_err-found-clause-refused : goal.returns-in_err-found-clause-refused
returns-in_err-found-clause-refused c = rw c.from_residual.ensures (off_refused c.args.sectors (image_of c.args.bytes.now) (sym c.get_super.ensures.value ∙ c.in_err-found.was))

pub returns-then-sectors-sector_count-clause-refused : goal.returns-then-sectors-sector_count-clause-refused
returns-then-sectors-sector_count-clause-refused c =
    let first = take 512 c.args.bytes.now in
    let gets : super_of 1 first ≡ Some c.in_ok-found.found = sym c.get_super.ensures.value ∙ c.in_ok-found.was in
    let same : c.in-Ok.geometry ≡ geometry_of (super_fields first) = c.in-Ok.ensures.made ∙ ap geometry_of (fields_are first c.in_ok-found.found gets) in
    let less : c.args.sectors < sector_count (geometry_of (super_fields first)) = let count = ap (λ (g : Geometry). sector_count g) same in let own = c.sector_count.ensures in let test = c.if-sectors-sector_count.true in omega (arith, count, own, test) in
    small_refused c.args.sectors (image_of c.args.bytes.now) less

pub returns-else-sectors-sector_count-clause-taken : goal.returns-else-sectors-sector_count-clause-taken
returns-else-sectors-sector_count-clause-taken c =
    let first = take 512 c.args.bytes.now in
    let found = c.in_ok-found.found in
    let gets : super_of 1 first ≡ Some found = sym c.get_super.ensures.value ∙ c.in_ok-found.was in
    let same : c.in-Ok.geometry ≡ geometry_of (super_fields first) = c.in-Ok.ensures.made ∙ ap geometry_of (fields_are first found gets) in
    let room : sector_count (geometry_of (super_fields first)) ≤ c.args.sectors = let count = ap (λ (g : Geometry). sector_count g) same in let own = c.sector_count.ensures in let test = c.if-sectors-sector_count.false in omega (arith, count, own, test) in
    let good : geometry_refusal (geometry_of (super_fields first)) ≡ None = ap geometry_refusal (sym same) ∙ c.in-Ok.ensures.taken in
    is_taken c.args.sectors (image_of c.args.bytes.now) found gets c.in_ok-found.ensures.spelling c.in_ok-found.ensures.form c.requires.some good room

pub returns-in-Err-clause-refused : goal.returns-in-Err-clause-refused
returns-in-Err-clause-refused c =
    let first = take 512 c.args.bytes.now in
    let gets : super_of 1 first ≡ Some c.in_ok-found.found = sym c.get_super.ensures.value ∙ c.in_ok-found.was in
    let same = ap geometry_of (fields_are first c.in_ok-found.found gets) in
    bad_refused c.args.sectors (image_of c.args.bytes.now) c.in-Err._bad (ap geometry_refusal (sym same) ∙ c.in-Err.ensures.refused)
