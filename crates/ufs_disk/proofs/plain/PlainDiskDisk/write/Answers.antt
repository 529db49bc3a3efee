use Rattle.std.proofs.Common.{◌≡◌, ℕ, List, ◌++◌, take, drop, ◌%◌, ◌+◌, ◌*◌, ◌/◌, ◌≤◌, length, ◌∙◌, ap, arith}
use Rattle.ufs_disk.specs.Disk.{put_all, sectors_of}
use Rattle.ufs_disk.specs.Bytes.{image_of, settled_on}
use Rattle.ufs_disk.proofs.Flat.{image_overwritten}
use Rattle.ufs_disk.proofs.Images.{mixes_all, only_image, unmixed, seen_is_image}
use Rattle.ufs_disk.specs.Props.{untrue}
use Rattle.ufs_disk.proofs.plain.PlainDiskDisk.write.Goals as goal

put_now : (now bytes new : List ℕ) (sector sectors : ℕ) → length now ≡ 512 * sectors → length bytes % 512 ≡ 0 → sector + length bytes / 512 ≤ sectors
    → new ≡ take (512 * sector) now ++ (bytes ++ drop (512 * sector + length bytes) now) → image_of new ≡ put_all sector (sectors_of bytes) (image_of now)
put_now now bytes new sector sectors sized whole inside is =
    let n = length bytes / 512 in
    let size : length bytes ≡ 512 * n = omega (arith, whole) in
    ap image_of is ∙ image_overwritten now bytes sector n size (omega (arith, sized, inside))

pub returns-clause-ok : goal.returns-clause-ok
returns-clause-ok c visible = put_now _ c.args.bytes.now _ c.args.sector c.args.self.now.sectors c.args.self.now.sized c.requires.whole c.requires.inside c.overwrite.ensures.bytes

pub returns-clause-content : goal.returns-clause-content
returns-clause-content c visible = mixes_all _ _ _
    (put_now _ c.args.bytes.now _ c.args.sector c.args.self.now.sectors c.args.self.now.sized c.requires.whole c.requires.inside c.overwrite.ensures.bytes)

pub returns-clause-crash : goal.returns-clause-crash
returns-clause-crash c visible =
    let old = image_of c.args.self.now.bytes.items in
    let ps = sectors_of c.args.bytes.now in
    let is = put_now _ c.args.bytes.now _ c.args.sector c.args.self.now.sectors c.args.self.now.sized c.requires.whole c.requires.inside c.overwrite.ensures.bytes in
    record {
      before = unmixed c.args.sector ps (settled_on old);
      after = λ image left. record {
        before = old;
        left = seen_is_image (settled_on old);
        mixed = mixes_all old (put_all c.args.sector ps old) image (only_image (image_of c.overwrite.new.all.items) image left ∙ is);
      };
      between = λ kept. absurd (untrue kept);
    }
