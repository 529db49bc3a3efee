use Rattle.std.proofs.Common.{◌∙◌}
use Rattle.ufs_disk.specs.Disk.{put_all, sectors_of}
use Rattle.ufs_disk.specs.Bytes.{image_of, settled_on}
use Rattle.ufs_disk.specs.Props.{untrue}
use Rattle.ufs_disk.proofs.Images.{mixes_all, only_image, seen_is_image, unmixed}
use Rattle.ufs_front.specs.Fronts.{bytes_of}
use Rattle.ufs_front.proofs.front.FrontDiskDisk.write.Goals as goal

pub returns-clause-content : goal.returns-clause-content
returns-clause-content c visible = mixes_all _ _ _ c.put.ensures.image

pub returns-clause-crash : goal.returns-clause-crash
returns-clause-crash c visible =
    let old = image_of (bytes_of c.args.self.now) in
    let ps = sectors_of c.args.bytes.now in
    record {
      before = unmixed c.args.sector ps (settled_on old);
      after = λ image left. record {
        before = old;
        left = seen_is_image (settled_on old);
        mixed = mixes_all old (put_all c.args.sector ps old) image (only_image (image_of (bytes_of c.put.new.self)) image left ∙ c.put.ensures.image);
      };
      between = λ kept. absurd (untrue kept);
    }
