use Rattle.std.proofs.Common.{◌≡◌, ℕ, List, ap, sym, ◌∙◌}
use Rattle.std.specs.Prelude.{if◌then◌else◌}
use Rattle.std.proofs.lemmas.List.{append-nil}
use Rattle.ufs_base.specs.Images.{Image}
use Rattle.ufs_disk.specs.Disk.{bytes_from}
use Rattle.ufs_disk.specs.Moments.{reads}
use Rattle.ufs_scan.specs.Standings.{standing_in, no_standing}
use Rattle.ufs_scan.proofs.reading.read_standing.Goals as goal

one_sector : (image : Image) (sector : ℕ) (new : List ℕ) → new ≡ bytes_from image sector 1 → new ≡ image sector
one_sector image sector new bytes = bytes ∙ append-nil (image sector)

pub returns-clause-value : goal.returns-clause-value
returns-clause-value g c visible =
    c.stand_in.ensures ∙ ap standing_in (one_sector (reads (g.D.Disk.moments c.args.disk.now)) c.args.sector c.read_sectors.new.buf (c.in_ok-read_sectors.ensures.bytes visible))
    ∙ sym (λ i. if c.if-not-wanted.false i then standing_in (reads (g.D.Disk.moments c.args.disk.now) c.args.sector) else no_standing)
