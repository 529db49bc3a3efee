use Rattle.std.proofs.Common.{◌≡◌, ◌≤◌, Ok, refl, sym, ◌∙◌, subst, arith}
use Rattle.std.specs.Prelude.{Result, min}
use Rattle.ufs_base.specs.Images.{Image}
use Rattle.ufs_metadata.specs.Faults.{IsWhyNot}
use Rattle.ufs_metadata.specs.Folded.{IsFolded}
use Rattle.ufs_disk.specs.Bytes.{image_of}
use Rattle.ufs_image.specs.Agree.{IsOfDir}
use Rattle.ufs_image.specs.Catalog.{catalog_at}
use Rattle.ufs_image.specs.Volume.{Refusal, Volume, volume}
use Rattle.ufs_volume.specs.Volumes.{folded_image, volume_in}
use Rattle.ufs_volume.proofs.Folds.{is_folded}
use Rattle.ufs_start.specs.Ends.{end_of_forms}
use Rattle.ufs_start.proofs.Ends.{used_before}
use Rattle.ufs_front.specs.Fronts.{bytes_of}
use Rattle.ufs_start.proofs.used.end_of_used.Goals as goal

same_volume : (v w : Volume) → ◌≡◌ {A = Result Volume Refusal} (Ok v) (Ok w) → v ≡ w
same_volume v w e = cc

pub end_without-requires-clause-lack : goal.end_without-requires-clause-lack
end_without-requires-clause-lack c w is = subst (IsWhyNot (volume c.args.copy.now.sectors (image_of (bytes_of c.args.copy.now)))) is (c.in-Err.ensures.refused refl)

pub returns-in-Err-clause-image : goal.returns-in-Err-clause-image
returns-in-Err-clause-image c = (c.read_volume.ensures.read_only refl).content

pub returns-in-Err-read_findings-clause-image : goal.returns-in-Err-read_findings-clause-image
returns-in-Err-read_findings-clause-image c = (c.read_findings.ensures.read_only refl).content ∙ (c.read_volume.ensures.read_only refl).content

pub returns-clause-image : goal.returns-clause-image
returns-clause-image c = (c.read_findings.ensures.read_only refl).content ∙ (c.read_volume.ensures.read_only refl).content

pub returns-clause-behind : goal.returns-clause-behind
returns-clause-behind c v e sector less of =
    let g = c.args.geometry.now in
    let disk : Image = image_of (bytes_of c.args.copy.now) in
    let w = c.in-Ok.volume in
    let image : Image = folded_image w disk in
    let same : v ≡ volume_in w disk = same_volume v (volume_in w disk) (sym e ∙ c.in-Ok.ensures.taken refl) in
    let found = c.in-Ok-read_findings.ensures.found refl image (subst (λ (d : Image). IsFolded w.overlay d image) (sym (c.read_volume.ensures.read_only refl).content) (is_folded w disk (c.in-Ok.ensures.added refl))) in
    let high = c.end_of_forms.ensures in
    let least = c.min-end.ensures in
    let most = c.max.ensures in
    let reached : min (end_of_forms c.forms.result.now) g.blocks ≤ c.max.result = omega (arith, high, least, most) in
    used_before g c.requires.limits image c.forms.result.now c.max.result (c.forms.ensures ∙ found.forms) reached sector less (subst (λ (u : Volume). IsOfDir g (catalog_at g u.image) sector) same of)
