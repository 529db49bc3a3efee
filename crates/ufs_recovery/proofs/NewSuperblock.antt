-- Another superblock with the same geometry isn't refused either.
use Rattle.std.proofs.Common.{◌≡◌, ℕ, ◌<◌, List, true, false, Some, None, is_none, take, ap, sym, ◌∙◌, arith}
use Rattle.std.specs.Prelude.{◌==◌, ◌&&◌, ◌||◌, not, nat_le, nat_lt, Ok, option_map}
use Rattle.std.specs.Str.{bytes_eq}
use Rattle.std.proofs.lemmas.Bool.{and_parts}
use Rattle.std.proofs.lemmas.Bool.Decides.{nat_tests}
use Rattle.ufs_base.specs.Choices.{first_of, refused_if}
use Rattle.ufs_base.specs.Images.{Image}
use Rattle.ufs_disk.specs.Disk.{put}
use Rattle.ufs_layout.specs.Areas.{sector_count, geometry_refusal, refusal_number}
use Rattle.ufs_layout.specs.Superblock.{geometry_of, super_of, super_fields, super_bytes, is_super, magic}
use Rattle.ufs_layout.specs.declared.superblock.Super.{Super}
use Rattle.ufs_layout.proofs.Spelled.{spelled-some, some_if-some}
use Rattle.ufs_image.specs.Volume.{NoSuperblock, BadVersion, BadGeometry}
use Rattle.ufs_image.specs.Volume.{Volume, volume, superblock_of, superblock_refusal, lacks_magic, has_other_version, is_off_form, bad_geometry, is_too_small}
use Rattle.ufs_image.proofs.Journals.{taken}
use Rattle.ufs_image.proofs.Opening.{second_none, not_refused, has_geometry}

module _ (sectors : ℕ) (image : Image) (v : Volume) (is : volume sectors image ≡ Ok v) (new : Super) (bytes : List ℕ) (spelled : super_of 1 bytes ≡ Some new) (kept : geometry_of new ≡ v.geometry) (home : Image) where
  abbrev after : Image
  after = put 0 bytes home

  parts : (is_super 1 (super_fields bytes) && bytes_eq (super_bytes (super_fields bytes)) bytes ≡ true) × (super_fields bytes ≡ new)
  parts = some_if-some (is_super 1 (super_fields bytes) && bytes_eq (super_bytes (super_fields bytes)) bytes) (super_fields bytes) new spelled

  pub new_superblock : superblock_of (put 0 bytes home) ≡ new
  new_superblock = parts.1

  spelling : (bytes ≡ super_bytes new) × (is_super 1 new ≡ true)
  spelling = spelled-some super_fields super_bytes (is_super 1) bytes new spelled

  geometry_same : geometry_of (superblock_of image) ≡ geometry_of (superblock_of (put 0 bytes home))
  geometry_same = ap (λ (u : Volume). u.geometry) (sym (taken sectors image v is).same) ∙ sym kept ∙ ap geometry_of (sym new_superblock)

  pub new_good : superblock_refusal sectors (put 0 bytes home) ≡ None
  new_good =
      let was = taken sectors image v is in
      let room = has_geometry sectors image v is in
      let one = second_none (refused_if (lacks_magic sectors image) NoSuperblock) _ was.superblock in
      let two = second_none (refused_if (has_other_version image) (BadVersion (superblock_of image).version)) _ one.1 in
      let three = second_none (refused_if (is_off_form image) NoSuperblock) _ two.1 in
      let four = second_none (bad_geometry image) _ three.1 in
      let some : (sectors == 0) ≡ false = (let least = room.0.least_blocks in let large = room.1 in let positive : 0 < sectors = omega (arith, least, large) in grind (arith, nat_tests, positive)) in
      let begins : bytes_eq (take 8 bytes) magic ≡ true = ap (λ b. bytes_eq (take 8 b) magic) spelling.0 in
      let magic_there : lacks_magic sectors after ≡ false = λ i. some i || not (begins i) in
      let version : (new.version == 1) ≡ true = (and_parts (new.version == 1) (nat_le 1 new.epoch && nat_le 1 new.next) spelling.1).0 in
      let version_there : has_other_version after ≡ false = ap (λ (h : Super). not (h.version == 1)) new_superblock ∙ ap not version in
      let form : is_off_form after ≡ false = ap is_none spelled in
      let geometry_there : bad_geometry after ≡ None = ap (λ g. option_map (λ bad. BadGeometry (refusal_number bad)) (geometry_refusal g)) (sym geometry_same) ∙ four.0 in
      let small : is_too_small sectors after ≡ false = ap (λ g. nat_lt sectors (sector_count g)) (sym geometry_same) ∙ not_refused (is_too_small sectors image) (BadGeometry 5) four.1 in
      λ i. first_of (refused_if (magic_there i) NoSuperblock)
      (first_of (refused_if (version_there i) (BadVersion (superblock_of after).version))
      (first_of (refused_if (form i) NoSuperblock)
      (first_of (geometry_there i)
      (refused_if (small i) (BadGeometry 5)))))
