use Rattle.std.proofs.Common.{◌≡◌, ◌+◌, ◌*◌, ◌%◌, ap, ◌∙◌, arith}
use Rattle.std.specs.Prelude.{slice_set}
use Rattle.ufs_image.specs.Catalog.{slots_in}
use Rattle.ufs_image.specs.Folding.{place_in_block}
use Rattle.ufs_image.proofs.Changed.{file_sound, file_walks, freed_sound, freed_walks}
use Rattle.ufs_image.proofs.SlotSet.{set_here, set_other}
use Rattle.ufs_image.proofs.Unnamed.{unnamed_sound, unnamed_walks}
use Rattle.ufs_image.proofs.Depth.{root_in_range, has_root}
use Rattle.ufs_image.proofs.Found.{reached}
use Rattle.ufs_image.proofs.catalog_laws.change_law.Goals as goal

pub returns : goal.returns
returns c = record {
  file = λ cat inode form sound may. record { sound = file_sound c.args.geometry.now cat inode form sound may; walks = file_walks c.args.geometry.now cat inode form sound may };
  unnamed = λ cat d sound frees. record {
    sound = unnamed_sound c.args.geometry.now cat d sound (has_root c.args.geometry.now c.requires) frees;
    walks = unnamed_walks c.args.geometry.now cat d sound (has_root c.args.geometry.now c.requires) frees;
  };
  orphans = λ cat d sound frees. record {
    sound = freed_sound c.args.geometry.now cat d sound (has_root c.args.geometry.now c.requires) frees;
    walks = freed_walks c.args.geometry.now cat d sound (has_root c.args.geometry.now c.requires) frees (λ k is. (reached c.args.geometry.now cat sound 1 is.names k (root_in_range c.args.geometry.now cat sound (has_root c.args.geometry.now c.requires)) is.met).0);
  };
  dentry = λ cat sector slot dir place d sound less has kind sized. record {
    here =
        let at : 64 * place + 8 * (sector % 8) + slot ≡ 64 * place + place_in_block sector slot = omega arith in
        set_here c.args.geometry.now cat sound sector slot d less dir place has kind sized ∙ ap (λ n. slice_set (slots_in cat dir) n d) at;
    others = λ other ranged apart. set_other c.args.geometry.now cat sound sector slot d less dir place has other ranged apart;
  };
}
