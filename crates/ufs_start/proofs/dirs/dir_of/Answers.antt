use Rattle.std.proofs.Common.{ℕ, ◌<◌, ◌*◌, List, length, replicate, ap, sym, ◌∙◌, subst, arith}
use Rattle.std.specs.Prelude.{nat_eq}
use Rattle.std.specs.List.{All, IsDistinct}
use Rattle.ufs_image.specs.Nodes.{blocks_of}
use Rattle.ufs_layout.specs.DentryForm.{free_slot}
use Rattle.ufs_start.specs.Tables.{IsWholeDir}
use Rattle.ufs_start.proofs.DirLemmas.{few_slots, slots_counted}
use Rattle.ufs_start.proofs.dirs.dir_of.Goals as goal

pub bare_dir-requires-clause-once : goal.bare_dir-requires-clause-once
bare_dir-requires-clause-once c = subst (λ (l : List ℕ). IsDistinct nat_eq l) (sym c.in_ok-extents.ensures.blocks) c.requires.whole.whole.blocks_once

pub bare_dir-requires-clause-below : goal.bare_dir-requires-clause-below
bare_dir-requires-clause-below c = subst (λ (l : List ℕ). All (λ b. b < 65536) l) (sym c.in_ok-extents.ensures.blocks) c.requires.whole.whole.blocks_below

pub fill-requires-clause-few : goal.fill-requires-clause-few
fill-requires-clause-few c = let few = few_slots (blocks_of c.args.form.now) c.args.slots.now c.requires.whole in omega (arith, few)

pub fill-requires-clause-bare : goal.fill-requires-clause-bare
fill-requires-clause-bare c =
    c.in_ok-dir.ensures.slots
    ∙ ap (λ (l : List ℕ). replicate (64 * length l) free_slot) c.in_ok-extents.ensures.blocks
    ∙ ap (λ (n : ℕ). replicate n free_slot) (sym (slots_counted (blocks_of c.args.form.now) c.args.slots.now c.requires.whole))

pub fill-requires-clause-whole : goal.fill-requires-clause-whole
fill-requires-clause-whole c = subst (λ (l : List ℕ). IsWholeDir l c.args.slots.now) (sym c.in_ok-extents.ensures.blocks) c.requires.whole
