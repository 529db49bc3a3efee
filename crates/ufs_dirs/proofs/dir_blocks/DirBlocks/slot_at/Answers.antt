use Rattle.std.proofs.Common.{◌≡◌, ◌+◌, ◌*◌, ◌/◌, ◌%◌, ◌<◌, length, get_or, ap, ◌∙◌, subst, arith}
use Rattle.ufs_dirs.specs.Directory.{Directory, IsDirectory}
use Rattle.std.proofs.lemmas.List.{get_or_default}
use Rattle.ufs_dirs.proofs.KeptLemmas.{place_of-slot_at, slot_at-is_slot}
use Rattle.ufs_dirs.proofs.dir_blocks.DirBlocks.slot_at.Goals as goal

pub returns-clause-slot : goal.returns-clause-slot
returns-clause-slot c =
    let d : Directory = c.args.self.now in
    let is : IsDirectory d = subst IsDirectory c.self.view_is c.self.invariant.0.directory in
    let within : c.args.place / 64 < length c.self.inside.blocks.items = omega (arith, c.requires, is.sized, ap (λ (x : Directory). length x.blocks) c.self.view_is) in
    let read : c.index.result.now ≡ get_or d.blocks (c.args.place / 64) 0 =
    c.index.ensures ∙ get_or_default c.self.inside.blocks.items (c.args.place / 64) c.index.result.now 0 within ∙ ap (λ (x : Directory). get_or x.blocks (c.args.place / 64) 0) c.self.view_is in
    slot_at-is_slot d is c.args.place (c.index.result.now * 8 + c.args.place % 64 / 8) c.requires (omega (arith, read))

pub returns-clause-place : goal.returns-clause-place
returns-clause-place c =
    let d : Directory = c.args.self.now in
    let is : IsDirectory d = subst IsDirectory c.self.view_is c.self.invariant.0.directory in
    let within : c.args.place / 64 < length c.self.inside.blocks.items = omega (arith, c.requires, is.sized, ap (λ (x : Directory). length x.blocks) c.self.view_is) in
    let read : c.index.result.now ≡ get_or d.blocks (c.args.place / 64) 0 =
    c.index.ensures ∙ get_or_default c.self.inside.blocks.items (c.args.place / 64) c.index.result.now 0 within ∙ ap (λ (x : Directory). get_or x.blocks (c.args.place / 64) 0) c.self.view_is in
    place_of-slot_at d is c.args.place (c.index.result.now * 8 + c.args.place % 64 / 8) c.requires (omega (arith, read))
