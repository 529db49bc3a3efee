use Rattle.std.proofs.Common.{◌≡◌, ℕ, ◌/◌, Bool, true, length, slice_set, ap, sym, ◌∙◌, arith}
use Rattle.std.specs.Prelude.{if◌then◌else◌}
use Rattle.std.proofs.lemmas.Bool.Decides.{nat_tests}
use Rattle.ufs_dirs.specs.Directory.{Directory, entry_at}
use Rattle.ufs_layout.specs.DentryForm.{DentryForm, is_named}
use Rattle.ufs_start.proofs.DirLemmas.{below_at, place_is}
use Rattle.ufs_start.proofs.dirs.put_at.Goals as goal

pub slot_at-slot-requires : goal.slot_at-slot-requires
slot_at-slot-requires c = below_at c.args.dir.now.blocks (c.args.place / 64) c.args.block c.blocks-blocks.ensures.whole.blocks_below c.requires.block

pub place-requires-clause-free : goal.place-requires-clause-free
place-requires-clause-free c =
    let old : Directory = c.args.dir.now in
    let e = c.slot_at-slot.ensures in
    let place = place_is old c.slot_at-slot.result c.args.block c.args.place c.blocks-blocks.ensures.whole c.requires.block e.sector e.slot in
    let slot = e.slot in
    let inside = c.requires.inside in
    record {
      slot = record { in_sector = omega (arith, slot); in_blocks = omega (arith, place, inside) };
      free = ap (λ (n : ℕ). is_named (entry_at old.slots n)) place ∙ ap is_named c.requires.free;
    }

pub place-requires-clause-absent : goal.place-requires-clause-absent
place-requires-clause-absent c =
    let d : DentryForm = c.args.dentry.now in
    let size = ap (length {A = ℕ}) c.name_bytes.ensures in
    let named : is_named d ≡ true = grind (arith, nat_tests, size, c.is_empty.ensures, c.if-is_empty.false) in
    c.requires.absent named

pub returns-clause-slots : goal.returns-clause-slots
returns-clause-slots c =
    let old : Directory = c.args.dir.now in
    let d : DentryForm = c.args.dentry.now in
    let size = ap (length {A = ℕ}) c.name_bytes.ensures in
    let named : is_named d ≡ true = grind (arith, nat_tests, size, c.is_empty.ensures, c.if-is_empty.false) in
    let place = place_is old c.slot_at-slot.result c.args.block c.args.place c.blocks-blocks.ensures.whole c.requires.block c.slot_at-slot.ensures.sector c.slot_at-slot.ensures.slot in
    ap (λ (x : Directory). x.slots) c.place.ensures.placed
    ∙ ap (λ (n : ℕ). slice_set old.slots n d) place
    ∙ sym (ap (λ (b : Bool). if b then slice_set old.slots c.args.place d else old.slots) named)
