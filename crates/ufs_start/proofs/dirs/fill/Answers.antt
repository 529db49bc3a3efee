use Rattle.std.proofs.Common.{◌≡◌, ℕ, ◌/◌, None, Some, List, Option, get_or, sym, ◌∙◌, arith}
use Rattle.std.proofs.lemmas.List.{get_or_default}
use Rattle.std.specs.List.{slice_get}
use Rattle.ufs_layout.specs.DentryForm.{DentryForm, free_slot}
use Rattle.ufs_extent.specs.Runs as runs
use Rattle.ufs_start.proofs.DirLemmas.{all_filled, block_read, form_read, name_absent, never_none, one_filled, slot_read}
use Rattle.ufs_start.proofs.dirs.fill.Goals as goal

pub unreachable-requires : goal.unreachable-requires
unreachable-requires c =
    let read : List (Option DentryForm) = c.args.slots.now in
    let none : get_or read c.loop-place.place None ≡ None = get_or_default read c.loop-place.place None c.index-slots-place.result c.loop-place-test.true ∙ sym c.index-slots-place.is ∙ c.in_default.is in
    never_none (get_or read c.loop-place.place None) (get_or c.requires.whole.slots c.loop-place.place free_slot) (slot_read (runs.blocks_of c.args.extents.now) read c.requires.whole c.loop-place.place c.loop-place-test.true) none

pub unreachable-requires-in_default-block_of : goal.unreachable-requires-in_default-block_of
unreachable-requires-in_default-block_of c =
    let blocks : List ℕ = runs.blocks_of c.args.extents.now in
    never_none (slice_get blocks (c.loop-place.place / 64)) (get_or blocks (c.loop-place.place / 64) 0)
    (block_read blocks c.args.slots.now c.requires.whole c.loop-place.place c.loop-place-test.true) (sym c.in_default-block_of.ensures)

pub put_at-requires-clause-inside : goal.put_at-requires-clause-inside
put_at-requires-clause-inside c = omega (arith, c.loop-place.invariant.slots.counted, c.loop-place-test.true)

pub put_at-requires-clause-free : goal.put_at-requires-clause-free
put_at-requires-clause-free c = c.loop-place.invariant.slots.rest c.loop-place.place (omega arith) c.loop-place-test.true

pub put_at-requires-clause-form : goal.put_at-requires-clause-form
put_at-requires-clause-form c =
    let read : List (Option DentryForm) = c.args.slots.now in
    let d : DentryForm = c.in-Some.dentry in
    let there : get_or read c.loop-place.place None ≡ Some d = get_or_default read c.loop-place.place None c.index-slots-place.result c.loop-place-test.true ∙ sym c.index-slots-place.is ∙ c.in-Some.is in
    form_read (runs.blocks_of c.args.extents.now) read c.requires.whole c.loop-place.place d c.loop-place-test.true there

pub put_at-requires-clause-absent : goal.put_at-requires-clause-absent
put_at-requires-clause-absent c named =
    let read : List (Option DentryForm) = c.args.slots.now in
    let d : DentryForm = c.in-Some.dentry in
    let there : get_or read c.loop-place.place None ≡ Some d = get_or_default read c.loop-place.place None c.index-slots-place.result c.loop-place-test.true ∙ sym c.index-slots-place.is ∙ c.in-Some.is in
    name_absent (runs.blocks_of c.args.extents.now) read c.requires.whole c.loop-place.place c.loop-place.dir.slots d c.loop-place.invariant.slots c.loop-place-test.true there named

pub loop-place-preserved : goal.loop-place-preserved
loop-place-preserved c =
    let read : List (Option DentryForm) = c.args.slots.now in
    let d : DentryForm = c.in-Some.dentry in
    let there : get_or read c.loop-place.place None ≡ Some d = get_or_default read c.loop-place.place None c.index-slots-place.result c.loop-place-test.true ∙ sym c.index-slots-place.is ∙ c.in-Some.is in
    record {
      blocks = c.put_at.ensures.blocks ∙ c.loop-place.invariant.blocks;
      slots = one_filled read c.loop-place.place c.loop-place.dir.slots c.put_at.new.dir.slots d c.loop-place.invariant.slots c.loop-place-test.true there
          (form_read (runs.blocks_of c.args.extents.now) read c.requires.whole c.loop-place.place d c.loop-place-test.true there) c.put_at.ensures.slots;
    }

pub returns-clause-slots : goal.returns-clause-slots
returns-clause-slots c = all_filled c.args.slots.now c.loop-place.place c.loop-place.dir.slots (omega (arith, c.loop-place-test.false)) c.loop-place.invariant.slots
