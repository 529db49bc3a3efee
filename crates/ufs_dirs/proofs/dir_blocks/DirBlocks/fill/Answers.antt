use Rattle.std.proofs.Common.{◌≡◌, ℕ, ◌<◌, List, Bool, false, cond, length, set, ap, sym, refl, ◌∙◌, subst, arith, Some, None, length-set}
use Rattle.ufs_layout.specs.DentryForm.{is_named}
use Rattle.ufs_dirs.specs.Directory.{Directory, IsDirectory, entry_at, entry_of}
use Rattle.ufs_dirs.specs.Index.{IsKept}
use Rattle.std.specs.List.{insert}
use Rattle.ufs_dirs.specs.Changes.{SetsName}
use Rattle.ufs_dirs.proofs.NameLemmas.{entry_of-rank}
use Rattle.ufs_dirs.proofs.FilledLemmas.{filled_names}
use Rattle.ufs_dirs.proofs.FreeLemmas.{above_along, free_here, rank_of_free}
use Rattle.ufs_dirs.proofs.KeptLemmas.{few_slots, rank_along, gap_along, kept_filled}
use Rattle.ufs_dirs.proofs.dir_blocks.DirBlocks.fill.Goals as goal

pub unreachable-requires : goal.unreachable-requires
unreachable-requires c =
    let slots = c.self.inside.slots.items in
    let order = c.self.inside.order.items in
    let name = c.args.dentry.name in
    let found = rank_along slots c.as_slice.result.now order c.as_slice-2.result.now name c.name_bytes-name.result.now c.in_default.field-0 c.as_slice.ensures.value c.as_slice-2.ensures.value c.name_bytes-name.ensures (rw c.in_default.is at c.search.ensures.found) in
    let there = entry_of-rank slots order c.self.invariant.0.index name c.in_default.field-0 found in
    let absent : entry_of slots name ≡ None = ap (λ (d : Directory). entry_of d.slots name) c.self.view_is ∙ c.requires.absent in
    absurd cc

pub overflow_cast-number : goal.overflow_cast-number
overflow_cast-number c =
    let d : Directory = c.args.self.now in
    let is : IsDirectory d = subst IsDirectory c.self.view_is c.self.invariant.0.directory in
    omega (arith, few_slots d is, c.requires.in_range)

-- a free slot is left, so there is room for its place
pub unwrap-requires : goal.unwrap-requires
unwrap-requires c =
    let slots = c.self.inside.slots.items in
    let free : is_named (entry_at slots c.args.place) ≡ false = ap (λ (d : Directory). is_named (entry_at d.slots c.args.place)) c.self.view_is ∙ c.requires.free in
    let inside : c.args.place < length slots = omega (arith, c.requires.in_range, ap (λ (d : Directory). length d.slots) c.self.view_is) in
    c.insert.ensures.succeeds (omega (arith, c.self.invariant.1, (rank_of_free slots c.self.inside.free.items c.self.invariant.0.free c.args.place inside free).1, c.self.invariant.0.free.counted, c.self.invariant.0.index.counted))

-- it stands in the list of free slots
pub remove-requires : goal.remove-requires
remove-requires c =
    let slots = c.self.inside.slots.items in
    let places = c.self.inside.free.items in
    let place = c.args.place in
    let unused : is_named (entry_at slots place) ≡ false = ap (λ (d : Directory). is_named (entry_at d.slots place)) c.self.view_is ∙ c.requires.free in
    let inside : place < length slots = omega (arith, c.requires.in_range, ap (λ (d : Directory). length d.slots) c.self.view_is) in
    let above = above_along places c.as_slice-3.result.now place place c.places_above-above.result c.as_slice-3.ensures.value refl c.places_above-above.ensures in
    omega (arith, (free_here slots places c.self.invariant.0.free place c.places_above-above.result inside unused above).0)

pub invariant_of-self : goal.invariant_of-self
invariant_of-self c =
    let d : Directory = record { blocks = c.self.inside.blocks.items; slots = c.self.inside.slots.items } in
    let slots = c.self.inside.slots.items in
    let order = c.self.inside.order.items in
    let places = c.self.inside.free.items in
    let place = c.args.place in
    let e = c.args.dentry in
    let at = c.places_above-above.result in
    let free : is_named (entry_at slots place) ≡ false = ap (λ (d : Directory). is_named (entry_at d.slots place)) c.self.view_is ∙ c.requires.free in
    let inside : place < length slots = omega (arith, c.requires.in_range, ap (λ (d : Directory). length d.slots) c.self.view_is) in
    let gap = gap_along slots c.as_slice.result.now order c.as_slice-2.result.now e.name c.name_bytes-name.result.now c.in-Err.rank c.as_slice.ensures.value c.as_slice-2.ensures.value c.name_bytes-name.ensures c.in-Err.ensures.absent in
    let above = above_along places c.as_slice-3.result.now place place at c.as_slice-3.ensures.value refl c.places_above-above.ensures in
    let ok = c.insert.ensures.succeeds (omega (arith, c.self.invariant.1, (rank_of_free slots places c.self.invariant.0.free place inside free).1, c.self.invariant.0.free.counted, c.self.invariant.0.index.counted)) in
    let order_is : c.insert.new.self.items ≡ insert order c.in-Err.rank place = c.insert.ensures.items ∙ ap (λ (b : Bool). cond b (insert order c.in-Err.rank place) order) ok in
    let kept = kept_filled d order places place c.in-Err.rank at e c.self.invariant.0 inside free c.requires.named c.requires.form gap above in (
      subst (λ (o : List ℕ). IsKept (record d { slots = set slots place e }) o c.remove.new.self.items) (sym order_is)
          (subst (λ (f : List ℕ). IsKept (record d { slots = set slots place e }) (insert order c.in-Err.rank place) f) (sym c.remove.ensures.items) kept),
      omega (arith, length-set slots place e, c.self.invariant.1, c.insert.ensures.capacity),
      omega (arith, length-set slots place e, c.self.invariant.2, c.remove.ensures.capacity),
    )

pub returns-clause-names : goal.returns-clause-names
returns-clause-names c =
    let slots = c.self.inside.slots.items in
    let blocks = c.self.inside.blocks.items in
    let place = c.args.place in
    let e = c.args.dentry in
    let free : is_named (entry_at slots place) ≡ false = ap (λ (d : Directory). is_named (entry_at d.slots place)) c.self.view_is ∙ c.requires.free in
    let inside : place < length slots = omega (arith, c.requires.in_range, ap (λ (d : Directory). length d.slots) c.self.view_is) in
    let absent : entry_of slots e.name ≡ None = ap (λ (d : Directory). entry_of d.slots e.name) c.self.view_is ∙ c.requires.absent in
    subst (λ (d : Directory). SetsName d (record { blocks = blocks; slots = set slots place e }) e.name (Some e)) c.self.view_is (filled_names slots place e inside free c.requires.named blocks absent)

pub returns-clause-whole : goal.returns-clause-whole
returns-clause-whole c = (invariant_of-self c).0.directory
