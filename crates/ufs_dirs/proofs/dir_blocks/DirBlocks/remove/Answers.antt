use Rattle.std.proofs.Common.{◌≡◌, ℕ, List, Bool, cond, get_or, set, ap, sym, refl, ◌∙◌, subst, arith, None, Some, is_some, length-set}
use Rattle.ufs_layout.specs.DentryForm.{DentryForm, free_slot}
use Rattle.ufs_dirs.specs.Directory.{Directory, entry_at, entry_of}
use Rattle.ufs_dirs.specs.Index.{IsKept}
use Rattle.std.specs.List.{insert, remove}
use Rattle.std.proofs.lemmas.Bool.{false≢true}
use Rattle.std.proofs.lemmas.List.{get_or_default}
use Rattle.ufs_dirs.specs.Changes.{SetsName, entry_in, place_of}
use Rattle.ufs_dirs.proofs.NameLemmas.{entry_of-gap, entry_of-rank}
use Rattle.ufs_dirs.proofs.ClearedLemmas.{cleared_names}
use Rattle.ufs_dirs.proofs.FreeLemmas.{above_along}
use Rattle.ufs_dirs.proofs.KeptLemmas.{rank_along, gap_along, kept_cleared}
use Rattle.ufs_dirs.proofs.dir_blocks.DirBlocks.remove.Goals as goal

pub unreachable-requires : goal.unreachable-requires
unreachable-requires c =
    let slots = c.self.inside.slots.items in
    let order = c.self.inside.order.items in
    let name = c.args.name.now in
    let gap = gap_along slots c.as_slice.result.now order c.as_slice-2.result.now name name c.in_default.field-0 c.as_slice.ensures.value c.as_slice-2.ensures.value refl (rw c.in_default.is at c.search.ensures.absent) in
    let none = sym (ap (λ (d : Directory). entry_of d.slots name) c.self.view_is) ∙ entry_of-gap slots order c.self.invariant.0.index name c.in_default.field-0 gap in
    false≢true (ap is_some (sym none) ∙ c.requires)

-- a slot is used, so there is room for its place
pub unwrap-requires : goal.unwrap-requires
unwrap-requires c =
    let found = rank_along c.self.inside.slots.items c.as_slice.result.now c.self.inside.order.items c.as_slice-2.result.now c.args.name.now c.args.name.now c.in-Ok.rank c.as_slice.ensures.value c.as_slice-2.ensures.value refl c.in-Ok.ensures.found in
    c.insert.ensures.succeeds (omega (arith, c.self.invariant.2, c.self.invariant.0.free.counted, c.self.invariant.0.index.counted, found.in_range))

pub invariant_of-self : goal.invariant_of-self
invariant_of-self c =
    let d : Directory = record { blocks = c.self.inside.blocks.items; slots = c.self.inside.slots.items } in
    let slots = c.self.inside.slots.items in
    let order = c.self.inside.order.items in
    let places = c.self.inside.free.items in
    let name = c.args.name.now in
    let rank = c.in-Ok.rank in
    let place = c.index-place.result.now in
    let at = c.places_above-above.result in
    let found = rank_along slots c.as_slice.result.now order c.as_slice-2.result.now name name rank c.as_slice.ensures.value c.as_slice-2.ensures.value refl c.in-Ok.ensures.found in
    let here : place ≡ get_or order rank 0 = c.index-place.ensures ∙ get_or_default order rank place 0 found.in_range in
    let cleared : set slots place c.free_dentry.result ≡ set slots (get_or order rank 0) free_slot =
    ap (λ (e : DentryForm). set slots place e) c.free_dentry.ensures ∙ ap (λ (p : ℕ). set slots p free_slot) here in
    let above = above_along places c.as_slice-3.result.now (get_or order rank 0) place at c.as_slice-3.ensures.value here c.places_above-above.ensures in
    let ok = c.insert.ensures.succeeds (omega (arith, c.self.invariant.2, c.self.invariant.0.free.counted, c.self.invariant.0.index.counted, found.in_range)) in
    let places_is : c.insert.new.self.items ≡ insert places at (get_or order rank 0) =
    c.insert.ensures.items ∙ ap (λ (b : Bool). cond b (insert places at place) places) ok ∙ ap (λ (p : ℕ). insert places at p) here in
    let kept = kept_cleared d order places rank at c.self.invariant.0 found.in_range above in (
      subst (λ (o : List ℕ). IsKept (record d { slots = set slots place c.free_dentry.result }) o c.insert.new.self.items) (sym c.remove.ensures.items)
          (subst (λ (s : List DentryForm). IsKept (record d { slots = s }) (remove order rank) c.insert.new.self.items) (sym cleared)
          (subst (λ (f : List ℕ). IsKept (record d { slots = set slots (get_or order rank 0) free_slot }) (remove order rank) f) (sym places_is) kept)),
      omega (arith, length-set slots place c.free_dentry.result, c.self.invariant.1, c.remove.ensures.capacity),
      omega (arith, length-set slots place c.free_dentry.result, c.self.invariant.2, c.insert.ensures.capacity),
    )

pub returns-clause-names : goal.returns-clause-names
returns-clause-names c =
    let slots = c.self.inside.slots.items in
    let blocks = c.self.inside.blocks.items in
    let order = c.self.inside.order.items in
    let name = c.args.name.now in
    let rank = c.in-Ok.rank in
    let found = rank_along slots c.as_slice.result.now order c.as_slice-2.result.now name name rank c.as_slice.ensures.value c.as_slice-2.ensures.value refl c.in-Ok.ensures.found in
    let at : c.index-place.result.now ≡ get_or order rank 0 = c.index-place.ensures ∙ get_or_default order rank c.index-place.result.now 0 found.in_range in
    let cleared : set slots c.index-place.result.now c.free_dentry.result ≡ set slots (get_or order rank 0) free_slot =
    ap (λ (e : DentryForm). set slots c.index-place.result.now e) c.free_dentry.ensures ∙ ap (λ (p : ℕ). set slots p free_slot) at in
    let names = cleared_names slots order rank c.self.invariant.0.index found.in_range blocks name found.same in
    subst (λ (d : Directory). SetsName d (record { blocks = blocks; slots = set slots c.index-place.result.now c.free_dentry.result }) name None) c.self.view_is
    (subst (λ (s : List DentryForm). SetsName (record { blocks = blocks; slots = slots }) (record { blocks = blocks; slots = s }) name None) (sym cleared) names)

pub returns-clause-was : goal.returns-clause-was
returns-clause-was c =
    let slots = c.self.inside.slots.items in
    let order = c.self.inside.order.items in
    let name = c.args.name.now in
    let rank = c.in-Ok.rank in
    let found = rank_along slots c.as_slice.result.now order c.as_slice-2.result.now name name rank c.as_slice.ensures.value c.as_slice-2.ensures.value refl c.in-Ok.ensures.found in
    let at : c.index-place.result.now ≡ get_or order rank 0 = c.index-place.ensures ∙ get_or_default order rank c.index-place.result.now 0 found.in_range in
    let place = ap (λ (d : Directory). place_of d.blocks c.slot_at-slot.result) c.self.view_is ∙ c.slot_at-slot.ensures.place ∙ at in
    subst (λ (d : Directory). entry_of d.slots name ≡ Some (entry_in d c.slot_at-slot.result)) c.self.view_is
    (entry_of-rank slots order c.self.invariant.0.index name rank found ∙ ap (λ (p : ℕ). Some (entry_at slots p)) (sym place))

pub returns-clause-whole : goal.returns-clause-whole
returns-clause-whole c = (invariant_of-self c).0.directory
