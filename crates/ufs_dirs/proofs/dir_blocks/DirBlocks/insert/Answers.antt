use Rattle.std.proofs.Common.{ℕ, ◌≤◌, length, is_some, ap, sym, ◌∙◌, subst, arith}
use Rattle.std.proofs.lemmas.List.Folds.{list_all_at}
use Rattle.ufs_layout.specs.DentryForm.{free_slot, is_named}
use Rattle.ufs_dirs.specs.Directory.{Directory, entry_at}
use Rattle.std.specs.List.{list_all}
use Rattle.std.proofs.lemmas.Bool.{ltb-false}
use Rattle.ufs_dirs.proofs.FreeLemmas.{lowest_free, used_where_none}
use Rattle.ufs_dirs.proofs.KeptLemmas.{all_used}
use Rattle.ufs_dirs.proofs.dir_blocks.DirBlocks.insert.Goals as goal

pub returns-in_default-clause-full : goal.returns-in_default-clause-full
returns-in_default-clause-full c =
    let slots = c.self.inside.slots.items in
    let places = c.self.inside.free.items in
    let none : length places ≤ 0 = subst (λ f. length f ≤ 0) c.deref.ensures.value (ltb-false 0 (length c.deref.result.now) (sym c.last.ensures.item.0 ∙ ap is_some c.in_default.is)) in
    sym (ap (λ (d : Directory). list_all is_named d.slots) (sym c.self.view_is) ∙ all_used slots (used_where_none slots places c.self.invariant.0.free none))

pub returns-clause-lowest : goal.returns-clause-lowest
returns-clause-lowest c =
    let slots = c.self.inside.slots.items in
    let last = lowest_free slots c.self.inside.free.items c.self.invariant.0.free c.deref.result.now c.in-Some.field-0.now c.deref.ensures.value c.in-Some.ensures.item.3.0 c.in-Some.ensures.item.1 in
    record {
      free = record {
        slot = c.slot_at-slot.ensures.slot;
        free = ap (λ (p : ℕ). is_named (entry_at c.args.self.now.slots p)) c.slot_at-slot.ensures.place ∙ ap (λ (x : Directory). is_named (entry_at x.slots c.in-Some.field-0.now)) (sym c.self.view_is) ∙ last.1;
      };
      lowest = λ place below. ap (λ (x : Directory). is_named (entry_at x.slots place)) (sym c.self.view_is) ∙ last.2 place (omega (arith, c.slot_at-slot.ensures.place, below));
    }

pub returns-clause-full : goal.returns-clause-full
returns-clause-full c =
    let slots = c.self.inside.slots.items in
    let last = lowest_free slots c.self.inside.free.items c.self.invariant.0.free c.deref.result.now c.in-Some.field-0.now c.deref.ensures.value c.in-Some.ensures.item.3.0 c.in-Some.ensures.item.1 in
    sym (ap (λ (d : Directory). list_all is_named d.slots) (sym c.self.view_is) ∙ list_all_at is_named slots c.in-Some.field-0.now free_slot last.0 last.1)
