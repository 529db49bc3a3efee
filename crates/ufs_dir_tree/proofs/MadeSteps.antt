-- Each step that a call makes.
use Rattle.std.proofs.Common.{◌≡◌, ℕ, ◌≤◌, ◌⊎◌, inl, inr, [], ◌∷◌, ◌++◌, length, None, refl, arith}
use Rattle.std.specs.FinSet as set
use Rattle.std.specs.Prelude.{IsTrue}
use Rattle.ufs_layout.specs.DentryForm.{DentryForm, free_slot, is_dentry}
use Rattle.ufs_bitmap.specs.Blocks.{BlockSet}
use Rattle.ufs_path.specs.Names.{IsName}
use Rattle.ufs_dirs.specs.Directory.{entry_of}
use Rattle.ufs_dirs.specs.Changes.{IsFreeSlot, IsSlot}
use Rattle.ufs_dirs.specs.declared.Slot.{Slot}
use Rattle.ufs_dir_tree.specs.Space.{IsLowest, TakesLowest, extents_of}
use Rattle.ufs_dir_tree.specs.DirTable.{DirTable, IsDirTable, IsMet, IsUsed, dir_at, slots_at, blocks_at}
use Rattle.ufs_dir_tree.specs.DirCalls.{IsUnmet, code_of}
use Rattle.ufs_dir_tree.specs.declared.found.Kind.{Kind}
use Rattle.ufs_dir_tree.specs.declared.found.Kind.TheVariants as kind
use Rattle.ufs_dir_tree.specs.Steps.{Step, Born, Grown, Put, Freed, GoesBy, table_after}
use Rattle.ufs_dir_tree.proofs.StepLemmas.{goes_once}

-- a name that may stand in a path is on a dentry's form
pub named_form : (e : DentryForm) → IsName e.name → IsTrue (is_dentry e)
named_form e is = let short = is.short in let some = is.some in grind arith

abbrev same_table : DirTable → DirTable → Step → Type 0
same_table t new x = new ≡ table_after x t

pub put_made : (t new : DirTable) (p : ℕ) (slot : Slot) (e : DentryForm) → IsMet t p → IsTrue (is_dentry e) → IsName e.name → entry_of (slots_at t p) e.name ≡ None → IsFreeSlot (dir_at t p) slot → same_table t new (Put p slot e) → (pool : BlockSet) → GoesBy t new pool pool (Put p slot e ∷ [])
put_made t new p slot e met form plain absent free at pool =
    goes_once t new pool pool (Put p slot e) (record { met = met; in_dir = free.slot; form = form; new = λ _. record { free = free.free; plain = plain; absent = absent } }) at refl

pub clear_made : (t new : DirTable) (p : ℕ) (slot : Slot) → IsMet t p → IsSlot (dir_at t p) slot → same_table t new (Put p slot free_slot) → (pool : BlockSet) → GoesBy t new pool pool (Put p slot free_slot ∷ [])
clear_made t new p slot met is at pool = goes_once t new pool pool (Put p slot free_slot) (record { met = met; in_dir = is; form = refl; new = λ named. cc }) at refl

known_kind : (k : Kind) → (code_of k ≡ 1) ⊎ (code_of k ≡ 2)
known_kind kind.File = inl refl
known_kind kind.Dir = inr refl

pub born_made : (t new : DirTable) (i : ℕ) (k : Kind) → IsDirTable t → IsLowest t.free i → same_table t new (Born i (code_of k)) → (pool : BlockSet) → GoesBy t new pool pool (Born i (code_of k) ∷ [])
born_made t new i k is low at pool = goes_once t new pool pool (Born i (code_of k)) (record { held = low.held; free = is.free i low.held; known = known_kind k }) at refl

pub grown_made : (t new : DirTable) (p b : ℕ) (pool after : BlockSet) → IsMet t p → TakesLowest pool after b → length (extents_of (blocks_at t p ++ b ∷ [])) ≤ 56 → same_table t new (Grown p b) → GoesBy t new pool after (Grown p b ∷ [])
grown_made t new p b pool after met takes few at = goes_once t new pool after (Grown p b) (record { met = met; pooled = takes.lowest.held; extents = few }) at takes.left

pub freed_made : (t new : DirTable) (i : ℕ) (pool after : BlockSet) → IsUsed t i → IsUnmet t i → same_table t new (Freed i) → after ≡ set.union pool (set.from_list (blocks_at t i)) → GoesBy t new pool after (Freed i ∷ [])
freed_made t new i pool after used unmet at given = goes_once t new pool after (Freed i) (record { used = used; unmet = unmet }) at given
