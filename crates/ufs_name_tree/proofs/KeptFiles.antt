-- Tables whose files keep their numbers.
use Rattle.std.proofs.Common.{◌≡◌, ◌≢◌, ℕ, ◌⊎◌, inl, inr, ◌||◌, ◌&&◌, not, List, Option, Some, None, IsSome, length, Bool, true, false, eqb, ap, sym, refl, ◌∙◌, arith}
use Rattle.std.specs.FinSet as set
use Rattle.std.proofs.lemmas.Bool.{true≢false}
use Rattle.std.proofs.lemmas.Bool.Decides.{eqb_tells}
use Rattle.ufs_bitmap.specs.Blocks.{BlockSet}
use Rattle.ufs_bitmap.proofs.SetLemmas.{has-insert, has-remove}
use Rattle.ufs_dir_tree.specs.Space.{TakesLowest}
use Rattle.ufs_dir_tree.specs.DirTable.{DirTable, InodeSet, IsDirTable, IsUsed, blocks_at, found_at}
use Rattle.ufs_dir_tree.specs.DirCalls.{Frees, FreesInode, SpendsNone}
use Rattle.ufs_dir_tree.specs.declared.found.Found.{Found}
use Rattle.ufs_dir_tree.specs.declared.found.Found.TheVariants.{Dir, File}
use Rattle.ufs_name_tree.specs.NameTable.{NameTable, IsNameTable, file_at}
use Rattle.ufs_name_tree.proofs.Founds.{IsMetIn}

-- a directory that is met now was met, or had a free inode
abbrev pub DirsWere : DirTable → DirTable → Type 0
DirsWere t new = (i : ℕ) → IsMetIn new (Dir i) → IsMetIn t (Dir i) ⊎ (set.contains t.free i ≡ true)

-- The inode is in use if it was, and has the blocks that it had.
pub record IsAsBefore (t new : DirTable) (i : ℕ) : Type 0 where
  pub used : set.contains t.free i ≡ false → set.contains new.free i ≡ false
  pub blocks : blocks_at new i ≡ blocks_at t i

module _ (t u : NameTable) (is : IsNameTable t) (table : IsDirTable u.dirs) (counted : length u.files ≡ length u.dirs.dirs) (inodes : length u.dirs.dirs ≡ length t.dirs.dirs)
    (was : (i f : ℕ) → file_at u i ≡ Some f → file_at t i ≡ Some f) (named : (names : List (List ℕ)) (i : ℕ) → found_at u.dirs names ≡ Some (File i) → IsSome (file_at u i))
    (dirs : DirsWere t.dirs u.dirs) (same : (i f : ℕ) → file_at u i ≡ Some f → IsAsBefore t.dirs u.dirs i) where
  used_still : (i f : ℕ) → file_at u i ≡ Some f → IsUsed u.dirs i
  used_still i f at =
      let before = is.used i f (was i f at) in
      let now = same i f at in
      record { from_one = before.from_one; within = omega (arith, before.within, inodes); used = now.used before.used }

  no_dir_still : (i f : ℕ) (names : List (List ℕ)) → file_at u i ≡ Some f → found_at u.dirs names ≢ Some (Dir i)
  no_dir_still i f names at met = by (dirs i (names, met))
    where
      by : IsMetIn t.dirs (Dir i) ⊎ (set.contains t.dirs.free i ≡ true) → ⊥
      by (inl met) = is.no_dir i f met.0 (was i f at) met.1
      by (inr free) = let used = is.used i f (was i f at) in true≢false (sym free ∙ used.used)

  pub kept_files : IsNameTable u
  kept_files = record {
    table = table;
    counted = counted;
    named = named;
    used = used_still;
    no_dir = no_dir_still;
    bare = λ i f at. let now = same i f at in now.blocks ∙ is.bare i f (was i f at);
    once = λ i j f at too. is.once i j f (was i f at) (was j f too);
  }

-- ---- inodes that come and go

other_free : (s : InodeSet) (i j : ℕ) → i ≢ j → set.contains s i ≡ false → set.contains (set.insert s j) i ≡ false
other_free s i j other used = by (eqb_tells i j)
  where
    by : ((eqb i j ≡ true) × (i ≡ j)) ⊎ ((eqb i j ≡ false) × (i ≢ j)) → set.contains (set.insert s j) i ≡ false
    by (inl same) = absurd (other same.1)
    by (inr apart) = has-insert s j i ∙ ap (λ (b : Bool). b || set.contains s i) apart.0 ∙ used

none_freed : (t new : DirTable) (before after : BlockSet) → SpendsNone t new before after → (i : ℕ) → IsAsBefore t new i
none_freed t new before after none i = record { used = λ used. ap (λ (s : InodeSet). set.contains s i) none.free ∙ used; blocks = none.blocks i }

pub one_freed : (t new : DirTable) (before after : BlockSet) (j : ℕ) → FreesInode t new before after j → (i : ℕ) → i ≢ j → IsAsBefore t new i
one_freed t new before after j frees i other = record {
  used = λ used. ap (λ (s : InodeSet). set.contains s i) frees.free ∙ other_free t.free i j other used;
  blocks = frees.others i other;
}

-- all but a directory that goes
pub freed : (t new : DirTable) (before after : BlockSet) (o : Option Found) → Frees t new before after o → (i : ℕ) → o ≢ Some (Dir i) → IsAsBefore t new i
freed t new before after (Some (Dir j)) frees i other = one_freed t new before after j frees i (λ e. other (ap (λ (k : ℕ). Some (Dir k)) (sym e)))
freed t new before after (Some (File j)) frees i other = none_freed t new before after frees i
freed t new before after None frees i other = none_freed t new before after frees i

-- an inode that is taken leaves all others used
pub still_used : (s left : InodeSet) (i j : ℕ) → TakesLowest s left j → set.contains s i ≡ false → set.contains left i ≡ false
still_used s left i j takes used = ap (λ (x : InodeSet). set.contains x i) takes.left ∙ has-remove s j i ∙ ap (λ (b : Bool). not (eqb i j) && b) used ∙ and_false (not (eqb i j))
  where
    and_false : (b : Bool) → (b && false) ≡ false
    and_false true = refl
    and_false false = refl

pub was_free : (t : NameTable) (is : IsNameTable t) (left : InodeSet) (i j f : ℕ) → TakesLowest t.dirs.free left i → file_at t j ≡ Some f → j ≢ i
was_free t is left i j f takes at same =
    let used = is.used j f at in
    true≢false (sym takes.lowest.held ∙ ap (set.contains t.dirs.free) (sym same) ∙ used.used)
