-- Steps that are made one after another.
use Rattle.std.proofs.Common.{◌≡◌, ◌≢◌, ℕ, List, [], ◌∷◌, ◌++◌, Option, Some, None, ap, sym, refl, ◌∙◌, subst}
use Rattle.std.specs.Prelude.{IfNone}
use Rattle.ufs_layout.specs.DentryForm.{DentryForm, free_slot}
use Rattle.ufs_dirs.specs.Directory.{entry_of}
use Rattle.ufs_dirs.specs.Changes.{entry_in}
use Rattle.ufs_dirs.specs.declared.Slot.{Slot}
use Rattle.ufs_dir_tree.specs.declared.found.Found.{Found}
use Rattle.ufs_dir_tree.specs.declared.found.Found.TheVariants.{Dir, File}
use Rattle.ufs_bitmap.specs.Blocks.{BlockSet}
use Rattle.ufs_dir_tree.specs.DirTable.{DirTable, dir_at, slots_at}
use Rattle.ufs_dir_tree.specs.DirCalls.{StandsAt}
use Rattle.ufs_dir_tree.specs.DirEdits.{ClearsName}
use Rattle.ufs_dir_tree.specs.Steps.{Step, Put, Freed, clearing, moving, MayMake, MayMakeAll, GoesBy, table_after, table_after_all, pool_after, pool_after_all}

all_made : (t : DirTable) (pool : BlockSet) (xs ys : List Step) → MayMakeAll t pool xs → MayMakeAll (table_after_all xs t) (pool_after_all xs t pool) ys → MayMakeAll t pool (xs ++ ys)
all_made t pool [] ys may more = more
all_made t pool (x ∷ xs) ys may more = (may.0, all_made (table_after x t) (pool_after x t pool) xs ys may.1 more)

table_on : (t : DirTable) (xs ys : List Step) → table_after_all (xs ++ ys) t ≡ table_after_all ys (table_after_all xs t)
table_on t [] ys = refl
table_on t (x ∷ xs) ys = table_on (table_after x t) xs ys

pool_on : (t : DirTable) (pool : BlockSet) (xs ys : List Step) → pool_after_all (xs ++ ys) t pool ≡ pool_after_all ys (table_after_all xs t) (pool_after_all xs t pool)
pool_on t pool [] ys = refl
pool_on t pool (x ∷ xs) ys = pool_on (table_after x t) (pool_after x t pool) xs ys

pub goes_on : (a b c : DirTable) (p q r : BlockSet) (xs ys : List Step) → GoesBy a b p q xs → GoesBy b c q r ys → GoesBy a c p r (xs ++ ys)
goes_on a b c p q r xs ys first next =
    let tables = first.table in
    let pools = first.pool in
    record {
      may = all_made a p xs ys first.may (subst (λ (s : BlockSet). MayMakeAll (table_after_all xs a) s ys) pools (subst (λ (t : DirTable). MayMakeAll t q ys) tables next.may));
      table = next.table ∙ ap (table_after_all ys) tables ∙ sym (table_on a xs ys);
      pool = next.pool ∙ (λ i. pool_after_all ys (tables i) (pools i)) ∙ sym (pool_on a p xs ys);
    }

pub goes_nowhere : (t u : DirTable) (p q : BlockSet) → u ≡ t → q ≡ p → GoesBy t u p q []
goes_nowhere t u p q table pool = record { may = tt; table = table; pool = pool }

pub goes_once : (old new : DirTable) (p q : BlockSet) (x : Step) → MayMake old p x → new ≡ table_after x old → q ≡ pool_after x old p → GoesBy old new p q (x ∷ [])
goes_once old new p q x may table pool = record { may = (may, tt); table = table; pool = pool }

-- ---- a name goes

-- with the directory that it stood for
pub dir_goes : (old mid new : DirTable) (p : ℕ) (slot : Slot) (o : Option Found) (k : ℕ) (pool after : BlockSet) → o ≡ Some (Dir k) → GoesBy old mid pool pool (Put p slot free_slot ∷ []) → GoesBy mid new pool after (Freed k ∷ []) → GoesBy old new pool after (clearing p slot o)
dir_goes old mid new p slot o k pool after stood cleared freed =
    subst (λ (o : Option Found). GoesBy old new pool after (clearing p slot o)) (sym stood) (goes_on old mid new pool pool after (Put p slot free_slot ∷ []) (Freed k ∷ []) cleared freed)

-- and one that stood for a file
pub file_goes : (old mid : DirTable) (p : ℕ) (slot : Slot) (o : Option Found) (k : ℕ) (pool : BlockSet) → o ≡ Some (File k) → GoesBy old mid pool pool (Put p slot free_slot ∷ []) → GoesBy old mid pool pool (clearing p slot o)
file_goes old mid p slot o k pool stood cleared = subst (λ (o : Option Found). GoesBy old mid pool pool (clearing p slot o)) (sym stood) cleared

-- ---- a name moves

pub name_moves : (t mid new : DirTable) (pool : BlockSet) (f : ℕ) (left : Slot) (g : ℕ) (taken : Slot) (d e : DentryForm) → d ≡ e → GoesBy t mid pool pool (Put f left free_slot ∷ []) → GoesBy mid new pool pool (Put g taken d ∷ []) → GoesBy t new pool pool (moving f left g taken e)
name_moves t mid new pool f left g taken d e same cleared put =
    goes_on t mid new pool pool pool (Put f left free_slot ∷ []) (Put g taken e ∷ []) cleared (subst (λ (d : DentryForm). GoesBy mid new pool pool (Put g taken d ∷ [])) same put)

pub some_same : (d e : DentryForm) → Some d ≡ Some e → d ≡ e
some_same d e same = cc

-- it is the dentry that stood there before another name was cleared
pub same_entry : (t new : DirTable) (g : ℕ) (y : List ℕ) (f : ℕ) (x : List ℕ) (e : DentryForm) (slot : Slot) → ClearsName t new g y → entry_of (slots_at new f) x ≡ Some e → StandsAt (dir_at t f) x slot → e ≡ entry_in (dir_at t f) slot
same_entry t new g y f x e slot clears was stands = let both = sym was ∙ clears.others f x off ∙ stands.entry in cc
  where
    off : f ≡ g → x ≢ y
    off at same = let none = (λ k. entry_of (slots_at new (at k)) (same k)) ∙ clears.this in cc

pub none_so : {A : Type 0} (o : Option A) (P Q : Type 0) → (P → Q) → IfNone o P → IfNone o Q
none_so None P Q so holds = so holds
none_so (Some x) P Q so holds = tt
