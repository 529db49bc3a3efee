-- An excuse with its cause fits the request.
use Rattle.std.proofs.Common.{◌≡◌, ◌≢◌, ℕ, ◌%◌, List, length, Bool, true, false, cond, eqb, Some, None, ap, refl, sym, subst, ◌∙◌, arith}
use Rattle.std.proofs.lemmas.Bool.{eq-eqb}
use Rattle.ufs_base.specs.declared.sizes.TheConstants.{SLOTS_PER_BLOCK}
use Rattle.ufs_bitmap.specs.Blocks.{BlockSet}
use Rattle.ufs_dir_tree.specs.DirCalls.{IsFull, IsListed, IsRoomCause, IsSpaceCause}
use Rattle.ufs_dir_tree.specs.DirTable.{dir_at, found_at}
use Rattle.ufs_dir_tree.specs.declared.found.Found.TheVariants as found
use Rattle.ufs_model.specs.Excuses.{ExcuseFits, IsExcuseOf, adds_name, grown_dir, makes_node, may_be_full, needed}
use Rattle.ufs_model.specs.Paths.{whole_path}
use Rattle.ufs_model.specs.PosixTree.{PosixTree}
use Rattle.ufs_model.specs.Refusals.{refusal}
use Rattle.ufs_model.specs.declared.data.Excuse.{Excuse}
use Rattle.ufs_model.specs.declared.data.Excuse.TheVariants as excuse
use Rattle.ufs_model.specs.declared.data.Op.{Op}
use Rattle.ufs_name_tree.specs.NameTable.{IsNameTable}
use Rattle.ufs_name_tree.proofs.ExcuseFacts.{full_names, one_extent_more}
use Rattle.ufs_names.specs.NamesPart.{NamesPart, IsNamesPart}
use Rattle.ufs_names.proofs.EntryLemmas.{count_is_entries}
use Rattle.ufs_names.proofs.NameLists.{AreNames}

-- a request that adds a name where the directory may be full needs a block
needs_one : (t : PosixTree) (client : ℕ) (request : Op) → adds_name t request ≡ true → may_be_full t (grown_dir request) ≡ true → needed t client request ≡ 1
needs_one t client request adds full = by (adds_name t request) (may_be_full t (grown_dir request)) _ adds full
  where
    by : (a b : Bool) (other : ℕ) → a ≡ true → b ≡ true → cond a (cond b 1 0) other ≡ 1
    by true true other p q = refl
    by true false other p q = cc
    by false b other p q = cc

module _ (n : NamesPart) (t : PosixTree) (part : IsNamesPart n t) (table : IsNameTable n.tree) (above : List (List ℕ)) (are : AreNames above) (i : ℕ) (at : found_at n.tree.dirs above ≡ Some (found.Dir i))
    (client : ℕ) (request : Op) (adds : adds_name t request ≡ true) (grown : grown_dir request ≡ whole_path above) (pool : BlockSet) where
  needs_block : IsListed (dir_at n.tree.dirs i) → IsFull (dir_at n.tree.dirs i) → needed t client request ≡ 1
  needs_block listed full =
      let count = count_is_entries n.tree t.paths part.tree.namespace table.table part.paths above are.plain are.allowed i at listed.names listed.listed in
      needs_one t client request adds
      (ap (may_be_full t) grown ∙ ap (λ k. eqb (k % SLOTS_PER_BLOCK) 0) (sym count) ∙ eq-eqb (length listed.names % SLOTS_PER_BLOCK) 0 (full_names (dir_at n.tree.dirs i) listed.names listed full listed.listed))

  pub room_told : (x : Excuse) → IsListed (dir_at n.tree.dirs i) → IsRoomCause (dir_at n.tree.dirs i) pool x → IsExcuseOf t client request x
  room_told excuse.Memory listed cause = tt
  room_told (excuse.Device fault) listed cause = tt
  room_told (excuse.Stopped fault) listed cause = tt
  room_told (excuse.Blocks need had) listed cause = (cause.1.needed ∙ sym (needs_block listed cause.0), cause.1.fewer)
  room_told excuse.Inodes listed cause = absurd cause
  room_told (excuse.Extents need) listed cause =
      let most = one_extent_more n.tree.dirs i need pool table.table cause.1 in
      let one = needs_block listed cause.0 in
      (cause.1.more, omega (arith, most, one))

  pub space_told : (x : Excuse) → (x ≢ excuse.Memory → x ≢ excuse.Inodes → IsListed (dir_at n.tree.dirs i)) → (x ≡ excuse.Inodes → makes_node t request ≡ true) → IsSpaceCause n.tree.dirs i pool x → IsExcuseOf t client request x
  space_told excuse.Memory listed makes cause = tt
  space_told (excuse.Device fault) listed makes cause = tt
  space_told (excuse.Stopped fault) listed makes cause = tt
  space_told (excuse.Blocks need had) listed makes cause = room_told (excuse.Blocks need had) (listed (λ e. cc) (λ e. cc)) cause.1
  space_told excuse.Inodes listed makes cause = makes refl
  space_told (excuse.Extents need) listed makes cause = room_told (excuse.Extents need) (listed (λ e. cc) (λ e. cc)) cause.1

-- a request that isn't refused, and is excused so
pub fits_told : (t : PosixTree) (client : ℕ) (request : Op) (x : Excuse) → refusal t client request ≡ None → IsExcuseOf t client request x → ExcuseFits t client request x
fits_told t client request x allowed told = record { due = λ _. allowed; told = told }

-- want of memory excuses anything
pub fits_memory : (t : PosixTree) (client : ℕ) (request : Op) (x : Excuse) → x ≡ excuse.Memory → ExcuseFits t client request x
fits_memory t client request x is = subst (ExcuseFits t client request) (sym is) (record { due = λ e. cc; told = tt })

-- either memory is wanting, or not
pub by_memory : (t : PosixTree) (client : ℕ) (request : Op) (x : Excuse) → (x ≢ excuse.Memory → ExcuseFits t client request x) → ExcuseFits t client request x
by_memory t client request excuse.Memory other = fits_memory t client request excuse.Memory refl
by_memory t client request (excuse.Device fault) other = other (λ e. cc)
by_memory t client request (excuse.Stopped fault) other = other (λ e. cc)
by_memory t client request (excuse.Blocks need had) other = other (λ e. cc)
by_memory t client request excuse.Inodes other = other (λ e. cc)
by_memory t client request (excuse.Extents need) other = other (λ e. cc)
