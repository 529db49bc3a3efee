-- Why a request that adds a name is excused.
use Rattle.std.proofs.Common.{◌≡◌, ◌≢◌, ℕ, List, None, sym, subst}
use Rattle.ufs_bitmap.specs.Blocks.{BlockSet}
use Rattle.ufs_dir_tree.specs.DirCalls.{names_above, LacksSpace}
use Rattle.ufs_dir_tree.specs.DirTable.{DirTable, found_at}
use Rattle.ufs_model.specs.Paths.{components}
use Rattle.ufs_model.specs.declared.data.Excuse.{Excuse}
use Rattle.ufs_model.specs.declared.data.Excuse.TheVariants as excuse
use Rattle.ufs_model.specs.declared.data.Op.{Op}
use Rattle.ufs_model.specs.declared.data.Op.TheVariants as op
use Rattle.ufs_names.specs.Space.{IsCause}

-- either memory is wanting, or it is this
by_kind : (t : DirTable) (pool : BlockSet) (request : Op) (x : Excuse) → (x ≢ excuse.Memory → IsCause t pool request x) → IsCause t pool request x
by_kind t pool request excuse.Memory other = tt
by_kind t pool request (excuse.Device fault) other = other (λ e. cc)
by_kind t pool request (excuse.Stopped fault) other = other (λ e. cc)
by_kind t pool request (excuse.Blocks need had) other = other (λ e. cc)
by_kind t pool request excuse.Inodes other = other (λ e. cc)
by_kind t pool request (excuse.Extents need) other = other (λ e. cc)

module _ (t : DirTable) (pool : BlockSet) (names : List (List ℕ)) (p : List ℕ) (at : components p ≡ names) (x : Excuse) where
  abbrev Lacks : List (List ℕ) → Type 0
  Lacks names = (found_at t names ≡ None) × LacksSpace t pool (names_above names) x

  lacks_mkdir : (x : Excuse) → x ≢ excuse.Memory → (found_at t (components p) ≡ None) × LacksSpace t pool (names_above (components p)) x → IsCause t pool (op.Mkdir p) x
  lacks_mkdir excuse.Memory not lacks = tt
  lacks_mkdir (excuse.Device fault) not lacks = lacks
  lacks_mkdir (excuse.Stopped fault) not lacks = lacks
  lacks_mkdir (excuse.Blocks need had) not lacks = lacks
  lacks_mkdir excuse.Inodes not lacks = lacks
  lacks_mkdir (excuse.Extents need) not lacks = lacks

  pub cause_mkdir : (request : Op) → request ≡ op.Mkdir p → found_at t names ≡ None → LacksSpace t pool (names_above names) x → IsCause t pool request x
  cause_mkdir request of absent lacks =
      subst (λ (r : Op). IsCause t pool r x) (sym of) (by_kind t pool (op.Mkdir p) x (λ not. lacks_mkdir x not (subst Lacks (sym at) (absent, lacks))))
