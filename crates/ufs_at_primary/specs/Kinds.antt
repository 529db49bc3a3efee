-- Which way a request is served.
use Rattle.std.specs.Prelude.{ℕ, ◌≡◌, true, false, Some, None}
use Rattle.ufs_model.specs.Asks.{file_in}
use Rattle.ufs_model.specs.FileCalls.{is_on_file}
use Rattle.ufs_model.specs.declared.data.Ask.{Ask}
use Rattle.ufs_model.specs.declared.data.Op.TheVariants as op
use Rattle.ufs_msg.specs.There.{is_by_hint}
use Rattle.ufs_names.specs.Calls.{IsOfNames}
use Rattle.ufs_crash_laws.specs.Changes.{asks_commit}
use Rattle.ufs_at_primary.specs.declared.kinds.Kind.{Kind}
use Rattle.ufs_at_primary.specs.declared.kinds.Kind.TheVariants.{All, OnFile, OnNone, Names}

-- It is on a descriptor of this file.
pub record IsOnFile (ask : Ask) (file : ℕ) : Type 0 where
  pub kind : is_on_file ask.op ≡ true
  pub of : file_in ask.desc ≡ Some file

-- an `fsync` on no file
pub record IsOnNone (ask : Ask) : Type 0 where
  pub fsync : (fd : ℕ) × (ask.op ≡ op.Fsync fd)
  pub none : file_in ask.desc ≡ None

-- The names serve it: it commits nothing, and isn't on a descriptor of a file.
pub record IsByNames (ask : Ask) : Type 0 where
  pub kind : IsOfNames ask
  pub no_commit : asks_commit ask.op ≡ false

abbrev pub IsKind : Ask → Kind → Type 0
IsKind ask All = ask.op ≡ op.Sync
IsKind ask (OnFile file hinted) = IsOnFile ask file × (is_by_hint ask.op ≡ hinted)
IsKind ask OnNone = IsOnNone ask
IsKind ask Names = IsByNames ask
