-- Hints name servers that are there, as long as what is put into them does.
use Rattle.std.proofs.Common.{◌≡◌, ℕ, ⊎_elim, Contains, Option, Some, None, sym, refl, subst}
use Rattle.ufs_hints.specs.Hints.{Pairs, hint_of, renewed}
use Rattle.ufs_hints.proofs.Uses.{hint_has, renewed_has, used_has}
use Rattle.ufs_model.specs.declared.data.Actor.{Actor}
use Rattle.ufs_model.specs.declared.data.Actor.TheVariants.{Primary}
use Rattle.ufs_joint.specs.Cells.{Start}
use Rattle.ufs_msg.specs.There.{IsServerThere}
use Rattle.ufs_caller.specs.Callers.{server_of_file, used_for}
use Rattle.ufs_caller.specs.Tied.{AreServersThere}
use Rattle.ufs_caller.specs.Turns.{AreRenewed, AreRenewedBy}

module _ (k : Start) (hints : Pairs) (there : AreServersThere k hints) where
  pub used_there : (file : Option ℕ) → AreServersThere k (used_for hints file)
  used_there None f server c = there f server c
  used_there (Some file) f server c = there f server (used_has file hints (f, server) c)

  pub server_there : (file : Option ℕ) → IsServerThere k (server_of_file hints file)
  server_there None = tt
  server_there (Some file) = by (hint_of file hints) refl
    where
      by : (o : Option Actor) → hint_of file hints ≡ o → IsServerThere k (Rattle.std.specs.Prelude.unwrap_or o Primary)
      by None e = tt
      by (Some server) e = let c = hint_has file hints server e in there c.0 server c.1

  pub renewed_there : (file : ℕ) (owner : Actor) → IsServerThere k owner → AreServersThere k (renewed file owner hints)
  renewed_there file owner is f server c = ⊎_elim
      (λ (old : Contains hints (f, server)). there f server old)
      (λ (new : server ≡ owner). subst (IsServerThere k) (sym new) is)
      (renewed_has file owner hints (f, server) c)

  pub some_renewed : (file : Option ℕ) (owner : Actor) (hints' : Pairs) → IsServerThere k owner → AreRenewed file owner hints hints' → AreServersThere k hints'
  some_renewed None owner hints' is e = subst (AreServersThere k) (sym e) there
  some_renewed (Some file) owner hints' is o = ⊎_elim
      (λ (e : hints' ≡ renewed file owner hints). subst (AreServersThere k) (sym e) (renewed_there file owner is))
      (λ (e : (hint_of file hints ≡ None) × (hints' ≡ hints)). subst (AreServersThere k) (sym e.1) there)
      o

  pub told_renewed : (file : Option ℕ) (owner : Option Actor) (hints' : Pairs) → ((s : Actor) → owner ≡ Some s → IsServerThere k s) → AreRenewedBy file owner hints hints' → AreServersThere k hints'
  told_renewed file None hints' is e = subst (AreServersThere k) (sym e) there
  told_renewed file (Some owner) hints' is e = some_renewed file owner hints' (is owner refl) e
