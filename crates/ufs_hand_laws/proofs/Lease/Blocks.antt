-- After a change of leases the committed blocks are kept, and no block is in two parts.
use Rattle.std.proofs.Common.{◌≡◌, ℕ, ◌⊎◌, List, [], ◌∷◌, set, sym, refl, ap, ◌∙◌, subst, arith}
use Rattle.ufs_hand_laws.specs.Owned.{one, present, Has, count, each, times, replaced}
use Rattle.ufs_hand_laws.specs.Parts.{FilePart, NamesPart, uses, file_uses, names_uses}
use Rattle.ufs_hand_laws.specs.CommittedHeld.{IsCommittedHeld}
use Rattle.ufs_hand_laws.proofs.Owning.{change_total}
use Rattle.ufs_hand_laws.specs.BlocksApart.{AreBlocksApart}
use Rattle.ufs_hand_laws.proofs.Lease.Setting.{LeaseStep, leasing, gone}

module _ (step : LeaseStep) where
  open step use {S, k, word, views, i, v, o, at, go}
  open leasing step use {w, next, client_was, file_was, names_were, client_present, file_present}

  uses_same : (b : ℕ) → uses b w ≡ uses b v
  uses_same b =
      let f = files_same v.files in let n = names_same v.names in omega arith
    where
      one_file : (g : ℕ) (x : FilePart) → file_uses b (g, go.file g x) ≡ file_uses b (g, x)
      one_file g x = ap (λ (z : FilePart). file_uses b (g, z)) (go.leases g x)

      one_names : (u : Unit {0}) (x : NamesPart) → names_uses b (u, go.names u x) ≡ names_uses b (u, x)
      one_names u x = ap (λ (z : NamesPart). names_uses b (u, z)) (go.of_names u x)

      files_same : (ps : List (ℕ × FilePart)) → Rattle.ufs_hand_laws.specs.Owned.weigh (file_uses b) (each go.file ps) ≡ Rattle.ufs_hand_laws.specs.Owned.weigh (file_uses b) ps
      files_same [] = refl
      files_same (p ∷ ps) = let a = one_file p.0 p.1 in let r = files_same ps in omega arith

      names_same : (ps : List (Unit {0} × NamesPart)) → Rattle.ufs_hand_laws.specs.Owned.weigh (names_uses b) (each go.names ps) ≡ Rattle.ufs_hand_laws.specs.Owned.weigh (names_uses b) ps
      names_same [] = refl
      names_same (p ∷ ps) = let a = one_names p.0 p.1 in let r = names_same ps in omega arith

  pub apart_next : AreBlocksApart k (set views i w)
  apart_next = record { same = λ b. change_total (uses b) views i v w at (uses_same b) ∙ o.blocks_apart.same b; once = o.blocks_apart.once }

  pub committed_next : IsCommittedHeld k o.history next
  committed_next = record {
    live = λ f bs b x ext h is. let y = file_was f x is in subst (λ (z : FilePart). Has b z.blocks ⊎ Has b z.quarantine) (sym y.2) (o.committed_held.live f bs b y.0 ext h y.1);
    dropped = λ f bs b ext h none. subst (λ (z : NamesPart). (q : List ℕ) × Has (f, q) z.dropped × Has b q) (sym names_were) (o.committed_held.dropped f bs b ext h (gone step f none));
    numbered = o.committed_held.numbered;
    dirs = λ b h. subst (λ (z : NamesPart). Has b z.blocks) (sym names_were) (o.committed_held.dirs b h);
  }
