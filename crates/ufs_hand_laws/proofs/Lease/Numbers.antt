-- After a change of leases the committed numbers cover what is acknowledged.
use Rattle.std.proofs.Common.{sym, ap, ◌∙◌, subst, arith}
use Rattle.ufs_hand_laws.specs.Owned.{Has}
use Rattle.ufs_hand_laws.specs.Parts.{FilePart, NamesPart}
use Rattle.ufs_hand_laws.specs.CommittedNumbers.{AreCommittedNumbers}
use Rattle.ufs_hand_laws.proofs.Lease.Setting.{LeaseStep, leasing}

module _ (step : LeaseStep) where
  open step use {S, k, word, views, i, v, o, at, go}
  open leasing step use {w, next, client_was, file_was, names_were, client_present, file_present}

  pub numbers_next : AreCommittedNumbers k o.history next
  numbers_next = let z = o.committed_numbers in record {
    files = z.files;
    names = z.names;
    births = z.births;
    after_birth = z.after_birth;
    known = λ f x is. let y = file_was f x is in let a = ap (λ (q : FilePart). q.known) y.2 in let b = z.known f y.0 y.1 in omega arith;
    covers = λ f x is. let y = file_was f x is in subst (Rattle.ufs_hand_laws.specs.Covers.CoversFile k.tree o.history f) (sym (ap (λ (q : FilePart). q.known) y.2)) (z.covers f y.0 y.1);
    born = λ f x is b. let y = file_was f x is in z.born f y.0 y.1 (sym (ap (λ (q : FilePart). q.born) y.2) ∙ b);
    names_known = let a = ap (λ (q : NamesPart). q.known) names_were in let b = z.names_known in omega arith;
    names_cover = subst (Rattle.ufs_hand_laws.specs.Covers.CoversNames k.tree o.history) (sym (ap (λ (q : NamesPart). q.known) names_were)) z.names_cover;
    names_born = λ f h. z.names_born f (subst (Has f) (ap (λ (q : NamesPart). q.born) names_were) h);
  }
