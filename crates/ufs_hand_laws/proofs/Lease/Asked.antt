-- After a change of leases a client has what it had when it asked.
use Rattle.std.proofs.Common.{◌≡◌, ◌++◌, ap, ◌∙◌, inl, inr, ⊎_elim, append_assoc}
use Rattle.std.specs.FinMap as fin
use Rattle.ufs_hand_laws.specs.Parts.{ClientPart, FilePart, NamesPart, Shortage, View, World, Word, Start, only_one, uses, file_uses, names_uses, is_file, is_names, is_holder}
use Rattle.ufs_hand_laws.specs.Asked.{IsAskedTrue, IsStill, IsAnswered}
use Rattle.ufs_hand_laws.proofs.Lease.Setting.{LeaseStep, leasing}

module _ (step : LeaseStep) where
  open step use {S, k, word, views, i, v, o, at, go}
  open leasing step use {w, next, client_was, file_was, names_were, client_present, file_present}

  pub asked_next : IsAskedTrue word next
  asked_next = record {
    seen = o.asked.seen;
    kept = λ n a p ia ip. let y = client_was n p ip in ⊎_elim (λ s. inl (still a p y.0 y.2 s)) (λ s. inr (answered a p y.0 y.2 s)) (o.asked.kept n a y.0 ia y.1);
    copies = λ n a p ia ip. let y = client_was n p ip in let c = o.asked.copies n a y.0 ia y.1 in
        (c.0 ++ y.3, y.4 ∙ ap (λ l. l ++ y.3) c.1 ∙ append_assoc a.copies c.0 y.3);
  }
    where
      still : (a : Rattle.ufs_hand_laws.specs.Parts.AskedPart) (p y : ClientPart) → p ≡ record y { copies = p.copies } → IsStill a y → IsStill a p
      still a p y e s = record { entries = ap (λ (q : ClientPart). q.entries) e ∙ s.entries; fds = ap (λ (q : ClientPart). q.fds) e ∙ s.fds; asked = ap (λ (q : ClientPart). q.asked) e ∙ s.asked }

      answered : (a : Rattle.ufs_hand_laws.specs.Parts.AskedPart) (p y : ClientPart) → p ≡ record y { copies = p.copies } → IsAnswered a y → IsAnswered a p
      answered a p y e s = record {
        entry = s.entry;
        entries = ap (λ (q : ClientPart). q.entries) e ∙ s.entries;
        asked = s.asked;
        later = s.later;
        others = λ n d. ap (λ (q : ClientPart). fin.get q.fds n) e ∙ s.others n d;
        done = ap (λ (q : ClientPart). q.asked) e ∙ s.done;
      }
