-- After a change of leases the history leads to all parts.
use Rattle.std.proofs.Common.{length, sym, ap, ◌∙◌, subst, arith}
use Rattle.std.specs.FinMap as fin
use Rattle.ufs_hand_laws.specs.Parts.{ClientPart}
use Rattle.ufs_hand_laws.specs.TicketsOnce.{AreTicketsOnce}
use Rattle.ufs_hand_laws.specs.Legal.{IsOneHistory, FitsFile, FitsNames}
use Rattle.ufs_hand_laws.proofs.Lease.Setting.{LeaseStep, leasing}

module _ (step : LeaseStep) where
  open step use {S, k, word, views, i, v, o, at, go}
  open leasing step use {w, next, client_was, file_was, names_were, client_present, file_present}

  pub tickets_next : AreTicketsOnce k word o.history next
  tickets_next = record {
    tickets = o.tickets_once.tickets;
    entries = λ n p is. let y = client_was n p is in ap (λ (q : ClientPart). q.entries) y.2 ∙ o.tickets_once.entries n y.0 y.1;
    numbers = o.tickets_once.numbers;
    room = o.tickets_once.room;
    there = λ e h. let t = o.tickets_once.there e h in (t.0, client_present e.client ∙ t.1);
    asked = λ n p q is a. let y = client_was n p is in let l = ap (λ (z : ClientPart). length z.entries) y.2 in
        let b = o.tickets_once.asked n y.0 q y.1 (sym (ap (λ (z : ClientPart). z.asked) y.2) ∙ a) in omega arith;
    next = o.tickets_once.next;
  }

  pub legal_next : IsOneHistory k o.history next
  legal_next = record {
    start = o.legal.start;
    legal = o.legal.legal;
    tree = o.legal.tree;
    clients = λ n p is fd. let y = client_was n p is in ap (λ (z : ClientPart). fin.get z.fds fd) y.2 ∙ o.legal.clients n y.0 y.1 fd;
    files = λ g x is. let y = file_was g x is in subst (FitsFile k.tree o.history g) (sym y.2) (let z = o.legal.files g y.0 y.1 in record { opening = z.opening; changes = z.changes; bytes = z.bytes });
    there = λ g. file_present g ∙ o.legal.there g;
    names = subst (FitsNames k.tree o.history) (sym names_were) (let z = o.legal.names in record { opening = z.opening; changes = z.changes; paths = z.paths; next = z.next });
    next = o.legal.next;
    unborn = o.legal.unborn;
  }
