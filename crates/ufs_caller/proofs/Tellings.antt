-- A request under way is answered: the client is at home again, with one entry more.
use Rattle.std.proofs.Common.{◌≡◌, ◌≢◌, ℕ, ◌+◌, ◌≤◌, ◌⊎◌, inl, inr, List, [], ◌∷◌, ◌++◌, length, Option, Some, None, is_some, sym, refl, ap, ◌∙◌, subst, arith}
use Rattle.std.specs.Prelude.{IsSome}
use Rattle.std.specs.FinMap as fin
use Rattle.std.specs.Cmp.{nat_cmp_total}
use Rattle.std.specs.FinMap.{nat_cmp-IsAntisymmetric}
use Rattle.std.proofs.lemmas.List.{length-append}
use Rattle.ufs_client.specs.Clients.{AreRanged}
use Rattle.ufs_fds.specs.Descriptors.{AreOf, Descs}
use Rattle.ufs_hints.specs.Hints.{Pairs}
use Rattle.ufs_model.specs.Asks.{IsDescAfter, fd_told}
use Rattle.ufs_model.specs.PosixTree.{Fds}
use Rattle.ufs_model.specs.declared.data.Actor.{Actor}
use Rattle.ufs_model.specs.declared.data.Desc.{Desc}
use Rattle.ufs_model.specs.declared.data.Entry.{Entry}
use Rattle.ufs_model.specs.declared.data.Op.{Op}
use Rattle.ufs_model.proofs.Facts.Lookups.{inserted_else, inserted_here, one_or_apart, removed_else, removed_here, same_some}
use Rattle.ufs_model.proofs.Facts.Orders.{fd_same, fd_total}
use Rattle.ufs_joint.specs.Cells.{Start, View}
use Rattle.ufs_model.specs.declared.data.Lease.{Lease}
use Rattle.ufs_msg.specs.Answers as answers
use Rattle.ufs_msg.specs.Requests.{Asked}
use Rattle.ufs_msg.specs.There.{IsServerThere}
use Rattle.ufs_hand_laws.specs.Owned.{one}
use Rattle.ufs_caller.specs.Callers.{Caller, entries_in, file_answered, file_asked}
use Rattle.ufs_caller.specs.Hands.{IsBack, IsHome, request_in}
use Rattle.ufs_caller.specs.Tied.{IsTied, IsTripTied}
use Rattle.ufs_caller.specs.Turns.{AreRenewedBy, HasSent, IsAnswered}
use Rattle.ufs_caller.specs.declared.told.Told.{Told}
use Rattle.ufs_caller.specs.declared.trip.Trip.{Trip}
use Rattle.ufs_caller.proofs.Homes.{entries_after, entries_many, own_of, own_same}
use Rattle.ufs_caller.proofs.Places.{some_same}
use Rattle.ufs_caller.proofs.Redirects.{asked_is, errand_now, not_kept, place, seen_now, tickets_are}
use Rattle.ufs_caller.proofs.Made.{made_more}
use Rattle.ufs_caller.proofs.Servers.{told_renewed}
use Rattle.ufs_caller.proofs.Tries.{errand_at, seen}

-- ---- the descriptors of all clients before, by those afterwards and one table

pub record WereBefore (new : Fds) (c : ℕ) (table : Descs) (told : Option ℕ) : Type 0 where
  pub old : Fds
  pub are : AreOf old c table
  pub others : (d n : ℕ) → (d ≢ c) ⊎ (told ≢ Some n) → fin.get new (d, n) ≡ fin.get old (d, n)

abbrev at_pair : ℕ → ℕ → ℕ × ℕ
at_pair a b = (a, b)

pub were_before : (new : Fds) (c : ℕ) (table : Descs) (told : Option ℕ) → ((n : ℕ) → told ≢ Some n → fin.get new (c, n) ≡ fin.get table n) → WereBefore new c table told
were_before new c table None same = record { old = new; are = λ n. same n (no n); others = λ d n o. refl }
  where
    no : (n : ℕ) → None ≡ Some n → ⊥
    no n e = cc
were_before new c table (Some k) same = by (fin.get table k) refl
  where
    apart : (d n : ℕ) → (d ≢ c) ⊎ (Some k ≢ Some n) → at_pair d n ≡ at_pair c k → ⊥
    apart d n (inl other) e = other (ap (λ (x : ℕ × ℕ). x.0) e)
    apart d n (inr other) e = other (ap (λ (x : ℕ × ℕ). Some x.1) (sym e))

    beside : (n : ℕ) → (n ≡ k → ⊥) → Some k ≢ Some n
    beside n not e = not (sym (same_some k n e))

    by : (o : Option Desc) → fin.get table k ≡ o → WereBefore new c table (Some k)
    by None none = record {
      old = fin.remove new (c, k);
      are = λ n. at n (one_or_apart nat_cmp_total nat_cmp-IsAntisymmetric n k);
      others = λ d n o. sym (removed_else fd_total fd_same new (c, k) (d, n) (apart d n o));
    }
      where
        at : (n : ℕ) → (n ≡ k) ⊎ (n ≡ k → ⊥) → fin.get (fin.remove new (c, k)) (c, n) ≡ fin.get table n
        at n (inl e) = ap (λ (x : ℕ). fin.get (fin.remove new (c, k)) (c, x)) e ∙ removed_here fd_total fd_same new (c, k) ∙ sym none ∙ ap (fin.get table) (sym e)
        at n (inr not) = removed_else fd_total fd_same new (c, k) (c, n) (apart c n (inr (beside n not))) ∙ same n (beside n not)
    by (Some d') some = record {
      old = fin.insert new (c, k) d';
      are = λ n. at n (one_or_apart nat_cmp_total nat_cmp-IsAntisymmetric n k);
      others = λ d n o. sym (inserted_else fd_total fd_same new (c, k) d' (d, n) (apart d n o));
    }
      where
        at : (n : ℕ) → (n ≡ k) ⊎ (n ≡ k → ⊥) → fin.get (fin.insert new (c, k) d') (c, n) ≡ fin.get table n
        at n (inl e) = ap (λ (x : ℕ). fin.get (fin.insert new (c, k) d') (c, x)) e ∙ inserted_here fd_total fd_same new (c, k) d' ∙ sym some ∙ ap (fin.get table) (sym e)
        at n (inr not) = inserted_else fd_total fd_same new (c, k) d' (c, n) (apart c n (inr (beside n not))) ∙ same n (beside n not)

-- ---- back

module _ (k : Start) (entry : Entry) (told : List Told) (table : Descs) (left : List Op) (hand : View) (kept : Option Asked) (o : Option Trip) (hints : Pairs) (room : ℕ) (tied : IsTied k entry.client told table left hand kept o hints room) (trip : Trip) (is : o ≡ Some trip)
    (a : Caller) (view : seen entry.client told table left hand kept o hints ≡ a) (sent : HasSent a)
    (desc : Option Desc) (hand' : View) (back : IsBack (place k entry.client told table left hand kept o hints room tied trip is).away.before entry desc hand')
    (table' : Descs) (keeps : (old new : Fds) (client : ℕ) → AreOf old client table → IsDescAfter old new client (fd_told entry.op entry.reply) desc → AreRanged old client → AreRanged new client → AreOf new client table') where
  abbrev was : IsTripTied k entry.client told table hand kept trip
  was = place k entry.client told table left hand kept o hints room tied trip is

  abbrev fd : Option ℕ
  fd = fd_told entry.op entry.reply

  -- the other descriptors are those of the table
  beside : (n : ℕ) → fd ≢ Some n → fin.get back.tree.fds (entry.client, n) ≡ fin.get table n
  beside n not = sym (back.of n) ∙ back.others n not ∙ was.away.same n

  before : WereBefore back.tree.fds entry.client table fd
  before = were_before back.tree.fds entry.client table fd beside

  pub kept_are : AreOf back.tree.fds entry.client table'
  kept_are = keeps before.old back.tree.fds entry.client before.are
      (record { this = back.desc_is ∙ own_of back.self.fds back.tree entry.client back.of fd; others = before.others })
      (λ n there. tied.ranged n (subst IsSome (before.are n) there))
      (λ n there. back.ranged n (subst IsSome (sym (back.of n)) there))

  table_same : (n : ℕ) → fin.get back.self.fds n ≡ fin.get table' n
  table_same n = back.of n ∙ kept_are n

  home : IsHome entry.client (entries_in told ++ entry ∷ []) table' hand'
  home = record {
    self = back.self;
    before = was.away.before;
    both = back.both;
    entries_are = back.entries ∙ ap (λ (es : List Entry). es ++ entry ∷ []) was.away.entries_are;
    same = table_same;
    idle = back.idle;
    unleased = back.unleased;
    tree = back.tree;
    of = back.of;
  }

  module _ (told' : List Told) (told_is : told' ≡ told ++ record { entry = entry; via = trip.via } ∷ []) (room' : ℕ) (same_room : room' ≡ room)
      (file : Option ℕ) (owner : Option Actor) (hints' : Pairs) (there : (s : Actor) → owner ≡ Some s → IsServerThere k s) (by : IsServerThere k entry.by) (renewed : AreRenewedBy file owner hints hints') where
    abbrev x : Told
    x = record { entry = entry; via = trip.via }

    many : length told' ≡ length told + 1
    many = ap (length {A = Told}) told_is ∙ length-append told (x ∷ [])

    few_was : length told + (1 + length left) ≤ 65536
    few_was = subst (λ (t : Option Trip). length told + (one (is_some t) + length left) ≤ 65536) is tied.few

    room_was : length told + (1 + length left) ≤ room
    room_was = subst (λ (t : Option Trip). length told + (one (is_some t) + length left) ≤ room) is tied.room_is

    pub tied_told : IsTied k entry.client told' table' left hand' kept None hints' room'
    tied_told = record {
      low = tied.low;
      there = tied.there;
      closed = tied.closed;
      ranged = λ n t. back.ranged n (subst IsSome (sym (table_same n)) t);
      place = (subst (λ (es : List Entry). IsHome entry.client es table' hand') (sym (ap entries_in told_is ∙ entries_after told x)) home, not_kept k entry.client told table left hand kept o hints room tied trip is a view sent);
      servers = told_renewed k hints tied.servers file owner hints' there renewed;
      made = made_more k entry.client told told' x told_is (record { by = inr by; via = was.via }) tied.made;
      bounded = tied.bounded;
      few = omega (arith, many, few_was);
      room_is = omega (arith, many, room_was, same_room);
    }

    module _ (lease : Option Lease) (own : View) (of : file ≡ file_answered desc trip.file) where
      abbrev served : answers.Told
      served = record { hand = own; entry = entry; desc = desc; owner = owner; lease = lease }

      later : a.seen ≤ entry.ticket
      later =
          let s = seen_now k entry.client told table left hand kept o hints room tied trip is a view sent in
          let t = tickets_are k entry.client told table left hand kept o hints room tied trip is in
          let l = back.later in omega (arith, s, t, l)

      its_file : file ≡ file_answered desc (file_asked a.fds (request_in hand.asked))
      its_file = of ∙ ap (file_answered desc) (was.file ∙ (λ i. file_asked (view i).fds (sym (asked_is k entry.client told table left hand kept o hints room tied trip is) i)))

      pub answered : IsAnswered served a (seen entry.client told' table' left hand' kept None hints')
      answered = record {
        e = errand_at hand kept trip;
        errand = errand_now k entry.client told table left hand kept o hints room tied trip is a view sent;
        sent = not_kept k entry.client told table left hand kept o hints room tied trip is a view sent;
        idle = refl;
        told = told_is ∙ ap (λ (c : Caller). c.told ++ x ∷ []) view;
        client = ap (λ (c : Caller). c.number) view;
        seq = back.seq ∙ ap (length {A = Entry}) was.away.entries_are ∙ entries_many told ∙ ap (λ (c : Caller). length c.told) view;
        asked = some_same entry.op was.request (sym back.asked ∙ was.away.asked) ∙ sym (asked_is k entry.client told table left hand kept o hints room tied trip is);
        later = later;
        seen = back.within;
        others = λ n not. sym (table_same n) ∙ back.others n not ∙ was.away.same n ∙ ap (λ (c : Caller). fin.get c.fds n) view;
        desc = sym (back.desc_is ∙ own_same back.self.fds table' table_same fd);
        left = ap (λ (c : Caller). c.left) view;
        hints = subst (λ (f : Option ℕ). AreRenewedBy f owner a.hints hints') its_file (subst (λ (h : Pairs). AreRenewedBy file owner h hints') (ap (λ (c : Caller). c.hints) view) renewed);
      }
