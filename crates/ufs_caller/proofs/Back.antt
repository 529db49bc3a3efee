-- A client's part comes back or by: with what was asked beside it, the hand knows that it has the answer to that, or asks it still.
use Rattle.std.proofs.Common.{◌≡◌, ◌≢◌, ◌≤◌, ◌<◌, ◌+◌, ◌⊎◌, ℕ, ⊎_elim, Bool, true, false, cond, eqb, List, [], ◌∷◌, ◌++◌, length, Option, Some, None, inl, inr, sym, refl, ap, ◌∙◌, subst, arith}
use Rattle.std.specs.Prelude.{IsSome}
use Rattle.std.specs.FinMap as fin
use Rattle.ufs_joint.specs.Cells.{Start, View, both_of, given_of, kept_of}
use Rattle.ufs_joint.specs.FileHands.{own_desc}
use Rattle.ufs_joint.specs.Known.{Knows}
use Rattle.ufs_joint.specs.Rule.{looked_at}
use Rattle.ufs_model.specs.Asks.{fd_named, fd_told}
use Rattle.ufs_model.specs.History.{IsLegalFrom, entries_of, goes_on, tree_after}
use Rattle.ufs_model.specs.PosixTree.{Fds, PosixTree, desc_at}
use Rattle.ufs_model.specs.declared.data.Actor.{Actor}
use Rattle.ufs_model.specs.declared.data.Ask.{Ask}
use Rattle.ufs_model.specs.declared.data.Desc.{Desc}
use Rattle.ufs_model.specs.declared.data.Entry.{Entry}
use Rattle.ufs_model.specs.declared.data.Lease.{Lease}
use Rattle.ufs_model.specs.declared.data.Op.{Op}
use Rattle.ufs_model.specs.declared.data.PartName.TheVariants.{Client}
use Rattle.ufs_msg.specs.Answers.{IsTold}
use Rattle.ufs_msg.specs.Requests.{HasClientAlone, IsAsked}
use Rattle.ufs_hand_laws.specs.Asked.{IsAnswered, IsStill}
use Rattle.ufs_hand_laws.specs.Owned.{Has}
use Rattle.ufs_hand_laws.specs.Parts.{AskedPart, ClientPart, OwnFds}
use Rattle.ufs_caller.specs.Hands.{HasAskedAlone, HasBoth, IsBack, IsStillAsked}
use Rattle.ufs_caller.proofs.Asking.{asked_left, client_given}
use Rattle.ufs_caller.proofs.Ranges.{ranged_closed, ranged_history}

none_some : {A : Type 0} (x : A) → None ≡ Some x → ⊥
none_some x e = cc

pub last_same : {A : Type 0} (xs ys : List A) (x y : A) → xs ++ x ∷ [] ≡ ys ++ y ∷ [] → (xs ≡ ys) × (x ≡ y)
last_same [] [] x y e = let s : x ≡ y = cc in (refl, s)
last_same [] (b ∷ []) x y e = absurd cc
last_same [] (b ∷ d ∷ ys) x y e = absurd cc
last_same (a ∷ []) [] x y e = absurd cc
last_same (a ∷ d ∷ xs) [] x y e = absurd cc
last_same (a ∷ xs) (b ∷ ys) x y e =
    let h : a ≡ b = cc in
    let t : xs ++ x ∷ [] ≡ ys ++ y ∷ [] = cc in
    let r = last_same xs ys x y t in ((λ i. h i ∷ r.0 i), r.1)

-- ---- tickets

-- the entries of a legal history have the tickets below its length
below : (n : ℕ) (t : PosixTree) (h : List Entry) → IsLegalFrom n t h → (e : Entry) → Has e h → e.ticket < n + length h
below n t [] legal e has = absurd has
below n t (x ∷ h) legal e (inl same) = let a = ap (λ (y : Entry). y.ticket) same in let b = legal.0.numbered in omega (arith, a, b)
below n t (x ∷ h) legal e (inr has) = let l = below (n + 1) (goes_on t x) h legal.1 e has in omega (arith, l)

of_all : (c : ℕ) (h : List Entry) (e : Entry) → Has e (entries_of c h) → Has e h
of_all c [] e has = has
of_all c (x ∷ h) e has = by (eqb x.client c) has (of_all c h e)
  where
    by : (b : Bool) → Has e (cond b (x ∷ entries_of c h) (entries_of c h)) → (Has e (entries_of c h) → Has e h) → (e ≡ x) ⊎ Has e h
    by true (inl same) more = inl same
    by true (inr has') more = inr (more has')
    by false has' more = inr (more has')

has_last : (xs : List Entry) (e : Entry) → Has e (xs ++ e ∷ [])
has_last [] e = inl refl
has_last (x ∷ xs) e = inr (has_last xs e)

-- ---- the client's part beside what was asked

module _ (k : Start) (n : ℕ) (client : ℕ) (self : ClientPart) (before : AskedPart) (own back : View) (alone : HasAskedAlone client before own) (part : HasClientAlone client self back) (knows : Knows k n (both_of own back)) where
  pub both : HasBoth client self before (both_of own back)
  both = record {
    clients = λ j. alone.clients j ++ part.clients j;
    asked = λ j. alone.asked j ++ part.asked j;
    files = λ j. alone.files j ++ part.files j;
    pools = λ j. alone.pools j ++ part.pools j;
    names = λ j. alone.names j ++ part.names j;
    store = λ j. alone.store j ++ part.store j;
  }

  pub both_seen : HasBoth client self before (looked_at (both_of own back) n)
  both_seen = record { clients = both.clients; asked = both.asked; files = both.files; pools = both.pools; names = both.names; store = both.store }

  has_client : Has {A = ℕ × ClientPart} (client, self) (both_of own back).clients
  has_client = subst (Has {A = ℕ × ClientPart} (client, self)) (sym both.clients) (inl refl)

  has_asked : Has {A = ℕ × AskedPart} (client, before) (both_of own back).asked
  has_asked = subst (Has {A = ℕ × AskedPart} (client, before)) (sym both.asked) (inl refl)

  pub still_or_answered : IsStill before self ⊎ IsAnswered before self
  still_or_answered = knows.asked client before self has_asked has_client

  pub its_fds : (fd : ℕ) → fin.get self.fds fd ≡ desc_at (tree_after knows.start knows.history) client fd
  its_fds = knows.around.fds client self has_client

  pub ticket_within : (e : Entry) → Has e self.entries → e.ticket < n
  ticket_within e has =
      let l = below 0 knows.start knows.history knows.around.legal.entries e (of_all client knows.history e (subst (Has e) (knows.around.entries client self has_client) has)) in
      let m = knows.around.so_many in omega (arith, l, m)

  pub start_closed : ((fd : ℕ) → desc_at k.tree client fd ≡ None) → (fd : ℕ) → desc_at knows.start client fd ≡ None
  start_closed closed fd = ap (λ (fds : Fds). fin.get fds (client, fd)) knows.begun.alike.fds ∙ closed fd

-- ---- with its answer

module _ (k : Start) (n : ℕ) (entry : Entry) (desc : Option Desc) (owner : Option Actor) (lease : Option Lease) (own back : View) (told : IsTold k entry desc owner lease back)
    (before : AskedPart) (request : Op) (alone : HasAskedAlone entry.client before own) (asked : before.asked ≡ Some request) (closed : (fd : ℕ) → desc_at k.tree entry.client fd ≡ None)
    (knows : Knows k n (both_of own back)) where
  -- it isn't what it was, since nothing that it asked is left
  answered : IsAnswered before told.self
  answered = ⊎_elim
      (λ (s : IsStill before told.self). absurd (none_some request (sym told.idle ∙ s.asked ∙ asked)))
      (λ (a : IsAnswered before told.self). a)
      (still_or_answered k n entry.client told.self before own back alone told.alone knows)

  lasts : (told.before ≡ before.entries) × (entry ≡ answered.entry)
  lasts = last_same told.before before.entries entry answered.entry (sym told.last ∙ answered.entries)

  abbrev tree : PosixTree
  tree = tree_after knows.start knows.history

  of : (fd : ℕ) → fin.get told.self.fds fd ≡ desc_at tree entry.client fd
  of = its_fds k n entry.client told.self before own back alone told.alone knows

  pub is_back : IsBack before entry desc (looked_at (both_of own back) n)
  is_back = record {
    self = told.self;
    both = both_seen k n entry.client told.self before own back alone told.alone knows;
    entries = told.last ∙ ap (λ (es : List Entry). es ++ entry ∷ []) lasts.0;
    seq = told.seq ∙ ap (length {A = Entry}) lasts.0;
    asked = answered.asked ∙ ap (λ (e : Entry). Some e.op) (sym lasts.1);
    later = subst (λ (e : Entry). before.tickets ≤ e.ticket) (sym lasts.1) answered.later;
    within = ticket_within k n entry.client told.self before own back alone told.alone knows entry (subst (Has entry) (sym told.last) (has_last told.before entry));
    idle = told.idle;
    unleased = told.unleased;
    others = subst (λ (e : Entry). (m : ℕ) → fd_told e.op e.reply ≢ Some m → fin.get told.self.fds m ≡ fin.get before.fds m) (sym lasts.1) answered.others;
    desc_is = told.desc_is;
    ranged = λ fd there. ranged_history entry.client knows.start knows.history (ranged_closed entry.client knows.start (start_closed k n entry.client told.self before own back alone told.alone knows closed)) fd (subst IsSome (of fd) there);
    tree = tree;
    of = of;
  }

-- ---- with its request

module _ (k : Start) (n : ℕ) (ask : Ask) (own back : View) (is : IsAsked k ask back) (before : AskedPart) (alone : HasAskedAlone ask.client before own) (knows : Knows k n (both_of own back)) where
  -- it has no answer, since what it asked is left
  still : IsStill before is.self
  still = ⊎_elim
      (λ (s : IsStill before is.self). s)
      (λ (a : IsAnswered before is.self). absurd (none_some ask.op (sym a.done ∙ is.asked)))
      (still_or_answered k n ask.client is.self before own back alone is.alone knows)

  own_as : (o : Option ℕ) → own_desc is.self.fds o ≡ own_desc before.fds o
  own_as o = ap (λ (fds : OwnFds). own_desc fds o) still.fds

  pub is_still : IsStillAsked before ask
  is_still = record {
    asked = sym still.asked ∙ is.asked;
    seq = is.seq ∙ ap (length {A = Entry}) still.entries;
    desc = is.desc ∙ own_as (fd_named ask.op);
    told = λ t of. is.told t (λ fd. ap (λ (fds : OwnFds). fin.get fds fd) still.fds ∙ of fd);
  }

  abbrev seen : View
  seen = looked_at (both_of own back) n

  pub away_again : HasAskedAlone ask.client before (kept_of (Client ask.client) seen)
  away_again = asked_left ask.client is.self before seen (both_seen k n ask.client is.self before own back alone is.alone knows)

  pub asked_again : IsAsked k ask (given_of (Client ask.client) seen)
  asked_again = record {
    there = is.there;
    self = is.self;
    alone = client_given ask.client is.self before seen (both_seen k n ask.client is.self before own back alone is.alone knows);
    low = is.low;
    seq = is.seq;
    few = is.few;
    bounded = is.bounded;
    asked = is.asked;
    desc = is.desc;
    told = is.told;
    needs = is.needs;
    dropped = is.dropped;
    unleased = is.unleased;
  }
