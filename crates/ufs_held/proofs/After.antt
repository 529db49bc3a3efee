-- What a server and its guest have once an entry is drawn.
use Rattle.std.proofs.Common.{◌≡◌, ◌≢◌, ℕ, suc, ◌≤◌, leb, arith, Bool, true, false, cond, eqb, ne_eqb, List, [], ◌∷◌, ◌++◌, Option, Some, None, sym, refl, ap, ◌∙◌, subst}
use Rattle.std.proofs.lemmas.Bool.{leb-false}
use Rattle.std.specs.FinMap as fin
use Rattle.ufs_bitmap.specs.Blocks.{BlockSet}
use Rattle.ufs_file_commits.specs.State.{DurableState}
use Rattle.ufs_model.specs.Asks.{fd_named}
use Rattle.ufs_model.specs.History.{is_excused}
use Rattle.ufs_model.specs.declared.data.Ask.{Ask}
use Rattle.ufs_model.specs.declared.data.Desc.{Desc}
use Rattle.ufs_model.specs.declared.data.Entry.{Entry}
use Rattle.ufs_model.specs.declared.data.PartName.TheVariants.{File}
use Rattle.ufs_hand_laws.specs.Draws.{client_after}
use Rattle.ufs_hand_laws.specs.Owned.{each, only, without}
use Rattle.ufs_hand_laws.specs.Parts.{ClientPart, OwnFds, is_file, later}
use Rattle.ufs_hand_laws.proofs.Keys.{itself}
use Rattle.ufs_joint.specs.Cells.{FileCell, View, both_of, given_of, kept_of}
use Rattle.ufs_joint.specs.Draws.{drawn}
use Rattle.ufs_joint.specs.FileHands.{IsFileHand, own_desc}
use Rattle.ufs_turns.specs.Lent.{HasCommitted, IsBeside, LendsFile}
use Rattle.ufs_held.specs.Asking.{Asks, IsAnswered, IsGuest}
use Rattle.ufs_held.specs.Committed.{HasSameCells}
use Rattle.ufs_held.specs.Drawn.{cell_then, fds_with, first_fds, fresh_of, held_leaves}
use Rattle.ufs_held.specs.Held.{HasFileAlone, IsHeld, first_cell}
use Rattle.ufs_held.specs.Together.{still_of}
use Rattle.ufs_held.proofs.Drawing.{other_fds, this_fd}

pub without_none : {K D : Type 0} (ps : List (K × D)) → without (λ _. false) ps ≡ ps
without_none [] = refl
without_none (p ∷ ps) = ap (λ qs. p ∷ qs) (without_none ps)

pub only_none : {K D : Type 0} (ps : List (K × D)) → only (λ _. false) ps ≡ []
only_none [] = refl
only_none (p ∷ ps) = only_none ps

module _ (own guest : View) (x : DurableState) (client : ℕ) (part : ClientPart) (n : ℕ) (pool : BlockSet) (held : IsHeld x own) (came : IsGuest client part n pool guest) where
  abbrev pub joined : View
  joined = both_of own guest

  pub joined_hand : IsFileHand (both_of own guest) client part x.file.file held.cell n pool
  joined_hand = record {
    clients = λ i. held.clients i ++ came.clients i;
    files = λ i. held.files i ++ came.files i;
    pools = λ i. held.pools i ++ came.pools i;
    names = λ i. held.names i ++ came.names i;
    number = ap (λ (q : DurableState). q.file.file) held.value;
  }

  joined_asked : joined.asked ≡ []
  joined_asked = λ i. held.asked i ++ came.asked i

  joined_store : joined.store ≡ []
  joined_store = λ i. held.store i ++ came.store i

  module _ (y : DurableState) (left : BlockSet) (entry : Entry) (desc : Option Desc) (of_client : entry.client ≡ client) (number : y.file.file ≡ x.file.file) (kept : is_excused entry.reply ≡ true → y ≡ x) (z : View)
      (is : z ≡ drawn entry.ticket (fresh_of entry) (held_leaves (fresh_of entry) joined y left desc entry.ticket) joined) (off : n ≢ x.file.file) where
    abbrev excused : Bool
    excused = is_excused entry.reply

    abbrev cell : FileCell
    cell = cell_then (is_excused entry.reply) y entry.ticket held.cell

    files_are : z.files ≡ (x.file.file, cell) ∷ []
    files_are = ap (λ (q : View). q.files) is ∙ ap (each (λ _ c. cell_then (is_excused entry.reply) y entry.ticket c)) joined_hand.files

    pools_are : z.pools ≡ (n, left) ∷ []
    pools_are = ap (λ (q : View). q.pools) is ∙ ap (each (λ _ s. left)) joined_hand.pools

    asked_are : z.asked ≡ []
    asked_are = ap (λ (q : View). q.asked) is ∙ joined_asked

    names_are : z.names ≡ []
    names_are = ap (λ (q : View). q.names) is

    store_is : z.store ≡ []
    store_is = ap (λ (q : View). q.store) is ∙ joined_store

    same : eqb x.file.file x.file.file ≡ true
    same = itself x.file.file

    other : eqb x.file.file n ≡ false
    other = ne_eqb x.file.file n (λ e. off (sym e))

    value_is : cell.value ≡ y
    value_is = by (is_excused entry.reply) refl
      where
        by : (b : Bool) → is_excused entry.reply ≡ b → (cell_then b y entry.ticket held.cell).value ≡ y
        by true e = held.value ∙ sym (kept e)
        by false e = refl

    pub held_then : IsHeld y (given_of (File x.file.file) z)
    held_then = record {
      cell = cell;
      clients = only_none z.clients;
      asked = only_none z.asked;
      files = ap (only (is_file (File x.file.file))) files_are ∙ (λ i. cond (same i) ((x.file.file, cell) ∷ []) []) ∙ ap (λ (m : ℕ). (m, cell) ∷ []) (sym number);
      pools = ap (only (is_file (File x.file.file))) pools_are ∙ (λ i. cond (other i) ((n, left) ∷ []) []);
      names = only_none z.names;
      store = only_none z.store;
      value = value_is;
    }

    abbrev fds : OwnFds
    fds = cond (is_excused entry.reply) part.fds (fds_with part.fds (fd_named entry.op) desc)

    abbrev pub after : ClientPart
    after = record part { entries = part.entries ++ entry ∷ []; fds = fds; asked = None }

    clients_are : z.clients ≡ (client, after) ∷ []
    clients_are =
        ap (λ (q : View). q.clients) is
        ∙ (λ i. each (client_after entry (cond (is_excused entry.reply) (first_fds (joined_hand.clients i)) (fds_with (first_fds (joined_hand.clients i)) (fd_named entry.op) desc))) (joined_hand.clients i))
        ∙ ap (λ (b : Bool). (client, cond b (record part { entries = part.entries ++ entry ∷ []; fds = fds; asked = None }) part) ∷ []) (ap (λ (c : ℕ). eqb c client) of_client ∙ itself client)

    pub guest_then : IsGuest client after n left (kept_of (File x.file.file) z)
    guest_then = record {
      clients = without_none z.clients ∙ clients_are;
      asked = without_none z.asked ∙ asked_are;
      files = ap (without (is_file (File x.file.file))) files_are ∙ (λ i. cond (same i) [] ((x.file.file, cell) ∷ []));
      pools = ap (without (is_file (File x.file.file))) pools_are ∙ (λ i. cond (other i) [] ((n, left) ∷ []));
      names = without_none z.names ∙ names_are;
      store = without_none z.store ∙ store_is;
    }

    pub answered_then : (ask : Ask) → Asks part ask → entry.op ≡ ask.op → (is_excused entry.reply ≡ true → desc ≡ ask.desc) → IsAnswered part entry desc after
    answered_then ask asks op same_desc = record {
      fds = fds;
      is = refl;
      this = λ fd d named told. this (is_excused entry.reply) refl fd d named told;
      others = λ fd not. others (is_excused entry.reply) fd not;
    }
      where
        this : (b : Bool) → is_excused entry.reply ≡ b → (fd : ℕ) (d : Desc) → fd_named entry.op ≡ Some fd → desc ≡ Some d → fin.get (cond b part.fds (fds_with part.fds (fd_named entry.op) desc)) fd ≡ Some d
        this true e fd d named told = sym (ap (own_desc part.fds) (ap fd_named (sym op) ∙ named)) ∙ sym asks.told ∙ sym (same_desc e) ∙ told
        this false e fd d named told = this_fd part.fds (fd_named entry.op) desc fd d named told

        others : (b : Bool) (fd : ℕ) → fd_named entry.op ≢ Some fd → fin.get (cond b part.fds (fds_with part.fds (fd_named entry.op) desc)) fd ≡ fin.get part.fds fd
        others true fd not = refl
        others false fd not = other_fds part.fds (fd_named entry.op) desc fd not

    first_is : first_cell y (given_of (File x.file.file) z).files ≡ cell
    unfolding held_then
    first_is = ap (first_cell y) held_then.files

    pub known_then : (first_cell y (given_of (File x.file.file) z).files).known ≡ held.cell.known
    known_then = ap (λ (q : FileCell). q.known) first_is ∙ by (is_excused entry.reply)
      where
        by : (b : Bool) → (cell_then b y entry.ticket held.cell).known ≡ held.cell.known
        by true = refl
        by false = refl

    pub born_then : (first_cell y (given_of (File x.file.file) z).files).born ≡ held.cell.born
    born_then = ap (λ (q : FileCell). q.born) first_is ∙ by (is_excused entry.reply)
      where
        by : (b : Bool) → (cell_then b y entry.ticket held.cell).born ≡ held.cell.born
        by true = refl
        by false = refl

    pub kept_then : is_excused entry.reply ≡ true → first_cell y (given_of (File x.file.file) z).files ≡ held.cell
    kept_then e = first_is ∙ ap (λ (b : Bool). cell_then b y entry.ticket held.cell) e

    pub changed_then : is_excused entry.reply ≡ false → (first_cell y (given_of (File x.file.file) z).files).changed ≡ suc entry.ticket
    changed_then e = ap (λ (q : FileCell). q.changed) first_is ∙ ap (λ (b : Bool). (cell_then b y entry.ticket held.cell).changed) e

    pub number_then : (first_cell y (given_of (File x.file.file) z).files).value.file.file ≡ x.file.file
    number_then = ap (λ (q : FileCell). q.value.file.file) first_is ∙ ap (λ (q : DurableState). q.file.file) value_is ∙ number

  -- ---- where all stays

  module _ (entry : Entry) (of_client : entry.client ≡ client) (z : View) (is : z ≡ drawn entry.ticket (fresh_of entry) (still_of joined) joined) (off : n ≢ x.file.file) where
    kept_files : z.files ≡ (x.file.file, held.cell) ∷ []
    kept_files = ap (λ (q : View). q.files) is ∙ joined_hand.files

    kept_pools : z.pools ≡ (n, pool) ∷ []
    kept_pools = ap (λ (q : View). q.pools) is ∙ joined_hand.pools

    kept_same : eqb x.file.file x.file.file ≡ true
    kept_same = itself x.file.file

    kept_other : eqb x.file.file n ≡ false
    kept_other = ne_eqb x.file.file n (λ e. off (sym e))

    pub held_still : IsHeld x (given_of (File x.file.file) z)
    held_still = record {
      cell = held.cell;
      clients = only_none z.clients;
      asked = only_none z.asked;
      files = ap (only (is_file (File x.file.file))) kept_files ∙ (λ i. cond (kept_same i) ((x.file.file, held.cell) ∷ []) []);
      pools = ap (only (is_file (File x.file.file))) kept_pools ∙ (λ i. cond (kept_other i) ((n, pool) ∷ []) []);
      names = only_none z.names;
      store = only_none z.store;
      value = held.value;
    }

    pub still_first : first_cell x (given_of (File x.file.file) z).files ≡ held.cell
    unfolding held_still
    still_first = ap (first_cell x) held_still.files

    abbrev pub acknowledged : ClientPart
    acknowledged = record part { entries = part.entries ++ entry ∷ []; asked = None }

    kept_clients : z.clients ≡ (client, acknowledged) ∷ []
    kept_clients =
        ap (λ (q : View). q.clients) is
        ∙ (λ i. each (client_after entry (first_fds (joined_hand.clients i))) (joined_hand.clients i))
        ∙ ap (λ (b : Bool). (client, cond b (record part { entries = part.entries ++ entry ∷ []; asked = None }) part) ∷ []) (ap (λ (c : ℕ). eqb c client) of_client ∙ itself client)

    pub guest_still : IsGuest client acknowledged n pool (kept_of (File x.file.file) z)
    guest_still = record {
      clients = without_none z.clients ∙ kept_clients;
      asked = without_none z.asked ∙ ap (λ (q : View). q.asked) is ∙ joined_asked;
      files = ap (without (is_file (File x.file.file))) kept_files ∙ (λ i. cond (kept_same i) [] ((x.file.file, held.cell) ∷ []));
      pools = ap (without (is_file (File x.file.file))) kept_pools ∙ (λ i. cond (kept_other i) [] ((n, pool) ∷ []));
      names = without_none z.names ∙ ap (λ (q : View). q.names) is ∙ joined_hand.names;
      store = without_none z.store ∙ ap (λ (q : View). q.store) is ∙ joined_store;
    }

    pub answered_still : (ask : Ask) → Asks part ask → entry.op ≡ ask.op → IsAnswered part entry ask.desc acknowledged
    answered_still ask asks op = record {
      fds = part.fds;
      is = refl;
      this = λ fd d named told. sym (ap (own_desc part.fds) (ap fd_named (sym op) ∙ named)) ∙ sym asks.told ∙ told;
      others = λ fd not. refl;
    }

-- ---- what was seen

pub later_right : (a b : ℕ) → b ≤ later a b
later_right a b = by (leb a b) refl
  where
    by : (d : Bool) → leb a b ≡ d → b ≤ cond d b a
    by true e = omega arith
    by false e = let l = leb-false a b e in omega (arith, l)

-- what a hand has seen that comes is below a ticket that is drawn once it has joined
pub came_below : (own guest joined : View) (ticket : ℕ) → joined ≡ both_of own guest → joined.seen ≤ ticket → guest.seen ≤ ticket
came_below own guest joined ticket is below =
    let l : guest.seen ≤ joined.seen = subst (λ (v : View). guest.seen ≤ v.seen) (sym is) (later_right own.seen guest.seen) in
    omega (arith, l, below)

-- what contracts see of a file at a server
pub first_held : (x : DurableState) (v : View) (h : IsHeld x v) → first_cell x v.files ≡ h.cell
first_held x v h = ap (first_cell x) h.files

-- so its value is what the server has
pub kept_value : (x : DurableState) (v : View) (h : IsHeld x v) → x ≡ (first_cell x v.files).value
kept_value x v h = sym (ap (λ (q : FileCell). q.value) (first_held x v h) ∙ h.value)

pub seen_value : (x : DurableState) (v : View) (h : IsHeld x v) (seen : FileCell) → first_cell x v.files ≡ seen → x ≡ seen.value
seen_value x v h seen is = kept_value x v h ∙ ap (λ (q : FileCell). q.value) is

abbrev first_part : ClientPart → List (ℕ × ClientPart) → ClientPart
first_part p [] = p
first_part p (q ∷ qs) = q.1

pub named_in : (x : DurableState) (v : View) (h : IsHeld x v) (seen : FileCell) → first_cell x v.files ≡ seen → seen.value.file.file ≡ x.file.file
named_in x v h seen is = ap (λ (q : DurableState). q.file.file) (sym (seen_value x v h seen is))

-- and it has that cell alone
pub alone : (x : DurableState) (v : View) (h : IsHeld x v) (seen : FileCell) → first_cell x v.files ≡ seen → HasFileAlone seen v
alone x v h seen is = record {
  clients = h.clients;
  asked = h.asked;
  files = h.files ∙ (λ i. ((seen_value x v h seen is i).file.file, (sym (first_held x v h) ∙ is) i) ∷ []);
  pools = h.pools;
  names = h.names;
  store = h.store;
}

pub same_part : (client : ℕ) (one two : ClientPart) (n m : ℕ) (pool more : BlockSet) (v : View) → IsGuest client one n pool v → IsGuest client two m more v → one ≡ two
same_part client one two n m pool more v a b = ap (first_part one) (sym a.clients ∙ b.clients)

-- ---- a file that was synced

module _ (visible : Bool) (own synced : View) (x y : DurableState) (held : IsHeld x own) where
  pub lends : LendsFile x.file.file held.cell own
  lends = record { file = record { files = held.files; names = held.names; number = ap (λ (q : DurableState). q.file.file) held.value }; away = held.store }

  module _ (beside : IsBeside own synced) (away : synced.store ≡ []) where
    abbrev pub held_synced : HasCommitted visible x.file.file held.cell y synced → IsHeld y synced
    held_synced done = record {
      cell = record held.cell { value = y; known = done.known };
      clients = beside.clients ∙ held.clients;
      asked = beside.asked ∙ held.asked;
      files = done.file.files ∙ ap (λ (m : ℕ). (m, record held.cell { value = y; known = done.known }) ∷ []) (sym done.file.number);
      pools = beside.pools ∙ held.pools;
      names = done.file.names;
      store = away;
      value = refl;
    }

    pub held_failed : LendsFile x.file.file held.cell synced → y ≡ x → IsHeld y synced
    held_failed still kept = subst (λ (q : DurableState). IsHeld q synced) (sym kept) (record {
      cell = held.cell;
      clients = beside.clients ∙ held.clients;
      asked = beside.asked ∙ held.asked;
      files = still.file.files;
      pools = beside.pools ∙ held.pools;
      names = still.file.names;
      store = away;
      value = held.value;
    })

    pub failed_first : LendsFile x.file.file held.cell synced → first_cell y synced.files ≡ first_cell x own.files
    failed_first still = ap (first_cell y) still.file.files ∙ sym (ap (first_cell x) held.files)

-- ---- a file that was read

module _ (visible : Bool) (own read : View) (x y : DurableState) (held : IsHeld x own) (number : y.file.file ≡ x.file.file) (beside : IsBeside own read) (lent : LendsFile x.file.file (record held.cell { value = y }) read) where
  pub held_fetched : IsHeld y read
  held_fetched = record {
    cell = record held.cell { value = y };
    clients = beside.clients ∙ held.clients;
    asked = beside.asked ∙ held.asked;
    files = lent.file.files ∙ ap (λ (m : ℕ). (m, record held.cell { value = y }) ∷ []) (sym number);
    pools = beside.pools ∙ held.pools;
    names = lent.file.names;
    store = lent.away;
    value = refl;
  }

  pub first_fetched : first_cell y read.files ≡ record (first_cell x own.files) { value = y }
  first_fetched = ap (first_cell y) lent.file.files ∙ sym (ap (λ (cs : List (ℕ × FileCell)). record (first_cell x cs) { value = y }) held.files)

-- ---- what its hand was told goes on

module _ (own : View) (x : DurableState) (held : IsHeld x own) where
  its_number : eqb x.file.file x.file.file ≡ true
  its_number = itself x.file.file

  pub own_files : (given_of (File x.file.file) own).files ≡ (x.file.file, held.cell) ∷ []
  own_files = ap (only (is_file (File x.file.file))) held.files ∙ (λ i. cond (its_number i) ((x.file.file, held.cell) ∷ []) [])

  pub own_given : IsHeld x (given_of (File x.file.file) own)
  own_given = record {
    cell = held.cell;
    clients = only_none own.clients;
    asked = only_none own.asked;
    files = own_files;
    pools = ap (only (is_file (File x.file.file))) held.pools;
    names = only_none own.names;
    store = only_none own.store;
    value = held.value;
  }

  pub first_given : first_cell x (given_of (File x.file.file) own).files ≡ first_cell x own.files
  first_given = ap (first_cell x) own_files ∙ sym (first_held x own held)

  pub own_left : (kept_of (File x.file.file) own).files ≡ []
  own_left = ap (without (is_file (File x.file.file))) held.files ∙ (λ k. cond (its_number k) [] ((x.file.file, held.cell) ∷ []))

  pub told_on : (guest : View) → HasSameCells guest (both_of (kept_of (File x.file.file) own) guest)
  told_on guest = record {
    clients = λ i. (without_none own.clients ∙ held.clients) i ++ guest.clients;
    asked = λ i. (without_none own.asked ∙ held.asked) i ++ guest.asked;
    files = λ i. own_left i ++ guest.files;
    pools = λ i. ap (without (is_file (File x.file.file))) held.pools i ++ guest.pools;
    names = λ i. (without_none own.names ∙ held.names) i ++ guest.names;
    store = λ i. (without_none own.store ∙ held.store) i ++ guest.store;
    seen = later_right own.seen guest.seen;
  }
