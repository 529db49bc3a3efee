-- What a server of the names, its guest and a file have once an entry is drawn.
use Rattle.std.proofs.Common.{◌≡◌, ◌≢◌, ℕ, suc, Bool, true, false, cond, eqb, ne_eqb, List, [], ◌∷◌, ◌++◌, Option, Some, None, sym, refl, ap, ◌∙◌, subst}
use Rattle.std.specs.FinMap as fin
use Rattle.ufs_bitmap.specs.Blocks.{BlockSet}
use Rattle.ufs_file_commits.specs.State.{DurableState}
use Rattle.ufs_model.specs.Asks.{fd_told}
use Rattle.ufs_model.specs.History.{is_excused}
use Rattle.ufs_model.specs.declared.data.Desc.{Desc}
use Rattle.ufs_model.specs.declared.data.Entry.{Entry}
use Rattle.ufs_model.specs.declared.data.PartName.TheVariants.{File, Names}
use Rattle.ufs_hand_laws.specs.Draws.{client_after}
use Rattle.ufs_hand_laws.specs.Owned.{each, only, without}
use Rattle.ufs_hand_laws.specs.Parts.{ClientPart, OwnFds, is_file, is_names}
use Rattle.ufs_hand_laws.proofs.Keys.{itself}
use Rattle.ufs_joint.specs.Cells.{FileCell, NamesCell, View, both_of, given_of, kept_of}
use Rattle.ufs_joint.specs.Draws.{drawn}
use Rattle.ufs_joint.specs.NamesHands.{AreNumberedOnce, IsNamesHand}
use Rattle.ufs_held.specs.Asking.{IsGuest}
use Rattle.ufs_held.specs.Drawn.{first_fds, fresh_of}
use Rattle.ufs_held.specs.Held.{HasFileAlone, IsHeld, first_cell}
use Rattle.ufs_held.proofs.After.{only_none, without_none}
use Rattle.ufs_noted.specs.Noted.{Noted}
use Rattle.ufs_held_names.specs.Asking.{IsAnsweredNames}
use Rattle.ufs_held_names.specs.Drawn.{fds_told, names_left, names_then, parted}
use Rattle.ufs_held_names.specs.HeldNames.{HasNamesAlone, HoldsNames, first_names, noted_in}
use Rattle.ufs_held_names.proofs.Drawing.{told_else, told_here}

-- The hand has the client, the pool and the names, and these files.
pub record HasAll (client : ℕ) (part : ClientPart) (n : ℕ) (pool : BlockSet) (cell : NamesCell) (files : List (ℕ × FileCell)) (v : View) : Type 0 where
  pub clients : v.clients ≡ (client, part) ∷ []
  pub asked : v.asked ≡ []
  pub files_are : v.files ≡ files
  pub pools : v.pools ≡ (n, pool) ∷ []
  pub names : v.names ≡ (tt, cell) ∷ []
  pub store : v.store ≡ []

-- ---- hands are joined

pub joined_alone : (own guest : View) (x : Noted) (client : ℕ) (part : ClientPart) (n : ℕ) (pool : BlockSet) (held : HoldsNames x own) → IsGuest client part n pool guest → HasAll client part n pool held.cell [] (both_of own guest)
joined_alone own guest x client part n pool held came = record {
  clients = λ i. held.alone.clients i ++ came.clients i;
  asked = λ i. held.alone.asked i ++ came.asked i;
  files_are = λ i. held.alone.files i ++ came.files i;
  pools = λ i. held.alone.pools i ++ came.pools i;
  names = λ i. held.alone.names i ++ came.names i;
  store = λ i. held.alone.store i ++ came.store i;
}

pub joined_with : (own lent guest : View) (x : Noted) (cell : FileCell) (client : ℕ) (part : ClientPart) (n : ℕ) (pool : BlockSet) (held : HoldsNames x own) → HasFileAlone cell lent → IsGuest client part n pool guest
    → HasAll client part n pool held.cell ((cell.value.file.file, cell) ∷ []) (both_of (both_of own lent) guest)
joined_with own lent guest x cell client part n pool held file came = record {
  clients = λ i. (held.alone.clients i ++ file.clients i) ++ came.clients i;
  asked = λ i. (held.alone.asked i ++ file.asked i) ++ came.asked i;
  files_are = λ i. (held.alone.files i ++ file.files i) ++ came.files i;
  pools = λ i. (held.alone.pools i ++ file.pools i) ++ came.pools i;
  names = λ i. (held.alone.names i ++ file.names i) ++ came.names i;
  store = λ i. (held.alone.store i ++ file.store i) ++ came.store i;
}

pub names_hand : (client : ℕ) (part : ClientPart) (n : ℕ) (pool : BlockSet) (cell : NamesCell) (files : List (ℕ × FileCell)) (v : View) → HasAll client part n pool cell files v → AreNumberedOnce files → IsNamesHand v client part cell n pool
names_hand client part n pool cell files v has once = record { clients = has.clients; pools = has.pools; names_are = has.names; files = subst AreNumberedOnce (sym has.files_are) once }

-- ---- an entry is drawn

-- the client's descriptors then, the client, and the names
abbrev pub fds_after : ClientPart → Entry → Option Desc → OwnFds
fds_after part e d = cond (is_excused e.reply) part.fds (fds_told part.fds (fd_told e.op e.reply) d)

abbrev pub part_after : ClientPart → Entry → Option Desc → ClientPart
part_after part e d = record part { entries = part.entries ++ e ∷ []; fds = fds_after part e d; asked = None }

abbrev pub names_after : Noted → Entry → NamesCell → NamesCell
names_after y e cell = cond (is_excused e.reply) cell (names_then y e.ticket cell)

pub drawn_all : (client : ℕ) (part : ClientPart) (n : ℕ) (pool : BlockSet) (cell : NamesCell) (files : List (ℕ × FileCell)) (v z : View) (y : Noted) (left : BlockSet) (e : Entry) (d : Option Desc) (after : ℕ → List (ℕ × FileCell))
    → HasAll client part n pool cell files v → e.client ≡ client → z ≡ drawn e.ticket (fresh_of e) (names_left (fresh_of e) v y left d after e.ticket) v
    → HasAll client (part_after part e d) n left (names_after y e cell) (cond (is_excused e.reply) files (after e.ticket)) z
drawn_all client part n pool cell files v z y left e d after has of_client is = record {
  clients =
      ap (λ (q : View). q.clients) is
      ∙ (λ i. each (client_after e (cond (is_excused e.reply) (first_fds (has.clients i)) (fds_told (first_fds (has.clients i)) (fd_told e.op e.reply) d))) (has.clients i))
      ∙ ap (λ (b : Bool). (client, cond b (part_after part e d) part) ∷ []) (ap (λ (c : ℕ). eqb c client) of_client ∙ itself client);
  asked = ap (λ (q : View). q.asked) is ∙ has.asked;
  files_are = ap (λ (q : View). q.files) is ∙ ap (λ (cs : List (ℕ × FileCell)). cond (is_excused e.reply) cs (after e.ticket)) has.files_are;
  pools = ap (λ (q : View). q.pools) is ∙ ap (each (λ _ s. left)) has.pools;
  names = ap (λ (q : View). q.names) is ∙ ap (each (λ _ c. names_after y e c)) has.names;
  store = ap (λ (q : View). q.store) is ∙ has.store;
}

pub drawn_names : (cell : NamesCell) (v z : View) (y : Noted) (left : BlockSet) (e : Entry) (d : Option Desc) (after : ℕ → List (ℕ × FileCell)) → v.names ≡ (tt, cell) ∷ [] → z ≡ drawn e.ticket (fresh_of e) (names_left (fresh_of e) v y left d after e.ticket) v
    → z.names ≡ (tt, names_after y e cell) ∷ []
drawn_names cell v z y left e d after has is = ap (λ (q : View). q.names) is ∙ ap (each (λ _ c. names_after y e c)) has

pub answered_all : (part : ClientPart) (e : Entry) (d : Option Desc) → IsAnsweredNames part e d (part_after part e d)
answered_all part e d = record {
  fds = fds_after part e d;
  is = refl;
  stay = λ excused. ap (λ (b : Bool). cond b part.fds (fds_told part.fds (fd_told e.op e.reply) d)) excused;
  this = λ served fd named. ap (λ (b : Bool). fin.get (cond b part.fds (fds_told part.fds (fd_told e.op e.reply) d)) fd) served ∙ told_here part.fds (fd_told e.op e.reply) d fd named;
  others = λ served fd not. ap (λ (b : Bool). fin.get (cond b part.fds (fds_told part.fds (fd_told e.op e.reply) d)) fd) served ∙ told_else part.fds (fd_told e.op e.reply) d fd not;
}

-- The cell has what the server has.
pub noted_after : (x y : Noted) (e : Entry) (cell : NamesCell) → noted_in cell ≡ x → (is_excused e.reply ≡ true → y ≡ x) → noted_in (names_after y e cell) ≡ y
noted_after x y e cell value unchanged = by_reply (is_excused e.reply) refl
  where
    by_reply : (b : Bool) → is_excused e.reply ≡ b → noted_in (cond b cell (names_then y e.ticket cell)) ≡ y
    by_reply true is = value ∙ sym (unchanged is)
    by_reply false is = refl

-- ---- hands are parted

-- a file goes with its own cell
module _ (client : ℕ) (part : ClientPart) (n : ℕ) (pool : BlockSet) (cell : NamesCell) (v : View) (number : ℕ) (file : FileCell) (has : HasAll client part n pool cell ((number, file) ∷ []) v) (off : n ≢ number) where
  same : eqb number number ≡ true
  same = itself number

  other : eqb number n ≡ false
  other = ne_eqb number n (λ e. off (sym e))

  file_cells : (given_of (File number) v).files ≡ (number, file) ∷ []
  file_cells = ap (only (is_file (File number))) has.files_are ∙ (λ i. cond (same i) ((number, file) ∷ []) [])

  pub file_given : (x : DurableState) → file.value ≡ x → x.file.file ≡ number → IsHeld x (given_of (File number) v)
  file_given x value its = record {
    cell = file;
    clients = only_none v.clients;
    asked = only_none v.asked;
    files = file_cells ∙ ap (λ (m : ℕ). (m, file) ∷ []) (sym its);
    pools = ap (only (is_file (File number))) has.pools ∙ (λ i. cond (other i) ((n, pool) ∷ []) []);
    names = only_none v.names;
    store = only_none v.store;
    value = value;
  }

  pub file_first : (x : DurableState) → first_cell x (given_of (File number) v).files ≡ file
  file_first x = ap (first_cell x) file_cells

  pub file_kept : HasAll client part n pool cell [] (kept_of (File number) v)
  file_kept = record {
    clients = without_none v.clients ∙ has.clients;
    asked = without_none v.asked ∙ has.asked;
    files_are = ap (without (is_file (File number))) has.files_are ∙ (λ i. cond (same i) [] ((number, file) ∷ []));
    pools = ap (without (is_file (File number))) has.pools ∙ (λ i. cond (other i) [] ((n, pool) ∷ []));
    names = without_none v.names ∙ has.names;
    store = without_none v.store ∙ has.store;
  }

-- and where the names go with theirs, the guest has the rest
pub guest_kept : (client : ℕ) (part : ClientPart) (n : ℕ) (pool : BlockSet) (cell : NamesCell) (v : View) → HasAll client part n pool cell [] v → IsGuest client part n pool (kept_of Names v)
guest_kept client part n pool cell v has = record {
  clients = without_none v.clients ∙ has.clients;
  asked = without_none v.asked ∙ has.asked;
  files = without_none v.files ∙ has.files_are;
  pools = without_none v.pools ∙ has.pools;
  names = ap (without (is_names Names)) has.names;
  store = without_none v.store ∙ has.store;
}

-- The names' own hand again.
module _ (cell : NamesCell) (v : View) (has : v.names ≡ (tt, cell) ∷ []) where
  pub alone_given : HasNamesAlone cell (given_of Names v)
  alone_given = record {
    clients = only_none v.clients;
    asked = only_none v.asked;
    files = only_none v.files;
    pools = only_none v.pools;
    names = ap (only (is_names Names)) has;
    store = only_none v.store;
  }

  pub names_given : (x : Noted) → noted_in cell ≡ x → HoldsNames x (given_of Names v)
  names_given x value = record { cell = cell; alone = alone_given; value = value }

  pub first_given : (x : Noted) → first_names x (given_of Names v).names ≡ cell
  first_given x = ap (first_names x) (ap (only (is_names Names)) has)

-- what contracts see of the names at a server
pub first_held : (x : Noted) (v : View) (h : HoldsNames x v) → first_names x v.names ≡ h.cell
first_held x v h = ap (first_names x) h.alone.names

-- so the cell has what the server has
pub kept_noted : (x : Noted) (v : View) (h : HoldsNames x v) → x ≡ noted_in (first_names x v.names)
kept_noted x v h = sym h.value ∙ ap noted_in (sym (first_held x v h))

pub seen_noted : (x : Noted) (v : View) (h : HoldsNames x v) (seen : NamesCell) → first_names x v.names ≡ seen → x ≡ noted_in seen
seen_noted x v h seen is = kept_noted x v h ∙ ap noted_in is

-- and it has that cell alone
pub alone_seen : (x : Noted) (v : View) (h : HoldsNames x v) (seen : NamesCell) → first_names x v.names ≡ seen → HasNamesAlone seen v
alone_seen x v h seen is = subst (λ (c : NamesCell). HasNamesAlone c v) (sym (first_held x v h) ∙ is) h.alone

-- ---- a file that goes with its own cell, or none

pub parted_faults : (o : Option ℕ) (v : View) → (parted o v).faults ≡ v.faults
parted_faults None v = refl
parted_faults (Some file) v = refl

pub parted_seen : (o : Option ℕ) (v : View) → (parted o v).seen ≡ v.seen
parted_seen None v = refl
parted_seen (Some file) v = refl

pub parted_names : (o : Option ℕ) (v : View) → (parted o v).names ≡ v.names
parted_names None v = refl
parted_names (Some file) v = without_none v.names
