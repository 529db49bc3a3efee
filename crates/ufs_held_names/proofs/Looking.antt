-- What the names' hand knows of the tree.
use Rattle.std.proofs.Common.{◌≡◌, ◌≤◌, ◌<◌, ◌+◌, ◌*◌, ◌++◌, ℕ, inl, inr, [], ◌∷◌, Option, Some, None, is_some, sym, refl, ap, ◌∙◌, subst, arith}
use Rattle.std.specs.Prelude.{IsSome}
use Rattle.std.specs.FinMap as fin
use Rattle.std.proofs.lemmas.List.{append-nil}
use Rattle.ufs_bitmap.specs.Blocks.{BlockSet}
use Rattle.ufs_model.proofs.Facts.Live.{Opened, held_live}
use Rattle.ufs_model.specs.Asks.{IsAsk, desc_of_fd, fd_named, file_in}
use Rattle.ufs_model.specs.History.{tree_after}
use Rattle.ufs_model.specs.PosixTree.{PosixTree}
use Rattle.ufs_model.specs.declared.data.Ask.{Ask}
use Rattle.ufs_model.specs.declared.data.Desc.{Desc}
use Rattle.ufs_names.specs.NamesPart.{IsNamesPart, NamesPart}
use Rattle.ufs_hand_laws.specs.Owned.{Has}
use Rattle.ufs_hand_laws.specs.Parts.{ClientPart}
use Rattle.ufs_joint.specs.Cells.{NamesCell, Start, View}
use Rattle.ufs_joint.specs.Known.{Knows}
use Rattle.ufs_joint.specs.Rule.{looked_at}
use Rattle.ufs_joint.specs.Whole.{HasNamesCell}
use Rattle.ufs_noted.specs.Noted.{Noted}
use Rattle.ufs_held_names.specs.Asked.{IsNeeded}
use Rattle.ufs_held_names.specs.Asking.{IsToldBy}
use Rattle.ufs_held_names.specs.Dirs.{IsNamesGuest}
use Rattle.ufs_held_names.specs.HeldNames.{HoldsNames, noted_in}

-- A hand with the names' cell knows a tree that has the names.
pub names_tree : (k : Start) (n : ℕ) (v : View) (knows : Knows k n v) (cell : NamesCell) (x : Noted) → v.names ≡ (tt, cell) ∷ [] → noted_in cell ≡ x → IsNamesPart x.names (tree_after knows.start knows.history)
names_tree k n v knows cell x has value =
    let its : HasNamesCell knows.parts cell = knows.around.cells.names tt cell (subst (Has (tt, cell)) (sym has) (inl refl)) in
    subst (λ (p : NamesPart). IsNamesPart p (tree_after knows.start knows.history)) (its.names ∙ ap (λ (y : Noted). y.names) value) knows.around.parts.names

-- No live file has a number that is still to be given.
pub live_below : (n : NamesPart) (t : PosixTree) → IsNamesPart n t → (file : ℕ) → IsSome (fin.get n.held file) → file < n.next
live_below n t part file live = subst (λ (m : ℕ). file < m) (sym part.next) (part.tree.numbered file (sym (part.told file) ∙ live))

pub looked_held : (x : Noted) (v : View) (n : ℕ) → HoldsNames x v → HoldsNames x (looked_at v n)
looked_held x v n held = record {
  cell = held.cell;
  alone = record { clients = held.alone.clients; asked = held.alone.asked; files = held.alone.files; pools = held.alone.pools; names = held.alone.names; store = held.alone.store };
  value = held.value;
}

-- ---- with a guest

pub looked_guest : (client : ℕ) (part : ClientPart) (cell : NamesCell) (n : ℕ) (pool : BlockSet) (v : View) (m : ℕ) → IsNamesGuest client part cell n pool v → IsNamesGuest client part cell n pool (looked_at v m)
looked_guest client part cell n pool v m has = record { clients = has.clients; asked = has.asked; files = has.files; pools = has.pools; names = has.names; store = has.store }

-- the names tell each file that the request touches, or is on, as live
module _ (k : Start) (m : ℕ) (v : View) (knows : Knows k m v) (part : ClientPart) (cell : NamesCell) (n : ℕ) (pool : BlockSet) (ask : Ask) (has : IsNamesGuest ask.client part cell n pool v) (x : Noted) (value : noted_in cell ≡ x) (told : IsToldBy part ask) where
  abbrev t : PosixTree
  t = tree_after knows.start knows.history

  its : IsNamesPart x.names t
  its = names_tree k m v knows cell x has.names value

  asked : IsAsk t ask
  asked = told t (λ fd. knows.around.fds ask.client part (subst (Has (ask.client, part)) (sym has.clients) (inl refl)) fd)

  pub needed_lives : (file : ℕ) → IsNeeded x.names ask (Some file) → IsSome (fin.get x.names.held file)
  needed_lives file needed = its.told file ∙ ((needed t its asked file).0 (0, omega arith, refl)).1

  opened : (o : Option ℕ) (d : Option Desc) (file : ℕ) → d ≡ desc_of_fd t.fds ask.client o → file_in d ≡ Some file → Opened t.fds file
  opened None d file is at = absurd (let e = sym at ∙ ap file_in is in cc)
  opened (Some fd) None file is at = absurd cc
  opened (Some fd) (Some d) file is at = ((ask.client, fd), d, sym is, at)

  pub open_lives : (file : ℕ) → file_in ask.desc ≡ Some file → IsSome (fin.get x.names.held file)
  open_lives file at = its.told file ∙ its.tree.live file ∙ held_live t.paths t.fds file (inr (opened (fd_named ask.op) ask.desc file asked.desc at))

  pub below_next : (file : ℕ) → IsSome (fin.get x.names.held file) → file < x.names.next
  below_next file live = live_below x.names t its file live

  pub few_made : x.names.next ≤ k.tree.next + 16 * 65536
  few_made =
      let l = knows.next tt cell (subst (Has (tt, cell)) (sym has.names) (inl refl)) in
      let e : cell.value.next ≡ x.names.next = ap (λ (y : Noted). y.names.next) value in
      let f = knows.few in
      omega (arith, l, e, f)
