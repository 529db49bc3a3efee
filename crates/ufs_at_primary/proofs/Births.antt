-- A file that is ordered knows its birth.
use Rattle.std.proofs.Common.{◌≡◌, ◌≢◌, ℕ, zero, suc, inl, inr, Bool, true, false, Some, None, is_some, ◌||◌, refl, ap, sym, ◌∙◌, subst}
use Rattle.std.specs.Prelude.{IsSome, OnOk, Result, Ok, Err}
use Rattle.std.specs.Cmp.{nat_cmp_total}
use Rattle.std.specs.FinMap as fin
use Rattle.std.specs.FinMap.{contains_key-keys}
use Rattle.std.specs.FinSet as set
use Rattle.std.specs.FinSet.{contains-from_list}
use Rattle.ufs_base.specs.declared.lack.Lack.TheVariants as lack
use Rattle.ufs_bitmap.specs.Blocks.{BlockSet}
use Rattle.ufs_joint.specs.FirstHand.{HasPoolAlone, pool_of}
use Rattle.ufs_held_names.specs.HeldNames.{AreCommitted}
use Rattle.ufs_joint.specs.Cells.{FileCell, NamesCell, View}
use Rattle.ufs_joint.specs.NamesTurns.{live_files}
use Rattle.ufs_names.specs.NamesPart.{NamesPart}
use Rattle.ufs_home.specs.Home.{HomeState, is_waited}
use Rattle.ufs_home.specs.Moves.{IfLack, IsMoved, IsOrdered, order_of, wants_room}
use Rattle.ufs_home.specs.Places.{Places, file_here, in_place}
use Rattle.ufs_home.specs.declared.moved.Moved.{Moved}
use Rattle.ufs_home.specs.declared.moved.Moved.TheVariants as moved
use Rattle.ufs_home.proofs.Shelves.{in_its_place, over, put_again, put_here}
use Rattle.ufs_joint.proofs.Blocks.{or_right}
use Rattle.ufs_owner.specs.Lacks.{IsLackOut}
use Rattle.ufs_owner.specs.Owners.{Files, owner_at}
use Rattle.ufs_owner.specs.declared.owner.Owner.{Owner}
use Rattle.ufs_owner.specs.declared.owner.Owner.TheVariants as owner
use Rattle.ufs_turns.specs.Lent.{IsBare, IsBeside}
use Rattle.ufs_at_primary.specs.Orders.{IsFileOrdered, IsObeyed, IsReadied, IsUnready}
use Rattle.ufs_at_primary.specs.Stock.{StockState, stock_of}
use Rattle.ufs_at_primary.specs.declared.ordered.Ordered.{Ordered}
use Rattle.ufs_at_primary.specs.declared.ordered.Ordered.TheVariants as ordered
use Rattle.ufs_at_primary.proofs.Trials.{back_home}

pub when_ok : {X E A B : Type 0} (r : Result X E) → (A → B) → OnOk r A → OnOk r B
when_ok (Ok x) go is = go is
when_ok (Err e) go is = tt

pub bare_pool : (pool : BlockSet) (v : View) → HasPoolAlone (pool_of 0) pool v → IsBare v
bare_pool pool v mine = record { files = mine.files; names = mine.names; away = mine.store }

pub pool_beside : (pool : BlockSet) (v w : View) → HasPoolAlone (pool_of 0) pool v → IsBare w → IsBeside v w → HasPoolAlone (pool_of 0) pool w
pool_beside pool v w mine bare beside = record {
  clients = beside.clients ∙ mine.clients;
  asked = beside.asked ∙ mine.asked;
  files = bare.files;
  pools = beside.pools ∙ mine.pools;
  names = bare.names;
  store = bare.away;
}

live_is : (n : NamesPart) (file : ℕ) → set.contains (live_files n) file ≡ is_some (fin.get n.held file)
live_is n file = contains-from_list nat_cmp_total (fin.keys n.held) file ∙ sym (contains_key-keys n.held file)

pub births_known : (visible : Bool) (old new : NamesCell) (file : ℕ) → AreCommitted visible old new → IsSome (fin.get new.value.held file) → set.contains new.named file ≡ true
births_known visible old new file done live =
    ap (λ (c : NamesCell). set.contains c.named file) done.is
    ∙ live_is old.value file
    ∙ sym (ap (λ (c : NamesCell). is_some (fin.get c.value.held file)) done.is)
    ∙ live

-- a file that was told its birth knows it
pub told_born : (names then : NamesCell) (file : ℕ) (c d : FileCell) → c.value.file.file ≡ file → then ≡ names → d ≡ record c { born = c.born || set.contains names.named c.value.file.file } → IsSome (fin.get names.value.held c.value.file.file)
    → (IsSome (fin.get names.value.held file) → set.contains names.named file ≡ true) → d ≡ record c { born = true }
told_born names then file c d number same told live known =
    told ∙ ap (λ (b : Bool). record c { born = b })
    (or_right c.born (set.contains names.named c.value.file.file) (ap (set.contains names.named) number ∙ known (subst (λ (n : ℕ). IsSome (fin.get names.value.held n)) number live)))

-- a file that was lent is back, and all is as it was
pub kept_home : (h g f : HomeState) (file : ℕ) (c : FileCell) → c.value.file.file ≡ file → file_here h.places file ≡ Some c → g ≡ record h { places = fin.insert h.places file None } → f ≡ record g { places = fin.insert g.places c.value.file.file (Some c) } → f ≡ h
kept_home h g f file c number here lent back =
    back_home h g f file c.value.file.file c lent number back
    ∙ ap (λ (p : Places). record h { places = p }) (sym (over h.places file None (Some c)) ∙ put_again h.places file None (Some c) (in_its_place (fin.get h.places file) c here))

-- ---- the order

-- a file that is at the primary, and for which nobody waits, is to be sent
pub sends : (o : Owner) (waited : Bool) (to : ℕ) → o ≡ owner.Primary → waited ≡ false → to ≢ 0 → order_of o waited to ≡ moved.Sent
sends o waited zero at nobody some = absurd (some refl)
sends o waited (suc n) at nobody some = (λ i. order_of (at i) (nobody i) (suc n))

pub both_kept : (old new : NamesCell) (h g : HomeState) (pool : BlockSet) → new ≡ old → g ≡ h → stock_of new g pool ≡ stock_of old h pool
both_kept old new h g pool names home = (λ i. stock_of (names i) (home i) pool)

-- where memory or the commit is wanting nothing is done
pub unready : (visible : Bool) (s t : StockState) (file to : ℕ) (o : Ordered) → IsUnready o → t ≡ s → order_of (owner_at s.home.owners file) (is_waited s.home.owners file) to ≡ moved.Sent → IsFileOrdered visible s t file to o
unready visible s t file to (ordered.Moved m) is same sent =
    let home : t.home ≡ s.home = ap (λ (x : StockState). x.home) same in
    inl (record {
      ready = s;
      readied = inl refl;
      answer = inr (lack.Memory is.0, is.1, ap wants_room sent);
      moved = subst (IsMoved s.home t.home file to) (sym is.1) home;
      lack = subst (λ (x : Moved). IfLack x (IsLackOut s.home.owners)) (sym is.1) tt;
      rest = same ∙ ap (λ (h : HomeState). record s { home = h }) (sym home);
    })
unready visible s t file to (ordered.Dropped fault) is same sent = (is, same)

pub sendable : (visible : Bool) (s r : StockState) (file : ℕ) → IsReadied visible s r file → (c : FileCell) × (file_here r.home.places file ≡ Some c) × (c.born ≡ true)
sendable visible s r file ready = (
  record (ready.was) { born = true },
  ap (λ (x : StockState). file_here x.home.places file) ready.rest ∙ ap in_place (put_here s.home.places file (Some (record (ready.was) { born = true }))),
  refl,
)

pub obeyed : (visible : Bool) (s r t : StockState) (file to : ℕ) (m : Moved) → IsReadied visible s r file → IsOrdered (order_of (owner_at r.home.owners file) (is_waited r.home.owners file) to) m → IsMoved r.home t.home file to m
    → IfLack m (IsLackOut r.home.owners) → t ≡ record r { home = t.home } → IsObeyed visible s t file to m
obeyed visible s r t file to m ready answer moves wants rest =
    let owners : r.home.owners ≡ s.home.owners = ap (λ (x : StockState). x.home.owners) ready.rest in
    record {
      ready = r;
      readied = inr ready;
      answer = subst (λ (f : Files). IsOrdered (order_of (owner_at f file) (is_waited f file) to) m) owners answer;
      moved = moves;
      lack = subst (λ (f : Files). IfLack m (IsLackOut f)) owners wants;
      rest = rest;
    }
