-- A file whose names were committed is told its birth, and its commit is tried.
use Rattle.std.proofs.Common.{◌≡◌, ℕ, ◌||◌, Bool, true, false, is_some, Option, Some, None, sym, refl, ap, ◌∙◌, subst, arith}
use Rattle.std.specs.Prelude.{IsSome}
use Rattle.std.specs.Cmp.{nat_cmp_total}
use Rattle.std.specs.FinMap as fin
use Rattle.std.specs.FinMap.{contains_key-keys}
use Rattle.std.specs.FinSet as set
use Rattle.std.specs.FinSet.{contains-from_list}
use Rattle.ufs_bitmap.specs.Blocks.{BlockSet}
use Rattle.ufs_names.specs.NamesPart.{NamesPart}
use Rattle.ufs_joint.specs.Cells.{View}
use Rattle.ufs_joint.specs.NamesTurns.{live_files}
use Rattle.ufs_joint.proofs.Blocks.{or_right}
use Rattle.ufs_hand_laws.specs.Parts.{ClientPart}
use Rattle.ufs_turns.specs.Lent.{AreTold, IsBare, IsBeside, free_in}
use Rattle.ufs_held.specs.Asking.{IsGuest}
use Rattle.ufs_held.specs.Committed.{HasSameCells}

-- The names tell of each live file.
pub live_is : (n : NamesPart) (file : ℕ) → set.contains (live_files n) file ≡ is_some (fin.get n.held file)
live_is n file = contains-from_list nat_cmp_total (fin.keys n.held) file ∙ sym (contains_key-keys n.held file)

-- so a file that is told by them knows its birth
pub born_of : (n : NamesPart) (named : BlockSet) (file : ℕ) (born : Bool) → named ≡ live_files n → IsSome (fin.get n.held file) → (born || set.contains named file) ≡ true
born_of n named file born all live = or_right born (set.contains named file) (ap (λ (s : BlockSet). set.contains s file) all ∙ live_is n file ∙ live)

-- ---- what is told of the store in two turns

pub told_twice : (had mid has : Option View) (so : BlockSet → BlockSet → Type 0) → is_some mid ≡ is_some had → AreTold had mid (λ a b. b ≡ a) → AreTold mid has so → AreTold had has so
told_twice None mid has so telling first second = tt
told_twice (Some v) None has so telling first second = (let clash : false ≡ true = telling in absurd cc)
told_twice (Some v) (Some u) None so telling first second = tt
told_twice (Some v) (Some u) (Some w) so telling first second = subst (λ (s : BlockSet). so s (free_in w.store)) first second

-- and what each of two makes of it
pub told_chain : (had mid has : Option View) (f h : BlockSet → BlockSet) → is_some mid ≡ is_some had → AreTold had mid (λ a b. b ≡ f a) → AreTold mid has (λ a b. b ≡ h a) → AreTold had has (λ a b. b ≡ h (f a))
told_chain None mid has f h telling first second = tt
told_chain (Some v) None has f h telling first second = (let clash : false ≡ true = telling in absurd cc)
told_chain (Some v) (Some u) None f h telling first second = tt
told_chain (Some v) (Some u) (Some w) f h telling first second = second ∙ ap h first

pub told_so : (had has : Option View) (f h : BlockSet → BlockSet) → ((a : BlockSet) → f a ≡ h a) → AreTold had has (λ a b. b ≡ f a) → AreTold had has (λ a b. b ≡ h a)
told_so None has f h same told = tt
told_so (Some v) None f h same told = tt
told_so (Some v) (Some w) f h same told = told ∙ same (free_in v.store)

-- ---- a guest that lent its hand

pub came_still : (client : ℕ) (part : ClientPart) (n : ℕ) (pool : BlockSet) (v w : View) → IsBeside v w → IsBare w → IsGuest client part n pool v → IsGuest client part n pool w
came_still client part n pool v w beside bare came = record {
  clients = beside.clients ∙ came.clients;
  asked = beside.asked ∙ came.asked;
  files = bare.files;
  pools = beside.pools ∙ came.pools;
  names = bare.names;
  store = bare.away;
}

pub same_twice : (v u w : View) → HasSameCells v u → HasSameCells u w → HasSameCells v w
same_twice v u w a b = record {
  clients = b.clients ∙ a.clients;
  asked = b.asked ∙ a.asked;
  files = b.files ∙ a.files;
  pools = b.pools ∙ a.pools;
  names = b.names ∙ a.names;
  store = b.store ∙ a.store;
  seen = (let p = a.seen in let q = b.seen in omega (arith, p, q));
}

pub same_cells : (v : View) → HasSameCells v v
same_cells v = record { clients = refl; asked = refl; files = refl; pools = refl; names = refl; store = refl; seen = omega arith }
