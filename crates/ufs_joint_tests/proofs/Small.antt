-- Each step of the small session may be taken.
use Rattle.std.proofs.Common.{◌≡◌, ◌≢◌, eqb, ne_eqb, ℕ, zero, suc, ◌+◌, ◌≤◌, ◌⊎◌, inl, inr, Bool, true, false, List, [], ◌∷◌, ◌++◌, Option, Some, None, is_some, length, sym, refl, ap, ◌∙◌, subst, arith}
use Rattle.std.specs.Prelude.{IsSome}
use Rattle.std.specs.Cmp.{nat_cmp_total}
use Rattle.std.specs.Ordering.{nat_cmp}
use Rattle.std.specs.FinMap as fin
use Rattle.std.specs.FinMap.{nat_cmp-IsAntisymmetric, same_map}
use Rattle.std.specs.FinSet as set
use Rattle.std.specs.Option.{option_map}
use Rattle.ufs_bitmap.specs.Blocks.{BlockSet}
use Rattle.ufs_bitmap.specs.Space.{Space}
use Rattle.ufs_bitmap.specs.Taking.{has}
use Rattle.ufs_bitmap.proofs.SetLemmas.{has-blocks_between, has-empty}
use Rattle.ufs_dir_tree.specs.DirTable.{blocks_at, dir_at, no_dir}
use Rattle.ufs_dirs.specs.Directory.{Directory}
use Rattle.ufs_file.specs.Hand.{FileState}
use Rattle.ufs_layout.specs.declared.geometry.Geometry.{Geometry}
use Rattle.ufs_ledger.specs.Ledger.{IsDataBlock}
use Rattle.ufs_model.specs.History.{IsExcused, IsLegal, tree_after}
use Rattle.ufs_model.specs.PosixTree.{Files, PosixTree, desc_at, root_alone}
use Rattle.ufs_model.specs.declared.data.Entry.{Entry}
use Rattle.ufs_model.specs.declared.data.Op.TheVariants.{Sync}
use Rattle.ufs_model.proofs.Facts.Histories.{legal-push, tree_after-push}
use Rattle.ufs_names.specs.NamesPart.{IsNamesPart, NamesPart}
use Rattle.ufs_hand_laws.specs.Draws.{entry_of}
use Rattle.ufs_hand_laws.specs.Owned.{Has, count, one}
use Rattle.ufs_hand_laws.specs.Parts.{AskedPart, ClientPart, only_one}
use Rattle.ufs_hand_laws.specs.Whole.{idle_asked, idle_client}
use Rattle.ufs_hand_laws.proofs.Drawing.{tells_new}
use Rattle.ufs_store.specs.State.{StoreState, geometry_of_store}
use Rattle.ufs_promise_laws.specs.Parts.{OneFile, Owner, Owns, Parts, TheNames, ThePool, Unassigned}
use Rattle.ufs_promise_laws.specs.Sound.{IsSoundServer}
use Rattle.ufs_promise_laws.specs.Stored.{ArePartsOf}
use Rattle.ufs_promise_laws.proofs.Entries.{excuse_leaves}
use Rattle.ufs_joint.specs.Cells.{Start, View}
use Rattle.ufs_joint.specs.Disks.{cell_of}
use Rattle.ufs_joint.specs.Draws.{DrawsTo, IsAround, MayDraw}
use Rattle.ufs_joint.specs.Ends.{CanBegin, HoldsAll}
use Rattle.ufs_joint.specs.Rule.{IsEvent, MayDrawAny}
use Rattle.ufs_joint.specs.Sound.{MayHaveBegun}
use Rattle.ufs_joint.specs.Whole.{no_blocks}
use Rattle.ufs_joint_tests.specs.Small.{all_free, all_left, answered, asked, at_end, back, excused, names_cell, small, small_pools, small_start, small_view}

none_some : {A : Type 0} (x : A) → None ≡ Some x → ⊥
none_some x e = cc

some_of : {A B : Type 0} (f : A → B) (o : Option A) → option_map f o ≡ None → o ≡ None
some_of f None is = refl
some_of f (Some x) is = absurd cc

-- ---- the pools

none_named : (x y z w : Bool) → x ≡ false → y ≡ false → z ≡ false → w ≡ false → one x + (one y + (one z + (one w + 0))) ≤ 1
none_named x y z w a b c d = (let p = ap one a in let q = ap one b in let r = ap one c in let t = ap one d in omega (arith, p, q, r, t))

others_once : (m : ℕ) → 4 ≤ m → count eqb m small_pools ≤ 1
others_once m more = none_named (eqb m 0) (eqb m 1) (eqb m 2) (eqb m 3) (ne_eqb m 0 (λ e. omega (arith, e, more))) (ne_eqb m 1 (λ e. omega (arith, e, more))) (ne_eqb m 2 (λ e. omega (arith, e, more))) (ne_eqb m 3 (λ e. omega (arith, e, more)))

pool_once : (c : ℕ) → count eqb c small_pools ≤ 1
pool_once zero = omega arith
pool_once (suc zero) = omega arith
pool_once (suc (suc zero)) = omega arith
pool_once (suc (suc (suc zero))) = omega arith
pool_once (suc (suc (suc (suc c)))) = others_once (suc (suc (suc (suc c)))) (omega arith)

empty_pool : (c : ℕ) (p : BlockSet) → Has {A = ℕ × BlockSet} (c, p) small_pools → p ≡ no_blocks
empty_pool c p (inl is) = ap (λ (q : ℕ × BlockSet). q.1) is
empty_pool c p (inr (inl is)) = ap (λ (q : ℕ × BlockSet). q.1) is
empty_pool c p (inr (inr (inl is))) = ap (λ (q : ℕ × BlockSet). q.1) is
empty_pool c p (inr (inr (inr (inl is)))) = ap (λ (q : ℕ × BlockSet). q.1) is
empty_pool c p (inr (inr (inr (inr is)))) = absurd is

-- ---- it may begin

no_file : {A : Type 0} (file : ℕ) (x : A) → fin.get (fin.empty {R = nat_cmp}) file ≡ Some x → ⊥
no_file file x is = none_some x (sym (fin.get-empty nat_cmp file) ∙ is)

-- a tree like the root alone is that
root_like : (n : NamesPart) (s : StoreState) (start : PosixTree) → MayHaveBegun (small_start n s) [] start → start ≡ root_alone
root_like n s start b = λ i. record { paths = b.alike.paths i; bytes = bytes i; fds = b.alike.fds i; next = b.alike.next i }
  where
    bytes : start.bytes ≡ fin.empty
    bytes = same_map nat_cmp_total nat_cmp-IsAntisymmetric start.bytes fin.empty (λ file.
        some_of length (fin.get start.bytes file) (b.alike.sizes file ∙ ap (option_map length) (fin.get-empty nat_cmp file)) ∙ sym (fin.get-empty nat_cmp file))

module _ (n : NamesPart) (s : StoreState) (part : IsNamesPart n root_alone) (counted : length n.tree.dirs.dirs ≡ 32 + 1) (bare : (i : ℕ) → dir_at n.tree.dirs i ≡ no_dir) (formed : geometry_of_store s ≡ small) (free : s.unassigned ≡ all_free) where
  abbrev parts : Parts
  parts = record { names = n; files = fin.empty; commits = fin.empty; pool = no_blocks; fresh = []; dropped = set.empty }

  pub none_held : (file : ℕ) → is_some (fin.get n.held file) ≡ false
  none_held file = part.told file ∙ ap is_some (fin.get-empty nat_cmp file)

  no_held : (file : ℕ) → IsSome (fin.get n.held file) → ⊥
  no_held file is = (let both : true ≡ false = sym is ∙ none_held file in cc)

  are : ArePartsOf parts root_alone
  are = record {
    names = part;
    files = λ file f here. absurd (no_file file f here);
    inodes = λ file f h here. absurd (no_file file f here);
    here = λ file is. absurd (no_held file is);
  }

  unassigned : BlockSet
  unassigned = s.unassigned.free

  empty_has : (block : ℕ) → set.contains no_blocks block ≡ true → ⊥
  empty_has block is = (let both : true ≡ false = sym is ∙ has-empty block in cc)

  in_names : (dir block : ℕ) → has (blocks_at n.tree.dirs dir) block ≡ true → ⊥
  in_names dir block is = (let both : true ≡ false = sym is ∙ ap (λ (d : Directory). has d.blocks block) (bare dir) ∙ has-empty block in cc)

  owner_is : (owner : Owner) (block : ℕ) → Owns parts s.unassigned.free owner block → (owner ≡ Unassigned) × (set.contains s.unassigned.free block ≡ true)
  owner_is (OneFile file) block is = absurd (no_file file is.hand is.here)
  owner_is ThePool block is = absurd (empty_has block is)
  owner_is Unassigned block is = (refl, is)
  owner_is TheNames block (inl is) = absurd (empty_has block is)
  owner_is TheNames block (inr (inl is)) = absurd (empty_has block is)
  owner_is TheNames block (inr (inr is)) = absurd (in_names is.0 block is.1)

  server : IsSoundServer small s.unassigned.free parts
  server = record {
    apart = λ one other block a b. (owner_is one block a).0 ∙ sym (owner_is other block b).0;
    inside = λ owner block a. (let here = has-blocks_between 14 256 block (sym (ap (λ (x : Space). set.contains x.free block) free) ∙ (owner_is owner block a).1) in record { from = here.0; under = here.1 });
    each = λ file f here. absurd (no_file file f here);
    inodes = λ file f h here. absurd (no_file file f here);
    known = λ file _. fin.get-empty nat_cmp file;
    counted = counted;
    parted = λ dir block is. absurd (empty_has block is);
  }

  pub begins : CanBegin (small_start n s)
  begins = record {
    tree = part.tree;
    closed = λ c fd. fin.get-empty _ (c, fd);
    one_client = λ c. single c;
    one_asked = λ c. single c;
    one_file = λ file. omega arith;
    clients = λ c p h. idle c p h;
    asked = λ c p h. idle_too c p h;
    one_pool = pool_once;
    pools = λ c p h. empty_pool c p h;
    names = names_cell n;
    has_names = refl;
    store = cell_of 0 [] s;
    has_store = refl;
    unchanged = λ file c h. absurd h;
    names_unchanged = (refl, refl);
    at_rest = (refl, refl);
    seen = refl;
    no_faults = refl;
    no_stop = refl;
    parts = parts;
    pool = refl;
    files_in = λ file. fin.get-empty nat_cmp file;
    commits_in = λ file. fin.get-empty nat_cmp file;
    names_in = record { names = refl; fresh = refl; dropped = refl };
    are = λ start b. subst (ArePartsOf parts) (sym (root_like n s start b)) are;
    server = server;
    formed = formed;
    on_disk = λ seen. absurd (blind seen);
  }
    where
      blind : false ≡ true → ⊥
      blind e = cc

      at_most : (b : Bool) → one b + 0 ≤ 1
      at_most true = omega arith
      at_most false = omega arith

      single : (c : ℕ) → one (eqb c 0) + 0 ≤ 1
      single c = at_most (eqb c 0)

      idle : (c : ℕ) (p : ClientPart) → Has {A = ℕ × ClientPart} (c, p) ((0, idle_client) ∷ []) → p ≡ idle_client
      idle c p (inl is) = ap (λ (q : ℕ × ClientPart). q.1) is
      idle c p (inr is) = absurd is

      idle_too : (c : ℕ) (p : AskedPart) → Has {A = ℕ × AskedPart} (c, p) ((0, idle_asked) ∷ []) → p ≡ idle_asked
      idle_too c p (inl is) = ap (λ (q : ℕ × AskedPart). q.1) is
      idle_too c p (inr is) = absurd is

-- ---- the client asks

pub asks : (n : NamesPart) (s : StoreState) → IsEvent (small_start n s) (small_view n s) (asked n s)
asks n s = inl (record { client = 0; request = Sync; may = record { self = idle_client; has_self = inl refl; before = idle_asked; has_before = inl refl; idle = refl; room = omega arith }; is = refl })

-- ---- it is excused

abbrev asking : ClientPart
asking = record idle_client { asked = Some Sync }

module _ (n : NamesPart) (s : StoreState) (tickets : ℕ) where
  abbrev v : View
  v = back n s tickets

  module _ (ticket : ℕ) (start : PosixTree) (history : List Entry) (p : Parts) (rest : BlockSet) (a : IsAround small (back n s tickets) ticket start history p rest) where
    abbrev e : Entry
    e = entry_of ticket excused

    abbrev t : PosixTree
    t = tree_after start history

    abbrev longer : List Entry
    longer = history ++ entry_of ticket excused ∷ []

    same_tree : tree_after start longer ≡ t
    same_tree = tree_after-push start history e ∙ excuse_leaves t 0 Sync excused.reply refl

    fits : IsExcused t 0 Sync excused.reply
    fits = record { due = λ other. cc; told = tt }

    to : DrawsTo small (back n s tickets) excused (all_left n) ticket (λ q. q) start history p rest
    to = record {
      legal = legal-push start history e a.legal (record { numbered = sym a.so_many; replied = inr fits }) (tells_new excused.reply history (λ fault is. cc));
      served = record { own = λ its. cc; sent = λ its. tt };
      fds = λ x. a.fds 0 asking (inl refl) x ∙ ap (λ (u : PosixTree). desc_at u 0 x) (sym same_tree);
      others = λ c not x. ap (λ (u : PosixTree). desc_at u c x) (sym same_tree);
      parts = subst (ArePartsOf p) (sym same_tree) a.parts;
      server = a.server;
      none_lost = λ b is. is;
      away = λ file place c has. absurd has;
      elsewhere = λ file _ _. ap (λ (u : PosixTree). fin.get u.bytes file) same_tree;
      new = λ file none some. absurd (omega (arith, some));
    }

  pub draws : MayDrawAny (small_start n s) (back n s tickets) excused (λ ticket. all_left n)
  draws ticket = record {
    self = asking;
    client = inl refl;
    low = omega arith;
    seq = refl;
    asked = refl;
    device = λ fault is. cc;
    stopped = λ fault is. cc;
    committed = λ fault by is. cc;
    asks = λ fault is. cc;
    others = λ fd not. refl;
    next = λ q. q;
    goes = λ q cells pool. record { files_by = λ file. refl; commits_by = λ file. refl; names_by = λ u c has. cells.names u c has; names_stay = λ none. cc };
    pool = λ q cells is. is;
    single = λ file. omega arith;
    same_names = λ u. refl;
    same_pools = λ m. refl;
    pools_apart = λ m k one other block x y is _. absurd (none_has block (sym (ap (λ (p : BlockSet). set.contains p block) (empty_pool m one x)) ∙ is));
    fewer = λ block is. is;
    known = λ file c has. absurd has;
    names_known = λ u c has. (c, has, refl, refl);
    to = to ticket;
    disk = λ seen. cc;
  }
    where
      none_has : (block : ℕ) → set.contains no_blocks block ≡ true → ⊥
      none_has block is = (let both : true ≡ false = sym is ∙ has-empty block in cc)

-- ---- the end

pub has_all : (n : NamesPart) (s : StoreState) (part : IsNamesPart n root_alone) (tickets ticket at last : ℕ) → HoldsAll (small_start n s) (at_end n s tickets ticket at last)
has_all n s part tickets ticket at last = record {
  clients = λ c. omega arith;
  pools = λ c. omega arith;
  names = names_cell n;
  has_names = refl;
  store = _;
  has_store = refl;
  files = λ file is. absurd (let both : true ≡ false = sym is ∙ part.told file ∙ ap is_some (fin.get-empty nat_cmp file) in none_true both);
}
  where
    none_true : true ≡ false → ⊥
    none_true e = cc
