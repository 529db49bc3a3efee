-- A session may begin with what one sound server has of an image.
use Rattle.std.proofs.Common.{◌≡◌, inl, inr, ⊎_elim, ℕ, suc, ◌<◌, ◌≤◌, true, false, ◌||◌, eqb, [], length, Option, Some, None, is_some, option_map, ap, sym, refl, ◌∙◌, subst, arith}
use Rattle.std.specs.Cmp.{nat_cmp_total}
use Rattle.std.specs.FinMap as fin
use Rattle.std.specs.FinMap.{contains_key-keys}
use Rattle.std.specs.FinSet as set
use Rattle.std.specs.FinSet.{contains-from_list}
use Rattle.ufs_bytes_laws.proofs.TreeLemmas.{either_way}
use Rattle.ufs_file.specs.Hand.{FileState}
use Rattle.ufs_joint.specs.Cells.{FileCell, Start, store_of}
use Rattle.ufs_joint.specs.Ends.{CanBegin, known_first}
use Rattle.ufs_joint.specs.NamesTurns.{live_files}
use Rattle.ufs_joint.specs.Whole.{birth_known, no_blocks}
use Rattle.ufs_joint.proofs.Blocks.{or_cases}
use Rattle.ufs_joint.proofs.Disks.{store_as_cell}
use Rattle.ufs_joint.proofs.Kept.{since_kept}
use Rattle.ufs_joint.proofs.TellingCommits.{kept_told, parts_told, sound_told}
use Rattle.ufs_joint.proofs.Forgetting.{less_is_kept}
use Rattle.ufs_layout.specs.declared.geometry.Geometry.{Geometry}
use Rattle.ufs_model.specs.PosixTree.{PosixTree}
use Rattle.ufs_model.proofs.Facts.Rising.{entries-rise}
use Rattle.ufs_names.specs.NamesPart.{NamesPart}
use Rattle.ufs_names.proofs.NotedLemmas.{beside}
use Rattle.ufs_crash_laws.specs.Changes.{name_changes}
use Rattle.ufs_hand_laws.specs.Owned.{find}
use Rattle.ufs_hand_laws.specs.Whole.{idle_asked, idle_client}
use Rattle.ufs_store.specs.State.{StoreState}
use Rattle.ufs_promise_laws.specs.Known.{IsDiskKept, IsKeptGoing, Known, nothing_known, with_names_known}
use Rattle.ufs_promise_laws.specs.OnDisk.{IsGoing, IsOnDisk}
use Rattle.ufs_promise_laws.specs.Parts.{Parts, durable_in}
use Rattle.ufs_promise_laws.proofs.Known.{nothing_going}
use Rattle.ufs_names_commit.specs.Laws.{NamesAreThere}
use Rattle.ufs_joint.specs.FirstHand.{Beginning, client_of, file_first, files_first, names_first, pool_of, server_first, start_first, store_first}
use Rattle.ufs_joint.specs.Ready.{IsReady, ReadyCanBegin}
use Rattle.ufs_joint.proofs.Commits.{cell_found, commits_first, commits_in, files_in, same_durable, unknown}
use Rattle.ufs_joint.proofs.Lists.{each_is, each_listed, each_once, listed_once}
use Rattle.ufs_joint.proofs.Trees.{parts_alike}

live_is : (n : NamesPart) (file : ℕ) → set.contains (live_files n) file ≡ is_some (fin.get n.held file)
live_is n file = contains-from_list nat_cmp_total (fin.keys n.held) file ∙ sym (contains_key-keys n.held file)

-- a store that hasn't stopped goes on
going_on : (s : StoreState) (start : PosixTree) (p : Parts) → s.stop ≡ None → IsOnDisk s start [] p → IsGoing s start [] p
going_on s start p going (inl go) = go
going_on s start p going (inr st) = (let stopped = st.stopped in let clash : false ≡ true = ap is_some (sym going) ∙ stopped in absurd cc)

module _ (b : Beginning) (s : StoreState) (r : IsReady b s) where
  abbrev k : Start
  k = start_first b s

  abbrev p : Parts
  p = server_first b

  same : (file : ℕ) (f : FileState) → fin.get b.files file ≡ Some f → durable_in (commits_first b.files) f ≡ durable_in fin.empty f
  same = same_durable b.files (λ file f at. (r.parts.files file f at).0)

  -- the parts of the first hand
  abbrev q : Parts
  q = record p { commits = commits_first b.files }

  -- ---- what is known

  -- each file is one that the names tell of
  file_live : (file : ℕ) (f : FileState) → fin.get b.files file ≡ Some f → is_some (fin.get b.names.held file) ≡ true
  file_live file f at =
      let it = r.parts.files file f at in
      r.parts.names.told file ∙ ap (λ n. is_some (fin.get b.tree.bytes n)) (sym it.0) ∙ ap is_some it.1.has

  born_first : (file : ℕ) → (birth_known b.tree [] (find eqb file (files_first b.files)) || set.contains (live_files b.names) file) ≡ true → is_some (fin.get b.names.held file) ≡ true
  born_first file is = ⊎_elim (λ own. by (fin.get b.files file) refl (sym (ap (birth_known b.tree []) (cell_found b.files file)) ∙ own)) (λ named. sym (live_is b.names file) ∙ named)
      (or_cases (birth_known b.tree [] (find eqb file (files_first b.files))) (set.contains (live_files b.names) file) is)
    where
      by : (o : Option FileState) → fin.get b.files file ≡ o → birth_known b.tree [] (option_map file_first o) ≡ true → is_some (fin.get b.names.held file) ≡ true
      by None at own = absurd cc
      by (Some f) at own = file_live file f at

  abbrev births : Known
  births = with_names_known p.names (length (name_changes b.tree [])) nothing_known

  -- ---- the disk

  module _ (there : NamesAreThere b.geometry) (visible : b.is_visible ≡ true) where
    on_disk : IsKeptGoing s b.tree [] p births
    on_disk = there s b.tree [] p nothing_known r.formed refl ((beside b.names (Some [])).table r.table)
        (nothing_going s b.tree [] p (going_on s b.tree p r.going (r.on_disk visible)))

    kept : IsDiskKept s b.tree [] q (known_first k (names_first b.names))
    kept = less_is_kept s b.tree [] q (known_first k (names_first b.names)) births
        (record { names = omega arith; files = λ file. omega arith; born = λ file is. born_first file is })
        (kept_told p (commits_first b.files) same s b.tree [] births (inl on_disk))

    kept_first : IsDiskKept (store_of (store_first s)) b.tree [] q (known_first k (names_first b.names))
    kept_first = since_kept (store_first s) s.moments.earlier [] b.tree [] q (known_first k (names_first b.names))
        (subst (λ (x : StoreState). IsDiskKept x b.tree [] q (known_first k (names_first b.names))) (sym (store_as_cell 0 [] s (r.whole visible))) kept)

  -- ---- the lists

  pools_apart : (i j : ℕ) → i < j → j ≤ 8 → pool_of j ≡ pool_of i → ⊥
  pools_apart i j low most is = omega (arith, low, most, is)

  clients_apart : (i j : ℕ) → i < j → j ≤ b.clients → client_of j ≡ client_of i → ⊥
  clients_apart i j low most is = omega (arith, low, is)

  few_pools : suc b.workers ≤ suc 8
  few_pools = let few = r.workers in omega (arith, few)

  pub can_begin : NamesAreThere b.geometry → CanBegin k
  can_begin there = record {
    tree = r.parts.names.tree;
    closed = r.closed;
    one_client = λ c. each_once client_of idle_client b.clients clients_apart b.clients c (omega arith);
    one_asked = λ c. each_once client_of idle_asked b.clients clients_apart b.clients c (omega arith);
    one_file = λ file. listed_once file_first file (fin.entries b.files) (entries-rise b.files);
    clients = λ c x has. each_is client_of idle_client b.clients c x has;
    asked = λ c x has. each_is client_of idle_asked b.clients c x has;
    one_pool = λ n. each_once pool_of no_blocks 8 pools_apart (suc b.workers) n few_pools;
    pools = λ n s has. each_is pool_of no_blocks (suc b.workers) n s has;
    names = names_first b.names;
    has_names = refl;
    store = store_first s;
    has_store = refl;
    unchanged = λ file c has. each_listed file_first (λ (x : FileCell). (x.changed ≡ 0) × (x.known ≡ 0)) (λ f. (refl, refl)) (fin.entries b.files) file c has;
    names_unchanged = (refl, refl);
    at_rest = (refl, refl);
    seen = refl;
    no_faults = refl;
    no_stop = refl;
    parts = q;
    pool = refl;
    files_in = files_in b.files;
    commits_in = commits_in b.files;
    names_in = record { names = refl; fresh = refl; dropped = refl };
    are = λ start may. parts_told p (commits_first b.files) same start (parts_alike p b.tree start r.away (either_way start b.tree may.alike) r.parts);
    server = sound_told p (commits_first b.files) same b.geometry s.unassigned.free (unknown b.files) r.server;
    formed = r.formed;
    on_disk = kept_first there;
  }

pub ready_can_begin : (g : Geometry) → NamesAreThere g → ReadyCanBegin g
ready_can_begin g there b s formed r = can_begin b s r (subst NamesAreThere (sym formed) there)
