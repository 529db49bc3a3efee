-- A session that begins has every part of its tree in one hand.
use Rattle.std.proofs.Common.{◌≡◌, ℕ, ◌≤◌, Bool, true, false, eqb, List, [], Option, None, is_some, unwrap_or, sym, refl, ap, ◌∙◌, subst, arith}
use Rattle.std.specs.Prelude.{slice_get}
use Rattle.std.specs.Ordering.{nat_cmp}
use Rattle.std.specs.FinMap as fin
use Rattle.ufs_model.specs.Order.{fd_cmp}
use Rattle.ufs_model.specs.Start.{PathNodes, IsPathTree, start_of}
use Rattle.ufs_hand_laws.specs.ByImages.{by_images}
use Rattle.ufs_hand_laws.specs.Opened.{OpenedDisk, opened_file, opened_names, opened_store, opened_view, CanBeOpened, OpenedDisksServe}
use Rattle.ufs_hand_laws.specs.Owned.{one}
use Rattle.ufs_hand_laws.specs.Parts.{Cells, FilePart, Start, View}
use Rattle.ufs_hand_laws.specs.Whole.{CanOpen, idle_client}
use Rattle.ufs_hand_laws.proofs.Owning.{none_some}
use Rattle.ufs_hand_laws.proofs.First.{all_are}
use Rattle.ufs_hand.specs.Session.{CanBegin, first_view}
use Rattle.ufs_one_hand.specs.declared.pools.TheConstants.{PRIMARY_POOL}
use Rattle.ufs_one_hand.specs.Apart.{HasEachFile}
use Rattle.ufs_one_hand.specs.OneHand.{disk_with, start_seeing, IsCovered, IsCoveredIn, IsStart, StartsCanBegin, HasSession, IsClientAt, faults_in, passed_in, stamp_in}
use Rattle.ufs_one_hand.proofs.Bare.{no_blocks, uses_none}
use Rattle.ufs_one_hand.proofs.Passage.{one_part}

module _ (nodes : PathNodes) (cells : Cells) (is_visible : Bool) where
  abbrev d : OpenedDisk
  d = disk_with nodes cells is_visible

  pub can_be_opened : IsPathTree nodes → (start_of nodes).next ≤ 1073741824 → CanBeOpened d
  can_be_opened paths few = record {
    paths = paths;
    small = few;
    pools = λ n. let p = one_pool (eqb n PRIMARY_POOL) in omega (arith, p);
    extents = λ f bs e. absurd (none_some bs (sym (fin.get-empty nat_cmp f) ∙ e));
    once = λ b. let i = uses_none nodes cells is_visible b in omega (arith, i);
    on_disk = λ visible f low place b at out. absurd (none_some b (ap (λ (bs : List ℕ). slice_get bs place) (sym (no_blocks nodes cells is_visible f)) ∙ at));
  }
    where
      one_pool : (b : Bool) → one b ≤ 1
      one_pool true = omega arith
      one_pool false = omega arith

  client_idle : (c : ℕ) → IsClientAt (start_of nodes) [] None c idle_client
  client_idle c = record { entries = refl; fds = λ fd. fin.get-empty nat_cmp fd ∙ sym (fin.get-empty fd_cmp (c, fd)); copies = refl; asked = refl }

  pub begun : IsPathTree nodes → (start_of nodes).next ≤ 1073741824 → CanOpen by_images (start_seeing nodes cells is_visible) (opened_names d) (opened_store d) → HasSession (start_seeing nodes cells is_visible) [] None (opened_view d)
  begun paths few can = record {
    start = record { nodes = nodes; cells = cells; is_visible = is_visible; paths = paths; few = few; is = refl };
    tree = can.tree;
    legal = tt;
    all_clients = λ c. refl;
    all_asked = λ c. refl;
    clients = λ c p h. subst (IsClientAt (start_of nodes) [] None c) (sym (can.clients c p h)) (client_idle c);
    theirs = λ e h. absurd h;
    one_file = λ f. let e = can.one_file f in omega (arith, e);
    files = λ f p h.
        let is = all_are (opened_file d) (start_of nodes).next 0 f p h in
        let bytes = (can.files f p h).2 in
        record {
          bytes = bytes;
          leases = ap (λ (q : FilePart). q.leases) is;
          blocks = ap (λ (q : FilePart). q.blocks) is ∙ no_blocks nodes cells is_visible f;
          quarantine = ap (λ (q : FilePart). q.quarantine) is;
          spare = ap (λ (q : FilePart). q.spare) is;
          loaded = ap (λ (q : FilePart). q.loaded) is;
        };
    changes = λ f p h. ap (λ (q : FilePart). q.changes) (all_are (opened_file d) (start_of nodes).next 0 f p h);
    pools = refl;
    names = opened_names d;
    has_names = refl;
    names_at = record {
      opening = refl;
      changes = refl;
      paths = refl;
      next = refl;
      holds = λ c f. sym (can.free c f);
      leases = refl;
      blocks = refl;
      spare = refl;
      dropped = λ f bs h. absurd h;
    };
    store = opened_store d;
    has_store = refl;
    store_at = record { extents = refl; dirs = refl; unassigned = refl; stop = refl; single = λ n. omega arith };
  }

  -- no file is apart
  pub each_begun : CanOpen by_images (start_seeing nodes cells is_visible) (opened_names d) (opened_store d) → HasEachFile (start_seeing nodes cells is_visible) [] (opened_view d) fin.empty
  each_begun can = record {
    here = λ f. let e = can.one_file f in let z : one (is_some (fin.get fin.empty f)) ≡ 0 = ap (λ (x : Option View). one (is_some x)) (fin.get-empty nat_cmp f) in omega (arith, e, z);
    apart = λ f u at. absurd (none_some u (sym (fin.get-empty nat_cmp f) ∙ at));
  }

pub starts_begin : OpenedDisksServe → StartsCanBegin
starts_begin serves k s = subst CanBegin (sym s.is) (record {
  names = opened_names (disk_with s.nodes s.cells s.is_visible);
  store = opened_store (disk_with s.nodes s.cells s.is_visible);
  can = serves (disk_with s.nodes s.cells s.is_visible) (can_be_opened s.nodes s.cells s.is_visible s.paths s.few);
})

pub start_begun : OpenedDisksServe → (k : Start) → IsStart k → HasSession k [] None (first_view k)
start_begun serves k s = subst (λ (z : Start). HasSession z [] None (first_view z)) (sym s.is) (begun s.nodes s.cells s.is_visible s.paths s.few (serves (disk_with s.nodes s.cells s.is_visible) (can_be_opened s.nodes s.cells s.is_visible s.paths s.few)))

pub start_each : OpenedDisksServe → (k : Start) → IsStart k → HasEachFile k [] (first_view k) fin.empty
start_each serves k s = subst (λ (z : Start). HasEachFile z [] (first_view z) fin.empty) (sym s.is) (each_begun s.nodes s.cells s.is_visible (serves (disk_with s.nodes s.cells s.is_visible) (can_be_opened s.nodes s.cells s.is_visible s.paths s.few)))

-- nothing is committed yet
pub start_covered : (k : Start) → IsStart k → IsCoveredIn k [] (first_view k)
start_covered k s = subst (λ (z : Start). IsCoveredIn z [] (first_view z)) (sym s.is) (λ c has.
    subst (IsCovered (start_seeing s.nodes s.cells s.is_visible) []) (sym (one_part c (opened_store (disk_with s.nodes s.cells s.is_visible)) has)) (record {
      files = λ f. let e = ap (λ (o : Option ℕ). unwrap_or o 0) (fin.get-empty nat_cmp f) in omega arith;
      names = λ n made synced born. omega arith;
      made = omega arith;
    }))

pub start_stamp : (k : Start) → IsStart k → stamp_in (first_view k) ≡ 0
start_stamp k s = ap (λ (z : Start). stamp_in (first_view z)) s.is

pub start_passed : (k : Start) → IsStart k → passed_in (first_view k) ≡ 0
start_passed k s = ap (λ (z : Start). passed_in (first_view z)) s.is

pub start_faults : (k : Start) → IsStart k → faults_in (first_view k) ≡ []
start_faults k s = ap (λ (z : Start). faults_in (first_view z)) s.is
