-- A session over a disk that has files can begin.
use Rattle.std.proofs.Common.{◌≡◌, ℕ, ◌+◌, ◌≤◌, ◌<◌, Bool, true, false, eqb, ltb, List, [], Option, Some, None, is_some, unwrap_or, sym, refl, ap, ◌∙◌, subst, inl, arith}
use Rattle.std.proofs.lemmas.Bool.{ltb-true, ltb-false}
use Rattle.std.proofs.lemmas.List.FromFn.{length-map-range_with_len}
use Rattle.std.specs.FinMap as fin
use Rattle.ufs_image.specs.Opens.{opens}
use Rattle.ufs_model.specs.Order.{fd_cmp}
use Rattle.ufs_model.specs.PosixTree.{PosixTree, IsTree}
use Rattle.ufs_model.specs.Start.{HasContents, StartsHaveContents, start_of}
use Rattle.ufs_model.specs.Laws.{KeepsTrees}
use Rattle.ufs_model.specs.Touched.{holds}
use Rattle.ufs_model.proofs.Facts.Held.{holder}
use Rattle.ufs_model.proofs.Facts.Starts.{start_is_tree, held-start}
use Rattle.ufs_hand_laws.specs.Owned.{one, Has, count}
use Rattle.ufs_hand_laws.specs.Parts.{StorePart, committed}
use Rattle.ufs_hand_laws.specs.Shown.{EachOpensTo, nodes_of}
use Rattle.ufs_hand_laws.specs.Visible.{IsDiskVisible}
use Rattle.ufs_hand_laws.specs.ByImages.{by_images}
use Rattle.ufs_hand_laws.specs.Whole.{CanOpen, idle_client, idle_asked}
use Rattle.ufs_hand_laws.specs.First.{settled_cell}
use Rattle.ufs_hand_laws.specs.Opened.{OpenedDisk, opened_tree, opened_file, opened_names, opened_store, opened_view, opened_start, CanBeOpened, SettledDisksOpen}
use Rattle.ufs_hand_laws.proofs.Owning.{none_some}
use Rattle.ufs_hand_laws.proofs.First.{one_each, all_are, each_once, none_after, within_range, in_range, one_image}
use Rattle.ufs_hand_laws.proofs.Showing.{openings_show}
use Rattle.ufs_hand_laws.proofs.Visible.{first_store_is, begun_opens}

pub settled_disks_open : SettledDisksOpen
settled_disks_open sectors image tree ends is other at = (
  tree,
  ap (λ n. opens n other) (length-map-range_with_len (settled_cell image) 0 sectors) ∙ ap (opens sectors) (one_image sectors image other ends at) ∙ is,
  refl,
)

module _ (keeps : KeepsTrees) (have : StartsHaveContents) (d : OpenedDisk) (can : CanBeOpened d) where
  is_tree : IsTree (opened_tree d)
  is_tree = start_is_tree d.nodes can.paths

  none_committed : (f : ℕ) → committed (opened_store d) f ≡ 0
  none_committed f = ap (λ o. unwrap_or o 0) (fin.get-empty Rattle.std.specs.Ordering.nat_cmp f)

  there : (f : ℕ) → f < (opened_tree d).next → is_some (fin.get (opened_tree d).bytes f) ≡ true
  there f l = held-start d.nodes f ∙ Rattle.std.proofs.lemmas.Bool.lt-ltb f (opened_tree d).next l

  some_bytes : (o : Option (List ℕ)) → is_some o ≡ true → o ≡ Some (unwrap_or o [])
  some_bytes None e = cc
  some_bytes (Some x) e = refl

  one_file : (f : ℕ) → count eqb f (opened_view d).files ≡ one (is_some (fin.get (opened_tree d).bytes f))
  one_file f = by (ltb f (opened_tree d).next) refl ∙ ap one (sym (held-start d.nodes f))
    where
      by : (b : Bool) → ltb f (opened_tree d).next ≡ b → count eqb f (opened_view d).files ≡ one (ltb f (opened_tree d).next)
      by true e = let l = ltb-true f (opened_tree d).next e in each_once (opened_file d) (opened_tree d).next 0 f (omega arith) (omega arith) ∙ ap one (sym e)
      by false e = let l = ltb-false f (opened_tree d).next e in none_after (opened_file d) (opened_tree d).next 0 f (omega arith) ∙ ap one (sym e)

  opens_to : IsDiskVisible (opened_start d) → EachOpensTo (HasContents (opened_tree d)) d.cells
  opens_to visible = subst (EachOpensTo (HasContents (opened_tree d))) (ap (λ (s : StorePart). s.state) (first_store_is (opened_start d) visible (opened_store d) refl))
      (λ image is. let o = begun_opens (opened_start d) visible image is in (o.0, o.1, subst (λ (t : PosixTree). HasContents t (nodes_of o.0)) (sym (visible.starts ∙ ap start_of (sym o.2))) (have (nodes_of o.0))))

  unheld : (c f : ℕ) (b : Bool) → holds (opened_tree d).fds c f ≡ b → holds (opened_tree d).fds c f ≡ false
  unheld c f true e = let h = holder (opened_tree d).fds c f e in absurd (none_some h.1 (sym (fin.get-empty fd_cmp (c, h.0)) ∙ h.2))
  unheld c f false e = e

  abbrev FileOpens : ℕ → Rattle.ufs_hand_laws.specs.Parts.FilePart → Type 0
  FileOpens f p = (p.opening ≡ fin.get (opened_tree d).bytes f) × (p.changes ≡ []) × (fin.get (opened_tree d).bytes f ≡ Some p.bytes) × (p.known ≡ 0)
      × (IsDiskVisible (opened_start d) → Rattle.ufs_hand_laws.specs.DiskBytes.IsOnDisk p d.cells)
      × ((bs : List ℕ) (b : ℕ) → fin.get d.extents f ≡ Some bs → Has b bs → Rattle.std.proofs.Common.◌⊎◌ (Has b p.blocks) (Has b p.quarantine))

  file_opens : (f : ℕ) → f < (opened_tree d).next → FileOpens f (opened_file d f)
  file_opens f l = (
    refl,
    refl,
    some_bytes (fin.get (opened_tree d).bytes f) (there f l),
    refl,
    (λ visible. can.on_disk visible f l),
    (λ bs b e h. inl (subst (λ (o : Option (List ℕ)). Has b (unwrap_or o [])) (sym e) h)),
  )

  pub opened_can : CanOpen by_images (opened_start d) (opened_names d) (opened_store d)
  opened_can = record {
    tree = is_tree;
    closed = λ c fd. fin.get-empty fd_cmp (c, fd);
    free = λ c f. unheld c f (holds (opened_tree d).fds c f) refl;
    small = can.small;
    one_client = λ c. one_each (λ _. idle_client) d.clients 0 c;
    one_asked = λ c. one_each (λ _. idle_asked) d.clients 0 c;
    one_file = one_file;
    one_pool = can.pools;
    clients = λ c p h. all_are (λ _. idle_client) d.clients 0 c p h;
    asked = λ c p h. all_are (λ _. idle_asked) d.clients 0 c p h;
    files = λ f p h. subst (FileOpens f) (sym (all_are (opened_file d) (opened_tree d).next 0 f p h)) (file_opens f (let r = within_range (opened_file d) (opened_tree d).next 0 f p h in omega arith));
    names_is = refl;
    opening = refl;
    paths = refl;
    changes = refl;
    next = refl;
    no_holds = λ c f. refl;
    born = λ f h. there f (let r = in_range (opened_tree d).next 0 f h in omega arith);
    names_known = refl;
    clock = refl;
    store_is = refl;
    nothing_committed = none_committed;
    no_names = refl;
    extents = λ f bs e. there f (can.extents f bs e);
    dirs = λ b h. h;
    once = can.once;
    mark = refl;
    past = refl;
    lent = refl;
    lent_names = refl;
    shows = λ visible. openings_show keeps (opened_tree d) (committed (opened_store d)) d.cells is_tree none_committed (opens_to visible);
    single = λ n. omega arith;
    faults = refl;
    stop = refl;
    shortages = refl;
    seen = refl;
    view_clock = refl;
  }
