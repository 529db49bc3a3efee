-- A session over a new disk can begin.
use Rattle.std.proofs.Common.{◌≡◌, ℕ, zero, suc, ◌+◌, ◌-◌, ◌≤◌, ◌<◌, ◌⊎◌, Bool, true, false, eqb, cond, eq-eqb, ne_eqb, List, [], ◌∷◌, map, Some, None, is_some, unwrap_or, sym, refl, ap, ◌∙◌, subst, inl, inr, arith}
use Rattle.std.specs.Prelude.{slice_get}
use Rattle.std.specs.List.{range_with_len}
use Rattle.std.proofs.lemmas.List.FromFn.{length-map-range_with_len}
use Rattle.std.specs.Ordering.{nat_cmp}
use Rattle.std.specs.FinMap as fin
use native.Mathlib.Decide.{ℕ_discrete, dec_le}
use Rattle.ufs_base.specs.Images.{Image}
use Rattle.ufs_layout.specs.Areas.{first_of_data, sector_count}
use Rattle.ufs_layout.specs.declared.geometry.Geometry.{Geometry}
use Rattle.ufs_disk.specs.Disk.{IsImage}
use Rattle.ufs_image.specs.Formatted.{IsFormatted}
use Rattle.ufs_image.specs.Laws.{OpensToRoot}
use Rattle.ufs_image.specs.Opens.{root_entry, root_tree}
use Rattle.ufs_model.specs.Order.{path_cmp, fd_cmp}
use Rattle.ufs_model.specs.PosixTree.{IsTree, root, root_alone}
use Rattle.ufs_model.specs.Start.{path_root, HasContents, StartsHaveContents}
use Rattle.ufs_model.specs.Laws.{KeepsTrees}
use Rattle.ufs_model.specs.Touched.{holds}
use Rattle.std.specs.Ordering.{eq_by_cmp}
use Rattle.std.specs.Option.{option_map}
use Rattle.ufs_model.specs.declared.data.PathNode.TheVariants.{Dir}
use Rattle.ufs_crash_laws.proofs.Facts.Mapped.{get-mapped}
use Rattle.ufs_model.proofs.Facts.Orders.{path_total}
use Rattle.ufs_model.proofs.Facts.Held.{holder}
use Rattle.ufs_model.proofs.Facts.Starts.{start_is_tree, root_is_tree, start_of-root}
use Rattle.ufs_hand_laws.specs.Owned.{one, Has, count, times}
use Rattle.ufs_hand_laws.specs.Parts.{Cells, Start, committed}
use Rattle.ufs_hand_laws.specs.DiskBytes.{state_of}
use Rattle.ufs_hand_laws.specs.Shown.{node_of, nodes_of, EachOpensTo, ShowsImages}
use Rattle.ufs_hand_laws.specs.ByImages.{by_images}
use Rattle.ufs_hand_laws.specs.Whole.{CanOpen, idle_client, idle_asked}
use Rattle.ufs_hand_laws.specs.First.{settled_cell, settled_cells, EndsAt, primary_pool, new_names, new_store, new_view, new_start, BlindDisksOpen}
use Rattle.ufs_hand_laws.proofs.Showing.{openings_show}

none_some : {A : Type 0} (x : A) → None ≡ Some x → ⊥
none_some x e = cc

few : (b : Bool) → one b + 0 ≤ 1
few true = omega arith
few false = omega arith

-- ---- each number of a range stands there once

module _ {D : Type 0} (d : ℕ → D) where
  abbrev pub named : ℕ → ℕ → List (ℕ × D)
  named a n = map (λ c. (c, d c)) (range_with_len a n)

  none_before : (n a c : ℕ) → c < a → count eqb c (named a n) ≡ 0
  none_before zero a c l = refl
  none_before (suc n) a c l = let h : one (eqb c a) ≡ 0 = ap one (ne_eqb c a (omega arith)) in let t : count eqb c (named (a + 1) n) ≡ 0 = none_before n (a + 1) c (omega arith) in omega (arith, h, t)

  pub one_each : (n a c : ℕ) → count eqb c (named a n) ≤ 1
  one_each zero a c = omega arith
  one_each (suc n) a c = by (ℕ_discrete c a) (one_each n (a + 1) c)
    where
      by : Dec (c ≡ a) → count eqb c (named (a + 1) n) ≤ 1 → count eqb c (named a (suc n)) ≤ 1
      by (yes e) t = let h : one (eqb c a) ≡ 1 = ap one (eq-eqb c a e) in let z : count eqb c (named (a + 1) n) ≡ 0 = none_before n (a + 1) c (omega arith) in omega (arith, h, z)
      by (no e) t = let h : one (eqb c a) ≡ 0 = ap one (ne_eqb c a e) in omega (arith, h, t)

  pub all_are : (n a c : ℕ) (x : D) → Has (c, x) (named a n) → x ≡ d c
  all_are zero a c x h = absurd h
  all_are (suc n) a c x (inl e) = ap (λ (q : ℕ × D). q.1) e ∙ ap d (sym (ap (λ (q : ℕ × D). q.0) e))
  all_are (suc n) a c x (inr h) = all_are n (a + 1) c x h

  -- one for each number from a to a + n, and none for others
  pub each_once : (n a c : ℕ) → a ≤ c → c < a + n → count eqb c (named a n) ≡ 1
  each_once zero a c l u = absurd (omega arith)
  each_once (suc n) a c l u = by (ℕ_discrete c a) (λ low. each_once n (a + 1) c low (omega arith))
    where
      by : Dec (c ≡ a) → (a + 1 ≤ c → count eqb c (named (a + 1) n) ≡ 1) → count eqb c (named a (suc n)) ≡ 1
      by (yes e) rest = let h : one (eqb c a) ≡ 1 = ap one (eq-eqb c a e) in let z : count eqb c (named (a + 1) n) ≡ 0 = none_before n (a + 1) c (omega arith) in omega (arith, h, z)
      by (no e) rest = let h : one (eqb c a) ≡ 0 = ap one (ne_eqb c a e) in let r : count eqb c (named (a + 1) n) ≡ 1 = rest (omega arith) in omega (arith, h, r)

  pub none_after : (n a c : ℕ) → a + n ≤ c → count eqb c (named a n) ≡ 0
  none_after zero a c l = refl
  none_after (suc n) a c l = let h : one (eqb c a) ≡ 0 = ap one (ne_eqb c a (omega arith)) in let r : count eqb c (named (a + 1) n) ≡ 0 = none_after n (a + 1) c (omega arith) in omega (arith, h, r)

  pub within_range : (n a c : ℕ) (x : D) → Has (c, x) (named a n) → c < a + n
  within_range zero a c x h = absurd h
  within_range (suc n) a c x (inl e) = let s : c ≡ a = ap (λ (q : ℕ × D). q.0) e in omega arith
  within_range (suc n) a c x (inr h) = let r = within_range n (a + 1) c x h in omega arith

pub in_range : (n a c : ℕ) → Has c (range_with_len a n) → c < a + n
in_range zero a c h = absurd h
in_range (suc n) a c (inl e) = omega arith
in_range (suc n) a c (inr h) = let r = in_range n (a + 1) c h in omega arith

times_before : (n a b : ℕ) → b < a → times b (range_with_len a n) ≡ 0
times_before zero a b l = refl
times_before (suc n) a b l = let h : one (eqb b a) ≡ 0 = ap one (ne_eqb b a (omega arith)) in let t : times b (range_with_len (a + 1) n) ≡ 0 = times_before n (a + 1) b (omega arith) in omega (arith, h, t)

times_each : (n a b : ℕ) → times b (range_with_len a n) ≤ 1
times_each zero a b = omega arith
times_each (suc n) a b = by (ℕ_discrete b a) (times_each n (a + 1) b)
  where
    by : Dec (b ≡ a) → times b (range_with_len (a + 1) n) ≤ 1 → times b (range_with_len a (suc n)) ≤ 1
    by (yes e) t = let h : one (eqb b a) ≡ 1 = ap one (eq-eqb b a e) in let z : times b (range_with_len (a + 1) n) ≡ 0 = times_before n (a + 1) b (omega arith) in omega (arith, h, z)
    by (no e) t = let h : one (eqb b a) ≡ 0 = ap one (ne_eqb b a e) in omega (arith, h, t)

-- ---- a settled disk has one image

module _ {D : Type 0} (f : ℕ → D) where
  got : (n a s : ℕ) → s < n → slice_get (map f (range_with_len a n)) s ≡ Some (f (a + s))
  got zero a s l = absurd (omega arith)
  got (suc n) a zero l = ap (λ x. Some (f x)) (omega arith)
  got (suc n) a (suc s) l = got n (a + 1) s (omega arith) ∙ ap (λ x. Some (f x)) (omega arith)

  past : (n a s : ℕ) → n ≤ s → slice_get (map f (range_with_len a n)) s ≡ None
  past zero a s l = refl
  past (suc n) a zero l = absurd (omega arith)
  past (suc n) a (suc s) l = past n (a + 1) s (omega arith)

pub one_image : (sectors : ℕ) (image other : Image) → EndsAt sectors image → IsImage (state_of (settled_cells sectors image)) other → other ≡ image
one_image sectors image other ends is j s = at s (dec_le (suc s) sectors) j
  where
    at : (s : ℕ) → Dec (suc s ≤ sectors) → other s ≡ image s
    at s (yes l) = alone (subst (λ o. Rattle.ufs_disk.specs.Disk.IsAmong (Rattle.ufs_disk.specs.Disk.possible (unwrap_or o Rattle.ufs_hand_laws.specs.DiskBytes.empty_cell)) (other s)) (got (settled_cell image) sectors 0 s l) (is s))
      where
        alone : (other s ≡ image (0 + s)) ⊎ ⊥ → other s ≡ image s
        alone (inl e) = e ∙ ap image (omega arith)
        alone (inr e) = absurd e
    at s (no l) = alone (subst (λ o. Rattle.ufs_disk.specs.Disk.IsAmong (Rattle.ufs_disk.specs.Disk.possible (unwrap_or o Rattle.ufs_hand_laws.specs.DiskBytes.empty_cell)) (other s)) (past (settled_cell image) sectors 0 s (omega arith)) (is s)) ∙ sym (ends s (omega arith))
      where
        alone : (other s ≡ []) ⊎ ⊥ → other s ≡ []
        alone (inl e) = e
        alone (inr e) = absurd e

pub root_nodes : (path : List ℕ) → fin.get path_root path ≡ fin.get (nodes_of root_tree) path
root_nodes path =
    fin.get-from_entries path_total ((root, Dir) ∷ []) path ∙ by (eq_by_cmp path_cmp path root)
    ∙ ap (option_map node_of) (sym (fin.get-from_entries path_total (root_entry ∷ []) path)) ∙ sym (get-mapped path_total node_of root_tree path)
  where
    by : (b : Bool) → cond b (Some Dir) None ≡ option_map node_of (cond b (Some None) None)
    by true = refl
    by false = refl

root_contents : StartsHaveContents → HasContents root_alone (nodes_of root_tree)
root_contents have path = subst (λ t. HasContents t path_root) start_of-root (have path_root) path ∙ root_nodes path

-- The disk shows the root alone, where it is visible.
module _ (visible : Bool) (g : Geometry) (clients : ℕ) (cells : Cells) where
  abbrev k : Start
  k = record { tree = root_alone; view = new_view clients g cells; is_visible = visible }

  pub is_root : IsTree root_alone
  is_root = subst IsTree start_of-root (start_is_tree path_root root_is_tree)

  pub none_committed : (f : ℕ) → committed (new_store g cells) f ≡ 0
  none_committed f = ap (λ o. unwrap_or o 0) (fin.get-empty nat_cmp f)

  pub can_open : (visible ≡ true → ShowsImages root_alone [] (committed (new_store g cells)) 0 (Some root_alone.paths) cells) → CanOpen by_images k new_names (new_store g cells)
  can_open shows = record {
    tree = is_root;
    closed = λ c fd. fin.get-empty fd_cmp (c, fd);
    free = λ c f. unheld c f (holds root_alone.fds c f) refl;
    small = omega arith;
    one_client = λ c. one_each (λ _. idle_client) clients 0 c;
    one_asked = λ c. one_each (λ _. idle_asked) clients 0 c;
    one_file = λ f. sym (ap (λ o. one (is_some o)) (fin.get-empty nat_cmp f));
    one_pool = λ n. few (eqb n primary_pool);
    clients = λ c p h. all_are (λ _. idle_client) clients 0 c p h;
    asked = λ c p h. all_are (λ _. idle_asked) clients 0 c p h;
    files = λ f p h. absurd h;
    names_is = refl;
    opening = refl;
    paths = refl;
    changes = refl;
    next = refl;
    no_holds = λ c f. refl;
    born = λ f h. absurd h;
    names_known = refl;
    clock = refl;
    store_is = refl;
    nothing_committed = none_committed;
    no_names = refl;
    extents = λ f bs e. absurd (none_some bs (sym (fin.get-empty nat_cmp f) ∙ e));
    dirs = λ b h. h;
    once = λ b. let t = times_each (g.blocks - first_of_data g) (first_of_data g) b in omega arith;
    mark = refl;
    past = refl;
    lent = refl;
    lent_names = refl;
    shows = λ seen. shows seen.visible;
    single = λ n. omega arith;
    faults = refl;
    stop = refl;
    shortages = refl;
    seen = refl;
    view_clock = refl;
  }
    where
      unheld : (c f : ℕ) (b : Bool) → holds root_alone.fds c f ≡ b → holds root_alone.fds c f ≡ false
      unheld c f true e = let h = holder root_alone.fds c f e in absurd (none_some h.1 (sym (fin.get-empty fd_cmp (c, h.0)) ∙ h.2))
      unheld c f false e = e

module _ (keeps : KeepsTrees) (have : StartsHaveContents) (g : Geometry) (clients sectors : ℕ) (image : Image) (opens : OpensToRoot g) (room : sector_count g ≤ sectors) (new : IsFormatted g image) (ends : EndsAt sectors image) where
  abbrev cells : Cells
  cells = settled_cells sectors image

  each_opens : EachOpensTo (HasContents root_alone) cells
  each_opens other is = (
    root_tree,
    ap (λ n. Rattle.ufs_image.specs.Opens.opens n other) (length-map-range_with_len (settled_cell image) 0 sectors) ∙ ap (Rattle.ufs_image.specs.Opens.opens sectors) (one_image sectors image other ends is) ∙ opens sectors image new room,
    root_contents have,
  )

  pub new_opens : CanOpen by_images (new_start clients g cells) new_names (new_store g cells)
  new_opens = can_open true g clients cells (λ seen. openings_show keeps root_alone (committed (new_store g cells)) cells (is_root true g clients cells) (none_committed true g clients cells) each_opens)

pub blind_opens : BlindDisksOpen
blind_opens g clients cells = can_open false g clients cells (λ seen. absurd (not_visible seen))
  where
    not_visible : false ≡ true → ⊥
    not_visible e = cc
