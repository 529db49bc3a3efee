-- A file's new form is committed.
use Rattle.std.proofs.Common.{◌≡◌, ℕ, ◌≤◌, ◌⊎◌, inl, inr, List, [], ◌∷◌, ◌++◌, Bool, true, false, Option, Some, None, length, ap, sym, refl, ◌∙◌, subst, arith}
use Rattle.std.specs.Prelude.{◌==◌, if◌then◌else◌}
use Rattle.std.specs.List.{slice_get}
use Rattle.std.specs.Option.{option_map}
use Rattle.std.proofs.lemmas.Bool.Decides.{nat_tests}
use Rattle.ufs_disk.specs.Disk.{Cell}
use Rattle.ufs_layout.specs.InodeForm.{InodeForm}
use Rattle.ufs_image.specs.Fold.{after_delta}
use Rattle.ufs_image.specs.Nodes.{blocks_of}
use Rattle.ufs_layout.specs.declared.geometry.Geometry.{Geometry}
use Rattle.ufs_layout.specs.declared.inode.Extent.{Extent}
use Rattle.ufs_layout.specs.declared.records.Committed.{Committed}
use Rattle.ufs_model.specs.PosixTree.{PosixTree}
use Rattle.ufs_model.specs.FileBytes.{bytes_of}
use Rattle.ufs_model.specs.History.{tree_after}
use Rattle.ufs_model.specs.declared.data.Entry.{Entry}
use Rattle.ufs_model.specs.declared.data.Node.TheVariants.{Dir, File}
use Rattle.ufs_crash_laws.specs.Changes.{changes_of, name_changes, names_after}
use Rattle.ufs_crash_laws.specs.Stored.{IsNamed}
use Rattle.ufs_image.specs.Catalog.{Catalog, HasBlock}
use Rattle.ufs_image.specs.Sound.{IsSoundCatalog}
use Rattle.ufs_image.specs.Walks.{inode_of}
use Rattle.ufs_image.specs.Folding.{with_form, with_committed_in}
use Rattle.ufs_image.specs.Folding.{file_commit}
use Rattle.ufs_ledger.specs.Ledger.{Stand, CoversDirs, with_one, is_held}
use Rattle.ufs_ledger.specs.Changes.{MayCommit}
use Rattle.ufs_ledger.specs.Kept.{Numbers, numbered, IsNumberedBy, shape_of, AlwaysShows, IsStandKept}
use Rattle.ufs_ledger.specs.Laws.{StandsOn, MayCommitFile, MayCommitForm, raised}
use Rattle.ufs_ledger.proofs.Forms as forms
use Rattle.ufs_ledger.proofs.Held.{held_after}
use Rattle.ufs_ledger.proofs.Promise.{shows_now}

module _ (g : Geometry) (blocks : ℕ → Cell) (s : Stand) (start : PosixTree) (history : List Entry) (names : ℕ) (files : ℕ → ℕ) (n : Numbers) (file inode number size keep : ℕ) (extents : List Extent)
    (sound : IsSoundCatalog g s.catalog) (covers : CoversDirs g s) (kept : IsStandKept g blocks s start history names files n) (go : MayCommitFile g blocks s start history files n file inode number size keep extents) where
  abbrev pub c : Catalog
  c = s.catalog

  abbrev pub form : InodeForm
  form = after_delta (s.catalog.forms inode) number 1 size keep extents

  abbrev pub one : Committed
  one = file_commit number inode size keep extents

  abbrev pub next : Catalog
  next = with_form inode (after_delta (s.catalog.forms inode) number 1 size keep extents) s.catalog

  abbrev own : MayCommitForm g s inode number size keep extents
  own = record { newer = go.newer; keeps = go.keeps; fits = go.fits; may = go.may }

  pub catalog_is : with_committed_in g one c ≡ next
  catalog_is = forms.catalog_is g s inode number size keep extents sound covers own

  pub may_commit : MayCommit g one s
  may_commit = forms.may_commit g s inode number size keep extents sound covers own

  same_kind : (k : ℕ) → (next.forms k).kind ≡ (c.forms k).kind
  same_kind = forms.same_kind g s inode number size keep extents sound covers own

  pub shape_else : (o : Option ℕ) → (o ≡ Some inode → ⊥) → shape_of next o ≡ shape_of c o
  shape_else = forms.shape_else g s inode number size keep extents sound covers own

  pub shape_here : shape_of next (n.inode file) ≡ record { size = size; holds = blocks_of form }
  shape_here = ap (shape_of next) go.there ∙ forms.shape_here g s inode number size keep extents sound covers own

  -- ---- the promise

  same_node : (k : ℕ) → numbered next n k ≡ numbered c n k
  same_node k = ap (λ kind. if kind == 2 then Dir else File (n.file k)) (same_kind k)

  same_nodes : (o : Option ℕ) → option_map (numbered next n) o ≡ option_map (numbered c n) o
  same_nodes None = refl
  same_nodes (Some k) = ap Some (same_node k)

  paths : IsNumberedBy next n (names_after start history names).paths
  paths =
      let was = kept.stored.paths in
      record {
        there = λ ns pieces. was.there ns pieces ∙ ap (option_map (numbered c n)) (sym (forms.walks g s inode number size keep extents sound covers own ns)) ∙ sym (same_nodes (inode_of next ns));
        only = was.only;
        back = λ ns k pieces met file'. was.back ns k pieces (sym (forms.walks g s inode number size keep extents sound covers own ns) ∙ met) (ap (λ kind. kind == 2) (sym (same_kind k)) ∙ file');
      }

  unheld : (k place block : ℕ) → HasBlock g next k place block → (next.forms k).kind ≡ 1 → is_held (s.log ++ one ∷ []) block ≡ false
  unheld k place block has file' = held_after s.log one block (by (k == inode) refl) refl
    where
      by : (b : Bool) → (k == inode) ≡ b → is_held s.log block ≡ false
      by true e = go.unheld place block (sym (ap (λ f. slice_get (blocks_of f) place) (forms.form_here g s inode number size keep extents sound covers own k e)) ∙ has.there)
      by false e = kept.stored.unheld k place block (record { in_range = has.in_range; there = sym (ap (λ f. slice_get (blocks_of f) place) (forms.form_else g s inode number size keep extents sound covers own k e)) ∙ has.there }) (sym (same_kind k) ∙ file')

  each : (count other : ℕ) → names ≤ count → count ≤ length (name_changes start history) → IsNamed (names_after start history count).paths other
      → ((raised files file (length (changes_of file start history)) other ≡ files other) × (shape_of next (n.inode other) ≡ shape_of c (n.inode other)))
      ⊎ AlwaysShows blocks (shape_of next (n.inode other)) (bytes_of start.bytes other) (changes_of other start history) (raised files file (length (changes_of file start history)) other)
  each count other from to named = by (other == file) refl
    where
      by : (b : Bool) → (other == file) ≡ b
          → ((raised files file (length (changes_of file start history)) other ≡ files other) × (shape_of next (n.inode other) ≡ shape_of c (n.inode other)))
          ⊎ AlwaysShows blocks (shape_of next (n.inode other)) (bytes_of start.bytes other) (changes_of other start history) (raised files file (length (changes_of file start history)) other)
      by false e =
          let apart : n.inode other ≡ Some inode → ⊥ = λ at. let same = go.alone other at in let yes : (other == file) ≡ true = grind (arith, nat_tests, same) in let both = sym e ∙ yes in cc in
          inl (ap (λ b. if b then length (changes_of file start history) else files other) e, shape_else (n.inode other) apart)
      by true e =
          let same : file ≡ other = grind (arith, nat_tests, e) in
          let shown = shows_now blocks (record { size = size; holds = blocks_of form }) (bytes_of start.bytes file) (changes_of file start history) go.sized go.now in
          let there : AlwaysShows blocks (shape_of next (n.inode file)) (bytes_of start.bytes file) (changes_of file start history) (length (changes_of file start history)) =
          subst (λ shape. AlwaysShows blocks shape (bytes_of start.bytes file) (changes_of file start history) (length (changes_of file start history))) (sym shape_here) shown in
          inr (subst (AlwaysShows blocks (shape_of next (n.inode other)) (bytes_of start.bytes other) (changes_of other start history)) (sym (ap (λ b. if b then length (changes_of file start history) else files other) e))
          (subst (λ f. AlwaysShows blocks (shape_of next (n.inode f)) (bytes_of start.bytes f) (changes_of f start history) (length (changes_of file start history))) same there))

  rises : (other : ℕ) → files other ≤ raised files file (length (changes_of file start history)) other
  rises other = by (other == file) refl
    where
      by : (b : Bool) → (other == file) ≡ b → files other ≤ (if b then length (changes_of file start history) else files other)
      by true e = let same : other ≡ file = grind (arith, nat_tests, e) in subst (λ f. files f ≤ length (changes_of file start history)) (sym same) go.counted
      by false e = omega arith

  fresh : (other : ℕ) → (tree_after start history).next ≤ other → (raised files file (length (changes_of file start history)) other ≡ 0) × (n.inode other ≡ None)
  fresh other above = (by (other == file) refl, (kept.stored.fresh other above).1)
    where
      by : (b : Bool) → (other == file) ≡ b → (if b then length (changes_of file start history) else files other) ≡ 0
      by true e = let same : other ≡ file = grind (arith, nat_tests, e) in let born = go.born in absurd (omega (arith, same, born, above))
      by false e = (kept.stored.fresh other above).0

  pub stands_on : StandsOn g blocks s (with_one g one s) start history names names files (raised files file (length (changes_of file start history))) n n
  stands_on = subst (λ d. StandsOn g blocks s (record { catalog = d; dirs = s.dirs; log = s.log ++ one ∷ [] }) start history names names files (raised files file (length (changes_of file start history))) n n) (sym catalog_is)
      (record {
        later = omega arith;
        made = kept.stored.made;
        paths = paths;
        inodes = λ other k at. let was = kept.stored.inodes other k at in (was.0, same_kind k ∙ was.1);
        unheld = unheld;
        rises = rises;
        each = each;
        fresh = fresh;
      })
