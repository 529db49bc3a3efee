-- A `rename` that isn't refused is served.
use Rattle.std.proofs.Common.{◌≡◌, ◌≢◌, ℕ, ◌⊎◌, inl, inr, List, [], ◌∷◌, Bool, true, false, cond, is_none, is_some, not, ◌&&◌, Option, Some, None, ap, refl, sym, subst, ◌∙◌}
use Rattle.std.specs.Option.{option_map}
use Rattle.std.specs.FinMap as map
use Rattle.ufs_model.specs.Directories.{has_entries, renamed}
use Rattle.ufs_base.specs.Choices.{first_of}
use Rattle.ufs_model.specs.Paths.{components, text_refusal, whole_path, whole_of}
use Rattle.ufs_model.specs.PosixTree.{PosixTree, has_dir, is_dir, is_live}
use Rattle.ufs_model.specs.Posix.{answer, change, forget}
use Rattle.ufs_model.specs.Refusals.{own_refusal, rename_refusal, refusal}
use Rattle.ufs_model.specs.Walk.{file_of}
use Rattle.ufs_model.specs.Laws.{KeepsTrees}
use Rattle.ufs_model.proofs.Facts.Allowed.{first_none}
use Rattle.ufs_model.proofs.Facts.Orders.{path_total, path_same}
use Rattle.ufs_model.proofs.Facts.Lookups.{one_or_apart}
use Rattle.ufs_model.specs.declared.data.Ask.{Ask}
use Rattle.ufs_model.specs.declared.data.Errno.{Errno}
use Rattle.ufs_model.specs.Touched as touched
use Rattle.ufs_model.specs.Touched.{dropped_part, reached, replaced_part}
use Rattle.ufs_model.specs.declared.data.Excuse.{Excuse}
use Rattle.ufs_model.specs.Excuses.{ExcuseFits}
use Rattle.ufs_model.specs.declared.data.Op.{Op}
use Rattle.ufs_model.specs.declared.data.Op.TheVariants as op
use Rattle.ufs_model.specs.declared.data.PartName.{PartName}
use Rattle.ufs_model.specs.declared.data.PartName.TheVariants as name
use Rattle.ufs_model.specs.declared.data.Reply.{Reply}
use Rattle.ufs_model.specs.declared.data.Reply.TheVariants.{Done}
use Rattle.ufs_bitmap.specs.Blocks.{BlockSet}
use Rattle.ufs_dir_tree.specs.DirTable.{dir_at, found_at}
use Rattle.ufs_dir_tree.specs.DirCalls.{IsListed, LacksRoom, MayGo, MayMove, names_above}
use Rattle.ufs_dir_tree.specs.declared.found.Found.TheVariants.{Dir}
use Rattle.ufs_files.specs.Files.{Files}
use Rattle.ufs_name_tree.specs.NameTable.{IsNameTable, node_at, node_of}
use Rattle.ufs_name_tree.specs.Nodes.{MovesNodes}
use Rattle.ufs_names.specs.NamesPart.{NamesPart, IsNamesPart}
use Rattle.ufs_names.specs.Steps.{GoesHere, LosesName}
use Rattle.ufs_names.specs.Calls.{IsAsked, IsServed}
use Rattle.ufs_names.proofs.NameLists.{AreNames, names_of}
use Rattle.ufs_names.proofs.WalkLinks.{met_at}
use Rattle.ufs_names.proofs.PartLemmas.{part_rename, part_same_name, stood_has}
use Rattle.ufs_model.proofs.Facts.Pieces.{bytes_same}
use Rattle.ufs_model.proofs.NewNameLemmas.{IsRenamed, may_rename, rename_allowed}
use Rattle.ufs_names.proofs.AllowedLemmas.{bytes_differ}
use Rattle.ufs_names.proofs.ConditionLemmas.{names_above_are, rename_moves}
use Rattle.ufs_names.proofs.EntryLemmas.{bare_if_no_entries}
use Rattle.ufs_names.proofs.FileLemmas.{FilesGo, files_same}
use Rattle.ufs_names.proofs.FitsLemmas.{room_told}
use Rattle.ufs_names.proofs.GatheredLemmas.{dropped, goes_here, reached_here}
use Rattle.ufs_names.proofs.LinkLemmas.{is_named, unnamed_renamed}
use Rattle.ufs_names.proofs.PathChanges.{files_lose}
use Rattle.ufs_names.proofs.ServedLemmas.{served_as}

last_false : (a b c : Bool) → a ≡ true → b ≡ true → (a && (b && c)) ≡ false → c ≡ false
last_false true true c p q e = e
last_false true false c p q e = cc
last_false false b c p q e = cc

-- the file that stood at the new name has no name any more
pub renamed_unnamed : (n : NamesPart) (t : PosixTree) → IsNamesPart n t → (from to : List (List ℕ)) → IsRenamed t.paths from to → (whole_path from ≡ whole_path to → ⊥) → (f : ℕ) → file_of (map.get t.paths (whole_path to)) ≡ Some f
    → is_named (renamed t.paths (whole_path from) (whole_path to)) f ≡ false
renamed_unnamed n t part [] to is other h stood = let some = is.old_some in cc
renamed_unnamed n t part (f ∷ fs) [] is other h stood = let some = is.new_some in cc
renamed_unnamed n t part (f ∷ fs) (g ∷ gs) is other h stood =
    unnamed_renamed t.paths f fs g gs (may_rename t.paths part.tree.namespace f fs g gs is (bytes_differ (whole_path (f ∷ fs)) (whole_path (g ∷ gs)) other)) h part.once stood

module _ (n : NamesPart) (t : PosixTree) (ask : Ask) (fs : Files) (asked : IsAsked t n ask fs) (old new : List ℕ) (of : ask.op ≡ op.Rename old new) (own : own_refusal t ask.client ask.op ≡ None) where
  abbrev part : IsNamesPart n t
  part = asked.part

  allowed_own : first_of (text_refusal old) (text_refusal new) ≡ None
  allowed_own = ap (own_refusal t ask.client) (sym of) ∙ own

  pub texts : (text_refusal old ≡ None) × (text_refusal new ≡ None)
  texts = first_none (text_refusal old) (text_refusal new) allowed_own

  pub rename_refused : (r : Option Errno) → rename_refusal t.paths old new ≡ r → refusal t ask.client ask.op ≡ r
  rename_refused r e = ap (refusal t ask.client) of ∙ ap (λ (o : Option Errno). first_of o (rename_refusal t.paths old new)) allowed_own ∙ e

  -- what stands at the new name
  stands_there : map.get t.paths (whole_of new) ≡ node_at n.tree (components new)
  stands_there = met_at (node_at n.tree) t.paths part.paths new texts.1

  -- the tree with the new name
  abbrev moved : PosixTree
  moved = record t { paths = renamed t.paths (whole_of old) (whole_of new) }

  abbrev lost : Option ℕ
  lost = file_of (map.get t.paths (whole_of new))

  module _ (from to : List (List ℕ)) (e : from ≡ components old) (e' : to ≡ components new) where
    apart_whole : whole_path from ≢ whole_path to → whole_of old ≢ whole_of new
    apart_whole other h = other (ap whole_path e ∙ h ∙ sym (ap whole_path e'))

    module _ (passed : rename_refusal t.paths old new ≡ None) where
      let_be : refusal t ask.client (op.Rename old new) ≡ None
      let_be = ap (refusal t ask.client) (sym of) ∙ rename_refused None passed

      may_go : IsNameTable n.tree → whole_of old ≢ whole_of new → MayGo n.tree.dirs (components new)
      may_go table other i dir =
          let is = rename_allowed t ask.client old new part.tree let_be in
          let there : has_dir t.paths (whole_of new) ≡ true = ap is_dir (stands_there ∙ ap (option_map (node_of n.tree)) dir) in
          bare_if_no_entries n.tree t.paths part.tree.namespace table.table part.paths (components new) is.new_plain is.new_allowed i dir
          (last_false _ _ (has_entries t.paths (whole_of new)) (ap not (bytes_differ (whole_of old) (whole_of new) other)) there is.bare)

      pub rename_may : IsNameTable n.tree → whole_path from ≢ whole_path to → MayMove n.tree.dirs from to
      rename_may table other =
          subst (λ l. MayMove n.tree.dirs l to) (sym e) (subst (MayMove n.tree.dirs (components old)) (sym e')
          (rename_moves n t part ask.client old new let_be (apart_whole other) (may_go table (apart_whole other))))

      -- ---- the file that stood at the new name

      module _ (other : whole_of old ≢ whole_of new) where
        unnamed : (f : ℕ) → lost ≡ Some f → is_named moved.paths f ≡ false
        unnamed f stood = renamed_unnamed n t part (components old) (components new) (rename_allowed t ask.client old new part.tree let_be) other f stood

        -- it is one that the request touches
        reaches : (f : ℕ) → lost ≡ Some f → is_live moved.paths moved.fds f ≡ false → touched.IsPartOf (reached t ask.client (op.Rename old new)) (name.File f)
        reaches f stood dead =
            inr (subst (λ (o : Option Errno). touched.IsPartOf (cond {A = List PartName} (is_some o) [] (replaced_part t ask.client (op.Rename old new) (whole_of new))) (name.File f)) (sym let_be)
            (subst (λ (b : Bool). touched.IsPartOf (dropped_part (cond {A = PosixTree} b t (forget moved lost)) lost) (name.File f)) (sym (bytes_differ (whole_of old) (whole_of new) other))
            (subst (λ (o : Option ℕ). touched.IsPartOf (dropped_part (forget moved o) o) (name.File f)) (sym stood) (dropped moved f dead))))

        here_lost : GoesHere n fs lost
        here_lost = goes_here n t part fs moved.paths lost unnamed
            (λ f stood dead. reached_here t ask fs asked.gathered own (op.Rename old new) of f (reaches f stood dead) (stood_has t part.tree (whole_of new) f stood))

        files_moved : (now : NamesPart) (fs' : Files) → LosesName n now fs fs' lost → FilesGo t (change t ask.client (op.Rename old new)) fs fs'
        files_moved now fs' loses =
            subst (λ (b : Bool). FilesGo t (cond {A = PosixTree} b t (forget moved lost)) fs fs') (sym (bytes_differ (whole_of old) (whole_of new) other))
            (files_lose n t part fs fs' asked.files now moved refl refl lost unnamed here_lost loses)

      pub rename_here : whole_path from ≢ whole_path to → GoesHere n fs (file_of (node_at n.tree to))
      rename_here other =
          subst (λ l. GoesHere n fs (file_of (node_at n.tree l))) (sym e') (subst (λ o. GoesHere n fs (file_of o)) stands_there (here_lost (apart_whole other)))

      -- a new name that gets no room
      pub rename_fits : IsNameTable n.tree → (dir : ℕ) → found_at n.tree.dirs (names_above to) ≡ Some (Dir dir) → found_at n.tree.dirs to ≡ None → IsListed (dir_at n.tree.dirs dir) → (pool : BlockSet) (x : Excuse)
          → LacksRoom n.tree.dirs pool (names_above to) x → ExcuseFits t ask.client ask.op x
      rename_fits table dir at absent listed pool x lacks = subst (λ (r : Op). ExcuseFits t ask.client r x) (sym of) (record {
        due = λ other. let_be;
        told = room_told n t part table (names_above to) (names_above_are to (subst AreNames (sym e') (names_of new texts.1))) dir at ask.client (op.Rename old new)
            (ap is_none (stands_there ∙ ap (λ l. node_at n.tree l) (sym e') ∙ ap (option_map (node_of n.tree)) absent))
            (ap (λ l. whole_path (names_above l)) (sym e'))
            pool x listed (lacks dir at);
      })

      module _ (keeps : KeepsTrees) (now : NamesPart) (fs' : Files) where
        served_with : IsNamesPart now (change t ask.client (op.Rename old new)) → FilesGo t (change t ask.client (op.Rename old new)) fs fs' → IsServed t ask now fs fs' Done None
        served_with goes files =
            subst (λ (r : Reply). IsServed t ask now fs fs' r None) (ap (answer t ask.client) of) (served_as t ask now fs fs' (op.Rename old new) None of let_be goes files refl)

        -- a name onto itself
        served_same : whole_of old ≡ whole_of new → now ≡ n → fs' ≡ fs → IsServed t ask now fs fs' Done None
        served_same h same hands =
            served_with
            (subst (λ (n' : NamesPart). IsNamesPart n' (change t ask.client (op.Rename old new))) (sym same) (part_same_name n t ask.client part old new h))
            (subst (λ (b : Bool). FilesGo t (cond {A = PosixTree} b t (forget moved lost)) fs fs') (sym (bytes_same (whole_of old) (whole_of new) h))
            (files_same t t part.tree fs fs' asked.files hands (λ f. refl)))

        served_moved : whole_of old ≢ whole_of new → MovesNodes (node_at n.tree) (node_at now.tree) (components old) (components new) → LosesName n now fs fs' (file_of (node_at n.tree (components new)))
            → IsServed t ask now fs fs' Done None
        served_moved other moves loses =
            served_with
            (part_rename keeps n t ask.client part now fs fs' old new let_be other moves loses)
            (files_moved other now fs' (subst (λ o. LosesName n now fs fs' (file_of o)) (sym stands_there) loses))

        pub served_rename : (whole_path from ≡ whole_path to → now ≡ n) → (whole_path from ≡ whole_path to → fs' ≡ fs) → (whole_path from ≢ whole_path to → MovesNodes (node_at n.tree) (node_at now.tree) from to)
            → (whole_path from ≢ whole_path to → LosesName n now fs fs' (file_of (node_at n.tree to))) → IsServed t ask now fs fs' Done None
        served_rename same hands moves loses = by (one_or_apart path_total path_same (whole_path from) (whole_path to))
          where
            by : (whole_path from ≡ whole_path to) ⊎ (whole_path from ≡ whole_path to → ⊥) → IsServed t ask now fs fs' Done None
            by (inl h) = served_same (sym (ap whole_path e) ∙ h ∙ ap whole_path e') (same h) (hands h)
            by (inr other) =
                served_moved (apart_whole other)
                (subst (MovesNodes (node_at n.tree) (node_at now.tree) (components old)) e' (subst (λ l. MovesNodes (node_at n.tree) (node_at now.tree) l to) e (moves other)))
                (subst (λ l. LosesName n now fs fs' (file_of (node_at n.tree l))) e' (loses other))
