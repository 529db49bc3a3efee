-- The replies to requests on one path that aren't refused.
use Rattle.std.proofs.Common.{◌≡◌, ℕ, List, [], length, unwrap_or, Option, Some, None, ap, refl, sym, ◌∙◌}
use Rattle.std.specs.Option.{option_map}
use Rattle.ufs_model.specs.FileBytes.{bytes_of}
use Rattle.ufs_model.specs.Paths.{whole_path, whole_of}
use Rattle.ufs_model.specs.PosixTree.{PosixTree}
use Rattle.ufs_model.specs.Posix.{answer, stat_reply}
use Rattle.ufs_model.specs.Directories.{entry_count, entry_names}
use Rattle.ufs_model.specs.Walk as walk
use Rattle.ufs_model.specs.Walk.{walk_refusal}
use Rattle.ufs_model.specs.Paths.{text_refusal}
use Rattle.ufs_model.specs.Refusals.{list_refusal}
use Rattle.ufs_model.specs.declared.data.Ask.{Ask}
use Rattle.ufs_model.specs.declared.data.Op.TheVariants as op
use Rattle.ufs_model.specs.declared.data.Reply.{Reply}
use Rattle.ufs_model.specs.declared.data.Reply.TheVariants as reply
use Rattle.ufs_model.proofs.Facts.Allowed.{first_none}
use Rattle.ufs_name_tree.specs.NameTable.{node_of}
use Rattle.ufs_files.specs.Files.{Files}
use Rattle.ufs_names.specs.NamesPart.{NamesPart}
use Rattle.ufs_names.specs.PathCalls.{IsAllowed, IsStat, IsList}
use Rattle.ufs_dir_tree.specs.declared.found.Found.{Found}
use Rattle.ufs_dir_tree.specs.declared.found.Found.TheVariants.{Dir, File}
use Rattle.ufs_names.proofs.EntryLemmas.{entry_names_are, names_are_entries, count_is_entries}
use Rattle.ufs_names.proofs.PathConditions.{file_found, hand_found, are_names, let_be, named, stands_found}

module _ (n : NamesPart) (fs : Files) (t : PosixTree) (ask : Ask) (names : List (List ℕ)) where
  -- the number of a directory's entries, or of a file's bytes
  pub stat_replied : (found : Option Found) → IsAllowed t ask n fs names found → (p : List ℕ) → ask.op ≡ op.Stat p → (r : Reply) → IsStat n fs found r → r ≡ answer t ask.client ask.op
  stat_replied found is p of r told = by found is told ∙ sym (ap (stat_reply t (whole_of p)) (stands_found n fs t ask names found is (op.Stat p) of p refl)) ∙ sym (ap (answer t ask.client) of)
    where
      by : (found : Option Found) → IsAllowed t ask n fs names found → IsStat n fs found r → r ≡ stat_reply t (whole_of p) (option_map (node_of n.tree) found)
      by None is told = told
      by (Some (Dir i)) is told =
          let are = are_names n fs t ask names (Some (Dir i)) is in
          let entries = entry_names_are n.tree t.paths is.all.part.tree.namespace is.table.table is.all.part.paths names are.plain are.allowed i (sym is.met) in
          told (entry_names t.paths (whole_path names)) entries
          ∙ ap reply.IsDir (count_is_entries n.tree t.paths is.all.part.tree.namespace is.table.table is.all.part.paths names are.plain are.allowed i (sym is.met) _ entries)
          ∙ ap (λ l. reply.IsDir (entry_count t.paths (whole_path l))) (sym (named n fs t ask names (Some (Dir i)) is (op.Stat p) of p refl))
      by (Some (File i)) is told =
          let file = file_found n fs t ask names (Some (File i)) is i refl in
          let hand = hand_found n fs t ask names (Some (File i)) is i refl p of file.0 file.1 in
          let sized = is.all.files file.0 hand.0 hand.1 in
          told file.0 hand.0 file.1 hand.1
          ∙ ap reply.IsFile (sym sized.size) ∙ ap (λ (o : Option (List ℕ)). reply.IsFile (length (unwrap_or o []))) (sym sized.here)
          ∙ ap (λ o. reply.IsFile (length (bytes_of t.bytes (unwrap_or o 0)))) (sym file.1)

  -- the names of a directory's entries
  pub list_replied : (found : Option Found) → IsAllowed t ask n fs names found → (i : ℕ) → found ≡ Some (Dir i) → (p : List ℕ) → ask.op ≡ op.List p → (r : Reply) → IsList n found r → r ≡ answer t ask.client ask.op
  list_replied None is i at p of r told = cc
  list_replied (Some (File f)) is i at p of r told = cc
  list_replied (Some (Dir j)) is i at p of r told =
      let are = are_names n fs t ask names (Some (Dir j)) is in
      told.1.1 ∙ ap reply.Names (names_are_entries n.tree t.paths is.all.part.tree.namespace is.table.table is.all.part.paths names are.plain are.allowed j (sym is.met) told.0 told.1.0)
      ∙ ap (λ l. reply.Names (entry_names t.paths (whole_path l))) (sym (named n fs t ask names (Some (Dir j)) is (op.List p) of p refl)) ∙ sym (ap (answer t ask.client) of)

  -- a `list` is of a directory
  pub list_of_dir : (found : Option Found) → IsAllowed t ask n fs names found → (p : List ℕ) → ask.op ≡ op.List p → (i : ℕ) × (found ≡ Some (Dir i))
  list_of_dir found is p of = by found (ap list_refusal (sym (stands_found n fs t ask names found is (op.List p) of p refl)) ∙ at_end)
    where
      at_end : list_refusal (walk.node_at t.paths p) ≡ None
      at_end =
          let own = first_none (text_refusal p) _ (let_be n fs t ask names found is (op.List p) of) in
          (first_none (walk_refusal t.paths p) _ own.1).1

      by : (found : Option Found) → list_refusal (option_map (node_of n.tree) found) ≡ None → (i : ℕ) × (found ≡ Some (Dir i))
      by None e = cc
      by (Some (Dir i)) e = (i, refl)
      by (Some (File f)) e = cc
