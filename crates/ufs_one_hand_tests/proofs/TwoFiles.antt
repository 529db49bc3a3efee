-- The answers of a client that opens the first of two files and reads it.
use Rattle.std.proofs.Common.{◌≡◌, ℕ, ◌≤◌, true, false, List, [], ◌∷◌, length, Some, None, eqb, is_some, sym, refl, ap, ◌∙◌, subst, inl, inr, arith}
use native.Mathlib.Decide.{ℕ_discrete}
use Rattle.std.specs.Cmp.{nat_cmp_total}
use Rattle.std.specs.FinMap as fin
use Rattle.std.specs.FinMap.{gets, nat_cmp-IsAntisymmetric}
use Rattle.std.specs.Ordering.{nat_cmp}
use Rattle.ufs_model.specs.Descriptors.{lowest_free}
use Rattle.ufs_model.specs.History.{goes_on}
use Rattle.ufs_model.specs.Order.{fd_cmp, path_cmp}
use Rattle.ufs_model.specs.Posix.{posix}
use Rattle.ufs_model.specs.PosixTree.{PosixTree, desc_at, root}
use Rattle.ufs_model.specs.Start.{start_from, start_of}
use Rattle.ufs_model.specs.Touched.{IsPartOf, touched_parts}
use Rattle.ufs_model.specs.declared.data.Desc.{Desc}
use Rattle.ufs_model.specs.declared.data.Node.TheVariants.{Dir, File}
use Rattle.ufs_model.specs.declared.data.PartName.{PartName}
use Rattle.ufs_model.specs.declared.data.PartName.TheVariants as part
use Rattle.ufs_model.specs.declared.data.PathNode.TheVariants as path_node
use Rattle.ufs_model.specs.declared.data.Reply.{Reply}
use Rattle.ufs_model.specs.declared.data.Reply.TheVariants.{Fd, Got}
use Rattle.ufs_model.proofs.Facts.Lookups.{inserted_else, inserted_here}
use Rattle.ufs_model.proofs.Facts.Orders.{fd_same, fd_total, path_same, path_total}
use Rattle.ufs_model.proofs.Facts.Rising.{entries-rising}
use Rattle.ufs_model.proofs.Facts.Starts.{path_tree_of}
use Rattle.ufs_one_hand.specs.Drawn.{HasCauses, IsAnswer, IsReplyAlike}
use Rattle.ufs_one_hand.specs.OneHand.{HasSession, IsStart}
use Rattle.ufs_hand_laws.specs.Draws.{entry_of}
use Rattle.ufs_hand_laws.specs.Owned.{count}
use Rattle.ufs_hand_laws.specs.Parts.{OwnFds, Start, View}
use Rattle.ufs_hand_laws.specs.Visible.{IsDiskVisible}
use Rattle.ufs_one_hand_tests.specs.TwoFiles.{file_nodes, file_path, opens, other_path, reads, two_files}

-- ---- the trees

abbrev desc : Desc
desc = record { file = Some 0; at = 0; read = true; write = false; append = false }

abbrev tree : PosixTree
tree = record { paths = fin.from_entries ((root, Dir) ∷ (file_path, File 0) ∷ (other_path, File 1) ∷ []); bytes = fin.from_entries ((0, 97 ∷ []) ∷ (1, 98 ∷ []) ∷ []); fds = fin.empty; next = 2 }

abbrev made : PosixTree
made = record tree { fds = fin.insert fin.empty (0, 3) desc }

start_is : start_of file_nodes ≡ tree
start_is = ap start_from (entries-rising path_cmp path_total path_same ((root, path_node.Dir) ∷ (file_path, path_node.File (97 ∷ [])) ∷ (other_path, path_node.File (98 ∷ [])) ∷ []) refl)

opened_is : posix tree 0 opens.op ≡ (made, Fd 3)
unfolding lowest_free
opened_is = simp gets

read_is : posix made 0 reads.op ≡ (made, Got (97 ∷ []))
read_is = simp (gets, fd_total)

-- the `open` touches no file, and the read the first alone
open_touches : touched_parts tree 0 opens.op ≡ part.Client 0 ∷ part.Names ∷ []
unfolding lowest_free
open_touches = simp gets

read_touches : touched_parts made 0 reads.op ≡ part.Client 0 ∷ part.File 0 ∷ []
read_touches = simp (gets, fd_total)

-- both files are there
first_there : is_some (fin.get tree.bytes 0) ≡ true
first_there = simp gets

other_there : is_some (fin.get tree.bytes 1) ≡ true
other_there = simp gets

pub starts : IsStart two_files
starts = record {
  nodes = file_nodes;
  cells = [];
  is_visible = false;
  paths = path_tree_of ((root, path_node.Dir) ∷ (file_path, path_node.File (97 ∷ [])) ∷ (other_path, path_node.File (98 ∷ [])) ∷ []) refl
      ((record { spelled = refl; allowed = refl }, refl), ((record { spelled = refl; allowed = refl }, refl), ((record { spelled = refl; allowed = refl }, refl), tt)));
  few = let e = ap (λ (t : PosixTree). t.next) start_is in omega (arith, e);
  is = refl;
}

-- ---- the client's descriptors behind the `open`

abbrev pub left : OwnFds
left = fin.insert fin.empty 3 desc

others_are : (fd : ℕ) → (fd ≡ 3 → ⊥) → desc_at made 0 fd ≡ None
others_are fd apart = inserted_else fd_total fd_same fin.empty (0, 3) desc (0, fd) (λ e. apart (ap (λ (p : ℕ × ℕ). p.1) e)) ∙ fin.get-empty fd_cmp (0, fd)

left_is : (fd : ℕ) → fin.get left fd ≡ desc_at made 0 fd
left_is fd = by (ℕ_discrete fd 3)
  where
    by : Dec (fd ≡ 3) → fin.get left fd ≡ desc_at made 0 fd
    by (yes e) = ap (fin.get left) e ∙ inserted_here nat_cmp_total nat_cmp-IsAntisymmetric fin.empty 3 desc ∙ sym (ap (λ n. desc_at made 0 n) e ∙ inserted_here fd_total fd_same fin.empty (0, 3) desc)
    by (no n) = inserted_else nat_cmp_total nat_cmp-IsAntisymmetric fin.empty 3 desc fd n ∙ fin.get-empty nat_cmp fd ∙ sym (others_are fd n)

-- ---- the answers

fd_causes : (n : ℕ) (v : View) → HasCauses (Fd n) v
fd_causes n v = record { device = λ n e. absurd cc; stopped = λ n e. absurd cc; short = λ need had e. absurd cc }

read_causes : (bytes : List ℕ) (v : View) → HasCauses (Got bytes) v
read_causes bytes v = record { device = λ n e. absurd cc; stopped = λ n e. absurd cc; short = λ need had e. absurd cc }

module _ (k : Start) (is : k ≡ two_files) where
  tree_is : k.tree ≡ tree
  tree_is = ap (λ (z : Start). z.tree) is ∙ start_is

  open_at : posix k.tree 0 opens.op ≡ (made, Fd 3)
  open_at = ap (λ (t : PosixTree). posix t 0 opens.op) tree_is ∙ opened_is

  made_at : goes_on k.tree (entry_of 0 opens) ≡ made
  made_at = ap (λ (p : PosixTree × Reply). p.0) open_at

  read_at : posix (goes_on k.tree (entry_of 0 opens)) 0 reads.op ≡ (made, Got (97 ∷ []))
  read_at = ap (λ (t : PosixTree). posix t 0 reads.op) made_at ∙ read_is

  open_reach : touched_parts k.tree 0 opens.op ≡ part.Client 0 ∷ part.Names ∷ []
  open_reach = ap (λ (t : PosixTree). touched_parts t 0 opens.op) tree_is ∙ open_touches

  read_reach : touched_parts (goes_on k.tree (entry_of 0 opens)) 0 reads.op ≡ part.Client 0 ∷ part.File 0 ∷ []
  read_reach = ap (λ (t : PosixTree). touched_parts t 0 reads.op) made_at ∙ read_touches

  pub other_stands : is_some (fin.get k.tree.bytes 1) ≡ true
  other_stands = ap (λ (t : PosixTree). is_some (fin.get t.bytes 1)) tree_is ∙ other_there

  pub first_stands : is_some (fin.get (goes_on k.tree (entry_of 0 opens)).bytes 0) ≡ true
  first_stands = ap (λ (t : PosixTree). is_some (fin.get t.bytes 0)) made_at ∙ first_there

  pub opens_answers : (v : View) → HasSession k [] (Some (0, opens.op)) v → IsAnswer k [] k.tree opens left v
  opens_answers v h = record {
    tree_is = refl;
    session = h;
    low = omega arith;
    seq = refl;
    replied = inl (sym (ap (λ (p : PosixTree × Reply). p.1) open_at));
    fds = λ fd. left_is fd ∙ sym (ap (λ (t : PosixTree). desc_at t 0 fd) made_at);
    others = λ fd apart. ap (λ (t : PosixTree). desc_at t 0 fd) made_at ∙ others_are fd (λ e. apart (ap Some (sym e))) ∙ sym (ap (λ (t : PosixTree). desc_at t 0 fd) tree_is ∙ fin.get-empty fd_cmp (0, fd));
    known = λ done asks. absurd cc;
    touched = λ other f x there. absurd (none f (subst (λ (ps : List PartName). IsPartOf ps (part.File f)) open_reach x));
    causes = fd_causes 3 v;
  }
    where
      none : (f : ℕ) → IsPartOf (part.Client 0 ∷ part.Names ∷ []) (part.File f) → ⊥
      none f (inl e) = cc
      none f (inr (inl e)) = cc
      none f (inr (inr x)) = x

  pub reads_answers : (first : ℕ) (v : View) → HasSession k (entry_of first opens ∷ []) (Some (0, reads.op)) v → 1 ≤ count eqb 0 v.files → IsAnswer k (entry_of first opens ∷ []) (goes_on k.tree (entry_of 0 opens)) reads left v
  reads_answers first' v h has = record {
    tree_is = refl;
    session = h;
    low = omega arith;
    seq = refl;
    replied = inl (sym (ap (λ (p : PosixTree × Reply). p.1) read_at));
    fds = λ fd. left_is fd ∙ sym (ap (λ (p : PosixTree × Reply). desc_at p.0 0 fd) read_at);
    others = λ fd apart. ap (λ (p : PosixTree × Reply). desc_at p.0 0 fd) read_at ∙ sym (ap (λ (t : PosixTree). desc_at t 0 fd) made_at);
    known = λ done asks. absurd cc;
    touched = λ other f x there. subst (λ n. 1 ≤ count eqb n v.files) (sym (first f (subst (λ (ps : List PartName). IsPartOf ps (part.File f)) read_reach x))) has;
    causes = read_causes (97 ∷ []) v;
  }
    where
      first : (f : ℕ) → IsPartOf (part.Client 0 ∷ part.File 0 ∷ []) (part.File f) → f ≡ 0
      first f (inl e) = cc
      first f (inr (inl e)) = cc
      first f (inr (inr x)) = absurd x

  -- any other byte may be the code's
  pub other_byte : (bytes : List ℕ) → length bytes ≡ 1 → IsReplyAlike k (Got (97 ∷ [])) (Got bytes)
  other_byte bytes one = record { alike = inr (sym one); seen = λ visible. absurd (unseen visible) }
    where
      unseen : IsDiskVisible k → ⊥
      unseen seen = let no : false ≡ true = sym (ap (λ (z : Start). z.is_visible) is) ∙ seen.visible in cc
