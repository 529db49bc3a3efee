-- A turn of the store that ends keeps the sound state, also where others drew entries meanwhile.
use Rattle.std.proofs.Common.{◌≡◌, ℕ, ◌+◌, ◌*◌, ◌-◌, min, ◌≤◌, ◌⊎◌, inl, inr, ⊎_elim, Bool, true, false, cond, ◌||◌, eqb, leb, le-leb, List, [], ◌∷◌, ◌++◌, length, set, take, Option, Some, None, sym, refl, ap, ◌∙◌, subst, arith}
use mathlib.Core.Option.{some}
use native.Mathlib.Decide.{dec_le}
use lib.ListN.{get_elem?}
use Rattle.std.specs.FinSet as setof
use Rattle.ufs_bytes_laws.proofs.BlockLemmas.{length-own}
use Rattle.ufs_bytes_laws.proofs.TreeLemmas.{either_way, through, trees}
use Rattle.ufs_bitmap.specs.Blocks.{BlockSet}
use Rattle.ufs_files.specs.Files.{AreNumbered}
use Rattle.ufs_model.specs.FileBytes.{bytes_of}
use Rattle.ufs_model.specs.History.{tree_after}
use Rattle.ufs_model.specs.PosixTree.{PosixTree}
use Rattle.ufs_model.specs.declared.data.Entry.{Entry}
use Rattle.ufs_promise_laws.specs.FileRequests.{with_free}
use Rattle.ufs_promise_laws.proofs.Sound.{sound_by_free_blocks}
use Rattle.ufs_crash_laws.specs.Changes.{changes_of, name_changes}
use Rattle.ufs_hand_laws.specs.Marks.{value_after}
use Rattle.ufs_hand_laws.specs.Owned.{Has, count, find, replaced}
use Rattle.ufs_hand_laws.specs.Parts.{Cells, Stretch, only_one}
use Rattle.ufs_hand_laws.proofs.Exchange.{value_case}
use Rattle.ufs_hand_laws.proofs.Keys.{alike, itself}
use Rattle.ufs_hand_laws.proofs.Owning.{all_set, append_has, count_has, has_append, has_find, replaced_back, same_holds}
use Rattle.ufs_store.specs.State.{geometry_of_store}
use Rattle.ufs_promise_laws.specs.Laws.{MovesBlocks}
use Rattle.ufs_promise_laws.specs.Parts.{Parts, ThePool, Unassigned}
use Rattle.ufs_promise_laws.specs.Sound.{IsSoundServer}
use Rattle.ufs_promise_laws.proofs.Whole.{tree_may}
use Rattle.ufs_joint.specs.Cells.{FileCell, NamesCell, Start, StoreCell, View, Word, World, store_of}
use Rattle.ufs_promise_laws.specs.Known.{IsDiskKept}
use Rattle.ufs_joint.specs.Laws.{TurnEndKeeps}
use Rattle.ufs_joint.specs.Picks.{HasPicked, IsAbsent, IsUnpicked, Pick, bytes_at}
use Rattle.ufs_joint.specs.Sound.{AreChangesTold, AreJoined, ArePastExplained, IsDiskSound, IsExplainedState, IsHeld, IsKeptSince, IsSound, LeadsTo, MayHaveBegun}
use Rattle.ufs_joint.specs.Turns.{AreFaultsTold, EndsOnDisk, IsTurnAround, MayEndTurn, Turn, ended_at, known_by, named_by, names_known_by, turn_ended, went}
use Rattle.ufs_joint.specs.Whole.{AreFreeIn, ArePartsIn, ArePoolsApart, hand_of, HasCells, HasFileCell, HasNamesCell, IsFreeIn, KnowsCells, birth_known, birth_known_by, changes_known, file_changes_at, known_in, name_changes_at, no_blocks}
use Rattle.ufs_joint.proofs.Blocks.{difference_in, has_or, in_difference, in_union, none_in, not_in, or_cases, or_left, or_right, put_back, union_left, union_right}
use Rattle.ufs_joint.proofs.NoneLost.{joined, parted}
use Rattle.ufs_joint.specs.NoneLost.{HandHas, IsHad}
use Rattle.ufs_joint.proofs.Exchange.{kind_exchanged, names_are, nothing_counted, one_exchanged, one_single, single_of, store_is}
use Rattle.ufs_joint.proofs.FaultsTold.{faults_told}
use Rattle.ufs_joint.proofs.Kept.{kept_numbered}
use Rattle.ufs_joint.proofs.Forgetting.{less_is_kept}
use Rattle.ufs_joint.proofs.Pools.{pools_stay}
use Rattle.ufs_joint.proofs.Parting.{cells_there, commits_after, file_after, file_else, file_here, names_after, other_pool, same_cells, same_file_cell, same_names_cell}
use Rattle.ufs_joint.proofs.Picking.{FitsIn, IsPicked, picked_same, picked_tree, with_picks}
use Rattle.ufs_joint.proofs.Takes.{fewer_changes, fewer_name_changes, length_take, take_take}

-- all blocks that aren't the store's go into one pool
pub lends_all : (free unassigned : BlockSet) → ((b : ℕ) → setof.contains unassigned b ≡ true → setof.contains free b ≡ true) → MovesBlocks no_blocks free (setof.difference free unassigned) unassigned
lends_all free unassigned inside = record { pool = λ b is. inr (in_difference free unassigned b is).0; store = λ b is. inr (inside b is); apart = λ b is. (in_difference free unassigned b is).1 }

module _ (k : Start) (word : Word) (views : List View) (i : ℕ) (v : View) (t : Turn) (o : IsSound k word views) (at : get_elem? views i ≡ some v) (m : MayEndTurn k.geometry k.is_visible v t) where
  abbrev n : ℕ
  n = word.tickets

  abbrev G : World
  G = o.world

  abbrev h : List Entry
  h = o.history

  abbrev w : View
  w = turn_ended n t v

  abbrev next_world : World
  next_world = record {
    client = G.client;
    asked = G.asked;
    file = replaced eqb v.files t.files G.file;
    pool = G.pool;
    names = value_after t.names G.names;
    store = ended_at n t;
  }

  abbrev old : BlockSet
  old = m.was.unassigned.free

  abbrev new : BlockSet
  new = t.store.unassigned.free

  was_there : G.store ≡ m.was
  was_there = store_is views i v v at G o.one_hand tt m.was (subst (Has (tt, m.was)) (sym m.has_store) (inl refl))

  -- ---- who has which cell

  single_files : (file : ℕ) → count eqb file t.files ≤ 1
  single_files file = single_of views i v w at (λ (u : View). u.files) G.file o.one_hand.files m.same_files file

  names_single : count only_one tt t.names ≤ 1
  names_single = one_single views i v w at (λ (u : View). u.names) G.names o.one_hand.names m.same_names

  store_count : (u : Unit {0}) → count only_one u w.store ≡ count only_one u v.store
  store_count u = ap (count only_one u) (sym m.has_store)

  held_after : IsHeld (set views i w) next_world
  held_after = record {
    clients = same_holds eqb (λ (u : View). u.clients) G.client views i v w at refl o.one_hand.clients;
    asked = same_holds eqb (λ (u : View). u.asked) G.asked views i v w at refl o.one_hand.asked;
    files = kind_exchanged views i v w at (λ (u : View). u.files) G.file o.one_hand.files m.same_files;
    pools = same_holds eqb (λ (u : View). u.pools) G.pool views i v w at refl o.one_hand.pools;
    names = one_exchanged views i v w at (λ (u : View). u.names) G.names o.one_hand.names m.same_names;
    store = one_exchanged views i v w at (λ (u : View). u.store) G.store o.one_hand.store store_count;
  }

  file_case : (file : ℕ) (c : FileCell) → next_world.file file ≡ Some c → Has (file, c) t.files ⊎ ((count eqb file v.files ≡ 0) × (count eqb file t.files ≡ 0) × (G.file file ≡ Some c))
  file_case file c is = replaced_back eqb itself alike v.files t.files G.file single_files file c is

  names_case : ((t.names ≡ []) × (next_world.names ≡ G.names)) ⊎ ((c : NamesCell) × Has (tt, c) t.names × (next_world.names ≡ c))
  names_case = ⊎_elim
      (λ (x : (count only_one tt t.names ≡ 0) × (next_world.names ≡ G.names)). inl (nothing_counted t.names x.0, x.1))
      (λ x. inr x)
      (value_case t.names G.names names_single)

  -- ---- whole parts, for whichever history

  module _ (parts : Parts) (free : BlockSet) (none : parts.pool ≡ no_blocks) (cells : HasCells v parts) (inside : (b : ℕ) → setof.contains old b ≡ true → setof.contains free b ≡ true) (server : IsSoundServer k.geometry free parts) (numbered : AreNumbered parts.files) where
    abbrev pub lent : Parts
    lent = record parts { pool = setof.difference free old }

    moves_out : MovesBlocks parts.pool free (setof.difference free old) old
    moves_out = subst (λ (q : BlockSet). MovesBlocks q free (setof.difference free old) old) (sym none) (lends_all free old inside)

    pub lent_cells : HasCells v lent
    lent_cells = same_cells v parts (setof.difference free old) cells

    pub lent_server : IsSoundServer k.geometry old lent
    lent_server = sound_by_free_blocks k.geometry free parts (setof.difference free old) old moves_out server

    abbrev pub left : Parts
    left = record (m.next lent) { pool = no_blocks }

    abbrev pub freed : BlockSet
    freed = setof.union new (setof.difference free old)

    moves_back : MovesBlocks (m.next lent).pool new no_blocks freed
    moves_back = subst (λ (q : BlockSet). MovesBlocks q new no_blocks freed) (sym (m.pool lent lent_cells)) (put_back (setof.difference free old) new)

    pub left_server : IsSoundServer k.geometry freed left
    left_server = sound_by_free_blocks k.geometry new (m.next lent) no_blocks freed moves_back (m.server lent lent_cells numbered lent_server)

    -- a block of another pool is none of the store's
    pub off_store : (b : ℕ) → setof.contains (setof.difference free old) b ≡ true → setof.contains new b ≡ true → ⊥
    off_store b pooled is = (let clash = (m.server lent lent_cells numbered lent_server).apart ThePool Unassigned b (subst (λ (q : BlockSet). setof.contains q b ≡ true) (sym (m.pool lent lent_cells)) pooled) is in absurd cc)

    file_left : (file : ℕ) (c : FileCell) → Has (file, c) t.files ⊎ ((count eqb file v.files ≡ 0) × (count eqb file t.files ≡ 0) × HasFileCell parts file c) → HasFileCell left file c
    file_left file c (inl has) = same_file_cell (m.next lent) no_blocks file c (file_here v.files t.files t.names lent (m.next lent) (m.goes lent lent_cells) file c single_files has)
    file_left file c (inr x) = same_file_cell (m.next lent) no_blocks file c (file_else v.files t.files t.names lent (m.next lent) (m.goes lent lent_cells) file c x.0 x.1 (same_file_cell parts (setof.difference free old) file c x.2))

    names_left : (t.names ≡ []) × HasNamesCell parts next_world.names ⊎ ((c : NamesCell) × Has (tt, c) t.names × (next_world.names ≡ c)) → HasNamesCell left next_world.names
    names_left (inl x) =
        let goes = m.goes lent lent_cells in
        let stay = goes.names_stay x.0 in
        record { names = stay.0 ∙ x.1.names; fresh = stay.1 ∙ x.1.fresh; dropped = stay.2 ∙ x.1.dropped }
    names_left (inr x) = subst (HasNamesCell left) (sym x.2) (same_names_cell (m.next lent) no_blocks x.0 ((m.goes lent lent_cells).names_by tt x.0 x.1))

    -- ---- on the disk, for a history that is as long as when the turn began

    module _ (visible : k.is_visible ≡ true) (g : List Entry) (since : m.was.stamp ≤ length g) (kept : IsDiskKept (with_free free (store_of G.store)) k.tree g parts (known_in k.tree g G))
        (files_told : (file : ℕ) (c : FileCell) → Has (file, c) v.files → length (changes_of file k.tree g) ≤ file_changes_at k.tree g file c.changed) (names_told : (u : Unit {0}) (c : NamesCell) → Has (u, c) v.names → length (name_changes k.tree g) ≤ name_changes_at k.tree g c.changed) where
      knows : KnowsCells k.tree g v (known_in k.tree g G)
      knows = record {
        files = λ file c has. let is = ap (changes_known k.tree g file) (o.one_hand.files.agree i v at file c has) in omega (arith, is);
        born = λ file c has born. ap (birth_known_by k.tree g G.names.named file) (o.one_hand.files.agree i v at file c has) ∙ or_left c.born (setof.contains G.names.named file) born;
        named = λ file u x also is. or_right (birth_known k.tree g (G.file file)) (setof.contains G.names.named file) (ap (λ (y : NamesCell). setof.contains y.named file) (names_are views i v v at G o.one_hand u x also) ∙ is);
        names = λ u c has. let is = ap (λ (x : NamesCell). name_changes_at k.tree g x.known) (names_are views i v v at G o.one_hand u c has) in omega (arith, is);
        files_told = files_told;
        names_told = names_told;
      }

      lent_kept : IsDiskKept (store_of m.was) k.tree g lent (known_in k.tree g G)
      lent_kept = pools_stay (with_free free (store_of m.was)) k.tree g parts (known_in k.tree g G) (setof.difference free old) old moves_out
          (subst (λ (s : StoreCell). IsDiskKept (with_free free (store_of s)) k.tree g parts (known_in k.tree g G)) was_there kept)

      pub turn_around : IsTurnAround k.geometry v m.was k.tree g lent (known_in k.tree g G)
      turn_around = record { cells = lent_cells; numbered = numbered; server = lent_server; since = since; knows = knows; kept = lent_kept }

      pub ends : EndsOnDisk m.was t m.next k.tree g lent (known_in k.tree g G)
      ends = m.disk visible k.tree g lent (known_in k.tree g G) turn_around

      names_less : (cs : List (Unit {0} × NamesCell)) → name_changes_at k.tree g (value_after cs G.names).known ≤ names_known_by k.tree g t cs (name_changes_at k.tree g G.names.known)
      names_less [] = omega arith
      names_less (c ∷ cs) = omega arith

      abbrev both : ℕ → ℕ
      both file = count eqb file v.files + count eqb file t.files

      files_less : (file : ℕ) → changes_known k.tree g file (next_world.file file) ≤ cond (leb 1 (count eqb file t.files)) (changes_known k.tree g file (find eqb file t.files)) (changes_known k.tree g file (G.file file))
      files_less file = by (leb 1 (both file)) (leb 1 (count eqb file t.files)) (same_test file)
        where
          by : (a b : Bool) → a ≡ b → changes_known k.tree g file (cond a (find eqb file t.files) (G.file file)) ≤ cond b (changes_known k.tree g file (find eqb file t.files)) (changes_known k.tree g file (G.file file))
          by true true e = omega arith
          by false false e = omega arith
          by true false e = absurd cc
          by false true e = absurd cc

          same_test : (file : ℕ) → leb 1 (both file) ≡ leb 1 (count eqb file t.files)
          same_test file = test (dec_le 1 (count eqb file t.files))
            where
              zero : (x : ℕ) → x ≡ 0 → leb 1 x ≡ false
              zero x z = ap (leb 1) z

              test : Dec (1 ≤ count eqb file t.files) → leb 1 (both file) ≡ leb 1 (count eqb file t.files)
              test (yes l) = le-leb 1 (both file) (omega (arith, l)) ∙ sym (le-leb 1 (count eqb file t.files) l)
              test (no l) = zero (both file) (let s = m.same_files file in omega (arith, s, l)) ∙ sym (zero (count eqb file t.files) (omega (arith, l)))

      named_less : (cs : List (Unit {0} × NamesCell)) (file : ℕ) → setof.contains (value_after cs G.names).named file ≡ true → (named_by k.tree g t cs file ≡ true) ⊎ (setof.contains G.names.named file ≡ true)
      named_less [] file is = inr is
      named_less (c ∷ cs) file is = inl is

      -- by the names that the turn leaves, by what was known, or by the file's own cell
      abbrev birth_then : ℕ → Bool
      birth_then file = named_by k.tree g t t.names file || (birth_known_by k.tree g G.names.named file (G.file file) || birth_known k.tree g (find eqb file t.files))

      was_known : (file : ℕ) → birth_known_by k.tree g G.names.named file (G.file file) ≡ true → birth_then file ≡ true
      was_known file is = or_right (named_by k.tree g t t.names file) _ (or_left (birth_known_by k.tree g G.names.named file (G.file file)) (birth_known k.tree g (find eqb file t.files)) is)

      named_known : (file : ℕ) → setof.contains next_world.names.named file ≡ true → birth_then file ≡ true
      named_known file named = ⊎_elim
          (λ there. or_left (named_by k.tree g t t.names file) _ there)
          (λ there. was_known file (or_right (birth_known k.tree g (G.file file)) (setof.contains G.names.named file) there))
          (named_less t.names file named)

      born_less : (file : ℕ) → birth_known_by k.tree g next_world.names.named file (next_world.file file) ≡ true → birth_then file ≡ true
      born_less file = by (next_world.file file) refl
        where
          by : (c : Option FileCell) → next_world.file file ≡ c → birth_known_by k.tree g next_world.names.named file c ≡ true → birth_then file ≡ true
          by None is born = named_known file born
          by (Some c) is born = ⊎_elim
              (λ own. ⊎_elim
              (λ has. or_right (named_by k.tree g t t.names file) _ (or_right (birth_known_by k.tree g G.names.named file (G.file file)) (birth_known k.tree g (find eqb file t.files)) (ap (birth_known k.tree g) (has_find eqb itself alike file c t.files (single_files file) has) ∙ own)))
              (λ (x : (count eqb file v.files ≡ 0) × (count eqb file t.files ≡ 0) × (G.file file ≡ Some c)). was_known file (ap (birth_known_by k.tree g G.names.named file) x.2 ∙ or_left c.born (setof.contains G.names.named file) own))
              (file_case file c is))
              (λ named. named_known file named)
              (or_cases c.born (setof.contains next_world.names.named file) born)

      pub left_kept : IsDiskKept (with_free freed (store_of (ended_at n t))) k.tree g left (known_in k.tree g next_world)
      left_kept = less_is_kept (with_free freed (store_of t.store)) k.tree g left (known_in k.tree g next_world) (known_by k.tree g t (known_in k.tree g G)) (record { names = names_less t.names; files = files_less; born = born_less })
          (pools_stay (store_of t.store) k.tree g (m.next lent) (known_by k.tree g t (known_in k.tree g G)) no_blocks freed moves_back ends.kept)

  -- ---- the parts as they are

  cells_now : HasCells v o.parts
  cells_now = cells_there views i v at G o.one_hand o.parts o.parts_in

  inside_now : (b : ℕ) → setof.contains old b ≡ true → setof.contains o.free b ≡ true
  inside_now b is = o.free_in.here b (inl (ap (λ (s : StoreCell). setof.contains s.unassigned.free b) was_there ∙ is))

  numbered_now : AreNumbered o.parts.files
  numbered_now file c is = ((o.leads o.begun o.may_begin).parts.files file c is).0

  abbrev next0 : Parts
  next0 = left o.parts o.free o.parts_in.pool cells_now inside_now o.server numbered_now

  abbrev freed0 : BlockSet
  freed0 = freed o.parts o.free o.parts_in.pool cells_now inside_now o.server numbered_now

  server_after : IsSoundServer k.geometry freed0 next0
  server_after = left_server o.parts o.free o.parts_in.pool cells_now inside_now o.server numbered_now

  abbrev lent0 : Parts
  lent0 = lent o.parts o.free o.parts_in.pool cells_now inside_now o.server numbered_now

  cells0 : HasCells v lent0
  cells0 = lent_cells o.parts o.free o.parts_in.pool cells_now inside_now o.server numbered_now

  none_lost_after : (b : ℕ) → HandHas k.view b → IsHad next0 freed0 b
  none_lost_after b is =
      joined (m.next lent0) (setof.difference o.free old) new no_blocks freed0 b (m.pool lent0 cells0) (union_right new (setof.difference o.free old) b) (union_left new (setof.difference o.free old) b)
      (m.none_lost lent0 cells0 numbered_now b (parted o.parts o.free (setof.difference o.free old) old b no_pool split (o.none_lost b is)))
    where
      no_pool : setof.contains o.parts.pool b ≡ true → ⊥
      no_pool has = none_in b (subst (λ (q : BlockSet). setof.contains q b ≡ true) o.parts_in.pool has)

      split : setof.contains o.free b ≡ true → (setof.contains (setof.difference o.free old) b ≡ true) ⊎ (setof.contains old b ≡ true)
      split free = ⊎_elim (λ x. inr x) (λ x. inl (difference_in o.free old b free x)) (has_or old b)

  parts_after : ArePartsIn next_world next0
  parts_after =
      let goes = m.goes lent0 cells0 in
      record {
        files = file_after v.files t.files t.names lent0 (m.next lent0) goes G.file o.parts_in.files;
        commits = commits_after v.files t.files t.names lent0 (m.next lent0) goes G.file o.parts_in.commits;
        names = same_names_cell (m.next lent0) no_blocks next_world.names (names_after v.files t.files t.names lent0 (m.next lent0) goes G.names names_single (same_names_cell o.parts (setof.difference o.free old) G.names o.parts_in.names));
        pool = refl;
      }

  free_after : AreFreeIn next_world freed0
  free_after = record { back = λ b is. back b (in_union new (setof.difference o.free old) b is); here = here }
    where
      back : (b : ℕ) → (setof.contains new b ≡ true) ⊎ (setof.contains (setof.difference o.free old) b ≡ true) → IsFreeIn next_world b
      back b (inl is) = inl is
      back b (inr is) = let x = in_difference o.free old b is in by (o.free_in.back b x.0) x.1
        where
          by : IsFreeIn G b → setof.contains old b ≡ false → IsFreeIn next_world b
          by (inl is) not = let clash : true ≡ false = sym is ∙ ap (λ (s : StoreCell). setof.contains s.unassigned.free b) was_there ∙ not in absurd cc
          by (inr p) not = inr p

      here : (b : ℕ) → IsFreeIn next_world b → setof.contains freed0 b ≡ true
      here b (inl is) = union_left new (setof.difference o.free old) b is
      here b (inr p) = union_right new (setof.difference o.free old) b (difference_in o.free old b (o.free_in.here b (inr p)) (sym (ap (λ (s : StoreCell). setof.contains s.unassigned.free b) was_there) ∙ o.pools_apart.store p.0 p.1 b p.2 p.3))

  apart_after : ArePoolsApart next_world
  apart_after = record {
    pools = o.pools_apart.pools;
    store = λ a s b is has. not_in new b (λ there. off_store o.parts o.free o.parts_in.pool cells_now inside_now o.server numbered_now b
        (difference_in o.free old b (o.free_in.here b (inr (a, s, is, has))) (sym (ap (λ (c : StoreCell). setof.contains c.unassigned.free b) was_there) ∙ o.pools_apart.store a s b is has)) there);
  }

  -- ---- the disk

  module _ (visible : k.is_visible ≡ true) where
    abbrev d : IsDiskSound k word h G o.parts o.free
    d = o.disk visible

    same_stamp : t.store.stamp ≡ G.store.stamp
    same_stamp = m.stamp ∙ ap (λ (s : StoreCell). s.stamp) (sym was_there)

    was_stamp : m.was.stamp ≡ G.store.stamp
    was_stamp = ap (λ (s : StoreCell). s.stamp) (sym was_there)

    tickets : length h ≡ n
    tickets = o.tickets_once.tickets

    stamped : G.store.stamp ≤ n
    stamped = let a = d.past.stamped in let b = d.past.within in omega (arith, a, b)

    files_told_now : (file : ℕ) (c : FileCell) → Has (file, c) v.files → length (changes_of file k.tree h) ≤ file_changes_at k.tree h file c.changed
    files_told_now file c has = let is = ap length (d.told.files file c (o.one_hand.files.agree i v at file c has)) in omega (arith, is)

    names_told_now : (u : Unit {0}) (c : NamesCell) → Has (u, c) v.names → length (name_changes k.tree h) ≤ name_changes_at k.tree h c.changed
    names_told_now u c has = let is = ap length d.told.names in let e = ap (λ (x : NamesCell). name_changes_at k.tree h x.changed) (names_are views i v v at G o.one_hand u c has) in omega (arith, is, e)

    ends_now : EndsOnDisk m.was t m.next k.tree h lent0 (known_in k.tree h G)
    ends_now = ends o.parts o.free o.parts_in.pool cells_now inside_now o.server numbered_now visible h (let a = was_stamp in let b = stamped in let c = tickets in omega (arith, a, b, c)) d.kept files_told_now names_told_now

    kept_after : IsDiskKept (with_free freed0 (store_of (ended_at n t))) k.tree h next0 (known_in k.tree h next_world)
    kept_after = left_kept o.parts o.free o.parts_in.pool cells_now inside_now o.server numbered_now visible h (let a = was_stamp in let b = stamped in let c = tickets in omega (arith, a, b, c)) d.kept files_told_now names_told_now

    -- ---- each beginning since the stamp

    module _ (j : ℕ) (from : G.store.stamp ≤ j) (low : j ≤ n) where
      abbrev then : IsKeptSince k.geometry k.tree (take j h) G o.free
      then = d.since j from low

      cells_then : HasCells v then.parts
      cells_then = record {
        files = λ file c has. then.files file c (o.one_hand.files.agree i v at file c has) (let a = m.lent visible file c has in let b = was_stamp in omega (arith, a, b));
        names = λ u c has.
            let is = names_are views i v v at G o.one_hand u c has in
            subst (HasNamesCell then.parts) is (then.names (let a = m.lent_names visible u c has in let b = was_stamp in let e = ap (λ (x : NamesCell). x.changed) is in omega (arith, a, b, e)));
      }

      inside_then : (b : ℕ) → setof.contains old b ≡ true → setof.contains then.freed b ≡ true
      inside_then b is = then.fewer b (inside_now b is)

      numbered_then : AreNumbered then.parts.files
      numbered_then = kept_numbered (with_free then.freed (store_of G.store)) k.tree (take j h) then.parts (known_in k.tree (take j h) G) then.kept

      long_then : m.was.stamp ≤ length (take j h)
      long_then = let a = length_take h j (let c = tickets in omega (arith, c, low)) in let b = was_stamp in omega (arith, a, b, from)

      files_told_then : (file : ℕ) (c : FileCell) → Has (file, c) v.files → length (changes_of file k.tree (take j h)) ≤ file_changes_at k.tree (take j h) file c.changed
      files_told_then file c has =
          let x = fewer_changes file k.tree h j in
          let y = files_told_now file c has in
          let a = m.lent visible file c has in let b = was_stamp in
          let z = ap (λ q. length (changes_of file k.tree q)) (take_take h c.changed j (omega (arith, a, b, from))) in
          omega (arith, x, y, z)

      names_told_then : (u : Unit {0}) (c : NamesCell) → Has (u, c) v.names → length (name_changes k.tree (take j h)) ≤ name_changes_at k.tree (take j h) c.changed
      names_told_then u c has =
          let x = fewer_name_changes k.tree h j in
          let y = names_told_now u c has in
          let a = m.lent_names visible u c has in let b = was_stamp in
          let z = ap (λ q. length (name_changes k.tree q)) (take_take h c.changed j (omega (arith, a, b, from))) in
          omega (arith, x, y, z)

      passed_then : (cells : Cells) → Has cells t.passed → IsExplainedState m.was.sectors k.tree (take j h) cells
      passed_then = (ends then.parts then.freed then.pool cells_then inside_then then.sound numbered_then visible (take j h) long_then then.kept files_told_then names_told_then).passed

      since_after : IsKeptSince k.geometry k.tree (take j h) next_world freed0
      since_after = record {
        parts = left then.parts then.freed then.pool cells_then inside_then then.sound numbered_then;
        freed = freed then.parts then.freed then.pool cells_then inside_then then.sound numbered_then;
        kept = left_kept then.parts then.freed then.pool cells_then inside_then then.sound numbered_then visible (take j h) long_then then.kept files_told_then names_told_then;
        sound = left_server then.parts then.freed then.pool cells_then inside_then then.sound numbered_then;
        pool = refl;
        fewer = λ b is. ⊎_elim (λ x. union_left new (setof.difference then.freed old) b x)
            (λ x. let y = in_difference o.free old b x in union_right new (setof.difference then.freed old) b (difference_in then.freed old b (then.fewer b y.0) y.1))
            (in_union new (setof.difference o.free old) b is);
        files = λ file c is small. file_left then.parts then.freed then.pool cells_then inside_then then.sound numbered_then file c
            (⊎_elim (λ x. inl x) (λ (x : (count eqb file v.files ≡ 0) × (count eqb file t.files ≡ 0) × (G.file file ≡ Some c)). inr (x.0, x.1, then.files file c x.2 (let a = same_stamp in omega (arith, a, small)))) (file_case file c is));
        names = λ small. names_left then.parts then.freed then.pool cells_then inside_then then.sound numbered_then
            (⊎_elim (λ (x : (t.names ≡ []) × (next_world.names ≡ G.names)). inl (x.0, subst (HasNamesCell then.parts) (sym x.1) (then.names (let a = same_stamp in let e = ap (λ (c : NamesCell). c.changed) x.1 in omega (arith, a, e, small))))) (λ x. inr x) names_case);
      }

    told_after : AreChangesTold k.tree h next_world
    told_after = record {
      files = λ file c is. ⊎_elim
          (λ has. let x = m.files file c has in d.told.files file x.0 (o.one_hand.files.agree i v at file x.0 x.1) ∙ ap (λ q. changes_of file k.tree (take q h)) (sym x.2))
          (λ (x : (count eqb file v.files ≡ 0) × (count eqb file t.files ≡ 0) × (G.file file ≡ Some c)). d.told.files file c x.2)
          (file_case file c is);
      within = λ file c is. ⊎_elim
          (λ has. let x = m.files file c has in let y = (d.told.within file x.0 (o.one_hand.files.agree i v at file x.0 x.1)).0 in let a = x.2 in let b = x.3 visible in let s = m.stamp in (omega (arith, a, y), omega (arith, b, s)))
          (λ (x : (count eqb file v.files ≡ 0) × (count eqb file t.files ≡ 0) × (G.file file ≡ Some c)). let y = d.told.within file c x.2 in let a = y.0 in let b = y.1 in let s = same_stamp in (a, omega (arith, b, s)))
          (file_case file c is);
      names = ⊎_elim
          (λ (x : (t.names ≡ []) × (next_world.names ≡ G.names)). d.told.names ∙ ap (λ (c : NamesCell). name_changes k.tree (take c.changed h)) (sym x.1))
          (λ (x : (c : NamesCell) × Has (tt, c) t.names × (next_world.names ≡ c)).
          let y = m.names tt x.0 x.1 in
          d.told.names ∙ ap (λ q. name_changes k.tree (take q h)) (ap (λ (c : NamesCell). c.changed) (names_are views i v v at G o.one_hand tt y.0 y.1) ∙ sym y.2 ∙ ap (λ (c : NamesCell). c.changed) (sym x.2)))
          names_case;
      names_within = ⊎_elim
          (λ (x : (t.names ≡ []) × (next_world.names ≡ G.names)). let a = ap (λ (c : NamesCell). c.changed) x.1 in let b = ap (λ (c : NamesCell). c.known) x.1 in let y = d.told.names_within in let c = y.0 in let e = y.1 in let s = same_stamp in (omega (arith, a, c), omega (arith, b, e, s)))
          (λ (x : (c : NamesCell) × Has (tt, c) t.names × (next_world.names ≡ c)).
          let y = m.names tt x.0 x.1 in let a = ap (λ (c : NamesCell). c.changed) x.2 in let b = ap (λ (c : NamesCell). c.known) x.2 in
          let c = ap (λ (c : NamesCell). c.changed) (names_are views i v v at G o.one_hand tt y.0 y.1) in let e = y.2 in let f = y.3 visible in let g = d.told.names_within.0 in let s = m.stamp in (omega (arith, a, c, e, g), omega (arith, b, f, s)))
          names_case;
    }

    same_past : t.store.past ≡ G.store.past
    same_past = m.past ∙ ap (λ (s : StoreCell). s.past) (sym was_there)

    same_sectors : t.store.sectors ≡ G.store.sectors
    same_sectors = m.sectors ∙ ap (λ (s : StoreCell). s.sectors) (sym was_there)

    past_after : ArePastExplained k.tree word h (ended_at n t)
    past_after = record {
      upto = upto_then t.passed;
      joined = ((let a = same_stamp in let b = stamped in omega (arith, a, b)), joined_then t.passed refl);
      stamped = stamped_then t.passed;
      within = within_then t.passed;
      each = λ x has j from low cells there. each_of x has j from low cells there;
      ended = λ x has. ⊎_elim (λ (e : x ≡ went n t). let a = ap (λ (y : Stretch). y.to) e in omega (arith, a)) (λ y. d.past.ended x (subst (Has x) same_past y)) has;
    }
      where
        upto_then : List Cells → ℕ
        upto_then [] = d.past.upto
        upto_then (x ∷ xs) = n

        past_then : AreJoined t.store.past d.past.upto
        past_then = subst (λ (p : List Stretch). AreJoined p d.past.upto) (sym same_past) d.past.joined

        joined_then : (xs : List Cells) → t.passed ≡ xs → ((t.passed ≡ []) × AreJoined t.store.past (upto_then xs)) ⊎ ((1 ≤ length t.passed) × (n ≡ upto_then xs) × ((y : ℕ) × (t.store.stamp ≤ y) × (y ≤ upto_then xs) × AreJoined t.store.past y))
        joined_then [] e = inl (e, past_then)
        joined_then (x ∷ xs) e = inr ((let l = ap (length {A = Cells}) e in omega (arith, l)), refl, (d.past.upto, (let a = same_stamp in let b = d.past.stamped in omega (arith, a, b)), (let b = d.past.within in omega (arith, b)), past_then))

        stamped_then : (xs : List Cells) → t.store.stamp ≤ upto_then xs
        stamped_then [] = let a = same_stamp in let b = d.past.stamped in omega (arith, a, b)
        stamped_then (x ∷ xs) = let a = same_stamp in let b = stamped in omega (arith, a, b)

        within_then : (xs : List Cells) → upto_then xs ≤ n
        within_then [] = d.past.within
        within_then (x ∷ xs) = omega arith

        each_of : (x : Stretch) → (x ≡ went n t) ⊎ Has x t.store.past → (j : ℕ) → x.from ≤ j → j ≤ x.to → (cells : Cells) → Has cells x.states → IsExplainedState t.store.sectors k.tree (take j h) cells
        each_of x (inl e) j from low cells there =
            let a = ap (λ (y : Stretch). y.from) e in let b = ap (λ (y : Stretch). y.to) e in let c = same_stamp in
            subst (λ (q : ℕ). IsExplainedState q k.tree (take j h) cells) (sym m.sectors) (passed_then j (omega (arith, a, c, from)) (omega (arith, b, low)) cells (subst (λ (y : Stretch). Has cells y.states) e there))
        each_of x (inr has) j from low cells there = subst (λ (q : ℕ). IsExplainedState q k.tree (take j h) cells) (sym same_sectors) (d.past.each x (subst (Has x) same_past has) j from low cells there)

    disk_after : IsDiskSound k word h next_world next0 freed0
    disk_after = record { kept = kept_after; told = told_after; since = λ j from low. since_after j (let a = same_stamp in omega (arith, a, from)) low; past = past_after }

  -- ---- what was read

  abbrev more : List Pick
  more = t.picks ++ o.picks

  older : (start : PosixTree) → MayHaveBegun k more start → MayHaveBegun k o.picks start
  older start begun = record { tree = begun.tree; alike = begun.alike; picked = λ pick has. begun.picked pick (append_has pick t.picks o.picks (inr has)); seen = begun.seen }

  read_there : (pick : Pick) → Has pick t.picks → (c : FileCell) × (G.file pick.file ≡ Some c) × IsAbsent c pick.place
  read_there pick has = let x = m.read pick has in (x.cell, o.one_hand.files.agree i v at pick.file x.cell x.has, x.absent)

  -- Behind the history those blocks are as at the beginning.
  as_begun : (start : PosixTree) → MayHaveBegun k o.picks start → (pick : Pick) → Has pick t.picks → bytes_at (tree_after start h) pick.file pick.place ≡ bytes_at start pick.file pick.place
  as_begun start begun pick has = let x = read_there pick has in (o.leads start begun).away pick.file pick.place x.0 x.1 x.2

  has_read : (start : PosixTree) → MayHaveBegun k more start → HasPicked t.picks (tree_after start h)
  has_read start begun pick has = as_begun start (older start begun) pick has ∙ begun.picked pick (append_has pick t.picks o.picks (inl has))

  -- as many bytes as the tree of the beginning has
  fits : (pick : Pick) → Has pick t.picks → FitsIn o.begun pick
  fits pick has =
      let x = m.read pick has in
      let its = o.parts_in.files pick.file ∙ ap hand_of (o.one_hand.files.agree i v at pick.file x.cell x.has) in
      let may = tree_may (tree_after o.begun h) pick.file x.cell.value.file ((o.leads o.begun o.may_begin).parts.files pick.file x.cell.value.file its) in
      x.long
      ∙ (length-own x.cell.value.file.content.bytes pick.place ∙ ap (λ (n : ℕ). min 4096 (n - 4096 * pick.place)) (sym may.long) ∙ sym (length-own (bytes_of (tree_after o.begun h).bytes pick.file) pick.place))
      ∙ ap (λ (l : List ℕ). length l) (as_begun o.begun o.may_begin pick has)

  abbrev begun_after : PosixTree
  begun_after = with_picks o.begun t.picks

  picked : IsPicked o.begun t.picks begun_after
  picked = picked_tree o.begun t.picks m.once fits

  -- of what was read before nothing was read now
  not_again : (pick : Pick) → Has pick o.picks → IsUnpicked t.picks pick.file pick.place
  not_again pick has other there e at = let x = read_there other there in o.unread other.file other.place x.0 x.1 x.2 pick has (sym e) (sym at)

  -- of a visible disk the tree had it already
  same_begun : k.is_visible ≡ true → begun_after ≡ o.begun
  same_begun visible = picked_same o.begun t.picks fits (λ pick has.
      sym (as_begun o.begun o.may_begin pick has) ∙ subst (λ (s : PosixTree). HasPicked t.picks (tree_after s h)) (sym (o.may_begin.seen visible)) (ends_now visible).picked pick has)

  may_begin_after : MayHaveBegun k more begun_after
  may_begin_after = record {
    tree = trees o.begun begun_after picked.alike o.may_begin.tree;
    alike = through begun_after o.begun k.tree (either_way o.begun begun_after picked.alike) o.may_begin.alike;
    picked = λ pick has. ⊎_elim (λ x. picked.has pick x) (λ x. picked.others pick.file pick.place (not_again pick x) ∙ o.may_begin.picked pick x) (has_append pick t.picks o.picks has);
    seen = λ visible. same_begun visible ∙ o.may_begin.seen visible;
  }

  -- what isn't in memory then wasn't before
  was_away : (file place : ℕ) (c : FileCell) → next_world.file file ≡ Some c → IsAbsent c place → ((before : FileCell) × (G.file file ≡ Some before) × IsAbsent before place) × IsUnpicked t.picks file place
  was_away file place c is absent = ⊎_elim
      (λ has. let x = m.away file place c has absent in ((x.before, o.one_hand.files.agree i v at file x.before x.has, x.absent), x.unpicked))
      (λ (x : (count eqb file v.files ≡ 0) × (count eqb file t.files ≡ 0) × (G.file file ≡ Some c)). ((c, x.2, absent), λ pick has e at. not_lent file x.0 pick has e))
      (file_case file c is)
    where
      not_lent : (file : ℕ) → count eqb file v.files ≡ 0 → (pick : Pick) → Has pick t.picks → pick.file ≡ file → ⊥
      not_lent file none pick has e =
          let x = m.read pick has in
          let some = count_has eqb itself alike pick.file x.cell v.files x.has in
          let same : count eqb pick.file v.files ≡ count eqb file v.files = ap (λ n. count eqb n v.files) e in
          absurd (omega (arith, none, some, same))

  unread_after : (file place : ℕ) (c : FileCell) → next_world.file file ≡ Some c → IsAbsent c place → IsUnpicked more file place
  unread_after file place c is absent pick has e at =
      let x = was_away file place c is absent in
      ⊎_elim (λ y. x.1 pick y e at) (λ y. o.unread file place x.0.0 x.0.1 x.0.2 pick y e at) (has_append pick t.picks o.picks has)

  leads_after : (start : PosixTree) → MayHaveBegun k more start → LeadsTo start h next_world next0
  leads_after start begun =
      let was = o.leads start (older start begun) in
      record {
        legal = was.legal;
        clients = was.clients;
        parts = other_pool (m.next lent0) (tree_after start h) no_blocks
            (m.parts (tree_after start h) lent0 cells0 (has_read start begun) (other_pool o.parts (tree_after start h) (setof.difference o.free old) was.parts));
        away = λ file place c is absent. (let x = (was_away file place c is absent).0 in was.away file place x.0 x.1 x.2);
      }

  told_now : AreFaultsTold G.store (ended_at n t) t.told
  told_now = (let told = subst (λ (s : StoreCell). AreFaultsTold s t.store t.told) (sym was_there) m.told in record { rise = told.rise; once = told.once; new = told.new; stopped = told.stopped; halts = told.halts })

  pub turn_sound : IsSound k word (set views i w)
  turn_sound = record {
    history = h;
    world = next_world;
    parts = next0;
    free = freed0;
    picks = more;
    one_hand = held_after;
    stay = record { clients = o.stay.clients; asked = o.stay.asked; pools = o.stay.pools };
    tickets_once = o.tickets_once;
    asked = record { seen = o.asked.seen; kept = o.asked.kept };
    seen = all_set (λ (u : View). u.seen ≤ n) views i w o.seen (omega arith);
    faults_once = faults_told k views h G.store o.faults_once i v at w (ended_at n t) t.told refl refl told_now;
    parts_in = parts_after;
    free_in = free_after;
    pools_apart = apart_after;
    server = server_after;
    none_lost = none_lost_after;
    formed = m.formed ∙ ap (λ (s : StoreCell). geometry_of_store (store_of s)) (sym was_there) ∙ o.formed;
    begun = begun_after;
    may_begin = may_begin_after;
    leads = leads_after;
    served = λ start begun. o.served start (older start begun);
    unread = unread_after;
    disk = disk_after;
  }

pub turn_end_keeps : TurnEndKeeps
turn_end_keeps k word views i v t o at m = turn_sound k word views i v t o at m
