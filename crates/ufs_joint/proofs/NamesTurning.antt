-- A turn of the store in which the names were committed may end, and one in which that failed.
use Rattle.std.proofs.Common.{◌≡◌, ℕ, ◌+◌, ◌≤◌, ◌⊎◌, inl, inr, ⊎_elim, Bool, true, false, cond, ◌||◌, eqb, leb, List, [], ◌∷◌, length, Option, Some, None, is_some, sym, refl, ap, ◌∙◌, subst, arith}
use Rattle.std.specs.Prelude.{IsTrue}
use Rattle.std.specs.Cmp.{nat_cmp_total}
use Rattle.std.specs.Ordering.{nat_cmp}
use Rattle.std.specs.FinMap as fin
use Rattle.std.specs.FinMap.{contains_key-keys}
use Rattle.std.specs.FinSet as setof
use Rattle.std.specs.FinSet.{contains-from_list}
use Rattle.std.proofs.lemmas.List.{append-nil}
use Rattle.ufs_bitmap.specs.Blocks.{BlockSet}
use Rattle.ufs_disk.specs.Disk.{Leaves}
use Rattle.ufs_disk.specs.Moments.{Passes, all}
use Rattle.ufs_files.specs.Files.{Files}
use Rattle.ufs_layout.specs.declared.geometry.Geometry.{Geometry}
use Rattle.ufs_layout.specs.declared.records.LogRecord.{LogRecord}
use Rattle.ufs_model.specs.PosixTree.{PosixTree}
use Rattle.ufs_model.specs.declared.data.Entry.{Entry}
use Rattle.ufs_name_tree.specs.NameTable.{IsNameTable}
use Rattle.ufs_names.specs.NamesPart.{NamesPart}
use Rattle.ufs_crash_laws.specs.Changes.{name_changes}
use Rattle.ufs_hand_laws.specs.Owned.{Has, count}
use Rattle.ufs_hand_laws.specs.Parts.{Cells, only_one}
use Rattle.ufs_store.specs.State.{StoreState, geometry_of_store}
use Rattle.ufs_promise_laws.specs.Known.{IsDiskKept, IsKeptGoing, IsMore, Known, with_names_known}
use Rattle.ufs_promise_laws.specs.Laws.{with_names_committed}
use Rattle.ufs_promise_laws.specs.OnDisk.{IsExplainedBetween, IsExplainedImage}
use Rattle.ufs_promise_laws.specs.Parts.{Commits, Parts}
use Rattle.ufs_promise_laws.specs.Sound.{IsSoundServer}
use Rattle.ufs_promise_laws.specs.Stored.{ArePartsOf}
use Rattle.ufs_promise_laws.proofs.Unfresh.{parts_committed, sound_committed}
use Rattle.ufs_joint.proofs.Passing.{each_passed, none_passed}
use Rattle.ufs_joint.proofs.Forgetting.{less_is_kept}
use Rattle.ufs_joint.specs.Cells.{FileCell, NamesCell, StoreCell, View, store_of, store_since}
use Rattle.ufs_joint.specs.FileHands.{IsAsBegun, WentOn}
use Rattle.ufs_joint.specs.NamesTurns.{CommitsNames, FailsNames, HasFailedNames, HaveNoted, IsNamesSyncHand, NamesCommitsGoOn, NamesCommitsMayEnd, NamesFailuresGoOn, NamesFailuresMayEnd, committed_names_turn, failed_names_turn, live_files, names_committed}
use Rattle.ufs_joint.specs.NoneLost.{IsDropped, IsFree, IsHad, OfDir, OfFile, OfPool}
use Rattle.ufs_joint.specs.Turns.{EndsOnDisk, MayEndTurn, Turn, known_by}
use Rattle.ufs_joint.specs.Whole.{GoOnBy, HasCells, HasNamesCell}
use Rattle.ufs_joint.proofs.Blocks.{or_cases, or_left, or_right}
use Rattle.ufs_joint.proofs.Checkpointing.{by_files, same_le}
use Rattle.ufs_joint.proofs.FileTurns.{or_none}
use Rattle.ufs_joint.proofs.Kept.{kept_going, since_kept}
use Rattle.ufs_joint.proofs.Takes.{fewer_name_changes}

-- ---- files that the names tell of

live_is : (n : NamesPart) (file : ℕ) → setof.contains (live_files n) file ≡ is_some (fin.get n.held file)
live_is n file = contains-from_list nat_cmp_total (fin.keys n.held) file ∙ sym (contains_key-keys n.held file)

-- ---- the hand

module _ (visible : Bool) (v : View) (names : NamesCell) (was : StoreCell) (hand : IsNamesSyncHand visible v names was) where
  has_names : Has (tt, names) v.names
  has_names = subst (Has (tt, names)) (sym hand.names_are) (inl refl)

  no_file : (file : ℕ) (c : FileCell) → Has (file, c) v.files → ⊥
  no_file file c has = subst (Has (file, c)) hand.files has

  only_names : (u : Unit {0}) (c : NamesCell) → Has (u, c) v.names → c ≡ names
  only_names u c has = by (subst (Has (u, c)) hand.names_are has)
    where
      by : Has {A = Unit {0} × NamesCell} (u, c) ((tt, names) ∷ []) → c ≡ names
      by (inl is) = ap (λ (q : Unit {0} × NamesCell). q.1) is
      by (inr is) = absurd is

  its : (p : Parts) → HasCells v p → HasNamesCell p names
  its p cells = cells.names tt names has_names

  noted : IsNameTable names.value.tree → (p : Parts) → HasCells v p → HaveNoted names.fresh names.value.tree.noted p
  noted table p cells = record {
    blocks = (its p cells).fresh;
    records = ap (λ (n : NamesPart). n.tree.noted) (its p cells).names;
    table = subst (λ (n : NamesPart). IsNameTable n.tree) (sym (its p cells).names) table;
  }

  -- the names go on, and no file
  names_go : (p next : Parts) (c : NamesCell) → HasNamesCell next c → next.files ≡ p.files → next.commits ≡ p.commits → GoOnBy v.files [] ((tt, c) ∷ []) p next
  names_go p next c has files commits = record {
    files_by = λ file. ap (λ (fs : Files). fin.get fs file) files ∙ sym (ap (λ (xs : List (ℕ × FileCell)). by_files (fin.get p.files file) file xs) hand.files);
    commits_by = λ file. ap (λ (cs : Commits). fin.get cs file) commits ∙ sym (ap (λ (xs : List (ℕ × FileCell)). by_files (fin.get p.commits file) file xs) hand.files);
    names_by = λ u x is. by u x is;
    names_stay = λ none. absurd cc;
  }
    where
      by : (u : Unit {0}) (x : NamesCell) → Has {A = Unit {0} × NamesCell} (u, x) ((tt, c) ∷ []) → HasNamesCell next x
      by u x (inl is) = subst (HasNamesCell next) (sym (ap (λ (q : Unit {0} × NamesCell). q.1) is)) has
      by u x (inr is) = absurd is

-- what is noted has no block, and what is fresh a directory has, or dropped
committed_had : (p : Parts) (free : BlockSet) (b : ℕ) → IsHad p free b → IsHad (with_names_committed p) free b
committed_had p free b (OfFile file owns) = OfFile file (record { hand = owns.hand; here = owns.here; held = owns.held })
committed_had p free b (OfPool is) = OfPool is
committed_had p free b (IsFree is) = IsFree is
committed_had p free b (IsDropped is) = IsDropped is
committed_had p free b (OfDir dir is) = OfDir dir is

-- ---- a commit

module _ (g : Geometry) (keeps visible : Bool) (v : View) (names : NamesCell) (was left : StoreCell) (passed : List Cells) (form : geometry_of_store (store_of was) ≡ g) (hand : IsNamesSyncHand visible v names was)
    (commits : CommitsNames keeps visible was left names passed) where
  abbrev t : Turn
  t = committed_names_turn names was left passed

  abbrev done : NamesCell
  done = names_committed was names

  abbrev old : StoreState
  old = store_since commits.earlier was

  abbrev new : StoreState
  new = store_since commits.later left

  done_there : (p : Parts) → HasCells v p → HasNamesCell (with_names_committed p) done
  done_there p cells =
      let h = its visible v names was hand p cells in
      record { names = ap (λ (n : NamesPart). record n { tree = record (n.tree) { noted = Some [] } }) h.names; fresh = refl; dropped = h.dropped }

  module _ (seen : visible ≡ true) (start : PosixTree) (history : List Entry) (p : Parts) (known : Known) (begun : IsAsBegun v was start history p known) where
    kept : IsKeptGoing old start history p known
    kept = kept_going old start history p known commits.going (since_kept was [] commits.earlier start history p known begun.kept)

    told : HaveNoted names.fresh names.value.tree.noted p
    told = noted visible v names was hand commits.table p begun.cells

    abbrev then_known : Known
    then_known = with_names_known p.names (length (name_changes start history)) known

    -- no more is known than that
    less : IsMore (known_by start history t known) (with_names_known p.names (length (name_changes start history)) known)
    less = record {
      names = fewer_name_changes start history was.stamp;
      files = λ file. same_le (known.files file);
      born = λ file is. ⊎_elim
          (λ live. or_right (known.born file) (is_some (fin.get p.names.held file))
          (ap (λ (n : NamesPart). is_some (fin.get n.held file)) (its visible v names was hand p begun.cells).names ∙ sym (live_is names.value file) ∙ live))
          (λ was_born. or_left (known.born file) (is_some (fin.get p.names.held file)) (sym (or_none (known.born file)) ∙ was_born))
          (or_cases (setof.contains (live_files names.value) file) (known.born file || false) is);
    }

    now_kept : IsDiskKept new start history (with_names_committed p) (known_by start history t known)
    now_kept = less_is_kept new start history (with_names_committed p) (known_by start history t known) then_known less (inl (commits.committed seen start history p known told kept))

    between : IsExplainedBetween keeps was.sectors start history old.moments new.moments
    between = commits.moments seen start history p told kept.going

    passes : IsTrue keeps → Passes (Leaves (IsExplainedImage was.sectors start history)) old.moments new.moments
    passes = between.between

    ends : EndsOnDisk was t with_names_committed start history p known
    ends = record {
      kept = since_kept left commits.later [] start history (with_names_committed p) (known_by start history t known) now_kept;
      passed = each_passed keeps visible was left commits.earlier commits.later passed [] commits.left_so seen start history passes;
      picked = λ pick none. absurd none;
    }

  pub commit_went_on : visible ≡ true → IsTrue keeps → (start : PosixTree) (history : List Entry) (p : Parts) (known : Known) → IsAsBegun v was start history p known → WentOn (store_since commits.earlier was) (store_since commits.later left)
  commit_went_on seen kept start history p known begun = (let is = passes seen start history p known begun kept in (is.inside, is.whole))

  pub commit_may_end : MayEndTurn g visible v t
  commit_may_end = record {
    was = was;
    has_store = hand.store;
    stamp = commits.left_so.stamp;
    past = commits.left_so.past;
    sectors = commits.left_so.sectors;
    formed = commits.left_so.geometry;
    told = commits.left_so.told_so;
    lent = λ seen file c has. absurd (no_file visible v names was hand file c has);
    lent_names = λ seen u c has. let x = ap (λ (q : NamesCell). q.changed) (only_names visible v names was hand u c has) in let y = hand.changed seen in omega (arith, x, y);
    same_files = λ file. sym (ap (count eqb file) hand.files);
    same_names = λ u. sym (ap (count only_one u) hand.names_are);
    files = λ file c has. absurd has;
    names = λ u c has. by u c has;
    next = with_names_committed;
    goes = λ p cells. names_go visible v names was hand p (with_names_committed p) done (done_there p cells) refl refl;
    pool = λ p cells. refl;
    read = λ pick none. absurd none;
    once = tt;
    away = λ file place c has absent. absurd has;
    parts = λ tree p cells _ are. parts_committed p tree are;
    none_lost = λ p cells numbered b had. subst (λ (q : BlockSet). IsHad (with_names_committed p) q b) (sym commits.unassigned) (committed_had p was.unassigned.free b had);
    server = λ p cells numbered sound. subst (λ (q : BlockSet). IsSoundServer g q (with_names_committed p)) (sym commits.unassigned) (sound_committed g was.unassigned.free p sound);
    disk = λ seen start history p known around. ends seen start history p known (record { cells = around.cells; knows = around.knows; kept = around.kept });
  }
    where
      by : (u : Unit {0}) (c : NamesCell) → Has {A = Unit {0} × NamesCell} (u, c) ((tt, done) ∷ []) → (before : NamesCell) × Has (u, before) v.names × (c.changed ≡ before.changed) × (visible ≡ true → c.known ≤ was.stamp)
      by u c (inl is) = (names, has_names visible v names was hand, ap (λ (q : Unit {0} × NamesCell). q.1.changed) is, λ _. (let x = ap (λ (q : Unit {0} × NamesCell). q.1.known) is in omega (arith, x)))
      by u c (inr is) = absurd is

pub names_commits_may_end : NamesCommitsMayEnd
names_commits_may_end g keeps visible v names was left passed form hand commits = commit_may_end g keeps visible v names was left passed form hand commits

pub names_commits_go_on : NamesCommitsGoOn
names_commits_go_on g keeps visible v names was left passed form hand commits = commit_went_on g keeps visible v names was left passed form hand commits

-- ---- one that failed

module _ (g : Geometry) (keeps visible : Bool) (v : View) (names : NamesCell) (was left : StoreCell) (passed : List Cells) (faults : List ℕ) (form : geometry_of_store (store_of was) ≡ g) (hand : IsNamesSyncHand visible v names was)
    (fails : FailsNames keeps visible was left names passed faults) where
  abbrev kept_turn : Turn
  kept_turn = failed_names_turn names left passed faults

  abbrev before : StoreState
  before = store_since fails.earlier was

  abbrev after : StoreState
  after = store_since fails.later left

  module _ (seen : visible ≡ true) (start : PosixTree) (history : List Entry) (p : Parts) (known : Known) (begun : IsAsBegun v was start history p known) where
    was_kept : IsDiskKept before start history p known
    was_kept = since_kept was [] fails.earlier start history p known begun.kept

    its_notes : HaveNoted names.fresh names.value.tree.noted p
    its_notes = noted visible v names was hand fails.table p begun.cells

    -- no more is known than was
    no_more : IsMore (known_by start history kept_turn known) known
    no_more = record {
      names = begun.knows.names tt names (has_names visible v names was hand);
      files = λ file. same_le (known.files file);
      born = λ file is. ⊎_elim
          (λ told. begun.knows.named file tt names (has_names visible v names was hand) told)
          (λ was_born. sym (or_none (known.born file)) ∙ was_born)
          (or_cases (setof.contains names.named file) (known.born file || false) is);
    }

    module _ (going : was.stop ≡ None) where
      still_going : IsKeptGoing before start history p known
      still_going = kept_going before start history p known going was_kept

      stretch : IsExplainedBetween keeps was.sectors start history before.moments after.moments
      stretch = fails.moments seen start history p its_notes still_going.going

      states : IsTrue keeps → Passes (Leaves (IsExplainedImage was.sectors start history)) before.moments after.moments
      states = stretch.between

    failed_ends : (after ≡ before) ⊎ ((was.stop ≡ None) × HasFailedNames before after names.fresh names.value.tree.noted) → EndsOnDisk was kept_turn (λ q. q) start history p known
    failed_ends (inr x) = record {
      kept = less_is_kept (store_of left) start history p (known_by start history kept_turn known) known no_more (since_kept left fails.later [] start history p known (x.1 start history p known its_notes (still_going x.0)));
      passed = each_passed keeps visible was left fails.earlier fails.later passed faults fails.left_so seen start history (states x.0);
      picked = λ pick never. absurd never;
    }
    failed_ends (inl same) = record {
      kept = less_is_kept (store_of left) start history p (known_by start history kept_turn known) known no_more (since_kept left fails.later [] start history p known (subst (λ (s : StoreState). IsDiskKept s start history p known) (sym same) was_kept));
      passed = λ cells has. absurd (subst (Has cells) none has);
      picked = λ pick never. absurd never;
    }
      where
        none : passed ≡ []
        none = none_passed keeps visible was left fails.earlier fails.later passed faults fails.left_so seen same

    went_by : (after ≡ before) ⊎ ((was.stop ≡ None) × HasFailedNames before after names.fresh names.value.tree.noted) → IsTrue keeps → WentOn before after
    went_by (inl same) keeping = ([], ap (λ (q : StoreState). all q.moments) same ∙ sym (append-nil (all before.moments)))
    went_by (inr x) keeping = (let is = states x.0 keeping in (is.inside, is.whole))

  pub failure_went_on : visible ≡ true → IsTrue keeps → (start : PosixTree) (history : List Entry) (p : Parts) (known : Known) → IsAsBegun v was start history p known → WentOn (store_since fails.earlier was) (store_since fails.later left)
  failure_went_on seen kept start history p known begun = went_by seen start history p known begun (fails.failed seen) kept

  pub failure_may_end : MayEndTurn g visible v kept_turn
  failure_may_end = record {
    was = was;
    has_store = hand.store;
    stamp = fails.left_so.stamp;
    past = fails.left_so.past;
    sectors = fails.left_so.sectors;
    formed = fails.left_so.geometry;
    told = fails.left_so.told_so;
    lent = λ seen file c has. absurd (no_file visible v names was hand file c has);
    lent_names = λ seen u c has. let x = ap (λ (q : NamesCell). q.changed) (only_names visible v names was hand u c has) in let y = hand.changed seen in omega (arith, x, y);
    same_files = λ file. sym (ap (count eqb file) hand.files);
    same_names = λ u. sym (ap (count only_one u) hand.names_are);
    files = λ file c has. absurd has;
    names = λ u c has. by u c has;
    next = λ p. p;
    goes = λ p cells. names_go visible v names was hand p p names (its visible v names was hand p cells) refl refl;
    pool = λ p cells. refl;
    read = λ pick none. absurd none;
    once = tt;
    away = λ file place c has absent. absurd has;
    parts = λ tree p cells _ are. are;
    none_lost = λ p cells numbered b had. subst (λ (q : BlockSet). IsHad p q b) (sym fails.unassigned) had;
    server = λ p cells numbered sound. subst (λ (q : BlockSet). IsSoundServer g q p) (sym fails.unassigned) sound;
    disk = λ seen start history p known around. failed_ends seen start history p known (record { cells = around.cells; knows = around.knows; kept = around.kept }) (fails.failed seen);
  }
    where
      by : (u : Unit {0}) (c : NamesCell) → Has {A = Unit {0} × NamesCell} (u, c) ((tt, names) ∷ []) → (b : NamesCell) × Has (u, b) v.names × (c.changed ≡ b.changed) × (visible ≡ true → c.known ≤ was.stamp)
      by u c (inl is) = (
        names,
        has_names visible v names was hand,
        ap (λ (q : Unit {0} × NamesCell). q.1.changed) is,
        λ seen. (let x = ap (λ (q : Unit {0} × NamesCell). q.1.known) is in let y = hand.known seen in omega (arith, x, y)),
      )
      by u c (inr is) = absurd is

pub names_failures_may_end : NamesFailuresMayEnd
names_failures_may_end g keeps visible v names was left passed told form hand fails = failure_may_end g keeps visible v names was left passed told form hand fails

pub names_failures_go_on : NamesFailuresGoOn
names_failures_go_on g keeps visible v names was left passed told form hand fails = failure_went_on g keeps visible v names was left passed told form hand fails
