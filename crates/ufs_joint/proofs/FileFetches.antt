-- A turn of the store in which blocks of a file were read may end.
use Rattle.std.proofs.Common.{◌≡◌, ◌≢◌, ℕ, ◌≤◌, ◌⊎◌, inl, inr, Bool, true, false, cond, ◌||◌, eqb, ne_eqb, leb, List, [], ◌∷◌, length, Option, Some, None, sym, refl, ap, ◌∙◌, subst, arith, ⊎_elim}
use Rattle.std.specs.Prelude.{IsTrue}
use Rattle.std.specs.FinMap as fin
use Rattle.std.specs.List.{slice_get}
use Rattle.ufs_bitmap.specs.Blocks.{BlockSet}
use Rattle.ufs_disk.specs.Disk.{Leaves}
use Rattle.ufs_disk.specs.Moments.{Passes}
use Rattle.ufs_hand_laws.proofs.Keys.{itself}
use Rattle.ufs_files.proofs.MapLemmas.{one_or_apart}
use Rattle.ufs_layout.specs.declared.geometry.Geometry.{Geometry}
use Rattle.ufs_model.specs.PosixTree.{PosixTree}
use Rattle.ufs_model.specs.declared.data.Entry.{Entry}
use Rattle.ufs_hand_laws.specs.Owned.{Has, count, find}
use Rattle.ufs_hand_laws.specs.Parts.{Cells, only_one}
use Rattle.ufs_store.specs.State.{StoreState, geometry_of_store}
use Rattle.ufs_promise_laws.specs.OnDisk.{IsExplainedBetween, IsExplainedImage}
use Rattle.ufs_promise_laws.specs.Parts.{Parts, durable_in, with_file}
use Rattle.ufs_promise_laws.specs.Sound.{IsSoundServer}
use Rattle.ufs_joint.specs.Cells.{FileCell, StoreCell, View, store_of, store_since}
use Rattle.ufs_joint.specs.FileHands.{FetchesFile, FileFetchesGoOn, FileFetchesMayEnd, IsAsBegun, IsFetchHand, WentOn, fetched_turn}
use Rattle.ufs_promise_laws.specs.Known.{IsDiskKept, IsMore, Known}
use Rattle.ufs_joint.specs.Turns.{EndsOnDisk, MayEndTurn, Turn, known_by}
use Rattle.ufs_joint.specs.Whole.{HasCells, HasFileCell, birth_known, changes_known, file_changes_at}
use Rattle.ufs_joint.proofs.Blocks.{or_cases}
use Rattle.ufs_joint.specs.Files.{FetchesStayKept}
use Rattle.ufs_joint.proofs.FileTurns.{or_none}
use Rattle.ufs_file.specs.Content.{IsContentOf, own_bytes}
use Rattle.ufs_bytes_laws.proofs.BlockLemmas.{own_of_content}
use Rattle.ufs_promise_laws.proofs.Whole.{tree_may}
use Rattle.ufs_joint.specs.Picks.{HasPicked, IsUnpicked, Pick, bytes_at, pick_at}
use Rattle.ufs_joint.proofs.Reading.{as_long, content_read, picks_once, read_has, read_is, unpicked, was_absent}
use Rattle.ufs_file.specs.Hand.{FileState}
use Rattle.ufs_model.specs.FileBytes.{bytes_of}
use Rattle.ufs_promise_laws.specs.Fetches.{FetchesAreExplained, FetchesReadTheTree, PartsByFetches, SoundByFetches, with_read}
use Rattle.ufs_joint.proofs.Passing.{each_passed}
use Rattle.ufs_joint.proofs.Kept.{since_kept}
use Rattle.ufs_joint.proofs.Forgetting.{less_is_kept}
use Rattle.ufs_promise_laws.proofs.Known.{on_disk_of}
use Rattle.ufs_joint.proofs.OneFile.{durable_is, none_here, one_here, one_file_goes, only_here}
use Rattle.ufs_files.specs.Files.{AreNumbered}
use Rattle.ufs_promise_laws.specs.Stored.{ArePartsOf}
use Rattle.ufs_model.specs.History.{tree_after}
use Rattle.ufs_bitmap.specs.Taking.{has}
use Rattle.ufs_file_commits.specs.State.{DurableState, blocks_held}
use Rattle.ufs_joint.specs.NoneLost.{IsHad}
use Rattle.ufs_joint.proofs.NoneLost.{file_keeps}

module _ (stays : FetchesStayKept) (reads_tree : FetchesReadTheTree) (by_parts : PartsByFetches) (by_sound : SoundByFetches) (g : Geometry) (explains : FetchesAreExplained g)
    (sees keeps visible : Bool) (v : View) (file : ℕ) (cell : FileCell) (read : FileState) (was left : StoreCell) (passed : List Cells) (told : List ℕ) (form : geometry_of_store (store_of was) ≡ g) (hand : IsFetchHand visible v file cell was) (fetch : FetchesFile sees keeps visible was left cell.value.file read passed told) where
  abbrev t : Turn
  t = fetched_turn file cell read left passed told

  abbrev x : DurableState
  x = record (cell.value) { file = read }

  abbrev done : FileCell
  done = record cell { value = record (cell.value) { file = read } }

  abbrev go : Parts → Parts
  go p = with_file (record (cell.value) { file = read }) p.pool p

  abbrev old : StoreState
  old = store_since fetch.earlier was

  abbrev new : StoreState
  new = store_since fetch.later left

  number : read.file ≡ file
  number = ap (λ (q : FileState). q.file) fetch.fetched.rest ∙ hand.number

  has_file : Has (file, cell) v.files
  has_file = subst (Has (file, cell)) (sym hand.files) (inl refl)

  only_file : (other : ℕ) (c : FileCell) → Has (other, c) v.files → (other ≡ file) × (c ≡ cell)
  only_file other c has = only_here file other cell c (subst (Has (other, c)) hand.files has)

  module _ (p : Parts) (cells : HasCells v p) where
    its : HasFileCell p file cell
    its = cells.files file cell has_file

    here : fin.get p.files cell.value.file.file ≡ Some cell.value.file
    here = ap (fin.get p.files) hand.number ∙ its.file_is

    durable : durable_in p.commits cell.value.file ≡ cell.value
    durable = durable_is p file cell hand.number its

    same_go : with_read cell.value.file read p ≡ go p
    same_go = ap (λ (q : DurableState). with_file (record q { file = read }) p.pool p) durable

    -- of a tree that has what was read
    parts_by : (tree : PosixTree) → HasPicked t.picks tree → ArePartsOf p tree → ArePartsOf (go p) tree
    parts_by tree picked parts = subst (λ (q : Parts). ArePartsOf q tree) same_go (by_parts tree p cell.value.file read here fetch.fetched.rest content parts)
      where
        may : IsContentOf cell.value.file.content (bytes_of tree.bytes cell.value.file.file)
        may = tree_may tree cell.value.file.file cell.value.file (parts.files cell.value.file.file cell.value.file here)

        content : IsContentOf read.content (bytes_of tree.bytes cell.value.file.file)
        content = content_read cell.value.file read fetch.further file (bytes_of tree.bytes cell.value.file.file) may (λ place off on.
            ap (λ (q : ℕ). bytes_at tree q place) hand.number ∙ picked (pick_at file read.content.bytes place) (read_has cell.value.file read fetch.further file place off on))

    module _ (seen : visible ≡ true) (start : PosixTree) (history : List Entry) (known : Known) (around : IsAsBegun v was start history p known) where
      was_kept : IsDiskKept old start history p known
      was_kept = since_kept was [] fetch.earlier start history p known around.kept

      content : IsContentOf read.content (bytes_of (tree_after start history).bytes cell.value.file.file)
      content = reads_tree sees keeps old new start history p cell.value.file read (fetch.seen seen) here fetch.fetched (on_disk_of old start history p known was_kept)

      picked : HasPicked t.picks (tree_after start history)
      picked pick has =
          let x = read_is cell.value.file read fetch.further file pick has in
          ap (λ (q : Pick). bytes_at (tree_after start history) q.file q.place) x.3
          ∙ ap (λ (q : ℕ). bytes_at (tree_after start history) q x.0) (sym hand.number)
          ∙ own_of_content read.content (bytes_of (tree_after start history).bytes cell.value.file.file) content x.0 x.2
          ∙ ap (λ (q : Pick). q.bytes) (sym x.3)

      -- no more is known than was
      less : IsMore (known_by start history t known) known
      less = record { names = omega arith; files = λ other. files_at other (one_or_apart other file); born = λ other. born_at other (one_or_apart other file) }
        where
          files_at : (other : ℕ) → (other ≡ file) ⊎ (other ≢ file) → cond (leb 1 (count eqb other t.files)) (changes_known start history other (find eqb other t.files)) (known.files other) ≤ known.files other
          files_at other (inl is) =
              let a = one_here file other is done in
              let b : eqb other file ≡ true = ap (eqb other) (sym is) ∙ itself other in
              let c : cond (leb 1 (count eqb other t.files)) (changes_known start history other (find eqb other t.files)) (known.files other) ≡ file_changes_at start history other cell.known =
              (λ i. cond (leb 1 (a i)) (changes_known start history other (cond (b i) (Some done) None)) (known.files other)) in
              let d = subst (λ (m : ℕ). file_changes_at start history m cell.known ≤ known.files m) (sym is) (around.knows.files file cell has_file) in
              omega (arith, c, d)
          files_at other (inr not) =
              let a = none_here file other not done in
              let c : cond (leb 1 (count eqb other t.files)) (changes_known start history other (find eqb other t.files)) (known.files other) ≡ known.files other = (λ i. cond (leb 1 (a i)) (changes_known start history other (find eqb other t.files)) (known.files other)) in
              omega (arith, c)

          born_at : (other : ℕ) → (other ≡ file) ⊎ (other ≢ file) → (known.born other || birth_known start history (find eqb other t.files)) ≡ true → known.born other ≡ true
          born_at other (inl is) born =
              let b : eqb other file ≡ true = ap (eqb other) (sym is) ∙ itself other in
              let a : find eqb other t.files ≡ Some done = ap (λ q. cond q (Some done) None) b in
              ⊎_elim (λ q. q) (λ q. ap known.born is ∙ around.knows.born file cell has_file q)
              (or_cases (known.born other) cell.born (ap (λ (y : Option FileCell). known.born other || birth_known start history y) (sym a) ∙ born))
          born_at other (inr not) born =
              let a : find eqb other t.files ≡ None = ap (λ b. cond b (Some done) None) (ne_eqb other file not) in
              sym (or_none (known.born other)) ∙ ap (λ (y : Option FileCell). known.born other || birth_known start history y) (sym a) ∙ born

      between : IsExplainedBetween keeps was.sectors start history old.moments new.moments
      between = explains sees keeps old new start history p cell.value.file read form (fetch.seen seen) fetch.fetched (on_disk_of old start history p known was_kept)

      passes : IsTrue keeps → Passes (Leaves (IsExplainedImage was.sectors start history)) old.moments new.moments
      passes = between.between

      ends : EndsOnDisk was t go start history p known
      ends = record {
        kept = less_is_kept (store_of left) start history (go p) (known_by start history t known) known less
            (since_kept left fetch.later [] start history (go p) known (subst (λ (q : Parts). IsDiskKept new start history q known) same_go (stays sees keeps old new start history p known cell.value.file read (fetch.seen seen) here fetch.fetched was_kept)));
        picked = picked;
        passed = each_passed keeps visible was left fetch.earlier fetch.later passed told fetch.left_so seen start history passes;
      }

    -- it has the blocks that it had
    lost_none : AreNumbered p.files → (b : ℕ) → IsHad p was.unassigned.free b → IsHad (go p) left.unassigned.free b
    lost_none numbered b had = subst (λ (q : BlockSet). IsHad (go p) q b) (ap (λ (s : StoreState). s.unassigned.free) (sym fetch.fetched.store))
        (file_keeps p cell.value.file x p.pool was.unassigned.free was.unassigned.free here (ap (λ (q : FileState). q.file) fetch.fetched.rest) numbered b
        (λ q. ⊎_elim (λ is. inl (ap (λ (y : FileState). has (blocks_held (record (cell.value) { file = y })) b) fetch.fetched.rest ∙ ap (λ (y : DurableState). has (blocks_held y) b) (sym durable) ∙ is)) (λ is. inr is) q) had)

    server_by : AreNumbered p.files → IsSoundServer g was.unassigned.free p → IsSoundServer g left.unassigned.free (go p)
    server_by numbered sound = subst (λ (q : BlockSet × Parts). IsSoundServer g q.0 q.1) (λ i. (ap (λ (s : StoreState). s.unassigned.free) (sym fetch.fetched.store) i, same_go i))
        (by_sound g was.unassigned.free p cell.value.file read numbered here fetch.fetched.rest fetch.fetched.noted sound)

  pub may_end : MayEndTurn g visible v t
  may_end = record {
    was = was;
    has_store = hand.store;
    stamp = fetch.left_so.stamp;
    past = fetch.left_so.past;
    sectors = fetch.left_so.sectors;
    formed = fetch.left_so.geometry;
    told = fetch.left_so.told_so;
    lent = λ seen other c has. let y = ap (λ (q : FileCell). q.changed) (only_file other c has).1 in let z = hand.changed seen in omega (arith, y, z);
    lent_names = λ _ u c has. absurd (subst (Has (u, c)) hand.names has);
    same_files = λ other. sym (ap (count eqb other) hand.files);
    same_names = λ u. sym (ap (count only_one u) hand.names);
    files = λ other c has. by other c has;
    names = λ u c has. absurd has;
    next = go;
    goes = λ p cells. one_file_goes v.files file cell done p.pool p hand.files number;
    pool = λ p cells. refl;
    read = λ pick has.
        let x = read_is cell.value.file read fetch.further file pick has in record {
          cell = cell;
          has = subst (λ q. Has (q, cell) v.files) (sym (ap (λ (q : Pick). q.file) x.3)) has_file;
          absent = ap (slice_get cell.value.file.content.there) (ap (λ (q : Pick). q.place) x.3) ∙ x.1;
          long = ap (λ (q : Pick). length q.bytes) x.3 ∙ as_long cell.value.file read fetch.further file x.0 ∙ ap (λ (q : Pick). length (own_bytes cell.value.file.content.bytes q.place)) (sym x.3);
        };
    once = picks_once file read.content.bytes cell.value.file.content.there read.content.there 0;
    away = λ other place c has absent.
        let is = done_is other c has in
        let off : slice_get read.content.there place ≡ Some false = ap (λ (q : FileCell). slice_get q.value.file.content.there place) (sym is.1) ∙ absent in record {
          before = cell;
          has = subst (λ q. Has (q, cell) v.files) (sym is.0) has_file;
          absent = was_absent cell.value.file read fetch.further file place off;
          unpicked = subst (λ q. IsUnpicked t.picks q place) (sym is.0) (unpicked cell.value.file read fetch.further file place off);
        };
    parts = λ tree p cells picked are. parts_by p cells tree picked are;
    none_lost = λ p cells numbered b. lost_none p cells numbered b;
    server = server_by;
    disk = λ seen start history p known around. ends p around.cells seen start history known (record { cells = around.cells; knows = around.knows; kept = around.kept });
  }
    where
      done_is : (other : ℕ) (c : FileCell) → Has (other, c) t.files → (other ≡ file) × (c ≡ done)
      done_is other c (inl is) = (ap (λ (q : ℕ × FileCell). q.0) is, ap (λ (q : ℕ × FileCell). q.1) is)
      done_is other c (inr is) = absurd is

      by : (other : ℕ) (c : FileCell) → Has (other, c) t.files → (before : FileCell) × Has (other, before) v.files × (c.changed ≡ before.changed) × (visible ≡ true → c.known ≤ was.stamp)
      by other c (inl is) = (
        cell,
        subst (λ q. Has (q, cell) v.files) (sym (ap (λ (q : ℕ × FileCell). q.0) is)) has_file,
        ap (λ (q : ℕ × FileCell). q.1.changed) is,
        λ seen. (let y = ap (λ (q : ℕ × FileCell). q.1.known) is in let z = hand.known seen in omega (arith, y, z)),
      )
      by other c (inr is) = absurd is

  pub went_on : visible ≡ true → IsTrue keeps → (start : PosixTree) (history : List Entry) (p : Parts) (known : Known) → IsAsBegun v was start history p known → WentOn (store_since fetch.earlier was) (store_since fetch.later left)
  went_on seen kept start history p known begun = (let is = passes p begun.cells seen start history known begun kept in (is.inside, is.whole))

pub file_fetches_may_end : FetchesStayKept → FetchesReadTheTree → PartsByFetches → SoundByFetches → (g : Geometry) → FetchesAreExplained g → FileFetchesMayEnd g
file_fetches_may_end stays reads_tree by_parts by_sound g explains sees keeps visible v file cell read was left passed told form hand fetch = may_end stays reads_tree by_parts by_sound g explains sees keeps visible v file cell read was left passed told form hand fetch

pub file_fetches_go_on : FetchesStayKept → FetchesReadTheTree → PartsByFetches → SoundByFetches → (g : Geometry) → FetchesAreExplained g → FileFetchesGoOn g
file_fetches_go_on stays reads_tree by_parts by_sound g explains sees keeps visible v file cell read was left passed told form hand fetch = went_on stays reads_tree by_parts by_sound g explains sees keeps visible v file cell read was left passed told form hand fetch
