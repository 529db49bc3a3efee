-- A request of the names may be drawn by a hand with the names and the files that it touches.
use Rattle.std.proofs.Common.{◌≡◌, ◌≢◌, ℕ, suc, ◌+◌, ◌<◌, ◌≤◌, ◌⊎◌, inl, inr, Bool, true, false, cond, ◌&&◌, ◌||◌, eqb, leb, le-leb, List, [], ◌∷◌, ◌++◌, length, Option, Some, None, is_some, sym, refl, ap, ◌∙◌, subst, arith, append-nil}
use Rattle.std.specs.Prelude.{◌==◌, IsSome, unwrap_or}
use Rattle.std.specs.List.{slice_get}
use native.Mathlib.Decide.{dec_le}
use Rattle.std.specs.Cmp.{nat_cmp_total}
use Rattle.std.specs.FinMap as fin
use Rattle.std.specs.FinMap.{nat_cmp-IsAntisymmetric}
use Rattle.std.specs.FinSet as setof
use Rattle.std.proofs.lemmas.Bool.Decides.{nat_tests}
use Rattle.ufs_bitmap.specs.Blocks.{BlockSet}
use Rattle.ufs_bitmap.specs.Taking.{has}
use Rattle.ufs_file_commits.specs.State.{CommitState, DurableState, blocks_held, state_of}
use Rattle.ufs_extent.specs.Runs.{blocks_of}
use Rattle.ufs_file.specs.Content.{own_bytes}
use Rattle.ufs_file.specs.Hand.{FileState}
use Rattle.ufs_files.proofs.MapLemmas.{one_or_apart}
use Rattle.ufs_layout.specs.declared.geometry.Geometry.{Geometry}
use Rattle.ufs_model.specs.Asks.{IsAsk, IsDescAfter, desc_of_fd, fd_told}
use Rattle.ufs_model.specs.History.{IsLegal, is_excused, tree_after}
use Rattle.ufs_model.specs.Posix.{posix}
use Rattle.ufs_model.specs.PosixTree.{PosixTree, desc_at}
use Rattle.ufs_model.specs.Touched.{IsPartOf, touched_parts}
use Rattle.ufs_model.specs.declared.data.Ask.{Ask}
use Rattle.ufs_model.specs.declared.data.Desc.{Desc}
use Rattle.ufs_model.specs.declared.data.Entry.{Entry}
use Rattle.ufs_model.specs.declared.data.Op.{Op}
use Rattle.ufs_model.specs.declared.data.PartName.TheVariants as part_name
use Rattle.ufs_model.proofs.Facts.Histories.{legal-push, tree_after-push}
use Rattle.ufs_model.proofs.Facts.Live.{number_is}
use Rattle.ufs_model.proofs.Facts.Lookups.{from_some, inserted_else, inserted_here, removed_else, removed_here, same_some, there_or_not}
use Rattle.ufs_names.specs.Calls.{FilesGoOn, HasNoByte, IsAsked, IsServed, IsTouched}
use Rattle.ufs_names.specs.NamesPart.{IsNamesPart, NamesPart}
use Rattle.ufs_promise_laws.specs.RequestLaws.{RequestsAreSound, RequestsGoOn}
use Rattle.ufs_promise_laws.specs.Requests.{IsNamesRequest}
use Rattle.ufs_promise_laws.specs.Serving.{HasLeft, HasServed, HasSettled, ServedIsRequest, emptied_commits}
use Rattle.ufs_crash_laws.specs.Changes.{change_asked, change_of, changes_of, file_changed, name_changes}
use Rattle.ufs_crash_laws.specs.Steps.{is_served}
use Rattle.ufs_crash_laws.specs.declared.data.FileChange.{FileChange}
use Rattle.ufs_model.specs.PosixTree.{is_number}
use Rattle.ufs_crash_laws.proofs.Facts.Contents.{changed_live}
use Rattle.ufs_crash_laws.proofs.Facts.Histories.{changes_of-push}
use Rattle.ufs_hand_laws.specs.Draws.{entry_of}
use Rattle.ufs_hand_laws.specs.Owned.{Has, count, find}
use Rattle.ufs_hand_laws.specs.Parts.{ClientPart, OwnFds, only_one}
use Rattle.ufs_hand_laws.specs.declared.fresh.Fresh.{Fresh}
use Rattle.ufs_hand_laws.proofs.Drawing.{tells_new}
use Rattle.ufs_hand_laws.proofs.Keys.{alike, itself}
use Rattle.ufs_hand_laws.proofs.Owning.{count_has, find_has, has_count, has_find}
use Rattle.ufs_store.specs.State.{StoreState, geometry_of_store}
use Rattle.ufs_promise_laws.specs.Known.{IsDiskKept, Known}
use Rattle.ufs_promise_laws.specs.Parts.{Commits, Parts, committed_as, durable_in}
use Rattle.ufs_promise_laws.specs.Sound.{IsSoundServer}
use Rattle.ufs_promise_laws.specs.Stored.{ArePartsOf}
use Rattle.ufs_promise_laws.proofs.FileEntries.{served_goes}
use Rattle.ufs_joint.specs.Beside.{FilesStayBeside}
use Rattle.ufs_joint.specs.Lent.{AreLent, HasServedLent, LentIsServed, LentRequestsStayKept}
use Rattle.ufs_joint.specs.Cells.{FileCell, NamesCell, View}
use Rattle.ufs_joint.specs.Draws.{DrawsOnDisk, DrawsTo, IsAround, IsUnknown, Leaves, MayDraw}
use Rattle.ufs_joint.specs.NamesHands.{Changes, IsNamesHand, IsNew, IsNextCell, IsNextOf, NamesRequestsMayDraw, ServesNames, Serving, Stays, names_leaves, own_parts}
use Rattle.ufs_joint.specs.NoneLost.{IsDropped, IsFree, IsHad, OfDir, OfFile, OfPool}
use Rattle.ufs_joint.specs.Picks.{IsAbsent, bytes_at}
use Rattle.ufs_joint.specs.Servers.{IsAlwaysServedSo}
use Rattle.ufs_joint.specs.Whole.{GoOnBy, HasCells, HasFileCell, HasNamesCell, commits_of, hand_of, pooled}
use Rattle.ufs_joint.proofs.Blocks.{pooled_one}
use Rattle.ufs_joint.proofs.Exchanging.{exchanged, get_exchanged}
use Rattle.ufs_joint.proofs.HandFiles as hand_files
use Rattle.ufs_joint.proofs.NoneLost.{names_keep}
use Rattle.ufs_joint.proofs.OneFile.{only_here}
use Rattle.ufs_joint.proofs.TellingCommits.{kept_told, parts_told, sound_told}

-- ---- what is told of a file's commits

abbrev told_of : FileCell → CommitState
told_of c = record { log = c.value.log; dropped = c.value.dropped }

abbrev file_of_cell : FileCell → FileState
file_of_cell c = c.value.file

-- what the parts tell of the touched file, where this is told of it now
abbrev set_told : Option CommitState → ℕ → Commits → Commits
set_told (Some c) file commits = fin.insert commits file c
set_told None file commits = fin.remove commits file

set_here : (o : Option CommitState) (file : ℕ) (commits : Commits) → fin.get (set_told o file commits) file ≡ o
set_here (Some c) file commits = inserted_here nat_cmp_total nat_cmp-IsAntisymmetric commits file c
set_here None file commits = removed_here nat_cmp_total nat_cmp-IsAntisymmetric commits file

set_else : (o : Option CommitState) (file : ℕ) (commits : Commits) (other : ℕ) → other ≢ file → fin.get (set_told o file commits) other ≡ fin.get commits other
set_else (Some c) file commits other not = inserted_else nat_cmp_total nat_cmp-IsAntisymmetric commits file c other not
set_else None file commits other not = removed_else nat_cmp_total nat_cmp-IsAntisymmetric commits file other not

abbrev with_told : Option ℕ → Commits → Commits → Commits
with_told None left commits = commits
with_told (Some file) left commits = set_told (fin.get left file) file commits

told_here : (touched : Option ℕ) (left commits : Commits) (file : ℕ) → touched ≡ Some file → fin.get (with_told touched left commits) file ≡ fin.get left file
told_here touched left commits file is = ap (λ o. fin.get (with_told o left commits) file) is ∙ set_here (fin.get left file) file commits

told_else : (touched : Option ℕ) (left commits : Commits) (file : ℕ) → touched ≢ Some file → fin.get (with_told touched left commits) file ≡ fin.get commits file
told_else None left commits file not = refl
told_else (Some other) left commits file not = set_else (fin.get left other) other commits file (λ e. not (ap Some (sym e)))

touched_or_not : (touched : Option ℕ) (file : ℕ) → (touched ≡ Some file) ⊎ (touched ≢ Some file)
touched_or_not None file = inr (λ is. let clash : None ≡ Some file = is in absurd cc)
touched_or_not (Some other) file = by (one_or_apart other file)
  where
    by : (other ≡ file) ⊎ (other ≢ file) → (Some other ≡ Some file) ⊎ (Some other ≢ Some file)
    by (inl e) = inl (ap Some e)
    by (inr not) = inr (λ is. not (same_some other file is))

-- what is known of one file is by what is told under its number
durable_by : (one other : Commits) (f : FileState) → fin.get one f.file ≡ fin.get other f.file → durable_in one f ≡ durable_in other f
durable_by one other f same = ap (λ (x : Option CommitState). state_of f (unwrap_or x (committed_as f))) same

none_there : {A : Type 0} (o : Option A) → (IsSome o → ⊥) → o ≡ None
none_there None not = refl
none_there (Some x) not = absurd (not refl)

and_none : (a b : Bool) → a ≡ true → (a && b) ≡ false → b ≡ false
and_none true b is e = e
and_none false b is e = absurd cc

is_none_of : {A : Type 0} (o : Option A) → is_some o ≡ false → o ≡ None
is_none_of None e = refl
is_none_of (Some x) e = absurd cc

module _ (lends : LentIsServed) (request : ServedIsRequest) (go_on : RequestsGoOn) (sounds : RequestsAreSound) (beside : FilesStayBeside) (g : Geometry) (stays : LentRequestsStayKept g)
    (visible : Bool) (v : View) (client : ℕ) (part : ClientPart) (n : ℕ) (f : Fresh) (ticket : ℕ) (ask : Ask) (desc : Option Desc) (fds : OwnFds) (after : List (ℕ × FileCell)) (was left : Serving)
    (hand : IsNamesHand v client part was.names n was.pool) (by_client : IsNextOf client part f) (serves : ServesNames part f ticket ask desc fds v.files after was left) (who : IsAlwaysServedSo part.fds f) where
  abbrev l : Leaves
  l = names_leaves fds after n left

  abbrev e : Entry
  e = entry_of ticket f

  has_part : Has (client, part) v.clients
  has_part = subst (Has (client, part)) (sym hand.clients) (inl refl)

  has_names : Has (tt, was.names) v.names
  has_names = subst (Has (tt, was.names)) (sym hand.names_are) (inl refl)

  only_pool : (m : ℕ) (s : BlockSet) → Has (m, s) l.pools → m ≡ n
  only_pool m s has = (only_here n m left.pool s has).0

  only_names : (u : Unit {0}) (c : NamesCell) → Has (u, c) l.names → c ≡ left.names
  only_names u c (inl is) = ap (λ (q : Unit {0} × NamesCell). q.1) is
  only_names u c (inr is) = absurd is

  its_pool : pooled v.pools ≡ was.pool
  its_pool = ap pooled hand.pools ∙ pooled_one n was.pool

  -- ---- which files are here

  none_was : (file : ℕ) → count eqb file v.files ≡ 0 → fin.get was.files file ≡ None
  none_was file none = none_there (fin.get was.files file) (λ some. let c = serves.files.back file some in let x = count_has eqb itself alike file c.0 v.files c.1 in absurd (omega (arith, none, x)))

  none_left : (file : ℕ) → count eqb file after ≡ 0 → fin.get left.files file ≡ None
  none_left file none = none_there (fin.get left.files file) (λ some. let c = serves.left_files.back file some in let x = count_has eqb itself alike file c.0 after c.1 in absurd (omega (arith, none, x)))

  here_was : (file : ℕ) (c : FileCell) → Has (file, c) v.files → fin.get was.files file ≡ Some c.value.file
  here_was file c has = (serves.files.here file c has).0

  here_left : (file : ℕ) (c : FileCell) → Has (file, c) after → fin.get left.files file ≡ Some c.value.file
  here_left file c has = (serves.left_files.here file c has).0

  -- one that was told of is here
  told_was : (file : ℕ) → IsSome (fin.get was.commits file) → (c : FileCell) × Has (file, c) v.files
  told_was file some = serves.files.back file (serves.files.told file some)

  -- ---- how the parts go on

  abbrev go : Parts → Parts
  go p = record {
    names = left.names.value;
    files = exchanged file_of_cell v.files after p.files;
    commits = exchanged told_of v.files after p.commits;
    pool = left.pool;
    fresh = left.names.fresh;
    dropped = left.names.dropped;
  }

  -- with what is told of the touched file's commits alone
  abbrev mid : Parts → Parts
  mid p = record {
    names = left.names.value;
    files = exchanged file_of_cell v.files after p.files;
    commits = with_told serves.touched left.commits p.commits;
    pool = left.pool;
    fresh = left.names.fresh;
    dropped = left.names.dropped;
  }

  files_go : (p : Parts) (file : ℕ) → fin.get (go p).files file ≡ cond (leb 1 (count eqb file v.files + count eqb file after)) (hand_of (find eqb file after)) (fin.get p.files file)
  files_go p file = get_exchanged file_of_cell hand_of (λ c. refl) refl v.files after p.files file

  commits_go : (p : Parts) (file : ℕ) → fin.get (go p).commits file ≡ cond (leb 1 (count eqb file v.files + count eqb file after)) (commits_of (find eqb file after)) (fin.get p.commits file)
  commits_go p file = get_exchanged told_of commits_of (λ c. refl) refl v.files after p.commits file

  goes : (p : Parts) → GoOnBy v.files l.files l.names p (go p)
  goes p = record {
    files_by = files_go p;
    commits_by = commits_go p;
    names_by = λ u c has. subst (HasNamesCell (go p)) (sym (only_names u c has)) (record { names = refl; fresh = refl; dropped = refl });
    names_stay = λ none. absurd cc;
  }

  -- of a file that the hand has then
  module _ (p : Parts) (file : ℕ) (c : FileCell) (has : Has (file, c) after) where
    found : find eqb file after ≡ Some c
    found = has_find eqb itself alike file c after (serves.left_once.once file) has

    some_here : leb 1 (count eqb file v.files + count eqb file after) ≡ true
    some_here = le-leb 1 (count eqb file v.files + count eqb file after) (let x = count_has eqb itself alike file c after has in omega (arith, x))

    pub file_now : fin.get (go p).files file ≡ Some c.value.file
    file_now = files_go p file ∙ (λ i. cond (some_here i) (hand_of (found i)) (fin.get p.files file))

    pub commits_now : fin.get (go p).commits file ≡ Some (told_of c)
    commits_now = commits_go p file ∙ (λ i. cond (some_here i) (commits_of (found i)) (fin.get p.commits file))

  -- of one that it had, and has no more
  module _ (p : Parts) (file : ℕ) (none : count eqb file after ≡ 0) where
    not_found : find eqb file after ≡ None
    not_found = by (find eqb file after) refl
      where
        by : (o : Option FileCell) → find eqb file after ≡ o → o ≡ None
        by None is = refl
        by (Some c) is = (let x = count_has eqb itself alike file c after (find_has eqb itself alike file c after is) in absurd (omega (arith, none, x)))

    pub file_gone : 1 ≤ count eqb file v.files → fin.get (go p).files file ≡ None
    file_gone had =
        let some : leb 1 (count eqb file v.files + count eqb file after) ≡ true = le-leb 1 (count eqb file v.files + count eqb file after) (omega (arith, had)) in
        files_go p file ∙ (λ i. cond (some i) (hand_of (not_found i)) (fin.get p.files file))

    neither : count eqb file v.files ≡ 0 → count eqb file v.files + count eqb file after ≡ 0
    neither off = omega (arith, off, none)

    pub file_else : count eqb file v.files ≡ 0 → fin.get (go p).files file ≡ fin.get p.files file
    file_else off = files_go p file ∙ ap (λ k. cond (leb 1 k) (hand_of (find eqb file after)) (fin.get p.files file)) (neither off)

    pub commits_else : count eqb file v.files ≡ 0 → fin.get (go p).commits file ≡ fin.get p.commits file
    commits_else off = commits_go p file ∙ ap (λ k. cond (leb 1 k) (commits_of (find eqb file after)) (fin.get p.commits file)) (neither off)

  -- ---- from whichever tree, with whichever others

  module _ (start : PosixTree) (history : List Entry) (p : Parts) (rest : BlockSet) (a : IsAround g v ticket start history p rest) where
    abbrev t : PosixTree
    t = tree_after start history

    abbrev u : PosixTree
    u = (posix (tree_after start history) ask.client ask.op).0

    abbrev longer : List Entry
    longer = history ++ e ∷ []

    -- with the hand's own values
    abbrev own : Parts
    own = record { names = was.names.value; files = p.files; commits = p.commits; pool = was.pool; fresh = was.names.fresh; dropped = was.names.dropped }

    its_names : HasNamesCell p was.names
    its_names = a.cells.names tt was.names has_names

    same_own : p ≡ own
    same_own = λ i. record { names = its_names.names i; files = p.files; commits = p.commits; pool = (a.pool ∙ its_pool) i; fresh = its_names.fresh i; dropped = its_names.dropped i }

    parts : ArePartsOf own t
    parts = subst (λ (q : Parts). ArePartsOf q (tree_after start history)) same_own a.parts

    server : IsSoundServer g rest own
    server = subst (IsSoundServer g rest) same_own a.server

    its_fds : (fd : ℕ) → fin.get part.fds fd ≡ desc_at t f.client fd
    its_fds fd = a.fds client part has_part fd ∙ ap (λ c. desc_at t c fd) (sym by_client.by_client)

    asked : IsAsk t ask
    asked = serves.told t its_fds

    -- a file of the hand is among all
    in_all : (file : ℕ) (s : FileState) → fin.get was.files file ≡ Some s → fin.get p.files file ≡ Some s
    in_all = hand_files.in_all v was.files was.commits serves.files p a.cells

    h : HasServed t ask (own_parts was) (own_parts left) serves.lent serves.given_back serves.touched f.reply desc
    h = serves.applied t (record { part = parts.names; asked = asked; files = hand_files.sized v was.files was.commits serves.files p a.cells (tree_after start history) a.parts.files; gathered = serves.gathered t parts.names asked })

    -- a file here is below the next number
    below : (file : ℕ) (s : FileState) → fin.get p.files file ≡ Some s → file < was.names.value.next
    below file s at =
        let of = parts.files file s at in
        let less = parts.names.tree.numbered file (ap (λ (k : ℕ). is_some (fin.get t.bytes k)) (sym of.0) ∙ ap is_some of.1.has) in
        let same = parts.names.next in
        omega (arith, less, same)

    -- what the request touches of the hand's files
    touched_of : (file : ℕ) (c : FileCell) → Has (file, c) v.files → IsTouched t ask file → serves.touched ≡ Some file
    touched_of file c has is = h.alone file is (ap is_some (here_was file c has))

    -- the touched one is one of them
    touched_is : (file : ℕ) → serves.touched ≡ Some file → (c : FileCell) × Has (file, c) v.files
    touched_is file is = told_was file (h.settled.known file is)

    -- of it the parts tell what the hand does
    same_told : (file : ℕ) → serves.touched ≡ Some file → fin.get p.commits file ≡ fin.get was.commits file
    same_told file is =
        let c = touched_is file is in
        let some = from_some (fin.get was.commits file) (h.settled.known file is) in
        let number = hand.files.number file c.0 c.1 in
        let durable : state_of c.0.value.file some.0 ≡ c.0.value =
        sym (ap (λ (x : Option CommitState). state_of c.0.value.file (unwrap_or x (committed_as c.0.value.file))) (ap (fin.get was.commits) number ∙ some.1)) ∙ (serves.files.here file c.0 c.1).1 in
        (a.cells.files file c.0 c.1).commits_are ∙ ap (λ (x : DurableState). Some (record { log = x.log; dropped = x.dropped })) (sym durable) ∙ sym some.1

    -- a new file is nobody's
    new_is_off : (file : ℕ) → file ≡ was.names.value.next → fin.get p.files file ≡ None
    new_is_off file is = by (there_or_not (fin.get p.files file))
      where
        by : ((s : FileState) × (fin.get p.files file ≡ Some s)) ⊎ (fin.get p.files file ≡ None) → fin.get p.files file ≡ None
        by (inl at) = (let less = below file at.0 at.1 in absurd (omega (arith, less, is)))
        by (inr none) = none

    -- a cell of the hand's then is of a file that it had, or of the new one
    had_or_new : (file : ℕ) (c : FileCell) → Has (file, c) after → ((b : FileCell) × Has (file, b) v.files) ⊎ (fin.get p.files file ≡ None)
    had_or_new file c has = by (serves.cells file c has)
      where
        by : IsNextCell v.files was.names.value.next ticket serves.touched file c → ((b : FileCell) × Has (file, b) v.files) ⊎ (fin.get p.files file ≡ None)
        by (Stays there not) = inl (c, there)
        by (Changes b there is) = inl (b, there)
        by (IsNew none next is) = inr (new_is_off file next)

    -- ---- all files

    now_left : (file : ℕ) → (IsSome (fin.get p.files file) → IsSome (fin.get was.files file)) → fin.get (go p).files file ≡ fin.get left.files file
    now_left file lent_so = by (dec_le 1 (count eqb file after)) (dec_le 1 (count eqb file v.files))
      where
        by : Dec (1 ≤ count eqb file after) → Dec (1 ≤ count eqb file v.files) → fin.get (go p).files file ≡ fin.get left.files file
        by (yes some) other = let c = has_count eqb itself alike file after some in file_now p file c.0 c.1 ∙ sym (here_left file c.0 c.1)
        by (no not) (yes some) = let none : count eqb file after ≡ 0 = omega (arith, not) in file_gone p file none some ∙ sym (none_left file none)
        by (no not) (no off) =
            let none : count eqb file after ≡ 0 = omega (arith, not) in
            let had : count eqb file v.files ≡ 0 = omega (arith, off) in
            file_else p file none had ∙ none_there (fin.get p.files file) (λ some. let clash : false ≡ true = sym (ap is_some (none_was file had)) ∙ lent_so some in absurd cc) ∙ sym (none_left file none)

    -- one that the hand had
    now_of : (file : ℕ) (c : FileCell) → Has (file, c) v.files → fin.get (go p).files file ≡ fin.get left.files file
    now_of file c has = now_left file (λ _. ap is_some (here_was file c has))

    no_count : (file : ℕ) → fin.get was.files file ≡ None → count eqb file v.files ≡ 0
    no_count file none = by (dec_le 1 (count eqb file v.files))
      where
        by : Dec (1 ≤ count eqb file v.files) → count eqb file v.files ≡ 0
        by (yes some) = (let c = has_count eqb itself alike file v.files some in let clash : None ≡ Some c.0.value.file = sym none ∙ here_was file c.0 c.1 in absurd cc)
        by (no not) = omega (arith, not)

    -- one of another's hand stays
    now_else : (file : ℕ) → IsSome (fin.get p.files file) → fin.get was.files file ≡ None → fin.get (go p).files file ≡ fin.get p.files file
    now_else file there none = by (dec_le 1 (count eqb file after))
      where
        off : count eqb file v.files ≡ 0
        off = no_count file none

        by : Dec (1 ≤ count eqb file after) → fin.get (go p).files file ≡ fin.get p.files file
        by (no not) = file_else p file (omega (arith, not)) off
        by (yes some) = (let c = has_count eqb itself alike file after some in clash (had_or_new file c.0 c.1))
          where
            clash : ((b : FileCell) × Has (file, b) v.files) ⊎ (fin.get p.files file ≡ None) → fin.get (go p).files file ≡ fin.get p.files file
            clash (inl b) = (let x = count_has eqb itself alike file b.0 v.files b.1 in absurd (omega (arith, off, x)))
            clash (inr gone) = (let no : false ≡ true = sym (ap is_some gone) ∙ there in absurd cc)

    -- ---- what is told of commits

    abbrev mid_told : Commits
    mid_told = with_told serves.touched left.commits p.commits

    settled : HasSettled own (mid p) serves.touched
    settled = record {
      known = λ file is. ap is_some (same_told file is) ∙ h.settled.known file is;
      others = λ file not. told_else serves.touched left.commits p.commits file not;
      gone = λ file is none. told_here serves.touched left.commits p.commits file is ∙ h.settled.gone file is (left_is file is ∙ none);
      emptied = λ file s c is here extents bytes told. told_here serves.touched left.commits p.commits file is ∙ h.settled.emptied file s c is (left_is file is ∙ here) extents bytes (sym (same_told file is) ∙ told);
      kept = λ file s is here some. told_here serves.touched left.commits p.commits file is ∙ h.settled.kept file s is (left_is file is ∙ here) some ∙ sym (same_told file is);
    }
      where
        left_is : (file : ℕ) → serves.touched ≡ Some file → fin.get left.files file ≡ fin.get (go p).files file
        left_is file is = let c = touched_is file is in sym (now_of file c.0 c.1)

    left_to : (block : ℕ) → HasLeft (own_parts was) (own_parts left) serves.touched block → HasLeft own (mid p) serves.touched block
    left_to block x = (let c = touched_is x.file x.this in record { file = x.file; commits = x.commits; this = x.this; gone = now_of x.file c.0 c.1 ∙ x.gone; known = same_told x.file x.this ∙ x.known; held = x.held })

    left_back : (block : ℕ) → HasLeft own (mid p) serves.touched block → HasLeft (own_parts was) (own_parts left) serves.touched block
    left_back block x = (let c = touched_is x.file x.this in record { file = x.file; commits = x.commits; this = x.this; gone = sym (now_of x.file c.0 c.1) ∙ x.gone; known = sym (same_told x.file x.this) ∙ x.known; held = x.held })

    -- so the names served it with all, lent these
    whole : HasServedLent t ask own (mid p) was.files left.files serves.lent serves.given_back serves.touched f.reply desc
    whole = record {
      files = record { some = in_all; back = now_left; others = now_else };
      gathered = serves.gathered t parts.names asked;
      served = h.served;
      inodes = h.inodes;
      stay = serves.stay;
      was_table = h.was_table;
      table = h.table;
      counted = h.counted;
      noted = h.noted;
      together = h.together;
      apart = h.apart;
      pooled = h.pooled;
      pool = h.pool;
      taken = h.taken;
      is_taken = h.is_taken;
      fresh = h.fresh;
      alone = h.alone;
      settled = settled;
      dropped = λ block. (
        λ is. to block ((h.dropped block).0 is),
        λ is. (h.dropped block).1 (from block is),
      );
    }
      where
        to : (block : ℕ) → (setof.contains was.names.dropped block ≡ true) ⊎ ((setof.contains serves.given_back block ≡ true) ⊎ HasLeft (own_parts was) (own_parts left) serves.touched block)
            → (setof.contains was.names.dropped block ≡ true) ⊎ ((setof.contains serves.given_back block ≡ true) ⊎ HasLeft own (mid p) serves.touched block)
        to block (inl x) = inl x
        to block (inr (inl x)) = inr (inl x)
        to block (inr (inr x)) = inr (inr (left_to block x))

        from : (block : ℕ) → (setof.contains was.names.dropped block ≡ true) ⊎ ((setof.contains serves.given_back block ≡ true) ⊎ HasLeft own (mid p) serves.touched block)
            → (setof.contains was.names.dropped block ≡ true) ⊎ ((setof.contains serves.given_back block ≡ true) ⊎ HasLeft (own_parts was) (own_parts left) serves.touched block)
        from block (inl x) = inl x
        from block (inr (inl x)) = inr (inl x)
        from block (inr (inr x)) = inr (inr (left_back block x))

    its_request : IsNamesRequest t u own (mid p) serves.lent serves.given_back
    its_request = request g rest t ask own (mid p) serves.lent serves.given_back serves.touched f.reply desc server parts
        (lends g rest t ask own (mid p) was.files left.files serves.lent serves.given_back serves.touched f.reply desc server parts whole)

    -- of the others as much is told
    untouched : (file : ℕ) (c b : FileCell) → Has (file, c) after → Has (file, b) v.files → serves.touched ≢ Some file → c.value ≡ b.value
    untouched file c b has had not =
        let same_file : c.value.file ≡ b.value.file = same_some c.value.file b.value.file (sym (here_left file c has) ∙ h.served.untouched file (λ is. not (touched_of file b had is)) ∙ here_was file b had) in
        let number = serves.left_once.number file c has in
        let same_commits : fin.get left.commits c.value.file.file ≡ fin.get was.commits c.value.file.file = ap (fin.get left.commits) number ∙ h.settled.others file not ∙ sym (ap (fin.get was.commits) number) in
        sym (serves.left_files.here file c has).1 ∙ durable_by left.commits was.commits c.value.file same_commits ∙ ap (durable_in was.commits) same_file ∙ (serves.files.here file b had).1

    as_told : (file : ℕ) (s : FileState) → fin.get (go p).files file ≡ Some s → durable_in (go p).commits s ≡ durable_in (mid p).commits s
    as_told file s at = by (dec_le 1 (count eqb file after))
      where
        by : Dec (1 ≤ count eqb file after) → durable_in (go p).commits s ≡ durable_in (mid p).commits s
        by (yes some) = let x = has_count eqb itself alike file after some in its x.0 x.1
          where
            its : (c : FileCell) → Has (file, c) after → durable_in (go p).commits s ≡ durable_in (mid p).commits s
            its c has = subst (λ (r : FileState). durable_in (go p).commits r ≡ durable_in (mid p).commits r) (same_some c.value.file s (sym (file_now p file c has) ∙ at)) (all_told ∙ sym (touched_told (touched_or_not serves.touched file)))
              where
                number : c.value.file.file ≡ file
                number = serves.left_once.number file c has

                all_told : durable_in (go p).commits c.value.file ≡ c.value
                all_told = ap (λ (x : Option CommitState). state_of c.value.file (unwrap_or x (committed_as c.value.file))) (ap (fin.get (go p).commits) number ∙ commits_now p file c has)

                -- as it was left
                as_left : fin.get (mid p).commits file ≡ fin.get left.commits file → durable_in (mid p).commits c.value.file ≡ c.value
                as_left same = durable_by (mid p).commits left.commits c.value.file (ap (fin.get (mid p).commits) number ∙ same ∙ sym (ap (fin.get left.commits) number)) ∙ (serves.left_files.here file c has).1

                touched_told : (serves.touched ≡ Some file) ⊎ (serves.touched ≢ Some file) → durable_in (mid p).commits c.value.file ≡ c.value
                touched_told (inl is) = as_left (told_here serves.touched left.commits p.commits file is)
                touched_told (inr not) = there (had_or_new file c has) (dec_le 1 (count eqb file v.files))
                  where
                    stays_told : fin.get (mid p).commits file ≡ fin.get p.commits file
                    stays_told = told_else serves.touched left.commits p.commits file not

                    had : (b : FileCell) → Has (file, b) v.files → durable_in (mid p).commits c.value.file ≡ c.value
                    had b is =
                        let same = untouched file c b has is not in
                        let told : fin.get (mid p).commits c.value.file.file ≡ Some (told_of b) = ap (fin.get (mid p).commits) number ∙ stays_told ∙ (a.cells.files file b is).commits_are in
                        ap (λ (x : Option CommitState). state_of c.value.file (unwrap_or x (committed_as c.value.file))) told ∙ ap (λ (x : DurableState). state_of c.value.file (record { log = x.log; dropped = x.dropped })) (sym same)

                    there : ((b : FileCell) × Has (file, b) v.files) ⊎ (fin.get p.files file ≡ None) → Dec (1 ≤ count eqb file v.files) → durable_in (mid p).commits c.value.file ≡ c.value
                    there (inl b) other = had b.0 b.1
                    there (inr gone) (yes some) = let b = has_count eqb itself alike file v.files some in had b.0 b.1
                    there (inr gone) (no off) =
                        let none : count eqb file v.files ≡ 0 = omega (arith, off) in
                        let was_none : fin.get was.commits file ≡ None = none_there (fin.get was.commits file) (λ some. let b = told_was file some in let x = count_has eqb itself alike file b.0 v.files b.1 in absurd (omega (arith, none, x))) in
                        as_left (stays_told ∙ server.known file gone ∙ sym was_none ∙ sym (h.settled.others file not))
        by (no not) = by_else (dec_le 1 (count eqb file v.files))
          where
            none : count eqb file after ≡ 0
            none = omega (arith, not)

            by_else : Dec (1 ≤ count eqb file v.files) → durable_in (go p).commits s ≡ durable_in (mid p).commits s
            by_else (yes some) = (let clash : None ≡ Some s = sym (file_gone p file none some) ∙ at in absurd cc)
            by_else (no off) =
                let had : count eqb file v.files ≡ 0 = omega (arith, off) in
                let number : s.file ≡ file = (parts.files file s (sym (file_else p file none had) ∙ at)).0 in
                let free : serves.touched ≢ Some file = (λ is. let c = touched_is file is in let x = count_has eqb itself alike file c.0 v.files c.1 in absurd (omega (arith, had, x))) in
                durable_by (go p).commits (mid p).commits s (ap (fin.get (go p).commits) number ∙ commits_else p file none had ∙ sym (told_else serves.touched left.commits p.commits file free) ∙ sym (ap (fin.get (mid p).commits) number))

    -- nothing is told of a file that isn't here
    untold : (file : ℕ) → fin.get (go p).files file ≡ None → fin.get (go p).commits file ≡ None
    untold file gone = by (dec_le 1 (count eqb file after)) (dec_le 1 (count eqb file v.files))
      where
        by : Dec (1 ≤ count eqb file after) → Dec (1 ≤ count eqb file v.files) → fin.get (go p).commits file ≡ None
        by (yes some) other = (let c = has_count eqb itself alike file after some in let clash : None ≡ Some c.0.value.file = sym gone ∙ file_now p file c.0 c.1 in absurd cc)
        by (no not) (yes some) =
            let none : count eqb file after ≡ 0 = omega (arith, not) in
            let had : leb 1 (count eqb file v.files + count eqb file after) ≡ true = le-leb 1 (count eqb file v.files + count eqb file after) (omega (arith, some)) in
            commits_go p file ∙ (λ i. cond (had i) (commits_of (not_found p file none i)) (fin.get p.commits file))
        by (no not) (no off) =
            let none : count eqb file after ≡ 0 = omega (arith, not) in
            let had : count eqb file v.files ≡ 0 = omega (arith, off) in
            commits_else p file none had ∙ server.known file (sym (file_else p file none had) ∙ gone)

    -- ---- the entry

    goes_tree : tree_after start longer ≡ u
    goes_tree = tree_after-push start history e ∙ served_goes t f.client f.op f.reply serves.served ∙ (λ i. (posix t (serves.ask_client i) (serves.same_op i)).0)

    legal : IsLegal start longer
    legal = legal-push start history e a.legal (record { numbered = sym a.so_many; replied = inl (h.served.replied ∙ sym (λ i. (posix t (serves.ask_client i) (serves.same_op i)).1)) })
        (tells_new f.reply history (λ fault is. let clash : true ≡ false = sym (ap is_excused is) ∙ serves.served in absurd cc))

    named : fd_told ask.op f.reply ≡ fd_told f.op f.reply
    named = ap (λ o. fd_told o f.reply) (sym serves.same_op)

    fds_then : (fd : ℕ) → fin.get fds fd ≡ desc_at u f.client fd
    fds_then fd = by (touched_or_not (fd_told f.op f.reply) fd)
      where
        by : (fd_told f.op f.reply ≡ Some fd) ⊎ (fd_told f.op f.reply ≢ Some fd) → fin.get fds fd ≡ desc_at u f.client fd
        by (inl is) = serves.this_fd fd is ∙ h.served.told.this ∙ ap (desc_of_fd u.fds ask.client) (named ∙ is) ∙ ap (λ c. desc_at u c fd) (sym serves.ask_client)
        by (inr not) =
            serves.other_fds fd not ∙ its_fds fd ∙ ap (λ c. desc_at t c fd) serves.ask_client ∙ sym (h.served.told.others ask.client fd (inr (λ is. not (sym named ∙ is)))) ∙ ap (λ c. desc_at u c fd) (sym serves.ask_client)

    -- a file that the hand neither had nor has has the bytes that it had
    bytes_else : (file : ℕ) → count eqb file v.files ≡ 0 → count eqb file after ≡ 0 → fin.get u.bytes file ≡ fin.get t.bytes file
    bytes_else file none off = by (one_or_apart file t.next)
      where
        by : (file ≡ t.next) ⊎ (file ≢ t.next) → fin.get u.bytes file ≡ fin.get t.bytes file
        by (inr not) = h.served.go_on.others file (none_was file none) not
        by (inl is) =
            let next : (is_some (fin.get was.files file) || (file == t.next)) ≡ true = (let same : (file == t.next) ≡ true = grind (arith, nat_tests, is) in (λ i. (is_some (none_was file none i) || same i))) in
            let now = is_none_of (fin.get u.bytes file) (and_none (is_some (fin.get was.files file) || (file == t.next)) (is_some (fin.get u.bytes file)) next (sym (h.served.go_on.here file) ∙ ap is_some (none_left file off))) in
            let before = none_there (fin.get t.bytes file) (λ some. let less = parts.names.tree.numbered file some in absurd (omega (arith, less, is))) in
            now ∙ sym before

    -- a block that isn't in memory wasn't before, and stays as it was
    away_so : (file place : ℕ) (c : FileCell) → Has (file, c) after → IsAbsent c place → ((b : FileCell) × Has (file, b) v.files × IsAbsent b place) × (bytes_at u file place ≡ bytes_at t file place)
    away_so file place c has absent = by (there_or_not (fin.get was.files file))
      where
        -- an empty file has no such block
        empty : (inode : ℕ) → HasNoByte u file inode c.value.file → ((b : FileCell) × Has (file, b) v.files × IsAbsent b place) × (bytes_at u file place ≡ bytes_at t file place)
        empty inode x = (let clash : None ≡ Some false = sym (ap (λ (s : FileState). slice_get s.content.there place) x.0) ∙ absent in absurd cc)

        by : ((s : FileState) × (fin.get was.files file ≡ Some s)) ⊎ (fin.get was.files file ≡ None) → ((b : FileCell) × Has (file, b) v.files × IsAbsent b place) × (bytes_at u file place ≡ bytes_at t file place)
        by (inr none) = empty c.value.file.inode (h.served.go_on.born file c.value.file none (here_left file c has))
        by (inl at) = stays_or (h.served.go_on.stays file at.0 c.value.file at.1 (here_left file c has))
          where
            stays_or : ((c.value.file ≡ at.0) × (fin.get u.bytes file ≡ fin.get t.bytes file)) ⊎ HasNoByte u file at.0.inode c.value.file → ((b : FileCell) × Has (file, b) v.files × IsAbsent b place) × (bytes_at u file place ≡ bytes_at t file place)
            stays_or (inr x) = empty at.0.inode x
            stays_or (inl x) =
                let b = serves.files.back file (ap is_some at.1) in
                let same : b.0.value.file ≡ c.value.file = same_some b.0.value.file c.value.file (sym (here_was file b.0 b.1) ∙ at.1 ∙ ap Some (sym x.0)) in
                ((b.0, b.1, ap (λ (s : FileState). slice_get s.content.there place) same ∙ absent), ap (λ (o : Option (List ℕ)). own_bytes (unwrap_or o []) place) x.1)

    to : DrawsTo g v f l ticket go start history p rest
    to = record {
      legal = legal;
      served = who t its_fds;
      fds = λ fd. fds_then fd ∙ ap (λ (q : PosixTree). desc_at q f.client fd) (sym goes_tree);
      others = λ c not fd. sym (h.served.told.others c fd (inl (λ is. not (is ∙ sym serves.ask_client)))) ∙ ap (λ (q : PosixTree). desc_at q c fd) (sym goes_tree);
      parts = subst (ArePartsOf (go p)) (sym goes_tree) (parts_told (mid p) (go p).commits as_told u (go_on t u own (mid p) serves.lent serves.given_back its_request));
      none_lost = λ b is. names_had b (names_keep t u own (mid p) serves.lent serves.given_back rest its_request b (serves.unlent b) (subst (λ (q : Parts). IsHad q rest b) same_own is));
      server = sound_told (mid p) (go p).commits as_told g rest untold (sounds g rest t u own (mid p) serves.lent serves.given_back its_request server);
      away = λ file place c has absent. let x = away_so file place c has absent in (x.0, ap (λ (q : PosixTree). bytes_at q file place) goes_tree ∙ x.1);
      elsewhere = λ file none off. ap (λ (q : PosixTree). fin.get q.bytes file) goes_tree ∙ bytes_else file none off;
      new = λ file none some. let c = has_count eqb itself alike file after some in new_of file none (had_or_new file c.0 c.1);
    }
      where
        -- of all files is told what is told of the touched one
        names_had : (b : ℕ) → IsHad (mid p) rest b → IsHad (go p) rest b
        names_had b (OfFile file owns) = OfFile file (record { hand = owns.hand; here = owns.here; held = ap (λ (x : DurableState). has (blocks_held x) b) (as_told file owns.hand owns.here) ∙ owns.held })
        names_had b (OfPool is) = OfPool is
        names_had b (IsFree is) = IsFree is
        names_had b (IsDropped is) = IsDropped is
        names_had b (OfDir dir is) = OfDir dir is

        new_of : (file : ℕ) → count eqb file v.files ≡ 0 → ((b : FileCell) × Has (file, b) v.files) ⊎ (fin.get p.files file ≡ None) → fin.get p.files file ≡ None
        new_of file none (inl b) = (let x = count_has eqb itself alike file b.0 v.files b.1 in absurd (omega (arith, none, x)))
        new_of file none (inr gone) = gone

    -- ---- the disk

    -- a file that the request doesn't touch has the changes that it had
    unchanged : (file : ℕ) → (IsTouched t ask file → ⊥) → changes_of file start longer ≡ changes_of file start history
    unchanged file off = beside start history e file legal (λ is. off (subst (λ (q : ℕ × Op). IsPartOf (touched_parts (tree_after start history) q.0 q.1) (part_name.File file)) (λ i. (serves.ask_client i, serves.same_op i)) is))

    no_change : (file : ℕ) → fin.get t.bytes file ≡ None → changes_of file start longer ≡ changes_of file start history
    no_change file none = changes_of-push file start history e ∙ ap (λ xs. changes_of file start history ++ xs) (by (is_served f.reply) (is_number file (file_changed t f.client f.op)) refl) ∙ append-nil (changes_of file start history)
      where
        by : (x y : Bool) → is_number file (file_changed t f.client f.op) ≡ y → cond (x && y) (change_asked t f.client f.op) [] ≡ []
        by false y is = refl
        by true false is = refl
        by true true is = (let clash : false ≡ true = sym (ap is_some none) ∙ changed_live t parts.names.tree f.client f.op file (number_is file (file_changed t f.client f.op) is) in absurd cc)

    changes_else : (file : ℕ) → count eqb file v.files ≡ 0 → changes_of file start longer ≡ changes_of file start history
    changes_else file none = by (there_or_not (fin.get t.bytes file))
      where
        by : ((x : List ℕ) × (fin.get t.bytes file ≡ Some x)) ⊎ (fin.get t.bytes file ≡ None) → changes_of file start longer ≡ changes_of file start history
        by (inr gone) = no_change file gone
        by (inl at) = unchanged file (λ is. let clash : false ≡ true = sym (ap is_some (none_was file none)) ∙ serves.gathered t parts.names asked file is (ap is_some at.1) in cc)

    changed_so : (file : ℕ) (c : FileCell) → IsNextCell v.files was.names.value.next ticket serves.touched file c → (c.changed ≡ suc ticket) ⊎ (Has (file, c) v.files × (changes_of file start longer ≡ changes_of file start history))
    changed_so file c (Stays had not) = inr (had, unchanged file (λ is. not (touched_of file c had is)))
    changed_so file c (Changes b had is) = inl (ap (λ (q : FileCell). q.changed) is)
    changed_so file c (IsNew none next is) = inl (ap (λ (q : FileCell). q.changed) is)

    kept : (s : StoreState) (known : Known) → geometry_of_store s ≡ g → s.unassigned.free ≡ rest → IsDiskKept s start history p known → IsDiskKept s start longer (go p) known
    kept s known formed is_rest on =
        kept_told (mid p) (go p).commits as_told s start longer known
        (stays s start history e ask own (mid p) known was.files left.files serves.lent serves.given_back serves.touched f.reply desc formed legal serves.no_commit goes_tree whole
        (subst (λ (q : BlockSet). IsSoundServer g q own) (sym is_rest) server) (subst (λ (q : Parts). IsDiskKept s start history q known) same_own on))

    disk : DrawsOnDisk g v f l ticket go start history p rest
    disk = record {
      kept = λ s known formed is_rest knows on. kept s known formed is_rest on;
      files = λ file c has. changed_so file c (serves.cells file c has);
      others = λ file none off. changes_else file none;
      names = λ u c has. inl (ap (λ (q : NamesCell). q.changed) (only_names u c has ∙ serves.names_is));
      no_names = λ none. absurd cc;
    }

  pub may_draw : MayDraw g visible v f l ticket
  may_draw = record {
    self = part;
    client = subst (λ c. Has (c, part) v.clients) (sym by_client.by_client) has_part;
    low = let x = by_client.low in let y = by_client.by_client in omega (arith, x, y);
    seq = by_client.seq;
    asked = by_client.asked;
    device = λ fault is. let clash : true ≡ false = sym (ap is_excused is) ∙ serves.served in absurd cc;
    stopped = λ fault is. let clash : true ≡ false = sym (ap is_excused is) ∙ serves.served in absurd cc;
    committed = λ fault by is. let clash : true ≡ false = sym (ap is_excused is) ∙ serves.served in absurd cc;
    asks = λ fault is. let clash : true ≡ false = sym (ap is_excused is) ∙ serves.served in absurd cc;
    others = serves.other_fds;
    next = go;
    goes = λ p _ _. goes p;
    pool = λ p _ _. sym (pooled_one n left.pool);
    single = serves.left_once.once;
    same_names = λ u. sym (ap (count only_one u) hand.names_are);
    same_pools = λ m. sym (ap (count eqb m) hand.pools);
    pools_apart = λ m k one other b x y _ _. only_pool m one x ∙ sym (only_pool k other y);
    fewer = λ b is. subst (λ (q : BlockSet). setof.contains q b ≡ true) (sym its_pool) (serves.fewer b (subst (λ (q : BlockSet). setof.contains q b ≡ true) (pooled_one n left.pool) is));
    known = λ file c has. known_so file c (serves.cells file c has);
    names_known = λ u c has. (was.names, has_names, ap (λ (q : NamesCell). q.known) (only_names u c has ∙ serves.names_is), ap (λ (q : NamesCell). q.named) (only_names u c has ∙ serves.names_is));
    to = to;
    disk = λ _. disk;
  }
    where
      known_so : (file : ℕ) (c : FileCell) → IsNextCell v.files was.names.value.next ticket serves.touched file c → IsUnknown c ⊎ ((b : FileCell) × Has (file, b) v.files × (c.known ≡ b.known) × (c.born ≡ b.born))
      known_so file c (Stays had not) = inr (c, had, refl, refl)
      known_so file c (Changes b had is) = inr (b, had, ap (λ (q : FileCell). q.known) is, ap (λ (q : FileCell). q.born) is)
      known_so file c (IsNew none next is) = inl (record { known = ap (λ (q : FileCell). q.known) is; born = ap (λ (q : FileCell). q.born) is })

pub names_requests_may_draw : LentIsServed → ServedIsRequest → RequestsGoOn → RequestsAreSound → FilesStayBeside → (g : Geometry) → LentRequestsStayKept g → NamesRequestsMayDraw g
names_requests_may_draw lends request go_on sounds beside g stays visible v client part n f ticket ask desc fds after was left hand by_client serves who =
    may_draw lends request go_on sounds beside g stays visible v client part n f ticket ask desc fds after was left hand by_client serves who
