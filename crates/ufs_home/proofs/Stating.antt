-- What the calls on parts of the primary's files leave, put together.
use Rattle.std.proofs.Common.{◌≡◌, ◌≤◌, ◌<◌, ◌^◌, ℕ, zero, suc, ◌⊎◌, inl, inr, Bool, true, false, cond, List, [], ◌∷◌, ◌++◌, length, Option, Some, None, is_some, not, Result, Ok, Err, refl, ap, sym, ◌∙◌, subst, arith}
use Rattle.std.specs.Prelude.{IfOk, OnErr, OnOk}
use Rattle.std.specs.FinMap as fin
use Rattle.ufs_joint.specs.Cells.{FileCell, Start}
use Rattle.ufs_msg.specs.There.{worker_count}
use Rattle.ufs_owner.specs.Owners.{Files, Owners, note_at, owner_at, recalled, waiting_at, with_owner, with_waiting}
use Rattle.ufs_owner.specs.declared.owner.Owner.{Owner}
use Rattle.ufs_owner.specs.declared.owner.Owner.TheVariants.{Primary, Coming, Going}
use Rattle.ufs_held.specs.Parcel.{IsOut}
use Rattle.ufs_home.specs.Home.{HomeState, IsHome, called_back, called_by, called_for, come_on, from_of, home_of, is_waited, onward}
use Rattle.ufs_home.specs.Letters.{Boxes, posted}
use Rattle.ufs_home.specs.Owning.{AreKnown}
use Rattle.ufs_home.specs.Places.{Places, file_here, with_place}
use Rattle.ufs_model.proofs.Facts.Lookups.{same_some}
use Rattle.ufs_home.proofs.Knowing.{at_primary, known_owner, known_waiting, of_worker}
use Rattle.ufs_base.specs.declared.lack.Lack.{Lack}
use Rattle.ufs_home.specs.Moves.{IsMoved, IsOrdered, order_of}
use Rattle.ufs_home.specs.declared.moved.Moved.{Moved}
use Rattle.ufs_home.specs.declared.moved.Moved.TheVariants as moved
use Rattle.ufs_home.proofs.Ordering.{boxes_moved, known_moved, sent_some}
use Rattle.ufs_home.proofs.Posting.{posted_length}
use Rattle.ufs_home.proofs.Shelves.{over, placed_away, placed_empty, undone}
use Rattle.ufs_owner.proofs.OwnerFacts.{has_owner, owner_keeps_waiting}

pub none_is : {A : Type 0} (o : Option A) → is_some o ≡ false → o ≡ None
none_is None is = refl
none_is (Some x) is = absurd cc

-- ---- still the files of the primary

pub still_home : (k : Start) (workers : ℕ) (owners then : Files) (boxes new : Boxes) → IsHome k workers owners boxes → AreKnown workers then → length new ≡ length boxes → IsHome k workers then new
still_home k workers owners then boxes new h known same = record { all = h.all; each = same ∙ h.each; known = known }

-- ---- a file came, and may go on

few_onward : (b : Bool) (note workers : ℕ) → note ≤ workers → cond b 0 note ≤ workers
few_onward true note workers few = omega arith
few_onward false note workers few = few

come_on_home : (k : Start) (workers : ℕ) (h : HomeState) (c : FileCell) (to : ℕ) → IsHome k workers h.owners h.letters → to ≤ workers → IsHome k workers (come_on h c to).owners (come_on h c to).letters
come_on_home k workers h c zero inv few = record { all = inv.all; each = inv.each; known = known_owner workers h.owners c.value.file.file Primary 0 inv.known (at_primary workers) (omega arith) }
come_on_home k workers h c (suc n) inv few = record {
  all = inv.all;
  each = posted_length h.letters (suc n) (inl c) ∙ inv.each;
  known = known_owner workers (with_owner h.owners c.value.file.file Primary 0) c.value.file.file (Going (suc n)) 0
      (known_owner workers h.owners c.value.file.file Primary 0 inv.known (at_primary workers) (omega arith)) (of_worker workers (suc n) (omega arith) few) (omega arith);
}

module _ {E : Type 0} (h : HomeState) (places new : Places) (owners then : Files) (boxes letters : Boxes) (is : home_of places owners boxes ≡ h) (c : FileCell) where
  pub came : (r : Result ℕ E) → IfOk r (λ to. home_of new then letters ≡ come_on (home_of places owners boxes) c to) → IfOk r (λ to. home_of new then letters ≡ come_on h c to)
  came (Ok to) so = so ∙ ap (λ (g : HomeState). come_on g c to) is
  came (Err e) so = tt

  pub stayed : (r : Result ℕ E) → OnErr r (home_of new then letters ≡ home_of places owners boxes) → OnErr r (home_of new then letters ≡ h)
  stayed (Ok to) so = tt
  stayed (Err e) so = so ∙ is

  pub came_known : (k : Start) (workers : ℕ) (r : Result ℕ E) → IfOk r (λ to. home_of new then letters ≡ come_on (home_of places owners boxes) c to) → IfOk r (λ to. to ≡ onward owners c.value.file.file)
      → OnErr r (home_of new then letters ≡ home_of places owners boxes) → IsHome k workers owners boxes → IsHome k workers then letters
  came_known k workers (Ok to) so where' err inv =
      let one = inv.known c.value.file.file in
      subst (λ (g : HomeState). IsHome k workers g.owners g.letters) (sym so)
      (come_on_home k workers (home_of places owners boxes) c to inv (subst (λ (n : ℕ). n ≤ workers) (sym where') (few_onward (is_waited owners c.value.file.file) (note_at owners c.value.file.file) workers one.note)))
  came_known k workers (Err e) so where' err inv = subst (λ (g : HomeState). IsHome k workers g.owners g.letters) (sym err) inv

-- ---- a file that goes on

module _ (was is : Owners) (f : ℕ) (so : is ≡ record was { files = with_owner was.files f Primary 0 }) where
  pub settled_here : owner_at is.files f ≡ Primary
  settled_here = ap (λ (o : Owners). owner_at o.files f) so ∙ has_owner was.files f Primary 0

  pub settled_nobody : waiting_at was.files f ≡ [] → waiting_at is.files f ≡ []
  settled_nobody none = ap (λ (o : Owners). waiting_at o.files f) so ∙ owner_keeps_waiting was.files f Primary 0 ∙ none

  pub settled_spare : 0 < was.spare → 0 < is.spare
  settled_spare some = subst (λ (o : Owners). 0 < o.spare) (sym so) some

module _ (places new : Places) (owners then : Files) (boxes letters : Boxes) (c : FileCell) (f : ℕ) (number : f ≡ c.value.file.file) (away : file_here places c.value.file.file ≡ None) (placed : new ≡ with_place places f) where
  pub is_away : file_here new f ≡ None
  is_away = (λ i. file_here (placed i) f) ∙ placed_away places f (ap (file_here places) number ∙ away)

  pub passed_on : (to : ℕ) → 1 ≤ to → then ≡ with_owner (with_owner owners f Primary 0) f (Going to) 0 → letters ≡ posted boxes to (inl c) → home_of new then letters ≡ come_on (home_of places owners boxes) c to
  passed_on zero some owned mailed = absurd (omega (arith, some))
  passed_on (suc m) some owned mailed =
      let n = c.value.file.file in
      let p : new ≡ fin.insert (fin.insert places n (Some c)) n None = placed ∙ ap (with_place places) number ∙ placed_empty places n away ∙ sym (over places n (Some c) None) in
      let o : then ≡ with_owner (with_owner owners n Primary 0) n (Going (suc m)) 0 = owned ∙ ap (λ (m' : ℕ). with_owner (with_owner owners m' Primary 0) m' (Going (suc m)) 0) number in
      (λ i. home_of (p i) (o i) (mailed i))

  pub not_passed : (made : Bool) (then' : Places) → made ≡ not (is_some (fin.get places f)) → then' ≡ cond made (fin.remove new f) new → then ≡ owners → letters ≡ boxes → home_of then' then letters ≡ home_of places owners boxes
  not_passed made then' is unmade owned mailed =
      let p : then' ≡ places = unmade ∙ (λ i. cond made (fin.remove (placed i) f) (placed i)) ∙ undone places f made is in
      (λ i. home_of (p i) (owned i) (mailed i))

-- ---- a file that came

module _ {E : Type 0} where
  pub on_ok_at : (A : Boxes → Type 0) (r : Result ℕ E) (b : Boxes) → OnOk r ((bs : Boxes) → A bs) → OnOk r (A b)
  on_ok_at A (Ok to) b is = is b
  on_ok_at A (Err e) b is = tt

module _ {E : Type 0} (h g : HomeState) (c : FileCell) where
  pub came_so : (r : Result ℕ E) (n : ℕ) → OnOk r (g ≡ come_on h c n) → IfOk r (λ to. to ≡ n) → IfOk r (λ to. g ≡ come_on h c to)
  came_so (Ok to) n so is = so ∙ ap (come_on h c) (sym is)
  came_so (Err e) n so is = tt

-- ---- a file that is sent

pub may_leave : (places : Places) (file : ℕ) (c d : FileCell) → file_here places file ≡ Some c → c.born ≡ true → file_here places file ≡ Some d → d.value.file.file < 2 ^ 31 → IsOut d
may_leave places file c d at born is low = record { low = low; born = ap (λ (x : FileCell). x.born) (sym (same_some c d (sym at ∙ is))) ∙ born }

pub inl_one : {A B : Type 0} (x y : A) → ◌≡◌ {A = A ⊎ B} (inl x) (inl y) → x ≡ y
inl_one x y is = cc

-- ---- a file is asked for

module _ (workers : ℕ) (k : Start) (places : Places) (owners then : Files) (boxes new : Boxes) (inv : IsHome k workers owners boxes) (file worker : ℕ) (o : Owner) (at : o ≡ owner_at owners file) (from : recalled o ≡ Coming worker) where
  -- the worker is there
  pub asks_one : (1 ≤ worker) × (worker ≤ length boxes)
  asks_one =
      let one = inv.known file in
      let there = one.owner worker (ap recalled (sym at) ∙ from) in
      (there.0, subst (λ (n : ℕ). worker ≤ n) (sym inv.each) there.1)

  -- it is coming from there, and goes on to the one that is noted
  pub asked_so : (to : ℕ) → then ≡ with_owner owners file (Coming worker) to → new ≡ posted boxes worker (inr file) → home_of places then new ≡ called_back (home_of places owners boxes) file to
  asked_so to owned mailed = (λ i. home_of places (owned i) (mailed i)) ∙ ap (λ (q : Owner). home_of places (with_owner owners file q to) (posted boxes (from_of q) (inr file))) (sym from ∙ ap recalled at)

  pub asked_home : (to : ℕ) → to ≤ workers → then ≡ with_owner owners file (Coming worker) to → new ≡ posted boxes worker (inr file) → IsHome k workers then new
  asked_home to few owned mailed =
      let one = inv.known file in
      record {
        all = inv.all;
        each = ap length mailed ∙ posted_length boxes worker (inr file) ∙ inv.each;
        known = subst (AreKnown workers) (sym owned) (known_owner workers owners file (Coming worker) to inv.known (λ w is. one.owner w (ap recalled (sym at) ∙ from ∙ is)) few);
      }

  module _ {X E : Type 0} (h : HomeState) (view : home_of places owners boxes ≡ h) (called : (g : HomeState) → called_by o g file ≡ called_back g file 0) where
    pub called_ok : (r : Result X E) → OnOk r ((then ≡ with_owner owners file (Coming worker) 0) × (new ≡ posted boxes worker (inr file))) → OnOk r (home_of places then new ≡ called_for h file)
    called_ok (Ok x) both =
        asked_so 0 both.0 both.1 ∙ sym (called (home_of places owners boxes)) ∙ ap (λ (q : Owner). called_by q (home_of places owners boxes) file) at ∙ ap (λ (g : HomeState). called_for g file) view
    called_ok (Err e) both = tt

    pub called_err : (r : Result X E) → OnErr r ((then ≡ owners) × (new ≡ boxes)) → OnErr r (home_of places then new ≡ h)
    called_err (Ok x) both = tt
    called_err (Err e) both = (λ i. home_of places (both.0 i) (both.1 i)) ∙ view

    pub called_home : (r : Result X E) → OnOk r ((then ≡ with_owner owners file (Coming worker) 0) × (new ≡ posted boxes worker (inr file))) → OnErr r ((then ≡ owners) × (new ≡ boxes)) → IsHome k workers then new
    called_home (Ok x) both none = asked_home 0 (omega arith) both.0 both.1
    called_home (Err e) both none = subst (λ (bs : Boxes). IsHome k workers then bs) (sym none.1) (subst (λ (os : Files). IsHome k workers os boxes) (sym none.0) inv)

-- ---- who has it is there

pub named_there : (workers : ℕ) (k : Start) (owners : Files) (boxes : Boxes) → IsHome k workers owners boxes → (file worker : ℕ) (o : Owner) → o ≡ owner_at owners file → recalled o ≡ Coming worker → (1 ≤ worker) × (worker ≤ worker_count k)
named_there workers k owners boxes inv file worker o at from =
    let one = inv.known file in
    let there = one.owner worker (ap recalled (sym at) ∙ from) in
    (there.0, subst (λ (n : ℕ). worker ≤ n) inv.all there.1)

-- ---- a file is ordered elsewhere

pub moved_home : (k : Start) (workers : ℕ) (h g : HomeState) (file to : ℕ) (m : Moved) → IsHome k workers h.owners h.letters → to ≤ workers → (m ≡ moved.Sent → 1 ≤ to) → IsMoved h g file to m → IsHome k workers g.owners g.letters
moved_home k workers h g file to m inv few some is = record { all = inv.all; each = boxes_moved h g file to m is ∙ inv.each; known = known_moved workers h g file to m inv.known few some is }

pub ordered_some : (o : Owner) (waited : Bool) (to : ℕ) (m : Moved) → IsOrdered (order_of o waited to) m → m ≡ moved.Sent → 1 ≤ to
ordered_some o waited to m (inl e) is = sent_some o waited to (sym e ∙ is)
ordered_some o waited to m (inr l) is = absurd (no_lack l.0 (sym l.1 ∙ is))
  where
    no_lack : (x : Lack) → moved.Lack x ≡ moved.Sent → ⊥
    no_lack x e = cc

-- ---- a client waits

module _ {X E : Type 0} (workers : ℕ) (was is : Owners) (file : ℕ) (clients : List ℕ) where
  pub waits_known : (r : Result X E) → OnOk r (is ≡ record was { files = with_waiting was.files file clients }) → OnErr r (is ≡ was) → AreKnown workers was.files → AreKnown workers is.files
  waits_known (Ok x) so none all = subst (λ (o : Owners). AreKnown workers o.files) (sym so) (known_waiting workers was.files file clients all)
  waits_known (Err e) so none all = subst (λ (o : Owners). AreKnown workers o.files) (sym none) all

module _ {X E : Type 0} (h : HomeState) (places : Places) (was is : Owners) (boxes : Boxes) (view : home_of places was.files boxes ≡ h) (file client : ℕ) where
  pub waits_so : (r : Result X E) → OnOk r (is ≡ record was { files = with_waiting was.files file (waiting_at was.files file ++ client ∷ []) }) → OnOk r (home_of places is.files boxes ≡ record h { owners = with_waiting h.owners file (waiting_at h.owners file ++ client ∷ []) })
  waits_so (Ok x) so = ap (λ (o : Owners). home_of places o.files boxes) so ∙ ap (λ (g : HomeState). record g { owners = with_waiting g.owners file (waiting_at g.owners file ++ client ∷ []) }) view
  waits_so (Err e) so = tt

  pub waits_not : (r : Result X E) → OnErr r (is ≡ was) → OnErr r (home_of places is.files boxes ≡ h)
  waits_not (Ok x) so = tt
  waits_not (Err e) so = ap (λ (o : Owners). home_of places o.files boxes) so ∙ view
