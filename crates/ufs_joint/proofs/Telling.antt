-- Files that are told their births keep the sound state.
use Rattle.std.proofs.Common.{◌≡◌, ℕ, ◌≤◌, inl, ⊎_elim, true, ◌||◌, eqb, List, [], ◌∷◌, length, set, take, Option, Some, None, sym, refl, ap, ◌∙◌, subst, arith}
use mathlib.Core.Option.{some}
use native.Mathlib.Decide.{dec_le}
use lib.ListN.{get_elem?}
use Rattle.std.specs.FinSet as setof
use Rattle.std.specs.List.{slice_get}
use Rattle.ufs_file_commits.specs.State.{DurableState}
use Rattle.ufs_model.specs.declared.data.Entry.{Entry}
use Rattle.ufs_promise_laws.specs.FileRequests.{with_free}
use Rattle.ufs_crash_laws.specs.Changes.{changes_of}
use Rattle.ufs_hand_laws.specs.Owned.{Has, count, one, replaced}
use Rattle.ufs_hand_laws.specs.Parts.{only_one}
use Rattle.ufs_hand_laws.proofs.Keys.{alike, itself}
use Rattle.ufs_hand_laws.proofs.Owning.{all_set, each_has, has_count, has_each, replaced_back, replaced_else, replaced_here, same_holds, weigh_each}
use Rattle.ufs_joint.specs.Cells.{FileCell, NamesCell, Start, View, Word, World, store_of}
use Rattle.ufs_joint.specs.Laws.{TellKeeps}
use Rattle.ufs_joint.specs.Marks.{births_told, with_birth}
use Rattle.ufs_joint.specs.Picks.{IsAbsent}
use Rattle.ufs_joint.specs.Sound.{IsDiskSound, IsHeld, IsSound}
use Rattle.ufs_joint.specs.Whole.{ArePartsIn, birth_known, birth_known_by, changes_known, commits_of, hand_of, known_in}
use Rattle.ufs_joint.proofs.Blocks.{or_cases, or_left, or_right}
use Rattle.ufs_joint.proofs.Exchange.{kind_exchanged, names_are, single_of}
use Rattle.ufs_joint.proofs.FaultsTold.{faults_same}
use Rattle.ufs_promise_laws.specs.Known.{IsMore}
use Rattle.ufs_joint.proofs.Forgetting.{less_is_kept}

module _ (k : Start) (word : Word) (views : List View) (i : ℕ) (v : View) (names : NamesCell) (o : IsSound k word views) (at : get_elem? views i ≡ some v) (has : v.names ≡ (tt, names) ∷ []) where
  abbrev G : World
  G = o.world

  abbrev w : View
  w = births_told names v

  abbrev next : World
  next = record { client = G.client; asked = G.asked; file = replaced eqb v.files w.files G.file; pool = G.pool; names = G.names; store = G.store }

  counts : (n : ℕ) → count eqb n w.files ≡ count eqb n v.files
  counts n = weigh_each (with_birth names.named) (λ x. one (eqb n x)) v.files

  single : (n : ℕ) → count eqb n w.files ≤ 1
  single n = single_of views i v w at (λ (u : View). u.files) G.file o.one_hand.files counts n

  its_names : G.names ≡ names
  its_names = names_are views i v v at G o.one_hand tt names (subst (Has (tt, names)) (sym has) (inl refl))

  -- the file is as it was, but for its birth
  pub record IsTold (file : ℕ) (c : FileCell) : Type 0 where
    pub before : FileCell
    pub was : G.file file ≡ Some before
    pub value : c.value ≡ before.value
    pub changed : c.changed ≡ before.changed
    pub known : c.known ≡ before.known
    pub born : c.born ≡ true → (before.born || setof.contains G.names.named file) ≡ true

  file_case : (file : ℕ) (c : FileCell) → next.file file ≡ Some c → IsTold file c
  file_case file c is = ⊎_elim
      (λ x.
      let y = has_each (with_birth names.named) file c v.files x in
      record {
        before = y.0;
        was = o.one_hand.files.agree i v at file y.0 y.1;
        value = ap (λ (z : FileCell). z.value) (sym y.2);
        changed = ap (λ (z : FileCell). z.changed) (sym y.2);
        known = ap (λ (z : FileCell). z.known) (sym y.2);
        born = λ b. ap (λ (n : NamesCell). y.0.born || setof.contains n.named file) its_names ∙ ap (λ (z : FileCell). z.born) y.2 ∙ b;
      })
      (λ (x : (count eqb file v.files ≡ 0) × (count eqb file w.files ≡ 0) × (G.file file ≡ Some c)). record { before = c; was = x.2; value = refl; changed = refl; known = refl; born = λ b. or_left c.born (setof.contains G.names.named file) b })
      (replaced_back eqb itself alike v.files w.files G.file single file c is)

  -- so a server has the same of it
  same_of : {A : Type 0} (of : Option FileCell → A) → ((file : ℕ) (c : FileCell) → of (Some (with_birth names.named file c)) ≡ of (Some c)) → (file : ℕ) → of (G.file file) ≡ of (next.file file)
  same_of of same file = by (dec_le 1 (count eqb file v.files))
    where
      by : Dec (1 ≤ count eqb file v.files) → of (G.file file) ≡ of (next.file file)
      by (yes l) =
          let c = has_count eqb itself alike file v.files l in
          ap of (o.one_hand.files.agree i v at file c.0 c.1) ∙ sym (same file c.0) ∙ sym (ap of (replaced_here eqb itself alike v.files w.files G.file single file (with_birth names.named file c.0) (each_has (with_birth names.named) file c.0 v.files c.1)))
      by (no l) = let none : count eqb file v.files ≡ 0 = omega (arith, l) in sym (ap of (replaced_else eqb itself alike v.files w.files G.file file none (let c = counts file in omega (arith, c, none))))

  was_absent : (c before : FileCell) (place : ℕ) → c.value ≡ before.value → IsAbsent c place → IsAbsent before place
  was_absent c before place same absent = ap (λ (x : DurableState). slice_get x.file.content.there place) (sym same) ∙ absent

  held : IsHeld (set views i w) next
  held = record {
    clients = same_holds eqb (λ (u : View). u.clients) G.client views i v w at refl o.one_hand.clients;
    asked = same_holds eqb (λ (u : View). u.asked) G.asked views i v w at refl o.one_hand.asked;
    files = kind_exchanged views i v w at (λ (u : View). u.files) G.file o.one_hand.files counts;
    pools = same_holds eqb (λ (u : View). u.pools) G.pool views i v w at refl o.one_hand.pools;
    names = same_holds only_one (λ (u : View). u.names) (λ _. Some G.names) views i v w at refl o.one_hand.names;
    store = same_holds only_one (λ (u : View). u.store) (λ _. Some G.store) views i v w at refl o.one_hand.store;
  }

  parts_then : ArePartsIn next o.parts
  parts_then = record {
    files = λ file. o.parts_in.files file ∙ same_of hand_of (λ f c. refl) file;
    commits = λ file. o.parts_in.commits file ∙ same_of commits_of (λ f c. refl) file;
    names = o.parts_in.names;
    pool = o.parts_in.pool;
  }

  less : (g : List Entry) → IsMore (known_in k.tree g next) (known_in k.tree g G)
  less g = record { names = omega arith; files = λ file. files_at file (next.file file) refl; born = λ file. born_at file (next.file file) refl }
    where
      files_at : (file : ℕ) (c : Option FileCell) → next.file file ≡ c → changes_known k.tree g file c ≤ changes_known k.tree g file (G.file file)
      files_at file None is = omega arith
      files_at file (Some c) is =
          let x = file_case file c is in
          let a = ap (changes_known k.tree g file) x.was in let b = ap (λ q. length (changes_of file k.tree (take q g))) x.known in
          omega (arith, a, b)

      born_at : (file : ℕ) (c : Option FileCell) → next.file file ≡ c → birth_known_by k.tree g G.names.named file c ≡ true → birth_known_by k.tree g G.names.named file (G.file file) ≡ true
      born_at file None is born = or_right (birth_known k.tree g (G.file file)) (setof.contains G.names.named file) born
      born_at file (Some c) is born =
          let x = file_case file c is in
          ap (birth_known_by k.tree g G.names.named file) x.was ∙ ⊎_elim (λ b. x.born b) (λ b. or_right x.before.born (setof.contains G.names.named file) b) (or_cases c.born (setof.contains G.names.named file) born)

  disk_then : k.is_visible ≡ true → IsDiskSound k word o.history next o.parts o.free
  disk_then visible =
      let d = o.disk visible in
      record {
        kept = less_is_kept (with_free o.free (store_of G.store)) k.tree o.history o.parts (known_in k.tree o.history next) (known_in k.tree o.history G) (less o.history) d.kept;
        told = record {
          files = λ file c is. let x = file_case file c is in d.told.files file x.before x.was ∙ ap (λ q. changes_of file k.tree (take q o.history)) (sym x.changed);
          within = λ file c is. let x = file_case file c is in let y = d.told.within file x.before x.was in let a = x.changed in let b = x.known in let p = y.0 in let q = y.1 in (omega (arith, a, p), omega (arith, b, q));
          names = d.told.names;
          names_within = d.told.names_within;
        };
        since = λ j from low. let s = d.since j from low in record {
          parts = s.parts;
          freed = s.freed;
          kept = less_is_kept (with_free s.freed (store_of G.store)) k.tree (take j o.history) s.parts (known_in k.tree (take j o.history) next) (known_in k.tree (take j o.history) G) (less (take j o.history)) s.kept;
          sound = s.sound;
          pool = s.pool;
          fewer = s.fewer;
          files = λ file c is small. let x = file_case file c is in let h = s.files file x.before x.was (let a = x.changed in omega (arith, a, small)) in record {
            file_is = h.file_is ∙ ap (λ (y : DurableState). Some y.file) (sym x.value);
            commits_are = h.commits_are ∙ ap (λ (y : DurableState). Some (record { log = y.log; dropped = y.dropped })) (sym x.value);
          };
          names = s.names;
        };
        past = d.past;
      }

  tell_sound : IsSound k word (set views i w)
  tell_sound = record {
    history = o.history;
    world = next;
    parts = o.parts;
    free = o.free;
    picks = o.picks;
    one_hand = held;
    stay = record { clients = o.stay.clients; asked = o.stay.asked; pools = o.stay.pools };
    tickets_once = o.tickets_once;
    asked = record { seen = o.asked.seen; kept = o.asked.kept };
    seen = all_set (λ (u : View). u.seen ≤ word.tickets) views i w o.seen (o.seen i v at);
    faults_once = faults_same k views o.history G.store o.faults_once i v at w refl refl;
    parts_in = parts_then;
    free_in = record { back = o.free_in.back; here = o.free_in.here };
    pools_apart = record { pools = o.pools_apart.pools; store = o.pools_apart.store };
    server = o.server;
    none_lost = o.none_lost;
    formed = o.formed;
    begun = o.begun;
    may_begin = o.may_begin;
    served = o.served;
    leads = λ start b. record {
      legal = (o.leads start b).legal;
      clients = (o.leads start b).clients;
      parts = (o.leads start b).parts;
      away = λ file place c is absent. (let x = file_case file c is in (o.leads start b).away file place x.before x.was (was_absent c x.before place x.value absent));
    };
    unread = λ file place c is absent. (let x = file_case file c is in o.unread file place x.before x.was (was_absent c x.before place x.value absent));
    disk = disk_then;
  }

pub tell_keeps : TellKeeps
tell_keeps k word views i v names o at has = tell_sound k word views i v names o at has
