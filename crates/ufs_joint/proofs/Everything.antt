-- Where all changes of names and of each live file are known as committed, so many of each other file count as committed as there
-- are: no path shows them. So a `sync` is acknowledged.
use Rattle.std.proofs.Common.{◌≡◌, ℕ, ◌+◌, ◌≤◌, inl, inr, List, [], ◌∷◌, ◌++◌, length, ap, sym, refl, ◌∙◌, subst, arith}
use Rattle.std.specs.Prelude.{IsSome, max}
use Rattle.std.specs.FinMap as map
use Rattle.std.proofs.Math.Nat.{le-max_left, le-max_right, max-eq_left, max-le}
use Rattle.std.proofs.lemmas.List.{append-nil}
use Rattle.ufs_disk.specs.Disk.{Cell}
use Rattle.ufs_layout.specs.Superblock.{geometry_of}
use Rattle.ufs_layout.specs.declared.geometry.Geometry.{Geometry}
use Rattle.ufs_ledger.specs.Kept.{Counts, IsLedgerKept, IsStandKept}
use Rattle.ufs_ledger.specs.Laws.{CommitsKeep, EntriesKeep, StandsOn}
use Rattle.ufs_ledger.specs.Ledger.{Stand}
use Rattle.ufs_model.specs.History.{IsLegal, IsLegalFrom, goes_on, tree_after}
use Rattle.ufs_model.specs.Laws.{KeepsTrees}
use Rattle.ufs_model.specs.PosixTree.{IsTree, PosixTree}
use Rattle.ufs_model.specs.declared.data.Entry.{Entry}
use Rattle.ufs_model.specs.declared.data.Op.TheVariants as op
use Rattle.ufs_model.proofs.Facts.Live.{held_has}
use Rattle.ufs_crash_laws.specs.Changes.{NameState, changes_of, name_changes, names_after, names_of}
use Rattle.ufs_crash_laws.specs.Explained.{IsAckCovered}
use Rattle.ufs_crash_laws.specs.Laws.{NamesGoByChanges}
use Rattle.ufs_crash_laws.specs.StepLaws.{SyncsAcknowledge}
use Rattle.ufs_crash_laws.specs.Stored.{IsNamed}
use Rattle.ufs_crash_laws.proofs.Facts.Contents.{unborn_still}
use Rattle.ufs_crash_laws.proofs.Facts.Entries.{next_rises}
use Rattle.ufs_crash_laws.proofs.Facts.Sessions.{next_after, tree_goes_on}
use Rattle.ufs_store.specs.State.{StoreState, geometry_of_store}
use Rattle.ufs_promise_laws.specs.Laws.{leaves_tree}
use Rattle.ufs_promise_laws.specs.Parts.{Parts}
use Rattle.ufs_promise_laws.specs.Stored.{ArePartsOf, IsStored}
use Rattle.ufs_joint.specs.Acks.{AllIsAcknowledged}
use Rattle.ufs_promise_laws.specs.Known.{Covers, IsAllKnown, IsDiskKept, IsKeptGoing, IsKeptStopped, Known}
use Rattle.ufs_joint.proofs.Drawn.{still_going, still_stopped, tree_stays}

-- a file that isn't born yet has no changes
unborn_none : KeepsTrees → (ticket : ℕ) (t : PosixTree) → IsTree t → (history : List Entry) → IsLegalFrom ticket t history → (file : ℕ) → (tree_after t history).next ≤ file → changes_of file t history ≡ []
unborn_none keeps ticket t is [] legal file past = refl
unborn_none keeps ticket t is (e ∷ history) legal file past =
    let rises = next_rises t e legal.0.replied in
    let later = next_after (ticket + 1) (goes_on t e) history legal.1 in
    let first = unborn_still t is e file (omega (arith, past, rises, later)) in
    let rest = unborn_none keeps (ticket + 1) (goes_on t e) (tree_goes_on keeps t is e legal.0.replied) history legal.1 file past in
    λ i. first i ++ rest i

-- the counts, with all changes of each file
abbrev pub with_all : PosixTree → List Entry → Counts → Counts
with_all start history k = record k { files = λ file. max (k.files file) (length (changes_of file start history)) }

module _ (keeps : KeepsTrees) (by : NamesGoByChanges) (start : PosixTree) (history : List Entry) (p : Parts) (known : Known) (is : IsTree start) (legal : IsLegal start history) (parts : ArePartsOf p (tree_after start history)) (all : IsAllKnown start history p known) where
  abbrev tree : PosixTree
  tree = tree_after start history

  names_now : names_after start history (length (name_changes start history)) ≡ names_of tree
  names_now = subst (λ (h : List Entry). names_after start h (length (name_changes start history)) ≡ names_of (tree_after start history)) (append-nil history) (by start history [] legal)

  module _ (k : Counts) (c : Covers start history k known) where
    is_live : (count file : ℕ) → k.names ≤ count → count ≤ length (name_changes start history) → IsNamed (names_after start history count).paths file → IsSome (map.get p.names.held file)
    is_live count file from to named =
        let least = c.names in
        let most = all.names in
        let last : count ≡ length (name_changes start history) = omega (arith, from, to, least, most) in
        parts.names.told file ∙ held_has tree parts.names.tree file (inl (subst (λ (n : NameState). IsNamed n.paths file) (ap (names_after start history) last ∙ names_now) named))

    same_count : (file : ℕ) → IsSome (map.get p.names.held file) → max (k.files file) (length (changes_of file start history)) ≡ k.files file
    same_count file live = max-eq_left (let most = all.files file live in let has = c.files file in omega (arith, most, has))

    pub all_kept : (g : Geometry) → CommitsKeep g → (blocks : ℕ → Cell) (s : Stand) → IsStandKept g blocks s start history k.names k.files k.numbers
        → IsStandKept g blocks s start history k.names (with_all start history k).files k.numbers
    all_kept g commit blocks s kept = commit blocks s s start history k.names k.names k.files (with_all start history k).files k.numbers k.numbers is legal stays kept
      where
        none : (file : ℕ) → tree.next ≤ file → max (k.files file) (length (changes_of file start history)) ≡ 0
        none file past = λ i. max ((kept.stored.fresh file past).0 i) (length (unborn_none keeps 0 start is history legal.entries file past i))

        stays : StandsOn g blocks s s start history k.names k.names k.files (with_all start history k).files k.numbers k.numbers
        stays = record {
          later = omega arith;
          made = kept.stored.made;
          paths = kept.stored.paths;
          inodes = kept.stored.inodes;
          unheld = kept.stored.unheld;
          rises = λ file. le-max_left (k.files file) (length (changes_of file start history));
          each = λ count file from to named. inl (same_count file (is_live count file from to named), refl);
          fresh = λ file past. (none file past, (kept.stored.fresh file past).1);
        }

    pub all_covers : Covers start history (with_all start history k) known
    all_covers = record {
      made = c.made;
      names = c.names;
      files = λ file. (let has = c.files file in let more = le-max_left (k.files file) (length (changes_of file start history)) in omega (arith, has, more));
      born = c.born;
    }

    pub all_acked : SyncsAcknowledge → (entry : Entry) → entry.op ≡ op.Sync → IsAckCovered start history entry k.names (with_all start history k).files
    all_acked acks entry it = acks start history entry k.names (with_all start history k).files it (let least = c.names in let most = all.names in omega (arith, least, most)) (λ file. le-max_right (k.files file) (length (changes_of file start history)))

module _ (g : Geometry) (entries : EntriesKeep g) (commit : CommitsKeep g) (acks : SyncsAcknowledge) (keeps : KeepsTrees) (by : NamesGoByChanges) (s : StoreState) (start : PosixTree) (history : List Entry) (entry : Entry) (p : Parts) (known : Known)
    (same : geometry_of_store s ≡ g) (legal : IsLegal start (history ++ entry ∷ [])) (it : entry.op ≡ op.Sync) (all : IsAllKnown start history p known) where
  tree_same : tree_after start (history ++ entry ∷ []) ≡ tree_after start history
  tree_same = tree_stays g entries s start history entry known same legal (ap leaves_tree it)

  -- ---- a store that goes on

  made_all : (k : Counts) → ((file : ℕ) → k.files file ≤ length (changes_of file start history)) → (file : ℕ) → max (k.files file) (length (changes_of file start history)) ≤ length (changes_of file start history)
  made_all k made file = max-le (made file) (omega arith)

  raised_stored : (k : IsKeptGoing s start history p known) → IsStored k.going.ledger s.unassigned.free start history (with_all start history k.going.counts) p
  raised_stored k = record {
    tree = k.going.stored.tree;
    legal = k.going.stored.legal;
    kept = record {
      here = all_kept keeps by start history p known k.going.stored.tree k.going.stored.legal k.going.stored.parts all k.going.counts k.covers (geometry_of k.going.ledger.superblock)
          (subst CommitsKeep (sym (k.going.formed ∙ same)) commit) k.going.ledger.blocks k.going.ledger.now k.going.stored.kept.here;
      there = λ other is. (let clash = sym k.going.has.by.none ∙ is in absurd cc);
    };
    parts = k.going.stored.parts;
    names = k.going.stored.names;
    counted = record { born = k.going.stored.counted.born; alone = k.going.stored.counted.alone; made = made_all k.going.counts k.going.stored.counted.made };
    noted = k.going.stored.noted;
    each = k.going.stored.each;
    spaced = k.going.stored.spaced;
  }

  abbrev raised_going : IsKeptGoing s start history p known → IsKeptGoing s start history p known
  raised_going k = record {
    going = record { ledger = k.going.ledger; counts = with_all start history k.going.counts; has = k.going.has; formed = k.going.formed; stored = raised_stored k };
    covers = all_covers keeps by start history p known k.going.stored.tree k.going.stored.legal k.going.stored.parts all k.going.counts k.covers;
    numbered = k.numbered;
  }

  -- ---- one that has stopped

  raised_kept : (k : IsKeptStopped s start history p known) → IsLedgerKept k.stopped.ledger start history (with_all start history k.stopped.now) (with_all start history k.stopped.maybe)
  raised_kept k =
      let st = k.stopped in
      let commits = subst CommitsKeep (sym (st.formed ∙ same)) commit in
      record {
        here = all_kept keeps by start history p known st.tree st.legal st.parts all st.now k.now (geometry_of st.ledger.superblock) commits st.ledger.blocks st.ledger.now st.kept.here;
        there = λ other is.
            let was = st.kept.there other is in
            (was.0, all_kept keeps by start history p known st.tree st.legal st.parts all st.maybe k.maybe (geometry_of st.ledger.superblock) commits st.ledger.blocks other.stand was.1);
      }

  abbrev raised_stopped : IsKeptStopped s start history p known → IsKeptStopped s start history p known
  raised_stopped k = record {
    stopped = record {
      stopped = k.stopped.stopped;
      ledger = k.stopped.ledger;
      now = with_all start history k.stopped.now;
      maybe = with_all start history k.stopped.maybe;
      has = k.stopped.has;
      formed = k.stopped.formed;
      tree = k.stopped.tree;
      legal = k.stopped.legal;
      kept = raised_kept k;
      parts = k.stopped.parts;
      clean = k.stopped.clean;
    };
    now = all_covers keeps by start history p known k.stopped.tree k.stopped.legal k.stopped.parts all k.stopped.now k.now;
    maybe = all_covers keeps by start history p known k.stopped.tree k.stopped.legal k.stopped.parts all k.stopped.maybe k.maybe;
  }

  pub synced : IsDiskKept s start history p known → IsDiskKept s start (history ++ entry ∷ []) p known
  synced (inl k) = inl (still_going g entries s start history entry known same legal p tree_same (raised_going k)
      (all_acked keeps by start history p known k.going.stored.tree k.going.stored.legal k.going.stored.parts all k.going.counts k.covers acks entry it))
  synced (inr k) = inr (still_stopped g entries s start history entry known same legal p tree_same (raised_stopped k)
      (all_acked keeps by start history p known k.stopped.tree k.stopped.legal k.stopped.parts all k.stopped.now k.now acks entry it)
      (all_acked keeps by start history p known k.stopped.tree k.stopped.legal k.stopped.parts all k.stopped.maybe k.maybe acks entry it))

pub all_acknowledged : (g : Geometry) → EntriesKeep g → CommitsKeep g → SyncsAcknowledge → KeepsTrees → NamesGoByChanges → AllIsAcknowledged g
all_acknowledged g entries commit acks keeps by s start history entry p known same legal it all = synced g entries commit acks keeps by s start history entry p known same legal it all
