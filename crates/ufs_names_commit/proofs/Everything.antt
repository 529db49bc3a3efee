-- Where all changes of names and of each live file stand on the disk everything does.
use Rattle.std.proofs.Common.{◌≡◌, ℕ, ◌+◌, ◌≤◌, inl, true, List, [], ◌∷◌, ◌++◌, length, ap, sym, refl, ◌∙◌, subst, arith}
use Rattle.std.specs.Prelude.{IsSome}
use Rattle.std.specs.FinMap as map
use Rattle.ufs_bitmap.specs.Taking.{has}
use Rattle.ufs_layout.specs.Superblock.{geometry_of}
use Rattle.ufs_ledger.specs.Kept.{Counts}
use Rattle.ufs_ledger.specs.Laws.{CommitsKeep, StandsOn}
use Rattle.ufs_ledger.specs.Ledger.{Ledger}
use Rattle.ufs_model.specs.History.{IsLegalFrom, goes_on, tree_after}
use Rattle.ufs_model.specs.Laws.{KeepsTrees}
use Rattle.ufs_model.specs.PosixTree.{IsTree, PosixTree}
use Rattle.ufs_model.specs.declared.data.Entry.{Entry}
use Rattle.ufs_crash_laws.specs.Changes.{NameState, changes_of, name_changes, names_after}
use Rattle.ufs_crash_laws.specs.Laws.{NamesGoByChanges}
use Rattle.ufs_crash_laws.specs.Stored.{IsNamed}
use Rattle.ufs_crash_laws.specs.declared.data.FileChange.{FileChange}
use Rattle.ufs_crash_laws.proofs.Facts.Contents.{unborn_still}
use Rattle.ufs_crash_laws.proofs.Facts.Entries.{next_rises}
use Rattle.ufs_crash_laws.proofs.Facts.Sessions.{next_after, tree_goes_on}
use Rattle.ufs_store.specs.State.{StoreState}
use Rattle.ufs_promise_laws.specs.OnDisk.{HasAll, HasFiles, IsGoing}
use Rattle.ufs_promise_laws.specs.Parts.{Parts}
use Rattle.ufs_promise_laws.specs.Stored.{IsStored}
use Rattle.ufs_promise_laws.proofs.Numbered.{live, names_now}

-- a file that isn't born yet has no changes
unborn_none : KeepsTrees → (ticket : ℕ) (t : PosixTree) → IsTree t → (history : List Entry) → IsLegalFrom ticket t history → (file : ℕ) → (tree_after t history).next ≤ file → changes_of file t history ≡ []
unborn_none keeps ticket t is [] legal file past = refl
unborn_none keeps ticket t is (e ∷ history) legal file past =
    let rises = next_rises t e legal.0.replied in
    let later = next_after (ticket + 1) (goes_on t e) history legal.1 in
    let first = unborn_still t is e file (omega (arith, past, rises, later)) in
    let rest = unborn_none keeps (ticket + 1) (goes_on t e) (tree_goes_on keeps t is e legal.0.replied) history legal.1 file past in
    λ i. first i ++ rest i

module _ (keeps : KeepsTrees) (by : NamesGoByChanges) (s : StoreState) (start : PosixTree) (history : List Entry) (p : Parts) (done : List ℕ) (h : HasFiles s start history p done)
    (all : (file : ℕ) → IsSome (map.get p.names.held file) → has done file ≡ true) where
  abbrev go : IsGoing s start history p
  go = h.names.going

  abbrev l : Ledger
  l = go.ledger

  abbrev k : Counts
  k = go.counts

  abbrev st : IsStored l s.unassigned.free start history k p
  st = go.stored

  abbrev lengths : ℕ → ℕ
  lengths file = length (changes_of file start history)

  abbrev k2 : Counts
  k2 = record { names = k.names; files = lengths; numbers = k.numbers }

  same_count : (file : ℕ) → IsSome (map.get p.names.held file) → lengths file ≡ k.files file
  same_count file is =
      let most = st.counted.made file in
      let least = h.files file (all file is) in
      omega (arith, most, least)

  stays : StandsOn (geometry_of l.superblock) l.blocks l.now l.now start history k.names k.names k.files lengths k.numbers k.numbers
  stays = record {
    later = omega arith;
    made = st.kept.here.stored.made;
    paths = st.kept.here.stored.paths;
    inodes = st.kept.here.stored.inodes;
    unheld = st.kept.here.stored.unheld;
    rises = st.counted.made;
    each = λ count file from to named. inl (same_count file (is_live count file from to named), refl);
    fresh = λ file past. (ap (λ (xs : List FileChange). length xs) (unborn_none keeps 0 start st.tree history st.legal.entries file past), (st.kept.here.stored.fresh file past).1);
  }
    where
      is_live : (count file : ℕ) → k.names ≤ count → count ≤ length (name_changes start history) → IsNamed (names_after start history count).paths file → IsSome (map.get p.names.held file)
      is_live count file from to named =
          let least = h.names.names in
          let is : count ≡ length (name_changes start history) = omega (arith, from, to, least) in
          live l s.unassigned.free start history k p st file
          (subst (λ (n : NameState). IsNamed n.paths file) (ap (names_after start history) is ∙ names_now l s.unassigned.free start history k p st by) named)

  pub all_there : CommitsKeep (geometry_of l.superblock) → HasAll s start history p
  all_there commit = record {
    going = record {
      ledger = l;
      counts = k2;
      has = go.has;
      formed = go.formed;
      stored = record {
        tree = st.tree;
        legal = st.legal;
        kept = record {
          here = commit l.blocks l.now l.now start history k.names k.names k.files lengths k.numbers k.numbers st.tree st.legal stays st.kept.here;
          there = λ other is. (let clash = sym go.has.by.none ∙ is in absurd cc);
        };
        parts = st.parts;
        names = st.names;
        counted = record { born = st.counted.born; alone = st.counted.alone; made = λ file. omega arith };
        noted = st.noted;
        each = st.each;
        spaced = st.spaced;
      };
    };
    names = h.names.names;
    files = λ file. omega arith;
  }
