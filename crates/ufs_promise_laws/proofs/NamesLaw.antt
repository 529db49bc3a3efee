-- The names' records are those of the steps that lead to them.
use Rattle.std.proofs.Common.{◌≡◌, ℕ, ◌<◌, ◌^◌, inl, inr, List, Option, Some, None, ap, sym, ◌∙◌, subst}
use Rattle.ufs_bitmap.specs.Blocks.{BlockSet}
use Rattle.ufs_layout.specs.Superblock.{geometry_of}
use Rattle.ufs_layout.specs.declared.geometry.Geometry.{Geometry}
use Rattle.ufs_layout.specs.declared.records.Committed.{Committed}
use Rattle.ufs_layout.specs.declared.records.LogRecord.{LogRecord}
use Rattle.ufs_ledger.specs.Changes.{MayCommit, committed_one, committing, settled}
use Rattle.ufs_ledger.specs.Kept.{Counts, IsLedgerKept}
use Rattle.ufs_ledger.specs.Laws.{CommittedIsKept, CommittingIsKept, GoesOnBy, SettledIsKept}
use Rattle.ufs_ledger.specs.Ledger.{CoversDirs, Ledger}
use Rattle.ufs_model.specs.PosixTree.{PosixTree}
use Rattle.ufs_model.specs.declared.data.Entry.{Entry}
use Rattle.ufs_model.proofs.Facts.Lookups.{same_some}
use Rattle.ufs_promise_laws.specs.Files.{BornAreEmpty, NamesStandOn, OthersStay}
use Rattle.ufs_promise_laws.specs.ChangeLaws.{AreOlder, StepsAreNoted, StepsMayCommit, change}
use Rattle.ufs_promise_laws.specs.Going.{NamesMayGoOn}
use Rattle.ufs_crash_laws.specs.Laws.{NamesGoByChanges}
use Rattle.ufs_promise_laws.specs.Laws.{HasNamesToCommit, all_named, with_names_committed}
use Rattle.ufs_promise_laws.specs.Parts.{Parts}
use Rattle.ufs_promise_laws.specs.Stored.{AreNamesNoted, AreNamesStored, IsStored, with_fresh}
use Rattle.ufs_promise_laws.proofs.NameCommits.{committed_stored, goes_on_by, may_commit}

pub none_or_some : {A : Type 0} (a : A) (o : Option A) → o ≡ None → o ≡ Some a → ⊥
none_or_some a o e f = let off = sym e ∙ f in cc

module _ (g : Geometry) (l : Ledger) (u : BlockSet) (start : PosixTree) (history : List Entry) (k : Counts) (p : Parts) (number : ℕ) (records : List LogRecord) (names : HasNamesToCommit g l p number records) (st : IsStored l u start history k p) where
  noted : AreNamesNoted l k.numbers p.fresh p.names
  noted = by st.names
    where
      by : AreNamesStored l k.numbers p.fresh p.names → AreNamesNoted l k.numbers p.fresh p.names
      by (inl off) = absurd (none_or_some records p.names.tree.noted off names.noted)
      by (inr n) = n

  abbrev t : Committed
  t = record { number = number; records = records }

  told : change number (with_fresh p.fresh noted.committed) noted.steps ≡ t
  told = ap (λ (rs : List LogRecord). record { number = number; records = rs }) (same_some _ records (sym noted.noted ∙ names.noted))

  older : AreOlder (geometry_of l.superblock) l.now.catalog number
  older = subst (λ h. AreOlder h l.now.catalog number) (sym names.geometry) names.older

pub names_may : (g : Geometry) → StepsMayCommit g → (l : Ledger) (u : BlockSet) (start : PosixTree) (history : List Entry) (k : Counts) (p : Parts) (number : ℕ) (records : List LogRecord) → HasNamesToCommit g l p number records → IsStored l u start history k p
    → CoversDirs g l.now → number < 2 ^ 64 → MayCommit g (record { number = number; records = records }) l.now
names_may g may l u start history k p number records names st covers fits =
    subst (λ (t : Committed). MayCommit g t l.now) (told g l u start history k p number records names st)
    (subst (λ (h : Geometry). MayCommit h (change number (with_fresh p.fresh n.committed) n.steps) l.now) names.geometry
    (may_commit l u start history k p number st n names.none names.table names.ready (older g l u start history k p number records names st)
    (subst StepsMayCommit (sym names.geometry) may) (subst (λ (h : Geometry). CoversDirs h l.now) (sym names.geometry) covers) fits))
  where
    n : AreNamesNoted l k.numbers p.fresh p.names
    n = noted g l u start history k p number records names st

goes_on : (g : Geometry) → SettledIsKept g → NamesGoByChanges → NamesMayGoOn g → NamesStandOn g → (l : Ledger) (u : BlockSet) (start : PosixTree) (history : List Entry) (k : Counts) (p : Parts) (number : ℕ) (records : List LogRecord)
    → HasNamesToCommit g l p number records → IsStored l u start history k p → GoesOnBy g l (record { number = number; records = records }) start history k (all_named start history p.names k)
goes_on g settle by going stand l u start history k p number records names st =
    subst (λ (t : Committed). GoesOnBy g l t start history k (all_named start history p.names k)) (told g l u start history k p number records names st)
    (subst (λ (h : Geometry). GoesOnBy h l (change number (with_fresh p.fresh n.committed) n.steps) start history k (all_named start history p.names k)) names.geometry
    (goes_on_by l u start history k p number st n names.none names.table names.ready (older g l u start history k p number records names st)
    by (subst NamesMayGoOn (sym names.geometry) going) (subst NamesStandOn (sym names.geometry) stand) (subst SettledIsKept (sym names.geometry) settle)))
  where
    n : AreNamesNoted l k.numbers p.fresh p.names
    n = noted g l u start history k p number records names st

pub names_committing : (g : Geometry) → SettledIsKept g → CommittingIsKept g → NamesGoByChanges → NamesMayGoOn g → NamesStandOn g → (l : Ledger) (u : BlockSet) (start : PosixTree) (history : List Entry) (k : Counts) (p : Parts) (number : ℕ) (records : List LogRecord)
    → HasNamesToCommit g l p number records → IsStored l u start history k p → IsLedgerKept (committing (record { number = number; records = records }) (settled l)) start history k (all_named start history p.names k)
names_committing g settle keeps by going stand l u start history k p number records names st =
    keeps l (record { number = number; records = records }) start history k (all_named start history p.names k) names.geometry names.none st.tree st.legal st.kept
    (goes_on g settle by going stand l u start history k p number records names st)

pub names_committed : (g : Geometry) → SettledIsKept g → CommittedIsKept g → NamesGoByChanges → NamesMayGoOn g → NamesStandOn g → StepsAreNoted g → OthersStay g → BornAreEmpty g
    → (l : Ledger) (u : BlockSet) (start : PosixTree) (history : List Entry) (k : Counts) (p : Parts) (number : ℕ) (records : List LogRecord) → HasNamesToCommit g l p number records → IsStored l u start history k p
    → IsStored (committed_one (record { number = number; records = records }) l) u start history (all_named start history p.names k) (with_names_committed p)
names_committed g settle keeps by going stand tell stay born l u start history k p number records names st =
    subst (λ (t : Committed). IsStored (committed_one t l) u start history (all_named start history p.names k) (with_names_committed p)) is
    (committed_stored l u start history k p number st n names.none names.table names.ready (older g l u start history k p number records names st)
    (subst StepsAreNoted (sym names.geometry) tell) (subst OthersStay (sym names.geometry) stay) (subst BornAreEmpty (sym names.geometry) born) by
    (subst (λ (t : Committed). IsLedgerKept (committed_one t l) start history (all_named start history p.names k) (all_named start history p.names k)) (sym is)
    (keeps l (record { number = number; records = records }) start history k (all_named start history p.names k) names.geometry names.none st.tree st.legal st.kept
    (goes_on g settle by going stand l u start history k p number records names st))))
  where
    n : AreNamesNoted l k.numbers p.fresh p.names
    n = noted g l u start history k p number records names st

    is : change number (with_fresh p.fresh n.committed) n.steps ≡ record { number = number; records = records }
    is = told g l u start history k p number records names st
