-- How an audit follows a trace.
use Rattle.std.specs.Prelude.{ℕ, ◌+◌, ◌≡◌, ◌≤◌, ◌<◌, ◌↔◌, List, [], ◌∷◌, ◌++◌, Option, Some, None, false, length, slice_get, Contains}
use Rattle.std.specs.List.{AllByRecursion}
use Rattle.std.specs.Ordering.{nat_cmp}
use Rattle.std.specs.BTreeSet.{insert_key}
use Rattle.ufs_model.specs.PosixTree.{PosixTree}
use Rattle.ufs_model.specs.History.{tree_after, goes_on, entries_of, requests_of, share_fault, IsReplyTo}
use Rattle.ufs_model.specs.declared.data.Op.{Op}
use Rattle.ufs_model.specs.declared.data.Entry.{Entry}
use Rattle.ufs_model.specs.declared.data.Excuse.TheVariants as excuse
use Rattle.ufs_model.specs.declared.data.Reply.{Reply}
use Rattle.ufs_model.specs.declared.data.Reply.TheVariants as reply
use Rattle.ufs_audit.specs.Audit.{Begins, Reaches, IsAny, IsWhole, IsWrong, IsNextEntry, IsAnswered, entry_of}
use Rattle.ufs_lines.specs.declared.told.Told.{Told}
use Rattle.ufs_audit.specs.declared.verdict.Verdict.{Verdict}
use Rattle.ufs_audit.specs.declared.verdict.Verdict.TheVariants as verdict
use Rattle.ufs_audit.specs.declared.verdict.Wrong.{Wrong}
use Rattle.ufs_audit.specs.declared.verdict.Wrong.TheVariants as wrong

-- the request is the one that the count of its client's entries names
pub record IsCount (clients : List (List Op)) (counts : List ℕ) (told : Told) (op : Op) : Type 0 where
  pub numbered : slice_get counts told.client ≡ Some told.seq
  pub asked : slice_get (requests_of clients told.client) told.seq ≡ Some op

abbrev pub total : List ℕ → ℕ
total [] = 0
total (n ∷ ns) = n + total ns

-- the faults are those that the history's excuses tell
abbrev pub AreFaultsOf : List ℕ → List Entry → Type 0
AreFaultsOf faults history = (fault : ℕ) → (Contains faults fault → ⊥) ↔ AllByRecursion (λ other. share_fault other.reply (reply.Excused (excuse.Device fault)) ≡ false) history

-- the state is that behind the history
pub record Stands (start : PosixTree) (clients : List (List Op)) (history : List Entry) (tree : PosixTree) (counts faults : List ℕ) : Type 0 where
  pub tree_is : tree ≡ tree_after start history
  pub many : length counts ≡ length clients
  pub counted : (client : ℕ) → client < length clients → slice_get counts client ≡ Some (length (entries_of client history))
  pub within : (client : ℕ) → length (entries_of client history) ≤ length (requests_of clients client)
  pub small : AllByRecursion (λ n. n ≤ 65536) counts
  pub total_is : total counts ≡ length history
  pub faults_are : AreFaultsOf faults history
  pub next : tree.next ≤ start.next + length history

-- The text begins with the line of the entry that follows, and goes on so.
pub record Follows (start : PosixTree) (clients : List (List Op)) (answers : List (List (List ℕ))) (history : List Entry) (text : List ℕ) (told : Told) (op : Op) (line more : List ℕ) : Type 0 where
  pub begins : Begins text line more
  pub next : IsNextEntry start clients answers history line told op

-- what is said of a trace behind the replies' lines
abbrev pub IsTraceVerdict : PosixTree → List (List Op) → List (List (List ℕ)) → List ℕ → Verdict → Type 0
IsTraceVerdict start clients answers trace (verdict.Legal entries) = Reaches start clients answers (IsWhole clients answers) entries [] trace
IsTraceVerdict start clients answers trace (verdict.Illegal ticket cause) =
    ((entries : ℕ) → Reaches start clients answers (IsWhole clients answers) entries [] trace → ⊥)
    × (Reaches start clients answers (IsAny answers) (ticket + 1) [] trace → ⊥)
    × Reaches start clients answers (IsWrong start clients answers cause) ticket [] trace

-- ---- one line

-- the reply tells no fault that was told
abbrev pub IsFresh : List ℕ → Reply → Type 0
IsFresh faults (reply.Excused (excuse.Device fault)) = Contains faults fault → ⊥
IsFresh faults _ = Unit {0}

-- the faults with the reply's
abbrev pub with_fault : List ℕ → Reply → List ℕ
with_fault faults (reply.Excused (excuse.Device fault)) = insert_key nat_cmp faults fault
with_fault faults _ = faults

pub record IsRight (tree : PosixTree) (faults : List ℕ) (answers : List (List (List ℕ))) (entry : Entry) (new_tree : PosixTree) (new_faults : List ℕ) : Type 0 where
  pub answered : IsAnswered answers entry
  pub replied : IsReplyTo tree entry
  pub fresh : IsFresh faults entry.reply
  pub tree_is : new_tree ≡ goes_on tree entry
  pub faults_are : new_faults ≡ with_fault faults entry.reply

-- what is wrong with an entry that is its client's next
abbrev pub IsJudged : PosixTree → List ℕ → List (List (List ℕ)) → Entry → PosixTree → List ℕ → Option Wrong → Type 0
IsJudged tree faults answers entry new_tree new_faults None = IsRight tree faults answers entry new_tree new_faults
IsJudged tree faults answers entry new_tree new_faults (Some wrong.Text) = ⊥
IsJudged tree faults answers entry new_tree new_faults (Some wrong.Order) = ⊥
IsJudged tree faults answers entry new_tree new_faults (Some wrong.Reply) = IsAnswered answers entry → ⊥
IsJudged tree faults answers entry new_tree new_faults (Some wrong.Excuse) = IsAnswered answers entry × (IsReplyTo tree entry → IsFresh faults entry.reply → ⊥)

-- The line tells the entry that follows, and the state goes on by it; or this is wrong with any text that it begins.
abbrev pub IsStep : PosixTree → List (List Op) → List (List (List ℕ)) → List Entry → List ℕ → PosixTree → List ℕ → List ℕ → Option Wrong → Type 0
IsStep start clients answers history line tree counts faults None =
    (told : Told) × (op : Op) × IsNextEntry start clients answers history line told op
    × Stands start clients (history ++ entry_of (length history) (tree_after start history) told op ∷ []) tree counts faults
IsStep start clients answers history line tree counts faults (Some cause) =
    (text more : List ℕ) → Begins text line more → IsWrong start clients answers cause history text
