-- Changes that are noted one behind the other.
use Rattle.std.proofs.Common.{◌≡◌, ◌≢◌, ℕ, ◌⊎◌, inl, inr, ◌||◌, true, List, [], ◌∷◌, ◌++◌, Option, Some, None, ap, sym, refl, ◌∙◌, subst}
use Rattle.std.specs.FinSet as set
use Rattle.std.specs.Ordering.{nat_cmp}
use Rattle.std.proofs.lemmas.Bool.{cases_eq, true≢false}
use Rattle.std.proofs.lemmas.List.{append-nil, append_assoc}
use Rattle.ufs_bitmap.specs.Blocks.{BlockSet}
use Rattle.ufs_ilog.specs.Notes.{IsLackFor}
use Rattle.ufs_layout.specs.declared.records.LogRecord.{LogRecord}
use Rattle.ufs_dir_tree.specs.DirTable.{DirTable}
use Rattle.ufs_dir_tree.specs.Steps.{DirState, Step, after, after_all, table_after, table_after_all}
use Rattle.ufs_name_tree.specs.NameTable.{NameTable, IsNameTable, file_at}
use Rattle.ufs_name_tree.specs.Notes.{AreKindsOf, IsStateOf, LosesNotes, MayNoteAll, GoesByNotes, GoesNoted, is_touched}
use Rattle.ufs_name_tree.specs.Records.{record_of, records_of}
use Rattle.ufs_name_tree.proofs.NoteLost.{lack_later, lack_more}
use Rattle.ufs_name_tree.proofs.NoteFiles.{or_none, or_first, or_second, touched_on}
use Rattle.ufs_name_tree.proofs.StepOrder.{all_after}

records_on : (t : DirTable) (xs ys : List Step) → records_of t (xs ++ ys) ≡ records_of t xs ++ records_of (table_after_all xs t) ys
records_on t [] ys = refl
records_on t (x ∷ xs) ys = ap (λ (rs : List LogRecord). record_of t x ∷ rs) (records_on (table_after x t) xs ys)

table_on : (t : DirTable) (xs ys : List Step) → table_after_all (xs ++ ys) t ≡ table_after_all ys (table_after_all xs t)
table_on t [] ys = refl
table_on t (x ∷ xs) ys = table_on (table_after x t) xs ys

state_on : (s : DirState) (xs ys : List Step) → after_all (xs ++ ys) s ≡ after_all ys (after_all xs s)
state_on s [] ys = refl
state_on s (x ∷ xs) ys = state_on (after x s) xs ys

may_on : (s : DirState) (xs ys : List Step) → MayNoteAll s xs → MayNoteAll (after_all xs s) ys → MayNoteAll s (xs ++ ys)
may_on s [] ys first more = more
may_on s (x ∷ xs) ys first more = (first.0, may_on (after x s) xs ys first.1 more)

-- a file has one inode
abbrev pub HasOneInode : NameTable → Type 0
HasOneInode t = (i j f : ℕ) → file_at t i ≡ Some f → file_at t j ≡ Some f → i ≡ j

pub one_inode : (t : NameTable) → IsNameTable t → (u : NameTable) → t ≡ u → HasOneInode u
one_inode t is u same = subst HasOneInode same is.once

-- nothing changed
pub notes_stay : (t : NameTable) (pool : BlockSet) → HasOneInode t → GoesByNotes t t pool
notes_stay t pool once = by t.noted refl
  where
    by : (n : Option (List LogRecord)) → t.noted ≡ n → GoesByNotes t t pool
    by None none = inl (record { steps = []; dirs = refl; lost = record { none = none; cause = λ before some. (let no = sym none ∙ some in absurd cc); unlost = λ off. refl } })
    by (Some records) some = inr (record {
      steps = [];
      noted = record { before = records; was = some; is = some ∙ ap Some (sym (append-nil records)) };
      lost = refl;
      dirs = refl;
      may = λ s is. tt;
      kinds = λ s is. is.kinds;
      kept = λ i f at now. refl;
      given = λ i f none now. absurd (none i now);
      gone = λ i f at off. absurd (off at);
      stayed = λ i j f at now. once i j f now at;
      named = λ has. has;
    })

pub notes_same : (t u : NameTable) (pool : BlockSet) → HasOneInode t → u ≡ t → GoesByNotes t u pool
notes_same t u pool once same = subst (λ (x : NameTable). GoesByNotes t x pool) (sym same) (notes_stay t pool once)

-- a state in which any pool's blocks are zeros is one for no block
no_block : (old : NameTable) (pool : BlockSet) (s : DirState) → IsStateOf old pool s → IsStateOf old set.empty s
no_block old pool s is = record { table = is.table; kinds = is.kinds; zeroed = λ b held. absurd (true≢false (sym held ∙ set.contains-empty nat_cmp b)) }

-- what takes no block takes none of any pool
pub notes_less : (old new : NameTable) (pool : BlockSet) → GoesByNotes old new set.empty → GoesByNotes old new pool
notes_less old new pool (inl gone) = inl gone
notes_less old new pool (inr on) = inr (record {
  steps = on.steps;
  noted = on.noted;
  lost = on.lost;
  dirs = on.dirs;
  may = λ s is. on.may s (no_block old pool s is);
  kinds = λ s is. on.kinds s (no_block old pool s is);
  kept = on.kept;
  given = on.given;
  gone = on.gone;
  stayed = on.stayed;
  named = on.named;
})

-- the records of a change, and of one behind it
records_both : (old mid : NameTable) (xs ys : List Step) → mid.dirs ≡ table_after_all xs old.dirs → records_of old.dirs xs ++ records_of mid.dirs ys ≡ records_of old.dirs (xs ++ ys)
records_both old mid xs ys dirs = ap (λ (t : DirTable). records_of old.dirs xs ++ records_of t ys) dirs ∙ sym (records_on old.dirs xs ys)

-- what was lost before stays so
loses_on : (old mid new : NameTable) → LosesNotes old mid → LosesNotes mid new → LosesNotes old new
loses_on old mid new one on = record {
  steps = one.steps ++ on.steps;
  dirs = on.dirs ∙ ap (table_after_all on.steps) one.dirs ∙ sym (table_on old.dirs one.steps on.steps);
  lost = record {
    none = on.lost.none;
    cause = λ before some.
        let wants = one.lost.cause before some in
        (wants.0, on.lost.unlost one.lost.none ∙ wants.1, subst (λ (rs : List LogRecord). IsLackFor before rs wants.0) (sym (records_on old.dirs one.steps on.steps)) (lack_more before (records_of old.dirs one.steps) (records_of (table_after_all one.steps old.dirs) on.steps) wants.0 wants.2));
    unlost = λ off. on.lost.unlost one.lost.none ∙ one.lost.unlost off;
  };
}

-- what was noted before is lost
loses_then : (old mid new : NameTable) (pool : BlockSet) → GoesNoted old mid pool → LosesNotes mid new → LosesNotes old new
loses_then old mid new pool one on = record {
  steps = one.steps ++ on.steps;
  dirs = on.dirs ∙ ap (table_after_all on.steps) one.dirs ∙ sym (table_on old.dirs one.steps on.steps);
  lost = record {
    none = on.lost.none;
    cause = λ before some.
        let wants = on.lost.cause (one.noted.before ++ records_of old.dirs one.steps) one.noted.is in
        let was : one.noted.before ≡ before = (let same : Some one.noted.before ≡ Some before = sym one.noted.was ∙ some in cc) in (
          wants.0,
          wants.1,
          subst (λ (rs : List LogRecord). IsLackFor rs (records_of old.dirs (one.steps ++ on.steps)) wants.0) was
              (subst (λ (rs : List LogRecord). IsLackFor one.noted.before rs wants.0) (records_both old mid one.steps on.steps one.dirs) (lack_later one.noted.before (records_of old.dirs one.steps) (records_of mid.dirs on.steps) wants.0 wants.2)),
        );
    unlost = λ off. (let no = sym one.noted.was ∙ off in absurd cc);
  };
}

-- each file's inode now is one that it had
abbrev pub GivesNoInode : NameTable → NameTable → Type 0
GivesNoInode old new = (i f : ℕ) → file_at new i ≡ Some f → file_at old i ≡ Some f

-- and one that takes no block and gives no file an inode may follow any
pub notes_on : (old mid new : NameTable) (pool : BlockSet) → GoesByNotes old mid pool → GoesByNotes mid new set.empty → GivesNoInode mid new → GoesByNotes old new pool
notes_on old mid new pool (inl one) (inl gone) was = inl (loses_on old mid new one gone)
notes_on old mid new pool (inr one) (inl gone) was = inl (loses_then old mid new pool one gone)
notes_on old mid new pool (inl gone) (inr on) was = let some = sym gone.lost.none ∙ on.noted.was in absurd cc
notes_on old mid new pool (inr one) (inr on) was = inr (record {
  steps = one.steps ++ on.steps;
  noted = record {
    before = one.noted.before;
    was = one.noted.was;
    is =
        on.noted.is ∙ ap (λ (rs : List LogRecord). Some (rs ++ records_of mid.dirs on.steps)) before
        ∙ ap Some (append_assoc one.noted.before (records_of old.dirs one.steps) (records_of mid.dirs on.steps)
        ∙ ap (λ (rs : List LogRecord). one.noted.before ++ rs) (ap (λ (t : DirTable). records_of old.dirs one.steps ++ records_of t on.steps) one.dirs ∙ sym (records_on old.dirs one.steps on.steps)));
  };
  lost = on.lost ∙ one.lost;
  dirs = on.dirs ∙ ap (table_after_all on.steps) one.dirs ∙ sym (table_on old.dirs one.steps on.steps);
  may = λ s is. may_on s one.steps on.steps (one.may s is) (on.may (after_all one.steps s) (between s is));
  kinds = λ s is. subst (λ (u : DirState). AreKindsOf new u.kinds) (sym (state_on s one.steps on.steps)) (on.kinds (after_all one.steps s) (between s is));
  kept = λ i f at now. touched_on one.steps on.steps i ∙ or_none (is_touched one.steps i) (is_touched on.steps i) (one.kept i f at (was i f now)) (on.kept i f (was i f now) now);
  given = λ i f none now. touched_on one.steps on.steps i ∙ or_first (is_touched one.steps i) (is_touched on.steps i) (one.given i f none (was i f now));
  gone = λ i f at off. touched_on one.steps on.steps i ∙ goes i f at off (file_at mid i) refl;
  stayed = λ i j f at now. one.stayed i j f at (was i f now);
  named = λ has. on.named (one.named has);
})
  where
    before : on.noted.before ≡ one.noted.before ++ records_of old.dirs one.steps
    before = let same : Some on.noted.before ≡ Some (one.noted.before ++ records_of old.dirs one.steps) = sym on.noted.was ∙ one.noted.is in cc

    goes : (i f : ℕ) → file_at old i ≡ Some f → file_at new i ≢ Some f → (o : Option ℕ) → file_at mid i ≡ o → (is_touched one.steps i || is_touched on.steps i) ≡ true
    goes i f at off None none = or_first (is_touched one.steps i) (is_touched on.steps i) (one.gone i f at (λ is. let no = sym none ∙ is in cc))
    goes i f at off (Some k) some = by (cases_eq k f)
      where
        by : (k ≡ f) ⊎ (k ≢ f) → (is_touched one.steps i || is_touched on.steps i) ≡ true
        by (inl same) = or_second (is_touched one.steps i) (is_touched on.steps i) (on.gone i f (some ∙ ap Some same) off)
        by (inr other) = or_first (is_touched one.steps i) (is_touched on.steps i) (one.gone i f at (λ is. other (let both : Some k ≡ Some f = sym some ∙ is in cc)))

    between : (s : DirState) → IsStateOf old pool s → IsStateOf mid set.empty (after_all one.steps s)
    between s is = record {
      table = all_after s one.steps ∙ ap (table_after_all one.steps) is.table ∙ sym one.dirs;
      kinds = one.kinds s is;
      zeroed = λ b held. absurd (true≢false (sym held ∙ set.contains-empty nat_cmp b));
    }
