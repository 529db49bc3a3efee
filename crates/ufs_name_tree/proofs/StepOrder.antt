-- Steps in the order of their records.
use Rattle.std.proofs.Common.{◌≡◌, List, [], ◌∷◌, Bool, true, false, ap, sym, refl, ◌∙◌, subst}
use Rattle.std.specs.Prelude.{⊤, if◌then◌else◌}
use Rattle.ufs_layout.specs.DentryForm.{free_slot}
use Rattle.ufs_layout.specs.declared.records.LogRecord.{LogRecord}
use Rattle.ufs_layout.specs.declared.records.LogRecord.TheVariants.{Delta, Place, Free}
use Rattle.ufs_dir_tree.specs.DirTable.{DirTable}
use Rattle.ufs_dir_tree.specs.Steps.{DirState, Step, Born, Grown, Put, Freed, after, after_all, table_after, table_after_all}
use Rattle.ufs_ilog.specs.Changes.{may_follow, put_in_order, in_order}
use Rattle.ufs_name_tree.specs.Notes.{MayNote, MayNoteAll}
use Rattle.ufs_name_tree.specs.Records.{record_of, records_of}

-- a record that has the place of the step's
abbrev pub mark : Step → LogRecord
mark (Born i kind) = Delta i 0 0 0 []
mark (Grown i block) = Delta i 0 0 0 []
mark (Put i slot d) = Place slot.sector slot.slot free_slot
mark (Freed i) = Free i

-- the second may be noted behind the first
abbrev pub goes_behind : Step → Step → Bool
goes_behind x y = may_follow (mark x) (mark y)

marked : (t u : DirTable) (x y : Step) → may_follow (record_of t x) (record_of u y) ≡ goes_behind x y
marked t u (Born i kind) (Born j other) = refl
marked t u (Born i kind) (Grown j block) = refl
marked t u (Born i kind) (Put j slot d) = refl
marked t u (Born i kind) (Freed j) = refl
marked t u (Grown i b) (Born j other) = refl
marked t u (Grown i b) (Grown j block) = refl
marked t u (Grown i b) (Put j slot d) = refl
marked t u (Grown i b) (Freed j) = refl
marked t u (Put i a d) (Born j other) = refl
marked t u (Put i a d) (Grown j block) = refl
marked t u (Put i a d) (Put j slot e) = refl
marked t u (Put i a d) (Freed j) = refl
marked t u (Freed i) (Born j other) = refl
marked t u (Freed i) (Grown j block) = refl
marked t u (Freed i) (Put j slot d) = refl
marked t u (Freed i) (Freed j) = refl

abbrev pub put_step : Step → List Step → List Step
put_step x [] = x ∷ []
put_step x (y ∷ ys) = if goes_behind x y then x ∷ y ∷ ys else y ∷ put_step x ys

abbrev pub ordered : List Step → List Step
ordered [] = []
ordered (x ∷ xs) = put_step x (ordered xs)

-- ---- what they tell

-- the records over the states that the steps lead to
abbrev pub told : DirState → List Step → List LogRecord
told s [] = []
told s (x ∷ xs) = record_of s.table x ∷ told (after x s) xs

table_is : (x : Step) (s : DirState) → (after x s).table ≡ table_after x s.table
table_is (Born i kind) s = refl
table_is (Grown i block) s = refl
table_is (Put i slot d) s = refl
table_is (Freed i) s = refl

pub told_is : (s : DirState) (xs : List Step) → told s xs ≡ records_of s.table xs
told_is s [] = refl
told_is s (x ∷ xs) = ap (λ (rs : List LogRecord). record_of s.table x ∷ rs) (told_is (after x s) xs ∙ ap (λ (t : DirTable). records_of t xs) (table_is x s))

pub all_after : (s : DirState) (xs : List Step) → (after_all xs s).table ≡ table_after_all xs s.table
all_after s [] = refl
all_after s (x ∷ xs) = all_after (after x s) xs ∙ ap (table_after_all xs) (table_is x s)

-- ---- two that change places

-- The second may come first, the first behind it, and they lead to the same and tell the same.
pub record Swaps (s : DirState) (x y : Step) : Type 0 where
  pub first : MayNote s y
  pub second : MayNote (after y s) x
  pub same : after x (after y s) ≡ after y (after x s)
  pub told_first : record_of (after x s).table y ≡ record_of s.table y
  pub told_second : record_of (after y s).table x ≡ record_of s.table x

-- where the second has to come first
abbrev pub MaySwap : Step → Step → Type 0
MaySwap x y = (s : DirState) → MayNote s x → MayNote (after x s) y → goes_behind x y ≡ false → Swaps s x y

abbrev pub MaySwapEach : Step → List Step → Type 0
MaySwapEach x [] = ⊤
MaySwapEach x (y ∷ ys) = MaySwap x y × MaySwapEach x ys

abbrev pub MaySwapAll : List Step → Type 0
MaySwapAll [] = ⊤
MaySwapAll (x ∷ xs) = MaySwapEach x xs × MaySwapAll xs

each_put : (x y : Step) (ys : List Step) → MaySwap x y → MaySwapEach x ys → MaySwapEach x (put_step y ys)
each_put x y [] one each = (one, each)
each_put x y (z ∷ zs) one each = by (goes_behind y z) (each_put x y zs one each.1)
  where
    by : (b : Bool) → MaySwapEach x (put_step y zs) → MaySwapEach x (if b then y ∷ z ∷ zs else z ∷ put_step y zs)
    by true rest = (one, each)
    by false rest = (each.0, rest)

each_ordered : (x : Step) (ys : List Step) → MaySwapEach x ys → MaySwapEach x (ordered ys)
each_ordered x [] each = each
each_ordered x (y ∷ ys) each = each_put x y (ordered ys) each.0 (each_ordered x ys each.1)

-- ---- in their order

-- The steps of the second list may be noted where those of the first may be made, and lead to the same.
pub record IsSameChange (s : DirState) (xs ys : List Step) (records : List LogRecord) : Type 0 where
  pub may : MayNoteAll s ys
  pub same : after_all ys s ≡ after_all xs s
  pub tells : told s ys ≡ records

put_goes : (s : DirState) (x : Step) (ys : List Step) → MaySwapEach x ys → MayNoteAll s (x ∷ ys) → IsSameChange s (x ∷ ys) (put_step x ys) (put_in_order (record_of s.table x) (told (after x s) ys))
put_goes s x [] each may = record { may = may; same = refl; tells = refl }
put_goes s x (y ∷ ys) each may = by (goes_behind x y) refl (put_goes (after y s) x ys each.1)
  where
    marks : may_follow (record_of s.table x) (record_of (after x s).table y) ≡ goes_behind x y
    marks = marked s.table (after x s).table x y

    by : (b : Bool) → goes_behind x y ≡ b → (MayNoteAll (after y s) (x ∷ ys) → IsSameChange (after y s) (x ∷ ys) (put_step x ys) (put_in_order (record_of (after y s).table x) (told (after x (after y s)) ys)))
        → IsSameChange s (x ∷ y ∷ ys) (if b then x ∷ y ∷ ys else y ∷ put_step x ys) (put_in_order (record_of s.table x) (told (after x s) (y ∷ ys)))
    by true at rest = record {
      may = may;
      same = refl;
      tells = sym (ap (λ (b : Bool). if b then record_of s.table x ∷ told (after x s) (y ∷ ys) else record_of (after x s).table y ∷ put_in_order (record_of s.table x) (told (after y (after x s)) ys)) (marks ∙ at));
    }
    by false at rest =
        let swap = each.0 s may.0 may.1.0 at in
        let same = swap.same in
        let onward = rest (swap.second, subst (λ (u : DirState). MayNoteAll u ys) (sym same) may.1.1) in
        record {
          may = (swap.first, onward.may);
          same = onward.same ∙ ap (after_all ys) same;
          tells =
              ap (λ (rs : List LogRecord). record_of s.table y ∷ rs) (onward.tells ∙ (λ i. put_in_order (swap.told_second i) (told (same i) ys)))
              ∙ ap (λ (r : LogRecord). r ∷ put_in_order (record_of s.table x) (told (after y (after x s)) ys)) (sym swap.told_first)
              ∙ sym (ap (λ (b : Bool). if b then record_of s.table x ∷ told (after x s) (y ∷ ys) else record_of (after x s).table y ∷ put_in_order (record_of s.table x) (told (after y (after x s)) ys)) (marks ∙ at));
        }

pub order_goes : (s : DirState) (xs : List Step) → MaySwapAll xs → MayNoteAll s xs → IsSameChange s xs (ordered xs) (in_order (told s xs))
order_goes s [] swaps may = record { may = may; same = refl; tells = refl }
order_goes s (x ∷ xs) swaps may =
    let rest = order_goes (after x s) xs swaps.1 may.1 in
    let put = put_goes s x (ordered xs) (each_ordered x xs swaps.0) (may.0, rest.may) in
    record {
      may = put.may;
      same = put.same ∙ rest.same;
      tells = put.tells ∙ ap (put_in_order (record_of s.table x)) rest.tells;
    }
