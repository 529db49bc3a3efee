-- What opening the legs gives, by what a crash leaves of the mirror.
use Rattle.std.proofs.Common.{◌≡◌, ◌≤◌, ◌<◌, ◌+◌, ℕ, zero, suc, Bool, IsTrue, List, [], ◌∷◌, ◌++◌, map, length, length-append, drop, take, refl, sym, ◌∙◌, ap, subst, arith, append_assoc}
use Rattle.std.specs.List.{AllByRecursion}
use Rattle.std.proofs.lemmas.List.{drop-map, take-map, length-map}
use Rattle.std.proofs.Math.Seq.{drop-append_seam, take-append_seam}
use Rattle.ufs_base.specs.Images.{Image}
use Rattle.ufs_disk.specs.Disk.{State, Leaves}
use Rattle.ufs_disk.specs.Moments.{Moments, all, LeavesOnly}
use Rattle.ufs_disk.proofs.Runs.{all_append}
use Rattle.ufs_mirror.specs.Opens.{OpenRight, OpensOnly, OpensRight}
use Rattle.ufs_mirror.specs.Pairs.{Pair, Pairs, all_pairs, moments_of, state_of}
use Rattle.ufs_model.specs.PosixTree.{PosixTree}
use Rattle.ufs_model.specs.declared.data.Entry.{Entry}
use Rattle.ufs_told.specs.Throughout.{IsExplainedThroughout}
use Rattle.ufs_promise_laws.specs.OnDisk.{IsExplainedImage}
use Rattle.ufs_process.specs.Throughout.{OpensAsAnswered, OpensFromTo, OpensThroughout}

map_append : {X Y : Type 0} (f : X → Y) (xs ys : List X) → map f (xs ++ ys) ≡ map f xs ++ map f ys
map_append f [] ys = refl
map_append f (x ∷ xs) ys = ap (λ l. f x ∷ l) (map_append f xs ys)

all_drop : {X : Type 0} (P : X → Type 0) (n : ℕ) (xs : List X) → AllByRecursion P xs → AllByRecursion P (drop n xs)
all_drop P zero xs each = each
all_drop P (suc n) [] each = each
all_drop P (suc n) (x ∷ xs) each = all_drop P n xs each.1

all_take : {X : Type 0} (P : X → Type 0) (n : ℕ) (xs : List X) → AllByRecursion P xs → AllByRecursion P (take n xs)
all_take P zero xs each = tt
all_take P (suc n) [] each = tt
all_take P (suc n) (x ∷ xs) each = (each.0, all_take P n xs each.1)

-- at one moment
pub opens_only : (size : ℕ) (P : Image → Type 0) (pair : Pair) → OpensRight size pair → Leaves P (state_of size pair) → OpensOnly size P pair
opens_only size P pair right leaves = λ first second image left left' opens. leaves image (right first second image left left' opens)

-- at each of some
each_opens : (size : ℕ) (P : Image → Type 0) (pairs : List Pair) → AllByRecursion (OpensRight size) pairs → AllByRecursion (Leaves P) (map (state_of size) pairs) → AllByRecursion (OpensOnly size P) pairs
each_opens size P [] right leaves = tt
each_opens size P (pair ∷ pairs) right leaves = (opens_only size P pair right.0 leaves.0, each_opens size P pairs right.1 leaves.1)

-- the mirror's states are those of the pair's moments
states_are : (size : ℕ) (pairs : Pairs) → all (moments_of size pairs) ≡ map (state_of size) (all_pairs pairs)
states_are size pairs = sym (map_append (state_of size) pairs.earlier (pairs.now ∷ []))

pub right_each : (keeps : Bool) (size : ℕ) (pairs : Pairs) → OpenRight keeps size pairs → IsTrue keeps → AllByRecursion (OpensRight size) (all_pairs pairs)
right_each keeps size pairs right kept = all_append (OpensRight size) pairs.earlier (pairs.now ∷ []) (right.before kept) (right.now, tt)

-- the states from one moment to another, both included
states_since : (old new : Moments) (inside : List State) → all new ≡ all old ++ inside → drop (length old.earlier) (all new) ≡ old.state ∷ inside
states_since old new inside whole =
    ap (drop (length old.earlier)) (whole ∙ append_assoc old.earlier (old.state ∷ []) inside)
    ∙ drop-append_seam old.earlier (old.state ∷ inside)

leaves_since : (keeps : Bool) (P : Image → Type 0) (old new : Moments) → LeavesOnly keeps P old new → IsTrue keeps → AllByRecursion (Leaves P) (drop (length old.earlier) (all new))
leaves_since keeps P old new run kept =
    let passes = run.between kept in
    subst (AllByRecursion (Leaves P)) (sym (states_since old new passes.inside passes.whole)) (run.before, passes.each)

-- from the `from`-th moment on
opens_from : (size : ℕ) (P : Image → Type 0) (from : ℕ) (pairs : Pairs) → AllByRecursion (OpensRight size) (all_pairs pairs)
    → AllByRecursion (Leaves P) (drop from (all (moments_of size pairs))) → AllByRecursion (OpensOnly size P) (drop from (all_pairs pairs))
opens_from size P from pairs right leaves =
    each_opens size P (drop from (all_pairs pairs)) (all_drop (OpensRight size) from (all_pairs pairs) right)
    (subst (AllByRecursion (Leaves P)) (ap (drop from) (states_are size pairs) ∙ drop-map (state_of size) from (all_pairs pairs)) leaves)

pub opens_throughout : (keeps : Bool) (before size : ℕ) (P : Image → Type 0) (old new : Pairs) → OpenRight keeps size new
    → LeavesOnly keeps P (moments_of before old) (moments_of size new) → OpensThroughout keeps size P old new
opens_throughout keeps before size P old new right run = record {
  after = opens_only size P new.now right.now run.after;
  each = λ kept. subst (λ n. AllByRecursion (OpensOnly size P) (drop n (all_pairs new))) (length-map old.earlier (state_of before))
      (opens_from size P (length (map (state_of before) old.earlier)) new (right_each keeps size new right kept) (leaves_since keeps P (moments_of before old) (moments_of size new) run kept));
}

-- ---- while entries are answered

pub throughout_passes : (keeps : Bool) (sectors : ℕ) (start : PosixTree) (before told : List Entry) (old new : Moments)
    → IsExplainedThroughout keeps sectors start before told old new → IsTrue keeps → (inside : List State) × (all new ≡ all old ++ inside)
throughout_passes keeps sectors start before [] old new run kept = ((run.between kept).inside, (run.between kept).whole)
throughout_passes keeps sectors start before (entry ∷ told) old new run kept =
    let here = run.1.between kept in
    let rest = throughout_passes keeps sectors start (before ++ entry ∷ []) told run.0 new run.2 kept in
    (here.inside ++ rest.0, rest.1 ∙ ap (λ (l : List State). l ++ rest.0) here.whole ∙ append_assoc (all old) here.inside rest.0)

length_all : (m : Moments) → length (all m) ≡ length m.earlier + 1
length_all m = length-append m.earlier (m.state ∷ [])

-- up to a moment behind which others come
pub opens_from_to : (keeps : Bool) (size : ℕ) (P : Image → Type 0) (old mid : Moments) (new : Pairs) → AllByRecursion (OpensRight size) (all_pairs new) → IsTrue keeps
    → LeavesOnly keeps P old mid → (rest : List State) → all (moments_of size new) ≡ all mid ++ rest
    → OpensFromTo size P (length old.earlier) (length mid.earlier) (all_pairs new)
opens_from_to keeps size P old mid new right kept run rest whole = record {
  rises = let one = length_all old in let other = length_all mid in omega (arith, grows, one, other);
  within = let one = length_all mid in omega (arith, fits, one);
  each = each_opens size P (drop from (take (to + 1) (all_pairs new)))
      (all_drop (OpensRight size) from (take (to + 1) (all_pairs new)) (all_take (OpensRight size) (to + 1) (all_pairs new) right))
      (subst (AllByRecursion (Leaves P)) states (leaves_since keeps P old mid run kept));
}
  where
    from : ℕ
    from = length old.earlier

    to : ℕ
    to = length mid.earlier

    -- the states up to it are the first of all
    front : all mid ≡ take (to + 1) (map (state_of size) (all_pairs new))
    front = sym (take-append_seam (all mid) rest) ∙ ap (take (length (all mid))) (sym whole ∙ states_are size new) ∙ ap (λ n. take n (map (state_of size) (all_pairs new))) (length_all mid)

    states : drop from (all mid) ≡ map (state_of size) (drop from (take (to + 1) (all_pairs new)))
    states = ap (drop from) (front ∙ take-map (state_of size) (to + 1) (all_pairs new)) ∙ drop-map (state_of size) from (take (to + 1) (all_pairs new))

    grows : length (all mid) ≡ length (all old) + length (run.between kept).inside
    grows = ap length (run.between kept).whole ∙ length-append (all old) (run.between kept).inside

    fits : length (all_pairs new) ≡ length (all mid) + length rest
    fits = sym (length-map (all_pairs new) (state_of size)) ∙ ap length (sym (states_are size new) ∙ whole) ∙ length-append (all mid) rest

pub opens_as_answered : (keeps : Bool) (sectors size : ℕ) (start : PosixTree) (before told : List Entry) (old : Moments) (new : Pairs) → AllByRecursion (OpensRight size) (all_pairs new) → IsTrue keeps
    → IsExplainedThroughout keeps sectors start before told old (moments_of size new)
    → OpensAsAnswered size (IsExplainedImage sectors start) before told (length old.earlier) (all_pairs new)
opens_as_answered keeps sectors size start before [] old new right kept run =
    opens_from size (IsExplainedImage sectors start before) (length old.earlier) new right (leaves_since keeps (IsExplainedImage sectors start before) old (moments_of size new) run kept)
opens_as_answered keeps sectors size start before (entry ∷ told) old new right kept run =
    let rest = throughout_passes keeps sectors start (before ++ entry ∷ []) told run.0 (moments_of size new) run.2 kept in (
      length run.0.earlier,
      opens_from_to keeps size (IsExplainedImage sectors start before) old run.0 new right kept run.1 rest.0 rest.1,
      opens_as_answered keeps sectors size start (before ++ entry ∷ []) told run.0 new right kept run.2,
    )
