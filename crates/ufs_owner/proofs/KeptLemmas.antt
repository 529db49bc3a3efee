-- How an owner table's counts go on as one file changes.
use Rattle.std.proofs.Common.{◌≡◌, ◌≤◌, ◌<◌, ◌^◌, ℕ, ◌+◌, ◌-◌, List, Bool, true, false, cond, not, ◌&&◌, Option, Some, None, ap, sym, refl, ◌∙◌, arith, eqb, length, IsTrue, get_or, set, rules}
use Rattle.std.specs.Prelude.{unwrap_or, slice_index, slice_set, IsSome, is_some}
use Rattle.std.specs.Ordering.{nat_cmp}
use Rattle.std.specs.Cmp.{nat_cmp_total}
use Rattle.std.specs.FinMap as map
use Rattle.std.specs.FinMap.{nat_cmp-IsAntisymmetric, get-insert, get-remove}
use Rattle.std.proofs.lemmas.Bool.{eqb-true, eq-eqb}
use Rattle.std.proofs.lemmas.List.{get_or-set_same, get_or-set_other}
use Rattle.ufs_owner.specs.declared.owner.Owner.{Owner}
use Rattle.ufs_owner.specs.declared.owner.Owner.TheVariants.{Primary, Worker, Coming, Going}
use Rattle.ufs_owner.specs.declared.owner.Standing.{Standing}
use Rattle.ufs_owner.specs.Owners.{Files, standing_at, owner_at, nothing_known, is_primary, is_with, is_known, has_none, with_standing, count_out, count_with}
use Rattle.ufs_owner.specs.Records.{Kept}
use Rattle.ufs_owner.specs.Counted.{AreKept}
use Rattle.ufs_owner.proofs.PlaceLemmas.{ties_back, same_files}
use Rattle.ufs_counts.proofs.CountLemmas.{values-insert, values-replace, values-remove}
use Rattle.ufs_owner.proofs.CountLemmas.{count-le, put_out}

abbrev pub out_one : Owner → ℕ
out_one owner = cond (not (is_primary owner)) 1 0

abbrev pub with_one : ℕ → Owner → ℕ
with_one worker owner = cond (is_with worker owner) 1 0

-- ---- what a file's owner tells of its record

never_true : {X : Type 0} (t : Bool) → t ≡ false → IsTrue t → X
never_true true e h = cc
never_true false e h = cc

pub known_at : (files : Files) (file : ℕ) (test : Owner → Bool) → test Primary ≡ false → IsTrue (test (owner_at files file)) → (old : Standing) × (map.get files file ≡ Some old) × (owner_at files file ≡ old.owner)
known_at files file test never holds = by (map.get files file) refl holds
  where
    by : (o : Option Standing) → map.get files file ≡ o → IsTrue (test (unwrap_or o nothing_known).owner) → (old : Standing) × (map.get files file ≡ Some old) × (owner_at files file ≡ old.owner)
    by None e h = never_true (test Primary) never h
    by (Some old) e h = (old, e, ap (λ o. (unwrap_or o nothing_known).owner) e)

-- ---- the counts

with_le_out_one : (worker : ℕ) (owner : Owner) → with_one worker owner ≤ out_one owner
with_le_out_one worker Primary = omega arith
with_le_out_one worker (Worker other) = by (eqb other worker)
  where
    by : (t : Bool) → cond t 1 0 ≤ 1
    by true = omega arith
    by false = omega arith
with_le_out_one worker (Coming from) = omega arith
with_le_out_one worker (Going to) = by (eqb to worker)
  where
    by : (t : Bool) → cond t 1 0 ≤ 1
    by true = omega arith
    by false = omega arith

module _ (k : Kept) (spare out : ℕ) (workers : List ℕ) (kept : AreKept k spare out workers) where
  pub with_le_out : (worker : ℕ) → worker < 256 → slice_index workers worker ≤ out
  with_le_out worker low =
      let less = count-le (λ (s : Standing). is_with worker s.owner) (λ (s : Standing). not (is_primary s.owner)) (λ s. with_le_out_one worker s.owner) (map.values k.files) in
      omega (arith, less, kept.workers_are worker low, kept.out_is)

  pub out_some : (file : ℕ) (old : Standing) → map.get k.files file ≡ Some old → out_one old.owner ≤ out
  out_some file old there =
      let removed = values-remove nat_cmp (λ (s : Standing). not (is_primary s.owner)) nat_cmp_total nat_cmp-IsAntisymmetric k.files file old there in
      omega (arith, removed, kept.out_is)

  pub with_some : (file : ℕ) (old : Standing) → map.get k.files file ≡ Some old → (worker : ℕ) → worker < 256 → with_one worker old.owner ≤ slice_index workers worker
  with_some file old there worker low =
      let removed = values-remove nat_cmp (λ (s : Standing). is_with worker s.owner) nat_cmp_total nat_cmp-IsAntisymmetric k.files file old there in
      omega (arith, removed, kept.workers_are worker low)

  pub AreKept-same : (k' : Kept) → k'.files ≡ k.files → spare ≤ k'.room → AreKept k' spare out workers
  AreKept-same k' same room = record {
    known = λ f s e. kept.known f s (sym (ap (λ m. map.get m f) same) ∙ e);
    out_is = kept.out_is ∙ sym (ap count_out same);
    length_is = kept.length_is;
    workers_are = λ w low. kept.workers_are w low ∙ sym (ap (count_with w) same);
    room = room;
    in_range = kept.in_range;
  }

  module _ (k' : Kept) (spare' out' : ℕ) (workers' : List ℕ) (room : spare' ≤ k'.room) (range : out' + spare' < 2 ^ 32) (long : length workers' ≡ 256) (file : ℕ) where
    module _ (s : Standing) (known : is_known s ≡ true) (is : k'.files ≡ map.insert k.files file s) where
      known_more : (f : ℕ) (t : Standing) → map.get k'.files f ≡ Some t → is_known t ≡ true
      known_more f t e = by (eqb file f) (sym (ap (λ m. map.get m f) is ∙ get-insert nat_cmp_total k.files file s f ∙ ap (λ b. cond b (Some s) (map.get k.files f)) (ties_back f file)) ∙ e)
        where
          by : (b : Bool) → cond b (Some s) (map.get k.files f) ≡ Some t → is_known t ≡ true
          by true e = let same : s ≡ t = cc in ap is_known (sym same) ∙ known
          by false e = kept.known f t e

      -- a file of which nothing was known
      pub AreKept-new : map.get k.files file ≡ None → out' ≡ out + out_one s.owner → ((w : ℕ) → w < 256 → slice_index workers' w ≡ slice_index workers w + with_one w s.owner) → AreKept k' spare' out' workers'
      AreKept-new none outs withs = record {
        known = known_more;
        out_is = outs ∙ ap (λ n. n + out_one s.owner) kept.out_is ∙ sym (ap count_out is ∙ values-insert nat_cmp (λ (s : Standing). not (is_primary s.owner)) nat_cmp_total k.files file s none);
        length_is = long;
        workers_are = λ w low. withs w low ∙ ap (λ n. n + with_one w s.owner) (kept.workers_are w low) ∙ sym (ap (count_with w) is ∙ values-insert nat_cmp (λ (s : Standing). is_with w s.owner) nat_cmp_total k.files file s none);
        room = room;
        in_range = range;
      }

      -- a file of which something was known
      pub AreKept-change : (old : Standing) → map.get k.files file ≡ Some old → out' + out_one old.owner ≡ out + out_one s.owner → ((w : ℕ) → w < 256 → slice_index workers' w + with_one w old.owner ≡ slice_index workers w + with_one w s.owner) → AreKept k' spare' out' workers'
      AreKept-change old there outs withs = record {
        known = known_more;
        out_is = let replaced = values-replace nat_cmp (λ (s : Standing). not (is_primary s.owner)) nat_cmp_total nat_cmp-IsAntisymmetric k.files file old s there in let at = ap count_out is in omega (arith, replaced, at, outs, kept.out_is);
        length_is = long;
        workers_are = λ w low. let replaced = values-replace nat_cmp (λ (s : Standing). is_with w s.owner) nat_cmp_total nat_cmp-IsAntisymmetric k.files file old s there in let at = ap (count_with w) is in omega (arith, replaced, at, withs w low, kept.workers_are w low);
        room = room;
        in_range = range;
      }

    -- a file of which nothing is known any more
    pub AreKept-gone : k'.files ≡ map.remove k.files file → (old : Standing) → map.get k.files file ≡ Some old → out' + out_one old.owner ≡ out → ((w : ℕ) → w < 256 → slice_index workers' w + with_one w old.owner ≡ slice_index workers w) → AreKept k' spare' out' workers'
    AreKept-gone is old there outs withs = record {
      known = λ f t e. by f t (eqb file f) (sym (ap (λ m. map.get m f) is ∙ get-remove nat_cmp_total k.files file f ∙ ap (λ b. cond b None (map.get k.files f)) (ties_back f file)) ∙ e);
      out_is = let removed = values-remove nat_cmp (λ (s : Standing). not (is_primary s.owner)) nat_cmp_total nat_cmp-IsAntisymmetric k.files file old there in let at = ap count_out is in omega (arith, removed, at, outs, kept.out_is);
      length_is = long;
      workers_are = λ w low. let removed = values-remove nat_cmp (λ (s : Standing). is_with w s.owner) nat_cmp_total nat_cmp-IsAntisymmetric k.files file old there in let at = ap (count_with w) is in omega (arith, removed, at, withs w low, kept.workers_are w low);
      room = room;
      in_range = range;
    }
      where
        by : (f : ℕ) (t : Standing) (b : Bool) → cond b None (map.get k.files f) ≡ Some t → is_known t ≡ true
        by f t true e = cc
        by f t false e = kept.known f t e

    -- a file has a standing, of which it is known whether anything is to be kept
    pub AreKept-standing : (s : Standing) → k'.files ≡ with_standing k.files file s → (old : Standing) → map.get k.files file ≡ Some old → out' + out_one old.owner ≡ out + out_one s.owner → ((w : ℕ) → w < 256 → slice_index workers' w + with_one w old.owner ≡ slice_index workers w + with_one w s.owner) → AreKept k' spare' out' workers'
    AreKept-standing s is old there outs withs = by (is_known s) refl is
      where
        of_owner : (o : Owner) (t : Bool) → not (is_primary o && t) ≡ false → o ≡ Primary
        of_owner Primary t e = refl
        of_owner (Worker w) t e = cc
        of_owner (Coming w) t e = cc
        of_owner (Going w) t e = cc

        at_primary : (s : Standing) → is_known s ≡ false → s.owner ≡ Primary
        at_primary s none = of_owner s.owner (has_none s.waiting) none

        by : (t : Bool) → is_known s ≡ t → k'.files ≡ cond t (map.insert k.files file s) (map.remove k.files file) → AreKept k' spare' out' workers'
        by true e is = AreKept-change s e is old there outs withs
        by false e is =
            let here = at_primary s e in
            let none = ap out_one here in
            AreKept-gone is old there (omega (arith, outs, none)) (λ w low. let zero = ap (with_one w) here in omega (arith, withs w low, zero))

-- ---- one worker's count

pub workers_more : (workers : List ℕ) (to w : ℕ) → to < length workers → slice_index (slice_set workers to (slice_index workers to + 1)) w ≡ slice_index workers w + cond (eqb to w) 1 0
workers_more workers to w low = by (eqb to w) refl
  where
    by : (t : Bool) → eqb to w ≡ t → get_or (set workers to (get_or workers to 0 + 1)) w 0 ≡ get_or workers w 0 + cond t 1 0
    by true e = let same = eqb-true to w e in ap (λ w. get_or (set workers to (get_or workers to 0 + 1)) w 0) (sym same) ∙ get_or-set_same workers to (get_or workers to 0 + 1) 0 low ∙ ap (λ w. get_or workers w 0 + 1) same
    by false e = get_or-set_other workers to w (get_or workers to 0 + 1) 0 (λ same. let yes = eq-eqb to w (sym same) in cc) ∙ omega arith

pub workers_less : (workers : List ℕ) (from w : ℕ) → from < length workers → 0 < slice_index workers from → slice_index (slice_set workers from (slice_index workers from - 1)) w + cond (eqb from w) 1 0 ≡ slice_index workers w
workers_less workers from w low some = by (eqb from w) refl
  where
    by : (t : Bool) → eqb from w ≡ t → get_or (set workers from (get_or workers from 0 - 1)) w 0 + cond t 1 0 ≡ get_or workers w 0
    by true e =
        let same = eqb-true from w e in
        ap (λ w. get_or (set workers from (get_or workers from 0 - 1)) w 0 + 1) (sym same)
        ∙ ap (λ n. n + 1) (get_or-set_same workers from (get_or workers from 0 - 1) 0 low)
        ∙ (let back : get_or workers from 0 - 1 + 1 ≡ get_or workers from 0 = omega arith in back)
        ∙ ap (λ w. get_or workers w 0) same
    by false e = ap (λ n. n + 0) (get_or-set_other workers from w (get_or workers from 0 - 1) 0 (λ same. let yes = eq-eqb from w (sym same) in cc)) ∙ omega arith

-- ---- records that change twice

-- what is put there and dropped where nothing is known
pub standing_put : (files : Files) (file : ℕ) (s : Standing) → standing_at (map.insert files file s) file ≡ s
standing_put files file s = ap (λ o. unwrap_or o nothing_known) (get-insert nat_cmp_total files file s file ∙ ap (λ t. cond t (Some s) (map.get files file)) (ties_back file file ∙ eq-eqb file file refl))

put_again : (files : Files) (file : ℕ) (s : Standing) → map.get files file ≡ Some s → map.insert files file s ≡ files
put_again files file s there = same_files _ _ (λ q. get-insert nat_cmp_total files file s q ∙ ap (λ t. cond t (Some s) (map.get files q)) (ties_back q file) ∙ by q (eqb file q) refl)
  where
    by : (q : ℕ) (t : Bool) → eqb file q ≡ t → cond t (Some s) (map.get files q) ≡ map.get files q
    by q true e = sym (ap (map.get files) (sym (eqb-true file q e)) ∙ there)
    by q false e = refl

-- a record of which something is known stays
pub standing_kept : (files : Files) (file : ℕ) → IsSome (map.get files file) → is_known (standing_at files file) ≡ true → files ≡ with_standing files file (standing_at files file)
standing_kept files file some known = sym (ap (λ t. cond t (map.insert files file (standing_at files file)) (map.remove files file)) known ∙ by (map.get files file) refl some)
  where
    by : (o : Option Standing) → map.get files file ≡ o → IsSome o → map.insert files file (standing_at files file) ≡ files
    by None e h = search rules
    by (Some s) e h = ap (map.insert files file) (ap (λ o. unwrap_or o nothing_known) e) ∙ put_again files file s e

pub standing_after : (files files' : Files) (file : ℕ) (s : Standing) → files' ≡ map.insert files file s → with_standing files' file (standing_at files' file) ≡ with_standing files file s
standing_after files files' file s is =
    ap (λ m. with_standing m file (standing_at m file)) is
    ∙ ap (with_standing (map.insert files file s) file) (standing_put files file s)
    ∙ by (is_known s)
  where
    by : (t : Bool) → cond t (map.insert (map.insert files file s) file s) (map.remove (map.insert files file s) file) ≡ cond t (map.insert files file s) (map.remove files file)
    by true = put_again (map.insert files file s) file s (get-insert nat_cmp_total files file s file ∙ ap (λ t. cond t (Some s) (map.get files file)) (ties_back file file ∙ eq-eqb file file refl))
    by false = put_out nat_cmp_total nat_cmp-IsAntisymmetric files file s

-- a file whose record was put has one
pub known_put : (files files' : Files) (file : ℕ) (s : Standing) → files' ≡ map.insert files file s → IsSome (map.get files' file)
known_put files files' file s is = ap is_some (ap (λ m. map.get m file) is ∙ get-insert nat_cmp_total files file s file ∙ ap (λ t. cond t (Some s) (map.get files file)) (ties_back file file ∙ eq-eqb file file refl))
