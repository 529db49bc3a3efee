-- The counts of an owner table after each of its calls.
use Rattle.std.proofs.Common.{◌≡◌, ◌≢◌, ◌≤◌, ◌<◌, ℕ, ◌+◌, ◌-◌, List, [], ◌∷◌, ◌++◌, Bool, true, false, cond, not, ◌&&◌, Option, Some, None, ap, sym, refl, ◌∙◌, arith, eqb, length, filter, IsTrue, Result, Ok, Err, OnOk, OnErr}
use Rattle.std.specs.Prelude.{unwrap_or, slice_index, slice_set, IsSome, replicate, is_some, map as map_list}
use Rattle.std.specs.FinMap as map
use Rattle.std.specs.List.{count_by}
use Rattle.std.specs.Ordering.{nat_cmp}
use Rattle.std.proofs.lemmas.Bool.{eq-eqb, eqb-true}
use Rattle.std.proofs.lemmas.List.{length-set, length-replicate, get_or-replicate}
use Rattle.ufs_owner.specs.declared.owner.Owner.{Owner}
use Rattle.ufs_owner.specs.declared.owner.Owner.TheVariants.{Primary, Worker, Coming, Going}
use Rattle.ufs_owner.specs.declared.owner.Standing.{Standing}
use Rattle.ufs_owner.specs.Owners.{Files, standing_at, owner_at, waiting_at, nothing_known, is_primary, is_with, count_out, count_with, is_coming, is_out, is_known, has_none, recalled, with_standing, with_waiting}
use Rattle.std.specs.Cmp.{nat_cmp_total}
use Rattle.std.specs.FinMap.{get-remove}
use Rattle.ufs_owner.proofs.PlaceLemmas.{ties_back, same_files}
use Rattle.ufs_owner.specs.Records.{Kept}
use Rattle.ufs_owner.specs.Counted.{AreKept}
use Rattle.ufs_owner.proofs.KeptLemmas.{out_one, with_one, AreKept-new, AreKept-change, AreKept-standing, AreKept-same, workers_more, workers_less, with_some, out_some}

-- ---- servers

-- the worker from which a file is recalled
pub recalled_with : (o : Owner) (from w : ℕ) → IsTrue (is_out o) → recalled o ≡ Coming from → with_one w o ≡ cond (eqb from w) 1 0
recalled_with Primary from w out is = cc
recalled_with (Worker x) from w out is = let same : x ≡ from = cc in ap (λ x. cond (eqb x w) 1 0) same
recalled_with (Coming x) from w out is = cc
recalled_with (Going x) from w out is = let same : x ≡ from = cc in ap (λ x. cond (eqb x w) 1 0) same

pub out_counts : (o : Owner) → IsTrue (is_out o) → out_one o ≡ 1
out_counts Primary h = cc
out_counts (Worker x) h = refl
out_counts (Coming x) h = cc
out_counts (Going x) h = refl

pub coming_counts : (o : Owner) → IsTrue (is_coming o) → out_one o ≡ 1
coming_counts Primary h = cc
coming_counts (Worker x) h = cc
coming_counts (Coming x) h = refl
coming_counts (Going x) h = cc

pub coming_with : (o : Owner) (w : ℕ) → IsTrue (is_coming o) → with_one w o ≡ 0
coming_with Primary w h = cc
coming_with (Worker x) w h = cc
coming_with (Coming x) w h = refl
coming_with (Going x) w h = cc

pub coming_known : (o : Owner) (t : Bool) → IsTrue (is_coming o) → not (is_primary o && t) ≡ true
coming_known Primary t h = cc
coming_known (Worker x) t h = cc
coming_known (Coming x) t h = refl
coming_known (Going x) t h = cc

-- somebody waits: something is known of the file
pub waiting_known : (o : Owner) (xs : List ℕ) → xs ≢ [] → not (is_primary o && has_none xs) ≡ true
waiting_known o [] some = absurd (some refl)
waiting_known Primary (x ∷ xs) some = refl
waiting_known (Worker w) (x ∷ xs) some = refl
waiting_known (Coming w) (x ∷ xs) some = refl
waiting_known (Going w) (x ∷ xs) some = refl

pub known_some : {X : Type 0} (o : Option X) → is_some o ≡ true → (x : X) × (o ≡ Some x)
known_some None e = cc
known_some (Some x) e = (x, refl)

-- a file that is at the primary, and for which nobody waits, has no record
pub unknown_at : (k : Kept) (spare out : ℕ) (workers : List ℕ) → AreKept k spare out workers → (file : ℕ) → owner_at k.files file ≡ Primary → waiting_at k.files file ≡ [] → map.get k.files file ≡ None
unknown_at k spare out workers kept file here nobody = by (map.get k.files file) refl here nobody
  where
    by : (o : Option Standing) → map.get k.files file ≡ o → (unwrap_or o nothing_known).owner ≡ Primary → (unwrap_or o nothing_known).waiting ≡ [] → o ≡ None
    by None e h i = refl
    by (Some s) e h i = let known = kept.known file s e in let not_known = ap (λ o. not (is_primary o && has_none s.waiting)) h in let none = ap (λ (xs : List ℕ). not (true && has_none xs)) i in cc

pub none_of : {X : Type 0} (o : Option X) → is_some o ≡ false → o ≡ None
none_of None e = refl
none_of (Some x) e = cc

module _ (k : Kept) (spare out : ℕ) (workers : List ℕ) (kept : AreKept k spare out workers) (file : ℕ) (k' : Kept) where
  -- a file of which something is known has another standing, with a server that counts alike
  pub counts_stay : (old : Standing) → map.get k.files file ≡ Some old → (s : Standing) → out_one old.owner ≡ out_one s.owner → ((w : ℕ) → with_one w old.owner ≡ with_one w s.owner) → k'.files ≡ with_standing k.files file s → spare ≤ k'.room → AreKept k' spare out workers
  counts_stay old there s outs withs is room =
      AreKept-standing k spare out workers kept k' spare out workers room kept.in_range kept.length_is file s is old there
      (ap (λ n. out + n) outs) (λ w low. ap (λ n. slice_index workers w + n) (withs w))

  pub kept_sent : (to : ℕ) → to < 256 → map.get k.files file ≡ None → 0 < spare → k'.files ≡ map.insert k.files file (record { owner = Going to; note = 0; waiting = [] }) → spare ≤ k'.room + 1 → (workers' : List ℕ) → workers' ≡ slice_set workers to (slice_index workers to + 1) → AreKept k' (spare - 1) (out + 1) workers'
  kept_sent to low none some is room workers' are =
      let range = kept.in_range in
      let within : to < length workers = omega (arith, kept.length_is) in
      AreKept-new k spare out workers kept k' (spare - 1) (out + 1) workers' (omega arith) (omega arith)
      (ap length are ∙ length-set workers to (slice_index workers to + 1) ∙ kept.length_is) file (record { owner = Going to; note = 0; waiting = [] }) refl is none refl
      (λ w _. ap (λ ws. slice_index ws w) are ∙ workers_more workers to w within)

  itself : (n : ℕ) → ◌≡◌ {A = ℕ} (cond (eqb n n) 1 0) 1
  itself n = ap (λ t. cond t 1 0) (eq-eqb n n refl)

  pub some_recalled : (from : ℕ) → from < 256 → (old : Standing) → map.get k.files file ≡ Some old → IsTrue (is_out old.owner) → recalled old.owner ≡ Coming from → 0 < slice_index workers from
  some_recalled from low old there was came = omega (arith, with_some k spare out workers kept file old there from low, recalled_with old.owner from from was came, itself from)

  pub kept_recalled : (from : ℕ) → from < 256 → (old : Standing) → map.get k.files file ≡ Some old → IsTrue (is_out old.owner) → recalled old.owner ≡ Coming from → (s : Standing) → s.owner ≡ Coming from → k'.files ≡ map.insert k.files file s → spare ≤ k'.room → (workers' : List ℕ) → workers' ≡ slice_set workers from (slice_index workers from - 1) → AreKept k' spare out workers'
  kept_recalled from low old there was came s now is room workers' are =
      let within : from < length workers = omega (arith, kept.length_is) in
      let some = some_recalled from low old there was came in
      AreKept-change k spare out workers kept k' spare out workers' room kept.in_range
      (ap length are ∙ length-set workers from (slice_index workers from - 1) ∙ kept.length_is) file s (ap (λ o. not (is_primary o && has_none s.waiting)) now) is old there
      (ap (λ n. out + n) (out_counts old.owner was ∙ sym (ap out_one now)))
      (λ w _.
      ap (λ n. slice_index workers' w + n) (recalled_with old.owner from w was came)
      ∙ ap (λ ws. slice_index ws w + cond (eqb from w) 1 0) are
      ∙ workers_less workers from w within some
      ∙ (let none : slice_index workers w ≡ slice_index workers w + 0 = omega arith in none)
      ∙ ap (λ o. slice_index workers w + with_one w o) (sym now))

  pub kept_settled : (old : Standing) → map.get k.files file ≡ Some old → IsTrue (is_coming old.owner) → (s : Standing) → s.owner ≡ Primary → k'.files ≡ with_standing k.files file s → spare ≤ k'.room → AreKept k' spare (out - 1) workers
  kept_settled old there coming s now is room =
      let one = coming_counts old.owner coming in
      let least = out_some k spare out workers kept file old there in
      let range = kept.in_range in
      AreKept-standing k spare out workers kept k' spare (out - 1) workers room (omega arith) kept.length_is file s is old there
      (let zero = ap out_one now in omega (arith, zero, one, least))
      (λ w low. ap (λ n. slice_index workers w + n) (coming_with old.owner w coming ∙ sym (ap (with_one w) now)))

  -- somebody waits for a file of which nothing was known
  pub kept_awaited : map.get k.files file ≡ None → (clients : List ℕ) → clients ≢ [] → k'.files ≡ map.insert k.files file (record { owner = Primary; note = 0; waiting = clients }) → spare ≤ k'.room → AreKept k' spare out workers
  kept_awaited none clients some is room =
      AreKept-new k spare out workers kept k' spare out workers room kept.in_range kept.length_is file (record { owner = Primary; note = 0; waiting = clients }) (waiting_known Primary clients some) is none
      (omega arith) (λ w low. omega arith)

-- one more waits for a file of which something was known, or memory lacked
pub kept_waits : (k : Kept) (spare out : ℕ) (workers : List ℕ) (kept : AreKept k spare out workers) (file : ℕ) (k' : Kept) → IsSome (map.get k.files file) → (client : ℕ) {T E : Type 0} (result : Result T E) → OnOk result (k'.files ≡ map.insert k.files file (record (standing_at k.files file) { waiting = waiting_at k.files file ++ client ∷ [] })) → OnErr result (k'.files ≡ k.files) → spare ≤ k'.room → AreKept k' spare out workers
kept_waits k spare out workers kept file k' there client (Err e) ok err room = AreKept-same k spare out workers kept k' err room
kept_waits k spare out workers kept file k' there client (Ok x) ok err room = by (map.get k.files file) refl there
  where
    some : (xs : List ℕ) → xs ++ client ∷ [] ≢ []
    some [] e = cc
    some (x ∷ xs) e = cc

    by : (o : Option Standing) → map.get k.files file ≡ o → IsSome o → AreKept k' spare out workers
    by None e h = cc
    by (Some old) e h =
        let own = ap (λ o. (unwrap_or o nothing_known).owner) e in
        let known = waiting_known (owner_at k.files file) (waiting_at k.files file ++ client ∷ []) (some (waiting_at k.files file)) in
        counts_stay k spare out workers kept file k' old e (record (standing_at k.files file) { waiting = waiting_at k.files file ++ client ∷ [] }) (ap out_one (sym own)) (λ w. ap (with_one w) (sym own))
        (ok ∙ sym (ap (λ t. cond t (map.insert k.files file (record (standing_at k.files file) { waiting = waiting_at k.files file ++ client ∷ [] })) (map.remove k.files file)) known)) room

-- ---- the first table

entries-empty : map.entries (map.empty {X = Standing} {R = nat_cmp}) ≡ []
entries-empty = nothing _ (sym (map.len-entries map.empty) ∙ map.len-empty nat_cmp Standing)
  where
    nothing : (es : List (ℕ × Standing)) → length es ≡ 0 → es ≡ []
    nothing [] e = refl
    nothing (e ∷ es) h = absurd (omega arith)

pub kept_empty : (k : Kept) → k.files ≡ map.empty → (workers : List ℕ) → workers ≡ replicate 256 0 → AreKept k 0 0 workers
kept_empty k is workers are = record {
  known = λ f s e. nothing f s (sym (ap (λ m. map.get m f) is ∙ map.get-empty nat_cmp f) ∙ e);
  out_is = sym (ap count_out is ∙ none (λ (s : Standing). not (is_primary s.owner)));
  length_is = ap length are ∙ length-replicate {A = ℕ} 256 0;
  workers_are = λ w low. ap (λ ws. slice_index ws w) are ∙ get_or-replicate {A = ℕ} 256 w 0 0 low ∙ sym (ap (count_with w) is ∙ none (λ (s : Standing). is_with w s.owner));
  room = omega arith;
  in_range = omega arith;
}
  where
    nothing : (f : ℕ) (s : Standing) → None ≡ Some s → is_known s ≡ true
    nothing f s e = cc

    none : (p : Standing → Bool) → count_by p (map.values (map.empty {X = Standing} {R = nat_cmp})) ≡ 0
    none p = ap (λ (es : List (ℕ × Standing)). count_by p (map_list {B = Standing} (λ (e : ℕ × Standing). e.1) es)) entries-empty

-- nobody waits any more for a file for which nobody waited
pub none_waited : (files : Files) (file : ℕ) (p : ℕ → Bool) → map.get files file ≡ None → with_waiting files file (filter p (waiting_at files file)) ≡ files
none_waited files file p none =
    ap (λ o. with_standing files file (record (unwrap_or o nothing_known) { waiting = filter p (unwrap_or o nothing_known).waiting })) none
    ∙ same_files _ _ (λ q. get-remove nat_cmp_total files file q ∙ ap (λ t. cond t None (map.get files q)) (ties_back q file) ∙ by q (eqb file q) refl)
  where
    by : (q : ℕ) (t : Bool) → eqb file q ≡ t → cond t None (map.get files q) ≡ map.get files q
    by q true e = sym (ap (map.get files) (sym (eqb-true file q e)) ∙ none)
    by q false e = refl
