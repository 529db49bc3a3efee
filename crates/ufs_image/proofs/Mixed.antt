-- An image in which some sectors have been written home already folds to the same.
use Rattle.std.proofs.Common.{◌≡◌, ◌≢◌, ℕ, zero, suc, ◌+◌, ◌*◌, ◌-◌, ◌<◌, ◌≤◌, ◌⊎◌, inl, inr, List, [], ◌∷◌, ◌++◌, length, set, Bool, true, false, unwrap_or, ap, sym, refl, ◌∙◌, subst, arith}
use Rattle.std.specs.Prelude.{flat_map, ◌==◌, nat_lt, nat_le, if◌then◌else◌, IsTrue}
use Rattle.std.specs.List.{AllByRecursion}
use Rattle.std.proofs.lemmas.Bool.{and_parts}
use Rattle.std.proofs.lemmas.Bool.Decides.{nat_tests}
use Rattle.std.proofs.lemmas.List.{set-set}
use Rattle.ufs_layout.specs.Words.{pieces}
use Rattle.ufs_layout.specs.Areas.{IsGeometry, sector_of_inode, is_inode_number, is_data_sector, first_of_data, first_of_inodes, sector_count}
use Rattle.ufs_layout.specs.InodeForm.{InodeForm, inode_of, inode_bytes, free_inode}
use Rattle.ufs_layout.specs.DentryForm.{dentry_bytes, is_dentry}
use Rattle.ufs_base.specs.Images.{Image}
use Rattle.ufs_image.specs.Images.{IsImageOf, with_sector, with_slot, form_at}
use Rattle.ufs_image.specs.Fold.{is_newer, with_inode, after_delta, with_record, with_valid, with_records, with_committed, folded}
use Rattle.ufs_layout.specs.declared.geometry.Geometry.{Geometry}
use Rattle.ufs_layout.specs.declared.records.LogRecord.{LogRecord}
use Rattle.ufs_layout.specs.declared.records.LogRecord.TheVariants.{Delta, Place, Free}
use Rattle.ufs_layout.specs.declared.records.Committed.{Committed}
use Rattle.ufs_image.specs.Catalog.{Catalog, IsInode, catalog_at}
use Rattle.ufs_image.specs.Folding.{with_form, with_dentry, is_newer_in, with_valid_in, with_records_in, with_committed_in, folded_in, AreSpelled, FitsCommitted, Spells}
use Rattle.ufs_image.proofs.Empty.{apart_false}
use Rattle.ufs_image.proofs.SlotBytes.{pieces-set, length-with_slot}
use Rattle.ufs_layout.proofs.RecordForms.{length-dentry}
use Rattle.ufs_image.proofs.Steps.{folded_step}
use Rattle.ufs_image.proofs.Fits.{shows}
use Rattle.ufs_image.proofs.Glued.{glued}

-- ---- slots of a sector are set

Set : Type 0
Set = ℕ × List ℕ

set_swap : {X : Type 0} (xs : List X) (k l : ℕ) (v u : X) → k ≢ l → set (set xs l u) k v ≡ set (set xs k v) l u
set_swap [] k l v u apart = refl
set_swap (x ∷ xs) zero zero v u apart = absurd (apart refl)
set_swap (x ∷ xs) zero (suc l) v u apart = refl
set_swap (x ∷ xs) (suc k) zero v u apart = refl
set_swap (x ∷ xs) (suc k) (suc l) v u apart = ap (λ ys. x ∷ ys) (set_swap xs k l v u (λ e. apart (ap suc e)))

-- sectors with the same pieces are one
same_pieces : (x y : List ℕ) → length x ≡ 512 → length y ≡ 512 → pieces 8 64 x ≡ pieces 8 64 y → x ≡ y
same_pieces x y sx sy e = sym (glued 8 x (omega (arith, sx))) ∙ ap (flat_map (λ p. p)) e ∙ glued 8 y (omega (arith, sy))

slot_same : (k : ℕ) (v u x : List ℕ) → k < 8 → length v ≡ 64 → length u ≡ 64 → length x ≡ 512 → with_slot k v (with_slot k u x) ≡ with_slot k v x
slot_same k v u x less sv su sx =
    let inner = length-with_slot k u x less sx su in
    same_pieces (with_slot k v (with_slot k u x)) (with_slot k v x) (length-with_slot k v (with_slot k u x) less inner sv) (length-with_slot k v x less sx sv)
    (pieces-set 8 k (with_slot k u x) v less (omega (arith, inner)) sv ∙ ap (λ ps. set ps k v) (pieces-set 8 k x u less (omega (arith, sx)) su) ∙ set-set (pieces 8 64 x) k u v ∙ sym (pieces-set 8 k x v less (omega (arith, sx)) sv))

slot_swap : (k l : ℕ) (v u x : List ℕ) → k ≢ l → k < 8 → l < 8 → length v ≡ 64 → length u ≡ 64 → length x ≡ 512 → with_slot l u (with_slot k v x) ≡ with_slot k v (with_slot l u x)
slot_swap k l v u x apart lk ll sv su sx =
    let one = length-with_slot k v x lk sx sv in
    let two = length-with_slot l u x ll sx su in
    same_pieces (with_slot l u (with_slot k v x)) (with_slot k v (with_slot l u x)) (length-with_slot l u (with_slot k v x) ll one su) (length-with_slot k v (with_slot l u x) lk two sv)
    (pieces-set 8 l (with_slot k v x) u ll (omega (arith, one)) su ∙ ap (λ ps. set ps l u) (pieces-set 8 k x v lk (omega (arith, sx)) sv)
    ∙ sym (set_swap (pieces 8 64 x) k l v u apart)
    ∙ sym (pieces-set 8 k (with_slot l u x) v lk (omega (arith, two)) sv ∙ ap (λ ps. set ps k v) (pieces-set 8 l x u ll (omega (arith, sx)) su)))

abbrev put_sets : List (ℕ × List ℕ) → List ℕ → List ℕ
put_sets [] x = x
put_sets (e ∷ es) x = put_sets es (with_slot e.0 e.1 x)

abbrev GoodSets : List (ℕ × List ℕ) → Type 0
GoodSets = AllByRecursion (λ e. (e.0 < 8) × (length e.1 ≡ 64))

-- a later one sets the slot
abbrev Sets : ℕ → List (ℕ × List ℕ) → Type 0
Sets k [] = ⊥
Sets k (e ∷ es) = (k ≡ e.0) ⊎ Sets k es

put_sets-append : (xs ys : List (ℕ × List ℕ)) (x : List ℕ) → put_sets (xs ++ ys) x ≡ put_sets ys (put_sets xs x)
put_sets-append [] ys x = refl
put_sets-append (e ∷ xs) ys x = put_sets-append xs ys (with_slot e.0 e.1 x)

good_append : (xs ys : List (ℕ × List ℕ)) → GoodSets xs → GoodSets ys → GoodSets (xs ++ ys)
good_append [] ys gx gy = gy
good_append (e ∷ xs) ys gx gy = (gx.0, good_append xs ys gx.1 gy)

absorbed : (es : List (ℕ × List ℕ)) (k : ℕ) (v x : List ℕ) → GoodSets es → Sets k es → k < 8 → length v ≡ 64 → length x ≡ 512 → put_sets es (with_slot k v x) ≡ put_sets es x
absorbed [] k v x good sets less sv sx = absurd sets
absorbed (e ∷ es) k v x good sets less sv sx = by (k == e.0) refl sets (λ there. absorbed es k v (with_slot e.0 e.1 x) good.1 there less sv (length-with_slot e.0 e.1 x good.0.0 sx good.0.1))
  where
    by : (b : Bool) → (k == e.0) ≡ b → (k ≡ e.0) ⊎ Sets k es → (Sets k es → put_sets es (with_slot k v (with_slot e.0 e.1 x)) ≡ put_sets es (with_slot e.0 e.1 x))
        → put_sets es (with_slot e.0 e.1 (with_slot k v x)) ≡ put_sets es (with_slot e.0 e.1 x)
    by true t there more =
        let same : k ≡ e.0 = grind (arith, nat_tests, t) in
        ap (put_sets es) (ap (λ n. with_slot e.0 e.1 (with_slot n v x)) same ∙ slot_same e.0 e.1 v x good.0.0 good.0.1 sv sx)
    by false t (inl same) more = let yes : (k == e.0) ≡ true = grind (arith, nat_tests, same) in let no = sym t ∙ yes in absurd cc
    by false t (inr there) more =
        let apart : k ≢ e.0 = λ same. let yes : (k == e.0) ≡ true = grind (arith, nat_tests, same) in let no = sym t ∙ yes in cc in
        ap (put_sets es) (slot_swap k e.0 v e.1 x apart less good.0.0 sv good.0.1 sx) ∙ more there

absorbed_all : (qs es : List (ℕ × List ℕ)) (x : List ℕ) → GoodSets qs → GoodSets es → ((k : ℕ) → Sets k qs → Sets k es) → length x ≡ 512 → put_sets es (put_sets qs x) ≡ put_sets es x
absorbed_all [] es x gq ge within sx = refl
absorbed_all (q ∷ qs) es x gq ge within sx =
    absorbed_all qs es (with_slot q.0 q.1 x) gq.1 ge (λ k is. within k (inr is)) (length-with_slot q.0 q.1 x gq.0.0 sx gq.0.1)
    ∙ absorbed es q.0 q.1 x ge (within q.0 (inl refl)) gq.0.0 gq.0.1 sx

-- ---- a sector of the data area

abbrev onto_sets : Bool → ℕ × List ℕ → List (ℕ × List ℕ) → List (ℕ × List ℕ)
onto_sets true e es = e ∷ es
onto_sets false e es = es

-- what these records set in a sector
abbrev sets_of : ℕ → List LogRecord → List (ℕ × List ℕ)
sets_of s [] = []
sets_of s (Delta inode kind size keep extents ∷ rs) = sets_of s rs
sets_of s (Place sector slot dentry ∷ rs) = onto_sets (s == sector) (slot, dentry_bytes dentry) (sets_of s rs)
sets_of s (Free inode ∷ rs) = sets_of s rs

abbrev all_sets : ℕ → List Committed → List (ℕ × List ℕ)
all_sets s [] = []
all_sets s (t ∷ ts) = sets_of s t.records ++ all_sets s ts

good_sets : (s : ℕ) (rs : List LogRecord) → AreSpelled rs → GoodSets (sets_of s rs)
good_sets s [] good = tt
good_sets s (Delta inode kind size keep extents ∷ rs) good = good_sets s rs good.1
good_sets s (Place sector slot dentry ∷ rs) good = by (s == sector) (good_sets s rs good.1)
  where
    by : (b : Bool) → GoodSets (sets_of s rs) → GoodSets (onto_sets b (slot, dentry_bytes dentry) (sets_of s rs))
    by true more = let most = (and_parts (nat_lt slot 8) (is_dentry dentry) good.0.0).0 in ((grind (arith, nat_tests, most), length-dentry dentry good.0.1.2), more)
    by false more = more
good_sets s (Free inode ∷ rs) good = good_sets s rs good.1

all_good : (s : ℕ) (ts : List Committed) → AllByRecursion FitsCommitted ts → GoodSets (all_sets s ts)
all_good s [] good = tt
all_good s (t ∷ ts) good = good_append (sets_of s t.records) (all_sets s ts) (good_sets s t.records good.0.records) (all_good s ts good.1)

module _ (g : Geometry) where
  pub table_end : (inode : ℕ) → is_inode_number g inode ≡ true → sector_of_inode g inode < 8 * first_of_data g
  table_end inode e =
      let low = (and_parts (nat_le 1 inode) (nat_le inode g.inodes) e).0 in
      let high = (and_parts (nat_le 1 inode) (nat_le inode g.inodes) e).1 in
      let from : 1 ≤ inode = grind (arith, nat_tests, low) in
      let most : inode ≤ g.inodes = grind (arith, nat_tests, high) in
      omega (arith, from, most)

  data_from : (s : ℕ) → is_data_sector g s ≡ true → 8 * first_of_data g ≤ s
  data_from s e = let low = (and_parts (nat_le (8 * first_of_data g) s) (nat_lt s (8 * g.blocks)) e).0 in grind (arith, nat_tests, low)

  inode_else : (newer : Bool) (inode : ℕ) (form : InodeForm) (now : Image) (s : ℕ) → s ≢ sector_of_inode g inode → (if newer then with_inode g inode form now else now) s ≡ now s
  inode_else true inode form now s apart = ap (λ t. if t then inode_bytes form else now s) (apart_false s (sector_of_inode g inode) apart)
  inode_else false inode form now s apart = refl

  module _ (s : ℕ) (within : is_data_sector g s ≡ true) where
    not_table : (inode : ℕ) → is_inode_number g inode ≡ true → s ≢ sector_of_inode g inode
    not_table inode e same = let end = table_end inode e in let from = data_from s within in omega (arith, end, from, same)

    data_records : (number : ℕ) (before now : Image) (rs : List LogRecord) → with_records g number before rs now s ≡ put_sets (sets_of s rs) (now s)
    data_records number before now [] = refl
    data_records number before now (Delta inode kind size keep extents ∷ rs) = data_records number before (with_valid g number before (Delta inode kind size keep extents) now) rs ∙ ap (put_sets (sets_of s rs)) (by (is_inode_number g inode) refl)
      where
        by : (b : Bool) → is_inode_number g inode ≡ b → (if b then with_record g number before (Delta inode kind size keep extents) now else now) s ≡ now s
        by true e = inode_else (is_newer g number before inode) inode (after_delta (form_at g now inode) number kind size keep extents) now s (not_table inode e)
        by false e = refl
    data_records number before now (Free inode ∷ rs) = data_records number before (with_valid g number before (Free inode) now) rs ∙ ap (put_sets (sets_of s rs)) (by (is_inode_number g inode) refl)
      where
        by : (b : Bool) → is_inode_number g inode ≡ b → (if b then with_record g number before (Free inode) now else now) s ≡ now s
        by true e = inode_else (is_newer g number before inode) inode (free_inode number) now s (not_table inode e)
        by false e = refl
    data_records number before now (Place sector slot dentry ∷ rs) = data_records number before (with_valid g number before (Place sector slot dentry) now) rs ∙ by (s == sector) refl
      where
        here : (b : Bool) → s ≡ sector → is_data_sector g sector ≡ b → (if b then with_record g number before (Place sector slot dentry) now else now) s ≡ with_slot slot (dentry_bytes dentry) (now s)
        here true same e =
            let t : (s == sector) ≡ true = grind (arith, nat_tests, same) in
            ap (λ b. if b then with_slot slot (dentry_bytes dentry) (now sector) else now s) t ∙ ap (λ k. with_slot slot (dentry_bytes dentry) (now k)) (sym same)
        here false same e = let no : true ≡ false = sym within ∙ ap (is_data_sector g) same ∙ e in absurd cc

        else' : (b : Bool) → (s == sector) ≡ false → (if b then with_record g number before (Place sector slot dentry) now else now) s ≡ now s
        else' true t = ap (λ b. if b then with_slot slot (dentry_bytes dentry) (now sector) else now s) t
        else' false t = refl

        by : (b : Bool) → (s == sector) ≡ b → put_sets (sets_of s rs) (with_valid g number before (Place sector slot dentry) now s) ≡ put_sets (onto_sets (s == sector) (slot, dentry_bytes dentry) (sets_of s rs)) (now s)
        by true t = ap (put_sets (sets_of s rs)) (here (is_data_sector g sector) (grind (arith, nat_tests, t)) refl) ∙ ap (λ b. put_sets (onto_sets b (slot, dentry_bytes dentry) (sets_of s rs)) (now s)) (sym t)
        by false t = ap (put_sets (sets_of s rs)) (else' (is_data_sector g sector) t) ∙ ap (λ b. put_sets (onto_sets b (slot, dentry_bytes dentry) (sets_of s rs)) (now s)) (sym t)

    pub data_folded : (ts : List Committed) (image : Image) → folded g ts image s ≡ put_sets (all_sets s ts) (image s)
    data_folded [] image = refl
    data_folded (t ∷ ts) image =
        data_folded ts (with_committed g t image) ∙ ap (put_sets (all_sets s ts)) (data_records t.number image image t.records)
        ∙ sym (put_sets-append (sets_of s t.records) (all_sets s ts) (image s))

    pub data_mixed : (ts : List Committed) (image m : Image) → AllByRecursion FitsCommitted ts → length (image s) ≡ 512 → (m s ≡ image s) ⊎ (m s ≡ folded g ts image s) → folded g ts m s ≡ folded g ts image s
    data_mixed ts image m good sized (inl same) = data_folded ts m ∙ ap (put_sets (all_sets s ts)) same ∙ sym (data_folded ts image)
    data_mixed ts image m good sized (inr done) =
        data_folded ts m ∙ ap (put_sets (all_sets s ts)) (done ∙ data_folded ts image)
        ∙ absorbed_all (all_sets s ts) (all_sets s ts) (image s) (all_good s ts good) (all_good s ts good) (λ k is. is) sized ∙ sym (data_folded ts image)

  -- ---- an inode's sector

  abbrev pub touches : ℕ → LogRecord → Bool
  touches k (Delta inode kind size keep extents) = inode == k
  touches k (Place sector slot dentry) = false
  touches k (Free inode) = inode == k

  -- one of them is of the inode
  abbrev pub Touched : ℕ → List LogRecord → Type 0
  Touched k [] = ⊥
  Touched k (r ∷ rs) = IsTrue (touches k r) ⊎ Touched k rs

  module _ (k : ℕ) (in_range : is_inode_number g k ≡ true) where
    sector : ℕ
    sector = sector_of_inode g k

    low : (inode : ℕ) → is_inode_number g inode ≡ true → 1 ≤ inode
    low inode e = let t = (and_parts (nat_le 1 inode) (nat_le inode g.inodes) e).0 in grind (arith, nat_tests, t)

    other_inode : (inode : ℕ) → is_inode_number g inode ≡ true → (inode == k) ≡ false → sector_of_inode g k ≢ sector_of_inode g inode
    other_inode inode e t same =
        let a = low inode e in
        let b = low k in_range in
        let one : inode ≡ k = omega (arith, same, a, b) in
        let yes : (inode == k) ≡ true = grind (arith, nat_tests, one) in
        let no = sym t ∙ yes in cc

    place_else : (data' : ℕ) (bytes : List ℕ) (now : Image) → is_data_sector g data' ≡ true → with_sector data' bytes now (sector_of_inode g k) ≡ now (sector_of_inode g k)
    place_else data' bytes now e =
        let from = data_from data' e in
        let end = table_end k in_range in
        ap (λ t. if t then bytes else now (sector_of_inode g k)) (apart_false (sector_of_inode g k) data' (λ same. omega (arith, same, from, end)))

    -- images that agree on this sector still do
    pub sync_record : (number : ℕ) (before sooner now then' : Image) (r : LogRecord) → before (sector_of_inode g k) ≡ sooner (sector_of_inode g k) → now (sector_of_inode g k) ≡ then' (sector_of_inode g k)
        → with_valid g number before r now (sector_of_inode g k) ≡ with_valid g number sooner r then' (sector_of_inode g k)
    sync_record number before sooner now then' (Delta inode kind size keep extents) first same = by (is_inode_number g inode) refl (inode == k) refl
      where
        forms : (a b : Image) → a (sector_of_inode g k) ≡ b (sector_of_inode g k) → inode ≡ k → form_at g a inode ≡ form_at g b inode
        forms a b e is = ap (λ n. form_at g a n) is ∙ ap (λ bytes. unwrap_or (inode_of bytes) (free_inode 0)) e ∙ ap (λ n. form_at g b n) (sym is)

        of : (newer : Bool) (f h : InodeForm) → f ≡ h → (if newer then with_inode g inode f now else now) (sector_of_inode g k) ≡ (if newer then with_inode g inode h then' else then') (sector_of_inode g k)
        of true f h e = λ i. if sector_of_inode g k == sector_of_inode g inode then inode_bytes (e i) else same i
        of false f h e = same

        by : (b : Bool) → is_inode_number g inode ≡ b → (t : Bool) → (inode == k) ≡ t
            → (if b then with_record g number before (Delta inode kind size keep extents) now else now) (sector_of_inode g k) ≡ (if b then with_record g number sooner (Delta inode kind size keep extents) then' else then') (sector_of_inode g k)
        by false e t is = same
        by true e false is =
            inode_else (is_newer g number before inode) inode (after_delta (form_at g now inode) number kind size keep extents) now (sector_of_inode g k) (other_inode inode e is) ∙ same
            ∙ sym (inode_else (is_newer g number sooner inode) inode (after_delta (form_at g then' inode) number kind size keep extents) then' (sector_of_inode g k) (other_inode inode e is))
        by true e true is =
            let one : inode ≡ k = grind (arith, nat_tests, is) in
            let newer = ap (λ (f : InodeForm). nat_lt f.number number) (forms before sooner first one) in
            of (is_newer g number before inode) (after_delta (form_at g now inode) number kind size keep extents) (after_delta (form_at g then' inode) number kind size keep extents) (ap (λ f. after_delta f number kind size keep extents) (forms now then' same one))
            ∙ ap (λ t. (if t then with_inode g inode (after_delta (form_at g then' inode) number kind size keep extents) then' else then') (sector_of_inode g k)) newer
    sync_record number before sooner now then' (Free inode) first same = by (is_inode_number g inode) refl (inode == k) refl
      where
        of : (newer : Bool) → (if newer then with_inode g inode (free_inode number) now else now) (sector_of_inode g k) ≡ (if newer then with_inode g inode (free_inode number) then' else then') (sector_of_inode g k)
        of true = λ i. if sector_of_inode g k == sector_of_inode g inode then inode_bytes (free_inode number) else same i
        of false = same

        by : (b : Bool) → is_inode_number g inode ≡ b → (t : Bool) → (inode == k) ≡ t
            → (if b then with_record g number before (Free inode) now else now) (sector_of_inode g k) ≡ (if b then with_record g number sooner (Free inode) then' else then') (sector_of_inode g k)
        by false e t is = same
        by true e false is =
            inode_else (is_newer g number before inode) inode (free_inode number) now (sector_of_inode g k) (other_inode inode e is) ∙ same
            ∙ sym (inode_else (is_newer g number sooner inode) inode (free_inode number) then' (sector_of_inode g k) (other_inode inode e is))
        by true e true is =
            let one : inode ≡ k = grind (arith, nat_tests, is) in
            let forms : form_at g before inode ≡ form_at g sooner inode = ap (λ n. form_at g before n) one ∙ ap (λ bytes. unwrap_or (inode_of bytes) (free_inode 0)) first ∙ ap (λ n. form_at g sooner n) (sym one) in
            let newer = ap (λ (f : InodeForm). nat_lt f.number number) forms in
            of (is_newer g number before inode) ∙ ap (λ t. (if t then with_inode g inode (free_inode number) then' else then') (sector_of_inode g k)) newer
    sync_record number before sooner now then' (Place data' slot dentry) first same = by (is_data_sector g data') refl
      where
        by : (b : Bool) → is_data_sector g data' ≡ b
            → (if b then with_record g number before (Place data' slot dentry) now else now) (sector_of_inode g k) ≡ (if b then with_record g number sooner (Place data' slot dentry) then' else then') (sector_of_inode g k)
        by false e = same
        by true e = place_else data' (with_slot slot (dentry_bytes dentry) (now data')) now e ∙ same ∙ sym (place_else data' (with_slot slot (dentry_bytes dentry) (then' data')) then' e)

    pub sync_records : (number : ℕ) (before sooner now then' : Image) (rs : List LogRecord) → before (sector_of_inode g k) ≡ sooner (sector_of_inode g k) → now (sector_of_inode g k) ≡ then' (sector_of_inode g k)
        → with_records g number before rs now (sector_of_inode g k) ≡ with_records g number sooner rs then' (sector_of_inode g k)
    sync_records number before sooner now then' [] first same = same
    sync_records number before sooner now then' (r ∷ rs) first same = sync_records number before sooner (with_valid g number before r now) (with_valid g number sooner r then') rs first (sync_record number before sooner now then' r first same)

    pub sync : (ts : List Committed) (a b : Image) → a (sector_of_inode g k) ≡ b (sector_of_inode g k) → folded g ts a (sector_of_inode g k) ≡ folded g ts b (sector_of_inode g k)
    sync [] a b same = same
    sync (t ∷ ts) a b same = sync ts (with_committed g t a) (with_committed g t b) (sync_records t.number a b a b t.records same same)

    -- ---- where the inode's number isn't below that of a transaction, this leaves it

    late_record : (number : ℕ) (before now : Image) (r : LogRecord) → (touches k r ≡ true → number ≤ (form_at g before k).number) → with_valid g number before r now (sector_of_inode g k) ≡ now (sector_of_inode g k)
    late_record number before now (Delta inode kind size keep extents) not_below = by (is_inode_number g inode) refl (inode == k) refl
      where
        by : (b : Bool) → is_inode_number g inode ≡ b → (t : Bool) → (inode == k) ≡ t → (if b then with_record g number before (Delta inode kind size keep extents) now else now) (sector_of_inode g k) ≡ now (sector_of_inode g k)
        by false e t is = refl
        by true e false is = inode_else (is_newer g number before inode) inode (after_delta (form_at g now inode) number kind size keep extents) now (sector_of_inode g k) (other_inode inode e is)
        by true e true is =
            let one : inode ≡ k = grind (arith, nat_tests, is) in
            let most = not_below is in
            let old : is_newer g number before inode ≡ false = ap (λ n. is_newer g number before n) one ∙ grind (arith, nat_tests, most) in
            ap (λ t. (if t then with_inode g inode (after_delta (form_at g now inode) number kind size keep extents) now else now) (sector_of_inode g k)) old
    late_record number before now (Free inode) not_below = by (is_inode_number g inode) refl (inode == k) refl
      where
        by : (b : Bool) → is_inode_number g inode ≡ b → (t : Bool) → (inode == k) ≡ t → (if b then with_record g number before (Free inode) now else now) (sector_of_inode g k) ≡ now (sector_of_inode g k)
        by false e t is = refl
        by true e false is = inode_else (is_newer g number before inode) inode (free_inode number) now (sector_of_inode g k) (other_inode inode e is)
        by true e true is =
            let one : inode ≡ k = grind (arith, nat_tests, is) in
            let most = not_below is in
            let old : is_newer g number before inode ≡ false = ap (λ n. is_newer g number before n) one ∙ grind (arith, nat_tests, most) in
            ap (λ t. (if t then with_inode g inode (free_inode number) now else now) (sector_of_inode g k)) old
    late_record number before now (Place data' slot dentry) not_below = by (is_data_sector g data') refl
      where
        by : (b : Bool) → is_data_sector g data' ≡ b → (if b then with_record g number before (Place data' slot dentry) now else now) (sector_of_inode g k) ≡ now (sector_of_inode g k)
        by false e = refl
        by true e = place_else data' (with_slot slot (dentry_bytes dentry) (now data')) now e

    pub late_records : (number : ℕ) (before now : Image) (rs : List LogRecord) → (Touched k rs → number ≤ (form_at g before k).number) → with_records g number before rs now (sector_of_inode g k) ≡ now (sector_of_inode g k)
    late_records number before now [] not_below = refl
    late_records number before now (r ∷ rs) not_below =
        late_records number before (with_valid g number before r now) rs (λ is. not_below (inr is)) ∙ late_record number before now r (λ is. not_below (inl is))

    -- each transaction that has a record of the inode
    abbrev pub AreLate : List Committed → ℕ → Type 0
    AreLate ts number = AllByRecursion (λ (t : Committed). Touched k t.records → t.number ≤ number) ts

    pub late : (ts : List Committed) (b : Image) → AreLate ts (form_at g b k).number → folded g ts b (sector_of_inode g k) ≡ b (sector_of_inode g k)
    late [] b not_below = refl
    late (t ∷ ts) b not_below =
        let same = late_records t.number b b t.records not_below.0 in
        let form : (form_at g b k).number ≡ (form_at g (with_committed g t b) k).number = ap (λ bytes. (unwrap_or (inode_of bytes) (free_inode 0)).number) (sym same) in
        late ts (with_committed g t b) (subst (AreLate ts) form not_below.1) ∙ same

    -- ---- the numbers after folding

    abbrev pub number_in : Catalog → ℕ
    number_in c = (c.forms k).number

    number_record : (number : ℕ) (before c : Catalog) (r : LogRecord) → number_in before ≤ number_in c
        → (number_in before ≤ number_in (with_valid_in g number before r c)) × (touches k r ≡ true → number ≤ number_in (with_valid_in g number before r c)) × (number ≤ number_in c → number ≤ number_in (with_valid_in g number before r c))
    number_record number before c (Delta inode kind size keep extents) from = by (is_inode_number g inode) refl (is_newer_in number before inode) refl (k == inode) refl
      where
        result : Bool → Bool → Catalog
        result b newer = if b then (if newer then with_form inode (after_delta (c.forms inode) number kind size keep extents) c else c) else c

        by : (b : Bool) → is_inode_number g inode ≡ b → (newer : Bool) → is_newer_in number before inode ≡ newer → (t : Bool) → (k == inode) ≡ t
            → let new : Catalog = if b then (if newer then with_form inode (after_delta (c.forms inode) number kind size keep extents) c else c) else c in
            (number_in before ≤ number_in new) × (touches k (Delta inode kind size keep extents) ≡ true → number ≤ number_in new) × (number ≤ number_in c → number ≤ number_in new)
        by false e newer is t at = (from, λ here. absurd (let one : inode ≡ k = grind (arith, nat_tests, here) in let no : is_inode_number g inode ≡ true = ap (is_inode_number g) one ∙ in_range in let off = sym e ∙ no in cc), λ h. h)
        by true e false is t at = (from, λ here. let one : inode ≡ k = grind (arith, nat_tests, here) in let old : nat_lt (number_in before) number ≡ false = ap (λ n. nat_lt (before.forms n).number number) (sym one) ∙ is in grind (arith, nat_tests, old, from), λ h. h)
        by true e true is true at =
            let one : k ≡ inode = grind (arith, nat_tests, at) in
            let form : number ≡ (if k == inode then after_delta (c.forms inode) number kind size keep extents else c.forms k).number = ap (λ b. (if b then after_delta (c.forms inode) number kind size keep extents else c.forms k).number) (sym at) in
            let less : nat_lt (number_in before) number ≡ true = ap (λ n. nat_lt (before.forms n).number number) one ∙ is in
            let under : number_in before ≤ number = grind (arith, nat_tests, less) in
            (subst (λ n. number_in before ≤ n) form under, λ here. subst (λ n. number ≤ n) form (omega arith), λ h. subst (λ n. number ≤ n) form (omega arith))
        by true e true is false at =
            let form : number_in c ≡ (if k == inode then after_delta (c.forms inode) number kind size keep extents else c.forms k).number = ap (λ b. (if b then after_delta (c.forms inode) number kind size keep extents else c.forms k).number) (sym at) in
            (subst (λ n. number_in before ≤ n) form from, λ here. absurd (let one : k ≡ inode = grind (arith, nat_tests, here) in let yes : (k == inode) ≡ true = grind (arith, nat_tests, one) in let no = sym at ∙ yes in cc), λ h. subst (λ n. number ≤ n) form h)
    number_record number before c (Free inode) from = by (is_inode_number g inode) refl (is_newer_in number before inode) refl (k == inode) refl
      where
        by : (b : Bool) → is_inode_number g inode ≡ b → (newer : Bool) → is_newer_in number before inode ≡ newer → (t : Bool) → (k == inode) ≡ t
            → let new : Catalog = if b then (if newer then with_form inode (free_inode number) c else c) else c in
            (number_in before ≤ number_in new) × (touches k (Free inode) ≡ true → number ≤ number_in new) × (number ≤ number_in c → number ≤ number_in new)
        by false e newer is t at = (from, λ here. absurd (let one : inode ≡ k = grind (arith, nat_tests, here) in let no : is_inode_number g inode ≡ true = ap (is_inode_number g) one ∙ in_range in let off = sym e ∙ no in cc), λ h. h)
        by true e false is t at = (from, λ here. let one : inode ≡ k = grind (arith, nat_tests, here) in let old : nat_lt (number_in before) number ≡ false = ap (λ n. nat_lt (before.forms n).number number) (sym one) ∙ is in grind (arith, nat_tests, old, from), λ h. h)
        by true e true is true at =
            let one : k ≡ inode = grind (arith, nat_tests, at) in
            let form : number ≡ (if k == inode then free_inode number else c.forms k).number = ap (λ b. (if b then free_inode number else c.forms k).number) (sym at) in
            let less : nat_lt (number_in before) number ≡ true = ap (λ n. nat_lt (before.forms n).number number) one ∙ is in
            let under : number_in before ≤ number = grind (arith, nat_tests, less) in
            (subst (λ n. number_in before ≤ n) form under, λ here. subst (λ n. number ≤ n) form (omega arith), λ h. subst (λ n. number ≤ n) form (omega arith))
        by true e true is false at =
            let form : number_in c ≡ (if k == inode then free_inode number else c.forms k).number = ap (λ b. (if b then free_inode number else c.forms k).number) (sym at) in
            (subst (λ n. number_in before ≤ n) form from, λ here. absurd (let one : k ≡ inode = grind (arith, nat_tests, here) in let yes : (k == inode) ≡ true = grind (arith, nat_tests, one) in let no = sym at ∙ yes in cc), λ h. subst (λ n. number ≤ n) form h)
    number_record number before c (Place data' slot dentry) from = by (is_data_sector g data')
      where
        by : (b : Bool) → let new : Catalog = if b then with_dentry data' slot dentry c else c in
            (number_in before ≤ number_in new) × (false ≡ true → number ≤ number_in new) × (number ≤ number_in c → number ≤ number_in new)
        by true = (from, λ no. cc, λ h. h)
        by false = (from, λ no. cc, λ h. h)

    number_records : (number : ℕ) (before c : Catalog) (rs : List LogRecord) → number_in before ≤ number_in c
        → (number_in before ≤ number_in (with_records_in g number before rs c)) × (Touched k rs → number ≤ number_in (with_records_in g number before rs c)) × (number ≤ number_in c → number ≤ number_in (with_records_in g number before rs c))
    number_records number before c [] from = (from, λ no. absurd no, λ h. h)
    number_records number before c (r ∷ rs) from =
        let one = number_record number before c r from in
        let rest = number_records number before (with_valid_in g number before r c) rs one.0 in
        (rest.0, touched one.1 rest.1 rest.2, λ h. rest.2 (one.2 h))
      where
        touched : (touches k r ≡ true → number ≤ number_in (with_valid_in g number before r c)) → (Touched k rs → number ≤ number_in (with_records_in g number before rs (with_valid_in g number before r c)))
            → (number ≤ number_in (with_valid_in g number before r c) → number ≤ number_in (with_records_in g number before rs (with_valid_in g number before r c)))
            → IsTrue (touches k r) ⊎ Touched k rs → number ≤ number_in (with_records_in g number before rs (with_valid_in g number before r c))
        touched here later on (inl is) = on (here is)
        touched here later on (inr is) = later is

    -- no number falls
    rises : (ts : List Committed) (c : Catalog) → number_in c ≤ number_in (folded_in g ts c)
    rises [] c = omega arith
    rises (t ∷ ts) c =
        let one = (number_records t.number c c t.records (omega arith)).0 in
        let rest = rises ts (with_committed_in g t c) in
        omega (arith, one, rest)

    pub numbers : (ts : List Committed) (c : Catalog) → AreLate ts (number_in (folded_in g ts c))
    numbers [] c = tt
    numbers (t ∷ ts) c =
        (λ is. let one = (number_records t.number c c t.records (omega arith)).1 is in let rest = rises ts (with_committed_in g t c) in omega (arith, one, rest), numbers ts (with_committed_in g t c))

    pub inode_mixed : (ts : List Committed) (image m : Image) (c : Catalog) → Spells g false (λ _. false) image c → AllByRecursion FitsCommitted ts → IsInode g k
        → (m (sector_of_inode g k) ≡ image (sector_of_inode g k)) ⊎ (m (sector_of_inode g k) ≡ folded g ts image (sector_of_inode g k)) → folded g ts m (sector_of_inode g k) ≡ folded g ts image (sector_of_inode g k)
    inode_mixed ts image m c is good ranged (inl same) = sync ts m image same
    inode_mixed ts image m c is good ranged (inr done) =
        let after = folded_step g false (λ _. false) ts image c is good in
        let form : form_at g m k ≡ (folded_in g ts c).forms k = ap (λ bytes. unwrap_or (inode_of bytes) (free_inode 0)) done ∙ after.forms k ranged in
        late ts m (subst (AreLate ts) (sym (ap (λ (f : InodeForm). f.number) form)) (numbers ts c)) ∙ done

  -- ---- any other sector

  module _ (s : ℕ) (no_data : is_data_sector g s ≡ false) (no_inode : (k : ℕ) → is_inode_number g k ≡ true → s ≢ sector_of_inode g k) where
    else_records : (number : ℕ) (before now : Image) (rs : List LogRecord) → with_records g number before rs now s ≡ now s
    else_records number before now [] = refl
    else_records number before now (r ∷ rs) = else_records number before (with_valid g number before r now) rs ∙ of r
      where
        of : (r : LogRecord) → with_valid g number before r now s ≡ now s
        of (Delta inode kind size keep extents) = by (is_inode_number g inode) refl
          where
            by : (b : Bool) → is_inode_number g inode ≡ b → (if b then with_record g number before (Delta inode kind size keep extents) now else now) s ≡ now s
            by true e = inode_else (is_newer g number before inode) inode (after_delta (form_at g now inode) number kind size keep extents) now s (no_inode inode e)
            by false e = refl
        of (Free inode) = by (is_inode_number g inode) refl
          where
            by : (b : Bool) → is_inode_number g inode ≡ b → (if b then with_record g number before (Free inode) now else now) s ≡ now s
            by true e = inode_else (is_newer g number before inode) inode (free_inode number) now s (no_inode inode e)
            by false e = refl
        of (Place sector slot dentry) = by (is_data_sector g sector) refl
          where
            by : (b : Bool) → is_data_sector g sector ≡ b → (if b then with_record g number before (Place sector slot dentry) now else now) s ≡ now s
            by true e = ap (λ t. if t then with_slot slot (dentry_bytes dentry) (now sector) else now s) (apart_false s sector (λ same. let no : false ≡ true = sym no_data ∙ ap (is_data_sector g) same ∙ e in cc))
            by false e = refl

    pub else_folded : (ts : List Committed) (image : Image) → folded g ts image s ≡ image s
    else_folded [] image = refl
    else_folded (t ∷ ts) image = else_folded ts (with_committed g t image) ∙ else_records t.number image image t.records

    pub else_mixed : (ts : List Committed) (image m : Image) → (m s ≡ image s) ⊎ (m s ≡ folded g ts image s) → folded g ts m s ≡ folded g ts image s
    else_mixed ts image m (inl same) = else_folded ts m ∙ same ∙ sym (else_folded ts image)
    else_mixed ts image m (inr done) = else_folded ts m ∙ done

  -- ---- all sectors

  pub mixed : (sectors : ℕ) (image m : Image) (ts : List Committed) → IsGeometry g → sector_count g ≤ sectors → IsImageOf sectors image → AllByRecursion FitsCommitted ts
      → (s : ℕ) → (m s ≡ image s) ⊎ (m s ≡ folded g ts image s) → folded g ts m s ≡ folded g ts image s
  mixed sectors image m ts is room bytes good s mix = by_data (is_data_sector g s) refl
    where
      by_table : (b : Bool) → is_inode_number g (s - 8 * first_of_inodes g + 1) ≡ b → (u : Bool) → nat_le (8 * first_of_inodes g) s ≡ u → is_data_sector g s ≡ false → folded g ts m s ≡ folded g ts image s
      by_table true e true f outside =
          let from : 8 * first_of_inodes g ≤ s = grind (arith, nat_tests, f) in
          let k : ℕ = s - 8 * first_of_inodes g + 1 in
          let same : s ≡ sector_of_inode g (s - 8 * first_of_inodes g + 1) = omega (arith, from) in
          let high = (and_parts (nat_le 1 (s - 8 * first_of_inodes g + 1)) (nat_le (s - 8 * first_of_inodes g + 1) g.inodes) e).1 in
          let ranged : IsInode g (s - 8 * first_of_inodes g + 1) = record { from_one = omega arith; within = grind (arith, nat_tests, high) } in
          subst (λ x. folded g ts m x ≡ folded g ts image x) (sym same)
          (inode_mixed (s - 8 * first_of_inodes g + 1) e ts image m (catalog_at g image) (shows g sectors image is room bytes) good ranged (subst (λ x. (m x ≡ image x) ⊎ (m x ≡ folded g ts image x)) same mix))
      by_table true e false f outside = else_mixed s outside (λ j ranged same. let low : nat_le 1 j ≡ true = (and_parts (nat_le 1 j) (nat_le j g.inodes) ranged).0 in let under : s < 8 * first_of_inodes g = grind (arith, nat_tests, f) in omega (arith, under, same)) ts image m mix
      by_table false e u f outside = else_mixed s outside (λ j ranged same. let low : 1 ≤ j = (let t = (and_parts (nat_le 1 j) (nat_le j g.inodes) ranged).0 in grind (arith, nat_tests, t)) in let at : s - 8 * first_of_inodes g + 1 ≡ j = omega (arith, same, low) in let yes : is_inode_number g (s - 8 * first_of_inodes g + 1) ≡ true = ap (is_inode_number g) at ∙ ranged in let off = sym e ∙ yes in cc) ts image m mix

      by_data : (b : Bool) → is_data_sector g s ≡ b → folded g ts m s ≡ folded g ts image s
      by_data true e =
          let high = (and_parts (nat_le (8 * first_of_data g) s) (nat_lt s (8 * g.blocks)) e).1 in
          let under : s < 8 * g.blocks = grind (arith, nat_tests, high) in
          data_mixed s e ts image m good (bytes s (omega (arith, under, room))).sized mix
      by_data false e = by_table (is_inode_number g (s - 8 * first_of_inodes g + 1)) refl (nat_le (8 * first_of_inodes g) s) refl e
