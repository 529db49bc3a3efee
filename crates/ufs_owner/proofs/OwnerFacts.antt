-- What is known of the files after one of them changed.
use Rattle.std.proofs.Common.{◌≡◌, ◌≢◌, ℕ, List, [], ◌∷◌, Bool, true, false, cond, not, ◌&&◌, Option, Some, None, ap, sym, refl, ◌∙◌, arith, eqb}
use Rattle.std.specs.Prelude.{unwrap_or}
use Rattle.std.specs.Ordering.{nat_cmp}
use Rattle.std.specs.Cmp.{nat_cmp_total}
use Rattle.std.specs.FinMap as map
use Rattle.std.specs.FinMap.{nat_cmp-IsAntisymmetric, get-insert, get-remove}
use Rattle.std.proofs.lemmas.Bool.{eqb-true, eq-eqb}
use Rattle.ufs_owner.specs.declared.owner.Owner.{Owner}
use Rattle.ufs_owner.specs.declared.owner.Owner.TheVariants.{Primary, Worker, Coming, Going}
use Rattle.ufs_owner.specs.declared.owner.Standing.{Standing}
use Rattle.ufs_owner.specs.Owners.{Files, nothing_known, standing_at, owner_at, note_at, waiting_at, is_primary, is_coming, is_known, has_none, with_standing, with_owner, with_waiting, count_out}
use Rattle.ufs_owner.proofs.PlaceLemmas.{ties_back}
use Rattle.ufs_counts.proofs.CountLemmas.{values-remove}

-- what a look-up finds in either form of the map
found : (files : Files) (file other : ℕ) (s : Standing) (t : Bool) → standing_at (cond t (map.insert files file s) (map.remove files file)) other ≡ cond (eqb file other) (cond t s nothing_known) (standing_at files other)
found files file other s true = ap (λ o. unwrap_or o nothing_known) (get-insert nat_cmp_total files file s other ∙ ap (λ b. cond b (Some s) (map.get files other)) (ties_back other file)) ∙ by (eqb file other)
  where
    by : (b : Bool) → unwrap_or (cond b (Some s) (map.get files other)) nothing_known ≡ cond b s (standing_at files other)
    by true = refl
    by false = refl
found files file other s false = ap (λ o. unwrap_or o nothing_known) (get-remove nat_cmp_total files file other ∙ ap (λ b. cond b None (map.get files other)) (ties_back other file)) ∙ by (eqb file other)
  where
    by : (b : Bool) → unwrap_or (cond b None (map.get files other)) nothing_known ≡ cond b nothing_known (standing_at files other)
    by true = refl
    by false = refl

pub other_stays : (files : Files) (file other : ℕ) (s : Standing) → other ≢ file → standing_at (with_standing files file s) other ≡ standing_at files other
other_stays files file other s differs = found files file other s (is_known s) ∙ by (eqb file other) refl
  where
    by : (t : Bool) → eqb file other ≡ t → cond t (cond (is_known s) s nothing_known) (standing_at files other) ≡ standing_at files other
    by true e = absurd (differs (sym (eqb-true file other e)))
    by false e = refl

pub has_standing : (files : Files) (file : ℕ) (s : Standing) → standing_at (with_standing files file s) file ≡ cond (is_known s) s nothing_known
has_standing files file s = found files file file s (is_known s) ∙ ap (λ t. cond t (cond (is_known s) s nothing_known) (standing_at files file)) (eq-eqb file file refl)

kept_owner : (s : Standing) → (cond (is_known s) s nothing_known).owner ≡ s.owner
kept_owner s = by s.owner s.waiting refl
  where
    by : (o : Owner) (xs : List ℕ) → s.owner ≡ o → (cond (not (is_primary o && has_none xs)) s nothing_known).owner ≡ s.owner
    by Primary [] e = sym e
    by Primary (x ∷ xs) e = refl
    by (Worker w) xs e = refl
    by (Coming w) xs e = refl
    by (Going w) xs e = refl

kept_waiting : (s : Standing) → (cond (is_known s) s nothing_known).waiting ≡ s.waiting
kept_waiting s = by s.owner s.waiting refl
  where
    by : (o : Owner) (xs : List ℕ) → s.waiting ≡ xs → (cond (not (is_primary o && has_none xs)) s nothing_known).waiting ≡ s.waiting
    by Primary [] e = sym e
    by Primary (x ∷ xs) e = refl
    by (Worker w) xs e = refl
    by (Coming w) xs e = refl
    by (Going w) xs e = refl

kept_note : (s : Standing) → is_coming s.owner ≡ true → (cond (is_known s) s nothing_known).note ≡ s.note
kept_note s = by s.owner s.waiting
  where
    by : (o : Owner) (xs : List ℕ) → is_coming o ≡ true → (cond (not (is_primary o && has_none xs)) s nothing_known).note ≡ s.note
    by Primary xs e = cc
    by (Worker w) xs e = cc
    by (Coming w) xs e = refl
    by (Going w) xs e = cc

pub has_owner : (files : Files) (file : ℕ) (owner : Owner) (note : ℕ) → owner_at (with_owner files file owner note) file ≡ owner
has_owner files file owner note = let s : Standing = record (standing_at files file) { owner = owner; note = note } in ap (λ (s : Standing). s.owner) (has_standing files file s) ∙ kept_owner s

pub has_note : (files : Files) (file : ℕ) (owner : Owner) (note : ℕ) → is_coming owner ≡ true → note_at (with_owner files file owner note) file ≡ note
has_note files file owner note coming = let s : Standing = record (standing_at files file) { owner = owner; note = note } in ap (λ (s : Standing). s.note) (has_standing files file s) ∙ kept_note s coming

pub owner_keeps_waiting : (files : Files) (file : ℕ) (owner : Owner) (note : ℕ) → waiting_at (with_owner files file owner note) file ≡ waiting_at files file
owner_keeps_waiting files file owner note = let s : Standing = record (standing_at files file) { owner = owner; note = note } in ap (λ (s : Standing). s.waiting) (has_standing files file s) ∙ kept_waiting s

pub has_waiting : (files : Files) (file : ℕ) (clients : List ℕ) → waiting_at (with_waiting files file clients) file ≡ clients
has_waiting files file clients = let s : Standing = record (standing_at files file) { waiting = clients } in ap (λ (s : Standing). s.waiting) (has_standing files file s) ∙ kept_waiting s

pub waiting_keeps_owner : (files : Files) (file : ℕ) (clients : List ℕ) → owner_at (with_waiting files file clients) file ≡ owner_at files file
waiting_keeps_owner files file clients = let s : Standing = record (standing_at files file) { waiting = clients } in ap (λ (s : Standing). s.owner) (has_standing files file s) ∙ kept_owner s

-- a count of none means that each file is at the primary
pub none_out : (files : Files) (file : ℕ) → count_out files ≡ 0 → owner_at files file ≡ Primary
none_out files file none = by (map.get files file) refl
  where
    here : (o : Owner) → ◌≡◌ {A = ℕ} (cond (not (is_primary o)) 1 0) 0 → o ≡ Primary
    here Primary e = refl
    here (Worker w) e = absurd (omega arith)
    here (Coming w) e = absurd (omega arith)
    here (Going w) e = absurd (omega arith)

    by : (o : Option Standing) → map.get files file ≡ o → (unwrap_or o nothing_known).owner ≡ Primary
    by None e = refl
    by (Some s) e = here s.owner (let removed = values-remove nat_cmp (λ (s : Standing). not (is_primary s.owner)) nat_cmp_total nat_cmp-IsAntisymmetric files file s e in omega (arith, removed, none))
