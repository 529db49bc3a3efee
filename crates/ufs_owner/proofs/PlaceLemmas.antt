-- The files that places and records stand for, as these change.
use Rattle.std.proofs.Common.{◌≡◌, ◌≢◌, ◌≤◌, ℕ, List, [], ◌∷◌, Bool, true, false, cond, Option, Some, None, ap, sym, refl, ◌∙◌, eqb, nat_eq}
use Rattle.std.specs.declared.cmp.Ordering.{Ordering}
use Rattle.std.specs.declared.cmp.Ordering.TheVariants.{Less, Equal, Greater}
use Rattle.std.specs.Ordering.{nat_cmp, is_eq, eq_by_cmp}
use Rattle.std.specs.Cmp.{nat_cmp_total, eq_by_cmp_equiv, both_ways}
use Rattle.std.specs.Option.{option_map}
use Rattle.std.specs.Prelude.{unwrap_or, slice_index_or}
use Rattle.std.specs.Map.{lookup}
use Rattle.std.specs.HashMap as hash
use Rattle.std.specs.HashMap.{HashMap}
use Rattle.std.specs.FinMap as fin
use Rattle.std.specs.FinMap.{find, same_map, nat_cmp-IsAntisymmetric, get-from_entries, get-insert, get-remove}
use Rattle.std.proofs.lemmas.Bool.{eqb-true, eq-eqb}
use Rattle.slab.specs.Slab.{Slab, Updates, get, slab_len}
use Rattle.ufs_owner.specs.declared.records.Record.{Record}
use Rattle.ufs_owner.specs.Owners.{Files, nothing_known}
use Rattle.ufs_owner.specs.Records.{standing_under, listed, files_of, ArePlaced}

tied : (r : Ordering) → is_eq r ≡ true → r ≡ Equal
tied Less e = cc
tied Equal e = refl
tied Greater e = cc

-- two numbers tie where they are equal
pub ties : (a b : ℕ) → eq_by_cmp nat_cmp a b ≡ eqb a b
ties a b =
    both_ways (eq_by_cmp nat_cmp a b) (eqb a b)
    (λ e. eq-eqb a b (nat_cmp-IsAntisymmetric a b (tied (nat_cmp a b) e)))
    (λ e. ap (eq_by_cmp nat_cmp a) (sym (eqb-true a b e)) ∙ (eq_by_cmp_equiv nat_cmp_total).refl a)

pub ties_back : (a b : ℕ) → eq_by_cmp nat_cmp a b ≡ eqb b a
ties_back a b = (eq_by_cmp_equiv nat_cmp_total).symm a b ∙ ties b a

pub same_files : (m n : Files) → ((q : ℕ) → fin.get m q ≡ fin.get n q) → m ≡ n
same_files = same_map nat_cmp_total nat_cmp-IsAntisymmetric

file_under : Slab Record → ℕ → Option ℕ
file_under records place = option_map (λ (r : Record). r.file) (get records place)

find-listed : (records : Slab Record) (q : ℕ) (es : List (ℕ × ℕ)) → find nat_cmp q (listed records es) ≡ option_map (standing_under records) (lookup (nat_eq q) es)
find-listed records q [] = refl
find-listed records q (e ∷ es) =
    ap (λ t. cond t (Some (standing_under records e.1)) (find nat_cmp q (listed records es))) (ties q e.0)
    ∙ by (find-listed records q es) (eqb q e.0)
  where
    by : find nat_cmp q (listed records es) ≡ option_map (standing_under records) (lookup (nat_eq q) es) → (t : Bool) → cond t (Some (standing_under records e.1)) (find nat_cmp q (listed records es)) ≡ option_map (standing_under records) (cond t (Some e.1) (lookup (nat_eq q) es))
    by rest true = refl
    by rest false = rest

module _ {S : Type 0} (places : HashMap ℕ ℕ S) (records : Slab Record) where
  pub get-files_of : (q : ℕ) → fin.get (files_of places records) q ≡ option_map (standing_under records) (hash.get nat_eq places q)
  get-files_of q = get-from_entries nat_cmp_total (listed records places.entries) q ∙ find-listed records q places.entries

  -- a place is that of a record
  pub has_record : ArePlaced places records → (q k : ℕ) → hash.get nat_eq places q ≡ Some k → get records k ≢ None
  has_record are q k there none =
      let h = are.placed q k there in
      let i = ap (option_map (λ (r : Record). r.file)) none in cc

  pub own_record : ArePlaced places records → (q k : ℕ) (r : Record) → hash.get nat_eq places q ≡ Some k → get records k ≡ Some r → r.file ≡ q
  own_record are q k r there found =
      let h = are.placed q k there in
      let i = ap (option_map (λ (r : Record). r.file)) found in cc

  pub found : (q k : ℕ) (r : Record) → hash.get nat_eq places q ≡ Some k → get records k ≡ Some r → fin.get (files_of places records) q ≡ Some r.standing
  found q k r there is =
      get-files_of q ∙ ap (option_map (standing_under records)) there
      ∙ ap (λ o. Some (unwrap_or (option_map (λ (r : Record). r.standing) o) nothing_known)) is

  pub not_found : (q : ℕ) → hash.get nat_eq places q ≡ None → fin.get (files_of places records) q ≡ None
  not_found q none = get-files_of q ∙ ap (option_map (standing_under records)) none

  -- a file without a record has no place
  pub no_place : (q : ℕ) → fin.get (files_of places records) q ≡ None → hash.get nat_eq places q ≡ None
  no_place q none = by (hash.get nat_eq places q) (sym (get-files_of q) ∙ none)
    where
      by : (o : Option ℕ) → option_map (standing_under records) o ≡ None → o ≡ None
      by None e = refl
      by (Some k) e = cc

module _ {S : Type 0} (places places' : HashMap ℕ ℕ S) (records records' : Slab Record) (same : (q : ℕ) → hash.get nat_eq places' q ≡ hash.get nat_eq places q) (kept : records'.slots ≡ records.slots) where
  -- the entries in another order, with more room
  pub files_of-reordered : files_of places' records' ≡ files_of places records
  files_of-reordered = same_files _ _ (λ q. get-files_of places' records' q ∙ ap (option_map (standing_under records')) (same q) ∙ under (hash.get nat_eq places q) ∙ sym (get-files_of places records q))
    where
      under : (o : Option ℕ) → option_map (standing_under records') o ≡ option_map (standing_under records) o
      under None = refl
      under (Some k) = ap (λ slots. Some (unwrap_or (option_map (λ (r : Record). r.standing) (slice_index_or slots k None)) nothing_known)) kept

-- ---- one record comes, changes or goes

module _ {S : Type 0} (places places' : HashMap ℕ ℕ S) (records records' : Slab Record) (file place : ℕ) where
  abbrev pub PlacesGain : Option ℕ → Type 0
  PlacesGain o = (q : ℕ) → hash.get nat_eq places' q ≡ cond (nat_eq file q) o (hash.get nat_eq places q)

  other_under : (slot : Option Record) → Updates records records' place slot → (k : ℕ) → k ≢ place → standing_under records' k ≡ standing_under records k
  other_under slot updates k differs = ap (λ o. unwrap_or (option_map (λ (r : Record). r.standing) o) nothing_known) (updates.others k differs)

  other_file : (slot : Option Record) → Updates records records' place slot → (k : ℕ) → k ≢ place → file_under records' k ≡ file_under records k
  unfolding file_under
  other_file slot updates k differs = ap (option_map (λ (r : Record). r.file)) (updates.others k differs)

  -- a place that has no record yet is no file's
  fresh : ArePlaced places records → get records place ≡ None → (q k : ℕ) → hash.get nat_eq places q ≡ Some k → k ≢ place
  fresh are none q k there same = let h = are.placed q k there in let i = ap (λ k. option_map (λ (r : Record). r.file) (get records k)) same in let j = ap (option_map (λ (r : Record). r.file)) none in cc

  -- another file has another place
  apart : ArePlaced places records → hash.get nat_eq places file ≡ Some place → (q k : ℕ) → eqb file q ≡ false → hash.get nat_eq places q ≡ Some k → k ≢ place
  apart are here q k differs there same =
      let h = are.placed q k there in
      let i = ap (λ k. option_map (λ (r : Record). r.file) (get records k)) same in
      let j = are.placed file place here in
      let equal : file ≡ q = cc in
      let yes = eq-eqb file q equal in cc

  module _ (r : Record) (updates : Updates records records' place (Some r)) where
    here_under : standing_under records' place ≡ r.standing
    here_under = ap (λ o. unwrap_or (option_map (λ (r : Record). r.standing) o) nothing_known) updates.changed

    same_under : (q : ℕ) (t : Bool) (o o' : Option ℕ) → o' ≡ cond t (Some place) o → (t ≡ false → (k : ℕ) → o ≡ Some k → k ≢ place) → option_map (standing_under records') o' ≡ cond t (Some r.standing) (option_map (standing_under records) o)
    same_under q true o o' is others = ap (option_map (standing_under records')) is ∙ ap (λ s. Some s) here_under
    same_under q false None o' is others = ap (option_map (standing_under records')) is
    same_under q false (Some k) o' is others = ap (option_map (standing_under records')) is ∙ ap (λ s. Some s) (other_under (Some r) updates k (others refl k refl))

    gains : ArePlaced places records → PlacesGain (Some place) → ((q k : ℕ) → eqb file q ≡ false → hash.get nat_eq places q ≡ Some k → k ≢ place) → files_of places' records' ≡ fin.insert (files_of places records) file r.standing
    gains are gain others = same_files _ _ (λ q.
        get-files_of places' records' q
        ∙ same_under q (eqb file q) (hash.get nat_eq places q) (hash.get nat_eq places' q) (gain q) (λ t k. others q k t)
        ∙ sym (get-insert nat_cmp_total (files_of places records) file r.standing q
        ∙ ap (λ t. cond t (Some r.standing) (fin.get (files_of places records) q)) (ties_back q file)
        ∙ ap (cond (eqb file q) (Some r.standing)) (get-files_of places records q)))

    stays_placed : ArePlaced places records → r.file ≡ file → PlacesGain (Some place) → ((q k : ℕ) → eqb file q ≡ false → hash.get nat_eq places q ≡ Some k → k ≢ place) → (q k : ℕ) → hash.get nat_eq places' q ≡ Some k → file_under records' k ≡ Some q
    unfolding file_under
    stays_placed are own gain others q k there = by (eqb file q) refl (sym (gain q) ∙ there)
      where
        by : (t : Bool) → eqb file q ≡ t → cond t (Some place) (hash.get nat_eq places q) ≡ Some k → option_map (λ (r : Record). r.file) (get records' k) ≡ Some q
        by true e is =
            let at : place ≡ k = cc in
            ap (λ k. option_map (λ (r : Record). r.file) (get records' k)) (sym at) ∙ ap (option_map (λ (r : Record). r.file)) updates.changed ∙ ap (λ f. Some f) (own ∙ eqb-true file q e)
        by false e is = other_file (Some r) updates k (others q k e is) ∙ are.placed q k is

    -- a file of which nothing was known
    pub files_of-insert : ArePlaced places records → get records place ≡ None → PlacesGain (Some place) → files_of places' records' ≡ fin.insert (files_of places records) file r.standing
    files_of-insert are none gain = gains are gain (λ q k _. fresh are none q k)

    pub ArePlaced-insert : ArePlaced places records → get records place ≡ None → r.file ≡ file → PlacesGain (Some place) → slab_len records' ≤ records'.capacity → ArePlaced places' records'
    unfolding file_under
    ArePlaced-insert are none own gain fits = record { placed = stays_placed are own gain (λ q k _. fresh are none q k); within = fits }

    -- a file that has the place
    pub files_of-change : ArePlaced places records → hash.get nat_eq places file ≡ Some place → PlacesGain (Some place) → files_of places' records' ≡ fin.insert (files_of places records) file r.standing
    files_of-change are here gain = gains are gain (apart are here)

    pub ArePlaced-change : ArePlaced places records → hash.get nat_eq places file ≡ Some place → r.file ≡ file → PlacesGain (Some place) → slab_len records' ≤ records'.capacity → ArePlaced places' records'
    unfolding file_under
    ArePlaced-change are here own gain fits = record { placed = stays_placed are own gain (apart are here); within = fits }

  module _ (updates : Updates records records' place None) (are : ArePlaced places records) (here : hash.get nat_eq places file ≡ Some place) (gain : PlacesGain None) where
    gone_under : (t : Bool) (o o' : Option ℕ) → o' ≡ cond t None o → (t ≡ false → (k : ℕ) → o ≡ Some k → k ≢ place) → option_map (standing_under records') o' ≡ cond t None (option_map (standing_under records) o)
    gone_under true o o' is others = ap (option_map (standing_under records')) is
    gone_under false None o' is others = ap (option_map (standing_under records')) is
    gone_under false (Some k) o' is others = ap (option_map (standing_under records')) is ∙ ap (λ s. Some s) (other_under None updates k (others refl k refl))

    pub files_of-remove : files_of places' records' ≡ fin.remove (files_of places records) file
    files_of-remove = same_files _ _ (λ q.
        get-files_of places' records' q
        ∙ gone_under (eqb file q) (hash.get nat_eq places q) (hash.get nat_eq places' q) (gain q) (λ t k. apart are here q k t)
        ∙ sym (get-remove nat_cmp_total (files_of places records) file q
        ∙ ap (λ t. cond t None (fin.get (files_of places records) q)) (ties_back q file)
        ∙ ap (cond (eqb file q) None) (get-files_of places records q)))

    pub ArePlaced-remove : slab_len records' ≤ records'.capacity → ArePlaced places' records'
    ArePlaced-remove fits = record { placed = λ q k there. by q k (eqb file q) refl (sym (gain q) ∙ there); within = fits }
      where
        by : (q k : ℕ) (t : Bool) → eqb file q ≡ t → cond t None (hash.get nat_eq places q) ≡ Some k → option_map (λ (r : Record). r.file) (get records' k) ≡ Some q
        by q k true e is = cc
        by q k false e is = ap (option_map (λ (r : Record). r.file)) (updates.others k (apart are here q k e is)) ∙ are.placed q k is
