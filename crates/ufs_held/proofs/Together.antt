-- Files lend their rights to one hand, one after another, and get them back.
use Rattle.std.proofs.Common.{◌≡◌, ℕ, ◌+◌, ◌≤◌, eqb, Bool, true, false, cond, List, [], ◌∷◌, ◌++◌, append_assoc, length, length-append, sym, refl, ap, ◌∙◌, arith}
use Rattle.std.proofs.lemmas.List.{append-nil}
use Rattle.ufs_file_commits.specs.State.{DurableState}
use Rattle.ufs_model.specs.declared.data.PartName.TheVariants.{File}
use Rattle.ufs_hand_laws.specs.Draws.{client_after, entry_of, left_faults}
use Rattle.ufs_hand_laws.specs.Owned.{count, each, named, one, only, without}
use Rattle.ufs_hand_laws.specs.Parts.{ClientPart, is_file}
use Rattle.ufs_hand_laws.specs.declared.fresh.Fresh.{Fresh}
use Rattle.ufs_hand_laws.proofs.Keys.{itself}
use Rattle.ufs_hand_laws.proofs.Owning.{weigh_append}
use Rattle.ufs_joint.specs.Cells.{FileCell, View, both_of, given_of, kept_of}
use Rattle.ufs_joint.specs.Draws.{drawn}
use Rattle.ufs_turns.specs.Lent.{IsBeside}
use Rattle.ufs_turns.proofs.Hands.{later_left}
use Rattle.ufs_held.specs.Births.{HasStill}
use Rattle.ufs_held.specs.Drawn.{first_fds}
use Rattle.ufs_held.specs.Held.{IsHeld}
use Rattle.ufs_held.specs.Together.{AreApartFrom, HasDrawnStill, HasThemToo, still_of, under_numbers}
use Rattle.ufs_held.proofs.After.{only_none, own_files, own_left, without_none}
use Rattle.ufs_held.proofs.Excusing.{stop_joined}

-- ---- one number among others

module _ {D : Type 0} (k : ℕ) where
  only_append : (xs ys : List (ℕ × D)) → only (eqb k) (xs ++ ys) ≡ only (eqb k) xs ++ only (eqb k) ys
  only_append [] ys = refl
  only_append (x ∷ xs) ys = by (eqb k x.0) (only_append xs ys)
    where
      by : (b : Bool) → only (eqb k) (xs ++ ys) ≡ only (eqb k) xs ++ only (eqb k) ys → cond b (x ∷ only (eqb k) (xs ++ ys)) (only (eqb k) (xs ++ ys)) ≡ cond b (x ∷ only (eqb k) xs) (only (eqb k) xs) ++ only (eqb k) ys
      by true r = ap (λ (ps : List (ℕ × D)). x ∷ ps) r
      by false r = r

  without_append : (xs ys : List (ℕ × D)) → without (eqb k) (xs ++ ys) ≡ without (eqb k) xs ++ without (eqb k) ys
  without_append [] ys = refl
  without_append (x ∷ xs) ys = by (eqb k x.0) (without_append xs ys)
    where
      by : (b : Bool) → without (eqb k) (xs ++ ys) ≡ without (eqb k) xs ++ without (eqb k) ys → cond b (without (eqb k) (xs ++ ys)) (x ∷ without (eqb k) (xs ++ ys)) ≡ cond b (without (eqb k) xs) (x ∷ without (eqb k) xs) ++ without (eqb k) ys
      by true r = r
      by false r = ap (λ (ps : List (ℕ × D)). x ∷ ps) r

  only_else : (xs : List (ℕ × D)) → count eqb k xs ≡ 0 → only (eqb k) xs ≡ []
  only_else [] none = refl
  only_else (x ∷ xs) none = by (eqb k x.0) (only_else xs) none
    where
      by : (b : Bool) → (count eqb k xs ≡ 0 → only (eqb k) xs ≡ []) → one b + count eqb k xs ≡ 0 → cond b (x ∷ only (eqb k) xs) (only (eqb k) xs) ≡ []
      by true r e = absurd (omega (arith, e))
      by false r e = r (omega (arith, e))

  without_else : (xs : List (ℕ × D)) → count eqb k xs ≡ 0 → without (eqb k) xs ≡ xs
  without_else [] none = refl
  without_else (x ∷ xs) none = by (eqb k x.0) (without_else xs) none
    where
      by : (b : Bool) → (count eqb k xs ≡ 0 → without (eqb k) xs ≡ xs) → one b + count eqb k xs ≡ 0 → cond b (without (eqb k) xs) (x ∷ without (eqb k) xs) ≡ x ∷ xs
      by true r e = absurd (omega (arith, e))
      by false r e = ap (λ (ps : List (ℕ × D)). x ∷ ps) (r (omega (arith, e)))

-- ---- where no file is left

pub drawn_still : (ticket : ℕ) (f : Fresh) (v w : View) → w ≡ drawn ticket f (still_of v) v → v.seen ≤ ticket → HasDrawnStill ticket f v w
drawn_still ticket f v w is later = record {
  clients = ap (λ (q : View). q.clients) is;
  asked = ap (λ (q : View). q.asked) is;
  files = ap (λ (q : View). q.files) is;
  pools = ap (λ (q : View). q.pools) is;
  names = ap (λ (q : View). q.names) is;
  store = ap (λ (q : View). q.store) is;
  faults = ap (λ (q : View). q.faults) is;
  stop = λ fault told. ap (λ (q : View). q.stop) is ∙ told;
  later = later;
  seen = ap (λ (q : View). q.seen) is;
}

pub none_too : (v : View) → HasThemToo [] v v
none_too v = record { clients = refl; asked = refl; files = sym (append-nil v.files); pools = refl; names = refl; store = refl; faults = refl; stop = λ fault told. told }

-- ---- the first file lends its right

module _ (own v : View) (x : DurableState) (held : IsHeld x own) (first : FileCell) (rest : List FileCell) (is : held.cell ≡ first) (apart : AreApartFrom v (first ∷ rest)) where
  number : first.value.file.file ≡ x.file.file
  number = ap (λ (c : FileCell). c.value.file.file) (sym is) ∙ ap (λ (q : DurableState). q.file.file) held.value

  abbrev pub joined : View
  joined = both_of v (given_of (File x.file.file) own)

  joined_clients : joined.clients ≡ v.clients
  joined_clients = ap (λ ps. v.clients ++ ps) (only_none own.clients) ∙ append-nil v.clients

  joined_asked : joined.asked ≡ v.asked
  joined_asked = ap (λ ps. v.asked ++ ps) (only_none own.asked) ∙ append-nil v.asked

  joined_files : joined.files ≡ v.files ++ (x.file.file, first) ∷ []
  joined_files = ap (λ ps. v.files ++ ps) (own_files own x held ∙ ap (λ (c : FileCell). (x.file.file, c) ∷ []) is)

  joined_pools : joined.pools ≡ v.pools
  joined_pools = ap (λ ps. v.pools ++ ps) (ap (only (is_file (File x.file.file))) held.pools) ∙ append-nil v.pools

  pub joined_names : joined.names ≡ v.names
  joined_names = ap (λ ps. v.names ++ ps) (only_none own.names) ∙ append-nil v.names

  pub joined_store : joined.store ≡ v.store
  joined_store = ap (λ ps. v.store ++ ps) (only_none own.store) ∙ append-nil v.store

  all_files : joined.files ++ under_numbers rest ≡ v.files ++ under_numbers (first ∷ rest)
  all_files =
      ap (λ ps. ps ++ under_numbers rest) joined_files
      ∙ append_assoc v.files ((x.file.file, first) ∷ []) (under_numbers rest)
      ∙ ap (λ (m : ℕ). v.files ++ ((m, first) ∷ under_numbers rest)) (sym number)

  pub apart_then : AreApartFrom joined rest
  apart_then k =
      let a = ap (count eqb k) all_files in
      let b = ap (count eqb k) joined_pools in
      let l = apart k in
      omega (arith, a, b, l)

  pub them_too : (w : View) → HasThemToo rest joined w → HasThemToo (first ∷ rest) v w
  them_too w has = record {
    clients = has.clients ∙ joined_clients;
    asked = has.asked ∙ joined_asked;
    files = has.files ∙ all_files;
    pools = has.pools ∙ joined_pools;
    names = has.names ∙ joined_names;
    store = has.store ∙ joined_store;
    faults = has.faults ∙ append-nil v.faults;
    stop = λ fault told. has.stop fault (stop_joined v.stop own.stop fault told);
  }

  -- the files are one more while it is lent
  pub one_more : (g : ℕ) → length joined.files + length rest ≤ g → length v.files + length (first ∷ rest) ≤ g
  one_more g few =
      let n = ap length joined_files in
      let m = length-append v.files ((x.file.file, first) ∷ []) in
      omega (arith, few, n, m)

  -- no other file has its number, and no pool
  its_count : count eqb x.file.file (v.files ++ under_numbers (first ∷ rest)) ≡ count eqb x.file.file v.files + (1 + count eqb x.file.file (under_numbers rest))
  its_count =
      weigh_append (named eqb x.file.file) v.files (under_numbers (first ∷ rest))
      ∙ ap (λ (b : Bool). count eqb x.file.file v.files + (one b + count eqb x.file.file (under_numbers rest))) (ap (eqb x.file.file) number ∙ itself x.file.file)

  no_file : count eqb x.file.file v.files ≡ 0
  no_file = let a = its_count in let l = apart x.file.file in omega (arith, a, l)

  no_pool : count eqb x.file.file v.pools ≡ 0
  no_pool = let a = its_count in let l = apart x.file.file in omega (arith, a, l)

  -- ---- and gets it back, where no file of the other hand changed

  module _ (w : View) (same_files : w.files ≡ joined.files) (same_pools : w.pools ≡ joined.pools) where
    w_files : w.files ≡ v.files ++ (x.file.file, first) ∷ []
    w_files = same_files ∙ joined_files

    back_files : (given_of (File x.file.file) w).files ≡ (x.file.file, first) ∷ []
    back_files =
        ap (only (eqb x.file.file)) w_files
        ∙ only_append x.file.file v.files ((x.file.file, first) ∷ [])
        ∙ (λ i. only_else x.file.file v.files no_file i ++ cond (itself x.file.file i) ((x.file.file, first) ∷ []) [])

    pub files_home : (both_of (kept_of (File x.file.file) own) (given_of (File x.file.file) w)).files ≡ (x.file.file, first) ∷ []
    files_home = λ i. own_left own x held i ++ back_files i

    pub held_home : IsHeld x (both_of (kept_of (File x.file.file) own) (given_of (File x.file.file) w))
    held_home = record {
      cell = first;
      clients = λ i. (without_none own.clients ∙ held.clients) i ++ only_none w.clients i;
      asked = λ i. (without_none own.asked ∙ held.asked) i ++ only_none w.asked i;
      files = files_home;
      pools = λ i. ap (without (is_file (File x.file.file))) held.pools i ++ (ap (only (eqb x.file.file)) (same_pools ∙ joined_pools) ∙ only_else x.file.file v.pools no_pool) i;
      names = λ i. (without_none own.names ∙ held.names) i ++ only_none w.names i;
      store = λ i. (without_none own.store ∙ held.store) i ++ only_none w.store i;
      value = ap (λ (c : FileCell). c.value) (sym is) ∙ held.value;
    }

    pub files_left : (kept_of (File x.file.file) w).files ≡ v.files
    files_left =
        ap (without (eqb x.file.file)) w_files
        ∙ without_append x.file.file v.files ((x.file.file, first) ∷ [])
        ∙ (λ i. without_else x.file.file v.files no_file i ++ cond (itself x.file.file i) [] ((x.file.file, first) ∷ []))
        ∙ append-nil v.files

    pub pools_left : (kept_of (File x.file.file) w).pools ≡ v.pools
    pools_left = ap (without (eqb x.file.file)) (same_pools ∙ joined_pools) ∙ without_else x.file.file v.pools no_pool

  -- ---- behind an entry that was drawn

  module _ (ticket : ℕ) (f : Fresh) (w : View) (drew : HasDrawnStill ticket f joined w) where
    pub files_back : (both_of (kept_of (File x.file.file) own) (given_of (File x.file.file) w)).files ≡ (x.file.file, first) ∷ []
    files_back = files_home w drew.files drew.pools

    pub held_back : IsHeld x (both_of (kept_of (File x.file.file) own) (given_of (File x.file.file) w))
    held_back = held_home w drew.files drew.pools

    pub drawn_back : HasDrawnStill ticket f v (kept_of (File x.file.file) w)
    drawn_back = record {
      clients = without_none w.clients ∙ drew.clients ∙ ap (λ (cs : List (ℕ × ClientPart)). each (client_after (entry_of ticket f) (first_fds cs)) cs) joined_clients;
      asked = without_none w.asked ∙ drew.asked ∙ joined_asked;
      files = files_left w drew.files drew.pools;
      pools = pools_left w drew.files drew.pools;
      names = without_none w.names ∙ drew.names ∙ joined_names;
      store = without_none w.store ∙ drew.store ∙ joined_store;
      faults = drew.faults ∙ ap (left_faults f.reply) (append-nil v.faults);
      stop = λ fault told. drew.stop fault (stop_joined v.stop own.stop fault told);
      later = let a = drew.later in let b = later_left v.seen own.seen in omega (arith, a, b);
      seen = drew.seen;
    }

  -- ---- behind a turn of the store

  module _ (w : View) (same_files : w.files ≡ joined.files) (beside : IsBeside joined w) where
    pub beside_home : IsBeside v (kept_of (File x.file.file) w)
    beside_home = record {
      clients = without_none w.clients ∙ beside.clients ∙ joined_clients;
      asked = without_none w.asked ∙ beside.asked ∙ joined_asked;
      pools = pools_left w same_files beside.pools;
      seen = let a = beside.seen in let b = later_left v.seen own.seen in omega (arith, a, b);
    }

    pub names_left : (kept_of (File x.file.file) w).names ≡ w.names
    names_left = without_none w.names

    pub store_left : (kept_of (File x.file.file) w).store ≡ w.store
    store_left = without_none w.store

  -- ---- behind a look

  module _ (w : View) (still : HasStill joined w) where
    pub still_home : HasStill v (kept_of (File x.file.file) w)
    still_home = record {
      clients = without_none w.clients ∙ still.clients ∙ joined_clients;
      asked = without_none w.asked ∙ still.asked ∙ joined_asked;
      files = files_left w still.files still.pools;
      pools = pools_left w still.files still.pools;
      names = without_none w.names ∙ still.names ∙ joined_names;
      store = without_none w.store ∙ still.store ∙ joined_store;
      faults = still.faults ∙ append-nil v.faults;
      seen = let a = still.seen in let b = later_left v.seen own.seen in omega (arith, a, b);
    }
