-- Hands that are gathered one by one, and those with which a session began.
use Rattle.std.proofs.Common.{◌≡◌, ⊎_elim, ℕ, zero, suc, ◌+◌, ◌≤◌, eqb, length, map, List, [], ◌∷◌, ◌++◌, ap, sym, refl, ◌∙◌, subst, arith}
use Rattle.std.specs.Prelude.{slice_get, None, Some}
use Rattle.ufs_caller.specs.Callers.{Caller}
use Rattle.ufs_caller.specs.Hands.{IsHome}
use Rattle.ufs_caller.specs.Tied.{AreMadeThere}
use Rattle.ufs_caller.specs.declared.told.Told.{Told}
use Rattle.ufs_fds.specs.Descriptors.{Descs}
use Rattle.ufs_bitmap.specs.Blocks.{BlockSet}
use Rattle.ufs_joint.specs.FirstHand.{Beginning, HasPoolAlone, client_of, each_of, pool_of, start_first}
use Rattle.ufs_gathered.specs.Gathered.{AreHomeFrom, HasFilesToo, HasPoolsAlone, all_in, clients_in}
use Rattle.ufs_primary.specs.OfHeld.{HasThemToo, under_numbers}
use Rattle.ufs_joint.specs.Cells.{FileCell, Start, View, both_of}
use Rattle.ufs_joint.specs.Whole.{no_blocks}
use Rattle.ufs_model.specs.declared.data.Entry.{Entry}
use Rattle.ufs_msg.specs.There.{client_count, worker_count}
use Rattle.ufs_rounds.specs.Made.{AreMadeFrom}
use Rattle.ufs_rounds.specs.Rest.{AreDoneFrom}
use Rattle.ufs_hand_laws.specs.Owned.{Has, count, named, one}
use Rattle.ufs_hand_laws.specs.Whole.{idle_client}
use Rattle.ufs_hand_laws.proofs.Keys.{itself}
use Rattle.ufs_hand_laws.proofs.Owning.{weigh_append}
use Rattle.ufs_store.specs.State.{StoreState}

-- ---- one more

pub length_push : {A : Type 0} (xs : List A) (x : A) → length (xs ++ x ∷ []) ≡ suc (length xs)
length_push [] x = refl
length_push (y ∷ xs) x = ap suc (length_push xs x)

pub map_push : {A B : Type 0} (f : A → B) (xs : List A) (x : A) → map f (xs ++ x ∷ []) ≡ map f xs ++ f x ∷ []
map_push f [] x = refl
map_push f (y ∷ xs) x = λ i. f y ∷ map_push f xs x i

pub length_map : {A B : Type 0} (f : A → B) (xs : List A) → length (map f xs) ≡ length xs
length_map f [] = refl
length_map f (x ∷ xs) = ap suc (length_map f xs)

-- the next one of two that are joined
pub push_on : {A : Type 0} (xs : List A) (x : A) (ys : List A) → (xs ++ x ∷ []) ++ ys ≡ xs ++ (x ∷ ys)
push_on [] x ys = refl
push_on (y ∷ xs) x ys = λ i. y ∷ push_on xs x ys i

module _ {D : Type 0} (part : View → List (ℕ × D)) where
  count_push : (vs : List View) (v : View) (n : ℕ) → count eqb n (all_in part (vs ++ v ∷ [])) ≡ count eqb n (all_in part vs) + count eqb n (part v)
  count_push [] v n = let e = weigh_append (named eqb n) (part v) [] in omega (arith, e)
  count_push (u ∷ vs) v n =
      let a = weigh_append (named eqb n) (part u) (all_in part (vs ++ v ∷ [])) in
      let b = weigh_append (named eqb n) (part u) (all_in part vs) in
      let c = count_push vs v n in
      omega (arith, a, b, c)

  -- the next name stands there too
  pub one_further : (name : ℕ → ℕ) (d x : D) (vs : List View) (v : View) (k : ℕ) → part v ≡ (name k, x) ∷ [] → ((n : ℕ) → count eqb n (all_in part vs) ≡ count eqb n (each_of name d k))
      → (n : ℕ) → count eqb n (all_in part (vs ++ v ∷ [])) ≡ count eqb n (each_of name d (suc k))
  one_further name d x vs v k is all n =
      let a = count_push vs v n in
      let b : count eqb n (part v) ≡ one (eqb n (name k)) + 0 = ap (count eqb n) is in
      let c = all n in
      let e : count eqb n (each_of name d (suc k)) ≡ one (eqb n (name k)) + count eqb n (each_of name d k) = refl in
      omega (arith, a, b, c, e)

pub home_push : (n : ℕ) (lists : List (List Entry)) (hands : List View) (entries : List Entry) (v : View) (m : ℕ) → AreHomeFrom n lists hands → m ≡ n + length lists → (table : Descs) × IsHome m entries table v
    → AreHomeFrom n (lists ++ entries ∷ []) (hands ++ v ∷ [])
home_push n [] [] entries v m home is this = (subst (λ (k : ℕ). (table : Descs) × IsHome k entries table v) (omega (arith, is)) this, tt)
home_push n [] (u ∷ hands) entries v m home is this = absurd home
home_push n (t ∷ lists) [] entries v m home is this = absurd home
home_push n (t ∷ lists) (u ∷ hands) entries v m home is this = (home.0, home_push (suc n) lists hands entries v m home.1 (omega (arith, is)) this)

-- the next one's answers were made so too
pub made_push : (k : Start) (n : ℕ) (lists : List (List Told)) (told : List Told) (m : ℕ) → AreMadeFrom k n lists → m ≡ n + length lists → AreMadeThere k m told → AreMadeFrom k n (lists ++ told ∷ [])
made_push k n [] told m made is this = (subst (λ (c : ℕ). AreMadeThere k c told) (omega (arith, is)) this, tt)
made_push k n (t ∷ lists) told m made is this = (made.0, made_push k (suc n) lists told m made.1 (omega (arith, is)) this)

-- ---- pools

pub pools_alone : (number : ℕ) (pool : BlockSet) (v u : View) → HasPoolsAlone v → HasPoolAlone number pool u → HasPoolsAlone (both_of v u)
pools_alone number pool v u alone one_more = record {
  clients = λ i. alone.clients i ++ one_more.clients i;
  files = λ i. alone.files i ++ one_more.files i;
  names = λ i. alone.names i ++ one_more.names i;
  store = λ i. alone.store i ++ one_more.store i;
}

-- the next server's is there too
pub pool_more : (k : ℕ) (pool : BlockSet) (v u : View) → u.pools ≡ (pool_of k, pool) ∷ [] → ((n : ℕ) → count eqb n v.pools ≡ count eqb n (each_of pool_of no_blocks k))
    → (n : ℕ) → count eqb n (both_of v u).pools ≡ count eqb n (each_of pool_of no_blocks (suc k))
pool_more k pool v u is all n =
    let a = weigh_append (named eqb n) v.pools u.pools in
    let b : count eqb n u.pools ≡ one (eqb n (pool_of k)) + 0 = ap (count eqb n) is in
    let c = all n in
    let e : count eqb n (each_of pool_of no_blocks (suc k)) ≡ one (eqb n (pool_of k)) + count eqb n (each_of pool_of no_blocks k) = refl in
    omega (arith, a, b, c, e)

-- ---- clients that are done, from this one on

pub done_from : (n : ℕ) (clients : List Caller) → ((place : ℕ) (c : Caller) → slice_get clients place ≡ Some c → c.number ≡ n + place) → ((place : ℕ) (c : Caller) → slice_get clients place ≡ Some c → c.errand ≡ None) → AreDoneFrom n clients
done_from n [] numbers idle = tt
done_from n (c ∷ clients) numbers idle =
    let first = numbers zero c refl in
    (omega (arith, first), idle zero c refl, done_from (suc n) clients (λ place x at. let is = numbers (suc place) x at in omega (arith, is)) (λ place x at. idle (suc place) x at))

-- ---- the beginning

each_long : {D : Type 0} (name : ℕ → ℕ) (d : D) (n : ℕ) → length (each_of name d n) ≡ n
each_long name d zero = refl
each_long name d (suc n) = let rest = each_long name d n in omega (arith, rest)

module _ (b : Beginning) (s : StoreState) where
  pub clients_back : (hands : List View) (k : ℕ) → k ≡ client_count (start_first b s) → ((n : ℕ) → count eqb n (clients_in hands) ≡ count eqb n (each_of client_of idle_client k))
      → (c : ℕ) → count eqb c (start_first b s).view.clients ≤ count eqb c (clients_in hands)
  clients_back hands k all counts c =
      let same : k ≡ b.clients = all ∙ each_long client_of idle_client b.clients in
      let e = counts c ∙ ap (λ (m : ℕ). count eqb c (each_of client_of idle_client m)) same in
      omega (arith, e)

  pub pools_back : (v : View) (k : ℕ) → k ≡ worker_count (start_first b s) → ((n : ℕ) → count eqb n v.pools ≡ count eqb n (each_of pool_of no_blocks (1 + k)))
      → (n : ℕ) → count eqb n (start_first b s).view.pools ≤ count eqb n v.pools
  pools_back v k all counts n =
      let long = each_long pool_of no_blocks (suc b.workers) in
      let same : 1 + k ≡ suc b.workers = omega (arith, all, long) in
      let e = counts n ∙ ap (λ (m : ℕ). count eqb n (each_of pool_of no_blocks m)) same in
      omega (arith, e)

-- ---- files

pub counted : (cells : List FileCell) (c : FileCell) (file : ℕ) → Has c cells → c.value.file.file ≡ file → 1 ≤ count eqb file (under_numbers cells)
counted [] c file has is = absurd has
counted (d ∷ cells) c file has is = ⊎_elim here (λ in_rest. there (counted cells c file in_rest is)) has
  where
    here : c ≡ d → 1 ≤ one (eqb file d.value.file.file) + count eqb file (under_numbers cells)
    here same =
        let number : d.value.file.file ≡ file = ap (λ (x : FileCell). x.value.file.file) (sym same) ∙ is in
        let e : one (eqb file d.value.file.file) ≡ 1 = ap (λ (n : ℕ). one (eqb file n)) number ∙ ap one (itself file) in
        omega (arith, e)

    there : 1 ≤ count eqb file (under_numbers cells) → 1 ≤ one (eqb file d.value.file.file) + count eqb file (under_numbers cells)
    there more = omega (arith, more)

-- files that come to the hand of the pools
pub files_too : (cells : List FileCell) (v w : View) → HasPoolsAlone v → HasThemToo cells v w → HasFilesToo cells w
files_too cells v w alone them = record {
  clients = them.clients ∙ alone.clients;
  files = them.files ∙ (λ i. alone.files i ++ under_numbers cells);
  names = them.names ∙ alone.names;
  store = them.store ∙ alone.store;
}
