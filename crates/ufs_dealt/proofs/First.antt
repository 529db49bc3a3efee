-- What a first hand has for those to whom it is dealt.
use Rattle.std.proofs.Common.{◌≡◌, ◌≢◌, inl, inr, ℕ, zero, suc, ◌+◌, ◌-◌, ◌<◌, ◌≤◌, ◌^◌, Bool, true, false, cond, eqb, List, [], ◌∷◌, length, map, Some, None, is_some, ap, sym, refl, ◌∙◌, arith}
use Rattle.std.specs.Cmp.{eq_by_cmp_equiv, nat_cmp_total}
use Rattle.std.specs.Ordering.{eq_by_cmp, is_eq, nat_cmp}
use Rattle.std.specs.FinMap as fin
use Rattle.std.specs.FinMap.{get-entries, nat_cmp-IsAntisymmetric}
use Rattle.std.specs.FinMap.Entries.{below_all}
use Rattle.std.proofs.lemmas.Bool.{and_parts}
use native.Mathlib.Decide.{dec_le}
use Rattle.ufs_file_commits.specs.State.{DurableState, state_of}
use Rattle.ufs_file.specs.Hand.{FileState}
use Rattle.ufs_joint.specs.FirstHand.{Beginning, client_of, each_of, file_first, files_first, pool_of, start_first}
use Rattle.ufs_joint.specs.Ready.{IsReady}
use Rattle.ufs_joint.specs.Ends.{CanBegin}
use Rattle.ufs_joint.specs.Whole.{no_blocks}
use Rattle.ufs_model.specs.declared.data.PartName.TheVariants.{Asked, Client}
use Rattle.ufs_model.proofs.Facts.Lookups.{from_some, one_key}
use Rattle.ufs_model.proofs.Facts.Rising.{entries-rise, less}
use Rattle.ufs_noted.specs.declared.known.KnownFile.{KnownFile}
use Rattle.ufs_hand_laws.specs.Owned.{Has, count, one, only, without}
use Rattle.ufs_hand_laws.specs.Parts.{is_asked, is_client, is_file, is_names, is_store}
use Rattle.ufs_hand_laws.specs.Whole.{idle_asked, idle_client}
use Rattle.ufs_hand_laws.proofs.Keys.{alike, itself}
use Rattle.ufs_hand_laws.proofs.Owning.{has_count}
use Rattle.ufs_store.specs.State.{StoreState}
use Rattle.ufs_dealt.specs.Dealt.{AreApart, values_in, values_of}
use Rattle.ufs_dealt.specs.First.{ClientsAreIdle, ClientsLeaveRest, FirstFilesAreHere, FirstFilesAreLow, FirstIsApart, LiveFilesAreThere, OthersStayIdle, PoolsAreThere, TakePart, rest_first}
use Rattle.ufs_dealt.proofs.Cutting.{without_none}

-- ---- the same for each of so many

module _ {D : Type 0} (d : D) where
  -- none of the first ones has a later number
  none_later : (n client : ℕ) → n ≤ client → only (eqb client) (each_of client_of d n) ≡ []
  none_later zero client low = refl
  none_later (suc n) client low = by (eqb client n) refl (none_later n client (omega (arith, low)))
    where
      by : (b : Bool) → eqb client n ≡ b → only (eqb client) (each_of client_of d n) ≡ [] → cond b ((n, d) ∷ only (eqb client) (each_of client_of d n)) (only (eqb client) (each_of client_of d n)) ≡ []
      by true is rest = (let same = alike client n is in absurd (omega (arith, low, same)))
      by false is rest = rest

  pub one_each : (n client : ℕ) → client < n → only (eqb client) (each_of client_of d n) ≡ (client, d) ∷ []
  one_each zero client low = absurd (omega (arith, low))
  one_each (suc n) client low = by (eqb client n) refl (one_each n client)
    where
      by : (b : Bool) → eqb client n ≡ b → (client < n → only (eqb client) (each_of client_of d n) ≡ (client, d) ∷ []) → cond b ((n, d) ∷ only (eqb client) (each_of client_of d n)) (only (eqb client) (each_of client_of d n)) ≡ (client, d) ∷ []
      by true is below = let same = alike client n is in ap (λ rest. (n, d) ∷ rest) (none_later n client (omega (arith, same))) ∙ ap (λ (m : ℕ). (m, d) ∷ []) (sym same)
      by false is below = below (under (dec_le (suc client) n))
        where
          under : Dec (suc client ≤ n) → client < n
          under (yes less) = less
          under (no over) =
              let same : client ≡ n = omega (arith, low, over) in
              let both : true ≡ false = sym (itself client) ∙ ap (eqb client) same ∙ is in
              absurd cc

module _ {D : Type 0} (name : ℕ → ℕ) (d : D) where
  pub each_there : (n i : ℕ) → i < n → Has {A = ℕ × D} (name i, d) (each_of name d n)
  each_there zero i low = absurd (omega (arith, low))
  each_there (suc n) i low = by (dec_le (suc i) n) (each_there n i)
    where
      by : Dec (suc i ≤ n) → (i < n → Has {A = ℕ × D} (name i, d) (each_of name d n)) → Has {A = ℕ × D} (name i, d) (each_of name d (suc n))
      by (yes below) there = inr (there below)
      by (no over) there = let same : i ≡ n = omega (arith, low, over) in inl (ap (λ (m : ℕ). (name m, d)) same)

  -- a name that stands there is one of theirs
  pub each_named : (n m : ℕ) (x : D) → Has {A = ℕ × D} (m, x) (each_of name d n) → (i : ℕ) × (i < n) × (m ≡ name i)
  each_named zero m x has = absurd has
  each_named (suc n) m x (inl is) = (n, omega arith, ap (λ (q : ℕ × D). q.0) is)
  each_named (suc n) m x (inr has) = let r = each_named n m x has in let low = r.1 in (r.0, omega (arith, low), r.2)

  pub each_long : (n : ℕ) → length (each_of name d n) ≡ n
  each_long zero = refl
  each_long (suc n) = let rest = each_long n in omega (arith, rest)

pub take_part : TakePart
take_part b s = (each_long client_of idle_client b.clients, let all = each_long pool_of no_blocks (suc b.workers) in omega (arith, all))

-- ---- one name, where another is taken out

only_behind : {D : Type 0} (one other : ℕ) → one ≢ other → (ps : List (ℕ × D)) → only (eqb other) (without (eqb one) ps) ≡ only (eqb other) ps
only_behind one other apart [] = refl
only_behind {D} one other apart (p ∷ ps) = by (eqb one p.0) refl (only_behind one other apart ps)
  where
    by : (b : Bool) → eqb one p.0 ≡ b → only (eqb other) (without (eqb one) ps) ≡ only (eqb other) ps → only (eqb other) (cond b (without (eqb one) ps) (p ∷ without (eqb one) ps)) ≡ cond (eqb other p.0) (p ∷ only (eqb other) ps) (only (eqb other) ps)
    by true is rest = rest ∙ off (eqb other p.0) refl
      where
        off : (b : Bool) → eqb other p.0 ≡ b → only (eqb other) ps ≡ cond b (p ∷ only (eqb other) ps) (only (eqb other) ps)
        off true same = absurd (apart (alike one p.0 is ∙ sym (alike other p.0 same)))
        off false same = refl
    by false is rest = ap (λ qs. cond (eqb other p.0) (p ∷ qs) qs) rest

pub clients_are_idle : ClientsAreIdle
clients_are_idle b client low = record { clients = one_each idle_client b.clients client low; asked = one_each idle_asked b.clients client low }

pub clients_leave_rest : ClientsLeaveRest
clients_leave_rest v client = λ i. record {
  clients = without_none (is_client (Asked client)) (λ n. refl) (without (eqb client) v.clients) i;
  asked = without (eqb client) (without_none (is_asked (Client client)) (λ n. refl) v.asked i);
  files = (without_none (is_file (Asked client)) (λ n. refl) (without (is_file (Client client)) v.files) ∙ without_none (is_file (Client client)) (λ n. refl) v.files) i;
  pools = (without_none (is_file (Asked client)) (λ n. refl) (without (is_file (Client client)) v.pools) ∙ without_none (is_file (Client client)) (λ n. refl) v.pools) i;
  names = (without_none (is_names (Asked client)) (λ n. refl) (without (is_names (Client client)) v.names) ∙ without_none (is_names (Client client)) (λ n. refl) v.names) i;
  store = (without_none (is_store (Asked client)) (λ n. refl) (without (is_store (Client client)) v.store) ∙ without_none (is_store (Client client)) (λ n. refl) v.store) i;
  seen = v.seen;
  faults = v.faults;
  stop = v.stop;
}

pub others_stay_idle : OthersStayIdle
others_stay_idle v one other apart idle = record {
  clients = only_behind one other apart v.clients ∙ idle.clients;
  asked = only_behind one other apart v.asked ∙ idle.asked;
}

pub pools_are_there : PoolsAreThere
pools_are_there b server few = each_there pool_of no_blocks (suc b.workers) server (omega (arith, few))

-- ---- what stands in a map

module _ {X : Type 0} where
  -- a key behind the first is another
  other_key : (k : ℕ) (es : List (ℕ × X)) → below_all nat_cmp k es ≡ true → (n : ℕ) (x : X) → Has {A = ℕ × X} (n, x) es → n ≢ k
  other_key k [] below n x has same = absurd has
  other_key k (e ∷ es) below n x (inl is) same =
      let low = (and_parts _ _ below).0 in
      let key : k ≡ e.0 = sym same ∙ ap (λ (q : ℕ × X). q.0) is in
      let both : true ≡ false = sym ((eq_by_cmp_equiv nat_cmp_total).refl k) ∙ ap (eq_by_cmp nat_cmp k) key ∙ ap is_eq (less (nat_cmp k e.0) low) in
      absurd cc
  other_key k (e ∷ es) below n x (inr has) same = other_key k es (and_parts _ _ below).1 n x has same

  found : (es : List (ℕ × X)) → fin.is_sorted nat_cmp es ≡ true → (k : ℕ) (x : X) → Has {A = ℕ × X} (k, x) es → fin.find nat_cmp k es ≡ Some x
  found [] sorted k x has = absurd has
  found (e ∷ es) sorted k x (inl is) =
      ap (λ (q : ℕ × X). cond (eq_by_cmp nat_cmp k q.0) (Some q.1) (fin.find nat_cmp k es)) (sym is)
      ∙ ap (λ b. cond b (Some x) (fin.find nat_cmp k es)) ((eq_by_cmp_equiv nat_cmp_total).refl k)
  found (e ∷ es) sorted k x (inr has) = let both = and_parts _ _ sorted in by (eq_by_cmp nat_cmp k e.0) refl (other_key e.0 es both.0 k x has) (found es both.1 k x has)
    where
      by : (b : Bool) → eq_by_cmp nat_cmp k e.0 ≡ b → k ≢ e.0 → fin.find nat_cmp k es ≡ Some x → cond b (Some e.1) (fin.find nat_cmp k es) ≡ Some x
      by true is not rest = absurd (not (one_key nat_cmp_total nat_cmp-IsAntisymmetric k e.0 is))
      by false is not rest = rest

  stands : (m : fin.FinMap nat_cmp X) (k : ℕ) (x : X) → Has {A = ℕ × X} (k, x) (fin.entries m) → fin.get m k ≡ Some x
  stands m k x has = get-entries m k ∙ found (fin.entries m) (entries-rise m) k x has

  -- what stands in a list that is made of another
  listed_from : {D : Type 0} (f : X → D) (es : List (ℕ × X)) (n : ℕ) (y : D) → Has {A = ℕ × D} (n, y) (map (λ e. (e.0, f e.1)) es) → (x : X) × Has {A = ℕ × X} (n, x) es
  listed_from f [] n y has = absurd has
  listed_from f (e ∷ es) n y (inl is) = (e.1, inl (ap (λ (k : ℕ). (k, e.1)) (ap (λ q. q.0) is)))
  listed_from f (e ∷ es) n y (inr has) = let r = listed_from f es n y has in (r.0, inr r.1)

-- ---- the files

module _ (b : Beginning) (s : StoreState) (r : IsReady b s) where
  numbered : (n : ℕ) (f : FileState) → Has {A = ℕ × FileState} (n, f) (fin.entries b.files) → f.file ≡ n
  numbered n f has = (r.parts.files n f (stands b.files n f has)).0

  low_number : (n : ℕ) → 1 ≤ count eqb n (files_first b.files) → n < b.names.next
  low_number n some =
      let listed = has_count eqb itself alike n (files_first b.files) some in
      let entry = listed_from file_first (fin.entries b.files) n listed.0 listed.1 in
      let it = r.parts.files n entry.0 (stands b.files n entry.0 entry.1) in
      let live = r.parts.names.tree.numbered n (ap (λ (k : ℕ). is_some (fin.get b.tree.bytes k)) (sym it.0) ∙ ap is_some it.1.has) in
      let next = r.parts.names.next in
      omega (arith, live, next)

  module _ (can : CanBegin (start_first b s)) (few : b.names.next ≤ 2 ^ 31) where
    no_pool : (n : ℕ) → 1 ≤ count eqb n (files_first b.files) → 1 ≤ count eqb n (each_of pool_of no_blocks (suc b.workers)) → ⊥
    no_pool n file pool =
        let low = low_number n file in
        let there = has_count eqb itself alike n (each_of pool_of no_blocks (suc b.workers)) pool in
        let named = each_named pool_of no_blocks (suc b.workers) n there.0 there.1 in
        let under = named.1 in
        let is : n ≡ 4294967295 - named.0 = named.2 in
        let workers = r.workers in
        let most : b.names.next ≤ 2147483648 = few in
        omega (arith, low, under, is, workers, most)

    first_apart : AreApart (rest_first b)
    first_apart n = by (dec_le 1 (count eqb n (files_first b.files))) (dec_le 1 (count eqb n (each_of pool_of no_blocks (suc b.workers))))
      where
        by : Dec (1 ≤ count eqb n (files_first b.files)) → Dec (1 ≤ count eqb n (each_of pool_of no_blocks (suc b.workers))) → count eqb n (files_first b.files) + count eqb n (each_of pool_of no_blocks (suc b.workers)) ≤ 1
        by (yes file) (yes pool) = absurd (no_pool n file pool)
        by (yes file) (no none) = let once = can.one_file n in omega (arith, once, none)
        by (no none) d = let once = can.one_pool n in omega (arith, once, none)

pub first_is_apart : FirstIsApart
first_is_apart b s r can few = first_apart b s r can few

values_first : (es : List (ℕ × FileState)) → ((n : ℕ) (f : FileState) → Has {A = ℕ × FileState} (n, f) es → f.file ≡ n) → (files : List KnownFile)
    → map (λ k. state_of k.hand k.commits) files ≡ map (λ e. (file_first e.1).value) es → values_in (map (λ e. (e.0, file_first e.1)) es) ≡ values_of files
values_first [] numbered [] same = refl
values_first [] numbered (k ∷ files) same = (let none : state_of k.hand k.commits ∷ map (λ (q : KnownFile). state_of q.hand q.commits) files ≡ [] = same in absurd cc)
values_first (e ∷ es) numbered [] same = (let none : [] ≡ (file_first e.1).value ∷ map (λ (q : ℕ × FileState). (file_first q.1).value) es = same in absurd cc)
values_first (e ∷ es) numbered (k ∷ files) same =
    let both : state_of k.hand k.commits ∷ map (λ (q : KnownFile). state_of q.hand q.commits) files ≡ (file_first e.1).value ∷ map (λ (q : ℕ × FileState). (file_first q.1).value) es = same in
    let head : state_of k.hand k.commits ≡ (file_first e.1).value = cc in
    let tail : map (λ (q : KnownFile). state_of q.hand q.commits) files ≡ map (λ (q : ℕ × FileState). (file_first q.1).value) es = cc in
    let number : k.hand.file ≡ e.0 = ap (λ (x : DurableState). x.file.file) head ∙ numbered e.0 e.1 (inl refl) in
    λ i. (sym number i, sym head i) ∷ values_first es (λ n f has. numbered n f (inr has)) files tail i

pub first_files_are_here : FirstFilesAreHere
first_files_are_here b s files r same = values_first (fin.entries b.files) (numbered b s r) files same

pub first_files_are_low : FirstFilesAreLow
first_files_are_low b s r file some = low_number b s r file some

-- ---- what stands in a map is counted among its entries

module _ {X D : Type 0} (f : X → D) where
  counted : (n : ℕ) (x : X) (es : List (ℕ × X)) → fin.find nat_cmp n es ≡ Some x → 1 ≤ count eqb n (map (λ e. (e.0, f e.1)) es)
  counted n x [] found = (let none : None ≡ Some x = found in absurd cc)
  counted n x (e ∷ es) found = by (eq_by_cmp nat_cmp n e.0) refl found (counted n x es)
    where
      by : (b : Bool) → eq_by_cmp nat_cmp n e.0 ≡ b → cond b (Some e.1) (fin.find nat_cmp n es) ≡ Some x → (fin.find nat_cmp n es ≡ Some x → 1 ≤ count eqb n (map (λ q. (q.0, f q.1)) es)) → 1 ≤ one (eqb n e.0) + count eqb n (map (λ q. (q.0, f q.1)) es)
      by true is at rest =
          let here : one (eqb n e.0) ≡ 1 = ap (λ (m : ℕ). one (eqb n m)) (sym (one_key nat_cmp_total nat_cmp-IsAntisymmetric n e.0 is)) ∙ ap one (itself n) in
          omega (arith, here)
      by false is at rest = let more = rest at in omega (arith, more)

pub live_files_are_there : LiveFilesAreThere
live_files_are_there b s r file live =
    let it = from_some (fin.get b.files file) (r.parts.here file live) in
    counted file_first file it.0 (fin.entries b.files) (sym (get-entries b.files file) ∙ it.1)
