-- What a line makes of an audit's state.
use Rattle.std.proofs.Common.{◌≡◌, ◌≢◌, ℕ, ◌+◌, ◌<◌, ◌≤◌, ◌^◌, List, [], ◌∷◌, ◌++◌, Option, Some, None, ap, sym, refl, subst, ◌∙◌, length, replicate, arith, zero, suc, ◌⊎◌, inl, inr, unwrap_or, slice_set, false, true, Bool, IsTrue}
use Rattle.std.specs.Prelude.{slice_get, ◌↔◌}
use Rattle.std.specs.List.{AllByRecursion}
use Rattle.std.proofs.lemmas.Option.{slice_get_past, slice_get_within}
use Rattle.std.proofs.lemmas.List.{length-append}
use Rattle.std.proofs.lemmas.Bool.{cases_eq, cases_lt}
use Rattle.ufs_model.specs.PosixTree.{PosixTree}
use Rattle.ufs_model.specs.History.{tree_after, goes_on, tree_with, entries_of, requests_of, IsReplyTo, IsExcused, IsComplete, IsPosixEntry}
use Rattle.ufs_model.specs.Posix.{posix}
use Rattle.ufs_model.specs.declared.data.Op.{Op}
use Rattle.ufs_model.specs.declared.data.Entry.{Entry}
use Rattle.ufs_model.specs.declared.data.Reply.{Reply}
use Rattle.ufs_model.specs.declared.data.Reply.TheVariants as reply
use Rattle.ufs_model.specs.declared.data.Excuse.TheVariants as excuse
use Rattle.ufs_model.proofs.Facts.Histories.{own-push, others-push, tree_after-push}
use Rattle.ufs_model.proofs.PosixReplyLemmas.{unexcused, stepped_on}
use Rattle.ufs_script.specs.Output.{line_text}
use Rattle.ufs_lines.specs.Trace.{Tells, excuse_told}
use Rattle.ufs_audit.specs.Audit.{Begins, IsNextRequest, IsNextEntry, IsAnswered, IsAllowed, IsWhole, IsWrong, TellsNothing, answer_to, reply_with, entry_of}
use Rattle.ufs_audit.specs.Following.{Follows, Stands, IsStep, IsCount, IsJudged, IsRight, IsFresh, AreFaultsOf, total, with_fault}
use Rattle.ufs_lines.specs.declared.told.Told.{Told}
use Rattle.ufs_lines.specs.declared.told.Why.TheVariants as why
use Rattle.ufs_audit.specs.declared.verdict.Wrong.{Wrong}
use Rattle.ufs_audit.specs.declared.verdict.Wrong.TheVariants as wrong
use Rattle.ufs_audit.proofs.FollowLemmas.{begins_one, not_nil}
use Rattle.ufs_audit.proofs.FaultLemmas.{no_device, none_fresh, none_with, fresh_is_new, new_is_fresh, faults_more}

-- ---- counts

-- a client that isn't there asks for nothing
pub there : (clients : List (List Op)) (client seq : ℕ) (op : Op) → slice_get (requests_of clients client) seq ≡ Some op → client < length clients
there clients client seq op asked = elim (cases_lt client (length clients)) [
  | inl within ↦ within
  | inr past ↦
      let none : slice_get (requests_of clients client) seq ≡ None = ap (λ (l : Option (List Op)). slice_get (unwrap_or l []) seq) (slice_get_past clients client past) in
      let bad : None ≡ Some op = sym none ∙ asked in
      cc
]

-- ---- the beginning

begun_counts : (n client : ℕ) → client < n → slice_get {X = ℕ} (replicate n 0) client ≡ Some 0
begun_counts zero client less = absurd (omega (arith, less))
begun_counts (suc n) zero less = refl
begun_counts (suc n) (suc client) less = begun_counts n client (omega (arith, less))

begun_total : (n : ℕ) → total (replicate n 0) ≡ 0
begun_total zero = refl
begun_total (suc n) = let rest = begun_total n in omega (arith, rest)

begun_small : (n : ℕ) → AllByRecursion (λ k. k ≤ 65536) (replicate n 0)
begun_small zero = tt
begun_small (suc n) = (omega arith, begun_small n)

begun_length : (n : ℕ) → length {A = ℕ} (replicate n 0) ≡ n
begun_length zero = refl
begun_length (suc n) = ap suc (begun_length n)

pub begun : (start : PosixTree) (clients : List (List Op)) (counts faults : List ℕ) → counts ≡ replicate (length clients) 0 → faults ≡ [] → Stands start clients [] start counts faults
begun start clients counts faults is none = subst (λ (f : List ℕ). Stands start clients [] start counts f) (sym none) (subst (λ (l : List ℕ). Stands start clients [] start l []) (sym is) record {
  tree_is = refl;
  many = begun_length (length clients);
  counted = λ client less. begun_counts (length clients) client less;
  within = λ client. omega arith;
  small = begun_small (length clients);
  total_is = begun_total (length clients);
  faults_are = λ fault. ((λ none. tt), (λ all c. no c.0 c.1));
  next = omega arith;
})
  where
    no : (k : ℕ) → k < 0 → ⊥
    no k less = omega (arith, less)

-- ---- a reply that POSIX gives

served_right : (tree new_tree : PosixTree) (faults : List ℕ) (answers : List (List (List ℕ))) (ticket : ℕ) (told : Told) (op : Op) (r : Reply) → told.why ≡ why.Served
    → posix tree told.client op ≡ (new_tree, r) → answer_to answers told.client told.seq ≡ Some (line_text told.client told.seq r)
    → IsRight tree faults answers (entry_of ticket tree told op) new_tree faults
served_right tree new_tree faults answers ticket told op r plain stepped answered =
    let e = entry_of ticket tree told op in
    let given : e.reply ≡ (posix tree told.client op).1 = ap (λ w. reply_with (excuse_told w) (posix tree told.client op).1) plain in
    let reply_is : e.reply ≡ r = given ∙ ap (λ (p : PosixTree × Reply). p.1) stepped in
    let entry : IsPosixEntry ticket tree new_tree e = record { numbered = refl; stepped = stepped ∙ ap (λ (r : Reply). (new_tree, r)) (sym reply_is) } in
    let none = no_device e.reply (unexcused ticket tree new_tree e entry) in
    record {
      answered = answered ∙ ap (λ (r : Reply). Some (line_text told.client told.seq r)) (sym reply_is);
      replied = inl given;
      fresh = none_fresh faults e.reply none;
      tree_is = sym (stepped_on ticket tree new_tree e entry);
      faults_are = sym (none_with faults e.reply none);
    }

pub judged_served : (tree new_tree : PosixTree) (answers : List (List (List ℕ))) (told : Told) (op : Op) (r : Reply) → told.why ≡ why.Served
    → posix tree told.client op ≡ (new_tree, r) → answer_to answers told.client told.seq ≡ Some (line_text told.client told.seq r)
    → (ticket : ℕ) (faults : List ℕ) → IsRight tree faults answers (entry_of ticket tree told op) new_tree faults
judged_served tree new_tree answers told op r plain stepped answered = λ ticket faults. served_right tree new_tree faults answers ticket told op r plain stepped answered

pub judged_unserved : (tree new_tree : PosixTree) (answers : List (List (List ℕ))) (told : Told) (op : Op) (r : Reply) → told.why ≡ why.Served
    → posix tree told.client op ≡ (new_tree, r) → (answer_to answers told.client told.seq ≡ Some (line_text told.client told.seq r) → ⊥)
    → (ticket : ℕ) → IsAnswered answers (entry_of ticket tree told op) → ⊥
judged_unserved tree new_tree answers told op r plain stepped none ticket answered =
    let given : (entry_of ticket tree told op).reply ≡ (posix tree told.client op).1 = ap (λ w. reply_with (excuse_told w) (posix tree told.client op).1) plain in
    let reply_is = given ∙ ap (λ (p : PosixTree × Reply). p.1) stepped in
    none (answered ∙ ap (λ (r : Reply). Some (line_text told.client told.seq r)) reply_is)

-- want of memory excuses any request
pub judged_starved : (tree : PosixTree) (answers : List (List (List ℕ))) (told : Told) → told.why ≡ why.Starved
    → answer_to answers told.client told.seq ≡ Some (line_text told.client told.seq (reply.Excused excuse.Memory))
    → (ticket : ℕ) (faults : List ℕ) (op : Op) → IsRight tree faults answers (entry_of ticket tree told op) tree faults
judged_starved tree answers told starved answered ticket faults op =
    let e = entry_of ticket tree told op in
    let is : e.reply ≡ reply.Excused excuse.Memory = ap (λ w. reply_with (excuse_told w) (posix tree told.client op).1) starved in
    record {
      answered = answered ∙ ap (λ (r : Reply). Some (line_text told.client told.seq r)) (sym is);
      replied = inr (subst (IsExcused tree told.client op) (sym is) record { due = λ bad. cc; told = tt });
      fresh = subst (IsFresh faults) (sym is) tt;
      tree_is = sym (ap (tree_with tree told.client op) is);
      faults_are = sym (ap (with_fault faults) is);
    }

pub judged_unstarved : (tree : PosixTree) (answers : List (List (List ℕ))) (told : Told) → told.why ≡ why.Starved
    → (answer_to answers told.client told.seq ≡ Some (line_text told.client told.seq (reply.Excused excuse.Memory)) → ⊥)
    → (ticket : ℕ) (op : Op) → IsAnswered answers (entry_of ticket tree told op) → ⊥
judged_unstarved tree answers told starved none ticket op answered =
    let is : (entry_of ticket tree told op).reply ≡ reply.Excused excuse.Memory = ap (λ w. reply_with (excuse_told w) (posix tree told.client op).1) starved in
    none (answered ∙ ap (λ (r : Reply). Some (line_text told.client told.seq r)) is)

module _ (start : PosixTree) (clients : List (List Op)) (answers : List (List (List ℕ))) (history : List Entry) (text : List ℕ) (tree : PosixTree) (counts faults : List ℕ)
    (stands : Stands start clients history tree counts faults) where
  pub count_next : (told : Told) (op : Op) → IsCount clients counts told op → IsNextRequest clients history told op
  count_next told op count =
      let within = there clients told.client told.seq op count.asked in
      let is : Some told.seq ≡ Some (length (entries_of told.client history)) = sym count.numbered ∙ stands.counted told.client within in
      record { numbered = cc; asked = count.asked }

  pub next_count : (told : Told) (op : Op) → IsNextRequest clients history told op → IsCount clients counts told op
  next_count told op next =
      let within = there clients told.client told.seq op next.asked in
      record { numbered = stands.counted told.client within ∙ ap (λ (n : ℕ). Some n) (sym next.numbered); asked = next.asked }

  pub none_told : (line more : List ℕ) → Begins text line more → ((told : Told) → Tells (length history) told line → ⊥)
      → IsWrong start clients answers wrong.Text history text
  none_told line more begins none = inl (
    (λ line' more' told begins' tells.
        let cut = begins_one text line' more' line more begins' begins in
        none told (subst (λ (l : List ℕ). Tells (length history) told l) cut.line_is tells)),
    (λ whole. not_nil text line more begins whole.0),
  )

  pub none_asked : (line more : List ℕ) (told : Told) (complete : Bool) → Begins text line more → Tells (length history) told line → ((op : Op) → IsCount clients counts told op → ⊥)
      → (IsTrue complete ↔ IsComplete clients history) → (cause : Wrong) → (complete ≡ true → cause ≡ wrong.Text) → (complete ≡ false → cause ≡ wrong.Order)
      → IsWrong start clients answers cause history text
  none_asked line more told true begins tells none is cause whole part = subst (λ (w : Wrong). IsWrong start clients answers w history text) (sym (whole refl)) (inr (is.0 refl, not_nil text line more begins))
  none_asked line more told false begins tells none is cause whole part = subst (λ (w : Wrong). IsWrong start clients answers w history text) (sym (part refl))
      (told, (line, more, begins, tells), (λ complete. let bad = is.1 complete in cc), (λ op next. none op (next_count told op next)))

  pub served_complete : ((client : ℕ) → client < length clients → slice_get counts client ≡ Some (length (requests_of clients client))) → IsComplete clients history
  served_complete all client = elim (cases_lt client (length clients)) [
    | inl within ↦ let same : Some (length (entries_of client history)) ≡ Some (length (requests_of clients client)) = sym (stands.counted client within) ∙ all client within in cc
    | inr past ↦
        let most = stands.within client in
        let none : length (requests_of clients client) ≡ 0 = ap (λ (l : Option (List Op)). length (unwrap_or l [])) (slice_get_past clients client past) in
        omega (arith, most, none)
  ]

  pub complete_served : IsComplete clients history → (client : ℕ) → client < length clients → slice_get counts client ≡ Some (length (requests_of clients client))
  complete_served complete client within = stands.counted client within ∙ ap (λ (n : ℕ). Some n) (complete client)

  pub complete_told : (told : Bool) → (told ≡ true → (client : ℕ) → client < length clients → slice_get counts client ≡ Some (length (requests_of clients client)))
      → (told ≡ false → ((client : ℕ) → client < length clients → slice_get counts client ≡ Some (length (requests_of clients client))) → ⊥) → IsTrue told ↔ IsComplete clients history
  complete_told true y n = ((λ _. served_complete (y refl)), (λ _. refl))
  complete_told false y n = ((λ bad. cc), (λ complete. absurd (n refl (complete_served complete))))

  -- the entry by the state is that by the history
  entry_is : (ticket : ℕ) (told : Told) (op : Op) → ticket ≡ length history → entry_of ticket tree told op ≡ entry_of (length history) (tree_after start history) told op
  entry_is ticket told op is = (λ i. entry_of (is i) (stands.tree_is i) told op)

  pub judged_wrong : (ticket : ℕ) (line more : List ℕ) (told : Told) (op : Op) (cause : Wrong) (new_tree : PosixTree) (new_faults : List ℕ) → ticket ≡ length history
      → Begins text line more → Tells (length history) told line → IsCount clients counts told op
      → IsJudged tree faults answers (entry_of ticket tree told op) new_tree new_faults (Some cause) → IsWrong start clients answers cause history text
  judged_wrong ticket line more told op wrong.Text new_tree new_faults is begins tells count judged = absurd judged
  judged_wrong ticket line more told op wrong.Order new_tree new_faults is begins tells count judged = absurd judged
  judged_wrong ticket line more told op wrong.Reply new_tree new_faults is begins tells count judged =
      (told, op, (line, more, begins, tells), count_next told op count, subst (λ (e : Entry). IsAnswered answers e → ⊥) (entry_is ticket told op is) judged)
  judged_wrong ticket line more told op wrong.Excuse new_tree new_faults is begins tells count judged = (
    told,
    op,
    (line, more, begins, tells),
    count_next told op count,
    subst (λ (e : Entry). IsAnswered answers e) (entry_is ticket told op is) judged.0,
    (λ allowed.
        let e = entry_of (length history) (tree_after start history) told op in
        let replied : IsReplyTo tree e = subst (λ (t : PosixTree). IsReplyTo t e) (sym stands.tree_is) allowed.0 in
        let fresh : IsFresh faults e.reply = new_is_fresh faults history e.reply stands.faults_are allowed.1 in
        judged.1
        (subst (λ (e : Entry). IsReplyTo tree e) (sym (entry_is ticket told op is)) replied)
        (subst (λ (e : Entry). IsFresh faults e.reply) (sym (entry_is ticket told op is)) fresh)),
  )

  pub right_next : (ticket : ℕ) (line : List ℕ) (told : Told) (op : Op) (new_tree : PosixTree) (new_faults : List ℕ) → ticket ≡ length history
      → Tells (length history) told line → IsCount clients counts told op
      → IsRight tree faults answers (entry_of ticket tree told op) new_tree new_faults → IsNextEntry start clients answers history line told op
  right_next ticket line told op new_tree new_faults is tells count right =
      let same = entry_is ticket told op is in
      let e = entry_of (length history) (tree_after start history) told op in
      record {
        tells = tells;
        next = count_next told op count;
        answered = subst (λ (e : Entry). IsAnswered answers e) same right.answered;
        allowed = (
          subst (λ (t : PosixTree). IsReplyTo t e) stands.tree_is (subst (λ (e : Entry). IsReplyTo tree e) same right.replied),
          fresh_is_new faults history e.reply stands.faults_are (subst (λ (e : Entry). IsFresh faults e.reply) same right.fresh),
        );
      }

  -- ---- one entry more

  pub stands_more : (ticket : ℕ) (told : Told) (op : Op) (new_tree : PosixTree) (new_faults : List ℕ) → ticket ≡ length history → told.seq < 65536
      → IsCount clients counts told op → IsRight tree faults answers (entry_of ticket tree told op) new_tree new_faults → new_tree.next ≤ tree.next + 1
      → Stands start clients (history ++ entry_of (length history) (tree_after start history) told op ∷ []) new_tree (slice_set counts told.client (told.seq + 1)) new_faults
  stands_more ticket told op new_tree new_faults is few count right rises =
      let same = entry_is ticket told op is in
      let e = entry_of (length history) (tree_after start history) told op in
      let next = count_next told op count in
      let numbered = next.numbered in
      let within = slice_get_within (requests_of clients told.client) told.seq op next.asked in
      let longer = length-append history (e ∷ []) in
      let own : length (entries_of told.client (history ++ e ∷ [])) ≡ told.seq + 1 = (let l = length-append (entries_of told.client history) (e ∷ []) in let o = ap length (own-push history e) in omega (arith, l, o, numbered)) in
      let sum = set_total counts told.client told.seq (told.seq + 1) count.numbered in
      let before = stands.total_is in
      let most = stands.next in
      record {
        tree_is = right.tree_is ∙ (λ i. goes_on (stands.tree_is i) (same i)) ∙ sym (tree_after-push start history e);
        many = length-slice_set counts told.client (told.seq + 1) ∙ stands.many;
        counted = λ client there. elim (cases_eq told.client client) [
          | inl here ↦ subst (λ (c : ℕ). slice_get (slice_set counts told.client (told.seq + 1)) c ≡ Some (length (entries_of c (history ++ e ∷ [])))) here
              (set_here counts told.client told.seq (told.seq + 1) count.numbered ∙ ap (λ (n : ℕ). Some n) (sym own))
          | inr apart ↦ set_there counts told.client client (told.seq + 1) apart ∙ stands.counted client there ∙ ap (λ (l : List Entry). Some (length l)) (sym (others-push client history e apart))
        ];
        within = λ client. elim (cases_eq told.client client) [
          | inl here ↦ subst (λ (c : ℕ). length (entries_of c (history ++ e ∷ [])) ≤ length (requests_of clients c)) here (omega (arith, own, within))
          | inr apart ↦ subst (λ (l : List Entry). length l ≤ length (requests_of clients client)) (sym (others-push client history e apart)) (stands.within client)
        ];
        small = set_all counts told.client (told.seq + 1) (omega (arith, few)) stands.small;
        total_is = omega (arith, sum, before, longer);
        faults_are = subst (λ (l : List ℕ). AreFaultsOf l (history ++ e ∷ [])) (ap (λ (e : Entry). with_fault faults e.reply) (sym same) ∙ sym right.faults_are) (faults_more faults history e stands.faults_are);
        next = omega (arith, rises, most, longer);
      }
    where
      set_total : (counts : List ℕ) (i n m : ℕ) → slice_get counts i ≡ Some n → total (slice_set counts i m) + n ≡ total counts + m
      set_total [] i n m e = cc
      set_total (x ∷ xs) zero n m e = let same : x ≡ n = cc in omega (arith, same)
      set_total (x ∷ xs) (suc i) n m e = let rest = set_total xs i n m e in omega (arith, rest)

      set_here : (counts : List ℕ) (i n m : ℕ) → slice_get counts i ≡ Some n → slice_get (slice_set counts i m) i ≡ Some m
      set_here [] i n m e = cc
      set_here (x ∷ xs) zero n m e = refl
      set_here (x ∷ xs) (suc i) n m e = set_here xs i n m e

      set_there : (counts : List ℕ) (i j m : ℕ) → (i ≡ j → ⊥) → slice_get (slice_set counts i m) j ≡ slice_get counts j
      set_there [] i j m apart = refl
      set_there (x ∷ xs) zero zero m apart = absurd (apart refl)
      set_there (x ∷ xs) zero (suc j) m apart = refl
      set_there (x ∷ xs) (suc i) zero m apart = refl
      set_there (x ∷ xs) (suc i) (suc j) m apart = set_there xs i j m (λ same. apart (ap suc same))

      set_all : (counts : List ℕ) (i m : ℕ) → m ≤ 65536 → AllByRecursion (λ n. n ≤ 65536) counts → AllByRecursion (λ n. n ≤ 65536) (slice_set counts i m)
      set_all [] i m few all = tt
      set_all (x ∷ xs) zero m few all = (few, all.1)
      set_all (x ∷ xs) (suc i) m few all = (all.0, set_all xs i m few all.1)

      length-slice_set : (counts : List ℕ) (i m : ℕ) → length (slice_set counts i m) ≡ length counts
      length-slice_set [] i m = refl
      length-slice_set (x ∷ xs) zero m = refl
      length-slice_set (x ∷ xs) (suc i) m = ap suc (length-slice_set xs i m)
