-- The lines of replies, one by one and client by client.
use Rattle.std.proofs.Common.{◌≡◌, ℕ, ◌+◌, ◌<◌, ◌≤◌, List, [], ◌∷◌, ◌++◌, Some, None, ap, sym, refl, subst, ◌∙◌, length, arith, ◌⊎◌, inl, inr, zero, suc, drop, slice_index_or, Option}
use Rattle.std.specs.Prelude.{slice_get}
use Rattle.std.proofs.Math.Seq.{drop-cons}
use Rattle.std.specs.List.{AllByRecursion, flat_map}
use Rattle.std.proofs.lemmas.List.{length-append, append_assoc, append-nil, drop_all}
use Rattle.ufs_model.specs.declared.data.Op.{Op}
use Rattle.ufs_model.proofs.Facts.Histories.{all-push}
use Rattle.ufs_lines.specs.Trace.{IsFree}
use Rattle.ufs_lines.specs.Replies.{IsReplyLine}
use Rattle.ufs_audit.specs.Audit.{IsLine, IsEnded, AreAnswersOf, AreAnswersFrom, AreAnswers, HasAnswers, LacksAnswers, text_of}
use Rattle.ufs_audit.specs.Ends.{IsLast, Reads, TextLine, Settles, LacksOwn, OwnAnswers, AllAnswers}
use Rattle.ufs_lines.proofs.CutLemmas.{IsSameCut, one_cut}
use Rattle.ufs_audit.proofs.ReadLemmas.{reads_on, reads_as}

pub text_of-push : (lines : List (List ℕ)) (line : List ℕ) → text_of (lines ++ line ∷ []) ≡ text_of lines ++ line
text_of-push [] line = append-nil line
text_of-push (l ∷ lines) line = ap (λ t. l ++ t) (text_of-push lines line) ∙ sym (append_assoc l (text_of lines) line)

pub flat-push : (lists : List (List (List ℕ))) (lines : List (List ℕ)) → flat_map text_of (lists ++ lines ∷ []) ≡ flat_map text_of lists ++ text_of lines
flat-push [] lines = append-nil (text_of lines)
flat-push (l ∷ lists) lines = ap (λ (t : List ℕ). text_of l ++ t) (flat-push lists lines) ∙ sym (append_assoc (text_of l) (flat_map text_of lists) (text_of lines))

pub one_ended : (line line' more more' : List ℕ) → IsEnded line → IsEnded line' → line ++ more ≡ line' ++ more' → IsSameCut line more line' more'
one_ended line line' more more' a b e =
    let cut = one_cut 10 a.0 b.0 more more' a.1 b.1
    (sym (append_assoc a.0 (10 ∷ []) more) ∙ ap (λ (l : List ℕ). l ++ more) (sym a.2) ∙ e ∙ ap (λ (l : List ℕ). l ++ more') b.2 ∙ append_assoc b.0 (10 ∷ []) more') in
    record { line_is = a.2 ∙ ap (λ (l : List ℕ). l ++ 10 ∷ []) cut.line_is ∙ sym b.2; more_is = cut.more_is }

-- a line without its end begins with none that has one
pub no_ended : (line line' more : List ℕ) → IsLine line → IsEnded line' → line ≡ line' ++ more → ⊥
no_ended line line' more free ended is = no line ended.0 more free (is ∙ ap (λ (l : List ℕ). l ++ more) ended.2 ∙ append_assoc ended.0 (10 ∷ []) more)
  where
    no : (line front more : List ℕ) → IsFree 10 line → line ≡ front ++ 10 ∷ more → ⊥
    no [] [] more free is = cc
    no [] (b ∷ front) more free is = cc
    no (c ∷ line) [] more free is = let same : c ≡ 10 = cc in free.0 same
    no (c ∷ line) (b ∷ front) more free is = let rest : line ≡ front ++ 10 ∷ more = cc in no line front more free.1 rest

-- lines with their ends that stand at the front of a text are the front of any longer ones
pub front_lines : (lines others : List (List ℕ)) (rest more : List ℕ) → AllByRecursion IsEnded lines → AllByRecursion IsEnded others → length lines ≤ length others
    → text_of lines ++ rest ≡ text_of others ++ more → (others' : List (List ℕ)) × AllByRecursion IsEnded others' × (others ≡ lines ++ others') × (rest ≡ text_of others' ++ more)
front_lines [] others rest more a b few is = (others, b, refl, is)
front_lines (l ∷ lines) [] rest more a b few is = absurd (omega (arith, few))
front_lines (l ∷ lines) (k ∷ others) rest more a b few is =
    let cut = one_ended l k (text_of lines ++ rest) (text_of others ++ more) a.0 b.0 (sym (append_assoc l (text_of lines) rest) ∙ is ∙ append_assoc k (text_of others) more) in
    let next = front_lines lines others rest more a.1 b.1 (omega (arith, few)) cut.more_is in
    let first = sym cut.line_is in
    let tail = next.2 in
    (next.0, next.1, (λ i. first i ∷ tail i), next.3)

-- ---- of one client

-- the lines of a client's first replies
pub record AreOwn (client done : ℕ) (lines : List (List ℕ)) : Type 0 where
  pub ended : AllByRecursion IsEnded lines
  pub each : length lines ≡ done
  pub told : (seq : ℕ) (line : List ℕ) → slice_get lines seq ≡ Some line → IsReplyLine client seq line

pub own_begins : (client : ℕ) → AreOwn client 0 []
own_begins client = record { ended = tt; each = refl; told = λ seq line is. cc }

pub own_more : (client done : ℕ) (lines : List (List ℕ)) (line : List ℕ) → AreOwn client done lines → IsEnded line → IsReplyLine client done line → AreOwn client (done + 1) (lines ++ line ∷ [])
own_more client done lines line own ended is =
    let longer = length-append lines (line ∷ []) in
    let each = own.each in
    record {
      ended = all-push IsEnded lines line own.ended ended;
      each = omega (arith, longer, each);
      told = λ seq l there. told lines seq l done each is own.told there;
    }
  where
    told : (lines : List (List ℕ)) (seq : ℕ) (l : List ℕ) (n : ℕ) → length lines ≡ n → IsReplyLine client n line
        → ((seq : ℕ) (line : List ℕ) → slice_get lines seq ≡ Some line → IsReplyLine client seq line) → slice_get (lines ++ line ∷ []) seq ≡ Some l → IsReplyLine client seq l
    told lines seq l n each is all there = go lines seq n each is there (λ k h. all k l h)
      where
        -- by how many lines stand before
        at : (base : ℕ) (lines : List (List ℕ)) (seq : ℕ) → IsReplyLine client (base + length lines) line → slice_get (lines ++ line ∷ []) seq ≡ Some l
            → (slice_get lines seq ≡ Some l → IsReplyLine client (base + seq) l) → IsReplyLine client (base + seq) l
        at base [] zero is there all = let same : line ≡ l = cc in subst (λ (x : List ℕ). IsReplyLine client (base + 0) x) same is
        at base [] (suc seq) is there all = cc
        at base (k ∷ lines) zero is there all = all there
        at base (k ∷ lines) (suc seq) is there all =
            let e : suc base + seq ≡ base + suc seq = omega arith in
            let f : base + length (k ∷ lines) ≡ suc base + length lines = omega arith in
            subst (λ (n : ℕ). IsReplyLine client n l) e
            (at (suc base) lines seq (subst (λ (n : ℕ). IsReplyLine client n line) f is) there (λ h. subst (λ (n : ℕ). IsReplyLine client n l) (sym e) (all h)))

        go : (lines : List (List ℕ)) (seq n : ℕ) → length lines ≡ n → IsReplyLine client n line → slice_get (lines ++ line ∷ []) seq ≡ Some l
            → ((k : ℕ) → slice_get lines k ≡ Some l → IsReplyLine client k l) → IsReplyLine client seq l
        go lines seq n each is there all =
            let e : n ≡ 0 + length lines = omega (arith, each) in
            let f : 0 + seq ≡ seq = omega arith in
            subst (λ (m : ℕ). IsReplyLine client m l) f
            (at 0 lines seq (subst (λ (m : ℕ). IsReplyLine client m line) e is) there (λ h. subst (λ (m : ℕ). IsReplyLine client m l) (sym f) (all seq h)))

pub own_whole : (client done : ℕ) (requests : List Op) (lines : List (List ℕ)) → AreOwn client done lines → done ≡ length requests → AreAnswersOf client requests lines
own_whole client done requests lines own all = record { ended = own.ended; each = own.each ∙ all; told = own.told }

there_at : (lines : List (List ℕ)) (k : List ℕ) (others : List (List ℕ)) → slice_get (lines ++ k ∷ others) (length lines) ≡ Some k
there_at [] k others = refl
there_at (l ∷ lines) k others = there_at lines k others

-- a line that isn't a reply's, or has no end, and is read where one is due
pub own_lacks : (client done : ℕ) (requests : List Op) (lines : List (List ℕ)) (line : List ℕ) (new : Option (List ℕ)) (ahead : List ℕ) → AreOwn client done lines → done < length requests
    → (IsEnded line ⊎ (IsLine line × IsLast new ahead)) → ((IsEnded line × IsReplyLine client done line) → ⊥) → Settles new ahead (LacksOwn client requests) (text_of lines ++ line)
own_lacks client done requests lines line new ahead own few (inl ended) none = inl (λ future others more are is.
    let each = are.each in
    let count = own.each in
    let found = front_lines lines others (line ++ future) more own.ended are.ended (omega (arith, each, count, few)) (sym (append_assoc (text_of lines) line future) ∙ is) in
    at others future more are found.0 found.1 found.2 found.3)
  where
    at : (others : List (List ℕ)) (future more : List ℕ) → AreAnswersOf client requests others → (others' : List (List ℕ)) → AllByRecursion IsEnded others' → others ≡ lines ++ others' → line ++ future ≡ text_of others' ++ more → ⊥
    at others future more are [] all same is =
        let each = are.each in
        let count = own.each in
        let l = ap length (same ∙ append-nil lines) in
        omega (arith, each, count, few, l)
    at others future more are (k ∷ others') all same is =
        let cut = one_ended line k future (text_of others' ++ more) ended all.0 (is ∙ append_assoc k (text_of others') more) in
        let told = are.told (length lines) k (ap (λ (l : List (List ℕ)). slice_get l (length lines)) same ∙ there_at lines k others') in
        none (ended, subst (λ (l : List ℕ). IsReplyLine client done l) (sym cut.line_is) (subst (λ (n : ℕ). IsReplyLine client n k) own.each told))
own_lacks client done requests lines line new ahead own few (inr last) none = inr (
  last.1,
  (λ others more are is.
      let each = are.each in
      let count = own.each in
      let found = front_lines lines others line more own.ended are.ended (omega (arith, each, count, few)) is in
      at others more are found.0 found.1 found.2 found.3),
)
  where
    at : (others : List (List ℕ)) (more : List ℕ) → AreAnswersOf client requests others → (others' : List (List ℕ)) → AllByRecursion IsEnded others' → others ≡ lines ++ others' → line ≡ text_of others' ++ more → ⊥
    at others more are [] all same is =
        let each = are.each in
        let count = own.each in
        let l = ap length (same ∙ append-nil lines) in
        omega (arith, each, count, few, l)
    at others more are (k ∷ others') all same is = no_ended line k (text_of others' ++ more) last.0 all.0 (is ∙ append_assoc k (text_of others') more)

-- ---- client by client

-- what is read of the clients so far
pub record AreSoFar (clients : List (List Op)) (done : ℕ) (lists : List (List (List ℕ))) : Type 0 where
  pub on : (others : List (List (List ℕ))) → AreAnswersFrom done (drop done clients) others → AreAnswers clients (lists ++ others)
  pub back : (others : List (List (List ℕ))) (more more' : List ℕ) → AreAnswers clients others → flat_map text_of lists ++ more ≡ flat_map text_of others ++ more'
      → (others' : List (List (List ℕ))) × AreAnswersFrom done (drop done clients) others' × (more ≡ flat_map text_of others' ++ more')

pub so_far_begins : (clients : List (List Op)) → AreSoFar clients 0 []
so_far_begins clients = record { on = λ others are. are; back = λ others more more' are is. (others, are, is) }

pub so_far_more : (clients : List (List Op)) (done : ℕ) (lists : List (List (List ℕ))) (requests : List Op) (lines : List (List ℕ)) → AreSoFar clients done lists
    → drop done clients ≡ requests ∷ drop (done + 1) clients → AreAnswersOf done requests lines → AreSoFar clients (done + 1) (lists ++ lines ∷ [])
so_far_more clients done lists requests lines so next are = record {
  on = λ others all. subst (λ (l : List (List (List ℕ))). AreAnswers clients l) (sym (append_assoc lists (lines ∷ []) others))
      (so.on (lines ∷ others) (subst (λ (c : List (List Op)). AreAnswersFrom done c (lines ∷ others)) (sym next) (are, all)));
  back = λ others more more' all is.
      let before = so.back others (text_of lines ++ more) more' all (sym (ap (λ (l : List ℕ). l ++ more) (flat-push lists lines) ∙ append_assoc (flat_map text_of lists) (text_of lines) more) ∙ is) in
      first before.0 more more' (subst (λ (c : List (List Op)). AreAnswersFrom done c before.0) next before.1) before.2;
}
  where
    first : (others : List (List (List ℕ))) (more more' : List ℕ) → AreAnswersFrom done (requests ∷ drop (done + 1) clients) others → text_of lines ++ more ≡ flat_map text_of others ++ more'
        → (others' : List (List (List ℕ))) × AreAnswersFrom (done + 1) (drop (done + 1) clients) others' × (more ≡ flat_map text_of others' ++ more')
    first [] more more' all is = absurd all
    first (l ∷ others) more more' all is =
        let own = all.0 in
        let each = own.each in
        let mine = are.each in
        let found = front_lines lines l more (flat_map text_of others ++ more') are.ended own.ended (omega (arith, each, mine)) (is ∙ append_assoc (text_of l) (flat_map text_of others) more') in
        at others more more' all.1 l own.each found.0 found.2 found.3
      where
        at : (others : List (List (List ℕ))) (more more' : List ℕ) → AreAnswersFrom (done + 1) (drop (done + 1) clients) others → (l : List (List ℕ)) → length l ≡ length requests → (rest : List (List ℕ)) → l ≡ lines ++ rest
            → more ≡ text_of rest ++ (flat_map text_of others ++ more') → (others' : List (List (List ℕ))) × AreAnswersFrom (done + 1) (drop (done + 1) clients) others' × (more ≡ flat_map text_of others' ++ more')
        at others more more' all l each [] same is = (others, all, is)
        at others more more' all l each (k ∷ rest) same is =
            let longer = length-append lines (k ∷ rest) in
            let count = ap length same in
            let mine = are.each in
            absurd (omega (arith, longer, count, mine, each))

pub so_far_whole : (clients : List (List Op)) (done : ℕ) (lists : List (List (List ℕ))) → AreSoFar clients done lists → length clients ≤ done → AreAnswers clients lists
so_far_whole clients done lists so all =
    subst (λ (l : List (List (List ℕ))). AreAnswers clients l) (append-nil lists)
    (so.on [] (subst (λ (c : List (List Op)). AreAnswersFrom done c []) (sym (drop_all done clients all)) tt))

-- a text behind the clients so far that lacks those of the next one
lacks_behind : (clients : List (List Op)) (done : ℕ) (lists : List (List (List ℕ))) (requests : List Op) → AreSoFar clients done lists → drop done clients ≡ requests ∷ drop (done + 1) clients
    → (text : List ℕ) → LacksOwn done requests text → LacksAnswers clients (flat_map text_of lists ++ text)
lacks_behind clients done lists requests so next text lacks answers trace has =
    let before = so.back answers text trace has.0 has.1 in
    first before.0 (subst (λ (c : List (List Op)). AreAnswersFrom done c before.0) next before.1) before.2
  where
    first : (others : List (List (List ℕ))) → AreAnswersFrom done (requests ∷ drop (done + 1) clients) others → text ≡ flat_map text_of others ++ trace → ⊥
    first [] all is = all
    first (l ∷ others) all is = lacks l (flat_map text_of others ++ trace) all.0 (is ∙ append_assoc (text_of l) (flat_map text_of others) trace)

pub so_far_lacks : (clients : List (List Op)) (done : ℕ) (lists : List (List (List ℕ))) (requests : List Op) (new : Option (List ℕ)) (ahead text : List ℕ) → AreSoFar clients done lists
    → drop done clients ≡ requests ∷ drop (done + 1) clients → Settles new ahead (LacksOwn done requests) text → Settles new ahead (LacksAnswers clients) (flat_map text_of lists ++ text)
so_far_lacks clients done lists requests new ahead text so next (inl any) = inl (λ future.
    subst (LacksAnswers clients) (sym (append_assoc (flat_map text_of lists) text future)) (lacks_behind clients done lists requests so next (text ++ future) (any future)))
so_far_lacks clients done lists requests new ahead text so next (inr last) = inr (last.0, lacks_behind clients done lists requests so next text last.1)

pub next_client : (clients : List (List Op)) (i : ℕ) (requests : List Op) → i < length clients → requests ≡ slice_index_or clients i requests → drop i clients ≡ requests ∷ drop (i + 1) clients
next_client clients i requests less is =
    let e : suc i ≡ i + 1 = omega arith in
    drop-cons clients i requests less ∙ (λ j. sym is j ∷ drop (e j) clients)
