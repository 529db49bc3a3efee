-- How the words of a trace's line stand apart.
use Rattle.std.proofs.Common.{◌≡◌, ◌≢◌, ℕ, ◌+◌, ◌-◌, ◌<◌, ◌≤◌, ◌^◌, List, [], ◌∷◌, ◌++◌, Option, Some, None, ap, sym, refl, subst, ◌∙◌, length, arith, ◌⊎◌, inl, inr, zero, suc, true, false}
use Rattle.std.specs.Prelude.{codes, ◌↔◌}
use Rattle.std.specs.List.{AllByRecursion}
use Rattle.std.specs.Fmt.{decimal}
use Rattle.std.proofs.lemmas.Fmt.{decimal_injective}
use Rattle.std.proofs.lemmas.List.{append_cancel_left, append_assoc, append-nil}
use Rattle.ufs_model.specs.Excuses.{is_memory}
use Rattle.ufs_model.specs.declared.data.Actor.{Actor}
use Rattle.ufs_model.specs.declared.data.Actor.TheVariants as actor
use Rattle.ufs_model.specs.declared.data.Excuse.{Excuse}
use Rattle.ufs_model.specs.declared.data.Excuse.TheVariants as excuse
use Rattle.ufs_script.specs.Output.{actor_text, more_actors, via_text, excuse_words}
use Rattle.ufs_lines.specs.Trace.{IsActor, IsExcuse, IsWhy, IsTold, IsFree, IsCut, IsTail, IsFirstWord, AreActors, Tells, told_text, end_text, excuse_told}
use Rattle.ufs_lines.specs.Trace.{TellsServer}
use Rattle.ufs_lines.specs.declared.told.Told.{Told}
use Rattle.ufs_lines.specs.declared.told.Why.{Why}
use Rattle.ufs_lines.specs.declared.told.Why.TheVariants as why
use Rattle.ufs_lines.specs.declared.trace.Server.{Server}
use Rattle.ufs_lines.proofs.CutLemmas.{IsSameCut, one_cut, one_word, free_append}
use Rattle.ufs_lines.proofs.TellLemmas.{IsDigit, are_digits, told_flat}

-- ---- free of a byte

digits_free : (t : ℕ) (ds : List ℕ) → t < 48 → AllByRecursion IsDigit ds → IsFree t ds
digits_free t [] low all = tt
digits_free t (d ∷ ds) low all = (let h = all.0.0 in (λ same. omega (arith, same, low, h)), digits_free t ds low all.1)

pub decimal_free : (t n : ℕ) → t < 48 → n < 2 ^ 64 → IsFree t (decimal n)
decimal_free t n low few = digits_free t (decimal n) low (are_digits n few)

pub actor_free : (t : ℕ) (a : Actor) → t < 48 → IsActor a → IsFree t (actor_text a)
actor_free t (actor.Client k) low few = ((λ same. omega (arith, same, low)), decimal_free t k low (omega (arith, few)))
actor_free t (actor.Worker k) low few = ((λ same. omega (arith, same, low)), decimal_free t k low (omega (arith, few)))
actor_free t actor.Primary low few = ((λ same. omega (arith, same, low)), tt)

more_free : (actors : List Actor) → AllByRecursion IsActor actors → IsFree 32 (more_actors actors)
more_free [] all = tt
more_free (a ∷ actors) all = ((λ same. omega (arith, same)), free_append 32 (actor_text a) (more_actors actors) (actor_free 32 a (omega arith) all.0) (more_free actors all.1))

pub end_tail : (x : Option Excuse) → IsTail (end_text x)
end_tail None = tt
end_tail (Some x) = refl

pub via_tail : (via : List Actor) (x : Option Excuse) → IsTail (via_text via ++ end_text x)
via_tail [] x = end_tail x
via_tail (a ∷ via) x = refl

-- ---- numbers behind a word

pub numbered_bound : (text word digits : List ℕ) (n m most : ℕ) → text ≡ word ++ digits → digits ≡ decimal n → n < 2 ^ 64 → most < n → m ≤ most → text ≡ word ++ decimal m → ⊥
numbered_bound text word digits n m most is printed few more within other =
    let same = decimal_injective n m few (omega (arith, few, more, within)) (sym printed ∙ append_cancel_left word digits (decimal m) (sym is ∙ other)) in
    omega (arith, same, more, within)

pub numbered_none : (text word digits : List ℕ) (m : ℕ) → text ≡ word ++ digits → (digits ≡ decimal m → ⊥) → text ≡ word ++ decimal m → ⊥
numbered_none text word digits m is none other = none (append_cancel_left word digits (decimal m) (sym is ∙ other))

-- ---- actors

pub no_actor : (word : List ℕ)
    → ((n : ℕ) → n ≤ 255 → word ≡ codes "c" ++ decimal n → ⊥) → ((n : ℕ) → n ≤ 255 → word ≡ codes "w" ++ decimal n → ⊥) → (word ≡ codes "p" → ⊥)
    → (a : Actor) → IsActor a → word ≡ actor_text a → ⊥
no_actor word c w p (actor.Client k) few is = c k (omega (arith, few)) is
no_actor word c w p (actor.Worker k) few is = w k (omega (arith, few)) is
no_actor word c w p actor.Primary few is = p is

abbrev pub IsActorText : List ℕ → Type 0
IsActorText word = (a : Actor) × IsActor a × (word ≡ actor_text a)

-- the first of several
pub more_are : (front rest : List ℕ) → IsActorText front → AreActors rest → AreActors (front ++ 44 ∷ rest)
more_are front rest one are = (
  one.0,
  are.0 ∷ are.1,
  one.1,
  (are.2, are.3),
  (λ i. one.2 i ++ 44 ∷ are.4 i) ∙ refl,
)

pub one_is : (rest : List ℕ) → IsActorText rest → AreActors rest
one_is rest one = (one.0, [], one.1, tt, one.2 ∙ sym (append-nil (actor_text one.0)))

-- where a comma stands, the first is what stands before it
pub first_of : (text front rest : List ℕ) → IsCut 44 text front rest → AreActors text → IsActorText front × AreActors rest
first_of text front rest cut are = at are.1 are.3 are.4
  where
    at : (more : List Actor) → AllByRecursion IsActor more → text ≡ actor_text are.0 ++ more_actors more → IsActorText front × AreActors rest
    at [] all is = absurd (no text front rest (subst (IsFree 44) (sym (is ∙ append-nil (actor_text are.0))) (actor_free 44 are.0 (omega arith) are.2)) cut.1)
      where
        no : (text front rest : List ℕ) → IsFree 44 text → text ≡ front ++ 44 ∷ rest → ⊥
        no [] [] rest free e = cc
        no [] (b ∷ front) rest free e = cc
        no (c ∷ text) [] rest free e = let same : c ≡ 44 = cc in free.0 same
        no (c ∷ text) (b ∷ front) rest free e = let more : text ≡ front ++ 44 ∷ rest = cc in no text front rest free.1 more
    at (a ∷ more) all is =
        let same = one_cut 44 front (actor_text are.0) rest (actor_text a ++ more_actors more) cut.0 (actor_free 44 are.0 (omega arith) are.2) (sym cut.1 ∙ is) in
        ((are.0, are.2, same.line_is), (a, more, all.0, all.1, same.more_is))

-- without a comma there is one
pub only_of : (text : List ℕ) → ((front rest : List ℕ) → IsCut 44 text front rest → ⊥) → AreActors text → IsActorText text
only_of text none are = at are.1 are.4
  where
    at : (more : List Actor) → text ≡ actor_text are.0 ++ more_actors more → IsActorText text
    at [] is = (are.0, are.2, is ∙ append-nil (actor_text are.0))
    at (a ∷ more) is = absurd (none (actor_text are.0) (actor_text a ++ more_actors more) (actor_free 44 are.0 (omega arith) are.2, is))

-- ---- those that sent it on

pub no_via : (tail : List ℕ) → ((rest : List ℕ) → tail ≡ codes " via " ++ rest → ⊥) → (via : List Actor) (x : Option Excuse) → tail ≡ via_text via ++ end_text x → tail ≡ end_text x
no_via tail none [] x is = is
no_via tail none (a ∷ via) x is = absurd (none (actor_text a ++ more_actors via ++ end_text x)
    (is ∙ append_assoc (codes " via " ++ actor_text a) (more_actors via) (end_text x) ∙ append_assoc (codes " via ") (actor_text a) (more_actors via ++ end_text x) ∙ sym (ap (λ (l : List ℕ). codes " via " ++ l) (append_assoc (actor_text a) (more_actors via) (end_text x)))))

pub via_found : (tail list front rest : List ℕ) → tail ≡ codes " via " ++ list → IsFirstWord list front rest → AreActors front → (via : List Actor) × AllByRecursion IsActor via × (tail ≡ via_text via ++ rest)
via_found tail list front rest is word are = (
  are.0 ∷ are.1,
  (are.2, are.3),
  is ∙ ap (λ (l : List ℕ). codes " via " ++ l) (word.is ∙ ap (λ (l : List ℕ). l ++ rest) are.4) ∙ sym (append_assoc (codes " via ") (actor_text are.0 ++ more_actors are.1) rest)
      ∙ ap (λ (l : List ℕ). l ++ rest) (sym (append_assoc (codes " via ") (actor_text are.0) (more_actors are.1))),
)

pub record IsVia (front rest : List ℕ) (x : Option Excuse) : Type 0 where
  pub are : AreActors front
  pub rest_is : rest ≡ end_text x

pub via_only : (tail list front rest : List ℕ) → tail ≡ codes " via " ++ list → IsFirstWord list front rest → (via : List Actor) (x : Option Excuse) → AllByRecursion IsActor via
    → tail ≡ via_text via ++ end_text x → IsVia front rest x
via_only tail list front rest is word [] x all other = absurd (no x (sym is ∙ other))
  where
    no : (x : Option Excuse) → codes " via " ++ list ≡ end_text x → ⊥
    no None e = cc
    no (Some x) e = let h = ap second e in omega (arith, h)
      where
        second : List ℕ → ℕ
        second [] = 0
        second (a ∷ []) = 0
        second (a ∷ b ∷ more) = b
via_only tail list front rest is word (a ∷ via) x all other =
    let list_is : list ≡ (actor_text a ++ more_actors via) ++ end_text x =
    append_cancel_left (codes " via ") list ((actor_text a ++ more_actors via) ++ end_text x)
    (sym is ∙ other ∙ ap (λ (l : List ℕ). l ++ end_text x) (append_assoc (codes " via ") (actor_text a) (more_actors via)) ∙ append_assoc (codes " via ") (actor_text a ++ more_actors via) (end_text x)) in
    let same = one_word front (actor_text a ++ more_actors via) rest (end_text x) word.free (free_append 32 (actor_text a) (more_actors via) (actor_free 32 a (omega arith) all.0) (more_free via all.1))
    word.follows (end_tail x) (sym word.is ∙ list_is) in
    record { are = (a, via, all.0, all.1, same.line_is); rest_is = same.more_is }

-- ---- excuses

pub no_other : (words : List ℕ)
    → ((n : ℕ) → n ≤ 18446744073709551615 → words ≡ codes "device " ++ decimal n → ⊥) → ((n : ℕ) → n ≤ 18446744073709551615 → words ≡ codes "stopped " ++ decimal n → ⊥)
    → (words ≡ codes "inodes 1 0" → ⊥)
    → ((need had : ℕ) → need < 2 ^ 32 → had < 2 ^ 32 → words ≡ excuse_words (excuse.Blocks need had) → ⊥)
    → ((need : ℕ) → need < 2 ^ 32 → words ≡ excuse_words (excuse.Extents need) → ⊥)
    → (x : Excuse) → IsExcuse x → is_memory x ≡ false → words ≡ excuse_words x → ⊥
no_other words d s i b e excuse.Memory fits other is = cc
no_other words d s i b e (excuse.Device f) fits other is = d f (omega (arith, fits)) is
no_other words d s i b e (excuse.Stopped f) fits other is = s f (omega (arith, fits)) is
no_other words d s i b e (excuse.Blocks need had) fits other is = b need had fits.0 fits.1 is
no_other words d s i b e excuse.Inodes fits other is = i is
no_other words d s i b e (excuse.Extents need) fits other is = e need fits is

pub blocks_cut : (words numbers : List ℕ) (need had : ℕ) → words ≡ codes "blocks " ++ numbers → words ≡ excuse_words (excuse.Blocks need had) → numbers ≡ decimal need ++ 32 ∷ decimal had
blocks_cut words numbers need had is other = append_cancel_left (codes "blocks ") numbers (decimal need ++ 32 ∷ decimal had)
    (sym is ∙ other ∙ append_assoc (codes "blocks " ++ decimal need) (codes " ") (decimal had) ∙ append_assoc (codes "blocks ") (decimal need) (32 ∷ decimal had))

pub blocks_join : (words numbers front rest : List ℕ) (need had : ℕ) → words ≡ codes "blocks " ++ numbers → numbers ≡ front ++ 32 ∷ rest → front ≡ decimal need → rest ≡ decimal had → words ≡ excuse_words (excuse.Blocks need had)
blocks_join words numbers front rest need had is cut a b =
    is ∙ ap (λ (l : List ℕ). codes "blocks " ++ l) (cut ∙ (λ i. a i ++ 32 ∷ b i)) ∙ sym (append_assoc (codes "blocks ") (decimal need) (32 ∷ decimal had)) ∙ sym (append_assoc (codes "blocks " ++ decimal need) (codes " ") (decimal had))

pub extents_cut : (words numbers : List ℕ) (need : ℕ) → words ≡ codes "extents " ++ numbers → words ≡ excuse_words (excuse.Extents need) → numbers ≡ decimal need ++ 32 ∷ codes "56"
extents_cut words numbers need is other = append_cancel_left (codes "extents ") numbers (decimal need ++ codes " 56")
    (sym is ∙ other ∙ append_assoc (codes "extents ") (decimal need) (codes " 56"))

pub extents_join : (words numbers front rest : List ℕ) (need : ℕ) → words ≡ codes "extents " ++ numbers → numbers ≡ front ++ 32 ∷ rest → front ≡ decimal need → rest ≡ codes "56" → words ≡ excuse_words (excuse.Extents need)
extents_join words numbers front rest need is cut a b =
    is ∙ ap (λ (l : List ℕ). codes "extents " ++ l) (cut ∙ (λ i. a i ++ 32 ∷ b i)) ∙ sym (append_assoc (codes "extents ") (decimal need) (codes " 56"))

-- a number, a space and more is cut there
pub number_cut : (text front rest more : List ℕ) (n : ℕ) → IsCut 32 text front rest → n < 2 ^ 64 → text ≡ decimal n ++ 32 ∷ more → IsSameCut front rest (decimal n) more
number_cut text front rest more n cut few is = one_cut 32 front (decimal n) rest more cut.0 (decimal_free 32 n (omega arith) few) (sym cut.1 ∙ is)

pub no_why : (tail : List ℕ) → (tail ≡ [] → ⊥) → ((rest : List ℕ) → tail ≡ codes " excuse " ++ rest → ⊥) → (w : Why) → IsWhy w → tail ≡ end_text (excuse_told w) → ⊥
no_why tail some none why.Served fits is = some is
no_why tail some none why.Starved fits is = none (codes "memory") is
no_why tail some none (why.Excused x) fits is = none (excuse_words x) is

pub no_excuse : (tail words : List ℕ) → tail ≡ codes " excuse " ++ words → (words ≡ codes "memory" → ⊥) → ((x : Excuse) → IsExcuse x → is_memory x ≡ false → words ≡ excuse_words x → ⊥)
    → (w : Why) → IsWhy w → tail ≡ end_text (excuse_told w) → ⊥
no_excuse tail words is memory other why.Served fits told = let bad : codes " excuse " ++ words ≡ [] = sym is ∙ told in cc
no_excuse tail words is memory other why.Starved fits told = memory (append_cancel_left (codes " excuse ") words (codes "memory") (sym is ∙ told))
no_excuse tail words is memory other (why.Excused x) fits told = other x fits.0 fits.1 (append_cancel_left (codes " excuse ") words (excuse_words x) (sym is ∙ told))

-- ---- who served it

-- the actor of a text is its first word
pub server_word : (text front rest : List ℕ) (s : Server) → IsFirstWord text front rest → (t : TellsServer s text) → IsSameCut front rest (actor_text s.by) (via_text t.0 ++ end_text (excuse_told s.why))
server_word text front rest s word t =
    one_word front (actor_text s.by) rest (via_text t.0 ++ end_text (excuse_told s.why)) word.free (actor_free 32 s.by (omega arith) t.2) word.follows (via_tail t.0 (excuse_told s.why)) (sym word.is ∙ t.4)

-- ---- the line

-- what stands behind the ticket
abbrev pub behind_ticket : Told → List Actor → List ℕ
behind_ticket told via = decimal told.client ++ 46 ∷ (decimal told.seq ++ (codes " by " ++ (actor_text told.by ++ (via_text via ++ end_text (excuse_told told.why)))))

pub line_is : (ticket : ℕ) (told : Told) (via : List Actor) → told_text ticket told via ≡ codes "# " ++ (decimal ticket ++ 32 ∷ behind_ticket told via)
line_is ticket told via = told_flat ticket told via

abbrev pub server_of : Told → Server
server_of told = record { by = told.by; why = told.why }

pub request_cut : (ticket : ℕ) (line rest front behind : List ℕ) (told : Told) → line ≡ codes "# " ++ (decimal ticket ++ 32 ∷ rest) → IsCut 46 rest front behind → (t : Tells ticket told line)
    → IsSameCut front behind (decimal told.client) (decimal told.seq ++ (codes " by " ++ (actor_text told.by ++ (via_text t.0 ++ end_text (excuse_told told.why)))))
request_cut ticket line rest front behind told is cut t =
    let client = t.2.client in
    let rest_is : 32 ∷ rest ≡ 32 ∷ behind_ticket told t.0 =
    append_cancel_left (decimal ticket) (32 ∷ rest) (32 ∷ behind_ticket told t.0) (append_cancel_left (codes "# ") (decimal ticket ++ 32 ∷ rest) (decimal ticket ++ 32 ∷ behind_ticket told t.0) (sym is ∙ t.3 ∙ line_is ticket told t.0)) in
    one_cut 46 front (decimal told.client) behind (decimal told.seq ++ (codes " by " ++ (actor_text told.by ++ (via_text t.0 ++ end_text (excuse_told told.why)))))
    cut.0 (decimal_free 46 told.client (omega arith) (omega (arith, client))) (sym cut.1 ∙ append_cancel_left (32 ∷ []) rest (behind_ticket told t.0) rest_is)

-- what stands behind the ticket is told
pub ticket_rest : (ticket : ℕ) (line rest : List ℕ) (told : Told) → line ≡ codes "# " ++ (decimal ticket ++ 32 ∷ rest) → (t : Tells ticket told line) → rest ≡ behind_ticket told t.0
ticket_rest ticket line rest told is t =
    append_cancel_left (32 ∷ []) rest (behind_ticket told t.0)
    (append_cancel_left (decimal ticket) (32 ∷ rest) (32 ∷ behind_ticket told t.0)
    (append_cancel_left (codes "# ") (decimal ticket ++ 32 ∷ rest) (decimal ticket ++ 32 ∷ behind_ticket told t.0) (sym is ∙ t.3 ∙ line_is ticket told t.0)))

-- what stands behind the number
abbrev pub behind_number : Told → List Actor → List ℕ
behind_number told via = codes " by " ++ (actor_text told.by ++ (via_text via ++ end_text (excuse_told told.why)))

-- where the client and the number are cut
pub record IsRequestCut (told : Told) (via : List Actor) (front behind word tail : List ℕ) : Type 0 where
  pub client_is : front ≡ decimal told.client
  pub number_is : word ≡ decimal told.seq
  pub tail_is : tail ≡ behind_number told via

pub request_parts : (ticket : ℕ) (line rest front behind word tail : List ℕ) (told : Told) → line ≡ codes "# " ++ (decimal ticket ++ 32 ∷ rest) → IsCut 46 rest front behind → IsFirstWord behind word tail
    → (t : Tells ticket told line) → IsRequestCut told t.0 front behind word tail
request_parts ticket line rest front behind word tail told is cut first t =
    let request = request_cut ticket line rest front behind told is cut t in
    let seq = t.2.seq in
    let number = one_word word (decimal told.seq) tail (behind_number told t.0) first.free (decimal_free 32 told.seq (omega arith) (omega (arith, seq))) first.follows refl (sym first.is ∙ request.more_is) in
    record { client_is = request.line_is; number_is = number.line_is; tail_is = number.more_is }

-- the parts together are the line
pub told_join : (ticket : ℕ) (line rest front behind word tail text : List ℕ) (told : Told) → line ≡ codes "# " ++ (decimal ticket ++ 32 ∷ rest) → IsCut 46 rest front behind → front ≡ decimal told.client
    → IsFirstWord behind word tail → word ≡ decimal told.seq → tail ≡ codes " by " ++ text → IsTold told → (s : TellsServer (server_of told) text) → Tells ticket told line
told_join ticket line rest front behind word tail text told is cut client first number by fits s =
    let tail_is : tail ≡ behind_number told s.0 = by ∙ ap (λ (l : List ℕ). codes " by " ++ l) s.4 in
    let behind_is : behind ≡ decimal told.seq ++ behind_number told s.0 = first.is ∙ (λ i. number i ++ tail_is i) in
    let rest_is : rest ≡ behind_ticket told s.0 = cut.1 ∙ (λ i. client i ++ 46 ∷ behind_is i) in
    (s.0, s.1, fits, is ∙ ap (λ (l : List ℕ). codes "# " ++ (decimal ticket ++ 32 ∷ l)) rest_is ∙ sym (line_is ticket told s.0))
