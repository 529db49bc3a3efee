-- A line of a trace tells one thing.
use Rattle.std.proofs.Common.{◌≡◌, ℕ, ◌+◌, ◌/◌, ◌%◌, ◌<◌, ◌≤◌, ◌^◌, List, [], ◌∷◌, ◌++◌, Option, Some, None, IfSome, Bool, true, false, ap, sym, refl, subst, ◌∙◌, length, arith, inl, inr, zero, suc}
use Rattle.std.specs.Prelude.{codes}
use Rattle.std.specs.List.{AllByRecursion}
use Rattle.std.specs.Fmt.{decimal}
use Rattle.std.proofs.lemmas.Fmt.{decimal_by_steps, decimal_injective}
use Rattle.std.proofs.lemmas.List.{append_cancel_left, append_assoc}
use Rattle.ufs_model.specs.declared.data.Actor.{Actor}
use Rattle.ufs_model.specs.declared.data.Actor.TheVariants as actor
use Rattle.ufs_model.specs.declared.data.Excuse.{Excuse}
use Rattle.ufs_model.specs.declared.data.Excuse.TheVariants as excuse
use Rattle.ufs_script.specs.Output.{actor_text, more_actors, via_text, excuse_words}
use Rattle.ufs_model.specs.Excuses.{is_memory}
use Rattle.ufs_lines.specs.Trace.{IsActor, IsExcuse, IsWhy, IsTold, Tells, TellOne, told_text, end_text, excuse_told}
use Rattle.ufs_lines.specs.declared.told.Why.{Why}
use Rattle.ufs_lines.specs.declared.told.Why.TheVariants as why
use Rattle.ufs_lines.specs.declared.told.Told.{Told}

-- ---- numbers

abbrev pub IsDigit : ℕ → Type 0
IsDigit b = (48 ≤ b) × (b < 58)

-- no digit stands at the front
abbrev head : List ℕ → ℕ
head [] = 0
head (b ∷ bs) = b

all_push : (xs : List ℕ) (x : ℕ) → AllByRecursion IsDigit xs → IsDigit x → AllByRecursion IsDigit (xs ++ x ∷ [])
all_push [] x all is = (is, tt)
all_push (y ∷ xs) x all is = (all.0, all_push xs x all.1 is)

pub are_digits : (n : ℕ) → n < 2 ^ 64 → AllByRecursion IsDigit (decimal n)
are_digits n h = decimal_by_steps (λ n ds. AllByRecursion IsDigit ds)
    (λ n less. ((omega arith, omega (arith, less)), tt))
    (λ n ds more front. all_push ds (48 + n % 10) front (omega arith, (let last : n % 10 < 10 = omega arith in omega (arith, last))))
    n (omega arith)

record IsSameFront (ds es x y : List ℕ) : Type 0 where
  digits_are : ds ≡ es
  rest_is : x ≡ y

one_front : (ds es x y : List ℕ) → AllByRecursion IsDigit ds → AllByRecursion IsDigit es → head x < 48 → head y < 48 → ds ++ x ≡ es ++ y → IsSameFront ds es x y
one_front [] [] x y a b u v e = record { digits_are = refl; rest_is = e }
one_front [] (c ∷ es) x y a b u v e = let h = ap head e in absurd (omega (arith, h, u, b.0.0))
one_front (d ∷ ds) [] x y a b u v e = let h = ap head e in absurd (omega (arith, h, v, a.0.0))
one_front (d ∷ ds) (c ∷ es) x y a b u v e =
    let first : d ≡ c = cc in
    let more : ds ++ x ≡ es ++ y = cc in
    let rest = one_front ds es x y a.1 b.1 u v more in
    record { digits_are = (λ i. first i ∷ rest.digits_are i); rest_is = rest.rest_is }

record IsSameNumber (m n : ℕ) (x y : List ℕ) : Type 0 where
  number_is : m ≡ n
  rest_is : x ≡ y

one_number : (m n : ℕ) (x y : List ℕ) → m < 2 ^ 64 → n < 2 ^ 64 → head x < 48 → head y < 48 → decimal m ++ x ≡ decimal n ++ y → IsSameNumber m n x y
one_number m n x y u v a b e =
    let same = one_front (decimal m) (decimal n) x y (are_digits m u) (are_digits n v) a b e in
    record { number_is = decimal_injective m n u v same.digits_are; rest_is = same.rest_is }

-- ---- excuses

one_excuse : (x y : Excuse) → IsExcuse x → IsExcuse y → excuse_words x ≡ excuse_words y → x ≡ y
one_excuse excuse.Memory excuse.Memory u v e = refl
one_excuse excuse.Memory (excuse.Device f') u v e = let letter = ap head e in absurd (omega (arith, letter))
one_excuse excuse.Memory (excuse.Stopped f') u v e = let letter = ap head e in absurd (omega (arith, letter))
one_excuse excuse.Memory (excuse.Blocks n' h') u v e = let letter = ap head e in absurd (omega (arith, letter))
one_excuse excuse.Memory excuse.Inodes u v e = let letter = ap head e in absurd (omega (arith, letter))
one_excuse excuse.Memory (excuse.Extents n') u v e = let letter = ap head e in absurd (omega (arith, letter))
one_excuse (excuse.Device f) excuse.Memory u v e = let letter = ap head e in absurd (omega (arith, letter))
one_excuse (excuse.Device f) (excuse.Device f') u v e = ap excuse.Device (decimal_injective f f' u v (append_cancel_left (codes "device ") (decimal f) (decimal f') e))
one_excuse (excuse.Device f) (excuse.Stopped f') u v e = let letter = ap head e in absurd (omega (arith, letter))
one_excuse (excuse.Device f) (excuse.Blocks n' h') u v e = let letter = ap head e in absurd (omega (arith, letter))
one_excuse (excuse.Device f) excuse.Inodes u v e = let letter = ap head e in absurd (omega (arith, letter))
one_excuse (excuse.Device f) (excuse.Extents n') u v e = let letter = ap head e in absurd (omega (arith, letter))
one_excuse (excuse.Stopped f) excuse.Memory u v e = let letter = ap head e in absurd (omega (arith, letter))
one_excuse (excuse.Stopped f) (excuse.Device f') u v e = let letter = ap head e in absurd (omega (arith, letter))
one_excuse (excuse.Stopped f) (excuse.Stopped f') u v e = ap excuse.Stopped (decimal_injective f f' u v (append_cancel_left (codes "stopped ") (decimal f) (decimal f') e))
one_excuse (excuse.Stopped f) (excuse.Blocks n' h') u v e = let letter = ap head e in absurd (omega (arith, letter))
one_excuse (excuse.Stopped f) excuse.Inodes u v e = let letter = ap head e in absurd (omega (arith, letter))
one_excuse (excuse.Stopped f) (excuse.Extents n') u v e = let letter = ap head e in absurd (omega (arith, letter))
one_excuse (excuse.Blocks n h) excuse.Memory u v e = let letter = ap head e in absurd (omega (arith, letter))
one_excuse (excuse.Blocks n h) (excuse.Device f') u v e = let letter = ap head e in absurd (omega (arith, letter))
one_excuse (excuse.Blocks n h) (excuse.Stopped f') u v e = let letter = ap head e in absurd (omega (arith, letter))
one_excuse (excuse.Blocks n h) (excuse.Blocks n' h') u v e = let need = one_number n n' (codes " " ++ decimal h) (codes " " ++ decimal h') (omega (arith, u.0)) (omega (arith, v.0)) (omega arith) (omega arith)
    (sym (append_assoc (decimal n) (codes " ") (decimal h)) ∙ append_cancel_left (codes "blocks ") ((decimal n ++ codes " ") ++ decimal h) ((decimal n' ++ codes " ") ++ decimal h') e ∙ append_assoc (decimal n') (codes " ") (decimal h')) in
    let had = decimal_injective h h' (omega (arith, u.1)) (omega (arith, v.1)) (append_cancel_left (codes " ") (decimal h) (decimal h') need.rest_is) in λ i. excuse.Blocks (need.number_is i) (had i)
one_excuse (excuse.Blocks n h) excuse.Inodes u v e = let letter = ap head e in absurd (omega (arith, letter))
one_excuse (excuse.Blocks n h) (excuse.Extents n') u v e = let letter = ap head e in absurd (omega (arith, letter))
one_excuse excuse.Inodes excuse.Memory u v e = let letter = ap head e in absurd (omega (arith, letter))
one_excuse excuse.Inodes (excuse.Device f') u v e = let letter = ap head e in absurd (omega (arith, letter))
one_excuse excuse.Inodes (excuse.Stopped f') u v e = let letter = ap head e in absurd (omega (arith, letter))
one_excuse excuse.Inodes (excuse.Blocks n' h') u v e = let letter = ap head e in absurd (omega (arith, letter))
one_excuse excuse.Inodes excuse.Inodes u v e = refl
one_excuse excuse.Inodes (excuse.Extents n') u v e = let letter = ap head e in absurd (omega (arith, letter))
one_excuse (excuse.Extents n) excuse.Memory u v e = let letter = ap head e in absurd (omega (arith, letter))
one_excuse (excuse.Extents n) (excuse.Device f') u v e = let letter = ap head e in absurd (omega (arith, letter))
one_excuse (excuse.Extents n) (excuse.Stopped f') u v e = let letter = ap head e in absurd (omega (arith, letter))
one_excuse (excuse.Extents n) (excuse.Blocks n' h') u v e = let letter = ap head e in absurd (omega (arith, letter))
one_excuse (excuse.Extents n) excuse.Inodes u v e = let letter = ap head e in absurd (omega (arith, letter))
one_excuse (excuse.Extents n) (excuse.Extents n') u v e = ap excuse.Extents (one_number n n' (codes " 56") (codes " 56") (omega (arith, u)) (omega (arith, v)) (omega arith) (omega arith) (append_cancel_left (codes "extents ") (decimal n ++ codes " 56") (decimal n' ++ codes " 56") e)).number_is

one_end : (x y : Option Excuse) → IfSome x IsExcuse → IfSome y IsExcuse → end_text x ≡ end_text y → x ≡ y
one_end None None u v e = refl
one_end None (Some y) u v e = let h = ap head e in absurd (omega (arith, h))
one_end (Some x) None u v e = let h = ap head e in absurd (omega (arith, h))
one_end (Some x) (Some y) u v e = ap Some (one_excuse x y u v (append_cancel_left (codes " excuse ") (excuse_words x) (excuse_words y) e))

pub told_fits : (w : Why) → IsWhy w → IfSome (excuse_told w) IsExcuse
told_fits why.Served h = tt
told_fits why.Starved h = tt
told_fits (why.Excused x) h = h.0

one_why : (v w : Why) → IsWhy v → IsWhy w → excuse_told v ≡ excuse_told w → v ≡ w
one_why why.Served why.Served a b e = refl
one_why why.Served why.Starved a b e = cc
one_why why.Served (why.Excused x) a b e = cc
one_why why.Starved why.Served a b e = cc
one_why why.Starved why.Starved a b e = refl
one_why why.Starved (why.Excused x) a b e = let same : excuse.Memory ≡ x = cc in let bad : true ≡ false = ap is_memory same ∙ b.1 in cc
one_why (why.Excused x) why.Served a b e = cc
one_why (why.Excused x) why.Starved a b e = let same : excuse.Memory ≡ x = cc in let bad : true ≡ false = ap is_memory same ∙ a.1 in cc
one_why (why.Excused x) (why.Excused y) a b e = let same : x ≡ y = cc in ap why.Excused same

-- ---- actors

record IsSameActor (a b : Actor) (x y : List ℕ) : Type 0 where
  actor_is : a ≡ b
  rest_is : x ≡ y

one_actor : (a b : Actor) (x y : List ℕ) → IsActor a → IsActor b → head x < 48 → head y < 48 → actor_text a ++ x ≡ actor_text b ++ y → IsSameActor a b x y
one_actor (actor.Client k) (actor.Client l) x y u v p q e = let more : decimal k ++ x ≡ decimal l ++ y = cc in let n = one_number k l x y (omega (arith, u)) (omega (arith, v)) p q more in record { actor_is = ap actor.Client n.number_is; rest_is = n.rest_is }
one_actor (actor.Worker k) (actor.Worker l) x y u v p q e = let more : decimal k ++ x ≡ decimal l ++ y = cc in let n = one_number k l x y (omega (arith, u)) (omega (arith, v)) p q more in record { actor_is = ap actor.Worker n.number_is; rest_is = n.rest_is }
one_actor actor.Primary actor.Primary x y u v p q e = record { actor_is = refl; rest_is = cc }
one_actor (actor.Client k) (actor.Worker l) x y u v p q e = let h = ap head e in absurd (omega (arith, h))
one_actor (actor.Client k) actor.Primary x y u v p q e = let h = ap head e in absurd (omega (arith, h))
one_actor (actor.Worker k) (actor.Client l) x y u v p q e = let h = ap head e in absurd (omega (arith, h))
one_actor (actor.Worker k) actor.Primary x y u v p q e = let h = ap head e in absurd (omega (arith, h))
one_actor actor.Primary (actor.Client l) x y u v p q e = let h = ap head e in absurd (omega (arith, h))
one_actor actor.Primary (actor.Worker l) x y u v p q e = let h = ap head e in absurd (omega (arith, h))

-- ---- those that sent it on

end_head : (x : Option Excuse) → head (end_text x) < 33
end_head None = omega arith
end_head (Some x) = omega arith

more_head : (ms : List Actor) (x : Option Excuse) → head (more_actors ms ++ end_text x) < 48
more_head [] x = (let h = end_head x in omega (arith, h))
more_head (a ∷ ms) x = omega arith

one_more : (ms bs : List Actor) (x y : Option Excuse) → AllByRecursion IsActor ms → AllByRecursion IsActor bs → more_actors ms ++ end_text x ≡ more_actors bs ++ end_text y → end_text x ≡ end_text y
one_more [] [] x y u v e = e
one_more [] (b ∷ bs) x y u v e = let h = ap head e in let k = end_head x in absurd (omega (arith, h, k))
one_more (a ∷ ms) [] x y u v e = let h = ap head e in let k = end_head y in absurd (omega (arith, h, k))
one_more (a ∷ ms) (b ∷ bs) x y u v e =
    let rest : actor_text a ++ (more_actors ms ++ end_text x) ≡ actor_text b ++ (more_actors bs ++ end_text y) =
    sym (append_assoc (actor_text a) (more_actors ms) (end_text x)) ∙ append_cancel_left (44 ∷ []) ((actor_text a ++ more_actors ms) ++ end_text x) ((actor_text b ++ more_actors bs) ++ end_text y) e ∙ append_assoc (actor_text b) (more_actors bs) (end_text y) in
    let same = one_actor a b (more_actors ms ++ end_text x) (more_actors bs ++ end_text y) u.0 v.0 (more_head ms x) (more_head bs y) rest in
    one_more ms bs x y u.1 v.1 same.rest_is

abbrev second : List ℕ → ℕ
second [] = 0
second (a ∷ bs) = head bs

end_second : (x : Option Excuse) → second (end_text x) < 118
end_second None = omega arith
end_second (Some x) = omega arith

via_head : (ms : List Actor) (x : Option Excuse) → head (via_text ms ++ end_text x) < 48
via_head [] x = (let h = end_head x in omega (arith, h))
via_head (a ∷ ms) x = omega arith

one_via : (ms bs : List Actor) (x y : Option Excuse) → AllByRecursion IsActor ms → AllByRecursion IsActor bs → via_text ms ++ end_text x ≡ via_text bs ++ end_text y → end_text x ≡ end_text y
one_via [] [] x y u v e = e
one_via [] (b ∷ bs) x y u v e = let h = ap second e in let k = end_second x in absurd (omega (arith, h, k))
one_via (a ∷ ms) [] x y u v e = let h = ap second e in let k = end_second y in absurd (omega (arith, h, k))
one_via (a ∷ ms) (b ∷ bs) x y u v e =
    let rest : actor_text a ++ (more_actors ms ++ end_text x) ≡ actor_text b ++ (more_actors bs ++ end_text y) =
    sym (append_assoc (actor_text a) (more_actors ms) (end_text x)) ∙ append_cancel_left (codes " via ") ((actor_text a ++ more_actors ms) ++ end_text x) ((actor_text b ++ more_actors bs) ++ end_text y) e ∙ append_assoc (actor_text b) (more_actors bs) (end_text y) in
    let same = one_actor a b (more_actors ms ++ end_text x) (more_actors bs ++ end_text y) u.0 v.0 (more_head ms x) (more_head bs y) rest in
    one_more ms bs x y u.1 v.1 same.rest_is

-- ---- the line

flat : (a b c d e f g h : List ℕ) → ((((((a ++ b) ++ c) ++ d) ++ e) ++ f) ++ g) ++ h ≡ a ++ (b ++ (c ++ (d ++ (e ++ (f ++ (g ++ h))))))
flat a b c d e f g h =
    append_assoc (((((a ++ b) ++ c) ++ d) ++ e) ++ f) g h
    ∙ append_assoc ((((a ++ b) ++ c) ++ d) ++ e) f (g ++ h)
    ∙ append_assoc (((a ++ b) ++ c) ++ d) e (f ++ (g ++ h))
    ∙ append_assoc ((a ++ b) ++ c) d (e ++ (f ++ (g ++ h)))
    ∙ append_assoc (a ++ b) c (d ++ (e ++ (f ++ (g ++ h))))
    ∙ append_assoc a b (c ++ (d ++ (e ++ (f ++ (g ++ h)))))

-- what follows the actor
abbrev tail : Told → List Actor → List ℕ
tail told via = via_text via ++ end_text (excuse_told told.why)

abbrev by_on : Told → List Actor → List ℕ
by_on told via = codes " by " ++ (actor_text told.by ++ tail told via)

abbrev seq_on : Told → List Actor → List ℕ
seq_on told via = decimal told.seq ++ by_on told via

abbrev client_on : Told → List Actor → List ℕ
client_on told via = decimal told.client ++ 46 ∷ seq_on told via

pub told_flat : (ticket : ℕ) (told : Told) (via : List Actor) → told_text ticket told via ≡ codes "# " ++ (decimal ticket ++ 32 ∷ client_on told via)
told_flat ticket told via = flat (codes "# ") (decimal ticket) (32 ∷ decimal told.client) (46 ∷ decimal told.seq) (codes " by ") (actor_text told.by) (via_text via) (end_text (excuse_told told.why))

pub tell_one : TellOne
tell_one ticket a b line few s t =
    let u = s.2 in
    let v = t.2 in
    let whole : codes "# " ++ (decimal ticket ++ 32 ∷ client_on a s.0) ≡ codes "# " ++ (decimal ticket ++ 32 ∷ client_on b t.0) = sym (told_flat ticket a s.0) ∙ sym s.3 ∙ t.3 ∙ told_flat ticket b t.0 in
    let numbers : 32 ∷ client_on a s.0 ≡ 32 ∷ client_on b t.0 =
    append_cancel_left (decimal ticket) (32 ∷ client_on a s.0) (32 ∷ client_on b t.0) (append_cancel_left (codes "# ") (decimal ticket ++ 32 ∷ client_on a s.0) (decimal ticket ++ 32 ∷ client_on b t.0) whole) in
    let client = one_number a.client b.client (46 ∷ seq_on a s.0) (46 ∷ seq_on b t.0)
    (let c = u.client in omega (arith, c)) (let c = v.client in omega (arith, c)) (omega arith) (omega arith) (append_cancel_left (32 ∷ []) (client_on a s.0) (client_on b t.0) numbers) in
    let seq = one_number a.seq b.seq (by_on a s.0) (by_on b t.0)
    (let c = u.seq in omega (arith, c)) (let c = v.seq in omega (arith, c)) (omega arith) (omega arith) (append_cancel_left (46 ∷ []) (seq_on a s.0) (seq_on b t.0) client.rest_is) in
    let by = one_actor a.by b.by (tail a s.0) (tail b t.0) u.by v.by (via_head s.0 (excuse_told a.why)) (via_head t.0 (excuse_told b.why)) (append_cancel_left (codes " by ") (actor_text a.by ++ tail a s.0) (actor_text b.by ++ tail b t.0) seq.rest_is) in
    let why = one_why a.why b.why u.why v.why
    (one_end (excuse_told a.why) (excuse_told b.why) (told_fits a.why u.why) (told_fits b.why v.why) (one_via s.0 t.0 (excuse_told a.why) (excuse_told b.why) s.1 t.1 by.rest_is)) in
    λ i. record { client = client.number_is i; seq = seq.number_is i; by = by.actor_is i; why = why i }
