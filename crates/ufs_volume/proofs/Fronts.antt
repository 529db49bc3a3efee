-- The first transactions of a list.
use Rattle.std.proofs.Common.{◌≡◌, ℕ, zero, suc, ◌+◌, ◌<◌, List, [], ◌∷◌, ◌++◌, length, take, get_or, refl, ap, sym, ◌∙◌, subst, arith}
use Rattle.std.specs.Prelude.{◌&&◌, nat_lt, IsTrue}
use Rattle.std.specs.List.{AllByRecursion}
use Rattle.std.proofs.lemmas.Bool.{and_parts}
use Rattle.std.proofs.lemmas.List.{take_more}
use Rattle.ufs_layout.specs.declared.records.Committed.{Committed}
use Rattle.ufs_overlay.specs.Over.{rise_above}

pub rises_front : (least : ℕ) (cs : List Committed) (n : ℕ) → IsTrue (rise_above least cs) → IsTrue (rise_above least (take n cs))
rises_front least cs zero up = refl
rises_front least [] (suc n) up = refl
rises_front least (c ∷ cs) (suc n) up =
    let parts = and_parts (nat_lt least c.number) (rise_above c.number cs) up in
    λ i. parts.0 i && rises_front c.number cs n parts.1 i

pub one_more : (cs : List Committed) (n : ℕ) (c : Committed) → n < length cs → c ≡ get_or cs n c → take (n + 1) cs ≡ take n cs ++ c ∷ []
one_more cs n c less is = take_more cs n c less ∙ ap (λ (x : Committed). take n cs ++ x ∷ []) (sym is)

pub each_at : (P : Committed → Type 0) (cs : List Committed) (n : ℕ) (c : Committed) → n < length cs → c ≡ get_or cs n c → AllByRecursion P cs → P c
each_at P [] n c less is all = absurd (omega (arith, less))
each_at P (x ∷ cs) zero c less is all = subst P (sym is) all.0
each_at P (x ∷ cs) (suc n) c less is all = each_at P cs n c (omega (arith, less)) is all.1
