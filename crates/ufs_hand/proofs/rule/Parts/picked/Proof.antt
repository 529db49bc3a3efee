-- A value of no bytes that owns nothing, whose ghost field is what the caller picked.
use Rattle.std.proofs.Common.{◌≡◌, [], ◌∷◌, refl}
use mir.Syntax.{a_type, dcons, dnil}
use mir.Val.{Val, vstruct, vcons, vnil}
use mir.MapTy.{inst_fn}
use base.Logic.{SProp, emp}
use base.Fml.{Fml}
use types.Kit.{‵, raw, ◌⊛◌, ◌$◌, ◌∵◌, !, qed, by, keep, split, use0}
use types.Run.{no_more, and_then, returns, enter}
use types.ByLocal.{alloc_all, pass_all, free_all, look_at, get, sets}
use types.Part.{agg}
use contract.Monad.{fact, fact_i}
use contract.Running.{tables}
use denote.RattleType.{owns}
use denote.Signature.{types_at, type_at}
use denote.Steps.{nothing}
use denote.Shadow.{makes_shadow}
use denote.Param.{bounded}
use denote.Triple.Entry.{alive}
use denote.Triple.Walked.{Stays, walk_of}
use Rattle.atomic_table.proofs.Walks.{proved, leaves}
use Rattle.ufs_hand.specs.contracts.rule.Parts.picked.{ended, clauses}
use Rattle.ufs_hand.specs.contracts.rule.Parts.picked.Key.{name as #self}
use Rattle.ufs_hand.proofs.rule.Parts.picked.Statement.{statement}
use Rattle.ufs_hand.proofs.rule.Parts.picked.Code as code

pub picked_spec : {M : Type 1} → statement M
picked_spec 𝓤 𝓛 𝓜 𝓡 wired P _ g d _ =
    let H = 𝓛.H in let 𝓣 = tables 𝓤 H 𝓜 𝓡 𝓡.env in let En = ended P g d in let c = clauses P g d 𝓛 𝓜.mem 𝓡.returns in
    let inst = bounded (a_type ∷ []) (P, tt) (dcons d dnil) in let fn = inst_fn inst code.function in let closed = code.unfolded 𝓤 H 𝓜 𝓡 wired (P, tt) d in
    let hs : Stays En.signature.params En.kept = tt in
    proved 𝓛 En hs c 𝓜 𝓡 tt (#self inst) fn closed (λ κs. tt) (λ κs. tt) (λ κs qs bounds a gh are.
    let v : Val = vstruct (vcons (vstruct vnil) vnil) in
    let r : denote.Triple.Entry.Res En.signature κs = record { marker = record {}; start = g.opened } in
    let Told : Type 0 = r.start ≡ g.opened in
    let O : Fml = (type_at En.signature.result κs).own_val r (v ∷ []) in
    let y : (walk_of 𝓛 En hs c).Ghost = ((κs, qs, bounds, a, tt), gh) in let Post : Val → SProp 𝓤 = (walk_of 𝓛 En hs c).post y in
    qed 𝓛 ((raw (alive 𝓛 En.signature κs qs) ⊛ ‵ (owns (types_at En.signature.params κs) a y.0.4)) ∷ raw ((c κs a).requires gh) ∷ []) ∵
    split ! $ keep ! (0 ∷ []) $
    use0 𝓛 (‵ O) (makes_shadow 𝓛 O ((λ vss. (tt, ((λ uss. (tt, tt)), tt))), tt) (((vstruct vnil ∷ [], tt), (refl, ((tt, (refl, tt)), tt))), tt)) $
    enter ! 𝓣.C 𝓣.Λ fn [] Post $ alloc_all ! (λ l. pass_all ! refl tt $
    sets ! (agg ! (no_more !)) refl (tt, tt) $ sets ! (agg ! (and_then ! (get ! refl) (no_more !))) refl (tt, (tt, tt)) $
    use0 𝓛 (raw (fact 𝓤 Told)) (fact_i 𝓤 Told (emp 𝓤) refl) $ nothing ! $
    returns ! (look_at ! 0 refl) $ free_all ! refl $ keep ! (3 ∷ 0 ∷ 2 ∷ 1 ∷ []) $ by ! (leaves 𝓛 En hs c y v r tt tt)))
