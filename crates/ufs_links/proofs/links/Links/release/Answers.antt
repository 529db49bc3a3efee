use Rattle.std.proofs.Common.{◌∙◌, [], ◌∷◌, ◌++◌, length, length-append, ap, sym, subst, cond, arith}
use Rattle.std.specs.FinSet as set
use Rattle.ufs_links.specs.Linked.{Linked}
use Rattle.ufs_links.specs.declared.links.Which.TheVariants.{First, Second}
use Rattle.ufs_links.specs.Nodes.{IsOnNone}
use Rattle.ufs_links.specs.Kept.{given_of}
use Rattle.ufs_links.proofs.KeptLemmas.{kept_pushed, given_tells, given_back, room_for_one}
use Rattle.ufs_links.proofs.links.Links.release.Goals as goal

pub invariant_of-self : goal.invariant_of-self
invariant_of-self c =
    let l = c.self.inside in
    let t = given_tells l.used l.released.items c.args.node (ap (λ (v : Linked). set.contains v.given c.args.node) c.self.view_is ∙ c.requires.given) in
    let items = c.push.ensures.items ∙ ap (λ b. cond b (l.released.items ++ c.args.node ∷ []) l.released.items) (c.push.ensures.succeeds (room_for_one l c.args.node c.self.invariant t.0 t.1)) in
    kept_pushed l c.push.new.self c.args.node c.self.invariant items c.push.ensures.capacity t.0 t.1
    (subst (λ (v : Linked). IsOnNone v.first c.args.node) (sym c.self.view_is) (c.requires.off First)) (subst (λ (v : Linked). IsOnNone v.second c.args.node) (sym c.self.view_is) (c.requires.off Second))

pub returns-clause-given : goal.returns-clause-given
returns-clause-given c =
    let l = c.self.inside in
    let t = given_tells l.used l.released.items c.args.node (ap (λ (v : Linked). set.contains v.given c.args.node) c.self.view_is ∙ c.requires.given) in
    let items = c.push.ensures.items ∙ ap (λ b. cond b (l.released.items ++ c.args.node ∷ []) l.released.items) (c.push.ensures.succeeds (room_for_one l c.args.node c.self.invariant t.0 t.1)) in
    ap (given_of l.used) items ∙ given_back l.used l.released.items c.args.node ∙ ap (λ (v : Linked). set.remove v.given c.args.node) c.self.view_is

pub returns-clause-spare : goal.returns-clause-spare
returns-clause-spare c =
    let l = c.self.inside in
    let t = given_tells l.used l.released.items c.args.node (ap (λ (v : Linked). set.contains v.given c.args.node) c.self.view_is ∙ c.requires.given) in
    let items = c.push.ensures.items ∙ ap (λ b. cond b (l.released.items ++ c.args.node ∷ []) l.released.items) (c.push.ensures.succeeds (room_for_one l c.args.node c.self.invariant t.0 t.1)) in
    let long = ap length items ∙ length-append l.released.items (c.args.node ∷ []) in
    let spare = ap (λ (v : Linked). v.spare) c.self.view_is in
    omega arith
