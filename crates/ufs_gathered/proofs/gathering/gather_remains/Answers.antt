use Rattle.std.proofs.Common.{ap, sym, ◌∙◌, subst}
use Rattle.ufs_joint.specs.Cells.{View, both_of}
use Rattle.ufs_turns.specs.HeldStore.{IsHeldStore, IsStoreIn}
use Rattle.ufs_gathered.specs.Gathered.{HasAllOf, with_all}
use Rattle.ufs_gathered.proofs.Remaining.{has_all_too, store_there_too}
use Rattle.ufs_gathered.proofs.gathering.gather_remains.Goals as goal

pub returns-clause-all : goal.returns-clause-all
returns-clause-all g c files has =
    let a = c.args.remains in
    let is = c.gather_hands.ensures ∙ ap (λ (u : View). with_all u a.clients.items) (c.join-2.ensures ∙ ap (λ (u : View). both_of u a.rest) c.join.ensures) in
    subst (HasAllOf a.names files a.rest a.clients.items) (sym is)
    (has_all_too a.names c.into_parts-noted.result.1 c.into_parts-noted.ensures.hand g.N.Naming.start g.N.Naming.origin g.S.Door.visible g.S.Door.keeps c.into_parts-own.result.0 (g.S.Door.store c.into_parts-own.result.1) c.into_parts-own.ensures.home
    files a.rest has a.clients.items c.requires.home.0 c.requires.home.1)

pub returns-clause-store : goal.returns-clause-store
returns-clause-store g c =
    let a = c.args.remains in
    let is = c.gather_hands.ensures ∙ ap (λ (u : View). with_all u a.clients.items) (c.join-2.ensures ∙ ap (λ (u : View). both_of u a.rest) c.join.ensures) in
    subst (λ (u : View). IsStoreIn g.N.Naming.start g.N.Naming.origin g.S.Door.visible g.S.Door.keeps u (g.S.Door.store c.into_parts-own.result.1)) (sym is)
    (store_there_too a.names c.into_parts-noted.result.1 c.into_parts-noted.ensures.hand g.N.Naming.start g.N.Naming.origin g.S.Door.visible g.S.Door.keeps c.into_parts-own.result.0 (g.S.Door.store c.into_parts-own.result.1) c.into_parts-own.ensures.home
    c.requires.rest.0 a.rest c.requires.rest.1 a.clients.items c.requires.home.0 c.requires.home.1)

pub returns-clause-its : goal.returns-clause-its
returns-clause-its g c =
    subst (λ (u : View). IsHeldStore g.N.Naming.start g.N.Naming.origin g.S.Door.visible g.S.Door.keeps u (g.S.Door.store c.into_parts-own.result.1)) c.into_parts-own.ensures.hand c.into_parts-own.ensures.home
