use Rattle.std.proofs.Common.{ℕ, length, Some, ap, sym, ◌∙◌, subst, arith}
use Rattle.ufs_rounds.specs.Dealing.{HoldNothing}
use Rattle.ufs_rounds.specs.View.{global_of}
use Rattle.ufs_rounds.proofs.AloneFirst.{alone_at_first}
use Rattle.ufs_rounds.proofs.Beginnings.{clients_taken, mounted_by, workers_taken}
use Rattle.ufs_rounds.proofs.Places.{no_items}
use Rattle.ufs_rounds.proofs.session.Session.begin.Goals as goal

pub make-requires-clause-clients : goal.make-requires-clause-clients
make-requires-clause-clients g c = let m = c.requires.mounted.1 in clients_taken c.dealt_law.ensures.counts c.requires.mounted.0 _ m.ready _ m.start (length c.args.scripts) m.clients_are

pub make-requires-clause-workers : goal.make-requires-clause-workers
make-requires-clause-workers g c = let m = c.requires.mounted.1 in workers_taken c.dealt_law.ensures.counts c.requires.mounted.0 _ m.ready _ m.start c.args.workers m.workers_are

pub deal_all-requires-clause-mounted : goal.deal_all-requires-clause-mounted
deal_all-requires-clause-mounted g c =
    let m = c.requires.mounted in
    let e = c.in-Ok.ensures in
    (m.0, mounted_by (sym (ap length e.rooms)) (sym e.pools) m.1)

pub deal_all-requires-clause-few : goal.deal_all-requires-clause-few
deal_all-requires-clause-few g c = let few = c.make.ensures.few in let all = ap length c.in-Ok.ensures.rooms in omega (arith, few, all)

pub deal_all-requires-clause-workers : goal.deal_all-requires-clause-workers
deal_all-requires-clause-workers g c = let room = c.in-Ok.ensures.workers in let all = c.in-Ok.ensures.pools in omega (arith, room, all)

pub deal_all-requires-clause-clients : goal.deal_all-requires-clause-clients
deal_all-requires-clause-clients g c = let room = c.in-Ok.ensures.clients in let all = ap length c.in-Ok.ensures.rooms in omega (arith, room, all)

pub returns-in-Ok-clause-scripts : goal.returns-in-Ok-clause-scripts
returns-in-Ok-clause-scripts g c = c.deal_all.ensures.scripts ∙ c.in-Ok.ensures.rooms

pub returns-in-Ok-clause-rings : goal.returns-in-Ok-clause-rings
returns-in-Ok-clause-rings g c = subst (λ p. HoldNothing c.args.workers (length c.args.scripts) p.requests p.clients.items p.letters) (sym c.deal_all.ensures.post) c.in-Ok.ensures.rings

pub returns-in-Ok-clause-alone : goal.returns-in-Ok-clause-alone
returns-in-Ok-clause-alone g c none =
    let k = g.N.Naming.start in
    let e = c.in-Ok.ensures in
    let m = c.requires.mounted.1 in
    let p = c.deal_all.result.participants in
    let taken = workers_taken c.dealt_law.ensures.counts c.requires.mounted.0 _ m.ready _ m.start c.args.workers m.workers_are in
    alone_at_first k (global_of p (Some c.deal_all.result.store)) (length c.args.scripts) (no_items p.workers.items (let staff = c.deal_all.ensures.staff in let all = e.pools in omega (arith, staff, all, none))) (sym taken ∙ none)
    (ap length (c.deal_all.ensures.scripts ∙ e.rooms)) p.every_client p.few_clients p.client_numbers c.deal_all.ensures.nothing c.deal_all.ensures.out
    (subst (λ (n : ℕ). HoldNothing n (length c.args.scripts) p.post.requests p.post.clients.items p.post.letters) none (subst (λ q. HoldNothing c.args.workers (length c.args.scripts) q.requests q.clients.items q.letters) (sym c.deal_all.ensures.post) e.rings))
