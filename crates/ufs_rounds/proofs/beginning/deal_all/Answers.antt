use Rattle.std.proofs.Common.{◌≡◌, ◌++◌, eqb, length, [], ap, sym, refl, ◌∙◌, subst, arith}
use Rattle.std.specs.FinMap as fin
use Rattle.ufs_primary.specs.OfAtPrimary.{HasNumbers}
use Rattle.ufs_dealt.specs.Dealt.{AreApart, rest_of, values_in, values_of}
use Rattle.ufs_dealt.specs.First.{rest_first}
use Rattle.ufs_hand_laws.specs.Owned.{Has, count, without}
use Rattle.ufs_primary.specs.OfHeld.{under_numbers}
use Rattle.ufs_joint.specs.Cells.{Start, View}
use Rattle.ufs_joint.specs.FirstHand.{Beginning, names_first, pool_of}
use Rattle.ufs_joint.specs.Whole.{no_blocks}
use Rattle.ufs_model.specs.PosixTree.{desc_at}
use Rattle.ufs_primary.specs.Primary.{PrimaryState}
use Rattle.ufs_rounds.specs.Dealing.{AreIdleFrom, ArePoolsFrom}
use Rattle.ufs_rounds.proofs.Beginnings.{are_away, clients_taken, hand_apart, has_numbers, idle_from, live_files, low_enough, pools_from, workers_taken}
use Rattle.ufs_rounds.proofs.beginning.deal_all.Goals as goal

pub deal-table-requires-clause-names : goal.deal-table-requires-clause-names
deal-table-requires-clause-names g c =
    let m = c.requires.mounted.1 in
    (names_first c.requires.mounted.0.names, ap (λ (k : Start). k.view.names) m.start, sym m.names_are, refl)

pub deal-table-requires-clause-store : goal.deal-table-requires-clause-store
deal-table-requires-clause-store g c = ap (λ (k : Start). k.view.store) c.requires.mounted.1.start

pub deal-table-requires-clause-formed : goal.deal-table-requires-clause-formed
deal-table-requires-clause-formed g c = let m = c.requires.mounted.1 in m.ready.formed ∙ sym (ap (λ (k : Start). k.geometry) m.start)

-- ---- the files

pub deal_files-requires-clause-here : goal.deal_files-requires-clause-here
deal_files-requires-clause-here g c =
    let m = c.requires.mounted.1 in
    let left = c.deal-table.ensures.hand ∙ ap (λ (k : Start). rest_of k.view) m.start in
    subst (λ (v : View). values_in v.files ≡ values_of c.args.ready.files.items) (sym left) (c.dealt_law.ensures.files c.requires.mounted.0 _ c.args.ready.files.items m.ready m.files_are)

pub deal_files-requires-clause-room : goal.deal_files-requires-clause-room
deal_files-requires-clause-room g c =
    let none = ap length c.requires.no_file in
    let count = c.args.room.held.ok.0 in
    let room = c.requires.files in
    omega (arith, none, count, room)

pub deal_files-requires-clause-apart : goal.deal_files-requires-clause-apart
deal_files-requires-clause-apart g c =
    let m = c.requires.mounted.1 in
    let left = c.deal-table.ensures.hand ∙ ap (λ (k : Start). rest_of k.view) m.start in
    subst AreApart (sym left) (c.dealt_law.ensures.apart c.requires.mounted.0 _ m.ready m.can (low_enough c.requires.mounted.0 m.few))

-- ---- the primary

pub deal_primary-primary-requires-clause-its : goal.deal_primary-primary-requires-clause-its
deal_primary-primary-requires-clause-its g c = let m = c.requires.mounted.1 in c.geometry-geometry.ensures.is ∙ m.ready.formed ∙ sym (ap (λ (k : Start). k.geometry) m.start)

pub deal_primary-primary-requires-clause-numbers : goal.deal_primary-primary-requires-clause-numbers
deal_primary-primary-requires-clause-numbers g c = let m = c.requires.mounted.1 in subst HasNumbers (sym m.start) (has_numbers c.requires.mounted.0 _ m.ready m.few)

pub deal_primary-primary-requires-clause-away : goal.deal_primary-primary-requires-clause-away
deal_primary-primary-requires-clause-away g c =
    let b : Beginning = c.requires.mounted.0 in
    let m = c.requires.mounted.1 in
    let left = c.deal-table.ensures.hand ∙ ap (λ (k : Start). rest_of k.view) m.start in
    let all : under_numbers c.deal_files.new.held.items ≡ (rest_first b).files = c.deal_files.ensures.cells ∙ (λ i. under_numbers (c.requires.no_file i) ++ (left i).files) in
    are_away c.dealt_law.ensures.low b _ m.ready (low_enough b m.few) (c.dealt_law.ensures.apart b _ m.ready m.can (low_enough b m.few)) c.args.ready.files.items (c.dealt_law.ensures.files b _ c.args.ready.files.items m.ready m.files_are)
    c.args.room.home.places c.requires.places c.deal_files.new.held.items all

pub deal_primary-primary-requires-clause-live : goal.deal_primary-primary-requires-clause-live
deal_primary-primary-requires-clause-live g c =
    let b : Beginning = c.requires.mounted.0 in
    let m = c.requires.mounted.1 in
    let left = c.deal-table.ensures.hand ∙ ap (λ (k : Start). rest_of k.view) m.start in
    let all : under_numbers c.deal_files.new.held.items ≡ (rest_first b).files = c.deal_files.ensures.cells ∙ (λ i. under_numbers (c.requires.no_file i) ++ (left i).files) in
    let names = c.deal-table.ensures.names (names_first b.names) (ap (λ (k : Start). k.view.names) m.start) in
    live_files c.dealt_law.ensures.there b _ m.ready c.deal_files.new.held.items all c.deal-table.result.names names

pub deal_primary-primary-requires-clause-has : goal.deal_primary-primary-requires-clause-has
deal_primary-primary-requires-clause-has g c =
    let b : Beginning = c.requires.mounted.0 in
    let m = c.requires.mounted.1 in
    let left = c.deal-table.ensures.hand ∙ ap (λ (k : Start). rest_of k.view) m.start in
    subst (λ (v : View). Has (pool_of 0, no_blocks) v.pools) (sym (c.deal_files.ensures.rest ∙ ap (λ (v : View). record v { files = [] }) left)) (c.dealt_law.ensures.pools b 0 (omega arith))

pub deal_primary-primary-requires-clause-apart : goal.deal_primary-primary-requires-clause-apart
deal_primary-primary-requires-clause-apart g c =
    let b : Beginning = c.requires.mounted.0 in
    let m = c.requires.mounted.1 in
    let left = c.deal-table.ensures.hand ∙ ap (λ (k : Start). rest_of k.view) m.start in
    subst AreApart (sym (c.deal_files.ensures.rest ∙ ap (λ (v : View). record v { files = [] }) left)) (hand_apart b (c.dealt_law.ensures.apart b _ m.ready m.can (low_enough b m.few)))

-- ---- the workers

pub deal_workers-requires-clause-all : goal.deal_workers-requires-clause-all
deal_workers-requires-clause-all g c =
    let b : Beginning = c.requires.mounted.0 in
    let m = c.requires.mounted.1 in
    workers_taken c.dealt_law.ensures.counts b _ m.ready _ m.start (length c.args.room.pools.items) m.workers_are

pub deal_workers-requires-clause-few : goal.deal_workers-requires-clause-few
deal_workers-requires-clause-few g c =
    let m = c.requires.mounted.1 in
    let few = m.ready.workers in
    let is = m.workers_are in
    omega (arith, few, is)

pub deal_workers-requires-clause-has : goal.deal_workers-requires-clause-has
deal_workers-requires-clause-has g c =
    let b : Beginning = c.requires.mounted.0 in
    let m = c.requires.mounted.1 in
    let left = c.deal-table.ensures.hand ∙ ap (λ (k : Start). rest_of k.view) m.start in
    let without_files = c.deal_files.ensures.rest ∙ ap (λ (v : View). record v { files = [] }) left in
    let without_pool = c.deal_primary-primary.ensures.left ∙ ap (λ (v : View). record v { pools = without (eqb (pool_of 0)) v.pools }) without_files in
    subst (ArePoolsFrom 1 (length c.args.room.pools.items)) (sym without_pool) (pools_from c.dealt_law.ensures.pools b m.ready.workers (length c.args.room.pools.items) m.workers_are)

-- ---- the baton

pub of-baton-requires : goal.of-baton-requires
of-baton-requires g c =
    let m = c.requires.mounted.1 in
    let left = c.deal-table.ensures.hand ∙ ap (λ (k : Start). rest_of k.view) m.start in
    let without_files = c.deal_files.ensures.rest ∙ ap (λ (v : View). record v { files = [] }) left in
    ap (λ (v : View). v.store) c.deal_workers.ensures.rest ∙ ap (λ (v : View). v.store) c.deal_primary-primary.ensures.left ∙ ap (λ (v : View). v.store) without_files

-- ---- the clients

pub deal_clients-requires-clause-its : goal.deal_clients-requires-clause-its
deal_clients-requires-clause-its g c = let m = c.requires.mounted.1 in c.geometry-geometry.ensures.is ∙ m.ready.formed ∙ sym (ap (λ (k : Start). k.geometry) m.start)

pub deal_clients-requires-clause-all : goal.deal_clients-requires-clause-all
deal_clients-requires-clause-all g c =
    let b : Beginning = c.requires.mounted.0 in
    let m = c.requires.mounted.1 in
    clients_taken c.dealt_law.ensures.counts b _ m.ready _ m.start (length c.args.room.rooms.items) m.clients_are

pub deal_clients-requires-clause-closed : goal.deal_clients-requires-clause-closed
deal_clients-requires-clause-closed g c client fd = let m = c.requires.mounted.1 in ap (λ (k : Start). desc_at k.tree client fd) m.start ∙ m.ready.closed client fd

pub deal_clients-requires-clause-idle : goal.deal_clients-requires-clause-idle
deal_clients-requires-clause-idle g c =
    let b : Beginning = c.requires.mounted.0 in
    let m = c.requires.mounted.1 in
    let left = c.deal-table.ensures.hand ∙ ap (λ (k : Start). rest_of k.view) m.start in
    let without_files = c.deal_files.ensures.rest ∙ ap (λ (v : View). record v { files = [] }) left in
    let without_pool = c.deal_primary-primary.ensures.left ∙ ap (λ (v : View). record v { pools = without (eqb (pool_of 0)) v.pools }) without_files in
    let now = c.of-baton.ensures.same ∙ c.deal_workers.ensures.rest ∙ ap (λ (v : View). record v { pools = c.deal_workers.new.hand.pools }) without_pool in
    subst (AreIdleFrom 0 (length c.args.room.rooms.items)) (sym now) (idle_from c.dealt_law.ensures.clients b (length c.args.room.rooms.items) m.clients_are c.deal_workers.new.hand.pools)

pub returns-clause-owners : goal.returns-clause-owners
returns-clause-owners g c = ap (λ (p : PrimaryState). p.stock.home.owners) c.deal_primary-primary.ensures.primary ∙ c.requires.owners

pub returns-clause-out : goal.returns-clause-out
returns-clause-out g c =
    let is = c.deal_primary-primary.ensures.primary in
    record {
      owners = ap (λ (p : PrimaryState). p.stock.home.owners) is ∙ c.requires.owners;
      coming = ap (λ (p : PrimaryState). p.coming) is;
      answers = ap (λ (p : PrimaryState). p.answers) is;
      waiting = ap (λ (p : PrimaryState). p.waiting) is;
    }

-- ---- each is there

pub invariant_of-result-clause-every_client : goal.invariant_of-result-clause-every_client
invariant_of-result-clause-every_client g c =
    let m = c.requires.mounted.1 in
    c.deal_clients.ensures.all ∙ clients_taken c.dealt_law.ensures.counts c.requires.mounted.0 _ m.ready _ m.start (length c.args.room.rooms.items) m.clients_are

pub invariant_of-result-clause-client_numbers : goal.invariant_of-result-clause-client_numbers
invariant_of-result-clause-client_numbers g c = c.deal_clients.ensures.numbers

pub invariant_of-result-clause-few_clients : goal.invariant_of-result-clause-few_clients
invariant_of-result-clause-few_clients g c = let all = c.deal_clients.ensures.all in let few = c.requires.few in omega (arith, all, few)

pub invariant_of-result-clause-every_worker : goal.invariant_of-result-clause-every_worker
invariant_of-result-clause-every_worker g c =
    let m = c.requires.mounted.1 in
    c.deal_workers.ensures.all ∙ workers_taken c.dealt_law.ensures.counts c.requires.mounted.0 _ m.ready _ m.start (length c.args.room.pools.items) m.workers_are

pub invariant_of-result-clause-worker_numbers : goal.invariant_of-result-clause-worker_numbers
invariant_of-result-clause-worker_numbers g c = c.deal_workers.ensures.numbers

pub invariant_of-result-clause-few_workers : goal.invariant_of-result-clause-few_workers
invariant_of-result-clause-few_workers g c =
    let all = c.deal_workers.ensures.all in
    let few = c.requires.mounted.1.ready.workers in
    let is = c.requires.mounted.1.workers_are in
    omega (arith, all, few, is)
