use Rattle.std.proofs.Common.{◌≡◌, ◌++◌, eqb, List, [], ap, sym, refl, ◌∙◌, subst, arith}
use Rattle.ufs_caller.specs.Hands.{IsIdleIn}
use Rattle.ufs_dealt.specs.Dealt.{AreApart, rest_of, values_in, values_of}
use Rattle.ufs_dealt.specs.First.{rest_first}
use Rattle.ufs_joint.specs.FirstHand.{Beginning, names_first}
use Rattle.ufs_held.specs.Together.{under_numbers}
use Rattle.ufs_joint.specs.Cells.{Start, View, kept_of}
use Rattle.ufs_joint.specs.Whole.{no_blocks}
use Rattle.ufs_model.specs.PosixTree.{desc_at}
use Rattle.ufs_model.specs.declared.data.PartName.TheVariants.{Asked, Client}
use Rattle.ufs_hand_laws.specs.Owned.{Has, without}
use Rattle.ufs_begin_hands_tests.specs.Mounted.{IsDealt}
use Rattle.ufs_begin_hands_tests.proofs.Gathering.{dealt_files, dealt_pool, dealt_rest, is_apart, is_dealt, is_idle, primary}
use Rattle.ufs_begin_hands_tests.proofs.session.deal_all.Goals as goal

pub deal-table-requires-clause-names : goal.deal-table-requires-clause-names
deal-table-requires-clause-names g c =
    let m = c.requires.mounted.1 in
    (names_first c.requires.mounted.0.names, ap (λ (k : Start). k.view.names) m.start, sym m.names_are, refl)

pub deal-table-requires-clause-store : goal.deal-table-requires-clause-store
deal-table-requires-clause-store g c = ap (λ (k : Start). k.view.store) c.requires.mounted.1.start

pub deal-table-requires-clause-formed : goal.deal-table-requires-clause-formed
deal-table-requires-clause-formed g c = let m = c.requires.mounted.1 in m.ready.formed ∙ sym (ap (λ (k : Start). k.geometry) m.start)

-- ---- the files

pub deal_files-requires-clause-here : goal.deal_files-requires-clause-here
deal_files-requires-clause-here g c =
    let m = c.requires.mounted.1 in
    let left = c.deal-table.ensures.hand ∙ ap (λ (k : Start). rest_of k.view) m.start in
    subst (λ (v : View). values_in v.files ≡ values_of c.args.ready.files.items) (sym left) (c.dealt_law.ensures.files c.requires.mounted.0 _ c.args.ready.files.items m.ready m.files_are)

pub deal_files-requires-clause-room : goal.deal_files-requires-clause-room
deal_files-requires-clause-room g c = (let none = c.in-Ok.ensures.len in let room = c.in-Ok.ensures.capacity in let count = c.len.ensures in let long = c.args.ready.files.ok.0 in omega (arith, none, room, count, long))

pub deal_files-requires-clause-apart : goal.deal_files-requires-clause-apart
deal_files-requires-clause-apart g c =
    let m = c.requires.mounted.1 in
    let left = c.deal-table.ensures.hand ∙ ap (λ (k : Start). rest_of k.view) m.start in
    subst AreApart (sym left) (c.dealt_law.ensures.apart c.requires.mounted.0 _ m.ready m.can m.few)

-- ---- the pool

pub deal_pool-pool-requires-clause-has : goal.deal_pool-pool-requires-clause-has
deal_pool-pool-requires-clause-has g c =
    let b : Beginning = c.requires.mounted.0 in
    let m = c.requires.mounted.1 in
    let left = c.deal-table.ensures.hand ∙ ap (λ (k : Start). rest_of k.view) m.start in
    let without_files : c.deal_files.new.hand ≡ dealt_files b = c.deal_files.ensures.rest ∙ ap (λ (v : View). record v { files = [] }) left in
    (no_blocks, subst (λ (v : View). Has (primary, no_blocks) v.pools) (sym without_files) (c.dealt_law.ensures.pools b 0 (omega arith)))

pub deal_pool-pool-requires-clause-apart : goal.deal_pool-pool-requires-clause-apart
deal_pool-pool-requires-clause-apart g c =
    let b : Beginning = c.requires.mounted.0 in
    let m = c.requires.mounted.1 in
    let left = c.deal-table.ensures.hand ∙ ap (λ (k : Start). rest_of k.view) m.start in
    let without_files : c.deal_files.new.hand ≡ dealt_files b = c.deal_files.ensures.rest ∙ ap (λ (v : View). record v { files = [] }) left in
    subst AreApart (sym without_files) (is_apart b (c.dealt_law.ensures.apart b _ m.ready m.can m.few))

-- ---- the clients

pub client_hand-first-requires-clause-idle : goal.client_hand-first-requires-clause-idle
client_hand-first-requires-clause-idle g c =
    let b : Beginning = c.requires.mounted.0 in
    let m = c.requires.mounted.1 in
    let left = c.deal-table.ensures.hand ∙ ap (λ (k : Start). rest_of k.view) m.start in
    let without_files : c.deal_files.new.hand ≡ dealt_files b = c.deal_files.ensures.rest ∙ ap (λ (v : View). record v { files = [] }) left in
    let without_pool : c.deal_pool-pool.new.hand ≡ dealt_pool b = c.deal_pool-pool.ensures.left ∙ ap (λ (v : View). record v { pools = without (eqb primary) v.pools }) without_files in
    let two = m.two in
    subst (IsIdleIn 0) (sym without_pool) (is_idle b 0 (c.dealt_law.ensures.clients b 0 (omega (arith, two))))

pub client_hand-first-requires-clause-closed : goal.client_hand-first-requires-clause-closed
client_hand-first-requires-clause-closed g c = let m = c.requires.mounted.1 in λ fd. ap (λ (k : Start). desc_at k.tree 0 fd) m.start ∙ m.ready.closed 0 fd

pub client_hand-second-requires-clause-idle : goal.client_hand-second-requires-clause-idle
client_hand-second-requires-clause-idle g c =
    let b : Beginning = c.requires.mounted.0 in
    let m = c.requires.mounted.1 in
    let left = c.deal-table.ensures.hand ∙ ap (λ (k : Start). rest_of k.view) m.start in
    let without_files : c.deal_files.new.hand ≡ dealt_files b = c.deal_files.ensures.rest ∙ ap (λ (v : View). record v { files = [] }) left in
    let without_pool : c.deal_pool-pool.new.hand ≡ dealt_pool b = c.deal_pool-pool.ensures.left ∙ ap (λ (v : View). record v { pools = without (eqb primary) v.pools }) without_files in
    let without_first = c.client_hand-first.ensures.kept ∙ ap (λ (v : View). kept_of (Asked 0) (kept_of (Client 0) v)) without_pool ∙ c.dealt_law.ensures.rest (dealt_pool b) 0 in
    let two = m.two in
    subst (IsIdleIn 1) (sym without_first)
    (c.dealt_law.ensures.others (dealt_pool b) 0 1 (λ (same : 0 ≡ 1). omega (arith, same)) (is_idle b 1 (c.dealt_law.ensures.clients b 1 (omega (arith, two)))))

pub client_hand-second-requires-clause-closed : goal.client_hand-second-requires-clause-closed
client_hand-second-requires-clause-closed g c = let m = c.requires.mounted.1 in λ fd. ap (λ (k : Start). desc_at k.tree 1 fd) m.start ∙ m.ready.closed 1 fd

-- ---- all of it

pub returns-clause-dealt : goal.returns-clause-dealt
returns-clause-dealt g c =
    let b : Beginning = c.requires.mounted.0 in
    let m = c.requires.mounted.1 in
    let left = c.deal-table.ensures.hand ∙ ap (λ (k : Start). rest_of k.view) m.start in
    let without_files : c.deal_files.new.hand ≡ dealt_files b = c.deal_files.ensures.rest ∙ ap (λ (v : View). record v { files = [] }) left in
    let without_pool : c.deal_pool-pool.new.hand ≡ dealt_pool b = c.deal_pool-pool.ensures.left ∙ ap (λ (v : View). record v { pools = without (eqb primary) v.pools }) without_files in
    let without_first = c.client_hand-first.ensures.kept ∙ ap (λ (v : View). kept_of (Asked 0) (kept_of (Client 0) v)) without_pool ∙ c.dealt_law.ensures.rest (dealt_pool b) 0 in
    let without_both : c.client_hand-second.new.whole ≡ dealt_rest b =
    c.client_hand-second.ensures.kept ∙ ap (λ (v : View). kept_of (Asked 1) (kept_of (Client 1) v)) without_first ∙ c.dealt_law.ensures.rest (record (dealt_pool b) { clients = without (eqb 0) (dealt_pool b).clients; asked = without (eqb 0) (dealt_pool b).asked }) 1 in
    let cells = c.deal_files.new.held.items in
    let first = c.client_hand-first.result in
    let second = c.client_hand-second.result in
    let pool = c.deal_pool-pool.result in
    let rest = c.client_hand-second.new.whole in
    let in_hand : Has (primary, no_blocks) (dealt_files b).pools = c.dealt_law.ensures.pools b 0 (omega arith) in
    let pooled = c.deal_pool-pool.ensures.pool no_blocks (subst (λ (v : View). Has (primary, no_blocks) v.pools) (sym without_files) in_hand) in
    let names = c.deal-table.ensures.names (names_first b.names) (ap (λ (k : Start). k.view.names) m.start) in
    let all : under_numbers cells ≡ (rest_first b).files = c.deal_files.ensures.cells ∙ (λ j. under_numbers (c.in-Ok.ensures.items j) ++ (left j).files) in
    subst (λ (x : Start × (View × List View)). IsDealt x.0 c.deal-table.result.names cells x.1.0 x.1.1) (λ j. (sym m.start j, (sym c.join.ensures j, sym c.both.ensures j)))
    (is_dealt b _ m.ready m.two m.one cells all first second pool rest without_both c.client_hand-first.ensures.home c.client_hand-second.ensures.home pooled c.deal-table.result.names names)
