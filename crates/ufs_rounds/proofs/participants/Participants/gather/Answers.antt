use Rattle.std.proofs.Common.{◌≤◌, eqb, length, ap, sym, ◌∙◌, subst, arith}
use Rattle.ufs_gathered.specs.Gathered.{clients_in}
use Rattle.ufs_hand_laws.specs.Owned.{count}
use Rattle.ufs_joint.specs.Cells.{Start}
use Rattle.ufs_msg.specs.There.{client_count, worker_count}
use Rattle.ufs_owner.specs.Owners.{count_out}
use Rattle.ufs_primary.specs.OfAtPrimary.{StockState}
use Rattle.ufs_rounds.proofs.Together.{clients_back, done_from, pools_back}
use Rattle.ufs_rounds.proofs.participants.Participants.gather.Goals as goal

pub gather_clients-requires-clause-done : goal.gather_clients-requires-clause-done
gather_clients-requires-clause-done g c = done_from 0 c.args.self.clients.items (λ place x at. let is = c.args.self.client_numbers place x at in omega (arith, is)) c.requires.idle

pub gather_clients-requires-clause-no_hand : goal.gather_clients-requires-clause-no_hand
gather_clients-requires-clause-no_hand g c = c.args.room.no_hand

pub gather_clients-requires-clause-none_told : goal.gather_clients-requires-clause-none_told
gather_clients-requires-clause-none_told g c = c.args.room.none_told

pub gather_pools-requires-clause-numbers : goal.gather_pools-requires-clause-numbers
gather_pools-requires-clause-numbers g c = c.args.self.worker_numbers

pub gather_clients-requires-clause-room : goal.gather_clients-requires-clause-room
gather_clients-requires-clause-room g c =
    let none = ap length c.args.room.no_hand in
    let count = c.args.room.hands.ok.0 in
    let room = c.args.room.room in
    let all = c.args.self.every_client in
    omega (arith, none, count, room, all)

pub gather_clients-requires-clause-told_room : goal.gather_clients-requires-clause-told_room
gather_clients-requires-clause-told_room g c =
    let none = ap length c.args.room.none_told in
    let count = c.args.room.told.ok.0 in
    let room = c.args.room.told_room in
    let all = c.args.self.every_client in
    omega (arith, none, count, room, all)

pub gather_pools-requires-clause-alone : goal.gather_pools-requires-clause-alone
gather_pools-requires-clause-alone g c = let h = c.into_parts-names.ensures.hand in record { clients = h.clients; files = h.files; names = h.names; store = h.store }

pub gather_pools-requires-clause-first : goal.gather_pools-requires-clause-first
gather_pools-requires-clause-first g c n = ap (count eqb n) c.into_parts-names.ensures.hand.pools

pub returns-clause-back : goal.returns-clause-back
returns-clause-back g c =
    let b = c.requires.start.0 in
    let s = c.requires.start.1 in
    let start = c.requires.start.2 in
    let parts = c.into_parts-names in
    record {
      alone = c.gather_pools.ensures.alone;
      clients_back = λ n.
          subst (λ (k : Start). count eqb n k.view.clients ≤ count eqb n (clients_in c.gather_clients.new.hands.items)) (sym start)
          (clients_back b s c.gather_clients.new.hands.items (length c.args.self.clients.items) (c.args.self.every_client ∙ ap client_count start) c.gather_clients.ensures.counts n);
      pools_back = λ n.
          subst (λ (k : Start). count eqb n k.view.pools ≤ count eqb n c.gather_pools.new.pools.pools) (sym start)
          (pools_back b s c.gather_pools.new.pools (length c.args.self.workers.items) (c.args.self.every_worker ∙ ap worker_count start) c.gather_pools.ensures.all n);
      files_here = λ file live.
          parts.ensures.here file live
          (c.no_file_is_out.ensures parts.result.1.owners file (ap (λ (x : StockState). count_out x.home.owners) parts.ensures.parts ∙ c.requires.here));
    }

pub returns-clause-names : goal.returns-clause-names
returns-clause-names g c = ap (λ (x : StockState). x.names) c.into_parts-names.ensures.parts
