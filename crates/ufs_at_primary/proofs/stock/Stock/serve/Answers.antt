use Rattle.std.proofs.Common.{◌≡◌, ap, refl, sym, subst, ◌∙◌, arith}
use Rattle.ufs_baton.specs.Baton.{IsToldSince}
use Rattle.ufs_msg.specs.Answers.{Told}
use Rattle.ufs_msg.specs.Requests.{Asked}
use Rattle.ufs_msg.specs.There.{is_by_hint}
use Rattle.ufs_msg.specs.declared.answer.Answer.TheVariants as answer
use Rattle.ufs_at_primary.specs.Dirs.{IsDirServed}
use Rattle.ufs_at_primary.specs.Kinds.{IsByNames, IsKind, IsOnFile, IsOnNone}
use Rattle.ufs_at_primary.specs.Stock.{StockState, stock_of}
use Rattle.ufs_at_primary.specs.Served.{IsTried, IsTriedSince, OnNone}
use Rattle.ufs_at_primary.specs.declared.tried.Tried.TheVariants as tried
use Rattle.ufs_at_primary.proofs.Outcomes.{as_found}
use Rattle.ufs_told.specs.Numbers.{most_raised}
use Rattle.ufs_at_primary.proofs.Raised.{dir_raises, raises_more}
use Rattle.ufs_at_primary.proofs.stock.Stock.serve.Goals as goal

pub serve_on_file-requires-clause-kind : goal.serve_on_file-requires-clause-kind
serve_on_file-requires-clause-kind g c =
    let k = subst (IsKind c.args.request.ask) c.in-OnFile.is c.kind_asked-request.ensures.kind in
    subst (λ (q : Asked). IsOnFile q.ask c.in-OnFile.file) (sym c.kind_asked-request.ensures.same) k.0

pub serve_on_file-requires-clause-hinted : goal.serve_on_file-requires-clause-hinted
serve_on_file-requires-clause-hinted g c =
    let k = subst (IsKind c.args.request.ask) c.in-OnFile.is c.kind_asked-request.ensures.kind in
    ap (λ (q : Asked). is_by_hint q.ask.op) c.kind_asked-request.ensures.same ∙ k.1

pub serve_by_names-requires : goal.serve_by_names-requires
serve_by_names-requires g c =
    let k = subst (IsKind c.args.request.ask) c.in-Names.is c.kind_asked-request.ensures.kind in
    record { kind = subst (λ (q : Asked). IsByNames q.ask) (sym c.kind_asked-request.ensures.same) k }

pub serve_dir-requires-clause-pool : goal.serve_dir-requires-clause-pool
serve_dir-requires-clause-pool g c = (c.self.inside.pool, c.self.invariant.hand)

pub serve_dir-requires-clause-fsync : goal.serve_dir-requires-clause-fsync
serve_dir-requires-clause-fsync g c =
    let k = subst (IsKind c.args.request.ask) c.in-OnNone.is c.kind_asked-request.ensures.kind in
    let q = subst (λ (q : Asked). IsOnNone q.ask) (sym c.kind_asked-request.ensures.same) k in
    q.fsync

pub serve_dir-requires-clause-dir : goal.serve_dir-requires-clause-dir
serve_dir-requires-clause-dir g c =
    let k = subst (IsKind c.args.request.ask) c.in-OnNone.is c.kind_asked-request.ensures.kind in
    let q = subst (λ (q : Asked). IsOnNone q.ask) (sym c.kind_asked-request.ensures.same) k in
    q.none

pub serve_all-requires : goal.serve_all-requires
serve_all-requires g c =
    let k = subst (IsKind c.args.request.ask) c.in-All.is c.kind_asked-request.ensures.kind in
    record { sync = ap (λ (q : Asked). q.ask.op) c.kind_asked-request.ensures.same ∙ k }

pub returns-in-OnFile-clause-tried : goal.returns-in-OnFile-clause-tried
returns-in-OnFile-clause-tried g c =
    subst (λ (q : Asked). IsTried g.N.Naming.start.is_visible (g.T.Turns.tells c.args.door.now) (g.T.Turns.tells c.serve_on_file.new.door) c.args.self.now c.serve_on_file.new.self q c.serve_on_file.result) c.kind_asked-request.ensures.same c.serve_on_file.ensures.tried

pub returns-in-Names-clause-tried : goal.returns-in-Names-clause-tried
returns-in-Names-clause-tried g c =
    subst (λ (q : Asked). IsTried g.N.Naming.start.is_visible (g.T.Turns.tells c.args.door.now) (g.T.Turns.tells c.serve_by_names.new.door) c.args.self.now c.serve_by_names.new.self q c.serve_by_names.result) c.kind_asked-request.ensures.same c.serve_by_names.ensures.tried

pub returns-in-All-clause-tried : goal.returns-in-All-clause-tried
returns-in-All-clause-tried g c =
    subst (λ (q : Asked). IsTried g.N.Naming.start.is_visible (g.T.Turns.tells c.args.door.now) (g.T.Turns.tells c.serve_all.new.door) c.args.self.now c.serve_all.new.self q c.serve_all.result) c.kind_asked-request.ensures.same c.serve_all.ensures.tried

pub returns-in-OnNone-clause-tried : goal.returns-in-OnNone-clause-tried
returns-in-OnNone-clause-tried g c =
    let f = c.self.inside in
    let k = subst (IsKind c.args.request.ask) c.in-OnNone.is c.kind_asked-request.ensures.kind in
    let s = subst (λ (q : Asked). (told : Told) × (c.serve_dir.result ≡ answer.Served told) × IsDirServed g.N.Naming.start.is_visible (g.T.Turns.tells c.args.door.now) (g.T.Turns.tells c.serve_dir.new.door) f.names c.serve_dir.new.names q.ask told) c.kind_asked-request.ensures.same c.serve_dir.ensures.served in
    let before = g.T.Turns.tells c.args.door.now in
    let after = g.T.Turns.tells c.serve_dir.new.door in
    let t = stock_of c.serve_dir.new.names f.home f.pool in
    subst (λ (x : StockState). IsTried g.N.Naming.start.is_visible before after x t c.args.request (tried.Answered c.serve_dir.result)) c.self.view_is
    (as_found g.N.Naming.start.is_visible before after (stock_of f.names f.home f.pool) t c.args.request c.serve_dir.result (s.0, s.1, OnNone (record { kind = k; served = s.2; rest = refl })))

pub returns-in-OnFile-clause-drawn : goal.returns-in-OnFile-clause-drawn
returns-in-OnFile-clause-drawn g c = subst (λ (q : Asked). IsTriedSince q.hand.seen c.serve_on_file.result) c.kind_asked-request.ensures.same c.serve_on_file.ensures.drawn

pub returns-in-Names-clause-drawn : goal.returns-in-Names-clause-drawn
returns-in-Names-clause-drawn g c = subst (λ (q : Asked). IsTriedSince q.hand.seen c.serve_by_names.result) c.kind_asked-request.ensures.same c.serve_by_names.ensures.drawn

pub returns-in-All-clause-drawn : goal.returns-in-All-clause-drawn
returns-in-All-clause-drawn g c = subst (λ (q : Asked). IsTriedSince q.hand.seen c.serve_all.result) c.kind_asked-request.ensures.same c.serve_all.ensures.drawn

pub returns-in-OnNone-clause-drawn : goal.returns-in-OnNone-clause-drawn
returns-in-OnNone-clause-drawn g c = subst (λ (q : Asked). IsToldSince q.hand.seen c.serve_dir.result) c.kind_asked-request.ensures.same c.serve_dir.ensures.drawn

pub returns-in-OnFile-clause-raised : goal.returns-in-OnFile-clause-raised
returns-in-OnFile-clause-raised g c = c.serve_on_file.ensures.raised

pub returns-in-Names-clause-raised : goal.returns-in-Names-clause-raised
returns-in-Names-clause-raised g c = c.serve_by_names.ensures.raised

pub returns-in-All-clause-raised : goal.returns-in-All-clause-raised
returns-in-All-clause-raised g c = c.serve_all.ensures.raised

pub returns-in-OnNone-clause-raised : goal.returns-in-OnNone-clause-raised
returns-in-OnNone-clause-raised g c =
    let f = c.self.inside in
    let had = g.T.Turns.tells c.args.door.now in
    let has = g.T.Turns.tells c.serve_dir.new.door in
    let s = c.serve_dir.ensures.served in
    raises_more had has 2 (most_raised g.N.Naming.start.geometry) (omega arith) (dir_raises g.N.Naming.start.is_visible had has (stock_of f.names f.home f.pool) (stock_of c.serve_dir.new.names f.home f.pool) c.kind_asked-request.result.0.ask s.0 s.2)
