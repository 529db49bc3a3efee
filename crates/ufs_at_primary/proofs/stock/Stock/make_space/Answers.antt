use Rattle.std.proofs.Common.{ap, refl, ◌∙◌, ◌+◌, arith}
use Rattle.ufs_at_primary.specs.Stock.{StockState}
use Rattle.ufs_at_primary.proofs.Rooms.{pool_then, tidied_pool, tidied_still}
use Rattle.ufs_at_primary.proofs.Raised.{raises_rests, raises_still, raises_then}
use Rattle.ufs_at_primary.proofs.stock.Stock.make_space.Goals as goal

pub returns-then-wanted-eq0-clause-made : goal.returns-then-wanted-eq0-clause-made
returns-then-wanted-eq0-clause-made g c = tidied_still 0 g.N.Naming.start.is_visible (g.T.Turns.tells c.args.door.now) c.args.self.now

pub returns-then-wanted-eq0-clause-idle : goal.returns-then-wanted-eq0-clause-idle
returns-then-wanted-eq0-clause-idle g c = λ none. (refl, refl)

pub returns-then-not-has_dropped-clause-made : goal.returns-then-not-has_dropped-clause-made
returns-then-not-has_dropped-clause-made g c = tidied_still 0 g.N.Naming.start.is_visible (g.T.Turns.tells c.args.door.now) c.args.self.now

pub returns-then-not-has_dropped-clause-idle : goal.returns-then-not-has_dropped-clause-idle
returns-then-not-has_dropped-clause-idle g c = λ none. (refl, refl)

pub returns-then-not-is_short-clause-made : goal.returns-then-not-is_short-clause-made
returns-then-not-is_short-clause-made g c =
    let e = c.is_short.ensures in
    tidied_pool g.N.Naming.start.is_visible (g.T.Turns.tells c.args.door.now) (g.T.Turns.tells c.is_short.new.door) c.args.self.now c.is_short.new.self e.rest e.conserved e.telling e.still

pub returns-then-not-is_short-clause-idle : goal.returns-then-not-is_short-clause-idle
returns-then-not-is_short-clause-idle g c = λ none. absurd (c.has_dropped.ensures.0 c.if-not-has_dropped.false (ap (λ (s : StockState). s.names.dropped) c.self.view_is ∙ none))

pub returns-clause-made : goal.returns-clause-made
returns-clause-made g c =
    let e = c.is_short.ensures in
    let tells = g.T.Turns.tells in
    pool_then g.N.Naming.start.is_visible (tells c.args.door.now) (tells c.is_short.new.door) (tells c.reclaim.new.door) c.args.self.now c.is_short.new.self c.reclaim.new.self e.rest e.conserved e.telling e.still c.reclaim.ensures.made

pub returns-clause-idle : goal.returns-clause-idle
returns-clause-idle g c = λ none. absurd (c.has_dropped.ensures.0 c.if-not-has_dropped.false (ap (λ (s : StockState). s.names.dropped) c.self.view_is ∙ none))

pub returns-then-wanted-eq0-clause-spared : goal.returns-then-wanted-eq0-clause-spared
returns-then-wanted-eq0-clause-spared g c = λ none. (refl, refl)

pub returns-then-not-has_dropped-clause-spared : goal.returns-then-not-has_dropped-clause-spared
returns-then-not-has_dropped-clause-spared g c = λ none. (refl, refl)

pub returns-then-not-is_short-clause-spared : goal.returns-then-not-is_short-clause-spared
returns-then-not-is_short-clause-spared g c = λ none. absurd (c.if-wanted-eq0.false none)

pub returns-clause-spared : goal.returns-clause-spared
returns-clause-spared g c = λ none. absurd (c.if-wanted-eq0.false none)

pub returns-then-wanted-eq0-clause-raised : goal.returns-then-wanted-eq0-clause-raised
returns-then-wanted-eq0-clause-raised g c = raises_still (g.T.Turns.tells c.args.door.now) (g.N.Naming.start.geometry.inodes + 2)

pub returns-then-not-has_dropped-clause-raised : goal.returns-then-not-has_dropped-clause-raised
returns-then-not-has_dropped-clause-raised g c = raises_still (g.T.Turns.tells c.args.door.now) (g.N.Naming.start.geometry.inodes + 2)

pub returns-then-not-is_short-clause-raised : goal.returns-then-not-is_short-clause-raised
returns-then-not-is_short-clause-raised g c =
    let rests = c.is_short.ensures.still in
    raises_rests (g.T.Turns.tells c.args.door.now) (g.T.Turns.tells c.is_short.new.door) (g.N.Naming.start.geometry.inodes + 2) rests

pub returns-clause-raised : goal.returns-clause-raised
returns-clause-raised g c =
    let rests = c.is_short.ensures.still in
    let most = g.N.Naming.start.geometry.inodes + 2 in
    let had = g.T.Turns.tells c.args.door.now in
    let mid = g.T.Turns.tells c.is_short.new.door in
    raises_then had mid (g.T.Turns.tells c.reclaim.new.door) 0 most most (omega arith) c.is_short.ensures.telling (raises_rests had mid 0 rests) c.reclaim.ensures.raised
