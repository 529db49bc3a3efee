use Rattle.std.proofs.Common.{◌≡◌, ℕ, List, Option, Err, sym, ap, ◌∙◌, subst}
use Rattle.ufs_disk.specs.Moments.{Moments}
use Rattle.ufs_brink.specs.Closes.{closing_fault}
use Rattle.ufs_brink.specs.declared.closing.CloseFault.{CloseFault}
use Rattle.ufs_joint.specs.Cells.{StoreCell}
use Rattle.ufs_store.specs.Refusals.{IsTold}
use Rattle.ufs_store.specs.State.{StoreState}
use Rattle.ufs_store.specs.Tables.{state_of}
use Rattle.ufs_turns.specs.HeldStore.{IsHeldStore}
use Rattle.ufs_turns.specs.Lent.{tally_in}
use Rattle.ufs_gathered.specs.Ended.{HasEnded}
use Rattle.ufs_gathered.specs.Finished.{HasFinished, left_by}
use Rattle.ufs_gathered.proofs.Cleaned.{stop_is}
use Rattle.ufs_gathered.proofs.Left.{left_open, none_left, tells_left}
use Rattle.ufs_gathered.proofs.finishing.leave.Goals as goal

pub gather_remains-gathered-requires-clause-rest : goal.gather_remains-gathered-requires-clause-rest
gather_remains-gathered-requires-clause-rest g c = (c.requires.back.0, c.requires.back.1)

pub close_gathered-tickets-requires-clause-back : goal.close_gathered-tickets-requires-clause-back
close_gathered-tickets-requires-clause-back g c =
    let a = c.args.remains in
    let back = c.requires.back in
    (a.names, back.0, a.rest, a.clients.items, c.gather_remains-gathered.ensures.all back.0 back.1, back.2)

pub returns-clause-finished : goal.returns-clause-finished
returns-clause-finished g c lists at_home =
    let k = g.N.Naming.start in
    let keeps = g.D.Disk.keeps in
    let a = c.args.remains in
    let back = c.requires.back in
    let tickets = c.close_gathered-tickets.result.tickets in
    let last = c.close_gathered-tickets.result.store in
    let s : StoreState = state_of (g.D.Disk.size last.disk) (g.D.Disk.moments last.disk) (g.D.Disk.faults last.disk) last.tables in
    let session : HasEnded k g.N.Naming.origin keeps tickets lists a.names back.0 s =
    c.close_gathered-tickets.ensures.ended a.names back.0 a.rest a.clients.items (c.gather_remains-gathered.ensures.all back.0 back.1) back.2 lists at_home in
    let into = c.into_disk.ensures in
    let is : c.cause_of.result ≡ left_by s.stop c.args.memory = c.cause_of.ensures ∙ ap (λ (stop : Option ℕ). left_by stop c.args.memory) c.stopped-stop.ensures in
    subst (λ (x : ℕ × (ℕ × Moments)). HasFinished k g.N.Naming.origin keeps tickets lists (Err c.args.memory) x.0 x.1.0 x.1.1 (Err c.cause_of.result)) (λ i. (sym into.size i, (sym into.faults i, sym into.moments i)))
    (subst (λ (fault : CloseFault). HasFinished k g.N.Naming.origin keeps tickets lists (Err c.args.memory) s.sectors s.faults s.moments (Err fault)) (sym is) (left_open k g.N.Naming.origin keeps tickets lists a.names back.0 s session c.args.memory))

pub returns-clause-stopped : goal.returns-clause-stopped
returns-clause-stopped g c fault =
    let k = g.N.Naming.start in
    let a = c.args.remains in
    let last = c.close_gathered-tickets.result.store in
    let s : StoreState = state_of (g.D.Disk.size last.disk) (g.D.Disk.moments last.disk) (g.D.Disk.faults last.disk) last.tables in
    let its : IsHeldStore k g.N.Naming.origin g.D.Disk.visible g.D.Disk.keeps a.store s =
    subst (λ (x : StoreState). IsHeldStore k g.N.Naming.origin g.D.Disk.visible g.D.Disk.keeps a.store x) (sym c.close_gathered-tickets.ensures.same) c.gather_remains-gathered.ensures.its in
    let at = stop_is k g.N.Naming.origin g.D.Disk.visible g.D.Disk.keeps a.store s its in
    let is : c.cause_of.result ≡ left_by s.stop c.args.memory = c.cause_of.ensures ∙ ap (λ (stop : Option ℕ). left_by stop c.args.memory) c.stopped-stop.ensures in
    let told = tells_left s.stop c.args.memory fault in
    (λ e. at ∙ told.0 (ap (λ (x : CloseFault). Err x) (sym is) ∙ e), λ e. ap (λ (x : CloseFault). Err x) is ∙ told.1 (sym at ∙ e))

pub returns-clause-counted : goal.returns-clause-counted
returns-clause-counted g c =
    let k = g.N.Naming.start in
    let a = c.args.remains in
    let last = c.close_gathered-tickets.result.store in
    let s : StoreState = state_of (g.D.Disk.size last.disk) (g.D.Disk.moments last.disk) (g.D.Disk.faults last.disk) last.tables in
    let its : IsHeldStore k g.N.Naming.origin g.D.Disk.visible g.D.Disk.keeps a.store s =
    subst (λ (x : StoreState). IsHeldStore k g.N.Naming.origin g.D.Disk.visible g.D.Disk.keeps a.store x) (sym c.close_gathered-tickets.ensures.same) c.gather_remains-gathered.ensures.its in
    let from = (tally_in a.store.store).faults in
    let now = g.D.Disk.faults c.into_disk.result in
    let behind : from ≡ s.faults = ap (λ (cs : List (Unit {0} × StoreCell)). (tally_in cs).faults) its.store.has in
    let is : c.cause_of.result ≡ left_by s.stop c.args.memory = c.cause_of.ensures ∙ ap (λ (stop : Option ℕ). left_by stop c.args.memory) c.stopped-stop.ensures in
    subst (λ (told : Option ℕ). IsTold from now told) (sym (ap (λ (x : CloseFault). closing_fault (Err x)) is ∙ none_left s.stop c.args.memory)) (c.into_disk.ensures.faults ∙ sym behind)

pub returns-clause-lack : goal.returns-clause-lack
returns-clause-lack g c none =
    let k = g.N.Naming.start in
    let a = c.args.remains in
    let last = c.close_gathered-tickets.result.store in
    let s : StoreState = state_of (g.D.Disk.size last.disk) (g.D.Disk.moments last.disk) (g.D.Disk.faults last.disk) last.tables in
    let its : IsHeldStore k g.N.Naming.origin g.D.Disk.visible g.D.Disk.keeps a.store s =
    subst (λ (x : StoreState). IsHeldStore k g.N.Naming.origin g.D.Disk.visible g.D.Disk.keeps a.store x) (sym c.close_gathered-tickets.ensures.same) c.gather_remains-gathered.ensures.its in
    let at = stop_is k g.N.Naming.origin g.D.Disk.visible g.D.Disk.keeps a.store s its in
    ap (λ (x : CloseFault). Err x) (c.cause_of.ensures ∙ ap (λ (stop : Option ℕ). left_by stop c.args.memory) (c.stopped-stop.ensures ∙ sym at ∙ none))
