use Rattle.std.proofs.Common.{◌≡◌, ℕ, List, Some, Result, true, false, ap, refl, sym, subst, ◌∙◌}
use Rattle.std.specs.Prelude.{IsTrue}
use Rattle.ufs_file_commits.specs.State.{DurableState, state_of}
use Rattle.ufs_file.specs.Hand.{IsOf}
use Rattle.ufs_file.proofs.FilledLemmas.{same_refusal}
use Rattle.ufs_joint.specs.Cells.{FileCell}
use Rattle.ufs_model.specs.History.{is_excused}
use Rattle.ufs_model.specs.declared.data.Reply.{Reply}
use Rattle.ufs_model.specs.declared.data.Excuse.TheVariants as excuse
use Rattle.ufs_store.specs.Refusals.{fault_in, fault_of, is_no_space, is_own}
use Rattle.ufs_store.specs.declared.fault.StoreFault.{StoreFault}
use Rattle.ufs_store.specs.declared.fault.StoreFault.TheVariants as refusal
use Rattle.ufs_turns.specs.Told.{fault_told, told_list}
use Rattle.ufs_held.specs.Held.{first_cell}
use Rattle.ufs_held.specs.Serving.{Applied, IsReadFor, IsServeCause, Unread, is_of_read, read_as}
use Rattle.ufs_held.proofs.Drawing.{of_desc}
use Rattle.ufs_held.proofs.Excusing.{one_excuse}
use Rattle.ufs_held.specs.Stopping.{Rests}
use Rattle.ufs_held.proofs.Stopping.{no_fault, own_bytes, read_rests, unread_rests}
use Rattle.ufs_held.proofs.serving.serve_lent.Goals as goal

pub serve_ready-requires-clause-guest : goal.serve_ready-requires-clause-guest
serve_ready-requires-clause-guest g c = let f = c.requires.guest in (f.0, f.1, f.2, f.3, λ e. f.4 (e ∙ c.fetch_for.ensures.number))

pub serve_ready-requires-clause-named : goal.serve_ready-requires-clause-named
serve_ready-requires-clause-named g c = subst (IsOf c.args.ask.desc) (sym c.fetch_for.ensures.number) c.requires.named

pub serve_ready-requires-clause-calm : goal.serve_ready-requires-clause-calm
serve_ready-requires-clause-calm g c = c.fetch_for.ensures.faults ∙ ap (λ (r : Result (Unit {0}) StoreFault). told_list (fault_told (fault_in r))) c.in-Ok.is

pub serve_excused-requires-clause-guest : goal.serve_excused-requires-clause-guest
serve_excused-requires-clause-guest g c = let f = c.requires.guest in (f.0, f.1, c.args.pool.now, f.2, f.3, λ e. f.4 (e ∙ c.fetch_for.ensures.number))

pub serve_excused-requires-clause-named : goal.serve_excused-requires-clause-named
serve_excused-requires-clause-named g c = subst (IsOf c.args.ask.desc) (sym c.fetch_for.ensures.number) c.requires.named

pub serve_excused-requires-clause-allowed : goal.serve_excused-requires-clause-allowed
serve_excused-requires-clause-allowed g c d is =
    same_refusal c.fetch_for.new.file.content.bytes c.args.file.now.content.bytes d c.args.ask.op (c.fetch_for.ensures.read d is).still ∙ c.in-Err.ensures.allowed d is

pub serve_excused-requires-clause-told : goal.serve_excused-requires-clause-told
serve_excused-requires-clause-told g c = c.fetch_for.ensures.faults ∙ ap (λ (r : Result (Unit {0}) StoreFault). told_list (fault_told (fault_in r))) c.in-Err.is ∙ c.excuse_of-cause.ensures.used

pub serve_excused-requires-clause-stopped : goal.serve_excused-requires-clause-stopped
serve_excused-requires-clause-stopped g c fault is =
    let wrong : IsTrue (is_own (refusal.Stopped fault)) = subst (λ (f : StoreFault). IsTrue (is_own f)) (c.excuse_of-cause.ensures.stopped fault is) c.in-Err.ensures.refused in
    absurd cc

pub serve_excused-requires-clause-asks : goal.serve_excused-requires-clause-asks
serve_excused-requires-clause-asks g c fault is =
    let wrong : IsTrue (is_own (refusal.Stopped fault)) = subst (λ (f : StoreFault). IsTrue (is_own f)) (c.excuse_of-cause.ensures.stopped fault is) c.in-Err.ensures.refused in
    absurd cc

own_is : (f : StoreFault) → IsTrue (is_own f) → is_no_space f ≡ false
own_is (refusal.Device n) e = refl
own_is (refusal.Lack w) e = refl
own_is (refusal.Stopped n) e = refl
own_is (refusal.NoSpace need had) e = absurd cc

pub excuse_of-cause-requires : goal.excuse_of-cause-requires
excuse_of-cause-requires g c = own_is c.in-Err.fault c.in-Err.ensures.refused

-- ---- where the blocks are there

pub returns-in-Ok-clause-guest : goal.returns-in-Ok-clause-guest
returns-in-Ok-clause-guest g c = λ part n came off. c.serve_ready.ensures.guest part n came (λ e. off (e ∙ c.fetch_for.ensures.number))

pub returns-in-Ok-clause-number : goal.returns-in-Ok-clause-number
returns-in-Ok-clause-number g c = c.serve_ready.ensures.number ∙ c.fetch_for.ensures.number

pub returns-in-Ok-clause-served : goal.returns-in-Ok-clause-served
returns-in-Ok-clause-served g c served d is = (c.fetch_for.new.file, c.fetch_for.ensures.read d is, λ bytes may. c.serve_ready.ensures.served served d is bytes may)

pub returns-in-Ok-clause-excused : goal.returns-in-Ok-clause-excused
returns-in-Ok-clause-excused g c x is d told =
    let same = c.serve_ready.ensures.same (ap is_excused is) in
    subst (λ (q : DurableState). IsServeCause c.args.file.now q.file c.args.pool.now d c.args.ask.op x) (sym same) (Applied (λ bytes may. c.serve_ready.ensures.excused x is d told bytes may))

pub returns-in-Ok-clause-read : goal.returns-in-Ok-clause-read
returns-in-Ok-clause-read g c excused d told =
    subst (λ (q : DurableState). IsReadFor c.args.file.now q.file d c.args.ask.op) (sym (c.serve_ready.ensures.same excused)) (c.fetch_for.ensures.read d told)

pub returns-in-Ok-clause-kept : goal.returns-in-Ok-clause-kept
returns-in-Ok-clause-kept g c excused =
    let x = state_of c.args.file.now c.args.commits.now in
    c.serve_ready.ensures.kept excused
    ∙ c.fetch_for.ensures.cell
    ∙ ap (λ (q : DurableState). record (first_cell x c.args.right.now.files) { value = read_as q.file x }) (sym (c.serve_ready.ensures.same excused))

pub returns-in-Ok-clause-known : goal.returns-in-Ok-clause-known
returns-in-Ok-clause-known g c = c.serve_ready.ensures.known ∙ ap (λ (q : FileCell). q.known) c.fetch_for.ensures.cell

pub returns-in-Ok-clause-born : goal.returns-in-Ok-clause-born
returns-in-Ok-clause-born g c = c.serve_ready.ensures.born ∙ ap (λ (q : FileCell). q.born) c.fetch_for.ensures.cell

pub returns-in-Ok-clause-halts : goal.returns-in-Ok-clause-halts
returns-in-Ok-clause-halts g c =
    let tells = g.T.Turns.tells c.args.door.now in
    let told = g.T.Turns.tells c.fetch_for.new.door in
    let d = of_desc c.args.ask.desc c.args.file.now.file c.requires.named in
    let read = c.fetch_for.new.file in
    read_rests tells told c.serve_ready.result.entry.reply
    (no_fault c.serve_ready.result.entry.reply (λ n is. (c.serve_ready.ensures.excused (excuse.Device n) is d.0 d.1 read.content.bytes (own_bytes read.content)).cause))
    (subst (λ (q : Result (Unit {0}) StoreFault). Rests tells told (fault_in q)) c.in-Ok.is c.fetch_for.ensures.rests)

-- ---- where one couldn't be read

not_excused : {A : Type 0} (r : Reply) (b : Reply) → r ≡ b → is_excused b ≡ true → is_excused r ≡ false → A
not_excused r b is excused not = absurd (let clash : true ≡ false = sym excused ∙ sym (ap is_excused is) ∙ not in cc)

pub returns-in-Err-clause-guest : goal.returns-in-Err-clause-guest
returns-in-Err-clause-guest g c = λ part n came off. c.serve_excused.ensures.guest part n c.args.pool.now came (λ e. off (e ∙ c.fetch_for.ensures.number))

pub returns-in-Err-clause-served : goal.returns-in-Err-clause-served
returns-in-Err-clause-served g c served d is = not_excused c.serve_excused.result.entry.reply _ c.serve_excused.ensures.replied refl served

pub returns-in-Err-clause-changed : goal.returns-in-Err-clause-changed
returns-in-Err-clause-changed g c served = not_excused c.serve_excused.result.entry.reply _ c.serve_excused.ensures.replied refl served

pub returns-in-Err-clause-excused : goal.returns-in-Err-clause-excused
returns-in-Err-clause-excused g c x is d told =
    let same = one_excuse c.serve_excused.result.entry.reply x c.excuse_of-cause.result is c.serve_excused.ensures.replied in
    Unread (c.in-Err.ensures.allowed d told) (c.in-Err.ensures.lacks d told) (ap is_of_read same ∙ c.excuse_of-cause.ensures.read c.in-Err.ensures.refused)

pub returns-in-Err-clause-read : goal.returns-in-Err-clause-read
returns-in-Err-clause-read g c excused d told = c.fetch_for.ensures.read d told

pub returns-in-Err-clause-kept : goal.returns-in-Err-clause-kept
returns-in-Err-clause-kept g c excused = c.serve_excused.ensures.cell ∙ c.fetch_for.ensures.cell

pub returns-in-Err-clause-known : goal.returns-in-Err-clause-known
returns-in-Err-clause-known g c = ap (λ (q : FileCell). q.known) (c.serve_excused.ensures.cell ∙ c.fetch_for.ensures.cell)

pub returns-in-Err-clause-born : goal.returns-in-Err-clause-born
returns-in-Err-clause-born g c = ap (λ (q : FileCell). q.born) (c.serve_excused.ensures.cell ∙ c.fetch_for.ensures.cell)

pub returns-in-Err-clause-halts : goal.returns-in-Err-clause-halts
returns-in-Err-clause-halts g c =
    let tells = g.T.Turns.tells c.args.door.now in
    let told = g.T.Turns.tells c.fetch_for.new.door in
    unread_rests tells told c.serve_excused.result.entry.reply c.excuse_of-cause.result (fault_of c.in-Err.fault) c.serve_excused.ensures.replied c.excuse_of-cause.ensures.used
    (subst (λ (q : Result (Unit {0}) StoreFault). Rests tells told (fault_in q)) c.in-Err.is c.fetch_for.ensures.rests)
