use Rattle.std.proofs.Common.{inl, ◌≤◌, ◌<◌, List, [], ◌∷◌, ◌++◌, sym, subst, ap, ◌∙◌, arith}
use Rattle.ufs_joint.specs.Cells.{View}
use Rattle.ufs_model.specs.declared.data.Actor.{Actor}
use Rattle.ufs_model.specs.declared.data.Entry.{Entry}
use Rattle.ufs_caller.specs.Callers.{entries_in}
use Rattle.ufs_caller.specs.Hands.{IsHome}
use Rattle.ufs_caller.proofs.Homes.{ask_for, entries_after, entries_many, fds_after, home_after, home_told, range_after}
use Rattle.ufs_caller.proofs.Made.{made_more, none_listed}
use Rattle.ufs_caller.proofs.own.answer_itself.Goals as goal

pub draw_own-entry-requires-clause-both : goal.draw_own-entry-requires-clause-both
draw_own-entry-requires-clause-both g c =
    let h = home_told c.args.baton.now c.args.ask.client _ _ _ _ c.tell.ensures.told c.requires.home in
    (h.self, h.before, h.both, ask_for c.args.ask _ _ _ h (c.requires.seq ∙ sym (entries_many c.args.told.now.items)) c.requires.next)

pub returns-clause-home : goal.returns-clause-home
returns-clause-home g c =
    let h = home_told c.args.baton.now c.args.ask.client _ _ _ _ c.tell.ensures.told c.requires.home in
    let ask = c.args.ask in
    let entry = c.draw_own-entry.result in
    let b = c.draw_own-entry.ensures.hand h.self h.before h.both in
    subst (λ (x : List Entry × View). IsHome ask.client x.0 c.keep.new.fds x.1)
    (λ i. (sym (ap entries_in c.push_reserved.ensures.items ∙ entries_after c.args.told.now.items (record { entry = entry; via = c.new.result })) i, sym c.see.ensures.same i))
    (home_after ask (entries_in c.args.told.now.items) c.args.fds.now c.tell.new.hand h (c.requires.seq ∙ sym (entries_many c.args.told.now.items)) c.requires.next
    c.args.answer.reply c.args.answer.desc c.requires.posix c.requires.ranged entry c.draw_own-entry.ensures.made c.keep.new.fds c.keep.ensures c.draw_own-entry.new.hand b.0 b.1)

pub returns-clause-made : goal.returns-clause-made
returns-clause-made g c =
    made_more g.N.Naming.start c.args.ask.client c.args.told.now.items _ (record { entry = c.draw_own-entry.result; via = c.new.result }) c.push_reserved.ensures.items
    (record { by = inl c.draw_own-entry.ensures.made.by; via = none_listed g.N.Naming.start _ c.new.ensures }) c.requires.made

pub returns-clause-ranged : goal.returns-clause-ranged
returns-clause-ranged g c =
    range_after c.args.ask (entries_in c.args.told.now.items) c.args.fds.now c.args.hand.now c.requires.home (c.requires.seq ∙ sym (entries_many c.args.told.now.items)) c.requires.next
    c.args.answer.reply c.args.answer.desc c.requires.posix c.requires.ranged c.draw_own-entry.result c.draw_own-entry.ensures.made c.keep.new.fds c.keep.ensures

pub returns-clause-fds : goal.returns-clause-fds
returns-clause-fds g c = λ t are.
    fds_after c.args.ask (entries_in c.args.told.now.items) c.args.fds.now c.args.hand.now c.requires.home (c.requires.seq ∙ sym (entries_many c.args.told.now.items)) c.requires.next
    c.args.answer.reply c.args.answer.desc c.requires.posix c.requires.ranged c.draw_own-entry.result c.draw_own-entry.ensures.made c.keep.new.fds c.keep.ensures t are

pub see-requires : goal.see-requires
see-requires g c =
    let h = home_told c.args.baton.now c.args.ask.client _ _ _ _ c.tell.ensures.told c.requires.home in
    (c.draw_own-entry.ensures.hand h.self h.before h.both).1.store

pub returns-clause-told : goal.returns-clause-told
returns-clause-told g c =
    let entry = c.draw_own-entry.result in
    let own = c.tell.ensures.told.later in
    let had = c.tell.ensures.told.seen in
    let low = c.draw_own-entry.ensures.later in
    let high = c.draw_own-entry.ensures.within in
    let has = c.see.ensures.seen in
    let later : c.args.hand.now.seen ≤ entry.ticket = omega (arith, own, low) in
    let behind : c.args.baton.now ≤ entry.ticket = omega (arith, had, low) in
    let before : entry.ticket < c.see.new.self = omega (arith, high, has) in (
      entry,
      c.push_reserved.ensures.items ∙ ap (λ (via : List Actor). c.args.told.now.items ++ record { entry = entry; via = via } ∷ []) c.new.ensures,
      c.draw_own-entry.ensures.made,
      later,
      subst (λ (v : View). entry.ticket < v.seen) (sym c.see.ensures.same) high,
      record { later = behind; seen = before },
    )
